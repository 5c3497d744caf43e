use Rattle.served_lists.proofs.NumberLemmas.{number_of-without_numbers}
use Rattle.served_lists.proofs.laws.let_go_is_forgotten.Goals as goal

pub returns : goal.returns
returns c known served collector k m job = number_of-without_numbers served.numbers collector job k m
