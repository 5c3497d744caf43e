use Rattle.hypertext.proofs.EscapingLemmas.{no-markup}
use Rattle.hypertext.proofs.laws.texts_are_no_markup.Goals as goal

pub returns : goal.returns
returns c = no-markup
