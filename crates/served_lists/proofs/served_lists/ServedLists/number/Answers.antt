use Rattle.std.proofs.Common.{◌∙◌, ap, sym}
use Rattle.served_lists.specs.Served.{Served, number_of}
use Rattle.served_lists.proofs.NumberLemmas.{number_of-lookup}
use Rattle.served_lists.proofs.served_lists.ServedLists.number.Goals as goal

pub returns : goal.returns
returns c =
    c.copied.ensures
    ∙ c.get.ensures.value
    ∙ sym (number_of-lookup c.self.inside.numbers.entries c.args.collector c.args.job)
    ∙ ap (λ (s : Served). number_of s.numbers c.args.collector c.args.job) c.self.view_is
