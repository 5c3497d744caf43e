-- What is posted of a report: the members that docs/operate/HTTP.md names, the epoch among them.
use Rattle.std.specs.Prelude.{ℕ, true, false, codes}
use Rattle.serde_json.specs.Data.{Data, object, member, no_members, boolean}
use Rattle.json_values.specs.Spelling.{number_data}
use Rattle.scrape_books.specs.declared.report.Outcome.{Outcome}
use Rattle.scrape_books.specs.declared.report.Outcome.TheVariants.{Up, Down}
use Rattle.agent_core.specs.declared.report.Head.{Head}

abbrev pub report_data : Head → ℕ → Outcome → Data
report_data head target (Up samples) =
    object (member (codes "collector") (number_data head.collector)
    (member (codes "epoch") (number_data head.epoch)
    (member (codes "number") (number_data head.number)
    (member (codes "round") (number_data head.round)
    (member (codes "samples") (number_data samples)
    (member (codes "target") (number_data target)
    (member (codes "up") (boolean true) no_members)))))))
report_data head target Down =
    object (member (codes "collector") (number_data head.collector)
    (member (codes "epoch") (number_data head.epoch)
    (member (codes "number") (number_data head.number)
    (member (codes "round") (number_data head.round)
    (member (codes "target") (number_data target)
    (member (codes "up") (boolean false) no_members))))))
