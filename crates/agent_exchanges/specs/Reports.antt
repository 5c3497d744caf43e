-- What is posted of reports: a list of docs/operate/HTTP.md, which names its epoch.
use Rattle.std.specs.Prelude.{ℕ, List, true, false, codes}
use Rattle.serde_json.specs.Data.{Data, object, member, no_members, boolean}
use Rattle.json_values.specs.Spelling.{list_data, number_data}
use Rattle.scrape_books.specs.declared.report.Outcome.{Outcome}
use Rattle.scrape_books.specs.declared.report.Outcome.TheVariants.{Up, Down}
use Rattle.agent_core.specs.declared.report.Head.{Head}
use Rattle.agent_core.specs.declared.report.Report.{Report}

abbrev pub outcome_data : ℕ → Outcome → Data
outcome_data target (Up samples) = object (member (codes "samples") (number_data samples) (member (codes "target") (number_data target) (member (codes "up") (boolean true) no_members)))
outcome_data target Down = object (member (codes "target") (number_data target) (member (codes "up") (boolean false) no_members))

abbrev pub entry_data : Report → Data
entry_data report = outcome_data report.target report.outcome

abbrev pub reports_data : Head → List Report → Data
reports_data head reports =
    object (member (codes "collector") (number_data head.collector)
    (member (codes "epoch") (number_data head.epoch)
    (member (codes "number") (number_data head.number)
    (member (codes "reports") (list_data entry_data reports)
    (member (codes "round") (number_data head.round) no_members)))))
