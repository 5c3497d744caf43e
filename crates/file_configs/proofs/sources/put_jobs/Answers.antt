use Rattle.std.proofs.Common.{codes, sym, ap, ◌∙◌}
use Rattle.serde_json.specs.Data.{object, put}
use Rattle.serde_json.specs.View.{view, items_view, members_view}
use Rattle.serde_json.proofs.Views.{view-Array, view-Object}
use Rattle.file_configs.specs.Sources.{put_jobs}
use Rattle.file_configs.proofs.sources.put_jobs.Goals as goal

pub returns-in_ok-put-in-Object : goal.returns-in_ok-put-in-Object
returns-in_ok-put-in-Object c =
    let before = c.in-Object.members in
    view-Object c.put.new.map
    ∙ ap object (c.in_ok-put-in-Object.ensures.ok ∙ ap (λ d. put (codes "scrape_configs") d (members_view before.entries)) (view-Array c.args.jobs))
    ∙ sym (ap (λ d. put_jobs d (items_view c.args.jobs.items)) (ap view c.in-Object.is ∙ view-Object before))
