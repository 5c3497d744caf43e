use Rattle.std.proofs.Common.{◌≡◌, subst}
use Rattle.std.specs.Prelude.{Option, Some}
use Rattle.http_get.specs.declared.get.Get.{Get}
use Rattle.alloc_desk.specs.Reached.{Reached}
use Rattle.collector_pool.specs.Fetches.{Fetch, asked_in}
use Rattle.collector_pool.proofs.VisitLemmas.{came_to}
use Rattle.collector_pool.proofs.target.scrape_target.Goals as goal

pub returns-clause-scraped : goal.returns-clause-scraped
returns-clause-scraped g c =
    let opening = g.N.DeskName.opening in
    let fetch : Fetch = record { get = c.in-Some.get; result = c.fetch-fetched.result } in
    let P : Option Get → Type 0 = λ get. Reached opening c.args.pass.now (λ h. get ≡ asked_in h.state c.args.jobs.now c.args.target) in
    let asked = subst P c.in-Some.is c.in_ok-get.ensures.asked in
    (Some fetch, c.fetch-fetched.ensures.fetched, came_to opening c.args.pass.now c.args.jobs.now c.args.target fetch c.found-outcome.result asked c.found-outcome.ensures)
