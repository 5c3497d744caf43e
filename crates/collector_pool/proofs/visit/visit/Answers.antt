use Rattle.std.proofs.Common.{◌≡◌, ◌+◌, ◌∙◌, ap, refl, subst}
use Rattle.std.specs.Prelude.{if◌then◌else◌}
use Rattle.scrape_books.specs.Books.{samples_of}
use Rattle.scrape_books.specs.declared.report.Outcome.{Outcome}
use Rattle.fleet_events.specs.declared.report.Report.{Report as AnyReport}
use Rattle.fleet_events.specs.declared.event.Event.TheVariants.{Report}
use Rattle.allocation_core.specs.Steps.{answer_of, gained}
use Rattle.alloc_desk.specs.Counts.{Counts}
use Rattle.alloc_desk.specs.Gains.{is_booked}
use Rattle.alloc_desk.specs.History.{History}
use Rattle.alloc_desk.specs.Reached.{IsReceipt, Reached}
use Rattle.collector_pool.specs.Visits.{Visit}
use Rattle.collector_pool.proofs.AnswerLemmas.{report_gains}
use Rattle.collector_pool.proofs.VisitLemmas.{told_so}
use Rattle.collector_pool.proofs.visit.visit.Goals as goal

pub returns-clause-visited : goal.returns-clause-visited
returns-clause-visited g c =
    let opening = g.N.DeskName.opening in
    let scraped = c.in-Ok.ensures.scraped in
    let answer = c.in_ok-receipt.receipt.answer in
    let report : Outcome → AnyReport = λ outcome. record { collector = c.args.taken.collector; allocation = c.args.taken.allocation; target = c.args.target; round = c.args.taken.round; outcome = outcome } in
    let v : Visit = record { target = c.args.target; fetched = scraped.0; answer = answer } in
    let now = c.scrape_target-scraped.new.pass in
    let Says : Outcome → History → Type 0 = λ outcome h. answer ≡ answer_of h.state (Report (report outcome)) in
    let told = told_so opening now (IsReceipt (Report (report c.in-Ok.outcome)) now c.in_ok-receipt.receipt) (Says c.in-Ok.outcome) (λ h r. r.answer) c.in_ok-receipt.ensures.answered in
    let P : Counts → Type 0 = λ p. Reached opening p (Says c.in-Ok.outcome) in
    let Q : Outcome → Type 0 = λ o. Reached opening c.args.pass.now (Says o) in
    let K : Counts → Type 0 = λ p. c.submit.new.pass ≡ record { seat = p.seat; calls = p.calls + 1; booked = p.booked + gained (Report (report c.in-Ok.outcome)) answer } in
    let counts = subst K c.in-Ok.ensures.same c.in_ok-receipt.ensures.counts in
    let B : Outcome → Type 0 = λ o. c.submit.new.pass.booked ≡ c.args.pass.now.booked + (if is_booked answer then samples_of o else 0) in
    let gains = report_gains (report c.in-Ok.outcome) answer in
    record {
      visit = v;
      of = refl;
      is = record { asked = scraped.2.0; answered = scraped.2.1; reported = subst Q scraped.2.2 (subst P c.in-Ok.ensures.same told) };
      step = scraped.1;
      tallied = c.tally_of-tally.ensures;
      calls = ap (λ (p : Counts). p.calls) counts;
      booked = subst B scraped.2.2 (ap (λ (p : Counts). p.booked) counts ∙ ap (λ n. c.args.pass.now.booked + n) gains);
    }
