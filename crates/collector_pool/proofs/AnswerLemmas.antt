-- What a report books.
use Rattle.std.proofs.Common.{◌≡◌, refl}
use Rattle.std.specs.Prelude.{if◌then◌else◌}
use Rattle.scrape_books.specs.Books.{samples_of}
use Rattle.fleet_events.specs.declared.report.Report.{Report as AnyReport}
use Rattle.fleet_events.specs.declared.event.Event.TheVariants.{Report}
use Rattle.fleet_events.specs.declared.answer.Answer.{Answer}
use Rattle.fleet_events.specs.declared.answer.Answer.TheVariants.{Discovered, Joined, Left, Draining, LimitsSet, Published, RoundOpen, Taken, Served, Released, Booked, Not}
use Rattle.allocation_core.specs.Steps.{gained}
use Rattle.alloc_desk.specs.Gains.{is_booked}

-- a report books its samples where it is booked
pub report_gains : (report : AnyReport) (a : Answer) → gained (Report report) a ≡ (if is_booked a then samples_of report.outcome else 0)
report_gains report Booked = refl
report_gains report (Discovered added removed) = refl
report_gains report (Joined id) = refl
report_gains report Left = refl
report_gains report Draining = refl
report_gains report LimitsSet = refl
report_gains report (Published number) = refl
report_gains report (RoundOpen round) = refl
report_gains report (Taken number round held) = refl
report_gains report (Served number round listed left_out) = refl
report_gains report (Released count) = refl
report_gains report (Not refusal) = refl
