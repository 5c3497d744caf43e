-- What is counted of a service.
use Rattle.std.specs.Prelude.{ℕ, ◌-◌, ◌&&◌, Bool, List, length, nat_eq, nat_le, nat_lt, not}
use Rattle.std.specs.List.{count_by, sum_by}
use Rattle.service_pages.specs.declared.figures.Figures.{Figures}
use Rattle.service_pages.specs.declared.figures.JobFigures.{JobFigures}
use Rattle.service_pages.specs.declared.figures.CollectorFigures.{CollectorFigures}
use Rattle.service_pages.specs.declared.notes.MoveNote.{MoveNote}
use Rattle.service_pages.specs.declared.notes.SourceNote.{SourceNote}
use Rattle.service_pages.specs.declared.standing.Standing.{Standing}
use Rattle.service_pages.specs.declared.counted.Counted.{Counted}

abbrev pub live : JobFigures → ℕ
live j = j.live

-- live targets that nobody holds
abbrev pub uncovered : JobFigures → ℕ
uncovered j = j.live - j.covered

abbrev pub handing_over : JobFigures → ℕ
handing_over j = j.handing_over

-- a source whose last refresh has a fault
abbrev pub fails : SourceNote → Bool
fails s = not (nat_eq (length s.fault) 0)

-- how many moved targets a row tells
abbrev pub told : MoveNote → ℕ
told row = row.count

-- a collector whose list is of an earlier allocation
abbrev pub is_behind : ℕ → CollectorFigures → Bool
is_behind allocation c = nat_lt c.taken allocation

-- a collector whose lists have targets that others hold
abbrev pub is_waited_for : CollectorFigures → Bool
is_waited_for c = nat_lt 0 c.waited_for

abbrev pub is_draining : CollectorFigures → Bool
is_draining c = c.draining

-- where connections are counted, as many are served as may be
abbrev pub is_full : Standing → Bool
is_full s = nat_lt 0 s.most_connections && nat_le s.most_connections s.connections

abbrev pub counted : Figures → List SourceNote → Standing → Counted
counted f sources s = record {
  live = sum_by live f.jobs.items;
  uncovered = sum_by uncovered f.jobs.items;
  handing_over = sum_by handing_over f.jobs.items;
  sources = length sources;
  failing = count_by fails sources;
  collectors = length f.collectors.items;
  behind = count_by (is_behind f.allocation) f.collectors.items;
  waited_for = count_by is_waited_for f.collectors.items;
  draining = count_by is_draining f.collectors.items;
  is_broken = s.is_broken;
  is_hanging = s.is_hanging;
  is_followed = s.is_followed;
  is_full = is_full s;
}
