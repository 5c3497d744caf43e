-- What an agent told the allocator, as far as it has to know it: the last round with its targets, and of each series the time of the last scrape.
-- This is what is written down before a report is posted.
use Rattle.std.specs.Prelude.{ℕ, ◌-◌, ◌==◌, ◌&&◌, ◌||◌, Bool, not, List, [], ◌∷◌, ◌++◌, Option, codes, is_some, nat_lt, nat_eq, max, length, filter, unwrap_or, slice_get, if◌then◌else◌}
use Rattle.std.specs.List.{list_any}
use Rattle.std.specs.Map.{lookup, values_of}
use Rattle.indexmap.specs.IndexMap.{insert_entry}
use Rattle.indexmap.specs.IndexSet.{insert_key}
use Rattle.agent_core.specs.Targets.{same_series}
use Rattle.agent_core.specs.declared.target.Series.{Series}
use Rattle.agent_core.specs.declared.target.Listed.{Listed}
use Rattle.agent_core.specs.declared.slot.Point.{Point}
use Rattle.agent_core.specs.declared.report.Head.{Head}
use Rattle.agent_core.specs.declared.report.Report.{Report}

pub record Told : Type 0 where
  -- the last round in which was told, and of which targets
  pub epoch : ℕ
  pub round : ℕ
  pub targets : List ℕ
  -- of each series of the last list the time up to which nothing of it is reported any more
  pub marks : List (Series × ℕ)
  -- nothing up to this time is reported of a series without a mark
  pub floor : ℕ

abbrev pub nothing_told : Told
nothing_told = record { epoch = 0; round = 0; targets = []; marks = []; floor = 0 }

-- the time up to which no scrape of a series is reported any more
abbrev pub mark_of : Told → Series → ℕ
mark_of told series = unwrap_or (lookup (same_series series) told.marks) told.floor

-- the round is behind the last one in which was told
abbrev pub is_later : Told → ℕ → ℕ → Bool
is_later told epoch round = nat_lt told.epoch epoch || (told.epoch == epoch && nat_lt told.round round)

-- nothing of a later round was told, and in this one nothing of the target
abbrev pub is_open : Told → ℕ → ℕ → ℕ → Bool
is_open told epoch round target = is_later told epoch round || (told.epoch == epoch && told.round == round && not (list_any (nat_eq target) told.targets))

-- the targets of which was told in the last round, and this one
abbrev pub targets_with : Told → Report → List ℕ
targets_with told report = insert_key nat_eq (if is_later told report.head.epoch report.head.round then [] else told.targets) report.target

-- a report is chosen
abbrev pub with_report : Told → Report → Told
with_report told report =
    record {
      epoch = report.head.epoch;
      round = report.head.round;
      targets = targets_with told report;
      marks = insert_entry same_series told.marks report.series report.time;
      floor = told.floor;
    }

-- the greatest of these marks and of another time
abbrev pub greatest : List ℕ → ℕ → ℕ
greatest [] time = time
greatest (mark ∷ marks) time = greatest marks (max time mark)

-- under this is noted that targets share a series: no label set has this text
abbrev pub shared_mark : Series → Series
shared_mark series = record { labels = codes "shared " ++ series.labels }

-- The mark of a target's series in a list. A target that shared its series before, and has it alone now, begins with the list: what is stored before
-- may be another one's.
abbrev pub mark_in : Told → Series → Listed → ℕ
mark_in told key listed = if is_some (lookup (same_series key) told.marks) && not listed.shared then told.floor else mark_of told listed.series

abbrev pub with_marks : Told → List (Series × ℕ) → Listed → List (Series × ℕ)
with_marks told marks listed =
    let key = shared_mark listed.series in
    let more = insert_entry same_series marks listed.series (mark_in told key listed) in
    if listed.shared then insert_entry same_series more key told.floor else more

-- each series of a list keeps its mark. One that is new begins with the list: its scrapes of before are not the list's
abbrev pub marks_for : Told → List Listed → List (Series × ℕ) → List (Series × ℕ)
marks_for told [] marks = marks
marks_for told (listed ∷ targets) marks = marks_for told targets (with_marks told marks listed)

-- a list is taken
abbrev pub carried : Told → ℕ → List Listed → Told
carried told at targets =
    let later : Told = record told { floor = max at (greatest (values_of told.marks) told.floor) } in
    record later { marks = marks_for later targets [] }

-- Of the scrapes behind the mark the last but one, or the only one: each is reported in its turn, and the two youngest wait.
abbrev pub slot : ℕ → List Point → Option Point
slot mark points =
    let fresh = filter (λ (point : Point). nat_lt mark point.time) points in
    slice_get fresh (length fresh - 2)

abbrev pub report_of : Head → Listed → Point → Report
report_of head listed point = record { head = head; target = listed.target; series = listed.series; time = point.time; outcome = point.outcome }
