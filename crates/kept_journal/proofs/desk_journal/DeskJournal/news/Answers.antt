use Rattle.std.proofs.Common.{◌≡◌, ◌++◌, List, take, sym, subst}
use Rattle.std.proofs.lemmas.Result.{IfOk-weaker}
use mathlib.Core.List.{IsPrefix}
use Rattle.journal_entries.specs.declared.entry.Entry.{Entry}
use Rattle.kept_journal.specs.Keeping.{HasEntries}
use Rattle.kept_journal.specs.Written.{AreLinesOf}
use Rattle.kept_journal.proofs.Beginnings.{more_seen, next_begins, taken_same}
use Rattle.kept_journal.proofs.desk_journal.DeskJournal.news.Goals as goal

pub invariant_of-self : goal.invariant_of-self
invariant_of-self g c =
    let old = c.self.inside.front in
    let new = c.entries.new.self in
    let n = c.self.inside.entries in
    let file = c.self.inside.file in
    let same : take n new ≡ take n old = taken_same n old new c.entries.ensures.seen c.self.invariant.0 in (
      more_seen n old new c.self.invariant.0 c.entries.ensures.seen,
      λ whole.
          let was = c.self.invariant.1 whole in
          (subst (λ (es : List Entry). HasEntries g.F.Device.tells g.N.DeskName.opening es (g.F.Write.contents file.file) file.chain) (sym same) was.0, was.1),
      c.self.invariant.2,
    )

pub invariant_of-self-2 : goal.invariant_of-self-2
invariant_of-self-2 g c =
    let old = c.self.inside.front in
    let new = c.entries.new.self in
    let n = c.self.inside.entries in
    let file = c.self.inside.file in
    let same : take n new ≡ take n old = taken_same n old new c.entries.ensures.seen c.self.invariant.0 in (
      more_seen n old new c.self.invariant.0 c.entries.ensures.seen,
      λ whole.
          let was = c.self.invariant.1 whole in
          (subst (λ (es : List Entry). HasEntries g.F.Device.tells g.N.DeskName.opening es (g.F.Write.contents file.file) file.chain) (sym same) was.0, was.1),
      c.self.invariant.2,
    )

pub returns-clause-news : goal.returns-clause-news
returns-clause-news g c =
    let new = c.entries.new.self in
    let n = c.self.inside.entries in
    let these = c.in_ok-entries.entries in
    let next : IsPrefix (take n new ++ these) new = subst (λ (es : List Entry). IsPrefix (take n new ++ es) new) (sym c.in_ok-entries.ensures.read) (next_begins n 4096 new) in
    IfOk-weaker c.of-news.result _ _ (λ news lines. record { these = these; next = next; lines = subst (λ (es : List Entry). AreLinesOf c.self.inside.file.chain es news) c.as_slice.ensures lines }) c.of-news.ensures
