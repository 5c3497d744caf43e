use Rattle.std.proofs.Common.{◌≡◌, ◌≤◌, ◌+◌, ◌++◌, ℕ, List, Option, length, take, sym, subst, ap, ◌∙◌, arith}
use mathlib.Core.List.{IsPrefix}
use Rattle.std.specs.Io.KnownBytes.{Appends}
use Rattle.durable_journal.specs.Events.{event_lines}
use Rattle.durable_journal.specs.Files.{bytes_of, chain_past}
use Rattle.durable_journal.specs.Kept.{kept_in}
use Rattle.journal_entries.specs.declared.entry.Entry.{Entry}
use Rattle.sealed_lines.specs.declared.chain.Chain.{Chain}
use Rattle.kept_journal.specs.Keeping.{HasEntries}
use Rattle.kept_journal.specs.Written.{AreLinesOf, Written}
use Rattle.kept_journal.proofs.Beginnings.{next_fit, next_taken}
use Rattle.kept_journal.proofs.Growing.{entries_grow}
use Rattle.kept_journal.proofs.desk_journal.DeskJournal.write.Goals as goal

pub overflow_add-self : goal.overflow_add-self
overflow_add-self g c =
    let next : IsPrefix (take c.self.inside.entries c.self.inside.front ++ c.requires.these) c.self.inside.front = subst (λ (w : Written). IsPrefix (w.entries ++ c.requires.these) w.seen) (sym c.self.view_is) c.requires.next in
    let fit : c.self.inside.entries + c.args.news.now.entries ≤ length c.self.inside.front = next_fit c.self.inside.entries c.args.news.now.entries c.self.inside.front c.requires.these c.self.invariant.0 c.requires.lines.count next in
    grind (arith, c.len-seen.ensures.len, c.len-seen.type_inv, fit)

pub invariant_of-self-2 : goal.invariant_of-self-2
invariant_of-self-2 g c =
    let n = c.self.inside.entries in
    let seen = c.self.inside.front in
    let these = c.requires.these in
    let file = c.self.inside.file in
    let new = c.write.new.self in
    let next : IsPrefix (take n seen ++ these) seen = subst (λ (w : Written). IsPrefix (w.entries ++ these) w.seen) (sym c.self.view_is) c.requires.next in
    let lines : AreLinesOf file.chain these c.args.news.now = subst (λ (w : Written). AreLinesOf w.chain these c.args.news.now) (sym c.self.view_is) c.requires.lines in
    let taken : take (n + c.args.news.now.entries) seen ≡ take n seen ++ these = next_taken n c.args.news.now.entries seen these c.self.invariant.0 lines.count next in
    let was = c.self.invariant.1 c.in_ok-write.ensures.whole in
    let appends : Appends (g.F.Write.contents file.file) (g.F.Write.contents new.file) (bytes_of file.chain (event_lines (kept_in these))) =
    subst (λ (bytes : List ℕ). Appends (g.F.Write.contents file.file) (g.F.Write.contents new.file) bytes) lines.bytes c.in_ok-write.ensures.bytes in
    let grown : HasEntries g.F.Device.tells g.N.DeskName.opening (take n seen ++ these) (g.F.Write.contents new.file) (chain_past file.chain (event_lines (kept_in these))) =
    entries_grow g.F.Device.tells g.N.DeskName.opening (take n seen) these (g.F.Write.contents file.file) (g.F.Write.contents new.file) file.chain was.0 lines.said appends in
    let last : chain_past file.chain (event_lines (kept_in these)) ≡ new.chain = sym lines.last ∙ sym c.in_ok-write.ensures.chain in (
      next_fit n c.args.news.now.entries seen these c.self.invariant.0 lines.count next,
      λ whole. (
        subst (λ (es : List Entry). HasEntries g.F.Device.tells g.N.DeskName.opening es (g.F.Write.contents new.file) new.chain) (sym taken)
            (subst (λ (chain : Option Chain). HasEntries g.F.Device.tells g.N.DeskName.opening (take n seen ++ these) (g.F.Write.contents new.file) chain) last grown),
        λ kept. c.in_ok-write.ensures.kept,
      ),
      c.self.invariant.2,
    )

pub new-requires-clause-kept : goal.new-requires-clause-kept
new-requires-clause-kept g c =
    let n = c.self.inside.entries in
    let seen = c.self.inside.front in
    let these = c.requires.these in
    let file = c.self.inside.file in
    let new = c.write.new.self in
    let next : IsPrefix (take n seen ++ these) seen = subst (λ (w : Written). IsPrefix (w.entries ++ these) w.seen) (sym c.self.view_is) c.requires.next in
    let lines : AreLinesOf file.chain these c.args.news.now = subst (λ (w : Written). AreLinesOf w.chain these c.args.news.now) (sym c.self.view_is) c.requires.lines in
    let taken : take (n + c.args.news.now.entries) seen ≡ take n seen ++ these = next_taken n c.args.news.now.entries seen these c.self.invariant.0 lines.count next in
    let was = c.self.invariant.1 c.in_ok-write.ensures.whole in
    let appends : Appends (g.F.Write.contents file.file) (g.F.Write.contents new.file) (bytes_of file.chain (event_lines (kept_in these))) =
    subst (λ (bytes : List ℕ). Appends (g.F.Write.contents file.file) (g.F.Write.contents new.file) bytes) lines.bytes c.in_ok-write.ensures.bytes in
    let grown : HasEntries g.F.Device.tells g.N.DeskName.opening (take n seen ++ these) (g.F.Write.contents new.file) (chain_past file.chain (event_lines (kept_in these))) =
    entries_grow g.F.Device.tells g.N.DeskName.opening (take n seen) these (g.F.Write.contents file.file) (g.F.Write.contents new.file) file.chain was.0 lines.said appends in
    let kept : HasEntries g.F.Device.tells g.N.DeskName.opening (take n seen ++ these) (g.F.Device.kept new.file) (chain_past file.chain (event_lines (kept_in these))) =
    subst (λ (bytes : Option (List ℕ)). HasEntries g.F.Device.tells g.N.DeskName.opening (take n seen ++ these) bytes (chain_past file.chain (event_lines (kept_in these)))) (sym c.in_ok-write.ensures.kept) grown in
    let means = c.self.invariant.2 (take n seen ++ these) (new.file, chain_past file.chain (event_lines (kept_in these)), kept) in
    subst (λ (es : List Entry). g.N.JournalName.keeps es) (sym taken ∙ ap (take (n + c.args.news.now.entries)) (sym c.again.ensures.same)) means
