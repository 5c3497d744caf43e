use Rattle.std.proofs.Common.{◌≡◌, List, refl, sym, subst, take, ap, ◌∙◌}
use Rattle.journal_entries.specs.declared.entry.Entry.{Entry}
use Rattle.journal_entries.specs.Legal.{IsLegal}
use Rattle.kept_journal.specs.Written.{Written}
use Rattle.kept_journal.proofs.Growing.{entries_end}
use Rattle.kept_journal.proofs.desk_journal.DeskJournal.end.Goals as goal

pub returns-then-is_whole : goal.returns-then-is_whole
returns-then-is_whole g c =
    let file = c.self.inside.file in
    let entries = take c.self.inside.entries c.self.inside.front in
    let all : entries ≡ c.args.closed.now.journal = ap (λ (w : Written). w.entries) c.self.view_is ∙ c.if-is_whole.ensures.whole refl in
    let legal : IsLegal g.N.DeskName.opening entries c.args.closed.now.state = subst (λ (es : List Entry). IsLegal g.N.DeskName.opening es c.args.closed.now.state) (sym all) c.if-is_whole.ensures.legal in
    λ whole. entries_end g.F.Device.tells g.N.DeskName.opening c.args.closed.now.state entries (g.F.Write.contents file.file) file.chain (c.self.invariant.1 whole).0 legal
