use Rattle.std.proofs.Common.{List, ℕ, [], ◌∷◌, ◌++◌, subst, sym}
use Rattle.fleet_assignment.specs.Instance.{row_for}
use Rattle.fleet_assignment.specs.Sharing.{IsSharing}
use Rattle.fleet_assignment.proofs.SharingLemmas.{shares_new}
use Rattle.fleet_assignment.proofs.rows.share.Goals as goal

pub returns-in_ok-list-in-None : goal.returns-in_ok-list-in-None
returns-in_ok-list-in-None c targets h =
    let fleet = c.args.fleet.now in
    let s = c.args.sharing.now in
    let n = c.add_list.new.sharing in
    let number = c.args.number in
    let all = targets ++ number ∷ [] in
    subst (λ (xs : List (List ℕ)). IsSharing fleet all xs n.firsts.items n.list_of.items) (sym c.in_ok-list-in-None.ensures.lists)
    (subst (λ (xs : List ℕ). IsSharing fleet all (s.lists.items ++ row_for fleet number ∷ []) xs n.list_of.items) (sym c.in_ok-list-in-None.ensures.firsts)
    (subst (λ (xs : List ℕ). IsSharing fleet all (s.lists.items ++ row_for fleet number ∷ []) (s.firsts.items ++ number ∷ []) xs) (sym c.in_ok-list-in-None.ensures.list_of)
    (shares_new fleet targets number s.lists.items s.firsts.items s.list_of.items h)))
