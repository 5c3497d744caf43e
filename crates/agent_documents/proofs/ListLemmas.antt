-- The targets of a list, one group after the other.
use Rattle.std.proofs.Common.{◌≡◌, ℕ, suc, ◌+◌, ◌<◌, ◌++◌, List, [], ◌∷◌, Result, Ok, Err, length, get_or, drop, refl, sym, ap, ◌∙◌, append_assoc, add-one}
use Rattle.std.proofs.Math.Seq.{drop-cons}
use Rattle.sd_documents.specs.declared.group.Group.{Group}
use Rattle.agent_core.specs.declared.target.Listed.{Listed}
use Rattle.agent_documents.specs.Lists.{group_said, targets_said}
use Rattle.agent_documents.specs.Reading.{◌>>=◌, with_front}
use Rattle.agent_documents.specs.declared.error.DocumentError.{DocumentError}

-- what is left begins with the group at the place
left : (groups : List Group) (i : ℕ) (group : Group) → i < length groups → group ≡ get_or groups i group → drop i groups ≡ group ∷ drop (i + 1) groups
left groups i group within is =
    let next = add-one i in
    drop-cons groups i group within ∙ ap (λ (g : Group). g ∷ drop (suc i) groups) (sym is) ∙ ap (λ (n : ℕ). group ∷ drop n groups) (sym next)

front_more : (targets : List Listed) (listed : Listed) (rest : Result (List Listed) DocumentError) → with_front (targets ++ listed ∷ []) rest ≡ with_front targets (rest >>= λ more. Ok (listed ∷ more))
front_more targets listed (Ok more) = ap (λ (all : List Listed). Ok all) (append_assoc targets (listed ∷ []) more)
front_more targets listed (Err e) = refl

pub group_more : (job : ℕ) (groups : List Group) (i : ℕ) (group : Group) (listed : Listed) (targets : List Listed) → i < length groups → group ≡ get_or groups i group → group_said job group ≡ Ok listed
    → with_front (targets ++ listed ∷ []) (targets_said job (drop (i + 1) groups)) ≡ with_front targets (targets_said job (drop i groups))
group_more job groups i group listed targets within is said =
    let rest = drop (i + 1) groups in
    front_more targets listed (targets_said job rest)
    ∙ ap (λ (first : Result Listed DocumentError). with_front targets (first >>= λ l. targets_said job rest >>= λ more. Ok (l ∷ more))) (sym said)
    ∙ ap (λ (gs : List Group). with_front targets (targets_said job gs)) (sym (left groups i group within is))
