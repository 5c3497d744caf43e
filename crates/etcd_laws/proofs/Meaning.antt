-- A request passes where what its transaction compares holds.
use Rattle.std.proofs.Common.{◌≡◌, ◌<◌, ◌+◌, ◌^◌, ◌==◌, ◌&&◌, ℕ, zero, suc, Bool, true, false, List, [], ◌∷◌, Option, Some, None, refl, sym, ap, ◌∙◌, arith}
use Rattle.std.specs.Prelude.{decimal, not}
use Rattle.std.specs.Bool.{Decides}
use Rattle.std.specs.Option.{option_map_or}
use Rattle.std.specs.Str.{bytes_eq}
use Rattle.std.proofs.Math.Bool.{and-true}
use Rattle.std.proofs.Math.Numerals.{add-one}
use Rattle.std.proofs.lemmas.Bool.{eqb-true, ne_eqb}
use Rattle.std.proofs.lemmas.Bool.Decides.{Decides-eqb, same_from_decides}
use Rattle.std.proofs.lemmas.Fmt.{decimal_injective}
use Rattle.std.proofs.lemmas.Slice.Eq.{bytes_eq-Decides}
use Rattle.etcd_requests.specs.Requests as request
use Rattle.etcd_laws.specs.Meaning.{IsRequest, MakesAlone, RequestsAreTransactions, holds}
use Rattle.etcd_laws.specs.Stores.{Lead, Request, Claim, Write, Remove, Switch, Forget, Store, created_at, is_free, leads}

same_text : (text : ℕ → List ℕ) → ((a b : ℕ) → text a ≡ text b → a ≡ b) → (a b : ℕ) → bytes_eq (text a) (text b) ≡ (a == b)
same_text text differ a b =
    let texts = bytes_eq-Decides (text a) (text b) in
    let both : Decides (bytes_eq (text a) (text b)) (a ≡ b) = (λ e. differ a b (texts.0 e), λ e. texts.1 (ap text e)) in
    same_from_decides (bytes_eq (text a) (text b)) (a == b) both (Decides-eqb a b)

leads_by : (text : ℕ → List ℕ) → ((a b : ℕ) → text a ≡ text b → a ≡ b) → (leader : Option Lead) (term : ℕ) → option_map_or (λ (l : Lead). bytes_eq (text l.term) (text term)) leader false ≡ leads leader term
leads_by text differ None term = refl
leads_by text differ (Some l) term = same_text text differ l.term term

and_parts : (a b : Bool) → (a && b) ≡ true → (a ≡ true) × (b ≡ true)
and_parts true b e = (refl, e)
and_parts false b e = absurd (cc e)

and_both : (a b : Bool) → a ≡ true → b ≡ true → (a && b) ≡ true
and_both true b e f = f
and_both false b e f = absurd (cc e)

goes_on_by : (text : ℕ → List ℕ) (s : Store) (going : ℕ) → s.epoch < 2 ^ 64 → going < 2 ^ 64 → holds text s (request.goes_on going) ≡ (s.epoch == going)
goes_on_by text s zero l m = and-true (s.epoch == 0)
goes_on_by text s (suc k) l m =
    let texts = bytes_eq-Decides (decimal s.epoch) (decimal (k + 1)) in
    let both : Decides (not (s.epoch == 0) && bytes_eq (decimal s.epoch) (decimal (k + 1))) (s.epoch ≡ suc k) = (
      λ e. decimal_injective s.epoch (k + 1) l (omega (arith, m)) (texts.0 (and_parts (not (s.epoch == 0)) (bytes_eq (decimal s.epoch) (decimal (k + 1))) e).1) ∙ add-one k,
      λ e. and_both (not (s.epoch == 0)) (bytes_eq (decimal s.epoch) (decimal (k + 1))) (ap not (ne_eqb s.epoch 0 (λ z. absurd (omega (arith, e, z))))) (texts.1 (ap decimal (e ∙ sym (add-one k)))),
    ) in
    same_from_decides (not (s.epoch == 0) && bytes_eq (decimal s.epoch) (decimal (k + 1))) (s.epoch == suc k) both (Decides-eqb s.epoch (suc k))

three : (a b c d e : Bool) → d ≡ a → e ≡ b → (a && (b && c)) ≡ ((d && (e && (c && true))) && true)
three a b c d e h i =
    ap (λ (x : Bool). x && (b && c)) (sym h) ∙ ap (λ (y : Bool). d && (y && c)) (sym i) ∙ ap (λ (z : Bool). d && (e && z)) (sym (and-true c)) ∙ sym (and-true (d && (e && (c && true))))

two : (a b d e : Bool) → d ≡ a → e ≡ b → (a && b) ≡ ((d && (e && true)) && true)
two a b d e h i = ap (λ (x : Bool). x && b) (sym h) ∙ ap (λ (y : Bool). d && y) (sym i) ∙ ap (λ (z : Bool). d && z) (sym (and-true e)) ∙ sym (and-true (d && (e && true)))

one : (a d : Bool) → d ≡ a → a ≡ ((d && true) && true)
one a d h = sym h ∙ sym (and-true d) ∙ sym (and-true (d && true))

free : (a b : Bool) → (a && b) ≡ (((a && true) && true) && (b && true))
free a b = ap (λ (x : Bool). x && b) (sym (and-true a) ∙ sym (and-true (a && true))) ∙ ap (λ (y : Bool). ((a && true) && true) && y) (sym (and-true b))

pub requests_are_transactions : RequestsAreTransactions
requests_are_transactions text differ s (Claim term lease) l m =
    record { compares = free (is_free s.leader) (not (s.ended lease)); does = record { operation = _; alone = refl; made = record s { leader = Some (record { term = term; lease = lease }) }; makes = (term, refl, refl); next = refl } }
requests_are_transactions text differ s (Write term going epoch number bytes) l m =
    record {
      compares = three (leads s.leader term) (s.epoch == going) (created_at s epoch number == 0) (holds text s (request.leads (text term))) (holds text s (request.goes_on going)) (leads_by text differ s.leader term) (goes_on_by text s going l m);
      does = record { operation = _; alone = refl; made = _; makes = refl; next = refl };
    }
requests_are_transactions text differ s (Remove term going epoch number created) l m =
    record {
      compares = three (leads s.leader term) (s.epoch == going) (created_at s epoch number == created) (holds text s (request.leads (text term))) (holds text s (request.goes_on going)) (leads_by text differ s.leader term) (goes_on_by text s going l m);
      does = record { operation = _; alone = refl; made = _; makes = refl; next = refl };
    }
requests_are_transactions text differ s (Switch term going) l m =
    record {
      compares = two (leads s.leader term) (s.epoch == going) (holds text s (request.leads (text term))) (holds text s (request.goes_on going)) (leads_by text differ s.leader term) (goes_on_by text s going l m);
      does = record { operation = _; alone = refl; made = _; makes = (going + 1, refl, refl); next = refl };
    }
requests_are_transactions text differ s (Forget term epoch) l m =
    record {
      compares = one (leads s.leader term) (holds text s (request.leads (text term))) (leads_by text differ s.leader term);
      does = record { operation = _; alone = refl; made = _; makes = refl; next = refl };
    }
