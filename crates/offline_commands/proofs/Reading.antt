-- Reading the known bytes piece by piece.
use Rattle.std.proofs.Common.{◌≡◌, ◌+◌, ◌<◌, ◌≤◌, ℕ, List, [], ◌++◌, Option, Some, None, IfSome, length, refl, sym, ap, subst, ◌∙◌, append_assoc, length-append, arith}
use Rattle.std.specs.Io.KnownBytes.{Consumes, Keeps, IsAtEnd}
use Rattle.std.proofs.lemmas.List.{append-nil}
use Rattle.offline_commands.specs.Reading.{IsTaken, most_input}
use Rattle.offline_commands.specs.declared.input.Input.{Input}
use Rattle.offline_commands.specs.declared.input.Input.TheVariants.{Whole, TooLong}

pub consumes_none : (known : Option (List ℕ)) → Consumes known known []
consumes_none None = tt
consumes_none (Some xs) = refl

pub consumes_more : (first between last : Option (List ℕ)) (taken piece all : List ℕ) → Consumes first between taken → Consumes between last piece → all ≡ taken ++ piece → Consumes first last all
consumes_more None between last taken piece all h k e = tt
consumes_more (Some xs) None last taken piece all h k e = absurd h
consumes_more (Some xs) (Some ys) None taken piece all h k e = absurd k
consumes_more (Some xs) (Some ys) (Some zs) taken piece all h k e = h ∙ ap (λ (bs : List ℕ). taken ++ bs) k ∙ sym (append_assoc taken piece zs) ∙ ap (λ (bs : List ℕ). bs ++ zs) (sym e)

pub consumes_kept : (first between last : Option (List ℕ)) (taken : List ℕ) → Consumes first between taken → Keeps between last → Consumes first last taken
consumes_kept None between last taken h k = tt
consumes_kept (Some xs) None last taken h k = absurd h
consumes_kept (Some xs) (Some ys) None taken h k = absurd k
consumes_kept (Some xs) (Some ys) (Some zs) taken h k = h ∙ ap (λ (bs : List ℕ). taken ++ bs) (sym k)

-- at the end all is taken
pub taken_whole : (first between last : Option (List ℕ)) (taken whole : List ℕ) → Consumes first between taken → Consumes between last [] → IsAtEnd last → length taken ≤ most_input → whole ≡ taken → IfSome first (λ bytes. IsTaken bytes (Whole whole))
taken_whole None between last taken whole h k e l w = tt
taken_whole (Some xs) None last taken whole h k e l w = absurd h
taken_whole (Some xs) (Some ys) None taken whole h k e l w = absurd k
taken_whole (Some xs) (Some ys) (Some zs) taken whole h k e l w =
    let all : xs ≡ taken = h ∙ ap (λ (bs : List ℕ). taken ++ bs) (k ∙ e) ∙ append-nil taken in
    (omega (arith, ap (λ (bs : List ℕ). length bs) all), w ∙ sym all)

-- a piece too many
pub taken_too_long : (first between last : Option (List ℕ)) (taken piece : List ℕ) → Consumes first between taken → Consumes between last piece → most_input < length taken + length piece → IfSome first (λ bytes. IsTaken bytes TooLong)
taken_too_long None between last taken piece h k l = tt
taken_too_long (Some xs) None last taken piece h k l = absurd h
taken_too_long (Some xs) (Some ys) None taken piece h k l = absurd k
taken_too_long (Some xs) (Some ys) (Some zs) taken piece h k l =
    omega (arith, ap (λ (bs : List ℕ). length bs) h, ap (λ (bs : List ℕ). length bs) k, length-append taken ys, length-append piece zs)

-- what is found in what was taken is found in the bytes
pub found_in_whole : (known : Option (List ℕ)) (taken slice : List ℕ) (input : Input) (Finds : List ℕ → Type 0) → IfSome known (λ bytes. IsTaken bytes input) → input ≡ Whole taken → slice ≡ taken → (length slice ≤ most_input → Finds slice) → IfSome known Finds
found_in_whole None taken slice input Finds h i s f = tt
found_in_whole (Some bytes) taken slice input Finds h i s f =
    let whole : IsTaken bytes (Whole taken) = subst (λ (x : Input). IsTaken bytes x) i h in
    let same : slice ≡ bytes = s ∙ whole.1 in
    subst Finds same (f (subst (λ (bs : List ℕ). length bs ≤ most_input) (sym same) whole.0))
