-- The bits that tell which rounds are booked.
use Rattle.std.proofs.Common.{◌≡◌, ℕ, ◌+◌, ◌-◌, ◌*◌, ◌/◌, ◌%◌, ◌^◌, ◌<◌, ◌≤◌, [], false, refl, sym, ap, ◌∙◌, arith}
use Rattle.std.specs.Prelude.{◌==◌, nat_le, nat_lt}
use Rattle.std.specs.Int.{bit_at}
use Rattle.std.proofs.lemmas.Bool.{and_right}
use Rattle.std.proofs.lemmas.Nat.{div-add-mod', pow_pos}
use Rattle.std.proofs.lemmas.Nat.Bits.{bit_at-zero, bit_at_cat_low, bit_at_cat_high}
use Rattle.scrape_books.specs.Standings.{is_marked, no_standing, IsStanding}

-- the low bits of a number are those of its remainder
within_width : (n i : ℕ) → i < 64 → bit_at (n % 2 ^ 64) i ≡ bit_at n i
within_width n i less = sym (ap (λ (m : ℕ). bit_at m i) (sym (div-add-mod' n (2 ^ 64))) ∙ bit_at_cat_low (n / 2 ^ 64) 64 (n % 2 ^ 64) i less)

pub moved_low : (rounds up place : ℕ) → place < up → place < 64 → bit_at (rounds * 2 ^ up % 2 ^ 64) place ≡ 0
moved_low rounds up place low less = within_width (rounds * 2 ^ up) place less ∙ ap (λ (m : ℕ). bit_at m place) (omega arith) ∙ bit_at_cat_low rounds up 0 place low ∙ bit_at-zero place

pub moved_high : (rounds up place : ℕ) → up ≤ place → place < 64 → bit_at (rounds * 2 ^ up % 2 ^ 64) place ≡ bit_at rounds (place - up)
moved_high rounds up place high less = within_width (rounds * 2 ^ up) place less ∙ ap (λ (m : ℕ). bit_at m place) (omega arith) ∙ bit_at_cat_high rounds up 0 place (pow_pos up) high

nothing_marked : (round : ℕ) → is_marked 0 0 round ≡ false
nothing_marked round = and_right (nat_le round 0) _ (and_right (nat_lt (0 - round) 64) _ (ap (λ (bit : ℕ). bit == 1) (bit_at-zero (0 - round))))

-- the standing of a target where nothing is booked
pub nothing_stands : (target : ℕ) → IsStanding [] target no_standing
nothing_stands target = record { last = refl; page = refl; marks = λ round near. nothing_marked round }
