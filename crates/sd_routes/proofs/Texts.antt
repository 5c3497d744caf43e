-- The text that bytes are, by whether they are UTF-8.
use Rattle.std.proofs.Common.{◌≡◌, List, ℕ, Some, None, true, false, cond, refl}
use Rattle.std.specs.Str.{IsUtf8, is_utf8}
use Rattle.std.proofs.lemmas.Str.{IsUtf8-from_is_utf8, is_utf8-from_IsUtf8}
use Rattle.sd_routes.specs.Segments.{text_from}

pub text_from_valid : (bytes : List ℕ) → IsUtf8 bytes → text_from bytes ≡ Some bytes
unfolding text_from
text_from_valid bytes valid = rw (is_utf8-from_IsUtf8 bytes valid) refl

pub text_from_broken : (bytes : List ℕ) → ¬ IsUtf8 bytes → text_from bytes ≡ None
unfolding text_from
text_from_broken bytes broken =
    elim (is_utf8 bytes) as (λ b. is_utf8 bytes ≡ b → cond b (Some bytes) None ≡ None)
    [ true ↦ λ e. absurd (broken (IsUtf8-from_is_utf8 bytes e)) | false ↦ λ e. refl ] refl
