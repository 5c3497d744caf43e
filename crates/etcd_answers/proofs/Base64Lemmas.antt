-- What a text in base64 says, by what comes of decoding it.
use Rattle.std.proofs.Common.{◌≡◌, ℕ, List, Some, None, Ok, Err, sym, ap, ◌∙◌}
use Rattle.std.specs.Result.{result_ok}
use Rattle.base64.specs.declared.decode.DecodeError.{DecodeError}
use Rattle.base64.specs.Engines.{standard}
use Rattle.base64.specs.GeneralPurpose.{decode_of, decoded_of}
use Rattle.etcd_answers.specs.Answers.{base64_said}

pub said_some : (text bytes decoded : List ℕ) → bytes ≡ text → decode_of standard bytes ≡ Ok decoded → Some decoded ≡ base64_said text
unfolding base64_said decoded_of
said_some text bytes decoded same ok = sym (ap (λ (t : List ℕ). result_ok (decode_of standard t)) (sym same) ∙ ap result_ok ok)

pub said_none : (text bytes : List ℕ) (e : DecodeError) → bytes ≡ text → decode_of standard bytes ≡ Err e → None ≡ base64_said text
unfolding base64_said decoded_of
said_none text bytes e same failed = sym (ap (λ (t : List ℕ). result_ok (decode_of standard t)) (sym same) ∙ ap result_ok failed)
