-- How a line grows that is written in pieces.
use Rattle.std.specs.Prelude.{◌≡◌, ℕ, ◌+◌, List, ◌++◌, length, Option, Some, None}
use Rattle.std.specs.Io.Buffered.{writer_contents}
use Rattle.std.specs.Io.Iter.{u64_saturate}
use Rattle.std.specs.Io.KnownBytes.{Appends}
use Rattle.std.proofs.Common.{ap, ◌∙◌, subst, arith, append_assoc, length-append}
use Rattle.sealed_lines.specs.Running.{Digests, TakesPiece}
use Rattle.durable_journal.specs.declared.sealing.Sealing.{Sealing}

-- the file and the digest have taken the text, and its bytes are counted
pub record Grows {F : Type 0} (contents : F → Option (List ℕ)) (old new : Sealing F) (text : List ℕ) : Type 0 where
  pub file : Appends (writer_contents contents old.file) (writer_contents contents new.file) text
  pub digest : TakesPiece old.digest new.digest text
  pub bytes : new.bytes ≡ u64_saturate (old.bytes + length text)

pub appends_join : (a b c : Option (List ℕ)) (s t : List ℕ) → Appends a b s → Appends b c t → Appends a c (s ++ t)
appends_join None b c s t h k = tt
appends_join (Some x) None c s t h k = absurd h
appends_join (Some x) (Some y) None s t h k = absurd k
appends_join (Some x) (Some y) (Some z) s t h k = k ∙ ap (λ w. w ++ t) h ∙ append_assoc x s t

pub grows_join : {F : Type 0} (contents : F → Option (List ℕ)) (a b c : Sealing F) (s t : List ℕ) → Grows contents a b s → Grows contents b c t → Grows contents a c (s ++ t)
grows_join contents a b c s t h k =
    record {
      file = appends_join (writer_contents contents a.file) (writer_contents contents b.file) (writer_contents contents c.file) s t h.file k.file;
      digest = λ chain front d. subst (Digests c.digest chain) (append_assoc front s t) (k.digest chain (front ++ s) (h.digest chain front d));
      bytes = omega (arith, h.bytes, k.bytes, length-append s t);
    }
