-- How the program ends, by what is written.
use Rattle.std.proofs.Common.{◌<◌, ℕ, List, [], ◌++◌, Option, Some, None, IfSome, length, refl, sym, subst, inl, inr, ⊎_elim}
use Rattle.std.specs.Io.KnownBytes.{Appends}
use Rattle.offline_commands.proofs.Writing.{part_after}
use Rattle.std.proofs.KnownBytes.{Appends-trans}
use Rattle.offline_commands.specs.Reading.{most_input}
use Rattle.offline_commands.specs.Unreadable.{unreadable_line}
use Rattle.offline_commands.specs.Writing.{IsWritten}
use Rattle.offline_commands.specs.Ending.{stop_line}
use Rattle.offline_commands.specs.Answer.{Answers, Fronts, IsText, EndsAs, EndsTo}
use Rattle.offline_commands.specs.declared.answer.Answer.TheVariants.{NotRead}
use Rattle.offline_commands.specs.declared.ending.Ending.{Ending}
use Rattle.offline_commands.specs.declared.ending.Ending.TheVariants.{Answered, Stopped, Unwritten}
use Rattle.offline_commands.specs.declared.ending.Status.TheVariants.{Unreadable}
use Rattle.offline_commands.specs.declared.ending.Stop.{Stop}
use Rattle.offline_commands.specs.declared.ending.Stop.TheVariants.{Memory, Device}
use Rattle.offline_commands.specs.declared.unreadable.Unreadable.TheVariants.{TooLong}

module _ (answers : Answers) (begins : Fronts) where
  ends_whole : (input : List ℕ) (before after : Option (List ℕ)) (meant : Ending) (text : List ℕ) →
      IsText answers begins input meant text → Appends before after text → EndsAs answers begins input before after meant
  ends_whole input before after (Answered status) text is_text whole = (text, is_text, whole)
  ends_whole input before after (Stopped stop) text is_text whole = (text, is_text, whole)
  ends_whole input before after Unwritten text is_text whole = absurd is_text

  pub ends_as : (input : List ℕ) (before after : Option (List ℕ)) (meant ending : Ending) (text : List ℕ) →
      IsText answers begins input meant text → IsWritten meant text before after ending → EndsAs answers begins input before after ending
  ends_as input before after meant ending text is_text written =
      let At : Ending → Type 0 = λ e. EndsAs answers begins input before after e in
      ⊎_elim (λ w. subst At (sym w.0) (ends_whole input before after meant text is_text w.1)) (λ w. subst At (sym w.0) (meant, text, is_text, w.1)) written

  pub ends_to : (known before after : Option (List ℕ)) (meant ending : Ending) (text : List ℕ) →
      IfSome known (λ input. IsText answers begins input meant text) → IsWritten meant text before after ending → EndsTo answers begins known before after ending
  ends_to None before after meant ending text is_text written = tt
  ends_to (Some input) before after meant ending text is_text written = ends_as input before after meant ending text is_text written

  pub too_long_text : (known : Option (List ℕ)) → IfSome known (λ input. most_input < length input) → IfSome known (λ input. IsText answers begins input (Answered Unreadable) (unreadable_line TooLong))
  too_long_text None long = tt
  too_long_text (Some input) long = (NotRead TooLong, inl (long, refl), refl, refl)

  stop_text : (input : List ℕ) (stop : Stop) → IsText answers begins input (Stopped stop) (stop_line stop)
  stop_text input Memory = ([], inl refl, refl)
  stop_text input Device = refl

  pub stopped_text : (known : Option (List ℕ)) (stop : Stop) → IfSome known (λ input. IsText answers begins input (Stopped stop) (stop_line stop))
  stopped_text None stop = tt
  stopped_text (Some input) stop = stop_text input stop

-- a front, and then the line
pub written_after : (first between last : Option (List ℕ)) (meant ending : Ending) (front line : List ℕ) →
    Appends first between front → IsWritten meant line between last ending → IsWritten meant (front ++ line) first last ending
written_after first between last meant ending front line whole written =
    ⊎_elim (λ w. inl (w.0, Appends-trans first between last front line whole w.1)) (λ w. inr (w.0, part_after first between last front line whole w.1)) written
