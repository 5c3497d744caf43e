-- What `clap` takes the words of a command line for.
use Rattle.std.proofs.Common.{◌≡◌, ◌∙◌, Bool, true, false, List, [], ◌∷◌, Option, Some, None, Result, Ok, Err, IsErr, IfOk, IfSome, codes, map, refl, sym, subst, String, string_bytes, if◌then◌else◌}
use Rattle.std.specs.Str.{bytes_eq}
use Rattle.std.specs.declared.alloc.Global.{Global}
use Rattle.std.specs.declared.alloc.AllocError.{AllocError}
use Rattle.std.proofs.lemmas.Result.{IfOk-weaker}
use Rattle.std.proofs.lemmas.Slice.Eq.{bytes_eq-Decides}
use Rattle.clap.specs.Words.{Text, is_simple}
use Rattle.clap.proofs.OnLiterals.{clap_on_literals}
use Rattle.command_words.specs.Commands.{program}
use Rattle.command_words.specs.Asked.{Answers, Said, are_taken, asked_in, command_in, command_named, said}
use Rattle.command_words.specs.declared.asked.Asked.{Asked}
use Rattle.command_words.specs.declared.asked.InputCommand.{InputCommand}
use Rattle.command_words.specs.declared.asked.InputCommand.TheVariants.{Check, Plan, Relabel, Replay}

pub program_is_simple : is_simple program ≡ true
unfolding clap_on_literals
program_is_simple = refl

-- one word asks for a command that answers an input
abbrev AsksFor : Text → InputCommand → Type 0
AsksFor word command = (are_taken (word ∷ []) ≡ true) × (asked_in (word ∷ []) ≡ Some (Answers command))

asks_check : AsksFor (codes "check") Check
unfolding clap_on_literals are_taken asked_in
asks_check = (refl, refl)

asks_plan : AsksFor (codes "plan") Plan
unfolding clap_on_literals are_taken asked_in
asks_plan = (refl, refl)

asks_relabel : AsksFor (codes "relabel") Relabel
unfolding clap_on_literals are_taken asked_in
asks_relabel = (refl, refl)

asks_replay : AsksFor (codes "replay") Replay
unfolding clap_on_literals are_taken asked_in
asks_replay = (refl, refl)

by_word : (word other : Text) (command : InputCommand) → bytes_eq word other ≡ true → AsksFor other command → AsksFor word command
by_word word other command same asks = subst (λ (w : Text). AsksFor w command) (sym ((bytes_eq-Decides word other).0 same)) asks

one_word : (word : Text) → IfSome (command_named word) (AsksFor word)
one_word word = at_check (bytes_eq word (codes "check")) refl
  where
    at_replay : (b : Bool) → bytes_eq word (codes "replay") ≡ b → IfSome (if b then Some Replay else None) (AsksFor word)
    at_replay true same = by_word word _ Replay same asks_replay
    at_replay false same = tt

    at_relabel : (b : Bool) → bytes_eq word (codes "relabel") ≡ b → IfSome (if b then Some Relabel else if bytes_eq word (codes "replay") then Some Replay else None) (AsksFor word)
    at_relabel true same = by_word word _ Relabel same asks_relabel
    at_relabel false same = at_replay _ refl

    at_plan : (b : Bool) → bytes_eq word (codes "plan") ≡ b
        → IfSome (if b then Some Plan else if bytes_eq word (codes "relabel") then Some Relabel else if bytes_eq word (codes "replay") then Some Replay else None) (AsksFor word)
    at_plan true same = by_word word _ Plan same asks_plan
    at_plan false same = at_relabel _ refl

    at_check : (b : Bool) → bytes_eq word (codes "check") ≡ b
        → IfSome (if b then Some Check else if bytes_eq word (codes "plan") then Some Plan else if bytes_eq word (codes "relabel") then Some Relabel else if bytes_eq word (codes "replay") then Some Replay else None) (AsksFor word)
    at_check true same = by_word word _ Check same asks_check
    at_check false same = at_plan _ refl

-- what holds where words are taken holds of one word for a command
pub alone_of : (r : Result Asked AllocError) (words : List (String Global)) →
    (are_taken (map string_bytes words) ≡ true → IfOk r (λ a. said a ≡ asked_in (map string_bytes words))) →
    IfSome (command_in words) (λ c. IfOk r (λ a. said a ≡ Some (Answers c)))
alone_of r [] h = tt
alone_of r (word ∷ []) h = go (command_named (string_bytes word)) (one_word (string_bytes word))
  where
    go : (o : Option InputCommand) → IfSome o (AsksFor (string_bytes word)) → IfSome o (λ c. IfOk r (λ a. said a ≡ Some (Answers c)))
    go None asks = tt
    go (Some c) asks = IfOk-weaker r _ _ (λ a is. is ∙ asks.1) (h asks.0)
alone_of r (word ∷ more ∷ words) h = tt

pub never_ok : (r : Result Asked AllocError) (meant : Option Said) → IsErr r → IfOk r (λ a. said a ≡ meant)
never_ok (Ok a) meant err = cc
never_ok (Err e) meant err = tt
