use Rattle.std.proofs.Common.{◌≡◌, ◌∙◌, true, map, string_bytes, ap, IfOk, inr}
use Rattle.std.proofs.lemmas.Result.{IfOk-weaker}
use Rattle.clap.specs.Words.{App, is_simple, subcommand_of, takes}
use Rattle.command_words.specs.Asked.{are_taken, asked_by, asked_in, said}
use Rattle.command_words.proofs.TakenWords.{alone_of, never_ok, program_is_simple}
use Rattle.command_words.proofs.asked.read_words.Goals as goal

is_asked : (c : goal.Joined-matches) → IfOk c.asked_of.result (λ a. said a ≡ asked_in (map string_bytes c.args.words.now))
unfolding asked_in
is_asked c =
    let words = map string_bytes c.args.words.now in
    let rows = (c.in-Ok.ensures.matches (ap is_simple c.in_ok-command.ensures ∙ program_is_simple)).1 in
    IfOk-weaker c.asked_of.result _ _ (λ a is. is ∙ ap asked_by (rows ∙ ap (λ (app : App). subcommand_of app words) c.in_ok-command.ensures)) c.asked_of.ensures

is_refused : (c : goal.Joined-error) → are_taken (map string_bytes c.args.words.now) ≡ true → IfOk c.refused.result (λ a. said a ≡ asked_in (map string_bytes c.args.words.now))
unfolding are_taken
is_refused c taken =
    let words = map string_bytes c.args.words.now in
    never_ok c.refused.result _ (c.refused.ensures.memory (c.in-Err.ensures.passes (ap (λ (app : App). takes app words) c.in_ok-command.ensures ∙ taken)))

pub returns-in-Ok-clause-taken : goal.returns-in-Ok-clause-taken
returns-in-Ok-clause-taken c taken = is_asked c

pub returns-in-Ok-clause-others : goal.returns-in-Ok-clause-others
returns-in-Ok-clause-others c = IfOk-weaker c.asked_of.result _ _ (λ a is. inr is) (is_asked c)

pub returns-in-Ok-clause-alone : goal.returns-in-Ok-clause-alone
returns-in-Ok-clause-alone c = alone_of c.asked_of.result c.args.words.now (λ taken. is_asked c)

pub returns-in-Err-clause-taken : goal.returns-in-Err-clause-taken
returns-in-Err-clause-taken c = is_refused c

pub returns-in-Err-clause-alone : goal.returns-in-Err-clause-alone
returns-in-Err-clause-alone c = alone_of c.refused.result c.args.words.now (is_refused c)
