use Rattle.std.proofs.Common.{◌≡◌, ◌∙◌, Option, Some, List, Bool, ap, refl, codes}
use Rattle.std.specs.Prelude.{option_map}
use Rattle.std.proofs.lemmas.Result.{IfOk-weaker}
use Rattle.clap.specs.Words.{Row, Text, first_of, found_of, rows_of}
use Rattle.clap.proofs.WalkLemmas.{first_value-rows}
use Rattle.command_words.specs.Asked.{Said, Serves, is_set, serves_by}
use Rattle.command_words.proofs.asked.serve_of.Goals as goal

-- what is asked with these rows, of a configuration
abbrev serves : List Row → Text → Said
serves rows config = Serves config (first_of (codes "listen") rows) (first_of (codes "journal") rows) (is_set (first_of (codes "check-config") rows))

served : (rows : List Row) (config : Text) (listen journal : Option Text) (checks : Bool) →
    Some config ≡ first_of (codes "config") rows → listen ≡ first_of (codes "listen") rows → journal ≡ first_of (codes "journal") rows →
    checks ≡ is_set (first_of (codes "check-config") rows) → Some (Serves config listen journal checks) ≡ serves_by rows
served rows config listen journal checks is_config is_listen is_journal is_checks =
    let same : Some (Serves config listen journal checks) ≡ Some (serves rows config) = rw (is_listen, is_journal, is_checks) refl in
    same ∙ ap (option_map (serves rows)) is_config

pub returns-in-Some : goal.returns-in-Some
returns-in-Some c =
    let found = found_of c.args.matches.now in
    served (rows_of found) _ _ _ _
    (c.in-Some.ensures ∙ first_value-rows found (codes "config"))
    (c.get_str-in-Some.ensures ∙ first_value-rows found (codes "listen"))
    (c.get_str-in-Some-2.ensures ∙ first_value-rows found (codes "journal"))
    (c.is_set.ensures ∙ ap is_set (c.get_str-in-Some-3.ensures ∙ first_value-rows found (codes "check-config")))

pub returns-in-None : goal.returns-in-None
returns-in-None c =
    let found = found_of c.args.matches.now in
    IfOk-weaker c.no_command.result _ _ (λ a h. h ∙ ap (option_map (serves (rows_of found))) (c.in-None.ensures ∙ first_value-rows found (codes "config"))) c.no_command.ensures
