-- Adding a command that has only a name, options and files.
use Rattle.std.proofs.Common.{◌≡◌, ◌∙◌, Bool, true, false, not, ◌&&◌, ap}
use Rattle.clap.specs.Words.{AddsSubcommand, App, app_of, with_subcommand}
use Rattle.clap.specs.declared.builder.command.Command.{Command}

right_of : (a b : Bool) → (a && b) ≡ true → b ≡ true
right_of true b h = h
right_of false b h = cc

left_not : (a b : Bool) → (not a && b) ≡ true → a ≡ false
left_not true b h = cc
left_not false b h = cc

pub adds_plain : (old sub new : Command) (app : App) → AddsSubcommand old sub new → app_of sub ≡ app → app.top.is_plain ≡ true →
    app_of new ≡ with_subcommand (app_of old) app.top
adds_plain old sub new app adds same plain =
    let plain_sub : (app_of sub).top.is_plain ≡ true = ap (λ (a : App). a.top.is_plain) same ∙ plain in
    adds.shape (left_not _ _ (right_of _ _ (right_of _ _ plain_sub))) ∙ ap (λ (a : App). with_subcommand (app_of old) a.top) same
