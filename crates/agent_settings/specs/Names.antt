-- The names of members. The tables stand in `src/tables.rt`.
use Rattle.std.specs.Prelude.{ℕ, List, map}
use Rattle.agent_settings.specs.declared.members.Kind.{Kind}
use Rattle.agent_settings.specs.declared.members.Kind.TheVariants.{Document, Tokens, Join}
use Rattle.agent_settings.specs.declared.tables.TheConstants.{DOCUMENT, TOKENS, JOIN}

abbrev pub names_of : Kind → List (List ℕ)
names_of Document = map (λ s. s.now) DOCUMENT
names_of Tokens = map (λ s. s.now) TOKENS
names_of Join = map (λ s. s.now) JOIN
