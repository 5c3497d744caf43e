use Rattle.std.proofs.Common.{rules, ◌≡◌, ◌∙◌, Some, List, ℕ, Bor, ap, map, codes}
use Rattle.clap.specs.Words.{found_of}
use Rattle.clap.proofs.WalkLemmas.{raw_values-rows}
use Rattle.command_words.proofs.asked.paths_of.Goals as goal

pub returns-in_ok-extend_from_slice-in-Some : goal.returns-in_ok-extend_from_slice-in-Some
returns-in_ok-extend_from_slice-in-Some c =
    let copied : c.extend_from_slice.new.self.items ≡ c.in-Some.paths.now = search rules in
    ap (λ (paths : List (Bor (List ℕ))). Some (map (λ s. s.now) paths)) copied ∙ c.in-Some.ensures ∙ raw_values-rows (found_of c.args.matches.now) (codes "FILE")

pub returns-in-None : goal.returns-in-None
returns-in-None c = c.in-None.ensures ∙ raw_values-rows (found_of c.args.matches.now) (codes "FILE")
