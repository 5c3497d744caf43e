-- What needs attention.
use Rattle.std.specs.Prelude.{ℕ, Bool, List, [], ◌∷◌, nat_eq, nat_lt, not}
use Rattle.std.specs.List.{count_by}
use Rattle.service_pages.specs.declared.counted.Counted.{Counted}
use Rattle.service_pages.specs.declared.needs.Need.{Need}
use Rattle.service_pages.specs.declared.needs.Need.TheVariants.{Journal, Device, Uncovered, NoTargets, Configuration, Sources, Behind, HandingOver, Connections}

abbrev pub is_needed : Counted → Need → Bool
is_needed c Journal = c.is_broken
is_needed c Device = c.is_hanging
is_needed c Uncovered = nat_lt 0 c.uncovered
is_needed c NoTargets = nat_eq c.live 0
is_needed c Configuration = not c.is_followed
is_needed c Sources = nat_lt 0 c.failing
is_needed c Behind = nat_lt 0 c.behind
is_needed c HandingOver = nat_lt 0 c.handing_over
is_needed c Connections = c.is_full

abbrev pub all_needs : List Need
all_needs = Journal ∷ Device ∷ Uncovered ∷ NoTargets ∷ Configuration ∷ Sources ∷ Behind ∷ HandingOver ∷ Connections ∷ []

-- how many things need attention
abbrev pub needs : Counted → ℕ
needs c = count_by (is_needed c) all_needs
