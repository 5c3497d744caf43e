-- What the slots tell of the lists that were served last.
use Rattle.std.specs.Prelude.{◌≡◌, ◌<◌, ◌≤◌, ◌≢◌, ◌==◌, ◌&&◌, true, false, ℕ, List, [], ◌++◌, if◌then◌else◌, filter, length, Option, Some, None}
use Rattle.fleet.specs.Live.{is_in}
use Rattle.fleet.specs.Orderly.{is_of}
use Rattle.fleet.specs.declared.known_target.KnownTarget.{KnownTarget}
use Rattle.served_lists.specs.Served.{Served, has, is_job_or_any, left_out_of, listed_of, number_of, slot_of, with_list, without_list}

-- Lists by collector and job. A target stands in the list of a collector and a job exactly where it is of the job and its slot names
-- the collector: so in one list at most.
abbrev pub Tells : List KnownTarget → List ℕ → (ℕ → ℕ → List ℕ) → Type 0
Tells known slots lists = (collector job target : ℕ) → 0 < collector → is_in (lists collector job) target ≡ ((slot_of slots target == collector) && is_of known job target)

-- no collector has a list
abbrev pub no_lists : ℕ → ℕ → List ℕ
no_lists collector job = []

abbrev pub NoneTell : Type 0
NoneTell = (known : List KnownTarget) → Tells known [] no_lists

-- the lists, with this one of a collector and a job
abbrev pub lists_with : (ℕ → ℕ → List ℕ) → ℕ → ℕ → List ℕ → ℕ → ℕ → List ℕ
lists_with lists collector job targets c j = if (c == collector) && (j == job) then targets else lists c j

-- Where a collector is served a list, that list is the one served and the others stay.
abbrev pub ServingTells : Type 0
ServingTells =
    (known : List KnownTarget) (served : Served) (lists : ℕ → ℕ → List ℕ) (collector job number : ℕ) (held : List ℕ) → 0 < collector → Tells known served.slots lists
    → Tells known (with_list known served collector job number held).slots (lists_with lists collector job (listed_of known served.slots collector job held))

-- the lists without those of a collector, that of a job where one is named
abbrev pub lists_without : (ℕ → ℕ → List ℕ) → ℕ → Option ℕ → ℕ → ℕ → List ℕ
lists_without lists collector job c j = if (c == collector) && is_job_or_any job j then [] else lists c j

-- Where lists are let go, these are empty and the others stay.
abbrev pub LettingGoTells : Type 0
LettingGoTells =
    (known : List KnownTarget) (served : Served) (lists : ℕ → ℕ → List ℕ) (collector : ℕ) (job : Option ℕ) → Tells known served.slots lists → Tells known (without_list known served collector job).slots (lists_without lists collector job)

-- Where more targets become known, the lists stay: no list has a target past the last slot.
abbrev pub GrowingTells : Type 0
GrowingTells = (known more : List KnownTarget) (slots : List ℕ) (lists : ℕ → ℕ → List ℕ) → length slots ≤ length known → Tells known slots lists → Tells (known ++ more) slots lists

-- No target stands in two lists.
abbrev pub ListsAreDisjoint : Type 0
ListsAreDisjoint =
    (known : List KnownTarget) (slots : List ℕ) (lists : ℕ → ℕ → List ℕ) (c j other_c other_j target : ℕ) → Tells known slots lists → 0 < c → 0 < other_c → ((c == other_c) && (j == other_j)) ≡ false → is_in (lists c j) target ≡ true
    → is_in (lists other_c other_j) target ≡ false

-- a list of another collector, of the same job, has the target
pub record IsInAnother (lists : ℕ → ℕ → List ℕ) (collector job target : ℕ) : Type 0 where
  pub other : ℕ
  pub another : other ≢ collector
  pub given : 0 < other
  pub there : is_in (lists other job) target ≡ true

-- What a list leaves out stands in a list of another collector.
abbrev pub LeftOutForAnother : Type 0
LeftOutForAnother =
    (known : List KnownTarget) (slots : List ℕ) (lists : ℕ → ℕ → List ℕ) (collector job target : ℕ) (held : List ℕ) → Tells known slots lists → is_in (left_out_of known slots collector job held) target ≡ true
    → IsInAnother lists collector job target

-- What no list has is served to who holds it.
abbrev pub FreeIsListed : Type 0
FreeIsListed =
    (known : List KnownTarget) (slots : List ℕ) (collector job target : ℕ) (held : List ℕ) → is_in (filter (is_of known job) held) target ≡ true → slot_of slots target ≡ 0 → is_in (listed_of known slots collector job held) target ≡ true

-- What a list had that is let go, no list has.
abbrev pub LetGoIsFree : Type 0
LetGoIsFree = (known : List KnownTarget) (served : Served) (collector target : ℕ) (job : Option ℕ) → has known served.slots collector job target ≡ true → slot_of (without_list known served collector job).slots target ≡ 0

-- Where lists are let go, these are of no allocation any more, and the others of the one that they were of.
abbrev pub LetGoIsForgotten : Type 0
LetGoIsForgotten =
    (known : List KnownTarget) (served : Served) (collector c j : ℕ) (job : Option ℕ)
    → number_of (without_list known served collector job).numbers c j ≡ (if (c == collector) && is_job_or_any job j then None else number_of served.numbers c j)

-- What a list had, no list has once its collector is served it anew and no longer holds the target.
abbrev pub ServedAnewIsFree : Type 0
ServedAnewIsFree =
    (known : List KnownTarget) (served : Served) (collector job number target : ℕ) (held : List ℕ) → has known served.slots collector (Some job) target ≡ true → is_in held target ≡ false
    → slot_of (with_list known served collector job number held).slots target ≡ 0
