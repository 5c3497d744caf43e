-- Items and bins of the instance of a moment, and the targets and collectors that they stand for.
use Rattle.std.proofs.Common.{◌≡◌, ℕ, zero, suc, ◌+◌, ◌*◌, ◌/◌, ◌%◌, ◌<◌, List, [], ◌∷◌, Bool, true, false, Option, Some, None, length, get_or, cond, eqb, refl, sym, ap, subst, ◌∙◌, arith}
use Rattle.std.specs.Prelude.{Contains, option_and_then, slice_get}
use Rattle.std.specs.List.{position_from}
use Rattle.std.specs.Option.{option_map, option_map_or}
use Rattle.std.proofs.lemmas.Nat.{div-mul-add, mod-mul-add}
use Rattle.std.proofs.lemmas.List.{length-map}
use Rattle.std.proofs.lemmas.Bool.{eq-eqb, ne_eqb, eqb-true, eqb-false, cond-true, cond-false}
use Rattle.price_certificate.specs.Problem.{IsAllowed, items_of}
use Rattle.price_certificate.proofs.Duality.{allowed_item}
use Rattle.reach_rules.specs.Rules.{reaches}
use Rattle.fleet.specs.Fleet.{live_of, is_live}
use Rattle.fleet_assignment.proofs.Moment.{Moment}
use Rattle.fleet_assignment.specs.Instance.{instance_of, bin_in, place_of, row_from, row_for}
use Rattle.fleet.specs.IsFleet.{IsFleet}
use Rattle.fleet_assignment.specs.Best.{IsReached, is_of_job}
use Rattle.fleet.specs.declared.known_target.KnownTarget.{KnownTarget}
use Rattle.fleet.specs.declared.collector.Collector.{Collector}
use Rattle.fleet.proofs.Chosen.{chosen_has}
use Rattle.fleet_assignment.proofs.Shapes.{found_has}
use Rattle.fleet_assignment.proofs.SoundLemmas.{row_is_from, row_at_item, same_some}
use Rattle.fleet_assignment.proofs.WithinLemmas.{one_place}

-- the item stands for the target, and the bin for the collector and the target's job. The collector reaches the target
pub record Fits (m : Moment) (item bin target collector : ℕ) : Type 0 where
  pub in_live : item < length (live_of m.fleet)
  pub is_target : get_or (live_of m.fleet) item 0 ≡ target
  pub known_as : KnownTarget
  pub is_known : slice_get m.fleet.known target ≡ Some known_as
  pub home : known_as.job < length m.fleet.jobs
  pub place : ℕ
  pub reacher : Collector
  pub found : slice_get m.fleet.collectors place ≡ Some reacher
  pub number : reacher.id ≡ collector
  pub reached : reaches reacher.reach known_as.target ≡ true
  pub is_place : bin ≡ place * length m.fleet.jobs + known_as.job

-- the place of a bin's collector
pub place_by : (m : Moment) (item bin target collector : ℕ) (f : Fits m item bin target collector) → bin / length m.fleet.jobs ≡ f.place
place_by m item bin target collector f = ap (λ (n : ℕ). n / length m.fleet.jobs) f.is_place ∙ div-mul-add f.place (length m.fleet.jobs) f.known_as.job f.home

-- a row has the bin of each collector that reaches the target
has_here : (c : Bool) (x bin : ℕ) (rest : List ℕ) → c ≡ true → x ≡ bin → Contains (cond c (x ∷ rest) rest) bin
has_here true x bin rest e is = (0, omega arith, is)
has_here false x bin rest e is = cc

has_later : (c : Bool) (x bin : ℕ) (rest : List ℕ) → Contains rest bin → Contains (cond c (x ∷ rest) rest) bin
has_later true x bin rest (i, l, at) = (suc i, omega arith, at)
has_later false x bin rest has = has

row_has : (jobs place further bin : ℕ) (cs : List Collector) (k : KnownTarget) (c : Collector) → slice_get cs further ≡ Some c → reaches c.reach k.target ≡ true → bin ≡ (place + further) * jobs + k.job → Contains (row_from jobs place cs k) bin
row_has jobs place further bin [] k c found reached is = cc
row_has jobs place zero bin (x ∷ cs) k c found reached is =
    let same : x ≡ c = cc in
    has_here (reaches x.reach k.target) (place * jobs + k.job) bin (row_from jobs (place + 1) cs k) (ap (λ (y : Collector). reaches y.reach k.target) same ∙ reached) (ap (λ (n : ℕ). n * jobs + k.job) (let r : place ≡ place + 0 = omega arith in r) ∙ sym is)
row_has jobs place (suc further) bin (x ∷ cs) k c found reached is =
    has_later (reaches x.reach k.target) (place * jobs + k.job) bin (row_from jobs (place + 1) cs k)
    (row_has jobs (place + 1) further bin cs k c found reached (is ∙ ap (λ (n : ℕ). n * jobs + k.job) (let r : place + suc further ≡ place + 1 + further = omega arith in r)))

pub fits_allowed : (m : Moment) (item bin target collector : ℕ) → Fits m item bin target collector → IsAllowed (instance_of m.fleet m.before) item bin
fits_allowed m item bin target collector f =
    let row : row_for m.fleet target ≡ row_from (length m.fleet.jobs) 0 m.fleet.collectors f.known_as = ap (λ (o : Option KnownTarget). option_map_or (λ (k : KnownTarget). row_from (length m.fleet.jobs) 0 m.fleet.collectors k) o []) f.is_known in
    subst (λ (bins : List ℕ). Contains bins bin) (sym (row_at_item m item f.in_live ∙ ap (row_for m.fleet) f.is_target ∙ row))
    (row_has (length m.fleet.jobs) 0 f.place bin m.fleet.collectors f.known_as f.reacher f.found f.reached (f.is_place ∙ ap (λ (n : ℕ). n * length m.fleet.jobs + f.known_as.job) (let r : f.place ≡ 0 + f.place = omega arith in r)))

-- the collector at a place
abbrev pub id_at : List Collector → ℕ → ℕ
id_at collectors place = option_map_or (λ (c : Collector). c.id) (slice_get collectors place) 0

items_are : (m : Moment) → items_of (instance_of m.fleet m.before) ≡ length (live_of m.fleet)
unfolding instance_of
items_are m = length-map (live_of m.fleet) (row_for m.fleet)

fits_by :
    (m : Moment) (item bin target : ℕ) (o : Option KnownTarget) → item < length (live_of m.fleet) → get_or (live_of m.fleet) item 0 ≡ target → slice_get m.fleet.known target ≡ o → ((k : KnownTarget) → o ≡ Some k → k.job < length m.fleet.jobs)
    → Contains (option_map_or (λ (k : KnownTarget). row_from (length m.fleet.jobs) 0 m.fleet.collectors k) o []) bin → Fits m item bin target (id_at m.fleet.collectors (bin / length m.fleet.jobs))
fits_by m item bin target None l is e home (i, less, at) = absurd (omega arith)
fits_by m item bin target (Some k) l is e home has =
    let f = row_is_from (length m.fleet.jobs) 0 bin m.fleet.collectors k has in
    let place : bin ≡ f.further * length m.fleet.jobs + k.job = f.is ∙ ap (λ (n : ℕ). n * length m.fleet.jobs + k.job) (let r : 0 + f.further ≡ f.further = omega arith in r) in
    let there : bin / length m.fleet.jobs ≡ f.further = ap (λ (n : ℕ). n / length m.fleet.jobs) place ∙ div-mul-add f.further (length m.fleet.jobs) k.job (home k refl) in
    record {
      in_live = l;
      is_target = is;
      known_as = k;
      is_known = e;
      home = home k refl;
      place = f.further;
      reacher = f.reacher;
      found = f.found;
      number = sym (ap (id_at m.fleet.collectors) there ∙ ap (λ (c : Option Collector). option_map_or (λ (x : Collector). x.id) c 0) f.found);
      reached = f.reached;
      is_place = place;
    }

-- what an allowed pair of an item and a bin stands for
pub allowed_fits : (m : Moment) (item bin : ℕ) → IsFleet m.fleet → IsAllowed (instance_of m.fleet m.before) item bin → Fits m item bin (get_or (live_of m.fleet) item 0) (id_at m.fleet.collectors (bin / length m.fleet.jobs))
allowed_fits m item bin kept allowed =
    let l : item < length (live_of m.fleet) = omega (arith, allowed_item (instance_of m.fleet m.before) item bin allowed, items_are m) in
    let t : ℕ = get_or (live_of m.fleet) item 0 in
    fits_by m item bin t (slice_get m.fleet.known t) l refl refl (λ k e. found_has (λ (x : KnownTarget). x.job < length m.fleet.jobs) m.fleet.known t k kept.homes e) (subst (λ (row : List ℕ). Contains row bin) (row_at_item m item l) allowed)

-- the place of a number in a list
abbrev pub index_of : List ℕ → ℕ → ℕ
index_of [] number = 0
index_of (x ∷ xs) number = cond (eqb x number) 0 (suc (index_of xs number))

index_by : (c : Bool) (x number i : ℕ) (xs : List ℕ) → (c ≡ true → x ≡ number) → (c ≡ false → (i < length xs) × (get_or xs i 0 ≡ number)) → (cond c 0 (suc i) < length (x ∷ xs)) × (get_or (x ∷ xs) (cond c 0 (suc i)) 0 ≡ number)
index_by true x number i xs here later = (omega arith, here refl)
index_by false x number i xs here later = let r = later refl in (omega (arith, r.0), r.1)

index_has : (xs : List ℕ) (number : ℕ) → Contains xs number → (index_of xs number < length xs) × (get_or xs (index_of xs number) 0 ≡ number)
index_has [] number (i, l, at) = absurd (omega arith)
index_has (x ∷ xs) number (zero, l, at) = index_by (eqb x number) x number (index_of xs number) xs (λ e. at) (λ e. absurd (eqb-false x number e at))
index_has (x ∷ xs) number (suc i, l, at) = index_by (eqb x number) x number (index_of xs number) xs (λ e. eqb-true x number e) (λ e. index_has xs number (i, omega arith, at))

known_below : (known : List KnownTarget) (number : ℕ) (k : KnownTarget) → slice_get known number ≡ Some k → number < length known
known_below [] number k e = cc
known_below (x ∷ known) zero k e = omega arith
known_below (x ∷ known) (suc number) k e = omega (arith, known_below known number k e)

-- the place that is found first
pub position_is :
    (p : Collector → Bool) (i place : ℕ) (cs : List Collector) (c : Collector) → slice_get cs place ≡ Some c → p c ≡ true → ((k : ℕ) (x : Collector) → k < place → slice_get cs k ≡ Some x → p x ≡ false) → position_from p i cs ≡ Some (i + place)
position_is p i place [] c found pass fails = cc
position_is p i zero (x ∷ cs) c found pass fails =
    let same : x ≡ c = cc in
    cond-true (p x) (Some i) (position_from p (i + 1) cs) (ap p same ∙ pass) ∙ ap (λ (n : ℕ). Some n) (let r : i ≡ i + 0 = omega arith in r)
position_is p i (suc place) (x ∷ cs) c found pass fails =
    cond-false (p x) (Some i) (position_from p (i + 1) cs) (fails 0 x (omega arith) refl)
    ∙ position_is p (i + 1) place cs c found pass (λ k y l e. fails (suc k) y (omega arith) e)
    ∙ ap (λ (n : ℕ). Some n) (let r : i + 1 + place ≡ i + suc place = omega arith in r)

pub position_none : (p : Collector → Bool) (i : ℕ) (cs : List Collector) → ((k : ℕ) (x : Collector) → slice_get cs k ≡ Some x → p x ≡ false) → position_from p i cs ≡ None
position_none p i [] fails = refl
position_none p i (x ∷ cs) fails = cond-false (p x) (Some i) (position_from p (i + 1) cs) (fails 0 x refl) ∙ position_none p (i + 1) cs (λ k y e. fails (suc k) y e)

pub place_is : (m : Moment) (place id : ℕ) (c : Collector) → IsFleet m.fleet → slice_get m.fleet.collectors place ≡ Some c → c.id ≡ id → place_of m.fleet.collectors id ≡ Some place
place_is m place id c kept found is =
    position_is (λ (x : Collector). eqb x.id id) 0 place m.fleet.collectors c found (eq-eqb c.id id is)
    (λ k x l e. ne_eqb x.id id (λ s. let r : k ≡ place = one_place m k place x c kept e found (s ∙ sym is) in absurd (omega arith)))
    ∙ ap (λ (n : ℕ). Some n) (let r : 0 + place ≡ place = omega arith in r)

-- the bin of a known target at a live collector
pub bin_is :
    (m : Moment) (target collector place : ℕ) (k : KnownTarget) (c : Collector) → IsFleet m.fleet → slice_get m.fleet.known target ≡ Some k → slice_get m.fleet.collectors place ≡ Some c → c.id ≡ collector
    → bin_in (length m.fleet.jobs) m.fleet.collectors m.fleet.known target collector ≡ Some (place * length m.fleet.jobs + k.job)
bin_is m target collector place k c kept known found is =
    ap (λ (o : Option KnownTarget). option_and_then (λ (x : KnownTarget). option_map (λ (p : ℕ). p * length m.fleet.jobs + x.job) (place_of m.fleet.collectors collector)) o) known
    ∙ ap (λ (o : Option ℕ). option_map (λ (p : ℕ). p * length m.fleet.jobs + k.job) o) (place_is m place collector c kept found is)

-- the item and the bin of a live target and a live collector
abbrev pub item_of : Moment → ℕ → ℕ
item_of m target = index_of (live_of m.fleet) target

abbrev pub bin_of : Moment → ℕ → ℕ → ℕ
bin_of m target collector = option_map_or (λ (b : ℕ). b) (bin_in (length m.fleet.jobs) m.fleet.collectors m.fleet.known target collector) 0

pub reached_fits : (m : Moment) (target collector : ℕ) → IsFleet m.fleet → is_live m.fleet target ≡ true → IsReached m.fleet target collector → Fits m (item_of m target) (bin_of m target collector) target collector
reached_fits m target collector kept live r =
    let at = index_has (live_of m.fleet) target (chosen_has (is_live m.fleet) (length m.fleet.known) target (known_below m.fleet.known target r.known_as r.is_known) live) in
    record {
      in_live = at.0;
      is_target = at.1;
      known_as = r.known_as;
      is_known = r.is_known;
      home = found_has (λ (x : KnownTarget). x.job < length m.fleet.jobs) m.fleet.known target r.known_as kept.homes r.is_known;
      place = r.place;
      reacher = r.reacher;
      found = r.is_live_one;
      number = r.number;
      reached = r.reached;
      is_place = ap (λ (o : Option ℕ). option_map_or (λ (b : ℕ). b) o 0) (bin_is m target collector r.place r.known_as r.reacher kept r.is_known r.is_live_one r.number);
    }

-- two that have one bin have one collector and one job
pub same_bin : (m : Moment) (i b t c j d u e : ℕ) (f : Fits m i b t c) (g : Fits m j d u e) → b ≡ d → (c ≡ e) × (is_of_job m.fleet g.known_as.job t ≡ true)
same_bin m i b t c j d u e f g same =
    let jobs : ℕ = length m.fleet.jobs in
    let places : f.place ≡ g.place = sym (place_by m i b t c f) ∙ ap (λ (n : ℕ). n / jobs) same ∙ place_by m j d u e g in
    let one : f.reacher ≡ g.reacher = same_some f.reacher g.reacher (slice_get m.fleet.collectors f.place) f.found (ap (slice_get m.fleet.collectors) places ∙ g.found) in
    let job : f.known_as.job ≡ g.known_as.job =
    sym (mod-mul-add f.place jobs f.known_as.job f.home) ∙ ap (λ (n : ℕ). n % jobs) (sym f.is_place ∙ same ∙ g.is_place) ∙ mod-mul-add g.place jobs g.known_as.job g.home in (
      sym f.number ∙ ap (λ (x : Collector). x.id) one ∙ g.number,
      ap (λ (o : Option KnownTarget). option_map_or (λ (k : KnownTarget). eqb k.job g.known_as.job) o false) f.is_known ∙ eq-eqb f.known_as.job g.known_as.job job,
    )
