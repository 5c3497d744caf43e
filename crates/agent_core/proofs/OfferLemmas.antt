-- Points of shared series that are offered, and reports of them that are chosen one after the other.
use Rattle.std.proofs.Common.{◌≡◌, ℕ, ◌+◌, ◌<◌, ◌++◌, List, [], ◌∷◌, Option, length, get_or, drop, take, refl, sym, ap, ◌∙◌, take_all, arith}
use Rattle.std.specs.List.{cons_option}
use Rattle.std.proofs.lemmas.List.{take_more}
use Rattle.agent_core.specs.Told.{Told}
use Rattle.agent_core.specs.Choices.{after, with_chosen}
use Rattle.agent_core.specs.Offered.{after_offers, chosen_offer, chosen_offers, part_after}
use Rattle.agent_core.specs.Sharing.{offer_of, offers, offers_of}
use Rattle.agent_core.specs.declared.target.Series.{Series}
use Rattle.agent_core.specs.declared.target.Listed.{Listed}
use Rattle.agent_core.specs.declared.slot.Point.{Point}
use Rattle.agent_core.specs.declared.report.Head.{Head}
use Rattle.agent_core.specs.declared.report.Report.{Report}
use Rattle.agent_core.specs.declared.sharing.LastScrape.{LastScrape}
use Rattle.agent_core.specs.declared.sharing.Offer.{Offer}
use Rattle.agent_core.proofs.StepLemmas.{add_more, left}

-- ---- offers of a series

pub offers_of_more :
    (series : Series) (targets : List Listed) (lasts : List LastScrape) (points : List Point) (i : ℕ) (point d : Point) (all : List Offer) → i < length points → point ≡ get_or points i d
    → (all ++ cons_option (offer_of series targets lasts points point) []) ++ offers_of series targets lasts points (drop (i + 1) points) ≡ all ++ offers_of series targets lasts points (drop i points)
offers_of_more series targets lasts points i point d all within is =
    add_more all (offer_of series targets lasts points point) (offers_of series targets lasts points (drop (i + 1) points))
    ∙ ap (λ (ps : List Point). all ++ offers_of series targets lasts points ps) (sym (left points i point d within is))

-- ---- their reports

pub offers_more :
    (told : Told) (head : Head) (targets : List Listed) (offers : List Offer) (i : ℕ) (offer d : Offer) (o : Option Report) (reports : List Report) → i < length offers → offer ≡ get_or offers i d
    → o ≡ chosen_offer told head targets offer
    → (reports ++ cons_option o []) ++ chosen_offers (with_chosen told o) head targets (drop (i + 1) offers) ≡ reports ++ chosen_offers told head targets (drop i offers)
offers_more told head targets offers i offer d o reports within is one =
    add_more reports o (chosen_offers (with_chosen told o) head targets (drop (i + 1) offers))
    ∙ ap (λ (p : Option Report). reports ++ cons_option p (chosen_offers (with_chosen told p) head targets (drop (i + 1) offers))) one
    ∙ ap (λ (os : List Offer). reports ++ chosen_offers told head targets os) (sym (left offers i offer d within is))

pub after_offers_more :
    (told : Told) (head : Head) (targets : List Listed) (offers : List Offer) (i : ℕ) (offer d : Offer) (o : Option Report) → i < length offers → offer ≡ get_or offers i d
    → o ≡ chosen_offer told head targets offer → after_offers (with_chosen told o) head targets (drop (i + 1) offers) ≡ after_offers told head targets (drop i offers)
after_offers_more told head targets offers i offer d o within is one =
    ap (λ (p : Option Report). after_offers (with_chosen told p) head targets (drop (i + 1) offers)) one
    ∙ ap (λ (os : List Offer). after_offers told head targets os) (sym (left offers i offer d within is))

after_last_offer : (told : Told) (head : Head) (targets : List Listed) (offers : List Offer) (offer : Offer)
    → after_offers told head targets (offers ++ offer ∷ []) ≡ with_chosen (after_offers told head targets offers) (chosen_offer (after_offers told head targets offers) head targets offer)
after_last_offer told head targets [] offer = refl
after_last_offer told head targets (first ∷ offers) offer = after_last_offer (with_chosen told (chosen_offer told head targets first)) head targets offers offer

-- what was told after one offer more
pub after_offers_next :
    (told : Told) (head : Head) (targets : List Listed) (offers : List Offer) (i : ℕ) (offer d : Offer) (o : Option Report) (now : Told) → i < length offers → offer ≡ get_or offers i d
    → now ≡ after_offers told head targets (take i offers) → o ≡ chosen_offer now head targets offer → with_chosen now o ≡ after_offers told head targets (take (i + 1) offers)
after_offers_next told head targets offers i offer d o now within is at one =
    ap (λ (p : Option Report). with_chosen now p) one
    ∙ ap (λ (t : Told). with_chosen t (chosen_offer t head targets offer)) at
    ∙ sym (after_last_offer told head targets (take i offers) offer)
    ∙ ap (λ (o : Offer). after_offers told head targets (take i offers ++ o ∷ [])) is
    ∙ ap (λ (os : List Offer). after_offers told head targets os) (sym (take_more offers i d within))

-- ---- memory that ends

pub part_all : (told : Told) (head : Head) (said : List (Series × List Point)) (lasts : List (Series × List LastScrape)) (targets : List Listed) (more : ℕ)
    → part_after told head said lasts targets (length targets) more ≡ after_offers (after told head said targets) head targets (take more (offers said targets lasts))
part_all told head said lasts targets more = ap (λ (ts : List Listed). after_offers (after told head said ts) head targets (take more (offers said targets lasts))) (take_all (length targets) targets (omega arith))
