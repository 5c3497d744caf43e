-- Acts one after the other.
use Rattle.std.proofs.Common.{◌≡◌, ◌⊎◌, ℕ, List, [], ◌∷◌, Bool, true, false, inl, inr, take, refl, sym, ap, subst, ◌∙◌}
use Rattle.serde_json.specs.Written.{compact_text}
use Rattle.agent_core.specs.Agents.{Input, Over, State, next}
use Rattle.agent_core.specs.Told.{Told}
use Rattle.agent_core.specs.declared.report.Report.{Report}
use Rattle.agent_documents.specs.States.{state_data}
use Rattle.agent_turns.specs.Acts.{Act, Acted, PostedFirst, Runs, Wrote, posts, written}

moved : (text : List ℕ) (done at : Bool) (told : Told) → text ≡ compact_text (state_data told) → done ≡ at → Wrote text done ≡ written told at
moved text done at told e d = (λ i. Wrote (e i) (d i))

-- the state is not on the device
pub unwritten : {S : Type 0} (may_act : S → Act → S → Type 0) (old new : S) (text : List ℕ) (done : Bool) (told : Told) (reports : List Report) → text ≡ compact_text (state_data told) → done ≡ false
    → may_act old (Wrote text done) new → Acted may_act old new told reports
unwritten may_act old new text done told reports e d step = record {
  acts = written told false ∷ [];
  run = (new, subst (λ (act : Act). may_act old act new) (moved text done false told e d) step, refl);
  first = inr (inl refl);
}

-- the state is on the device, and the first of the reports are posted behind it
pub posted : {S : Type 0} (may_act : S → Act → S → Type 0) (old mid new : S) (text : List ℕ) (done : Bool) (told now : Told) (sent reports : List Report) → text ≡ compact_text (state_data told) → done ≡ true
    → may_act old (Wrote text done) mid → PostedFirst may_act mid new sent → sent ≡ reports → now ≡ told → Acted may_act old new now reports
posted may_act old mid new text done told now sent reports e d step after same at = record {
  acts = written now true ∷ posts (take after.count reports);
  run = (
    mid,
    subst (λ (act : Act). may_act old act mid) (moved text done true now (e ∙ ap (λ (t : Told). compact_text (state_data t)) (sym at)) d) step,
    subst (λ (rs : List Report). Runs may_act mid (posts (take after.count rs)) new) same after.run,
  );
  first = inr (inr (after.count, refl));
}

-- nothing was done
pub quiet : {S : Type 0} (may_act : S → Act → S → Type 0) (s : S) (told : Told) (reports : List Report) → Acted may_act s s told reports
quiet may_act s told reports = record { acts = []; run = refl; first = inl refl }

-- that a round is over changes nothing of what was told
pub told_of : (s t : State) → ((t ≡ s) ⊎ (t ≡ next s Over)) → t.told ≡ s.told
told_of s t (inl e) = ap (λ (u : State). u.told) e
told_of s t (inr e) = ap (λ (u : State). u.told) e

-- the state behind an input, and the same where a round is over
pub overs : (s mid t : State) (input : Input) → mid ≡ next s input → ((t ≡ mid) ⊎ (t ≡ next mid Over)) → ((t ≡ next s input) ⊎ (t ≡ next (next s input) Over))
overs s mid t input e (inl f) = inl (f ∙ e)
overs s mid t input e (inr f) = inr (f ∙ ap (λ (u : State). next u Over) e)
