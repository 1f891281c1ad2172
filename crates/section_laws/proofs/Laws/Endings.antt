-- what ends a section: a step of its hart, which commits it or rolls it back, or an event of the bus with a winner
use Rattle.std.proofs.Common.{◌≡◌, ◌∙◌, ◌⊎◌, ℕ, true, false, Option, None, Some, is_some, refl, ap, sym, subst}
use Rattle.std.proofs.Common.{inl, inr}
use Rattle.el_base.specs.Winners.{winner_over}
use Rattle.el_base.specs.declared.outcomes.Outcome.{Outcome}
use Rattle.el_base.proofs.Laws.Cases.{clash}
use Rattle.el_model.specs.BusEvent.{IsBusEvent}
use Rattle.el_model.specs.Deed.{Arms, Begins, Buffers, Commits, Continues, Deed, Elides, LetsGo, Misses, Rests}
use Rattle.el_model.specs.Deed.{RollsBack, Runs, Waits, hart_after, outcome_of}
use Rattle.el_model.specs.Losses.{HartsAreNumbered, restored, standing_of}
use Rattle.el_model.specs.Next.{step_turn}
use Rattle.el_model.specs.Plain.{candidate_of}
use Rattle.el_model.specs.State.{Hart, ModelState, Turn, hart_of, is_live}
use Rattle.el_model.proofs.Laws.Deeds.{step_deed}
use Rattle.el_model.proofs.Laws.EachHart.{each_with}
use Rattle.el_model.proofs.Laws.HartParts.{candidate_section}
use Rattle.el_model.proofs.Laws.Restoring.{bus_restores}
use Rattle.section_laws.specs.Sections.{is_committed, is_rolled_back}
use Rattle.section_laws.proofs.Laws.NewHarts.{live_below}

abbrev pub HowItEnds : Outcome → Type 0
HowItEnds outcome = (is_committed outcome ≡ true) ⊎ (is_rolled_back outcome ≡ true)

abbrev Ends : ModelState → ℕ → Deed → ℕ → Hart → Type 0
Ends state h deed g hart = is_live state g ≡ true → is_some hart.section ≡ false → (h ≡ g) × HowItEnds (outcome_of deed)

deed_ends : (state : ModelState) (h : ℕ) (deed : Deed) → Ends state h deed h (hart_after state h deed (hart_of state h))
deed_ends state h Rests live ended = clash ended live
deed_ends state h Waits live ended = clash ended live
deed_ends state h (Misses line need) live ended = clash ended live
deed_ends state h (Runs touch) live ended =
    clash ended
    (subst (λ section. is_some section ≡ true) (sym (candidate_section _ _ (candidate_of state h) _)) live)
deed_ends state h (Begins swap) live ended = clash ended refl
deed_ends state h (Buffers section touch) live ended = clash ended refl
deed_ends state h (Commits section) live ended = (refl, inl refl)
deed_ends state h (RollsBack section cause) live ended = (refl, inr refl)
deed_ends state h (Arms word) live ended = clash ended live
deed_ends state h (Elides armed swap) live ended = clash ended refl
deed_ends state h (Continues armed) live ended = clash ended live
deed_ends state h (LetsGo armed) live ended = clash ended live

pub step_ends : (state : ModelState) (h g : ℕ) → is_live state g ≡ true → is_live (step_turn state h).state g ≡ false →
    (h ≡ g) × HowItEnds (step_turn state h).outcome
step_ends state h g =
    let step = step_deed state h in
    rw step.turn_is
    (each_with (Ends state h step.deed) state h (hart_after state h step.deed (hart_of state h))
    (deed_ends state h step.deed)
    (λ k live ended. clash ended live) g)

pub bus_ends : {state : ModelState} {by : ℕ} {turn : Turn} → IsBusEvent state by turn → (h : ℕ) →
    HartsAreNumbered state → is_live state h ≡ true → is_live turn.state h ≡ false →
    is_some (winner_over turn.outcome h) ≡ true
bus_ends {state} {by} {turn} done h numbered live ended = by_winner (winner_over turn.outcome h) refl
  where
    by_winner : (winner : Option ℕ) → winner_over turn.outcome h ≡ winner → is_some winner ≡ true
    by_winner (Some winner) names = refl
    by_winner None none =
        clash ended
        (ap (λ standing. is_some standing.section) (bus_restores done h numbered (live_below state h live))
        ∙ ap (λ w. is_some (restored state.config.mode w (standing_of (hart_of state h))).section) none ∙ live)
