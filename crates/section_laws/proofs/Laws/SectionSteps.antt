-- how the steps of a section come out, and that none begins while its hart has the fallback flag
use Rattle.std.proofs.Common.{◌≡◌, ◌≢◌, ◌∙◌, ◌≤◌, ◌<◌, ℕ, Bool, true, false, ◌&&◌, not, List, [], ◌∷◌, Option, None}
use Rattle.std.proofs.Common.{Some, is_some, length, refl, ap}
use Rattle.std.proofs.Common.{sym, subst, inl, inr, ◌⊎◌}
use Rattle.std.specs.Prelude.{nat_le}
use Rattle.std.proofs.lemmas.Bool.{cases_eq}
use Rattle.bus_order.specs.Order.{Request}
use Rattle.el_base.specs.declared.config.Mode.{Mode}
use Rattle.el_base.specs.declared.events.Event.{Event}
use Rattle.el_base.specs.declared.events.Kind.{Kind}
use Rattle.el_base.specs.declared.events.Kind.TheVariants as kinds
use Rattle.el_base.specs.declared.outcomes.Cause.{Cause}
use Rattle.el_base.specs.declared.outcomes.Outcome.TheVariants as outcomes
use Rattle.el_base.proofs.Laws.Cases.{clash, some_none}
use Rattle.el_model.specs.BusEvent.{IsOfBus}
use Rattle.el_model.specs.Deed.{Arms, Begins, Buffers, Commits, Continues, Deed, DoesWhere, Elides, LetsGo, Misses}
use Rattle.el_model.specs.Deed.{Rests, RollsBack, Runs, Waits}
use Rattle.el_model.specs.Deed.{done, hart_after, outcome_of}
use Rattle.el_model.specs.Next.{after, kind_turn, next, state_after, step_turn}
use Rattle.el_model.specs.Plain.{after_candidate, candidate_of, elides, least_confidence, may_elide}
use Rattle.el_model.specs.Serve.{with_claim}
use Rattle.el_model.specs.State.{Hart, ModelState, Section, hart_of, is_live, section_of}
use Rattle.el_model.specs.Upcoming.{Swap}
use Rattle.el_model.proofs.Laws.BusEvents.{by_event}
use Rattle.el_model.proofs.Laws.Deeds.{is_rolled, step_deed}
use Rattle.el_model.proofs.Laws.Harts.{hart_of-past, hart_of-with_hart_same}
use Rattle.pair_table.specs.Predictor.{confidence_of}
use Rattle.section_laws.specs.Sections.{IsOfSection, NeverRunsCandidate, NoneBeginsAfterRollback, RunsCandidate}
use Rattle.section_laws.specs.Sections.{SectionStepsAreOfFiveKinds}
use Rattle.el_model.proofs.Laws.EachHart.{each_but}
use Rattle.section_laws.proofs.Laws.EachKept.{BusKept, turn_keeps}
use Rattle.section_laws.proofs.Laws.NewHarts.{live_below}
use Rattle.section_laws.proofs.Laws.Waiting.{Sound, always_sound}

not_live : {X : Type 0} (section : Option Section) → is_some section ≡ true → section ≡ None → X
not_live None live none = absurd (cc)
not_live (Some section) live none = absurd (cc)

deed_of_section : (state : ModelState) (h : ℕ) (deed : Deed) → DoesWhere state h deed → Sound state →
    is_live state h ≡ true → IsOfSection (outcome_of deed)
deed_of_section state h Rests ended sound live = not_live (section_of state h) live ((sound h).stopped ended).no_section
deed_of_section state h Waits does sound live = tt
deed_of_section state h (Misses line need) does sound live = tt
deed_of_section state h (Runs touch) runs sound live = not_live (section_of state h) live runs.outside.no_section
deed_of_section state h (Begins swap) begins sound live = not_live (section_of state h) live begins.outside.no_section
deed_of_section state h (Buffers section touch) does sound live = tt
deed_of_section state h (Commits section) does sound live = tt
deed_of_section state h (RollsBack section cause) does sound live = tt
deed_of_section state h (Arms word) arms sound live = not_live (section_of state h) live arms.outside.no_section
deed_of_section state h (Elides armed swap) elides sound live =
    not_live (section_of state h) live elides.is_armed.no_section
deed_of_section state h (Continues armed) continues sound live =
    not_live (section_of state h) live continues.is_armed.no_section
deed_of_section state h (LetsGo armed) lets_go sound live =
    not_live (section_of state h) live lets_go.is_armed.no_section

step_of_section : (state : ModelState) (h : ℕ) (kind : Kind) → kind ≡ kinds.Step → Sound state →
    is_live state h ≡ true → IsOfSection (kind_turn state h kind).outcome
step_of_section state h kind is sound live =
    let step = step_deed state h in
    rw is (rw step.turn_is (deed_of_section state h step.deed step.where_it sound live))

pub section_steps_are_of_five_kinds : SectionStepsAreOfFiveKinds
unfolding next
section_steps_are_of_five_kinds program config events event is live =
    step_of_section (after program config events) event.hart.number event.kind is
    (always_sound program config events) live

-- a hart with the fallback flag that is not armed stays so in every event but a candidate that runs
record IsBarred (hart : Hart) : Type 0 where
  flag : hart.fallback ≡ true
  unarmed : hart.armed ≡ None

abbrev Flagged : ModelState → ℕ → Hart → Type 0
Flagged old h hart = IsBarred (hart_of old h) → IsBarred hart

claim_barred : (live : Bool) (request : Request) (old new : Hart) → new.fallback ≡ old.fallback →
    new.armed ≡ old.armed → IsBarred old → IsBarred (with_claim live request new)
claim_barred true request old new flag armed now = record { flag = flag ∙ now.flag; unarmed = armed ∙ now.unarmed }
claim_barred false request old new flag armed now = record { flag = flag ∙ now.flag; unarmed = armed ∙ now.unarmed }

flag_kept : (old : ModelState) → BusKept (Flagged old)
flag_kept old = record {
  moves = record {
    posted_to = λ h hart mail now was. record { flag = (now was).flag; unarmed = (now was).unarmed };
    told = λ h hart told now was. record { flag = (now was).flag; unarmed = (now was).unarmed };
    preceded = λ h hart upstream now was. record { flag = (now was).flag; unarmed = (now was).unarmed };
    saw = λ h hart seen later now was. record { flag = (now was).flag; unarmed = (now was).unarmed };
    lost = λ h hart now was. record { flag = (now was).flag; unarmed = refl };
    freed = λ h pc hart now was. record { flag = (now was).flag; unarmed = refl };
    gave_up = λ h hart now was. record { flag = refl; unarmed = (now was).unarmed };
    tried = λ h hart more now was. record { flag = (now was).flag; unarmed = (now was).unarmed };
  };
  unraised = λ h hart now was. record { flag = (now was).flag; unarmed = (now was).unarmed };
  served = λ h state request hart now was. claim_barred (is_some hart.section) request hart _ refl refl (now was);
  bystander = λ h state request hart now was. record { flag = (now was).flag; unarmed = (now was).unarmed };
}

candidate_barred : (pc : Option ℕ) (had_watch : Bool) (candidate : Option Swap) (old new : Hart) →
    (is_some candidate ≡ true → ⊥) → new.fallback ≡ old.fallback → new.armed ≡ old.armed → IsBarred old →
    IsBarred (after_candidate pc had_watch candidate new)
candidate_barred pc had_watch None old new none flag armed was =
    record { flag = flag ∙ was.flag; unarmed = armed ∙ was.unarmed }
candidate_barred pc had_watch (Some swap) old new none flag armed was = absurd (none refl)

-- no hart elides or arms with the flag
refused : {X : Type 0} (a flag b : Bool) → flag ≡ true → (a && not flag && b) ≡ true → X
refused true true b was wrong = absurd (cc)
refused false true b was wrong = absurd (cc)
refused a false b was wrong = absurd (cc)

untrusted : {X : Type 0} (mode : Mode) (hart : Hart) (pc : ℕ) → hart.fallback ≡ true → may_elide mode hart pc ≡ true → X
untrusted mode hart pc was trusted =
    refused (elides mode) hart.fallback (nat_le least_confidence (confidence_of hart.predictor pc)) was trusted

not_armed : {A X : Type 0} {x : A} {armed : Option A} → armed ≡ Some x → armed ≡ None → X
not_armed is none = some_none (sym is ∙ none)

deed_flagged : (state : ModelState) (h : ℕ) (deed : Deed) → DoesWhere state h deed →
    (outcome_of deed ≡ outcomes.Ran → is_some (candidate_of state h) ≡ true → ⊥) →
    Flagged state h (hart_after state h deed (hart_of state h))
deed_flagged state h Rests does none was = was
deed_flagged state h Waits does none was = was
deed_flagged state h (Misses line need) does none was = record { flag = was.flag; unarmed = was.unarmed }
deed_flagged state h (Runs touch) does none was =
    candidate_barred _ _ (candidate_of state h) (hart_of state h) _ (none refl) refl refl was
deed_flagged state h (Begins swap) does none was = record { flag = was.flag; unarmed = refl }
deed_flagged state h (Buffers section touch) does none was = record { flag = was.flag; unarmed = was.unarmed }
deed_flagged state h (Commits section) does none was = record { flag = was.flag; unarmed = refl }
deed_flagged state h (RollsBack section cause) does none was = record { flag = refl; unarmed = refl }
deed_flagged state h (Arms word) arms none was =
    untrusted state.config.mode (hart_of state h) _ was.flag arms.reserving.trusted
deed_flagged state h (Elides armed swap) elides none was = not_armed elides.is_armed.armed_is was.unarmed
deed_flagged state h (Continues armed) continues none was = not_armed continues.is_armed.armed_is was.unarmed
deed_flagged state h (LetsGo armed) lets_go none was = not_armed lets_go.is_armed.armed_is was.unarmed

no_flag : {X : Type 0} (state : ModelState) (h : ℕ) → length state.harts ≤ h → IsBarred (hart_of state h) → X
no_flag state h past was = clash (ap (λ hart. hart.fallback) (hart_of-past state h past)) was.flag

step_flagged : (state : ModelState) (h g : ℕ) →
    (g ≡ h → (step_turn state h).outcome ≡ outcomes.Ran → is_some (candidate_of state h) ≡ true → ⊥) →
    Flagged state g (hart_of (step_turn state h).state g)
step_flagged state h g none =
    let step = step_deed state h in
    rw step.turn_is
    (by_hart step.deed step.where_it (λ own ran. none own (ap (λ turn. turn.outcome) step.turn_is ∙ ran))
    (cases_eq g h))
  where
    by_hart : (deed : Deed) → DoesWhere state h deed →
        (g ≡ h → outcome_of deed ≡ outcomes.Ran → is_some (candidate_of state h) ≡ true → ⊥) →
        (g ≡ h) ⊎ (g ≡ h → ⊥) → Flagged state g (hart_of (done state h deed).state g)
    by_hart deed does none (inl own) =
        each_but (λ k hart. k ≡ h → Flagged state k hart) state h (hart_after state h deed (hart_of state h))
        (λ same. deed_flagged state h deed does (none own)) (λ k apart same. absurd (apart same))
        (λ past same was. no_flag state h past was) g own
    by_hart deed does none (inr apart) =
        each_but (λ k hart. (k ≡ h → ⊥) → Flagged state k hart) state h (hart_after state h deed (hart_of state h))
        (λ other. absurd (other refl)) (λ k differs other was. was) (λ past other. absurd (other refl)) g apart

flag_stays : (state : ModelState) (event : Event) (g : ℕ) → (RunsCandidate state g event → ⊥) →
    Flagged state g (hart_of (next state event).state g)
unfolding next
flag_stays state event g none =
    by_event (λ turn. Flagged state g (hart_of turn.state g)) state event
    (λ step.
    step_flagged state event.hart.number g
    (λ own ran candidate.
    none (record {
      step = step;
      own = sym own;
      ran = ap (λ kind. (kind_turn state event.hart.number kind).outcome) step ∙ ran;
      candidate = ap (λ k. is_some (candidate_of state k)) own ∙ candidate;
    })))
    (λ turn done. turn_keeps (flag_kept state) done (λ k was. was) g)

flag_stays_long : (state : ModelState) (events : List Event) (g : ℕ) → NeverRunsCandidate state g events →
    IsBarred (hart_of state g) → IsBarred (hart_of (state_after state events) g)
flag_stays_long state [] g never was = was
flag_stays_long state (event ∷ events) g (none, never) was =
    flag_stays_long (next state event).state events g never (flag_stays state event g none was)

-- no section begins with the flag
deed_unflagged : (state : ModelState) (h : ℕ) (deed : Deed) → DoesWhere state h deed → IsBarred (hart_of state h) →
    outcome_of deed ≢ outcomes.Began
deed_unflagged state h Rests does was began = absurd (cc)
deed_unflagged state h Waits does was began = absurd (cc)
deed_unflagged state h (Misses line need) does was began = absurd (cc)
deed_unflagged state h (Runs touch) does was began = absurd (cc)
deed_unflagged state h (Begins swap) begins was began =
    untrusted state.config.mode (hart_of state h) _ was.flag begins.elidable.trusted
deed_unflagged state h (Buffers section touch) does was began = absurd (cc)
deed_unflagged state h (Commits section) does was began = absurd (cc)
deed_unflagged state h (RollsBack section cause) does was began = absurd (cc)
deed_unflagged state h (Arms word) does was began = absurd (cc)
deed_unflagged state h (Elides armed swap) elides was began = not_armed elides.is_armed.armed_is was.unarmed
deed_unflagged state h (Continues armed) does was began = absurd (cc)
deed_unflagged state h (LetsGo armed) does was began = absurd (cc)

step_unflagged : (state : ModelState) (h : ℕ) → IsBarred (hart_of state h) →
    (step_turn state h).outcome ≢ outcomes.Began
step_unflagged state h was began =
    let step = step_deed state h in
    deed_unflagged state h step.deed step.where_it was (sym (ap (λ turn. turn.outcome) step.turn_is) ∙ began)

unflagged : (state : ModelState) (event : Event) → IsBarred (hart_of state event.hart.number) →
    (next state event).outcome ≢ outcomes.Began
unflagged state event was =
    by_event (λ turn. turn.outcome ≢ outcomes.Began) state event (λ step. step_unflagged state event.hart.number was)
    (λ turn done began. subst IsOfBus began done.of_bus)

-- a rollback by the hart itself sets the flag
pub live_exists : (state : ModelState) (h : ℕ) (section : Section) → section_of state h ≡ Some section →
    h < length state.harts
live_exists state h section live = live_below state h (ap is_some live)

deed_sets_flag : (state : ModelState) (h : ℕ) (deed : Deed) (cause : Cause) → DoesWhere state h deed →
    outcome_of deed ≡ outcomes.RolledBack cause → IsBarred (hart_of (done state h deed).state h)
deed_sets_flag state h Rests cause does back = absurd (cc)
deed_sets_flag state h Waits cause does back = absurd (cc)
deed_sets_flag state h (Misses line need) cause does back = absurd (cc)
deed_sets_flag state h (Runs touch) cause does back = absurd (cc)
deed_sets_flag state h (Begins swap) cause does back = absurd (cc)
deed_sets_flag state h (Buffers section touch) cause does back = absurd (cc)
deed_sets_flag state h (Commits section) cause does back = absurd (cc)
deed_sets_flag state h (RollsBack section why) cause must back =
    let is =
    hart_of-with_hart_same state h (hart_after state h (RollsBack section why) (hart_of state h))
    (live_exists state h section (is_rolled state h section why must).live) in
    record { flag = ap (λ hart. hart.fallback) is; unarmed = ap (λ hart. hart.armed) is }
deed_sets_flag state h (Arms word) cause does back = absurd (cc)
deed_sets_flag state h (Elides armed swap) cause does back = absurd (cc)
deed_sets_flag state h (Continues armed) cause does back = absurd (cc)
deed_sets_flag state h (LetsGo armed) cause does back = absurd (cc)

step_sets_flag : (state : ModelState) (h : ℕ) (cause : Cause) →
    (step_turn state h).outcome ≡ outcomes.RolledBack cause →
    IsBarred (hart_of (step_turn state h).state h)
step_sets_flag state h cause back =
    let step = step_deed state h in
    rw step.turn_is
    (deed_sets_flag state h step.deed cause step.where_it (sym (ap (λ turn. turn.outcome) step.turn_is) ∙ back))

sets_flag : (state : ModelState) (event : Event) (cause : Cause) →
    (next state event).outcome ≡ outcomes.RolledBack cause →
    IsBarred (hart_of (next state event).state event.hart.number)
sets_flag state event cause =
    by_event (λ turn. turn.outcome ≡ outcomes.RolledBack cause → IsBarred (hart_of turn.state event.hart.number)) state
    event
    (λ step. step_sets_flag state event.hart.number cause) (λ turn done back. absurd (subst IsOfBus back done.of_bus))

pub none_begins_after_rollback : NoneBeginsAfterRollback
none_begins_after_rollback state event later events cause back never own =
    unflagged (state_after (next state event).state events) later
    (rw own
    (flag_stays_long (next state event).state events event.hart.number never (sets_flag state event cause back)))
