-- each section that began has ended once, or is live
use Rattle.std.proofs.Common.{◌≡◌, ◌≢◌, ◌∙◌, ◌+◌, ◌<◌, ◌==◌, ℕ, Bool, true, false, ◌&&◌, List, [], ◌∷◌, Option, None}
use Rattle.std.proofs.Common.{Some, is_some, length, refl, ap}
use Rattle.std.proofs.Common.{sym, inl, inr, ◌⊎◌, arith, if◌then◌else◌}
use Rattle.std.proofs.lemmas.Bool.{cases_eq}
use Rattle.el_base.specs.declared.config.Mode.{Mode}
use Rattle.el_base.specs.declared.events.Event.{Event}
use Rattle.el_base.specs.declared.outcomes.Outcome.{Outcome}
use Rattle.el_base.specs.declared.outcomes.Outcome.TheVariants as outcomes
use Rattle.el_model.specs.BusEvent.{IsBusEvent, IsOfBus}
use Rattle.el_model.specs.Deed.{Arms, Begins, Buffers, Commits, Continues, Deed, DoesWhere, Elides, LetsGo, Misses}
use Rattle.el_model.specs.Deed.{Rests, RollsBack, Runs, Waits}
use Rattle.el_model.specs.Deed.{done, hart_after, outcome_of}
use Rattle.el_base.specs.Winners.{winner_over}
use Rattle.el_base.proofs.Laws.Tests.{other_test, own_test}
use Rattle.el_model.specs.Losses.{Standing, restored, standing_of}
use Rattle.el_model.specs.Next.{entries_from, next, state_after, step_turn}
use Rattle.el_model.specs.Plain.{candidate_of}
use Rattle.el_model.specs.State.{ModelState, Section, Turn, begin, hart_of, is_live, section_of}
use Rattle.el_model.proofs.Laws.BusEvents.{by_event}
use Rattle.el_model.proofs.Laws.Deeds.{is_rolled, step_deed}
use Rattle.el_model.proofs.Laws.Harts.{hart_of-with_hart_other, hart_of-with_hart_same, with_hart_kept}
use Rattle.el_model.proofs.Laws.Losing.{lost_section}
use Rattle.el_model.proofs.Laws.Restoring.{bus_restores, stays_outside, unnamed_outside}
use Rattle.el_model.proofs.Laws.FromStart.{first_outside}
use Rattle.el_model.proofs.Laws.HartParts.{candidate_section}
use Rattle.rv_flat.proofs.Laws.RunsAfter.{runs-exists}
use Rattle.section_laws.specs.Sections.{BegunSectionsAreAccountedFor, begins, commits, count_of, is_began, is_committed}
use Rattle.section_laws.specs.Sections.{is_rolled_back, loses, rolls_back}
use Rattle.section_laws.proofs.Laws.Lengths.{AsMany, first_as_many, next_as_many}
use Rattle.section_laws.proofs.Laws.Numbered.{Numbered, first_numbered, next_numbered, numbers_of_state}
use Rattle.section_laws.proofs.Laws.SectionSteps.{live_exists}

-- one event: a section that was live or begins has ended, or is live
abbrev one : Bool → ℕ
one test = if test then 1 else 0

abbrev Balanced : Bool → Outcome → ℕ → Bool → Bool → Type 0
Balanced own outcome g was now =
    one was + one (own && is_began outcome)
    ≡ one (own && is_committed outcome) + one (own && is_rolled_back outcome)
    + one (is_some (winner_over outcome g)) + one now

-- nothing begins or ends
unchanged : (was now : Bool) → now ≡ was → one was + 0 ≡ 0 + 0 + 0 + one now
unchanged was now same = omega (arith, ap one same)

deed_section : (state : ModelState) (h g : ℕ) (deed : Deed) →
    is_some (hart_after state h deed (hart_of state h)).section ≡ is_live state h →
    is_live (done state h deed).state g ≡ is_live state g
deed_section state h g deed same =
    with_hart_kept (λ hart. is_some hart.section) state h (hart_after state h deed (hart_of state h)) same g

after_deed : (state : ModelState) (h : ℕ) (deed : Deed) → h < length state.harts →
    is_live (done state h deed).state h ≡ is_some (hart_after state h deed (hart_of state h)).section
after_deed state h deed exists =
    ap (λ hart. is_some hart.section)
    (hart_of-with_hart_same state h (hart_after state h deed (hart_of state h)) exists)

ends : (was now : Bool) → was ≡ true → now ≡ false → one was + 0 ≡ 1 + one now
ends was now live gone = omega (arith, ap one live, ap one gone)

starts : (was now : Bool) → was ≡ false → now ≡ true → one was + 1 ≡ 0 + one now
starts was now none live = omega (arith, ap one none, ap one live)

own_deed : (state : ModelState) (h : ℕ) (deed : Deed) → AsMany state → DoesWhere state h deed →
    Balanced true (outcome_of deed) h (is_live state h) (is_live (done state h deed).state h)
own_deed state h Rests many does = unchanged _ _ (deed_section state h h Rests refl)
own_deed state h Waits many does = unchanged _ _ (deed_section state h h Waits refl)
own_deed state h (Misses line need) many does = unchanged _ _ (deed_section state h h (Misses line need) refl)
own_deed state h (Runs touch) many does =
    unchanged _ _ (deed_section state h h (Runs touch) (ap is_some (candidate_section _ _ (candidate_of state h) _)))
own_deed state h (Begins swap) many begins =
    let flat_exists = runs-exists state.committed h begins.outside.running in
    starts _ _ (ap is_some begins.outside.no_section)
    (after_deed state h (Begins swap) (omega (arith, many, flat_exists)))
own_deed state h (Arms word) many does = unchanged _ _ (deed_section state h h (Arms word) refl)
own_deed state h (Elides armed swap) many elides =
    let flat_exists = runs-exists state.committed h elides.is_armed.running in
    starts _ _ (ap is_some elides.is_armed.no_section)
    (after_deed state h (Elides armed swap) (omega (arith, many, flat_exists)))
own_deed state h (Continues armed) many does = unchanged _ _ (deed_section state h h (Continues armed) refl)
own_deed state h (LetsGo armed) many does = unchanged _ _ (deed_section state h h (LetsGo armed) refl)
own_deed state h (Buffers section touch) many buffers =
    unchanged _ _
    (deed_section state h h (Buffers section touch) (sym (ap is_some buffers.goes.goes_on.is_short.inside.live)))
own_deed state h (Commits section) many does =
    let live = does.goes_on.is_short.inside.live in
    ends _ _ (ap is_some live) (after_deed state h (Commits section) (live_exists state h section live))
own_deed state h (RollsBack section cause) many must =
    let live = (is_rolled state h section cause must).live in
    ends _ _ (ap is_some live) (after_deed state h (RollsBack section cause) (live_exists state h section live))

-- another hart's step
other_deed : (state : ModelState) (h g : ℕ) (deed : Deed) → g ≢ h →
    Balanced false (outcome_of deed) g (is_live state g) (is_live (done state h deed).state g)
other_deed state h g deed apart =
    by_deed deed
    (ap (λ hart. is_some hart.section)
    (hart_of-with_hart_other state h g (hart_after state h deed (hart_of state h)) apart))
  where
    by_deed : (deed : Deed) {now : Bool} → now ≡ is_live state g →
        Balanced false (outcome_of deed) g (is_live state g) now
    by_deed Rests same = unchanged _ _ same
    by_deed Waits same = unchanged _ _ same
    by_deed (Misses line need) same = unchanged _ _ same
    by_deed (Runs touch) same = unchanged _ _ same
    by_deed (Begins swap) same = unchanged _ _ same
    by_deed (Buffers section touch) same = unchanged _ _ same
    by_deed (Commits section) same = unchanged _ _ same
    by_deed (RollsBack section cause) same = unchanged _ _ same
    by_deed (Arms word) same = unchanged _ _ same
    by_deed (Elides armed swap) same = unchanged _ _ same
    by_deed (Continues armed) same = unchanged _ _ same
    by_deed (LetsGo armed) same = unchanged _ _ same

step_by : (state : ModelState) (h g : ℕ) (deed : Deed) → AsMany state → DoesWhere state h deed → (g ≡ h) ⊎ (g ≡ h → ⊥) →
    Balanced (h == g) (outcome_of deed) g (is_live state g) (is_live (done state h deed).state g)
step_by state h g deed many does (inl same) = rw same (rw (own_test h) (own_deed state h deed many does))
step_by state h g deed many does (inr apart) =
    rw (other_test h g (λ same. apart (sym same))) (other_deed state h g deed apart)

-- an event of the bus
no_end : (own : Bool) (outcome : Outcome) (g : ℕ) (was now : Bool) → IsOfBus outcome →
    one was ≡ one (is_some (winner_over outcome g)) + one now → Balanced own outcome g was now
no_end true outcomes.Idle g was now bus same = omega (arith, same)
no_end true (outcomes.Ordered losers freed) g was now bus same = omega (arith, same)
no_end true (outcomes.Served losers freed) g was now bus same = omega (arith, same)
no_end true (outcomes.Blocked why by) g was now bus same = omega (arith, same)
no_end true (outcomes.Delivered losers) g was now bus same = omega (arith, same)
no_end true outcomes.Stalled g was now bus same = elim bus [ ]
no_end true (outcomes.Missed line need) g was now bus same = elim bus [ ]
no_end true outcomes.Ran g was now bus same = elim bus [ ]
no_end true outcomes.Began g was now bus same = elim bus [ ]
no_end true outcomes.Buffered g was now bus same = elim bus [ ]
no_end true (outcomes.Committed count) g was now bus same = elim bus [ ]
no_end true (outcomes.RolledBack cause) g was now bus same = elim bus [ ]
no_end true outcomes.Armed g was now bus same = elim bus [ ]
no_end true (outcomes.LetGo count) g was now bus same = elim bus [ ]
no_end false outcome g was now bus same = omega (arith, same)

restored_live : (mode : Mode) (winner : Option ℕ) (old new : Standing) → new ≡ restored mode winner old →
    is_some old.section ≡ true → one (is_some old.section) ≡ one (is_some winner) + one (is_some new.section)
restored_live mode None old new is live =
    let same = ap (λ standing. one (is_some standing.section)) is in
    omega (arith, same)
restored_live mode (Some winner) old new is live =
    let gone = ap (λ section. one (is_some section)) (ap (λ standing. standing.section) is ∙ lost_section mode old) in
    omega (arith, gone, ap one live)

bus_by : {state : ModelState} {by : ℕ} {turn : Turn} → IsBusEvent state by turn → (g : ℕ) → Numbered state →
    (section : Option Section) →
    section_of state g ≡ section →
    one (is_live state g) ≡ one (is_some (winner_over turn.outcome g)) + one (is_live turn.state g)
bus_by {state} done g numbered None none =
    let unnamed = ap (λ winner. one (is_some winner)) (unnamed_outside done g none) in
    let outside = ap (λ section. one (is_some section)) (stays_outside done g none) in
    omega (arith, unnamed, outside, ap (λ section. one (is_some section)) none)
bus_by {state} {by} {turn} done g numbered (Some section) live =
    restored_live state.config.mode (winner_over turn.outcome g) (standing_of (hart_of state g))
    (standing_of (hart_of turn.state g))
    (bus_restores done g (numbers_of_state state numbered) (live_exists state g section live)) (ap is_some live)

step_balanced : (state : ModelState) (h g : ℕ) → AsMany state →
    Balanced (h == g) (step_turn state h).outcome g (is_live state g) (is_live (step_turn state h).state g)
step_balanced state h g many =
    let step = step_deed state h in
    rw step.turn_is (step_by state h g step.deed many step.where_it (cases_eq g h))

next_balanced : (state : ModelState) (event : Event) (g : ℕ) → Numbered state → AsMany state →
    Balanced (event.hart.number == g) (next state event).outcome g (is_live state g)
    (is_live (next state event).state g)
next_balanced state event g numbered many =
    by_event (λ turn. Balanced (event.hart.number == g) turn.outcome g (is_live state g) (is_live turn.state g)) state
    event
    (λ step. step_balanced state event.hart.number g many)
    (λ turn done. no_end (event.hart.number == g) turn.outcome g _ _ done.of_bus
    (bus_by done g numbered (section_of state g) refl))

-- all events
accounted : (state : ModelState) (events : List Event) (g : ℕ) → Numbered state → AsMany state →
    one (is_live state g) + count_of (begins g) (entries_from state events)
    ≡ count_of (commits g) (entries_from state events) + count_of (rolls_back g) (entries_from state events)
    + count_of (loses g) (entries_from state events) + one (is_live (state_after state events) g)
accounted state [] g numbered many = omega arith
accounted state (event ∷ events) g numbered many =
    let later =
    accounted (next state event).state events g (next_numbered state event numbered)
    (next_as_many state event many) in
    let now = next_balanced state event g numbered many in
    omega (arith, later, now)

pub begun_sections_are_accounted_for : BegunSectionsAreAccountedFor
begun_sections_are_accounted_for program config events h same range =
    let all =
    accounted (begin program config) events h (first_numbered program config same range)
    (first_as_many program config) in
    let none = ap one (first_outside program config h) in
    omega (arith, all, none)
