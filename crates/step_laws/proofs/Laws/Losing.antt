-- only live sections are lost, and a section ends by its own hart's commit or rollback or by a loss
use Rattle.std.proofs.Common.{◌≡◌, ◌≢◌, ◌∙◌, ◌<◌, ℕ, true, false, Option, None, Some, is_some, refl}
use Rattle.std.proofs.Common.{ap, sym, subst, inl, inr, ◌⊎◌}
use Rattle.el_base.proofs.Laws.MadeLosers.{winner_below}
use Rattle.el_base.specs.declared.events.Event.{Event}
use Rattle.el_base.specs.declared.events.Kind.TheVariants as kinds
use Rattle.el_base.specs.declared.outcomes.Outcome.{Outcome}
use Rattle.el_base.specs.declared.outcomes.Outcome.TheVariants as outcomes
use Rattle.el_model.specs.Deed.{Arms, Begins, Buffers, Commits, Continues, Deed, Elides, LetsGo, Misses, Rests}
use Rattle.el_model.specs.Deed.{RollsBack, Runs, Waits, outcome_of}
use Rattle.el_base.specs.Winners.{winner_over}
use Rattle.el_base.proofs.Laws.Cases.{none_some}
use Rattle.el_model.specs.Losses.{HartsAreNumbered, restored, standing_of}
use Rattle.el_model.specs.Next.{after, kind_turn, next}
use Rattle.el_model.specs.State.{ModelState, Section, hart_of, is_live, section_of}
use Rattle.el_model.proofs.Laws.BusEvents.{bus_events_are_told_once, by_event}
use Rattle.el_model.proofs.Laws.Deeds.{step_deed}
use Rattle.el_model.proofs.Laws.Losing.{lost_section}
use Rattle.el_model.proofs.Laws.Restoring.{losers_restored, unnamed_outside}
use Rattle.section_laws.proofs.Laws.Endings.{HowItEnds, bus_ends, step_ends}
use Rattle.section_laws.proofs.Laws.Numbered.{requests_are_numbered}
use Rattle.section_laws.proofs.Laws.SectionSteps.{live_exists}
use Rattle.step_laws.specs.Losing.{EndsItself, IsBeaten, LosesItsSection, OnlyLiveSectionsLose, WhatEndsASection}

winner_small : (outcome : Outcome) (h winner : ℕ) → winner_over outcome h ≡ Some winner → winner < 8
winner_small outcomes.Idle h winner names = none_some names
winner_small outcomes.Stalled h winner names = none_some names
winner_small (outcomes.Missed line need) h winner names = none_some names
winner_small outcomes.Ran h winner names = none_some names
winner_small outcomes.Began h winner names = none_some names
winner_small outcomes.Buffered h winner names = none_some names
winner_small (outcomes.Committed count) h winner names = none_some names
winner_small (outcomes.RolledBack cause) h winner names = none_some names
winner_small (outcomes.Ordered losers freed) h winner names = winner_below losers h winner names
winner_small (outcomes.Served losers freed) h winner names = winner_below losers h winner names
winner_small (outcomes.Blocked why by) h winner names = none_some names
winner_small (outcomes.Delivered losers) h winner names = winner_below losers h winner names
winner_small outcomes.Armed h winner names = none_some names
winner_small (outcomes.LetGo count) h winner names = none_some names

-- a step names no losers
deed_unnamed : (deed : Deed) (g : ℕ) → winner_over (outcome_of deed) g ≡ None
deed_unnamed Rests g = refl
deed_unnamed Waits g = refl
deed_unnamed (Misses line need) g = refl
deed_unnamed (Runs touch) g = refl
deed_unnamed (Begins swap) g = refl
deed_unnamed (Buffers section touch) g = refl
deed_unnamed (Commits section) g = refl
deed_unnamed (RollsBack section cause) g = refl
deed_unnamed (Arms word) g = refl
deed_unnamed (Elides armed swap) g = refl
deed_unnamed (Continues armed) g = refl
deed_unnamed (LetsGo armed) g = refl

-- a loss ends the section
lost_by : (state : ModelState) (event : Event) (g winner : ℕ) → HartsAreNumbered state →
    winner_over (next state event).outcome g ≡ Some winner → event.kind ≢ kinds.Step → (section : Option Section) →
    section_of state g ≡ section → LosesItsSection state event g winner
lost_by state event g winner numbered names bus None none =
    none_some (sym (unnamed_outside (bus_events_are_told_once state event bus) g none) ∙ names)
lost_by state event g winner numbered names bus (Some section) live = record {
  section = section;
  live = live;
  of_bus = bus;
  over =
      ap (λ standing. standing.section) (losers_restored state event g numbered bus (live_exists state g section live))
      ∙ ap (λ w. (restored state.config.mode w (standing_of (hart_of state g))).section) names
      ∙ lost_section state.config.mode (standing_of (hart_of state g));
  exists = winner_small (next state event).outcome g winner names;
}

-- the event is of the bus
event_on_bus : (state : ModelState) (event : Event) (g winner : ℕ) →
    winner_over (next state event).outcome g ≡ Some winner → event.kind ≢ kinds.Step
unfolding next
event_on_bus state event g winner names is =
    let step = step_deed state event.hart.number in
    let kind = ap (λ kind. winner_over (kind_turn state event.hart.number kind).outcome g) is in
    none_some (sym (kind ∙ ap (λ turn. winner_over turn.outcome g) step.turn_is ∙ deed_unnamed step.deed g) ∙ names)

pub only_live_sections_lose : OnlyLiveSectionsLose
only_live_sections_lose program config events event g winner same range names =
    let state = after program config events in
    lost_by state event g winner (requests_are_numbered program config events same range) names
    (event_on_bus state event g winner names)
    (section_of state g) refl

-- a section ends by a step of its own hart, or an event of the bus names a winner over it
pub what_ends_a_section : WhatEndsASection
what_ends_a_section program config events event h same range live =
    let state = after program config events in
    let numbered = requests_are_numbered program config events same range in
    by_event (λ turn. turn.outcome ≡ (next state event).outcome → is_live turn.state h ≡ false →
    EndsItself state event h ⊎ IsBeaten state event h)
    state event
    (λ step outcome ended.
    let own = step_ends state event.hart.number h live ended in
    inl (record { own = own.0; step = step; how = subst HowItEnds outcome own.1 }))
    (λ turn done outcome ended.
    inr (beaten (winner_over turn.outcome h) (ap (λ o. winner_over o h) (sym outcome))
    (bus_ends done h numbered live ended)))
    refl
  where
    beaten : (winner : Option ℕ) → winner_over (next (after program config events) event).outcome h ≡ winner →
        is_some winner ≡ true →
        IsBeaten (after program config events) event h
    beaten None none some = absurd (cc)
    beaten (Some winner) names some = record { winner = winner; names = names }
