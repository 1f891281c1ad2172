-- what the laws of lock removal say, computed at one worked state: four harts, of which hart 1 has written line B,
-- number 1025, in its section, and harts 2, 3 and 0 wait for B in this order. Lists are by ascending hart: what
-- stands at place h is said of hart h
use Rattle.std.specs.List.{list_all, list_any}
use Rattle.std.specs.Prelude.{is_some, not}
use Rattle.std.proofs.Common.{◌≡◌, ◌∙◌, ◌++◌, ℕ, true, false, List, [], ◌∷◌, map, Some, refl, sym}
use Rattle.el_base.specs.declared.events.Event.{Event}
use Rattle.el_base.specs.declared.events.Kind.TheVariants.{Step, Serve, Deliver}
use Rattle.computed_runs.proofs.Computing.{computing}
use Rattle.computed_runs.proofs.Given.{event, stamp}
use Rattle.computed_runs.proofs.Rows.ChainOfFour as chain
use Rattle.el_model.specs.Conflicts.{retains}
use Rattle.el_base.specs.Winners.{winner_over}
use Rattle.el_base.proofs.Laws.Cases.{true_false}
use Rattle.el_model.specs.Next.{next, outcomes_from, state_after}
use Rattle.el_model.specs.State.{ModelState, head_of, is_live, numbers_of}
use Rattle.removal_laws.specs.Laws.{closes, is_served}

abbrev waiting : ModelState
waiting = state_after chain.first chain.ordering

-- each message is delivered, the last of which costs hart 1 its section
abbrev delivering : List Event
delivering =
    event Deliver 0 ∷ event Deliver 3 ∷ event Deliver 3 ∷ event Deliver 2 ∷ event Deliver 2 ∷ event Deliver 2 ∷
    event Deliver 1 ∷
    event Deliver 1 ∷ event Deliver 1 ∷ []

abbrev delivered : ModelState
delivered = state_after waiting delivering

-- each open attempt is its hart's own, with the clock that the hart has, and no two are the same
attempts : map (λ hart. hart.attempt) waiting.harts
    ≡ Some (stamp 0 0) ∷ Some (stamp 0 1) ∷ Some (stamp 0 2) ∷ Some (stamp 0 3) ∷ []
unfolding computing
attempts = refl

clocks : map (λ hart. hart.clock) waiting.harts ≡ 0 ∷ 0 ∷ 0 ∷ 0 ∷ []
unfolding computing
clocks = refl

-- hart 1 has lost its section, and keeps its stamp
lost_section : map (λ hart. is_some hart.section) delivered.harts ≡ true ∷ false ∷ true ∷ true ∷ []
unfolding computing
lost_section = refl

kept_stamps : map (λ hart. hart.attempt) delivered.harts
    ≡ Some (stamp 0 0) ∷ Some (stamp 0 1) ∷ Some (stamp 0 2) ∷ Some (stamp 0 3) ∷ []
unfolding computing
kept_stamps = refl

-- hart 0, which has the least stamp, loses to nobody over the whole chain
least_never_loses : list_all (λ outcome. not (is_some (winner_over outcome 0)))
    (outcomes_from chain.first chain.events) ≡ true
unfolding computing
least_never_loses = refl

-- it ends its section itself, as it commits
abbrev served : ModelState
served = state_after chain.first (chain.events ++ event Step 0 ∷ [])

live_until_then : is_live served 0 ≡ true
unfolding computing
live_until_then = refl

ends_by_its_own_step : is_live (next served (event Step 0)).state 0 ≡ false
unfolding computing
ends_by_its_own_step = refl

closes_its_attempt : closes served (event Step 0) 0 ≡ true
unfolding computing
closes_its_attempt = refl

-- before the messages of line B are delivered, hart 1 retains it; after they are, no section does,
-- and its head, hart 2, is served
retained_at_first : map (λ h. retains waiting h 1025) (0 ∷ 1 ∷ 2 ∷ 3 ∷ []) ≡ false ∷ true ∷ false ∷ false ∷ []
unfolding computing
retained_at_first = refl

retained_by_none : list_any (λ h. retains delivered h 1025) (numbers_of delivered) ≡ false
unfolding computing
retained_by_none = refl

head_is_served : is_served (next delivered (event Serve 2)).outcome ≡ true
unfolding computing
head_is_served = refl

-- so it is wrong that a line that is waited for is retained by a section though every message was delivered
abbrev RetainedThoughDelivered : Type 0
RetainedThoughDelivered =
    (state : ModelState) (line : ℕ) → is_some (head_of state line) ≡ true →
    map (λ hart. hart.mail) state.harts ≡ map (λ hart. []) state.harts →
    list_any (λ h. retains state h line) (numbers_of state) ≡ true

still_waited_for : is_some (head_of delivered 1025) ≡ true
unfolding computing
still_waited_for = refl

no_message : map (λ hart. hart.mail) delivered.harts ≡ map (λ hart. []) delivered.harts
unfolding computing
no_message = refl

not_retained_once_delivered : RetainedThoughDelivered → ⊥
not_retained_once_delivered stays =
    true_false (sym (stays delivered 1025 still_waited_for no_message) ∙ retained_by_none)
