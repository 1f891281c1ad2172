-- the ready event of worked states, computed from the definition, and wrong statements that they refute
use Rattle.std.proofs.Common.{◌≡◌, ◌∙◌, ◌++◌, ℕ, true, false, List, [], ◌∷◌, None, Some, refl, ap, sym}
use Rattle.std.specs.Option.{option_map}
use Rattle.el_base.specs.HartId.{hart_id}
use Rattle.el_base.specs.declared.config.Mode.TheVariants.{Plain}
use Rattle.el_base.specs.declared.events.Event.{Event}
use Rattle.el_base.specs.declared.events.Kind.TheVariants.{Step, Order, Serve, Deliver}
use Rattle.el_base.specs.declared.outcomes.Outcome.TheVariants.{Blocked}
use Rattle.el_base.specs.declared.outcomes.Why.TheVariants.{Retained}
use Rattle.el_base.proofs.Laws.Cases.{true_false}
use Rattle.el_model.specs.Next.{has_stopped, is_over, next, state_after}
use Rattle.el_model.specs.State.{ModelState, hart_of, head_of}
use Rattle.computed_runs.proofs.Computing.{computing}
use Rattle.computed_runs.proofs.Given.{event}
use Rattle.computed_runs.proofs.Rows.ChainOfFour as chain
use Rattle.computed_runs.proofs.Rows.Given.{machine_of, settings, store_word, usual}
use Rattle.mail.specs.Mailbox.{Marker, Probe}
use Rattle.progress_laws.specs.Ready.{gets_on, is_progress, ready_event}
use Rattle.rv_flat.specs.FlatState.{status_of}

-- four harts in lock removal: hart 1 has written a line in its section, and harts 2, 3 and 0 wait for it in this order,
-- each with a marker of the one before it
abbrev waiting : ModelState
waiting = state_after chain.first chain.ordering

-- hart 0 waits, and has a marker to take
marker_is_ready : ready_event waiting ≡ Some (event Deliver 0)
unfolding computing
marker_is_ready = refl

-- after it was taken, hart 3 has a marker and a probe, and hart 0 has nothing to do: hart 1, in its
-- section, is the first that gets on
abbrev probed : ModelState
probed = state_after waiting (event Deliver 0 ∷ [])

mail_of_3 : (hart_of probed 3).mail ≡ Marker 2 ∷ Probe 0 ∷ []
unfolding computing
mail_of_3 = refl

step_is_ready : ready_event probed ≡ Some (event Step 1)
unfolding computing
step_is_ready = refl

-- hart 2 is the head of the line, and is blocked by the section that retains it
head_waits : (next waiting (event Serve 2)).outcome ≡ Blocked Retained (hart_id 1)
unfolding computing
head_waits = refl

-- so it is wrong that the head of a line is always served
abbrev HeadsAreServed : Type 0
HeadsAreServed =
    (state : ModelState) (h : ℕ) → option_map (λ head. head.hart) (head_of state 1025) ≡ Some h →
    gets_on state (event Serve h) ≡ true

head_is_2 : option_map (λ head. head.hart) (head_of waiting 1025) ≡ Some 2
unfolding computing
head_is_2 = refl

heads_may_wait : HeadsAreServed → ⊥
heads_may_wait served = true_false (sym (served waiting 2 head_is_2) ∙ ap is_progress head_waits)

-- hart 1 commits and stops; then hart 2 takes its marker, and sends it a probe
abbrev told_late : ModelState
told_late = state_after waiting (event Step 1 ∷ event Step 1 ∷ event Deliver 2 ∷ [])

stopped : has_stopped (status_of told_late.committed 1) ≡ true
unfolding computing
stopped = refl

mail_of_stopped : (hart_of told_late 1).mail ≡ Probe 2 ∷ []
unfolding computing
mail_of_stopped = refl

takes_late : gets_on told_late (event Deliver 1) ≡ true
unfolding computing
takes_late = refl

-- so it is wrong that no event of a hart that has stopped is progress
abbrev StoppedHartsRest : Type 0
StoppedHartsRest =
    (state : ModelState) (event : Event) → has_stopped (status_of state.committed event.hart.number) ≡ true →
    gets_on state event ≡ false

stopped_may_get_on : StoppedHartsRest → ⊥
stopped_may_get_on rest = true_false (sym takes_late ∙ rest told_late (event Deliver 1) stopped)

-- two harts without elision store to one line: the request that was ordered first is served first,
-- and holds the line for one step
abbrev pair : ModelState
pair =
    machine_of (settings 2 Plain 16 4 16 2000) 128 (
    record { words = store_word 6 11 ∷ []; registers = usual }
    ∷ record { words = store_word 6 11 ∷ []; registers = usual } ∷ [])

abbrev ordered : List Event
ordered = event Step 0 ∷ event Step 1 ∷ event Order 1 ∷ event Order 0 ∷ []

serve_is_ready : ready_event (state_after pair ordered) ≡ Some (event Serve 1)
unfolding computing
serve_is_ready = refl

holder_is_ready : ready_event (state_after pair (ordered ++ event Serve 1 ∷ [])) ≡ Some (event Step 1)
unfolding computing
holder_is_ready = refl

-- both have stopped, each where its code ends: nothing is ready
abbrev ended : ModelState
ended =
    state_after pair
    (ordered ++ event Serve 1 ∷ event Step 1 ∷ event Serve 0 ∷ event Step 0 ∷ event Step 0 ∷ event Step 1 ∷ [])

ended_is_over : is_over ended ≡ true
unfolding computing
ended_is_over = refl

none_is_ready : ready_event ended ≡ None
unfolding computing
none_is_ready = refl
