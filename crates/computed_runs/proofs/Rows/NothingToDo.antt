-- Events that have nothing to do: Order, Serve and Deliver of a hart without a request or a message, and a step of one
-- that has stopped.
use Rattle.std.proofs.Common.{◌≡◌, List, [], ◌∷◌, refl}
use Rattle.el_base.specs.declared.config.Mode.TheVariants.{Tlr}
use Rattle.el_base.specs.declared.events.Event.{Event}
use Rattle.el_base.specs.declared.events.Kind.TheVariants.{Step, Order, Serve, Deliver}
use Rattle.el_base.specs.declared.outcomes.Outcome.{Outcome}
use Rattle.el_base.specs.declared.outcomes.Outcome.TheVariants.{Idle, Ran}
use Rattle.computed_runs.proofs.Computing.{computing}
use Rattle.computed_runs.proofs.Given.{event}
use Rattle.computed_runs.proofs.Rows.Given.{machine_of, settings, system_call, usual}
use Rattle.el_model.specs.Next.{outcomes_from}
use Rattle.el_model.specs.State.{ModelState}

abbrev first : ModelState
first =
    machine_of (settings 1 Tlr 16 4 16 2000) 64 (
    record { words = 97519763 ∷ system_call ∷ []; registers = usual } ∷ [])

abbrev events : List Event
events =
    event Order 0 ∷ event Serve 0 ∷ event Deliver 0 ∷ event Step 0 ∷ event Step 0 ∷ event Step 0 ∷ []

abbrev expected : List Outcome
expected =
    Idle ∷ Idle ∷ Idle ∷ Ran ∷ Ran ∷ Idle ∷ []

outcomes : outcomes_from first events ≡ expected
unfolding computing
outcomes = refl
