-- A system call inside of a section rolls it back.
use Rattle.std.proofs.Common.{◌≡◌, List, [], ◌∷◌, refl}
use Rattle.el_base.specs.LineAddr.{line_addr}
use Rattle.el_base.specs.declared.config.Mode.TheVariants.{Sle}
use Rattle.el_base.specs.declared.events.Event.{Event}
use Rattle.el_base.specs.declared.events.Kind.TheVariants.{Step, Order, Serve}
use Rattle.el_base.specs.declared.outcomes.Cause.TheVariants.{Call}
use Rattle.el_base.specs.declared.outcomes.Need.TheVariants.{Read}
use Rattle.el_base.specs.declared.outcomes.Outcome.{Outcome}
use Rattle.el_base.specs.declared.outcomes.Outcome.TheVariants.{Missed, Began, RolledBack}
use Rattle.computed_runs.proofs.Computing.{computing}
use Rattle.computed_runs.proofs.Given.{event, ordered_with, served_with}
use Rattle.computed_runs.proofs.Rows.Given.{machine_of, settings, swap, system_call, usual}
use Rattle.el_model.specs.Next.{outcomes_from}
use Rattle.el_model.specs.State.{ModelState}

abbrev first : ModelState
first =
    machine_of (settings 1 Sle 16 4 16 2000) 64 (
    record { words = swap 7 5 10 ∷ system_call ∷ []; registers = usual } ∷ [])

abbrev events : List Event
events =
    event Step 0 ∷ event Order 0 ∷ event Serve 0 ∷ event Step 0 ∷ event Step 0 ∷ []

abbrev expected : List Outcome
expected =
    Missed (line_addr 1024) Read ∷ ordered_with [] [] ∷ served_with [] [] ∷ Began ∷ RolledBack Call ∷ []

outcomes : outcomes_from first events ≡ expected
unfolding computing
outcomes = refl
