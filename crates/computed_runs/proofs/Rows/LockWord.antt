-- An atomic addition to the lock word inside of its section rolls the section back, and its acquire is trusted less.
use Rattle.std.proofs.Common.{◌≡◌, List, [], ◌∷◌, refl}
use Rattle.el_base.specs.LineAddr.{line_addr}
use Rattle.el_base.specs.declared.config.Mode.TheVariants.{Sle}
use Rattle.el_base.specs.declared.events.Event.{Event}
use Rattle.el_base.specs.declared.events.Kind.TheVariants.{Step, Order, Serve}
use Rattle.el_base.specs.declared.outcomes.Cause.TheVariants.{Mixed}
use Rattle.el_base.specs.declared.outcomes.Need.TheVariants.{Read}
use Rattle.el_base.specs.declared.outcomes.Outcome.{Outcome}
use Rattle.el_base.specs.declared.outcomes.Outcome.TheVariants.{Missed, Began, RolledBack}
use Rattle.computed_runs.proofs.Computing.{computing}
use Rattle.computed_runs.proofs.Given.{event, ordered_with, served_with}
use Rattle.computed_runs.proofs.Rows.Given.{atomic_add, code_at, machine_of, settings, swap, usual}
use Rattle.el_model.specs.Next.{outcomes_from, state_after}
use Rattle.el_model.specs.State.{ModelState, hart_of}
use Rattle.pair_table.specs.Predictor.{confidence_of}

abbrev first : ModelState
first =
    machine_of (settings 1 Sle 16 4 16 2000) 64 (
    record { words = swap 7 5 10 ∷ atomic_add 7 5 10 ∷ []; registers = usual } ∷ [])

abbrev events : List Event
events =
    event Step 0 ∷ event Order 0 ∷ event Serve 0 ∷ event Step 0 ∷ event Step 0 ∷ []

abbrev expected : List Outcome
expected =
    Missed (line_addr 1024) Read ∷ ordered_with [] [] ∷ served_with [] [] ∷ Began ∷ RolledBack Mixed ∷ []

outcomes : outcomes_from first events ≡ expected
unfolding computing
outcomes = refl

trust : confidence_of (hart_of (state_after first events) 0).predictor (code_at 0) ≡ 1
unfolding computing
trust = refl
