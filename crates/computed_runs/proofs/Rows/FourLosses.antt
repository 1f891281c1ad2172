-- Lock elision: a section that was lost four times in a row is not begun again; its hart takes the lock.
use Rattle.std.proofs.Common.{◌≡◌, List, [], ◌∷◌, refl}
use Rattle.el_base.specs.LineAddr.{line_addr}
use Rattle.el_base.specs.declared.config.Mode.TheVariants.{Sle}
use Rattle.el_base.specs.declared.events.Event.{Event}
use Rattle.el_base.specs.declared.events.Kind.TheVariants.{Step, Order, Serve}
use Rattle.el_base.specs.declared.outcomes.Need.TheVariants.{Read, Write}
use Rattle.el_base.specs.declared.outcomes.Outcome.{Outcome}
use Rattle.el_base.specs.declared.outcomes.Outcome.TheVariants.{Missed, Ran, Began}
use Rattle.computed_runs.proofs.Computing.{computing}
use Rattle.computed_runs.proofs.Given.{event, ordered_with, served_with}
use Rattle.computed_runs.proofs.Rows.Given.{machine_of, settings, store_beyond, swap, usual}
use Rattle.el_model.specs.Next.{outcomes_from}
use Rattle.el_model.specs.State.{ModelState}

abbrev first : ModelState
first =
    machine_of (settings 2 Sle 16 4 16 2000) 64 (
    record { words = swap 7 5 10 ∷ []; registers = usual } ∷
    record {
      words =
          store_beyond 4 6 10 ∷ store_beyond 4 6 10 ∷ store_beyond 4 6 10 ∷ store_beyond 4 6 10 ∷ [];
      registers = usual;
    } ∷ [])

abbrev events : List Event
events =
    event Step 0 ∷ event Order 0 ∷ event Serve 0 ∷ event Step 0 ∷ event Step 1 ∷ event Order 1 ∷ event Serve 1 ∷
    event Step 1 ∷ event Step 0 ∷ event Order 0 ∷ event Serve 0 ∷ event Step 0 ∷ event Step 1 ∷ event Order 1 ∷
    event Serve 1 ∷ event Step 1 ∷ event Step 0 ∷ event Order 0 ∷ event Serve 0 ∷ event Step 0 ∷ event Step 1 ∷
    event Order 1 ∷ event Serve 1 ∷ event Step 1 ∷ event Step 0 ∷ event Order 0 ∷ event Serve 0 ∷ event Step 0 ∷
    event Step 1 ∷ event Order 1 ∷ event Serve 1 ∷ event Step 1 ∷ event Step 0 ∷ event Order 0 ∷ event Serve 0 ∷
    event Step 0 ∷ []

abbrev expected : List Outcome
expected =
    Missed (line_addr 1024) Read ∷ ordered_with [] [] ∷ served_with [] [] ∷ Began ∷ Missed (line_addr 1024) Write ∷
    ordered_with ((0, 1) ∷ []) [] ∷ served_with [] [] ∷ Ran ∷ Missed (line_addr 1024) Read ∷ ordered_with [] [] ∷
    served_with [] [] ∷ Began ∷ Missed (line_addr 1024) Write ∷ ordered_with ((0, 1) ∷ []) [] ∷ served_with [] [] ∷
    Ran ∷ Missed (line_addr 1024) Read ∷ ordered_with [] [] ∷ served_with [] [] ∷ Began ∷
    Missed (line_addr 1024) Write ∷ ordered_with ((0, 1) ∷ []) [] ∷ served_with [] [] ∷ Ran ∷
    Missed (line_addr 1024) Read ∷ ordered_with [] [] ∷ served_with [] [] ∷ Began ∷ Missed (line_addr 1024) Write ∷
    ordered_with ((0, 1) ∷ []) [] ∷ served_with [] [] ∷ Ran ∷ Missed (line_addr 1024) Write ∷ ordered_with [] [] ∷
    served_with [] [] ∷ Ran ∷ []

outcomes : outcomes_from first events ≡ expected
unfolding computing
outcomes = refl
