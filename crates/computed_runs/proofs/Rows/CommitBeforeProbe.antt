-- The chain of four, in which hart 1 commits before the probe of hart 0 reaches it: the probe
-- is gone when hart 0 is served.
use Rattle.std.proofs.Common.{◌≡◌, List, [], ◌∷◌, refl}
use Rattle.el_base.specs.LineAddr.{line_addr}
use Rattle.el_base.specs.declared.config.Mode.TheVariants.{Tlr}
use Rattle.el_base.specs.declared.events.Event.{Event}
use Rattle.el_base.specs.declared.events.Kind.TheVariants.{Step, Order, Serve, Deliver}
use Rattle.el_base.specs.declared.outcomes.Need.TheVariants.{Read, Write}
use Rattle.el_base.specs.declared.outcomes.Outcome.{Outcome}
use Rattle.el_base.specs.declared.outcomes.Outcome.TheVariants.{Idle, Missed, Began, Buffered, Committed, Delivered}
use Rattle.computed_runs.proofs.Computing.{computing}
use Rattle.computed_runs.proofs.Given.{event, lost, ordered_with, served_with}
use Rattle.computed_runs.proofs.Rows.Given.{machine_of, settings, store_word, swap, usual}
use Rattle.el_model.specs.Next.{outcomes_from}
use Rattle.el_model.specs.State.{ModelState}

abbrev first : ModelState
first =
    machine_of (settings 4 Tlr 16 4 16 2000) 128 (
    record { words = swap 7 5 10 ∷ store_word 6 11 ∷ store_word 0 10 ∷ []; registers = usual } ∷
    record { words = swap 7 5 10 ∷ store_word 6 11 ∷ store_word 0 10 ∷ []; registers = usual } ∷
    record { words = swap 7 5 10 ∷ store_word 6 11 ∷ store_word 0 10 ∷ []; registers = usual } ∷
    record { words = swap 7 5 10 ∷ store_word 6 11 ∷ store_word 0 10 ∷ []; registers = usual } ∷ [])

abbrev events : List Event
events =
    event Step 0 ∷ event Order 0 ∷ event Serve 0 ∷ event Step 0 ∷ event Step 1 ∷ event Order 1 ∷ event Serve 1 ∷
    event Step 1 ∷ event Step 2 ∷ event Order 2 ∷ event Serve 2 ∷ event Step 2 ∷ event Step 3 ∷ event Order 3 ∷
    event Serve 3 ∷ event Step 3 ∷ event Step 1 ∷ event Order 1 ∷ event Serve 1 ∷ event Step 1 ∷ event Step 2 ∷
    event Step 3 ∷ event Step 0 ∷ event Order 2 ∷ event Order 3 ∷ event Order 0 ∷ event Deliver 0 ∷ event Deliver 3 ∷
    event Deliver 3 ∷ event Deliver 2 ∷ event Deliver 2 ∷ event Deliver 2 ∷ event Deliver 1 ∷ event Deliver 1 ∷
    event Step 1 ∷ event Serve 2 ∷ event Serve 3 ∷ event Serve 0 ∷ event Deliver 1 ∷ []

abbrev expected : List Outcome
expected =
    Missed (line_addr 1024) Read ∷ ordered_with [] [] ∷ served_with [] [] ∷ Began ∷ Missed (line_addr 1024) Read ∷
    ordered_with [] [] ∷ served_with [] [] ∷ Began ∷ Missed (line_addr 1024) Read ∷ ordered_with [] [] ∷
    served_with [] [] ∷ Began ∷ Missed (line_addr 1024) Read ∷ ordered_with [] [] ∷ served_with [] [] ∷ Began ∷
    Missed (line_addr 1025) Write ∷ ordered_with [] [] ∷ served_with [] [] ∷ Buffered ∷
    Missed (line_addr 1025) Write ∷ Missed (line_addr 1025) Write ∷ Missed (line_addr 1025) Write ∷
    ordered_with [] [] ∷ ordered_with [] [] ∷ ordered_with [] [] ∷ Delivered (lost []) ∷ Delivered (lost []) ∷
    Delivered (lost []) ∷ Delivered (lost []) ∷ Delivered (lost []) ∷ Delivered (lost []) ∷
    Delivered (lost []) ∷ Delivered (lost []) ∷ Committed 3 ∷ served_with ((2, 0) ∷ []) [] ∷
    served_with ((3, 0) ∷ []) [] ∷ served_with [] [] ∷ Idle ∷ []

outcomes : outcomes_from first events ≡ expected
unfolding computing
outcomes = refl
