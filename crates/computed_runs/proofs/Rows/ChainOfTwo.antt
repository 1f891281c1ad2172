-- Lock removal: the section of hart 0 has read line B and is older than that of hart 1, whose request to write B waits
-- until hart 0 has committed; hart 0's own request for B goes in front of it.
use Rattle.std.proofs.Common.{◌≡◌, List, [], ◌∷◌, refl}
use Rattle.el_base.specs.HartId.{hart_id}
use Rattle.el_base.specs.LineAddr.{line_addr}
use Rattle.el_base.specs.declared.config.Mode.TheVariants.{Tlr}
use Rattle.el_base.specs.declared.events.Event.{Event}
use Rattle.el_base.specs.declared.events.Kind.TheVariants.{Step, Order, Serve}
use Rattle.el_base.specs.declared.outcomes.Need.TheVariants.{Read, Write}
use Rattle.el_base.specs.declared.outcomes.Outcome.{Outcome}
use Rattle.el_base.specs.declared.outcomes.Outcome.TheVariants.{Missed, Began, Buffered, Committed, Blocked}
use Rattle.el_base.specs.declared.outcomes.Why.TheVariants.{Retained}
use Rattle.computed_runs.proofs.Computing.{computing}
use Rattle.computed_runs.proofs.Given.{event, ordered_with, served_with}
use Rattle.computed_runs.proofs.Rows.Given.{load_word, machine_of, settings, store_word, swap, usual}
use Rattle.el_model.specs.Next.{outcomes_from}
use Rattle.el_model.specs.State.{ModelState}

abbrev first : ModelState
first =
    machine_of (settings 2 Tlr 16 4 16 2000) 128 (
    record { words = swap 7 5 10 ∷ load_word 7 11 ∷ store_word 6 11 ∷ store_word 0 10 ∷ []; registers = usual } ∷
    record { words = swap 7 5 10 ∷ store_word 6 11 ∷ store_word 0 10 ∷ []; registers = usual } ∷ [])

abbrev events : List Event
events =
    event Step 0 ∷ event Order 0 ∷ event Serve 0 ∷ event Step 0 ∷ event Step 0 ∷ event Order 0 ∷ event Serve 0 ∷
    event Step 0 ∷ event Step 1 ∷ event Order 1 ∷ event Serve 1 ∷ event Step 1 ∷ event Step 1 ∷ event Order 1 ∷
    event Serve 1 ∷ event Step 0 ∷ event Order 0 ∷ event Serve 0 ∷ event Step 0 ∷ event Step 0 ∷ event Serve 1 ∷
    event Step 1 ∷ []

abbrev expected : List Outcome
expected =
    Missed (line_addr 1024) Read ∷ ordered_with [] [] ∷ served_with [] [] ∷ Began ∷ Missed (line_addr 1025) Read ∷
    ordered_with [] [] ∷ served_with [] [] ∷ Buffered ∷ Missed (line_addr 1024) Read ∷ ordered_with [] [] ∷
    served_with [] [] ∷ Began ∷ Missed (line_addr 1025) Write ∷ ordered_with [] [] ∷ Blocked Retained (hart_id 0) ∷
    Missed (line_addr 1025) Write ∷ ordered_with [] [] ∷ served_with [] [] ∷ Buffered ∷ Committed 4 ∷
    served_with [] [] ∷ Buffered ∷ []

outcomes : outcomes_from first events ≡ expected
unfolding computing
outcomes = refl
