-- A hart that is armed with two instructions is let go as another hart's write to its line is ordered. The store takes
-- its reservation, so its own store conditional fails, and its register is 1.
use Rattle.std.proofs.Common.{◌≡◌, List, [], ◌∷◌, refl}
use Rattle.std.specs.Prelude.{slice_index_or}
use Rattle.el_base.specs.LineAddr.{line_addr}
use Rattle.el_base.specs.declared.config.Mode.TheVariants.{Sle, Tlr}
use Rattle.el_base.specs.declared.events.Event.{Event}
use Rattle.el_base.specs.declared.events.Kind.TheVariants.{Step, Order, Serve}
use Rattle.el_base.specs.declared.outcomes.Need.TheVariants.{Read, Write}
use Rattle.el_base.specs.declared.outcomes.Outcome.{Outcome}
use Rattle.el_base.specs.declared.outcomes.Outcome.TheVariants.{Missed, Ran, Buffered, Armed}
use Rattle.computed_runs.proofs.Computing.{computing}
use Rattle.computed_runs.proofs.Given.{event, ordered_with, served_with}
use Rattle.computed_runs.proofs.Rows.Given.{load_reserved, machine_of, settings, skip_unless_same, store_conditional}
use Rattle.computed_runs.proofs.Rows.Given.{store_word, usual}
use Rattle.el_model.specs.Next.{outcomes_from, state_after}
use Rattle.el_model.specs.State.{ModelState}
use Rattle.rv_flat.specs.FlatState.{view_of}

abbrev tlr : ModelState
tlr =
    machine_of (settings 2 Tlr 16 4 16 2000) 64 (
    record { words = load_reserved 7 10 ∷ skip_unless_same 7 0 ∷ store_conditional 8 5 10 ∷ []; registers = usual } ∷
    record { words = store_word 6 10 ∷ []; registers = usual } ∷ [])

abbrev tlr_events : List Event
tlr_events =
    event Step 0 ∷ event Order 0 ∷ event Serve 0 ∷ event Step 0 ∷ event Step 0 ∷ event Step 1 ∷
    event Order 1 ∷ event Serve 1 ∷
    event Step 1 ∷ event Step 0 ∷ []

abbrev tlr_expected : List Outcome
tlr_expected =
    Missed (line_addr 1024) Read ∷ ordered_with [] [] ∷ served_with [] [] ∷ Armed ∷ Buffered ∷
    Missed (line_addr 1024) Write ∷
    ordered_with [] ((0, 2) ∷ []) ∷ served_with [] [] ∷ Ran ∷ Ran ∷ []

tlr_outcomes : outcomes_from tlr tlr_events ≡ tlr_expected
unfolding computing
tlr_outcomes = refl

tlr_failed : slice_index_or (view_of (state_after tlr tlr_events).committed 0).regs 8 0 ≡ 1
unfolding computing
tlr_failed = refl

abbrev sle : ModelState
sle =
    machine_of (settings 2 Sle 16 4 16 2000) 64 (
    record { words = load_reserved 7 10 ∷ skip_unless_same 7 0 ∷ store_conditional 8 5 10 ∷ []; registers = usual } ∷
    record { words = store_word 6 10 ∷ []; registers = usual } ∷ [])

abbrev sle_events : List Event
sle_events =
    event Step 0 ∷ event Order 0 ∷ event Serve 0 ∷ event Step 0 ∷ event Step 0 ∷ event Step 1 ∷
    event Order 1 ∷ event Serve 1 ∷
    event Step 1 ∷ event Step 0 ∷ []

abbrev sle_expected : List Outcome
sle_expected =
    Missed (line_addr 1024) Read ∷ ordered_with [] [] ∷ served_with [] [] ∷ Armed ∷ Buffered ∷
    Missed (line_addr 1024) Write ∷
    ordered_with [] ((0, 2) ∷ []) ∷ served_with [] [] ∷ Ran ∷ Ran ∷ []

sle_outcomes : outcomes_from sle sle_events ≡ sle_expected
unfolding computing
sle_outcomes = refl

sle_failed : slice_index_or (view_of (state_after sle sle_events).committed 0).regs 8 0 ≡ 1
unfolding computing
sle_failed = refl
