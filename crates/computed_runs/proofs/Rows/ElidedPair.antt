-- A lock that is taken by a pair of load reserved and store conditional: its hart is armed at the load, a branch is
-- kept private, the section begins at the store, and commits with all five instructions.
use Rattle.std.proofs.Common.{◌≡◌, List, [], ◌∷◌, refl}
use Rattle.std.specs.Prelude.{slice_index_or}
use Rattle.el_base.specs.LineAddr.{line_addr}
use Rattle.el_base.specs.declared.config.Mode.TheVariants.{Sle, Tlr}
use Rattle.el_base.specs.declared.events.Event.{Event}
use Rattle.el_base.specs.declared.events.Kind.TheVariants.{Step, Order, Serve}
use Rattle.el_base.specs.declared.outcomes.Need.TheVariants.{Read}
use Rattle.el_base.specs.declared.outcomes.Outcome.{Outcome}
use Rattle.el_base.specs.declared.outcomes.Outcome.TheVariants.{Missed, Began, Buffered, Committed, Armed}
use Rattle.computed_runs.proofs.Computing.{computing}
use Rattle.computed_runs.proofs.Given.{event, ordered_with, served_with}
use Rattle.computed_runs.proofs.Rows.Given.{load_reserved, machine_of, settings, skip_unless_same, store_conditional}
use Rattle.computed_runs.proofs.Rows.Given.{store_word, usual}
use Rattle.el_model.specs.Next.{outcomes_from, state_after}
use Rattle.el_model.specs.State.{ModelState}
use Rattle.rv_flat.specs.FlatState.{view_of}

abbrev tlr : ModelState
tlr =
    machine_of (settings 1 Tlr 16 4 16 2000) 64 (
    record {
      words =
          load_reserved 7 10 ∷ skip_unless_same 7 0 ∷ store_conditional 8 5 10 ∷ skip_unless_same 8 0
          ∷ store_word 0 10 ∷ [];
      registers = usual;
    } ∷ [])

abbrev tlr_events : List Event
tlr_events =
    event Step 0 ∷ event Order 0 ∷ event Serve 0 ∷ event Step 0 ∷ event Step 0 ∷ event Step 0 ∷ event Step 0
    ∷ event Step 0 ∷ []

abbrev tlr_expected : List Outcome
tlr_expected =
    Missed (line_addr 1024) Read ∷ ordered_with [] [] ∷ served_with [] [] ∷ Armed ∷ Buffered ∷ Began ∷ Buffered
    ∷ Committed 5 ∷ []

tlr_outcomes : outcomes_from tlr tlr_events ≡ tlr_expected
unfolding computing
tlr_outcomes = refl

tlr_succeeded : slice_index_or (view_of (state_after tlr tlr_events).committed 0).regs 8 9 ≡ 0
unfolding computing
tlr_succeeded = refl

abbrev sle : ModelState
sle =
    machine_of (settings 1 Sle 16 4 16 2000) 64 (
    record {
      words =
          load_reserved 7 10 ∷ skip_unless_same 7 0 ∷ store_conditional 8 5 10 ∷ skip_unless_same 8 0
          ∷ store_word 0 10 ∷ [];
      registers = usual;
    } ∷ [])

abbrev sle_events : List Event
sle_events =
    event Step 0 ∷ event Order 0 ∷ event Serve 0 ∷ event Step 0 ∷ event Step 0 ∷ event Step 0 ∷ event Step 0
    ∷ event Step 0 ∷ []

abbrev sle_expected : List Outcome
sle_expected =
    Missed (line_addr 1024) Read ∷ ordered_with [] [] ∷ served_with [] [] ∷ Armed ∷ Buffered ∷ Began ∷ Buffered
    ∷ Committed 5 ∷ []

sle_outcomes : outcomes_from sle sle_events ≡ sle_expected
unfolding computing
sle_outcomes = refl

sle_succeeded : slice_index_or (view_of (state_after sle sle_events).committed 0).regs 8 9 ≡ 0
unfolding computing
sle_succeeded = refl
