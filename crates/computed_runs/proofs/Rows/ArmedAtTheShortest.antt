-- A section may have two instructions: an armed hart then keeps one alone, and is let go at the next.
use Rattle.std.proofs.Common.{◌≡◌, List, [], ◌∷◌, refl}
use Rattle.el_base.specs.LineAddr.{line_addr}
use Rattle.el_base.specs.declared.config.Mode.TheVariants.{Sle, Tlr}
use Rattle.el_base.specs.declared.events.Event.{Event}
use Rattle.el_base.specs.declared.events.Kind.TheVariants.{Step, Order, Serve}
use Rattle.el_base.specs.declared.outcomes.Need.TheVariants.{Read}
use Rattle.el_base.specs.declared.outcomes.Outcome.{Outcome}
use Rattle.el_base.specs.declared.outcomes.Outcome.TheVariants.{Missed, Armed, LetGo}
use Rattle.computed_runs.proofs.Computing.{computing}
use Rattle.computed_runs.proofs.Given.{event, ordered_with, served_with}
use Rattle.computed_runs.proofs.Rows.Given.{load_reserved, machine_of, settings, skip_unless_same, store_conditional}
use Rattle.computed_runs.proofs.Rows.Given.{usual}
use Rattle.el_model.specs.Next.{outcomes_from}
use Rattle.el_model.specs.State.{ModelState}

abbrev tlr : ModelState
tlr =
    machine_of (settings 1 Tlr 16 4 16 2) 64 (
    record { words = load_reserved 7 10 ∷ skip_unless_same 7 0 ∷ store_conditional 8 5 10 ∷ []; registers = usual }
    ∷ [])

abbrev tlr_events : List Event
tlr_events = event Step 0 ∷ event Order 0 ∷ event Serve 0 ∷ event Step 0 ∷ event Step 0 ∷ []

abbrev tlr_expected : List Outcome
tlr_expected = Missed (line_addr 1024) Read ∷ ordered_with [] [] ∷ served_with [] [] ∷ Armed ∷ LetGo 1 ∷ []

tlr_outcomes : outcomes_from tlr tlr_events ≡ tlr_expected
unfolding computing
tlr_outcomes = refl

abbrev sle : ModelState
sle =
    machine_of (settings 1 Sle 16 4 16 2) 64 (
    record { words = load_reserved 7 10 ∷ skip_unless_same 7 0 ∷ store_conditional 8 5 10 ∷ []; registers = usual }
    ∷ [])

abbrev sle_events : List Event
sle_events = event Step 0 ∷ event Order 0 ∷ event Serve 0 ∷ event Step 0 ∷ event Step 0 ∷ []

abbrev sle_expected : List Outcome
sle_expected = Missed (line_addr 1024) Read ∷ ordered_with [] [] ∷ served_with [] [] ∷ Armed ∷ LetGo 1 ∷ []

sle_outcomes : outcomes_from sle sle_events ≡ sle_expected
unfolding computing
sle_outcomes = refl
