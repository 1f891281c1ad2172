-- One set of two ways: a section that needs a place for a third line takes the place of the line that has no bit. Where
-- both lines of the set have bits, it is rolled back for want of room.
use Rattle.std.proofs.Common.{◌≡◌, List, [], ◌∷◌, refl}
use Rattle.el_base.specs.LineAddr.{line_addr}
use Rattle.el_base.specs.declared.config.Mode.TheVariants.{Sle}
use Rattle.el_base.specs.declared.events.Event.{Event}
use Rattle.el_base.specs.declared.events.Kind.TheVariants.{Step, Order, Serve}
use Rattle.el_base.specs.declared.outcomes.Cause.TheVariants.{Room}
use Rattle.el_base.specs.declared.outcomes.Need.TheVariants.{Read}
use Rattle.el_base.specs.declared.outcomes.Outcome.{Outcome}
use Rattle.el_base.specs.declared.outcomes.Outcome.TheVariants.{Missed, Began, Buffered, Committed, RolledBack}
use Rattle.computed_runs.proofs.Computing.{computing}
use Rattle.computed_runs.proofs.Given.{event, ordered_with, served_with}
use Rattle.computed_runs.proofs.Rows.Given.{load_word, machine_of, settings, store_word, swap, usual}
use Rattle.el_model.specs.Next.{outcomes_from}
use Rattle.el_model.specs.State.{ModelState}

abbrev first : ModelState
first =
    machine_of (settings 1 Sle 1 2 16 2000) 192 (
    record {
      words =
          swap 7 5 10 ∷ load_word 7 11 ∷ store_word 0 10 ∷ swap 7 5 10 ∷ load_word 7 12 ∷
          store_word 0 10 ∷ swap 7 5 10 ∷
          load_word 7 11 ∷ load_word 7 12 ∷ [];
      registers = usual;
    } ∷ [])

abbrev events : List Event
events =
    event Step 0 ∷ event Order 0 ∷ event Serve 0 ∷ event Step 0 ∷ event Step 0 ∷ event Order 0 ∷ event Serve 0 ∷
    event Step 0 ∷ event Step 0 ∷ event Step 0 ∷ event Step 0 ∷ event Order 0 ∷ event Serve 0 ∷ event Step 0 ∷
    event Step 0 ∷ event Step 0 ∷ event Step 0 ∷ event Order 0 ∷ event Serve 0 ∷ event Step 0 ∷ event Step 0 ∷ []

abbrev expected : List Outcome
expected =
    Missed (line_addr 1024) Read ∷ ordered_with [] [] ∷ served_with [] [] ∷ Began ∷ Missed (line_addr 1025) Read ∷
    ordered_with [] [] ∷ served_with [] [] ∷ Buffered ∷ Committed 3 ∷ Began ∷ Missed (line_addr 1026) Read ∷
    ordered_with [] [] ∷ served_with [] [] ∷ Buffered ∷ Committed 3 ∷ Began ∷ Missed (line_addr 1025) Read ∷
    ordered_with [] [] ∷ served_with [] [] ∷ Buffered ∷ RolledBack Room ∷ []

outcomes : outcomes_from first events ≡ expected
unfolding computing
outcomes = refl
