-- A store in a section to a line that its hart may write sets the write bit and is not yet in memory; the commit brings
-- it there, makes the line modified and clears the bits.
use Rattle.std.specs.Prelude.{slice_index_or}
use Rattle.std.proofs.Common.{◌≡◌, List, [], ◌∷◌, true, false, refl}
use Rattle.el_base.specs.LineAddr.{line_addr}
use Rattle.el_base.specs.declared.config.Mode.TheVariants.{Sle}
use Rattle.el_base.specs.declared.events.Event.{Event}
use Rattle.el_base.specs.declared.events.Kind.TheVariants.{Step, Order, Serve}
use Rattle.el_base.specs.declared.outcomes.Need.TheVariants.{Read}
use Rattle.el_base.specs.declared.outcomes.Outcome.{Outcome}
use Rattle.el_base.specs.declared.outcomes.Outcome.TheVariants.{Missed, Ran, Began, Buffered, Committed}
use Rattle.computed_runs.proofs.Computing.{computing}
use Rattle.computed_runs.proofs.Given.{event, ordered_with, served_with, way}
use Rattle.computed_runs.proofs.Rows.Given.{load_word, machine_of, settings, store_byte, store_word, swap, usual}
use Rattle.el_model.specs.Next.{outcomes_from, state_after}
use Rattle.el_model.specs.State.{ModelState, cache_of}
use Rattle.moesi.specs.declared.letter.Letter.TheVariants.{M, E}

abbrev first : ModelState
first =
    machine_of (settings 1 Sle 16 4 16 2000) 128 (
    record {
      words = load_word 7 10 ∷ load_word 7 11 ∷ swap 7 5 10 ∷ store_byte 6 11 ∷ store_word 0 10 ∷ [];
      registers = usual;
    } ∷ [])

abbrev events : List Event
events =
    event Step 0 ∷ event Order 0 ∷ event Serve 0 ∷ event Step 0 ∷ event Step 0 ∷ event Order 0 ∷ event Serve 0 ∷
    event Step 0 ∷ event Step 0 ∷ event Step 0 ∷ event Step 0 ∷ []

abbrev expected : List Outcome
expected =
    Missed (line_addr 1024) Read ∷ ordered_with [] [] ∷ served_with [] [] ∷ Ran ∷ Missed (line_addr 1025) Read ∷
    ordered_with [] [] ∷ served_with [] [] ∷ Ran ∷ Began ∷ Buffered ∷ Committed 3 ∷ []

outcomes : outcomes_from first events ≡ expected
unfolding computing
outcomes = refl

abbrev buffering : List Event
buffering =
    event Step 0 ∷ event Order 0 ∷ event Serve 0 ∷ event Step 0 ∷ event Step 0 ∷ event Order 0 ∷ event Serve 0 ∷
    event Step 0 ∷ event Step 0 ∷ event Step 0 ∷ []

byte_before : slice_index_or (state_after first buffering).committed.bytes 64 0 ≡ 0
unfolding computing
byte_before = refl

bit_before : slice_index_or (cache_of (state_after first buffering) 0) 1 [] ≡ way 1025 E false true ∷ []
unfolding computing
bit_before = refl

byte_after : slice_index_or (state_after first events).committed.bytes 64 0 ≡ 5
unfolding computing
byte_after = refl

bit_after : slice_index_or (cache_of (state_after first events) 0) 1 [] ≡ way 1025 M false false ∷ []
unfolding computing
bit_after = refl
