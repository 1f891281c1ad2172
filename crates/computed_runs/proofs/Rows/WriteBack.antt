-- One way in one set: a byte that was stored stays stored when its line has to leave the cache for another one.
use Rattle.std.specs.Prelude.{slice_index_or}
use Rattle.std.proofs.Common.{◌≡◌, List, [], ◌∷◌, false, refl}
use Rattle.el_base.specs.LineAddr.{line_addr}
use Rattle.el_base.specs.declared.config.Mode.TheVariants.{Plain}
use Rattle.el_base.specs.declared.events.Event.{Event}
use Rattle.el_base.specs.declared.events.Kind.TheVariants.{Step, Order, Serve}
use Rattle.el_base.specs.declared.outcomes.Need.TheVariants.{Read, Write}
use Rattle.el_base.specs.declared.outcomes.Outcome.{Outcome}
use Rattle.el_base.specs.declared.outcomes.Outcome.TheVariants.{Missed, Ran}
use Rattle.computed_runs.proofs.Computing.{computing}
use Rattle.computed_runs.proofs.Given.{event, ordered_with, served_with, way}
use Rattle.computed_runs.proofs.Rows.Given.{load_word, machine_of, settings, store_byte, usual}
use Rattle.el_model.specs.Next.{outcomes_from, state_after}
use Rattle.el_model.specs.State.{ModelState, cache_of}
use Rattle.moesi.specs.declared.letter.Letter.TheVariants.{E}

abbrev first : ModelState
first =
    machine_of (settings 1 Plain 1 1 16 2000) 192 (
    record { words = store_byte 6 10 ∷ load_word 7 11 ∷ []; registers = usual } ∷ [])

abbrev events : List Event
events =
    event Step 0 ∷ event Order 0 ∷ event Serve 0 ∷ event Step 0 ∷ event Step 0 ∷ event Order 0 ∷ event Serve 0 ∷ []

abbrev expected : List Outcome
expected =
    Missed (line_addr 1024) Write ∷ ordered_with [] [] ∷ served_with [] [] ∷ Ran ∷ Missed (line_addr 1025) Read ∷
    ordered_with [] [] ∷ served_with [] [] ∷ []

outcomes : outcomes_from first events ≡ expected
unfolding computing
outcomes = refl

byte : slice_index_or (state_after first events).committed.bytes 0 0 ≡ 5
unfolding computing
byte = refl

evicted : cache_of (state_after first events) 0 ≡ (way 1025 E false false ∷ []) ∷ []
unfolding computing
evicted = refl
