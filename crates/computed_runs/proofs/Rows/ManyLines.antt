-- A section that writes 17 lines, of which it may write 16, is rolled back at the seventeenth, and its hart then takes
-- the lock without a miss. With 16 lines the section commits.
use Rattle.std.proofs.Common.{◌≡◌, List, [], ◌∷◌, refl}
use Rattle.el_base.specs.LineAddr.{line_addr}
use Rattle.el_base.specs.declared.config.Mode.TheVariants.{Sle, Tlr}
use Rattle.el_base.specs.declared.events.Event.{Event}
use Rattle.el_base.specs.declared.events.Kind.TheVariants.{Step, Order, Serve}
use Rattle.el_base.specs.declared.outcomes.Cause.TheVariants.{Lines}
use Rattle.el_base.specs.declared.outcomes.Need.TheVariants.{Read, Write}
use Rattle.el_base.specs.declared.outcomes.Outcome.{Outcome}
use Rattle.el_base.specs.declared.outcomes.Outcome.TheVariants.{Missed, Ran, Began, Buffered, Committed, RolledBack}
use Rattle.computed_runs.proofs.Computing.{computing}
use Rattle.computed_runs.proofs.Given.{event, ordered_with, served_with}
use Rattle.computed_runs.proofs.Rows.Given.{machine_of, settings, store_beyond, store_word, swap, usual}
use Rattle.el_model.specs.Next.{outcomes_from}
use Rattle.el_model.specs.State.{ModelState}

abbrev large : ModelState
large =
    machine_of (settings 1 Tlr 16 4 16 2000) 1280 (
    record {
      words =
          swap 7 5 10 ∷ store_beyond 0 6 11 ∷ store_beyond 64 6 11 ∷ store_beyond 128 6 11 ∷ store_beyond 192 6 11 ∷
          store_beyond 256 6 11 ∷ store_beyond 320 6 11 ∷ store_beyond 384 6 11 ∷ store_beyond 448 6 11 ∷
          store_beyond 512 6 11 ∷ store_beyond 576 6 11 ∷ store_beyond 640 6 11 ∷ store_beyond 704 6 11 ∷
          store_beyond 768 6 11 ∷ store_beyond 832 6 11 ∷ store_beyond 896 6 11 ∷ store_beyond 960 6 11 ∷
          store_beyond 1024 6 11 ∷ [];
      registers = usual;
    } ∷ [])

abbrev large_events : List Event
large_events =
    event Step 0 ∷ event Order 0 ∷ event Serve 0 ∷ event Step 0 ∷ event Step 0 ∷ event Order 0 ∷ event Serve 0 ∷
    event Step 0 ∷ event Step 0 ∷ event Order 0 ∷ event Serve 0 ∷ event Step 0 ∷ event Step 0 ∷ event Order 0 ∷
    event Serve 0 ∷ event Step 0 ∷ event Step 0 ∷ event Order 0 ∷ event Serve 0 ∷ event Step 0 ∷ event Step 0 ∷
    event Order 0 ∷ event Serve 0 ∷ event Step 0 ∷ event Step 0 ∷ event Order 0 ∷ event Serve 0 ∷ event Step 0 ∷
    event Step 0 ∷ event Order 0 ∷ event Serve 0 ∷ event Step 0 ∷ event Step 0 ∷ event Order 0 ∷ event Serve 0 ∷
    event Step 0 ∷ event Step 0 ∷ event Order 0 ∷ event Serve 0 ∷ event Step 0 ∷ event Step 0 ∷ event Order 0 ∷
    event Serve 0 ∷ event Step 0 ∷ event Step 0 ∷ event Order 0 ∷ event Serve 0 ∷ event Step 0 ∷ event Step 0 ∷
    event Order 0 ∷ event Serve 0 ∷ event Step 0 ∷ event Step 0 ∷ event Order 0 ∷ event Serve 0 ∷ event Step 0 ∷
    event Step 0 ∷ event Order 0 ∷ event Serve 0 ∷ event Step 0 ∷ event Step 0 ∷ event Order 0 ∷ event Serve 0 ∷
    event Step 0 ∷ event Step 0 ∷ event Order 0 ∷ event Serve 0 ∷ event Step 0 ∷ event Step 0 ∷ event Step 0 ∷ []

abbrev large_expected : List Outcome
large_expected =
    Missed (line_addr 1024) Read ∷ ordered_with [] [] ∷ served_with [] [] ∷ Began ∷ Missed (line_addr 1025) Write ∷
    ordered_with [] [] ∷ served_with [] [] ∷ Buffered ∷ Missed (line_addr 1026) Write ∷ ordered_with [] [] ∷
    served_with [] [] ∷ Buffered ∷ Missed (line_addr 1027) Write ∷ ordered_with [] [] ∷ served_with [] [] ∷
    Buffered ∷ Missed (line_addr 1028) Write ∷ ordered_with [] [] ∷ served_with [] [] ∷ Buffered ∷
    Missed (line_addr 1029) Write ∷ ordered_with [] [] ∷ served_with [] [] ∷ Buffered ∷
    Missed (line_addr 1030) Write ∷ ordered_with [] [] ∷ served_with [] [] ∷ Buffered ∷
    Missed (line_addr 1031) Write ∷ ordered_with [] [] ∷ served_with [] [] ∷ Buffered ∷
    Missed (line_addr 1032) Write ∷ ordered_with [] [] ∷ served_with [] [] ∷ Buffered ∷
    Missed (line_addr 1033) Write ∷ ordered_with [] [] ∷ served_with [] [] ∷ Buffered ∷
    Missed (line_addr 1034) Write ∷ ordered_with [] [] ∷ served_with [] [] ∷ Buffered ∷
    Missed (line_addr 1035) Write ∷ ordered_with [] [] ∷ served_with [] [] ∷ Buffered ∷
    Missed (line_addr 1036) Write ∷ ordered_with [] [] ∷ served_with [] [] ∷ Buffered ∷
    Missed (line_addr 1037) Write ∷ ordered_with [] [] ∷ served_with [] [] ∷ Buffered ∷
    Missed (line_addr 1038) Write ∷ ordered_with [] [] ∷ served_with [] [] ∷ Buffered ∷
    Missed (line_addr 1039) Write ∷ ordered_with [] [] ∷ served_with [] [] ∷ Buffered ∷
    Missed (line_addr 1040) Write ∷ ordered_with [] [] ∷ served_with [] [] ∷ Buffered ∷ RolledBack Lines ∷ Ran ∷ []

large_outcomes : outcomes_from large large_events ≡ large_expected
unfolding computing
large_outcomes = refl

abbrev fits : ModelState
fits =
    machine_of (settings 1 Sle 16 4 16 2000) 1280 (
    record {
      words =
          swap 7 5 10 ∷ store_beyond 0 6 11 ∷ store_beyond 64 6 11 ∷ store_beyond 128 6 11 ∷ store_beyond 192 6 11 ∷
          store_beyond 256 6 11 ∷ store_beyond 320 6 11 ∷ store_beyond 384 6 11 ∷ store_beyond 448 6 11 ∷
          store_beyond 512 6 11 ∷ store_beyond 576 6 11 ∷ store_beyond 640 6 11 ∷ store_beyond 704 6 11 ∷
          store_beyond 768 6 11 ∷ store_beyond 832 6 11 ∷ store_beyond 896 6 11 ∷ store_beyond 960 6 11 ∷
          store_word 0 10 ∷ [];
      registers = usual;
    } ∷ [])

abbrev fits_events : List Event
fits_events =
    event Step 0 ∷ event Order 0 ∷ event Serve 0 ∷ event Step 0 ∷ event Step 0 ∷ event Order 0 ∷ event Serve 0 ∷
    event Step 0 ∷ event Step 0 ∷ event Order 0 ∷ event Serve 0 ∷ event Step 0 ∷ event Step 0 ∷ event Order 0 ∷
    event Serve 0 ∷ event Step 0 ∷ event Step 0 ∷ event Order 0 ∷ event Serve 0 ∷ event Step 0 ∷ event Step 0 ∷
    event Order 0 ∷ event Serve 0 ∷ event Step 0 ∷ event Step 0 ∷ event Order 0 ∷ event Serve 0 ∷ event Step 0 ∷
    event Step 0 ∷ event Order 0 ∷ event Serve 0 ∷ event Step 0 ∷ event Step 0 ∷ event Order 0 ∷ event Serve 0 ∷
    event Step 0 ∷ event Step 0 ∷ event Order 0 ∷ event Serve 0 ∷ event Step 0 ∷ event Step 0 ∷ event Order 0 ∷
    event Serve 0 ∷ event Step 0 ∷ event Step 0 ∷ event Order 0 ∷ event Serve 0 ∷ event Step 0 ∷ event Step 0 ∷
    event Order 0 ∷ event Serve 0 ∷ event Step 0 ∷ event Step 0 ∷ event Order 0 ∷ event Serve 0 ∷ event Step 0 ∷
    event Step 0 ∷ event Order 0 ∷ event Serve 0 ∷ event Step 0 ∷ event Step 0 ∷ event Order 0 ∷ event Serve 0 ∷
    event Step 0 ∷ event Step 0 ∷ event Order 0 ∷ event Serve 0 ∷ event Step 0 ∷ event Step 0 ∷ []

abbrev fits_expected : List Outcome
fits_expected =
    Missed (line_addr 1024) Read ∷ ordered_with [] [] ∷ served_with [] [] ∷ Began ∷ Missed (line_addr 1025) Write ∷
    ordered_with [] [] ∷ served_with [] [] ∷ Buffered ∷ Missed (line_addr 1026) Write ∷ ordered_with [] [] ∷
    served_with [] [] ∷ Buffered ∷ Missed (line_addr 1027) Write ∷ ordered_with [] [] ∷ served_with [] [] ∷
    Buffered ∷ Missed (line_addr 1028) Write ∷ ordered_with [] [] ∷ served_with [] [] ∷ Buffered ∷
    Missed (line_addr 1029) Write ∷ ordered_with [] [] ∷ served_with [] [] ∷ Buffered ∷
    Missed (line_addr 1030) Write ∷ ordered_with [] [] ∷ served_with [] [] ∷ Buffered ∷
    Missed (line_addr 1031) Write ∷ ordered_with [] [] ∷ served_with [] [] ∷ Buffered ∷
    Missed (line_addr 1032) Write ∷ ordered_with [] [] ∷ served_with [] [] ∷ Buffered ∷
    Missed (line_addr 1033) Write ∷ ordered_with [] [] ∷ served_with [] [] ∷ Buffered ∷
    Missed (line_addr 1034) Write ∷ ordered_with [] [] ∷ served_with [] [] ∷ Buffered ∷
    Missed (line_addr 1035) Write ∷ ordered_with [] [] ∷ served_with [] [] ∷ Buffered ∷
    Missed (line_addr 1036) Write ∷ ordered_with [] [] ∷ served_with [] [] ∷ Buffered ∷
    Missed (line_addr 1037) Write ∷ ordered_with [] [] ∷ served_with [] [] ∷ Buffered ∷
    Missed (line_addr 1038) Write ∷ ordered_with [] [] ∷ served_with [] [] ∷ Buffered ∷
    Missed (line_addr 1039) Write ∷ ordered_with [] [] ∷ served_with [] [] ∷ Buffered ∷
    Missed (line_addr 1040) Write ∷ ordered_with [] [] ∷ served_with [] [] ∷ Buffered ∷ Committed 18 ∷ []

fits_outcomes : outcomes_from fits fits_events ≡ fits_expected
unfolding computing
fits_outcomes = refl
