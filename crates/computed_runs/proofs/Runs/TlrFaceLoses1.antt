-- 4 harts in lock removal, 400 random events: a rollback by Long, a section lost as a request takes its place, a
-- section lost as the next head is faced, a serve blocked as Behind, a serve blocked as Locked, a serve blocked as
-- Retained, commits, messages
use Rattle.std.proofs.Common.{◌≡◌, ℕ, true, false, List, [], ◌∷◌, Some, None, replicate, refl}
use Rattle.el_base.specs.HartId.{hart_id}
use Rattle.el_base.specs.LineAddr.{line_addr}
use Rattle.el_base.specs.declared.config.Config.{Config}
use Rattle.el_base.specs.declared.config.Mode.TheVariants.{Plain, Sle, Tlr}
use Rattle.el_base.specs.declared.events.Event.{Event}
use Rattle.el_base.specs.declared.events.Kind.TheVariants.{Step, Order, Serve, Deliver}
use Rattle.el_base.specs.declared.outcomes.Cause.TheVariants.{Room, Lines, Long, Call, Mixed}
use Rattle.el_base.specs.declared.outcomes.Need.TheVariants.{Read, Write}
use Rattle.el_base.specs.declared.outcomes.Outcome.{Outcome}
use Rattle.el_base.specs.declared.outcomes.Outcome.TheVariants.{Idle, Stalled, Missed, Ran, Began, Buffered, Committed}
use Rattle.el_base.specs.declared.outcomes.Outcome.TheVariants.{RolledBack, Blocked}
use Rattle.el_base.specs.declared.outcomes.Outcome.TheVariants.{Delivered, Armed, LetGo}
use Rattle.el_base.specs.declared.outcomes.Why.TheVariants.{Behind, Retained, Locked}
use Rattle.computed_runs.proofs.Computing.{computing}
use Rattle.computed_runs.proofs.Given.{Ending, armed, ending_of, event, first_state, lost, ordered_with, patched}
use Rattle.computed_runs.proofs.Given.{request, section, served_with}
use Rattle.computed_runs.proofs.Given.{stamp, watch, way}
use Rattle.el_model.specs.Next.{outcomes_from, state_after}
use Rattle.el_model.specs.State.{Hart, ModelState}
use Rattle.mail.specs.Mailbox.{Marker, Probe}
use Rattle.moesi.specs.declared.letter.Letter.TheVariants.{M, O, E, S}

abbrev config : Config
config = record {
  harts = 4;
  mode = Tlr;
  sets = 1;
  ways = 2;
  lines = 2;
  long = 7;
  steps = 400;
}

abbrev words : List ℕ
words =
    66231 ∷ 1049363 ∷ 2098323 ∷ 67273619 ∷ 140747823 ∷ 44215843 ∷ 412264239 ∷ 140682287 ∷ 63088131 ∷ 6624355 ∷ 172067 ∷
    67273619 ∷ 140747823 ∷ 172579 ∷ 9609251 ∷ 1443347 ∷ 67281443 ∷ 237603 ∷ 4234145903 ∷ []

abbrev first : ModelState
first = first_state config 65536 192 131072 words

abbrev events : List Event
events =
    event Order 2 ∷ event Order 1 ∷ event Step 3 ∷ event Step 2 ∷ event Deliver 0 ∷ event Order 3 ∷ event Step 2 ∷
    event Serve 0 ∷ event Deliver 1 ∷ event Step 1 ∷ event Step 1 ∷ event Deliver 2 ∷ event Deliver 3 ∷ event Step 2 ∷
    event Serve 3 ∷ event Step 1 ∷ event Order 1 ∷ event Step 2 ∷ event Order 1 ∷ event Step 0 ∷ event Step 3 ∷
    event Step 3 ∷ event Step 3 ∷ event Step 2 ∷ event Deliver 2 ∷ event Order 2 ∷ event Step 3 ∷ event Serve 3 ∷
    event Serve 2 ∷ event Step 1 ∷ event Step 1 ∷ event Order 1 ∷ event Step 0 ∷ event Order 2 ∷ event Step 0 ∷
    event Step 2 ∷ event Order 3 ∷ event Step 2 ∷ event Serve 3 ∷ event Serve 1 ∷ event Order 3 ∷ event Order 0 ∷
    event Step 0 ∷ event Deliver 3 ∷ event Order 1 ∷ event Serve 1 ∷ event Order 2 ∷ event Deliver 1 ∷
    event Deliver 1 ∷ event Order 3 ∷ event Serve 2 ∷ event Step 1 ∷ event Order 0 ∷ event Serve 3 ∷ event Serve 0 ∷
    event Serve 3 ∷ event Step 3 ∷ event Step 1 ∷ event Serve 3 ∷ event Deliver 2 ∷ event Deliver 0 ∷ event Order 2 ∷
    event Serve 3 ∷ event Step 3 ∷ event Order 0 ∷ event Order 1 ∷ event Serve 1 ∷ event Step 0 ∷ event Serve 0 ∷
    event Serve 1 ∷ event Order 3 ∷ event Step 1 ∷ event Order 1 ∷ event Serve 3 ∷ event Deliver 1 ∷ event Order 0 ∷
    event Deliver 2 ∷ event Serve 0 ∷ event Serve 3 ∷ event Step 1 ∷ event Step 2 ∷ event Step 1 ∷ event Step 2 ∷
    event Step 1 ∷ event Step 2 ∷ event Serve 3 ∷ event Order 2 ∷ event Deliver 3 ∷ event Deliver 1 ∷ event Serve 2 ∷
    event Serve 1 ∷ event Deliver 2 ∷ event Step 1 ∷ event Serve 1 ∷ event Order 2 ∷ event Serve 2 ∷ event Step 1 ∷
    event Step 1 ∷ event Step 0 ∷ event Deliver 1 ∷ event Serve 3 ∷ event Serve 3 ∷ event Serve 0 ∷ event Step 1 ∷
    event Serve 2 ∷ event Deliver 1 ∷ event Step 0 ∷ event Deliver 0 ∷ event Order 1 ∷ event Deliver 0 ∷
    event Order 3 ∷ event Serve 1 ∷ event Step 3 ∷ event Deliver 2 ∷ event Step 2 ∷ event Deliver 1 ∷ event Serve 2 ∷
    event Serve 0 ∷ event Deliver 1 ∷ event Order 3 ∷ event Deliver 2 ∷ event Order 3 ∷ event Deliver 0 ∷
    event Deliver 2 ∷ event Serve 3 ∷ event Deliver 3 ∷ event Serve 3 ∷ event Serve 1 ∷ event Deliver 1 ∷
    event Order 0 ∷ event Deliver 1 ∷ event Step 2 ∷ event Deliver 0 ∷ event Deliver 2 ∷ event Serve 1 ∷
    event Serve 3 ∷ event Deliver 2 ∷ event Order 0 ∷ event Serve 2 ∷ event Order 3 ∷ event Serve 2 ∷ event Order 0 ∷
    event Order 2 ∷ event Order 0 ∷ event Serve 3 ∷ event Serve 2 ∷ event Serve 3 ∷ event Deliver 2 ∷ event Serve 1 ∷
    event Serve 0 ∷ event Deliver 3 ∷ event Order 2 ∷ event Step 0 ∷ event Order 2 ∷ event Step 0 ∷ event Order 3 ∷
    event Deliver 1 ∷ event Serve 3 ∷ event Serve 2 ∷ event Serve 2 ∷ event Serve 3 ∷ event Deliver 0 ∷ event Serve 2 ∷
    event Serve 3 ∷ event Serve 1 ∷ event Order 3 ∷ event Order 2 ∷ event Order 1 ∷ event Serve 0 ∷ event Serve 1 ∷
    event Serve 2 ∷ event Step 0 ∷ event Step 0 ∷ event Serve 3 ∷ event Serve 3 ∷ event Deliver 3 ∷ event Serve 2 ∷
    event Deliver 3 ∷ event Serve 3 ∷ event Serve 3 ∷ event Deliver 0 ∷ event Serve 3 ∷ event Serve 3 ∷ event Step 0 ∷
    event Serve 1 ∷ event Deliver 1 ∷ event Deliver 2 ∷ event Step 3 ∷ event Deliver 2 ∷ event Step 0 ∷ event Serve 1 ∷
    event Step 1 ∷ event Order 0 ∷ event Deliver 2 ∷ event Order 3 ∷ event Order 1 ∷ event Serve 1 ∷ event Deliver 3 ∷
    event Step 0 ∷ event Serve 1 ∷ event Step 1 ∷ event Step 1 ∷ event Order 0 ∷ event Step 0 ∷ event Deliver 2 ∷
    event Serve 2 ∷ event Order 0 ∷ event Serve 2 ∷ event Deliver 0 ∷ event Order 1 ∷ event Serve 2 ∷ event Serve 0 ∷
    event Deliver 2 ∷ event Serve 0 ∷ event Step 1 ∷ event Serve 1 ∷ event Deliver 3 ∷ event Deliver 2 ∷
    event Deliver 1 ∷ event Step 1 ∷ event Serve 1 ∷ event Serve 3 ∷ event Serve 3 ∷ event Serve 2 ∷ event Step 3 ∷
    event Serve 2 ∷ event Order 3 ∷ event Step 1 ∷ event Serve 0 ∷ event Step 1 ∷ event Deliver 3 ∷ event Deliver 3 ∷
    event Deliver 0 ∷ event Serve 3 ∷ event Serve 1 ∷ event Order 2 ∷ event Deliver 0 ∷ event Step 1 ∷ event Serve 0 ∷
    event Step 1 ∷ event Serve 3 ∷ event Deliver 0 ∷ event Deliver 1 ∷ event Step 2 ∷ event Serve 1 ∷ event Serve 0 ∷
    event Serve 0 ∷ event Serve 3 ∷ event Step 2 ∷ event Step 0 ∷ event Serve 3 ∷ event Order 3 ∷ event Deliver 1 ∷
    event Deliver 1 ∷ event Order 2 ∷ event Deliver 0 ∷ event Step 0 ∷ event Step 0 ∷ event Step 1 ∷ event Step 3 ∷
    event Serve 2 ∷ event Order 0 ∷ event Deliver 3 ∷ event Deliver 3 ∷ event Step 3 ∷ event Deliver 2 ∷
    event Serve 0 ∷ event Step 0 ∷ event Order 0 ∷ event Step 2 ∷ event Step 0 ∷ event Order 0 ∷ event Step 1 ∷
    event Order 3 ∷ event Step 2 ∷ event Order 2 ∷ event Step 3 ∷ event Deliver 2 ∷ event Deliver 3 ∷ event Serve 3 ∷
    event Step 0 ∷ event Step 3 ∷ event Serve 2 ∷ event Step 3 ∷ event Order 0 ∷ event Step 3 ∷ event Step 2 ∷
    event Serve 0 ∷ event Step 2 ∷ event Step 0 ∷ event Step 1 ∷ event Order 3 ∷ event Step 2 ∷ event Order 1 ∷
    event Step 0 ∷ event Order 2 ∷ event Serve 0 ∷ event Serve 1 ∷ event Serve 0 ∷ event Serve 0 ∷ event Order 2 ∷
    event Step 1 ∷ event Step 1 ∷ event Serve 3 ∷ event Deliver 2 ∷ event Deliver 2 ∷ event Serve 3 ∷ event Step 0 ∷
    event Order 1 ∷ event Deliver 3 ∷ event Order 3 ∷ event Step 2 ∷ event Step 0 ∷ event Serve 2 ∷ event Serve 1 ∷
    event Serve 0 ∷ event Serve 2 ∷ event Step 0 ∷ event Deliver 0 ∷ event Order 0 ∷ event Deliver 0 ∷ event Step 1 ∷
    event Serve 2 ∷ event Serve 0 ∷ event Deliver 3 ∷ event Step 3 ∷ event Serve 2 ∷ event Step 1 ∷ event Step 0 ∷
    event Order 2 ∷ event Order 0 ∷ event Order 0 ∷ event Step 2 ∷ event Order 3 ∷ event Step 0 ∷ event Serve 3 ∷
    event Step 1 ∷ event Serve 1 ∷ event Deliver 3 ∷ event Serve 1 ∷ event Deliver 1 ∷ event Serve 3 ∷ event Serve 2 ∷
    event Order 2 ∷ event Order 1 ∷ event Deliver 2 ∷ event Step 3 ∷ event Step 3 ∷ event Deliver 2 ∷ event Serve 2 ∷
    event Step 3 ∷ event Deliver 3 ∷ event Order 0 ∷ event Step 2 ∷ event Order 2 ∷ event Step 2 ∷ event Step 1 ∷
    event Deliver 3 ∷ event Serve 0 ∷ event Step 0 ∷ event Step 3 ∷ event Serve 3 ∷ event Deliver 1 ∷ event Order 2 ∷
    event Serve 1 ∷ event Step 1 ∷ event Step 2 ∷ event Step 3 ∷ event Step 0 ∷ event Step 1 ∷ event Step 0 ∷
    event Step 2 ∷ event Step 0 ∷ event Step 2 ∷ event Order 3 ∷ event Step 2 ∷ event Serve 3 ∷ event Order 2 ∷
    event Serve 2 ∷ event Serve 1 ∷ event Order 1 ∷ event Step 3 ∷ event Order 0 ∷ event Step 1 ∷ event Order 3 ∷
    event Order 2 ∷ event Serve 1 ∷ event Serve 2 ∷ event Serve 0 ∷ event Deliver 0 ∷ event Step 3 ∷ event Serve 2 ∷
    event Step 0 ∷ event Step 3 ∷ event Deliver 0 ∷ event Deliver 3 ∷ event Order 2 ∷ event Step 2 ∷ event Step 2 ∷
    event Step 1 ∷ []

abbrev expected : List Outcome
expected =
    Idle ∷ Idle ∷ Ran ∷ Ran ∷ Idle ∷ Idle ∷ Ran ∷ Idle ∷ Idle ∷ Ran ∷ Ran ∷ Idle ∷ Idle ∷ Ran ∷ Idle ∷ Ran ∷ Idle ∷
    Ran ∷ Idle ∷ Ran ∷ Ran ∷ Ran ∷ Ran ∷ Missed (line_addr 1025) Read ∷ Idle ∷ ordered_with [] [] ∷
    Missed (line_addr 1025) Read ∷ Idle ∷ served_with [] [] ∷ Ran ∷ Missed (line_addr 1025) Read ∷ ordered_with [] [] ∷
    Ran ∷ Idle ∷ Ran ∷ Began ∷ ordered_with [] [] ∷ Missed (line_addr 1024) Write ∷ Blocked Behind (hart_id 1) ∷
    served_with [] [] ∷ Idle ∷ Idle ∷ Ran ∷ Delivered (lost []) ∷ Idle ∷ Idle ∷ ordered_with [] [] ∷
    Delivered (lost []) ∷ Idle ∷ Idle ∷ served_with [] [] ∷ Began ∷ Idle ∷ served_with [] [] ∷ Idle ∷ Idle ∷ Began ∷
    Missed (line_addr 1024) Write ∷ Idle ∷ Idle ∷ Idle ∷ Idle ∷ Idle ∷ Missed (line_addr 1024) Write ∷ Idle ∷
    ordered_with ((2, 1) ∷ []) [] ∷ served_with [] [] ∷ Missed (line_addr 1025) Read ∷ Idle ∷ Idle ∷
    ordered_with [] [] ∷ Buffered ∷ Idle ∷ Blocked Retained (hart_id 1) ∷ Idle ∷ ordered_with [] [] ∷ Idle ∷
    served_with [] [] ∷ Blocked Retained (hart_id 1) ∷ Buffered ∷ Began ∷ Buffered ∷ Missed (line_addr 1024) Write ∷
    Buffered ∷ Stalled ∷ Blocked Retained (hart_id 1) ∷ ordered_with [] [] ∷ Delivered (lost []) ∷
    Delivered (lost []) ∷ Blocked Behind (hart_id 3) ∷ Idle ∷ Delivered (lost []) ∷ Buffered ∷ Idle ∷ Idle ∷
    Blocked Behind (hart_id 3) ∷ Buffered ∷ RolledBack Long ∷ Began ∷ Idle ∷ served_with ((3, 2) ∷ []) [] ∷ Idle ∷
    Idle ∷ Missed (line_addr 1025) Write ∷ served_with [] [] ∷ Idle ∷ Missed (line_addr 1024) Write ∷ Idle ∷
    ordered_with [] [] ∷ Idle ∷ Idle ∷ Blocked Retained (hart_id 0) ∷ Missed (line_addr 1025) Read ∷ Idle ∷ Buffered ∷
    Delivered (lost []) ∷ Idle ∷ Idle ∷ Delivered (lost []) ∷ ordered_with [] [] ∷ Delivered (lost []) ∷ Idle ∷
    Delivered (lost []) ∷ Idle ∷ Blocked Behind (hart_id 1) ∷ Delivered (lost []) ∷ Blocked Behind (hart_id 1) ∷
    Blocked Retained (hart_id 0) ∷ Delivered (lost []) ∷ ordered_with ((2, 0) ∷ []) [] ∷ Idle ∷
    Missed (line_addr 1025) Read ∷ Delivered (lost []) ∷ Delivered (lost []) ∷ Blocked Retained (hart_id 0) ∷
    Blocked Behind (hart_id 1) ∷ Idle ∷ Idle ∷ Idle ∷ Idle ∷ Idle ∷ Idle ∷ ordered_with [] [] ∷ Idle ∷
    Blocked Behind (hart_id 1) ∷ Blocked Behind (hart_id 1) ∷ Blocked Behind (hart_id 1) ∷ Delivered (lost []) ∷
    Blocked Retained (hart_id 0) ∷ served_with [] [] ∷ Delivered (lost []) ∷ Idle ∷ Buffered ∷ Idle ∷ Buffered ∷ Idle ∷
    Delivered (lost []) ∷ Blocked Behind (hart_id 1) ∷ Blocked Behind (hart_id 1) ∷ Blocked Behind (hart_id 1) ∷
    Blocked Behind (hart_id 1) ∷ Delivered (lost []) ∷ Blocked Behind (hart_id 1) ∷ Blocked Behind (hart_id 1) ∷
    Blocked Retained (hart_id 0) ∷ Idle ∷ Idle ∷ Idle ∷ Idle ∷ Blocked Retained (hart_id 0) ∷
    Blocked Behind (hart_id 1) ∷ Buffered ∷ Buffered ∷ Blocked Behind (hart_id 1) ∷ Blocked Behind (hart_id 1) ∷
    Delivered (lost []) ∷ Blocked Behind (hart_id 1) ∷ Idle ∷ Blocked Behind (hart_id 1) ∷ Blocked Behind (hart_id 1) ∷
    Idle ∷ Blocked Behind (hart_id 1) ∷ Blocked Behind (hart_id 1) ∷ Buffered ∷ Blocked Retained (hart_id 0) ∷ Idle ∷
    Idle ∷ Stalled ∷ Idle ∷ Buffered ∷ Blocked Retained (hart_id 0) ∷ Stalled ∷ Idle ∷ Idle ∷ Idle ∷ Idle ∷
    Blocked Retained (hart_id 0) ∷ Idle ∷ RolledBack Long ∷ served_with [] [] ∷ Ran ∷ Missed (line_addr 1024) Write ∷
    Idle ∷ Missed (line_addr 1025) Write ∷ Idle ∷ Blocked Behind (hart_id 3) ∷ ordered_with [] [] ∷
    Blocked Behind (hart_id 3) ∷ Delivered (lost []) ∷ ordered_with [] [] ∷ Blocked Behind (hart_id 3) ∷
    Blocked Behind (hart_id 3) ∷ Delivered (lost []) ∷ Blocked Behind (hart_id 3) ∷ Stalled ∷ served_with [] [] ∷
    Delivered (lost []) ∷ Delivered (lost []) ∷ Delivered (lost []) ∷ Ran ∷ Idle ∷ served_with [] [] ∷ Idle ∷
    Blocked Locked (hart_id 3) ∷ Missed (line_addr 1025) Write ∷ served_with [] [] ∷ ordered_with [] [] ∷ Ran ∷
    Blocked Locked (hart_id 2) ∷ Began ∷ Delivered (lost []) ∷ Idle ∷ Delivered (lost []) ∷
    Blocked Behind (hart_id 0) ∷ Idle ∷ Idle ∷ Idle ∷ Buffered ∷ Blocked Locked (hart_id 2) ∷ Buffered ∷
    Blocked Behind (hart_id 0) ∷ Idle ∷ Idle ∷ Missed (line_addr 1025) Write ∷ Idle ∷ served_with [] [] ∷ Idle ∷
    Blocked Locked (hart_id 0) ∷ Stalled ∷ Ran ∷ served_with [] [] ∷ Idle ∷ Idle ∷ Idle ∷ ordered_with [] [] ∷ Idle ∷
    Missed (line_addr 1024) Write ∷ Stalled ∷ Committed 4 ∷ Ran ∷ served_with [] [] ∷ ordered_with [] [] ∷ Idle ∷
    Idle ∷ Missed (line_addr 1024) Write ∷ Idle ∷ served_with [] [] ∷ Ran ∷ Idle ∷ Ran ∷ Ran ∷ Idle ∷ Ran ∷
    ordered_with [] [] ∷ Missed (line_addr 1024) Write ∷ ordered_with [] [] ∷ Stalled ∷ Delivered (lost []) ∷
    Delivered (lost []) ∷ served_with [] [] ∷ Missed (line_addr 1024) Write ∷ Ran ∷ served_with [] [] ∷ Ran ∷
    ordered_with [] [] ∷ Missed (line_addr 1024) Read ∷ Ran ∷ served_with [] [] ∷ Ran ∷ Ran ∷
    Missed (line_addr 1025) Read ∷ ordered_with [] [] ∷ Missed (line_addr 1024) Read ∷ ordered_with [] [] ∷ Ran ∷
    ordered_with [] [] ∷ Idle ∷ served_with [] [] ∷ Idle ∷ Idle ∷ Idle ∷ Missed (line_addr 1025) Write ∷ Stalled ∷
    served_with [] [] ∷ Delivered (lost []) ∷ Idle ∷ Idle ∷ Ran ∷ ordered_with [] [] ∷ Delivered (lost []) ∷ Idle ∷
    Stalled ∷ Ran ∷ Blocked Locked (hart_id 3) ∷ served_with [] [] ∷ Idle ∷ Blocked Locked (hart_id 3) ∷
    Missed (line_addr 1025) Read ∷ Idle ∷ ordered_with [] [] ∷ Idle ∷ Ran ∷ Blocked Locked (hart_id 3) ∷
    served_with [] [] ∷ Idle ∷ Missed (line_addr 1024) Write ∷ served_with [] [] ∷ Missed (line_addr 1024) Write ∷
    Missed (line_addr 1025) Write ∷ Idle ∷ ordered_with [] [] ∷ Idle ∷ Missed (line_addr 1024) Write ∷
    ordered_with [] [] ∷ Stalled ∷ served_with [] [] ∷ Stalled ∷ Idle ∷ Idle ∷ Idle ∷ Idle ∷ Idle ∷ Idle ∷
    ordered_with [] [] ∷ ordered_with [] [] ∷ Idle ∷ Ran ∷ Ran ∷ Idle ∷ served_with [] [] ∷ Ran ∷ Idle ∷ Idle ∷ Ran ∷
    Idle ∷ Ran ∷ Stalled ∷ Idle ∷ served_with [] [] ∷ Ran ∷ Ran ∷ Idle ∷ Delivered (lost []) ∷ Idle ∷
    served_with [] [] ∷ Ran ∷ Ran ∷ Missed (line_addr 1025) Read ∷ Missed (line_addr 1024) Write ∷ Ran ∷ Stalled ∷
    Ran ∷ Stalled ∷ Missed (line_addr 1025) Read ∷ ordered_with [] [] ∷ Stalled ∷ served_with [] [] ∷
    ordered_with [] [] ∷ Blocked Locked (hart_id 3) ∷ Idle ∷ Idle ∷ Missed (line_addr 1025) Write ∷
    ordered_with [] [] ∷ Ran ∷ ordered_with [] [] ∷ Idle ∷ Idle ∷ served_with [] [] ∷ served_with [] [] ∷ Idle ∷
    Stalled ∷ Idle ∷ Ran ∷ Stalled ∷ Idle ∷ Delivered (lost []) ∷ Idle ∷ Missed (line_addr 1025) Write ∷ Stalled ∷
    Missed (line_addr 1025) Write ∷ []

outcomes : outcomes_from first events ≡ expected
unfolding computing
outcomes = refl

abbrev last : Ending
last = record {
  harts =
      record {
        section = None;
        armed = None;
        last_lr = None;
        cache = (way 1024 M false false ∷ way 1025 O false false ∷ []) ∷ [];
        raised = None;
        held_line = None;
        mail = [];
        told = [];
        upstream = [];
        fallback = false;
        tries = 0;
        clock = 1;
        seen = 0;
        attempt = None;
        predictor =
            record { counters = (patched (replicate 64 2) ((4, 1) ∷ [])); watch = (Some (watch 131100 65536 0 6)) };
      } ∷ record {
        section = None;
        armed = None;
        last_lr = None;
        cache = ([]) ∷ [];
        raised = (Some (request 1 1025 Write None));
        held_line = None;
        mail = [];
        told = [];
        upstream = [];
        fallback = false;
        tries = 0;
        clock = 2;
        seen = 0;
        attempt = None;
        predictor = record { counters = (patched (replicate 64 2) ((4, 1) ∷ (7, 3) ∷ [])); watch = None };
      } ∷ record {
        section = None;
        armed = None;
        last_lr = None;
        cache = (way 1025 S false false ∷ []) ∷ [];
        raised = (Some (request 2 1025 Write (Some (stamp 0 2))));
        held_line = None;
        mail = Probe 3 ∷ [];
        told = [];
        upstream = [];
        fallback = false;
        tries = 0;
        clock = 0;
        seen = 0;
        attempt = (Some (stamp 0 2));
        predictor = record { counters = (patched (replicate 64 2) ([])); watch = None };
      } ∷ record {
        section = None;
        armed = None;
        last_lr = None;
        cache = (way 1025 S false false ∷ []) ∷ [];
        raised = None;
        held_line = None;
        mail = [];
        told = [];
        upstream = 2 ∷ [];
        fallback = false;
        tries = 0;
        clock = 0;
        seen = 0;
        attempt = (Some (stamp 0 3));
        predictor = record { counters = (patched (replicate 64 2) ([])); watch = None };
      } ∷ [];
  order = (request 3 1025 Write (Some (stamp 0 3))) ∷ [];
  pcs = 131128 ∷ 131136 ∷ 131120 ∷ 131120 ∷ [];
  registers =
      (0 ∷ 0 ∷ 65728 ∷ 0 ∷ 0 ∷ 65536 ∷ 1 ∷ 65600 ∷ 1 ∷ 2 ∷ 0 ∷ 4 ∷ 2 ∷ 0 ∷ 1 ∷ 0 ∷ 0 ∷ 0 ∷ 0 ∷ 0 ∷ 0 ∷
      0 ∷ 0 ∷ 0 ∷ 0 ∷ 0 ∷ 0 ∷ 0 ∷ 0 ∷ 0 ∷ 0 ∷ 0 ∷ []) ∷
      (0 ∷ 0 ∷ 192 ∷ 0 ∷ 0 ∷ 65536 ∷ 1 ∷ 65600 ∷ 1 ∷ 2 ∷ 1 ∷ 4 ∷ 2 ∷ 0 ∷ 1 ∷ 0 ∷ 0 ∷ 0 ∷ 0 ∷ 0 ∷ 0 ∷
      0 ∷ 0 ∷ 0 ∷ 0 ∷ 0 ∷ 0 ∷ 0 ∷ 0 ∷ 0 ∷ 0 ∷ 0 ∷ []) ∷
      (0 ∷ 0 ∷ 4294901952 ∷ 0 ∷ 0 ∷ 65536 ∷ 1 ∷ 65600 ∷ 1 ∷ 2 ∷ 2 ∷ 4 ∷ 2 ∷ 0 ∷ 1 ∷ 0 ∷ 0 ∷ 0 ∷ 0 ∷
      0 ∷ 0 ∷ 0 ∷ 0 ∷ 0 ∷ 0 ∷ 0 ∷ 0 ∷ 0 ∷ 0 ∷ 0 ∷ 0 ∷ 0 ∷ []) ∷
      (0 ∷ 0 ∷ 4294836416 ∷ 0 ∷ 0 ∷ 65536 ∷ 1 ∷ 65600 ∷ 1 ∷ 2 ∷ 3 ∷ 4 ∷ 2 ∷ 0 ∷ 1 ∷ 0 ∷ 0 ∷ 0 ∷ 0 ∷
      0 ∷ 0 ∷ 0 ∷ 0 ∷ 0 ∷ 0 ∷ 0 ∷ 0 ∷ 0 ∷ 0 ∷ 0 ∷ 0 ∷ 0 ∷ []) ∷
      [];
  bytes = patched (replicate 192 0) ((0, 2) ∷ (60, 2) ∷ (64, 1) ∷ []);
}

ending : ending_of (state_after first events) ≡ last
unfolding computing
ending = refl
