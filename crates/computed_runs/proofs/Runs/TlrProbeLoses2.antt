-- 4 harts in lock removal, 400 random events: a rollback by Long, a section lost as a request takes its place, a
-- section lost as the next head is faced, a section lost to a probe, a serve blocked as Behind, a serve blocked as
-- Locked, a serve blocked as Retained, commits, messages
use Rattle.std.proofs.Common.{◌≡◌, ℕ, true, false, List, [], ◌∷◌, Some, None, replicate, refl}
use Rattle.el_base.specs.HartId.{hart_id}
use Rattle.el_base.specs.LineAddr.{line_addr}
use Rattle.el_base.specs.declared.config.Config.{Config}
use Rattle.el_base.specs.declared.config.Mode.TheVariants.{Plain, Sle, Tlr}
use Rattle.el_base.specs.declared.events.Event.{Event}
use Rattle.el_base.specs.declared.events.Kind.TheVariants.{Step, Order, Serve, Deliver}
use Rattle.el_base.specs.declared.outcomes.Cause.TheVariants.{Room, Lines, Long, Call, Mixed}
use Rattle.el_base.specs.declared.outcomes.Need.TheVariants.{Read, Write}
use Rattle.el_base.specs.declared.outcomes.Outcome.{Outcome}
use Rattle.el_base.specs.declared.outcomes.Outcome.TheVariants.{Idle, Stalled, Missed, Ran, Began, Buffered, Committed}
use Rattle.el_base.specs.declared.outcomes.Outcome.TheVariants.{RolledBack, Blocked}
use Rattle.el_base.specs.declared.outcomes.Outcome.TheVariants.{Delivered, Armed, LetGo}
use Rattle.el_base.specs.declared.outcomes.Why.TheVariants.{Behind, Retained, Locked}
use Rattle.computed_runs.proofs.Computing.{computing}
use Rattle.computed_runs.proofs.Given.{Ending, armed, ending_of, event, first_state, lost, ordered_with, patched}
use Rattle.computed_runs.proofs.Given.{request, section, served_with}
use Rattle.computed_runs.proofs.Given.{stamp, watch, way}
use Rattle.el_model.specs.Next.{outcomes_from, state_after}
use Rattle.el_model.specs.State.{Hart, ModelState}
use Rattle.mail.specs.Mailbox.{Marker, Probe}
use Rattle.moesi.specs.declared.letter.Letter.TheVariants.{M, O, E, S}

abbrev config : Config
config = record {
  harts = 4;
  mode = Tlr;
  sets = 2;
  ways = 1;
  lines = 3;
  long = 5;
  steps = 400;
}

abbrev words : List ℕ
words =
    66231 ∷ 1049363 ∷ 2098323 ∷ 67273619 ∷ 140747823 ∷ 134390307 ∷ 71476739 ∷ 134455343 ∷ 140682287 ∷ 63088131 ∷
    76711075 ∷ 412264239 ∷ 268609199 ∷ 4255117423 ∷ []

abbrev first : ModelState
first = first_state config 65536 256 131072 words

abbrev events : List Event
events =
    event Order 1 ∷ event Step 3 ∷ event Serve 2 ∷ event Step 2 ∷ event Order 2 ∷ event Serve 1 ∷ event Step 3 ∷
    event Step 1 ∷ event Step 3 ∷ event Step 0 ∷ event Order 3 ∷ event Step 3 ∷ event Step 2 ∷ event Step 1 ∷
    event Deliver 2 ∷ event Step 3 ∷ event Serve 0 ∷ event Order 0 ∷ event Deliver 0 ∷ event Step 2 ∷ event Order 3 ∷
    event Step 0 ∷ event Step 0 ∷ event Step 0 ∷ event Serve 2 ∷ event Step 1 ∷ event Serve 3 ∷ event Step 1 ∷
    event Order 2 ∷ event Step 2 ∷ event Order 0 ∷ event Deliver 0 ∷ event Step 3 ∷ event Step 0 ∷ event Step 2 ∷
    event Step 1 ∷ event Order 1 ∷ event Order 0 ∷ event Serve 0 ∷ event Deliver 1 ∷ event Step 1 ∷ event Deliver 1 ∷
    event Order 2 ∷ event Serve 2 ∷ event Serve 1 ∷ event Serve 2 ∷ event Step 0 ∷ event Serve 0 ∷ event Serve 3 ∷
    event Serve 2 ∷ event Step 1 ∷ event Step 3 ∷ event Step 2 ∷ event Serve 0 ∷ event Serve 2 ∷ event Deliver 3 ∷
    event Order 3 ∷ event Deliver 3 ∷ event Order 0 ∷ event Deliver 2 ∷ event Step 3 ∷ event Serve 2 ∷
    event Deliver 0 ∷ event Serve 2 ∷ event Serve 3 ∷ event Step 0 ∷ event Serve 0 ∷ event Step 0 ∷ event Deliver 2 ∷
    event Step 0 ∷ event Serve 2 ∷ event Serve 1 ∷ event Deliver 3 ∷ event Deliver 1 ∷ event Order 0 ∷ event Step 2 ∷
    event Serve 0 ∷ event Step 1 ∷ event Serve 3 ∷ event Step 0 ∷ event Step 3 ∷ event Step 3 ∷ event Order 1 ∷
    event Order 3 ∷ event Serve 3 ∷ event Deliver 1 ∷ event Deliver 0 ∷ event Serve 1 ∷ event Order 0 ∷
    event Deliver 3 ∷ event Step 2 ∷ event Serve 3 ∷ event Deliver 1 ∷ event Step 3 ∷ event Step 0 ∷ event Step 0 ∷
    event Serve 1 ∷ event Serve 3 ∷ event Step 0 ∷ event Serve 3 ∷ event Deliver 1 ∷ event Order 2 ∷ event Step 3 ∷
    event Serve 0 ∷ event Serve 3 ∷ event Serve 2 ∷ event Serve 3 ∷ event Step 0 ∷ event Step 3 ∷ event Step 1 ∷
    event Deliver 3 ∷ event Order 1 ∷ event Order 2 ∷ event Deliver 1 ∷ event Deliver 2 ∷ event Order 3 ∷
    event Deliver 3 ∷ event Deliver 0 ∷ event Serve 2 ∷ event Deliver 0 ∷ event Serve 2 ∷ event Step 3 ∷
    event Deliver 2 ∷ event Order 0 ∷ event Serve 3 ∷ event Serve 0 ∷ event Order 0 ∷ event Serve 3 ∷ event Serve 3 ∷
    event Serve 3 ∷ event Order 1 ∷ event Step 0 ∷ event Step 0 ∷ event Step 0 ∷ event Deliver 1 ∷ event Serve 3 ∷
    event Deliver 0 ∷ event Order 0 ∷ event Step 1 ∷ event Serve 3 ∷ event Order 0 ∷ event Serve 3 ∷ event Serve 3 ∷
    event Serve 2 ∷ event Serve 0 ∷ event Deliver 2 ∷ event Serve 2 ∷ event Serve 2 ∷ event Order 3 ∷ event Step 1 ∷
    event Step 2 ∷ event Step 0 ∷ event Step 1 ∷ event Deliver 0 ∷ event Deliver 0 ∷ event Deliver 1 ∷ event Serve 3 ∷
    event Serve 0 ∷ event Deliver 3 ∷ event Step 3 ∷ event Deliver 2 ∷ event Order 3 ∷ event Deliver 3 ∷
    event Serve 2 ∷ event Step 0 ∷ event Step 2 ∷ event Deliver 0 ∷ event Step 0 ∷ event Deliver 3 ∷ event Serve 3 ∷
    event Serve 0 ∷ event Serve 0 ∷ event Order 1 ∷ event Step 0 ∷ event Serve 1 ∷ event Serve 0 ∷ event Serve 3 ∷
    event Serve 3 ∷ event Serve 2 ∷ event Deliver 0 ∷ event Deliver 2 ∷ event Serve 3 ∷ event Deliver 1 ∷
    event Order 2 ∷ event Serve 0 ∷ event Serve 0 ∷ event Serve 3 ∷ event Step 3 ∷ event Deliver 3 ∷ event Step 0 ∷
    event Deliver 0 ∷ event Serve 0 ∷ event Serve 2 ∷ event Step 2 ∷ event Step 1 ∷ event Deliver 1 ∷ event Step 1 ∷
    event Serve 1 ∷ event Step 2 ∷ event Deliver 3 ∷ event Step 2 ∷ event Step 1 ∷ event Order 2 ∷ event Deliver 3 ∷
    event Deliver 3 ∷ event Deliver 3 ∷ event Serve 3 ∷ event Deliver 2 ∷ event Order 1 ∷ event Serve 3 ∷
    event Serve 0 ∷ event Serve 3 ∷ event Step 0 ∷ event Serve 1 ∷ event Order 0 ∷ event Step 0 ∷ event Deliver 1 ∷
    event Deliver 3 ∷ event Serve 2 ∷ event Step 0 ∷ event Deliver 3 ∷ event Serve 1 ∷ event Order 1 ∷ event Step 3 ∷
    event Deliver 0 ∷ event Order 0 ∷ event Deliver 0 ∷ event Order 3 ∷ event Serve 3 ∷ event Serve 1 ∷
    event Deliver 3 ∷ event Deliver 1 ∷ event Step 2 ∷ event Serve 0 ∷ event Step 1 ∷ event Order 1 ∷ event Serve 3 ∷
    event Serve 2 ∷ event Deliver 2 ∷ event Step 0 ∷ event Deliver 3 ∷ event Step 1 ∷ event Step 3 ∷ event Order 2 ∷
    event Step 2 ∷ event Step 1 ∷ event Order 1 ∷ event Step 3 ∷ event Order 3 ∷ event Step 3 ∷ event Order 3 ∷
    event Step 0 ∷ event Step 2 ∷ event Serve 3 ∷ event Step 3 ∷ event Step 0 ∷ event Step 0 ∷ event Order 2 ∷
    event Deliver 2 ∷ event Deliver 0 ∷ event Step 3 ∷ event Deliver 2 ∷ event Serve 2 ∷ event Order 1 ∷
    event Deliver 2 ∷ event Order 1 ∷ event Step 3 ∷ event Deliver 1 ∷ event Deliver 2 ∷ event Order 3 ∷ event Step 1 ∷
    event Order 0 ∷ event Deliver 0 ∷ event Serve 2 ∷ event Serve 0 ∷ event Serve 1 ∷ event Step 1 ∷ event Step 1 ∷
    event Deliver 1 ∷ event Serve 0 ∷ event Serve 3 ∷ event Deliver 1 ∷ event Step 2 ∷ event Serve 2 ∷
    event Deliver 2 ∷ event Step 1 ∷ event Step 3 ∷ event Serve 0 ∷ event Deliver 1 ∷ event Serve 2 ∷ event Step 1 ∷
    event Step 1 ∷ event Order 3 ∷ event Step 2 ∷ event Order 0 ∷ event Step 0 ∷ event Order 1 ∷ event Step 1 ∷
    event Serve 3 ∷ event Step 2 ∷ event Step 2 ∷ event Order 1 ∷ event Deliver 2 ∷ event Order 3 ∷ event Deliver 2 ∷
    event Serve 0 ∷ event Deliver 1 ∷ event Serve 1 ∷ event Order 0 ∷ event Step 1 ∷ event Order 1 ∷ event Serve 1 ∷
    event Deliver 0 ∷ event Step 0 ∷ event Serve 1 ∷ event Serve 2 ∷ event Deliver 0 ∷ event Order 2 ∷
    event Deliver 1 ∷ event Order 2 ∷ event Step 0 ∷ event Step 2 ∷ event Serve 1 ∷ event Deliver 2 ∷ event Step 3 ∷
    event Order 3 ∷ event Serve 1 ∷ event Order 0 ∷ event Deliver 1 ∷ event Deliver 0 ∷ event Step 3 ∷ event Step 3 ∷
    event Serve 2 ∷ event Step 0 ∷ event Deliver 0 ∷ event Deliver 1 ∷ event Order 3 ∷ event Step 1 ∷ event Step 2 ∷
    event Step 0 ∷ event Step 2 ∷ event Deliver 3 ∷ event Serve 2 ∷ event Order 0 ∷ event Order 0 ∷ event Order 0 ∷
    event Serve 2 ∷ event Order 0 ∷ event Order 3 ∷ event Serve 2 ∷ event Serve 3 ∷ event Serve 1 ∷ event Serve 3 ∷
    event Step 0 ∷ event Deliver 2 ∷ event Deliver 1 ∷ event Step 1 ∷ event Serve 2 ∷ event Serve 2 ∷ event Step 2 ∷
    event Deliver 2 ∷ event Deliver 0 ∷ event Serve 3 ∷ event Serve 2 ∷ event Step 1 ∷ event Step 1 ∷ event Deliver 2 ∷
    event Deliver 2 ∷ event Deliver 1 ∷ event Serve 2 ∷ event Step 1 ∷ event Order 3 ∷ event Step 1 ∷ event Order 0 ∷
    event Step 0 ∷ event Serve 1 ∷ event Serve 2 ∷ event Order 1 ∷ event Order 1 ∷ event Step 2 ∷ event Serve 0 ∷
    event Serve 0 ∷ event Step 2 ∷ event Step 3 ∷ event Serve 0 ∷ event Serve 1 ∷ event Step 2 ∷ event Deliver 0 ∷
    event Serve 3 ∷ event Step 2 ∷ event Deliver 2 ∷ event Step 2 ∷ event Deliver 0 ∷ event Deliver 1 ∷ event Serve 3 ∷
    event Serve 0 ∷ event Deliver 3 ∷ event Order 2 ∷ event Serve 0 ∷ event Deliver 0 ∷ []

abbrev expected : List Outcome
expected =
    Idle ∷ Ran ∷ Idle ∷ Ran ∷ Idle ∷ Idle ∷ Ran ∷ Ran ∷ Ran ∷ Ran ∷ Idle ∷ Ran ∷ Ran ∷ Ran ∷ Idle ∷
    Missed (line_addr 1025) Read ∷ Idle ∷ Idle ∷ Idle ∷ Ran ∷ ordered_with [] [] ∷ Ran ∷ Ran ∷ Ran ∷ Idle ∷ Ran ∷
    served_with [] [] ∷ Ran ∷ Idle ∷ Ran ∷ Idle ∷ Idle ∷ Began ∷ Missed (line_addr 1025) Read ∷
    Missed (line_addr 1025) Read ∷ Missed (line_addr 1025) Read ∷ ordered_with [] [] ∷ ordered_with [] [] ∷
    Blocked Behind (hart_id 1) ∷ Idle ∷ Stalled ∷ Idle ∷ ordered_with [] [] ∷ Blocked Behind (hart_id 1) ∷
    served_with [] [] ∷ Blocked Behind (hart_id 0) ∷ Stalled ∷ Blocked Locked (hart_id 1) ∷ Idle ∷
    Blocked Behind (hart_id 0) ∷ Began ∷ Missed (line_addr 1026) Write ∷ Stalled ∷ served_with [] [] ∷
    Blocked Locked (hart_id 0) ∷ Idle ∷ ordered_with [] [] ∷ Idle ∷ Idle ∷ Delivered (lost []) ∷ Stalled ∷
    Blocked Locked (hart_id 0) ∷ Delivered (lost []) ∷ Blocked Locked (hart_id 0) ∷ served_with [] [] ∷ Began ∷ Idle ∷
    Missed (line_addr 1026) Write ∷ Idle ∷ Stalled ∷ served_with [] [] ∷ Idle ∷ Idle ∷ Idle ∷
    ordered_with ((3, 0) ∷ []) [] ∷ Began ∷ served_with [] [] ∷ Missed (line_addr 1026) Write ∷ Idle ∷ Buffered ∷
    Began ∷ Missed (line_addr 1026) Write ∷ ordered_with [] [] ∷ ordered_with [] [] ∷ Blocked Behind (hart_id 1) ∷
    Delivered (lost []) ∷ Delivered (lost []) ∷ Blocked Retained (hart_id 0) ∷ Idle ∷ Delivered (lost []) ∷
    Missed (line_addr 1026) Write ∷ Blocked Behind (hart_id 1) ∷ Delivered (lost []) ∷ Stalled ∷ Buffered ∷
    Committed 4 ∷ served_with [] [] ∷ Blocked Retained (hart_id 1) ∷ Missed (line_addr 1024) Read ∷
    Blocked Retained (hart_id 1) ∷ Idle ∷ ordered_with [] [] ∷ Stalled ∷ Idle ∷ Blocked Retained (hart_id 1) ∷
    Blocked Behind (hart_id 3) ∷ Blocked Retained (hart_id 1) ∷ Stalled ∷ Stalled ∷ Buffered ∷ Delivered (lost []) ∷
    Idle ∷ Idle ∷ Delivered (lost []) ∷ Delivered (lost []) ∷ Idle ∷ Delivered (lost []) ∷ Delivered (lost []) ∷
    Blocked Behind (hart_id 3) ∷ Idle ∷ Blocked Behind (hart_id 3) ∷ Stalled ∷ Idle ∷ ordered_with [] [] ∷
    Blocked Retained (hart_id 1) ∷ served_with [] [] ∷ Idle ∷ Blocked Retained (hart_id 1) ∷
    Blocked Retained (hart_id 1) ∷ Blocked Retained (hart_id 1) ∷ Idle ∷ Began ∷ Buffered ∷
    Missed (line_addr 1025) Write ∷ Delivered (lost []) ∷ Blocked Retained (hart_id 1) ∷ Idle ∷ ordered_with [] [] ∷
    Buffered ∷ Blocked Retained (hart_id 1) ∷ Idle ∷ Blocked Retained (hart_id 1) ∷ Blocked Retained (hart_id 1) ∷
    Blocked Behind (hart_id 3) ∷ Blocked Retained (hart_id 1) ∷ Idle ∷ Blocked Behind (hart_id 3) ∷
    Blocked Behind (hart_id 3) ∷ Idle ∷ Committed 4 ∷ Stalled ∷ Stalled ∷ Missed (line_addr 1024) Read ∷
    Delivered (lost []) ∷ Delivered (lost []) ∷ Delivered (lost []) ∷ served_with ((3, 2) ∷ []) [] ∷
    Blocked Retained (hart_id 2) ∷ Idle ∷ Missed (line_addr 1025) Read ∷ Delivered (lost []) ∷ ordered_with [] [] ∷
    Delivered (lost []) ∷ served_with [] [] ∷ Stalled ∷ Buffered ∷ Delivered (lost []) ∷ Stalled ∷
    Delivered (lost []) ∷ Blocked Behind (hart_id 0) ∷ Blocked Retained (hart_id 2) ∷ Blocked Retained (hart_id 2) ∷
    ordered_with [] [] ∷ Stalled ∷ served_with [] [] ∷ Blocked Retained (hart_id 2) ∷ Blocked Behind (hart_id 0) ∷
    Blocked Behind (hart_id 0) ∷ Idle ∷ Delivered (lost []) ∷ Delivered (lost []) ∷ Blocked Behind (hart_id 0) ∷
    Delivered (lost []) ∷ Idle ∷ Blocked Retained (hart_id 2) ∷ Blocked Retained (hart_id 2) ∷
    Blocked Behind (hart_id 0) ∷ Stalled ∷ Idle ∷ Stalled ∷ Idle ∷ Blocked Retained (hart_id 2) ∷ Idle ∷ Buffered ∷
    Began ∷ Idle ∷ Buffered ∷ Idle ∷ Committed 4 ∷ Idle ∷ Missed (line_addr 1024) Read ∷
    Missed (line_addr 1025) Write ∷ ordered_with [] [] ∷ Idle ∷ Idle ∷ Idle ∷ Blocked Behind (hart_id 0) ∷ Idle ∷
    ordered_with [] [] ∷ Blocked Behind (hart_id 0) ∷ served_with ((0, 3) ∷ []) [] ∷ served_with [] [] ∷ Began ∷
    Blocked Locked (hart_id 3) ∷ Idle ∷ Buffered ∷ Delivered (lost []) ∷ Delivered (lost []) ∷ served_with [] [] ∷
    Missed (line_addr 1025) Write ∷ Idle ∷ Blocked Locked (hart_id 3) ∷ Idle ∷ Missed (line_addr 1025) Read ∷ Idle ∷
    ordered_with [] [] ∷ Delivered (lost []) ∷ ordered_with [] [] ∷ Blocked Behind (hart_id 1) ∷
    served_with ((1, 0) ∷ []) [] ∷ Delivered (lost []) ∷ Delivered (lost []) ∷ Began ∷ served_with ((0, 3) ∷ []) [] ∷
    Began ∷ Idle ∷ served_with [] [] ∷ Idle ∷ Idle ∷ Began ∷ Idle ∷ Buffered ∷ Began ∷ Idle ∷ Buffered ∷
    Missed (line_addr 1025) Write ∷ ordered_with [] [] ∷ Missed (line_addr 1026) Write ∷ ordered_with [] [] ∷ Stalled ∷
    Idle ∷ Buffered ∷ Missed (line_addr 1025) Write ∷ served_with [] [] ∷ Buffered ∷ Missed (line_addr 1025) Write ∷
    Stalled ∷ ordered_with [] [] ∷ Delivered (lost []) ∷ Idle ∷ Buffered ∷ Idle ∷ Blocked Behind (hart_id 1) ∷ Idle ∷
    Idle ∷ Idle ∷ Committed 4 ∷ Delivered (lost []) ∷ Idle ∷ Idle ∷ Stalled ∷ ordered_with [] [] ∷
    Delivered (lost []) ∷ Blocked Behind (hart_id 1) ∷ Blocked Behind (hart_id 1) ∷ served_with [] [] ∷ Buffered ∷
    Buffered ∷ Delivered (lost []) ∷ Blocked Behind (hart_id 2) ∷ Idle ∷ Idle ∷ Stalled ∷
    Blocked Retained (hart_id 1) ∷ Delivered (lost []) ∷ Buffered ∷ Missed (line_addr 1024) Read ∷
    Blocked Behind (hart_id 2) ∷ Delivered (lost ((1, 0) ∷ [])) ∷ served_with ((2, 0) ∷ []) [] ∷ Began ∷ Buffered ∷
    ordered_with [] [] ∷ Began ∷ Idle ∷ Stalled ∷ Idle ∷ Missed (line_addr 1025) Write ∷ served_with [] [] ∷ Buffered ∷
    Missed (line_addr 1025) Write ∷ ordered_with [] [] ∷ Idle ∷ Idle ∷ Idle ∷ served_with [] [] ∷ Delivered (lost []) ∷
    Blocked Retained (hart_id 0) ∷ Idle ∷ Stalled ∷ Idle ∷ Blocked Retained (hart_id 0) ∷ Delivered (lost []) ∷
    Buffered ∷ Blocked Retained (hart_id 0) ∷ Idle ∷ Idle ∷ ordered_with [] [] ∷ Idle ∷ Idle ∷ Buffered ∷ Stalled ∷
    Blocked Retained (hart_id 0) ∷ Delivered (lost []) ∷ Began ∷ Idle ∷ Blocked Retained (hart_id 0) ∷ Idle ∷
    Delivered (lost []) ∷ Delivered (lost []) ∷ Buffered ∷ Missed (line_addr 1025) Write ∷ Blocked Behind (hart_id 1) ∷
    Buffered ∷ Idle ∷ Idle ∷ ordered_with [] [] ∷ Stalled ∷ Stalled ∷ RolledBack Long ∷ Stalled ∷ Delivered (lost []) ∷
    Blocked Behind (hart_id 1) ∷ Idle ∷ Idle ∷ Idle ∷ Blocked Behind (hart_id 1) ∷ Idle ∷ Idle ∷
    Blocked Behind (hart_id 1) ∷ Blocked Behind (hart_id 1) ∷ served_with [] [] ∷ Blocked Behind (hart_id 2) ∷
    Missed (line_addr 1024) Write ∷ Delivered (lost []) ∷ Delivered (lost []) ∷ Buffered ∷
    Blocked Retained (hart_id 1) ∷ Blocked Retained (hart_id 1) ∷ Stalled ∷ Delivered (lost []) ∷ Idle ∷
    Blocked Behind (hart_id 2) ∷ Blocked Retained (hart_id 1) ∷ Buffered ∷ Buffered ∷ Idle ∷ Idle ∷
    Delivered (lost []) ∷ Blocked Retained (hart_id 1) ∷ RolledBack Long ∷ Idle ∷ Missed (line_addr 1024) Write ∷
    ordered_with [] [] ∷ Stalled ∷ Idle ∷ served_with [] [] ∷ ordered_with [] [] ∷ Idle ∷ Buffered ∷
    Blocked Retained (hart_id 2) ∷ Blocked Retained (hart_id 2) ∷ Buffered ∷ Stalled ∷ Blocked Retained (hart_id 2) ∷
    Blocked Behind (hart_id 0) ∷ Buffered ∷ Delivered (lost []) ∷ Blocked Retained (hart_id 2) ∷ RolledBack Long ∷
    Delivered (lost []) ∷ Missed (line_addr 1024) Write ∷ Delivered (lost []) ∷ Delivered (lost []) ∷
    served_with [] [] ∷ Blocked Retained (hart_id 3) ∷ Delivered (lost []) ∷ ordered_with [] [] ∷
    Blocked Retained (hart_id 3) ∷ Idle ∷ []

outcomes : outcomes_from first events ≡ expected
unfolding computing
outcomes = refl

abbrev last : Ending
last = record {
  harts =
      record {
        section = None;
        armed = None;
        last_lr = None;
        cache = (way 1024 S false false ∷ []) ∷ ([]) ∷ [];
        raised = None;
        held_line = None;
        mail = [];
        told = [];
        upstream = 2 ∷ 3 ∷ [];
        fallback = true;
        tries = 0;
        clock = 3;
        seen = 2;
        attempt = None;
        predictor = record { counters = (patched (replicate 64 2) ((4, 3) ∷ (8, 1) ∷ [])); watch = None };
      } ∷ record {
        section = None;
        armed = None;
        last_lr = None;
        cache = (way 1024 S false false ∷ []) ∷ ([]) ∷ [];
        raised = None;
        held_line = None;
        mail = Marker 0 ∷ [];
        told = [];
        upstream = [];
        fallback = true;
        tries = 0;
        clock = 3;
        seen = 2;
        attempt = None;
        predictor = record { counters = (patched (replicate 64 2) ((4, 3) ∷ (8, 1) ∷ [])); watch = None };
      } ∷ record {
        section = None;
        armed = None;
        last_lr = None;
        cache = (way 1024 S false false ∷ []) ∷ ([]) ∷ [];
        raised = None;
        held_line = None;
        mail = Marker 1 ∷ [];
        told = 0 ∷ [];
        upstream = [];
        fallback = true;
        tries = 0;
        clock = 4;
        seen = 3;
        attempt = None;
        predictor = record { counters = (patched (replicate 64 2) ((4, 3) ∷ (8, 1) ∷ [])); watch = None };
      } ∷ record {
        section = (Some (section 2 65536 0 1));
        armed = None;
        last_lr = None;
        cache = (way 1024 S true false ∷ []) ∷ (way 1025 M false true ∷ []) ∷ [];
        raised = None;
        held_line = None;
        mail = [];
        told = 0 ∷ [];
        upstream = [];
        fallback = false;
        tries = 0;
        clock = 3;
        seen = 2;
        attempt = (Some (stamp 3 3));
        predictor = record { counters = (patched (replicate 64 2) ((4, 3) ∷ [])); watch = None };
      } ∷ [];
  order = (request 0 1024 Write None) ∷ (request 1 1024 Write None) ∷ (request 2 1024 Write None) ∷ [];
  pcs = 131104 ∷ 131104 ∷ 131104 ∷ 131104 ∷ [];
  registers =
      (0 ∷ 0 ∷ 65792 ∷ 0 ∷ 0 ∷ 65536 ∷ 1 ∷ 65600 ∷ 0 ∷ 2 ∷ 0 ∷ 4 ∷ 0 ∷ 0 ∷ 0 ∷ 0 ∷ 0 ∷ 0 ∷ 0 ∷ 0 ∷ 0 ∷
      0 ∷ 0 ∷ 0 ∷ 0 ∷ 0 ∷ 0 ∷ 0 ∷ 0 ∷ 0 ∷ 0 ∷ 0 ∷ []) ∷
      (0 ∷ 0 ∷ 256 ∷ 0 ∷ 0 ∷ 65536 ∷ 1 ∷ 65600 ∷ 0 ∷ 2 ∷ 1 ∷ 4 ∷ 0 ∷ 0 ∷ 0 ∷ 0 ∷ 0 ∷ 0 ∷ 0 ∷ 0 ∷ 0 ∷
      0 ∷ 0 ∷ 0 ∷ 0 ∷ 0 ∷ 0 ∷ 0 ∷ 0 ∷ 0 ∷ 0 ∷ 0 ∷ []) ∷
      (0 ∷ 0 ∷ 4294902016 ∷ 0 ∷ 0 ∷ 65536 ∷ 1 ∷ 65600 ∷ 0 ∷ 2 ∷ 2 ∷ 4 ∷ 0 ∷ 0 ∷ 0 ∷ 0 ∷ 0 ∷ 0 ∷ 0 ∷
      0 ∷ 0 ∷ 0 ∷ 0 ∷ 0 ∷ 0 ∷ 0 ∷ 0 ∷ 0 ∷ 0 ∷ 0 ∷ 0 ∷ 0 ∷ []) ∷
      (0 ∷ 0 ∷ 4294836480 ∷ 0 ∷ 0 ∷ 65536 ∷ 1 ∷ 65600 ∷ 0 ∷ 2 ∷ 3 ∷ 4 ∷ 0 ∷ 0 ∷ 0 ∷ 0 ∷ 0 ∷ 0 ∷ 0 ∷
      0 ∷ 0 ∷ 0 ∷ 0 ∷ 0 ∷ 0 ∷ 0 ∷ 0 ∷ 0 ∷ 0 ∷ 0 ∷ 0 ∷ 0 ∷ []) ∷
      [];
  bytes = patched (replicate 256 0) ([]);
}

ending : ending_of (state_after first events) ≡ last
unfolding computing
ending = refl
