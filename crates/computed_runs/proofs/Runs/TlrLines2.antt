-- 4 harts in lock removal, 400 random events: a rollback by Lines, a rollback by Mixed, a section lost as a request
-- takes its place, a serve blocked as Behind, a serve blocked as Locked, a serve blocked as Retained, commits,
-- messages
use Rattle.std.proofs.Common.{◌≡◌, ℕ, true, false, List, [], ◌∷◌, Some, None, replicate, refl}
use Rattle.el_base.specs.HartId.{hart_id}
use Rattle.el_base.specs.LineAddr.{line_addr}
use Rattle.el_base.specs.declared.config.Config.{Config}
use Rattle.el_base.specs.declared.config.Mode.TheVariants.{Plain, Sle, Tlr}
use Rattle.el_base.specs.declared.events.Event.{Event}
use Rattle.el_base.specs.declared.events.Kind.TheVariants.{Step, Order, Serve, Deliver}
use Rattle.el_base.specs.declared.outcomes.Cause.TheVariants.{Room, Lines, Long, Call, Mixed}
use Rattle.el_base.specs.declared.outcomes.Need.TheVariants.{Read, Write}
use Rattle.el_base.specs.declared.outcomes.Outcome.{Outcome}
use Rattle.el_base.specs.declared.outcomes.Outcome.TheVariants.{Idle, Stalled, Missed, Ran, Began, Buffered, Committed}
use Rattle.el_base.specs.declared.outcomes.Outcome.TheVariants.{RolledBack, Blocked}
use Rattle.el_base.specs.declared.outcomes.Outcome.TheVariants.{Delivered, Armed, LetGo}
use Rattle.el_base.specs.declared.outcomes.Why.TheVariants.{Behind, Retained, Locked}
use Rattle.computed_runs.proofs.Computing.{computing}
use Rattle.computed_runs.proofs.Given.{Ending, armed, ending_of, event, first_state, lost, ordered_with, patched}
use Rattle.computed_runs.proofs.Given.{request, section, served_with}
use Rattle.computed_runs.proofs.Given.{stamp, watch, way}
use Rattle.el_model.specs.Next.{outcomes_from, state_after}
use Rattle.el_model.specs.State.{Hart, ModelState}
use Rattle.mail.specs.Mailbox.{Marker, Probe}
use Rattle.moesi.specs.declared.letter.Letter.TheVariants.{M, O, E, S}

abbrev config : Config
config = record {
  harts = 4;
  mode = Tlr;
  sets = 1;
  ways = 2;
  lines = 1;
  long = 5;
  steps = 400;
}

abbrev words : List ℕ
words =
    66231 ∷ 1049363 ∷ 2098323 ∷ 328803 ∷ 140682287 ∷ 75671043 ∷ 172067 ∷ 67273619 ∷ 9765987 ∷ 140747823 ∷ 279094307 ∷
    210936355 ∷ 237603 ∷ 140682287 ∷ 140681251 ∷ 10657827 ∷ 63088131 ∷ 172067 ∷ 4234145903 ∷ []

abbrev first : ModelState
first = first_state config 65536 384 131072 words

abbrev events : List Event
events =
    event Step 3 ∷ event Order 0 ∷ event Step 2 ∷ event Deliver 3 ∷ event Deliver 3 ∷ event Step 3 ∷ event Step 3 ∷
    event Step 0 ∷ event Step 3 ∷ event Step 1 ∷ event Deliver 3 ∷ event Deliver 2 ∷ event Step 0 ∷ event Step 1 ∷
    event Step 0 ∷ event Deliver 0 ∷ event Step 1 ∷ event Deliver 2 ∷ event Step 3 ∷ event Order 3 ∷ event Deliver 1 ∷
    event Serve 2 ∷ event Step 1 ∷ event Step 1 ∷ event Deliver 0 ∷ event Serve 1 ∷ event Order 0 ∷ event Order 3 ∷
    event Serve 0 ∷ event Serve 2 ∷ event Serve 3 ∷ event Step 2 ∷ event Step 0 ∷ event Step 2 ∷ event Step 3 ∷
    event Serve 3 ∷ event Step 3 ∷ event Step 0 ∷ event Order 3 ∷ event Order 1 ∷ event Step 2 ∷ event Step 2 ∷
    event Serve 1 ∷ event Serve 2 ∷ event Step 1 ∷ event Order 0 ∷ event Step 2 ∷ event Deliver 3 ∷ event Deliver 1 ∷
    event Step 1 ∷ event Serve 0 ∷ event Serve 1 ∷ event Step 2 ∷ event Order 2 ∷ event Serve 2 ∷ event Deliver 2 ∷
    event Order 0 ∷ event Deliver 3 ∷ event Order 0 ∷ event Step 1 ∷ event Serve 3 ∷ event Deliver 0 ∷
    event Deliver 3 ∷ event Deliver 0 ∷ event Order 1 ∷ event Serve 1 ∷ event Order 0 ∷ event Deliver 2 ∷
    event Deliver 2 ∷ event Deliver 3 ∷ event Step 3 ∷ event Serve 1 ∷ event Deliver 3 ∷ event Order 2 ∷
    event Serve 2 ∷ event Serve 3 ∷ event Order 0 ∷ event Deliver 2 ∷ event Step 3 ∷ event Serve 0 ∷ event Serve 1 ∷
    event Deliver 1 ∷ event Deliver 2 ∷ event Step 3 ∷ event Deliver 0 ∷ event Order 1 ∷ event Deliver 0 ∷
    event Deliver 3 ∷ event Serve 2 ∷ event Step 3 ∷ event Step 0 ∷ event Step 0 ∷ event Step 3 ∷ event Step 1 ∷
    event Serve 3 ∷ event Serve 1 ∷ event Step 3 ∷ event Order 3 ∷ event Deliver 0 ∷ event Step 2 ∷ event Step 1 ∷
    event Step 1 ∷ event Serve 3 ∷ event Step 2 ∷ event Order 0 ∷ event Order 0 ∷ event Step 1 ∷ event Order 2 ∷
    event Serve 0 ∷ event Step 1 ∷ event Step 1 ∷ event Serve 2 ∷ event Step 2 ∷ event Deliver 0 ∷ event Step 3 ∷
    event Step 2 ∷ event Order 1 ∷ event Order 2 ∷ event Serve 0 ∷ event Step 0 ∷ event Step 1 ∷ event Serve 0 ∷
    event Order 1 ∷ event Deliver 1 ∷ event Order 0 ∷ event Step 1 ∷ event Step 1 ∷ event Step 3 ∷ event Step 0 ∷
    event Step 2 ∷ event Serve 1 ∷ event Step 1 ∷ event Step 3 ∷ event Serve 1 ∷ event Deliver 0 ∷ event Serve 0 ∷
    event Step 2 ∷ event Step 1 ∷ event Step 2 ∷ event Deliver 1 ∷ event Serve 3 ∷ event Step 1 ∷ event Order 3 ∷
    event Order 3 ∷ event Serve 3 ∷ event Deliver 3 ∷ event Step 3 ∷ event Order 2 ∷ event Deliver 0 ∷ event Step 0 ∷
    event Step 3 ∷ event Step 0 ∷ event Order 0 ∷ event Deliver 1 ∷ event Order 1 ∷ event Deliver 2 ∷ event Serve 0 ∷
    event Step 3 ∷ event Serve 2 ∷ event Order 3 ∷ event Step 2 ∷ event Deliver 2 ∷ event Deliver 2 ∷ event Serve 3 ∷
    event Serve 1 ∷ event Order 3 ∷ event Deliver 1 ∷ event Deliver 3 ∷ event Step 2 ∷ event Serve 1 ∷
    event Deliver 1 ∷ event Deliver 0 ∷ event Serve 3 ∷ event Order 1 ∷ event Step 0 ∷ event Order 0 ∷ event Order 3 ∷
    event Serve 3 ∷ event Step 2 ∷ event Serve 1 ∷ event Order 2 ∷ event Serve 0 ∷ event Deliver 0 ∷ event Order 3 ∷
    event Serve 2 ∷ event Serve 0 ∷ event Step 2 ∷ event Step 0 ∷ event Order 0 ∷ event Order 2 ∷ event Serve 3 ∷
    event Step 0 ∷ event Serve 3 ∷ event Serve 1 ∷ event Step 0 ∷ event Serve 3 ∷ event Serve 2 ∷ event Step 2 ∷
    event Serve 1 ∷ event Serve 3 ∷ event Order 0 ∷ event Serve 3 ∷ event Step 1 ∷ event Deliver 0 ∷ event Order 2 ∷
    event Serve 0 ∷ event Order 0 ∷ event Serve 2 ∷ event Order 2 ∷ event Deliver 3 ∷ event Serve 3 ∷ event Serve 0 ∷
    event Deliver 1 ∷ event Serve 2 ∷ event Step 1 ∷ event Step 3 ∷ event Order 1 ∷ event Order 2 ∷ event Step 0 ∷
    event Serve 0 ∷ event Deliver 2 ∷ event Serve 1 ∷ event Serve 0 ∷ event Step 0 ∷ event Serve 0 ∷ event Step 1 ∷
    event Order 0 ∷ event Deliver 0 ∷ event Step 3 ∷ event Order 3 ∷ event Serve 0 ∷ event Serve 3 ∷ event Order 2 ∷
    event Serve 0 ∷ event Serve 0 ∷ event Step 1 ∷ event Order 1 ∷ event Order 1 ∷ event Order 3 ∷ event Serve 2 ∷
    event Step 1 ∷ event Serve 1 ∷ event Step 1 ∷ event Serve 1 ∷ event Step 1 ∷ event Order 0 ∷ event Step 0 ∷
    event Order 1 ∷ event Order 0 ∷ event Step 3 ∷ event Serve 1 ∷ event Serve 0 ∷ event Serve 0 ∷ event Step 0 ∷
    event Step 1 ∷ event Deliver 3 ∷ event Step 3 ∷ event Serve 1 ∷ event Order 3 ∷ event Serve 2 ∷ event Deliver 3 ∷
    event Order 0 ∷ event Serve 1 ∷ event Serve 1 ∷ event Step 1 ∷ event Step 2 ∷ event Order 3 ∷ event Step 1 ∷
    event Step 0 ∷ event Step 2 ∷ event Order 0 ∷ event Order 2 ∷ event Serve 2 ∷ event Order 3 ∷ event Step 0 ∷
    event Step 2 ∷ event Step 3 ∷ event Deliver 2 ∷ event Order 1 ∷ event Serve 0 ∷ event Serve 3 ∷ event Step 2 ∷
    event Order 2 ∷ event Serve 2 ∷ event Step 3 ∷ event Order 2 ∷ event Deliver 2 ∷ event Serve 1 ∷ event Serve 0 ∷
    event Serve 3 ∷ event Step 2 ∷ event Step 3 ∷ event Step 0 ∷ event Order 3 ∷ event Deliver 3 ∷ event Serve 3 ∷
    event Serve 1 ∷ event Step 1 ∷ event Order 1 ∷ event Step 1 ∷ event Serve 3 ∷ event Step 0 ∷ event Serve 2 ∷
    event Step 2 ∷ event Order 2 ∷ event Order 0 ∷ event Deliver 2 ∷ event Step 2 ∷ event Deliver 0 ∷ event Serve 0 ∷
    event Step 3 ∷ event Step 2 ∷ event Order 2 ∷ event Serve 0 ∷ event Order 1 ∷ event Step 0 ∷ event Serve 1 ∷
    event Step 3 ∷ event Order 0 ∷ event Deliver 2 ∷ event Serve 1 ∷ event Serve 0 ∷ event Serve 2 ∷ event Step 2 ∷
    event Order 0 ∷ event Step 1 ∷ event Order 2 ∷ event Order 1 ∷ event Order 3 ∷ event Serve 1 ∷ event Serve 2 ∷
    event Deliver 1 ∷ event Step 0 ∷ event Deliver 2 ∷ event Serve 0 ∷ event Serve 3 ∷ event Deliver 3 ∷
    event Order 0 ∷ event Serve 3 ∷ event Deliver 3 ∷ event Step 2 ∷ event Serve 1 ∷ event Serve 3 ∷ event Serve 3 ∷
    event Serve 0 ∷ event Serve 0 ∷ event Step 3 ∷ event Serve 3 ∷ event Step 2 ∷ event Step 1 ∷ event Deliver 1 ∷
    event Order 3 ∷ event Order 0 ∷ event Order 1 ∷ event Step 2 ∷ event Serve 0 ∷ event Order 2 ∷ event Deliver 2 ∷
    event Serve 1 ∷ event Deliver 1 ∷ event Serve 0 ∷ event Deliver 1 ∷ event Serve 0 ∷ event Order 3 ∷ event Serve 0 ∷
    event Deliver 0 ∷ event Serve 1 ∷ event Step 0 ∷ event Deliver 3 ∷ event Step 2 ∷ event Deliver 3 ∷
    event Deliver 2 ∷ event Order 0 ∷ event Step 3 ∷ event Serve 3 ∷ event Order 3 ∷ event Serve 1 ∷ event Serve 0 ∷
    event Serve 1 ∷ event Order 2 ∷ event Serve 2 ∷ event Deliver 1 ∷ event Serve 1 ∷ event Serve 2 ∷ event Serve 0 ∷
    event Step 1 ∷ event Step 2 ∷ event Deliver 0 ∷ event Serve 1 ∷ event Deliver 1 ∷ event Deliver 3 ∷ event Step 2 ∷
    event Step 3 ∷ event Deliver 0 ∷ event Order 1 ∷ event Step 3 ∷ event Order 0 ∷ event Deliver 3 ∷ event Serve 1 ∷
    event Serve 1 ∷ []

abbrev expected : List Outcome
expected =
    Ran ∷ Idle ∷ Ran ∷ Idle ∷ Idle ∷ Ran ∷ Ran ∷ Ran ∷ Ran ∷ Ran ∷ Idle ∷ Idle ∷ Ran ∷ Ran ∷ Ran ∷ Idle ∷ Ran ∷ Idle ∷
    Missed (line_addr 1024) Read ∷ ordered_with [] [] ∷ Idle ∷ Idle ∷ Ran ∷ Missed (line_addr 1024) Read ∷ Idle ∷
    Idle ∷ Idle ∷ Idle ∷ Idle ∷ Idle ∷ served_with [] [] ∷ Ran ∷ Ran ∷ Ran ∷ Began ∷ Idle ∷
    Missed (line_addr 1025) Read ∷ Missed (line_addr 1025) Read ∷ ordered_with [] [] ∷ ordered_with [] [] ∷ Ran ∷
    Missed (line_addr 1024) Read ∷ served_with [] [] ∷ Idle ∷ Began ∷ ordered_with [] [] ∷ Stalled ∷ Idle ∷ Idle ∷
    Missed (line_addr 1025) Read ∷ Blocked Behind (hart_id 3) ∷ Idle ∷ Stalled ∷ ordered_with [] [] ∷
    served_with [] [] ∷ Idle ∷ Idle ∷ Idle ∷ Idle ∷ Stalled ∷ served_with [] [] ∷ Delivered (lost []) ∷
    Delivered (lost []) ∷ Idle ∷ ordered_with [] [] ∷ Blocked Behind (hart_id 0) ∷ Idle ∷ Idle ∷ Idle ∷ Idle ∷
    Buffered ∷ Blocked Behind (hart_id 0) ∷ Idle ∷ Idle ∷ Idle ∷ Idle ∷ Idle ∷ Idle ∷ Committed 3 ∷ served_with [] [] ∷
    Blocked Locked (hart_id 0) ∷ Delivered (lost []) ∷ Idle ∷ Ran ∷ Delivered (lost []) ∷ Idle ∷ Idle ∷ Idle ∷ Idle ∷
    Ran ∷ Ran ∷ Missed (line_addr 1024) Write ∷ Began ∷ Stalled ∷ Idle ∷ served_with [] [] ∷
    Missed (line_addr 1028) Write ∷ ordered_with [] [] ∷ Idle ∷ Began ∷ Buffered ∷ Committed 3 ∷ served_with [] [] ∷
    Missed (line_addr 1025) Read ∷ ordered_with [] [] ∷ Idle ∷ Ran ∷ ordered_with [] [] ∷
    Blocked Retained (hart_id 2) ∷ Ran ∷ Began ∷ served_with [] [] ∷ Buffered ∷ Delivered (lost []) ∷ Buffered ∷
    Committed 3 ∷ Idle ∷ Idle ∷ served_with [] [] ∷ Ran ∷ Missed (line_addr 1028) Write ∷ Idle ∷
    ordered_with ((3, 1) ∷ []) [] ∷ Idle ∷ Idle ∷ Stalled ∷ Stalled ∷ Began ∷ Ran ∷ Ran ∷ served_with [] [] ∷
    Buffered ∷ Missed (line_addr 1028) Write ∷ Idle ∷ Idle ∷ Idle ∷ Ran ∷ RolledBack Lines ∷
    Missed (line_addr 1028) Write ∷ Idle ∷ Idle ∷ Missed (line_addr 1025) Write ∷ ordered_with [] [] ∷ Idle ∷
    served_with [] [] ∷ Idle ∷ Buffered ∷ ordered_with [] [] ∷ Idle ∷ Ran ∷ RolledBack Lines ∷ Began ∷ Idle ∷ Idle ∷
    ordered_with [] [] ∷ Delivered (lost []) ∷ Idle ∷ Missed (line_addr 1025) Write ∷ served_with [] [] ∷
    ordered_with [] [] ∷ Ran ∷ Idle ∷ Idle ∷ Blocked Behind (hart_id 1) ∷ Blocked Retained (hart_id 0) ∷ Idle ∷
    Delivered (lost []) ∷ Delivered (lost []) ∷ Missed (line_addr 1027) Write ∷ Blocked Retained (hart_id 0) ∷
    Delivered (lost []) ∷ Delivered (lost []) ∷ Blocked Behind (hart_id 1) ∷ Idle ∷ Missed (line_addr 1028) Write ∷
    ordered_with [] [] ∷ Idle ∷ Blocked Behind (hart_id 1) ∷ Stalled ∷ Blocked Retained (hart_id 0) ∷
    ordered_with [] [] ∷ served_with [] [] ∷ Delivered (lost []) ∷ Idle ∷ served_with [] [] ∷ Idle ∷ Ran ∷ Buffered ∷
    Idle ∷ Idle ∷ Blocked Behind (hart_id 1) ∷ RolledBack Lines ∷ Blocked Behind (hart_id 1) ∷ served_with [] [] ∷
    Missed (line_addr 1025) Write ∷ Blocked Locked (hart_id 1) ∷ Idle ∷ Missed (line_addr 1025) Write ∷ Idle ∷
    Blocked Locked (hart_id 1) ∷ ordered_with [] [] ∷ Blocked Locked (hart_id 1) ∷ Ran ∷ Delivered (lost []) ∷
    ordered_with [] [] ∷ Blocked Behind (hart_id 3) ∷ Idle ∷ Blocked Behind (hart_id 3) ∷ Idle ∷ Delivered (lost []) ∷
    served_with [] [] ∷ Blocked Locked (hart_id 3) ∷ Delivered (lost []) ∷ Blocked Behind (hart_id 0) ∷
    Missed (line_addr 1028) Write ∷ Ran ∷ ordered_with [] [] ∷ Idle ∷ Stalled ∷ served_with [] [] ∷
    Delivered (lost []) ∷ served_with [] [] ∷ Idle ∷ Ran ∷ Idle ∷ Ran ∷ Idle ∷ Delivered (lost []) ∷
    Missed (line_addr 1028) Write ∷ ordered_with [] [] ∷ Idle ∷ served_with [] [] ∷ Idle ∷ Idle ∷ Idle ∷
    Missed (line_addr 1027) Write ∷ ordered_with [] [] ∷ Idle ∷ Idle ∷ served_with [] [] ∷ Stalled ∷
    served_with [] [] ∷ Ran ∷ Idle ∷ Missed (line_addr 1025) Write ∷ Idle ∷ Missed (line_addr 1028) Write ∷
    ordered_with [] [] ∷ ordered_with [] [] ∷ Ran ∷ Blocked Locked (hart_id 2) ∷ served_with [] [] ∷ Idle ∷ Ran ∷
    Stalled ∷ Idle ∷ Missed (line_addr 1027) Write ∷ Blocked Locked (hart_id 2) ∷ ordered_with [] [] ∷ Idle ∷ Idle ∷
    Idle ∷ Blocked Locked (hart_id 2) ∷ Blocked Locked (hart_id 2) ∷ Stalled ∷ Ran ∷ Idle ∷ Stalled ∷
    Missed (line_addr 1027) Write ∷ Missed (line_addr 1024) Read ∷ ordered_with [] [] ∷ ordered_with [] [] ∷
    served_with [] [] ∷ Idle ∷ Stalled ∷ Began ∷ Stalled ∷ Idle ∷ Idle ∷ Blocked Behind (hart_id 3) ∷
    served_with [] [] ∷ Missed (line_addr 1026) Write ∷ ordered_with [] [] ∷ served_with [] [] ∷ Ran ∷ Idle ∷ Idle ∷
    served_with [] [] ∷ served_with [] [] ∷ Idle ∷ Buffered ∷ Missed (line_addr 1025) Write ∷ Ran ∷
    ordered_with [] [] ∷ Idle ∷ Blocked Locked (hart_id 1) ∷ Idle ∷ Ran ∷ Idle ∷ Missed (line_addr 1024) Read ∷
    served_with [] [] ∷ Missed (line_addr 1025) Write ∷ Idle ∷ RolledBack Mixed ∷ Idle ∷ ordered_with [] [] ∷ Idle ∷
    Ran ∷ Idle ∷ Blocked Locked (hart_id 3) ∷ Ran ∷ Ran ∷ Idle ∷ served_with [] [] ∷ ordered_with [] [] ∷ Ran ∷
    served_with [] [] ∷ Missed (line_addr 1024) Write ∷ Idle ∷ Idle ∷ Idle ∷ Idle ∷ Idle ∷
    Missed (line_addr 1024) Write ∷ Idle ∷ Missed (line_addr 1024) Write ∷ ordered_with [] [] ∷ ordered_with [] [] ∷
    ordered_with [] [] ∷ Blocked Behind (hart_id 2) ∷ served_with [] [] ∷ Delivered (lost []) ∷
    Missed (line_addr 1024) Write ∷ Delivered (lost []) ∷ Idle ∷ Blocked Behind (hart_id 1) ∷ Delivered (lost []) ∷
    ordered_with [] [] ∷ Blocked Behind (hart_id 1) ∷ Idle ∷ Ran ∷ served_with [] [] ∷ Blocked Locked (hart_id 1) ∷
    Blocked Locked (hart_id 1) ∷ Blocked Behind (hart_id 3) ∷ Blocked Behind (hart_id 3) ∷ Stalled ∷
    Blocked Locked (hart_id 1) ∷ Missed (line_addr 1024) Read ∷ Missed (line_addr 1024) Read ∷ Delivered (lost []) ∷
    Idle ∷ Idle ∷ ordered_with [] [] ∷ Stalled ∷ Blocked Behind (hart_id 3) ∷ ordered_with [] [] ∷
    Delivered (lost []) ∷ Blocked Behind (hart_id 3) ∷ Delivered (lost []) ∷ Blocked Behind (hart_id 3) ∷
    Delivered (lost []) ∷ Blocked Behind (hart_id 3) ∷ Idle ∷ Blocked Behind (hart_id 3) ∷ Delivered (lost []) ∷
    Blocked Behind (hart_id 3) ∷ Stalled ∷ Delivered (lost []) ∷ Stalled ∷ Idle ∷ Idle ∷ Idle ∷ Stalled ∷
    served_with [] [] ∷ Idle ∷ Blocked Behind (hart_id 0) ∷ Blocked Locked (hart_id 3) ∷ Blocked Behind (hart_id 0) ∷
    Idle ∷ Blocked Behind (hart_id 0) ∷ Delivered (lost []) ∷ Blocked Behind (hart_id 0) ∷ Blocked Behind (hart_id 0) ∷
    Blocked Locked (hart_id 3) ∷ Stalled ∷ Stalled ∷ Delivered (lost []) ∷ Blocked Behind (hart_id 0) ∷ Idle ∷
    Delivered (lost []) ∷ Stalled ∷ Ran ∷ Delivered (lost []) ∷ Idle ∷ Missed (line_addr 1026) Write ∷ Idle ∷
    Delivered (lost []) ∷ Blocked Behind (hart_id 0) ∷ Blocked Behind (hart_id 0) ∷ []

outcomes : outcomes_from first events ≡ expected
unfolding computing
outcomes = refl

abbrev last : Ending
last = record {
  harts =
      record {
        section = None;
        armed = None;
        last_lr = None;
        cache = (way 1025 M false false ∷ way 1027 M false false ∷ []) ∷ [];
        raised = None;
        held_line = None;
        mail = [];
        told = 1 ∷ 2 ∷ [];
        upstream = 3 ∷ [];
        fallback = true;
        tries = 0;
        clock = 1;
        seen = 0;
        attempt = None;
        predictor = record { counters = (patched (replicate 64 2) ([])); watch = None };
      } ∷ record {
        section = None;
        armed = None;
        last_lr = None;
        cache = ([]) ∷ [];
        raised = None;
        held_line = None;
        mail = [];
        told = 0 ∷ 2 ∷ [];
        upstream = 0 ∷ [];
        fallback = false;
        tries = 0;
        clock = 2;
        seen = 0;
        attempt = None;
        predictor = record { counters = (patched (replicate 64 2) ((4, 3) ∷ (9, 3) ∷ [])); watch = None };
      } ∷ record {
        section = None;
        armed = None;
        last_lr = None;
        cache = (way 1026 M false false ∷ []) ∷ [];
        raised = None;
        held_line = None;
        mail = [];
        told = [];
        upstream = 1 ∷ [];
        fallback = false;
        tries = 0;
        clock = 2;
        seen = 0;
        attempt = None;
        predictor = record { counters = (patched (replicate 64 2) ((4, 3) ∷ (13, 0) ∷ [])); watch = None };
      } ∷ record {
        section = None;
        armed = None;
        last_lr = None;
        cache = (way 1024 M false false ∷ []) ∷ [];
        raised = (Some (request 3 1026 Write None));
        held_line = None;
        mail = [];
        told = 0 ∷ 1 ∷ 2 ∷ [];
        upstream = [];
        fallback = false;
        tries = 0;
        clock = 2;
        seen = 1;
        attempt = None;
        predictor =
            record { counters = (patched (replicate 64 2) ((4, 3) ∷ [])); watch = (Some (watch 131124 65536 2 1)) };
      } ∷ [];
  order = (request 0 1024 Write None) ∷ (request 1 1024 Read None) ∷ (request 2 1024 Read None) ∷ [];
  pcs = 131124 ∷ 131124 ∷ 131136 ∷ 131128 ∷ [];
  registers =
      (0 ∷ 0 ∷ 65920 ∷ 0 ∷ 0 ∷ 65536 ∷ 1 ∷ 65600 ∷ 1 ∷ 2 ∷ 0 ∷ 4 ∷ 0 ∷ 0 ∷ 0 ∷ 0 ∷ 0 ∷ 0 ∷ 0 ∷ 0 ∷ 0 ∷
      0 ∷ 0 ∷ 0 ∷ 0 ∷ 0 ∷ 0 ∷ 0 ∷ 0 ∷ 0 ∷ 0 ∷ 0 ∷ []) ∷
      (0 ∷ 0 ∷ 384 ∷ 0 ∷ 0 ∷ 65536 ∷ 1 ∷ 65600 ∷ 0 ∷ 2 ∷ 1 ∷ 4 ∷ 0 ∷ 0 ∷ 0 ∷ 0 ∷ 0 ∷ 0 ∷ 0 ∷ 0 ∷ 0 ∷
      0 ∷ 0 ∷ 0 ∷ 0 ∷ 0 ∷ 0 ∷ 0 ∷ 0 ∷ 0 ∷ 0 ∷ 0 ∷ []) ∷
      (0 ∷ 0 ∷ 4294902144 ∷ 0 ∷ 0 ∷ 65536 ∷ 1 ∷ 65600 ∷ 0 ∷ 2 ∷ 2 ∷ 4 ∷ 0 ∷ 0 ∷ 0 ∷ 0 ∷ 0 ∷ 0 ∷ 0 ∷
      0 ∷ 0 ∷ 0 ∷ 0 ∷ 0 ∷ 0 ∷ 0 ∷ 0 ∷ 0 ∷ 0 ∷ 0 ∷ 0 ∷ 0 ∷ []) ∷
      (0 ∷ 0 ∷ 4294836608 ∷ 0 ∷ 0 ∷ 65536 ∷ 1 ∷ 65600 ∷ 2 ∷ 2 ∷ 3 ∷ 4 ∷ 0 ∷ 0 ∷ 0 ∷ 0 ∷ 0 ∷ 0 ∷ 0 ∷
      0 ∷ 0 ∷ 0 ∷ 0 ∷ 0 ∷ 0 ∷ 0 ∷ 0 ∷ 0 ∷ 0 ∷ 0 ∷ 0 ∷ 0 ∷ []) ∷
      [];
  bytes = patched (replicate 384 0) ((0, 1) ∷ (128, 1) ∷ (196, 2) ∷ []);
}

ending : ending_of (state_after first events) ≡ last
unfolding computing
ending = refl
