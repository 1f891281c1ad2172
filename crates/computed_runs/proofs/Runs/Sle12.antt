-- 3 harts in lock elision, 440 random events: a rollback by Call, a section lost as a request takes its place, a
-- serve blocked as Behind, a serve blocked as Locked, commits
use Rattle.std.proofs.Common.{◌≡◌, ℕ, true, false, List, [], ◌∷◌, Some, None, replicate, refl}
use Rattle.el_base.specs.HartId.{hart_id}
use Rattle.el_base.specs.LineAddr.{line_addr}
use Rattle.el_base.specs.declared.config.Config.{Config}
use Rattle.el_base.specs.declared.config.Mode.TheVariants.{Plain, Sle, Tlr}
use Rattle.el_base.specs.declared.events.Event.{Event}
use Rattle.el_base.specs.declared.events.Kind.TheVariants.{Step, Order, Serve, Deliver}
use Rattle.el_base.specs.declared.outcomes.Cause.TheVariants.{Room, Lines, Long, Call, Mixed}
use Rattle.el_base.specs.declared.outcomes.Need.TheVariants.{Read, Write}
use Rattle.el_base.specs.declared.outcomes.Outcome.{Outcome}
use Rattle.el_base.specs.declared.outcomes.Outcome.TheVariants.{Idle, Stalled, Missed, Ran, Began, Buffered, Committed}
use Rattle.el_base.specs.declared.outcomes.Outcome.TheVariants.{RolledBack, Blocked}
use Rattle.el_base.specs.declared.outcomes.Outcome.TheVariants.{Delivered, Armed, LetGo}
use Rattle.el_base.specs.declared.outcomes.Why.TheVariants.{Behind, Retained, Locked}
use Rattle.computed_runs.proofs.Computing.{computing}
use Rattle.computed_runs.proofs.Given.{Ending, armed, ending_of, event, first_state, lost, ordered_with, patched}
use Rattle.computed_runs.proofs.Given.{request, section, served_with}
use Rattle.computed_runs.proofs.Given.{stamp, watch, way}
use Rattle.el_model.specs.Next.{outcomes_from, state_after}
use Rattle.el_model.specs.State.{Hart, ModelState}
use Rattle.mail.specs.Mailbox.{Marker, Probe}
use Rattle.moesi.specs.declared.letter.Letter.TheVariants.{M, O, E, S}

abbrev config : Config
config = record {
  harts = 3;
  mode = Sle;
  sets = 2;
  ways = 2;
  lines = 2;
  long = 4;
  steps = 440;
}

abbrev words : List ℕ
words =
    66231 ∷ 1049363 ∷ 2098323 ∷ 6620259 ∷ 140682287 ∷ 138585603 ∷ 172067 ∷ 140682287 ∷ 2270723 ∷ 172067 ∷ 4267700335 ∷
    []

abbrev first : ModelState
first = first_state config 65536 384 131072 words

abbrev events : List Event
events =
    event Step 0 ∷ event Step 1 ∷ event Deliver 2 ∷ event Step 2 ∷ event Step 0 ∷ event Deliver 2 ∷ event Step 1 ∷
    event Deliver 1 ∷ event Step 2 ∷ event Step 2 ∷ event Serve 0 ∷ event Step 0 ∷ event Step 1 ∷ event Step 1 ∷
    event Step 1 ∷ event Step 0 ∷ event Step 2 ∷ event Step 2 ∷ event Order 1 ∷ event Order 2 ∷ event Deliver 1 ∷
    event Serve 2 ∷ event Step 2 ∷ event Deliver 0 ∷ event Step 2 ∷ event Serve 2 ∷ event Step 0 ∷ event Step 1 ∷
    event Deliver 2 ∷ event Order 2 ∷ event Order 0 ∷ event Order 0 ∷ event Order 1 ∷ event Step 1 ∷ event Step 1 ∷
    event Step 0 ∷ event Serve 1 ∷ event Serve 0 ∷ event Step 1 ∷ event Order 2 ∷ event Serve 2 ∷ event Step 2 ∷
    event Step 2 ∷ event Serve 0 ∷ event Step 1 ∷ event Serve 0 ∷ event Step 0 ∷ event Serve 2 ∷ event Step 0 ∷
    event Deliver 0 ∷ event Deliver 2 ∷ event Step 2 ∷ event Order 0 ∷ event Step 2 ∷ event Deliver 2 ∷ event Order 1 ∷
    event Serve 0 ∷ event Step 2 ∷ event Step 0 ∷ event Step 0 ∷ event Serve 2 ∷ event Order 0 ∷ event Serve 0 ∷
    event Order 0 ∷ event Order 2 ∷ event Serve 2 ∷ event Serve 2 ∷ event Serve 0 ∷ event Serve 0 ∷ event Step 0 ∷
    event Serve 2 ∷ event Order 0 ∷ event Order 2 ∷ event Deliver 1 ∷ event Serve 1 ∷ event Serve 0 ∷ event Step 1 ∷
    event Serve 2 ∷ event Step 2 ∷ event Serve 0 ∷ event Order 2 ∷ event Step 0 ∷ event Serve 1 ∷ event Deliver 0 ∷
    event Step 1 ∷ event Order 1 ∷ event Deliver 2 ∷ event Serve 1 ∷ event Order 0 ∷ event Serve 0 ∷ event Order 0 ∷
    event Serve 2 ∷ event Step 2 ∷ event Step 2 ∷ event Step 2 ∷ event Serve 2 ∷ event Step 2 ∷ event Serve 1 ∷
    event Step 1 ∷ event Serve 0 ∷ event Order 1 ∷ event Serve 0 ∷ event Step 2 ∷ event Order 2 ∷ event Serve 1 ∷
    event Serve 1 ∷ event Order 0 ∷ event Serve 1 ∷ event Serve 1 ∷ event Step 2 ∷ event Serve 1 ∷ event Step 0 ∷
    event Serve 1 ∷ event Serve 2 ∷ event Step 0 ∷ event Order 1 ∷ event Step 1 ∷ event Order 0 ∷ event Deliver 2 ∷
    event Order 1 ∷ event Serve 2 ∷ event Order 0 ∷ event Deliver 0 ∷ event Step 1 ∷ event Serve 2 ∷ event Deliver 2 ∷
    event Order 1 ∷ event Serve 0 ∷ event Step 0 ∷ event Order 1 ∷ event Step 2 ∷ event Deliver 2 ∷ event Serve 1 ∷
    event Step 0 ∷ event Order 0 ∷ event Step 2 ∷ event Step 2 ∷ event Serve 2 ∷ event Order 2 ∷ event Step 0 ∷
    event Step 1 ∷ event Order 1 ∷ event Serve 1 ∷ event Step 2 ∷ event Deliver 1 ∷ event Serve 0 ∷ event Step 1 ∷
    event Step 0 ∷ event Deliver 0 ∷ event Serve 0 ∷ event Deliver 0 ∷ event Order 0 ∷ event Step 1 ∷ event Deliver 2 ∷
    event Order 0 ∷ event Serve 1 ∷ event Order 2 ∷ event Deliver 2 ∷ event Step 2 ∷ event Step 2 ∷ event Step 2 ∷
    event Serve 0 ∷ event Order 1 ∷ event Step 1 ∷ event Order 0 ∷ event Step 2 ∷ event Order 0 ∷ event Order 1 ∷
    event Deliver 2 ∷ event Step 1 ∷ event Step 0 ∷ event Step 1 ∷ event Step 2 ∷ event Serve 1 ∷ event Step 0 ∷
    event Order 1 ∷ event Serve 2 ∷ event Deliver 1 ∷ event Order 1 ∷ event Step 1 ∷ event Order 0 ∷ event Order 1 ∷
    event Step 1 ∷ event Step 2 ∷ event Serve 1 ∷ event Step 0 ∷ event Deliver 2 ∷ event Step 2 ∷ event Order 0 ∷
    event Order 2 ∷ event Deliver 2 ∷ event Serve 1 ∷ event Step 1 ∷ event Order 1 ∷ event Step 0 ∷ event Order 2 ∷
    event Step 2 ∷ event Order 2 ∷ event Step 2 ∷ event Step 1 ∷ event Serve 1 ∷ event Serve 1 ∷ event Step 1 ∷
    event Step 1 ∷ event Step 0 ∷ event Step 0 ∷ event Step 0 ∷ event Deliver 2 ∷ event Order 1 ∷ event Serve 1 ∷
    event Serve 1 ∷ event Step 2 ∷ event Serve 2 ∷ event Serve 2 ∷ event Step 1 ∷ event Step 1 ∷ event Order 1 ∷
    event Step 0 ∷ event Step 0 ∷ event Order 2 ∷ event Step 2 ∷ event Step 2 ∷ event Step 0 ∷ event Deliver 1 ∷
    event Order 1 ∷ event Step 2 ∷ event Step 2 ∷ event Order 1 ∷ event Step 2 ∷ event Step 1 ∷ event Deliver 2 ∷
    event Serve 2 ∷ event Step 2 ∷ event Serve 2 ∷ event Order 1 ∷ event Step 1 ∷ event Step 2 ∷ event Serve 1 ∷
    event Step 2 ∷ event Serve 1 ∷ event Deliver 0 ∷ event Order 2 ∷ event Serve 0 ∷ event Deliver 1 ∷ event Step 1 ∷
    event Step 2 ∷ event Step 0 ∷ event Deliver 1 ∷ event Order 2 ∷ event Step 1 ∷ event Step 1 ∷ event Serve 0 ∷
    event Deliver 1 ∷ event Deliver 1 ∷ event Order 2 ∷ event Step 1 ∷ event Serve 0 ∷ event Step 0 ∷ event Step 2 ∷
    event Step 0 ∷ event Step 1 ∷ event Order 1 ∷ event Step 2 ∷ event Step 2 ∷ event Serve 1 ∷ event Step 0 ∷
    event Step 2 ∷ event Order 2 ∷ event Step 2 ∷ event Step 1 ∷ event Serve 0 ∷ event Step 2 ∷ event Serve 2 ∷
    event Step 1 ∷ event Deliver 2 ∷ event Step 2 ∷ event Serve 1 ∷ event Order 1 ∷ event Deliver 2 ∷ event Step 1 ∷
    event Step 2 ∷ event Serve 1 ∷ event Step 1 ∷ event Deliver 0 ∷ event Step 1 ∷ event Step 2 ∷ event Serve 0 ∷
    event Deliver 0 ∷ event Order 1 ∷ event Step 1 ∷ event Step 1 ∷ event Step 2 ∷ event Step 2 ∷ event Step 1 ∷
    event Step 2 ∷ event Step 1 ∷ event Step 1 ∷ event Serve 1 ∷ event Order 2 ∷ event Step 0 ∷ event Step 0 ∷
    event Step 2 ∷ event Step 0 ∷ event Step 0 ∷ event Serve 1 ∷ event Step 1 ∷ event Order 1 ∷ event Step 1 ∷
    event Serve 1 ∷ event Deliver 1 ∷ event Step 1 ∷ event Serve 0 ∷ event Step 2 ∷ event Step 2 ∷ event Step 2 ∷
    event Deliver 1 ∷ event Serve 1 ∷ event Step 1 ∷ event Order 1 ∷ event Step 2 ∷ event Order 1 ∷ event Order 2 ∷
    event Step 2 ∷ event Order 1 ∷ event Serve 1 ∷ event Step 2 ∷ event Step 0 ∷ event Step 1 ∷ event Step 2 ∷
    event Serve 0 ∷ event Step 0 ∷ event Deliver 1 ∷ event Deliver 2 ∷ event Serve 1 ∷ event Step 1 ∷ event Step 2 ∷
    event Serve 0 ∷ event Step 1 ∷ event Step 0 ∷ event Serve 1 ∷ event Step 2 ∷ event Deliver 2 ∷ event Step 1 ∷
    event Serve 1 ∷ event Step 0 ∷ event Step 2 ∷ event Step 2 ∷ event Step 0 ∷ event Deliver 2 ∷ event Step 1 ∷
    event Order 2 ∷ event Order 2 ∷ event Step 2 ∷ event Serve 2 ∷ event Step 2 ∷ event Deliver 0 ∷ event Serve 1 ∷
    event Order 2 ∷ event Step 2 ∷ event Step 1 ∷ event Deliver 1 ∷ event Step 1 ∷ event Order 2 ∷ event Step 2 ∷
    event Step 0 ∷ event Serve 2 ∷ event Step 2 ∷ event Step 1 ∷ event Step 0 ∷ event Step 2 ∷ event Deliver 1 ∷
    event Step 1 ∷ event Step 0 ∷ event Deliver 0 ∷ event Serve 1 ∷ event Order 0 ∷ event Step 0 ∷ event Serve 1 ∷
    event Step 0 ∷ event Step 2 ∷ event Step 2 ∷ event Step 1 ∷ event Step 1 ∷ event Step 1 ∷ event Deliver 0 ∷
    event Step 2 ∷ event Step 2 ∷ event Step 1 ∷ event Step 1 ∷ event Order 1 ∷ event Step 2 ∷ event Step 2 ∷
    event Step 2 ∷ event Deliver 2 ∷ event Deliver 1 ∷ event Step 0 ∷ event Serve 1 ∷ event Step 1 ∷ event Serve 1 ∷
    event Order 1 ∷ event Step 2 ∷ event Serve 0 ∷ event Step 1 ∷ event Serve 0 ∷ event Order 2 ∷ event Order 1 ∷
    event Order 1 ∷ event Order 0 ∷ event Step 1 ∷ event Step 1 ∷ event Serve 1 ∷ event Serve 0 ∷ event Deliver 1 ∷
    event Step 1 ∷ event Step 1 ∷ event Serve 2 ∷ event Step 0 ∷ event Serve 1 ∷ event Step 0 ∷ event Step 0 ∷
    event Step 2 ∷ event Deliver 0 ∷ event Step 1 ∷ event Step 1 ∷ event Step 0 ∷ event Serve 1 ∷ event Step 0 ∷
    event Order 1 ∷ event Step 0 ∷ event Serve 1 ∷ event Order 2 ∷ event Step 2 ∷ event Deliver 1 ∷ event Step 1 ∷
    event Step 0 ∷ event Step 0 ∷ event Step 1 ∷ event Step 1 ∷ event Serve 2 ∷ event Step 0 ∷ []

abbrev expected : List Outcome
expected =
    Ran ∷ Ran ∷ Idle ∷ Ran ∷ Ran ∷ Idle ∷ Ran ∷ Idle ∷ Ran ∷ Ran ∷ Idle ∷ Ran ∷ Ran ∷ Ran ∷
    Missed (line_addr 1026) Read ∷ Ran ∷ Ran ∷ Missed (line_addr 1024) Read ∷ ordered_with [] [] ∷ ordered_with [] [] ∷
    Idle ∷ served_with [] [] ∷ Began ∷ Idle ∷ Missed (line_addr 1026) Read ∷ Idle ∷ Missed (line_addr 1024) Read ∷
    Stalled ∷ Idle ∷ ordered_with [] [] ∷ ordered_with [] [] ∷ Idle ∷ Idle ∷ Stalled ∷ Stalled ∷ Stalled ∷
    served_with [] [] ∷ served_with [] [] ∷ Ran ∷ Idle ∷ served_with [] [] ∷ Buffered ∷ Committed 3 ∷ Idle ∷
    Missed (line_addr 1024) Write ∷ Idle ∷ Began ∷ Idle ∷ Missed (line_addr 1026) Read ∷ Idle ∷ Idle ∷ Began ∷
    ordered_with [] [] ∷ RolledBack Call ∷ Idle ∷ ordered_with ((0, 1) ∷ []) [] ∷ served_with [] [] ∷
    Missed (line_addr 1024) Write ∷ Missed (line_addr 1024) Read ∷ Stalled ∷ Idle ∷ ordered_with [] [] ∷
    Blocked Behind (hart_id 1) ∷ Idle ∷ ordered_with [] [] ∷ Blocked Behind (hart_id 1) ∷ Blocked Behind (hart_id 1) ∷
    Blocked Behind (hart_id 1) ∷ Blocked Behind (hart_id 1) ∷ Stalled ∷ Blocked Behind (hart_id 1) ∷ Idle ∷ Idle ∷
    Idle ∷ served_with [] [] ∷ Blocked Locked (hart_id 1) ∷ Ran ∷ Blocked Behind (hart_id 0) ∷ Stalled ∷
    served_with [] [] ∷ Idle ∷ Missed (line_addr 1024) Read ∷ Idle ∷ Idle ∷ Missed (line_addr 1024) Read ∷
    ordered_with [] [] ∷ Idle ∷ Blocked Behind (hart_id 2) ∷ ordered_with [] [] ∷ Blocked Behind (hart_id 2) ∷ Idle ∷
    served_with [] [] ∷ Ran ∷ Ran ∷ Idle ∷ Idle ∷ Idle ∷ served_with [] [] ∷ Missed (line_addr 1024) Write ∷
    served_with [] [] ∷ ordered_with [] [] ∷ Idle ∷ Idle ∷ Idle ∷ Blocked Locked (hart_id 0) ∷
    Blocked Locked (hart_id 0) ∷ Idle ∷ Blocked Locked (hart_id 0) ∷ Blocked Locked (hart_id 0) ∷ Idle ∷
    Blocked Locked (hart_id 0) ∷ Missed (line_addr 1024) Write ∷ served_with [] [] ∷ Idle ∷ Stalled ∷ Idle ∷ Ran ∷
    ordered_with [] [] ∷ Idle ∷ Idle ∷ Idle ∷ Idle ∷ Idle ∷ Ran ∷ Idle ∷ Idle ∷ Idle ∷ served_with [] [] ∷ Ran ∷ Idle ∷
    Idle ∷ Idle ∷ Idle ∷ Ran ∷ Idle ∷ Idle ∷ Idle ∷ Idle ∷ Idle ∷ Ran ∷ Idle ∷ Idle ∷ Idle ∷ Idle ∷ Idle ∷ Idle ∷
    Idle ∷ Began ∷ Idle ∷ Idle ∷ Idle ∷ Idle ∷ Idle ∷ Idle ∷ Idle ∷ Idle ∷ Idle ∷ Idle ∷ Idle ∷ Idle ∷ Idle ∷ Idle ∷
    Idle ∷ Idle ∷ Idle ∷ Idle ∷ Idle ∷ Idle ∷ Idle ∷ Idle ∷ RolledBack Call ∷ Idle ∷ Idle ∷ Idle ∷ Ran ∷ Idle ∷ Idle ∷
    Idle ∷ Idle ∷ Idle ∷ Idle ∷ Idle ∷ Idle ∷ Idle ∷ Idle ∷ Ran ∷ Idle ∷ Idle ∷ Idle ∷ Idle ∷ Idle ∷ Idle ∷ Idle ∷
    Idle ∷ Idle ∷ Idle ∷ Idle ∷ Idle ∷ Idle ∷ Idle ∷ Idle ∷ Idle ∷ Idle ∷ Idle ∷ Idle ∷ Idle ∷ Idle ∷ Idle ∷ Idle ∷
    Idle ∷ Idle ∷ Idle ∷ Idle ∷ Idle ∷ Idle ∷ Idle ∷ Idle ∷ Idle ∷ Idle ∷ Idle ∷ Idle ∷ Idle ∷ Idle ∷ Idle ∷ Idle ∷
    Idle ∷ Idle ∷ Idle ∷ Idle ∷ Idle ∷ Idle ∷ Idle ∷ Idle ∷ Idle ∷ Idle ∷ Idle ∷ Idle ∷ Idle ∷ Idle ∷ Idle ∷ Idle ∷
    Idle ∷ Idle ∷ Idle ∷ Idle ∷ Idle ∷ Idle ∷ Idle ∷ Idle ∷ Idle ∷ Idle ∷ Idle ∷ Idle ∷ Idle ∷ Idle ∷ Idle ∷ Idle ∷
    Idle ∷ Idle ∷ Idle ∷ Idle ∷ Idle ∷ Idle ∷ Idle ∷ Idle ∷ Idle ∷ Idle ∷ Idle ∷ Idle ∷ Idle ∷ Idle ∷ Idle ∷ Idle ∷
    Idle ∷ Idle ∷ Idle ∷ Idle ∷ Idle ∷ Idle ∷ Idle ∷ Idle ∷ Idle ∷ Idle ∷ Idle ∷ Idle ∷ Idle ∷ Idle ∷ Idle ∷ Idle ∷
    Idle ∷ Idle ∷ Idle ∷ Idle ∷ Idle ∷ Idle ∷ Idle ∷ Idle ∷ Idle ∷ Idle ∷ Idle ∷ Idle ∷ Idle ∷ Idle ∷ Idle ∷ Idle ∷
    Idle ∷ Idle ∷ Idle ∷ Idle ∷ Idle ∷ Idle ∷ Idle ∷ Idle ∷ Idle ∷ Idle ∷ Idle ∷ Idle ∷ Idle ∷ Idle ∷ Idle ∷ Idle ∷
    Idle ∷ Idle ∷ Idle ∷ Idle ∷ Idle ∷ Idle ∷ Idle ∷ Idle ∷ Idle ∷ Idle ∷ Idle ∷ Idle ∷ Idle ∷ Idle ∷ Idle ∷ Idle ∷
    Idle ∷ Idle ∷ Idle ∷ Idle ∷ Idle ∷ Idle ∷ Idle ∷ Idle ∷ Idle ∷ Idle ∷ Idle ∷ Idle ∷ Idle ∷ Idle ∷ Idle ∷ Idle ∷
    Idle ∷ Idle ∷ Idle ∷ Idle ∷ Idle ∷ Idle ∷ Idle ∷ Idle ∷ Idle ∷ Idle ∷ Idle ∷ Idle ∷ Idle ∷ Idle ∷ Idle ∷ Idle ∷
    Idle ∷ Idle ∷ Idle ∷ Idle ∷ Idle ∷ Idle ∷ Idle ∷ Idle ∷ Idle ∷ Idle ∷ Idle ∷ Idle ∷ Idle ∷ Idle ∷ Idle ∷ Idle ∷
    Idle ∷ Idle ∷ Idle ∷ Idle ∷ Idle ∷ Idle ∷ Idle ∷ Idle ∷ Idle ∷ Idle ∷ Idle ∷ Idle ∷ Idle ∷ Idle ∷ Idle ∷ Idle ∷
    Idle ∷ Idle ∷ Idle ∷ Idle ∷ Idle ∷ Idle ∷ Idle ∷ Idle ∷ Idle ∷ Idle ∷ Idle ∷ Idle ∷ Idle ∷ Idle ∷ Idle ∷ Idle ∷
    Idle ∷ Idle ∷ Idle ∷ Idle ∷ Idle ∷ Idle ∷ Idle ∷ Idle ∷ Idle ∷ Idle ∷ Idle ∷ Idle ∷ Idle ∷ Idle ∷ Idle ∷ Idle ∷
    Idle ∷ Idle ∷ Idle ∷ Idle ∷ Idle ∷ Idle ∷ Idle ∷ []

outcomes : outcomes_from first events ≡ expected
unfolding computing
outcomes = refl

abbrev last : Ending
last = record {
  harts =
      record {
        section = None;
        armed = None;
        last_lr = None;
        cache = (way 1024 M false false ∷ way 1026 S false false ∷ []) ∷ ([]) ∷ [];
        raised = None;
        held_line = None;
        mail = [];
        told = [];
        upstream = [];
        fallback = false;
        tries = 0;
        clock = 0;
        seen = 0;
        attempt = None;
        predictor = record { counters = (patched (replicate 64 2) ((7, 0) ∷ [])); watch = None };
      } ∷ record {
        section = None;
        armed = None;
        last_lr = None;
        cache = (way 1026 S false false ∷ []) ∷ ([]) ∷ [];
        raised = None;
        held_line = None;
        mail = [];
        told = [];
        upstream = [];
        fallback = false;
        tries = 0;
        clock = 0;
        seen = 0;
        attempt = None;
        predictor = record { counters = (patched (replicate 64 2) ([])); watch = None };
      } ∷ record {
        section = None;
        armed = None;
        last_lr = None;
        cache = (way 1026 S false false ∷ []) ∷ ([]) ∷ [];
        raised = None;
        held_line = None;
        mail = [];
        told = [];
        upstream = [];
        fallback = false;
        tries = 0;
        clock = 0;
        seen = 0;
        attempt = None;
        predictor = record { counters = (patched (replicate 64 2) ((4, 3) ∷ (7, 0) ∷ [])); watch = None };
      } ∷ [];
  order = [];
  pcs = 131104 ∷ 131104 ∷ 131104 ∷ [];
  registers =
      (0 ∷ 0 ∷ 65920 ∷ 0 ∷ 0 ∷ 65536 ∷ 1 ∷ 0 ∷ 0 ∷ 2 ∷ 0 ∷ 3 ∷ 0 ∷ 0 ∷ 0 ∷ 0 ∷ 0 ∷ 0 ∷ 0 ∷ 0 ∷ 0 ∷ 0 ∷
      0 ∷ 0 ∷ 0 ∷ 0 ∷ 0 ∷ 0 ∷ 0 ∷ 0 ∷ 0 ∷ 0 ∷ []) ∷
      (0 ∷ 0 ∷ 384 ∷ 0 ∷ 0 ∷ 65536 ∷ 1 ∷ 0 ∷ 1 ∷ 2 ∷ 1 ∷ 3 ∷ 0 ∷ 0 ∷ 0 ∷ 0 ∷ 0 ∷ 0 ∷ 0 ∷ 0 ∷ 0 ∷ 0 ∷
      0 ∷ 0 ∷ 0 ∷ 0 ∷ 0 ∷ 0 ∷ 0 ∷ 0 ∷ 0 ∷ 0 ∷ []) ∷
      (0 ∷ 0 ∷ 4294902144 ∷ 0 ∷ 0 ∷ 65536 ∷ 1 ∷ 0 ∷ 0 ∷ 2 ∷ 2 ∷ 3 ∷ 0 ∷ 0 ∷ 0 ∷ 0 ∷ 0 ∷ 0 ∷ 0 ∷ 0 ∷
      0 ∷ 0 ∷ 0 ∷ 0 ∷ 0 ∷ 0 ∷ 0 ∷ 0 ∷ 0 ∷ 0 ∷ 0 ∷ 0 ∷ []) ∷
      [];
  bytes = patched (replicate 384 0) ((0, 1) ∷ []);
}

ending : ending_of (state_after first events) ≡ last
unfolding computing
ending = refl
