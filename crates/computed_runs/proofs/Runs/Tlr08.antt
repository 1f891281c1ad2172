-- 4 harts in lock removal, 320 random events: a rollback by Mixed, a serve blocked as Behind, a serve blocked as
-- Locked, a serve blocked as Retained, commits, messages
use Rattle.std.proofs.Common.{◌≡◌, ℕ, true, false, List, [], ◌∷◌, Some, None, replicate, refl}
use Rattle.el_base.specs.HartId.{hart_id}
use Rattle.el_base.specs.LineAddr.{line_addr}
use Rattle.el_base.specs.declared.config.Config.{Config}
use Rattle.el_base.specs.declared.config.Mode.TheVariants.{Plain, Sle, Tlr}
use Rattle.el_base.specs.declared.events.Event.{Event}
use Rattle.el_base.specs.declared.events.Kind.TheVariants.{Step, Order, Serve, Deliver}
use Rattle.el_base.specs.declared.outcomes.Cause.TheVariants.{Room, Lines, Long, Call, Mixed}
use Rattle.el_base.specs.declared.outcomes.Need.TheVariants.{Read, Write}
use Rattle.el_base.specs.declared.outcomes.Outcome.{Outcome}
use Rattle.el_base.specs.declared.outcomes.Outcome.TheVariants.{Idle, Stalled, Missed, Ran, Began, Buffered, Committed}
use Rattle.el_base.specs.declared.outcomes.Outcome.TheVariants.{RolledBack, Blocked}
use Rattle.el_base.specs.declared.outcomes.Outcome.TheVariants.{Delivered, Armed, LetGo}
use Rattle.el_base.specs.declared.outcomes.Why.TheVariants.{Behind, Retained, Locked}
use Rattle.computed_runs.proofs.Computing.{computing}
use Rattle.computed_runs.proofs.Given.{Ending, armed, ending_of, event, first_state, lost, ordered_with, patched}
use Rattle.computed_runs.proofs.Given.{request, section, served_with}
use Rattle.computed_runs.proofs.Given.{stamp, watch, way}
use Rattle.el_model.specs.Next.{outcomes_from, state_after}
use Rattle.el_model.specs.State.{Hart, ModelState}
use Rattle.mail.specs.Mailbox.{Marker, Probe}
use Rattle.moesi.specs.declared.letter.Letter.TheVariants.{M, O, E, S}

abbrev config : Config
config = record {
  harts = 4;
  mode = Tlr;
  sets = 1;
  ways = 3;
  lines = 3;
  long = 10;
  steps = 320;
}

abbrev words : List ℕ
words =
    66231 ∷ 1049363 ∷ 2098323 ∷ 140682287 ∷ 140682927 ∷ 172067 ∷ 140682287 ∷ 267386895 ∷ 244485795 ∷ 172067 ∷ 328803 ∷
    140682287 ∷ 138585603 ∷ 172067 ∷ 4250923119 ∷ []

abbrev first : ModelState
first = first_state config 65536 256 131072 words

abbrev events : List Event
events =
    event Step 2 ∷ event Order 0 ∷ event Step 0 ∷ event Order 3 ∷ event Step 2 ∷ event Step 1 ∷ event Step 2 ∷
    event Serve 2 ∷ event Step 2 ∷ event Step 0 ∷ event Deliver 0 ∷ event Serve 3 ∷ event Step 0 ∷ event Order 1 ∷
    event Order 2 ∷ event Order 0 ∷ event Step 3 ∷ event Step 3 ∷ event Step 1 ∷ event Step 3 ∷ event Order 0 ∷
    event Serve 0 ∷ event Step 0 ∷ event Serve 2 ∷ event Step 3 ∷ event Order 3 ∷ event Step 2 ∷ event Order 1 ∷
    event Step 1 ∷ event Serve 3 ∷ event Order 0 ∷ event Deliver 2 ∷ event Step 0 ∷ event Step 1 ∷ event Order 1 ∷
    event Serve 1 ∷ event Step 2 ∷ event Serve 1 ∷ event Order 0 ∷ event Serve 1 ∷ event Step 2 ∷ event Serve 1 ∷
    event Step 2 ∷ event Order 2 ∷ event Serve 2 ∷ event Serve 2 ∷ event Deliver 0 ∷ event Serve 0 ∷ event Step 3 ∷
    event Deliver 1 ∷ event Deliver 2 ∷ event Deliver 1 ∷ event Serve 2 ∷ event Serve 0 ∷ event Step 0 ∷
    event Deliver 0 ∷ event Order 0 ∷ event Serve 2 ∷ event Serve 2 ∷ event Serve 0 ∷ event Serve 1 ∷ event Deliver 1 ∷
    event Order 2 ∷ event Serve 2 ∷ event Serve 0 ∷ event Serve 2 ∷ event Deliver 2 ∷ event Serve 0 ∷ event Serve 3 ∷
    event Step 1 ∷ event Deliver 3 ∷ event Order 1 ∷ event Serve 2 ∷ event Deliver 1 ∷ event Step 0 ∷ event Order 1 ∷
    event Step 0 ∷ event Serve 0 ∷ event Serve 0 ∷ event Serve 0 ∷ event Serve 1 ∷ event Serve 3 ∷ event Serve 1 ∷
    event Step 3 ∷ event Order 3 ∷ event Step 2 ∷ event Serve 1 ∷ event Serve 1 ∷ event Serve 0 ∷ event Deliver 0 ∷
    event Deliver 3 ∷ event Deliver 1 ∷ event Deliver 1 ∷ event Serve 1 ∷ event Step 1 ∷ event Order 3 ∷
    event Order 1 ∷ event Serve 3 ∷ event Step 2 ∷ event Step 1 ∷ event Order 0 ∷ event Step 3 ∷ event Order 0 ∷
    event Serve 0 ∷ event Serve 1 ∷ event Step 0 ∷ event Serve 3 ∷ event Serve 3 ∷ event Order 2 ∷ event Deliver 2 ∷
    event Serve 2 ∷ event Order 0 ∷ event Serve 3 ∷ event Serve 0 ∷ event Deliver 3 ∷ event Serve 0 ∷ event Serve 3 ∷
    event Step 3 ∷ event Order 3 ∷ event Deliver 0 ∷ event Serve 2 ∷ event Serve 3 ∷ event Serve 2 ∷ event Serve 2 ∷
    event Step 2 ∷ event Serve 3 ∷ event Serve 3 ∷ event Deliver 1 ∷ event Step 2 ∷ event Serve 1 ∷ event Serve 2 ∷
    event Order 2 ∷ event Serve 0 ∷ event Step 1 ∷ event Step 0 ∷ event Step 2 ∷ event Deliver 0 ∷ event Serve 0 ∷
    event Order 1 ∷ event Deliver 2 ∷ event Deliver 2 ∷ event Serve 2 ∷ event Serve 3 ∷ event Step 0 ∷ event Serve 1 ∷
    event Serve 2 ∷ event Step 3 ∷ event Deliver 1 ∷ event Serve 1 ∷ event Serve 2 ∷ event Step 2 ∷ event Serve 0 ∷
    event Deliver 3 ∷ event Order 3 ∷ event Serve 3 ∷ event Serve 3 ∷ event Deliver 3 ∷ event Step 2 ∷ event Step 3 ∷
    event Deliver 0 ∷ event Deliver 1 ∷ event Serve 2 ∷ event Serve 3 ∷ event Serve 1 ∷ event Serve 1 ∷ event Serve 2 ∷
    event Deliver 1 ∷ event Serve 0 ∷ event Step 1 ∷ event Order 2 ∷ event Step 0 ∷ event Serve 2 ∷ event Deliver 2 ∷
    event Deliver 0 ∷ event Deliver 1 ∷ event Deliver 1 ∷ event Serve 3 ∷ event Step 0 ∷ event Serve 3 ∷
    event Order 3 ∷ event Serve 3 ∷ event Serve 3 ∷ event Serve 3 ∷ event Step 0 ∷ event Serve 3 ∷ event Serve 1 ∷
    event Serve 2 ∷ event Deliver 3 ∷ event Serve 1 ∷ event Step 0 ∷ event Step 2 ∷ event Deliver 2 ∷ event Serve 0 ∷
    event Step 1 ∷ event Serve 3 ∷ event Step 3 ∷ event Serve 2 ∷ event Order 3 ∷ event Order 1 ∷ event Step 2 ∷
    event Order 0 ∷ event Serve 3 ∷ event Order 3 ∷ event Serve 0 ∷ event Serve 1 ∷ event Deliver 0 ∷ event Serve 1 ∷
    event Step 2 ∷ event Step 0 ∷ event Deliver 1 ∷ event Step 2 ∷ event Order 3 ∷ event Step 2 ∷ event Step 0 ∷
    event Serve 0 ∷ event Order 3 ∷ event Serve 3 ∷ event Step 0 ∷ event Step 3 ∷ event Step 0 ∷ event Serve 3 ∷
    event Step 3 ∷ event Order 2 ∷ event Serve 0 ∷ event Serve 2 ∷ event Step 2 ∷ event Deliver 3 ∷ event Step 2 ∷
    event Step 3 ∷ event Serve 1 ∷ event Step 2 ∷ event Serve 0 ∷ event Serve 0 ∷ event Serve 0 ∷ event Deliver 1 ∷
    event Serve 0 ∷ event Step 2 ∷ event Step 2 ∷ event Serve 0 ∷ event Deliver 3 ∷ event Order 0 ∷ event Step 1 ∷
    event Step 0 ∷ event Step 2 ∷ event Order 3 ∷ event Order 0 ∷ event Serve 3 ∷ event Step 1 ∷ event Step 0 ∷
    event Serve 0 ∷ event Step 0 ∷ event Order 1 ∷ event Order 1 ∷ event Step 1 ∷ event Order 1 ∷ event Serve 3 ∷
    event Order 2 ∷ event Order 2 ∷ event Deliver 3 ∷ event Serve 1 ∷ event Deliver 1 ∷ event Deliver 3 ∷
    event Order 3 ∷ event Step 3 ∷ event Deliver 0 ∷ event Serve 3 ∷ event Deliver 3 ∷ event Serve 3 ∷
    event Deliver 2 ∷ event Step 2 ∷ event Deliver 2 ∷ event Order 0 ∷ event Step 3 ∷ event Deliver 2 ∷ event Serve 1 ∷
    event Deliver 0 ∷ event Deliver 2 ∷ event Serve 2 ∷ event Step 1 ∷ event Serve 0 ∷ event Serve 1 ∷ event Order 3 ∷
    event Serve 3 ∷ event Serve 0 ∷ event Serve 0 ∷ event Deliver 0 ∷ event Step 2 ∷ event Order 0 ∷ event Serve 3 ∷
    event Step 2 ∷ event Serve 0 ∷ event Serve 1 ∷ event Step 3 ∷ event Serve 1 ∷ event Serve 1 ∷ event Serve 0 ∷
    event Step 3 ∷ event Serve 3 ∷ event Step 2 ∷ event Step 3 ∷ event Order 3 ∷ event Step 3 ∷ event Deliver 3 ∷
    event Serve 0 ∷ event Step 3 ∷ event Serve 0 ∷ event Step 2 ∷ event Serve 1 ∷ event Step 3 ∷ event Serve 3 ∷
    event Step 1 ∷ event Deliver 1 ∷ event Step 1 ∷ event Serve 0 ∷ event Serve 0 ∷ event Order 2 ∷ event Deliver 2 ∷
    event Step 3 ∷ event Serve 2 ∷ event Step 1 ∷ []

abbrev expected : List Outcome
expected =
    Ran ∷ Idle ∷ Ran ∷ Idle ∷ Ran ∷ Ran ∷ Ran ∷ Idle ∷ Missed (line_addr 1024) Read ∷ Ran ∷ Idle ∷ Idle ∷ Ran ∷ Idle ∷
    ordered_with [] [] ∷ Idle ∷ Ran ∷ Ran ∷ Ran ∷ Ran ∷ Idle ∷ Idle ∷ Missed (line_addr 1024) Read ∷
    served_with [] [] ∷ Missed (line_addr 1024) Read ∷ ordered_with [] [] ∷ Began ∷ Idle ∷ Ran ∷ served_with [] [] ∷
    ordered_with [] [] ∷ Idle ∷ Stalled ∷ Missed (line_addr 1024) Read ∷ ordered_with [] [] ∷
    Blocked Behind (hart_id 0) ∷ RolledBack Mixed ∷ Blocked Behind (hart_id 0) ∷ Idle ∷ Blocked Behind (hart_id 0) ∷
    Missed (line_addr 1024) Write ∷ Blocked Behind (hart_id 0) ∷ Stalled ∷ ordered_with [] [] ∷
    Blocked Behind (hart_id 0) ∷ Blocked Behind (hart_id 0) ∷ Idle ∷ Blocked Locked (hart_id 3) ∷
    Missed (line_addr 1024) Read ∷ Delivered (lost []) ∷ Delivered (lost []) ∷ Delivered (lost []) ∷
    Blocked Behind (hart_id 0) ∷ served_with [] [] ∷ Missed (line_addr 1024) Read ∷ Delivered (lost []) ∷
    ordered_with [] [] ∷ Blocked Behind (hart_id 1) ∷ Blocked Behind (hart_id 1) ∷ Blocked Behind (hart_id 1) ∷
    served_with [] [] ∷ Idle ∷ Idle ∷ Blocked Locked (hart_id 1) ∷ Blocked Behind (hart_id 2) ∷
    Blocked Locked (hart_id 1) ∷ Idle ∷ Blocked Behind (hart_id 2) ∷ Idle ∷ Missed (line_addr 1024) Read ∷ Idle ∷
    ordered_with [] [] ∷ served_with [] [] ∷ Delivered (lost []) ∷ Stalled ∷ Idle ∷ Stalled ∷
    Blocked Locked (hart_id 2) ∷ Blocked Locked (hart_id 2) ∷ Blocked Locked (hart_id 2) ∷ Blocked Behind (hart_id 0) ∷
    Idle ∷ Blocked Behind (hart_id 0) ∷ Stalled ∷ ordered_with [] [] ∷ Ran ∷ Blocked Behind (hart_id 0) ∷
    Blocked Behind (hart_id 0) ∷ served_with [] [] ∷ Delivered (lost []) ∷ Delivered (lost []) ∷ Delivered (lost []) ∷
    Idle ∷ Blocked Locked (hart_id 0) ∷ Stalled ∷ Idle ∷ Idle ∷ Blocked Behind (hart_id 1) ∷
    Missed (line_addr 1024) Write ∷ Stalled ∷ Idle ∷ Stalled ∷ Idle ∷ Idle ∷ Blocked Locked (hart_id 0) ∷
    Missed (line_addr 1024) Write ∷ Blocked Behind (hart_id 1) ∷ Blocked Behind (hart_id 1) ∷ ordered_with [] [] ∷
    Delivered (lost []) ∷ Blocked Behind (hart_id 1) ∷ ordered_with [] [] ∷ Blocked Behind (hart_id 1) ∷
    Blocked Behind (hart_id 1) ∷ Delivered (lost []) ∷ Blocked Behind (hart_id 1) ∷ Blocked Behind (hart_id 1) ∷
    Stalled ∷ Idle ∷ Delivered (lost []) ∷ Blocked Behind (hart_id 1) ∷ Blocked Behind (hart_id 1) ∷
    Blocked Behind (hart_id 1) ∷ Blocked Behind (hart_id 1) ∷ Stalled ∷ Blocked Behind (hart_id 1) ∷
    Blocked Behind (hart_id 1) ∷ Delivered (lost []) ∷ Stalled ∷ served_with [] [] ∷ Blocked Behind (hart_id 3) ∷
    Idle ∷ Blocked Behind (hart_id 3) ∷ Missed (line_addr 1024) Write ∷ Stalled ∷ Stalled ∷ Delivered (lost []) ∷
    Blocked Behind (hart_id 3) ∷ ordered_with [] [] ∷ Delivered (lost []) ∷ Delivered (lost []) ∷
    Blocked Behind (hart_id 3) ∷ served_with [] [] ∷ Stalled ∷ Blocked Behind (hart_id 2) ∷
    Blocked Locked (hart_id 3) ∷ Missed (line_addr 1024) Write ∷ Delivered (lost []) ∷ Blocked Behind (hart_id 2) ∷
    served_with [] [] ∷ Ran ∷ served_with [] [] ∷ Idle ∷ ordered_with [] [] ∷ Blocked Behind (hart_id 1) ∷
    Blocked Behind (hart_id 1) ∷ Delivered (lost []) ∷ Missed (line_addr 1024) Write ∷ Stalled ∷ Delivered (lost []) ∷
    Delivered (lost []) ∷ Idle ∷ Blocked Behind (hart_id 1) ∷ Blocked Locked (hart_id 0) ∷ Blocked Locked (hart_id 0) ∷
    Idle ∷ Idle ∷ Idle ∷ Stalled ∷ ordered_with [] [] ∷ Ran ∷ Blocked Behind (hart_id 1) ∷ Delivered (lost []) ∷
    Delivered (lost []) ∷ Idle ∷ Idle ∷ Blocked Behind (hart_id 1) ∷ Ran ∷ Blocked Behind (hart_id 1) ∷ Idle ∷
    Blocked Behind (hart_id 1) ∷ Blocked Behind (hart_id 1) ∷ Blocked Behind (hart_id 1) ∷ Ran ∷
    Blocked Behind (hart_id 1) ∷ served_with [] [] ∷ Blocked Behind (hart_id 3) ∷ Delivered (lost []) ∷ Idle ∷
    Missed (line_addr 1024) Read ∷ Stalled ∷ Idle ∷ Idle ∷ Missed (line_addr 1024) Read ∷ served_with [] [] ∷
    Missed (line_addr 1024) Read ∷ served_with [] [] ∷ ordered_with [] [] ∷ ordered_with [] [] ∷ Ran ∷
    ordered_with [] [] ∷ served_with [] [] ∷ Idle ∷ Blocked Behind (hart_id 1) ∷ Blocked Locked (hart_id 3) ∷
    Delivered (lost []) ∷ Blocked Locked (hart_id 3) ∷ Began ∷ Stalled ∷ Delivered (lost []) ∷ Buffered ∷ Idle ∷
    Missed (line_addr 1027) Write ∷ Stalled ∷ Blocked Behind (hart_id 1) ∷ Idle ∷ Idle ∷ Stalled ∷ Began ∷ Stalled ∷
    Idle ∷ RolledBack Mixed ∷ ordered_with [] [] ∷ Blocked Behind (hart_id 1) ∷ served_with [] [] ∷ Buffered ∷
    Delivered (lost []) ∷ Committed 4 ∷ Missed (line_addr 1024) Write ∷ served_with [] [] ∷ Ran ∷
    Blocked Locked (hart_id 1) ∷ Blocked Locked (hart_id 1) ∷ Blocked Locked (hart_id 1) ∷ Delivered (lost []) ∷
    Blocked Locked (hart_id 1) ∷ Began ∷ Missed (line_addr 1026) Read ∷ Blocked Locked (hart_id 1) ∷ Idle ∷ Idle ∷
    Began ∷ Stalled ∷ Stalled ∷ ordered_with [] [] ∷ Idle ∷ Blocked Behind (hart_id 0) ∷ RolledBack Mixed ∷ Stalled ∷
    served_with [] [] ∷ Missed (line_addr 1024) Read ∷ Idle ∷ Idle ∷ Missed (line_addr 1024) Write ∷
    ordered_with [] [] ∷ Blocked Retained (hart_id 2) ∷ ordered_with [] [] ∷ Idle ∷ Delivered (lost []) ∷
    Blocked Behind (hart_id 3) ∷ Delivered (lost []) ∷ Delivered (lost []) ∷ Idle ∷ Stalled ∷ Delivered (lost []) ∷
    Blocked Retained (hart_id 2) ∷ Delivered (lost []) ∷ Blocked Retained (hart_id 2) ∷ Delivered (lost []) ∷ Stalled ∷
    Delivered (lost []) ∷ ordered_with [] [] ∷ Stalled ∷ Idle ∷ Blocked Behind (hart_id 3) ∷ Delivered (lost []) ∷
    Idle ∷ served_with [] [] ∷ Stalled ∷ Blocked Behind (hart_id 3) ∷ Blocked Behind (hart_id 3) ∷ Idle ∷
    Blocked Retained (hart_id 2) ∷ Blocked Behind (hart_id 3) ∷ Blocked Behind (hart_id 3) ∷ Delivered (lost []) ∷
    Buffered ∷ Idle ∷ Blocked Retained (hart_id 2) ∷ Committed 3 ∷ Blocked Behind (hart_id 3) ∷
    Blocked Behind (hart_id 3) ∷ Stalled ∷ Blocked Behind (hart_id 3) ∷ Blocked Behind (hart_id 3) ∷
    Blocked Behind (hart_id 3) ∷ Stalled ∷ served_with [] [] ∷ Ran ∷ Ran ∷ Idle ∷ Ran ∷ Idle ∷
    Blocked Behind (hart_id 1) ∷ Ran ∷ Blocked Behind (hart_id 1) ∷ Missed (line_addr 1024) Write ∷ served_with [] [] ∷
    Missed (line_addr 1024) Read ∷ Idle ∷ Ran ∷ Delivered (lost []) ∷ Ran ∷ served_with [] [] ∷ Idle ∷
    ordered_with [] [] ∷ Idle ∷ Stalled ∷ Blocked Locked (hart_id 0) ∷ Missed (line_addr 1024) Write ∷ []

outcomes : outcomes_from first events ≡ expected
unfolding computing
outcomes = refl

abbrev last : Ending
last = record {
  harts =
      record {
        section = None;
        armed = None;
        last_lr = None;
        cache = (way 1024 S false false ∷ []) ∷ [];
        raised = None;
        held_line = (Some 1024);
        mail = [];
        told = [];
        upstream = [];
        fallback = false;
        tries = 0;
        clock = 0;
        seen = 0;
        attempt = None;
        predictor = record { counters = (patched (replicate 64 2) ([])); watch = None };
      } ∷ record {
        section = None;
        armed = None;
        last_lr = None;
        cache = (way 1024 O false false ∷ []) ∷ [];
        raised = (Some (request 1 1024 Write None));
        held_line = None;
        mail = [];
        told = [];
        upstream = [];
        fallback = false;
        tries = 0;
        clock = 1;
        seen = 0;
        attempt = None;
        predictor = record { counters = (patched (replicate 64 2) ((3, 0) ∷ [])); watch = None };
      } ∷ record {
        section = None;
        armed = None;
        last_lr = None;
        cache = (way 1026 E false false ∷ way 1027 M false false ∷ []) ∷ [];
        raised = None;
        held_line = None;
        mail = [];
        told = [];
        upstream = [];
        fallback = false;
        tries = 0;
        clock = 3;
        seen = 0;
        attempt = None;
        predictor = record { counters = (patched (replicate 64 2) ((3, 0) ∷ (6, 3) ∷ (11, 3) ∷ [])); watch = None };
      } ∷ record {
        section = None;
        armed = None;
        last_lr = None;
        cache = ([]) ∷ [];
        raised = (Some (request 3 1024 Read None));
        held_line = None;
        mail = [];
        told = [];
        upstream = [];
        fallback = false;
        tries = 0;
        clock = 1;
        seen = 0;
        attempt = None;
        predictor = record { counters = (patched (replicate 64 2) ((3, 0) ∷ [])); watch = None };
      } ∷ [];
  order = (request 2 1024 Write None) ∷ [];
  pcs = 131096 ∷ 131092 ∷ 131084 ∷ 131096 ∷ [];
  registers =
      (0 ∷ 0 ∷ 65792 ∷ 0 ∷ 0 ∷ 65536 ∷ 1 ∷ 0 ∷ 1 ∷ 2 ∷ 0 ∷ 4 ∷ 0 ∷ 1 ∷ 0 ∷ 0 ∷ 0 ∷ 0 ∷ 0 ∷ 0 ∷ 0 ∷ 0 ∷
      0 ∷ 0 ∷ 0 ∷ 0 ∷ 0 ∷ 0 ∷ 0 ∷ 0 ∷ 0 ∷ 0 ∷ []) ∷
      (0 ∷ 0 ∷ 256 ∷ 0 ∷ 0 ∷ 65536 ∷ 1 ∷ 0 ∷ 0 ∷ 2 ∷ 1 ∷ 4 ∷ 0 ∷ 1 ∷ 0 ∷ 0 ∷ 0 ∷ 0 ∷ 0 ∷ 0 ∷ 0 ∷ 0 ∷
      0 ∷ 0 ∷ 0 ∷ 0 ∷ 0 ∷ 0 ∷ 0 ∷ 0 ∷ 0 ∷ 0 ∷ []) ∷
      (0 ∷ 0 ∷ 4294902016 ∷ 0 ∷ 0 ∷ 65536 ∷ 1 ∷ 0 ∷ 0 ∷ 2 ∷ 2 ∷ 4 ∷ 0 ∷ 1 ∷ 0 ∷ 0 ∷ 0 ∷ 0 ∷ 0 ∷ 0 ∷
      0 ∷ 0 ∷ 0 ∷ 0 ∷ 0 ∷ 0 ∷ 0 ∷ 0 ∷ 0 ∷ 0 ∷ 0 ∷ 0 ∷ []) ∷
      (0 ∷ 0 ∷ 4294836480 ∷ 0 ∷ 0 ∷ 65536 ∷ 1 ∷ 0 ∷ 0 ∷ 2 ∷ 3 ∷ 4 ∷ 0 ∷ 1 ∷ 0 ∷ 0 ∷ 0 ∷ 0 ∷ 0 ∷ 0 ∷
      0 ∷ 0 ∷ 0 ∷ 0 ∷ 0 ∷ 0 ∷ 0 ∷ 0 ∷ 0 ∷ 0 ∷ 0 ∷ 0 ∷ []) ∷
      [];
  bytes = patched (replicate 256 0) ((0, 1) ∷ (253, 2) ∷ []);
}

ending : ending_of (state_after first events) ≡ last
unfolding computing
ending = refl
