-- 4 harts in lock elision, 170 random events: a rollback by Long, a section lost as a request takes its place, a
-- serve blocked as Locked
use Rattle.std.proofs.Common.{◌≡◌, ℕ, true, false, List, [], ◌∷◌, Some, None, replicate, refl}
use Rattle.el_base.specs.HartId.{hart_id}
use Rattle.el_base.specs.LineAddr.{line_addr}
use Rattle.el_base.specs.declared.config.Config.{Config}
use Rattle.el_base.specs.declared.config.Mode.TheVariants.{Plain, Sle, Tlr}
use Rattle.el_base.specs.declared.events.Event.{Event}
use Rattle.el_base.specs.declared.events.Kind.TheVariants.{Step, Order, Serve, Deliver}
use Rattle.el_base.specs.declared.outcomes.Cause.TheVariants.{Room, Lines, Long, Call, Mixed}
use Rattle.el_base.specs.declared.outcomes.Need.TheVariants.{Read, Write}
use Rattle.el_base.specs.declared.outcomes.Outcome.{Outcome}
use Rattle.el_base.specs.declared.outcomes.Outcome.TheVariants.{Idle, Stalled, Missed, Ran, Began, Buffered, Committed}
use Rattle.el_base.specs.declared.outcomes.Outcome.TheVariants.{RolledBack, Blocked}
use Rattle.el_base.specs.declared.outcomes.Outcome.TheVariants.{Delivered, Armed, LetGo}
use Rattle.el_base.specs.declared.outcomes.Why.TheVariants.{Behind, Retained, Locked}
use Rattle.computed_runs.proofs.Computing.{computing}
use Rattle.computed_runs.proofs.Given.{Ending, armed, ending_of, event, first_state, lost, ordered_with, patched}
use Rattle.computed_runs.proofs.Given.{request, section, served_with}
use Rattle.computed_runs.proofs.Given.{stamp, watch, way}
use Rattle.el_model.specs.Next.{outcomes_from, state_after}
use Rattle.el_model.specs.State.{Hart, ModelState}
use Rattle.mail.specs.Mailbox.{Marker, Probe}
use Rattle.moesi.specs.declared.letter.Letter.TheVariants.{M, O, E, S}

abbrev config : Config
config = record {
  harts = 4;
  mode = Sle;
  sets = 1;
  ways = 3;
  lines = 2;
  long = 3;
  steps = 170;
}

abbrev words : List ℕ
words =
    66231 ∷ 1049363 ∷ 2098323 ∷ 328803 ∷ 140682287 ∷ 412264239 ∷ 75671043 ∷ 267386895 ∷ 67273619 ∷ 328803 ∷ 140747823 ∷
    110276131 ∷ 267386895 ∷ 237603 ∷ 4250923119 ∷ []

abbrev first : ModelState
first = first_state config 65536 256 131072 words

abbrev events : List Event
events =
    event Serve 0 ∷ event Step 3 ∷ event Step 1 ∷ event Serve 2 ∷ event Step 2 ∷ event Step 3 ∷ event Step 1 ∷
    event Step 0 ∷ event Order 0 ∷ event Deliver 3 ∷ event Step 3 ∷ event Deliver 1 ∷ event Step 1 ∷ event Step 1 ∷
    event Step 0 ∷ event Deliver 0 ∷ event Step 0 ∷ event Serve 0 ∷ event Deliver 3 ∷ event Step 0 ∷ event Step 2 ∷
    event Deliver 1 ∷ event Step 1 ∷ event Deliver 1 ∷ event Step 3 ∷ event Order 3 ∷ event Order 1 ∷ event Serve 0 ∷
    event Serve 1 ∷ event Order 2 ∷ event Step 1 ∷ event Order 1 ∷ event Deliver 2 ∷ event Deliver 3 ∷
    event Deliver 2 ∷ event Step 2 ∷ event Step 2 ∷ event Step 0 ∷ event Step 2 ∷ event Step 0 ∷ event Deliver 0 ∷
    event Order 2 ∷ event Step 1 ∷ event Order 2 ∷ event Deliver 2 ∷ event Step 1 ∷ event Order 0 ∷ event Serve 0 ∷
    event Deliver 1 ∷ event Step 3 ∷ event Serve 0 ∷ event Serve 2 ∷ event Serve 3 ∷ event Step 2 ∷ event Step 0 ∷
    event Step 0 ∷ event Order 1 ∷ event Serve 3 ∷ event Serve 2 ∷ event Step 0 ∷ event Deliver 2 ∷ event Order 3 ∷
    event Order 0 ∷ event Step 2 ∷ event Step 0 ∷ event Serve 0 ∷ event Serve 1 ∷ event Order 3 ∷ event Serve 3 ∷
    event Serve 2 ∷ event Step 0 ∷ event Step 3 ∷ event Serve 2 ∷ event Step 1 ∷ event Step 2 ∷ event Deliver 1 ∷
    event Order 2 ∷ event Order 1 ∷ event Serve 2 ∷ event Order 2 ∷ event Deliver 3 ∷ event Step 0 ∷ event Step 1 ∷
    event Step 3 ∷ event Deliver 1 ∷ event Step 3 ∷ event Step 0 ∷ event Serve 0 ∷ event Step 1 ∷ event Serve 2 ∷
    event Order 3 ∷ event Serve 3 ∷ event Step 2 ∷ event Order 1 ∷ event Deliver 0 ∷ event Serve 1 ∷ event Step 2 ∷
    event Serve 0 ∷ event Step 2 ∷ event Order 3 ∷ event Step 3 ∷ event Deliver 0 ∷ event Order 0 ∷ event Order 3 ∷
    event Step 1 ∷ event Deliver 1 ∷ event Serve 1 ∷ event Step 1 ∷ event Serve 0 ∷ event Step 0 ∷ event Step 0 ∷
    event Step 0 ∷ event Order 2 ∷ event Step 1 ∷ event Deliver 1 ∷ event Order 0 ∷ event Step 0 ∷ event Order 3 ∷
    event Deliver 2 ∷ event Step 0 ∷ event Step 3 ∷ event Serve 0 ∷ event Serve 3 ∷ event Serve 2 ∷ event Order 3 ∷
    event Step 3 ∷ event Step 0 ∷ event Step 0 ∷ event Order 3 ∷ event Serve 2 ∷ event Step 3 ∷ event Step 2 ∷
    event Serve 3 ∷ event Order 2 ∷ event Order 1 ∷ event Step 0 ∷ event Deliver 1 ∷ event Step 0 ∷ event Serve 3 ∷
    event Serve 2 ∷ event Step 0 ∷ event Serve 2 ∷ event Step 3 ∷ event Order 2 ∷ event Serve 2 ∷ event Step 3 ∷
    event Order 0 ∷ event Serve 1 ∷ event Step 0 ∷ event Step 2 ∷ event Serve 1 ∷ event Order 2 ∷ event Serve 2 ∷
    event Step 0 ∷ event Step 1 ∷ event Deliver 3 ∷ event Order 1 ∷ event Step 2 ∷ event Deliver 2 ∷ event Step 2 ∷
    event Serve 3 ∷ event Order 2 ∷ event Step 2 ∷ event Step 3 ∷ event Step 2 ∷ event Serve 2 ∷ event Order 3 ∷
    event Step 1 ∷ event Step 1 ∷ event Deliver 1 ∷ []

abbrev expected : List Outcome
expected =
    Idle ∷ Ran ∷ Ran ∷ Idle ∷ Ran ∷ Ran ∷ Ran ∷ Ran ∷ Idle ∷ Idle ∷ Ran ∷ Idle ∷ Ran ∷ Ran ∷ Ran ∷ Idle ∷ Ran ∷ Idle ∷
    Idle ∷ Ran ∷ Ran ∷ Idle ∷ Missed (line_addr 1024) Read ∷ Idle ∷ Ran ∷ Idle ∷ ordered_with [] [] ∷ Idle ∷
    served_with [] [] ∷ Idle ∷ Began ∷ Idle ∷ Idle ∷ Idle ∷ Idle ∷ Ran ∷ Ran ∷ Ran ∷ Missed (line_addr 1024) Read ∷
    Missed (line_addr 1025) Read ∷ Idle ∷ ordered_with [] [] ∷ Buffered ∷ Idle ∷ Idle ∷ Missed (line_addr 1025) Read ∷
    ordered_with [] [] ∷ served_with [] [] ∷ Idle ∷ Missed (line_addr 1024) Read ∷ Idle ∷ served_with [] [] ∷ Idle ∷
    Began ∷ Ran ∷ Ran ∷ ordered_with [] [] ∷ Idle ∷ Idle ∷ Ran ∷ Idle ∷ ordered_with [] [] ∷ Idle ∷ Buffered ∷ Ran ∷
    Idle ∷ served_with [] [] ∷ Idle ∷ served_with [] [] ∷ Idle ∷ Missed (line_addr 1025) Write ∷ Began ∷ Idle ∷
    Buffered ∷ Missed (line_addr 1025) Read ∷ Idle ∷ ordered_with [] [] ∷ Idle ∷ served_with [] [] ∷ Idle ∷ Idle ∷
    Stalled ∷ RolledBack Long ∷ Buffered ∷ Idle ∷ Missed (line_addr 1025) Read ∷ Stalled ∷ Idle ∷
    Missed (line_addr 1024) Write ∷ Idle ∷ ordered_with [] [] ∷ served_with [] [] ∷ Buffered ∷
    ordered_with ((2, 1) ∷ (3, 1) ∷ []) [] ∷ Idle ∷ served_with [] [] ∷ Missed (line_addr 1024) Read ∷ Idle ∷ Stalled ∷
    Idle ∷ Missed (line_addr 1024) Read ∷ Idle ∷ ordered_with [] [] ∷ ordered_with [] [] ∷ Ran ∷ Idle ∷ Idle ∷ Ran ∷
    served_with [] [] ∷ Ran ∷ Ran ∷ Ran ∷ ordered_with [] [] ∷ Missed (line_addr 1025) Read ∷ Idle ∷ Idle ∷ Ran ∷
    Idle ∷ Idle ∷ Ran ∷ Stalled ∷ Idle ∷ served_with [] [] ∷ Blocked Locked (hart_id 3) ∷ Idle ∷
    Missed (line_addr 1024) Write ∷ Ran ∷ Ran ∷ ordered_with [] [] ∷ served_with [] [] ∷ Stalled ∷
    Missed (line_addr 1024) Write ∷ served_with [] [] ∷ ordered_with [] [] ∷ ordered_with [] [] ∷ Ran ∷ Idle ∷ Ran ∷
    Idle ∷ Blocked Locked (hart_id 3) ∷ Ran ∷ Blocked Locked (hart_id 3) ∷ Ran ∷ Idle ∷ served_with [] [] ∷ Ran ∷
    Idle ∷ served_with [] [] ∷ Missed (line_addr 1025) Write ∷ Ran ∷ Idle ∷ Idle ∷ Idle ∷ Stalled ∷ Ran ∷ Idle ∷ Idle ∷
    Ran ∷ Idle ∷ Missed (line_addr 1025) Read ∷ Idle ∷ ordered_with [] [] ∷ Stalled ∷ Missed (line_addr 1025) Read ∷
    Stalled ∷ served_with [] [] ∷ ordered_with [] [] ∷ Ran ∷ Ran ∷ Idle ∷ []

outcomes : outcomes_from first events ≡ expected
unfolding computing
outcomes = refl

abbrev last : Ending
last = record {
  harts =
      record {
        section = None;
        armed = None;
        last_lr = None;
        cache = (way 1025 O false false ∷ []) ∷ [];
        raised = (Some (request 0 1025 Write None));
        held_line = None;
        mail = [];
        told = [];
        upstream = [];
        fallback = false;
        tries = 0;
        clock = 0;
        seen = 0;
        attempt = None;
        predictor = record { counters = (patched (replicate 64 2) ([])); watch = None };
      } ∷ record {
        section = None;
        armed = None;
        last_lr = None;
        cache = (way 1025 S false false ∷ []) ∷ [];
        raised = None;
        held_line = None;
        mail = [];
        told = [];
        upstream = [];
        fallback = false;
        tries = 0;
        clock = 0;
        seen = 0;
        attempt = None;
        predictor = record { counters = (patched (replicate 64 2) ((4, 0) ∷ [])); watch = None };
      } ∷ record {
        section = None;
        armed = None;
        last_lr = None;
        cache = (way 1025 S false false ∷ way 1024 M false false ∷ []) ∷ [];
        raised = None;
        held_line = (Some 1025);
        mail = [];
        told = [];
        upstream = [];
        fallback = false;
        tries = 1;
        clock = 0;
        seen = 0;
        attempt = None;
        predictor = record { counters = (patched (replicate 64 2) ([])); watch = None };
      } ∷ record {
        section = None;
        armed = None;
        last_lr = None;
        cache = ([]) ∷ [];
        raised = None;
        held_line = None;
        mail = [];
        told = [];
        upstream = [];
        fallback = false;
        tries = 1;
        clock = 0;
        seen = 0;
        attempt = None;
        predictor = record { counters = (patched (replicate 64 2) ([])); watch = None };
      } ∷ [];
  order = (request 3 1025 Read None) ∷ [];
  pcs = 131116 ∷ 131108 ∷ 131096 ∷ 131096 ∷ [];
  registers =
      (0 ∷ 0 ∷ 65792 ∷ 0 ∷ 0 ∷ 65536 ∷ 1 ∷ 65600 ∷ 0 ∷ 2 ∷ 0 ∷ 4 ∷ 0 ∷ 0 ∷ 1 ∷ 0 ∷ 0 ∷ 0 ∷ 0 ∷ 0 ∷ 0 ∷
      0 ∷ 0 ∷ 0 ∷ 0 ∷ 0 ∷ 0 ∷ 0 ∷ 0 ∷ 0 ∷ 0 ∷ 0 ∷ []) ∷
      (0 ∷ 0 ∷ 256 ∷ 0 ∷ 0 ∷ 65536 ∷ 1 ∷ 65600 ∷ 0 ∷ 2 ∷ 1 ∷ 4 ∷ 0 ∷ 0 ∷ 1 ∷ 0 ∷ 0 ∷ 0 ∷ 0 ∷ 0 ∷ 0 ∷
      0 ∷ 0 ∷ 0 ∷ 0 ∷ 0 ∷ 0 ∷ 0 ∷ 0 ∷ 0 ∷ 0 ∷ 0 ∷ []) ∷
      (0 ∷ 0 ∷ 4294902016 ∷ 0 ∷ 0 ∷ 65536 ∷ 1 ∷ 0 ∷ 1 ∷ 2 ∷ 2 ∷ 4 ∷ 0 ∷ 0 ∷ 1 ∷ 0 ∷ 0 ∷ 0 ∷ 0 ∷ 0 ∷
      0 ∷ 0 ∷ 0 ∷ 0 ∷ 0 ∷ 0 ∷ 0 ∷ 0 ∷ 0 ∷ 0 ∷ 0 ∷ 0 ∷ []) ∷
      (0 ∷ 0 ∷ 4294836480 ∷ 0 ∷ 0 ∷ 65536 ∷ 1 ∷ 0 ∷ 1 ∷ 2 ∷ 3 ∷ 4 ∷ 0 ∷ 0 ∷ 1 ∷ 0 ∷ 0 ∷ 0 ∷ 0 ∷ 0 ∷
      0 ∷ 0 ∷ 0 ∷ 0 ∷ 0 ∷ 0 ∷ 0 ∷ 0 ∷ 0 ∷ 0 ∷ 0 ∷ 0 ∷ []) ∷
      [];
  bytes = patched (replicate 256 0) ((0, 1) ∷ (124, 2) ∷ []);
}

ending : ending_of (state_after first events) ≡ last
unfolding computing
ending = refl
