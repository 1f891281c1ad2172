-- 4 harts in lock removal, 140 random events: a rollback by Room, a section lost as a request takes its place, a
-- section lost as the next head is faced, a serve blocked as Behind, a serve blocked as Locked, a serve blocked as
-- Retained, messages
use Rattle.std.proofs.Common.{◌≡◌, ℕ, true, false, List, [], ◌∷◌, Some, None, replicate, refl}
use Rattle.el_base.specs.HartId.{hart_id}
use Rattle.el_base.specs.LineAddr.{line_addr}
use Rattle.el_base.specs.declared.config.Config.{Config}
use Rattle.el_base.specs.declared.config.Mode.TheVariants.{Plain, Sle, Tlr}
use Rattle.el_base.specs.declared.events.Event.{Event}
use Rattle.el_base.specs.declared.events.Kind.TheVariants.{Step, Order, Serve, Deliver}
use Rattle.el_base.specs.declared.outcomes.Cause.TheVariants.{Room, Lines, Long, Call, Mixed}
use Rattle.el_base.specs.declared.outcomes.Need.TheVariants.{Read, Write}
use Rattle.el_base.specs.declared.outcomes.Outcome.{Outcome}
use Rattle.el_base.specs.declared.outcomes.Outcome.TheVariants.{Idle, Stalled, Missed, Ran, Began, Buffered, Committed}
use Rattle.el_base.specs.declared.outcomes.Outcome.TheVariants.{RolledBack, Blocked}
use Rattle.el_base.specs.declared.outcomes.Outcome.TheVariants.{Delivered, Armed, LetGo}
use Rattle.el_base.specs.declared.outcomes.Why.TheVariants.{Behind, Retained, Locked}
use Rattle.computed_runs.proofs.Computing.{computing}
use Rattle.computed_runs.proofs.Given.{Ending, armed, ending_of, event, first_state, lost, ordered_with, patched}
use Rattle.computed_runs.proofs.Given.{request, section, served_with}
use Rattle.computed_runs.proofs.Given.{stamp, watch, way}
use Rattle.el_model.specs.Next.{outcomes_from, state_after}
use Rattle.el_model.specs.State.{Hart, ModelState}
use Rattle.mail.specs.Mailbox.{Marker, Probe}
use Rattle.moesi.specs.declared.letter.Letter.TheVariants.{M, O, E, S}

abbrev config : Config
config = record {
  harts = 4;
  mode = Tlr;
  sets = 1;
  ways = 2;
  lines = 3;
  long = 10;
  steps = 140;
}

abbrev words : List ℕ
words =
    66231 ∷ 1049363 ∷ 2098323 ∷ 67273619 ∷ 140747823 ∷ 6464547 ∷ 235056675 ∷ 237603 ∷ 67273619 ∷ 6620259 ∷ 140747823 ∷
    211984931 ∷ 111324707 ∷ 237603 ∷ 67273619 ∷ 328803 ∷ 140747823 ∷ 134391299 ∷ 6624355 ∷ 197305859 ∷ 138585603 ∷
    237603 ∷ 4217368687 ∷ []

abbrev first : ModelState
first = first_state config 65536 256 131072 words

abbrev events : List Event
events =
    event Step 1 ∷ event Step 2 ∷ event Step 0 ∷ event Step 2 ∷ event Step 0 ∷ event Step 3 ∷ event Order 2 ∷
    event Serve 2 ∷ event Serve 3 ∷ event Serve 0 ∷ event Step 3 ∷ event Step 3 ∷ event Step 2 ∷ event Step 0 ∷
    event Order 0 ∷ event Serve 0 ∷ event Serve 2 ∷ event Step 0 ∷ event Step 2 ∷ event Order 0 ∷ event Serve 1 ∷
    event Step 1 ∷ event Step 1 ∷ event Deliver 2 ∷ event Step 0 ∷ event Step 1 ∷ event Step 2 ∷ event Step 1 ∷
    event Step 3 ∷ event Step 3 ∷ event Order 3 ∷ event Order 1 ∷ event Serve 1 ∷ event Order 2 ∷ event Step 3 ∷
    event Order 0 ∷ event Serve 2 ∷ event Serve 2 ∷ event Deliver 1 ∷ event Serve 3 ∷ event Deliver 2 ∷
    event Deliver 0 ∷ event Deliver 1 ∷ event Serve 1 ∷ event Serve 0 ∷ event Step 3 ∷ event Step 0 ∷ event Step 1 ∷
    event Serve 0 ∷ event Step 3 ∷ event Serve 3 ∷ event Order 3 ∷ event Deliver 3 ∷ event Serve 0 ∷ event Step 1 ∷
    event Serve 3 ∷ event Deliver 2 ∷ event Order 1 ∷ event Order 1 ∷ event Serve 1 ∷ event Order 1 ∷ event Order 0 ∷
    event Serve 2 ∷ event Serve 1 ∷ event Deliver 1 ∷ event Deliver 3 ∷ event Step 1 ∷ event Step 0 ∷ event Step 1 ∷
    event Serve 2 ∷ event Step 3 ∷ event Order 1 ∷ event Step 2 ∷ event Step 2 ∷ event Deliver 3 ∷ event Order 2 ∷
    event Serve 0 ∷ event Step 1 ∷ event Step 0 ∷ event Deliver 2 ∷ event Step 0 ∷ event Deliver 1 ∷ event Step 3 ∷
    event Serve 3 ∷ event Order 0 ∷ event Deliver 0 ∷ event Deliver 2 ∷ event Serve 2 ∷ event Order 1 ∷ event Serve 0 ∷
    event Serve 0 ∷ event Serve 1 ∷ event Step 3 ∷ event Step 1 ∷ event Step 1 ∷ event Deliver 2 ∷ event Serve 3 ∷
    event Order 3 ∷ event Deliver 3 ∷ event Deliver 0 ∷ event Step 0 ∷ event Serve 2 ∷ event Deliver 3 ∷
    event Serve 0 ∷ event Deliver 2 ∷ event Step 0 ∷ event Step 2 ∷ event Order 3 ∷ event Step 0 ∷ event Order 3 ∷
    event Serve 2 ∷ event Order 2 ∷ event Step 2 ∷ event Step 0 ∷ event Deliver 3 ∷ event Deliver 0 ∷ event Step 1 ∷
    event Step 1 ∷ event Step 1 ∷ event Serve 1 ∷ event Deliver 1 ∷ event Deliver 3 ∷ event Step 3 ∷ event Serve 1 ∷
    event Serve 0 ∷ event Serve 3 ∷ event Order 0 ∷ event Serve 0 ∷ event Serve 3 ∷ event Serve 0 ∷ event Order 2 ∷
    event Deliver 3 ∷ event Serve 0 ∷ event Serve 0 ∷ event Step 3 ∷ event Step 2 ∷ event Serve 0 ∷ event Serve 0 ∷
    event Order 1 ∷ event Serve 3 ∷ []

abbrev expected : List Outcome
expected =
    Ran ∷ Ran ∷ Ran ∷ Ran ∷ Ran ∷ Ran ∷ Idle ∷ Idle ∷ Idle ∷ Idle ∷ Ran ∷ Ran ∷ Ran ∷ Ran ∷ Idle ∷ Idle ∷ Idle ∷ Ran ∷
    Ran ∷ Idle ∷ Idle ∷ Ran ∷ Ran ∷ Idle ∷ Missed (line_addr 1025) Read ∷ Ran ∷ Missed (line_addr 1025) Read ∷
    Missed (line_addr 1025) Read ∷ Ran ∷ Missed (line_addr 1025) Read ∷ ordered_with [] [] ∷ ordered_with [] [] ∷
    Blocked Behind (hart_id 3) ∷ ordered_with [] [] ∷ Stalled ∷ ordered_with [] [] ∷ Blocked Behind (hart_id 3) ∷
    Blocked Behind (hart_id 3) ∷ Delivered (lost []) ∷ served_with [] [] ∷ Delivered (lost []) ∷ Delivered (lost []) ∷
    Delivered (lost []) ∷ Blocked Locked (hart_id 3) ∷ Blocked Behind (hart_id 1) ∷ Began ∷ Stalled ∷ Stalled ∷
    Blocked Behind (hart_id 1) ∷ Missed (line_addr 1024) Write ∷ Idle ∷ ordered_with [] [] ∷ Delivered (lost []) ∷
    Blocked Behind (hart_id 1) ∷ Stalled ∷ served_with [] [] ∷ Delivered (lost []) ∷ Idle ∷ Idle ∷ served_with [] [] ∷
    Idle ∷ Idle ∷ Blocked Locked (hart_id 1) ∷ Idle ∷ Delivered (lost []) ∷ Delivered (lost []) ∷ Began ∷ Stalled ∷
    Missed (line_addr 1024) Write ∷ served_with [] [] ∷ Buffered ∷ ordered_with ((3, 1) ∷ []) [] ∷ Began ∷
    Missed (line_addr 1024) Write ∷ Idle ∷ ordered_with [] [] ∷ served_with [] [] ∷ Stalled ∷ Began ∷
    Delivered (lost []) ∷ Missed (line_addr 1024) Write ∷ Delivered (lost []) ∷ Began ∷ Idle ∷ ordered_with [] [] ∷
    Delivered (lost []) ∷ Delivered (lost []) ∷ Blocked Behind (hart_id 1) ∷ Idle ∷ Blocked Behind (hart_id 1) ∷
    Blocked Behind (hart_id 1) ∷ served_with [] [] ∷ Missed (line_addr 1024) Write ∷ Buffered ∷ RolledBack Room ∷
    Delivered (lost []) ∷ Idle ∷ ordered_with [] [] ∷ Delivered (lost []) ∷ Delivered (lost []) ∷ Stalled ∷
    served_with ((2, 0) ∷ []) [] ∷ Idle ∷ served_with [] [] ∷ Delivered (lost []) ∷ Buffered ∷ Began ∷ Idle ∷
    RolledBack Room ∷ Idle ∷ Idle ∷ Idle ∷ Missed (line_addr 1024) Write ∷ Missed (line_addr 1025) Write ∷
    Delivered (lost []) ∷ Delivered (lost []) ∷ Missed (line_addr 1025) Write ∷ Stalled ∷ Stalled ∷ Idle ∷ Idle ∷
    Idle ∷ Stalled ∷ Idle ∷ Idle ∷ served_with [] [] ∷ ordered_with [] [] ∷ Blocked Retained (hart_id 2) ∷ Idle ∷
    Blocked Retained (hart_id 2) ∷ ordered_with ((3, 2) ∷ []) [] ∷ Idle ∷ Blocked Retained (hart_id 2) ∷
    Blocked Retained (hart_id 2) ∷ Missed (line_addr 1025) Read ∷ Stalled ∷ Blocked Retained (hart_id 2) ∷
    Blocked Retained (hart_id 2) ∷ ordered_with [] [] ∷ Idle ∷ []

outcomes : outcomes_from first events ≡ expected
unfolding computing
outcomes = refl

abbrev last : Ending
last = record {
  harts =
      record {
        section = None;
        armed = None;
        last_lr = None;
        cache = (way 1025 S false false ∷ []) ∷ [];
        raised = None;
        held_line = None;
        mail = Marker 2 ∷ Marker 3 ∷ [];
        told = [];
        upstream = [];
        fallback = true;
        tries = 0;
        clock = 1;
        seen = 0;
        attempt = None;
        predictor = record { counters = (patched (replicate 64 2) ([])); watch = None };
      } ∷ record {
        section = None;
        armed = None;
        last_lr = None;
        cache = (way 1025 S false false ∷ []) ∷ [];
        raised = None;
        held_line = None;
        mail = Marker 0 ∷ [];
        told = [];
        upstream = [];
        fallback = true;
        tries = 0;
        clock = 1;
        seen = 0;
        attempt = None;
        predictor = record { counters = (patched (replicate 64 2) ([])); watch = None };
      } ∷ record {
        section = (Some (section 1 65600 0 1));
        armed = None;
        last_lr = None;
        cache = (way 1025 S true false ∷ []) ∷ [];
        raised = None;
        held_line = None;
        mail = [];
        told = [];
        upstream = [];
        fallback = false;
        tries = 0;
        clock = 0;
        seen = 0;
        attempt = (Some (stamp 0 2));
        predictor = record { counters = (patched (replicate 64 2) ([])); watch = None };
      } ∷ record {
        section = None;
        armed = None;
        last_lr = None;
        cache = (way 1024 M false false ∷ way 1025 S false false ∷ []) ∷ [];
        raised = (Some (request 3 1025 Read (Some (stamp 0 3))));
        held_line = None;
        mail = [];
        told = [];
        upstream = [];
        fallback = false;
        tries = 0;
        clock = 0;
        seen = 0;
        attempt = (Some (stamp 0 3));
        predictor = record { counters = (patched (replicate 64 2) ([])); watch = None };
      } ∷ [];
  order = (request 0 1025 Write None) ∷ (request 2 1024 Write (Some (stamp 0 2))) ∷ (request 1 1025 Write None) ∷ [];
  pcs = 131088 ∷ 131088 ∷ 131088 ∷ 131088 ∷ [];
  registers =
      (0 ∷ 0 ∷ 65792 ∷ 0 ∷ 0 ∷ 65536 ∷ 1 ∷ 65600 ∷ 0 ∷ 2 ∷ 0 ∷ 4 ∷ 0 ∷ 0 ∷ 0 ∷ 0 ∷ 0 ∷ 0 ∷ 0 ∷ 0 ∷ 0 ∷
      0 ∷ 0 ∷ 0 ∷ 0 ∷ 0 ∷ 0 ∷ 0 ∷ 0 ∷ 0 ∷ 0 ∷ 0 ∷ []) ∷
      (0 ∷ 0 ∷ 256 ∷ 0 ∷ 0 ∷ 65536 ∷ 1 ∷ 65600 ∷ 0 ∷ 2 ∷ 1 ∷ 4 ∷ 0 ∷ 0 ∷ 0 ∷ 0 ∷ 0 ∷ 0 ∷ 0 ∷ 0 ∷ 0 ∷
      0 ∷ 0 ∷ 0 ∷ 0 ∷ 0 ∷ 0 ∷ 0 ∷ 0 ∷ 0 ∷ 0 ∷ 0 ∷ []) ∷
      (0 ∷ 0 ∷ 4294902016 ∷ 0 ∷ 0 ∷ 65536 ∷ 1 ∷ 65600 ∷ 0 ∷ 2 ∷ 2 ∷ 4 ∷ 0 ∷ 0 ∷ 0 ∷ 0 ∷ 0 ∷ 0 ∷ 0 ∷
      0 ∷ 0 ∷ 0 ∷ 0 ∷ 0 ∷ 0 ∷ 0 ∷ 0 ∷ 0 ∷ 0 ∷ 0 ∷ 0 ∷ 0 ∷ []) ∷
      (0 ∷ 0 ∷ 4294836480 ∷ 0 ∷ 0 ∷ 65536 ∷ 1 ∷ 65600 ∷ 0 ∷ 2 ∷ 3 ∷ 4 ∷ 0 ∷ 0 ∷ 0 ∷ 0 ∷ 0 ∷ 0 ∷ 0 ∷
      0 ∷ 0 ∷ 0 ∷ 0 ∷ 0 ∷ 0 ∷ 0 ∷ 0 ∷ 0 ∷ 0 ∷ 0 ∷ 0 ∷ 0 ∷ []) ∷
      [];
  bytes = patched (replicate 256 0) ([]);
}

ending : ending_of (state_after first events) ≡ last
unfolding computing
ending = refl
