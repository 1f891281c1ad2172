-- 4 harts in lock removal, 300 random events over LR and SC: 8 of Armed, 8 of LetGo
use Rattle.std.proofs.Common.{◌≡◌, ℕ, true, false, List, [], ◌∷◌, Some, None, replicate, refl}
use Rattle.el_base.specs.HartId.{hart_id}
use Rattle.el_base.specs.LineAddr.{line_addr}
use Rattle.el_base.specs.declared.config.Config.{Config}
use Rattle.el_base.specs.declared.config.Mode.TheVariants.{Plain, Sle, Tlr}
use Rattle.el_base.specs.declared.events.Event.{Event}
use Rattle.el_base.specs.declared.events.Kind.TheVariants.{Step, Order, Serve, Deliver}
use Rattle.el_base.specs.declared.outcomes.Cause.TheVariants.{Room, Lines, Long, Call, Mixed}
use Rattle.el_base.specs.declared.outcomes.Need.TheVariants.{Read, Write}
use Rattle.el_base.specs.declared.outcomes.Outcome.{Outcome}
use Rattle.el_base.specs.declared.outcomes.Outcome.TheVariants.{Idle, Stalled, Missed, Ran, Began, Buffered, Committed}
use Rattle.el_base.specs.declared.outcomes.Outcome.TheVariants.{RolledBack, Blocked}
use Rattle.el_base.specs.declared.outcomes.Outcome.TheVariants.{Delivered, Armed, LetGo}
use Rattle.el_base.specs.declared.outcomes.Why.TheVariants.{Behind, Retained, Locked}
use Rattle.computed_runs.proofs.Computing.{computing}
use Rattle.computed_runs.proofs.Given.{Ending, armed, ending_of, event, first_state, lost, ordered_with, patched}
use Rattle.computed_runs.proofs.Given.{request, section, served_with}
use Rattle.computed_runs.proofs.Given.{stamp, watch, way}
use Rattle.el_model.specs.Next.{outcomes_from, state_after}
use Rattle.el_model.specs.State.{Hart, ModelState}
use Rattle.mail.specs.Mailbox.{Marker, Probe}
use Rattle.moesi.specs.declared.letter.Letter.TheVariants.{M, O, E, S}

abbrev config : Config
config = record {
  harts = 4;
  mode = Tlr;
  sets = 2;
  ways = 3;
  lines = 3;
  long = 4;
  steps = 300;
}

abbrev words : List ℕ
words =
    66231 ∷ 1049363 ∷ 2098323 ∷ 67273619 ∷ 268674095 ∷ 365667 ∷ 75671043 ∷ 144876067 ∷ 173571 ∷ 237603 ∷ 67273619 ∷
    268674095 ∷ 268674095 ∷ 412329391 ∷ 268609199 ∷ 267386895 ∷ 237603 ∷ 4238340207 ∷ []

abbrev first : ModelState
first = first_state config 65536 192 131072 words

abbrev events : List Event
events =
    event Step 1 ∷ event Order 1 ∷ event Deliver 1 ∷ event Step 0 ∷ event Order 1 ∷ event Step 3 ∷ event Order 3 ∷
    event Order 3 ∷ event Step 2 ∷ event Step 1 ∷ event Step 3 ∷ event Order 3 ∷ event Order 3 ∷ event Order 0 ∷
    event Deliver 2 ∷ event Step 2 ∷ event Serve 3 ∷ event Step 0 ∷ event Step 1 ∷ event Step 0 ∷ event Deliver 2 ∷
    event Step 1 ∷ event Order 0 ∷ event Step 2 ∷ event Order 1 ∷ event Step 3 ∷ event Order 2 ∷ event Step 3 ∷
    event Order 1 ∷ event Step 1 ∷ event Serve 0 ∷ event Deliver 1 ∷ event Order 3 ∷ event Step 0 ∷ event Step 2 ∷
    event Order 1 ∷ event Order 0 ∷ event Serve 1 ∷ event Serve 0 ∷ event Serve 2 ∷ event Step 2 ∷ event Step 3 ∷
    event Deliver 1 ∷ event Order 2 ∷ event Serve 2 ∷ event Step 1 ∷ event Step 1 ∷ event Serve 0 ∷ event Serve 1 ∷
    event Order 3 ∷ event Order 2 ∷ event Serve 0 ∷ event Order 2 ∷ event Deliver 1 ∷ event Serve 3 ∷ event Deliver 2 ∷
    event Step 1 ∷ event Deliver 1 ∷ event Step 0 ∷ event Deliver 3 ∷ event Step 1 ∷ event Deliver 0 ∷ event Serve 0 ∷
    event Serve 2 ∷ event Order 1 ∷ event Order 2 ∷ event Step 2 ∷ event Order 0 ∷ event Order 2 ∷ event Step 2 ∷
    event Step 2 ∷ event Step 2 ∷ event Order 2 ∷ event Serve 2 ∷ event Deliver 2 ∷ event Deliver 3 ∷ event Serve 1 ∷
    event Deliver 1 ∷ event Serve 2 ∷ event Serve 3 ∷ event Step 1 ∷ event Step 1 ∷ event Deliver 0 ∷ event Order 1 ∷
    event Serve 2 ∷ event Deliver 3 ∷ event Serve 0 ∷ event Serve 0 ∷ event Serve 1 ∷ event Step 3 ∷ event Order 1 ∷
    event Step 3 ∷ event Step 1 ∷ event Step 2 ∷ event Serve 1 ∷ event Deliver 3 ∷ event Deliver 0 ∷ event Serve 3 ∷
    event Step 2 ∷ event Step 0 ∷ event Serve 0 ∷ event Step 1 ∷ event Step 3 ∷ event Deliver 2 ∷ event Step 3 ∷
    event Order 0 ∷ event Order 2 ∷ event Step 0 ∷ event Step 2 ∷ event Step 0 ∷ event Serve 0 ∷ event Deliver 2 ∷
    event Serve 0 ∷ event Step 0 ∷ event Order 1 ∷ event Deliver 3 ∷ event Order 0 ∷ event Step 0 ∷ event Order 3 ∷
    event Order 0 ∷ event Serve 1 ∷ event Step 1 ∷ event Serve 2 ∷ event Serve 0 ∷ event Deliver 0 ∷ event Serve 3 ∷
    event Order 1 ∷ event Deliver 0 ∷ event Deliver 1 ∷ event Step 2 ∷ event Order 2 ∷ event Step 1 ∷ event Step 2 ∷
    event Deliver 2 ∷ event Step 3 ∷ event Order 2 ∷ event Serve 0 ∷ event Step 1 ∷ event Serve 3 ∷ event Step 0 ∷
    event Deliver 3 ∷ event Serve 0 ∷ event Serve 2 ∷ event Order 0 ∷ event Serve 0 ∷ event Order 1 ∷ event Deliver 0 ∷
    event Step 3 ∷ event Deliver 1 ∷ event Order 3 ∷ event Step 0 ∷ event Step 0 ∷ event Order 2 ∷ event Step 2 ∷
    event Order 0 ∷ event Step 2 ∷ event Step 2 ∷ event Serve 3 ∷ event Deliver 0 ∷ event Serve 3 ∷ event Step 1 ∷
    event Deliver 0 ∷ event Serve 0 ∷ event Deliver 3 ∷ event Order 1 ∷ event Order 3 ∷ event Step 3 ∷ event Step 3 ∷
    event Serve 0 ∷ event Step 0 ∷ event Deliver 2 ∷ event Order 3 ∷ event Step 2 ∷ event Serve 3 ∷ event Serve 0 ∷
    event Deliver 0 ∷ event Serve 3 ∷ event Serve 1 ∷ event Deliver 1 ∷ event Step 2 ∷ event Deliver 3 ∷
    event Deliver 3 ∷ event Step 0 ∷ event Step 0 ∷ event Order 0 ∷ event Deliver 1 ∷ event Step 2 ∷ event Deliver 0 ∷
    event Serve 0 ∷ event Order 2 ∷ event Serve 1 ∷ event Serve 3 ∷ event Deliver 2 ∷ event Serve 1 ∷ event Order 1 ∷
    event Serve 2 ∷ event Deliver 3 ∷ event Deliver 1 ∷ event Step 3 ∷ event Serve 0 ∷ event Serve 0 ∷
    event Deliver 0 ∷ event Order 1 ∷ event Step 1 ∷ event Order 0 ∷ event Deliver 3 ∷ event Serve 0 ∷
    event Deliver 1 ∷ event Step 1 ∷ event Serve 0 ∷ event Serve 3 ∷ event Serve 3 ∷ event Serve 2 ∷ event Serve 0 ∷
    event Serve 0 ∷ event Serve 2 ∷ event Serve 2 ∷ event Step 3 ∷ event Serve 0 ∷ event Order 2 ∷ event Step 1 ∷
    event Serve 0 ∷ event Step 0 ∷ event Deliver 0 ∷ event Order 3 ∷ event Step 3 ∷ event Serve 2 ∷ event Order 2 ∷
    event Serve 1 ∷ event Step 2 ∷ event Step 3 ∷ event Order 1 ∷ event Step 3 ∷ event Serve 0 ∷ event Serve 1 ∷
    event Step 2 ∷ event Deliver 0 ∷ event Step 0 ∷ event Order 1 ∷ event Order 3 ∷ event Step 0 ∷ event Order 0 ∷
    event Serve 0 ∷ event Step 2 ∷ event Serve 3 ∷ event Deliver 0 ∷ event Deliver 3 ∷ event Serve 3 ∷ event Step 1 ∷
    event Step 0 ∷ event Step 1 ∷ event Serve 0 ∷ event Serve 3 ∷ event Step 1 ∷ event Step 2 ∷ event Serve 0 ∷
    event Step 1 ∷ event Step 0 ∷ event Step 3 ∷ event Step 2 ∷ event Deliver 0 ∷ event Deliver 1 ∷ event Step 1 ∷
    event Order 1 ∷ event Deliver 1 ∷ event Step 3 ∷ event Serve 0 ∷ event Order 1 ∷ event Serve 3 ∷ event Order 2 ∷
    event Step 0 ∷ event Deliver 0 ∷ event Deliver 3 ∷ event Deliver 2 ∷ event Order 3 ∷ event Step 2 ∷ event Step 3 ∷
    event Serve 1 ∷ event Step 0 ∷ event Serve 1 ∷ event Step 3 ∷ event Step 0 ∷ event Order 1 ∷ event Order 1 ∷
    event Deliver 3 ∷ event Deliver 1 ∷ event Order 2 ∷ event Step 1 ∷ event Order 0 ∷ event Serve 2 ∷
    event Deliver 3 ∷ event Serve 0 ∷ event Step 1 ∷ event Step 2 ∷ event Deliver 0 ∷ event Serve 2 ∷ event Step 2 ∷
    event Deliver 0 ∷ event Order 1 ∷ event Serve 2 ∷ []

abbrev expected : List Outcome
expected =
    Ran ∷ Idle ∷ Idle ∷ Ran ∷ Idle ∷ Ran ∷ Idle ∷ Idle ∷ Ran ∷ Ran ∷ Ran ∷ Idle ∷ Idle ∷ Idle ∷ Idle ∷ Ran ∷ Idle ∷
    Ran ∷ Ran ∷ Ran ∷ Idle ∷ Ran ∷ Idle ∷ Ran ∷ Idle ∷ Ran ∷ Idle ∷ Ran ∷ Idle ∷ Missed (line_addr 1025) Read ∷ Idle ∷
    Idle ∷ Idle ∷ Ran ∷ Ran ∷ ordered_with [] [] ∷ Idle ∷ served_with [] [] ∷ Idle ∷ Idle ∷
    Missed (line_addr 1025) Read ∷ Missed (line_addr 1025) Read ∷ Idle ∷ ordered_with [] [] ∷
    Blocked Locked (hart_id 1) ∷ Armed ∷ Buffered ∷ Idle ∷ Idle ∷ ordered_with [] [] ∷ Idle ∷ Idle ∷ Idle ∷ Idle ∷
    Blocked Behind (hart_id 2) ∷ Idle ∷ LetGo 2 ∷ Idle ∷ Missed (line_addr 1025) Read ∷ Delivered (lost []) ∷
    Missed (line_addr 1026) Write ∷ Idle ∷ Idle ∷ served_with [] [] ∷ ordered_with [] [] ∷ Idle ∷ Armed ∷
    ordered_with [] [] ∷ Idle ∷ Buffered ∷ LetGo 2 ∷ Missed (line_addr 1026) Write ∷ ordered_with [] [] ∷
    Blocked Behind (hart_id 1) ∷ Delivered (lost []) ∷ Idle ∷ served_with [] [] ∷ Idle ∷ Blocked Locked (hart_id 1) ∷
    served_with [] [] ∷ Ran ∷ Missed (line_addr 1024) Read ∷ Delivered (lost []) ∷ ordered_with [] [] ∷
    served_with [] [] ∷ Delivered (lost []) ∷ Blocked Locked (hart_id 3) ∷ Blocked Locked (hart_id 3) ∷
    served_with [] [] ∷ Armed ∷ Idle ∷ Buffered ∷ Ran ∷ Ran ∷ Idle ∷ Idle ∷ Idle ∷ Idle ∷
    Missed (line_addr 1024) Read ∷ Stalled ∷ served_with [] [] ∷ Missed (line_addr 1025) Write ∷ LetGo 2 ∷ Idle ∷
    Missed (line_addr 1026) Write ∷ Idle ∷ ordered_with [] [] ∷ Armed ∷ Stalled ∷ Buffered ∷ Idle ∷ Idle ∷ Idle ∷
    LetGo 2 ∷ ordered_with [] [] ∷ Idle ∷ Idle ∷ Missed (line_addr 1026) Write ∷ ordered_with [] [] ∷
    ordered_with [] [] ∷ served_with [] [] ∷ Ran ∷ served_with [] [] ∷ Blocked Behind (hart_id 3) ∷
    Delivered (lost []) ∷ served_with [] [] ∷ Idle ∷ Idle ∷ Idle ∷ Ran ∷ Idle ∷ Ran ∷ Missed (line_addr 1025) Write ∷
    Idle ∷ Ran ∷ ordered_with [] [] ∷ served_with [] [] ∷ Ran ∷ Idle ∷ Ran ∷ Idle ∷ Idle ∷ served_with [] [] ∷ Idle ∷
    Idle ∷ Idle ∷ Idle ∷ Missed (line_addr 1024) Read ∷ Idle ∷ ordered_with [] [] ∷ Missed (line_addr 1024) Read ∷
    Stalled ∷ Idle ∷ Ran ∷ ordered_with [] [] ∷ Ran ∷ Armed ∷ served_with [] [] ∷ Delivered (lost []) ∷ Idle ∷
    Missed (line_addr 1025) Read ∷ Idle ∷ Blocked Locked (hart_id 3) ∷ Delivered (lost []) ∷ ordered_with [] [] ∷
    Idle ∷ Ran ∷ Missed (line_addr 1025) Write ∷ served_with [] [] ∷ Ran ∷ Idle ∷ ordered_with [] [] ∷ LetGo 1 ∷
    Blocked Behind (hart_id 1) ∷ Idle ∷ Idle ∷ Blocked Behind (hart_id 1) ∷ served_with [] [] ∷ Idle ∷ Ran ∷
    Delivered (lost []) ∷ Idle ∷ Missed (line_addr 1025) Write ∷ Stalled ∷ ordered_with [] [] ∷ Delivered (lost []) ∷
    Missed (line_addr 1025) Write ∷ Delivered (lost []) ∷ Blocked Behind (hart_id 3) ∷ ordered_with [] [] ∷ Idle ∷
    Blocked Locked (hart_id 1) ∷ Delivered (lost []) ∷ Idle ∷ Idle ∷ Blocked Behind (hart_id 3) ∷ Delivered (lost []) ∷
    Delivered (lost []) ∷ Stalled ∷ Blocked Behind (hart_id 3) ∷ Blocked Behind (hart_id 3) ∷ Delivered (lost []) ∷
    Idle ∷ Ran ∷ Idle ∷ Delivered (lost []) ∷ Blocked Behind (hart_id 3) ∷ Delivered (lost []) ∷
    Missed (line_addr 1025) Write ∷ Blocked Behind (hart_id 3) ∷ served_with [] [] ∷ Idle ∷
    Blocked Behind (hart_id 0) ∷ Blocked Locked (hart_id 3) ∷ Blocked Locked (hart_id 3) ∷ Blocked Behind (hart_id 0) ∷
    Blocked Behind (hart_id 0) ∷ Ran ∷ served_with [] [] ∷ Idle ∷ Stalled ∷ Idle ∷ Ran ∷ Idle ∷ Idle ∷ Ran ∷
    served_with [] [] ∷ Idle ∷ Idle ∷ Ran ∷ Missed (line_addr 1025) Read ∷ ordered_with [] [] ∷ Stalled ∷ Idle ∷
    served_with [] [] ∷ Armed ∷ Idle ∷ Ran ∷ Idle ∷ ordered_with [] [] ∷ Missed (line_addr 1025) Read ∷
    ordered_with [] [] ∷ Blocked Behind (hart_id 3) ∷ Buffered ∷ Blocked Locked (hart_id 1) ∷ Delivered (lost []) ∷
    Delivered (lost []) ∷ Blocked Locked (hart_id 1) ∷ Ran ∷ Stalled ∷ Armed ∷ Blocked Behind (hart_id 3) ∷
    served_with [] [] ∷ Buffered ∷ LetGo 2 ∷ Blocked Locked (hart_id 3) ∷ LetGo 2 ∷ Stalled ∷ Armed ∷
    Missed (line_addr 1025) Write ∷ Idle ∷ Idle ∷ Missed (line_addr 1025) Write ∷ ordered_with [] [] ∷
    Delivered (lost []) ∷ LetGo 1 ∷ served_with [] [] ∷ Idle ∷ Idle ∷ ordered_with [] [] ∷ Ran ∷ Delivered (lost []) ∷
    Idle ∷ Delivered (lost []) ∷ Idle ∷ Stalled ∷ Ran ∷ served_with [] [] ∷ Missed (line_addr 1025) Read ∷ Idle ∷
    Missed (line_addr 1025) Write ∷ Stalled ∷ Idle ∷ Idle ∷ Idle ∷ Delivered (lost []) ∷ Idle ∷ Ran ∷
    ordered_with [] [] ∷ served_with [] [] ∷ Idle ∷ Blocked Locked (hart_id 2) ∷ Ran ∷ Ran ∷ Delivered (lost []) ∷
    Idle ∷ Ran ∷ Idle ∷ Idle ∷ Idle ∷ []

outcomes : outcomes_from first events ≡ expected
unfolding computing
outcomes = refl

abbrev last : Ending
last = record {
  harts =
      record {
        section = None;
        armed = None;
        last_lr = (Some 131116);
        cache = (way 1024 S false false ∷ way 1026 M false false ∷ []) ∷ ([]) ∷ [];
        raised = None;
        held_line = None;
        mail = [];
        told = [];
        upstream = 2 ∷ [];
        fallback = false;
        tries = 0;
        clock = 0;
        seen = 0;
        attempt = None;
        predictor = record { counters = (patched (replicate 64 2) ([])); watch = None };
      } ∷ record {
        section = None;
        armed = None;
        last_lr = (Some 131128);
        cache = (way 1024 S false false ∷ []) ∷ ([]) ∷ [];
        raised = None;
        held_line = None;
        mail = [];
        told = [];
        upstream = [];
        fallback = false;
        tries = 0;
        clock = 0;
        seen = 0;
        attempt = None;
        predictor = record { counters = (patched (replicate 64 2) ([])); watch = None };
      } ∷ record {
        section = None;
        armed = None;
        last_lr = (Some 131128);
        cache = (way 1024 S false false ∷ []) ∷ (way 1025 M false false ∷ []) ∷ [];
        raised = None;
        held_line = None;
        mail = Probe 0 ∷ [];
        told = [];
        upstream = [];
        fallback = false;
        tries = 0;
        clock = 0;
        seen = 0;
        attempt = None;
        predictor = record { counters = (patched (replicate 64 2) ([])); watch = None };
      } ∷ record {
        section = None;
        armed = None;
        last_lr = (Some 131120);
        cache = (way 1024 S false false ∷ []) ∷ ([]) ∷ [];
        raised = (Some (request 3 1025 Write None));
        held_line = None;
        mail = [];
        told = [];
        upstream = [];
        fallback = false;
        tries = 0;
        clock = 0;
        seen = 0;
        attempt = None;
        predictor = record { counters = (patched (replicate 64 2) ([])); watch = None };
      } ∷ [];
  order = (request 0 1025 Read None) ∷ [];
  pcs = 131120 ∷ 131084 ∷ 131084 ∷ 131124 ∷ [];
  registers =
      (0 ∷ 0 ∷ 65728 ∷ 0 ∷ 0 ∷ 65536 ∷ 1 ∷ 65600 ∷ 0 ∷ 2 ∷ 0 ∷ 4 ∷ 0 ∷ 0 ∷ 0 ∷ 0 ∷ 0 ∷ 0 ∷ 0 ∷ 0 ∷ 0 ∷
      0 ∷ 0 ∷ 0 ∷ 0 ∷ 0 ∷ 0 ∷ 0 ∷ 0 ∷ 0 ∷ 0 ∷ 0 ∷ []) ∷
      (0 ∷ 0 ∷ 192 ∷ 0 ∷ 0 ∷ 65536 ∷ 1 ∷ 65600 ∷ 0 ∷ 2 ∷ 1 ∷ 1 ∷ 0 ∷ 0 ∷ 0 ∷ 0 ∷ 0 ∷ 0 ∷ 0 ∷ 0 ∷ 0 ∷
      0 ∷ 0 ∷ 0 ∷ 0 ∷ 0 ∷ 0 ∷ 0 ∷ 0 ∷ 0 ∷ 0 ∷ 0 ∷ []) ∷
      (0 ∷ 0 ∷ 4294901952 ∷ 0 ∷ 0 ∷ 65536 ∷ 1 ∷ 65600 ∷ 0 ∷ 2 ∷ 2 ∷ 1 ∷ 0 ∷ 0 ∷ 0 ∷ 0 ∷ 0 ∷ 0 ∷ 0 ∷
      0 ∷ 0 ∷ 0 ∷ 0 ∷ 0 ∷ 0 ∷ 0 ∷ 0 ∷ 0 ∷ 0 ∷ 0 ∷ 0 ∷ 0 ∷ []) ∷
      (0 ∷ 0 ∷ 4294836416 ∷ 0 ∷ 0 ∷ 65536 ∷ 1 ∷ 65600 ∷ 0 ∷ 2 ∷ 3 ∷ 4 ∷ 0 ∷ 0 ∷ 0 ∷ 0 ∷ 0 ∷ 0 ∷ 0 ∷
      0 ∷ 0 ∷ 0 ∷ 0 ∷ 0 ∷ 0 ∷ 0 ∷ 0 ∷ 0 ∷ 0 ∷ 0 ∷ 0 ∷ 0 ∷ []) ∷
      [];
  bytes = patched (replicate 192 0) ([]);
}

ending : ending_of (state_after first events) ≡ last
unfolding computing
ending = refl
