-- 4 harts in lock elision, 300 random events over LR and SC: 3 of Armed, 2 of Served that let harts go
use Rattle.std.proofs.Common.{◌≡◌, ℕ, true, false, List, [], ◌∷◌, Some, None, replicate, refl}
use Rattle.el_base.specs.HartId.{hart_id}
use Rattle.el_base.specs.LineAddr.{line_addr}
use Rattle.el_base.specs.declared.config.Config.{Config}
use Rattle.el_base.specs.declared.config.Mode.TheVariants.{Plain, Sle, Tlr}
use Rattle.el_base.specs.declared.events.Event.{Event}
use Rattle.el_base.specs.declared.events.Kind.TheVariants.{Step, Order, Serve, Deliver}
use Rattle.el_base.specs.declared.outcomes.Cause.TheVariants.{Room, Lines, Long, Call, Mixed}
use Rattle.el_base.specs.declared.outcomes.Need.TheVariants.{Read, Write}
use Rattle.el_base.specs.declared.outcomes.Outcome.{Outcome}
use Rattle.el_base.specs.declared.outcomes.Outcome.TheVariants.{Idle, Stalled, Missed, Ran, Began, Buffered, Committed}
use Rattle.el_base.specs.declared.outcomes.Outcome.TheVariants.{RolledBack, Blocked}
use Rattle.el_base.specs.declared.outcomes.Outcome.TheVariants.{Delivered, Armed, LetGo}
use Rattle.el_base.specs.declared.outcomes.Why.TheVariants.{Behind, Retained, Locked}
use Rattle.computed_runs.proofs.Computing.{computing}
use Rattle.computed_runs.proofs.Given.{Ending, armed, ending_of, event, first_state, lost, ordered_with, patched}
use Rattle.computed_runs.proofs.Given.{request, section, served_with}
use Rattle.computed_runs.proofs.Given.{stamp, watch, way}
use Rattle.el_model.specs.Next.{outcomes_from, state_after}
use Rattle.el_model.specs.State.{Hart, ModelState}
use Rattle.mail.specs.Mailbox.{Marker, Probe}
use Rattle.moesi.specs.declared.letter.Letter.TheVariants.{M, O, E, S}

abbrev config : Config
config = record {
  harts = 4;
  mode = Sle;
  sets = 1;
  ways = 3;
  lines = 2;
  long = 16;
  steps = 300;
}

abbrev words : List ℕ
words =
    66231 ∷ 1049363 ∷ 2098323 ∷ 268608559 ∷ 267363 ∷ 409118127 ∷ 365667 ∷ 115 ∷ 110268067 ∷ 79864867 ∷ 134389807 ∷
    328803 ∷ 268608559 ∷ 1443347 ∷ 1443347 ∷ 1443347 ∷ 1443347 ∷ 1443347 ∷ 1443347 ∷ 1443347 ∷ 412263855 ∷ 172067 ∷
    67273619 ∷ 140747823 ∷ 40021539 ∷ 268609199 ∷ 134391299 ∷ 237603 ∷ 4192202863 ∷ []

abbrev first : ModelState
first = first_state config 65536 192 131072 words

abbrev events : List Event
events =
    event Step 1 ∷ event Step 1 ∷ event Step 3 ∷ event Step 0 ∷ event Deliver 3 ∷ event Step 0 ∷ event Deliver 1 ∷
    event Order 1 ∷ event Step 3 ∷ event Deliver 3 ∷ event Step 3 ∷ event Order 0 ∷ event Deliver 1 ∷ event Step 1 ∷
    event Step 2 ∷ event Step 1 ∷ event Order 1 ∷ event Step 3 ∷ event Order 0 ∷ event Order 3 ∷ event Deliver 3 ∷
    event Serve 1 ∷ event Serve 0 ∷ event Step 0 ∷ event Serve 1 ∷ event Serve 3 ∷ event Step 3 ∷ event Step 0 ∷
    event Step 1 ∷ event Step 1 ∷ event Order 0 ∷ event Serve 0 ∷ event Step 1 ∷ event Serve 2 ∷ event Order 0 ∷
    event Deliver 0 ∷ event Serve 0 ∷ event Step 1 ∷ event Step 1 ∷ event Deliver 2 ∷ event Serve 0 ∷ event Deliver 1 ∷
    event Step 0 ∷ event Serve 0 ∷ event Serve 1 ∷ event Step 2 ∷ event Serve 3 ∷ event Step 3 ∷ event Step 1 ∷
    event Step 2 ∷ event Order 1 ∷ event Step 2 ∷ event Deliver 1 ∷ event Serve 3 ∷ event Order 2 ∷ event Serve 2 ∷
    event Deliver 1 ∷ event Deliver 3 ∷ event Step 1 ∷ event Step 1 ∷ event Deliver 3 ∷ event Order 1 ∷ event Serve 2 ∷
    event Deliver 0 ∷ event Step 1 ∷ event Serve 0 ∷ event Step 0 ∷ event Serve 2 ∷ event Step 2 ∷ event Deliver 3 ∷
    event Serve 1 ∷ event Step 2 ∷ event Step 1 ∷ event Step 0 ∷ event Deliver 1 ∷ event Step 2 ∷ event Step 2 ∷
    event Deliver 2 ∷ event Step 2 ∷ event Deliver 2 ∷ event Order 3 ∷ event Order 3 ∷ event Step 0 ∷ event Step 2 ∷
    event Serve 2 ∷ event Order 3 ∷ event Step 1 ∷ event Serve 1 ∷ event Step 0 ∷ event Step 3 ∷ event Step 3 ∷
    event Step 0 ∷ event Step 1 ∷ event Serve 0 ∷ event Order 2 ∷ event Order 2 ∷ event Serve 0 ∷ event Step 3 ∷
    event Serve 0 ∷ event Step 3 ∷ event Deliver 0 ∷ event Deliver 2 ∷ event Serve 2 ∷ event Order 3 ∷ event Serve 2 ∷
    event Step 1 ∷ event Deliver 0 ∷ event Step 2 ∷ event Step 3 ∷ event Order 0 ∷ event Serve 0 ∷ event Serve 1 ∷
    event Serve 1 ∷ event Deliver 0 ∷ event Order 3 ∷ event Serve 1 ∷ event Serve 2 ∷ event Serve 2 ∷ event Order 1 ∷
    event Serve 0 ∷ event Step 2 ∷ event Order 0 ∷ event Step 2 ∷ event Serve 2 ∷ event Order 1 ∷ event Serve 0 ∷
    event Serve 1 ∷ event Step 2 ∷ event Order 2 ∷ event Serve 2 ∷ event Order 1 ∷ event Step 2 ∷ event Serve 1 ∷
    event Serve 3 ∷ event Serve 1 ∷ event Deliver 1 ∷ event Serve 1 ∷ event Deliver 1 ∷ event Step 3 ∷ event Step 2 ∷
    event Step 2 ∷ event Step 2 ∷ event Step 2 ∷ event Deliver 2 ∷ event Step 3 ∷ event Order 2 ∷ event Step 3 ∷
    event Order 2 ∷ event Serve 2 ∷ event Serve 0 ∷ event Deliver 2 ∷ event Deliver 2 ∷ event Order 3 ∷
    event Deliver 0 ∷ event Serve 3 ∷ event Step 3 ∷ event Step 2 ∷ event Order 0 ∷ event Step 3 ∷ event Serve 1 ∷
    event Order 1 ∷ event Deliver 0 ∷ event Step 2 ∷ event Step 0 ∷ event Step 0 ∷ event Order 3 ∷ event Serve 3 ∷
    event Order 2 ∷ event Step 2 ∷ event Order 0 ∷ event Deliver 2 ∷ event Step 2 ∷ event Step 0 ∷ event Step 3 ∷
    event Step 0 ∷ event Deliver 1 ∷ event Serve 1 ∷ event Deliver 1 ∷ event Step 3 ∷ event Order 0 ∷ event Serve 0 ∷
    event Step 1 ∷ event Step 3 ∷ event Step 0 ∷ event Step 1 ∷ event Step 3 ∷ event Step 2 ∷ event Order 2 ∷
    event Step 2 ∷ event Step 2 ∷ event Serve 2 ∷ event Deliver 0 ∷ event Order 3 ∷ event Serve 2 ∷ event Step 3 ∷
    event Serve 2 ∷ event Deliver 1 ∷ event Order 2 ∷ event Serve 2 ∷ event Deliver 3 ∷ event Order 1 ∷ event Step 0 ∷
    event Order 0 ∷ event Deliver 0 ∷ event Order 2 ∷ event Order 1 ∷ event Step 1 ∷ event Step 3 ∷ event Step 0 ∷
    event Step 2 ∷ event Order 1 ∷ event Serve 0 ∷ event Order 2 ∷ event Serve 1 ∷ event Step 2 ∷ event Deliver 2 ∷
    event Order 3 ∷ event Order 0 ∷ event Order 0 ∷ event Order 3 ∷ event Step 1 ∷ event Step 2 ∷ event Step 2 ∷
    event Step 0 ∷ event Order 0 ∷ event Deliver 3 ∷ event Order 1 ∷ event Step 2 ∷ event Serve 0 ∷ event Step 0 ∷
    event Deliver 3 ∷ event Step 2 ∷ event Serve 3 ∷ event Step 1 ∷ event Serve 0 ∷ event Serve 0 ∷ event Serve 0 ∷
    event Step 3 ∷ event Step 1 ∷ event Step 2 ∷ event Serve 1 ∷ event Serve 0 ∷ event Step 2 ∷ event Deliver 0 ∷
    event Step 1 ∷ event Order 1 ∷ event Serve 0 ∷ event Order 2 ∷ event Serve 0 ∷ event Serve 1 ∷ event Step 0 ∷
    event Deliver 2 ∷ event Step 2 ∷ event Order 1 ∷ event Order 1 ∷ event Serve 1 ∷ event Serve 1 ∷ event Serve 1 ∷
    event Serve 0 ∷ event Serve 0 ∷ event Serve 3 ∷ event Order 0 ∷ event Step 3 ∷ event Step 2 ∷ event Step 2 ∷
    event Step 1 ∷ event Deliver 3 ∷ event Order 2 ∷ event Order 2 ∷ event Serve 2 ∷ event Step 3 ∷ event Order 3 ∷
    event Order 1 ∷ event Serve 2 ∷ event Order 0 ∷ event Serve 0 ∷ event Step 2 ∷ event Serve 3 ∷ event Serve 2 ∷
    event Step 0 ∷ event Order 1 ∷ event Serve 1 ∷ event Serve 3 ∷ event Order 2 ∷ event Step 3 ∷ event Serve 3 ∷
    event Serve 2 ∷ event Step 1 ∷ event Serve 3 ∷ event Step 1 ∷ event Serve 0 ∷ event Serve 3 ∷ event Order 1 ∷
    event Serve 2 ∷ event Order 2 ∷ event Serve 3 ∷ event Step 1 ∷ event Step 0 ∷ event Step 3 ∷ event Deliver 2 ∷ []

abbrev expected : List Outcome
expected =
    Ran ∷ Ran ∷ Ran ∷ Ran ∷ Idle ∷ Ran ∷ Idle ∷ Idle ∷ Ran ∷ Idle ∷ Ran ∷ Idle ∷ Idle ∷ Ran ∷ Ran ∷
    Missed (line_addr 1024) Read ∷ ordered_with [] [] ∷ Missed (line_addr 1024) Read ∷ Idle ∷ ordered_with [] [] ∷
    Idle ∷ served_with [] [] ∷ Idle ∷ Ran ∷ Idle ∷ Blocked Locked (hart_id 1) ∷ Stalled ∷
    Missed (line_addr 1024) Read ∷ Armed ∷ Buffered ∷ ordered_with [] [] ∷ Blocked Behind (hart_id 3) ∷ Began ∷ Idle ∷
    Idle ∷ Idle ∷ Blocked Behind (hart_id 3) ∷ Buffered ∷ RolledBack Call ∷ Idle ∷ Blocked Behind (hart_id 3) ∷ Idle ∷
    Stalled ∷ Blocked Behind (hart_id 3) ∷ Idle ∷ Ran ∷ served_with [] [] ∷ Armed ∷ Ran ∷ Ran ∷ Idle ∷
    Missed (line_addr 1024) Read ∷ Idle ∷ Idle ∷ ordered_with [] [] ∷ Blocked Behind (hart_id 0) ∷ Idle ∷ Idle ∷ Ran ∷
    Missed (line_addr 1024) Write ∷ Idle ∷ ordered_with [] [] ∷ Blocked Behind (hart_id 0) ∷ Idle ∷ Stalled ∷
    served_with [] [] ∷ Ran ∷ served_with [] ((3, 1) ∷ []) ∷ Ran ∷ Idle ∷ served_with [] [] ∷ Ran ∷ Ran ∷ Ran ∷ Idle ∷
    Ran ∷ Ran ∷ Idle ∷ Missed (line_addr 1025) Write ∷ Idle ∷ Idle ∷ Idle ∷ Ran ∷ Stalled ∷ Idle ∷ Idle ∷ Ran ∷ Idle ∷
    Ran ∷ Ran ∷ Ran ∷ Missed (line_addr 1025) Write ∷ Ran ∷ Idle ∷ ordered_with [] [] ∷ Idle ∷ Idle ∷ Ran ∷ Idle ∷
    Missed (line_addr 1025) Write ∷ Idle ∷ Idle ∷ served_with [] [] ∷ ordered_with [] [] ∷ Idle ∷
    Missed (line_addr 1025) Write ∷ Idle ∷ Ran ∷ Stalled ∷ ordered_with [] [] ∷ Blocked Behind (hart_id 3) ∷ Idle ∷
    Idle ∷ Idle ∷ Idle ∷ Idle ∷ Idle ∷ Idle ∷ ordered_with [] [] ∷ Blocked Behind (hart_id 3) ∷ Ran ∷ Idle ∷
    Missed (line_addr 1024) Read ∷ Idle ∷ Idle ∷ Blocked Behind (hart_id 3) ∷ Blocked Behind (hart_id 3) ∷ Stalled ∷
    ordered_with [] [] ∷ served_with [] [] ∷ Idle ∷ Began ∷ Blocked Behind (hart_id 3) ∷ served_with [] [] ∷
    Blocked Behind (hart_id 0) ∷ Idle ∷ Blocked Behind (hart_id 0) ∷ Idle ∷ Ran ∷ Buffered ∷ Buffered ∷ Buffered ∷
    Buffered ∷ Idle ∷ Ran ∷ Idle ∷ Missed (line_addr 1024) Read ∷ Idle ∷ Idle ∷ served_with [] [] ∷ Idle ∷ Idle ∷
    ordered_with [] [] ∷ Idle ∷ served_with [] [] ∷ Began ∷ Buffered ∷ Idle ∷ Buffered ∷ Blocked Locked (hart_id 0) ∷
    Idle ∷ Idle ∷ Buffered ∷ Ran ∷ Ran ∷ Idle ∷ Idle ∷ Idle ∷ Buffered ∷ Idle ∷ Idle ∷ Buffered ∷
    Missed (line_addr 1024) Read ∷ Buffered ∷ Stalled ∷ Idle ∷ served_with [] [] ∷ Idle ∷ Buffered ∷
    ordered_with [] [] ∷ served_with [] [] ∷ Ran ∷ Buffered ∷ Began ∷ Ran ∷ Buffered ∷ Buffered ∷ Idle ∷
    RolledBack Mixed ∷ Missed (line_addr 1024) Write ∷ Idle ∷ Idle ∷ Idle ∷ Idle ∷ Buffered ∷ Idle ∷ Idle ∷
    ordered_with ((0, 2) ∷ (3, 2) ∷ []) [] ∷ served_with [] [] ∷ Idle ∷ Idle ∷ Missed (line_addr 1024) Read ∷
    ordered_with [] [] ∷ Idle ∷ Idle ∷ Idle ∷ Missed (line_addr 1024) Read ∷ Missed (line_addr 1024) Read ∷ Stalled ∷
    Ran ∷ ordered_with [] [] ∷ served_with [] [] ∷ Idle ∷ Blocked Locked (hart_id 0) ∷ Ran ∷ Idle ∷
    ordered_with [] [] ∷ Idle ∷ Idle ∷ Idle ∷ Stalled ∷ Armed ∷ Buffered ∷ Missed (line_addr 1024) Write ∷
    ordered_with [] [] ∷ Idle ∷ Idle ∷ Buffered ∷ Blocked Behind (hart_id 1) ∷ Stalled ∷ Idle ∷ Buffered ∷
    Blocked Behind (hart_id 1) ∷ Stalled ∷ Blocked Behind (hart_id 1) ∷ Blocked Behind (hart_id 1) ∷
    Blocked Behind (hart_id 1) ∷ Stalled ∷ Stalled ∷ Buffered ∷ served_with [] [] ∷ Blocked Behind (hart_id 3) ∷
    Buffered ∷ Idle ∷ Missed (line_addr 1024) Write ∷ ordered_with [] [] ∷ Blocked Behind (hart_id 3) ∷ Idle ∷
    Blocked Behind (hart_id 3) ∷ Blocked Behind (hart_id 3) ∷ Stalled ∷ Idle ∷ Buffered ∷ Idle ∷ Idle ∷
    Blocked Behind (hart_id 3) ∷ Blocked Behind (hart_id 3) ∷ Blocked Behind (hart_id 3) ∷ Blocked Behind (hart_id 3) ∷
    Blocked Behind (hart_id 3) ∷ served_with [] ((2, 7) ∷ []) ∷ Idle ∷ Missed (line_addr 1024) Write ∷ Ran ∷
    Missed (line_addr 1024) Write ∷ Stalled ∷ Idle ∷ ordered_with [] [] ∷ Idle ∷ Blocked Behind (hart_id 0) ∷ Stalled ∷
    ordered_with [] [] ∷ Idle ∷ Blocked Behind (hart_id 0) ∷ Idle ∷ served_with [] [] ∷ Stalled ∷
    Blocked Behind (hart_id 1) ∷ Blocked Behind (hart_id 1) ∷ Ran ∷ Idle ∷ served_with [] [] ∷
    Blocked Behind (hart_id 2) ∷ Idle ∷ Stalled ∷ Blocked Behind (hart_id 2) ∷ Blocked Locked (hart_id 1) ∷ Ran ∷
    Blocked Behind (hart_id 2) ∷ Ran ∷ Idle ∷ Blocked Behind (hart_id 2) ∷ Idle ∷ served_with [] [] ∷ Idle ∷
    Blocked Locked (hart_id 2) ∷ Missed (line_addr 1024) Read ∷ Ran ∷ Stalled ∷ Idle ∷ []

outcomes : outcomes_from first events ≡ expected
unfolding computing
outcomes = refl

abbrev last : Ending
last = record {
  harts =
      record {
        section = None;
        armed = None;
        last_lr = (Some 131084);
        cache = ([]) ∷ [];
        raised = None;
        held_line = None;
        mail = [];
        told = [];
        upstream = [];
        fallback = false;
        tries = 1;
        clock = 0;
        seen = 0;
        attempt = None;
        predictor = record { counters = (patched (replicate 64 2) ([])); watch = None };
      } ∷ record {
        section = None;
        armed = None;
        last_lr = (Some 131084);
        cache = (way 1025 M false false ∷ []) ∷ [];
        raised = (Some (request 1 1024 Read None));
        held_line = None;
        mail = [];
        told = [];
        upstream = [];
        fallback = false;
        tries = 0;
        clock = 0;
        seen = 0;
        attempt = None;
        predictor = record { counters = (patched (replicate 64 2) ((3, 0) ∷ [])); watch = None };
      } ∷ record {
        section = None;
        armed = None;
        last_lr = (Some 131120);
        cache = (way 1024 M false false ∷ []) ∷ [];
        raised = None;
        held_line = (Some 1024);
        mail = [];
        told = [];
        upstream = [];
        fallback = false;
        tries = 0;
        clock = 0;
        seen = 0;
        attempt = None;
        predictor =
            record { counters = (patched (replicate 64 2) ((10, 1) ∷ [])); watch = (Some (watch 131112 65536 1 3)) };
      } ∷ record {
        section = None;
        armed = None;
        last_lr = (Some 131084);
        cache = ([]) ∷ [];
        raised = None;
        held_line = None;
        mail = [];
        told = [];
        upstream = [];
        fallback = false;
        tries = 1;
        clock = 0;
        seen = 0;
        attempt = None;
        predictor = record { counters = (patched (replicate 64 2) ([])); watch = None };
      } ∷ [];
  order = (request 3 1024 Write None) ∷ [];
  pcs = 131124 ∷ 131120 ∷ 131152 ∷ 131112 ∷ [];
  registers =
      (0 ∷ 0 ∷ 65728 ∷ 0 ∷ 0 ∷ 65536 ∷ 1 ∷ 0 ∷ 0 ∷ 2 ∷ 0 ∷ 1 ∷ 0 ∷ 0 ∷ 0 ∷ 0 ∷ 0 ∷ 0 ∷ 0 ∷ 0 ∷ 0 ∷ 0 ∷
      0 ∷ 0 ∷ 0 ∷ 0 ∷ 0 ∷ 0 ∷ 0 ∷ 0 ∷ 0 ∷ 0 ∷ []) ∷
      (0 ∷ 0 ∷ 192 ∷ 0 ∷ 0 ∷ 65536 ∷ 1 ∷ 0 ∷ 0 ∷ 2 ∷ 4294967258 ∷ 0 ∷ 0 ∷ 0 ∷ 0 ∷ 0 ∷ 0 ∷ 0 ∷ 0 ∷ 0 ∷
      0 ∷ 0 ∷ 0 ∷ 0 ∷ 0 ∷ 0 ∷ 0 ∷ 0 ∷ 0 ∷ 0 ∷ 0 ∷ 0 ∷ []) ∷
      (0 ∷ 0 ∷ 4294901952 ∷ 0 ∷ 0 ∷ 65536 ∷ 1 ∷ 0 ∷ 0 ∷ 2 ∷ 2 ∷ 1 ∷ 7 ∷ 0 ∷ 0 ∷ 0 ∷ 0 ∷ 0 ∷ 0 ∷ 0 ∷
      0 ∷ 0 ∷ 0 ∷ 0 ∷ 0 ∷ 0 ∷ 0 ∷ 0 ∷ 0 ∷ 0 ∷ 0 ∷ 0 ∷ []) ∷
      (0 ∷ 0 ∷ 4294836416 ∷ 0 ∷ 0 ∷ 65536 ∷ 1 ∷ 0 ∷ 0 ∷ 2 ∷ 3 ∷ 1 ∷ 0 ∷ 0 ∷ 0 ∷ 0 ∷ 0 ∷ 0 ∷ 0 ∷ 0 ∷
      0 ∷ 0 ∷ 0 ∷ 0 ∷ 0 ∷ 0 ∷ 0 ∷ 0 ∷ 0 ∷ 0 ∷ 0 ∷ 0 ∷ []) ∷
      [];
  bytes = patched (replicate 192 0) ((125, 2) ∷ []);
}

ending : ending_of (state_after first events) ≡ last
unfolding computing
ending = refl
