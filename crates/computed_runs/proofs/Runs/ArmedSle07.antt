-- 3 harts in lock elision, 300 random events over LR and SC: 8 of Armed, 6 of LetGo, 1 of Served that let harts go, 3
-- of Committed
use Rattle.std.proofs.Common.{◌≡◌, ℕ, true, false, List, [], ◌∷◌, Some, None, replicate, refl}
use Rattle.el_base.specs.HartId.{hart_id}
use Rattle.el_base.specs.LineAddr.{line_addr}
use Rattle.el_base.specs.declared.config.Config.{Config}
use Rattle.el_base.specs.declared.config.Mode.TheVariants.{Plain, Sle, Tlr}
use Rattle.el_base.specs.declared.events.Event.{Event}
use Rattle.el_base.specs.declared.events.Kind.TheVariants.{Step, Order, Serve, Deliver}
use Rattle.el_base.specs.declared.outcomes.Cause.TheVariants.{Room, Lines, Long, Call, Mixed}
use Rattle.el_base.specs.declared.outcomes.Need.TheVariants.{Read, Write}
use Rattle.el_base.specs.declared.outcomes.Outcome.{Outcome}
use Rattle.el_base.specs.declared.outcomes.Outcome.TheVariants.{Idle, Stalled, Missed, Ran, Began, Buffered, Committed}
use Rattle.el_base.specs.declared.outcomes.Outcome.TheVariants.{RolledBack, Blocked}
use Rattle.el_base.specs.declared.outcomes.Outcome.TheVariants.{Delivered, Armed, LetGo}
use Rattle.el_base.specs.declared.outcomes.Why.TheVariants.{Behind, Retained, Locked}
use Rattle.computed_runs.proofs.Computing.{computing}
use Rattle.computed_runs.proofs.Given.{Ending, armed, ending_of, event, first_state, lost, ordered_with, patched}
use Rattle.computed_runs.proofs.Given.{request, section, served_with}
use Rattle.computed_runs.proofs.Given.{stamp, watch, way}
use Rattle.el_model.specs.Next.{outcomes_from, state_after}
use Rattle.el_model.specs.State.{Hart, ModelState}
use Rattle.mail.specs.Mailbox.{Marker, Probe}
use Rattle.moesi.specs.declared.letter.Letter.TheVariants.{M, O, E, S}

abbrev config : Config
config = record {
  harts = 3;
  mode = Sle;
  sets = 4;
  ways = 3;
  lines = 1;
  long = 2;
  steps = 300;
}

abbrev words : List ℕ
words =
    66231 ∷ 1049363 ∷ 2098323 ∷ 67273619 ∷ 140747823 ∷ 134455343 ∷ 67273619 ∷ 268674095 ∷ 267363 ∷ 409183663 ∷
    110268067 ∷ 237603 ∷ 9765987 ∷ 268608559 ∷ 268608559 ∷ 412263855 ∷ 365667 ∷ 6465199 ∷ 6463523 ∷ 134389807 ∷
    268608559 ∷ 1443347 ∷ 4261682403 ∷ 402826671 ∷ 365667 ∷ 267386895 ∷ 76718115 ∷ 134389807 ∷ 4192202863 ∷ []

abbrev first : ModelState
first = first_state config 65536 384 131072 words

abbrev events : List Event
events =
    event Step 2 ∷ event Step 2 ∷ event Step 2 ∷ event Serve 1 ∷ event Step 2 ∷ event Serve 0 ∷ event Step 2 ∷
    event Order 2 ∷ event Step 1 ∷ event Deliver 1 ∷ event Step 1 ∷ event Step 0 ∷ event Step 0 ∷ event Step 0 ∷
    event Step 0 ∷ event Step 1 ∷ event Step 1 ∷ event Serve 2 ∷ event Order 0 ∷ event Step 1 ∷ event Step 1 ∷
    event Serve 1 ∷ event Step 0 ∷ event Step 2 ∷ event Order 0 ∷ event Serve 0 ∷ event Step 0 ∷ event Step 2 ∷
    event Deliver 1 ∷ event Order 1 ∷ event Serve 1 ∷ event Order 0 ∷ event Order 1 ∷ event Order 0 ∷ event Serve 1 ∷
    event Step 0 ∷ event Deliver 0 ∷ event Step 2 ∷ event Step 2 ∷ event Step 2 ∷ event Order 2 ∷ event Step 0 ∷
    event Step 1 ∷ event Deliver 2 ∷ event Step 1 ∷ event Order 1 ∷ event Deliver 1 ∷ event Step 1 ∷ event Step 2 ∷
    event Deliver 0 ∷ event Step 2 ∷ event Order 1 ∷ event Serve 2 ∷ event Serve 0 ∷ event Step 1 ∷ event Step 0 ∷
    event Step 0 ∷ event Serve 1 ∷ event Step 0 ∷ event Deliver 1 ∷ event Deliver 2 ∷ event Step 1 ∷ event Order 2 ∷
    event Order 0 ∷ event Step 0 ∷ event Serve 1 ∷ event Step 1 ∷ event Order 0 ∷ event Step 2 ∷ event Deliver 0 ∷
    event Serve 0 ∷ event Step 0 ∷ event Serve 2 ∷ event Step 2 ∷ event Step 0 ∷ event Order 2 ∷ event Order 0 ∷
    event Serve 2 ∷ event Step 1 ∷ event Step 0 ∷ event Step 0 ∷ event Order 0 ∷ event Deliver 1 ∷ event Serve 0 ∷
    event Serve 0 ∷ event Serve 0 ∷ event Step 2 ∷ event Step 1 ∷ event Serve 1 ∷ event Step 0 ∷ event Order 1 ∷
    event Order 2 ∷ event Order 1 ∷ event Order 2 ∷ event Order 2 ∷ event Serve 1 ∷ event Serve 0 ∷ event Step 0 ∷
    event Step 0 ∷ event Step 2 ∷ event Step 2 ∷ event Step 0 ∷ event Order 0 ∷ event Serve 1 ∷ event Step 1 ∷
    event Order 2 ∷ event Order 2 ∷ event Serve 0 ∷ event Step 0 ∷ event Deliver 1 ∷ event Order 0 ∷ event Serve 1 ∷
    event Step 1 ∷ event Deliver 0 ∷ event Step 1 ∷ event Step 1 ∷ event Deliver 1 ∷ event Order 1 ∷ event Serve 1 ∷
    event Step 0 ∷ event Serve 2 ∷ event Step 2 ∷ event Step 2 ∷ event Serve 2 ∷ event Step 0 ∷ event Deliver 0 ∷
    event Deliver 0 ∷ event Order 0 ∷ event Step 0 ∷ event Step 0 ∷ event Serve 0 ∷ event Step 1 ∷ event Step 2 ∷
    event Step 1 ∷ event Order 1 ∷ event Order 2 ∷ event Step 0 ∷ event Step 0 ∷ event Deliver 2 ∷ event Step 1 ∷
    event Order 0 ∷ event Serve 1 ∷ event Step 0 ∷ event Serve 0 ∷ event Order 0 ∷ event Serve 0 ∷ event Deliver 0 ∷
    event Serve 0 ∷ event Serve 2 ∷ event Order 0 ∷ event Order 1 ∷ event Order 1 ∷ event Order 0 ∷ event Step 2 ∷
    event Order 1 ∷ event Step 2 ∷ event Step 1 ∷ event Order 0 ∷ event Order 2 ∷ event Serve 0 ∷ event Serve 1 ∷
    event Serve 2 ∷ event Order 1 ∷ event Step 2 ∷ event Serve 2 ∷ event Serve 1 ∷ event Serve 1 ∷ event Order 1 ∷
    event Deliver 2 ∷ event Deliver 1 ∷ event Serve 2 ∷ event Serve 1 ∷ event Serve 2 ∷ event Step 0 ∷ event Serve 2 ∷
    event Serve 1 ∷ event Step 2 ∷ event Step 0 ∷ event Order 2 ∷ event Serve 1 ∷ event Step 1 ∷ event Deliver 0 ∷
    event Order 0 ∷ event Order 0 ∷ event Step 2 ∷ event Serve 0 ∷ event Serve 0 ∷ event Serve 0 ∷ event Step 0 ∷
    event Order 2 ∷ event Deliver 2 ∷ event Step 2 ∷ event Serve 1 ∷ event Order 0 ∷ event Serve 2 ∷ event Order 0 ∷
    event Serve 2 ∷ event Step 0 ∷ event Order 2 ∷ event Serve 0 ∷ event Step 0 ∷ event Serve 2 ∷ event Step 2 ∷
    event Step 2 ∷ event Step 1 ∷ event Order 1 ∷ event Order 2 ∷ event Step 1 ∷ event Step 0 ∷ event Step 2 ∷
    event Serve 2 ∷ event Step 1 ∷ event Step 2 ∷ event Order 1 ∷ event Serve 2 ∷ event Serve 0 ∷ event Serve 1 ∷
    event Order 0 ∷ event Serve 0 ∷ event Serve 2 ∷ event Step 1 ∷ event Serve 0 ∷ event Order 1 ∷ event Deliver 2 ∷
    event Order 0 ∷ event Step 1 ∷ event Order 2 ∷ event Serve 0 ∷ event Step 0 ∷ event Step 0 ∷ event Step 2 ∷
    event Order 1 ∷ event Serve 1 ∷ event Order 2 ∷ event Deliver 0 ∷ event Step 1 ∷ event Step 0 ∷ event Serve 0 ∷
    event Order 0 ∷ event Step 2 ∷ event Serve 2 ∷ event Order 0 ∷ event Step 1 ∷ event Serve 0 ∷ event Serve 0 ∷
    event Order 1 ∷ event Deliver 0 ∷ event Deliver 1 ∷ event Serve 0 ∷ event Serve 0 ∷ event Serve 1 ∷ event Order 2 ∷
    event Step 2 ∷ event Serve 1 ∷ event Deliver 1 ∷ event Order 0 ∷ event Serve 0 ∷ event Order 1 ∷ event Serve 0 ∷
    event Serve 1 ∷ event Order 0 ∷ event Serve 1 ∷ event Serve 1 ∷ event Order 2 ∷ event Step 2 ∷ event Serve 0 ∷
    event Serve 1 ∷ event Step 2 ∷ event Serve 1 ∷ event Step 2 ∷ event Serve 1 ∷ event Step 2 ∷ event Serve 1 ∷
    event Order 1 ∷ event Step 2 ∷ event Serve 2 ∷ event Serve 1 ∷ event Serve 1 ∷ event Order 1 ∷ event Serve 1 ∷
    event Serve 1 ∷ event Serve 1 ∷ event Serve 0 ∷ event Serve 1 ∷ event Order 1 ∷ event Serve 1 ∷ event Step 2 ∷
    event Order 2 ∷ event Deliver 0 ∷ event Step 0 ∷ event Order 0 ∷ event Serve 0 ∷ event Step 1 ∷ event Serve 2 ∷
    event Serve 2 ∷ event Step 2 ∷ event Serve 2 ∷ event Order 1 ∷ event Serve 1 ∷ event Order 0 ∷ []

abbrev expected : List Outcome
expected =
    Ran ∷ Ran ∷ Ran ∷ Idle ∷ Ran ∷ Idle ∷ Missed (line_addr 1025) Read ∷ ordered_with [] [] ∷ Ran ∷ Idle ∷ Ran ∷ Ran ∷
    Ran ∷ Ran ∷ Ran ∷ Ran ∷ Ran ∷ served_with [] [] ∷ Idle ∷ Missed (line_addr 1025) Read ∷ Stalled ∷ Idle ∷
    Missed (line_addr 1025) Read ∷ Began ∷ ordered_with [] [] ∷ served_with [] [] ∷ Began ∷ Committed 2 ∷ Idle ∷
    ordered_with [] [] ∷ served_with [] [] ∷ Idle ∷ Idle ∷ Idle ∷ Idle ∷ Committed 2 ∷ Idle ∷ Ran ∷ Armed ∷ LetGo 1 ∷
    Idle ∷ Ran ∷ Began ∷ Idle ∷ Committed 2 ∷ Idle ∷ Idle ∷ Ran ∷ Ran ∷ Idle ∷ Ran ∷ Idle ∷ Idle ∷ Idle ∷ Armed ∷
    Armed ∷ LetGo 1 ∷ Idle ∷ Ran ∷ Idle ∷ Idle ∷ LetGo 1 ∷ Idle ∷ Idle ∷ Missed (line_addr 1025) Write ∷ Idle ∷ Ran ∷
    ordered_with [] [] ∷ Missed (line_addr 1025) Write ∷ Idle ∷ served_with [] [] ∷ Ran ∷ Idle ∷ Stalled ∷ Ran ∷
    ordered_with [] [] ∷ Idle ∷ served_with [] [] ∷ Ran ∷ Missed (line_addr 1025) Write ∷ Stalled ∷
    ordered_with [] [] ∷ Idle ∷ Blocked Locked (hart_id 2) ∷ Blocked Locked (hart_id 2) ∷ Blocked Locked (hart_id 2) ∷
    Ran ∷ Missed (line_addr 1025) Write ∷ Idle ∷ Stalled ∷ ordered_with [] [] ∷ Idle ∷ Idle ∷ Idle ∷ Idle ∷
    Blocked Behind (hart_id 0) ∷ served_with [] [] ∷ Ran ∷ Ran ∷ Missed (line_addr 1025) Write ∷ Stalled ∷
    Missed (line_addr 1024) Read ∷ ordered_with [] [] ∷ served_with [] [] ∷ Ran ∷ ordered_with [] [] ∷ Idle ∷
    served_with [] [] ∷ Armed ∷ Idle ∷ Idle ∷ Idle ∷ Ran ∷ Idle ∷ Ran ∷ Missed (line_addr 1024) Read ∷ Idle ∷
    ordered_with [] [] ∷ served_with [] [] ∷ LetGo 1 ∷ served_with [] [] ∷ Ran ∷ Ran ∷ Idle ∷ Armed ∷ Idle ∷ Idle ∷
    Idle ∷ Began ∷ RolledBack Long ∷ Idle ∷ Armed ∷ Missed (line_addr 1024) Read ∷ LetGo 1 ∷ Idle ∷
    ordered_with [] [] ∷ Ran ∷ Missed (line_addr 1024) Write ∷ Idle ∷ Armed ∷ ordered_with [] [] ∷ Idle ∷ Stalled ∷
    Blocked Behind (hart_id 2) ∷ Idle ∷ Blocked Behind (hart_id 2) ∷ Idle ∷ Blocked Behind (hart_id 2) ∷
    served_with [] ((1, 1) ∷ []) ∷ Idle ∷ Idle ∷ Idle ∷ Idle ∷ Ran ∷ Idle ∷ Missed (line_addr 1024) Write ∷
    Missed (line_addr 1024) Write ∷ Idle ∷ ordered_with [] [] ∷ served_with [] [] ∷ Idle ∷ Blocked Locked (hart_id 0) ∷
    ordered_with [] [] ∷ Stalled ∷ Blocked Locked (hart_id 0) ∷ Blocked Behind (hart_id 2) ∷
    Blocked Behind (hart_id 2) ∷ Idle ∷ Idle ∷ Idle ∷ Blocked Locked (hart_id 0) ∷ Blocked Behind (hart_id 2) ∷
    Blocked Locked (hart_id 0) ∷ Ran ∷ served_with [] [] ∷ Blocked Locked (hart_id 2) ∷ Ran ∷ Ran ∷ Idle ∷
    served_with [] [] ∷ Ran ∷ Idle ∷ Idle ∷ Idle ∷ Ran ∷ Idle ∷ Idle ∷ Idle ∷ Missed (line_addr 1024) Write ∷ Idle ∷
    Idle ∷ Missed (line_addr 1024) Write ∷ Idle ∷ ordered_with [] [] ∷ Idle ∷ Idle ∷ Idle ∷ Stalled ∷
    ordered_with [] [] ∷ served_with [] [] ∷ Ran ∷ served_with [] [] ∷ Ran ∷ Began ∷ Ran ∷ Idle ∷ Idle ∷
    Missed (line_addr 1024) Write ∷ Missed (line_addr 1024) Write ∷ Buffered ∷ Idle ∷ Stalled ∷ RolledBack Long ∷
    ordered_with [] [] ∷ Idle ∷ Idle ∷ served_with [] [] ∷ ordered_with [] [] ∷ Blocked Locked (hart_id 1) ∷ Idle ∷
    Ran ∷ served_with [] [] ∷ Idle ∷ Idle ∷ Idle ∷ Missed (line_addr 1024) Read ∷ Idle ∷ Idle ∷ Ran ∷ Began ∷
    Missed (line_addr 1024) Write ∷ ordered_with [] [] ∷ served_with [] [] ∷ ordered_with ((0, 2) ∷ []) [] ∷ Idle ∷
    Missed (line_addr 1024) Read ∷ Missed (line_addr 1024) Read ∷ Idle ∷ ordered_with [] [] ∷ Stalled ∷
    served_with [] [] ∷ Idle ∷ Stalled ∷ Blocked Locked (hart_id 2) ∷ Blocked Locked (hart_id 2) ∷ ordered_with [] [] ∷
    Idle ∷ Idle ∷ Blocked Locked (hart_id 2) ∷ Blocked Locked (hart_id 2) ∷ Blocked Behind (hart_id 0) ∷ Idle ∷ Ran ∷
    Blocked Behind (hart_id 0) ∷ Idle ∷ Idle ∷ served_with [] [] ∷ Idle ∷ Idle ∷ Blocked Locked (hart_id 0) ∷ Idle ∷
    Blocked Locked (hart_id 0) ∷ Blocked Locked (hart_id 0) ∷ Idle ∷ Armed ∷ Idle ∷ Blocked Locked (hart_id 0) ∷
    LetGo 1 ∷ Blocked Locked (hart_id 0) ∷ Ran ∷ Blocked Locked (hart_id 0) ∷ Ran ∷ Blocked Locked (hart_id 0) ∷ Idle ∷
    Missed (line_addr 1024) Write ∷ Idle ∷ Blocked Locked (hart_id 0) ∷ Blocked Locked (hart_id 0) ∷ Idle ∷
    Blocked Locked (hart_id 0) ∷ Blocked Locked (hart_id 0) ∷ Blocked Locked (hart_id 0) ∷ Idle ∷
    Blocked Locked (hart_id 0) ∷ Idle ∷ Blocked Locked (hart_id 0) ∷ Stalled ∷ ordered_with [] [] ∷ Idle ∷
    Missed (line_addr 1024) Write ∷ ordered_with [] [] ∷ Blocked Behind (hart_id 1) ∷ Stalled ∷
    Blocked Behind (hart_id 1) ∷ Blocked Behind (hart_id 1) ∷ Stalled ∷ Blocked Behind (hart_id 1) ∷ Idle ∷
    served_with [] [] ∷ Idle ∷ []

outcomes : outcomes_from first events ≡ expected
unfolding computing
outcomes = refl

abbrev last : Ending
last = record {
  harts =
      record {
        section = None;
        armed = None;
        last_lr = (Some 131128);
        cache = (way 1024 S false false ∷ []) ∷ ([]) ∷ ([]) ∷ ([]) ∷ [];
        raised = None;
        held_line = None;
        mail = [];
        told = [];
        upstream = [];
        fallback = false;
        tries = 1;
        clock = 0;
        seen = 0;
        attempt = None;
        predictor = record { counters = (patched (replicate 64 2) ((4, 3) ∷ (7, 1) ∷ (14, 0) ∷ [])); watch = None };
      } ∷ record {
        section = None;
        armed = None;
        last_lr = (Some 131128);
        cache = (way 1024 S false false ∷ []) ∷ ([]) ∷ ([]) ∷ ([]) ∷ [];
        raised = None;
        held_line = (Some 1024);
        mail = [];
        told = [];
        upstream = [];
        fallback = false;
        tries = 0;
        clock = 0;
        seen = 0;
        attempt = None;
        predictor = record { counters = (patched (replicate 64 2) ((4, 3) ∷ [])); watch = None };
      } ∷ record {
        section = None;
        armed = None;
        last_lr = (Some 131152);
        cache = (way 1024 O false false ∷ []) ∷ (way 1025 M false false ∷ []) ∷ ([]) ∷ ([]) ∷ [];
        raised = None;
        held_line = None;
        mail = [];
        told = [];
        upstream = [];
        fallback = false;
        tries = 0;
        clock = 0;
        seen = 0;
        attempt = None;
        predictor = record { counters = (patched (replicate 64 2) ((4, 3) ∷ (19, 0) ∷ [])); watch = None };
      } ∷ [];
  order = (request 2 1024 Write None) ∷ (request 0 1024 Write None) ∷ [];
  pcs = 131148 ∷ 131148 ∷ 131164 ∷ [];
  registers =
      (0 ∷ 0 ∷ 65920 ∷ 0 ∷ 0 ∷ 65536 ∷ 1 ∷ 65600 ∷ 0 ∷ 2 ∷ 0 ∷ 0 ∷ 0 ∷ 2 ∷ 0 ∷ 0 ∷ 0 ∷ 0 ∷ 0 ∷ 0 ∷ 0 ∷
      0 ∷ 0 ∷ 0 ∷ 0 ∷ 0 ∷ 0 ∷ 0 ∷ 0 ∷ 0 ∷ 0 ∷ 0 ∷ []) ∷
      (0 ∷ 0 ∷ 384 ∷ 0 ∷ 0 ∷ 65536 ∷ 1 ∷ 65600 ∷ 0 ∷ 2 ∷ 1 ∷ 1 ∷ 0 ∷ 0 ∷ 0 ∷ 0 ∷ 0 ∷ 0 ∷ 0 ∷ 0 ∷ 0 ∷
      0 ∷ 0 ∷ 0 ∷ 0 ∷ 0 ∷ 0 ∷ 0 ∷ 0 ∷ 0 ∷ 0 ∷ 0 ∷ []) ∷
      (0 ∷ 0 ∷ 4294902144 ∷ 0 ∷ 0 ∷ 65536 ∷ 1 ∷ 65600 ∷ 0 ∷ 2 ∷ 2 ∷ 1 ∷ 1 ∷ 0 ∷ 0 ∷ 0 ∷ 0 ∷ 0 ∷ 0 ∷
      0 ∷ 0 ∷ 0 ∷ 0 ∷ 0 ∷ 0 ∷ 0 ∷ 0 ∷ 0 ∷ 0 ∷ 0 ∷ 0 ∷ 0 ∷ []) ∷
      [];
  bytes = patched (replicate 384 0) ((125, 2) ∷ []);
}

ending : ending_of (state_after first events) ≡ last
unfolding computing
ending = refl
