-- 4 harts in lock elision, 300 random events over LR and SC: 11 of Armed, 7 of LetGo, 1 of Ordered that let harts go,
-- 2 of Served that let harts go
use Rattle.std.proofs.Common.{◌≡◌, ℕ, true, false, List, [], ◌∷◌, Some, None, replicate, refl}
use Rattle.el_base.specs.HartId.{hart_id}
use Rattle.el_base.specs.LineAddr.{line_addr}
use Rattle.el_base.specs.declared.config.Config.{Config}
use Rattle.el_base.specs.declared.config.Mode.TheVariants.{Plain, Sle, Tlr}
use Rattle.el_base.specs.declared.events.Event.{Event}
use Rattle.el_base.specs.declared.events.Kind.TheVariants.{Step, Order, Serve, Deliver}
use Rattle.el_base.specs.declared.outcomes.Cause.TheVariants.{Room, Lines, Long, Call, Mixed}
use Rattle.el_base.specs.declared.outcomes.Need.TheVariants.{Read, Write}
use Rattle.el_base.specs.declared.outcomes.Outcome.{Outcome}
use Rattle.el_base.specs.declared.outcomes.Outcome.TheVariants.{Idle, Stalled, Missed, Ran, Began, Buffered, Committed}
use Rattle.el_base.specs.declared.outcomes.Outcome.TheVariants.{RolledBack, Blocked}
use Rattle.el_base.specs.declared.outcomes.Outcome.TheVariants.{Delivered, Armed, LetGo}
use Rattle.el_base.specs.declared.outcomes.Why.TheVariants.{Behind, Retained, Locked}
use Rattle.computed_runs.proofs.Computing.{computing}
use Rattle.computed_runs.proofs.Given.{Ending, armed, ending_of, event, first_state, lost, ordered_with, patched}
use Rattle.computed_runs.proofs.Given.{request, section, served_with}
use Rattle.computed_runs.proofs.Given.{stamp, watch, way}
use Rattle.el_model.specs.Next.{outcomes_from, state_after}
use Rattle.el_model.specs.State.{Hart, ModelState}
use Rattle.mail.specs.Mailbox.{Marker, Probe}
use Rattle.moesi.specs.declared.letter.Letter.TheVariants.{M, O, E, S}

abbrev config : Config
config = record {
  harts = 4;
  mode = Sle;
  sets = 1;
  ways = 2;
  lines = 2;
  long = 21;
  steps = 300;
}

abbrev words : List ℕ
words =
    66231 ∷ 1049363 ∷ 2098323 ∷ 67273619 ∷ 268674095 ∷ 1443347 ∷ 4261682403 ∷ 402826671 ∷ 365667 ∷ 10657827 ∷
    73572387 ∷ 201498659 ∷ 268609199 ∷ 237603 ∷ 268608559 ∷ 4368003 ∷ 409118127 ∷ 365667 ∷ 172067 ∷ 268608559 ∷
    267363 ∷ 365667 ∷ 201500163 ∷ 134389807 ∷ 67273619 ∷ 268674095 ∷ 267363 ∷ 409183663 ∷ 237603 ∷ 4188008559 ∷ []

abbrev first : ModelState
first = first_state config 65536 320 131072 words

abbrev events : List Event
events =
    event Step 0 ∷ event Serve 0 ∷ event Step 3 ∷ event Step 3 ∷ event Serve 1 ∷ event Step 1 ∷ event Order 3 ∷
    event Order 3 ∷ event Step 2 ∷ event Serve 1 ∷ event Step 1 ∷ event Step 0 ∷ event Step 2 ∷ event Step 0 ∷
    event Order 2 ∷ event Deliver 0 ∷ event Serve 2 ∷ event Step 1 ∷ event Step 0 ∷ event Step 1 ∷ event Step 0 ∷
    event Order 0 ∷ event Order 1 ∷ event Step 2 ∷ event Step 2 ∷ event Step 2 ∷ event Serve 1 ∷ event Step 1 ∷
    event Order 2 ∷ event Step 3 ∷ event Serve 2 ∷ event Step 3 ∷ event Deliver 3 ∷ event Step 0 ∷ event Step 3 ∷
    event Serve 2 ∷ event Deliver 3 ∷ event Step 3 ∷ event Deliver 2 ∷ event Serve 2 ∷ event Deliver 1 ∷
    event Serve 2 ∷ event Deliver 3 ∷ event Order 0 ∷ event Serve 0 ∷ event Step 0 ∷ event Order 1 ∷ event Serve 1 ∷
    event Order 3 ∷ event Step 2 ∷ event Step 0 ∷ event Deliver 3 ∷ event Order 3 ∷ event Step 3 ∷ event Step 0 ∷
    event Serve 2 ∷ event Step 0 ∷ event Step 0 ∷ event Serve 0 ∷ event Step 0 ∷ event Deliver 2 ∷ event Step 2 ∷
    event Order 1 ∷ event Order 3 ∷ event Order 0 ∷ event Step 3 ∷ event Step 2 ∷ event Step 2 ∷ event Order 1 ∷
    event Serve 3 ∷ event Step 0 ∷ event Step 1 ∷ event Deliver 0 ∷ event Step 2 ∷ event Serve 0 ∷ event Step 0 ∷
    event Serve 1 ∷ event Serve 3 ∷ event Serve 1 ∷ event Serve 3 ∷ event Step 2 ∷ event Serve 1 ∷ event Step 1 ∷
    event Order 2 ∷ event Step 2 ∷ event Order 1 ∷ event Order 0 ∷ event Serve 2 ∷ event Step 1 ∷ event Serve 0 ∷
    event Serve 0 ∷ event Deliver 0 ∷ event Step 2 ∷ event Deliver 2 ∷ event Order 2 ∷ event Step 0 ∷ event Serve 0 ∷
    event Serve 3 ∷ event Deliver 3 ∷ event Serve 2 ∷ event Step 3 ∷ event Order 2 ∷ event Step 3 ∷ event Serve 0 ∷
    event Step 1 ∷ event Step 3 ∷ event Serve 2 ∷ event Order 2 ∷ event Order 3 ∷ event Order 3 ∷ event Step 3 ∷
    event Step 1 ∷ event Step 1 ∷ event Deliver 2 ∷ event Serve 2 ∷ event Step 0 ∷ event Deliver 2 ∷ event Step 1 ∷
    event Order 3 ∷ event Serve 2 ∷ event Step 2 ∷ event Step 3 ∷ event Step 3 ∷ event Step 0 ∷ event Order 3 ∷
    event Order 0 ∷ event Order 2 ∷ event Order 1 ∷ event Serve 0 ∷ event Step 0 ∷ event Step 3 ∷ event Deliver 0 ∷
    event Serve 1 ∷ event Deliver 0 ∷ event Deliver 0 ∷ event Serve 3 ∷ event Serve 1 ∷ event Serve 1 ∷ event Step 3 ∷
    event Deliver 1 ∷ event Deliver 0 ∷ event Step 3 ∷ event Deliver 1 ∷ event Step 1 ∷ event Order 0 ∷ event Step 2 ∷
    event Step 0 ∷ event Order 3 ∷ event Order 2 ∷ event Order 3 ∷ event Step 1 ∷ event Step 1 ∷ event Serve 3 ∷
    event Serve 0 ∷ event Order 0 ∷ event Deliver 1 ∷ event Step 3 ∷ event Step 3 ∷ event Step 2 ∷ event Serve 0 ∷
    event Serve 2 ∷ event Serve 1 ∷ event Step 0 ∷ event Serve 2 ∷ event Order 3 ∷ event Deliver 1 ∷ event Step 1 ∷
    event Order 3 ∷ event Serve 2 ∷ event Serve 1 ∷ event Step 2 ∷ event Order 0 ∷ event Order 0 ∷ event Step 2 ∷
    event Step 1 ∷ event Order 0 ∷ event Order 0 ∷ event Order 2 ∷ event Step 2 ∷ event Deliver 0 ∷ event Deliver 0 ∷
    event Serve 0 ∷ event Step 1 ∷ event Serve 3 ∷ event Serve 2 ∷ event Step 0 ∷ event Serve 2 ∷ event Serve 2 ∷
    event Deliver 1 ∷ event Step 0 ∷ event Deliver 2 ∷ event Order 3 ∷ event Order 0 ∷ event Deliver 0 ∷
    event Deliver 0 ∷ event Serve 0 ∷ event Step 3 ∷ event Step 0 ∷ event Step 3 ∷ event Order 2 ∷ event Serve 3 ∷
    event Serve 2 ∷ event Serve 3 ∷ event Order 0 ∷ event Step 2 ∷ event Step 1 ∷ event Step 0 ∷ event Order 3 ∷
    event Deliver 1 ∷ event Step 0 ∷ event Order 3 ∷ event Step 1 ∷ event Order 1 ∷ event Step 2 ∷ event Step 2 ∷
    event Order 2 ∷ event Serve 1 ∷ event Step 1 ∷ event Deliver 3 ∷ event Step 0 ∷ event Step 3 ∷ event Step 1 ∷
    event Order 1 ∷ event Order 3 ∷ event Serve 2 ∷ event Step 0 ∷ event Serve 0 ∷ event Step 1 ∷ event Deliver 1 ∷
    event Serve 1 ∷ event Serve 2 ∷ event Step 1 ∷ event Serve 2 ∷ event Step 2 ∷ event Serve 3 ∷ event Serve 2 ∷
    event Step 3 ∷ event Order 0 ∷ event Step 1 ∷ event Order 2 ∷ event Serve 0 ∷ event Step 0 ∷ event Deliver 2 ∷
    event Step 2 ∷ event Order 3 ∷ event Step 1 ∷ event Order 2 ∷ event Step 1 ∷ event Order 1 ∷ event Step 0 ∷
    event Deliver 0 ∷ event Serve 1 ∷ event Order 2 ∷ event Step 0 ∷ event Serve 2 ∷ event Serve 0 ∷ event Order 3 ∷
    event Step 3 ∷ event Serve 3 ∷ event Serve 3 ∷ event Step 2 ∷ event Step 3 ∷ event Step 2 ∷ event Step 0 ∷
    event Order 2 ∷ event Serve 2 ∷ event Step 1 ∷ event Step 2 ∷ event Step 1 ∷ event Step 3 ∷ event Order 1 ∷
    event Serve 0 ∷ event Step 2 ∷ event Serve 1 ∷ event Step 0 ∷ event Order 3 ∷ event Step 1 ∷ event Order 0 ∷
    event Order 2 ∷ event Serve 2 ∷ event Serve 2 ∷ event Deliver 3 ∷ event Serve 3 ∷ event Serve 2 ∷ event Order 2 ∷
    event Serve 1 ∷ event Serve 2 ∷ event Step 0 ∷ event Step 0 ∷ event Step 1 ∷ event Order 1 ∷ event Step 1 ∷
    event Serve 2 ∷ event Order 2 ∷ event Serve 2 ∷ event Step 3 ∷ event Serve 2 ∷ event Deliver 2 ∷ event Deliver 3 ∷
    event Step 3 ∷ []

abbrev expected : List Outcome
expected =
    Ran ∷ Idle ∷ Ran ∷ Ran ∷ Idle ∷ Ran ∷ Idle ∷ Idle ∷ Ran ∷ Idle ∷ Ran ∷ Ran ∷ Ran ∷ Ran ∷ Idle ∷ Idle ∷ Idle ∷ Ran ∷
    Ran ∷ Ran ∷ Missed (line_addr 1025) Read ∷ ordered_with [] [] ∷ Idle ∷ Ran ∷ Ran ∷ Missed (line_addr 1025) Read ∷
    Idle ∷ Missed (line_addr 1025) Read ∷ ordered_with [] [] ∷ Ran ∷ Blocked Behind (hart_id 0) ∷ Ran ∷ Idle ∷
    Stalled ∷ Missed (line_addr 1025) Read ∷ Blocked Behind (hart_id 0) ∷ Idle ∷ Stalled ∷ Idle ∷
    Blocked Behind (hart_id 0) ∷ Idle ∷ Blocked Behind (hart_id 0) ∷ Idle ∷ Idle ∷ served_with [] [] ∷ Armed ∷
    ordered_with [] [] ∷ Blocked Behind (hart_id 2) ∷ ordered_with [] [] ∷ Stalled ∷ Buffered ∷ Idle ∷ Idle ∷ Stalled ∷
    Buffered ∷ served_with [] [] ∷ LetGo 3 ∷ Ran ∷ Idle ∷ Ran ∷ Idle ∷ Armed ∷ Idle ∷ Idle ∷ Idle ∷ Stalled ∷
    Buffered ∷ Buffered ∷ Idle ∷ Blocked Behind (hart_id 1) ∷ Missed (line_addr 1025) Write ∷ Stalled ∷ Idle ∷
    LetGo 3 ∷ Idle ∷ Stalled ∷ served_with [] [] ∷ Blocked Locked (hart_id 1) ∷ Idle ∷ Blocked Locked (hart_id 1) ∷
    Ran ∷ Idle ∷ Armed ∷ Idle ∷ Ran ∷ Idle ∷ ordered_with [] [] ∷ Idle ∷ Buffered ∷ Blocked Behind (hart_id 3) ∷
    Blocked Behind (hart_id 3) ∷ Idle ∷ Missed (line_addr 1025) Write ∷ Idle ∷ ordered_with [] [] ∷ Stalled ∷
    Blocked Behind (hart_id 3) ∷ served_with [] ((1, 2) ∷ []) ∷ Idle ∷ Blocked Behind (hart_id 0) ∷ Ran ∷ Idle ∷ Ran ∷
    served_with [] [] ∷ Ran ∷ Ran ∷ Blocked Locked (hart_id 0) ∷ Idle ∷ Idle ∷ Idle ∷ Ran ∷ Ran ∷ Ran ∷ Idle ∷
    Blocked Locked (hart_id 0) ∷ Ran ∷ Idle ∷ Missed (line_addr 1025) Write ∷ Idle ∷ served_with [] [] ∷ Ran ∷ Ran ∷
    Missed (line_addr 1025) Write ∷ Missed (line_addr 1027) Write ∷ ordered_with [] [] ∷ ordered_with [] [] ∷ Idle ∷
    ordered_with [] [] ∷ served_with [] [] ∷ Ran ∷ Stalled ∷ Idle ∷ Blocked Behind (hart_id 3) ∷ Idle ∷ Idle ∷
    served_with [] [] ∷ Blocked Locked (hart_id 3) ∷ Blocked Locked (hart_id 3) ∷ Ran ∷ Idle ∷ Idle ∷
    Missed (line_addr 1027) Write ∷ Idle ∷ Stalled ∷ Idle ∷ Missed (line_addr 1027) Write ∷
    Missed (line_addr 1024) Read ∷ ordered_with [] [] ∷ ordered_with [] [] ∷ Idle ∷ Stalled ∷ Stalled ∷
    served_with [] [] ∷ Idle ∷ ordered_with [] [] ∷ Idle ∷ Ran ∷ Missed (line_addr 1024) Read ∷ Stalled ∷
    served_with [] [] ∷ served_with [] [] ∷ served_with [] [] ∷ Armed ∷ Idle ∷ ordered_with [] [] ∷ Idle ∷ Ran ∷ Idle ∷
    Idle ∷ Idle ∷ Ran ∷ Idle ∷ Idle ∷ Missed (line_addr 1024) Read ∷ Missed (line_addr 1027) Write ∷ Idle ∷ Idle ∷
    ordered_with [] [] ∷ Stalled ∷ Idle ∷ Idle ∷ Idle ∷ Stalled ∷ served_with [] [] ∷ Blocked Locked (hart_id 3) ∷
    LetGo 1 ∷ Blocked Locked (hart_id 3) ∷ Blocked Locked (hart_id 3) ∷ Idle ∷ Missed (line_addr 1025) Write ∷ Idle ∷
    Idle ∷ ordered_with [] [] ∷ Idle ∷ Idle ∷ served_with [] [] ∷ Armed ∷ Ran ∷ LetGo 1 ∷ Idle ∷ Idle ∷
    served_with [] [] ∷ Idle ∷ Idle ∷ Armed ∷ Stalled ∷ Armed ∷ Idle ∷ Idle ∷ LetGo 1 ∷ Idle ∷ Stalled ∷
    ordered_with [] [] ∷ LetGo 1 ∷ Missed (line_addr 1025) Write ∷ ordered_with [] [] ∷ served_with [] [] ∷ Ran ∷
    Idle ∷ Ran ∷ Missed (line_addr 1025) Write ∷ Missed (line_addr 1024) Read ∷ ordered_with [] [] ∷
    ordered_with [] [] ∷ served_with [] [] ∷ Missed (line_addr 1024) Write ∷ Idle ∷ Stalled ∷ Idle ∷
    served_with [] [] ∷ Idle ∷ Armed ∷ Idle ∷ Ran ∷ served_with [] [] ∷ Idle ∷ Ran ∷ ordered_with [] ((1, 1) ∷ []) ∷
    Missed (line_addr 1025) Write ∷ Idle ∷ served_with [] [] ∷ Ran ∷ Idle ∷ Missed (line_addr 1024) Read ∷ Idle ∷
    Stalled ∷ ordered_with [] [] ∷ Stalled ∷ ordered_with [] [] ∷ Ran ∷ Idle ∷ served_with [] [] ∷ Idle ∷ Ran ∷
    served_with [] [] ∷ Idle ∷ Idle ∷ Missed (line_addr 1024) Read ∷ Idle ∷ Idle ∷ Armed ∷ Stalled ∷ LetGo 1 ∷ Armed ∷
    Idle ∷ Idle ∷ Ran ∷ Ran ∷ Missed (line_addr 1024) Read ∷ Stalled ∷ ordered_with [] [] ∷ Idle ∷
    Missed (line_addr 1024) Write ∷ served_with [] [] ∷ Buffered ∷ ordered_with [] [] ∷ Armed ∷ Idle ∷
    ordered_with [] [] ∷ Blocked Behind (hart_id 3) ∷ Blocked Behind (hart_id 3) ∷ Idle ∷
    served_with [] ((0, 2) ∷ (1, 1) ∷ []) ∷ Blocked Locked (hart_id 3) ∷ Idle ∷ Idle ∷ Blocked Locked (hart_id 3) ∷
    Ran ∷ Missed (line_addr 1027) Read ∷ Ran ∷ Idle ∷ Missed (line_addr 1024) Write ∷ Blocked Locked (hart_id 3) ∷
    Idle ∷ Blocked Locked (hart_id 3) ∷ Ran ∷ served_with [] [] ∷ Idle ∷ Idle ∷ Missed (line_addr 1024) Read ∷ []

outcomes : outcomes_from first events ≡ expected
unfolding computing
outcomes = refl

abbrev last : Ending
last = record {
  harts =
      record {
        section = None;
        armed = None;
        last_lr = (Some 131148);
        cache = ([]) ∷ [];
        raised = (Some (request 0 1027 Read None));
        held_line = None;
        mail = [];
        told = [];
        upstream = [];
        fallback = false;
        tries = 0;
        clock = 0;
        seen = 0;
        attempt = None;
        predictor = record { counters = (patched (replicate 64 2) ((14, 3) ∷ [])); watch = None };
      } ∷ record {
        section = None;
        armed = None;
        last_lr = (Some 131128);
        cache = (way 1025 M false false ∷ []) ∷ [];
        raised = (Some (request 1 1024 Write None));
        held_line = None;
        mail = [];
        told = [];
        upstream = [];
        fallback = false;
        tries = 0;
        clock = 0;
        seen = 0;
        attempt = None;
        predictor = record { counters = (patched (replicate 64 2) ([])); watch = None };
      } ∷ record {
        section = None;
        armed = None;
        last_lr = (Some 131128);
        cache = (way 1024 M false false ∷ []) ∷ [];
        raised = None;
        held_line = (Some 1024);
        mail = [];
        told = [];
        upstream = [];
        fallback = false;
        tries = 0;
        clock = 0;
        seen = 0;
        attempt = None;
        predictor = record { counters = (patched (replicate 64 2) ([])); watch = None };
      } ∷ record {
        section = None;
        armed = None;
        last_lr = (Some 131128);
        cache = ([]) ∷ [];
        raised = (Some (request 3 1024 Read None));
        held_line = None;
        mail = [];
        told = [];
        upstream = [];
        fallback = false;
        tries = 0;
        clock = 0;
        seen = 0;
        attempt = None;
        predictor = record { counters = (patched (replicate 64 2) ([])); watch = None };
      } ∷ [];
  order = [];
  pcs = 131160 ∷ 131136 ∷ 131136 ∷ 131132 ∷ [];
  registers =
      (0 ∷ 0 ∷ 65856 ∷ 0 ∷ 0 ∷ 65536 ∷ 1 ∷ 65600 ∷ 0 ∷ 2 ∷ 0 ∷ 0 ∷ 1 ∷ 0 ∷ 0 ∷ 0 ∷ 0 ∷ 0 ∷ 0 ∷ 0 ∷ 0 ∷
      0 ∷ 0 ∷ 0 ∷ 0 ∷ 0 ∷ 0 ∷ 0 ∷ 0 ∷ 0 ∷ 0 ∷ 0 ∷ []) ∷
      (0 ∷ 0 ∷ 320 ∷ 0 ∷ 0 ∷ 65536 ∷ 1 ∷ 65600 ∷ 0 ∷ 2 ∷ 1 ∷ 1 ∷ 1 ∷ 0 ∷ 0 ∷ 0 ∷ 0 ∷ 0 ∷ 0 ∷ 0 ∷ 0 ∷
      0 ∷ 0 ∷ 0 ∷ 0 ∷ 0 ∷ 0 ∷ 0 ∷ 0 ∷ 0 ∷ 0 ∷ 0 ∷ []) ∷
      (0 ∷ 0 ∷ 4294902080 ∷ 0 ∷ 0 ∷ 65536 ∷ 1 ∷ 65600 ∷ 0 ∷ 2 ∷ 2 ∷ 1 ∷ 1 ∷ 0 ∷ 0 ∷ 0 ∷ 0 ∷ 0 ∷ 0 ∷
      0 ∷ 0 ∷ 0 ∷ 0 ∷ 0 ∷ 0 ∷ 0 ∷ 0 ∷ 0 ∷ 0 ∷ 0 ∷ 0 ∷ 0 ∷ []) ∷
      (0 ∷ 0 ∷ 4294836544 ∷ 0 ∷ 0 ∷ 65536 ∷ 1 ∷ 65600 ∷ 0 ∷ 2 ∷ 3 ∷ 1 ∷ 1 ∷ 0 ∷ 0 ∷ 0 ∷ 0 ∷ 0 ∷ 0 ∷
      0 ∷ 0 ∷ 0 ∷ 0 ∷ 0 ∷ 0 ∷ 0 ∷ 0 ∷ 0 ∷ 0 ∷ 0 ∷ 0 ∷ 0 ∷ []) ∷
      [];
  bytes = patched (replicate 320 0) ([]);
}

ending : ending_of (state_after first events) ≡ last
unfolding computing
ending = refl
