-- 3 harts in lock removal, 300 random events over LR and SC: 8 of Armed, 3 of LetGo, 1 of Served that let harts go
use Rattle.std.proofs.Common.{◌≡◌, ℕ, true, false, List, [], ◌∷◌, Some, None, replicate, refl}
use Rattle.el_base.specs.HartId.{hart_id}
use Rattle.el_base.specs.LineAddr.{line_addr}
use Rattle.el_base.specs.declared.config.Config.{Config}
use Rattle.el_base.specs.declared.config.Mode.TheVariants.{Plain, Sle, Tlr}
use Rattle.el_base.specs.declared.events.Event.{Event}
use Rattle.el_base.specs.declared.events.Kind.TheVariants.{Step, Order, Serve, Deliver}
use Rattle.el_base.specs.declared.outcomes.Cause.TheVariants.{Room, Lines, Long, Call, Mixed}
use Rattle.el_base.specs.declared.outcomes.Need.TheVariants.{Read, Write}
use Rattle.el_base.specs.declared.outcomes.Outcome.{Outcome}
use Rattle.el_base.specs.declared.outcomes.Outcome.TheVariants.{Idle, Stalled, Missed, Ran, Began, Buffered, Committed}
use Rattle.el_base.specs.declared.outcomes.Outcome.TheVariants.{RolledBack, Blocked}
use Rattle.el_base.specs.declared.outcomes.Outcome.TheVariants.{Delivered, Armed, LetGo}
use Rattle.el_base.specs.declared.outcomes.Why.TheVariants.{Behind, Retained, Locked}
use Rattle.computed_runs.proofs.Computing.{computing}
use Rattle.computed_runs.proofs.Given.{Ending, armed, ending_of, event, first_state, lost, ordered_with, patched}
use Rattle.computed_runs.proofs.Given.{request, section, served_with}
use Rattle.computed_runs.proofs.Given.{stamp, watch, way}
use Rattle.el_model.specs.Next.{outcomes_from, state_after}
use Rattle.el_model.specs.State.{Hart, ModelState}
use Rattle.mail.specs.Mailbox.{Marker, Probe}
use Rattle.moesi.specs.declared.letter.Letter.TheVariants.{M, O, E, S}

abbrev config : Config
config = record {
  harts = 3;
  mode = Tlr;
  sets = 2;
  ways = 1;
  lines = 2;
  long = 3;
  steps = 300;
}

abbrev words : List ℕ
words =
    66231 ∷ 1049363 ∷ 2098323 ∷ 268608559 ∷ 267363 ∷ 412263855 ∷ 67273619 ∷ 6620259 ∷ 268674095 ∷ 268674095 ∷
    409183663 ∷ 365667 ∷ 63088131 ∷ 173571 ∷ 63088131 ∷ 174239267 ∷ 4242534511 ∷ []

abbrev first : ModelState
first = first_state config 65536 192 131072 words

abbrev events : List Event
events =
    event Step 2 ∷ event Step 0 ∷ event Step 1 ∷ event Step 0 ∷ event Step 2 ∷ event Order 2 ∷ event Step 0 ∷
    event Step 0 ∷ event Step 2 ∷ event Order 1 ∷ event Serve 2 ∷ event Serve 2 ∷ event Step 2 ∷ event Step 1 ∷
    event Order 0 ∷ event Step 1 ∷ event Serve 1 ∷ event Serve 0 ∷ event Order 0 ∷ event Deliver 0 ∷ event Step 1 ∷
    event Order 2 ∷ event Serve 2 ∷ event Order 1 ∷ event Serve 1 ∷ event Order 1 ∷ event Serve 2 ∷ event Serve 0 ∷
    event Order 1 ∷ event Serve 1 ∷ event Step 0 ∷ event Serve 2 ∷ event Step 0 ∷ event Step 0 ∷ event Deliver 1 ∷
    event Serve 1 ∷ event Step 0 ∷ event Deliver 2 ∷ event Step 0 ∷ event Step 0 ∷ event Step 2 ∷ event Deliver 1 ∷
    event Step 0 ∷ event Order 1 ∷ event Order 0 ∷ event Serve 1 ∷ event Deliver 1 ∷ event Serve 0 ∷ event Serve 0 ∷
    event Step 2 ∷ event Order 0 ∷ event Serve 0 ∷ event Deliver 0 ∷ event Step 2 ∷ event Serve 0 ∷ event Step 2 ∷
    event Order 1 ∷ event Order 1 ∷ event Deliver 1 ∷ event Serve 2 ∷ event Serve 0 ∷ event Order 2 ∷ event Serve 2 ∷
    event Serve 2 ∷ event Deliver 2 ∷ event Serve 2 ∷ event Deliver 0 ∷ event Serve 0 ∷ event Deliver 1 ∷
    event Serve 2 ∷ event Deliver 1 ∷ event Step 1 ∷ event Deliver 2 ∷ event Serve 0 ∷ event Order 0 ∷
    event Deliver 1 ∷ event Serve 2 ∷ event Step 1 ∷ event Step 0 ∷ event Serve 2 ∷ event Step 2 ∷ event Step 2 ∷
    event Step 2 ∷ event Step 2 ∷ event Order 2 ∷ event Order 0 ∷ event Order 0 ∷ event Step 1 ∷ event Serve 2 ∷
    event Step 1 ∷ event Step 2 ∷ event Step 2 ∷ event Order 2 ∷ event Step 1 ∷ event Step 0 ∷ event Step 1 ∷
    event Order 1 ∷ event Serve 1 ∷ event Step 1 ∷ event Order 2 ∷ event Step 0 ∷ event Step 0 ∷ event Step 1 ∷
    event Order 0 ∷ event Serve 0 ∷ event Step 2 ∷ event Serve 2 ∷ event Step 0 ∷ event Order 0 ∷ event Step 2 ∷
    event Step 0 ∷ event Order 2 ∷ event Deliver 0 ∷ event Step 0 ∷ event Step 1 ∷ event Step 0 ∷ event Order 1 ∷
    event Step 2 ∷ event Serve 0 ∷ event Step 1 ∷ event Order 1 ∷ event Step 1 ∷ event Step 1 ∷ event Deliver 2 ∷
    event Order 1 ∷ event Step 0 ∷ event Deliver 1 ∷ event Step 2 ∷ event Serve 1 ∷ event Deliver 0 ∷ event Serve 1 ∷
    event Step 2 ∷ event Deliver 1 ∷ event Deliver 0 ∷ event Serve 1 ∷ event Order 1 ∷ event Deliver 0 ∷
    event Deliver 2 ∷ event Step 0 ∷ event Step 2 ∷ event Step 0 ∷ event Step 0 ∷ event Deliver 0 ∷ event Step 2 ∷
    event Order 0 ∷ event Order 2 ∷ event Deliver 0 ∷ event Order 2 ∷ event Step 0 ∷ event Serve 0 ∷ event Deliver 2 ∷
    event Order 0 ∷ event Serve 1 ∷ event Serve 0 ∷ event Deliver 2 ∷ event Deliver 1 ∷ event Serve 2 ∷ event Step 1 ∷
    event Step 0 ∷ event Deliver 2 ∷ event Serve 0 ∷ event Step 0 ∷ event Deliver 0 ∷ event Step 1 ∷ event Serve 2 ∷
    event Order 1 ∷ event Step 0 ∷ event Step 0 ∷ event Step 1 ∷ event Order 0 ∷ event Deliver 0 ∷ event Serve 0 ∷
    event Order 1 ∷ event Step 1 ∷ event Step 0 ∷ event Step 2 ∷ event Serve 1 ∷ event Step 0 ∷ event Step 2 ∷
    event Step 2 ∷ event Step 2 ∷ event Serve 0 ∷ event Deliver 2 ∷ event Order 0 ∷ event Step 0 ∷ event Step 1 ∷
    event Step 0 ∷ event Deliver 2 ∷ event Step 1 ∷ event Order 1 ∷ event Order 0 ∷ event Deliver 2 ∷ event Step 1 ∷
    event Serve 1 ∷ event Serve 0 ∷ event Step 2 ∷ event Serve 2 ∷ event Step 1 ∷ event Order 2 ∷ event Step 1 ∷
    event Serve 2 ∷ event Order 1 ∷ event Deliver 2 ∷ event Serve 2 ∷ event Step 0 ∷ event Serve 2 ∷ event Order 0 ∷
    event Deliver 1 ∷ event Deliver 2 ∷ event Serve 2 ∷ event Deliver 0 ∷ event Order 0 ∷ event Step 0 ∷
    event Order 1 ∷ event Step 0 ∷ event Serve 1 ∷ event Serve 0 ∷ event Order 0 ∷ event Serve 0 ∷ event Order 1 ∷
    event Deliver 1 ∷ event Serve 1 ∷ event Order 2 ∷ event Step 0 ∷ event Serve 1 ∷ event Serve 1 ∷ event Step 2 ∷
    event Serve 0 ∷ event Order 0 ∷ event Serve 2 ∷ event Serve 1 ∷ event Step 2 ∷ event Deliver 0 ∷ event Serve 1 ∷
    event Step 0 ∷ event Step 0 ∷ event Step 2 ∷ event Order 2 ∷ event Serve 2 ∷ event Step 1 ∷ event Order 1 ∷
    event Deliver 2 ∷ event Step 1 ∷ event Deliver 2 ∷ event Step 0 ∷ event Order 0 ∷ event Deliver 2 ∷ event Step 0 ∷
    event Serve 2 ∷ event Step 2 ∷ event Step 1 ∷ event Serve 2 ∷ event Order 2 ∷ event Deliver 2 ∷ event Step 2 ∷
    event Deliver 0 ∷ event Order 1 ∷ event Serve 1 ∷ event Serve 1 ∷ event Order 2 ∷ event Deliver 0 ∷
    event Deliver 0 ∷ event Step 2 ∷ event Step 2 ∷ event Step 0 ∷ event Serve 2 ∷ event Serve 0 ∷ event Deliver 0 ∷
    event Serve 0 ∷ event Deliver 2 ∷ event Step 2 ∷ event Deliver 0 ∷ event Serve 0 ∷ event Deliver 1 ∷ event Step 1 ∷
    event Deliver 2 ∷ event Step 1 ∷ event Step 0 ∷ event Order 2 ∷ event Step 2 ∷ event Step 2 ∷ event Step 1 ∷
    event Step 1 ∷ event Step 1 ∷ event Step 2 ∷ event Order 2 ∷ event Step 1 ∷ event Deliver 0 ∷ event Serve 2 ∷
    event Deliver 1 ∷ event Order 0 ∷ event Step 2 ∷ event Serve 0 ∷ event Step 2 ∷ event Deliver 2 ∷ event Step 0 ∷
    event Order 1 ∷ event Deliver 2 ∷ event Serve 1 ∷ event Step 1 ∷ []

abbrev expected : List Outcome
expected =
    Ran ∷ Ran ∷ Ran ∷ Ran ∷ Ran ∷ Idle ∷ Ran ∷ Missed (line_addr 1024) Read ∷ Ran ∷ Idle ∷ Idle ∷ Idle ∷
    Missed (line_addr 1024) Read ∷ Ran ∷ ordered_with [] [] ∷ Ran ∷ Idle ∷ served_with [] [] ∷ Idle ∷ Idle ∷
    Missed (line_addr 1024) Read ∷ ordered_with [] [] ∷ Blocked Locked (hart_id 0) ∷ ordered_with [] [] ∷
    Blocked Behind (hart_id 2) ∷ Idle ∷ Blocked Locked (hart_id 0) ∷ Idle ∷ Idle ∷ Blocked Behind (hart_id 2) ∷ Armed ∷
    served_with [] [] ∷ Buffered ∷ Began ∷ Delivered (lost []) ∷ Blocked Locked (hart_id 2) ∷ RolledBack Long ∷
    Delivered (lost []) ∷ Ran ∷ Ran ∷ Armed ∷ Idle ∷ Missed (line_addr 1024) Write ∷ Idle ∷ ordered_with [] [] ∷
    served_with [] ((2, 1) ∷ []) ∷ Idle ∷ Blocked Locked (hart_id 1) ∷ Blocked Locked (hart_id 1) ∷ Ran ∷ Idle ∷
    Blocked Locked (hart_id 1) ∷ Delivered (lost []) ∷ Missed (line_addr 1024) Write ∷ Blocked Locked (hart_id 1) ∷
    Stalled ∷ Idle ∷ Idle ∷ Delivered (lost []) ∷ Idle ∷ Blocked Locked (hart_id 1) ∷ ordered_with [] [] ∷
    Blocked Behind (hart_id 0) ∷ Blocked Behind (hart_id 0) ∷ Delivered (lost []) ∷ Blocked Behind (hart_id 0) ∷
    Delivered (lost []) ∷ Blocked Locked (hart_id 1) ∷ Delivered (lost []) ∷ Blocked Behind (hart_id 0) ∷ Idle ∷ Ran ∷
    Idle ∷ served_with [] [] ∷ Idle ∷ Idle ∷ Blocked Locked (hart_id 0) ∷ Ran ∷ Ran ∷ served_with [] [] ∷ Ran ∷ Ran ∷
    Ran ∷ Missed (line_addr 1025) Read ∷ ordered_with [] [] ∷ Idle ∷ Idle ∷ Ran ∷ served_with [] [] ∷ Ran ∷ Armed ∷
    LetGo 1 ∷ Idle ∷ Ran ∷ Ran ∷ Missed (line_addr 1025) Read ∷ ordered_with [] [] ∷ served_with [] [] ∷ Armed ∷ Idle ∷
    Ran ∷ Missed (line_addr 1025) Read ∷ Began ∷ ordered_with [] [] ∷ served_with [] [] ∷ Armed ∷ Idle ∷ Armed ∷ Idle ∷
    Began ∷ LetGo 1 ∷ Idle ∷ Idle ∷ Armed ∷ Buffered ∷ Began ∷ Idle ∷ Buffered ∷ Idle ∷ RolledBack Long ∷ Idle ∷ Ran ∷
    Missed (line_addr 1025) Write ∷ Idle ∷ ordered_with [] [] ∷ Buffered ∷ Delivered (lost []) ∷ RolledBack Long ∷
    Blocked Retained (hart_id 0) ∷ Delivered (lost []) ∷ Blocked Retained (hart_id 0) ∷ Ran ∷ Delivered (lost []) ∷
    Idle ∷ Blocked Retained (hart_id 0) ∷ Idle ∷ Idle ∷ Delivered (lost []) ∷ RolledBack Long ∷
    Missed (line_addr 1025) Write ∷ Ran ∷ Missed (line_addr 1025) Write ∷ Idle ∷ Stalled ∷ ordered_with [] [] ∷
    ordered_with [] [] ∷ Delivered (lost []) ∷ Idle ∷ Stalled ∷ Blocked Behind (hart_id 1) ∷ Delivered (lost []) ∷
    Idle ∷ served_with [] [] ∷ Blocked Locked (hart_id 1) ∷ Idle ∷ Delivered (lost []) ∷ Blocked Behind (hart_id 0) ∷
    Ran ∷ Stalled ∷ Idle ∷ served_with [] [] ∷ Ran ∷ Delivered (lost []) ∷ Ran ∷ served_with [] [] ∷ Idle ∷ Ran ∷
    Missed (line_addr 1024) Read ∷ Missed (line_addr 1024) Read ∷ ordered_with [] [] ∷ Idle ∷ served_with [] [] ∷
    ordered_with [] [] ∷ Stalled ∷ Ran ∷ Ran ∷ served_with [] [] ∷ Ran ∷ Ran ∷ Ran ∷ Ran ∷ Idle ∷ Idle ∷ Idle ∷
    Missed (line_addr 1026) Write ∷ Ran ∷ Stalled ∷ Idle ∷ Ran ∷ Idle ∷ ordered_with [] [] ∷ Idle ∷ Ran ∷ Idle ∷
    served_with [] [] ∷ Missed (line_addr 1026) Write ∷ Idle ∷ Missed (line_addr 1026) Write ∷ ordered_with [] [] ∷
    Stalled ∷ Blocked Locked (hart_id 0) ∷ ordered_with [] [] ∷ Idle ∷ Blocked Locked (hart_id 0) ∷ Ran ∷
    served_with [] [] ∷ Idle ∷ Delivered (lost []) ∷ Delivered (lost []) ∷ Idle ∷ Idle ∷ Idle ∷ Ran ∷ Idle ∷
    Missed (line_addr 1024) Read ∷ Blocked Locked (hart_id 2) ∷ Idle ∷ ordered_with [] [] ∷ served_with [] [] ∷ Idle ∷
    Idle ∷ Blocked Locked (hart_id 2) ∷ Idle ∷ Ran ∷ Blocked Locked (hart_id 2) ∷ Blocked Locked (hart_id 2) ∷ Ran ∷
    Idle ∷ Idle ∷ Idle ∷ served_with [] [] ∷ Ran ∷ Idle ∷ Idle ∷ Ran ∷ Ran ∷ Missed (line_addr 1024) Read ∷
    ordered_with [] [] ∷ served_with [] [] ∷ Ran ∷ Idle ∷ Idle ∷ Ran ∷ Idle ∷ Ran ∷ Idle ∷ Idle ∷
    Missed (line_addr 1025) Read ∷ Idle ∷ Ran ∷ Missed (line_addr 1024) Read ∷ Idle ∷ Idle ∷ Idle ∷ Ran ∷ Idle ∷
    ordered_with [] [] ∷ served_with [] [] ∷ Idle ∷ Idle ∷ Idle ∷ Idle ∷ Ran ∷ Ran ∷ Stalled ∷ Idle ∷ Idle ∷ Idle ∷
    Idle ∷ Idle ∷ Ran ∷ Idle ∷ Idle ∷ Idle ∷ Armed ∷ Idle ∷ Buffered ∷ Stalled ∷ Idle ∷ Ran ∷ Ran ∷ LetGo 2 ∷ Ran ∷
    Ran ∷ Ran ∷ Idle ∷ Missed (line_addr 1025) Read ∷ Idle ∷ Idle ∷ Idle ∷ ordered_with [] [] ∷ Ran ∷
    served_with [] [] ∷ Ran ∷ Idle ∷ Ran ∷ ordered_with [] [] ∷ Idle ∷ served_with [] [] ∷ Ran ∷ []

outcomes : outcomes_from first events ≡ expected
unfolding computing
outcomes = refl

abbrev last : Ending
last = record {
  harts =
      record {
        section = None;
        armed = None;
        last_lr = (Some 131104);
        cache = (way 1024 S false false ∷ []) ∷ (way 1025 S false false ∷ []) ∷ [];
        raised = None;
        held_line = None;
        mail = [];
        told = [];
        upstream = [];
        fallback = true;
        tries = 0;
        clock = 2;
        seen = 0;
        attempt = None;
        predictor = record { counters = (patched (replicate 64 2) ((3, 0) ∷ (9, 1) ∷ [])); watch = None };
      } ∷ record {
        section = None;
        armed = None;
        last_lr = (Some 131108);
        cache = (way 1024 S false false ∷ []) ∷ (way 1025 S false false ∷ []) ∷ [];
        raised = None;
        held_line = None;
        mail = [];
        told = [];
        upstream = [];
        fallback = false;
        tries = 0;
        clock = 1;
        seen = 0;
        attempt = None;
        predictor = record { counters = (patched (replicate 64 2) ((9, 0) ∷ [])); watch = None };
      } ∷ record {
        section = None;
        armed = None;
        last_lr = (Some 131108);
        cache = (way 1024 S false false ∷ []) ∷ (way 1025 O false false ∷ []) ∷ [];
        raised = None;
        held_line = None;
        mail = [];
        told = [];
        upstream = [];
        fallback = true;
        tries = 0;
        clock = 1;
        seen = 0;
        attempt = None;
        predictor = record { counters = (patched (replicate 64 2) ((9, 1) ∷ [])); watch = None };
      } ∷ [];
  order = [];
  pcs = 131108 ∷ 131112 ∷ 131128 ∷ [];
  registers =
      (0 ∷ 0 ∷ 65728 ∷ 0 ∷ 0 ∷ 65536 ∷ 1 ∷ 65600 ∷ 1 ∷ 2 ∷ 0 ∷ 1 ∷ 0 ∷ 0 ∷ 0 ∷ 0 ∷ 0 ∷ 0 ∷ 0 ∷ 0 ∷ 0 ∷
      0 ∷ 0 ∷ 0 ∷ 0 ∷ 0 ∷ 0 ∷ 0 ∷ 0 ∷ 0 ∷ 0 ∷ 0 ∷ []) ∷
      (0 ∷ 0 ∷ 192 ∷ 0 ∷ 0 ∷ 65536 ∷ 1 ∷ 65600 ∷ 1 ∷ 2 ∷ 1 ∷ 0 ∷ 0 ∷ 0 ∷ 0 ∷ 0 ∷ 0 ∷ 0 ∷ 0 ∷ 0 ∷ 0 ∷
      0 ∷ 0 ∷ 0 ∷ 0 ∷ 0 ∷ 0 ∷ 0 ∷ 0 ∷ 0 ∷ 0 ∷ 0 ∷ []) ∷
      (0 ∷ 0 ∷ 4294901952 ∷ 0 ∷ 0 ∷ 65536 ∷ 1 ∷ 65600 ∷ 1 ∷ 2 ∷ 2 ∷ 0 ∷ 2 ∷ 0 ∷ 0 ∷ 0 ∷ 0 ∷ 0 ∷ 0 ∷
      0 ∷ 0 ∷ 0 ∷ 0 ∷ 0 ∷ 0 ∷ 0 ∷ 0 ∷ 0 ∷ 0 ∷ 0 ∷ 0 ∷ 0 ∷ []) ∷
      [];
  bytes = patched (replicate 192 0) ((0, 2) ∷ (64, 1) ∷ (188, 1) ∷ []);
}

ending : ending_of (state_after first events) ≡ last
unfolding computing
ending = refl
