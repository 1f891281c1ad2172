-- 3 harts in lock removal, 300 random events over LR and SC: 8 of Armed, 3 of LetGo, 1 of Ordered that let harts go,
-- 1 of Served that let harts go
use Rattle.std.proofs.Common.{◌≡◌, ℕ, true, false, List, [], ◌∷◌, Some, None, replicate, refl}
use Rattle.el_base.specs.HartId.{hart_id}
use Rattle.el_base.specs.LineAddr.{line_addr}
use Rattle.el_base.specs.declared.config.Config.{Config}
use Rattle.el_base.specs.declared.config.Mode.TheVariants.{Plain, Sle, Tlr}
use Rattle.el_base.specs.declared.events.Event.{Event}
use Rattle.el_base.specs.declared.events.Kind.TheVariants.{Step, Order, Serve, Deliver}
use Rattle.el_base.specs.declared.outcomes.Cause.TheVariants.{Room, Lines, Long, Call, Mixed}
use Rattle.el_base.specs.declared.outcomes.Need.TheVariants.{Read, Write}
use Rattle.el_base.specs.declared.outcomes.Outcome.{Outcome}
use Rattle.el_base.specs.declared.outcomes.Outcome.TheVariants.{Idle, Stalled, Missed, Ran, Began, Buffered, Committed}
use Rattle.el_base.specs.declared.outcomes.Outcome.TheVariants.{RolledBack, Blocked}
use Rattle.el_base.specs.declared.outcomes.Outcome.TheVariants.{Delivered, Armed, LetGo}
use Rattle.el_base.specs.declared.outcomes.Why.TheVariants.{Behind, Retained, Locked}
use Rattle.computed_runs.proofs.Computing.{computing}
use Rattle.computed_runs.proofs.Given.{Ending, armed, ending_of, event, first_state, lost, ordered_with, patched}
use Rattle.computed_runs.proofs.Given.{request, section, served_with}
use Rattle.computed_runs.proofs.Given.{stamp, watch, way}
use Rattle.el_model.specs.Next.{outcomes_from, state_after}
use Rattle.el_model.specs.State.{Hart, ModelState}
use Rattle.mail.specs.Mailbox.{Marker, Probe}
use Rattle.moesi.specs.declared.letter.Letter.TheVariants.{M, O, E, S}

abbrev config : Config
config = record {
  harts = 3;
  mode = Tlr;
  sets = 2;
  ways = 2;
  lines = 1;
  long = 3;
  steps = 300;
}

abbrev words : List ℕ
words =
    66231 ∷ 1049363 ∷ 2098323 ∷ 67273619 ∷ 328803 ∷ 268674095 ∷ 402892207 ∷ 209888771 ∷ 134455343 ∷ 67273619 ∷
    9765987 ∷ 268674095 ∷ 1443347 ∷ 4261682403 ∷ 412329391 ∷ 365667 ∷ 173571 ∷ 412264239 ∷ 268608559 ∷ 268608559 ∷
    412264239 ∷ 76710051 ∷ 6464547 ∷ 172067 ∷ 4208980079 ∷ []

abbrev first : ModelState
first = first_state config 65536 256 131072 words

abbrev events : List Event
events =
    event Step 0 ∷ event Step 0 ∷ event Step 2 ∷ event Step 0 ∷ event Order 0 ∷ event Step 1 ∷ event Deliver 1 ∷
    event Deliver 0 ∷ event Order 1 ∷ event Step 1 ∷ event Step 2 ∷ event Deliver 0 ∷ event Deliver 2 ∷ event Order 1 ∷
    event Step 0 ∷ event Order 1 ∷ event Order 2 ∷ event Step 1 ∷ event Step 0 ∷ event Order 2 ∷ event Deliver 1 ∷
    event Deliver 1 ∷ event Order 0 ∷ event Order 2 ∷ event Step 1 ∷ event Step 1 ∷ event Deliver 0 ∷ event Step 1 ∷
    event Deliver 2 ∷ event Deliver 1 ∷ event Step 2 ∷ event Step 0 ∷ event Serve 1 ∷ event Step 2 ∷ event Step 2 ∷
    event Serve 0 ∷ event Step 0 ∷ event Order 0 ∷ event Deliver 1 ∷ event Serve 0 ∷ event Order 1 ∷ event Step 0 ∷
    event Serve 1 ∷ event Step 0 ∷ event Order 1 ∷ event Step 2 ∷ event Order 0 ∷ event Step 1 ∷ event Serve 1 ∷
    event Order 2 ∷ event Step 0 ∷ event Step 1 ∷ event Step 2 ∷ event Deliver 2 ∷ event Step 1 ∷ event Step 2 ∷
    event Order 1 ∷ event Serve 2 ∷ event Order 1 ∷ event Deliver 0 ∷ event Serve 2 ∷ event Step 2 ∷ event Step 2 ∷
    event Serve 0 ∷ event Serve 2 ∷ event Step 2 ∷ event Deliver 0 ∷ event Serve 2 ∷ event Step 0 ∷ event Deliver 1 ∷
    event Step 2 ∷ event Serve 2 ∷ event Step 1 ∷ event Order 0 ∷ event Order 2 ∷ event Order 1 ∷ event Serve 0 ∷
    event Step 2 ∷ event Step 1 ∷ event Deliver 2 ∷ event Serve 0 ∷ event Order 1 ∷ event Serve 1 ∷ event Deliver 0 ∷
    event Order 2 ∷ event Step 0 ∷ event Serve 2 ∷ event Step 1 ∷ event Serve 1 ∷ event Step 1 ∷ event Step 0 ∷
    event Order 2 ∷ event Deliver 0 ∷ event Order 1 ∷ event Step 2 ∷ event Step 0 ∷ event Deliver 0 ∷ event Step 0 ∷
    event Step 2 ∷ event Order 2 ∷ event Step 2 ∷ event Order 0 ∷ event Serve 1 ∷ event Step 1 ∷ event Serve 2 ∷
    event Serve 0 ∷ event Order 1 ∷ event Serve 2 ∷ event Step 0 ∷ event Step 0 ∷ event Serve 1 ∷ event Step 2 ∷
    event Step 2 ∷ event Deliver 2 ∷ event Order 2 ∷ event Step 0 ∷ event Serve 2 ∷ event Step 2 ∷ event Serve 2 ∷
    event Step 1 ∷ event Order 1 ∷ event Step 1 ∷ event Step 1 ∷ event Serve 0 ∷ event Order 0 ∷ event Order 1 ∷
    event Deliver 0 ∷ event Serve 0 ∷ event Deliver 2 ∷ event Order 1 ∷ event Step 1 ∷ event Serve 2 ∷ event Step 1 ∷
    event Step 1 ∷ event Step 2 ∷ event Order 2 ∷ event Step 1 ∷ event Serve 2 ∷ event Serve 0 ∷ event Serve 2 ∷
    event Step 0 ∷ event Order 1 ∷ event Step 0 ∷ event Step 1 ∷ event Step 0 ∷ event Deliver 1 ∷ event Step 1 ∷
    event Step 0 ∷ event Step 0 ∷ event Step 1 ∷ event Serve 2 ∷ event Deliver 0 ∷ event Step 2 ∷ event Deliver 2 ∷
    event Order 2 ∷ event Order 0 ∷ event Order 2 ∷ event Step 2 ∷ event Serve 0 ∷ event Step 2 ∷ event Step 2 ∷
    event Deliver 1 ∷ event Step 0 ∷ event Serve 0 ∷ event Step 2 ∷ event Step 0 ∷ event Step 0 ∷ event Step 2 ∷
    event Serve 1 ∷ event Step 2 ∷ event Serve 0 ∷ event Step 0 ∷ event Step 1 ∷ event Step 2 ∷ event Step 0 ∷
    event Step 1 ∷ event Deliver 2 ∷ event Step 2 ∷ event Step 1 ∷ event Order 0 ∷ event Order 2 ∷ event Serve 2 ∷
    event Serve 0 ∷ event Step 0 ∷ event Order 2 ∷ event Step 0 ∷ event Deliver 1 ∷ event Deliver 2 ∷ event Serve 0 ∷
    event Step 2 ∷ event Step 2 ∷ event Step 2 ∷ event Deliver 0 ∷ event Step 0 ∷ event Order 2 ∷ event Step 0 ∷
    event Order 2 ∷ event Order 2 ∷ event Step 1 ∷ event Deliver 1 ∷ event Order 1 ∷ event Deliver 1 ∷ event Order 0 ∷
    event Deliver 0 ∷ event Order 0 ∷ event Deliver 1 ∷ event Serve 0 ∷ event Serve 1 ∷ event Step 1 ∷ event Serve 0 ∷
    event Step 0 ∷ event Deliver 1 ∷ event Step 0 ∷ event Step 0 ∷ event Step 0 ∷ event Step 2 ∷ event Deliver 2 ∷
    event Step 1 ∷ event Step 0 ∷ event Step 2 ∷ event Order 2 ∷ event Serve 2 ∷ event Step 2 ∷ event Step 0 ∷
    event Serve 0 ∷ event Serve 2 ∷ event Step 2 ∷ event Step 0 ∷ event Order 0 ∷ event Serve 1 ∷ event Step 0 ∷
    event Order 2 ∷ event Serve 2 ∷ event Step 0 ∷ event Step 0 ∷ event Step 2 ∷ event Step 2 ∷ event Order 0 ∷
    event Serve 0 ∷ event Order 1 ∷ event Step 2 ∷ event Order 2 ∷ event Serve 1 ∷ event Step 2 ∷ event Serve 0 ∷
    event Step 2 ∷ event Step 1 ∷ event Step 2 ∷ event Serve 0 ∷ event Deliver 1 ∷ event Step 0 ∷ event Order 2 ∷
    event Serve 2 ∷ event Step 0 ∷ event Step 0 ∷ event Step 0 ∷ event Order 2 ∷ event Step 2 ∷ event Deliver 0 ∷
    event Deliver 2 ∷ event Deliver 0 ∷ event Step 0 ∷ event Serve 1 ∷ event Deliver 1 ∷ event Step 2 ∷ event Step 2 ∷
    event Order 0 ∷ event Serve 0 ∷ event Order 1 ∷ event Order 0 ∷ event Order 1 ∷ event Order 0 ∷ event Step 0 ∷
    event Step 2 ∷ event Order 1 ∷ event Deliver 0 ∷ event Serve 1 ∷ event Order 2 ∷ event Order 2 ∷ event Order 2 ∷
    event Step 1 ∷ event Serve 2 ∷ event Order 1 ∷ event Step 2 ∷ event Serve 1 ∷ event Step 1 ∷ event Deliver 1 ∷
    event Order 0 ∷ event Deliver 0 ∷ event Step 0 ∷ event Order 1 ∷ event Order 0 ∷ event Step 2 ∷ event Serve 0 ∷
    event Order 2 ∷ event Serve 1 ∷ event Step 0 ∷ event Step 0 ∷ event Order 0 ∷ event Serve 0 ∷ []

abbrev expected : List Outcome
expected =
    Ran ∷ Ran ∷ Ran ∷ Ran ∷ Idle ∷ Ran ∷ Idle ∷ Idle ∷ Idle ∷ Ran ∷ Ran ∷ Idle ∷ Idle ∷ Idle ∷ Ran ∷ Idle ∷ Idle ∷
    Ran ∷ Ran ∷ Idle ∷ Idle ∷ Idle ∷ Idle ∷ Idle ∷ Ran ∷ Ran ∷ Idle ∷ Missed (line_addr 1025) Read ∷ Idle ∷ Idle ∷
    Ran ∷ Ran ∷ Idle ∷ Ran ∷ Ran ∷ Idle ∷ Missed (line_addr 1027) Read ∷ ordered_with [] [] ∷ Idle ∷
    served_with [] [] ∷ ordered_with [] [] ∷ Ran ∷ served_with [] [] ∷ Missed (line_addr 1025) Read ∷ Idle ∷
    Missed (line_addr 1025) Read ∷ ordered_with [] [] ∷ Armed ∷ Idle ∷ ordered_with [] [] ∷ Stalled ∷ LetGo 1 ∷
    Stalled ∷ Delivered (lost []) ∷ Ran ∷ Stalled ∷ Idle ∷ Blocked Behind (hart_id 0) ∷ Idle ∷ Delivered (lost []) ∷
    Blocked Behind (hart_id 0) ∷ Stalled ∷ Stalled ∷ served_with [] [] ∷ Blocked Locked (hart_id 0) ∷ Stalled ∷ Idle ∷
    Blocked Locked (hart_id 0) ∷ Missed (line_addr 1025) Write ∷ Idle ∷ Stalled ∷ served_with [] [] ∷
    Missed (line_addr 1027) Read ∷ ordered_with [] [] ∷ Idle ∷ ordered_with [] [] ∷ Blocked Locked (hart_id 2) ∷ Ran ∷
    Stalled ∷ Idle ∷ served_with [] [] ∷ Idle ∷ served_with [] [] ∷ Idle ∷ Idle ∷ Ran ∷ Idle ∷ Ran ∷ Idle ∷
    Missed (line_addr 1025) Read ∷ Ran ∷ Idle ∷ Idle ∷ ordered_with [] [] ∷ Ran ∷ Ran ∷ Idle ∷ Armed ∷
    Missed (line_addr 1027) Read ∷ ordered_with [] [] ∷ Stalled ∷ Idle ∷ served_with [] [] ∷
    Missed (line_addr 1025) Write ∷ served_with [] [] ∷ Idle ∷ ordered_with [] ((0, 1) ∷ []) ∷ Idle ∷ Ran ∷ Ran ∷
    served_with [] [] ∷ Ran ∷ Missed (line_addr 1025) Read ∷ Idle ∷ ordered_with [] [] ∷
    Missed (line_addr 1025) Write ∷ Blocked Locked (hart_id 1) ∷ Stalled ∷ Blocked Locked (hart_id 1) ∷ Ran ∷ Idle ∷
    Ran ∷ Ran ∷ Idle ∷ ordered_with [] [] ∷ Idle ∷ Delivered (lost []) ∷ Blocked Behind (hart_id 2) ∷
    Delivered (lost []) ∷ Idle ∷ Ran ∷ served_with [] [] ∷ Ran ∷ Ran ∷ Missed (line_addr 1025) Write ∷
    ordered_with [] [] ∷ Missed (line_addr 1025) Write ∷ Blocked Behind (hart_id 0) ∷ served_with [] [] ∷
    Blocked Locked (hart_id 0) ∷ Ran ∷ ordered_with [] [] ∷ Ran ∷ Stalled ∷ Ran ∷ Delivered (lost []) ∷ Stalled ∷
    Missed (line_addr 1024) Read ∷ Stalled ∷ Stalled ∷ served_with [] [] ∷ Idle ∷ Ran ∷ Delivered (lost []) ∷ Idle ∷
    ordered_with [] [] ∷ Idle ∷ Ran ∷ served_with [] [] ∷ Ran ∷ Ran ∷ Idle ∷ Armed ∷ Idle ∷ Ran ∷ LetGo 1 ∷ Armed ∷
    Ran ∷ served_with [] [] ∷ Ran ∷ Idle ∷ Began ∷ Ran ∷ Ran ∷ Missed (line_addr 1025) Write ∷ Ran ∷ Idle ∷
    Missed (line_addr 1024) Read ∷ Ran ∷ ordered_with [] [] ∷ ordered_with [] [] ∷ served_with [] [] ∷
    served_with [] [] ∷ Buffered ∷ Idle ∷ RolledBack Long ∷ Idle ∷ Idle ∷ Idle ∷ Armed ∷ LetGo 1 ∷ Armed ∷ Idle ∷ Ran ∷
    Idle ∷ Missed (line_addr 1024) Write ∷ Idle ∷ Idle ∷ Missed (line_addr 1024) Read ∷ Idle ∷ ordered_with [] [] ∷
    Idle ∷ ordered_with [] [] ∷ Delivered (lost []) ∷ Idle ∷ Delivered (lost []) ∷ Blocked Behind (hart_id 1) ∷
    served_with [] ((2, 1) ∷ []) ∷ Ran ∷ served_with [] [] ∷ Ran ∷ Idle ∷ Ran ∷ Ran ∷ Ran ∷ Ran ∷ Idle ∷
    Missed (line_addr 1024) Read ∷ Ran ∷ Missed (line_addr 1025) Write ∷ ordered_with [] [] ∷ served_with [] [] ∷ Ran ∷
    Ran ∷ Idle ∷ Idle ∷ Missed (line_addr 1024) Write ∷ Ran ∷ Idle ∷ Idle ∷ Ran ∷ ordered_with [] [] ∷
    served_with [] [] ∷ Ran ∷ Missed (line_addr 1025) Read ∷ Ran ∷ Ran ∷ ordered_with [] [] ∷ served_with [] [] ∷
    ordered_with [] [] ∷ Ran ∷ Idle ∷ served_with [] [] ∷ Ran ∷ Idle ∷ Ran ∷ Armed ∷ Armed ∷ Idle ∷ Idle ∷ Began ∷
    Idle ∷ Idle ∷ Buffered ∷ Buffered ∷ RolledBack Long ∷ Idle ∷ Began ∷ Idle ∷ Idle ∷ Idle ∷
    Missed (line_addr 1025) Write ∷ Idle ∷ Idle ∷ Buffered ∷ RolledBack Long ∷ ordered_with [] [] ∷ served_with [] [] ∷
    Idle ∷ Idle ∷ Idle ∷ Idle ∷ Ran ∷ Missed (line_addr 1025) Read ∷ Idle ∷ Idle ∷ Idle ∷ ordered_with [] [] ∷ Idle ∷
    Idle ∷ Began ∷ served_with [] [] ∷ Idle ∷ Ran ∷ Idle ∷ Missed (line_addr 1025) Write ∷ Idle ∷ Idle ∷ Idle ∷ Ran ∷
    ordered_with [] [] ∷ Idle ∷ Missed (line_addr 1025) Write ∷ Idle ∷ ordered_with [] [] ∷ served_with [] [] ∷ Ran ∷
    Missed (line_addr 1025) Read ∷ ordered_with [] [] ∷ Blocked Behind (hart_id 2) ∷ []

outcomes : outcomes_from first events ≡ expected
unfolding computing
outcomes = refl

abbrev last : Ending
last = record {
  harts =
      record {
        section = None;
        armed = None;
        last_lr = (Some 131148);
        cache = ([]) ∷ (way 1027 S false false ∷ []) ∷ [];
        raised = None;
        held_line = None;
        mail = Marker 2 ∷ [];
        told = [];
        upstream = [];
        fallback = false;
        tries = 0;
        clock = 2;
        seen = 0;
        attempt = None;
        predictor = record { counters = (patched (replicate 64 2) ((8, 0) ∷ (19, 0) ∷ [])); watch = None };
      } ∷ record {
        section = (Some (section 2 65536 0 2));
        armed = None;
        last_lr = (Some 131144);
        cache = (way 1024 S true false ∷ []) ∷ (way 1025 M false true ∷ way 1027 S false false ∷ []) ∷ [];
        raised = None;
        held_line = None;
        mail = [];
        told = [];
        upstream = [];
        fallback = false;
        tries = 0;
        clock = 0;
        seen = 0;
        attempt = (Some (stamp 0 1));
        predictor = record { counters = (patched (replicate 64 2) ([])); watch = None };
      } ∷ record {
        section = None;
        armed = None;
        last_lr = (Some 131092);
        cache = (way 1024 O false false ∷ []) ∷ (way 1027 S false false ∷ []) ∷ [];
        raised = None;
        held_line = None;
        mail = Marker 1 ∷ [];
        told = [];
        upstream = [];
        fallback = true;
        tries = 0;
        clock = 1;
        seen = 0;
        attempt = None;
        predictor = record { counters = (patched (replicate 64 2) ((5, 1) ∷ [])); watch = None };
      } ∷ [];
  order = (request 2 1025 Write None) ∷ (request 0 1025 Read None) ∷ [];
  pcs = 131116 ∷ 131148 ∷ 131096 ∷ [];
  registers =
      (0 ∷ 0 ∷ 65792 ∷ 0 ∷ 0 ∷ 65536 ∷ 1 ∷ 65600 ∷ 0 ∷ 2 ∷ 0 ∷ 1 ∷ 0 ∷ 0 ∷ 0 ∷ 0 ∷ 0 ∷ 0 ∷ 0 ∷ 0 ∷ 0 ∷
      0 ∷ 0 ∷ 0 ∷ 0 ∷ 0 ∷ 0 ∷ 0 ∷ 0 ∷ 0 ∷ 0 ∷ 0 ∷ []) ∷
      (0 ∷ 0 ∷ 256 ∷ 0 ∷ 0 ∷ 65536 ∷ 1 ∷ 65600 ∷ 0 ∷ 2 ∷ 1 ∷ 1 ∷ 1 ∷ 0 ∷ 1 ∷ 0 ∷ 0 ∷ 0 ∷ 0 ∷ 0 ∷ 0 ∷
      0 ∷ 0 ∷ 0 ∷ 0 ∷ 0 ∷ 0 ∷ 0 ∷ 0 ∷ 0 ∷ 0 ∷ 0 ∷ []) ∷
      (0 ∷ 0 ∷ 4294902016 ∷ 0 ∷ 0 ∷ 65536 ∷ 1 ∷ 65600 ∷ 0 ∷ 2 ∷ 2 ∷ 1 ∷ 1 ∷ 0 ∷ 1 ∷ 0 ∷ 0 ∷ 0 ∷ 0 ∷
      0 ∷ 0 ∷ 0 ∷ 0 ∷ 0 ∷ 0 ∷ 0 ∷ 0 ∷ 0 ∷ 0 ∷ 0 ∷ 0 ∷ 0 ∷ []) ∷
      [];
  bytes = patched (replicate 256 0) ((8, 1) ∷ []);
}

ending : ending_of (state_after first events) ≡ last
unfolding computing
ending = refl
