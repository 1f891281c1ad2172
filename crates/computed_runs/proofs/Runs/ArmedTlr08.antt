-- 2 harts in lock removal, 300 random events over LR and SC: 13 of Armed, 8 of LetGo, 1 of Ordered that let harts go
use Rattle.std.proofs.Common.{◌≡◌, ℕ, true, false, List, [], ◌∷◌, Some, None, replicate, refl}
use Rattle.el_base.specs.HartId.{hart_id}
use Rattle.el_base.specs.LineAddr.{line_addr}
use Rattle.el_base.specs.declared.config.Config.{Config}
use Rattle.el_base.specs.declared.config.Mode.TheVariants.{Plain, Sle, Tlr}
use Rattle.el_base.specs.declared.events.Event.{Event}
use Rattle.el_base.specs.declared.events.Kind.TheVariants.{Step, Order, Serve, Deliver}
use Rattle.el_base.specs.declared.outcomes.Cause.TheVariants.{Room, Lines, Long, Call, Mixed}
use Rattle.el_base.specs.declared.outcomes.Need.TheVariants.{Read, Write}
use Rattle.el_base.specs.declared.outcomes.Outcome.{Outcome}
use Rattle.el_base.specs.declared.outcomes.Outcome.TheVariants.{Idle, Stalled, Missed, Ran, Began, Buffered, Committed}
use Rattle.el_base.specs.declared.outcomes.Outcome.TheVariants.{RolledBack, Blocked}
use Rattle.el_base.specs.declared.outcomes.Outcome.TheVariants.{Delivered, Armed, LetGo}
use Rattle.el_base.specs.declared.outcomes.Why.TheVariants.{Behind, Retained, Locked}
use Rattle.computed_runs.proofs.Computing.{computing}
use Rattle.computed_runs.proofs.Given.{Ending, armed, ending_of, event, first_state, lost, ordered_with, patched}
use Rattle.computed_runs.proofs.Given.{request, section, served_with}
use Rattle.computed_runs.proofs.Given.{stamp, watch, way}
use Rattle.el_model.specs.Next.{outcomes_from, state_after}
use Rattle.el_model.specs.State.{Hart, ModelState}
use Rattle.mail.specs.Mailbox.{Marker, Probe}
use Rattle.moesi.specs.declared.letter.Letter.TheVariants.{M, O, E, S}

abbrev config : Config
config = record {
  harts = 2;
  mode = Tlr;
  sets = 2;
  ways = 3;
  lines = 2;
  long = 4;
  steps = 300;
}

abbrev words : List ℕ
words =
    66231 ∷ 1049363 ∷ 2098323 ∷ 67273619 ∷ 9765987 ∷ 268674095 ∷ 268674095 ∷ 412329391 ∷ 365667 ∷ 211984419 ∷ 237603 ∷
    6620259 ∷ 268608559 ∷ 402826671 ∷ 365667 ∷ 1443347 ∷ 412264239 ∷ 172067 ∷ 268608559 ∷ 1443347 ∷ 4261682403 ∷
    402826671 ∷ 365667 ∷ 172067 ∷ 4208980079 ∷ []

abbrev first : ModelState
first = first_state config 65536 256 131072 words

abbrev events : List Event
events =
    event Step 0 ∷ event Step 0 ∷ event Step 1 ∷ event Step 1 ∷ event Step 1 ∷ event Serve 0 ∷ event Deliver 0 ∷
    event Step 1 ∷ event Serve 1 ∷ event Step 0 ∷ event Step 0 ∷ event Step 1 ∷ event Serve 0 ∷ event Order 1 ∷
    event Step 0 ∷ event Order 1 ∷ event Step 0 ∷ event Step 1 ∷ event Order 1 ∷ event Step 0 ∷ event Serve 1 ∷
    event Order 0 ∷ event Step 0 ∷ event Step 1 ∷ event Serve 1 ∷ event Order 0 ∷ event Order 0 ∷ event Serve 0 ∷
    event Step 1 ∷ event Deliver 0 ∷ event Serve 1 ∷ event Step 0 ∷ event Serve 0 ∷ event Deliver 1 ∷ event Step 1 ∷
    event Step 1 ∷ event Step 0 ∷ event Deliver 1 ∷ event Step 1 ∷ event Step 0 ∷ event Order 0 ∷ event Deliver 1 ∷
    event Step 1 ∷ event Step 0 ∷ event Deliver 0 ∷ event Order 1 ∷ event Order 0 ∷ event Serve 1 ∷ event Order 0 ∷
    event Step 0 ∷ event Step 0 ∷ event Order 0 ∷ event Serve 0 ∷ event Step 1 ∷ event Serve 0 ∷ event Step 0 ∷
    event Step 0 ∷ event Order 0 ∷ event Step 0 ∷ event Step 0 ∷ event Order 0 ∷ event Step 1 ∷ event Deliver 1 ∷
    event Serve 0 ∷ event Serve 1 ∷ event Step 0 ∷ event Serve 0 ∷ event Step 0 ∷ event Step 0 ∷ event Deliver 0 ∷
    event Order 1 ∷ event Serve 1 ∷ event Step 1 ∷ event Step 0 ∷ event Step 1 ∷ event Step 1 ∷ event Step 1 ∷
    event Step 1 ∷ event Order 0 ∷ event Step 1 ∷ event Step 1 ∷ event Step 0 ∷ event Step 0 ∷ event Deliver 1 ∷
    event Deliver 1 ∷ event Serve 0 ∷ event Deliver 0 ∷ event Step 0 ∷ event Serve 0 ∷ event Step 1 ∷ event Order 1 ∷
    event Step 0 ∷ event Serve 1 ∷ event Step 0 ∷ event Step 1 ∷ event Order 0 ∷ event Serve 1 ∷ event Serve 0 ∷
    event Step 0 ∷ event Deliver 1 ∷ event Serve 0 ∷ event Order 1 ∷ event Serve 0 ∷ event Order 0 ∷ event Step 1 ∷
    event Step 0 ∷ event Order 0 ∷ event Step 1 ∷ event Order 0 ∷ event Step 0 ∷ event Step 1 ∷ event Step 0 ∷
    event Deliver 1 ∷ event Step 0 ∷ event Step 1 ∷ event Deliver 1 ∷ event Order 0 ∷ event Order 0 ∷ event Serve 0 ∷
    event Step 1 ∷ event Serve 1 ∷ event Order 1 ∷ event Deliver 0 ∷ event Step 1 ∷ event Serve 1 ∷ event Serve 1 ∷
    event Serve 1 ∷ event Serve 1 ∷ event Step 0 ∷ event Serve 1 ∷ event Step 0 ∷ event Step 1 ∷ event Step 0 ∷
    event Order 0 ∷ event Step 1 ∷ event Serve 0 ∷ event Deliver 1 ∷ event Step 0 ∷ event Step 1 ∷ event Deliver 0 ∷
    event Deliver 1 ∷ event Order 1 ∷ event Step 1 ∷ event Step 0 ∷ event Serve 1 ∷ event Order 0 ∷ event Deliver 0 ∷
    event Order 0 ∷ event Step 1 ∷ event Serve 0 ∷ event Step 0 ∷ event Deliver 1 ∷ event Serve 0 ∷ event Step 0 ∷
    event Step 1 ∷ event Order 1 ∷ event Serve 1 ∷ event Deliver 1 ∷ event Step 0 ∷ event Deliver 0 ∷ event Step 0 ∷
    event Step 1 ∷ event Step 0 ∷ event Deliver 0 ∷ event Serve 1 ∷ event Step 1 ∷ event Step 0 ∷ event Step 1 ∷
    event Deliver 1 ∷ event Step 1 ∷ event Step 1 ∷ event Order 0 ∷ event Step 0 ∷ event Step 0 ∷ event Step 0 ∷
    event Step 1 ∷ event Step 0 ∷ event Deliver 0 ∷ event Order 1 ∷ event Serve 1 ∷ event Deliver 0 ∷ event Serve 1 ∷
    event Serve 1 ∷ event Step 1 ∷ event Serve 1 ∷ event Step 0 ∷ event Step 1 ∷ event Deliver 0 ∷ event Step 1 ∷
    event Step 0 ∷ event Deliver 1 ∷ event Deliver 1 ∷ event Step 1 ∷ event Step 0 ∷ event Order 0 ∷ event Serve 0 ∷
    event Step 1 ∷ event Serve 1 ∷ event Step 0 ∷ event Order 0 ∷ event Step 0 ∷ event Step 0 ∷ event Order 1 ∷
    event Serve 1 ∷ event Serve 1 ∷ event Deliver 1 ∷ event Serve 1 ∷ event Order 0 ∷ event Deliver 0 ∷ event Step 0 ∷
    event Order 0 ∷ event Serve 1 ∷ event Serve 1 ∷ event Step 0 ∷ event Step 1 ∷ event Step 0 ∷ event Serve 1 ∷
    event Serve 0 ∷ event Step 0 ∷ event Serve 1 ∷ event Serve 1 ∷ event Serve 1 ∷ event Order 1 ∷ event Step 0 ∷
    event Serve 1 ∷ event Step 1 ∷ event Step 0 ∷ event Step 1 ∷ event Serve 1 ∷ event Step 0 ∷ event Step 1 ∷
    event Order 1 ∷ event Serve 1 ∷ event Deliver 0 ∷ event Deliver 1 ∷ event Step 0 ∷ event Order 0 ∷ event Serve 0 ∷
    event Step 0 ∷ event Step 0 ∷ event Order 0 ∷ event Serve 0 ∷ event Step 0 ∷ event Deliver 1 ∷ event Step 1 ∷
    event Deliver 1 ∷ event Step 1 ∷ event Step 0 ∷ event Serve 1 ∷ event Order 1 ∷ event Step 0 ∷ event Order 1 ∷
    event Serve 1 ∷ event Step 0 ∷ event Order 1 ∷ event Serve 1 ∷ event Serve 0 ∷ event Step 1 ∷ event Serve 0 ∷
    event Order 0 ∷ event Step 1 ∷ event Serve 0 ∷ event Step 1 ∷ event Step 1 ∷ event Step 1 ∷ event Step 0 ∷
    event Step 1 ∷ event Serve 1 ∷ event Step 0 ∷ event Order 0 ∷ event Serve 0 ∷ event Step 0 ∷ event Serve 1 ∷
    event Step 0 ∷ event Step 0 ∷ event Order 0 ∷ event Step 0 ∷ event Deliver 0 ∷ event Order 1 ∷ event Serve 1 ∷
    event Serve 1 ∷ event Step 1 ∷ event Serve 1 ∷ event Step 1 ∷ event Step 0 ∷ event Step 0 ∷ event Step 1 ∷
    event Step 1 ∷ event Step 1 ∷ event Step 1 ∷ event Order 0 ∷ event Deliver 1 ∷ event Step 1 ∷ event Step 1 ∷
    event Step 1 ∷ event Step 0 ∷ event Step 0 ∷ event Step 0 ∷ event Order 0 ∷ event Serve 0 ∷ []

abbrev expected : List Outcome
expected =
    Ran ∷ Ran ∷ Ran ∷ Ran ∷ Ran ∷ Idle ∷ Idle ∷ Ran ∷ Idle ∷ Ran ∷ Ran ∷ Ran ∷ Idle ∷ Idle ∷ Ran ∷ Idle ∷
    Missed (line_addr 1025) Read ∷ Missed (line_addr 1025) Read ∷ ordered_with [] [] ∷ Stalled ∷ served_with [] [] ∷
    ordered_with [] [] ∷ Stalled ∷ Armed ∷ Idle ∷ Idle ∷ Idle ∷ served_with [] [] ∷ LetGo 1 ∷ Idle ∷ Idle ∷ Armed ∷
    Idle ∷ Idle ∷ Armed ∷ Began ∷ LetGo 1 ∷ Idle ∷ Buffered ∷ Armed ∷ Idle ∷ Idle ∷ Missed (line_addr 1027) Write ∷
    Began ∷ Idle ∷ ordered_with [] [] ∷ Idle ∷ served_with [] [] ∷ Idle ∷ Buffered ∷ Missed (line_addr 1027) Write ∷
    ordered_with ((1, 0) ∷ []) [] ∷ served_with [] [] ∷ Armed ∷ Idle ∷ Buffered ∷ RolledBack Long ∷ Idle ∷ Ran ∷
    Missed (line_addr 1025) Write ∷ ordered_with [] ((1, 1) ∷ []) ∷ Missed (line_addr 1025) Write ∷ Idle ∷
    served_with [] [] ∷ Idle ∷ Ran ∷ Idle ∷ Ran ∷ Ran ∷ Idle ∷ ordered_with [] [] ∷ served_with [] [] ∷ Ran ∷
    Missed (line_addr 1025) Write ∷ Ran ∷ Ran ∷ Ran ∷ Ran ∷ ordered_with [] [] ∷ Ran ∷ Ran ∷ Stalled ∷ Stalled ∷ Idle ∷
    Idle ∷ served_with [] [] ∷ Idle ∷ Ran ∷ Idle ∷ Missed (line_addr 1024) Write ∷ ordered_with [] [] ∷ Ran ∷
    served_with [] [] ∷ Missed (line_addr 1024) Read ∷ Ran ∷ ordered_with [] [] ∷ Idle ∷ served_with [] [] ∷ Armed ∷
    Idle ∷ Idle ∷ Idle ∷ Idle ∷ Idle ∷ Armed ∷ LetGo 1 ∷ Idle ∷ Buffered ∷ Idle ∷ Missed (line_addr 1024) Write ∷
    Buffered ∷ Stalled ∷ Idle ∷ Stalled ∷ LetGo 3 ∷ Idle ∷ ordered_with [] [] ∷ Idle ∷ served_with [] [] ∷
    Missed (line_addr 1024) Write ∷ Idle ∷ ordered_with [] [] ∷ Idle ∷ Stalled ∷ Blocked Locked (hart_id 0) ∷
    Blocked Locked (hart_id 0) ∷ Blocked Locked (hart_id 0) ∷ Blocked Locked (hart_id 0) ∷ Ran ∷ served_with [] [] ∷
    Ran ∷ Ran ∷ Ran ∷ Idle ∷ Ran ∷ Idle ∷ Idle ∷ Ran ∷ Ran ∷ Idle ∷ Idle ∷ Idle ∷ Ran ∷ Missed (line_addr 1024) Write ∷
    Idle ∷ ordered_with [] [] ∷ Idle ∷ Idle ∷ Ran ∷ served_with [] [] ∷ Ran ∷ Idle ∷ Idle ∷ Armed ∷
    Missed (line_addr 1025) Read ∷ ordered_with [] [] ∷ served_with [] [] ∷ Idle ∷ Buffered ∷ Idle ∷ Buffered ∷ Armed ∷
    LetGo 3 ∷ Idle ∷ Idle ∷ LetGo 1 ∷ Ran ∷ Armed ∷ Idle ∷ Began ∷ Buffered ∷ Idle ∷ Ran ∷ Ran ∷ Ran ∷
    Missed (line_addr 1027) Write ∷ Ran ∷ Idle ∷ ordered_with [] [] ∷ served_with [] [] ∷ Idle ∷ Idle ∷ Idle ∷
    Buffered ∷ Idle ∷ Ran ∷ RolledBack Long ∷ Idle ∷ Ran ∷ Armed ∷ Idle ∷ Idle ∷ Missed (line_addr 1025) Write ∷
    LetGo 1 ∷ Idle ∷ Idle ∷ Stalled ∷ Idle ∷ Armed ∷ Idle ∷ Began ∷ Buffered ∷ ordered_with [] [] ∷
    Blocked Retained (hart_id 0) ∷ Blocked Retained (hart_id 0) ∷ Delivered (lost []) ∷ Blocked Retained (hart_id 0) ∷
    Idle ∷ Delivered (lost []) ∷ Missed (line_addr 1027) Write ∷ ordered_with [] [] ∷ Blocked Retained (hart_id 0) ∷
    Blocked Retained (hart_id 0) ∷ Stalled ∷ Stalled ∷ Stalled ∷ Blocked Retained (hart_id 0) ∷ served_with [] [] ∷
    Buffered ∷ Blocked Retained (hart_id 0) ∷ Blocked Retained (hart_id 0) ∷ Blocked Retained (hart_id 0) ∷ Idle ∷
    RolledBack Long ∷ served_with [] [] ∷ Ran ∷ Missed (line_addr 1025) Read ∷ Ran ∷ Idle ∷ Stalled ∷
    Missed (line_addr 1027) Write ∷ ordered_with [] [] ∷ served_with [] [] ∷ Idle ∷ Idle ∷ Stalled ∷
    ordered_with [] [] ∷ served_with [] [] ∷ Ran ∷ Missed (line_addr 1025) Write ∷ ordered_with [] [] ∷
    served_with [] [] ∷ Ran ∷ Idle ∷ Ran ∷ Idle ∷ Missed (line_addr 1025) Write ∷ Ran ∷ Idle ∷ ordered_with [] [] ∷
    Missed (line_addr 1027) Write ∷ Idle ∷ served_with [] [] ∷ Stalled ∷ Idle ∷ Idle ∷ Idle ∷ Ran ∷ Idle ∷
    ordered_with [] [] ∷ Ran ∷ served_with [] [] ∷ Ran ∷ Ran ∷ Ran ∷ Ran ∷ Missed (line_addr 1024) Write ∷ Idle ∷
    Missed (line_addr 1025) Write ∷ ordered_with [] [] ∷ served_with [] [] ∷ Ran ∷ Idle ∷ Ran ∷ Ran ∷ Idle ∷ Ran ∷
    Idle ∷ ordered_with [] [] ∷ served_with [] [] ∷ Idle ∷ Ran ∷ Idle ∷ Armed ∷ Ran ∷ Ran ∷ Buffered ∷ Buffered ∷
    LetGo 3 ∷ Ran ∷ Idle ∷ Idle ∷ Ran ∷ Ran ∷ Ran ∷ Ran ∷ Missed (line_addr 1024) Write ∷ Stalled ∷
    ordered_with [] [] ∷ served_with [] [] ∷ []

outcomes : outcomes_from first events ≡ expected
unfolding computing
outcomes = refl

abbrev last : Ending
last = record {
  harts =
      record {
        section = None;
        armed = None;
        last_lr = (Some 131120);
        cache = (way 1024 M false false ∷ []) ∷ (way 1025 M false false ∷ way 1027 M false false ∷ []) ∷ [];
        raised = None;
        held_line = (Some 1024);
        mail = [];
        told = [];
        upstream = [];
        fallback = true;
        tries = 0;
        clock = 2;
        seen = 0;
        attempt = None;
        predictor = record { counters = (patched (replicate 64 2) ((6, 1) ∷ [])); watch = None };
      } ∷ record {
        section = None;
        armed = None;
        last_lr = (Some 131144);
        cache = ([]) ∷ ([]) ∷ [];
        raised = None;
        held_line = None;
        mail = [];
        told = [];
        upstream = [];
        fallback = false;
        tries = 0;
        clock = 1;
        seen = 0;
        attempt = None;
        predictor = record { counters = (patched (replicate 64 2) ([])); watch = None };
      } ∷ [];
  order = [];
  pcs = 131140 ∷ 131084 ∷ [];
  registers =
      (0 ∷ 0 ∷ 65792 ∷ 0 ∷ 0 ∷ 65536 ∷ 1 ∷ 65600 ∷ 0 ∷ 2 ∷ 0 ∷ 0 ∷ 3 ∷ 0 ∷ 1 ∷ 0 ∷ 0 ∷ 0 ∷ 0 ∷ 0 ∷ 0 ∷
      0 ∷ 0 ∷ 0 ∷ 0 ∷ 0 ∷ 0 ∷ 0 ∷ 0 ∷ 0 ∷ 0 ∷ 0 ∷ []) ∷
      (0 ∷ 0 ∷ 256 ∷ 0 ∷ 0 ∷ 65536 ∷ 1 ∷ 65600 ∷ 0 ∷ 2 ∷ 1 ∷ 0 ∷ 2 ∷ 0 ∷ 1 ∷ 0 ∷ 0 ∷ 0 ∷ 0 ∷ 0 ∷ 0 ∷
      0 ∷ 0 ∷ 0 ∷ 0 ∷ 0 ∷ 0 ∷ 0 ∷ 0 ∷ 0 ∷ 0 ∷ 0 ∷ []) ∷
      [];
  bytes = patched (replicate 256 0) ([]);
}

ending : ending_of (state_after first events) ≡ last
unfolding computing
ending = refl
