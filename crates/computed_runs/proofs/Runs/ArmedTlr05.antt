-- 4 harts in lock removal, 300 random events over LR and SC: 7 of Armed, 5 of LetGo, 1 of Ordered that let harts go,
-- 1 of Served that let harts go
use Rattle.std.proofs.Common.{◌≡◌, ℕ, true, false, List, [], ◌∷◌, Some, None, replicate, refl}
use Rattle.el_base.specs.HartId.{hart_id}
use Rattle.el_base.specs.LineAddr.{line_addr}
use Rattle.el_base.specs.declared.config.Config.{Config}
use Rattle.el_base.specs.declared.config.Mode.TheVariants.{Plain, Sle, Tlr}
use Rattle.el_base.specs.declared.events.Event.{Event}
use Rattle.el_base.specs.declared.events.Kind.TheVariants.{Step, Order, Serve, Deliver}
use Rattle.el_base.specs.declared.outcomes.Cause.TheVariants.{Room, Lines, Long, Call, Mixed}
use Rattle.el_base.specs.declared.outcomes.Need.TheVariants.{Read, Write}
use Rattle.el_base.specs.declared.outcomes.Outcome.{Outcome}
use Rattle.el_base.specs.declared.outcomes.Outcome.TheVariants.{Idle, Stalled, Missed, Ran, Began, Buffered, Committed}
use Rattle.el_base.specs.declared.outcomes.Outcome.TheVariants.{RolledBack, Blocked}
use Rattle.el_base.specs.declared.outcomes.Outcome.TheVariants.{Delivered, Armed, LetGo}
use Rattle.el_base.specs.declared.outcomes.Why.TheVariants.{Behind, Retained, Locked}
use Rattle.computed_runs.proofs.Computing.{computing}
use Rattle.computed_runs.proofs.Given.{Ending, armed, ending_of, event, first_state, lost, ordered_with, patched}
use Rattle.computed_runs.proofs.Given.{request, section, served_with}
use Rattle.computed_runs.proofs.Given.{stamp, watch, way}
use Rattle.el_model.specs.Next.{outcomes_from, state_after}
use Rattle.el_model.specs.State.{Hart, ModelState}
use Rattle.mail.specs.Mailbox.{Marker, Probe}
use Rattle.moesi.specs.declared.letter.Letter.TheVariants.{M, O, E, S}

abbrev config : Config
config = record {
  harts = 4;
  mode = Tlr;
  sets = 1;
  ways = 3;
  lines = 1;
  long = 4;
  steps = 300;
}

abbrev words : List ℕ
words =
    66231 ∷ 1049363 ∷ 2098323 ∷ 268608559 ∷ 267363 ∷ 402826671 ∷ 107130403 ∷ 67273619 ∷ 268674095 ∷ 1443347 ∷
    4261682403 ∷ 1443347 ∷ 237603 ∷ 67273619 ∷ 268674095 ∷ 1443347 ∷ 4261682403 ∷ 365667 ∷ 214082083 ∷ 4367875 ∷
    264414723 ∷ 237603 ∷ 67273619 ∷ 140747823 ∷ 173571 ∷ 4204785775 ∷ []

abbrev first : ModelState
first = first_state config 65536 256 131072 words

abbrev events : List Event
events =
    event Deliver 1 ∷ event Step 2 ∷ event Step 3 ∷ event Step 0 ∷ event Deliver 0 ∷ event Serve 3 ∷ event Step 3 ∷
    event Step 1 ∷ event Deliver 1 ∷ event Serve 0 ∷ event Step 2 ∷ event Step 3 ∷ event Step 3 ∷ event Step 0 ∷
    event Step 0 ∷ event Deliver 0 ∷ event Step 1 ∷ event Step 2 ∷ event Step 1 ∷ event Step 1 ∷ event Order 1 ∷
    event Step 0 ∷ event Step 2 ∷ event Deliver 2 ∷ event Order 2 ∷ event Step 3 ∷ event Step 2 ∷ event Serve 1 ∷
    event Serve 2 ∷ event Order 0 ∷ event Deliver 0 ∷ event Deliver 2 ∷ event Serve 2 ∷ event Order 2 ∷ event Order 1 ∷
    event Serve 0 ∷ event Deliver 1 ∷ event Deliver 3 ∷ event Step 1 ∷ event Step 1 ∷ event Deliver 2 ∷ event Serve 2 ∷
    event Deliver 1 ∷ event Order 2 ∷ event Serve 0 ∷ event Order 3 ∷ event Serve 0 ∷ event Serve 0 ∷ event Step 0 ∷
    event Step 1 ∷ event Order 1 ∷ event Serve 0 ∷ event Deliver 1 ∷ event Step 3 ∷ event Step 2 ∷ event Serve 3 ∷
    event Step 3 ∷ event Step 3 ∷ event Serve 1 ∷ event Serve 0 ∷ event Deliver 2 ∷ event Step 2 ∷ event Deliver 0 ∷
    event Deliver 0 ∷ event Step 2 ∷ event Serve 3 ∷ event Step 0 ∷ event Step 1 ∷ event Step 0 ∷ event Serve 3 ∷
    event Order 1 ∷ event Serve 0 ∷ event Serve 2 ∷ event Step 2 ∷ event Serve 0 ∷ event Step 0 ∷ event Deliver 0 ∷
    event Serve 1 ∷ event Deliver 1 ∷ event Step 0 ∷ event Order 0 ∷ event Serve 2 ∷ event Serve 1 ∷ event Deliver 1 ∷
    event Deliver 0 ∷ event Step 3 ∷ event Order 2 ∷ event Step 1 ∷ event Step 2 ∷ event Order 0 ∷ event Deliver 1 ∷
    event Serve 3 ∷ event Serve 1 ∷ event Deliver 2 ∷ event Serve 0 ∷ event Step 1 ∷ event Step 2 ∷ event Serve 2 ∷
    event Deliver 0 ∷ event Order 0 ∷ event Step 1 ∷ event Order 1 ∷ event Serve 1 ∷ event Serve 0 ∷ event Step 1 ∷
    event Deliver 0 ∷ event Step 0 ∷ event Serve 1 ∷ event Order 2 ∷ event Serve 2 ∷ event Order 0 ∷ event Step 0 ∷
    event Order 0 ∷ event Serve 0 ∷ event Order 2 ∷ event Step 3 ∷ event Step 0 ∷ event Deliver 2 ∷ event Deliver 3 ∷
    event Step 3 ∷ event Step 3 ∷ event Deliver 1 ∷ event Step 2 ∷ event Order 1 ∷ event Order 3 ∷ event Step 3 ∷
    event Step 0 ∷ event Order 3 ∷ event Step 2 ∷ event Serve 1 ∷ event Deliver 0 ∷ event Step 1 ∷ event Step 0 ∷
    event Step 0 ∷ event Step 2 ∷ event Order 0 ∷ event Serve 3 ∷ event Step 0 ∷ event Step 0 ∷ event Order 2 ∷
    event Serve 2 ∷ event Order 1 ∷ event Deliver 0 ∷ event Serve 2 ∷ event Deliver 1 ∷ event Step 3 ∷ event Step 3 ∷
    event Deliver 1 ∷ event Step 1 ∷ event Serve 2 ∷ event Step 2 ∷ event Deliver 0 ∷ event Serve 3 ∷ event Step 3 ∷
    event Step 0 ∷ event Step 2 ∷ event Serve 0 ∷ event Order 1 ∷ event Step 2 ∷ event Step 2 ∷ event Order 3 ∷
    event Serve 3 ∷ event Deliver 1 ∷ event Order 2 ∷ event Step 3 ∷ event Step 2 ∷ event Deliver 2 ∷ event Serve 1 ∷
    event Step 3 ∷ event Order 0 ∷ event Serve 2 ∷ event Serve 0 ∷ event Deliver 0 ∷ event Deliver 2 ∷
    event Deliver 3 ∷ event Deliver 1 ∷ event Serve 0 ∷ event Deliver 0 ∷ event Step 1 ∷ event Deliver 3 ∷
    event Order 1 ∷ event Serve 1 ∷ event Order 3 ∷ event Serve 3 ∷ event Step 2 ∷ event Step 2 ∷ event Deliver 0 ∷
    event Deliver 1 ∷ event Step 3 ∷ event Order 2 ∷ event Step 1 ∷ event Step 1 ∷ event Serve 1 ∷ event Step 3 ∷
    event Deliver 2 ∷ event Deliver 0 ∷ event Step 1 ∷ event Deliver 1 ∷ event Step 1 ∷ event Deliver 3 ∷
    event Order 0 ∷ event Deliver 2 ∷ event Step 3 ∷ event Order 3 ∷ event Order 1 ∷ event Step 3 ∷ event Serve 0 ∷
    event Step 3 ∷ event Step 0 ∷ event Serve 2 ∷ event Deliver 1 ∷ event Step 2 ∷ event Order 3 ∷ event Deliver 2 ∷
    event Step 0 ∷ event Step 1 ∷ event Deliver 1 ∷ event Step 1 ∷ event Step 2 ∷ event Deliver 3 ∷ event Order 1 ∷
    event Order 2 ∷ event Step 2 ∷ event Deliver 0 ∷ event Serve 3 ∷ event Serve 3 ∷ event Deliver 1 ∷
    event Deliver 1 ∷ event Serve 1 ∷ event Serve 3 ∷ event Deliver 1 ∷ event Order 3 ∷ event Deliver 3 ∷
    event Step 2 ∷ event Step 0 ∷ event Step 1 ∷ event Serve 3 ∷ event Deliver 3 ∷ event Step 1 ∷ event Step 3 ∷
    event Order 0 ∷ event Serve 0 ∷ event Deliver 3 ∷ event Deliver 0 ∷ event Step 3 ∷ event Step 2 ∷ event Serve 3 ∷
    event Deliver 2 ∷ event Step 0 ∷ event Deliver 0 ∷ event Serve 3 ∷ event Step 0 ∷ event Step 1 ∷ event Deliver 2 ∷
    event Step 1 ∷ event Step 0 ∷ event Step 1 ∷ event Step 0 ∷ event Step 3 ∷ event Serve 2 ∷ event Step 0 ∷
    event Deliver 3 ∷ event Order 1 ∷ event Step 3 ∷ event Order 3 ∷ event Serve 1 ∷ event Step 3 ∷ event Step 1 ∷
    event Order 1 ∷ event Step 1 ∷ event Step 1 ∷ event Deliver 0 ∷ event Step 3 ∷ event Deliver 0 ∷ event Step 3 ∷
    event Step 0 ∷ event Step 0 ∷ event Step 2 ∷ event Serve 3 ∷ event Step 1 ∷ event Step 3 ∷ event Serve 0 ∷
    event Order 3 ∷ event Order 0 ∷ event Serve 2 ∷ event Serve 0 ∷ event Deliver 0 ∷ event Deliver 0 ∷
    event Deliver 3 ∷ event Step 2 ∷ event Order 1 ∷ event Deliver 3 ∷ event Serve 3 ∷ event Step 3 ∷ event Step 3 ∷
    event Deliver 0 ∷ event Serve 0 ∷ event Order 3 ∷ event Step 2 ∷ event Serve 3 ∷ []

abbrev expected : List Outcome
expected =
    Idle ∷ Ran ∷ Ran ∷ Ran ∷ Idle ∷ Idle ∷ Ran ∷ Ran ∷ Idle ∷ Idle ∷ Ran ∷ Ran ∷ Missed (line_addr 1024) Read ∷ Ran ∷
    Ran ∷ Idle ∷ Ran ∷ Ran ∷ Ran ∷ Missed (line_addr 1024) Read ∷ ordered_with [] [] ∷ Missed (line_addr 1024) Read ∷
    Missed (line_addr 1024) Read ∷ Idle ∷ ordered_with [] [] ∷ Stalled ∷ Stalled ∷ served_with [] [] ∷
    Blocked Locked (hart_id 1) ∷ ordered_with [] [] ∷ Delivered (lost []) ∷ Delivered (lost []) ∷
    Blocked Locked (hart_id 1) ∷ Idle ∷ Idle ∷ Blocked Behind (hart_id 2) ∷ Delivered (lost []) ∷ Idle ∷ Armed ∷
    Buffered ∷ Delivered (lost []) ∷ served_with [] [] ∷ Delivered (lost []) ∷ Idle ∷ Blocked Locked (hart_id 2) ∷
    ordered_with [] [] ∷ Blocked Locked (hart_id 2) ∷ Blocked Locked (hart_id 2) ∷ Stalled ∷ LetGo 2 ∷ Idle ∷
    Blocked Locked (hart_id 2) ∷ Idle ∷ Stalled ∷ Armed ∷ Blocked Behind (hart_id 0) ∷ Stalled ∷ Stalled ∷ Idle ∷
    served_with [] [] ∷ Idle ∷ Buffered ∷ Idle ∷ Idle ∷ LetGo 2 ∷ Blocked Locked (hart_id 0) ∷ Armed ∷
    Missed (line_addr 1024) Write ∷ Buffered ∷ served_with [] [] ∷ ordered_with [] ((0, 2) ∷ []) ∷ Idle ∷ Idle ∷
    Missed (line_addr 1024) Write ∷ Idle ∷ Missed (line_addr 1024) Write ∷ Idle ∷ Blocked Locked (hart_id 3) ∷ Idle ∷
    Stalled ∷ ordered_with [] [] ∷ Idle ∷ Blocked Locked (hart_id 3) ∷ Idle ∷ Delivered (lost []) ∷ Ran ∷
    ordered_with [] [] ∷ Stalled ∷ Stalled ∷ Idle ∷ Delivered (lost []) ∷ Idle ∷ served_with [] [] ∷
    Delivered (lost []) ∷ Blocked Locked (hart_id 1) ∷ Ran ∷ Stalled ∷ Blocked Behind (hart_id 0) ∷
    Delivered (lost []) ∷ Idle ∷ Missed (line_addr 1025) Write ∷ ordered_with [] [] ∷ served_with [] [] ∷
    served_with [] [] ∷ Ran ∷ Idle ∷ Ran ∷ Idle ∷ Idle ∷ served_with [] [] ∷ Idle ∷ Missed (line_addr 1025) Write ∷
    ordered_with [] [] ∷ served_with [] [] ∷ Idle ∷ Ran ∷ Ran ∷ Idle ∷ Idle ∷ Ran ∷ Missed (line_addr 1025) Write ∷
    Idle ∷ Ran ∷ Idle ∷ ordered_with [] [] ∷ Stalled ∷ Ran ∷ Idle ∷ Missed (line_addr 1025) Write ∷ Idle ∷ Idle ∷ Ran ∷
    Ran ∷ Ran ∷ Stalled ∷ Idle ∷ served_with [] [] ∷ Ran ∷ Ran ∷ ordered_with [] [] ∷ Blocked Locked (hart_id 3) ∷
    Idle ∷ Idle ∷ Blocked Locked (hart_id 3) ∷ Idle ∷ Ran ∷ Ran ∷ Idle ∷ Missed (line_addr 1025) Read ∷
    served_with [] [] ∷ Ran ∷ Idle ∷ Idle ∷ Missed (line_addr 1025) Read ∷ Missed (line_addr 1025) Write ∷ Ran ∷ Idle ∷
    ordered_with [] [] ∷ Armed ∷ Buffered ∷ ordered_with [] [] ∷ Blocked Behind (hart_id 1) ∷ Idle ∷ Idle ∷ Stalled ∷
    Buffered ∷ Idle ∷ served_with [] [] ∷ Stalled ∷ ordered_with [] [] ∷ Idle ∷ Blocked Behind (hart_id 3) ∷
    Delivered (lost []) ∷ Idle ∷ Delivered (lost []) ∷ Delivered (lost []) ∷ Blocked Behind (hart_id 3) ∷ Idle ∷ Ran ∷
    Delivered (lost []) ∷ Idle ∷ Idle ∷ Idle ∷ served_with [] ((2, 3) ∷ []) ∷ Ran ∷ Missed (line_addr 1025) Write ∷
    Idle ∷ Delivered (lost []) ∷ Ran ∷ ordered_with [] [] ∷ Ran ∷ Ran ∷ Idle ∷ Ran ∷ Delivered (lost []) ∷
    Delivered (lost []) ∷ Ran ∷ Idle ∷ Missed (line_addr 1025) Write ∷ Delivered (lost []) ∷ Idle ∷ Idle ∷ Ran ∷ Idle ∷
    ordered_with [] [] ∷ Ran ∷ served_with [] [] ∷ Missed (line_addr 1025) Write ∷ Ran ∷ served_with [] [] ∷
    Delivered (lost []) ∷ Ran ∷ ordered_with [] [] ∷ Delivered (lost []) ∷ Ran ∷ Stalled ∷ Idle ∷ Stalled ∷ Ran ∷
    Delivered (lost []) ∷ Idle ∷ Idle ∷ Ran ∷ Idle ∷ Blocked Behind (hart_id 1) ∷ Blocked Behind (hart_id 1) ∷
    Delivered (lost []) ∷ Idle ∷ served_with [] [] ∷ Blocked Locked (hart_id 1) ∷ Idle ∷ Idle ∷ Idle ∷ Ran ∷
    Missed (line_addr 1025) Read ∷ Ran ∷ served_with [] [] ∷ Idle ∷ Ran ∷ Ran ∷ ordered_with [] [] ∷
    served_with [] [] ∷ Idle ∷ Idle ∷ Ran ∷ Ran ∷ Idle ∷ Idle ∷ Armed ∷ Idle ∷ Idle ∷ Buffered ∷
    Missed (line_addr 1025) Read ∷ Idle ∷ Stalled ∷ Buffered ∷ Stalled ∷ LetGo 3 ∷ Armed ∷ Idle ∷ Ran ∷ Idle ∷
    ordered_with [] [] ∷ Buffered ∷ Idle ∷ served_with [] [] ∷ Buffered ∷ Armed ∷ Idle ∷ Buffered ∷ Buffered ∷ Idle ∷
    LetGo 3 ∷ Idle ∷ Ran ∷ Missed (line_addr 1024) Read ∷ Stalled ∷ Ran ∷ Idle ∷ LetGo 3 ∷
    Missed (line_addr 1024) Read ∷ Idle ∷ ordered_with [] [] ∷ ordered_with [] [] ∷ Idle ∷ Blocked Behind (hart_id 3) ∷
    Delivered (lost []) ∷ Idle ∷ Delivered (lost []) ∷ Ran ∷ Idle ∷ Idle ∷ served_with [] [] ∷ Ran ∷
    Missed (line_addr 1027) Read ∷ Idle ∷ served_with [] [] ∷ ordered_with [] [] ∷ Missed (line_addr 1027) Read ∷
    served_with [] [] ∷ []

outcomes : outcomes_from first events ≡ expected
unfolding computing
outcomes = refl

abbrev last : Ending
last = record {
  harts =
      record {
        section = None;
        armed = None;
        last_lr = (Some 131128);
        cache = (way 1024 S false false ∷ way 1025 S false false ∷ []) ∷ [];
        raised = None;
        held_line = (Some 1024);
        mail = [];
        told = [];
        upstream = [];
        fallback = false;
        tries = 0;
        clock = 0;
        seen = 0;
        attempt = None;
        predictor = record { counters = (patched (replicate 64 2) ([])); watch = None };
      } ∷ record {
        section = None;
        armed = None;
        last_lr = (Some 131128);
        cache = (way 1025 S false false ∷ []) ∷ [];
        raised = None;
        held_line = None;
        mail = [];
        told = [];
        upstream = [];
        fallback = false;
        tries = 0;
        clock = 0;
        seen = 0;
        attempt = None;
        predictor = record { counters = (patched (replicate 64 2) ([])); watch = None };
      } ∷ record {
        section = None;
        armed = None;
        last_lr = (Some 131128);
        cache = (way 1024 O false false ∷ []) ∷ [];
        raised = (Some (request 2 1027 Read None));
        held_line = None;
        mail = [];
        told = [];
        upstream = [];
        fallback = false;
        tries = 0;
        clock = 0;
        seen = 0;
        attempt = None;
        predictor = record { counters = (patched (replicate 64 2) ([])); watch = None };
      } ∷ record {
        section = None;
        armed = None;
        last_lr = (Some 131128);
        cache = (way 1027 E false false ∷ way 1024 S false false ∷ way 1025 O false false ∷ []) ∷ [];
        raised = None;
        held_line = (Some 1027);
        mail = [];
        told = [];
        upstream = [];
        fallback = false;
        tries = 0;
        clock = 0;
        seen = 0;
        attempt = None;
        predictor = record { counters = (patched (replicate 64 2) ([])); watch = None };
      } ∷ [];
  order = [];
  pcs = 131148 ∷ 131140 ∷ 131152 ∷ 131152 ∷ [];
  registers =
      (0 ∷ 0 ∷ 65792 ∷ 0 ∷ 0 ∷ 65536 ∷ 1 ∷ 65600 ∷ 0 ∷ 2 ∷ 0 ∷ 1 ∷ 3 ∷ 0 ∷ 0 ∷ 0 ∷ 0 ∷ 0 ∷ 0 ∷ 0 ∷ 0 ∷
      0 ∷ 0 ∷ 0 ∷ 0 ∷ 0 ∷ 0 ∷ 0 ∷ 0 ∷ 0 ∷ 0 ∷ 0 ∷ []) ∷
      (0 ∷ 0 ∷ 256 ∷ 0 ∷ 0 ∷ 65536 ∷ 1 ∷ 65600 ∷ 0 ∷ 2 ∷ 1 ∷ 0 ∷ 3 ∷ 0 ∷ 0 ∷ 0 ∷ 0 ∷ 0 ∷ 0 ∷ 0 ∷ 0 ∷
      0 ∷ 0 ∷ 0 ∷ 0 ∷ 0 ∷ 0 ∷ 0 ∷ 0 ∷ 0 ∷ 0 ∷ 0 ∷ []) ∷
      (0 ∷ 0 ∷ 4294902016 ∷ 0 ∷ 0 ∷ 65536 ∷ 1 ∷ 65600 ∷ 0 ∷ 2 ∷ 2 ∷ 1 ∷ 0 ∷ 0 ∷ 0 ∷ 0 ∷ 0 ∷ 0 ∷ 0 ∷
      0 ∷ 0 ∷ 0 ∷ 0 ∷ 0 ∷ 0 ∷ 0 ∷ 0 ∷ 0 ∷ 0 ∷ 0 ∷ 0 ∷ 0 ∷ []) ∷
      (0 ∷ 0 ∷ 4294836480 ∷ 0 ∷ 0 ∷ 65536 ∷ 1 ∷ 65600 ∷ 0 ∷ 2 ∷ 3 ∷ 1 ∷ 0 ∷ 0 ∷ 0 ∷ 0 ∷ 0 ∷ 0 ∷ 0 ∷
      0 ∷ 0 ∷ 0 ∷ 0 ∷ 0 ∷ 0 ∷ 0 ∷ 0 ∷ 0 ∷ 0 ∷ 0 ∷ 0 ∷ 0 ∷ []) ∷
      [];
  bytes = patched (replicate 256 0) ((124, 1) ∷ []);
}

ending : ending_of (state_after first events) ≡ last
unfolding computing
ending = refl
