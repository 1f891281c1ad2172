-- 4 harts in lock elision, 300 random events over LR and SC: 13 of Armed, 6 of LetGo, 3 of Ordered that let harts go
use Rattle.std.proofs.Common.{◌≡◌, ℕ, true, false, List, [], ◌∷◌, Some, None, replicate, refl}
use Rattle.el_base.specs.HartId.{hart_id}
use Rattle.el_base.specs.LineAddr.{line_addr}
use Rattle.el_base.specs.declared.config.Config.{Config}
use Rattle.el_base.specs.declared.config.Mode.TheVariants.{Plain, Sle, Tlr}
use Rattle.el_base.specs.declared.events.Event.{Event}
use Rattle.el_base.specs.declared.events.Kind.TheVariants.{Step, Order, Serve, Deliver}
use Rattle.el_base.specs.declared.outcomes.Cause.TheVariants.{Room, Lines, Long, Call, Mixed}
use Rattle.el_base.specs.declared.outcomes.Need.TheVariants.{Read, Write}
use Rattle.el_base.specs.declared.outcomes.Outcome.{Outcome}
use Rattle.el_base.specs.declared.outcomes.Outcome.TheVariants.{Idle, Stalled, Missed, Ran, Began, Buffered, Committed}
use Rattle.el_base.specs.declared.outcomes.Outcome.TheVariants.{RolledBack, Blocked}
use Rattle.el_base.specs.declared.outcomes.Outcome.TheVariants.{Delivered, Armed, LetGo}
use Rattle.el_base.specs.declared.outcomes.Why.TheVariants.{Behind, Retained, Locked}
use Rattle.computed_runs.proofs.Computing.{computing}
use Rattle.computed_runs.proofs.Given.{Ending, armed, ending_of, event, first_state, lost, ordered_with, patched}
use Rattle.computed_runs.proofs.Given.{request, section, served_with}
use Rattle.computed_runs.proofs.Given.{stamp, watch, way}
use Rattle.el_model.specs.Next.{outcomes_from, state_after}
use Rattle.el_model.specs.State.{Hart, ModelState}
use Rattle.mail.specs.Mailbox.{Marker, Probe}
use Rattle.moesi.specs.declared.letter.Letter.TheVariants.{M, O, E, S}

abbrev config : Config
config = record {
  harts = 4;
  mode = Sle;
  sets = 4;
  ways = 3;
  lines = 1;
  long = 6;
  steps = 300;
}

abbrev words : List ℕ
words =
    66231 ∷ 1049363 ∷ 2098323 ∷ 268608559 ∷ 1443347 ∷ 1443347 ∷ 1443347 ∷ 1443347 ∷ 1443347 ∷ 1443347 ∷ 409118127 ∷
    365667 ∷ 172067 ∷ 67273619 ∷ 268674095 ∷ 267363 ∷ 409183663 ∷ 365667 ∷ 268609199 ∷ 344106499 ∷ 268609199 ∷ 237603 ∷
    268608559 ∷ 365667 ∷ 201500163 ∷ 172067 ∷ 328803 ∷ 268608559 ∷ 268608559 ∷ 409118127 ∷ 272803331 ∷ 79864355 ∷
    140682275 ∷ 172067 ∷ 4167037039 ∷ []

abbrev first : ModelState
first = first_state config 65536 384 131072 words

abbrev events : List Event
events =
    event Step 1 ∷ event Serve 2 ∷ event Step 1 ∷ event Step 0 ∷ event Step 0 ∷ event Step 0 ∷ event Order 2 ∷
    event Step 3 ∷ event Serve 2 ∷ event Serve 2 ∷ event Deliver 2 ∷ event Step 0 ∷ event Step 1 ∷ event Step 3 ∷
    event Step 1 ∷ event Step 3 ∷ event Step 2 ∷ event Step 2 ∷ event Deliver 3 ∷ event Step 2 ∷ event Deliver 3 ∷
    event Step 2 ∷ event Step 1 ∷ event Deliver 2 ∷ event Order 3 ∷ event Deliver 2 ∷ event Serve 0 ∷ event Step 3 ∷
    event Order 2 ∷ event Order 0 ∷ event Serve 3 ∷ event Order 3 ∷ event Deliver 1 ∷ event Serve 0 ∷ event Order 1 ∷
    event Serve 3 ∷ event Serve 3 ∷ event Deliver 0 ∷ event Serve 2 ∷ event Order 0 ∷ event Deliver 3 ∷ event Serve 1 ∷
    event Serve 0 ∷ event Serve 3 ∷ event Serve 0 ∷ event Serve 0 ∷ event Step 3 ∷ event Serve 3 ∷ event Step 0 ∷
    event Serve 2 ∷ event Step 0 ∷ event Order 1 ∷ event Serve 3 ∷ event Step 0 ∷ event Serve 3 ∷ event Serve 1 ∷
    event Serve 1 ∷ event Serve 1 ∷ event Order 1 ∷ event Serve 1 ∷ event Step 2 ∷ event Serve 3 ∷ event Serve 1 ∷
    event Step 2 ∷ event Serve 1 ∷ event Step 2 ∷ event Serve 0 ∷ event Order 2 ∷ event Step 2 ∷ event Deliver 0 ∷
    event Step 2 ∷ event Serve 1 ∷ event Step 2 ∷ event Step 2 ∷ event Step 0 ∷ event Deliver 3 ∷ event Step 0 ∷
    event Serve 3 ∷ event Step 0 ∷ event Step 3 ∷ event Serve 1 ∷ event Step 3 ∷ event Serve 2 ∷ event Serve 1 ∷
    event Deliver 2 ∷ event Step 0 ∷ event Deliver 3 ∷ event Step 2 ∷ event Step 2 ∷ event Order 2 ∷ event Step 0 ∷
    event Step 1 ∷ event Serve 2 ∷ event Deliver 3 ∷ event Step 3 ∷ event Step 1 ∷ event Deliver 3 ∷ event Step 1 ∷
    event Serve 0 ∷ event Step 2 ∷ event Serve 2 ∷ event Step 0 ∷ event Order 0 ∷ event Step 3 ∷ event Serve 1 ∷
    event Step 0 ∷ event Step 0 ∷ event Step 1 ∷ event Step 2 ∷ event Step 1 ∷ event Deliver 3 ∷ event Deliver 1 ∷
    event Step 2 ∷ event Order 3 ∷ event Step 0 ∷ event Step 1 ∷ event Deliver 1 ∷ event Order 2 ∷ event Step 0 ∷
    event Deliver 2 ∷ event Order 3 ∷ event Order 1 ∷ event Step 2 ∷ event Order 0 ∷ event Step 1 ∷ event Step 1 ∷
    event Serve 3 ∷ event Step 2 ∷ event Order 2 ∷ event Deliver 2 ∷ event Step 0 ∷ event Step 1 ∷ event Step 1 ∷
    event Order 0 ∷ event Step 1 ∷ event Step 3 ∷ event Step 3 ∷ event Step 3 ∷ event Serve 2 ∷ event Serve 3 ∷
    event Serve 0 ∷ event Step 3 ∷ event Deliver 2 ∷ event Order 3 ∷ event Serve 1 ∷ event Deliver 1 ∷ event Order 1 ∷
    event Step 2 ∷ event Order 1 ∷ event Serve 0 ∷ event Order 0 ∷ event Step 2 ∷ event Deliver 1 ∷ event Order 3 ∷
    event Step 1 ∷ event Deliver 0 ∷ event Deliver 0 ∷ event Serve 2 ∷ event Serve 1 ∷ event Step 1 ∷ event Step 0 ∷
    event Step 0 ∷ event Step 2 ∷ event Step 0 ∷ event Step 2 ∷ event Deliver 1 ∷ event Serve 2 ∷ event Step 0 ∷
    event Step 2 ∷ event Order 0 ∷ event Step 3 ∷ event Serve 0 ∷ event Serve 1 ∷ event Step 0 ∷ event Order 2 ∷
    event Step 2 ∷ event Step 3 ∷ event Order 2 ∷ event Step 3 ∷ event Order 0 ∷ event Order 2 ∷ event Deliver 3 ∷
    event Serve 0 ∷ event Order 2 ∷ event Serve 2 ∷ event Order 0 ∷ event Step 0 ∷ event Step 2 ∷ event Order 0 ∷
    event Step 1 ∷ event Step 1 ∷ event Deliver 1 ∷ event Serve 0 ∷ event Order 3 ∷ event Step 3 ∷ event Order 0 ∷
    event Serve 0 ∷ event Step 3 ∷ event Order 0 ∷ event Step 3 ∷ event Order 3 ∷ event Deliver 1 ∷ event Step 1 ∷
    event Step 2 ∷ event Serve 1 ∷ event Step 2 ∷ event Order 2 ∷ event Order 2 ∷ event Order 0 ∷ event Serve 3 ∷
    event Step 1 ∷ event Step 1 ∷ event Serve 1 ∷ event Step 3 ∷ event Deliver 0 ∷ event Step 2 ∷ event Deliver 2 ∷
    event Order 2 ∷ event Step 0 ∷ event Step 3 ∷ event Step 2 ∷ event Order 1 ∷ event Serve 3 ∷ event Order 2 ∷
    event Order 0 ∷ event Serve 3 ∷ event Serve 2 ∷ event Order 0 ∷ event Step 0 ∷ event Order 0 ∷ event Serve 1 ∷
    event Step 2 ∷ event Serve 0 ∷ event Step 0 ∷ event Order 2 ∷ event Order 1 ∷ event Step 3 ∷ event Deliver 3 ∷
    event Step 1 ∷ event Order 0 ∷ event Serve 3 ∷ event Serve 0 ∷ event Serve 3 ∷ event Serve 3 ∷ event Order 2 ∷
    event Step 3 ∷ event Step 2 ∷ event Order 1 ∷ event Step 2 ∷ event Step 2 ∷ event Deliver 2 ∷ event Serve 1 ∷
    event Step 3 ∷ event Step 0 ∷ event Serve 1 ∷ event Serve 2 ∷ event Deliver 1 ∷ event Serve 1 ∷ event Step 0 ∷
    event Step 1 ∷ event Deliver 2 ∷ event Step 2 ∷ event Step 3 ∷ event Order 3 ∷ event Step 2 ∷ event Step 1 ∷
    event Step 0 ∷ event Step 2 ∷ event Serve 3 ∷ event Step 0 ∷ event Deliver 1 ∷ event Step 2 ∷ event Order 2 ∷
    event Step 1 ∷ event Serve 2 ∷ event Step 1 ∷ event Step 1 ∷ event Step 3 ∷ event Deliver 1 ∷ event Step 0 ∷
    event Step 2 ∷ event Step 0 ∷ event Serve 0 ∷ event Order 1 ∷ event Deliver 0 ∷ event Step 2 ∷ event Deliver 1 ∷
    event Order 0 ∷ event Step 0 ∷ event Step 2 ∷ event Serve 1 ∷ event Deliver 1 ∷ event Step 2 ∷ event Step 1 ∷
    event Serve 3 ∷ event Step 3 ∷ event Order 3 ∷ event Serve 2 ∷ event Serve 1 ∷ event Serve 0 ∷ []

abbrev expected : List Outcome
expected =
    Ran ∷ Idle ∷ Ran ∷ Ran ∷ Ran ∷ Ran ∷ Idle ∷ Ran ∷ Idle ∷ Idle ∷ Idle ∷ Missed (line_addr 1024) Read ∷ Ran ∷ Ran ∷
    Missed (line_addr 1024) Read ∷ Ran ∷ Ran ∷ Ran ∷ Idle ∷ Ran ∷ Idle ∷ Missed (line_addr 1024) Read ∷ Stalled ∷
    Idle ∷ Idle ∷ Idle ∷ Idle ∷ Missed (line_addr 1024) Read ∷ ordered_with [] [] ∷ ordered_with [] [] ∷ Idle ∷
    ordered_with [] [] ∷ Idle ∷ Blocked Behind (hart_id 2) ∷ ordered_with [] [] ∷ Blocked Behind (hart_id 2) ∷
    Blocked Behind (hart_id 2) ∷ Idle ∷ served_with [] [] ∷ Idle ∷ Idle ∷ Blocked Behind (hart_id 0) ∷
    Blocked Locked (hart_id 2) ∷ Blocked Behind (hart_id 0) ∷ Blocked Locked (hart_id 2) ∷ Blocked Locked (hart_id 2) ∷
    Stalled ∷ Blocked Behind (hart_id 0) ∷ Stalled ∷ Idle ∷ Stalled ∷ Idle ∷ Blocked Behind (hart_id 0) ∷ Stalled ∷
    Blocked Behind (hart_id 0) ∷ Blocked Behind (hart_id 0) ∷ Blocked Behind (hart_id 0) ∷ Blocked Behind (hart_id 0) ∷
    Idle ∷ Blocked Behind (hart_id 0) ∷ Armed ∷ Blocked Behind (hart_id 0) ∷ Blocked Behind (hart_id 0) ∷ Buffered ∷
    Blocked Behind (hart_id 0) ∷ Buffered ∷ served_with [] [] ∷ Idle ∷ Buffered ∷ Idle ∷ Buffered ∷
    Blocked Behind (hart_id 3) ∷ LetGo 5 ∷ Ran ∷ Armed ∷ Idle ∷ Buffered ∷ served_with [] [] ∷ Buffered ∷ Armed ∷
    served_with [] [] ∷ Buffered ∷ Idle ∷ Idle ∷ Idle ∷ Buffered ∷ Idle ∷ Ran ∷ Missed (line_addr 1024) Write ∷
    ordered_with [] ((0, 4) ∷ (3, 2) ∷ []) ∷ Ran ∷ Ran ∷ served_with [] [] ∷ Idle ∷ Ran ∷ Ran ∷ Idle ∷ Ran ∷ Idle ∷
    Ran ∷ Idle ∷ Ran ∷ Idle ∷ Ran ∷ Idle ∷ Ran ∷ Ran ∷ Ran ∷ Ran ∷ Ran ∷ Idle ∷ Idle ∷ Ran ∷ Idle ∷ Ran ∷ Ran ∷ Idle ∷
    Idle ∷ Ran ∷ Idle ∷ Idle ∷ Idle ∷ Ran ∷ Idle ∷ Ran ∷ Ran ∷ Idle ∷ Missed (line_addr 1025) Read ∷
    ordered_with [] [] ∷ Idle ∷ Missed (line_addr 1025) Read ∷ Ran ∷ Ran ∷ ordered_with [] [] ∷
    Missed (line_addr 1025) Read ∷ Ran ∷ Ran ∷ Ran ∷ served_with [] [] ∷ Idle ∷ Blocked Locked (hart_id 2) ∷ Ran ∷
    Idle ∷ Idle ∷ Idle ∷ Idle ∷ ordered_with [] [] ∷ Armed ∷ Idle ∷ served_with [] [] ∷ Idle ∷ Buffered ∷ Idle ∷ Idle ∷
    Stalled ∷ Idle ∷ Idle ∷ Idle ∷ Blocked Locked (hart_id 0) ∷ Stalled ∷ Armed ∷ Buffered ∷ Began ∷ Began ∷ Buffered ∷
    Idle ∷ Idle ∷ Buffered ∷ Buffered ∷ Idle ∷ Ran ∷ Idle ∷ served_with [] [] ∷ Missed (line_addr 1024) Read ∷ Idle ∷
    Missed (line_addr 1029) Read ∷ Ran ∷ ordered_with [] [] ∷ Missed (line_addr 1025) Read ∷ ordered_with [] [] ∷
    Idle ∷ Idle ∷ served_with [] [] ∷ Idle ∷ served_with [] [] ∷ Idle ∷ Buffered ∷ Buffered ∷ Idle ∷ Armed ∷ Buffered ∷
    Idle ∷ Idle ∷ ordered_with [] [] ∷ Stalled ∷ Idle ∷ Idle ∷ Stalled ∷ Idle ∷ Stalled ∷ Idle ∷ Idle ∷ Began ∷
    RolledBack Long ∷ Idle ∷ Ran ∷ Idle ∷ Idle ∷ Idle ∷ served_with [] [] ∷ Buffered ∷ Missed (line_addr 1024) Read ∷
    Idle ∷ Armed ∷ Idle ∷ Ran ∷ Idle ∷ Idle ∷ Missed (line_addr 1029) Read ∷ Buffered ∷ Missed (line_addr 1025) Write ∷
    ordered_with [] [] ∷ Idle ∷ ordered_with ((0, 2) ∷ (1, 2) ∷ []) ((3, 2) ∷ []) ∷ ordered_with [] [] ∷ Idle ∷
    served_with [] [] ∷ Idle ∷ Stalled ∷ Idle ∷ served_with [] [] ∷ Ran ∷ served_with [] [] ∷
    Missed (line_addr 1025) Read ∷ Idle ∷ Idle ∷ Ran ∷ Idle ∷ Missed (line_addr 1025) Read ∷ ordered_with [] [] ∷
    Idle ∷ served_with [] [] ∷ Idle ∷ Idle ∷ Idle ∷ Ran ∷ Ran ∷ ordered_with [] [] ∷ Armed ∷ LetGo 1 ∷ Idle ∷
    Blocked Locked (hart_id 0) ∷ Missed (line_addr 1029) Read ∷ Armed ∷ served_with [] [] ∷ Idle ∷ Idle ∷ Idle ∷
    Buffered ∷ Armed ∷ Idle ∷ Ran ∷ Stalled ∷ ordered_with [] [] ∷ Armed ∷ Buffered ∷ Buffered ∷ LetGo 1 ∷
    served_with [] [] ∷ LetGo 3 ∷ Idle ∷ Missed (line_addr 1025) Write ∷ ordered_with [] ((1, 2) ∷ []) ∷ Ran ∷
    served_with [] [] ∷ Missed (line_addr 1029) Read ∷ Stalled ∷ Ran ∷ Idle ∷ Ran ∷ Ran ∷ Armed ∷ Idle ∷
    ordered_with [] [] ∷ Idle ∷ Armed ∷ Idle ∷ Idle ∷ LetGo 1 ∷ Buffered ∷ served_with [] [] ∷ Idle ∷ LetGo 2 ∷ Ran ∷
    Idle ∷ Missed (line_addr 1024) Read ∷ ordered_with [] [] ∷ Idle ∷ Idle ∷ Idle ∷ []

outcomes : outcomes_from first events ≡ expected
unfolding computing
outcomes = refl

abbrev last : Ending
last = record {
  harts =
      record {
        section = None;
        armed = None;
        last_lr = (Some 131152);
        cache = (way 1024 S false false ∷ []) ∷ (way 1029 S false false ∷ []) ∷ ([]) ∷ ([]) ∷ [];
        raised = None;
        held_line = None;
        mail = [];
        told = [];
        upstream = [];
        fallback = false;
        tries = 1;
        clock = 0;
        seen = 0;
        attempt = None;
        predictor = record { counters = (patched (replicate 64 2) ([])); watch = None };
      } ∷ record {
        section = None;
        armed = None;
        last_lr = (Some 131128);
        cache = (way 1024 S false false ∷ []) ∷ (way 1029 S false false ∷ []) ∷ ([]) ∷ ([]) ∷ [];
        raised = None;
        held_line = None;
        mail = [];
        told = [];
        upstream = [];
        fallback = false;
        tries = 1;
        clock = 0;
        seen = 0;
        attempt = None;
        predictor = record { counters = (patched (replicate 64 2) ([])); watch = None };
      } ∷ record {
        section = None;
        armed = None;
        last_lr = (Some 131160);
        cache =
            (way 1024 O false false ∷ []) ∷ (way 1025 M false false ∷ way 1029 S false false ∷ []) ∷ ([]) ∷ ([]) ∷ [];
        raised = None;
        held_line = None;
        mail = [];
        told = [];
        upstream = [];
        fallback = false;
        tries = 0;
        clock = 0;
        seen = 0;
        attempt = None;
        predictor = record { counters = (patched (replicate 64 2) ((3, 3) ∷ [])); watch = None };
      } ∷ record {
        section = None;
        armed = None;
        last_lr = (Some 131128);
        cache = ([]) ∷ (way 1029 S false false ∷ []) ∷ ([]) ∷ ([]) ∷ [];
        raised = None;
        held_line = None;
        mail = [];
        told = [];
        upstream = [];
        fallback = false;
        tries = 0;
        clock = 0;
        seen = 0;
        attempt = None;
        predictor = record { counters = (patched (replicate 64 2) ([])); watch = None };
      } ∷ [];
  order = (request 3 1024 Read None) ∷ [];
  pcs = 131156 ∷ 131152 ∷ 131168 ∷ 131152 ∷ [];
  registers =
      (0 ∷ 0 ∷ 65920 ∷ 0 ∷ 0 ∷ 65536 ∷ 1 ∷ 65600 ∷ 1 ∷ 2 ∷ 0 ∷ 1 ∷ 0 ∷ 0 ∷ 0 ∷ 0 ∷ 0 ∷ 0 ∷ 0 ∷ 0 ∷ 0 ∷
      0 ∷ 0 ∷ 0 ∷ 0 ∷ 0 ∷ 0 ∷ 0 ∷ 0 ∷ 0 ∷ 0 ∷ 0 ∷ []) ∷
      (0 ∷ 0 ∷ 384 ∷ 0 ∷ 0 ∷ 65536 ∷ 1 ∷ 65600 ∷ 1 ∷ 2 ∷ 1 ∷ 1 ∷ 0 ∷ 0 ∷ 0 ∷ 0 ∷ 0 ∷ 0 ∷ 0 ∷ 0 ∷ 0 ∷
      0 ∷ 0 ∷ 0 ∷ 0 ∷ 0 ∷ 0 ∷ 0 ∷ 0 ∷ 0 ∷ 0 ∷ 0 ∷ []) ∷
      (0 ∷ 0 ∷ 4294902144 ∷ 0 ∷ 0 ∷ 65536 ∷ 1 ∷ 65600 ∷ 0 ∷ 2 ∷ 2 ∷ 0 ∷ 0 ∷ 0 ∷ 0 ∷ 0 ∷ 0 ∷ 0 ∷ 0 ∷
      0 ∷ 0 ∷ 0 ∷ 0 ∷ 0 ∷ 0 ∷ 0 ∷ 0 ∷ 0 ∷ 0 ∷ 0 ∷ 0 ∷ 0 ∷ []) ∷
      (0 ∷ 0 ∷ 4294836608 ∷ 0 ∷ 0 ∷ 65536 ∷ 1 ∷ 65600 ∷ 0 ∷ 2 ∷ 3 ∷ 1 ∷ 0 ∷ 0 ∷ 0 ∷ 0 ∷ 0 ∷ 0 ∷ 0 ∷
      0 ∷ 0 ∷ 0 ∷ 0 ∷ 0 ∷ 0 ∷ 0 ∷ 0 ∷ 0 ∷ 0 ∷ 0 ∷ 0 ∷ 0 ∷ []) ∷
      [];
  bytes = patched (replicate 384 0) ([]);
}

ending : ending_of (state_after first events) ≡ last
unfolding computing
ending = refl
