-- 4 harts in lock removal, 300 random events over LR and SC: 10 of Armed, 6 of LetGo, 1 of Ordered that let harts go,
-- 1 of Committed
use Rattle.std.proofs.Common.{◌≡◌, ℕ, true, false, List, [], ◌∷◌, Some, None, replicate, refl}
use Rattle.el_base.specs.HartId.{hart_id}
use Rattle.el_base.specs.LineAddr.{line_addr}
use Rattle.el_base.specs.declared.config.Config.{Config}
use Rattle.el_base.specs.declared.config.Mode.TheVariants.{Plain, Sle, Tlr}
use Rattle.el_base.specs.declared.events.Event.{Event}
use Rattle.el_base.specs.declared.events.Kind.TheVariants.{Step, Order, Serve, Deliver}
use Rattle.el_base.specs.declared.outcomes.Cause.TheVariants.{Room, Lines, Long, Call, Mixed}
use Rattle.el_base.specs.declared.outcomes.Need.TheVariants.{Read, Write}
use Rattle.el_base.specs.declared.outcomes.Outcome.{Outcome}
use Rattle.el_base.specs.declared.outcomes.Outcome.TheVariants.{Idle, Stalled, Missed, Ran, Began, Buffered, Committed}
use Rattle.el_base.specs.declared.outcomes.Outcome.TheVariants.{RolledBack, Blocked}
use Rattle.el_base.specs.declared.outcomes.Outcome.TheVariants.{Delivered, Armed, LetGo}
use Rattle.el_base.specs.declared.outcomes.Why.TheVariants.{Behind, Retained, Locked}
use Rattle.computed_runs.proofs.Computing.{computing}
use Rattle.computed_runs.proofs.Given.{Ending, armed, ending_of, event, first_state, lost, ordered_with, patched}
use Rattle.computed_runs.proofs.Given.{request, section, served_with}
use Rattle.computed_runs.proofs.Given.{stamp, watch, way}
use Rattle.el_model.specs.Next.{outcomes_from, state_after}
use Rattle.el_model.specs.State.{Hart, ModelState}
use Rattle.mail.specs.Mailbox.{Marker, Probe}
use Rattle.moesi.specs.declared.letter.Letter.TheVariants.{M, O, E, S}

abbrev config : Config
config = record {
  harts = 4;
  mode = Tlr;
  sets = 1;
  ways = 3;
  lines = 1;
  long = 16;
  steps = 300;
}

abbrev words : List ℕ
words =
    66231 ∷ 1049363 ∷ 2098323 ∷ 67273619 ∷ 268674095 ∷ 1443347 ∷ 1443347 ∷ 1443347 ∷ 1443347 ∷ 1443347 ∷ 1443347 ∷
    1443347 ∷ 237603 ∷ 268608559 ∷ 409118127 ∷ 172067 ∷ 268608559 ∷ 4368003 ∷ 365667 ∷ 6465199 ∷ 264414723 ∷ 172067 ∷
    9765987 ∷ 268608559 ∷ 409118127 ∷ 365667 ∷ 142779907 ∷ 110276131 ∷ 209888771 ∷ 134389807 ∷ 4183814255 ∷ []

abbrev first : ModelState
first = first_state config 65536 384 131072 words

abbrev events : List Event
events =
    event Step 2 ∷ event Step 3 ∷ event Step 3 ∷ event Step 0 ∷ event Step 1 ∷ event Step 0 ∷ event Step 1 ∷
    event Serve 3 ∷ event Step 0 ∷ event Step 1 ∷ event Step 2 ∷ event Deliver 0 ∷ event Serve 1 ∷ event Serve 2 ∷
    event Order 0 ∷ event Step 3 ∷ event Step 2 ∷ event Order 1 ∷ event Step 2 ∷ event Step 0 ∷ event Deliver 3 ∷
    event Order 3 ∷ event Step 3 ∷ event Order 3 ∷ event Serve 1 ∷ event Step 0 ∷ event Order 2 ∷ event Step 0 ∷
    event Order 0 ∷ event Step 2 ∷ event Step 3 ∷ event Order 2 ∷ event Deliver 0 ∷ event Serve 3 ∷ event Deliver 2 ∷
    event Step 2 ∷ event Step 1 ∷ event Serve 0 ∷ event Order 3 ∷ event Order 2 ∷ event Order 0 ∷ event Serve 3 ∷
    event Serve 2 ∷ event Deliver 0 ∷ event Step 1 ∷ event Serve 3 ∷ event Serve 2 ∷ event Order 1 ∷ event Deliver 1 ∷
    event Order 3 ∷ event Deliver 0 ∷ event Step 0 ∷ event Order 2 ∷ event Serve 2 ∷ event Step 0 ∷ event Step 3 ∷
    event Deliver 2 ∷ event Serve 1 ∷ event Deliver 0 ∷ event Serve 3 ∷ event Step 0 ∷ event Serve 3 ∷
    event Deliver 2 ∷ event Step 0 ∷ event Deliver 3 ∷ event Deliver 3 ∷ event Deliver 2 ∷ event Step 2 ∷
    event Order 3 ∷ event Serve 3 ∷ event Deliver 2 ∷ event Serve 3 ∷ event Step 0 ∷ event Step 3 ∷ event Serve 1 ∷
    event Step 3 ∷ event Step 2 ∷ event Order 0 ∷ event Step 2 ∷ event Step 0 ∷ event Deliver 1 ∷ event Step 1 ∷
    event Step 0 ∷ event Step 2 ∷ event Step 2 ∷ event Order 3 ∷ event Step 1 ∷ event Step 2 ∷ event Deliver 2 ∷
    event Step 0 ∷ event Step 2 ∷ event Step 2 ∷ event Step 0 ∷ event Serve 3 ∷ event Deliver 2 ∷ event Step 1 ∷
    event Order 3 ∷ event Deliver 1 ∷ event Serve 2 ∷ event Step 0 ∷ event Step 1 ∷ event Step 2 ∷ event Step 3 ∷
    event Step 0 ∷ event Deliver 3 ∷ event Deliver 3 ∷ event Serve 3 ∷ event Order 0 ∷ event Step 1 ∷ event Order 2 ∷
    event Step 3 ∷ event Serve 0 ∷ event Serve 2 ∷ event Step 0 ∷ event Step 1 ∷ event Step 1 ∷ event Deliver 0 ∷
    event Deliver 2 ∷ event Order 1 ∷ event Step 3 ∷ event Step 2 ∷ event Order 3 ∷ event Step 2 ∷ event Step 1 ∷
    event Step 0 ∷ event Step 3 ∷ event Deliver 0 ∷ event Step 3 ∷ event Step 1 ∷ event Step 3 ∷ event Serve 2 ∷
    event Serve 2 ∷ event Step 3 ∷ event Deliver 0 ∷ event Order 2 ∷ event Order 0 ∷ event Deliver 3 ∷ event Step 0 ∷
    event Order 1 ∷ event Deliver 1 ∷ event Order 2 ∷ event Serve 2 ∷ event Serve 0 ∷ event Serve 0 ∷ event Step 2 ∷
    event Step 0 ∷ event Serve 3 ∷ event Step 3 ∷ event Step 0 ∷ event Order 3 ∷ event Order 0 ∷ event Serve 3 ∷
    event Serve 3 ∷ event Serve 1 ∷ event Deliver 3 ∷ event Deliver 1 ∷ event Step 2 ∷ event Deliver 0 ∷
    event Serve 3 ∷ event Order 2 ∷ event Serve 3 ∷ event Serve 3 ∷ event Step 1 ∷ event Step 3 ∷ event Serve 1 ∷
    event Step 0 ∷ event Order 1 ∷ event Step 0 ∷ event Serve 2 ∷ event Serve 3 ∷ event Deliver 3 ∷ event Step 0 ∷
    event Order 0 ∷ event Deliver 2 ∷ event Serve 2 ∷ event Order 1 ∷ event Serve 1 ∷ event Deliver 1 ∷ event Step 3 ∷
    event Deliver 3 ∷ event Step 0 ∷ event Serve 2 ∷ event Deliver 2 ∷ event Step 0 ∷ event Order 1 ∷ event Deliver 2 ∷
    event Step 1 ∷ event Serve 3 ∷ event Step 3 ∷ event Step 2 ∷ event Order 1 ∷ event Serve 0 ∷ event Order 1 ∷
    event Order 3 ∷ event Deliver 0 ∷ event Serve 1 ∷ event Order 0 ∷ event Order 2 ∷ event Serve 3 ∷ event Step 0 ∷
    event Order 3 ∷ event Step 1 ∷ event Order 0 ∷ event Serve 0 ∷ event Step 3 ∷ event Step 2 ∷ event Step 3 ∷
    event Serve 2 ∷ event Step 1 ∷ event Step 2 ∷ event Step 3 ∷ event Serve 0 ∷ event Serve 3 ∷ event Step 1 ∷
    event Order 1 ∷ event Deliver 1 ∷ event Step 3 ∷ event Order 0 ∷ event Deliver 1 ∷ event Serve 3 ∷ event Serve 1 ∷
    event Serve 3 ∷ event Deliver 0 ∷ event Deliver 3 ∷ event Serve 0 ∷ event Step 3 ∷ event Step 1 ∷ event Order 1 ∷
    event Step 0 ∷ event Serve 1 ∷ event Serve 1 ∷ event Step 1 ∷ event Step 0 ∷ event Serve 1 ∷ event Order 2 ∷
    event Deliver 0 ∷ event Order 3 ∷ event Serve 2 ∷ event Step 1 ∷ event Order 0 ∷ event Serve 0 ∷ event Order 0 ∷
    event Step 0 ∷ event Deliver 3 ∷ event Order 1 ∷ event Step 0 ∷ event Deliver 1 ∷ event Step 0 ∷ event Deliver 0 ∷
    event Deliver 3 ∷ event Step 3 ∷ event Step 1 ∷ event Order 2 ∷ event Step 0 ∷ event Deliver 2 ∷ event Deliver 3 ∷
    event Order 2 ∷ event Serve 2 ∷ event Step 0 ∷ event Serve 1 ∷ event Serve 3 ∷ event Order 0 ∷ event Step 2 ∷
    event Serve 3 ∷ event Step 3 ∷ event Deliver 0 ∷ event Step 3 ∷ event Deliver 0 ∷ event Serve 1 ∷ event Step 3 ∷
    event Deliver 0 ∷ event Order 3 ∷ event Serve 1 ∷ event Step 1 ∷ event Deliver 1 ∷ event Serve 2 ∷ event Step 0 ∷
    event Step 1 ∷ event Serve 0 ∷ event Step 2 ∷ event Deliver 3 ∷ event Deliver 0 ∷ event Serve 3 ∷ event Order 1 ∷
    event Step 0 ∷ event Deliver 0 ∷ event Serve 3 ∷ event Step 3 ∷ event Step 0 ∷ event Step 0 ∷ event Serve 2 ∷
    event Serve 2 ∷ event Step 1 ∷ event Step 3 ∷ event Order 1 ∷ event Order 2 ∷ event Deliver 2 ∷ event Deliver 1 ∷
    event Step 3 ∷ event Step 3 ∷ []

abbrev expected : List Outcome
expected =
    Ran ∷ Ran ∷ Ran ∷ Ran ∷ Ran ∷ Ran ∷ Ran ∷ Idle ∷ Ran ∷ Ran ∷ Ran ∷ Idle ∷ Idle ∷ Idle ∷ Idle ∷ Ran ∷ Ran ∷ Idle ∷
    Ran ∷ Ran ∷ Idle ∷ Idle ∷ Ran ∷ Idle ∷ Idle ∷ Missed (line_addr 1025) Read ∷ Idle ∷ Stalled ∷ ordered_with [] [] ∷
    Missed (line_addr 1025) Read ∷ Missed (line_addr 1025) Read ∷ ordered_with [] [] ∷ Idle ∷ Idle ∷
    Delivered (lost []) ∷ Stalled ∷ Ran ∷ served_with [] [] ∷ ordered_with [] [] ∷ Idle ∷ Idle ∷
    Blocked Behind (hart_id 2) ∷ Blocked Locked (hart_id 0) ∷ Delivered (lost []) ∷ Missed (line_addr 1025) Read ∷
    Blocked Behind (hart_id 2) ∷ Blocked Locked (hart_id 0) ∷ ordered_with [] [] ∷ Delivered (lost []) ∷ Idle ∷ Idle ∷
    Armed ∷ Idle ∷ served_with [] [] ∷ Buffered ∷ Stalled ∷ Idle ∷ Blocked Behind (hart_id 3) ∷ Idle ∷
    Blocked Locked (hart_id 2) ∷ Buffered ∷ Blocked Locked (hart_id 2) ∷ Idle ∷ Buffered ∷ Delivered (lost []) ∷
    Delivered (lost []) ∷ Delivered (lost []) ∷ Armed ∷ Idle ∷ served_with [] [] ∷ Delivered (lost []) ∷ Idle ∷
    Buffered ∷ Armed ∷ served_with [] [] ∷ Buffered ∷ Buffered ∷ Idle ∷ Buffered ∷ Buffered ∷ Idle ∷ Armed ∷ Buffered ∷
    Buffered ∷ Buffered ∷ Idle ∷ Buffered ∷ Buffered ∷ Idle ∷ Buffered ∷ Buffered ∷ Buffered ∷ LetGo 8 ∷ Idle ∷ Idle ∷
    Buffered ∷ Idle ∷ Idle ∷ Idle ∷ Missed (line_addr 1025) Write ∷ Buffered ∷ LetGo 8 ∷ Buffered ∷ Stalled ∷ Idle ∷
    Idle ∷ Idle ∷ ordered_with [] ((1, 4) ∷ (3, 3) ∷ []) ∷ Ran ∷ Idle ∷ Ran ∷ served_with [] [] ∷ Idle ∷ Ran ∷ Ran ∷
    Ran ∷ Idle ∷ Idle ∷ Idle ∷ Ran ∷ Missed (line_addr 1025) Write ∷ Idle ∷ Stalled ∷ Ran ∷
    Missed (line_addr 1024) Read ∷ Ran ∷ Idle ∷ Ran ∷ Missed (line_addr 1025) Write ∷ Ran ∷ Idle ∷ Idle ∷
    Missed (line_addr 1025) Write ∷ Idle ∷ ordered_with [] [] ∷ ordered_with [] [] ∷ Idle ∷ Stalled ∷
    ordered_with [] [] ∷ Delivered (lost []) ∷ Idle ∷ served_with [] [] ∷ served_with [] [] ∷ Idle ∷ Ran ∷ Armed ∷
    Idle ∷ Stalled ∷ Began ∷ ordered_with [] [] ∷ Idle ∷ Blocked Behind (hart_id 1) ∷ Blocked Behind (hart_id 1) ∷
    served_with [] [] ∷ Delivered (lost []) ∷ Delivered (lost []) ∷ Missed (line_addr 1024) Read ∷ Idle ∷
    Blocked Locked (hart_id 1) ∷ ordered_with [] [] ∷ Blocked Locked (hart_id 1) ∷ Blocked Locked (hart_id 1) ∷ Ran ∷
    Stalled ∷ Idle ∷ Committed 3 ∷ Idle ∷ Armed ∷ served_with [] [] ∷ served_with [] [] ∷ Idle ∷ LetGo 1 ∷ Idle ∷
    Idle ∷ Idle ∷ Idle ∷ Idle ∷ Idle ∷ Ran ∷ Idle ∷ Ran ∷ Idle ∷ Idle ∷ Ran ∷ Idle ∷ Idle ∷
    Missed (line_addr 1024) Read ∷ Idle ∷ Missed (line_addr 1024) Read ∷ Armed ∷ ordered_with [] [] ∷ Idle ∷ Idle ∷
    ordered_with [] [] ∷ Idle ∷ served_with [] [] ∷ Idle ∷ Idle ∷ Blocked Locked (hart_id 1) ∷
    Missed (line_addr 1024) Write ∷ Idle ∷ Armed ∷ ordered_with [] [] ∷ Blocked Behind (hart_id 3) ∷ Stalled ∷
    LetGo 1 ∷ Stalled ∷ Idle ∷ LetGo 1 ∷ Missed (line_addr 1024) Write ∷ Stalled ∷ Blocked Behind (hart_id 3) ∷
    served_with [] [] ∷ Missed (line_addr 1024) Write ∷ ordered_with [] [] ∷ Delivered (lost []) ∷ Ran ∷ Idle ∷ Idle ∷
    Idle ∷ Blocked Behind (hart_id 0) ∷ Idle ∷ Delivered (lost []) ∷ Delivered (lost []) ∷ served_with [] [] ∷
    Missed (line_addr 1024) Write ∷ Stalled ∷ Idle ∷ Ran ∷ served_with [] [] ∷ Idle ∷ Ran ∷
    Missed (line_addr 1027) Read ∷ Idle ∷ ordered_with [] [] ∷ Idle ∷ ordered_with [] [] ∷ served_with [] [] ∷
    Missed (line_addr 1024) Write ∷ ordered_with [] [] ∷ served_with [] [] ∷ Idle ∷ Ran ∷ Delivered (lost []) ∷
    ordered_with [] [] ∷ Missed (line_addr 1024) Write ∷ Delivered (lost []) ∷ Stalled ∷ Idle ∷ Delivered (lost []) ∷
    Stalled ∷ Stalled ∷ Idle ∷ Stalled ∷ Delivered (lost []) ∷ Idle ∷ Idle ∷ Idle ∷ Stalled ∷
    Blocked Behind (hart_id 3) ∷ Blocked Locked (hart_id 2) ∷ ordered_with [] [] ∷ Ran ∷ served_with [] [] ∷ Ran ∷
    Delivered (lost []) ∷ Ran ∷ Idle ∷ served_with [] [] ∷ Missed (line_addr 1024) Read ∷ Idle ∷ ordered_with [] [] ∷
    Idle ∷ Ran ∷ Delivered (lost []) ∷ Idle ∷ Stalled ∷ Ran ∷ served_with [] [] ∷ Missed (line_addr 1024) Write ∷
    Delivered (lost []) ∷ Delivered (lost []) ∷ Blocked Locked (hart_id 0) ∷ Idle ∷ Ran ∷ Idle ∷ served_with [] [] ∷
    Armed ∷ Ran ∷ Armed ∷ Idle ∷ Idle ∷ Missed (line_addr 1024) Read ∷ LetGo 1 ∷ ordered_with [] [] ∷
    ordered_with [] [] ∷ Delivered (lost []) ∷ Delivered (lost []) ∷ Ran ∷ Ran ∷ []

outcomes : outcomes_from first events ≡ expected
unfolding computing
outcomes = refl

abbrev last : Ending
last = record {
  harts =
      record {
        section = None;
        armed = (Some (armed 1 65536));
        last_lr = (Some 131136);
        cache = (way 1024 O true false ∷ way 1027 E false false ∷ []) ∷ [];
        raised = None;
        held_line = None;
        mail = [];
        told = [];
        upstream = [];
        fallback = false;
        tries = 0;
        clock = 1;
        seen = 0;
        attempt = None;
        predictor = record { counters = (patched (replicate 64 2) ((13, 3) ∷ [])); watch = None };
      } ∷ record {
        section = None;
        armed = None;
        last_lr = (Some 131136);
        cache = ([]) ∷ [];
        raised = None;
        held_line = None;
        mail = [];
        told = 2 ∷ [];
        upstream = [];
        fallback = false;
        tries = 0;
        clock = 0;
        seen = 0;
        attempt = None;
        predictor = record { counters = (patched (replicate 64 2) ([])); watch = None };
      } ∷ record {
        section = None;
        armed = None;
        last_lr = (Some 131124);
        cache = ([]) ∷ [];
        raised = None;
        held_line = None;
        mail = [];
        told = [];
        upstream = 1 ∷ [];
        fallback = false;
        tries = 0;
        clock = 0;
        seen = 0;
        attempt = None;
        predictor = record { counters = (patched (replicate 64 2) ([])); watch = None };
      } ∷ record {
        section = None;
        armed = None;
        last_lr = (Some 131136);
        cache = (way 1024 S false false ∷ way 1025 M false false ∷ []) ∷ [];
        raised = None;
        held_line = None;
        mail = [];
        told = [];
        upstream = [];
        fallback = false;
        tries = 0;
        clock = 0;
        seen = 0;
        attempt = None;
        predictor = record { counters = (patched (replicate 64 2) ([])); watch = None };
      } ∷ [];
  order = (request 1 1024 Read None) ∷ (request 2 1024 Write None) ∷ [];
  pcs = 131164 ∷ 131140 ∷ 131132 ∷ 131152 ∷ [];
  registers =
      (0 ∷ 0 ∷ 65920 ∷ 0 ∷ 0 ∷ 65536 ∷ 1 ∷ 65600 ∷ 0 ∷ 2 ∷ 0 ∷ 0 ∷ 0 ∷ 0 ∷ 0 ∷ 0 ∷ 0 ∷ 0 ∷ 0 ∷ 0 ∷ 0 ∷
      0 ∷ 0 ∷ 0 ∷ 0 ∷ 0 ∷ 0 ∷ 0 ∷ 0 ∷ 0 ∷ 0 ∷ 0 ∷ []) ∷
      (0 ∷ 0 ∷ 384 ∷ 0 ∷ 0 ∷ 65536 ∷ 1 ∷ 65600 ∷ 0 ∷ 2 ∷ 1 ∷ 1 ∷ 7 ∷ 0 ∷ 0 ∷ 0 ∷ 0 ∷ 0 ∷ 0 ∷ 0 ∷ 0 ∷
      0 ∷ 0 ∷ 0 ∷ 0 ∷ 0 ∷ 0 ∷ 0 ∷ 0 ∷ 0 ∷ 0 ∷ 0 ∷ []) ∷
      (0 ∷ 0 ∷ 4294902144 ∷ 0 ∷ 0 ∷ 65536 ∷ 1 ∷ 65600 ∷ 0 ∷ 2 ∷ 2 ∷ 1 ∷ 7 ∷ 0 ∷ 0 ∷ 0 ∷ 0 ∷ 0 ∷ 0 ∷
      0 ∷ 0 ∷ 0 ∷ 0 ∷ 0 ∷ 0 ∷ 0 ∷ 0 ∷ 0 ∷ 0 ∷ 0 ∷ 0 ∷ 0 ∷ []) ∷
      (0 ∷ 0 ∷ 4294836608 ∷ 0 ∷ 0 ∷ 65536 ∷ 1 ∷ 65600 ∷ 0 ∷ 2 ∷ 3 ∷ 1 ∷ 7 ∷ 0 ∷ 0 ∷ 0 ∷ 0 ∷ 0 ∷ 0 ∷
      0 ∷ 0 ∷ 0 ∷ 0 ∷ 0 ∷ 0 ∷ 0 ∷ 0 ∷ 0 ∷ 0 ∷ 0 ∷ 0 ∷ 0 ∷ []) ∷
      [];
  bytes = patched (replicate 384 0) ([]);
}

ending : ending_of (state_after first events) ≡ last
unfolding computing
ending = refl
