-- 4 harts in lock elision, 300 random events over LR and SC: 12 of Armed, 5 of LetGo, 1 of Ordered that let harts go,
-- 4 of Committed
use Rattle.std.proofs.Common.{◌≡◌, ℕ, true, false, List, [], ◌∷◌, Some, None, replicate, refl}
use Rattle.el_base.specs.HartId.{hart_id}
use Rattle.el_base.specs.LineAddr.{line_addr}
use Rattle.el_base.specs.declared.config.Config.{Config}
use Rattle.el_base.specs.declared.config.Mode.TheVariants.{Plain, Sle, Tlr}
use Rattle.el_base.specs.declared.events.Event.{Event}
use Rattle.el_base.specs.declared.events.Kind.TheVariants.{Step, Order, Serve, Deliver}
use Rattle.el_base.specs.declared.outcomes.Cause.TheVariants.{Room, Lines, Long, Call, Mixed}
use Rattle.el_base.specs.declared.outcomes.Need.TheVariants.{Read, Write}
use Rattle.el_base.specs.declared.outcomes.Outcome.{Outcome}
use Rattle.el_base.specs.declared.outcomes.Outcome.TheVariants.{Idle, Stalled, Missed, Ran, Began, Buffered, Committed}
use Rattle.el_base.specs.declared.outcomes.Outcome.TheVariants.{RolledBack, Blocked}
use Rattle.el_base.specs.declared.outcomes.Outcome.TheVariants.{Delivered, Armed, LetGo}
use Rattle.el_base.specs.declared.outcomes.Why.TheVariants.{Behind, Retained, Locked}
use Rattle.computed_runs.proofs.Computing.{computing}
use Rattle.computed_runs.proofs.Given.{Ending, armed, ending_of, event, first_state, lost, ordered_with, patched}
use Rattle.computed_runs.proofs.Given.{request, section, served_with}
use Rattle.computed_runs.proofs.Given.{stamp, watch, way}
use Rattle.el_model.specs.Next.{outcomes_from, state_after}
use Rattle.el_model.specs.State.{Hart, ModelState}
use Rattle.mail.specs.Mailbox.{Marker, Probe}
use Rattle.moesi.specs.declared.letter.Letter.TheVariants.{M, O, E, S}

abbrev config : Config
config = record {
  harts = 4;
  mode = Sle;
  sets = 1;
  ways = 3;
  lines = 1;
  long = 16;
  steps = 300;
}

abbrev words : List ℕ
words =
    66231 ∷ 1049363 ∷ 2098323 ∷ 67273619 ∷ 268674095 ∷ 1443347 ∷ 1443347 ∷ 1443347 ∷ 1443347 ∷ 1443347 ∷ 1443347 ∷
    1443347 ∷ 237603 ∷ 268608559 ∷ 409118127 ∷ 172067 ∷ 268608559 ∷ 4368003 ∷ 365667 ∷ 6465199 ∷ 264414723 ∷ 172067 ∷
    9765987 ∷ 268608559 ∷ 409118127 ∷ 365667 ∷ 142779907 ∷ 110276131 ∷ 209888771 ∷ 134389807 ∷ 4183814255 ∷ []

abbrev first : ModelState
first = first_state config 65536 384 131072 words

abbrev events : List Event
events =
    event Step 2 ∷ event Step 3 ∷ event Step 3 ∷ event Step 0 ∷ event Step 1 ∷ event Step 0 ∷ event Step 1 ∷
    event Serve 3 ∷ event Step 0 ∷ event Step 1 ∷ event Step 2 ∷ event Deliver 0 ∷ event Serve 1 ∷ event Serve 2 ∷
    event Order 0 ∷ event Step 3 ∷ event Step 2 ∷ event Order 1 ∷ event Step 2 ∷ event Step 0 ∷ event Deliver 3 ∷
    event Order 3 ∷ event Step 3 ∷ event Order 3 ∷ event Serve 1 ∷ event Step 0 ∷ event Order 2 ∷ event Step 0 ∷
    event Order 0 ∷ event Step 2 ∷ event Step 3 ∷ event Order 2 ∷ event Deliver 0 ∷ event Serve 3 ∷ event Serve 0 ∷
    event Order 3 ∷ event Serve 2 ∷ event Step 1 ∷ event Order 1 ∷ event Deliver 0 ∷ event Serve 2 ∷ event Order 2 ∷
    event Step 1 ∷ event Serve 3 ∷ event Serve 2 ∷ event Order 1 ∷ event Order 1 ∷ event Order 3 ∷ event Serve 3 ∷
    event Step 0 ∷ event Order 2 ∷ event Serve 2 ∷ event Step 0 ∷ event Step 3 ∷ event Deliver 2 ∷ event Serve 1 ∷
    event Deliver 0 ∷ event Serve 3 ∷ event Step 0 ∷ event Serve 3 ∷ event Deliver 2 ∷ event Step 0 ∷ event Order 0 ∷
    event Serve 0 ∷ event Serve 1 ∷ event Order 0 ∷ event Serve 3 ∷ event Serve 1 ∷ event Step 0 ∷ event Step 0 ∷
    event Deliver 1 ∷ event Deliver 3 ∷ event Serve 1 ∷ event Order 0 ∷ event Step 2 ∷ event Step 0 ∷ event Deliver 1 ∷
    event Serve 3 ∷ event Step 0 ∷ event Step 2 ∷ event Step 2 ∷ event Serve 1 ∷ event Serve 1 ∷ event Step 3 ∷
    event Step 2 ∷ event Step 2 ∷ event Step 0 ∷ event Step 2 ∷ event Step 0 ∷ event Serve 1 ∷ event Deliver 0 ∷
    event Order 1 ∷ event Deliver 0 ∷ event Step 1 ∷ event Order 3 ∷ event Deliver 1 ∷ event Serve 2 ∷ event Order 0 ∷
    event Deliver 2 ∷ event Step 0 ∷ event Serve 0 ∷ event Order 0 ∷ event Serve 3 ∷ event Deliver 0 ∷ event Serve 3 ∷
    event Serve 0 ∷ event Serve 2 ∷ event Step 0 ∷ event Step 1 ∷ event Step 1 ∷ event Deliver 0 ∷ event Deliver 2 ∷
    event Order 1 ∷ event Step 3 ∷ event Step 2 ∷ event Order 3 ∷ event Step 2 ∷ event Step 1 ∷ event Step 0 ∷
    event Step 3 ∷ event Deliver 0 ∷ event Step 3 ∷ event Step 1 ∷ event Step 1 ∷ event Deliver 0 ∷ event Step 2 ∷
    event Step 3 ∷ event Deliver 0 ∷ event Order 2 ∷ event Step 3 ∷ event Step 3 ∷ event Serve 0 ∷ event Serve 2 ∷
    event Serve 3 ∷ event Serve 2 ∷ event Step 1 ∷ event Serve 0 ∷ event Order 2 ∷ event Order 1 ∷ event Order 0 ∷
    event Step 2 ∷ event Step 2 ∷ event Serve 1 ∷ event Order 0 ∷ event Step 3 ∷ event Step 2 ∷ event Step 3 ∷
    event Step 3 ∷ event Deliver 2 ∷ event Serve 1 ∷ event Order 3 ∷ event Serve 3 ∷ event Deliver 3 ∷
    event Deliver 3 ∷ event Step 3 ∷ event Order 2 ∷ event Step 0 ∷ event Order 1 ∷ event Deliver 0 ∷ event Step 2 ∷
    event Step 3 ∷ event Serve 2 ∷ event Order 1 ∷ event Order 1 ∷ event Serve 1 ∷ event Serve 0 ∷ event Serve 3 ∷
    event Order 0 ∷ event Step 1 ∷ event Deliver 2 ∷ event Order 3 ∷ event Order 1 ∷ event Serve 3 ∷ event Serve 3 ∷
    event Serve 3 ∷ event Step 1 ∷ event Order 1 ∷ event Serve 3 ∷ event Deliver 1 ∷ event Serve 0 ∷ event Serve 3 ∷
    event Serve 2 ∷ event Serve 2 ∷ event Serve 1 ∷ event Order 0 ∷ event Order 2 ∷ event Serve 3 ∷ event Step 0 ∷
    event Order 3 ∷ event Step 0 ∷ event Serve 3 ∷ event Serve 3 ∷ event Order 1 ∷ event Deliver 1 ∷ event Serve 1 ∷
    event Serve 2 ∷ event Step 1 ∷ event Step 2 ∷ event Step 3 ∷ event Serve 3 ∷ event Step 2 ∷ event Deliver 2 ∷
    event Step 1 ∷ event Step 3 ∷ event Order 1 ∷ event Order 2 ∷ event Deliver 1 ∷ event Deliver 3 ∷ event Order 2 ∷
    event Serve 0 ∷ event Order 3 ∷ event Order 0 ∷ event Step 3 ∷ event Step 3 ∷ event Step 1 ∷ event Order 1 ∷
    event Step 0 ∷ event Step 3 ∷ event Step 2 ∷ event Serve 1 ∷ event Serve 1 ∷ event Step 1 ∷ event Step 0 ∷
    event Serve 1 ∷ event Step 2 ∷ event Step 2 ∷ event Step 1 ∷ event Order 3 ∷ event Step 3 ∷ event Step 1 ∷
    event Step 0 ∷ event Step 2 ∷ event Step 1 ∷ event Step 3 ∷ event Step 2 ∷ event Step 3 ∷ event Order 1 ∷
    event Step 0 ∷ event Step 1 ∷ event Step 3 ∷ event Order 3 ∷ event Step 1 ∷ event Step 0 ∷ event Step 2 ∷
    event Deliver 1 ∷ event Order 2 ∷ event Step 0 ∷ event Deliver 1 ∷ event Serve 2 ∷ event Serve 2 ∷ event Step 0 ∷
    event Step 1 ∷ event Serve 3 ∷ event Order 0 ∷ event Deliver 1 ∷ event Step 1 ∷ event Step 3 ∷ event Step 2 ∷
    event Order 1 ∷ event Serve 2 ∷ event Deliver 3 ∷ event Deliver 3 ∷ event Serve 1 ∷ event Serve 1 ∷ event Step 0 ∷
    event Order 1 ∷ event Serve 0 ∷ event Step 2 ∷ event Step 2 ∷ event Order 0 ∷ event Order 1 ∷ event Deliver 3 ∷
    event Step 3 ∷ event Order 3 ∷ event Serve 3 ∷ event Step 3 ∷ event Step 0 ∷ event Serve 1 ∷ event Serve 0 ∷
    event Order 2 ∷ event Serve 2 ∷ event Serve 1 ∷ event Order 2 ∷ event Step 3 ∷ event Order 1 ∷ event Deliver 0 ∷
    event Deliver 1 ∷ event Deliver 0 ∷ event Serve 1 ∷ event Order 1 ∷ event Deliver 3 ∷ event Serve 0 ∷
    event Serve 0 ∷ event Serve 0 ∷ event Serve 0 ∷ event Step 0 ∷ event Step 0 ∷ event Serve 1 ∷ event Deliver 2 ∷
    event Order 0 ∷ []

abbrev expected : List Outcome
expected =
    Ran ∷ Ran ∷ Ran ∷ Ran ∷ Ran ∷ Ran ∷ Ran ∷ Idle ∷ Ran ∷ Ran ∷ Ran ∷ Idle ∷ Idle ∷ Idle ∷ Idle ∷ Ran ∷ Ran ∷ Idle ∷
    Ran ∷ Ran ∷ Idle ∷ Idle ∷ Ran ∷ Idle ∷ Idle ∷ Missed (line_addr 1025) Read ∷ Idle ∷ Stalled ∷ ordered_with [] [] ∷
    Missed (line_addr 1025) Read ∷ Missed (line_addr 1025) Read ∷ ordered_with [] [] ∷ Idle ∷ Idle ∷
    served_with [] [] ∷ ordered_with [] [] ∷ Blocked Locked (hart_id 0) ∷ Ran ∷ Idle ∷ Idle ∷
    Blocked Locked (hart_id 0) ∷ Idle ∷ Missed (line_addr 1025) Read ∷ Blocked Behind (hart_id 2) ∷
    Blocked Locked (hart_id 0) ∷ ordered_with [] [] ∷ Idle ∷ Idle ∷ Blocked Behind (hart_id 2) ∷ Armed ∷ Idle ∷
    served_with [] [] ∷ Buffered ∷ Stalled ∷ Idle ∷ Blocked Behind (hart_id 3) ∷ Idle ∷ Blocked Locked (hart_id 2) ∷
    Buffered ∷ Blocked Locked (hart_id 2) ∷ Idle ∷ Buffered ∷ Idle ∷ Idle ∷ Blocked Behind (hart_id 3) ∷ Idle ∷
    Blocked Locked (hart_id 2) ∷ Blocked Behind (hart_id 3) ∷ Buffered ∷ Buffered ∷ Idle ∷ Idle ∷
    Blocked Behind (hart_id 3) ∷ Idle ∷ Armed ∷ Buffered ∷ Idle ∷ served_with [] [] ∷ Buffered ∷ Buffered ∷ Buffered ∷
    Blocked Locked (hart_id 3) ∷ Blocked Locked (hart_id 3) ∷ Armed ∷ Buffered ∷ Buffered ∷ LetGo 8 ∷ Buffered ∷
    Missed (line_addr 1025) Write ∷ served_with [] [] ∷ Idle ∷ Idle ∷ Idle ∷ Armed ∷ Idle ∷ Idle ∷ Idle ∷
    ordered_with [] ((1, 1) ∷ (2, 6) ∷ (3, 1) ∷ []) ∷ Idle ∷ Stalled ∷ served_with [] [] ∷ Idle ∷ Idle ∷ Idle ∷ Idle ∷
    Idle ∷ Idle ∷ Ran ∷ Ran ∷ Ran ∷ Idle ∷ Idle ∷ Idle ∷ Ran ∷ Ran ∷ Idle ∷ Ran ∷ Ran ∷ Missed (line_addr 1024) Read ∷
    Ran ∷ Idle ∷ Ran ∷ Ran ∷ Ran ∷ Idle ∷ Missed (line_addr 1025) Write ∷ Ran ∷ Idle ∷ ordered_with [] [] ∷ Ran ∷ Ran ∷
    Idle ∷ served_with [] [] ∷ Idle ∷ Idle ∷ Ran ∷ Idle ∷ Idle ∷ Idle ∷ ordered_with [] [] ∷ Ran ∷
    Missed (line_addr 1024) Read ∷ Idle ∷ Idle ∷ Ran ∷ Stalled ∷ Missed (line_addr 1025) Write ∷ Stalled ∷ Idle ∷
    Idle ∷ ordered_with [] [] ∷ served_with [] [] ∷ Idle ∷ Idle ∷ Ran ∷ ordered_with [] [] ∷ Stalled ∷ Idle ∷ Idle ∷
    Stalled ∷ Missed (line_addr 1024) Read ∷ Blocked Behind (hart_id 0) ∷ Idle ∷ Idle ∷ Idle ∷ served_with [] [] ∷
    Idle ∷ Idle ∷ Ran ∷ Idle ∷ ordered_with [] [] ∷ Idle ∷ Blocked Behind (hart_id 2) ∷ Blocked Behind (hart_id 2) ∷
    Blocked Behind (hart_id 2) ∷ Missed (line_addr 1025) Write ∷ ordered_with [] [] ∷ Blocked Behind (hart_id 2) ∷
    Idle ∷ Idle ∷ Blocked Behind (hart_id 2) ∷ Blocked Locked (hart_id 0) ∷ Blocked Locked (hart_id 0) ∷
    served_with [] [] ∷ Idle ∷ Idle ∷ Blocked Behind (hart_id 2) ∷ Armed ∷ Idle ∷ Began ∷ Blocked Behind (hart_id 2) ∷
    Blocked Behind (hart_id 2) ∷ Idle ∷ Idle ∷ Idle ∷ served_with [] [] ∷ Ran ∷ Armed ∷ Stalled ∷ served_with [] [] ∷
    Began ∷ Idle ∷ Missed (line_addr 1024) Read ∷ Armed ∷ ordered_with [] [] ∷ Idle ∷ Idle ∷ Idle ∷ Idle ∷ Idle ∷
    Idle ∷ Idle ∷ Began ∷ Committed 3 ∷ Stalled ∷ Idle ∷ Committed 3 ∷ Armed ∷ Committed 3 ∷ served_with [] [] ∷ Idle ∷
    Armed ∷ Armed ∷ Idle ∷ Armed ∷ LetGo 1 ∷ Began ∷ Idle ∷ LetGo 1 ∷ Committed 3 ∷ LetGo 1 ∷ Ran ∷ Armed ∷ Ran ∷ Ran ∷
    Ran ∷ Idle ∷ Ran ∷ LetGo 1 ∷ Missed (line_addr 1024) Write ∷ ordered_with [] [] ∷ Ran ∷ Ran ∷
    Missed (line_addr 1024) Write ∷ Idle ∷ ordered_with [] [] ∷ Missed (line_addr 1024) Write ∷ Idle ∷
    Blocked Behind (hart_id 3) ∷ Blocked Behind (hart_id 3) ∷ Stalled ∷ Ran ∷ served_with [] [] ∷ ordered_with [] [] ∷
    Idle ∷ Missed (line_addr 1024) Write ∷ Ran ∷ Stalled ∷ ordered_with [] [] ∷ served_with [] [] ∷ Idle ∷ Idle ∷
    Blocked Behind (hart_id 0) ∷ Blocked Behind (hart_id 0) ∷ Stalled ∷ Idle ∷ Blocked Locked (hart_id 2) ∷ Ran ∷
    Missed (line_addr 1027) Read ∷ Idle ∷ Idle ∷ Idle ∷ Missed (line_addr 1027) Read ∷ ordered_with [] [] ∷
    served_with [] [] ∷ Ran ∷ Stalled ∷ Blocked Behind (hart_id 0) ∷ served_with [] [] ∷ ordered_with [] [] ∷
    served_with [] [] ∷ Blocked Locked (hart_id 0) ∷ Idle ∷ Missed (line_addr 1024) Write ∷ Idle ∷ Idle ∷ Idle ∷ Idle ∷
    Blocked Locked (hart_id 0) ∷ Idle ∷ Idle ∷ Idle ∷ Idle ∷ Idle ∷ Idle ∷ Ran ∷ Missed (line_addr 1027) Read ∷
    served_with [] [] ∷ Idle ∷ ordered_with [] [] ∷ []

outcomes : outcomes_from first events ≡ expected
unfolding computing
outcomes = refl

abbrev last : Ending
last = record {
  harts =
      record {
        section = None;
        armed = None;
        last_lr = (Some 131136);
        cache = ([]) ∷ [];
        raised = None;
        held_line = None;
        mail = [];
        told = [];
        upstream = [];
        fallback = false;
        tries = 0;
        clock = 0;
        seen = 0;
        attempt = None;
        predictor = record { counters = (patched (replicate 64 2) ((13, 3) ∷ [])); watch = None };
      } ∷ record {
        section = None;
        armed = None;
        last_lr = (Some 131136);
        cache = (way 1024 M false false ∷ way 1025 M false false ∷ []) ∷ [];
        raised = None;
        held_line = (Some 1024);
        mail = [];
        told = [];
        upstream = [];
        fallback = false;
        tries = 0;
        clock = 0;
        seen = 0;
        attempt = None;
        predictor = record { counters = (patched (replicate 64 2) ((13, 3) ∷ [])); watch = None };
      } ∷ record {
        section = None;
        armed = None;
        last_lr = (Some 131136);
        cache = (way 1027 S false false ∷ []) ∷ [];
        raised = None;
        held_line = (Some 1027);
        mail = [];
        told = [];
        upstream = [];
        fallback = false;
        tries = 0;
        clock = 0;
        seen = 0;
        attempt = None;
        predictor = record { counters = (patched (replicate 64 2) ((13, 3) ∷ [])); watch = None };
      } ∷ record {
        section = None;
        armed = None;
        last_lr = (Some 131136);
        cache = (way 1027 S false false ∷ []) ∷ [];
        raised = (Some (request 3 1024 Write None));
        held_line = None;
        mail = [];
        told = [];
        upstream = [];
        fallback = false;
        tries = 0;
        clock = 0;
        seen = 0;
        attempt = None;
        predictor = record { counters = (patched (replicate 64 2) ((13, 3) ∷ [])); watch = None };
      } ∷ [];
  order = (request 0 1027 Read None) ∷ [];
  pcs = 131152 ∷ 131148 ∷ 131152 ∷ 131156 ∷ [];
  registers =
      (0 ∷ 0 ∷ 65920 ∷ 0 ∷ 0 ∷ 65536 ∷ 1 ∷ 65600 ∷ 0 ∷ 2 ∷ 0 ∷ 0 ∷ 7 ∷ 2 ∷ 0 ∷ 0 ∷ 0 ∷ 0 ∷ 0 ∷ 0 ∷ 0 ∷
      0 ∷ 0 ∷ 0 ∷ 0 ∷ 0 ∷ 0 ∷ 0 ∷ 0 ∷ 0 ∷ 0 ∷ 0 ∷ []) ∷
      (0 ∷ 0 ∷ 384 ∷ 0 ∷ 0 ∷ 65536 ∷ 1 ∷ 65600 ∷ 0 ∷ 2 ∷ 1 ∷ 0 ∷ 7 ∷ 0 ∷ 0 ∷ 0 ∷ 0 ∷ 0 ∷ 0 ∷ 0 ∷ 0 ∷
      0 ∷ 0 ∷ 0 ∷ 0 ∷ 0 ∷ 0 ∷ 0 ∷ 0 ∷ 0 ∷ 0 ∷ 0 ∷ []) ∷
      (0 ∷ 0 ∷ 4294902144 ∷ 0 ∷ 0 ∷ 65536 ∷ 1 ∷ 65600 ∷ 0 ∷ 2 ∷ 2 ∷ 0 ∷ 7 ∷ 1 ∷ 0 ∷ 0 ∷ 0 ∷ 0 ∷ 0 ∷
      0 ∷ 0 ∷ 0 ∷ 0 ∷ 0 ∷ 0 ∷ 0 ∷ 0 ∷ 0 ∷ 0 ∷ 0 ∷ 0 ∷ 0 ∷ []) ∷
      (0 ∷ 0 ∷ 4294836608 ∷ 0 ∷ 0 ∷ 65536 ∷ 1 ∷ 65600 ∷ 0 ∷ 2 ∷ 3 ∷ 0 ∷ 0 ∷ 0 ∷ 0 ∷ 0 ∷ 0 ∷ 0 ∷ 0 ∷
      0 ∷ 0 ∷ 0 ∷ 0 ∷ 0 ∷ 0 ∷ 0 ∷ 0 ∷ 0 ∷ 0 ∷ 0 ∷ 0 ∷ 0 ∷ []) ∷
      [];
  bytes = patched (replicate 384 0) ((0, 3) ∷ []);
}

ending : ending_of (state_after first events) ≡ last
unfolding computing
ending = refl
