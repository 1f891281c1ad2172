-- 3 harts in lock elision, 300 random events over LR and SC: 3 of Armed, 2 of LetGo, 1 of Ordered that let harts go
use Rattle.std.proofs.Common.{◌≡◌, ℕ, true, false, List, [], ◌∷◌, Some, None, replicate, refl}
use Rattle.el_base.specs.HartId.{hart_id}
use Rattle.el_base.specs.LineAddr.{line_addr}
use Rattle.el_base.specs.declared.config.Config.{Config}
use Rattle.el_base.specs.declared.config.Mode.TheVariants.{Plain, Sle, Tlr}
use Rattle.el_base.specs.declared.events.Event.{Event}
use Rattle.el_base.specs.declared.events.Kind.TheVariants.{Step, Order, Serve, Deliver}
use Rattle.el_base.specs.declared.outcomes.Cause.TheVariants.{Room, Lines, Long, Call, Mixed}
use Rattle.el_base.specs.declared.outcomes.Need.TheVariants.{Read, Write}
use Rattle.el_base.specs.declared.outcomes.Outcome.{Outcome}
use Rattle.el_base.specs.declared.outcomes.Outcome.TheVariants.{Idle, Stalled, Missed, Ran, Began, Buffered, Committed}
use Rattle.el_base.specs.declared.outcomes.Outcome.TheVariants.{RolledBack, Blocked}
use Rattle.el_base.specs.declared.outcomes.Outcome.TheVariants.{Delivered, Armed, LetGo}
use Rattle.el_base.specs.declared.outcomes.Why.TheVariants.{Behind, Retained, Locked}
use Rattle.computed_runs.proofs.Computing.{computing}
use Rattle.computed_runs.proofs.Given.{Ending, armed, ending_of, event, first_state, lost, ordered_with, patched}
use Rattle.computed_runs.proofs.Given.{request, section, served_with}
use Rattle.computed_runs.proofs.Given.{stamp, watch, way}
use Rattle.el_model.specs.Next.{outcomes_from, state_after}
use Rattle.el_model.specs.State.{Hart, ModelState}
use Rattle.mail.specs.Mailbox.{Marker, Probe}
use Rattle.moesi.specs.declared.letter.Letter.TheVariants.{M, O, E, S}

abbrev config : Config
config = record {
  harts = 3;
  mode = Sle;
  sets = 4;
  ways = 3;
  lines = 2;
  long = 21;
  steps = 300;
}

abbrev words : List ℕ
words =
    66231 ∷ 1049363 ∷ 2098323 ∷ 9765987 ∷ 268608559 ∷ 1443347 ∷ 1443347 ∷ 1443347 ∷ 1443347 ∷ 1443347 ∷ 1443347 ∷
    1443347 ∷ 1443347 ∷ 1443347 ∷ 1443347 ∷ 1443347 ∷ 1443347 ∷ 1443347 ∷ 1443347 ∷ 1443347 ∷ 1443347 ∷ 1443347 ∷
    409118127 ∷ 1443347 ∷ 140682287 ∷ 345154083 ∷ 412264239 ∷ 412264239 ∷ 172067 ∷ 4188008559 ∷ []

abbrev first : ModelState
first = first_state config 65536 384 131072 words

abbrev events : List Event
events =
    event Step 1 ∷ event Step 1 ∷ event Step 2 ∷ event Step 2 ∷ event Serve 0 ∷ event Deliver 2 ∷ event Step 1 ∷
    event Serve 0 ∷ event Step 2 ∷ event Step 0 ∷ event Step 0 ∷ event Step 2 ∷ event Step 0 ∷ event Step 1 ∷
    event Step 0 ∷ event Step 0 ∷ event Step 1 ∷ event Order 1 ∷ event Step 2 ∷ event Serve 1 ∷ event Deliver 0 ∷
    event Step 2 ∷ event Serve 0 ∷ event Deliver 2 ∷ event Serve 2 ∷ event Step 1 ∷ event Serve 2 ∷ event Serve 1 ∷
    event Step 0 ∷ event Order 0 ∷ event Step 2 ∷ event Deliver 1 ∷ event Deliver 2 ∷ event Order 0 ∷ event Step 2 ∷
    event Step 2 ∷ event Step 1 ∷ event Serve 0 ∷ event Order 2 ∷ event Serve 1 ∷ event Step 2 ∷ event Step 2 ∷
    event Step 0 ∷ event Deliver 1 ∷ event Deliver 2 ∷ event Serve 0 ∷ event Step 1 ∷ event Step 0 ∷ event Step 1 ∷
    event Step 2 ∷ event Step 0 ∷ event Step 1 ∷ event Step 2 ∷ event Step 1 ∷ event Step 0 ∷ event Serve 0 ∷
    event Serve 1 ∷ event Step 0 ∷ event Order 1 ∷ event Serve 2 ∷ event Step 1 ∷ event Serve 1 ∷ event Order 1 ∷
    event Step 1 ∷ event Step 0 ∷ event Step 2 ∷ event Order 0 ∷ event Step 0 ∷ event Serve 0 ∷ event Step 0 ∷
    event Step 1 ∷ event Step 1 ∷ event Step 2 ∷ event Step 0 ∷ event Serve 1 ∷ event Step 0 ∷ event Step 0 ∷
    event Serve 1 ∷ event Step 2 ∷ event Step 2 ∷ event Deliver 2 ∷ event Step 2 ∷ event Step 1 ∷ event Step 0 ∷
    event Step 2 ∷ event Order 1 ∷ event Deliver 0 ∷ event Deliver 0 ∷ event Step 0 ∷ event Serve 1 ∷ event Step 1 ∷
    event Step 2 ∷ event Order 0 ∷ event Deliver 1 ∷ event Deliver 2 ∷ event Step 1 ∷ event Step 2 ∷ event Step 1 ∷
    event Step 2 ∷ event Serve 1 ∷ event Step 0 ∷ event Step 2 ∷ event Step 2 ∷ event Serve 1 ∷ event Order 2 ∷
    event Step 0 ∷ event Step 0 ∷ event Step 1 ∷ event Step 0 ∷ event Serve 2 ∷ event Deliver 2 ∷ event Step 0 ∷
    event Step 0 ∷ event Order 0 ∷ event Step 2 ∷ event Step 0 ∷ event Step 1 ∷ event Step 2 ∷ event Order 2 ∷
    event Serve 0 ∷ event Deliver 1 ∷ event Serve 2 ∷ event Step 0 ∷ event Step 1 ∷ event Deliver 1 ∷ event Step 2 ∷
    event Order 2 ∷ event Step 1 ∷ event Step 1 ∷ event Deliver 0 ∷ event Step 1 ∷ event Deliver 2 ∷ event Deliver 1 ∷
    event Step 2 ∷ event Step 1 ∷ event Step 2 ∷ event Order 0 ∷ event Serve 0 ∷ event Step 0 ∷ event Step 0 ∷
    event Step 2 ∷ event Order 2 ∷ event Serve 0 ∷ event Step 0 ∷ event Order 0 ∷ event Deliver 1 ∷ event Order 1 ∷
    event Serve 2 ∷ event Serve 1 ∷ event Step 1 ∷ event Serve 1 ∷ event Order 1 ∷ event Serve 1 ∷ event Order 1 ∷
    event Step 0 ∷ event Order 0 ∷ event Step 0 ∷ event Deliver 0 ∷ event Serve 1 ∷ event Serve 0 ∷ event Step 0 ∷
    event Step 0 ∷ event Step 0 ∷ event Step 2 ∷ event Serve 2 ∷ event Serve 1 ∷ event Order 0 ∷ event Step 0 ∷
    event Step 1 ∷ event Step 1 ∷ event Step 1 ∷ event Order 2 ∷ event Order 0 ∷ event Serve 0 ∷ event Step 1 ∷
    event Order 1 ∷ event Deliver 1 ∷ event Deliver 0 ∷ event Serve 2 ∷ event Serve 0 ∷ event Serve 1 ∷ event Order 2 ∷
    event Deliver 1 ∷ event Step 1 ∷ event Step 1 ∷ event Step 1 ∷ event Serve 1 ∷ event Deliver 1 ∷ event Order 0 ∷
    event Deliver 0 ∷ event Step 2 ∷ event Deliver 2 ∷ event Deliver 2 ∷ event Step 2 ∷ event Step 1 ∷ event Serve 2 ∷
    event Order 1 ∷ event Serve 0 ∷ event Deliver 0 ∷ event Step 1 ∷ event Step 1 ∷ event Deliver 0 ∷ event Serve 1 ∷
    event Step 0 ∷ event Deliver 0 ∷ event Serve 2 ∷ event Serve 0 ∷ event Order 0 ∷ event Deliver 0 ∷ event Order 2 ∷
    event Serve 1 ∷ event Order 0 ∷ event Order 0 ∷ event Order 0 ∷ event Order 0 ∷ event Serve 2 ∷ event Order 0 ∷
    event Serve 2 ∷ event Deliver 0 ∷ event Order 2 ∷ event Step 0 ∷ event Serve 0 ∷ event Step 1 ∷ event Step 1 ∷
    event Serve 2 ∷ event Step 0 ∷ event Order 1 ∷ event Step 2 ∷ event Serve 1 ∷ event Deliver 2 ∷ event Step 0 ∷
    event Order 1 ∷ event Step 2 ∷ event Deliver 1 ∷ event Order 1 ∷ event Step 1 ∷ event Serve 2 ∷ event Order 0 ∷
    event Step 1 ∷ event Serve 0 ∷ event Step 1 ∷ event Deliver 0 ∷ event Step 1 ∷ event Deliver 0 ∷ event Step 2 ∷
    event Serve 0 ∷ event Serve 2 ∷ event Step 0 ∷ event Step 0 ∷ event Step 1 ∷ event Step 0 ∷ event Step 0 ∷
    event Step 2 ∷ event Step 0 ∷ event Order 2 ∷ event Step 1 ∷ event Step 2 ∷ event Serve 1 ∷ event Deliver 2 ∷
    event Serve 2 ∷ event Step 2 ∷ event Deliver 0 ∷ event Step 1 ∷ event Step 2 ∷ event Order 1 ∷ event Step 1 ∷
    event Deliver 2 ∷ event Step 2 ∷ event Step 0 ∷ event Deliver 0 ∷ event Serve 2 ∷ event Deliver 2 ∷ event Order 2 ∷
    event Order 0 ∷ event Step 0 ∷ event Order 2 ∷ event Order 0 ∷ event Step 2 ∷ event Serve 2 ∷ event Step 0 ∷
    event Step 1 ∷ event Serve 0 ∷ event Serve 0 ∷ event Step 1 ∷ event Serve 2 ∷ event Step 2 ∷ event Step 1 ∷
    event Step 0 ∷ event Step 0 ∷ event Step 2 ∷ event Step 1 ∷ event Serve 1 ∷ event Serve 1 ∷ event Order 0 ∷
    event Serve 0 ∷ event Step 0 ∷ event Step 2 ∷ event Step 1 ∷ event Serve 1 ∷ event Step 2 ∷ []

abbrev expected : List Outcome
expected =
    Ran ∷ Ran ∷ Ran ∷ Ran ∷ Idle ∷ Idle ∷ Ran ∷ Idle ∷ Ran ∷ Ran ∷ Ran ∷ Ran ∷ Ran ∷ Ran ∷ Ran ∷
    Missed (line_addr 1024) Read ∷ Missed (line_addr 1024) Read ∷ ordered_with [] [] ∷ Ran ∷ served_with [] [] ∷ Idle ∷
    Ran ∷ Idle ∷ Idle ∷ Idle ∷ Armed ∷ Idle ∷ Idle ∷ Stalled ∷ ordered_with [] [] ∷ Ran ∷ Idle ∷ Idle ∷ Idle ∷ Ran ∷
    Ran ∷ Buffered ∷ served_with [] [] ∷ Idle ∷ Idle ∷ Ran ∷ Ran ∷ Armed ∷ Idle ∷ Idle ∷ Idle ∷ Buffered ∷ Buffered ∷
    Buffered ∷ Ran ∷ Buffered ∷ Buffered ∷ Ran ∷ Buffered ∷ Buffered ∷ Idle ∷ Idle ∷ Buffered ∷ Idle ∷ Idle ∷
    Buffered ∷ Idle ∷ Idle ∷ Buffered ∷ Buffered ∷ Ran ∷ Idle ∷ Buffered ∷ Idle ∷ Buffered ∷ Buffered ∷ Buffered ∷
    Ran ∷ Buffered ∷ Idle ∷ Buffered ∷ Buffered ∷ Idle ∷ Ran ∷ Ran ∷ Idle ∷ Ran ∷ Buffered ∷ Buffered ∷ Ran ∷ Idle ∷
    Idle ∷ Idle ∷ Buffered ∷ Idle ∷ Buffered ∷ Ran ∷ Idle ∷ Idle ∷ Idle ∷ Buffered ∷ Ran ∷ Buffered ∷ Ran ∷ Idle ∷
    Buffered ∷ Ran ∷ Missed (line_addr 1024) Read ∷ Idle ∷ ordered_with [] [] ∷ Buffered ∷ LetGo 15 ∷ Buffered ∷ Ran ∷
    served_with [] [] ∷ Idle ∷ Ran ∷ Ran ∷ Idle ∷ Began ∷ Missed (line_addr 1024) Write ∷ LetGo 15 ∷
    Missed (line_addr 1029) Write ∷ ordered_with [] [] ∷ Idle ∷ Idle ∷ served_with [] [] ∷ Stalled ∷ Ran ∷ Idle ∷
    Buffered ∷ Idle ∷ Ran ∷ Ran ∷ Idle ∷ Missed (line_addr 1024) Write ∷ Idle ∷ Idle ∷ Buffered ∷ Stalled ∷ Buffered ∷
    ordered_with ((2, 0) ∷ []) [] ∷ served_with [] [] ∷ Ran ∷ Ran ∷ Missed (line_addr 1024) Read ∷ ordered_with [] [] ∷
    Idle ∷ Ran ∷ Idle ∷ Idle ∷ ordered_with [] [] ∷ served_with [] [] ∷ Blocked Locked (hart_id 2) ∷ Stalled ∷
    Blocked Locked (hart_id 2) ∷ Idle ∷ Blocked Locked (hart_id 2) ∷ Idle ∷ Missed (line_addr 1029) Write ∷
    ordered_with [] [] ∷ Stalled ∷ Idle ∷ Blocked Locked (hart_id 2) ∷ served_with [] [] ∷ Ran ∷ Ran ∷ Ran ∷
    Missed (line_addr 1024) Write ∷ Idle ∷ served_with [] [] ∷ Idle ∷ Missed (line_addr 1024) Write ∷ Ran ∷ Ran ∷ Ran ∷
    ordered_with [] [] ∷ ordered_with [] [] ∷ Blocked Behind (hart_id 2) ∷ Missed (line_addr 1029) Write ∷
    ordered_with [] [] ∷ Idle ∷ Idle ∷ served_with [] [] ∷ Blocked Locked (hart_id 2) ∷ served_with [] [] ∷ Idle ∷
    Idle ∷ Ran ∷ Ran ∷ Ran ∷ Idle ∷ Idle ∷ Idle ∷ Idle ∷ Ran ∷ Idle ∷ Idle ∷ Missed (line_addr 1029) Write ∷
    Missed (line_addr 1024) Write ∷ Idle ∷ ordered_with [] [] ∷ served_with [] [] ∷ Idle ∷ Stalled ∷ Stalled ∷ Idle ∷
    Blocked Locked (hart_id 0) ∷ Ran ∷ Idle ∷ Idle ∷ Idle ∷ Idle ∷ Idle ∷ ordered_with [] [] ∷ served_with [] [] ∷
    Idle ∷ Idle ∷ Idle ∷ Idle ∷ served_with [] [] ∷ Idle ∷ Idle ∷ Idle ∷ Idle ∷ Ran ∷ Idle ∷ Ran ∷ Ran ∷ Idle ∷ Ran ∷
    Idle ∷ Ran ∷ Idle ∷ Idle ∷ Missed (line_addr 1024) Read ∷ Idle ∷ Ran ∷ Idle ∷ Idle ∷ Ran ∷ Idle ∷
    ordered_with [] [] ∷ Armed ∷ served_with [] [] ∷ Buffered ∷ Idle ∷ Buffered ∷ Idle ∷ Ran ∷ Idle ∷ Idle ∷ Ran ∷
    Ran ∷ Buffered ∷ Ran ∷ Ran ∷ Missed (line_addr 1024) Write ∷ Ran ∷ ordered_with [] ((1, 4) ∷ []) ∷ Ran ∷ Stalled ∷
    Idle ∷ Idle ∷ served_with [] [] ∷ Ran ∷ Idle ∷ Ran ∷ Ran ∷ Idle ∷ Ran ∷ Idle ∷ Ran ∷ Ran ∷ Idle ∷ Idle ∷ Idle ∷
    Idle ∷ Idle ∷ Ran ∷ Idle ∷ Idle ∷ Ran ∷ Idle ∷ Ran ∷ Ran ∷ Idle ∷ Idle ∷ Ran ∷ Idle ∷ Ran ∷ Ran ∷ Ran ∷ Ran ∷ Ran ∷
    Ran ∷ Idle ∷ Idle ∷ Idle ∷ Idle ∷ Ran ∷ Ran ∷ Ran ∷ Idle ∷ Ran ∷ []

outcomes : outcomes_from first events ≡ expected
unfolding computing
outcomes = refl

abbrev last : Ending
last = record {
  harts =
      record {
        section = None;
        armed = None;
        last_lr = (Some 131088);
        cache = ([]) ∷ ([]) ∷ ([]) ∷ ([]) ∷ [];
        raised = None;
        held_line = None;
        mail = [];
        told = [];
        upstream = [];
        fallback = false;
        tries = 0;
        clock = 0;
        seen = 0;
        attempt = None;
        predictor = record { counters = (patched (replicate 64 2) ((4, 1) ∷ [])); watch = None };
      } ∷ record {
        section = None;
        armed = None;
        last_lr = (Some 131088);
        cache = ([]) ∷ ([]) ∷ ([]) ∷ ([]) ∷ [];
        raised = None;
        held_line = None;
        mail = [];
        told = [];
        upstream = [];
        fallback = false;
        tries = 0;
        clock = 0;
        seen = 0;
        attempt = None;
        predictor = record { counters = (patched (replicate 64 2) ([])); watch = None };
      } ∷ record {
        section = None;
        armed = None;
        last_lr = None;
        cache = (way 1024 M false false ∷ []) ∷ (way 1029 M false false ∷ []) ∷ ([]) ∷ ([]) ∷ [];
        raised = None;
        held_line = None;
        mail = [];
        told = [];
        upstream = [];
        fallback = false;
        tries = 1;
        clock = 0;
        seen = 0;
        attempt = None;
        predictor = record { counters = (patched (replicate 64 2) ([])); watch = None };
      } ∷ [];
  order = [];
  pcs = 131132 ∷ 131136 ∷ 131112 ∷ [];
  registers =
      (0 ∷ 0 ∷ 65920 ∷ 0 ∷ 0 ∷ 65536 ∷ 1 ∷ 0 ∷ 0 ∷ 2 ∷ 0 ∷ 0 ∷ 28 ∷ 0 ∷ 1 ∷ 0 ∷ 0 ∷ 0 ∷ 0 ∷ 0 ∷ 0 ∷
      0 ∷ 0 ∷ 0 ∷ 0 ∷ 0 ∷ 0 ∷ 0 ∷ 0 ∷ 0 ∷ 0 ∷ 0 ∷ []) ∷
      (0 ∷ 0 ∷ 384 ∷ 0 ∷ 0 ∷ 65536 ∷ 1 ∷ 0 ∷ 0 ∷ 2 ∷ 1 ∷ 1 ∷ 29 ∷ 0 ∷ 1 ∷ 0 ∷ 0 ∷ 0 ∷ 0 ∷ 0 ∷ 0 ∷ 0 ∷
      0 ∷ 0 ∷ 0 ∷ 0 ∷ 0 ∷ 0 ∷ 0 ∷ 0 ∷ 0 ∷ 0 ∷ []) ∷
      (0 ∷ 0 ∷ 4294902144 ∷ 0 ∷ 0 ∷ 65536 ∷ 1 ∷ 0 ∷ 1 ∷ 2 ∷ 2 ∷ 1 ∷ 23 ∷ 0 ∷ 1 ∷ 0 ∷ 0 ∷ 0 ∷ 0 ∷ 0 ∷
      0 ∷ 0 ∷ 0 ∷ 0 ∷ 0 ∷ 0 ∷ 0 ∷ 0 ∷ 0 ∷ 0 ∷ 0 ∷ 0 ∷ []) ∷
      [];
  bytes = patched (replicate 384 0) ((324, 2) ∷ []);
}

ending : ending_of (state_after first events) ≡ last
unfolding computing
ending = refl
