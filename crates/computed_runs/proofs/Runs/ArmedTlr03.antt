-- 3 harts in lock removal, 300 random events over LR and SC: 4 of Armed, 3 of LetGo, 3 of Committed
use Rattle.std.proofs.Common.{◌≡◌, ℕ, true, false, List, [], ◌∷◌, Some, None, replicate, refl}
use Rattle.el_base.specs.HartId.{hart_id}
use Rattle.el_base.specs.LineAddr.{line_addr}
use Rattle.el_base.specs.declared.config.Config.{Config}
use Rattle.el_base.specs.declared.config.Mode.TheVariants.{Plain, Sle, Tlr}
use Rattle.el_base.specs.declared.events.Event.{Event}
use Rattle.el_base.specs.declared.events.Kind.TheVariants.{Step, Order, Serve, Deliver}
use Rattle.el_base.specs.declared.outcomes.Cause.TheVariants.{Room, Lines, Long, Call, Mixed}
use Rattle.el_base.specs.declared.outcomes.Need.TheVariants.{Read, Write}
use Rattle.el_base.specs.declared.outcomes.Outcome.{Outcome}
use Rattle.el_base.specs.declared.outcomes.Outcome.TheVariants.{Idle, Stalled, Missed, Ran, Began, Buffered, Committed}
use Rattle.el_base.specs.declared.outcomes.Outcome.TheVariants.{RolledBack, Blocked}
use Rattle.el_base.specs.declared.outcomes.Outcome.TheVariants.{Delivered, Armed, LetGo}
use Rattle.el_base.specs.declared.outcomes.Why.TheVariants.{Behind, Retained, Locked}
use Rattle.computed_runs.proofs.Computing.{computing}
use Rattle.computed_runs.proofs.Given.{Ending, armed, ending_of, event, first_state, lost, ordered_with, patched}
use Rattle.computed_runs.proofs.Given.{request, section, served_with}
use Rattle.computed_runs.proofs.Given.{stamp, watch, way}
use Rattle.el_model.specs.Next.{outcomes_from, state_after}
use Rattle.el_model.specs.State.{Hart, ModelState}
use Rattle.mail.specs.Mailbox.{Marker, Probe}
use Rattle.moesi.specs.declared.letter.Letter.TheVariants.{M, O, E, S}

abbrev config : Config
config = record {
  harts = 3;
  mode = Tlr;
  sets = 4;
  ways = 3;
  lines = 2;
  long = 21;
  steps = 300;
}

abbrev words : List ℕ
words =
    66231 ∷ 1049363 ∷ 2098323 ∷ 9765987 ∷ 268608559 ∷ 1443347 ∷ 1443347 ∷ 1443347 ∷ 1443347 ∷ 1443347 ∷ 1443347 ∷
    1443347 ∷ 1443347 ∷ 1443347 ∷ 1443347 ∷ 1443347 ∷ 1443347 ∷ 1443347 ∷ 1443347 ∷ 1443347 ∷ 1443347 ∷ 1443347 ∷
    409118127 ∷ 1443347 ∷ 140682287 ∷ 345154083 ∷ 412264239 ∷ 412264239 ∷ 172067 ∷ 4188008559 ∷ []

abbrev first : ModelState
first = first_state config 65536 384 131072 words

abbrev events : List Event
events =
    event Step 1 ∷ event Step 1 ∷ event Step 2 ∷ event Step 2 ∷ event Serve 0 ∷ event Deliver 2 ∷ event Step 1 ∷
    event Serve 0 ∷ event Step 2 ∷ event Step 0 ∷ event Step 0 ∷ event Step 2 ∷ event Step 0 ∷ event Step 1 ∷
    event Step 0 ∷ event Step 0 ∷ event Step 1 ∷ event Order 1 ∷ event Step 2 ∷ event Serve 1 ∷ event Deliver 0 ∷
    event Step 2 ∷ event Serve 0 ∷ event Deliver 2 ∷ event Serve 2 ∷ event Step 1 ∷ event Serve 2 ∷ event Serve 1 ∷
    event Step 0 ∷ event Order 0 ∷ event Step 2 ∷ event Deliver 1 ∷ event Deliver 2 ∷ event Order 0 ∷ event Step 2 ∷
    event Step 2 ∷ event Step 1 ∷ event Serve 0 ∷ event Order 2 ∷ event Serve 1 ∷ event Step 2 ∷ event Step 2 ∷
    event Step 0 ∷ event Deliver 1 ∷ event Deliver 2 ∷ event Serve 0 ∷ event Step 1 ∷ event Step 0 ∷ event Step 1 ∷
    event Step 2 ∷ event Step 0 ∷ event Step 1 ∷ event Step 2 ∷ event Step 1 ∷ event Step 0 ∷ event Serve 0 ∷
    event Serve 1 ∷ event Step 0 ∷ event Order 1 ∷ event Serve 2 ∷ event Step 1 ∷ event Serve 1 ∷ event Order 1 ∷
    event Step 1 ∷ event Step 0 ∷ event Step 2 ∷ event Order 0 ∷ event Step 0 ∷ event Serve 0 ∷ event Step 0 ∷
    event Step 1 ∷ event Step 1 ∷ event Step 2 ∷ event Step 0 ∷ event Serve 1 ∷ event Step 0 ∷ event Step 0 ∷
    event Serve 1 ∷ event Step 2 ∷ event Step 2 ∷ event Deliver 2 ∷ event Step 2 ∷ event Step 1 ∷ event Step 0 ∷
    event Step 2 ∷ event Order 1 ∷ event Deliver 0 ∷ event Deliver 0 ∷ event Step 0 ∷ event Serve 1 ∷ event Step 1 ∷
    event Step 2 ∷ event Order 0 ∷ event Deliver 1 ∷ event Deliver 2 ∷ event Step 1 ∷ event Step 2 ∷ event Step 1 ∷
    event Step 2 ∷ event Serve 1 ∷ event Step 0 ∷ event Step 2 ∷ event Step 2 ∷ event Serve 1 ∷ event Order 2 ∷
    event Step 0 ∷ event Step 0 ∷ event Step 1 ∷ event Step 0 ∷ event Serve 2 ∷ event Deliver 2 ∷ event Step 0 ∷
    event Step 0 ∷ event Order 0 ∷ event Step 2 ∷ event Step 0 ∷ event Step 1 ∷ event Step 2 ∷ event Order 2 ∷
    event Serve 0 ∷ event Deliver 1 ∷ event Serve 2 ∷ event Step 0 ∷ event Step 1 ∷ event Deliver 1 ∷ event Step 2 ∷
    event Order 2 ∷ event Step 1 ∷ event Step 1 ∷ event Deliver 0 ∷ event Step 1 ∷ event Deliver 2 ∷ event Deliver 1 ∷
    event Step 2 ∷ event Step 1 ∷ event Step 2 ∷ event Order 0 ∷ event Serve 0 ∷ event Order 0 ∷ event Deliver 0 ∷
    event Step 2 ∷ event Deliver 1 ∷ event Serve 0 ∷ event Step 0 ∷ event Order 0 ∷ event Deliver 1 ∷ event Order 1 ∷
    event Serve 2 ∷ event Serve 1 ∷ event Step 1 ∷ event Serve 2 ∷ event Step 2 ∷ event Deliver 0 ∷ event Step 1 ∷
    event Order 1 ∷ event Step 2 ∷ event Order 2 ∷ event Order 2 ∷ event Serve 1 ∷ event Step 0 ∷ event Step 0 ∷
    event Deliver 1 ∷ event Serve 2 ∷ event Step 2 ∷ event Order 0 ∷ event Deliver 1 ∷ event Step 1 ∷ event Order 2 ∷
    event Order 0 ∷ event Serve 0 ∷ event Step 1 ∷ event Order 1 ∷ event Step 2 ∷ event Step 0 ∷ event Deliver 1 ∷
    event Deliver 1 ∷ event Order 1 ∷ event Step 0 ∷ event Serve 1 ∷ event Order 0 ∷ event Step 1 ∷ event Deliver 1 ∷
    event Order 0 ∷ event Serve 0 ∷ event Step 2 ∷ event Step 0 ∷ event Order 0 ∷ event Deliver 0 ∷ event Step 2 ∷
    event Deliver 2 ∷ event Step 0 ∷ event Deliver 1 ∷ event Deliver 2 ∷ event Step 0 ∷ event Step 2 ∷ event Step 0 ∷
    event Step 0 ∷ event Step 1 ∷ event Serve 1 ∷ event Order 1 ∷ event Serve 0 ∷ event Serve 1 ∷ event Step 1 ∷
    event Deliver 1 ∷ event Step 0 ∷ event Step 1 ∷ event Step 2 ∷ event Step 1 ∷ event Deliver 0 ∷ event Serve 1 ∷
    event Deliver 0 ∷ event Step 2 ∷ event Step 1 ∷ event Step 2 ∷ event Serve 2 ∷ event Step 2 ∷ event Order 0 ∷
    event Order 0 ∷ event Order 0 ∷ event Step 0 ∷ event Step 0 ∷ event Step 0 ∷ event Step 0 ∷ event Serve 0 ∷
    event Step 1 ∷ event Step 1 ∷ event Serve 2 ∷ event Step 0 ∷ event Order 1 ∷ event Step 2 ∷ event Serve 1 ∷
    event Deliver 2 ∷ event Step 0 ∷ event Order 1 ∷ event Step 2 ∷ event Deliver 1 ∷ event Order 1 ∷ event Step 1 ∷
    event Serve 2 ∷ event Step 1 ∷ event Step 1 ∷ event Step 1 ∷ event Step 2 ∷ event Serve 2 ∷ event Step 2 ∷
    event Deliver 0 ∷ event Step 2 ∷ event Serve 0 ∷ event Serve 2 ∷ event Step 0 ∷ event Step 0 ∷ event Step 1 ∷
    event Step 0 ∷ event Step 0 ∷ event Step 2 ∷ event Step 0 ∷ event Step 1 ∷ event Step 0 ∷ event Step 0 ∷
    event Deliver 0 ∷ event Serve 0 ∷ event Deliver 0 ∷ event Step 1 ∷ event Step 2 ∷ event Order 1 ∷ event Step 1 ∷
    event Deliver 2 ∷ event Step 2 ∷ event Step 0 ∷ event Deliver 0 ∷ event Serve 2 ∷ event Deliver 2 ∷ event Order 2 ∷
    event Order 0 ∷ event Step 0 ∷ event Order 2 ∷ event Order 0 ∷ event Step 2 ∷ event Serve 2 ∷ event Step 0 ∷
    event Step 1 ∷ event Serve 0 ∷ event Serve 0 ∷ event Step 1 ∷ event Serve 2 ∷ event Step 2 ∷ event Step 1 ∷
    event Step 0 ∷ event Step 0 ∷ event Step 2 ∷ event Order 2 ∷ event Step 1 ∷ event Serve 2 ∷ event Step 0 ∷
    event Serve 1 ∷ event Order 0 ∷ event Serve 0 ∷ event Step 0 ∷ event Step 2 ∷ event Step 1 ∷ []

abbrev expected : List Outcome
expected =
    Ran ∷ Ran ∷ Ran ∷ Ran ∷ Idle ∷ Idle ∷ Ran ∷ Idle ∷ Ran ∷ Ran ∷ Ran ∷ Ran ∷ Ran ∷ Ran ∷ Ran ∷
    Missed (line_addr 1024) Read ∷ Missed (line_addr 1024) Read ∷ ordered_with [] [] ∷ Ran ∷ served_with [] [] ∷ Idle ∷
    Ran ∷ Idle ∷ Idle ∷ Idle ∷ Armed ∷ Idle ∷ Idle ∷ Stalled ∷ ordered_with [] [] ∷ Ran ∷ Idle ∷ Idle ∷ Idle ∷ Ran ∷
    Ran ∷ Buffered ∷ served_with [] [] ∷ Idle ∷ Idle ∷ Ran ∷ Ran ∷ Armed ∷ Idle ∷ Idle ∷ Idle ∷ Buffered ∷ Buffered ∷
    Buffered ∷ Ran ∷ Buffered ∷ Buffered ∷ Ran ∷ Buffered ∷ Buffered ∷ Idle ∷ Idle ∷ Buffered ∷ Idle ∷ Idle ∷
    Buffered ∷ Idle ∷ Idle ∷ Buffered ∷ Buffered ∷ Ran ∷ Idle ∷ Buffered ∷ Idle ∷ Buffered ∷ Buffered ∷ Buffered ∷
    Ran ∷ Buffered ∷ Idle ∷ Buffered ∷ Buffered ∷ Idle ∷ Ran ∷ Ran ∷ Idle ∷ Ran ∷ Buffered ∷ Buffered ∷ Ran ∷ Idle ∷
    Idle ∷ Idle ∷ Buffered ∷ Idle ∷ Buffered ∷ Ran ∷ Idle ∷ Idle ∷ Idle ∷ Buffered ∷ Ran ∷ Buffered ∷ Ran ∷ Idle ∷
    Buffered ∷ Ran ∷ Missed (line_addr 1024) Read ∷ Idle ∷ ordered_with [] [] ∷ Buffered ∷ LetGo 15 ∷ Buffered ∷ Ran ∷
    served_with [] [] ∷ Idle ∷ Ran ∷ Ran ∷ Idle ∷ Began ∷ Missed (line_addr 1024) Write ∷ LetGo 15 ∷
    Missed (line_addr 1029) Write ∷ ordered_with [] [] ∷ Idle ∷ Idle ∷ served_with [] [] ∷ Stalled ∷ Ran ∷ Idle ∷
    Buffered ∷ Idle ∷ Ran ∷ Ran ∷ Idle ∷ Missed (line_addr 1024) Write ∷ Idle ∷ Idle ∷ Buffered ∷ Stalled ∷ Buffered ∷
    ordered_with [] [] ∷ Blocked Retained (hart_id 2) ∷ Idle ∷ Delivered (lost []) ∷ Committed 5 ∷ Idle ∷
    served_with [] [] ∷ Ran ∷ Idle ∷ Idle ∷ ordered_with [] [] ∷ Idle ∷ served_with [] [] ∷ Ran ∷ Idle ∷ Ran ∷ Idle ∷
    Ran ∷ Idle ∷ Ran ∷ Idle ∷ Idle ∷ Idle ∷ Ran ∷ Missed (line_addr 1024) Read ∷ Idle ∷ Idle ∷ Ran ∷
    ordered_with [] [] ∷ Idle ∷ Began ∷ Idle ∷ Idle ∷ served_with [] [] ∷ Missed (line_addr 1029) Write ∷
    ordered_with [] [] ∷ Ran ∷ Began ∷ Idle ∷ Idle ∷ Idle ∷ Missed (line_addr 1029) Write ∷ served_with [] [] ∷
    ordered_with ((1, 0) ∷ []) [] ∷ Began ∷ Idle ∷ Idle ∷ served_with [] [] ∷ Ran ∷ Buffered ∷ Idle ∷ Idle ∷ Ran ∷
    Idle ∷ Buffered ∷ Idle ∷ Idle ∷ Buffered ∷ Ran ∷ Committed 5 ∷ Ran ∷ Missed (line_addr 1029) Write ∷ Idle ∷
    ordered_with [] [] ∷ Idle ∷ served_with [] [] ∷ Buffered ∷ Idle ∷ Ran ∷ Buffered ∷ Ran ∷ Buffered ∷ Idle ∷ Idle ∷
    Idle ∷ Ran ∷ Committed 5 ∷ Ran ∷ Idle ∷ Ran ∷ Idle ∷ Idle ∷ Idle ∷ Armed ∷ Buffered ∷ Buffered ∷ Buffered ∷ Idle ∷
    Ran ∷ Ran ∷ Idle ∷ Buffered ∷ Idle ∷ Ran ∷ Idle ∷ Idle ∷ Buffered ∷ Idle ∷ Ran ∷ Idle ∷ Idle ∷ Armed ∷ Idle ∷
    Buffered ∷ Buffered ∷ Buffered ∷ Ran ∷ Idle ∷ Ran ∷ Idle ∷ Ran ∷ Idle ∷ Idle ∷ Buffered ∷ Buffered ∷ Buffered ∷
    Buffered ∷ Buffered ∷ Ran ∷ Buffered ∷ Buffered ∷ Buffered ∷ Buffered ∷ Idle ∷ Idle ∷ Idle ∷ Buffered ∷ Ran ∷
    Idle ∷ Buffered ∷ Idle ∷ Ran ∷ Buffered ∷ Idle ∷ Idle ∷ Idle ∷ Idle ∷ Idle ∷ Buffered ∷ Idle ∷ Idle ∷ Ran ∷ Idle ∷
    LetGo 15 ∷ Buffered ∷ Idle ∷ Idle ∷ Buffered ∷ Idle ∷ Ran ∷ Buffered ∷ Ran ∷ Ran ∷ Missed (line_addr 1024) Read ∷
    ordered_with [] [] ∷ Buffered ∷ served_with [] [] ∷ Ran ∷ Idle ∷ Idle ∷ Idle ∷ Missed (line_addr 1024) Write ∷
    Began ∷ Buffered ∷ []

outcomes : outcomes_from first events ≡ expected
unfolding computing
outcomes = refl

abbrev last : Ending
last = record {
  harts =
      record {
        section = None;
        armed = None;
        last_lr = (Some 131088);
        cache = (way 1024 S false false ∷ []) ∷ ([]) ∷ ([]) ∷ ([]) ∷ [];
        raised = (Some (request 0 1024 Write None));
        held_line = None;
        mail = [];
        told = [];
        upstream = [];
        fallback = false;
        tries = 0;
        clock = 1;
        seen = 0;
        attempt = None;
        predictor = record { counters = (patched (replicate 64 2) ((24, 3) ∷ [])); watch = None };
      } ∷ record {
        section = None;
        armed = (Some (armed 13 65536));
        last_lr = (Some 131088);
        cache = (way 1024 O true false ∷ []) ∷ (way 1029 M false false ∷ []) ∷ ([]) ∷ ([]) ∷ [];
        raised = None;
        held_line = None;
        mail = [];
        told = [];
        upstream = [];
        fallback = false;
        tries = 0;
        clock = 1;
        seen = 0;
        attempt = None;
        predictor = record { counters = (patched (replicate 64 2) ((24, 3) ∷ [])); watch = None };
      } ∷ record {
        section = (Some (section 1 65536 0 1));
        armed = None;
        last_lr = None;
        cache = (way 1024 S true false ∷ []) ∷ ([]) ∷ ([]) ∷ ([]) ∷ [];
        raised = None;
        held_line = None;
        mail = [];
        told = [];
        upstream = [];
        fallback = false;
        tries = 0;
        clock = 1;
        seen = 0;
        attempt = (Some (stamp 1 2));
        predictor = record { counters = (patched (replicate 64 2) ((24, 3) ∷ [])); watch = None };
      } ∷ [];
  order = [];
  pcs = 131160 ∷ 131088 ∷ 131168 ∷ [];
  registers =
      (0 ∷ 0 ∷ 65920 ∷ 0 ∷ 0 ∷ 65536 ∷ 1 ∷ 0 ∷ 0 ∷ 2 ∷ 0 ∷ 1 ∷ 35 ∷ 0 ∷ 1 ∷ 0 ∷ 0 ∷ 0 ∷ 0 ∷ 0 ∷ 0 ∷
      0 ∷ 0 ∷ 0 ∷ 0 ∷ 0 ∷ 0 ∷ 0 ∷ 0 ∷ 0 ∷ 0 ∷ 0 ∷ []) ∷
      (0 ∷ 0 ∷ 384 ∷ 0 ∷ 0 ∷ 65536 ∷ 1 ∷ 0 ∷ 0 ∷ 2 ∷ 1 ∷ 1 ∷ 18 ∷ 0 ∷ 1 ∷ 0 ∷ 0 ∷ 0 ∷ 0 ∷ 0 ∷ 0 ∷ 0 ∷
      0 ∷ 0 ∷ 0 ∷ 0 ∷ 0 ∷ 0 ∷ 0 ∷ 0 ∷ 0 ∷ 0 ∷ []) ∷
      (0 ∷ 0 ∷ 4294902144 ∷ 0 ∷ 0 ∷ 65536 ∷ 1 ∷ 0 ∷ 0 ∷ 2 ∷ 2 ∷ 1 ∷ 36 ∷ 0 ∷ 1 ∷ 0 ∷ 0 ∷ 0 ∷ 0 ∷ 0 ∷
      0 ∷ 0 ∷ 0 ∷ 0 ∷ 0 ∷ 0 ∷ 0 ∷ 0 ∷ 0 ∷ 0 ∷ 0 ∷ 0 ∷ []) ∷
      [];
  bytes = patched (replicate 384 0) ((324, 2) ∷ []);
}

ending : ending_of (state_after first events) ≡ last
unfolding computing
ending = refl
