-- 4 harts in lock elision, 300 random events over LR and SC: 7 of Armed, 1 of LetGo, 1 of Ordered that let harts go,
-- 4 of Committed
use Rattle.std.proofs.Common.{◌≡◌, ℕ, true, false, List, [], ◌∷◌, Some, None, replicate, refl}
use Rattle.el_base.specs.HartId.{hart_id}
use Rattle.el_base.specs.LineAddr.{line_addr}
use Rattle.el_base.specs.declared.config.Config.{Config}
use Rattle.el_base.specs.declared.config.Mode.TheVariants.{Plain, Sle, Tlr}
use Rattle.el_base.specs.declared.events.Event.{Event}
use Rattle.el_base.specs.declared.events.Kind.TheVariants.{Step, Order, Serve, Deliver}
use Rattle.el_base.specs.declared.outcomes.Cause.TheVariants.{Room, Lines, Long, Call, Mixed}
use Rattle.el_base.specs.declared.outcomes.Need.TheVariants.{Read, Write}
use Rattle.el_base.specs.declared.outcomes.Outcome.{Outcome}
use Rattle.el_base.specs.declared.outcomes.Outcome.TheVariants.{Idle, Stalled, Missed, Ran, Began, Buffered, Committed}
use Rattle.el_base.specs.declared.outcomes.Outcome.TheVariants.{RolledBack, Blocked}
use Rattle.el_base.specs.declared.outcomes.Outcome.TheVariants.{Delivered, Armed, LetGo}
use Rattle.el_base.specs.declared.outcomes.Why.TheVariants.{Behind, Retained, Locked}
use Rattle.computed_runs.proofs.Computing.{computing}
use Rattle.computed_runs.proofs.Given.{Ending, armed, ending_of, event, first_state, lost, ordered_with, patched}
use Rattle.computed_runs.proofs.Given.{request, section, served_with}
use Rattle.computed_runs.proofs.Given.{stamp, watch, way}
use Rattle.el_model.specs.Next.{outcomes_from, state_after}
use Rattle.el_model.specs.State.{Hart, ModelState}
use Rattle.mail.specs.Mailbox.{Marker, Probe}
use Rattle.moesi.specs.declared.letter.Letter.TheVariants.{M, O, E, S}

abbrev config : Config
config = record {
  harts = 4;
  mode = Sle;
  sets = 4;
  ways = 3;
  lines = 2;
  long = 10;
  steps = 300;
}

abbrev words : List ℕ
words =
    66231 ∷ 1049363 ∷ 2098323 ∷ 268608559 ∷ 1443347 ∷ 4261682403 ∷ 409118127 ∷ 134389807 ∷ 67273619 ∷ 6620259 ∷
    268674095 ∷ 1443347 ∷ 1443347 ∷ 1443347 ∷ 1443347 ∷ 1443347 ∷ 1443347 ∷ 1443347 ∷ 402892207 ∷ 412264239 ∷
    177376931 ∷ 264414723 ∷ 6465199 ∷ 237603 ∷ 328803 ∷ 140682287 ∷ 134389807 ∷ 268608559 ∷ 267363 ∷ 9609251 ∷
    311602723 ∷ 279093795 ∷ 4175425647 ∷ []

abbrev first : ModelState
first = first_state config 65536 320 131072 words

abbrev events : List Event
events =
    event Step 3 ∷ event Step 2 ∷ event Serve 1 ∷ event Step 1 ∷ event Deliver 0 ∷ event Step 3 ∷ event Order 0 ∷
    event Step 0 ∷ event Step 3 ∷ event Step 0 ∷ event Order 0 ∷ event Step 3 ∷ event Order 3 ∷ event Step 1 ∷
    event Deliver 1 ∷ event Order 1 ∷ event Step 0 ∷ event Step 2 ∷ event Order 1 ∷ event Step 2 ∷ event Step 0 ∷
    event Order 3 ∷ event Step 2 ∷ event Serve 3 ∷ event Step 1 ∷ event Order 2 ∷ event Step 1 ∷ event Serve 2 ∷
    event Serve 2 ∷ event Order 2 ∷ event Serve 2 ∷ event Serve 2 ∷ event Order 0 ∷ event Serve 2 ∷ event Step 2 ∷
    event Deliver 3 ∷ event Step 3 ∷ event Serve 0 ∷ event Serve 2 ∷ event Serve 0 ∷ event Deliver 3 ∷ event Step 2 ∷
    event Step 3 ∷ event Step 3 ∷ event Step 2 ∷ event Serve 0 ∷ event Step 3 ∷ event Serve 3 ∷ event Deliver 3 ∷
    event Step 2 ∷ event Order 1 ∷ event Deliver 3 ∷ event Step 0 ∷ event Step 0 ∷ event Step 2 ∷ event Step 2 ∷
    event Serve 1 ∷ event Deliver 3 ∷ event Serve 1 ∷ event Step 2 ∷ event Step 0 ∷ event Deliver 0 ∷ event Step 0 ∷
    event Order 1 ∷ event Serve 1 ∷ event Deliver 0 ∷ event Step 3 ∷ event Step 2 ∷ event Deliver 3 ∷ event Step 1 ∷
    event Step 0 ∷ event Step 1 ∷ event Step 3 ∷ event Deliver 2 ∷ event Deliver 3 ∷ event Deliver 2 ∷ event Step 2 ∷
    event Step 0 ∷ event Step 3 ∷ event Order 0 ∷ event Order 2 ∷ event Step 1 ∷ event Deliver 2 ∷ event Step 0 ∷
    event Step 0 ∷ event Deliver 0 ∷ event Deliver 2 ∷ event Serve 2 ∷ event Order 1 ∷ event Deliver 2 ∷ event Step 0 ∷
    event Step 2 ∷ event Step 3 ∷ event Step 3 ∷ event Order 1 ∷ event Deliver 1 ∷ event Deliver 0 ∷ event Deliver 2 ∷
    event Step 2 ∷ event Step 2 ∷ event Order 3 ∷ event Order 3 ∷ event Order 3 ∷ event Step 0 ∷ event Serve 1 ∷
    event Serve 3 ∷ event Serve 0 ∷ event Step 3 ∷ event Step 3 ∷ event Step 1 ∷ event Deliver 1 ∷ event Step 3 ∷
    event Step 2 ∷ event Step 2 ∷ event Serve 3 ∷ event Deliver 3 ∷ event Order 0 ∷ event Order 2 ∷ event Serve 0 ∷
    event Step 2 ∷ event Step 0 ∷ event Step 0 ∷ event Step 0 ∷ event Step 2 ∷ event Step 3 ∷ event Step 3 ∷
    event Step 1 ∷ event Step 3 ∷ event Step 1 ∷ event Step 2 ∷ event Step 2 ∷ event Step 3 ∷ event Step 2 ∷
    event Step 1 ∷ event Step 0 ∷ event Order 1 ∷ event Deliver 0 ∷ event Order 0 ∷ event Deliver 2 ∷ event Order 2 ∷
    event Step 3 ∷ event Serve 3 ∷ event Serve 1 ∷ event Deliver 1 ∷ event Serve 2 ∷ event Deliver 1 ∷ event Step 0 ∷
    event Order 0 ∷ event Serve 3 ∷ event Step 3 ∷ event Step 1 ∷ event Serve 3 ∷ event Order 3 ∷ event Serve 3 ∷
    event Step 0 ∷ event Deliver 2 ∷ event Step 2 ∷ event Step 2 ∷ event Step 1 ∷ event Serve 0 ∷ event Step 0 ∷
    event Step 2 ∷ event Step 1 ∷ event Deliver 2 ∷ event Order 1 ∷ event Step 0 ∷ event Step 1 ∷ event Step 0 ∷
    event Deliver 0 ∷ event Serve 3 ∷ event Step 3 ∷ event Step 3 ∷ event Order 2 ∷ event Step 3 ∷ event Step 0 ∷
    event Serve 2 ∷ event Step 2 ∷ event Serve 1 ∷ event Step 0 ∷ event Order 3 ∷ event Serve 3 ∷ event Step 2 ∷
    event Step 3 ∷ event Order 2 ∷ event Step 3 ∷ event Order 1 ∷ event Serve 2 ∷ event Step 2 ∷ event Order 3 ∷
    event Serve 3 ∷ event Step 0 ∷ event Step 3 ∷ event Serve 2 ∷ event Order 0 ∷ event Step 3 ∷ event Serve 0 ∷
    event Step 2 ∷ event Step 2 ∷ event Serve 0 ∷ event Order 2 ∷ event Step 0 ∷ event Step 0 ∷ event Deliver 2 ∷
    event Order 3 ∷ event Serve 3 ∷ event Serve 0 ∷ event Order 2 ∷ event Order 0 ∷ event Order 1 ∷ event Step 1 ∷
    event Serve 0 ∷ event Step 0 ∷ event Serve 3 ∷ event Step 0 ∷ event Deliver 0 ∷ event Deliver 2 ∷ event Step 1 ∷
    event Step 3 ∷ event Order 0 ∷ event Serve 0 ∷ event Deliver 0 ∷ event Serve 0 ∷ event Serve 1 ∷ event Serve 2 ∷
    event Serve 0 ∷ event Order 2 ∷ event Step 3 ∷ event Serve 0 ∷ event Serve 3 ∷ event Step 1 ∷ event Step 1 ∷
    event Step 2 ∷ event Serve 3 ∷ event Serve 0 ∷ event Step 1 ∷ event Serve 0 ∷ event Step 1 ∷ event Order 1 ∷
    event Serve 2 ∷ event Serve 0 ∷ event Order 3 ∷ event Order 3 ∷ event Step 3 ∷ event Serve 0 ∷ event Serve 1 ∷
    event Step 1 ∷ event Serve 3 ∷ event Step 2 ∷ event Order 2 ∷ event Serve 2 ∷ event Order 0 ∷ event Step 2 ∷
    event Serve 3 ∷ event Step 0 ∷ event Step 0 ∷ event Step 0 ∷ event Deliver 3 ∷ event Step 2 ∷ event Step 3 ∷
    event Serve 3 ∷ event Deliver 2 ∷ event Order 0 ∷ event Order 3 ∷ event Serve 3 ∷ event Step 2 ∷ event Serve 0 ∷
    event Deliver 3 ∷ event Step 1 ∷ event Step 0 ∷ event Step 3 ∷ event Order 1 ∷ event Deliver 2 ∷ event Order 2 ∷
    event Step 2 ∷ event Step 0 ∷ event Order 2 ∷ event Step 2 ∷ event Serve 1 ∷ event Serve 3 ∷ event Serve 2 ∷
    event Deliver 0 ∷ event Step 3 ∷ event Step 3 ∷ event Deliver 3 ∷ event Serve 0 ∷ event Serve 2 ∷ event Step 0 ∷
    event Serve 3 ∷ event Deliver 2 ∷ event Step 3 ∷ event Serve 3 ∷ event Step 0 ∷ event Order 1 ∷ event Step 1 ∷
    event Step 0 ∷ event Step 2 ∷ event Order 2 ∷ event Step 1 ∷ event Deliver 2 ∷ event Order 0 ∷ []

abbrev expected : List Outcome
expected =
    Ran ∷ Ran ∷ Idle ∷ Ran ∷ Idle ∷ Ran ∷ Idle ∷ Ran ∷ Ran ∷ Ran ∷ Idle ∷ Missed (line_addr 1024) Read ∷
    ordered_with [] [] ∷ Ran ∷ Idle ∷ Idle ∷ Ran ∷ Ran ∷ Idle ∷ Ran ∷ Missed (line_addr 1024) Read ∷ Idle ∷
    Missed (line_addr 1024) Read ∷ served_with [] [] ∷ Ran ∷ ordered_with [] [] ∷ Missed (line_addr 1024) Read ∷
    Blocked Locked (hart_id 3) ∷ Blocked Locked (hart_id 3) ∷ Idle ∷ Blocked Locked (hart_id 3) ∷
    Blocked Locked (hart_id 3) ∷ ordered_with [] [] ∷ Blocked Locked (hart_id 3) ∷ Stalled ∷ Idle ∷ Armed ∷
    Blocked Behind (hart_id 2) ∷ served_with [] [] ∷ Blocked Locked (hart_id 2) ∷ Idle ∷ Armed ∷ Buffered ∷ Buffered ∷
    Buffered ∷ served_with [] [] ∷ Began ∷ Idle ∷ Idle ∷ Buffered ∷ ordered_with [] [] ∷ Idle ∷ Armed ∷ Buffered ∷
    Began ∷ Committed 5 ∷ served_with [] [] ∷ Idle ∷ Idle ∷ Ran ∷ Buffered ∷ Idle ∷ Began ∷ Idle ∷ Idle ∷ Idle ∷
    Committed 5 ∷ Ran ∷ Idle ∷ Armed ∷ Committed 5 ∷ Buffered ∷ Ran ∷ Idle ∷ Idle ∷ Idle ∷
    Missed (line_addr 1025) Read ∷ Ran ∷ Ran ∷ Idle ∷ ordered_with [] [] ∷ Buffered ∷ Idle ∷ Ran ∷
    Missed (line_addr 1025) Read ∷ Idle ∷ Idle ∷ served_with [] [] ∷ Idle ∷ Idle ∷ Stalled ∷ Armed ∷
    Missed (line_addr 1025) Read ∷ Stalled ∷ Idle ∷ Idle ∷ Idle ∷ Idle ∷ Buffered ∷ Buffered ∷ ordered_with [] [] ∷
    Idle ∷ Idle ∷ Stalled ∷ Idle ∷ served_with [] [] ∷ Idle ∷ Armed ∷ Buffered ∷ Began ∷ Idle ∷ Buffered ∷ Buffered ∷
    Buffered ∷ Idle ∷ Idle ∷ ordered_with [] [] ∷ Idle ∷ served_with [] [] ∷ Buffered ∷ Armed ∷ Buffered ∷ Buffered ∷
    Buffered ∷ Buffered ∷ Buffered ∷ Committed 5 ∷ Buffered ∷ Ran ∷ Buffered ∷ LetGo 8 ∷ Buffered ∷
    Missed (line_addr 1025) Write ∷ Ran ∷ Buffered ∷ Idle ∷ Idle ∷ Idle ∷ Idle ∷
    ordered_with [] ((0, 4) ∷ (3, 7) ∷ []) ∷ Ran ∷ Idle ∷ Idle ∷ Idle ∷ served_with [] [] ∷ Idle ∷ Ran ∷ Idle ∷ Idle ∷
    Missed (line_addr 1025) Write ∷ Ran ∷ Idle ∷ ordered_with [] [] ∷ Blocked Locked (hart_id 2) ∷ Ran ∷ Idle ∷ Ran ∷
    Ran ∷ Ran ∷ Idle ∷ Ran ∷ Missed (line_addr 1026) Write ∷ Ran ∷ Idle ∷ Idle ∷ Ran ∷ Ran ∷ Ran ∷ Idle ∷
    served_with [] [] ∷ Ran ∷ Ran ∷ ordered_with [] [] ∷ Missed (line_addr 1026) Write ∷ Ran ∷ served_with [] [] ∷
    Ran ∷ Idle ∷ Missed (line_addr 1026) Write ∷ ordered_with [] [] ∷ served_with [] [] ∷
    Missed (line_addr 1027) Read ∷ Ran ∷ ordered_with [] [] ∷ Missed (line_addr 1027) Read ∷ Idle ∷ served_with [] [] ∷
    Ran ∷ ordered_with [] [] ∷ served_with [] [] ∷ Stalled ∷ Ran ∷ Idle ∷ ordered_with [] [] ∷
    Missed (line_addr 1024) Write ∷ served_with [] [] ∷ Missed (line_addr 1024) Write ∷ Stalled ∷ Idle ∷
    ordered_with [] [] ∷ Ran ∷ Missed (line_addr 1027) Read ∷ Idle ∷ ordered_with [] [] ∷ Blocked Behind (hart_id 2) ∷
    Idle ∷ Idle ∷ ordered_with [] [] ∷ Idle ∷ Ran ∷ served_with [] [] ∷ Ran ∷ Blocked Behind (hart_id 2) ∷
    Missed (line_addr 1024) Write ∷ Idle ∷ Idle ∷ Ran ∷ Stalled ∷ ordered_with [] [] ∷ Blocked Behind (hart_id 2) ∷
    Idle ∷ Blocked Behind (hart_id 2) ∷ Idle ∷ served_with [] [] ∷ Blocked Behind (hart_id 3) ∷ Idle ∷ Stalled ∷
    Blocked Behind (hart_id 3) ∷ Blocked Locked (hart_id 2) ∷ Ran ∷ Ran ∷ Ran ∷ served_with [] [] ∷
    Blocked Locked (hart_id 3) ∷ Ran ∷ Blocked Locked (hart_id 3) ∷ Missed (line_addr 1026) Write ∷
    ordered_with [] [] ∷ Idle ∷ Blocked Locked (hart_id 3) ∷ Idle ∷ Idle ∷ Ran ∷ served_with [] [] ∷
    served_with [] [] ∷ Ran ∷ Idle ∷ Missed (line_addr 1025) Write ∷ ordered_with [] [] ∷ served_with [] [] ∷ Idle ∷
    Ran ∷ Idle ∷ Ran ∷ Missed (line_addr 1025) Write ∷ Stalled ∷ Idle ∷ Ran ∷ Missed (line_addr 1025) Write ∷ Idle ∷
    Idle ∷ ordered_with [] [] ∷ ordered_with [] [] ∷ Blocked Behind (hart_id 0) ∷ Missed (line_addr 1024) Read ∷
    served_with [] [] ∷ Idle ∷ Missed (line_addr 1027) Read ∷ Ran ∷ Stalled ∷ ordered_with [] [] ∷ Idle ∷
    ordered_with [] [] ∷ Stalled ∷ Ran ∷ Idle ∷ Stalled ∷ served_with [] [] ∷ served_with [] [] ∷ served_with [] [] ∷
    Idle ∷ Ran ∷ Ran ∷ Idle ∷ Idle ∷ Idle ∷ Began ∷ Idle ∷ Idle ∷ Missed (line_addr 1024) Read ∷ Idle ∷ Buffered ∷
    Idle ∷ Ran ∷ Buffered ∷ Began ∷ Idle ∷ Missed (line_addr 1024) Write ∷ Idle ∷ Idle ∷ []

outcomes : outcomes_from first events ≡ expected
unfolding computing
outcomes = refl

abbrev last : Ending
last = record {
  harts =
      record {
        section = (Some (section 3 65536 3 0));
        armed = None;
        last_lr = (Some 131112);
        cache = (way 1024 O true false ∷ []) ∷ ([]) ∷ ([]) ∷ (way 1027 S false false ∷ []) ∷ [];
        raised = None;
        held_line = None;
        mail = [];
        told = [];
        upstream = [];
        fallback = false;
        tries = 0;
        clock = 0;
        seen = 0;
        attempt = None;
        predictor = record { counters = (patched (replicate 64 2) ((3, 3) ∷ [])); watch = None };
      } ∷ record {
        section = None;
        armed = None;
        last_lr = None;
        cache = ([]) ∷ ([]) ∷ (way 1026 M false false ∷ []) ∷ (way 1027 S false false ∷ []) ∷ [];
        raised = (Some (request 1 1024 Write None));
        held_line = None;
        mail = [];
        told = [];
        upstream = [];
        fallback = false;
        tries = 0;
        clock = 0;
        seen = 0;
        attempt = None;
        predictor = record { counters = (patched (replicate 64 2) ((3, 3) ∷ [])); watch = None };
      } ∷ record {
        section = (Some (section 1 65536 3 1));
        armed = None;
        last_lr = (Some 131112);
        cache = (way 1024 S true false ∷ []) ∷ ([]) ∷ ([]) ∷ (way 1027 S false false ∷ []) ∷ [];
        raised = None;
        held_line = None;
        mail = [];
        told = [];
        upstream = [];
        fallback = false;
        tries = 0;
        clock = 0;
        seen = 0;
        attempt = None;
        predictor = record { counters = (patched (replicate 64 2) ((3, 3) ∷ [])); watch = None };
      } ∷ record {
        section = None;
        armed = None;
        last_lr = (Some 131112);
        cache = ([]) ∷ (way 1025 M false false ∷ []) ∷ ([]) ∷ (way 1027 S false false ∷ []) ∷ [];
        raised = (Some (request 3 1024 Read None));
        held_line = None;
        mail = [];
        told = [];
        upstream = [];
        fallback = false;
        tries = 0;
        clock = 0;
        seen = 0;
        attempt = None;
        predictor = record { counters = (patched (replicate 64 2) ((3, 3) ∷ [])); watch = None };
      } ∷ [];
  order = [];
  pcs = 131176 ∷ 131160 ∷ 131172 ∷ 131172 ∷ [];
  registers =
      (0 ∷ 0 ∷ 65856 ∷ 0 ∷ 0 ∷ 65536 ∷ 1 ∷ 65600 ∷ 0 ∷ 2 ∷ 0 ∷ 1 ∷ 0 ∷ 2 ∷ 1 ∷ 0 ∷ 0 ∷ 0 ∷ 0 ∷ 0 ∷ 0 ∷
      0 ∷ 0 ∷ 0 ∷ 0 ∷ 0 ∷ 0 ∷ 0 ∷ 0 ∷ 0 ∷ 0 ∷ 0 ∷ []) ∷
      (0 ∷ 0 ∷ 320 ∷ 0 ∷ 0 ∷ 65536 ∷ 1 ∷ 65600 ∷ 0 ∷ 2 ∷ 1 ∷ 1 ∷ 0 ∷ 0 ∷ 1 ∷ 0 ∷ 0 ∷ 0 ∷ 0 ∷ 0 ∷ 0 ∷
      0 ∷ 0 ∷ 0 ∷ 0 ∷ 0 ∷ 0 ∷ 0 ∷ 0 ∷ 0 ∷ 0 ∷ 0 ∷ []) ∷
      (0 ∷ 0 ∷ 4294902080 ∷ 0 ∷ 0 ∷ 65536 ∷ 1 ∷ 65600 ∷ 0 ∷ 2 ∷ 2 ∷ 0 ∷ 0 ∷ 0 ∷ 1 ∷ 0 ∷ 0 ∷ 0 ∷ 0 ∷
      0 ∷ 0 ∷ 0 ∷ 0 ∷ 0 ∷ 0 ∷ 0 ∷ 0 ∷ 0 ∷ 0 ∷ 0 ∷ 0 ∷ 0 ∷ []) ∷
      (0 ∷ 0 ∷ 4294836544 ∷ 0 ∷ 0 ∷ 65536 ∷ 1 ∷ 65600 ∷ 0 ∷ 2 ∷ 3 ∷ 1 ∷ 0 ∷ 1 ∷ 1 ∷ 0 ∷ 0 ∷ 0 ∷ 0 ∷
      0 ∷ 0 ∷ 0 ∷ 0 ∷ 0 ∷ 0 ∷ 0 ∷ 0 ∷ 0 ∷ 0 ∷ 0 ∷ 0 ∷ 0 ∷ []) ∷
      [];
  bytes = patched (replicate 320 0) ((0, 3) ∷ (189, 2) ∷ []);
}

ending : ending_of (state_after first events) ≡ last
unfolding computing
ending = refl
