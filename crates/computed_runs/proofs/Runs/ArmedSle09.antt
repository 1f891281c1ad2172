-- 4 harts in lock elision, 300 random events over LR and SC: 5 of Armed, 1 of LetGo, 4 of Committed
use Rattle.std.proofs.Common.{◌≡◌, ℕ, true, false, List, [], ◌∷◌, Some, None, replicate, refl}
use Rattle.el_base.specs.HartId.{hart_id}
use Rattle.el_base.specs.LineAddr.{line_addr}
use Rattle.el_base.specs.declared.config.Config.{Config}
use Rattle.el_base.specs.declared.config.Mode.TheVariants.{Plain, Sle, Tlr}
use Rattle.el_base.specs.declared.events.Event.{Event}
use Rattle.el_base.specs.declared.events.Kind.TheVariants.{Step, Order, Serve, Deliver}
use Rattle.el_base.specs.declared.outcomes.Cause.TheVariants.{Room, Lines, Long, Call, Mixed}
use Rattle.el_base.specs.declared.outcomes.Need.TheVariants.{Read, Write}
use Rattle.el_base.specs.declared.outcomes.Outcome.{Outcome}
use Rattle.el_base.specs.declared.outcomes.Outcome.TheVariants.{Idle, Stalled, Missed, Ran, Began, Buffered, Committed}
use Rattle.el_base.specs.declared.outcomes.Outcome.TheVariants.{RolledBack, Blocked}
use Rattle.el_base.specs.declared.outcomes.Outcome.TheVariants.{Delivered, Armed, LetGo}
use Rattle.el_base.specs.declared.outcomes.Why.TheVariants.{Behind, Retained, Locked}
use Rattle.computed_runs.proofs.Computing.{computing}
use Rattle.computed_runs.proofs.Given.{Ending, armed, ending_of, event, first_state, lost, ordered_with, patched}
use Rattle.computed_runs.proofs.Given.{request, section, served_with}
use Rattle.computed_runs.proofs.Given.{stamp, watch, way}
use Rattle.el_model.specs.Next.{outcomes_from, state_after}
use Rattle.el_model.specs.State.{Hart, ModelState}
use Rattle.mail.specs.Mailbox.{Marker, Probe}
use Rattle.moesi.specs.declared.letter.Letter.TheVariants.{M, O, E, S}

abbrev config : Config
config = record {
  harts = 4;
  mode = Sle;
  sets = 1;
  ways = 2;
  lines = 1;
  long = 8;
  steps = 300;
}

abbrev words : List ℕ
words =
    66231 ∷ 1049363 ∷ 2098323 ∷ 140682287 ∷ 412264239 ∷ 172067 ∷ 268608559 ∷ 409118127 ∷ 365667 ∷ 268609199 ∷
    264414723 ∷ 134391299 ∷ 172067 ∷ 4255117423 ∷ []

abbrev first : ModelState
first = first_state config 65536 320 131072 words

abbrev events : List Event
events =
    event Step 2 ∷ event Serve 0 ∷ event Serve 2 ∷ event Order 2 ∷ event Deliver 3 ∷ event Serve 3 ∷ event Step 1 ∷
    event Deliver 2 ∷ event Step 0 ∷ event Step 1 ∷ event Step 2 ∷ event Order 1 ∷ event Serve 0 ∷ event Order 3 ∷
    event Deliver 1 ∷ event Serve 2 ∷ event Step 2 ∷ event Step 1 ∷ event Step 0 ∷ event Step 3 ∷ event Step 1 ∷
    event Step 3 ∷ event Step 1 ∷ event Order 1 ∷ event Order 2 ∷ event Step 1 ∷ event Order 1 ∷ event Step 2 ∷
    event Order 3 ∷ event Serve 1 ∷ event Order 1 ∷ event Order 2 ∷ event Serve 3 ∷ event Step 0 ∷ event Step 3 ∷
    event Step 3 ∷ event Step 0 ∷ event Serve 2 ∷ event Order 3 ∷ event Deliver 1 ∷ event Order 1 ∷ event Order 2 ∷
    event Deliver 2 ∷ event Order 1 ∷ event Serve 3 ∷ event Serve 2 ∷ event Serve 2 ∷ event Serve 2 ∷ event Serve 2 ∷
    event Serve 2 ∷ event Order 0 ∷ event Step 1 ∷ event Step 0 ∷ event Step 2 ∷ event Serve 3 ∷ event Serve 3 ∷
    event Deliver 2 ∷ event Step 2 ∷ event Deliver 1 ∷ event Deliver 0 ∷ event Serve 2 ∷ event Deliver 2 ∷
    event Serve 3 ∷ event Serve 0 ∷ event Serve 0 ∷ event Deliver 2 ∷ event Step 0 ∷ event Serve 0 ∷ event Serve 2 ∷
    event Serve 0 ∷ event Order 1 ∷ event Serve 0 ∷ event Serve 0 ∷ event Serve 0 ∷ event Step 0 ∷ event Order 3 ∷
    event Order 1 ∷ event Serve 0 ∷ event Step 0 ∷ event Order 0 ∷ event Step 2 ∷ event Deliver 0 ∷ event Serve 0 ∷
    event Serve 0 ∷ event Order 3 ∷ event Serve 0 ∷ event Serve 3 ∷ event Deliver 2 ∷ event Step 2 ∷ event Step 2 ∷
    event Deliver 1 ∷ event Step 2 ∷ event Serve 1 ∷ event Step 3 ∷ event Order 0 ∷ event Step 1 ∷ event Step 3 ∷
    event Order 3 ∷ event Step 3 ∷ event Step 1 ∷ event Step 2 ∷ event Step 1 ∷ event Serve 3 ∷ event Step 1 ∷
    event Step 3 ∷ event Serve 0 ∷ event Step 3 ∷ event Order 3 ∷ event Deliver 0 ∷ event Step 1 ∷ event Order 1 ∷
    event Deliver 2 ∷ event Step 3 ∷ event Serve 2 ∷ event Deliver 0 ∷ event Deliver 2 ∷ event Serve 0 ∷ event Step 3 ∷
    event Serve 2 ∷ event Step 1 ∷ event Order 0 ∷ event Step 2 ∷ event Deliver 0 ∷ event Deliver 0 ∷ event Step 1 ∷
    event Serve 3 ∷ event Order 0 ∷ event Deliver 3 ∷ event Step 0 ∷ event Deliver 0 ∷ event Step 0 ∷ event Step 0 ∷
    event Step 2 ∷ event Step 2 ∷ event Order 1 ∷ event Order 1 ∷ event Serve 1 ∷ event Step 1 ∷ event Step 1 ∷
    event Step 3 ∷ event Serve 1 ∷ event Serve 2 ∷ event Serve 1 ∷ event Order 2 ∷ event Deliver 0 ∷ event Serve 0 ∷
    event Serve 1 ∷ event Step 2 ∷ event Order 2 ∷ event Serve 2 ∷ event Step 2 ∷ event Serve 0 ∷ event Order 1 ∷
    event Deliver 3 ∷ event Order 3 ∷ event Order 2 ∷ event Serve 3 ∷ event Serve 0 ∷ event Serve 1 ∷ event Step 0 ∷
    event Order 1 ∷ event Deliver 0 ∷ event Step 0 ∷ event Serve 2 ∷ event Step 1 ∷ event Step 3 ∷ event Deliver 0 ∷
    event Step 1 ∷ event Serve 3 ∷ event Order 1 ∷ event Step 3 ∷ event Order 2 ∷ event Deliver 1 ∷ event Serve 1 ∷
    event Step 3 ∷ event Order 3 ∷ event Step 2 ∷ event Order 2 ∷ event Step 0 ∷ event Order 0 ∷ event Serve 1 ∷
    event Step 2 ∷ event Serve 2 ∷ event Deliver 3 ∷ event Step 1 ∷ event Step 0 ∷ event Order 3 ∷ event Step 1 ∷
    event Serve 2 ∷ event Deliver 2 ∷ event Serve 3 ∷ event Step 1 ∷ event Step 1 ∷ event Deliver 3 ∷ event Serve 1 ∷
    event Serve 3 ∷ event Serve 2 ∷ event Deliver 1 ∷ event Serve 2 ∷ event Deliver 2 ∷ event Serve 1 ∷ event Step 3 ∷
    event Order 0 ∷ event Serve 2 ∷ event Serve 0 ∷ event Step 3 ∷ event Serve 0 ∷ event Step 3 ∷ event Step 3 ∷
    event Deliver 3 ∷ event Order 1 ∷ event Serve 1 ∷ event Order 3 ∷ event Serve 3 ∷ event Serve 3 ∷ event Deliver 3 ∷
    event Step 3 ∷ event Step 2 ∷ event Deliver 0 ∷ event Step 3 ∷ event Serve 0 ∷ event Deliver 1 ∷ event Step 1 ∷
    event Order 3 ∷ event Step 2 ∷ event Deliver 1 ∷ event Step 0 ∷ event Serve 3 ∷ event Serve 2 ∷ event Serve 2 ∷
    event Step 2 ∷ event Order 0 ∷ event Serve 3 ∷ event Deliver 3 ∷ event Order 2 ∷ event Serve 3 ∷ event Serve 1 ∷
    event Serve 2 ∷ event Deliver 2 ∷ event Deliver 1 ∷ event Step 3 ∷ event Serve 2 ∷ event Step 0 ∷ event Order 0 ∷
    event Serve 0 ∷ event Serve 3 ∷ event Deliver 2 ∷ event Serve 2 ∷ event Serve 0 ∷ event Serve 3 ∷ event Serve 2 ∷
    event Deliver 2 ∷ event Step 1 ∷ event Serve 2 ∷ event Step 1 ∷ event Deliver 2 ∷ event Serve 3 ∷ event Step 3 ∷
    event Step 1 ∷ event Order 3 ∷ event Deliver 1 ∷ event Serve 0 ∷ event Serve 0 ∷ event Order 0 ∷ event Step 2 ∷
    event Serve 0 ∷ event Order 3 ∷ event Serve 1 ∷ event Order 0 ∷ event Serve 2 ∷ event Step 2 ∷ event Step 3 ∷
    event Step 0 ∷ event Serve 0 ∷ event Step 2 ∷ event Order 1 ∷ event Deliver 2 ∷ event Order 3 ∷ event Deliver 1 ∷
    event Serve 1 ∷ event Order 1 ∷ event Step 0 ∷ event Step 3 ∷ event Step 1 ∷ event Step 1 ∷ event Deliver 3 ∷
    event Deliver 0 ∷ event Order 1 ∷ event Order 3 ∷ event Serve 0 ∷ event Serve 0 ∷ event Deliver 2 ∷ event Order 1 ∷
    event Serve 1 ∷ event Order 0 ∷ event Serve 3 ∷ event Serve 2 ∷ event Deliver 3 ∷ event Step 0 ∷ event Step 2 ∷ []

abbrev expected : List Outcome
expected =
    Ran ∷ Idle ∷ Idle ∷ Idle ∷ Idle ∷ Idle ∷ Ran ∷ Idle ∷ Ran ∷ Ran ∷ Ran ∷ Idle ∷ Idle ∷ Idle ∷ Idle ∷ Idle ∷ Ran ∷
    Ran ∷ Ran ∷ Ran ∷ Missed (line_addr 1024) Read ∷ Ran ∷ Stalled ∷ ordered_with [] [] ∷ Idle ∷ Stalled ∷ Idle ∷
    Missed (line_addr 1024) Read ∷ Idle ∷ served_with [] [] ∷ Idle ∷ ordered_with [] [] ∷ Idle ∷ Ran ∷ Ran ∷
    Missed (line_addr 1024) Read ∷ Missed (line_addr 1024) Read ∷ Blocked Locked (hart_id 1) ∷ ordered_with [] [] ∷
    Idle ∷ Idle ∷ Idle ∷ Idle ∷ Idle ∷ Blocked Behind (hart_id 2) ∷ Blocked Locked (hart_id 1) ∷
    Blocked Locked (hart_id 1) ∷ Blocked Locked (hart_id 1) ∷ Blocked Locked (hart_id 1) ∷ Blocked Locked (hart_id 1) ∷
    ordered_with [] [] ∷ Began ∷ Stalled ∷ Stalled ∷ Blocked Behind (hart_id 2) ∷ Blocked Behind (hart_id 2) ∷ Idle ∷
    Stalled ∷ Idle ∷ Idle ∷ served_with [] [] ∷ Idle ∷ Blocked Locked (hart_id 2) ∷ Blocked Behind (hart_id 3) ∷
    Blocked Behind (hart_id 3) ∷ Idle ∷ Stalled ∷ Blocked Behind (hart_id 3) ∷ Idle ∷ Blocked Behind (hart_id 3) ∷
    Idle ∷ Blocked Behind (hart_id 3) ∷ Blocked Behind (hart_id 3) ∷ Blocked Behind (hart_id 3) ∷ Stalled ∷ Idle ∷
    Idle ∷ Blocked Behind (hart_id 3) ∷ Stalled ∷ Idle ∷ Began ∷ Idle ∷ Blocked Behind (hart_id 3) ∷
    Blocked Behind (hart_id 3) ∷ Idle ∷ Blocked Behind (hart_id 3) ∷ served_with [] [] ∷ Idle ∷ Buffered ∷
    Committed 3 ∷ Idle ∷ Armed ∷ Idle ∷ Began ∷ Idle ∷ Buffered ∷ Buffered ∷ Idle ∷ Committed 3 ∷ Committed 3 ∷ Began ∷
    Armed ∷ Idle ∷ Began ∷ Armed ∷ served_with [] [] ∷ Began ∷ Idle ∷ Idle ∷ Buffered ∷ Idle ∷ Idle ∷ Buffered ∷ Idle ∷
    Idle ∷ Idle ∷ Idle ∷ Buffered ∷ Idle ∷ Buffered ∷ Idle ∷ Buffered ∷ Idle ∷ Idle ∷ Missed (line_addr 1027) Read ∷
    Idle ∷ Idle ∷ Idle ∷ Began ∷ Idle ∷ Buffered ∷ Committed 3 ∷ Buffered ∷ Missed (line_addr 1027) Read ∷
    ordered_with [] [] ∷ Idle ∷ served_with [] [] ∷ Buffered ∷ RolledBack Room ∷ Missed (line_addr 1027) Read ∷ Idle ∷
    Idle ∷ Idle ∷ ordered_with [] [] ∷ Idle ∷ Idle ∷ Idle ∷ Stalled ∷ Idle ∷ served_with [] [] ∷ Buffered ∷ Idle ∷
    Idle ∷ Idle ∷ ordered_with [] [] ∷ Idle ∷ served_with [] [] ∷ Idle ∷ Idle ∷ Armed ∷ Idle ∷ Idle ∷ Began ∷ Idle ∷
    Ran ∷ Buffered ∷ Idle ∷ Missed (line_addr 1024) Write ∷ Idle ∷ ordered_with ((0, 1) ∷ (2, 1) ∷ (3, 1) ∷ []) [] ∷
    Ran ∷ Idle ∷ Idle ∷ served_with [] [] ∷ Missed (line_addr 1024) Write ∷ ordered_with [] [] ∷
    Missed (line_addr 1024) Read ∷ ordered_with [] [] ∷ Missed (line_addr 1024) Read ∷ ordered_with [] [] ∷ Idle ∷
    Stalled ∷ Blocked Behind (hart_id 3) ∷ Idle ∷ Ran ∷ Stalled ∷ Idle ∷ Ran ∷ Blocked Behind (hart_id 3) ∷ Idle ∷
    served_with [] [] ∷ Missed (line_addr 1024) Read ∷ Stalled ∷ Idle ∷ Idle ∷ Idle ∷ Blocked Locked (hart_id 3) ∷
    Idle ∷ Blocked Locked (hart_id 3) ∷ Idle ∷ Idle ∷ Ran ∷ Idle ∷ served_with [] [] ∷ Blocked Locked (hart_id 2) ∷
    Ran ∷ Blocked Locked (hart_id 2) ∷ Ran ∷ Missed (line_addr 1026) Read ∷ Idle ∷ ordered_with [] [] ∷
    Blocked Behind (hart_id 0) ∷ ordered_with [] [] ∷ served_with [] [] ∷ Idle ∷ Idle ∷ Ran ∷ Armed ∷ Idle ∷
    Missed (line_addr 1024) Write ∷ served_with [] [] ∷ Idle ∷ Stalled ∷ ordered_with [] [] ∷ LetGo 1 ∷ Idle ∷ Ran ∷
    Blocked Behind (hart_id 1) ∷ Idle ∷ Idle ∷ Missed (line_addr 1024) Write ∷ Idle ∷ Blocked Behind (hart_id 1) ∷
    Idle ∷ ordered_with [] [] ∷ Blocked Behind (hart_id 1) ∷ served_with [] [] ∷ Blocked Behind (hart_id 3) ∷ Idle ∷
    Idle ∷ Stalled ∷ Blocked Behind (hart_id 3) ∷ Missed (line_addr 1024) Write ∷ ordered_with [] [] ∷
    Blocked Behind (hart_id 3) ∷ Blocked Locked (hart_id 1) ∷ Idle ∷ Blocked Behind (hart_id 3) ∷
    Blocked Behind (hart_id 3) ∷ Blocked Locked (hart_id 1) ∷ Blocked Behind (hart_id 3) ∷ Idle ∷ Ran ∷
    Blocked Behind (hart_id 3) ∷ Ran ∷ Idle ∷ served_with [] [] ∷ Ran ∷ Missed (line_addr 1026) Read ∷ Idle ∷ Idle ∷
    Blocked Behind (hart_id 2) ∷ Blocked Behind (hart_id 2) ∷ Idle ∷ Stalled ∷ Blocked Behind (hart_id 2) ∷ Idle ∷
    Idle ∷ Idle ∷ served_with [] [] ∷ Ran ∷ Ran ∷ Stalled ∷ served_with [] [] ∷ Ran ∷ ordered_with [] [] ∷ Idle ∷
    Idle ∷ Idle ∷ served_with [] [] ∷ Idle ∷ Ran ∷ Missed (line_addr 1024) Read ∷ Ran ∷ Missed (line_addr 1024) Write ∷
    Idle ∷ Idle ∷ ordered_with [] [] ∷ ordered_with [] [] ∷ Idle ∷ Idle ∷ Idle ∷ Idle ∷ served_with [] [] ∷ Idle ∷
    Blocked Locked (hart_id 1) ∷ Idle ∷ Idle ∷ Ran ∷ Ran ∷ []

outcomes : outcomes_from first events ≡ expected
unfolding computing
outcomes = refl

abbrev last : Ending
last = record {
  harts =
      record {
        section = None;
        armed = None;
        last_lr = (Some 131096);
        cache = ([]) ∷ [];
        raised = None;
        held_line = None;
        mail = [];
        told = [];
        upstream = [];
        fallback = false;
        tries = 1;
        clock = 0;
        seen = 0;
        attempt = None;
        predictor = record { counters = (patched (replicate 64 2) ((3, 3) ∷ [])); watch = None };
      } ∷ record {
        section = None;
        armed = None;
        last_lr = (Some 131108);
        cache = (way 1024 M false false ∷ way 1026 S false false ∷ []) ∷ [];
        raised = None;
        held_line = (Some 1024);
        mail = [];
        told = [];
        upstream = [];
        fallback = false;
        tries = 0;
        clock = 0;
        seen = 0;
        attempt = None;
        predictor =
            record { counters = (patched (replicate 64 2) ((3, 3) ∷ [])); watch = (Some (watch 131096 65536 0 5)) };
      } ∷ record {
        section = None;
        armed = None;
        last_lr = (Some 131096);
        cache = (way 1027 S false false ∷ []) ∷ [];
        raised = None;
        held_line = None;
        mail = [];
        told = [];
        upstream = [];
        fallback = false;
        tries = 1;
        clock = 0;
        seen = 0;
        attempt = None;
        predictor = record { counters = (patched (replicate 64 2) ((3, 3) ∷ [])); watch = None };
      } ∷ record {
        section = None;
        armed = None;
        last_lr = (Some 131096);
        cache = (way 1026 S false false ∷ []) ∷ [];
        raised = None;
        held_line = None;
        mail = [];
        told = [];
        upstream = [];
        fallback = false;
        tries = 1;
        clock = 0;
        seen = 0;
        attempt = None;
        predictor = record { counters = (patched (replicate 64 2) ((3, 3) ∷ [])); watch = None };
      } ∷ [];
  order = (request 3 1024 Read None) ∷ [];
  pcs = 131112 ∷ 131120 ∷ 131116 ∷ 131084 ∷ [];
  registers =
      (0 ∷ 0 ∷ 65856 ∷ 0 ∷ 0 ∷ 65536 ∷ 1 ∷ 0 ∷ 1 ∷ 2 ∷ 0 ∷ 1 ∷ 0 ∷ 0 ∷ 1 ∷ 0 ∷ 0 ∷ 0 ∷ 0 ∷ 0 ∷ 0 ∷ 0 ∷
      0 ∷ 0 ∷ 0 ∷ 0 ∷ 0 ∷ 0 ∷ 0 ∷ 0 ∷ 0 ∷ 0 ∷ []) ∷
      (0 ∷ 0 ∷ 320 ∷ 0 ∷ 0 ∷ 65536 ∷ 1 ∷ 0 ∷ 0 ∷ 2 ∷ 1 ∷ 0 ∷ 0 ∷ 1 ∷ 1 ∷ 0 ∷ 0 ∷ 0 ∷ 0 ∷ 0 ∷ 0 ∷ 0 ∷
      0 ∷ 0 ∷ 0 ∷ 0 ∷ 0 ∷ 0 ∷ 0 ∷ 0 ∷ 0 ∷ 0 ∷ []) ∷
      (0 ∷ 0 ∷ 4294902080 ∷ 0 ∷ 0 ∷ 65536 ∷ 1 ∷ 0 ∷ 1 ∷ 2 ∷ 2 ∷ 1 ∷ 0 ∷ 0 ∷ 1 ∷ 0 ∷ 0 ∷ 0 ∷ 0 ∷ 0 ∷
      0 ∷ 0 ∷ 0 ∷ 0 ∷ 0 ∷ 0 ∷ 0 ∷ 0 ∷ 0 ∷ 0 ∷ 0 ∷ 0 ∷ []) ∷
      (0 ∷ 0 ∷ 4294836544 ∷ 0 ∷ 0 ∷ 65536 ∷ 1 ∷ 0 ∷ 0 ∷ 2 ∷ 3 ∷ 1 ∷ 0 ∷ 0 ∷ 1 ∷ 0 ∷ 0 ∷ 0 ∷ 0 ∷ 0 ∷
      0 ∷ 0 ∷ 0 ∷ 0 ∷ 0 ∷ 0 ∷ 0 ∷ 0 ∷ 0 ∷ 0 ∷ 0 ∷ 0 ∷ []) ∷
      [];
  bytes = patched (replicate 320 0) ([]);
}

ending : ending_of (state_after first events) ≡ last
unfolding computing
ending = refl
