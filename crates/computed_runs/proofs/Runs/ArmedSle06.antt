-- 3 harts in lock elision, 300 random events over LR and SC: 9 of Armed, 3 of LetGo, 1 of Ordered that let harts go,
-- 3 of Committed
use Rattle.std.proofs.Common.{◌≡◌, ℕ, true, false, List, [], ◌∷◌, Some, None, replicate, refl}
use Rattle.el_base.specs.HartId.{hart_id}
use Rattle.el_base.specs.LineAddr.{line_addr}
use Rattle.el_base.specs.declared.config.Config.{Config}
use Rattle.el_base.specs.declared.config.Mode.TheVariants.{Plain, Sle, Tlr}
use Rattle.el_base.specs.declared.events.Event.{Event}
use Rattle.el_base.specs.declared.events.Kind.TheVariants.{Step, Order, Serve, Deliver}
use Rattle.el_base.specs.declared.outcomes.Cause.TheVariants.{Room, Lines, Long, Call, Mixed}
use Rattle.el_base.specs.declared.outcomes.Need.TheVariants.{Read, Write}
use Rattle.el_base.specs.declared.outcomes.Outcome.{Outcome}
use Rattle.el_base.specs.declared.outcomes.Outcome.TheVariants.{Idle, Stalled, Missed, Ran, Began, Buffered, Committed}
use Rattle.el_base.specs.declared.outcomes.Outcome.TheVariants.{RolledBack, Blocked}
use Rattle.el_base.specs.declared.outcomes.Outcome.TheVariants.{Delivered, Armed, LetGo}
use Rattle.el_base.specs.declared.outcomes.Why.TheVariants.{Behind, Retained, Locked}
use Rattle.computed_runs.proofs.Computing.{computing}
use Rattle.computed_runs.proofs.Given.{Ending, armed, ending_of, event, first_state, lost, ordered_with, patched}
use Rattle.computed_runs.proofs.Given.{request, section, served_with}
use Rattle.computed_runs.proofs.Given.{stamp, watch, way}
use Rattle.el_model.specs.Next.{outcomes_from, state_after}
use Rattle.el_model.specs.State.{Hart, ModelState}
use Rattle.mail.specs.Mailbox.{Marker, Probe}
use Rattle.moesi.specs.declared.letter.Letter.TheVariants.{M, O, E, S}

abbrev config : Config
config = record {
  harts = 3;
  mode = Sle;
  sets = 2;
  ways = 1;
  lines = 3;
  long = 18;
  steps = 300;
}

abbrev words : List ℕ
words =
    66231 ∷ 1049363 ∷ 2098323 ∷ 9765987 ∷ 268608559 ∷ 1443347 ∷ 4261682403 ∷ 402826671 ∷ 365667 ∷ 134389807 ∷
    268608559 ∷ 412263855 ∷ 365667 ∷ 134389807 ∷ 268608559 ∷ 409118127 ∷ 6465199 ∷ 172067 ∷ 4234145903 ∷ []

abbrev first : ModelState
first = first_state config 65536 256 131072 words

abbrev events : List Event
events =
    event Step 2 ∷ event Step 0 ∷ event Step 0 ∷ event Step 0 ∷ event Deliver 0 ∷ event Step 0 ∷ event Step 0 ∷
    event Order 0 ∷ event Serve 2 ∷ event Step 1 ∷ event Serve 2 ∷ event Serve 0 ∷ event Step 0 ∷ event Order 1 ∷
    event Serve 0 ∷ event Step 0 ∷ event Order 0 ∷ event Serve 0 ∷ event Step 2 ∷ event Step 1 ∷ event Step 1 ∷
    event Step 0 ∷ event Step 0 ∷ event Order 0 ∷ event Order 1 ∷ event Step 2 ∷ event Step 0 ∷ event Deliver 2 ∷
    event Deliver 0 ∷ event Step 2 ∷ event Serve 1 ∷ event Step 2 ∷ event Step 2 ∷ event Step 2 ∷ event Step 0 ∷
    event Step 2 ∷ event Step 2 ∷ event Step 0 ∷ event Serve 0 ∷ event Order 2 ∷ event Deliver 0 ∷ event Deliver 2 ∷
    event Step 0 ∷ event Step 0 ∷ event Serve 2 ∷ event Step 0 ∷ event Step 1 ∷ event Serve 1 ∷ event Step 1 ∷
    event Step 0 ∷ event Order 1 ∷ event Deliver 2 ∷ event Step 2 ∷ event Deliver 1 ∷ event Serve 1 ∷ event Serve 0 ∷
    event Serve 2 ∷ event Step 1 ∷ event Step 1 ∷ event Step 1 ∷ event Deliver 0 ∷ event Step 2 ∷ event Step 2 ∷
    event Serve 0 ∷ event Step 0 ∷ event Step 1 ∷ event Step 1 ∷ event Serve 2 ∷ event Serve 1 ∷ event Serve 0 ∷
    event Deliver 2 ∷ event Step 2 ∷ event Serve 2 ∷ event Step 2 ∷ event Order 1 ∷ event Step 2 ∷ event Step 0 ∷
    event Deliver 2 ∷ event Serve 1 ∷ event Step 1 ∷ event Deliver 0 ∷ event Step 1 ∷ event Step 2 ∷ event Order 0 ∷
    event Step 1 ∷ event Serve 0 ∷ event Order 2 ∷ event Serve 2 ∷ event Serve 0 ∷ event Serve 0 ∷ event Step 0 ∷
    event Order 1 ∷ event Step 1 ∷ event Step 0 ∷ event Step 1 ∷ event Deliver 2 ∷ event Serve 2 ∷ event Step 2 ∷
    event Step 1 ∷ event Order 1 ∷ event Step 2 ∷ event Serve 1 ∷ event Step 2 ∷ event Order 0 ∷ event Order 2 ∷
    event Serve 1 ∷ event Deliver 1 ∷ event Serve 2 ∷ event Order 1 ∷ event Step 1 ∷ event Step 0 ∷ event Deliver 0 ∷
    event Order 0 ∷ event Serve 2 ∷ event Step 1 ∷ event Order 1 ∷ event Step 2 ∷ event Order 1 ∷ event Step 0 ∷
    event Deliver 1 ∷ event Deliver 2 ∷ event Serve 0 ∷ event Serve 1 ∷ event Serve 1 ∷ event Deliver 2 ∷
    event Step 2 ∷ event Serve 1 ∷ event Step 2 ∷ event Serve 1 ∷ event Order 0 ∷ event Step 2 ∷ event Serve 1 ∷
    event Step 0 ∷ event Step 1 ∷ event Deliver 2 ∷ event Step 1 ∷ event Step 0 ∷ event Step 0 ∷ event Step 0 ∷
    event Step 2 ∷ event Order 1 ∷ event Deliver 2 ∷ event Deliver 0 ∷ event Step 2 ∷ event Deliver 2 ∷ event Order 1 ∷
    event Deliver 1 ∷ event Step 0 ∷ event Deliver 0 ∷ event Step 0 ∷ event Step 0 ∷ event Step 2 ∷ event Deliver 2 ∷
    event Serve 1 ∷ event Step 0 ∷ event Step 1 ∷ event Step 1 ∷ event Deliver 2 ∷ event Step 2 ∷ event Step 1 ∷
    event Step 2 ∷ event Step 0 ∷ event Order 1 ∷ event Order 1 ∷ event Deliver 2 ∷ event Step 1 ∷ event Deliver 1 ∷
    event Order 0 ∷ event Deliver 1 ∷ event Order 2 ∷ event Serve 2 ∷ event Deliver 0 ∷ event Step 2 ∷ event Step 1 ∷
    event Deliver 1 ∷ event Serve 2 ∷ event Serve 0 ∷ event Step 1 ∷ event Serve 2 ∷ event Serve 2 ∷ event Step 2 ∷
    event Step 1 ∷ event Order 2 ∷ event Deliver 1 ∷ event Step 2 ∷ event Order 1 ∷ event Serve 2 ∷ event Serve 2 ∷
    event Step 0 ∷ event Order 0 ∷ event Deliver 2 ∷ event Deliver 0 ∷ event Step 0 ∷ event Step 1 ∷ event Serve 1 ∷
    event Serve 0 ∷ event Deliver 0 ∷ event Step 1 ∷ event Serve 1 ∷ event Serve 2 ∷ event Step 1 ∷ event Order 1 ∷
    event Serve 1 ∷ event Deliver 0 ∷ event Step 0 ∷ event Deliver 1 ∷ event Deliver 1 ∷ event Serve 0 ∷
    event Serve 1 ∷ event Serve 1 ∷ event Step 1 ∷ event Deliver 0 ∷ event Step 0 ∷ event Serve 0 ∷ event Step 0 ∷
    event Serve 0 ∷ event Serve 1 ∷ event Serve 0 ∷ event Deliver 0 ∷ event Step 2 ∷ event Order 2 ∷ event Order 0 ∷
    event Step 2 ∷ event Serve 0 ∷ event Order 1 ∷ event Step 0 ∷ event Order 2 ∷ event Deliver 1 ∷ event Order 2 ∷
    event Serve 1 ∷ event Deliver 2 ∷ event Step 0 ∷ event Order 0 ∷ event Serve 0 ∷ event Step 1 ∷ event Serve 1 ∷
    event Serve 0 ∷ event Deliver 0 ∷ event Serve 0 ∷ event Deliver 1 ∷ event Step 0 ∷ event Order 0 ∷ event Order 2 ∷
    event Serve 0 ∷ event Deliver 1 ∷ event Serve 2 ∷ event Step 2 ∷ event Order 1 ∷ event Step 0 ∷ event Step 1 ∷
    event Deliver 2 ∷ event Serve 0 ∷ event Step 2 ∷ event Step 0 ∷ event Step 2 ∷ event Order 1 ∷ event Deliver 1 ∷
    event Step 2 ∷ event Order 2 ∷ event Step 2 ∷ event Step 0 ∷ event Order 1 ∷ event Step 1 ∷ event Step 0 ∷
    event Step 0 ∷ event Step 2 ∷ event Order 1 ∷ event Step 0 ∷ event Step 2 ∷ event Step 1 ∷ event Step 0 ∷
    event Order 2 ∷ event Order 0 ∷ event Serve 1 ∷ event Serve 2 ∷ event Order 1 ∷ event Deliver 0 ∷ event Serve 0 ∷
    event Order 0 ∷ event Deliver 2 ∷ event Deliver 1 ∷ event Serve 0 ∷ event Serve 0 ∷ event Serve 0 ∷ event Serve 0 ∷
    event Serve 1 ∷ event Serve 2 ∷ event Step 1 ∷ event Step 2 ∷ event Deliver 0 ∷ event Order 0 ∷ event Serve 0 ∷
    event Serve 1 ∷ event Step 0 ∷ event Serve 0 ∷ event Serve 2 ∷ event Deliver 1 ∷ event Step 2 ∷ event Order 0 ∷
    event Deliver 2 ∷ []

abbrev expected : List Outcome
expected =
    Ran ∷ Ran ∷ Ran ∷ Ran ∷ Idle ∷ Ran ∷ Missed (line_addr 1024) Read ∷ ordered_with [] [] ∷ Idle ∷ Ran ∷ Idle ∷
    served_with [] [] ∷ Armed ∷ Idle ∷ Idle ∷ Buffered ∷ Idle ∷ Idle ∷ Ran ∷ Ran ∷ Ran ∷ Buffered ∷ LetGo 3 ∷ Idle ∷
    Idle ∷ Ran ∷ Ran ∷ Idle ∷ Idle ∷ Ran ∷ Idle ∷ Ran ∷ Ran ∷ Ran ∷ Ran ∷ Ran ∷ Missed (line_addr 1024) Read ∷ Ran ∷
    Idle ∷ ordered_with [] [] ∷ Idle ∷ Idle ∷ Armed ∷ Began ∷ served_with [] [] ∷ Buffered ∷ Ran ∷ Idle ∷
    Missed (line_addr 1024) Read ∷ Committed 4 ∷ ordered_with [] [] ∷ Idle ∷ Armed ∷ Idle ∷ served_with [] [] ∷ Idle ∷
    Idle ∷ Armed ∷ Buffered ∷ Buffered ∷ Idle ∷ Began ∷ Buffered ∷ Idle ∷ Armed ∷ LetGo 3 ∷
    Missed (line_addr 1024) Write ∷ Idle ∷ Idle ∷ Idle ∷ Idle ∷ Committed 4 ∷ Idle ∷ Armed ∷
    ordered_with [] ((0, 1) ∷ (2, 1) ∷ []) ∷ Missed (line_addr 1024) Write ∷ Missed (line_addr 1024) Write ∷ Idle ∷
    served_with [] [] ∷ Ran ∷ Idle ∷ Ran ∷ Stalled ∷ ordered_with [] [] ∷ Ran ∷ served_with [] [] ∷
    ordered_with [] [] ∷ Blocked Locked (hart_id 0) ∷ Idle ∷ Idle ∷ Ran ∷ Idle ∷ Ran ∷ Ran ∷ Ran ∷ Idle ∷
    served_with [] [] ∷ Ran ∷ Missed (line_addr 1024) Read ∷ ordered_with [] [] ∷ Ran ∷ served_with [] [] ∷
    Missed (line_addr 1024) Write ∷ Idle ∷ ordered_with [] [] ∷ Idle ∷ Idle ∷ Blocked Locked (hart_id 1) ∷ Idle ∷ Ran ∷
    Missed (line_addr 1024) Write ∷ Idle ∷ ordered_with [] [] ∷ served_with [] [] ∷ Missed (line_addr 1024) Write ∷
    ordered_with [] [] ∷ Ran ∷ Idle ∷ Stalled ∷ Idle ∷ Idle ∷ served_with [] [] ∷ Blocked Locked (hart_id 0) ∷
    Blocked Locked (hart_id 0) ∷ Idle ∷ Ran ∷ Blocked Locked (hart_id 0) ∷ Ran ∷ Blocked Locked (hart_id 0) ∷ Idle ∷
    Ran ∷ Blocked Locked (hart_id 0) ∷ Ran ∷ Stalled ∷ Idle ∷ Stalled ∷ Ran ∷ Ran ∷ Ran ∷ Ran ∷ Idle ∷ Idle ∷ Idle ∷
    Ran ∷ Idle ∷ Idle ∷ Idle ∷ Ran ∷ Idle ∷ Ran ∷ Ran ∷ Ran ∷ Idle ∷ served_with [] [] ∷ Ran ∷ Ran ∷ Ran ∷ Idle ∷
    Missed (line_addr 1024) Read ∷ Ran ∷ Stalled ∷ Missed (line_addr 1024) Read ∷ Idle ∷ Idle ∷ Idle ∷ Ran ∷ Idle ∷
    ordered_with [] [] ∷ Idle ∷ ordered_with [] [] ∷ Blocked Behind (hart_id 0) ∷ Idle ∷ Stalled ∷ Ran ∷ Idle ∷
    Blocked Behind (hart_id 0) ∷ served_with [] [] ∷ Armed ∷ Blocked Locked (hart_id 0) ∷ Blocked Locked (hart_id 0) ∷
    Stalled ∷ Buffered ∷ Idle ∷ Idle ∷ Stalled ∷ Idle ∷ Blocked Locked (hart_id 0) ∷ Blocked Locked (hart_id 0) ∷
    Missed (line_addr 1024) Write ∷ ordered_with [] [] ∷ Idle ∷ Idle ∷ Stalled ∷ Buffered ∷ Idle ∷
    Blocked Behind (hart_id 2) ∷ Idle ∷ LetGo 3 ∷ Idle ∷ served_with [] [] ∷ Missed (line_addr 1024) Write ∷
    ordered_with [] [] ∷ Blocked Behind (hart_id 0) ∷ Idle ∷ Stalled ∷ Idle ∷ Idle ∷ Blocked Locked (hart_id 2) ∷
    Blocked Behind (hart_id 0) ∷ Blocked Behind (hart_id 0) ∷ Stalled ∷ Idle ∷ Stalled ∷ Blocked Locked (hart_id 2) ∷
    Stalled ∷ Blocked Locked (hart_id 2) ∷ Blocked Behind (hart_id 0) ∷ Blocked Locked (hart_id 2) ∷ Idle ∷ Ran ∷
    Idle ∷ Idle ∷ Missed (line_addr 1024) Write ∷ served_with [] [] ∷ Idle ∷ Ran ∷ ordered_with [] [] ∷ Idle ∷ Idle ∷
    served_with [] [] ∷ Idle ∷ Missed (line_addr 1024) Read ∷ ordered_with [] [] ∷ Blocked Behind (hart_id 2) ∷ Ran ∷
    Idle ∷ Blocked Behind (hart_id 2) ∷ Idle ∷ Blocked Behind (hart_id 2) ∷ Idle ∷ Stalled ∷ Idle ∷ Idle ∷
    Blocked Behind (hart_id 2) ∷ Idle ∷ served_with [] [] ∷ Ran ∷ Idle ∷ Stalled ∷ Ran ∷ Idle ∷ served_with [] [] ∷
    Ran ∷ Armed ∷ Armed ∷ Idle ∷ Idle ∷ Began ∷ Idle ∷ RolledBack Mixed ∷ Began ∷ Idle ∷ Missed (line_addr 1024) Read ∷
    Buffered ∷ Committed 4 ∷ Ran ∷ ordered_with [] [] ∷ Ran ∷ Missed (line_addr 1024) Write ∷ Stalled ∷
    Missed (line_addr 1024) Write ∷ ordered_with [] [] ∷ ordered_with [] [] ∷ served_with [] [] ∷
    Blocked Locked (hart_id 1) ∷ Idle ∷ Idle ∷ Blocked Behind (hart_id 2) ∷ Idle ∷ Idle ∷ Idle ∷
    Blocked Behind (hart_id 2) ∷ Blocked Behind (hart_id 2) ∷ Blocked Behind (hart_id 2) ∷ Blocked Behind (hart_id 2) ∷
    Idle ∷ Blocked Locked (hart_id 1) ∷ Ran ∷ Stalled ∷ Idle ∷ Idle ∷ Blocked Behind (hart_id 2) ∷ Idle ∷ Stalled ∷
    Blocked Behind (hart_id 2) ∷ served_with [] [] ∷ Idle ∷ Ran ∷ Idle ∷ Idle ∷ []

outcomes : outcomes_from first events ≡ expected
unfolding computing
outcomes = refl

abbrev last : Ending
last = record {
  harts =
      record {
        section = None;
        armed = None;
        last_lr = (Some 131128);
        cache = ([]) ∷ ([]) ∷ [];
        raised = None;
        held_line = None;
        mail = [];
        told = [];
        upstream = [];
        fallback = false;
        tries = 0;
        clock = 0;
        seen = 0;
        attempt = None;
        predictor = record { counters = (patched (replicate 64 2) ((10, 3) ∷ (14, 1) ∷ [])); watch = None };
      } ∷ record {
        section = None;
        armed = None;
        last_lr = (Some 131112);
        cache = ([]) ∷ ([]) ∷ [];
        raised = None;
        held_line = None;
        mail = [];
        told = [];
        upstream = [];
        fallback = false;
        tries = 0;
        clock = 0;
        seen = 0;
        attempt = None;
        predictor = record { counters = (patched (replicate 64 2) ([])); watch = None };
      } ∷ record {
        section = None;
        armed = None;
        last_lr = (Some 131128);
        cache = (way 1024 M false false ∷ []) ∷ ([]) ∷ [];
        raised = None;
        held_line = None;
        mail = [];
        told = [];
        upstream = [];
        fallback = false;
        tries = 0;
        clock = 0;
        seen = 0;
        attempt = None;
        predictor =
            record {
              counters = (patched (replicate 64 2) ((10, 3) ∷ (14, 1) ∷ []));
              watch = (Some (watch 131128 65536 0 1));
            };
      } ∷ [];
  order = (request 0 1024 Write None) ∷ [];
  pcs = 131132 ∷ 131116 ∷ 131136 ∷ [];
  registers =
      (0 ∷ 0 ∷ 65792 ∷ 0 ∷ 0 ∷ 65536 ∷ 1 ∷ 0 ∷ 0 ∷ 2 ∷ 0 ∷ 0 ∷ 2 ∷ 1 ∷ 0 ∷ 0 ∷ 0 ∷ 0 ∷ 0 ∷ 0 ∷ 0 ∷ 0 ∷
      0 ∷ 0 ∷ 0 ∷ 0 ∷ 0 ∷ 0 ∷ 0 ∷ 0 ∷ 0 ∷ 0 ∷ []) ∷
      (0 ∷ 0 ∷ 256 ∷ 0 ∷ 0 ∷ 65536 ∷ 1 ∷ 0 ∷ 0 ∷ 2 ∷ 1 ∷ 1 ∷ 2 ∷ 0 ∷ 0 ∷ 0 ∷ 0 ∷ 0 ∷ 0 ∷ 0 ∷ 0 ∷ 0 ∷
      0 ∷ 0 ∷ 0 ∷ 0 ∷ 0 ∷ 0 ∷ 0 ∷ 0 ∷ 0 ∷ 0 ∷ []) ∷
      (0 ∷ 0 ∷ 4294902016 ∷ 0 ∷ 0 ∷ 65536 ∷ 1 ∷ 0 ∷ 0 ∷ 2 ∷ 2 ∷ 0 ∷ 2 ∷ 2 ∷ 0 ∷ 0 ∷ 0 ∷ 0 ∷ 0 ∷ 0 ∷
      0 ∷ 0 ∷ 0 ∷ 0 ∷ 0 ∷ 0 ∷ 0 ∷ 0 ∷ 0 ∷ 0 ∷ 0 ∷ 0 ∷ []) ∷
      [];
  bytes = patched (replicate 256 0) ((0, 1) ∷ []);
}

ending : ending_of (state_after first events) ≡ last
unfolding computing
ending = refl
