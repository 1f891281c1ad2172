-- 4 harts in lock removal, 300 random events over LR and SC: 4 of Armed, 1 of LetGo, 1 of Ordered that let harts go,
-- 4 of Committed
use Rattle.std.proofs.Common.{◌≡◌, ℕ, true, false, List, [], ◌∷◌, Some, None, replicate, refl}
use Rattle.el_base.specs.HartId.{hart_id}
use Rattle.el_base.specs.LineAddr.{line_addr}
use Rattle.el_base.specs.declared.config.Config.{Config}
use Rattle.el_base.specs.declared.config.Mode.TheVariants.{Plain, Sle, Tlr}
use Rattle.el_base.specs.declared.events.Event.{Event}
use Rattle.el_base.specs.declared.events.Kind.TheVariants.{Step, Order, Serve, Deliver}
use Rattle.el_base.specs.declared.outcomes.Cause.TheVariants.{Room, Lines, Long, Call, Mixed}
use Rattle.el_base.specs.declared.outcomes.Need.TheVariants.{Read, Write}
use Rattle.el_base.specs.declared.outcomes.Outcome.{Outcome}
use Rattle.el_base.specs.declared.outcomes.Outcome.TheVariants.{Idle, Stalled, Missed, Ran, Began, Buffered, Committed}
use Rattle.el_base.specs.declared.outcomes.Outcome.TheVariants.{RolledBack, Blocked}
use Rattle.el_base.specs.declared.outcomes.Outcome.TheVariants.{Delivered, Armed, LetGo}
use Rattle.el_base.specs.declared.outcomes.Why.TheVariants.{Behind, Retained, Locked}
use Rattle.computed_runs.proofs.Computing.{computing}
use Rattle.computed_runs.proofs.Given.{Ending, armed, ending_of, event, first_state, lost, ordered_with, patched}
use Rattle.computed_runs.proofs.Given.{request, section, served_with}
use Rattle.computed_runs.proofs.Given.{stamp, watch, way}
use Rattle.el_model.specs.Next.{outcomes_from, state_after}
use Rattle.el_model.specs.State.{Hart, ModelState}
use Rattle.mail.specs.Mailbox.{Marker, Probe}
use Rattle.moesi.specs.declared.letter.Letter.TheVariants.{M, O, E, S}

abbrev config : Config
config = record {
  harts = 4;
  mode = Tlr;
  sets = 1;
  ways = 2;
  lines = 2;
  long = 15;
  steps = 300;
}

abbrev words : List ℕ
words =
    66231 ∷ 1049363 ∷ 2098323 ∷ 268608559 ∷ 1443347 ∷ 1443347 ∷ 1443347 ∷ 1443347 ∷ 1443347 ∷ 1443347 ∷ 1443347 ∷
    1443347 ∷ 1443347 ∷ 1443347 ∷ 402826671 ∷ 365667 ∷ 172067 ∷ 67273619 ∷ 140747823 ∷ 144876579 ∷ 71476739 ∷ 237603 ∷
    67273619 ∷ 140747823 ∷ 4208980079 ∷ []

abbrev first : ModelState
first = first_state config 65536 384 131072 words

abbrev events : List Event
events =
    event Order 0 ∷ event Step 2 ∷ event Step 0 ∷ event Step 0 ∷ event Step 0 ∷ event Step 3 ∷ event Step 2 ∷
    event Step 1 ∷ event Serve 2 ∷ event Step 3 ∷ event Step 1 ∷ event Serve 3 ∷ event Step 0 ∷ event Order 0 ∷
    event Step 2 ∷ event Serve 3 ∷ event Serve 0 ∷ event Deliver 2 ∷ event Step 1 ∷ event Deliver 2 ∷ event Step 0 ∷
    event Step 0 ∷ event Step 3 ∷ event Step 2 ∷ event Step 0 ∷ event Order 2 ∷ event Deliver 2 ∷ event Step 0 ∷
    event Deliver 3 ∷ event Order 1 ∷ event Order 3 ∷ event Step 2 ∷ event Step 1 ∷ event Step 0 ∷ event Deliver 3 ∷
    event Step 0 ∷ event Step 0 ∷ event Deliver 0 ∷ event Order 3 ∷ event Deliver 2 ∷ event Step 0 ∷ event Serve 0 ∷
    event Step 0 ∷ event Step 2 ∷ event Step 3 ∷ event Step 0 ∷ event Order 1 ∷ event Order 3 ∷ event Step 0 ∷
    event Order 2 ∷ event Deliver 1 ∷ event Serve 1 ∷ event Serve 2 ∷ event Deliver 3 ∷ event Step 2 ∷ event Order 0 ∷
    event Deliver 2 ∷ event Step 3 ∷ event Step 3 ∷ event Serve 1 ∷ event Order 3 ∷ event Serve 3 ∷ event Step 1 ∷
    event Serve 0 ∷ event Step 0 ∷ event Step 2 ∷ event Step 2 ∷ event Step 2 ∷ event Step 2 ∷ event Serve 3 ∷
    event Deliver 3 ∷ event Step 3 ∷ event Step 1 ∷ event Serve 1 ∷ event Step 0 ∷ event Order 0 ∷ event Step 3 ∷
    event Step 1 ∷ event Step 2 ∷ event Serve 0 ∷ event Serve 0 ∷ event Step 3 ∷ event Step 1 ∷ event Step 3 ∷
    event Order 1 ∷ event Deliver 1 ∷ event Step 3 ∷ event Step 1 ∷ event Step 0 ∷ event Serve 0 ∷ event Step 2 ∷
    event Order 3 ∷ event Step 1 ∷ event Step 3 ∷ event Serve 0 ∷ event Step 2 ∷ event Step 3 ∷ event Deliver 2 ∷
    event Step 1 ∷ event Step 0 ∷ event Step 0 ∷ event Step 2 ∷ event Step 0 ∷ event Step 2 ∷ event Step 0 ∷
    event Order 0 ∷ event Deliver 3 ∷ event Deliver 2 ∷ event Step 1 ∷ event Order 0 ∷ event Step 3 ∷ event Step 2 ∷
    event Step 3 ∷ event Serve 0 ∷ event Order 3 ∷ event Deliver 1 ∷ event Order 0 ∷ event Step 1 ∷ event Step 1 ∷
    event Step 2 ∷ event Step 1 ∷ event Step 0 ∷ event Step 2 ∷ event Order 0 ∷ event Step 2 ∷ event Step 3 ∷
    event Order 2 ∷ event Step 2 ∷ event Step 0 ∷ event Step 3 ∷ event Step 1 ∷ event Deliver 3 ∷ event Order 2 ∷
    event Step 3 ∷ event Deliver 2 ∷ event Step 3 ∷ event Step 3 ∷ event Serve 3 ∷ event Order 0 ∷ event Serve 0 ∷
    event Step 3 ∷ event Serve 2 ∷ event Step 0 ∷ event Step 0 ∷ event Order 3 ∷ event Serve 3 ∷ event Serve 2 ∷
    event Step 0 ∷ event Order 1 ∷ event Deliver 0 ∷ event Step 1 ∷ event Deliver 0 ∷ event Step 0 ∷ event Serve 3 ∷
    event Serve 3 ∷ event Serve 3 ∷ event Serve 3 ∷ event Serve 3 ∷ event Step 0 ∷ event Step 2 ∷ event Deliver 3 ∷
    event Deliver 3 ∷ event Step 0 ∷ event Serve 3 ∷ event Deliver 3 ∷ event Step 2 ∷ event Serve 2 ∷ event Serve 1 ∷
    event Step 1 ∷ event Deliver 0 ∷ event Step 3 ∷ event Order 2 ∷ event Serve 2 ∷ event Step 3 ∷ event Serve 2 ∷
    event Step 1 ∷ event Step 2 ∷ event Step 0 ∷ event Order 3 ∷ event Order 1 ∷ event Serve 3 ∷ event Serve 1 ∷
    event Step 1 ∷ event Serve 3 ∷ event Serve 3 ∷ event Order 2 ∷ event Deliver 0 ∷ event Serve 3 ∷ event Order 2 ∷
    event Serve 3 ∷ event Deliver 2 ∷ event Order 0 ∷ event Serve 2 ∷ event Step 2 ∷ event Serve 0 ∷ event Step 2 ∷
    event Order 1 ∷ event Step 2 ∷ event Step 0 ∷ event Step 0 ∷ event Step 2 ∷ event Deliver 3 ∷ event Deliver 2 ∷
    event Step 1 ∷ event Step 0 ∷ event Serve 1 ∷ event Serve 0 ∷ event Serve 3 ∷ event Step 1 ∷ event Step 2 ∷
    event Order 1 ∷ event Step 0 ∷ event Serve 2 ∷ event Step 0 ∷ event Step 3 ∷ event Step 2 ∷ event Step 2 ∷
    event Order 2 ∷ event Order 2 ∷ event Deliver 0 ∷ event Order 1 ∷ event Serve 2 ∷ event Step 1 ∷ event Step 0 ∷
    event Serve 1 ∷ event Deliver 0 ∷ event Step 1 ∷ event Step 1 ∷ event Step 2 ∷ event Step 0 ∷ event Step 0 ∷
    event Order 3 ∷ event Step 2 ∷ event Step 1 ∷ event Deliver 1 ∷ event Step 2 ∷ event Deliver 3 ∷ event Step 2 ∷
    event Deliver 1 ∷ event Step 1 ∷ event Order 0 ∷ event Step 1 ∷ event Serve 3 ∷ event Step 1 ∷ event Step 0 ∷
    event Order 2 ∷ event Order 0 ∷ event Serve 1 ∷ event Order 2 ∷ event Step 3 ∷ event Step 1 ∷ event Step 0 ∷
    event Order 3 ∷ event Step 0 ∷ event Deliver 3 ∷ event Order 0 ∷ event Order 1 ∷ event Step 0 ∷ event Order 1 ∷
    event Serve 2 ∷ event Serve 1 ∷ event Step 1 ∷ event Order 0 ∷ event Serve 2 ∷ event Step 1 ∷ event Deliver 2 ∷
    event Step 1 ∷ event Serve 0 ∷ event Step 0 ∷ event Serve 0 ∷ event Serve 2 ∷ event Step 0 ∷ event Serve 3 ∷
    event Step 3 ∷ event Step 2 ∷ event Step 1 ∷ event Order 1 ∷ event Deliver 2 ∷ event Order 3 ∷ event Step 0 ∷
    event Order 2 ∷ event Step 3 ∷ event Deliver 2 ∷ event Step 2 ∷ event Deliver 0 ∷ event Order 0 ∷ event Step 2 ∷
    event Serve 3 ∷ event Order 0 ∷ event Order 1 ∷ event Serve 1 ∷ event Step 3 ∷ event Step 1 ∷ event Step 3 ∷
    event Step 1 ∷ event Step 1 ∷ event Step 1 ∷ event Order 3 ∷ event Step 3 ∷ event Serve 1 ∷ []

abbrev expected : List Outcome
expected =
    Idle ∷ Ran ∷ Ran ∷ Ran ∷ Ran ∷ Ran ∷ Ran ∷ Ran ∷ Idle ∷ Ran ∷ Ran ∷ Idle ∷ Missed (line_addr 1024) Read ∷
    ordered_with [] [] ∷ Ran ∷ Idle ∷ served_with [] [] ∷ Idle ∷ Ran ∷ Idle ∷ Armed ∷ Buffered ∷ Ran ∷
    Missed (line_addr 1024) Read ∷ Buffered ∷ ordered_with [] [] ∷ Idle ∷ Buffered ∷ Idle ∷ Idle ∷ Idle ∷ Stalled ∷
    Missed (line_addr 1024) Read ∷ Buffered ∷ Idle ∷ Buffered ∷ Buffered ∷ Idle ∷ Idle ∷ Idle ∷ Buffered ∷ Idle ∷
    Buffered ∷ Stalled ∷ Missed (line_addr 1024) Read ∷ Buffered ∷ ordered_with [] [] ∷ ordered_with [] [] ∷ Buffered ∷
    Idle ∷ Delivered (lost []) ∷ Blocked Behind (hart_id 2) ∷ served_with [] [] ∷ Delivered (lost []) ∷ Armed ∷ Idle ∷
    Delivered (lost []) ∷ Stalled ∷ Stalled ∷ served_with [] [] ∷ Idle ∷ Blocked Locked (hart_id 1) ∷ Armed ∷ Idle ∷
    LetGo 11 ∷ Buffered ∷ Buffered ∷ Buffered ∷ Buffered ∷ served_with [] [] ∷ Idle ∷ Armed ∷ Buffered ∷ Idle ∷
    Missed (line_addr 1024) Write ∷ ordered_with [] ((1, 2) ∷ (2, 5) ∷ (3, 1) ∷ []) ∷ Ran ∷ Ran ∷ Ran ∷
    served_with [] [] ∷ Idle ∷ Ran ∷ Ran ∷ Ran ∷ Idle ∷ Idle ∷ Ran ∷ Ran ∷ Ran ∷ Idle ∷ Ran ∷ Idle ∷ Ran ∷ Ran ∷ Idle ∷
    Ran ∷ Ran ∷ Idle ∷ Ran ∷ Ran ∷ Ran ∷ Ran ∷ Ran ∷ Ran ∷ Missed (line_addr 1025) Read ∷ ordered_with [] [] ∷ Idle ∷
    Idle ∷ Ran ∷ Idle ∷ Ran ∷ Ran ∷ Ran ∷ served_with [] [] ∷ Idle ∷ Idle ∷ Idle ∷ Ran ∷ Ran ∷ Ran ∷ Ran ∷ Began ∷
    Ran ∷ Idle ∷ Ran ∷ Ran ∷ Idle ∷ Missed (line_addr 1025) Read ∷ Missed (line_addr 1026) Write ∷ Ran ∷ Ran ∷ Idle ∷
    ordered_with [] [] ∷ Ran ∷ Idle ∷ Ran ∷ Ran ∷ Idle ∷ ordered_with [] [] ∷ served_with [] [] ∷
    Missed (line_addr 1025) Read ∷ served_with [] [] ∷ Buffered ∷ Buffered ∷ ordered_with [] [] ∷
    Blocked Locked (hart_id 2) ∷ Idle ∷ Committed 4 ∷ Idle ∷ Idle ∷ Ran ∷ Idle ∷ Ran ∷ Blocked Locked (hart_id 2) ∷
    Blocked Locked (hart_id 2) ∷ Blocked Locked (hart_id 2) ∷ Blocked Locked (hart_id 2) ∷ Blocked Locked (hart_id 2) ∷
    Began ∷ Began ∷ Idle ∷ Idle ∷ Buffered ∷ served_with [] [] ∷ Idle ∷ Missed (line_addr 1026) Write ∷ Idle ∷ Idle ∷
    Ran ∷ Idle ∷ Began ∷ ordered_with [] [] ∷ served_with [] [] ∷ Missed (line_addr 1026) Write ∷ Idle ∷
    Missed (line_addr 1025) Read ∷ Buffered ∷ Missed (line_addr 1024) Read ∷ ordered_with [] [] ∷ ordered_with [] [] ∷
    Blocked Retained (hart_id 2) ∷ served_with [] [] ∷ Began ∷ Blocked Retained (hart_id 2) ∷
    Blocked Retained (hart_id 2) ∷ Idle ∷ Idle ∷ Blocked Retained (hart_id 2) ∷ Idle ∷ Blocked Retained (hart_id 2) ∷
    Idle ∷ ordered_with [] [] ∷ Idle ∷ Buffered ∷ served_with [] [] ∷ Committed 4 ∷ Idle ∷ Ran ∷ Buffered ∷ Buffered ∷
    Began ∷ Delivered (lost []) ∷ Delivered (lost []) ∷ Missed (line_addr 1026) Write ∷ Buffered ∷ Idle ∷ Idle ∷
    served_with [] [] ∷ Stalled ∷ Buffered ∷ ordered_with ((3, 1) ∷ []) [] ∷ Buffered ∷ Idle ∷ Buffered ∷ Began ∷
    Missed (line_addr 1024) Read ∷ Stalled ∷ ordered_with [] [] ∷ Idle ∷ Idle ∷ Idle ∷ served_with [] [] ∷ Stalled ∷
    Buffered ∷ served_with [] [] ∷ Idle ∷ Buffered ∷ Buffered ∷ Buffered ∷ Buffered ∷ Buffered ∷ Idle ∷ Buffered ∷
    Committed 4 ∷ Idle ∷ Buffered ∷ Idle ∷ Buffered ∷ Idle ∷ Ran ∷ Idle ∷ Began ∷ Idle ∷ Buffered ∷ Buffered ∷ Idle ∷
    Idle ∷ Idle ∷ Idle ∷ Missed (line_addr 1026) Write ∷ Missed (line_addr 1024) Read ∷ Buffered ∷ ordered_with [] [] ∷
    Buffered ∷ Idle ∷ Idle ∷ ordered_with [] [] ∷ Missed (line_addr 1024) Write ∷ Idle ∷ Idle ∷ served_with [] [] ∷
    Buffered ∷ ordered_with ((1, 0) ∷ (2, 0) ∷ []) [] ∷ Idle ∷ Began ∷ Idle ∷ Buffered ∷ served_with [] [] ∷ Buffered ∷
    Idle ∷ Idle ∷ Buffered ∷ served_with [] [] ∷ Buffered ∷ Began ∷ Missed (line_addr 1024) Read ∷ ordered_with [] [] ∷
    Idle ∷ Idle ∷ RolledBack Long ∷ Idle ∷ Buffered ∷ Idle ∷ Buffered ∷ Idle ∷ Idle ∷ Missed (line_addr 1024) Read ∷
    Idle ∷ Idle ∷ Idle ∷ served_with [] [] ∷ Committed 4 ∷ Buffered ∷ Ran ∷ Buffered ∷ Buffered ∷ Buffered ∷ Idle ∷
    Began ∷ Idle ∷ []

outcomes : outcomes_from first events ≡ expected
unfolding computing
outcomes = refl

abbrev last : Ending
last = record {
  harts =
      record {
        section = None;
        armed = None;
        last_lr = (Some 131084);
        cache = (way 1024 O false false ∷ way 1025 S false false ∷ []) ∷ [];
        raised = None;
        held_line = None;
        mail = [];
        told = [];
        upstream = [];
        fallback = true;
        tries = 0;
        clock = 2;
        seen = 1;
        attempt = None;
        predictor = record { counters = (patched (replicate 64 2) ((18, 3) ∷ (23, 1) ∷ [])); watch = None };
      } ∷ record {
        section = (Some (section 6 65600 0 1));
        armed = None;
        last_lr = (Some 131084);
        cache = (way 1024 S true false ∷ way 1025 S true false ∷ []) ∷ [];
        raised = None;
        held_line = None;
        mail = [];
        told = [];
        upstream = [];
        fallback = false;
        tries = 0;
        clock = 1;
        seen = 1;
        attempt = (Some (stamp 1 1));
        predictor = record { counters = (patched (replicate 64 2) ((18, 3) ∷ [])); watch = None };
      } ∷ record {
        section = (Some (section 2 65600 0 1));
        armed = None;
        last_lr = (Some 131084);
        cache = (way 1025 S true false ∷ []) ∷ [];
        raised = (Some (request 2 1024 Read (Some (stamp 1 2))));
        held_line = None;
        mail = [];
        told = [];
        upstream = [];
        fallback = false;
        tries = 0;
        clock = 1;
        seen = 1;
        attempt = (Some (stamp 1 2));
        predictor = record { counters = (patched (replicate 64 2) ((18, 3) ∷ [])); watch = None };
      } ∷ record {
        section = (Some (section 1 65600 0 1));
        armed = None;
        last_lr = (Some 131084);
        cache = (way 1025 S true false ∷ way 1026 M false false ∷ []) ∷ [];
        raised = None;
        held_line = None;
        mail = [];
        told = [];
        upstream = [];
        fallback = false;
        tries = 0;
        clock = 1;
        seen = 0;
        attempt = (Some (stamp 1 3));
        predictor = record { counters = (patched (replicate 64 2) ((18, 3) ∷ [])); watch = None };
      } ∷ [];
  order = [];
  pcs = 131164 ∷ 131164 ∷ 131164 ∷ 131164 ∷ [];
  registers =
      (0 ∷ 0 ∷ 65920 ∷ 0 ∷ 0 ∷ 65536 ∷ 1 ∷ 65600 ∷ 0 ∷ 2 ∷ 0 ∷ 0 ∷ 0 ∷ 0 ∷ 0 ∷ 0 ∷ 0 ∷ 0 ∷ 0 ∷ 0 ∷ 0 ∷
      0 ∷ 0 ∷ 0 ∷ 0 ∷ 0 ∷ 0 ∷ 0 ∷ 0 ∷ 0 ∷ 0 ∷ 0 ∷ []) ∷
      (0 ∷ 0 ∷ 384 ∷ 0 ∷ 0 ∷ 65536 ∷ 1 ∷ 65600 ∷ 0 ∷ 2 ∷ 1 ∷ 1 ∷ 0 ∷ 0 ∷ 0 ∷ 0 ∷ 0 ∷ 0 ∷ 0 ∷ 0 ∷ 0 ∷
      0 ∷ 0 ∷ 0 ∷ 0 ∷ 0 ∷ 0 ∷ 0 ∷ 0 ∷ 0 ∷ 0 ∷ 0 ∷ []) ∷
      (0 ∷ 0 ∷ 4294902144 ∷ 0 ∷ 0 ∷ 65536 ∷ 1 ∷ 65600 ∷ 0 ∷ 2 ∷ 2 ∷ 1 ∷ 0 ∷ 0 ∷ 0 ∷ 0 ∷ 0 ∷ 0 ∷ 0 ∷
      0 ∷ 0 ∷ 0 ∷ 0 ∷ 0 ∷ 0 ∷ 0 ∷ 0 ∷ 0 ∷ 0 ∷ 0 ∷ 0 ∷ 0 ∷ []) ∷
      (0 ∷ 0 ∷ 4294836608 ∷ 0 ∷ 0 ∷ 65536 ∷ 1 ∷ 65600 ∷ 0 ∷ 2 ∷ 3 ∷ 1 ∷ 0 ∷ 0 ∷ 0 ∷ 0 ∷ 0 ∷ 0 ∷ 0 ∷
      0 ∷ 0 ∷ 0 ∷ 0 ∷ 0 ∷ 0 ∷ 0 ∷ 0 ∷ 0 ∷ 0 ∷ 0 ∷ 0 ∷ 0 ∷ []) ∷
      [];
  bytes = patched (replicate 384 0) ((136, 3) ∷ []);
}

ending : ending_of (state_after first events) ≡ last
unfolding computing
ending = refl
