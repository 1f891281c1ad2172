-- 2 harts in lock removal, 300 random events over LR and SC: 16 of Armed, 12 of LetGo, 2 of Ordered that let harts
-- go, 4 of Committed
use Rattle.std.proofs.Common.{◌≡◌, ℕ, true, false, List, [], ◌∷◌, Some, None, replicate, refl}
use Rattle.el_base.specs.HartId.{hart_id}
use Rattle.el_base.specs.LineAddr.{line_addr}
use Rattle.el_base.specs.declared.config.Config.{Config}
use Rattle.el_base.specs.declared.config.Mode.TheVariants.{Plain, Sle, Tlr}
use Rattle.el_base.specs.declared.events.Event.{Event}
use Rattle.el_base.specs.declared.events.Kind.TheVariants.{Step, Order, Serve, Deliver}
use Rattle.el_base.specs.declared.outcomes.Cause.TheVariants.{Room, Lines, Long, Call, Mixed}
use Rattle.el_base.specs.declared.outcomes.Need.TheVariants.{Read, Write}
use Rattle.el_base.specs.declared.outcomes.Outcome.{Outcome}
use Rattle.el_base.specs.declared.outcomes.Outcome.TheVariants.{Idle, Stalled, Missed, Ran, Began, Buffered, Committed}
use Rattle.el_base.specs.declared.outcomes.Outcome.TheVariants.{RolledBack, Blocked}
use Rattle.el_base.specs.declared.outcomes.Outcome.TheVariants.{Delivered, Armed, LetGo}
use Rattle.el_base.specs.declared.outcomes.Why.TheVariants.{Behind, Retained, Locked}
use Rattle.computed_runs.proofs.Computing.{computing}
use Rattle.computed_runs.proofs.Given.{Ending, armed, ending_of, event, first_state, lost, ordered_with, patched}
use Rattle.computed_runs.proofs.Given.{request, section, served_with}
use Rattle.computed_runs.proofs.Given.{stamp, watch, way}
use Rattle.el_model.specs.Next.{outcomes_from, state_after}
use Rattle.el_model.specs.State.{Hart, ModelState}
use Rattle.mail.specs.Mailbox.{Marker, Probe}
use Rattle.moesi.specs.declared.letter.Letter.TheVariants.{M, O, E, S}

abbrev config : Config
config = record {
  harts = 2;
  mode = Tlr;
  sets = 2;
  ways = 3;
  lines = 3;
  long = 4;
  steps = 300;
}

abbrev words : List ℕ
words =
    66231 ∷ 1049363 ∷ 2098323 ∷ 67273619 ∷ 140747823 ∷ 6624355 ∷ 268609199 ∷ 237603 ∷ 268608559 ∷ 1443347 ∷
    4261682403 ∷ 409118127 ∷ 365667 ∷ 77767203 ∷ 412264239 ∷ 412264239 ∷ 134389807 ∷ 140682287 ∷ 6624355 ∷ 134389807 ∷
    67273619 ∷ 140747823 ∷ 67281955 ∷ 173571 ∷ 268609199 ∷ 4204785775 ∷ []

abbrev first : ModelState
first = first_state config 65536 192 131072 words

abbrev events : List Event
events =
    event Step 1 ∷ event Serve 0 ∷ event Order 0 ∷ event Step 1 ∷ event Deliver 1 ∷ event Serve 1 ∷ event Step 1 ∷
    event Step 1 ∷ event Step 1 ∷ event Serve 1 ∷ event Step 0 ∷ event Step 0 ∷ event Order 1 ∷ event Step 0 ∷
    event Step 0 ∷ event Serve 1 ∷ event Order 1 ∷ event Step 0 ∷ event Step 1 ∷ event Order 0 ∷ event Step 1 ∷
    event Step 1 ∷ event Order 1 ∷ event Serve 0 ∷ event Step 1 ∷ event Step 1 ∷ event Serve 1 ∷ event Step 1 ∷
    event Deliver 1 ∷ event Step 1 ∷ event Step 1 ∷ event Step 0 ∷ event Step 0 ∷ event Step 1 ∷ event Step 0 ∷
    event Step 0 ∷ event Step 1 ∷ event Step 1 ∷ event Step 0 ∷ event Serve 1 ∷ event Deliver 1 ∷ event Step 1 ∷
    event Deliver 1 ∷ event Deliver 1 ∷ event Deliver 1 ∷ event Step 0 ∷ event Step 1 ∷ event Deliver 0 ∷
    event Step 1 ∷ event Step 1 ∷ event Order 0 ∷ event Step 1 ∷ event Deliver 1 ∷ event Step 1 ∷ event Serve 0 ∷
    event Order 0 ∷ event Step 0 ∷ event Order 1 ∷ event Step 1 ∷ event Serve 1 ∷ event Step 0 ∷ event Order 0 ∷
    event Step 0 ∷ event Step 0 ∷ event Deliver 0 ∷ event Order 1 ∷ event Step 1 ∷ event Order 1 ∷ event Step 0 ∷
    event Step 0 ∷ event Order 0 ∷ event Deliver 1 ∷ event Step 0 ∷ event Step 1 ∷ event Step 0 ∷ event Step 0 ∷
    event Serve 1 ∷ event Step 0 ∷ event Step 0 ∷ event Step 1 ∷ event Step 0 ∷ event Step 0 ∷ event Deliver 0 ∷
    event Deliver 0 ∷ event Order 0 ∷ event Order 0 ∷ event Step 0 ∷ event Order 1 ∷ event Step 0 ∷ event Deliver 0 ∷
    event Order 1 ∷ event Deliver 1 ∷ event Step 0 ∷ event Serve 1 ∷ event Order 0 ∷ event Serve 1 ∷ event Serve 1 ∷
    event Serve 1 ∷ event Step 0 ∷ event Step 1 ∷ event Step 0 ∷ event Deliver 0 ∷ event Deliver 0 ∷ event Step 0 ∷
    event Step 1 ∷ event Order 1 ∷ event Order 0 ∷ event Serve 0 ∷ event Step 0 ∷ event Step 1 ∷ event Step 0 ∷
    event Step 1 ∷ event Step 1 ∷ event Step 0 ∷ event Step 0 ∷ event Step 0 ∷ event Step 0 ∷ event Step 1 ∷
    event Step 0 ∷ event Step 0 ∷ event Serve 1 ∷ event Deliver 1 ∷ event Order 1 ∷ event Step 0 ∷ event Step 0 ∷
    event Step 0 ∷ event Order 1 ∷ event Deliver 0 ∷ event Step 0 ∷ event Step 0 ∷ event Serve 0 ∷ event Step 1 ∷
    event Order 0 ∷ event Order 1 ∷ event Deliver 0 ∷ event Step 0 ∷ event Step 0 ∷ event Step 0 ∷ event Serve 1 ∷
    event Step 0 ∷ event Step 1 ∷ event Step 0 ∷ event Step 1 ∷ event Serve 1 ∷ event Step 0 ∷ event Step 1 ∷
    event Step 0 ∷ event Deliver 1 ∷ event Step 0 ∷ event Step 0 ∷ event Deliver 1 ∷ event Deliver 0 ∷ event Serve 1 ∷
    event Step 0 ∷ event Deliver 0 ∷ event Step 0 ∷ event Step 1 ∷ event Order 1 ∷ event Step 0 ∷ event Serve 1 ∷
    event Order 0 ∷ event Step 0 ∷ event Step 0 ∷ event Step 1 ∷ event Order 0 ∷ event Step 0 ∷ event Order 0 ∷
    event Serve 0 ∷ event Deliver 1 ∷ event Order 0 ∷ event Order 1 ∷ event Serve 1 ∷ event Step 0 ∷ event Order 0 ∷
    event Step 1 ∷ event Step 1 ∷ event Step 1 ∷ event Serve 1 ∷ event Serve 1 ∷ event Step 1 ∷ event Step 0 ∷
    event Step 1 ∷ event Step 1 ∷ event Deliver 0 ∷ event Step 1 ∷ event Step 0 ∷ event Serve 1 ∷ event Order 1 ∷
    event Deliver 1 ∷ event Step 0 ∷ event Step 1 ∷ event Serve 0 ∷ event Step 1 ∷ event Serve 1 ∷ event Step 1 ∷
    event Step 0 ∷ event Step 1 ∷ event Step 0 ∷ event Step 0 ∷ event Serve 0 ∷ event Deliver 0 ∷ event Deliver 0 ∷
    event Step 0 ∷ event Step 1 ∷ event Step 1 ∷ event Step 0 ∷ event Step 1 ∷ event Step 1 ∷ event Step 1 ∷
    event Serve 0 ∷ event Serve 0 ∷ event Order 0 ∷ event Order 0 ∷ event Serve 0 ∷ event Step 0 ∷ event Step 1 ∷
    event Step 1 ∷ event Order 0 ∷ event Step 0 ∷ event Step 0 ∷ event Order 1 ∷ event Order 0 ∷ event Serve 0 ∷
    event Serve 1 ∷ event Deliver 1 ∷ event Serve 0 ∷ event Serve 1 ∷ event Deliver 0 ∷ event Step 1 ∷ event Step 1 ∷
    event Deliver 1 ∷ event Step 0 ∷ event Step 0 ∷ event Deliver 1 ∷ event Deliver 0 ∷ event Deliver 1 ∷
    event Step 1 ∷ event Step 1 ∷ event Step 0 ∷ event Step 0 ∷ event Serve 1 ∷ event Serve 1 ∷ event Step 0 ∷
    event Serve 1 ∷ event Serve 1 ∷ event Step 1 ∷ event Step 0 ∷ event Step 0 ∷ event Step 1 ∷ event Deliver 1 ∷
    event Step 1 ∷ event Step 0 ∷ event Serve 1 ∷ event Serve 1 ∷ event Step 1 ∷ event Step 1 ∷ event Step 0 ∷
    event Step 1 ∷ event Step 0 ∷ event Step 0 ∷ event Deliver 1 ∷ event Order 1 ∷ event Step 1 ∷ event Serve 1 ∷
    event Step 0 ∷ event Step 0 ∷ event Step 0 ∷ event Step 1 ∷ event Step 0 ∷ event Step 1 ∷ event Step 1 ∷
    event Serve 0 ∷ event Step 0 ∷ event Deliver 1 ∷ event Order 1 ∷ event Step 1 ∷ event Step 0 ∷ event Step 1 ∷
    event Step 0 ∷ event Step 0 ∷ event Step 0 ∷ event Step 0 ∷ event Step 0 ∷ event Step 1 ∷ event Deliver 1 ∷
    event Step 1 ∷ event Deliver 1 ∷ event Step 0 ∷ event Step 1 ∷ event Serve 1 ∷ event Step 1 ∷ event Serve 0 ∷
    event Deliver 1 ∷ event Serve 1 ∷ event Deliver 0 ∷ event Step 0 ∷ event Order 1 ∷ event Serve 0 ∷
    event Deliver 0 ∷ event Step 0 ∷ []

abbrev expected : List Outcome
expected =
    Ran ∷ Idle ∷ Idle ∷ Ran ∷ Idle ∷ Idle ∷ Ran ∷ Ran ∷ Missed (line_addr 1025) Read ∷ Idle ∷ Ran ∷ Ran ∷
    ordered_with [] [] ∷ Ran ∷ Ran ∷ served_with [] [] ∷ Idle ∷ Missed (line_addr 1025) Read ∷ Began ∷
    ordered_with [] [] ∷ Buffered ∷ Missed (line_addr 1024) Read ∷ ordered_with [] [] ∷ served_with [] [] ∷ Stalled ∷
    Stalled ∷ served_with [] [] ∷ Buffered ∷ Idle ∷ Committed 4 ∷ Armed ∷ Began ∷ Buffered ∷ Buffered ∷ Committed 3 ∷
    Missed (line_addr 1024) Read ∷ Buffered ∷ Began ∷ Stalled ∷ Idle ∷ Idle ∷ RolledBack Long ∷ Idle ∷ Idle ∷ Idle ∷
    Stalled ∷ Ran ∷ Idle ∷ Ran ∷ Ran ∷ ordered_with [] [] ∷ Ran ∷ Idle ∷ Ran ∷ served_with [] [] ∷ Idle ∷ Armed ∷
    Idle ∷ Missed (line_addr 1025) Write ∷ Idle ∷ Buffered ∷ Idle ∷ Buffered ∷ LetGo 3 ∷ Idle ∷ ordered_with [] [] ∷
    Stalled ∷ Idle ∷ Armed ∷ Buffered ∷ Idle ∷ Idle ∷ Buffered ∷ Stalled ∷ LetGo 3 ∷ Armed ∷ served_with [] [] ∷
    Buffered ∷ Buffered ∷ Ran ∷ LetGo 3 ∷ Armed ∷ Idle ∷ Idle ∷ Idle ∷ Idle ∷ Buffered ∷ Idle ∷ Buffered ∷ Idle ∷
    Idle ∷ Idle ∷ LetGo 3 ∷ Idle ∷ Idle ∷ Idle ∷ Idle ∷ Idle ∷ Armed ∷ Ran ∷ Buffered ∷ Idle ∷ Idle ∷ Buffered ∷ Ran ∷
    Idle ∷ Idle ∷ Idle ∷ LetGo 3 ∷ Began ∷ Armed ∷ Committed 2 ∷ Ran ∷ Buffered ∷ Buffered ∷ LetGo 3 ∷ Armed ∷ Began ∷
    Buffered ∷ Buffered ∷ Idle ∷ Idle ∷ Idle ∷ LetGo 3 ∷ Armed ∷ Buffered ∷ Idle ∷ Idle ∷ Buffered ∷ LetGo 3 ∷ Idle ∷
    Buffered ∷ Idle ∷ Idle ∷ Idle ∷ Armed ∷ Buffered ∷ Buffered ∷ Idle ∷ LetGo 3 ∷ Buffered ∷ Armed ∷ Buffered ∷ Idle ∷
    Buffered ∷ RolledBack Long ∷ Buffered ∷ Idle ∷ LetGo 3 ∷ Armed ∷ Idle ∷ Idle ∷ Idle ∷ Buffered ∷ Idle ∷ Buffered ∷
    Missed (line_addr 1024) Write ∷ ordered_with [] ((0, 3) ∷ []) ∷ Ran ∷ served_with [] [] ∷ Idle ∷ Ran ∷ Ran ∷ Ran ∷
    Idle ∷ Missed (line_addr 1024) Read ∷ ordered_with [] [] ∷ served_with [] [] ∷ Idle ∷ Idle ∷ Idle ∷ Idle ∷ Armed ∷
    Idle ∷ Ran ∷ Began ∷ Buffered ∷ Idle ∷ Idle ∷ Buffered ∷ Buffered ∷ Buffered ∷ RolledBack Long ∷ Idle ∷ Ran ∷
    Buffered ∷ Idle ∷ Idle ∷ Idle ∷ Began ∷ Ran ∷ Idle ∷ Ran ∷ Idle ∷ Armed ∷ RolledBack Long ∷ Buffered ∷ Ran ∷ Ran ∷
    Idle ∷ Idle ∷ Idle ∷ Ran ∷ Buffered ∷ LetGo 3 ∷ Missed (line_addr 1024) Write ∷ Ran ∷ Ran ∷ Armed ∷ Idle ∷ Idle ∷
    ordered_with [] ((1, 1) ∷ []) ∷ Idle ∷ served_with [] [] ∷ Ran ∷ Ran ∷ Missed (line_addr 1024) Read ∷ Idle ∷ Ran ∷
    Missed (line_addr 1025) Write ∷ ordered_with [] [] ∷ ordered_with [] [] ∷ served_with [] [] ∷ served_with [] [] ∷
    Idle ∷ Idle ∷ Idle ∷ Idle ∷ Ran ∷ Ran ∷ Idle ∷ Ran ∷ Ran ∷ Idle ∷ Idle ∷ Idle ∷ Ran ∷ Ran ∷ Ran ∷ Began ∷ Idle ∷
    Idle ∷ Committed 2 ∷ Idle ∷ Idle ∷ Ran ∷ Ran ∷ Ran ∷ Ran ∷ Idle ∷ Ran ∷ Began ∷ Idle ∷ Idle ∷ Ran ∷ Ran ∷
    Buffered ∷ Ran ∷ Buffered ∷ Buffered ∷ Idle ∷ Idle ∷ Ran ∷ Idle ∷ RolledBack Long ∷ Ran ∷ Ran ∷ Ran ∷ Ran ∷ Ran ∷
    Ran ∷ Idle ∷ Armed ∷ Idle ∷ Idle ∷ Ran ∷ Buffered ∷ Ran ∷ Buffered ∷ LetGo 3 ∷ Ran ∷ Ran ∷ Ran ∷ Ran ∷ Idle ∷ Ran ∷
    Idle ∷ Ran ∷ Ran ∷ Idle ∷ Ran ∷ Idle ∷ Idle ∷ Idle ∷ Idle ∷ Ran ∷ Idle ∷ Idle ∷ Idle ∷ Ran ∷ []

outcomes : outcomes_from first events ≡ expected
unfolding computing
outcomes = refl

abbrev last : Ending
last = record {
  harts =
      record {
        section = None;
        armed = None;
        last_lr = (Some 131104);
        cache = (way 1024 O false false ∷ []) ∷ (way 1025 M false false ∷ []) ∷ [];
        raised = None;
        held_line = None;
        mail = [];
        told = [];
        upstream = [];
        fallback = false;
        tries = 0;
        clock = 4;
        seen = 0;
        attempt = None;
        predictor =
            record { counters = (patched (replicate 64 2) ((4, 3) ∷ (8, 0) ∷ (16, 3) ∷ (21, 0) ∷ [])); watch = None };
      } ∷ record {
        section = None;
        armed = None;
        last_lr = (Some 131104);
        cache = (way 1024 S false false ∷ []) ∷ ([]) ∷ [];
        raised = None;
        held_line = None;
        mail = [];
        told = [];
        upstream = [];
        fallback = false;
        tries = 0;
        clock = 5;
        seen = 0;
        attempt = None;
        predictor =
            record {
              counters = (patched (replicate 64 2) ((4, 3) ∷ (8, 0) ∷ (16, 3) ∷ (19, 1) ∷ (21, 0) ∷ []));
              watch = None;
            };
      } ∷ [];
  order = [];
  pcs = 131104 ∷ 131112 ∷ [];
  registers =
      (0 ∷ 0 ∷ 65728 ∷ 0 ∷ 0 ∷ 65536 ∷ 1 ∷ 65600 ∷ 1 ∷ 2 ∷ 0 ∷ 0 ∷ 2 ∷ 1 ∷ 1 ∷ 0 ∷ 0 ∷ 0 ∷ 0 ∷ 0 ∷ 0 ∷
      0 ∷ 0 ∷ 0 ∷ 0 ∷ 0 ∷ 0 ∷ 0 ∷ 0 ∷ 0 ∷ 0 ∷ 0 ∷ []) ∷
      (0 ∷ 0 ∷ 192 ∷ 0 ∷ 0 ∷ 65536 ∷ 1 ∷ 65600 ∷ 1 ∷ 2 ∷ 1 ∷ 0 ∷ 7 ∷ 0 ∷ 1 ∷ 0 ∷ 0 ∷ 0 ∷ 0 ∷ 0 ∷ 0 ∷
      0 ∷ 0 ∷ 0 ∷ 0 ∷ 0 ∷ 0 ∷ 0 ∷ 0 ∷ 0 ∷ 0 ∷ 0 ∷ []) ∷
      [];
  bytes = patched (replicate 192 0) ((0, 1) ∷ []);
}

ending : ending_of (state_after first events) ≡ last
unfolding computing
ending = refl
