-- 3 harts in lock elision, 300 random events over LR and SC: 17 of Armed, 10 of LetGo, 3 of Ordered that let harts go
use Rattle.std.proofs.Common.{◌≡◌, ℕ, true, false, List, [], ◌∷◌, Some, None, replicate, refl}
use Rattle.el_base.specs.HartId.{hart_id}
use Rattle.el_base.specs.LineAddr.{line_addr}
use Rattle.el_base.specs.declared.config.Config.{Config}
use Rattle.el_base.specs.declared.config.Mode.TheVariants.{Plain, Sle, Tlr}
use Rattle.el_base.specs.declared.events.Event.{Event}
use Rattle.el_base.specs.declared.events.Kind.TheVariants.{Step, Order, Serve, Deliver}
use Rattle.el_base.specs.declared.outcomes.Cause.TheVariants.{Room, Lines, Long, Call, Mixed}
use Rattle.el_base.specs.declared.outcomes.Need.TheVariants.{Read, Write}
use Rattle.el_base.specs.declared.outcomes.Outcome.{Outcome}
use Rattle.el_base.specs.declared.outcomes.Outcome.TheVariants.{Idle, Stalled, Missed, Ran, Began, Buffered, Committed}
use Rattle.el_base.specs.declared.outcomes.Outcome.TheVariants.{RolledBack, Blocked}
use Rattle.el_base.specs.declared.outcomes.Outcome.TheVariants.{Delivered, Armed, LetGo}
use Rattle.el_base.specs.declared.outcomes.Why.TheVariants.{Behind, Retained, Locked}
use Rattle.computed_runs.proofs.Computing.{computing}
use Rattle.computed_runs.proofs.Given.{Ending, armed, ending_of, event, first_state, lost, ordered_with, patched}
use Rattle.computed_runs.proofs.Given.{request, section, served_with}
use Rattle.computed_runs.proofs.Given.{stamp, watch, way}
use Rattle.el_model.specs.Next.{outcomes_from, state_after}
use Rattle.el_model.specs.State.{Hart, ModelState}
use Rattle.mail.specs.Mailbox.{Marker, Probe}
use Rattle.moesi.specs.declared.letter.Letter.TheVariants.{M, O, E, S}

abbrev config : Config
config = record {
  harts = 3;
  mode = Sle;
  sets = 4;
  ways = 3;
  lines = 3;
  long = 3;
  steps = 300;
}

abbrev words : List ℕ
words =
    66231 ∷ 1049363 ∷ 2098323 ∷ 67273619 ∷ 268674095 ∷ 267363 ∷ 412329391 ∷ 267386895 ∷ 268609199 ∷ 237603 ∷ 67273619 ∷
    268674095 ∷ 4368003 ∷ 409118127 ∷ 75671043 ∷ 237603 ∷ 4242534511 ∷ []

abbrev first : ModelState
first = first_state config 65536 192 131072 words

abbrev events : List Event
events =
    event Order 0 ∷ event Step 1 ∷ event Step 2 ∷ event Serve 2 ∷ event Order 0 ∷ event Serve 0 ∷ event Deliver 2 ∷
    event Step 1 ∷ event Step 2 ∷ event Serve 0 ∷ event Step 2 ∷ event Serve 1 ∷ event Step 1 ∷ event Step 1 ∷
    event Step 1 ∷ event Step 2 ∷ event Order 2 ∷ event Step 2 ∷ event Step 1 ∷ event Step 1 ∷ event Deliver 0 ∷
    event Order 1 ∷ event Order 2 ∷ event Step 0 ∷ event Serve 1 ∷ event Order 1 ∷ event Step 0 ∷ event Step 1 ∷
    event Step 0 ∷ event Serve 2 ∷ event Step 0 ∷ event Deliver 1 ∷ event Serve 1 ∷ event Deliver 1 ∷ event Deliver 0 ∷
    event Step 0 ∷ event Order 0 ∷ event Serve 1 ∷ event Order 2 ∷ event Deliver 0 ∷ event Deliver 1 ∷ event Step 2 ∷
    event Serve 0 ∷ event Step 2 ∷ event Order 2 ∷ event Serve 2 ∷ event Deliver 2 ∷ event Step 2 ∷ event Step 2 ∷
    event Step 0 ∷ event Order 0 ∷ event Step 2 ∷ event Step 1 ∷ event Step 0 ∷ event Order 0 ∷ event Serve 1 ∷
    event Serve 0 ∷ event Step 2 ∷ event Serve 2 ∷ event Step 2 ∷ event Step 0 ∷ event Order 2 ∷ event Serve 2 ∷
    event Step 1 ∷ event Order 0 ∷ event Step 0 ∷ event Order 1 ∷ event Serve 1 ∷ event Deliver 2 ∷ event Serve 1 ∷
    event Order 0 ∷ event Order 1 ∷ event Deliver 2 ∷ event Order 0 ∷ event Serve 2 ∷ event Serve 0 ∷ event Serve 1 ∷
    event Step 2 ∷ event Serve 1 ∷ event Order 0 ∷ event Deliver 2 ∷ event Serve 0 ∷ event Serve 2 ∷ event Step 0 ∷
    event Serve 1 ∷ event Serve 0 ∷ event Serve 2 ∷ event Step 2 ∷ event Serve 2 ∷ event Step 1 ∷ event Order 0 ∷
    event Step 2 ∷ event Deliver 0 ∷ event Serve 0 ∷ event Deliver 0 ∷ event Order 2 ∷ event Serve 1 ∷ event Serve 2 ∷
    event Deliver 2 ∷ event Deliver 2 ∷ event Step 2 ∷ event Deliver 2 ∷ event Step 2 ∷ event Order 1 ∷ event Step 1 ∷
    event Step 0 ∷ event Step 0 ∷ event Step 0 ∷ event Step 2 ∷ event Step 1 ∷ event Order 1 ∷ event Serve 1 ∷
    event Step 1 ∷ event Order 2 ∷ event Serve 2 ∷ event Deliver 1 ∷ event Step 2 ∷ event Step 1 ∷ event Step 2 ∷
    event Step 2 ∷ event Step 0 ∷ event Step 1 ∷ event Serve 1 ∷ event Order 1 ∷ event Step 0 ∷ event Serve 0 ∷
    event Serve 1 ∷ event Deliver 1 ∷ event Order 0 ∷ event Step 1 ∷ event Deliver 0 ∷ event Step 2 ∷ event Step 1 ∷
    event Step 1 ∷ event Serve 0 ∷ event Step 2 ∷ event Step 2 ∷ event Deliver 0 ∷ event Serve 2 ∷ event Step 2 ∷
    event Serve 1 ∷ event Order 2 ∷ event Deliver 0 ∷ event Step 1 ∷ event Deliver 2 ∷ event Serve 2 ∷ event Order 0 ∷
    event Order 1 ∷ event Step 2 ∷ event Serve 2 ∷ event Step 2 ∷ event Step 1 ∷ event Order 2 ∷ event Order 1 ∷
    event Step 0 ∷ event Serve 1 ∷ event Deliver 0 ∷ event Step 2 ∷ event Deliver 0 ∷ event Serve 0 ∷ event Serve 2 ∷
    event Step 2 ∷ event Step 2 ∷ event Deliver 1 ∷ event Step 2 ∷ event Step 2 ∷ event Step 1 ∷ event Step 0 ∷
    event Serve 0 ∷ event Order 1 ∷ event Deliver 0 ∷ event Step 2 ∷ event Step 2 ∷ event Step 2 ∷ event Step 2 ∷
    event Step 2 ∷ event Step 0 ∷ event Step 1 ∷ event Step 2 ∷ event Order 0 ∷ event Step 0 ∷ event Serve 0 ∷
    event Step 2 ∷ event Order 2 ∷ event Step 0 ∷ event Deliver 1 ∷ event Step 2 ∷ event Order 1 ∷ event Step 1 ∷
    event Order 0 ∷ event Step 2 ∷ event Serve 1 ∷ event Step 1 ∷ event Step 0 ∷ event Serve 0 ∷ event Step 2 ∷
    event Step 0 ∷ event Step 0 ∷ event Step 0 ∷ event Order 2 ∷ event Serve 2 ∷ event Step 0 ∷ event Step 0 ∷
    event Order 0 ∷ event Step 1 ∷ event Step 0 ∷ event Step 0 ∷ event Order 0 ∷ event Order 0 ∷ event Step 2 ∷
    event Serve 0 ∷ event Serve 2 ∷ event Order 1 ∷ event Step 2 ∷ event Order 1 ∷ event Order 2 ∷ event Deliver 2 ∷
    event Step 0 ∷ event Serve 0 ∷ event Serve 1 ∷ event Step 1 ∷ event Step 1 ∷ event Step 1 ∷ event Step 0 ∷
    event Deliver 0 ∷ event Deliver 1 ∷ event Order 0 ∷ event Order 1 ∷ event Step 1 ∷ event Order 0 ∷ event Serve 0 ∷
    event Deliver 0 ∷ event Step 1 ∷ event Order 2 ∷ event Serve 0 ∷ event Deliver 2 ∷ event Step 0 ∷ event Step 2 ∷
    event Order 0 ∷ event Order 0 ∷ event Step 1 ∷ event Order 2 ∷ event Serve 2 ∷ event Order 1 ∷ event Serve 0 ∷
    event Step 0 ∷ event Step 1 ∷ event Deliver 2 ∷ event Deliver 0 ∷ event Deliver 0 ∷ event Serve 2 ∷
    event Deliver 0 ∷ event Step 0 ∷ event Step 1 ∷ event Order 0 ∷ event Step 1 ∷ event Serve 0 ∷ event Step 1 ∷
    event Step 2 ∷ event Step 0 ∷ event Order 0 ∷ event Order 1 ∷ event Step 2 ∷ event Serve 1 ∷ event Step 2 ∷
    event Order 0 ∷ event Step 2 ∷ event Step 0 ∷ event Step 1 ∷ event Step 2 ∷ event Step 1 ∷ event Step 0 ∷
    event Serve 1 ∷ event Deliver 0 ∷ event Step 1 ∷ event Serve 1 ∷ event Serve 1 ∷ event Order 0 ∷ event Step 0 ∷
    event Step 1 ∷ event Step 0 ∷ event Deliver 0 ∷ event Serve 0 ∷ event Order 2 ∷ event Order 0 ∷ event Step 0 ∷
    event Serve 2 ∷ event Order 1 ∷ event Step 1 ∷ event Serve 1 ∷ event Step 0 ∷ event Order 2 ∷ event Serve 1 ∷
    event Order 0 ∷ event Step 2 ∷ event Step 2 ∷ event Order 2 ∷ event Serve 1 ∷ event Step 2 ∷ event Step 1 ∷ []

abbrev expected : List Outcome
expected =
    Idle ∷ Ran ∷ Ran ∷ Idle ∷ Idle ∷ Idle ∷ Idle ∷ Ran ∷ Ran ∷ Idle ∷ Ran ∷ Idle ∷ Ran ∷ Ran ∷
    Missed (line_addr 1025) Read ∷ Ran ∷ Idle ∷ Missed (line_addr 1025) Read ∷ Stalled ∷ Stalled ∷ Idle ∷
    ordered_with [] [] ∷ ordered_with [] [] ∷ Ran ∷ served_with [] [] ∷ Idle ∷ Ran ∷ Armed ∷ Ran ∷ served_with [] [] ∷
    Ran ∷ Idle ∷ Idle ∷ Idle ∷ Idle ∷ Missed (line_addr 1025) Read ∷ ordered_with [] [] ∷ Idle ∷ Idle ∷ Idle ∷ Idle ∷
    Armed ∷ served_with [] [] ∷ Buffered ∷ Idle ∷ Idle ∷ Idle ∷ Began ∷ RolledBack Long ∷ Armed ∷ Idle ∷ Ran ∷
    Buffered ∷ Buffered ∷ Idle ∷ Idle ∷ Idle ∷ Ran ∷ Idle ∷ Missed (line_addr 1025) Write ∷ Began ∷
    ordered_with ((0, 2) ∷ []) ((1, 2) ∷ []) ∷ served_with [] [] ∷ Missed (line_addr 1025) Write ∷ Idle ∷
    Missed (line_addr 1025) Read ∷ ordered_with [] [] ∷ Blocked Locked (hart_id 2) ∷ Idle ∷
    Blocked Locked (hart_id 2) ∷ ordered_with [] [] ∷ Idle ∷ Idle ∷ Idle ∷ Idle ∷ Blocked Behind (hart_id 1) ∷
    Blocked Locked (hart_id 2) ∷ Ran ∷ served_with [] [] ∷ Idle ∷ Idle ∷ Blocked Locked (hart_id 1) ∷ Idle ∷ Stalled ∷
    Idle ∷ Blocked Locked (hart_id 1) ∷ Idle ∷ Ran ∷ Idle ∷ Ran ∷ Idle ∷ Missed (line_addr 1024) Read ∷ Idle ∷
    served_with [] [] ∷ Idle ∷ ordered_with [] [] ∷ Idle ∷ served_with [] [] ∷ Idle ∷ Idle ∷ Armed ∷ Idle ∷ LetGo 1 ∷
    Idle ∷ Ran ∷ Armed ∷ Buffered ∷ LetGo 2 ∷ Missed (line_addr 1025) Write ∷ Missed (line_addr 1024) Read ∷
    ordered_with [] [] ∷ served_with [] [] ∷ Armed ∷ ordered_with [] [] ∷ served_with [] [] ∷ Idle ∷ Ran ∷ LetGo 1 ∷
    Ran ∷ Armed ∷ Ran ∷ Missed (line_addr 1025) Write ∷ Idle ∷ ordered_with [] ((2, 1) ∷ []) ∷
    Missed (line_addr 1024) Read ∷ Idle ∷ served_with [] [] ∷ Idle ∷ ordered_with [] [] ∷ Ran ∷ Idle ∷ Ran ∷ Ran ∷
    Armed ∷ served_with [] [] ∷ Ran ∷ Missed (line_addr 1025) Read ∷ Idle ∷ Idle ∷ Stalled ∷ Idle ∷
    ordered_with [] [] ∷ Idle ∷ LetGo 1 ∷ Idle ∷ served_with [] [] ∷ Idle ∷ Idle ∷ Ran ∷ Idle ∷
    Missed (line_addr 1025) Write ∷ Ran ∷ ordered_with [] [] ∷ Idle ∷ Armed ∷ Idle ∷ Idle ∷ Stalled ∷ Idle ∷ Idle ∷
    served_with [] [] ∷ Ran ∷ Ran ∷ Idle ∷ Ran ∷ Armed ∷ Ran ∷ LetGo 1 ∷ Idle ∷ Idle ∷ Idle ∷ Buffered ∷ Began ∷
    RolledBack Long ∷ Ran ∷ Ran ∷ Missed (line_addr 1025) Write ∷ Missed (line_addr 1025) Read ∷ Ran ∷
    ordered_with [] [] ∷ Stalled ∷ served_with [] [] ∷ Ran ∷ Idle ∷ Ran ∷ Idle ∷ Armed ∷ ordered_with [] [] ∷ Stalled ∷
    Idle ∷ LetGo 1 ∷ served_with [] [] ∷ Ran ∷ Ran ∷ Idle ∷ Missed (line_addr 1025) Write ∷ Armed ∷ LetGo 1 ∷ Ran ∷
    ordered_with [] [] ∷ served_with [] [] ∷ Ran ∷ Missed (line_addr 1025) Read ∷ ordered_with [] [] ∷
    Missed (line_addr 1025) Write ∷ Stalled ∷ Stalled ∷ Idle ∷ Idle ∷ Ran ∷ served_with [] [] ∷ Idle ∷
    ordered_with [] [] ∷ Ran ∷ Idle ∷ Idle ∷ Idle ∷ Ran ∷ Idle ∷ served_with [] [] ∷ Ran ∷ Ran ∷ Ran ∷
    Missed (line_addr 1025) Write ∷ Idle ∷ Idle ∷ ordered_with [] [] ∷ Idle ∷ Ran ∷ Idle ∷ served_with [] [] ∷ Idle ∷
    Ran ∷ Idle ∷ Idle ∷ Idle ∷ Ran ∷ Missed (line_addr 1025) Read ∷ Idle ∷ Idle ∷ Ran ∷ ordered_with [] [] ∷
    served_with [] [] ∷ Idle ∷ Idle ∷ Ran ∷ Ran ∷ Idle ∷ Idle ∷ Idle ∷ Idle ∷ Idle ∷ Ran ∷ Armed ∷ Idle ∷ LetGo 1 ∷
    Idle ∷ Missed (line_addr 1025) Write ∷ Armed ∷ Armed ∷ Idle ∷ ordered_with [] ((0, 1) ∷ (2, 1) ∷ []) ∷ Ran ∷
    served_with [] [] ∷ Ran ∷ Idle ∷ Missed (line_addr 1025) Read ∷ Ran ∷ Ran ∷ Stalled ∷ Ran ∷ Ran ∷ Idle ∷ Idle ∷
    Armed ∷ Idle ∷ Idle ∷ Idle ∷ Ran ∷ LetGo 1 ∷ Armed ∷ Idle ∷ Idle ∷ ordered_with [] [] ∷ Idle ∷ LetGo 1 ∷
    served_with [] [] ∷ Idle ∷ Ran ∷ Idle ∷ Missed (line_addr 1025) Write ∷ Idle ∷ Idle ∷ ordered_with [] [] ∷ Ran ∷
    Missed (line_addr 1025) Write ∷ ordered_with [] [] ∷ Idle ∷ Stalled ∷ Ran ∷ []

outcomes : outcomes_from first events ≡ expected
unfolding computing
outcomes = refl

abbrev last : Ending
last = record {
  harts =
      record {
        section = None;
        armed = None;
        last_lr = (Some 131104);
        cache = (way 1024 S false false ∷ []) ∷ ([]) ∷ ([]) ∷ ([]) ∷ [];
        raised = None;
        held_line = None;
        mail = [];
        told = [];
        upstream = [];
        fallback = false;
        tries = 1;
        clock = 0;
        seen = 0;
        attempt = None;
        predictor = record { counters = (patched (replicate 64 2) ([])); watch = None };
      } ∷ record {
        section = None;
        armed = None;
        last_lr = (Some 131116);
        cache = (way 1024 S false false ∷ []) ∷ (way 1025 O false false ∷ []) ∷ ([]) ∷ ([]) ∷ [];
        raised = None;
        held_line = None;
        mail = [];
        told = [];
        upstream = [];
        fallback = false;
        tries = 0;
        clock = 0;
        seen = 0;
        attempt = None;
        predictor = record { counters = (patched (replicate 64 2) ([])); watch = None };
      } ∷ record {
        section = None;
        armed = None;
        last_lr = (Some 131116);
        cache = (way 1024 S false false ∷ []) ∷ (way 1025 S false false ∷ []) ∷ ([]) ∷ ([]) ∷ [];
        raised = None;
        held_line = None;
        mail = [];
        told = [];
        upstream = [];
        fallback = false;
        tries = 0;
        clock = 0;
        seen = 0;
        attempt = None;
        predictor = record { counters = (patched (replicate 64 2) ([])); watch = None };
      } ∷ [];
  order = (request 0 1025 Write None) ∷ (request 2 1025 Write None) ∷ [];
  pcs = 131108 ∷ 131128 ∷ 131132 ∷ [];
  registers =
      (0 ∷ 0 ∷ 65728 ∷ 0 ∷ 0 ∷ 65536 ∷ 1 ∷ 65600 ∷ 0 ∷ 2 ∷ 0 ∷ 1 ∷ 0 ∷ 0 ∷ 0 ∷ 0 ∷ 0 ∷ 0 ∷ 0 ∷ 0 ∷ 0 ∷
      0 ∷ 0 ∷ 0 ∷ 0 ∷ 0 ∷ 0 ∷ 0 ∷ 0 ∷ 0 ∷ 0 ∷ 0 ∷ []) ∷
      (0 ∷ 0 ∷ 192 ∷ 0 ∷ 0 ∷ 65536 ∷ 1 ∷ 65600 ∷ 0 ∷ 2 ∷ 1 ∷ 1 ∷ 0 ∷ 0 ∷ 0 ∷ 0 ∷ 0 ∷ 0 ∷ 0 ∷ 0 ∷ 0 ∷
      0 ∷ 0 ∷ 0 ∷ 0 ∷ 0 ∷ 0 ∷ 0 ∷ 0 ∷ 0 ∷ 0 ∷ 0 ∷ []) ∷
      (0 ∷ 0 ∷ 4294901952 ∷ 0 ∷ 0 ∷ 65536 ∷ 1 ∷ 65600 ∷ 0 ∷ 2 ∷ 2 ∷ 1 ∷ 0 ∷ 0 ∷ 0 ∷ 0 ∷ 0 ∷ 0 ∷ 0 ∷
      0 ∷ 0 ∷ 0 ∷ 0 ∷ 0 ∷ 0 ∷ 0 ∷ 0 ∷ 0 ∷ 0 ∷ 0 ∷ 0 ∷ 0 ∷ []) ∷
      [];
  bytes = patched (replicate 192 0) ([]);
}

ending : ending_of (state_after first events) ≡ last
unfolding computing
ending = refl
