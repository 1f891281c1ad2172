-- 3 harts in lock elision, 300 random events over LR and SC: 10 of Armed, 2 of LetGo, 5 of Ordered that let harts go
use Rattle.std.proofs.Common.{◌≡◌, ℕ, true, false, List, [], ◌∷◌, Some, None, replicate, refl}
use Rattle.el_base.specs.HartId.{hart_id}
use Rattle.el_base.specs.LineAddr.{line_addr}
use Rattle.el_base.specs.declared.config.Config.{Config}
use Rattle.el_base.specs.declared.config.Mode.TheVariants.{Plain, Sle, Tlr}
use Rattle.el_base.specs.declared.events.Event.{Event}
use Rattle.el_base.specs.declared.events.Kind.TheVariants.{Step, Order, Serve, Deliver}
use Rattle.el_base.specs.declared.outcomes.Cause.TheVariants.{Room, Lines, Long, Call, Mixed}
use Rattle.el_base.specs.declared.outcomes.Need.TheVariants.{Read, Write}
use Rattle.el_base.specs.declared.outcomes.Outcome.{Outcome}
use Rattle.el_base.specs.declared.outcomes.Outcome.TheVariants.{Idle, Stalled, Missed, Ran, Began, Buffered, Committed}
use Rattle.el_base.specs.declared.outcomes.Outcome.TheVariants.{RolledBack, Blocked}
use Rattle.el_base.specs.declared.outcomes.Outcome.TheVariants.{Delivered, Armed, LetGo}
use Rattle.el_base.specs.declared.outcomes.Why.TheVariants.{Behind, Retained, Locked}
use Rattle.computed_runs.proofs.Computing.{computing}
use Rattle.computed_runs.proofs.Given.{Ending, armed, ending_of, event, first_state, lost, ordered_with, patched}
use Rattle.computed_runs.proofs.Given.{request, section, served_with}
use Rattle.computed_runs.proofs.Given.{stamp, watch, way}
use Rattle.el_model.specs.Next.{outcomes_from, state_after}
use Rattle.el_model.specs.State.{Hart, ModelState}
use Rattle.mail.specs.Mailbox.{Marker, Probe}
use Rattle.moesi.specs.declared.letter.Letter.TheVariants.{M, O, E, S}

abbrev config : Config
config = record {
  harts = 3;
  mode = Sle;
  sets = 2;
  ways = 3;
  lines = 1;
  long = 14;
  steps = 300;
}

abbrev words : List ℕ
words =
    66231 ∷ 1049363 ∷ 2098323 ∷ 67273619 ∷ 268674095 ∷ 267363 ∷ 365667 ∷ 267386895 ∷ 67281443 ∷ 73573411 ∷ 8562179 ∷
    237603 ∷ 67273619 ∷ 268674095 ∷ 267363 ∷ 409183663 ∷ 4242534511 ∷ []

abbrev first : ModelState
first = first_state config 65536 256 131072 words

abbrev events : List Event
events =
    event Step 0 ∷ event Step 2 ∷ event Serve 1 ∷ event Step 1 ∷ event Step 2 ∷ event Serve 2 ∷ event Step 2 ∷
    event Deliver 2 ∷ event Step 1 ∷ event Deliver 0 ∷ event Order 0 ∷ event Step 0 ∷ event Order 0 ∷ event Deliver 2 ∷
    event Serve 1 ∷ event Order 0 ∷ event Order 0 ∷ event Step 2 ∷ event Step 1 ∷ event Order 1 ∷ event Order 1 ∷
    event Step 0 ∷ event Step 2 ∷ event Order 1 ∷ event Step 0 ∷ event Step 0 ∷ event Order 1 ∷ event Deliver 2 ∷
    event Order 2 ∷ event Step 2 ∷ event Order 0 ∷ event Serve 2 ∷ event Order 0 ∷ event Deliver 2 ∷ event Step 0 ∷
    event Serve 1 ∷ event Step 1 ∷ event Order 1 ∷ event Serve 2 ∷ event Step 1 ∷ event Order 1 ∷ event Serve 1 ∷
    event Step 2 ∷ event Step 2 ∷ event Order 2 ∷ event Deliver 0 ∷ event Deliver 1 ∷ event Order 0 ∷ event Serve 1 ∷
    event Step 1 ∷ event Serve 1 ∷ event Serve 1 ∷ event Step 2 ∷ event Serve 0 ∷ event Step 2 ∷ event Step 0 ∷
    event Step 0 ∷ event Deliver 0 ∷ event Serve 2 ∷ event Step 0 ∷ event Order 1 ∷ event Serve 1 ∷ event Serve 1 ∷
    event Step 1 ∷ event Order 2 ∷ event Deliver 1 ∷ event Step 1 ∷ event Deliver 2 ∷ event Order 1 ∷ event Step 2 ∷
    event Order 2 ∷ event Step 1 ∷ event Order 1 ∷ event Order 1 ∷ event Step 1 ∷ event Deliver 1 ∷ event Step 0 ∷
    event Order 2 ∷ event Step 1 ∷ event Serve 1 ∷ event Order 0 ∷ event Order 1 ∷ event Serve 1 ∷ event Serve 1 ∷
    event Deliver 0 ∷ event Deliver 0 ∷ event Deliver 1 ∷ event Deliver 1 ∷ event Order 0 ∷ event Serve 0 ∷
    event Serve 0 ∷ event Deliver 1 ∷ event Serve 0 ∷ event Serve 1 ∷ event Step 1 ∷ event Serve 1 ∷ event Serve 1 ∷
    event Serve 2 ∷ event Step 2 ∷ event Step 2 ∷ event Order 0 ∷ event Deliver 0 ∷ event Deliver 2 ∷ event Serve 1 ∷
    event Order 1 ∷ event Order 2 ∷ event Step 2 ∷ event Serve 1 ∷ event Serve 0 ∷ event Order 0 ∷ event Serve 2 ∷
    event Serve 1 ∷ event Serve 1 ∷ event Step 0 ∷ event Order 0 ∷ event Step 0 ∷ event Step 0 ∷ event Serve 1 ∷
    event Step 1 ∷ event Order 0 ∷ event Serve 0 ∷ event Step 0 ∷ event Step 0 ∷ event Order 2 ∷ event Step 1 ∷
    event Order 0 ∷ event Serve 0 ∷ event Step 2 ∷ event Step 0 ∷ event Order 1 ∷ event Serve 0 ∷ event Serve 2 ∷
    event Step 0 ∷ event Serve 2 ∷ event Step 0 ∷ event Deliver 1 ∷ event Order 2 ∷ event Step 2 ∷ event Order 1 ∷
    event Order 1 ∷ event Step 0 ∷ event Step 1 ∷ event Serve 0 ∷ event Serve 1 ∷ event Serve 2 ∷ event Order 1 ∷
    event Step 2 ∷ event Step 1 ∷ event Step 1 ∷ event Deliver 1 ∷ event Deliver 1 ∷ event Deliver 1 ∷ event Order 2 ∷
    event Deliver 1 ∷ event Step 0 ∷ event Serve 2 ∷ event Step 2 ∷ event Step 2 ∷ event Serve 1 ∷ event Deliver 2 ∷
    event Step 1 ∷ event Step 1 ∷ event Step 2 ∷ event Order 1 ∷ event Step 2 ∷ event Step 2 ∷ event Step 2 ∷
    event Order 2 ∷ event Deliver 0 ∷ event Deliver 1 ∷ event Serve 0 ∷ event Step 2 ∷ event Order 0 ∷ event Serve 1 ∷
    event Order 2 ∷ event Step 1 ∷ event Step 0 ∷ event Step 2 ∷ event Serve 0 ∷ event Step 0 ∷ event Order 0 ∷
    event Step 0 ∷ event Step 2 ∷ event Deliver 2 ∷ event Step 0 ∷ event Order 0 ∷ event Order 0 ∷ event Order 2 ∷
    event Serve 2 ∷ event Serve 2 ∷ event Order 1 ∷ event Serve 2 ∷ event Order 1 ∷ event Step 1 ∷ event Deliver 0 ∷
    event Serve 2 ∷ event Deliver 1 ∷ event Serve 0 ∷ event Step 0 ∷ event Deliver 0 ∷ event Step 0 ∷ event Serve 2 ∷
    event Serve 0 ∷ event Step 0 ∷ event Step 2 ∷ event Step 1 ∷ event Deliver 1 ∷ event Step 0 ∷ event Step 0 ∷
    event Step 0 ∷ event Order 0 ∷ event Serve 0 ∷ event Deliver 0 ∷ event Step 2 ∷ event Step 0 ∷ event Deliver 1 ∷
    event Step 2 ∷ event Step 0 ∷ event Serve 1 ∷ event Step 1 ∷ event Step 1 ∷ event Order 1 ∷ event Order 1 ∷
    event Order 1 ∷ event Step 2 ∷ event Order 0 ∷ event Deliver 1 ∷ event Step 0 ∷ event Step 1 ∷ event Step 2 ∷
    event Deliver 2 ∷ event Deliver 0 ∷ event Step 0 ∷ event Order 2 ∷ event Order 1 ∷ event Serve 0 ∷ event Serve 2 ∷
    event Step 0 ∷ event Step 2 ∷ event Step 0 ∷ event Step 1 ∷ event Step 1 ∷ event Step 1 ∷ event Serve 0 ∷
    event Order 2 ∷ event Step 2 ∷ event Order 2 ∷ event Serve 2 ∷ event Order 0 ∷ event Step 1 ∷ event Serve 0 ∷
    event Step 0 ∷ event Step 0 ∷ event Deliver 1 ∷ event Step 2 ∷ event Order 2 ∷ event Order 1 ∷ event Serve 1 ∷
    event Step 0 ∷ event Deliver 2 ∷ event Order 0 ∷ event Order 0 ∷ event Order 0 ∷ event Deliver 1 ∷ event Serve 0 ∷
    event Step 1 ∷ event Deliver 0 ∷ event Serve 1 ∷ event Step 2 ∷ event Order 1 ∷ event Deliver 2 ∷ event Step 1 ∷
    event Step 1 ∷ event Order 2 ∷ event Serve 2 ∷ event Step 1 ∷ event Serve 2 ∷ event Serve 1 ∷ event Deliver 0 ∷
    event Serve 0 ∷ event Serve 1 ∷ event Step 0 ∷ event Step 2 ∷ event Order 1 ∷ event Serve 1 ∷ event Order 0 ∷
    event Step 0 ∷ event Serve 0 ∷ event Serve 0 ∷ event Order 2 ∷ event Step 2 ∷ event Step 2 ∷ event Step 1 ∷
    event Order 2 ∷ event Step 1 ∷ event Step 2 ∷ event Step 0 ∷ event Serve 1 ∷ event Deliver 1 ∷ event Serve 0 ∷ []

abbrev expected : List Outcome
expected =
    Ran ∷ Ran ∷ Idle ∷ Ran ∷ Ran ∷ Idle ∷ Ran ∷ Idle ∷ Ran ∷ Idle ∷ Idle ∷ Ran ∷ Idle ∷ Idle ∷ Idle ∷ Idle ∷ Idle ∷
    Ran ∷ Ran ∷ Idle ∷ Idle ∷ Ran ∷ Missed (line_addr 1025) Read ∷ Idle ∷ Ran ∷ Missed (line_addr 1025) Read ∷ Idle ∷
    Idle ∷ ordered_with [] [] ∷ Stalled ∷ ordered_with [] [] ∷ served_with [] [] ∷ Idle ∷ Idle ∷ Stalled ∷ Idle ∷ Ran ∷
    Idle ∷ Idle ∷ Missed (line_addr 1025) Read ∷ ordered_with [] [] ∷ Blocked Behind (hart_id 0) ∷ Armed ∷ Buffered ∷
    Idle ∷ Idle ∷ Idle ∷ Idle ∷ Blocked Behind (hart_id 0) ∷ Stalled ∷ Blocked Behind (hart_id 0) ∷
    Blocked Behind (hart_id 0) ∷ Buffered ∷ served_with [] [] ∷ LetGo 3 ∷ Armed ∷ Buffered ∷ Idle ∷ Idle ∷ Buffered ∷
    Idle ∷ served_with [] [] ∷ Idle ∷ Armed ∷ Idle ∷ Idle ∷ Buffered ∷ Idle ∷ Idle ∷ Missed (line_addr 1025) Write ∷
    ordered_with [] ((0, 3) ∷ (1, 2) ∷ []) ∷ Ran ∷ Idle ∷ Idle ∷ Missed (line_addr 1025) Write ∷ Idle ∷
    Missed (line_addr 1025) Write ∷ Idle ∷ Stalled ∷ Idle ∷ ordered_with [] [] ∷ ordered_with [] [] ∷
    Blocked Behind (hart_id 2) ∷ Blocked Behind (hart_id 2) ∷ Idle ∷ Idle ∷ Idle ∷ Idle ∷ Idle ∷
    Blocked Behind (hart_id 2) ∷ Blocked Behind (hart_id 2) ∷ Idle ∷ Blocked Behind (hart_id 2) ∷
    Blocked Behind (hart_id 2) ∷ Stalled ∷ Blocked Behind (hart_id 2) ∷ Blocked Behind (hart_id 2) ∷
    served_with [] [] ∷ Ran ∷ Ran ∷ Idle ∷ Idle ∷ Idle ∷ Blocked Behind (hart_id 0) ∷ Idle ∷ Idle ∷
    Missed (line_addr 1024) Read ∷ Blocked Behind (hart_id 0) ∷ served_with [] [] ∷ Idle ∷ Idle ∷
    Blocked Locked (hart_id 0) ∷ Blocked Locked (hart_id 0) ∷ Ran ∷ Idle ∷ Ran ∷ Missed (line_addr 1024) Read ∷
    served_with [] [] ∷ Ran ∷ ordered_with [] [] ∷ served_with [] [] ∷ Ran ∷ Missed (line_addr 1025) Write ∷
    ordered_with [] [] ∷ Ran ∷ ordered_with [] [] ∷ served_with [] [] ∷ Stalled ∷ Ran ∷ Idle ∷ Idle ∷
    served_with [] [] ∷ Ran ∷ Idle ∷ Armed ∷ Idle ∷ Idle ∷ Ran ∷ Idle ∷ Idle ∷ Buffered ∷
    Missed (line_addr 1024) Read ∷ Idle ∷ Idle ∷ Idle ∷ ordered_with [] [] ∷ Missed (line_addr 1025) Write ∷ Stalled ∷
    Stalled ∷ Idle ∷ Idle ∷ Idle ∷ ordered_with [] ((0, 2) ∷ []) ∷ Idle ∷ Ran ∷ served_with [] [] ∷ Ran ∷ Ran ∷
    served_with [] [] ∷ Idle ∷ Ran ∷ Missed (line_addr 1025) Write ∷ Armed ∷ ordered_with [] ((2, 1) ∷ []) ∷ Ran ∷
    Ran ∷ Ran ∷ Idle ∷ Idle ∷ Idle ∷ Idle ∷ Ran ∷ Idle ∷ served_with [] [] ∷ Idle ∷ Ran ∷ Ran ∷
    Missed (line_addr 1025) Read ∷ Idle ∷ Ran ∷ Idle ∷ Missed (line_addr 1025) Read ∷ Stalled ∷ Idle ∷ Stalled ∷
    ordered_with [] [] ∷ Idle ∷ ordered_with [] [] ∷ Blocked Behind (hart_id 0) ∷ Blocked Behind (hart_id 0) ∷ Idle ∷
    Blocked Behind (hart_id 0) ∷ Idle ∷ Ran ∷ Idle ∷ Blocked Behind (hart_id 0) ∷ Idle ∷ served_with [] [] ∷ Armed ∷
    Idle ∷ Buffered ∷ served_with [] [] ∷ Idle ∷ Buffered ∷ Armed ∷ Armed ∷ Idle ∷ Buffered ∷ LetGo 4 ∷
    Missed (line_addr 1025) Write ∷ ordered_with [] ((1, 1) ∷ (2, 1) ∷ []) ∷ served_with [] [] ∷ Idle ∷ Ran ∷ Ran ∷
    Idle ∷ Ran ∷ Ran ∷ Idle ∷ Ran ∷ Ran ∷ Idle ∷ Idle ∷ Idle ∷ Ran ∷ Idle ∷ Idle ∷ Ran ∷ Ran ∷
    Missed (line_addr 1025) Write ∷ Idle ∷ Idle ∷ Ran ∷ ordered_with [] [] ∷ Idle ∷ Idle ∷ served_with [] [] ∷ Ran ∷
    Ran ∷ Missed (line_addr 1025) Read ∷ Ran ∷ Missed (line_addr 1025) Read ∷ Stalled ∷ Idle ∷ Idle ∷ Ran ∷ Idle ∷
    Idle ∷ ordered_with [] [] ∷ Stalled ∷ served_with [] [] ∷ Armed ∷ Buffered ∷ Idle ∷ Ran ∷ Idle ∷
    ordered_with [] [] ∷ served_with [] [] ∷ Began ∷ Idle ∷ Idle ∷ Idle ∷ Idle ∷ Idle ∷ Idle ∷ Armed ∷ Idle ∷ Idle ∷
    Missed (line_addr 1025) Write ∷ Idle ∷ Idle ∷ Buffered ∷ Buffered ∷ ordered_with ((0, 2) ∷ []) ((1, 3) ∷ []) ∷
    served_with [] [] ∷ Missed (line_addr 1025) Write ∷ Idle ∷ Idle ∷ Idle ∷ Idle ∷ Idle ∷
    Missed (line_addr 1025) Read ∷ Ran ∷ ordered_with [] [] ∷ served_with [] [] ∷ ordered_with [] [] ∷ Stalled ∷
    Blocked Locked (hart_id 1) ∷ Blocked Locked (hart_id 1) ∷ Idle ∷ Ran ∷ Missed (line_addr 1025) Read ∷ Ran ∷
    ordered_with [] [] ∷ Ran ∷ Stalled ∷ Stalled ∷ Idle ∷ Idle ∷ served_with [] [] ∷ []

outcomes : outcomes_from first events ≡ expected
unfolding computing
outcomes = refl

abbrev last : Ending
last = record {
  harts =
      record {
        section = None;
        armed = None;
        last_lr = (Some 131088);
        cache = (way 1024 S false false ∷ []) ∷ (way 1025 S false false ∷ []) ∷ [];
        raised = None;
        held_line = (Some 1025);
        mail = [];
        told = [];
        upstream = [];
        fallback = false;
        tries = 1;
        clock = 0;
        seen = 0;
        attempt = None;
        predictor = record { counters = (patched (replicate 64 2) ((13, 3) ∷ [])); watch = None };
      } ∷ record {
        section = None;
        armed = None;
        last_lr = (Some 131088);
        cache = (way 1024 S false false ∷ []) ∷ (way 1025 O false false ∷ []) ∷ [];
        raised = None;
        held_line = None;
        mail = [];
        told = [];
        upstream = [];
        fallback = false;
        tries = 0;
        clock = 0;
        seen = 0;
        attempt = None;
        predictor = record { counters = (patched (replicate 64 2) ([])); watch = None };
      } ∷ record {
        section = None;
        armed = None;
        last_lr = (Some 131088);
        cache = (way 1024 S false false ∷ []) ∷ ([]) ∷ [];
        raised = None;
        held_line = None;
        mail = [];
        told = [];
        upstream = [];
        fallback = false;
        tries = 0;
        clock = 0;
        seen = 0;
        attempt = None;
        predictor = record { counters = (patched (replicate 64 2) ((13, 3) ∷ [])); watch = None };
      } ∷ [];
  order = (request 2 1025 Read None) ∷ [];
  pcs = 131124 ∷ 131112 ∷ 131124 ∷ [];
  registers =
      (0 ∷ 0 ∷ 65792 ∷ 0 ∷ 0 ∷ 65536 ∷ 1 ∷ 65600 ∷ 0 ∷ 2 ∷ 0 ∷ 0 ∷ 0 ∷ 0 ∷ 0 ∷ 0 ∷ 0 ∷ 0 ∷ 0 ∷ 0 ∷ 0 ∷
      0 ∷ 0 ∷ 0 ∷ 0 ∷ 0 ∷ 0 ∷ 0 ∷ 0 ∷ 0 ∷ 0 ∷ 0 ∷ []) ∷
      (0 ∷ 0 ∷ 256 ∷ 0 ∷ 0 ∷ 65536 ∷ 1 ∷ 65600 ∷ 0 ∷ 2 ∷ 1 ∷ 1 ∷ 0 ∷ 0 ∷ 0 ∷ 0 ∷ 0 ∷ 0 ∷ 0 ∷ 0 ∷ 0 ∷
      0 ∷ 0 ∷ 0 ∷ 0 ∷ 0 ∷ 0 ∷ 0 ∷ 0 ∷ 0 ∷ 0 ∷ 0 ∷ []) ∷
      (0 ∷ 0 ∷ 4294902016 ∷ 0 ∷ 0 ∷ 65536 ∷ 1 ∷ 65600 ∷ 0 ∷ 2 ∷ 2 ∷ 0 ∷ 0 ∷ 0 ∷ 0 ∷ 0 ∷ 0 ∷ 0 ∷ 0 ∷
      0 ∷ 0 ∷ 0 ∷ 0 ∷ 0 ∷ 0 ∷ 0 ∷ 0 ∷ 0 ∷ 0 ∷ 0 ∷ 0 ∷ 0 ∷ []) ∷
      [];
  bytes = patched (replicate 256 0) ((72, 1) ∷ []);
}

ending : ending_of (state_after first events) ≡ last
unfolding computing
ending = refl
