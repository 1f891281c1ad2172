-- 2 harts in lock elision, 300 random events over LR and SC: 8 of Armed, 4 of LetGo, 3 of Committed
use Rattle.std.proofs.Common.{◌≡◌, ℕ, true, false, List, [], ◌∷◌, Some, None, replicate, refl}
use Rattle.el_base.specs.HartId.{hart_id}
use Rattle.el_base.specs.LineAddr.{line_addr}
use Rattle.el_base.specs.declared.config.Config.{Config}
use Rattle.el_base.specs.declared.config.Mode.TheVariants.{Plain, Sle, Tlr}
use Rattle.el_base.specs.declared.events.Event.{Event}
use Rattle.el_base.specs.declared.events.Kind.TheVariants.{Step, Order, Serve, Deliver}
use Rattle.el_base.specs.declared.outcomes.Cause.TheVariants.{Room, Lines, Long, Call, Mixed}
use Rattle.el_base.specs.declared.outcomes.Need.TheVariants.{Read, Write}
use Rattle.el_base.specs.declared.outcomes.Outcome.{Outcome}
use Rattle.el_base.specs.declared.outcomes.Outcome.TheVariants.{Idle, Stalled, Missed, Ran, Began, Buffered, Committed}
use Rattle.el_base.specs.declared.outcomes.Outcome.TheVariants.{RolledBack, Blocked}
use Rattle.el_base.specs.declared.outcomes.Outcome.TheVariants.{Delivered, Armed, LetGo}
use Rattle.el_base.specs.declared.outcomes.Why.TheVariants.{Behind, Retained, Locked}
use Rattle.computed_runs.proofs.Computing.{computing}
use Rattle.computed_runs.proofs.Given.{Ending, armed, ending_of, event, first_state, lost, ordered_with, patched}
use Rattle.computed_runs.proofs.Given.{request, section, served_with}
use Rattle.computed_runs.proofs.Given.{stamp, watch, way}
use Rattle.el_model.specs.Next.{outcomes_from, state_after}
use Rattle.el_model.specs.State.{Hart, ModelState}
use Rattle.mail.specs.Mailbox.{Marker, Probe}
use Rattle.moesi.specs.declared.letter.Letter.TheVariants.{M, O, E, S}

abbrev config : Config
config = record {
  harts = 2;
  mode = Sle;
  sets = 1;
  ways = 2;
  lines = 2;
  long = 11;
  steps = 300;
}

abbrev words : List ℕ
words =
    66231 ∷ 1049363 ∷ 2098323 ∷ 67273619 ∷ 268674095 ∷ 267363 ∷ 409183663 ∷ 365667 ∷ 75671043 ∷ 174239267 ∷ 67282435 ∷
    237603 ∷ 67273619 ∷ 9765987 ∷ 268674095 ∷ 67281955 ∷ 67273619 ∷ 140747823 ∷ 143894191 ∷ 237603 ∷ 67273619 ∷
    6620259 ∷ 268674095 ∷ 1443347 ∷ 1443347 ∷ 1443347 ∷ 1443347 ∷ 1443347 ∷ 1443347 ∷ 1443347 ∷ 1443347 ∷ 1443347 ∷
    1443347 ∷ 1443347 ∷ 1443347 ∷ 1443347 ∷ 1443347 ∷ 1443347 ∷ 365667 ∷ 4146065519 ∷ []

abbrev first : ModelState
first = first_state config 65536 256 131072 words

abbrev events : List Event
events =
    event Step 0 ∷ event Deliver 1 ∷ event Order 0 ∷ event Step 1 ∷ event Serve 1 ∷ event Serve 1 ∷ event Step 0 ∷
    event Serve 0 ∷ event Order 1 ∷ event Step 0 ∷ event Step 0 ∷ event Order 0 ∷ event Step 1 ∷ event Deliver 1 ∷
    event Deliver 0 ∷ event Step 0 ∷ event Order 0 ∷ event Serve 0 ∷ event Deliver 0 ∷ event Order 1 ∷
    event Deliver 1 ∷ event Step 1 ∷ event Order 0 ∷ event Step 1 ∷ event Step 1 ∷ event Step 1 ∷ event Order 1 ∷
    event Serve 1 ∷ event Serve 1 ∷ event Step 0 ∷ event Serve 1 ∷ event Step 0 ∷ event Step 1 ∷ event Serve 0 ∷
    event Step 0 ∷ event Step 0 ∷ event Step 0 ∷ event Step 1 ∷ event Step 1 ∷ event Step 1 ∷ event Step 1 ∷
    event Step 1 ∷ event Deliver 0 ∷ event Step 0 ∷ event Order 0 ∷ event Order 1 ∷ event Step 1 ∷ event Order 0 ∷
    event Serve 1 ∷ event Deliver 0 ∷ event Order 0 ∷ event Step 0 ∷ event Step 1 ∷ event Serve 1 ∷ event Step 0 ∷
    event Order 1 ∷ event Serve 1 ∷ event Order 0 ∷ event Serve 1 ∷ event Serve 1 ∷ event Deliver 1 ∷ event Serve 1 ∷
    event Step 1 ∷ event Order 0 ∷ event Step 1 ∷ event Order 0 ∷ event Deliver 1 ∷ event Serve 0 ∷ event Serve 1 ∷
    event Step 0 ∷ event Order 1 ∷ event Deliver 1 ∷ event Order 1 ∷ event Step 1 ∷ event Order 0 ∷ event Step 1 ∷
    event Order 0 ∷ event Deliver 0 ∷ event Step 0 ∷ event Step 0 ∷ event Deliver 0 ∷ event Step 1 ∷ event Step 1 ∷
    event Step 1 ∷ event Step 0 ∷ event Serve 1 ∷ event Step 1 ∷ event Step 0 ∷ event Step 1 ∷ event Deliver 1 ∷
    event Step 1 ∷ event Serve 0 ∷ event Order 1 ∷ event Deliver 1 ∷ event Serve 0 ∷ event Step 0 ∷ event Step 0 ∷
    event Step 0 ∷ event Serve 1 ∷ event Order 0 ∷ event Serve 0 ∷ event Serve 0 ∷ event Step 1 ∷ event Order 1 ∷
    event Deliver 0 ∷ event Serve 1 ∷ event Deliver 1 ∷ event Step 1 ∷ event Step 1 ∷ event Serve 0 ∷ event Order 1 ∷
    event Serve 1 ∷ event Serve 1 ∷ event Serve 1 ∷ event Serve 1 ∷ event Serve 1 ∷ event Serve 1 ∷ event Step 0 ∷
    event Step 0 ∷ event Serve 1 ∷ event Serve 1 ∷ event Deliver 1 ∷ event Deliver 1 ∷ event Step 1 ∷ event Step 1 ∷
    event Step 0 ∷ event Serve 1 ∷ event Serve 0 ∷ event Step 1 ∷ event Order 1 ∷ event Order 0 ∷ event Serve 0 ∷
    event Step 0 ∷ event Step 0 ∷ event Serve 0 ∷ event Serve 0 ∷ event Deliver 0 ∷ event Serve 1 ∷ event Step 0 ∷
    event Step 1 ∷ event Order 0 ∷ event Serve 0 ∷ event Deliver 1 ∷ event Deliver 1 ∷ event Serve 1 ∷ event Step 1 ∷
    event Order 1 ∷ event Step 0 ∷ event Serve 1 ∷ event Step 0 ∷ event Step 0 ∷ event Serve 0 ∷ event Order 1 ∷
    event Deliver 0 ∷ event Step 1 ∷ event Step 0 ∷ event Order 1 ∷ event Step 1 ∷ event Serve 0 ∷ event Serve 1 ∷
    event Step 0 ∷ event Order 0 ∷ event Step 0 ∷ event Step 1 ∷ event Step 1 ∷ event Serve 1 ∷ event Order 0 ∷
    event Serve 1 ∷ event Order 0 ∷ event Step 1 ∷ event Serve 0 ∷ event Step 1 ∷ event Deliver 1 ∷ event Step 1 ∷
    event Order 0 ∷ event Step 1 ∷ event Step 0 ∷ event Step 1 ∷ event Order 1 ∷ event Step 0 ∷ event Step 0 ∷
    event Step 0 ∷ event Step 0 ∷ event Step 0 ∷ event Order 0 ∷ event Step 1 ∷ event Step 0 ∷ event Step 1 ∷
    event Order 1 ∷ event Serve 1 ∷ event Step 1 ∷ event Order 0 ∷ event Order 1 ∷ event Order 1 ∷ event Step 1 ∷
    event Step 1 ∷ event Deliver 0 ∷ event Serve 0 ∷ event Step 0 ∷ event Serve 0 ∷ event Step 0 ∷ event Step 0 ∷
    event Step 0 ∷ event Serve 0 ∷ event Serve 0 ∷ event Step 0 ∷ event Order 1 ∷ event Step 1 ∷ event Step 0 ∷
    event Step 1 ∷ event Step 0 ∷ event Serve 0 ∷ event Step 1 ∷ event Step 1 ∷ event Order 1 ∷ event Order 1 ∷
    event Deliver 0 ∷ event Step 0 ∷ event Step 1 ∷ event Step 1 ∷ event Step 0 ∷ event Order 0 ∷ event Step 0 ∷
    event Deliver 1 ∷ event Step 0 ∷ event Deliver 1 ∷ event Step 0 ∷ event Order 1 ∷ event Step 1 ∷ event Step 0 ∷
    event Step 1 ∷ event Deliver 1 ∷ event Step 1 ∷ event Order 1 ∷ event Serve 1 ∷ event Order 1 ∷ event Step 1 ∷
    event Step 1 ∷ event Deliver 1 ∷ event Step 0 ∷ event Order 0 ∷ event Step 1 ∷ event Step 0 ∷ event Step 1 ∷
    event Step 1 ∷ event Step 1 ∷ event Deliver 1 ∷ event Step 0 ∷ event Order 1 ∷ event Deliver 1 ∷ event Step 0 ∷
    event Step 1 ∷ event Deliver 1 ∷ event Step 0 ∷ event Serve 0 ∷ event Step 0 ∷ event Step 0 ∷ event Order 0 ∷
    event Serve 1 ∷ event Step 0 ∷ event Step 0 ∷ event Serve 1 ∷ event Serve 1 ∷ event Step 0 ∷ event Step 0 ∷
    event Step 0 ∷ event Serve 1 ∷ event Order 0 ∷ event Step 1 ∷ event Order 1 ∷ event Step 1 ∷ event Deliver 1 ∷
    event Step 0 ∷ event Step 1 ∷ event Step 0 ∷ event Serve 0 ∷ event Step 1 ∷ event Step 1 ∷ event Deliver 1 ∷
    event Step 0 ∷ event Order 0 ∷ event Deliver 1 ∷ event Serve 1 ∷ event Step 0 ∷ event Step 0 ∷ event Serve 1 ∷
    event Step 1 ∷ event Step 1 ∷ event Order 1 ∷ event Order 1 ∷ event Deliver 1 ∷ event Deliver 1 ∷ event Step 1 ∷
    event Serve 1 ∷ event Step 0 ∷ event Order 1 ∷ event Order 1 ∷ event Deliver 1 ∷ event Step 0 ∷ event Serve 1 ∷ []

abbrev expected : List Outcome
expected =
    Ran ∷ Idle ∷ Idle ∷ Ran ∷ Idle ∷ Idle ∷ Ran ∷ Idle ∷ Idle ∷ Ran ∷ Ran ∷ Idle ∷ Ran ∷ Idle ∷ Idle ∷
    Missed (line_addr 1025) Read ∷ ordered_with [] [] ∷ served_with [] [] ∷ Idle ∷ Idle ∷ Idle ∷ Ran ∷ Idle ∷ Ran ∷
    Missed (line_addr 1025) Read ∷ Stalled ∷ ordered_with [] [] ∷ Blocked Locked (hart_id 0) ∷
    Blocked Locked (hart_id 0) ∷ Armed ∷ served_with [] [] ∷ Buffered ∷ Armed ∷ Idle ∷ Began ∷ Buffered ∷ Buffered ∷
    Buffered ∷ Began ∷ Buffered ∷ Buffered ∷ Missed (line_addr 1026) Write ∷ Idle ∷ Missed (line_addr 1026) Write ∷
    ordered_with [] [] ∷ ordered_with [] [] ∷ Stalled ∷ Idle ∷ Blocked Behind (hart_id 0) ∷ Idle ∷ Idle ∷ Stalled ∷
    Stalled ∷ Blocked Behind (hart_id 0) ∷ Stalled ∷ Idle ∷ Blocked Behind (hart_id 0) ∷ Idle ∷
    Blocked Behind (hart_id 0) ∷ Blocked Behind (hart_id 0) ∷ Idle ∷ Blocked Behind (hart_id 0) ∷ Stalled ∷ Idle ∷
    Stalled ∷ Idle ∷ Idle ∷ served_with ((0, 1) ∷ []) [] ∷ served_with [] [] ∷ Armed ∷ Idle ∷ Idle ∷ Idle ∷ Buffered ∷
    Idle ∷ Buffered ∷ Idle ∷ Idle ∷ Buffered ∷ Began ∷ Idle ∷ Committed 8 ∷ Ran ∷ Ran ∷ Buffered ∷ Idle ∷ Armed ∷
    Buffered ∷ LetGo 1 ∷ Idle ∷ Missed (line_addr 1025) Write ∷ Idle ∷ ordered_with ((0, 1) ∷ []) [] ∷ Idle ∷ Idle ∷
    Ran ∷ Ran ∷ Missed (line_addr 1025) Write ∷ served_with [] [] ∷ ordered_with [] [] ∷ Blocked Locked (hart_id 1) ∷
    Blocked Locked (hart_id 1) ∷ Ran ∷ Idle ∷ Idle ∷ Idle ∷ Idle ∷ Ran ∷ Missed (line_addr 1025) Read ∷
    served_with [] [] ∷ ordered_with [] [] ∷ Blocked Locked (hart_id 0) ∷ Blocked Locked (hart_id 0) ∷
    Blocked Locked (hart_id 0) ∷ Blocked Locked (hart_id 0) ∷ Blocked Locked (hart_id 0) ∷ Blocked Locked (hart_id 0) ∷
    Ran ∷ Ran ∷ served_with [] [] ∷ Idle ∷ Idle ∷ Idle ∷ Began ∷ RolledBack Mixed ∷ Missed (line_addr 1026) Write ∷
    Idle ∷ Idle ∷ Missed (line_addr 1025) Write ∷ ordered_with [] [] ∷ ordered_with [] [] ∷ served_with [] [] ∷ Ran ∷
    Ran ∷ Idle ∷ Idle ∷ Idle ∷ served_with [] [] ∷ Missed (line_addr 1025) Write ∷ Ran ∷ ordered_with [] [] ∷
    served_with [] [] ∷ Idle ∷ Idle ∷ Idle ∷ Missed (line_addr 1025) Read ∷ ordered_with [] [] ∷ Ran ∷
    served_with [] [] ∷ Ran ∷ Ran ∷ Idle ∷ Idle ∷ Idle ∷ Began ∷ Armed ∷ Idle ∷ Committed 2 ∷ Idle ∷ Idle ∷ LetGo 1 ∷
    Idle ∷ Missed (line_addr 1025) Write ∷ Ran ∷ Ran ∷ Idle ∷ ordered_with [] [] ∷ Idle ∷ Idle ∷ Ran ∷
    served_with [] [] ∷ Ran ∷ Idle ∷ Ran ∷ Idle ∷ Ran ∷ Ran ∷ Ran ∷ Idle ∷ Ran ∷ Began ∷ RolledBack Mixed ∷ Ran ∷
    Began ∷ Idle ∷ Ran ∷ RolledBack Mixed ∷ Ran ∷ Idle ∷ Idle ∷ Ran ∷ Idle ∷ Idle ∷ Idle ∷ Ran ∷ Ran ∷ Idle ∷ Idle ∷
    Ran ∷ Idle ∷ Ran ∷ Ran ∷ Ran ∷ Idle ∷ Idle ∷ Armed ∷ Idle ∷ Ran ∷ Buffered ∷ Ran ∷ Buffered ∷ Idle ∷ Ran ∷ Ran ∷
    Idle ∷ Idle ∷ Idle ∷ Buffered ∷ Ran ∷ Ran ∷ Buffered ∷ Idle ∷ Buffered ∷ Idle ∷ Buffered ∷ Idle ∷ Buffered ∷ Idle ∷
    Ran ∷ Buffered ∷ Ran ∷ Idle ∷ Missed (line_addr 1025) Read ∷ ordered_with [] [] ∷ served_with [] [] ∷ Idle ∷
    Armed ∷ Buffered ∷ Idle ∷ Buffered ∷ Idle ∷ Began ∷ LetGo 10 ∷ Buffered ∷ Buffered ∷
    Missed (line_addr 1026) Write ∷ Idle ∷ Ran ∷ ordered_with [] [] ∷ Idle ∷ Ran ∷ Stalled ∷ Idle ∷ Ran ∷ Idle ∷ Ran ∷
    Ran ∷ Idle ∷ served_with [] [] ∷ Ran ∷ Ran ∷ Idle ∷ Idle ∷ Ran ∷ Idle ∷ Idle ∷ Idle ∷ Idle ∷ Buffered ∷ Idle ∷
    Buffered ∷ Idle ∷ Idle ∷ Committed 8 ∷ Idle ∷ Idle ∷ Ran ∷ Ran ∷ Idle ∷ Idle ∷ Idle ∷ Idle ∷ Idle ∷ Idle ∷ Idle ∷
    Idle ∷ Armed ∷ LetGo 1 ∷ Idle ∷ Idle ∷ Idle ∷ Idle ∷ Missed (line_addr 1025) Write ∷ Idle ∷ Idle ∷
    ordered_with [] [] ∷ Idle ∷ Idle ∷ Idle ∷ served_with [] [] ∷ []

outcomes : outcomes_from first events ≡ expected
unfolding computing
outcomes = refl

abbrev last : Ending
last = record {
  harts =
      record {
        section = None;
        armed = None;
        last_lr = (Some 131160);
        cache = ([]) ∷ [];
        raised = None;
        held_line = None;
        mail = [];
        told = [];
        upstream = [];
        fallback = false;
        tries = 0;
        clock = 0;
        seen = 0;
        attempt = None;
        predictor = record { counters = (patched (replicate 64 2) ((17, 1) ∷ (18, 0) ∷ [])); watch = None };
      } ∷ record {
        section = None;
        armed = None;
        last_lr = (Some 131128);
        cache = (way 1025 M false false ∷ way 1026 M false false ∷ []) ∷ [];
        raised = None;
        held_line = (Some 1025);
        mail = [];
        told = [];
        upstream = [];
        fallback = false;
        tries = 0;
        clock = 0;
        seen = 0;
        attempt = None;
        predictor = record { counters = (patched (replicate 64 2) ((4, 3) ∷ (17, 1) ∷ (18, 3) ∷ [])); watch = None };
      } ∷ [];
  order = [];
  pcs = 131232 ∷ 131132 ∷ [];
  registers =
      (0 ∷ 0 ∷ 65792 ∷ 0 ∷ 0 ∷ 65536 ∷ 1 ∷ 65600 ∷ 0 ∷ 2 ∷ 0 ∷ 1 ∷ 15 ∷ 1 ∷ 0 ∷ 0 ∷ 0 ∷ 0 ∷ 0 ∷ 0 ∷
      0 ∷ 0 ∷ 0 ∷ 0 ∷ 0 ∷ 0 ∷ 0 ∷ 0 ∷ 0 ∷ 0 ∷ 0 ∷ 0 ∷ []) ∷
      (0 ∷ 0 ∷ 256 ∷ 0 ∷ 0 ∷ 65536 ∷ 1 ∷ 65600 ∷ 0 ∷ 2 ∷ 1 ∷ 0 ∷ 1 ∷ 0 ∷ 0 ∷ 0 ∷ 0 ∷ 0 ∷ 0 ∷ 0 ∷ 0 ∷
      0 ∷ 0 ∷ 0 ∷ 0 ∷ 0 ∷ 0 ∷ 0 ∷ 0 ∷ 0 ∷ 0 ∷ 0 ∷ []) ∷
      [];
  bytes = patched (replicate 256 0) ((188, 1) ∷ []);
}

ending : ending_of (state_after first events) ≡ last
unfolding computing
ending = refl
