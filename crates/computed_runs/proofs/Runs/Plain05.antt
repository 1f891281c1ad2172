-- 2 harts in plain memory over caches, 230 random events: a serve blocked as Locked
use Rattle.std.proofs.Common.{◌≡◌, ℕ, true, false, List, [], ◌∷◌, Some, None, replicate, refl}
use Rattle.el_base.specs.HartId.{hart_id}
use Rattle.el_base.specs.LineAddr.{line_addr}
use Rattle.el_base.specs.declared.config.Config.{Config}
use Rattle.el_base.specs.declared.config.Mode.TheVariants.{Plain, Sle, Tlr}
use Rattle.el_base.specs.declared.events.Event.{Event}
use Rattle.el_base.specs.declared.events.Kind.TheVariants.{Step, Order, Serve, Deliver}
use Rattle.el_base.specs.declared.outcomes.Cause.TheVariants.{Room, Lines, Long, Call, Mixed}
use Rattle.el_base.specs.declared.outcomes.Need.TheVariants.{Read, Write}
use Rattle.el_base.specs.declared.outcomes.Outcome.{Outcome}
use Rattle.el_base.specs.declared.outcomes.Outcome.TheVariants.{Idle, Stalled, Missed, Ran, Began, Buffered, Committed}
use Rattle.el_base.specs.declared.outcomes.Outcome.TheVariants.{RolledBack, Blocked}
use Rattle.el_base.specs.declared.outcomes.Outcome.TheVariants.{Delivered, Armed, LetGo}
use Rattle.el_base.specs.declared.outcomes.Why.TheVariants.{Behind, Retained, Locked}
use Rattle.computed_runs.proofs.Computing.{computing}
use Rattle.computed_runs.proofs.Given.{Ending, armed, ending_of, event, first_state, lost, ordered_with, patched}
use Rattle.computed_runs.proofs.Given.{request, section, served_with}
use Rattle.computed_runs.proofs.Given.{stamp, watch, way}
use Rattle.el_model.specs.Next.{outcomes_from, state_after}
use Rattle.el_model.specs.State.{Hart, ModelState}
use Rattle.mail.specs.Mailbox.{Marker, Probe}
use Rattle.moesi.specs.declared.letter.Letter.TheVariants.{M, O, E, S}

abbrev config : Config
config = record {
  harts = 2;
  mode = Plain;
  sets = 2;
  ways = 3;
  lines = 3;
  long = 7;
  steps = 230;
}

abbrev words : List ℕ
words =
    66231 ∷ 1049363 ∷ 2098323 ∷ 67273619 ∷ 140747823 ∷ 10658339 ∷ 138585603 ∷ 140748463 ∷ 237603 ∷ 140682287 ∷
    207790627 ∷ 8562179 ∷ 201500163 ∷ 10658339 ∷ 67273619 ∷ 140747823 ∷ 140748463 ∷ 412264239 ∷ 237603 ∷ 4229951599 ∷ []

abbrev first : ModelState
first = first_state config 65536 384 131072 words

abbrev events : List Event
events =
    event Step 1 ∷ event Step 1 ∷ event Deliver 0 ∷ event Deliver 1 ∷ event Step 0 ∷ event Serve 0 ∷ event Order 1 ∷
    event Order 0 ∷ event Step 1 ∷ event Step 1 ∷ event Step 0 ∷ event Step 1 ∷ event Step 0 ∷ event Order 1 ∷
    event Order 0 ∷ event Deliver 0 ∷ event Step 0 ∷ event Order 0 ∷ event Step 0 ∷ event Serve 1 ∷ event Deliver 0 ∷
    event Step 0 ∷ event Order 0 ∷ event Step 0 ∷ event Serve 0 ∷ event Deliver 1 ∷ event Step 1 ∷ event Deliver 1 ∷
    event Serve 0 ∷ event Step 1 ∷ event Order 1 ∷ event Serve 1 ∷ event Order 0 ∷ event Step 0 ∷ event Step 1 ∷
    event Step 0 ∷ event Deliver 1 ∷ event Order 1 ∷ event Order 0 ∷ event Serve 0 ∷ event Deliver 0 ∷ event Step 1 ∷
    event Serve 1 ∷ event Order 0 ∷ event Deliver 0 ∷ event Step 0 ∷ event Step 0 ∷ event Order 1 ∷ event Serve 1 ∷
    event Step 1 ∷ event Order 0 ∷ event Deliver 0 ∷ event Serve 1 ∷ event Step 1 ∷ event Serve 1 ∷ event Order 1 ∷
    event Serve 1 ∷ event Serve 0 ∷ event Step 1 ∷ event Step 0 ∷ event Step 0 ∷ event Step 1 ∷ event Order 0 ∷
    event Serve 0 ∷ event Deliver 0 ∷ event Order 1 ∷ event Step 1 ∷ event Order 0 ∷ event Order 1 ∷ event Serve 0 ∷
    event Order 1 ∷ event Step 1 ∷ event Order 1 ∷ event Deliver 0 ∷ event Step 0 ∷ event Serve 1 ∷ event Step 0 ∷
    event Step 1 ∷ event Step 1 ∷ event Serve 0 ∷ event Step 0 ∷ event Deliver 1 ∷ event Serve 1 ∷ event Order 1 ∷
    event Deliver 1 ∷ event Serve 1 ∷ event Order 0 ∷ event Step 1 ∷ event Serve 0 ∷ event Serve 1 ∷ event Step 0 ∷
    event Step 0 ∷ event Step 0 ∷ event Step 1 ∷ event Order 1 ∷ event Deliver 0 ∷ event Serve 1 ∷ event Step 1 ∷
    event Serve 0 ∷ event Order 1 ∷ event Step 1 ∷ event Order 0 ∷ event Step 1 ∷ event Order 1 ∷ event Serve 0 ∷
    event Order 0 ∷ event Serve 0 ∷ event Step 0 ∷ event Serve 1 ∷ event Step 0 ∷ event Step 1 ∷ event Step 1 ∷
    event Step 1 ∷ event Order 1 ∷ event Deliver 1 ∷ event Order 0 ∷ event Serve 0 ∷ event Serve 0 ∷ event Serve 1 ∷
    event Step 0 ∷ event Step 1 ∷ event Step 1 ∷ event Step 0 ∷ event Step 0 ∷ event Order 0 ∷ event Deliver 0 ∷
    event Deliver 1 ∷ event Step 1 ∷ event Serve 0 ∷ event Step 0 ∷ event Step 0 ∷ event Step 0 ∷ event Order 0 ∷
    event Step 1 ∷ event Step 1 ∷ event Step 1 ∷ event Step 1 ∷ event Step 1 ∷ event Step 1 ∷ event Order 1 ∷
    event Serve 1 ∷ event Step 1 ∷ event Step 1 ∷ event Serve 0 ∷ event Step 1 ∷ event Step 0 ∷ event Serve 1 ∷
    event Order 1 ∷ event Step 0 ∷ event Deliver 0 ∷ event Step 1 ∷ event Deliver 0 ∷ event Order 1 ∷ event Step 0 ∷
    event Deliver 1 ∷ event Serve 1 ∷ event Serve 0 ∷ event Step 1 ∷ event Step 0 ∷ event Serve 1 ∷ event Step 0 ∷
    event Order 0 ∷ event Step 1 ∷ event Serve 0 ∷ event Step 1 ∷ event Step 0 ∷ event Deliver 0 ∷ event Step 0 ∷
    event Deliver 0 ∷ event Order 0 ∷ event Deliver 0 ∷ event Order 1 ∷ event Step 1 ∷ event Step 0 ∷ event Step 0 ∷
    event Step 0 ∷ event Order 0 ∷ event Order 1 ∷ event Serve 1 ∷ event Order 0 ∷ event Step 0 ∷ event Step 1 ∷
    event Order 0 ∷ event Serve 0 ∷ event Step 0 ∷ event Step 1 ∷ event Serve 0 ∷ event Deliver 1 ∷ event Deliver 0 ∷
    event Step 0 ∷ event Step 1 ∷ event Deliver 0 ∷ event Order 1 ∷ event Step 1 ∷ event Step 0 ∷ event Step 1 ∷
    event Serve 1 ∷ event Step 0 ∷ event Deliver 0 ∷ event Deliver 0 ∷ event Step 1 ∷ event Step 1 ∷ event Deliver 0 ∷
    event Order 0 ∷ event Order 1 ∷ event Order 0 ∷ event Deliver 0 ∷ event Serve 1 ∷ event Step 0 ∷ event Order 0 ∷
    event Order 0 ∷ event Step 0 ∷ event Serve 0 ∷ event Step 1 ∷ event Step 1 ∷ event Order 1 ∷ event Order 1 ∷
    event Step 0 ∷ event Serve 1 ∷ event Order 0 ∷ event Step 0 ∷ event Step 1 ∷ event Step 1 ∷ event Step 1 ∷
    event Step 0 ∷ event Serve 1 ∷ event Order 1 ∷ event Serve 0 ∷ event Serve 1 ∷ event Step 1 ∷ []

abbrev expected : List Outcome
expected =
    Ran ∷ Ran ∷ Idle ∷ Idle ∷ Ran ∷ Idle ∷ Idle ∷ Idle ∷ Ran ∷ Ran ∷ Ran ∷ Missed (line_addr 1025) Write ∷ Ran ∷
    ordered_with [] [] ∷ Idle ∷ Idle ∷ Ran ∷ Idle ∷ Missed (line_addr 1025) Write ∷ served_with [] [] ∷ Idle ∷
    Stalled ∷ ordered_with [] [] ∷ Stalled ∷ Blocked Locked (hart_id 1) ∷ Idle ∷ Ran ∷ Idle ∷ served_with [] [] ∷
    Missed (line_addr 1024) Write ∷ ordered_with [] [] ∷ served_with [] [] ∷ Idle ∷ Ran ∷ Ran ∷
    Missed (line_addr 1024) Write ∷ Idle ∷ Idle ∷ ordered_with [] [] ∷ served_with [] [] ∷ Idle ∷
    Missed (line_addr 1026) Read ∷ Idle ∷ Idle ∷ Idle ∷ Ran ∷ Missed (line_addr 1026) Read ∷ ordered_with [] [] ∷
    served_with [] [] ∷ Ran ∷ ordered_with [] [] ∷ Idle ∷ Idle ∷ Missed (line_addr 1025) Write ∷ Idle ∷
    ordered_with [] [] ∷ served_with [] [] ∷ served_with [] [] ∷ Ran ∷ Ran ∷ Missed (line_addr 1025) Write ∷ Ran ∷
    ordered_with [] [] ∷ served_with [] [] ∷ Idle ∷ Idle ∷ Missed (line_addr 1024) Write ∷ Idle ∷ ordered_with [] [] ∷
    Idle ∷ Idle ∷ Stalled ∷ Idle ∷ Idle ∷ Ran ∷ served_with [] [] ∷ Ran ∷ Ran ∷ Missed (line_addr 1027) Write ∷ Idle ∷
    Missed (line_addr 1024) Write ∷ Idle ∷ Idle ∷ ordered_with [] [] ∷ Idle ∷ served_with [] [] ∷ ordered_with [] [] ∷
    Ran ∷ served_with [] [] ∷ Idle ∷ Ran ∷ Missed (line_addr 1027) Write ∷ Stalled ∷ Missed (line_addr 1024) Read ∷
    ordered_with [] [] ∷ Idle ∷ served_with [] [] ∷ Ran ∷ Idle ∷ Idle ∷ Ran ∷ ordered_with [] [] ∷
    Missed (line_addr 1024) Write ∷ ordered_with [] [] ∷ served_with [] [] ∷ Idle ∷ Idle ∷ Ran ∷ served_with [] [] ∷
    Missed (line_addr 1024) Read ∷ Ran ∷ Ran ∷ Missed (line_addr 1025) Write ∷ ordered_with [] [] ∷ Idle ∷
    ordered_with [] [] ∷ served_with [] [] ∷ Idle ∷ served_with [] [] ∷ Ran ∷ Ran ∷ Ran ∷ Ran ∷
    Missed (line_addr 1024) Write ∷ ordered_with [] [] ∷ Idle ∷ Idle ∷ Ran ∷ served_with [] [] ∷ Ran ∷ Ran ∷
    Missed (line_addr 1025) Write ∷ ordered_with [] [] ∷ Ran ∷ Ran ∷ Ran ∷ Ran ∷ Missed (line_addr 1024) Write ∷
    Stalled ∷ ordered_with [] [] ∷ served_with [] [] ∷ Ran ∷ Ran ∷ served_with [] [] ∷ Missed (line_addr 1025) Write ∷
    Ran ∷ Idle ∷ ordered_with [] [] ∷ Ran ∷ Idle ∷ Stalled ∷ Idle ∷ Idle ∷ Ran ∷ Idle ∷ served_with [] [] ∷ Idle ∷
    Ran ∷ Missed (line_addr 1025) Write ∷ Idle ∷ Stalled ∷ ordered_with [] [] ∷ Ran ∷ served_with [] [] ∷ Ran ∷ Ran ∷
    Idle ∷ Ran ∷ Idle ∷ Idle ∷ Idle ∷ Idle ∷ Missed (line_addr 1027) Write ∷ Ran ∷ Ran ∷
    Missed (line_addr 1024) Write ∷ ordered_with [] [] ∷ ordered_with [] [] ∷ served_with [] [] ∷ Idle ∷ Stalled ∷
    Ran ∷ Idle ∷ served_with [] [] ∷ Ran ∷ Missed (line_addr 1024) Read ∷ Idle ∷ Idle ∷ Idle ∷ Ran ∷ Stalled ∷ Idle ∷
    ordered_with [] [] ∷ Stalled ∷ Ran ∷ Stalled ∷ served_with [] [] ∷ Ran ∷ Idle ∷ Idle ∷ Ran ∷ Ran ∷ Idle ∷ Idle ∷
    Idle ∷ Idle ∷ Idle ∷ Idle ∷ Missed (line_addr 1024) Write ∷ ordered_with [] [] ∷ Idle ∷ Stalled ∷
    served_with [] [] ∷ Missed (line_addr 1024) Write ∷ Stalled ∷ ordered_with [] [] ∷ Idle ∷ Ran ∷ served_with [] [] ∷
    Idle ∷ Missed (line_addr 1027) Write ∷ Ran ∷ Ran ∷ Missed (line_addr 1025) Write ∷ Stalled ∷ Idle ∷
    ordered_with [] [] ∷ Idle ∷ served_with [] [] ∷ Ran ∷ []

outcomes : outcomes_from first events ≡ expected
unfolding computing
outcomes = refl

abbrev last : Ending
last = record {
  harts =
      record {
        section = None;
        armed = None;
        last_lr = None;
        cache = (way 1026 S false false ∷ []) ∷ ([]) ∷ [];
        raised = (Some (request 0 1027 Write None));
        held_line = None;
        mail = [];
        told = [];
        upstream = [];
        fallback = false;
        tries = 0;
        clock = 0;
        seen = 0;
        attempt = None;
        predictor = record { counters = (patched (replicate 64 2) ([])); watch = None };
      } ∷ record {
        section = None;
        armed = None;
        last_lr = None;
        cache =
            (way 1024 M false false ∷ way 1026 S false false ∷ [])
            ∷ (way 1025 M false false ∷ way 1027 M false false ∷ []) ∷ [];
        raised = None;
        held_line = None;
        mail = [];
        told = [];
        upstream = [];
        fallback = false;
        tries = 0;
        clock = 0;
        seen = 0;
        attempt = None;
        predictor = record { counters = (patched (replicate 64 2) ([])); watch = None };
      } ∷ [];
  order = [];
  pcs = 131112 ∷ 131136 ∷ [];
  registers =
      (0 ∷ 0 ∷ 65920 ∷ 0 ∷ 0 ∷ 65536 ∷ 1 ∷ 65600 ∷ 1 ∷ 2 ∷ 0 ∷ 2 ∷ 0 ∷ 1 ∷ 1 ∷ 0 ∷ 0 ∷ 0 ∷ 0 ∷ 0 ∷ 0 ∷
      0 ∷ 0 ∷ 0 ∷ 0 ∷ 0 ∷ 0 ∷ 0 ∷ 0 ∷ 0 ∷ 0 ∷ 0 ∷ []) ∷
      (0 ∷ 0 ∷ 384 ∷ 0 ∷ 0 ∷ 65536 ∷ 1 ∷ 65600 ∷ 0 ∷ 2 ∷ 1 ∷ 2 ∷ 0 ∷ 1 ∷ 1 ∷ 0 ∷ 0 ∷ 0 ∷ 0 ∷ 0 ∷ 0 ∷
      0 ∷ 0 ∷ 0 ∷ 0 ∷ 0 ∷ 0 ∷ 0 ∷ 0 ∷ 0 ∷ 0 ∷ 0 ∷ []) ∷
      [];
  bytes = patched (replicate 384 0) ((0, 1) ∷ (4, 1) ∷ (64, 1) ∷ (196, 1) ∷ []);
}

ending : ending_of (state_after first events) ≡ last
unfolding computing
ending = refl
