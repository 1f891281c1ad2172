-- 3 harts in lock removal, 300 random events over LR and SC: 12 of Armed, 4 of LetGo, 4 of Ordered that let harts go,
-- 1 of Committed
use Rattle.std.proofs.Common.{◌≡◌, ℕ, true, false, List, [], ◌∷◌, Some, None, replicate, refl}
use Rattle.el_base.specs.HartId.{hart_id}
use Rattle.el_base.specs.LineAddr.{line_addr}
use Rattle.el_base.specs.declared.config.Config.{Config}
use Rattle.el_base.specs.declared.config.Mode.TheVariants.{Plain, Sle, Tlr}
use Rattle.el_base.specs.declared.events.Event.{Event}
use Rattle.el_base.specs.declared.events.Kind.TheVariants.{Step, Order, Serve, Deliver}
use Rattle.el_base.specs.declared.outcomes.Cause.TheVariants.{Room, Lines, Long, Call, Mixed}
use Rattle.el_base.specs.declared.outcomes.Need.TheVariants.{Read, Write}
use Rattle.el_base.specs.declared.outcomes.Outcome.{Outcome}
use Rattle.el_base.specs.declared.outcomes.Outcome.TheVariants.{Idle, Stalled, Missed, Ran, Began, Buffered, Committed}
use Rattle.el_base.specs.declared.outcomes.Outcome.TheVariants.{RolledBack, Blocked}
use Rattle.el_base.specs.declared.outcomes.Outcome.TheVariants.{Delivered, Armed, LetGo}
use Rattle.el_base.specs.declared.outcomes.Why.TheVariants.{Behind, Retained, Locked}
use Rattle.computed_runs.proofs.Computing.{computing}
use Rattle.computed_runs.proofs.Given.{Ending, armed, ending_of, event, first_state, lost, ordered_with, patched}
use Rattle.computed_runs.proofs.Given.{request, section, served_with}
use Rattle.computed_runs.proofs.Given.{stamp, watch, way}
use Rattle.el_model.specs.Next.{outcomes_from, state_after}
use Rattle.el_model.specs.State.{Hart, ModelState}
use Rattle.mail.specs.Mailbox.{Marker, Probe}
use Rattle.moesi.specs.declared.letter.Letter.TheVariants.{M, O, E, S}

abbrev config : Config
config = record {
  harts = 3;
  mode = Tlr;
  sets = 2;
  ways = 2;
  lines = 2;
  long = 10;
  steps = 300;
}

abbrev words : List ℕ
words =
    66231 ∷ 1049363 ∷ 2098323 ∷ 268608559 ∷ 1443347 ∷ 4261682403 ∷ 268609199 ∷ 143828003 ∷ 172067 ∷ 268608559 ∷
    1443347 ∷ 1443347 ∷ 1443347 ∷ 1443347 ∷ 1443347 ∷ 1443347 ∷ 1443347 ∷ 1443347 ∷ 1443347 ∷ 1443347 ∷ 1443347 ∷
    1443347 ∷ 1443347 ∷ 1443347 ∷ 409118127 ∷ 365667 ∷ 134389807 ∷ 268608559 ∷ 1443347 ∷ 1443347 ∷ 365667 ∷ 138585603 ∷
    412264239 ∷ 1443347 ∷ 267386895 ∷ 67273619 ∷ 268674095 ∷ 1443347 ∷ 4261682403 ∷ 409183663 ∷ 143828003 ∷ 237603 ∷
    4133482607 ∷ []

abbrev first : ModelState
first = first_state config 65536 192 131072 words

abbrev events : List Event
events =
    event Step 1 ∷ event Step 1 ∷ event Step 2 ∷ event Step 2 ∷ event Step 1 ∷ event Deliver 2 ∷ event Step 2 ∷
    event Step 0 ∷ event Deliver 0 ∷ event Deliver 1 ∷ event Serve 0 ∷ event Step 2 ∷ event Deliver 0 ∷
    event Deliver 0 ∷ event Step 1 ∷ event Step 0 ∷ event Step 2 ∷ event Order 1 ∷ event Order 2 ∷ event Serve 1 ∷
    event Step 0 ∷ event Serve 2 ∷ event Deliver 0 ∷ event Step 1 ∷ event Step 0 ∷ event Serve 1 ∷ event Step 1 ∷
    event Deliver 1 ∷ event Order 0 ∷ event Serve 0 ∷ event Step 1 ∷ event Deliver 2 ∷ event Serve 0 ∷ event Serve 0 ∷
    event Serve 0 ∷ event Deliver 1 ∷ event Deliver 0 ∷ event Step 2 ∷ event Deliver 0 ∷ event Serve 1 ∷
    event Order 2 ∷ event Deliver 1 ∷ event Step 1 ∷ event Order 0 ∷ event Step 1 ∷ event Step 0 ∷ event Deliver 2 ∷
    event Serve 2 ∷ event Step 1 ∷ event Serve 0 ∷ event Step 2 ∷ event Serve 0 ∷ event Deliver 2 ∷ event Order 0 ∷
    event Deliver 2 ∷ event Step 1 ∷ event Order 1 ∷ event Step 2 ∷ event Serve 1 ∷ event Step 0 ∷ event Step 1 ∷
    event Step 1 ∷ event Serve 2 ∷ event Step 0 ∷ event Serve 2 ∷ event Order 1 ∷ event Order 2 ∷ event Order 1 ∷
    event Serve 2 ∷ event Step 0 ∷ event Step 2 ∷ event Deliver 2 ∷ event Deliver 1 ∷ event Step 0 ∷ event Serve 1 ∷
    event Step 1 ∷ event Step 2 ∷ event Serve 0 ∷ event Deliver 1 ∷ event Order 2 ∷ event Step 0 ∷ event Step 1 ∷
    event Step 1 ∷ event Step 1 ∷ event Step 1 ∷ event Serve 2 ∷ event Deliver 1 ∷ event Order 0 ∷ event Order 2 ∷
    event Step 1 ∷ event Order 2 ∷ event Order 1 ∷ event Step 1 ∷ event Deliver 0 ∷ event Serve 0 ∷ event Serve 1 ∷
    event Step 0 ∷ event Order 1 ∷ event Step 1 ∷ event Step 1 ∷ event Step 1 ∷ event Step 2 ∷ event Order 1 ∷
    event Serve 1 ∷ event Step 0 ∷ event Step 0 ∷ event Order 2 ∷ event Deliver 0 ∷ event Order 0 ∷ event Serve 0 ∷
    event Step 2 ∷ event Serve 1 ∷ event Serve 0 ∷ event Serve 1 ∷ event Step 1 ∷ event Step 0 ∷ event Step 0 ∷
    event Serve 1 ∷ event Order 2 ∷ event Deliver 1 ∷ event Order 2 ∷ event Step 1 ∷ event Step 1 ∷ event Order 2 ∷
    event Step 1 ∷ event Step 1 ∷ event Step 0 ∷ event Serve 2 ∷ event Step 1 ∷ event Serve 1 ∷ event Step 2 ∷
    event Order 1 ∷ event Step 2 ∷ event Serve 0 ∷ event Order 1 ∷ event Serve 0 ∷ event Step 1 ∷ event Deliver 2 ∷
    event Serve 0 ∷ event Deliver 1 ∷ event Deliver 1 ∷ event Step 1 ∷ event Step 0 ∷ event Order 1 ∷ event Deliver 0 ∷
    event Deliver 0 ∷ event Order 0 ∷ event Order 0 ∷ event Step 0 ∷ event Step 1 ∷ event Step 1 ∷ event Step 2 ∷
    event Deliver 1 ∷ event Order 1 ∷ event Step 1 ∷ event Serve 0 ∷ event Serve 1 ∷ event Step 0 ∷ event Serve 2 ∷
    event Deliver 1 ∷ event Step 0 ∷ event Step 1 ∷ event Order 1 ∷ event Serve 0 ∷ event Order 2 ∷ event Order 0 ∷
    event Step 0 ∷ event Serve 2 ∷ event Step 2 ∷ event Order 1 ∷ event Step 2 ∷ event Deliver 0 ∷ event Step 0 ∷
    event Deliver 1 ∷ event Step 0 ∷ event Order 1 ∷ event Step 2 ∷ event Step 0 ∷ event Step 2 ∷ event Order 0 ∷
    event Step 1 ∷ event Step 0 ∷ event Step 1 ∷ event Step 0 ∷ event Step 1 ∷ event Deliver 2 ∷ event Step 0 ∷
    event Serve 1 ∷ event Step 0 ∷ event Step 2 ∷ event Step 1 ∷ event Step 2 ∷ event Deliver 0 ∷ event Step 0 ∷
    event Step 0 ∷ event Step 0 ∷ event Step 2 ∷ event Deliver 1 ∷ event Step 2 ∷ event Serve 0 ∷ event Step 1 ∷
    event Order 2 ∷ event Step 2 ∷ event Step 2 ∷ event Step 1 ∷ event Serve 0 ∷ event Serve 2 ∷ event Order 0 ∷
    event Deliver 1 ∷ event Step 0 ∷ event Order 2 ∷ event Step 1 ∷ event Step 2 ∷ event Step 2 ∷ event Order 1 ∷
    event Step 1 ∷ event Serve 1 ∷ event Step 2 ∷ event Order 0 ∷ event Order 1 ∷ event Serve 1 ∷ event Serve 1 ∷
    event Step 2 ∷ event Deliver 0 ∷ event Step 1 ∷ event Step 2 ∷ event Step 2 ∷ event Step 2 ∷ event Step 1 ∷
    event Deliver 2 ∷ event Deliver 1 ∷ event Serve 0 ∷ event Step 1 ∷ event Step 0 ∷ event Order 1 ∷ event Order 0 ∷
    event Step 2 ∷ event Step 0 ∷ event Serve 0 ∷ event Step 1 ∷ event Order 2 ∷ event Deliver 1 ∷ event Serve 1 ∷
    event Serve 2 ∷ event Step 1 ∷ event Step 2 ∷ event Deliver 1 ∷ event Step 0 ∷ event Order 1 ∷ event Serve 1 ∷
    event Order 2 ∷ event Step 2 ∷ event Deliver 2 ∷ event Step 1 ∷ event Serve 1 ∷ event Serve 0 ∷ event Order 2 ∷
    event Step 1 ∷ event Serve 1 ∷ event Order 0 ∷ event Order 1 ∷ event Serve 1 ∷ event Step 1 ∷ event Deliver 1 ∷
    event Order 2 ∷ event Step 2 ∷ event Order 1 ∷ event Deliver 1 ∷ event Serve 0 ∷ event Step 1 ∷ event Serve 2 ∷
    event Order 1 ∷ event Serve 1 ∷ event Step 1 ∷ event Deliver 0 ∷ event Step 2 ∷ event Step 2 ∷ event Step 2 ∷
    event Order 0 ∷ event Step 2 ∷ event Deliver 0 ∷ event Step 2 ∷ event Step 0 ∷ event Deliver 2 ∷ event Serve 2 ∷
    event Serve 0 ∷ event Step 0 ∷ event Order 2 ∷ event Serve 2 ∷ event Serve 1 ∷ event Step 1 ∷ event Order 1 ∷
    event Step 2 ∷ event Step 2 ∷ event Serve 2 ∷ event Step 0 ∷ event Step 1 ∷ event Serve 0 ∷ event Step 1 ∷
    event Deliver 0 ∷ []

abbrev expected : List Outcome
expected =
    Ran ∷ Ran ∷ Ran ∷ Ran ∷ Ran ∷ Idle ∷ Ran ∷ Ran ∷ Idle ∷ Idle ∷ Idle ∷ Missed (line_addr 1024) Read ∷ Idle ∷ Idle ∷
    Missed (line_addr 1024) Read ∷ Ran ∷ Stalled ∷ ordered_with [] [] ∷ ordered_with [] [] ∷ served_with [] [] ∷ Ran ∷
    Blocked Locked (hart_id 1) ∷ Idle ∷ Armed ∷ Missed (line_addr 1024) Read ∷ Idle ∷ Buffered ∷ Idle ∷
    ordered_with [] [] ∷ Blocked Behind (hart_id 2) ∷ Buffered ∷ Delivered (lost []) ∷ Blocked Behind (hart_id 2) ∷
    Blocked Behind (hart_id 2) ∷ Blocked Behind (hart_id 2) ∷ Delivered (lost []) ∷ Delivered (lost []) ∷ Stalled ∷
    Idle ∷ Idle ∷ Idle ∷ Idle ∷ LetGo 3 ∷ Idle ∷ Armed ∷ Stalled ∷ Delivered (lost []) ∷ served_with [] [] ∷ LetGo 1 ∷
    Blocked Locked (hart_id 2) ∷ Armed ∷ served_with [] [] ∷ Idle ∷ Idle ∷ Idle ∷ Missed (line_addr 1026) Write ∷
    ordered_with [] [] ∷ Buffered ∷ served_with [] [] ∷ Armed ∷ Ran ∷ Missed (line_addr 1024) Write ∷ Idle ∷ Buffered ∷
    Idle ∷ ordered_with [] ((0, 2) ∷ (2, 2) ∷ []) ∷ Idle ∷ Idle ∷ Idle ∷ Ran ∷ Ran ∷ Idle ∷ Idle ∷ Ran ∷
    served_with [] [] ∷ Ran ∷ Missed (line_addr 1024) Read ∷ Idle ∷ Idle ∷ ordered_with [] [] ∷
    Missed (line_addr 1026) Write ∷ Armed ∷ Buffered ∷ Buffered ∷ Buffered ∷ served_with [] [] ∷ Idle ∷
    ordered_with [] [] ∷ Idle ∷ Buffered ∷ Idle ∷ Idle ∷ Buffered ∷ Idle ∷ served_with [] [] ∷ Idle ∷ Ran ∷ Idle ∷
    Buffered ∷ Buffered ∷ Buffered ∷ Armed ∷ Idle ∷ Idle ∷ Missed (line_addr 1024) Write ∷ Stalled ∷ Idle ∷ Idle ∷
    ordered_with [] ((1, 9) ∷ (2, 1) ∷ []) ∷ served_with [] [] ∷ Missed (line_addr 1026) Write ∷ Idle ∷ Idle ∷ Idle ∷
    Ran ∷ Ran ∷ Armed ∷ Idle ∷ ordered_with [] [] ∷ Idle ∷ Idle ∷ Ran ∷ Ran ∷ Idle ∷ Ran ∷ Ran ∷ Buffered ∷
    served_with [] [] ∷ Ran ∷ Idle ∷ Ran ∷ Idle ∷ Missed (line_addr 1024) Write ∷ Idle ∷ Idle ∷ Idle ∷ Ran ∷ Idle ∷
    Idle ∷ Idle ∷ Idle ∷ Ran ∷ Buffered ∷ Idle ∷ Idle ∷ Idle ∷ Idle ∷ Idle ∷ Buffered ∷ Missed (line_addr 1024) Read ∷
    Stalled ∷ Stalled ∷ Idle ∷ ordered_with [] [] ∷ Stalled ∷ Idle ∷ served_with [] [] ∷ Buffered ∷ Idle ∷ Idle ∷
    Buffered ∷ Armed ∷ Idle ∷ Idle ∷ ordered_with [] ((0, 6) ∷ (1, 1) ∷ []) ∷ Idle ∷ Ran ∷ served_with [] [] ∷ Ran ∷
    Idle ∷ Armed ∷ Idle ∷ Ran ∷ Idle ∷ Ran ∷ Idle ∷ Buffered ∷ Ran ∷ Buffered ∷ Idle ∷ Ran ∷ Ran ∷ Ran ∷ Ran ∷ Ran ∷
    Idle ∷ Ran ∷ Idle ∷ Ran ∷ Buffered ∷ Ran ∷ Buffered ∷ Idle ∷ Ran ∷ Ran ∷ Ran ∷ Buffered ∷ Idle ∷ Buffered ∷ Idle ∷
    Ran ∷ Idle ∷ Buffered ∷ Buffered ∷ Ran ∷ Idle ∷ Idle ∷ Idle ∷ Idle ∷ Missed (line_addr 1024) Read ∷ Idle ∷ Ran ∷
    LetGo 9 ∷ Ran ∷ Idle ∷ Missed (line_addr 1025) Read ∷ Idle ∷ Ran ∷ ordered_with [] [] ∷ ordered_with [] [] ∷
    served_with [] [] ∷ Idle ∷ Ran ∷ Idle ∷ Armed ∷ Ran ∷ Ran ∷ Ran ∷ Buffered ∷ Idle ∷ Idle ∷ served_with [] [] ∷
    Buffered ∷ Armed ∷ Idle ∷ Idle ∷ Missed (line_addr 1024) Write ∷ Buffered ∷ Idle ∷ Began ∷
    ordered_with [] ((0, 2) ∷ []) ∷ Idle ∷ Idle ∷ served_with [] [] ∷ Missed (line_addr 1026) Write ∷ Ran ∷ Idle ∷
    Ran ∷ ordered_with [] [] ∷ served_with [] [] ∷ Idle ∷ Ran ∷ Idle ∷ Buffered ∷ Idle ∷ Idle ∷ Idle ∷ Committed 6 ∷
    Idle ∷ Idle ∷ Idle ∷ Idle ∷ Ran ∷ Idle ∷ Idle ∷ Began ∷ Idle ∷ Idle ∷ Idle ∷ Missed (line_addr 1024) Read ∷ Idle ∷
    ordered_with [] [] ∷ served_with [] [] ∷ Armed ∷ Idle ∷ Buffered ∷ Buffered ∷ Buffered ∷ Idle ∷ Buffered ∷ Idle ∷
    Missed (line_addr 1026) Read ∷ Ran ∷ Idle ∷ Idle ∷ Idle ∷ Ran ∷ ordered_with [] [] ∷ served_with [] [] ∷ Idle ∷
    Buffered ∷ Idle ∷ Buffered ∷ RolledBack Mixed ∷ Idle ∷ Ran ∷ Buffered ∷ Idle ∷ LetGo 3 ∷ Idle ∷ []

outcomes : outcomes_from first events ≡ expected
unfolding computing
outcomes = refl

abbrev last : Ending
last = record {
  harts =
      record {
        section = None;
        armed = None;
        last_lr = (Some 131180);
        cache = ([]) ∷ ([]) ∷ [];
        raised = None;
        held_line = None;
        mail = [];
        told = [];
        upstream = [];
        fallback = false;
        tries = 0;
        clock = 0;
        seen = 0;
        attempt = None;
        predictor = record { counters = (patched (replicate 64 2) ([])); watch = None };
      } ∷ record {
        section = None;
        armed = None;
        last_lr = (Some 131084);
        cache = (way 1024 S false false ∷ way 1026 O false false ∷ []) ∷ (way 1025 E false false ∷ []) ∷ [];
        raised = None;
        held_line = None;
        mail = [];
        told = [];
        upstream = [];
        fallback = false;
        tries = 0;
        clock = 1;
        seen = 0;
        attempt = None;
        predictor = record { counters = (patched (replicate 64 2) ((36, 3) ∷ [])); watch = None };
      } ∷ record {
        section = None;
        armed = None;
        last_lr = (Some 131108);
        cache = (way 1026 S false false ∷ way 1024 O false false ∷ []) ∷ ([]) ∷ [];
        raised = None;
        held_line = None;
        mail = [];
        told = [];
        upstream = [];
        fallback = true;
        tries = 0;
        clock = 1;
        seen = 0;
        attempt = None;
        predictor = record { counters = (patched (replicate 64 2) ((26, 1) ∷ [])); watch = None };
      } ∷ [];
  order = [];
  pcs = 131208 ∷ 131084 ∷ 131176 ∷ [];
  registers =
      (0 ∷ 0 ∷ 65728 ∷ 0 ∷ 0 ∷ 65536 ∷ 1 ∷ 0 ∷ 0 ∷ 2 ∷ 0 ∷ 1 ∷ 18 ∷ 0 ∷ 1 ∷ 0 ∷ 0 ∷ 0 ∷ 0 ∷ 0 ∷ 0 ∷
      0 ∷ 0 ∷ 0 ∷ 0 ∷ 0 ∷ 0 ∷ 0 ∷ 0 ∷ 0 ∷ 0 ∷ 0 ∷ []) ∷
      (0 ∷ 0 ∷ 192 ∷ 0 ∷ 0 ∷ 65536 ∷ 1 ∷ 65600 ∷ 1 ∷ 2 ∷ 1 ∷ 0 ∷ 20 ∷ 0 ∷ 1 ∷ 0 ∷ 0 ∷ 0 ∷ 0 ∷ 0 ∷ 0 ∷
      0 ∷ 0 ∷ 0 ∷ 0 ∷ 0 ∷ 0 ∷ 0 ∷ 0 ∷ 0 ∷ 0 ∷ 0 ∷ []) ∷
      (0 ∷ 0 ∷ 4294901952 ∷ 0 ∷ 0 ∷ 65536 ∷ 1 ∷ 0 ∷ 0 ∷ 2 ∷ 2 ∷ 0 ∷ 15 ∷ 0 ∷ 0 ∷ 0 ∷ 0 ∷ 0 ∷ 0 ∷ 0 ∷
      0 ∷ 0 ∷ 0 ∷ 0 ∷ 0 ∷ 0 ∷ 0 ∷ 0 ∷ 0 ∷ 0 ∷ 0 ∷ 0 ∷ []) ∷
      [];
  bytes = patched (replicate 192 0) ((0, 1) ∷ (136, 2) ∷ []);
}

ending : ending_of (state_after first events) ≡ last
unfolding computing
ending = refl
