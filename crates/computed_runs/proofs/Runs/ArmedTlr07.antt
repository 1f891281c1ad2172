-- 4 harts in lock removal, 300 random events over LR and SC: 9 of Armed, 3 of LetGo, 1 of Ordered that let harts go
use Rattle.std.proofs.Common.{◌≡◌, ℕ, true, false, List, [], ◌∷◌, Some, None, replicate, refl}
use Rattle.el_base.specs.HartId.{hart_id}
use Rattle.el_base.specs.LineAddr.{line_addr}
use Rattle.el_base.specs.declared.config.Config.{Config}
use Rattle.el_base.specs.declared.config.Mode.TheVariants.{Plain, Sle, Tlr}
use Rattle.el_base.specs.declared.events.Event.{Event}
use Rattle.el_base.specs.declared.events.Kind.TheVariants.{Step, Order, Serve, Deliver}
use Rattle.el_base.specs.declared.outcomes.Cause.TheVariants.{Room, Lines, Long, Call, Mixed}
use Rattle.el_base.specs.declared.outcomes.Need.TheVariants.{Read, Write}
use Rattle.el_base.specs.declared.outcomes.Outcome.{Outcome}
use Rattle.el_base.specs.declared.outcomes.Outcome.TheVariants.{Idle, Stalled, Missed, Ran, Began, Buffered, Committed}
use Rattle.el_base.specs.declared.outcomes.Outcome.TheVariants.{RolledBack, Blocked}
use Rattle.el_base.specs.declared.outcomes.Outcome.TheVariants.{Delivered, Armed, LetGo}
use Rattle.el_base.specs.declared.outcomes.Why.TheVariants.{Behind, Retained, Locked}
use Rattle.computed_runs.proofs.Computing.{computing}
use Rattle.computed_runs.proofs.Given.{Ending, armed, ending_of, event, first_state, lost, ordered_with, patched}
use Rattle.computed_runs.proofs.Given.{request, section, served_with}
use Rattle.computed_runs.proofs.Given.{stamp, watch, way}
use Rattle.el_model.specs.Next.{outcomes_from, state_after}
use Rattle.el_model.specs.State.{Hart, ModelState}
use Rattle.mail.specs.Mailbox.{Marker, Probe}
use Rattle.moesi.specs.declared.letter.Letter.TheVariants.{M, O, E, S}

abbrev config : Config
config = record {
  harts = 4;
  mode = Tlr;
  sets = 2;
  ways = 3;
  lines = 2;
  long = 17;
  steps = 300;
}

abbrev words : List ℕ
words =
    66231 ∷ 1049363 ∷ 2098323 ∷ 67273619 ∷ 268674095 ∷ 1443347 ∷ 1443347 ∷ 1443347 ∷ 1443347 ∷ 1443347 ∷ 1443347 ∷
    1443347 ∷ 1443347 ∷ 1443347 ∷ 1443347 ∷ 1443347 ∷ 1443347 ∷ 1443347 ∷ 1443347 ∷ 1443347 ∷ 6624355 ∷ 6624355 ∷
    214082083 ∷ 237603 ∷ 268608559 ∷ 409118127 ∷ 138585603 ∷ 268609199 ∷ 144876579 ∷ 40021539 ∷ 172067 ∷ 4179619951 ∷ []

abbrev first : ModelState
first = first_state config 65536 320 131072 words

abbrev events : List Event
events =
    event Serve 3 ∷ event Step 3 ∷ event Step 3 ∷ event Deliver 2 ∷ event Order 1 ∷ event Step 2 ∷ event Step 3 ∷
    event Serve 1 ∷ event Deliver 3 ∷ event Order 3 ∷ event Serve 3 ∷ event Serve 2 ∷ event Step 1 ∷ event Step 2 ∷
    event Step 2 ∷ event Serve 3 ∷ event Step 3 ∷ event Step 2 ∷ event Step 3 ∷ event Step 2 ∷ event Order 2 ∷
    event Step 0 ∷ event Deliver 3 ∷ event Step 3 ∷ event Step 0 ∷ event Serve 2 ∷ event Step 3 ∷ event Step 1 ∷
    event Order 3 ∷ event Serve 1 ∷ event Serve 3 ∷ event Serve 3 ∷ event Serve 3 ∷ event Step 2 ∷ event Serve 3 ∷
    event Step 1 ∷ event Step 2 ∷ event Order 2 ∷ event Step 1 ∷ event Step 2 ∷ event Order 3 ∷ event Step 0 ∷
    event Step 2 ∷ event Deliver 3 ∷ event Order 2 ∷ event Serve 3 ∷ event Step 3 ∷ event Serve 1 ∷ event Step 2 ∷
    event Serve 3 ∷ event Order 1 ∷ event Step 2 ∷ event Step 1 ∷ event Serve 2 ∷ event Order 1 ∷ event Serve 0 ∷
    event Deliver 0 ∷ event Step 3 ∷ event Serve 0 ∷ event Step 3 ∷ event Step 0 ∷ event Order 2 ∷ event Order 3 ∷
    event Step 1 ∷ event Order 0 ∷ event Serve 3 ∷ event Serve 1 ∷ event Step 3 ∷ event Step 1 ∷ event Serve 0 ∷
    event Step 2 ∷ event Step 3 ∷ event Step 1 ∷ event Step 0 ∷ event Order 0 ∷ event Step 3 ∷ event Serve 0 ∷
    event Step 0 ∷ event Serve 3 ∷ event Step 3 ∷ event Deliver 1 ∷ event Order 2 ∷ event Step 0 ∷ event Step 1 ∷
    event Step 1 ∷ event Step 2 ∷ event Step 2 ∷ event Order 2 ∷ event Step 2 ∷ event Step 2 ∷ event Serve 0 ∷
    event Step 3 ∷ event Step 2 ∷ event Step 3 ∷ event Step 0 ∷ event Order 0 ∷ event Step 1 ∷ event Step 3 ∷
    event Order 1 ∷ event Step 2 ∷ event Step 3 ∷ event Order 2 ∷ event Deliver 0 ∷ event Step 1 ∷ event Step 3 ∷
    event Step 2 ∷ event Deliver 1 ∷ event Order 1 ∷ event Order 3 ∷ event Order 0 ∷ event Step 3 ∷ event Order 1 ∷
    event Step 3 ∷ event Step 3 ∷ event Order 1 ∷ event Step 2 ∷ event Step 2 ∷ event Order 3 ∷ event Deliver 2 ∷
    event Step 0 ∷ event Serve 3 ∷ event Step 0 ∷ event Deliver 2 ∷ event Order 3 ∷ event Serve 1 ∷ event Step 0 ∷
    event Step 0 ∷ event Serve 3 ∷ event Order 0 ∷ event Deliver 0 ∷ event Step 1 ∷ event Serve 2 ∷ event Step 2 ∷
    event Step 1 ∷ event Step 1 ∷ event Step 3 ∷ event Serve 0 ∷ event Step 0 ∷ event Step 1 ∷ event Deliver 3 ∷
    event Step 1 ∷ event Serve 2 ∷ event Step 2 ∷ event Step 3 ∷ event Step 1 ∷ event Serve 3 ∷ event Step 0 ∷
    event Step 2 ∷ event Step 1 ∷ event Order 3 ∷ event Order 2 ∷ event Step 3 ∷ event Step 0 ∷ event Step 3 ∷
    event Serve 2 ∷ event Step 2 ∷ event Step 0 ∷ event Order 2 ∷ event Deliver 2 ∷ event Deliver 3 ∷ event Serve 2 ∷
    event Step 2 ∷ event Step 3 ∷ event Step 1 ∷ event Step 2 ∷ event Step 1 ∷ event Serve 3 ∷ event Step 1 ∷
    event Serve 1 ∷ event Step 0 ∷ event Step 2 ∷ event Step 0 ∷ event Order 3 ∷ event Serve 1 ∷ event Deliver 3 ∷
    event Deliver 0 ∷ event Step 0 ∷ event Order 1 ∷ event Step 1 ∷ event Step 1 ∷ event Deliver 1 ∷ event Serve 3 ∷
    event Deliver 2 ∷ event Deliver 2 ∷ event Step 1 ∷ event Step 0 ∷ event Order 3 ∷ event Deliver 0 ∷ event Step 2 ∷
    event Order 1 ∷ event Order 1 ∷ event Order 2 ∷ event Step 3 ∷ event Serve 1 ∷ event Order 0 ∷ event Step 2 ∷
    event Serve 2 ∷ event Serve 1 ∷ event Step 0 ∷ event Step 2 ∷ event Order 2 ∷ event Step 2 ∷ event Step 0 ∷
    event Order 2 ∷ event Step 0 ∷ event Step 3 ∷ event Step 1 ∷ event Serve 2 ∷ event Order 3 ∷ event Step 0 ∷
    event Serve 3 ∷ event Step 3 ∷ event Order 1 ∷ event Order 0 ∷ event Deliver 0 ∷ event Serve 0 ∷ event Serve 2 ∷
    event Serve 0 ∷ event Serve 0 ∷ event Step 3 ∷ event Step 1 ∷ event Order 3 ∷ event Serve 3 ∷ event Step 3 ∷
    event Deliver 1 ∷ event Serve 0 ∷ event Serve 1 ∷ event Deliver 2 ∷ event Serve 0 ∷ event Deliver 2 ∷
    event Step 1 ∷ event Serve 0 ∷ event Serve 3 ∷ event Order 1 ∷ event Step 1 ∷ event Order 1 ∷ event Order 1 ∷
    event Serve 3 ∷ event Order 3 ∷ event Step 0 ∷ event Serve 3 ∷ event Step 0 ∷ event Step 3 ∷ event Serve 1 ∷
    event Serve 0 ∷ event Order 1 ∷ event Order 2 ∷ event Step 2 ∷ event Serve 1 ∷ event Serve 3 ∷ event Step 2 ∷
    event Step 1 ∷ event Step 1 ∷ event Step 3 ∷ event Deliver 3 ∷ event Order 1 ∷ event Serve 1 ∷ event Deliver 3 ∷
    event Step 2 ∷ event Order 0 ∷ event Step 1 ∷ event Serve 0 ∷ event Order 2 ∷ event Order 1 ∷ event Order 0 ∷
    event Serve 2 ∷ event Step 0 ∷ event Step 3 ∷ event Step 3 ∷ event Step 0 ∷ event Step 1 ∷ event Order 3 ∷
    event Step 2 ∷ event Serve 3 ∷ event Step 1 ∷ event Step 3 ∷ event Serve 1 ∷ event Deliver 0 ∷ event Deliver 3 ∷
    event Step 3 ∷ event Step 1 ∷ event Order 1 ∷ event Order 3 ∷ event Step 2 ∷ event Step 0 ∷ event Serve 1 ∷
    event Order 0 ∷ event Serve 1 ∷ event Step 2 ∷ event Order 2 ∷ event Deliver 2 ∷ event Step 1 ∷ event Order 1 ∷
    event Serve 0 ∷ event Step 0 ∷ event Deliver 1 ∷ event Order 0 ∷ event Step 3 ∷ event Step 1 ∷ event Step 3 ∷ []

abbrev expected : List Outcome
expected =
    Idle ∷ Ran ∷ Ran ∷ Idle ∷ Idle ∷ Ran ∷ Ran ∷ Idle ∷ Idle ∷ Idle ∷ Idle ∷ Idle ∷ Ran ∷ Ran ∷ Ran ∷ Idle ∷ Ran ∷
    Ran ∷ Missed (line_addr 1025) Read ∷ Missed (line_addr 1025) Read ∷ ordered_with [] [] ∷ Ran ∷ Idle ∷ Stalled ∷
    Ran ∷ served_with [] [] ∷ Stalled ∷ Ran ∷ ordered_with [] [] ∷ Idle ∷ Blocked Locked (hart_id 2) ∷
    Blocked Locked (hart_id 2) ∷ Blocked Locked (hart_id 2) ∷ Armed ∷ served_with [] [] ∷ Ran ∷ Buffered ∷ Idle ∷ Ran ∷
    Buffered ∷ Idle ∷ Ran ∷ Buffered ∷ Idle ∷ Idle ∷ Idle ∷ Armed ∷ Idle ∷ Buffered ∷ Idle ∷ Idle ∷ Buffered ∷
    Missed (line_addr 1025) Read ∷ Idle ∷ ordered_with [] [] ∷ Idle ∷ Idle ∷ Buffered ∷ Idle ∷ Buffered ∷ Ran ∷ Idle ∷
    Idle ∷ Stalled ∷ Idle ∷ Idle ∷ served_with [] [] ∷ Buffered ∷ Armed ∷ Idle ∷ Buffered ∷ Buffered ∷ Buffered ∷
    Missed (line_addr 1025) Read ∷ ordered_with [] [] ∷ Buffered ∷ served_with [] [] ∷ Armed ∷ Idle ∷ Buffered ∷ Idle ∷
    Idle ∷ Buffered ∷ Buffered ∷ Buffered ∷ Buffered ∷ Buffered ∷ Idle ∷ Buffered ∷ Buffered ∷ Idle ∷ Buffered ∷
    Buffered ∷ Buffered ∷ Buffered ∷ Idle ∷ Buffered ∷ Buffered ∷ Idle ∷ Buffered ∷ Buffered ∷ Idle ∷ Idle ∷ Buffered ∷
    Buffered ∷ Buffered ∷ Idle ∷ Idle ∷ Idle ∷ Idle ∷ Buffered ∷ Idle ∷ Buffered ∷ Buffered ∷ Idle ∷ Buffered ∷
    LetGo 15 ∷ Idle ∷ Idle ∷ Buffered ∷ Idle ∷ Buffered ∷ Idle ∷ Idle ∷ Idle ∷ Buffered ∷ Buffered ∷ Idle ∷ Idle ∷
    Idle ∷ Buffered ∷ Idle ∷ Ran ∷ Buffered ∷ Buffered ∷ LetGo 15 ∷ Idle ∷ Buffered ∷ Buffered ∷ Idle ∷ Buffered ∷
    Idle ∷ Ran ∷ Ran ∷ Buffered ∷ Idle ∷ Buffered ∷ Missed (line_addr 1027) Write ∷ Buffered ∷ Idle ∷
    ordered_with [] [] ∷ Ran ∷ Buffered ∷ Missed (line_addr 1027) Write ∷ served_with [] [] ∷ Ran ∷ Buffered ∷ Idle ∷
    Idle ∷ Idle ∷ Idle ∷ Missed (line_addr 1025) Write ∷ Stalled ∷ Buffered ∷ Stalled ∷ Buffered ∷ Idle ∷ LetGo 15 ∷
    Idle ∷ Buffered ∷ Stalled ∷ Buffered ∷ ordered_with [] [] ∷ Idle ∷ Idle ∷ Idle ∷ Buffered ∷ Idle ∷ Ran ∷ Ran ∷
    Idle ∷ served_with [] [] ∷ Idle ∷ Idle ∷ Ran ∷ Buffered ∷ Idle ∷ Idle ∷ Stalled ∷ Idle ∷ Idle ∷
    ordered_with [] ((0, 15) ∷ []) ∷ Ran ∷ Idle ∷ Idle ∷ Stalled ∷ served_with [] [] ∷ Idle ∷ Ran ∷ Ran ∷ Idle ∷
    Missed (line_addr 1024) Read ∷ Ran ∷ ordered_with [] [] ∷ Missed (line_addr 1027) Write ∷
    Missed (line_addr 1025) Write ∷ Missed (line_addr 1027) Write ∷ served_with [] [] ∷ ordered_with [] [] ∷ Stalled ∷
    served_with [] [] ∷ Ran ∷ ordered_with [] [] ∷ ordered_with [] [] ∷ Delivered (lost []) ∷
    Blocked Behind (hart_id 1) ∷ Idle ∷ Blocked Behind (hart_id 1) ∷ Blocked Behind (hart_id 1) ∷
    Missed (line_addr 1024) Read ∷ Stalled ∷ ordered_with [] [] ∷ Blocked Locked (hart_id 2) ∷ Stalled ∷
    Delivered (lost []) ∷ Blocked Behind (hart_id 1) ∷ served_with [] [] ∷ Idle ∷ Blocked Locked (hart_id 1) ∷ Idle ∷
    Ran ∷ served_with [] [] ∷ Blocked Locked (hart_id 2) ∷ Idle ∷ Missed (line_addr 1025) Write ∷ ordered_with [] [] ∷
    Idle ∷ Blocked Locked (hart_id 2) ∷ Idle ∷ Ran ∷ Blocked Locked (hart_id 2) ∷ Missed (line_addr 1025) Write ∷
    Stalled ∷ served_with [] [] ∷ Idle ∷ Idle ∷ Idle ∷ Armed ∷ Idle ∷ served_with [] [] ∷ Began ∷ Ran ∷
    Missed (line_addr 1024) Read ∷ Armed ∷ Idle ∷ ordered_with [] [] ∷ served_with [] [] ∷ Idle ∷
    Missed (line_addr 1026) Read ∷ ordered_with [] [] ∷ Armed ∷ served_with [] [] ∷ ordered_with [] [] ∷ Idle ∷ Idle ∷
    served_with [] [] ∷ Ran ∷ Began ∷ Missed (line_addr 1026) Read ∷ Missed (line_addr 1024) Read ∷ Began ∷
    ordered_with [] [] ∷ Buffered ∷ served_with [] [] ∷ Missed (line_addr 1026) Read ∷ Buffered ∷ Idle ∷ Idle ∷ Idle ∷
    Buffered ∷ Stalled ∷ ordered_with [] [] ∷ Idle ∷ Buffered ∷ Stalled ∷ served_with [] [] ∷ ordered_with [] [] ∷
    Idle ∷ Missed (line_addr 1026) Write ∷ ordered_with ((3, 2) ∷ []) [] ∷ Delivered (lost []) ∷ Buffered ∷ Idle ∷
    served_with [] [] ∷ Armed ∷ Delivered (lost []) ∷ Idle ∷ Armed ∷ Buffered ∷ Began ∷ []

outcomes : outcomes_from first events ≡ expected
unfolding computing
outcomes = refl

abbrev last : Ending
last = record {
  harts =
      record {
        section = None;
        armed = (Some (armed 1 65536));
        last_lr = (Some 131088);
        cache = (way 1024 S true false ∷ []) ∷ (way 1025 M false false ∷ way 1027 M false false ∷ []) ∷ [];
        raised = None;
        held_line = None;
        mail = [];
        told = [];
        upstream = [];
        fallback = false;
        tries = 0;
        clock = 0;
        seen = 0;
        attempt = None;
        predictor = record { counters = (patched (replicate 64 2) ([])); watch = None };
      } ∷ record {
        section = (Some (section 4 65536 0 1));
        armed = None;
        last_lr = (Some 131088);
        cache = (way 1024 S true false ∷ way 1026 S true false ∷ []) ∷ ([]) ∷ [];
        raised = None;
        held_line = None;
        mail = [];
        told = 2 ∷ [];
        upstream = [];
        fallback = false;
        tries = 0;
        clock = 0;
        seen = 0;
        attempt = (Some (stamp 0 1));
        predictor = record { counters = (patched (replicate 64 2) ([])); watch = None };
      } ∷ record {
        section = (Some (section 4 65536 0 1));
        armed = None;
        last_lr = (Some 131088);
        cache = (way 1024 S true false ∷ way 1026 S true false ∷ []) ∷ ([]) ∷ [];
        raised = None;
        held_line = None;
        mail = [];
        told = [];
        upstream = 1 ∷ [];
        fallback = false;
        tries = 0;
        clock = 0;
        seen = 0;
        attempt = (Some (stamp 0 2));
        predictor = record { counters = (patched (replicate 64 2) ([])); watch = None };
      } ∷ record {
        section = (Some (section 2 65536 0 1));
        armed = None;
        last_lr = (Some 131088);
        cache = (way 1024 S true false ∷ way 1026 S false false ∷ []) ∷ ([]) ∷ [];
        raised = None;
        held_line = None;
        mail = [];
        told = [];
        upstream = [];
        fallback = false;
        tries = 0;
        clock = 0;
        seen = 0;
        attempt = (Some (stamp 0 3));
        predictor = record { counters = (patched (replicate 64 2) ([])); watch = None };
      } ∷ [];
  order = (request 2 1026 Write (Some (stamp 0 2))) ∷ [];
  pcs = 131168 ∷ 131168 ∷ 131168 ∷ 131168 ∷ [];
  registers =
      (0 ∷ 0 ∷ 65856 ∷ 0 ∷ 0 ∷ 65536 ∷ 1 ∷ 65600 ∷ 0 ∷ 2 ∷ 0 ∷ 4 ∷ 15 ∷ 0 ∷ 0 ∷ 0 ∷ 0 ∷ 0 ∷ 0 ∷ 0 ∷
      0 ∷ 0 ∷ 0 ∷ 0 ∷ 0 ∷ 0 ∷ 0 ∷ 0 ∷ 0 ∷ 0 ∷ 0 ∷ 0 ∷ []) ∷
      (0 ∷ 0 ∷ 320 ∷ 0 ∷ 0 ∷ 65536 ∷ 1 ∷ 65600 ∷ 0 ∷ 2 ∷ 1 ∷ 4 ∷ 15 ∷ 0 ∷ 0 ∷ 0 ∷ 0 ∷ 0 ∷ 0 ∷ 0 ∷ 0 ∷
      0 ∷ 0 ∷ 0 ∷ 0 ∷ 0 ∷ 0 ∷ 0 ∷ 0 ∷ 0 ∷ 0 ∷ 0 ∷ []) ∷
      (0 ∷ 0 ∷ 4294902080 ∷ 0 ∷ 0 ∷ 65536 ∷ 1 ∷ 65600 ∷ 0 ∷ 2 ∷ 2 ∷ 4 ∷ 15 ∷ 0 ∷ 0 ∷ 0 ∷ 0 ∷ 0 ∷ 0 ∷
      0 ∷ 0 ∷ 0 ∷ 0 ∷ 0 ∷ 0 ∷ 0 ∷ 0 ∷ 0 ∷ 0 ∷ 0 ∷ 0 ∷ 0 ∷ []) ∷
      (0 ∷ 0 ∷ 4294836544 ∷ 0 ∷ 0 ∷ 65536 ∷ 1 ∷ 65600 ∷ 0 ∷ 2 ∷ 3 ∷ 4 ∷ 15 ∷ 0 ∷ 0 ∷ 0 ∷ 0 ∷ 0 ∷ 0 ∷
      0 ∷ 0 ∷ 0 ∷ 0 ∷ 0 ∷ 0 ∷ 0 ∷ 0 ∷ 0 ∷ 0 ∷ 0 ∷ 0 ∷ 0 ∷ []) ∷
      [];
  bytes = patched (replicate 320 0) ((196, 15) ∷ []);
}

ending : ending_of (state_after first events) ≡ last
unfolding computing
ending = refl
