-- 3 harts in lock removal, 300 random events over LR and SC: 3 of Armed, 3 of LetGo, 3 of Committed
use Rattle.std.proofs.Common.{◌≡◌, ℕ, true, false, List, [], ◌∷◌, Some, None, replicate, refl}
use Rattle.el_base.specs.HartId.{hart_id}
use Rattle.el_base.specs.LineAddr.{line_addr}
use Rattle.el_base.specs.declared.config.Config.{Config}
use Rattle.el_base.specs.declared.config.Mode.TheVariants.{Plain, Sle, Tlr}
use Rattle.el_base.specs.declared.events.Event.{Event}
use Rattle.el_base.specs.declared.events.Kind.TheVariants.{Step, Order, Serve, Deliver}
use Rattle.el_base.specs.declared.outcomes.Cause.TheVariants.{Room, Lines, Long, Call, Mixed}
use Rattle.el_base.specs.declared.outcomes.Need.TheVariants.{Read, Write}
use Rattle.el_base.specs.declared.outcomes.Outcome.{Outcome}
use Rattle.el_base.specs.declared.outcomes.Outcome.TheVariants.{Idle, Stalled, Missed, Ran, Began, Buffered, Committed}
use Rattle.el_base.specs.declared.outcomes.Outcome.TheVariants.{RolledBack, Blocked}
use Rattle.el_base.specs.declared.outcomes.Outcome.TheVariants.{Delivered, Armed, LetGo}
use Rattle.el_base.specs.declared.outcomes.Why.TheVariants.{Behind, Retained, Locked}
use Rattle.computed_runs.proofs.Computing.{computing}
use Rattle.computed_runs.proofs.Given.{Ending, armed, ending_of, event, first_state, lost, ordered_with, patched}
use Rattle.computed_runs.proofs.Given.{request, section, served_with}
use Rattle.computed_runs.proofs.Given.{stamp, watch, way}
use Rattle.el_model.specs.Next.{outcomes_from, state_after}
use Rattle.el_model.specs.State.{Hart, ModelState}
use Rattle.mail.specs.Mailbox.{Marker, Probe}
use Rattle.moesi.specs.declared.letter.Letter.TheVariants.{M, O, E, S}

abbrev config : Config
config = record {
  harts = 3;
  mode = Tlr;
  sets = 4;
  ways = 3;
  lines = 3;
  long = 20;
  steps = 300;
}

abbrev words : List ℕ
words =
    66231 ∷ 1049363 ∷ 2098323 ∷ 140682287 ∷ 172067 ∷ 67273619 ∷ 140747823 ∷ 44215843 ∷ 6624355 ∷ 209888771 ∷ 67273619 ∷
    268674095 ∷ 267363 ∷ 409118127 ∷ 12754979 ∷ 113421859 ∷ 268608559 ∷ 6530735 ∷ 342007843 ∷ 279094307 ∷ 4225757295 ∷
    []

abbrev first : ModelState
first = first_state config 65536 384 131072 words

abbrev events : List Event
events =
    event Step 2 ∷ event Step 1 ∷ event Order 0 ∷ event Step 0 ∷ event Step 2 ∷ event Step 0 ∷ event Step 1 ∷
    event Step 0 ∷ event Step 2 ∷ event Step 2 ∷ event Step 1 ∷ event Step 0 ∷ event Order 0 ∷ event Deliver 1 ∷
    event Order 0 ∷ event Order 2 ∷ event Serve 2 ∷ event Step 1 ∷ event Step 2 ∷ event Deliver 2 ∷ event Deliver 0 ∷
    event Serve 2 ∷ event Deliver 1 ∷ event Order 1 ∷ event Serve 1 ∷ event Serve 0 ∷ event Serve 1 ∷ event Serve 1 ∷
    event Order 0 ∷ event Serve 2 ∷ event Deliver 1 ∷ event Step 0 ∷ event Serve 2 ∷ event Step 0 ∷ event Serve 1 ∷
    event Serve 1 ∷ event Step 2 ∷ event Step 2 ∷ event Step 2 ∷ event Step 0 ∷ event Step 0 ∷ event Order 0 ∷
    event Order 0 ∷ event Step 2 ∷ event Deliver 2 ∷ event Order 1 ∷ event Order 0 ∷ event Serve 1 ∷ event Serve 0 ∷
    event Serve 2 ∷ event Order 2 ∷ event Serve 2 ∷ event Step 0 ∷ event Serve 2 ∷ event Step 2 ∷ event Step 1 ∷
    event Deliver 0 ∷ event Step 1 ∷ event Step 2 ∷ event Step 0 ∷ event Serve 2 ∷ event Serve 1 ∷ event Step 1 ∷
    event Step 1 ∷ event Order 2 ∷ event Serve 2 ∷ event Order 0 ∷ event Order 0 ∷ event Serve 0 ∷ event Step 2 ∷
    event Step 0 ∷ event Order 1 ∷ event Step 2 ∷ event Deliver 0 ∷ event Order 0 ∷ event Serve 2 ∷ event Step 0 ∷
    event Serve 1 ∷ event Serve 2 ∷ event Step 1 ∷ event Deliver 0 ∷ event Step 0 ∷ event Step 0 ∷ event Deliver 0 ∷
    event Order 2 ∷ event Step 1 ∷ event Order 1 ∷ event Order 0 ∷ event Deliver 2 ∷ event Deliver 0 ∷ event Step 0 ∷
    event Serve 0 ∷ event Step 0 ∷ event Step 0 ∷ event Deliver 1 ∷ event Order 0 ∷ event Order 1 ∷ event Serve 2 ∷
    event Serve 1 ∷ event Step 0 ∷ event Serve 0 ∷ event Deliver 2 ∷ event Step 0 ∷ event Step 0 ∷ event Order 1 ∷
    event Deliver 2 ∷ event Order 1 ∷ event Serve 0 ∷ event Step 0 ∷ event Deliver 1 ∷ event Deliver 2 ∷
    event Serve 1 ∷ event Deliver 2 ∷ event Deliver 1 ∷ event Serve 0 ∷ event Serve 2 ∷ event Deliver 2 ∷
    event Step 0 ∷ event Step 2 ∷ event Deliver 0 ∷ event Step 0 ∷ event Order 0 ∷ event Deliver 0 ∷ event Deliver 1 ∷
    event Order 2 ∷ event Serve 2 ∷ event Step 0 ∷ event Step 2 ∷ event Serve 1 ∷ event Deliver 0 ∷ event Deliver 2 ∷
    event Step 1 ∷ event Order 2 ∷ event Step 2 ∷ event Order 2 ∷ event Serve 0 ∷ event Serve 2 ∷ event Step 0 ∷
    event Step 0 ∷ event Deliver 2 ∷ event Step 0 ∷ event Step 1 ∷ event Step 2 ∷ event Serve 0 ∷ event Order 1 ∷
    event Step 2 ∷ event Serve 2 ∷ event Step 0 ∷ event Order 0 ∷ event Deliver 0 ∷ event Serve 1 ∷ event Serve 0 ∷
    event Order 2 ∷ event Serve 0 ∷ event Deliver 1 ∷ event Deliver 2 ∷ event Deliver 2 ∷ event Serve 2 ∷
    event Step 2 ∷ event Step 2 ∷ event Serve 1 ∷ event Order 2 ∷ event Step 0 ∷ event Step 2 ∷ event Step 1 ∷
    event Step 1 ∷ event Step 2 ∷ event Order 0 ∷ event Order 2 ∷ event Serve 2 ∷ event Serve 1 ∷ event Order 1 ∷
    event Deliver 1 ∷ event Order 1 ∷ event Serve 1 ∷ event Deliver 1 ∷ event Deliver 1 ∷ event Step 2 ∷
    event Deliver 2 ∷ event Step 2 ∷ event Deliver 0 ∷ event Serve 0 ∷ event Deliver 0 ∷ event Step 2 ∷ event Serve 1 ∷
    event Step 0 ∷ event Serve 1 ∷ event Deliver 2 ∷ event Deliver 1 ∷ event Step 0 ∷ event Serve 0 ∷ event Step 1 ∷
    event Step 2 ∷ event Order 2 ∷ event Step 2 ∷ event Deliver 1 ∷ event Step 0 ∷ event Step 1 ∷ event Order 1 ∷
    event Deliver 1 ∷ event Serve 2 ∷ event Serve 1 ∷ event Step 0 ∷ event Step 1 ∷ event Order 0 ∷ event Order 2 ∷
    event Step 0 ∷ event Deliver 2 ∷ event Deliver 1 ∷ event Step 2 ∷ event Step 2 ∷ event Serve 2 ∷ event Order 2 ∷
    event Deliver 2 ∷ event Step 0 ∷ event Deliver 0 ∷ event Deliver 0 ∷ event Step 1 ∷ event Serve 2 ∷ event Step 1 ∷
    event Deliver 2 ∷ event Serve 2 ∷ event Serve 2 ∷ event Order 1 ∷ event Serve 2 ∷ event Serve 2 ∷ event Step 2 ∷
    event Order 2 ∷ event Order 2 ∷ event Order 0 ∷ event Serve 0 ∷ event Deliver 2 ∷ event Serve 1 ∷ event Serve 2 ∷
    event Serve 2 ∷ event Serve 0 ∷ event Order 1 ∷ event Step 1 ∷ event Step 1 ∷ event Step 0 ∷ event Serve 2 ∷
    event Step 1 ∷ event Order 1 ∷ event Serve 0 ∷ event Deliver 2 ∷ event Deliver 2 ∷ event Deliver 2 ∷
    event Serve 1 ∷ event Step 0 ∷ event Step 2 ∷ event Serve 1 ∷ event Order 2 ∷ event Deliver 0 ∷ event Order 1 ∷
    event Serve 2 ∷ event Order 2 ∷ event Order 0 ∷ event Serve 0 ∷ event Step 1 ∷ event Deliver 2 ∷ event Step 2 ∷
    event Step 2 ∷ event Serve 0 ∷ event Order 0 ∷ event Step 2 ∷ event Order 2 ∷ event Serve 2 ∷ event Step 0 ∷
    event Step 0 ∷ event Serve 1 ∷ event Serve 2 ∷ event Step 0 ∷ event Step 2 ∷ event Serve 2 ∷ event Step 2 ∷
    event Deliver 2 ∷ event Step 0 ∷ event Order 2 ∷ event Serve 1 ∷ event Serve 2 ∷ event Serve 1 ∷ event Deliver 1 ∷
    event Order 1 ∷ event Step 1 ∷ event Order 0 ∷ event Serve 0 ∷ event Step 2 ∷ event Step 2 ∷ event Serve 0 ∷
    event Step 2 ∷ event Step 1 ∷ event Deliver 1 ∷ event Order 1 ∷ event Serve 1 ∷ event Step 1 ∷ event Step 0 ∷
    event Order 1 ∷ event Deliver 2 ∷ event Step 1 ∷ event Serve 0 ∷ []

abbrev expected : List Outcome
expected =
    Ran ∷ Ran ∷ Idle ∷ Ran ∷ Ran ∷ Ran ∷ Ran ∷ Ran ∷ Ran ∷ Missed (line_addr 1024) Read ∷ Ran ∷
    Missed (line_addr 1024) Read ∷ ordered_with [] [] ∷ Idle ∷ Idle ∷ ordered_with [] [] ∷ Blocked Behind (hart_id 0) ∷
    Missed (line_addr 1024) Read ∷ Stalled ∷ Delivered (lost []) ∷ Delivered (lost []) ∷ Blocked Behind (hart_id 0) ∷
    Idle ∷ ordered_with [] [] ∷ Blocked Behind (hart_id 0) ∷ served_with [] [] ∷ Blocked Behind (hart_id 2) ∷
    Blocked Behind (hart_id 2) ∷ Idle ∷ Blocked Locked (hart_id 0) ∷ Delivered (lost []) ∷ Began ∷ served_with [] [] ∷
    Committed 2 ∷ Blocked Locked (hart_id 2) ∷ Blocked Locked (hart_id 2) ∷ Began ∷ Committed 2 ∷ Ran ∷ Ran ∷
    Missed (line_addr 1025) Read ∷ ordered_with [] [] ∷ Idle ∷ Missed (line_addr 1025) Read ∷ Delivered (lost []) ∷
    Idle ∷ Idle ∷ served_with [] [] ∷ served_with [] [] ∷ Idle ∷ ordered_with [] [] ∷ Blocked Locked (hart_id 0) ∷
    Began ∷ served_with [] [] ∷ Began ∷ Began ∷ Idle ∷ Committed 2 ∷ Missed (line_addr 1024) Write ∷
    Missed (line_addr 1024) Write ∷ Idle ∷ Idle ∷ Ran ∷ Missed (line_addr 1025) Read ∷ ordered_with [] [] ∷
    served_with [] [] ∷ ordered_with ((2, 0) ∷ []) [] ∷ Idle ∷ served_with [] [] ∷ Began ∷ Buffered ∷
    ordered_with [] [] ∷ Missed (line_addr 1024) Write ∷ Idle ∷ Idle ∷ Idle ∷ Buffered ∷ served_with [] [] ∷ Idle ∷
    Began ∷ Idle ∷ Buffered ∷ Buffered ∷ Idle ∷ ordered_with [] [] ∷ Missed (line_addr 1024) Write ∷
    ordered_with [] [] ∷ Idle ∷ Delivered (lost []) ∷ Delivered (lost []) ∷ Buffered ∷ Idle ∷ Buffered ∷
    Missed (line_addr 1025) Write ∷ Delivered (lost []) ∷ ordered_with ((1, 0) ∷ (2, 0) ∷ []) [] ∷ Idle ∷
    Blocked Retained (hart_id 0) ∷ Blocked Behind (hart_id 2) ∷ Stalled ∷ served_with [] [] ∷ Delivered (lost []) ∷
    Buffered ∷ Buffered ∷ Idle ∷ Idle ∷ Idle ∷ Idle ∷ RolledBack Mixed ∷ Idle ∷ Idle ∷ Blocked Behind (hart_id 2) ∷
    Idle ∷ Idle ∷ Idle ∷ served_with [] [] ∷ Idle ∷ Ran ∷ Missed (line_addr 1025) Read ∷ Delivered (lost []) ∷
    Missed (line_addr 1024) Write ∷ ordered_with [] [] ∷ Delivered (lost []) ∷ Delivered (lost []) ∷
    ordered_with [] [] ∷ served_with [] [] ∷ Stalled ∷ Missed (line_addr 1025) Write ∷ served_with [] [] ∷ Idle ∷
    Delivered (lost []) ∷ Missed (line_addr 1025) Read ∷ ordered_with [] [] ∷ Stalled ∷ Idle ∷ served_with [] [] ∷
    served_with [] [] ∷ Ran ∷ Ran ∷ Idle ∷ Ran ∷ Stalled ∷ Ran ∷ Idle ∷ ordered_with [] [] ∷
    Missed (line_addr 1024) Write ∷ Idle ∷ Missed (line_addr 1025) Read ∷ ordered_with [] [] ∷ Delivered (lost []) ∷
    served_with [] [] ∷ Blocked Locked (hart_id 1) ∷ ordered_with [] [] ∷ Blocked Locked (hart_id 1) ∷
    Delivered (lost []) ∷ Idle ∷ Idle ∷ served_with [] [] ∷ Ran ∷ Ran ∷ Idle ∷ Idle ∷ Stalled ∷ Ran ∷
    Missed (line_addr 1025) Write ∷ Stalled ∷ Armed ∷ Idle ∷ Idle ∷ Idle ∷ Idle ∷ ordered_with [] [] ∷
    Delivered (lost []) ∷ Idle ∷ Blocked Behind (hart_id 0) ∷ Idle ∷ Idle ∷ Buffered ∷ Idle ∷ LetGo 2 ∷
    Delivered (lost []) ∷ served_with [] [] ∷ Idle ∷ Ran ∷ Blocked Locked (hart_id 0) ∷ Ran ∷ served_with [] [] ∷
    Idle ∷ Idle ∷ Ran ∷ Idle ∷ Ran ∷ Missed (line_addr 1025) Write ∷ ordered_with [] [] ∷ Stalled ∷ Idle ∷
    Missed (line_addr 1024) Write ∷ Missed (line_addr 1024) Write ∷ ordered_with [] [] ∷ Idle ∷ served_with [] [] ∷
    served_with [] [] ∷ Stalled ∷ Ran ∷ ordered_with [] [] ∷ Idle ∷ Stalled ∷ Idle ∷ Idle ∷ Ran ∷
    Missed (line_addr 1024) Read ∷ Idle ∷ ordered_with [] [] ∷ Delivered (lost []) ∷ Stalled ∷ Delivered (lost []) ∷
    Idle ∷ Ran ∷ Blocked Behind (hart_id 0) ∷ Missed (line_addr 1027) Read ∷ Idle ∷ Blocked Behind (hart_id 0) ∷
    Blocked Behind (hart_id 0) ∷ ordered_with [] [] ∷ Blocked Behind (hart_id 0) ∷ Blocked Behind (hart_id 0) ∷
    Stalled ∷ Idle ∷ Idle ∷ Idle ∷ served_with [] [] ∷ Idle ∷ served_with [] [] ∷ Blocked Locked (hart_id 0) ∷
    Blocked Locked (hart_id 0) ∷ Idle ∷ Idle ∷ Ran ∷ Ran ∷ Ran ∷ served_with [] [] ∷ Missed (line_addr 1025) Read ∷
    ordered_with [] [] ∷ Idle ∷ Idle ∷ Idle ∷ Idle ∷ served_with [] [] ∷ Missed (line_addr 1025) Write ∷ Armed ∷ Idle ∷
    Idle ∷ Idle ∷ Idle ∷ Idle ∷ Idle ∷ ordered_with [] [] ∷ Blocked Locked (hart_id 1) ∷ Ran ∷ Idle ∷ LetGo 1 ∷
    Missed (line_addr 1025) Write ∷ served_with [] [] ∷ Idle ∷ Stalled ∷ ordered_with [] [] ∷
    Blocked Locked (hart_id 0) ∷ Ran ∷ Armed ∷ Idle ∷ served_with [] [] ∷ LetGo 1 ∷ Ran ∷ Idle ∷
    Missed (line_addr 1029) Write ∷ Idle ∷ Missed (line_addr 1025) Write ∷ ordered_with [] [] ∷ Idle ∷
    served_with [] [] ∷ Idle ∷ Idle ∷ Idle ∷ Ran ∷ ordered_with [] [] ∷ served_with [] [] ∷ Ran ∷
    Missed (line_addr 1028) Write ∷ Idle ∷ Stalled ∷ Missed (line_addr 1024) Write ∷ Idle ∷ ordered_with [] [] ∷
    served_with [] [] ∷ Ran ∷ Ran ∷ Idle ∷ Idle ∷ Missed (line_addr 1025) Write ∷ Idle ∷ []

outcomes : outcomes_from first events ≡ expected
unfolding computing
outcomes = refl

abbrev last : Ending
last = record {
  harts =
      record {
        section = None;
        armed = None;
        last_lr = (Some 131136);
        cache = ([]) ∷ (way 1025 M false false ∷ []) ∷ ([]) ∷ ([]) ∷ [];
        raised = None;
        held_line = None;
        mail = [];
        told = [];
        upstream = [];
        fallback = false;
        tries = 0;
        clock = 2;
        seen = 1;
        attempt = None;
        predictor = record { counters = (patched (replicate 64 2) ((3, 3) ∷ (6, 0) ∷ [])); watch = None };
      } ∷ record {
        section = None;
        armed = None;
        last_lr = (Some 131116);
        cache = (way 1024 M false false ∷ []) ∷ ([]) ∷ ([]) ∷ (way 1027 E false false ∷ []) ∷ [];
        raised = (Some (request 1 1025 Write (Some (stamp 1 1))));
        held_line = None;
        mail = [];
        told = [];
        upstream = [];
        fallback = false;
        tries = 0;
        clock = 1;
        seen = 1;
        attempt = (Some (stamp 1 1));
        predictor = record { counters = (patched (replicate 64 2) ((3, 3) ∷ [])); watch = None };
      } ∷ record {
        section = None;
        armed = None;
        last_lr = (Some 131136);
        cache = ([]) ∷ (way 1029 M false false ∷ []) ∷ ([]) ∷ ([]) ∷ [];
        raised = (Some (request 2 1028 Write (Some (stamp 1 2))));
        held_line = None;
        mail = [];
        told = [];
        upstream = [];
        fallback = false;
        tries = 0;
        clock = 1;
        seen = 1;
        attempt = (Some (stamp 1 2));
        predictor = record { counters = (patched (replicate 64 2) ((3, 3) ∷ [])); watch = None };
      } ∷ [];
  order = [];
  pcs = 131144 ∷ 131132 ∷ 131148 ∷ [];
  registers =
      (0 ∷ 0 ∷ 65920 ∷ 0 ∷ 0 ∷ 65536 ∷ 1 ∷ 65600 ∷ 0 ∷ 2 ∷ 0 ∷ 3 ∷ 0 ∷ 2 ∷ 0 ∷ 0 ∷ 0 ∷ 0 ∷ 0 ∷ 0 ∷ 0 ∷
      0 ∷ 0 ∷ 0 ∷ 0 ∷ 0 ∷ 0 ∷ 0 ∷ 0 ∷ 0 ∷ 0 ∷ 0 ∷ []) ∷
      (0 ∷ 0 ∷ 384 ∷ 0 ∷ 0 ∷ 65536 ∷ 1 ∷ 65600 ∷ 1 ∷ 2 ∷ 1 ∷ 3 ∷ 0 ∷ 0 ∷ 0 ∷ 0 ∷ 0 ∷ 0 ∷ 0 ∷ 0 ∷ 0 ∷
      0 ∷ 0 ∷ 0 ∷ 0 ∷ 0 ∷ 0 ∷ 0 ∷ 0 ∷ 0 ∷ 0 ∷ 0 ∷ []) ∷
      (0 ∷ 0 ∷ 4294902144 ∷ 0 ∷ 0 ∷ 65536 ∷ 1 ∷ 65600 ∷ 0 ∷ 2 ∷ 2 ∷ 3 ∷ 0 ∷ 1 ∷ 0 ∷ 0 ∷ 0 ∷ 0 ∷ 0 ∷
      0 ∷ 0 ∷ 0 ∷ 0 ∷ 0 ∷ 0 ∷ 0 ∷ 0 ∷ 0 ∷ 0 ∷ 0 ∷ 0 ∷ 0 ∷ []) ∷
      [];
  bytes = patched (replicate 384 0) ((60, 1) ∷ (64, 3) ∷ (320, 1) ∷ []);
}

ending : ending_of (state_after first events) ≡ last
unfolding computing
ending = refl
