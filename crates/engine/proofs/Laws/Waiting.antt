-- a hart that waits in its whole turn: each of its events leaves all as it was
use Rattle.std.proofs.Common.{◌≡◌, ◌∙◌, ◌&&◌, ℕ, Bool, true, false, not, Option, Some, None, is_some, refl, ap, sym}
use Rattle.std.specs.Prelude.{if◌then◌else◌}
use Rattle.std.proofs.lemmas.Bool.{and_parts, or_right}
use Rattle.bus_order.specs.Order.{Request}
use Rattle.el_base.specs.HartId.{hart_id}
use Rattle.el_base.specs.declared.events.Event.{Event}
use Rattle.el_base.specs.declared.events.Kind.TheVariants as kinds
use Rattle.el_base.specs.declared.hart_id.HartId.{HartId}
use Rattle.el_base.specs.declared.outcomes.Outcome.{Outcome}
use Rattle.el_base.specs.declared.outcomes.Outcome.TheVariants.{Blocked, Idle, Stalled}
use Rattle.el_model.specs.Next.{has_stopped, next}
use Rattle.el_model.specs.Serve.{Blocks, Free, Obstacle, obstacle_to, serve_ordered, serve_turn}
use Rattle.el_model.specs.State.{ModelState, Turn, has_request, ordered_of, raised_of}
use Rattle.engine.proofs.Laws.NothingFound.{resting_lines, rests}
use Rattle.engine.proofs.Steps.{stalled_turn}
use Rattle.engine.specs.MainMemory.{back_as, back_by, line_written_back, lines_from, with_committed}
use Rattle.engine.specs.Resting.{Leaves, blocked_request, finds_nothing, is_still, nothing_for, waiting_of}
use Rattle.rv_alu.specs.declared.view.HartStatus.{HartStatus}
use Rattle.rv_alu.specs.declared.view.HartStatus.TheVariants.{Exited, Running, Trapped}
use Rattle.rv_flat.specs.FlatState.{status_of}
use Rattle.snoop.specs.Obstacles.{blocked_by}
use Rattle.snoop.proofs.Laws.Blocking.{past_blocked}

-- how a hart stands that waits
pub record Waits (state : ModelState) (h : ℕ) (blocked : Outcome) : Type 0 where
  pub running : status_of state.committed h ≡ Running
  pub raised : nothing_for state h kinds.Order ≡ true
  pub mail : nothing_for state h kinds.Deliver ≡ true
  pub request : Request
  pub ordered : ordered_of state h ≡ Some request
  pub blocks : blocked_by (obstacle_to state request) ≡ Some blocked

then_way : (test : Bool) (found : Option Outcome) (outcome : Outcome) → (if test then found else None) ≡ Some outcome →
    (test ≡ true) × (found ≡ Some outcome)
then_way true found outcome is = (refl, is)
then_way false found outcome is = absurd (cc)

goes : (status : HartStatus) → not (has_stopped status) ≡ true → status ≡ Running
goes Running is = refl
goes (Exited code) is = absurd (cc)
goes (Trapped cause pc) is = absurd (cc)

waits_with : (state : ModelState) (h : ℕ) (blocked : Outcome) (ordered : Option Request) →
    ordered_of state h ≡ ordered → is_still state h ≡ true → blocked_request state ordered ≡ Some blocked →
    Waits state h blocked
waits_with state h blocked None ordered still is = absurd (cc)
waits_with state h blocked (Some request) ordered still is =
    let raised = nothing_for state h kinds.Order in
    let mail = nothing_for state h kinds.Deliver in
    let both = and_parts (not (has_stopped (status_of state.committed h))) (raised && mail) still in
    let rest = and_parts raised mail both.1 in
    record {
      running = goes (status_of state.committed h) both.0;
      raised = rest.0;
      mail = rest.1;
      request = request;
      ordered = ordered;
      blocks = is;
    }

pub waits_as : (state : ModelState) (h : ℕ) (blocked : Outcome) → waiting_of state h ≡ Some blocked →
    Waits state h blocked
waits_as state h blocked is =
    let way = then_way (is_still state h) (blocked_request state (ordered_of state h)) blocked is in
    waits_with state h blocked (ordered_of state h) refl way.0 way.1

-- an event that leaves the state, with an outcome by which no line is written back, leaves main memory
leaves : (state : ModelState) (event : Event) (outcome : Outcome) →
    next state event ≡ record { state = state; outcome = outcome } →
    back_by state event.hart.number outcome event.kind ≡ None → Leaves state event outcome
unfolding lines_from line_written_back
leaves state event outcome turn none = record {
  turn = turn;
  lines = λ lines.
      sym
      (ap (λ (turn : Turn). with_committed state.committed lines
      (back_by state event.hart.number turn.outcome event.kind)) turn
      ∙ ap (with_committed state.committed lines) none);
}

pub nothing_leaves : (state : ModelState) (event : Event) → finds_nothing state event ≡ true → Leaves state event Idle
nothing_leaves state event nothing =
    record { turn = rests state event nothing; lines = λ lines. resting_lines state event lines nothing }

waits_for : (state : ModelState) (h : ℕ) (blocked : Outcome) → Waits state h blocked → has_request state h ≡ true
waits_for state h blocked waits =
    or_right (is_some (raised_of state h)) (is_some (ordered_of state h)) (ap is_some waits.ordered)

step_stalls : (state : ModelState) (hart : HartId) (blocked : Outcome) → Waits state hart.number blocked →
    Leaves state (record { kind = kinds.Step; hart = hart }) Stalled
unfolding next
step_stalls state hart blocked waits =
    leaves state (record { kind = kinds.Step; hart = hart }) Stalled
    (stalled_turn state hart.number waits.running (waits_for state hart.number blocked waits)) refl

none_back : (state : ModelState) (h : ℕ) (obstacle : Obstacle) (blocked : Outcome) →
    blocked_by obstacle ≡ Some blocked → back_as state h blocked ≡ None
none_back state h Free blocked is = absurd (cc)
none_back state h (Blocks why by) blocked is =
    let same : Blocked why (hart_id by) ≡ blocked = cc in ap (back_as state h) (sym same)

serve_is_blocked : (state : ModelState) (hart : HartId) (blocked : Outcome) → Waits state hart.number blocked →
    Leaves state (record { kind = kinds.Serve; hart = hart }) blocked
unfolding next serve_turn
serve_is_blocked state hart blocked waits =
    leaves state (record { kind = kinds.Serve; hart = hart }) blocked
    (ap (serve_ordered state) waits.ordered ∙ past_blocked state waits.request (obstacle_to state waits.request)
    blocked waits.blocks)
    (none_back state hart.number (obstacle_to state waits.request) blocked waits.blocks)

-- in such a turn the step stalls, the serve is blocked, and the two others find nothing
pub record LeavesTurn (state : ModelState) (hart : HartId) (blocked : Outcome) : Type 0 where
  pub step : Leaves state (record { kind = kinds.Step; hart = hart }) Stalled
  pub order : Leaves state (record { kind = kinds.Order; hart = hart }) Idle
  pub serve : Leaves state (record { kind = kinds.Serve; hart = hart }) blocked
  pub deliver : Leaves state (record { kind = kinds.Deliver; hart = hart }) Idle

pub waits_throughout : (state : ModelState) (hart : HartId) (blocked : Outcome) →
    waiting_of state hart.number ≡ Some blocked → LeavesTurn state hart blocked
waits_throughout state hart blocked is =
    let waits = waits_as state hart.number blocked is in
    record {
      step = step_stalls state hart blocked waits;
      order = nothing_leaves state (record { kind = kinds.Order; hart = hart }) waits.raised;
      serve = serve_is_blocked state hart blocked waits;
      deliver = nothing_leaves state (record { kind = kinds.Deliver; hart = hart }) waits.mail;
    }
