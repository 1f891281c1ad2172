-- an event that finds nothing to do leaves all as it was
use Rattle.std.proofs.Common.{◌≡◌, ◌∙◌, ◌==◌, ◌&&◌, ℕ, true, List, [], ◌∷◌, Option, Some, None, is_none, length}
use Rattle.std.proofs.Common.{refl, ap, sym, subst, arith}
use Rattle.std.proofs.lemmas.Bool.{and_parts}
use Rattle.std.proofs.lemmas.Bool.Decides.{nat_tests}
use Rattle.bus_order.specs.Order.{Request}
use Rattle.el_base.specs.declared.events.Event.{Event}
use Rattle.el_base.specs.declared.events.Kind.{Kind}
use Rattle.el_base.specs.declared.events.Kind.TheVariants as kinds
use Rattle.el_base.specs.declared.outcomes.Outcome.TheVariants.{Idle}
use Rattle.el_model.specs.Deliver.{deliver_next, deliver_turn}
use Rattle.el_model.specs.Next.{kind_turn, next}
use Rattle.el_model.specs.Order.{order_raised, order_turn}
use Rattle.el_model.specs.Serve.{serve_ordered, serve_turn}
use Rattle.el_model.specs.State.{ModelState, hart_of, idle, ordered_of, raised_of}
use Rattle.engine.specs.MainMemory.{back_by, line_written_back, lines_from, with_committed}
use Rattle.engine.specs.Parts.{IsInState, Parts}
use Rattle.engine.specs.Resting.{finds_nothing, is_quiet, nothing_for}
use Rattle.mail.specs.Mailbox.{Message}

nothing_raised : (state : ModelState) (raised : Option Request) → is_none raised ≡ true →
    order_raised state raised ≡ idle state
nothing_raised state None is = refl
nothing_raised state (Some request) is = absurd (cc)

nothing_ordered : (state : ModelState) (ordered : Option Request) → is_none ordered ≡ true →
    serve_ordered state ordered ≡ idle state
nothing_ordered state None is = refl
nothing_ordered state (Some request) is = absurd (cc)

no_mail : (state : ModelState) (h : ℕ) (mail : List Message) → (length mail == 0) ≡ true →
    deliver_next state h mail ≡ idle state
no_mail state h [] is = refl
no_mail state h (message ∷ others) is = absurd (grind (arith, nat_tests, is))

rests_by : (state : ModelState) (h : ℕ) (kind : Kind) → nothing_for state h kind ≡ true →
    kind_turn state h kind ≡ idle state
unfolding order_turn serve_turn deliver_turn
rests_by state h kinds.Step is = absurd (cc)
rests_by state h kinds.Order is = nothing_raised state (raised_of state h) is
rests_by state h kinds.Serve is = nothing_ordered state (ordered_of state h) is
rests_by state h kinds.Deliver is = no_mail state h (hart_of state h).mail is

-- it is idle
pub rests : (state : ModelState) (event : Event) → finds_nothing state event ≡ true → next state event ≡ idle state
unfolding next
rests state event is = rests_by state event.hart.number event.kind is

pub resting_state : (parts : Parts) (state : ModelState) (event : Event) → finds_nothing state event ≡ true →
    IsInState parts state → IsInState parts (next state event).state
resting_state parts state event is inside =
    subst (λ turn. IsInState parts turn.state) (sym (rests state event is)) inside

pub resting_outcome : (state : ModelState) (event : Event) → finds_nothing state event ≡ true →
    Idle ≡ (next state event).outcome
resting_outcome state event is = ap (λ turn. turn.outcome) (sym (rests state event is))

-- and no line is written back
no_back : (state : ModelState) (h : ℕ) (kind : Kind) (lines : List (List ℕ)) →
    lines ≡ with_committed state.committed lines (back_by state h Idle kind)
no_back state h kinds.Step lines = refl
no_back state h kinds.Order lines = refl
no_back state h kinds.Serve lines = refl
no_back state h kinds.Deliver lines = refl

pub resting_lines : (state : ModelState) (event : Event) (lines : List (List ℕ)) → finds_nothing state event ≡ true →
    lines ≡ lines_from state event lines
unfolding lines_from line_written_back
resting_lines state event lines is =
    no_back state event.hart.number event.kind lines
    ∙ ap (λ outcome. with_committed state.committed lines (back_by state event.hart.number outcome event.kind))
    (resting_outcome state event is)

-- where the bus is quiet for a hart, each of its events in the hart's turn finds nothing
pub quiet_each : (state : ModelState) (h : ℕ) → is_quiet state h ≡ true →
    (nothing_for state h kinds.Order ≡ true) × (nothing_for state h kinds.Serve ≡ true)
    × (nothing_for state h kinds.Deliver ≡ true)
quiet_each state h is =
    let order = nothing_for state h kinds.Order in
    let serve = nothing_for state h kinds.Serve in
    let both = and_parts (order && serve) (nothing_for state h kinds.Deliver) is in
    let first = and_parts order serve both.0 in (first.0, first.1, both.1)
