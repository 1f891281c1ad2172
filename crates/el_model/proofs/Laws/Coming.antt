-- each outcome comes exactly where its rule says
use Rattle.std.proofs.Common.{◌≡◌, ◌∙◌, ℕ, Bool, true, false, List, [], ◌∷◌, Option, Some, None, refl, ap, sym, subst}
use Rattle.std.proofs.Common.{inl, inr, if◌then◌else◌}
use Rattle.std.specs.Prelude.{◌↔◌, ◌⊎◌}
use Rattle.bus_order.specs.Order.{Request}
use Rattle.el_base.specs.LineAddr.{line_addr}
use Rattle.el_base.specs.declared.events.Event.{Event}
use Rattle.el_base.specs.declared.events.Kind.{Kind}
use Rattle.el_base.specs.declared.events.Kind.TheVariants as kinds
use Rattle.el_base.specs.declared.outcomes.Need.{Need}
use Rattle.el_base.specs.declared.outcomes.Outcome.{Outcome}
use Rattle.el_base.specs.declared.outcomes.Outcome.TheVariants.{Idle, Stalled, Missed, Ran, Began, Buffered, Committed}
use Rattle.el_base.specs.declared.outcomes.Outcome.TheVariants.{RolledBack, Ordered, Served}
use Rattle.el_base.specs.declared.outcomes.Outcome.TheVariants.{Blocked, Delivered, Armed, LetGo}
use Rattle.el_model.specs.Armed.{ArmedRule, Continues, Elides, LetsGo, armed_rule, armed_turn, by_armed_rule}
use Rattle.el_model.specs.Causes.{ComesWhere, Goes, GoesArmed, GoesInside, GoesOutside, NothingToDo, Waits}
use Rattle.el_model.specs.Deliver.{deliver_next, deliver_turn}
use Rattle.el_model.specs.InSection as inside
use Rattle.el_model.specs.InSection.{SectionRule, by_section_rule, section_rule, section_turn}
use Rattle.el_model.specs.Next.{going_turn, kind_turn, next, outside_turn, stalled, status_turn, step_turn}
use Rattle.el_model.specs.Order.{order_freed, order_raised, order_turn}
use Rattle.el_model.specs.Plain as outside
use Rattle.el_model.specs.Plain.{PlainRule, by_plain_rule, plain_rule, plain_turn}
use Rattle.el_model.specs.Serve.{Blocks, Free, Obstacle, obstacle_to, serve_freed, serve_ordered, serve_past}
use Rattle.el_model.specs.Serve.{serve_turn}
use Rattle.el_model.specs.State as states
use Rattle.el_model.specs.State.{ModelState, Section, Turn, armed_of, has_request, hart_of, ordered_of, raised_of}
use Rattle.el_model.specs.State.{section_of}
use Rattle.el_model.specs.Upcoming.{Swap, Touch}
use Rattle.mail.specs.Mailbox.{Message}
use Rattle.rv_alu.specs.declared.view.HartStatus.{HartStatus}
use Rattle.rv_alu.specs.declared.view.HartStatus.TheVariants.{Running, Exited, Trapped}
use Rattle.rv_flat.specs.FlatState.{status_of}

abbrev Told : ModelState → Event → Turn → Type 0
Told state event turn = ComesWhere state event turn.outcome

plain_told : (state : ModelState) (event : Event) → Goes state event → section_of state event.hart.number ≡ None →
    armed_of state event.hart.number ≡ None → (rule : PlainRule) → plain_rule state event.hart.number ≡ rule →
    Told state event (by_plain_rule state event.hart.number rule)
unfolding by_plain_rule
plain_told state event goes out unarmed (outside.Runs touch) is =
    (touch, record { goes = goes; outside = out; unarmed = unarmed; rule_is = is })
plain_told state event goes out unarmed (outside.Misses line need) is =
    (line, refl, record { by_rule = inl (record { goes = goes; outside = out; unarmed = unarmed; rule_is = is }) })
plain_told state event goes out unarmed (outside.Begins swap) is =
    (swap, record { by_rule = inl (record { goes = goes; outside = out; unarmed = unarmed; rule_is = is }) })
plain_told state event goes out unarmed (outside.Arms word) is =
    (word, record { goes = goes; outside = out; unarmed = unarmed; rule_is = is })

armed_told : (state : ModelState) (event : Event) (armed : states.Armed) → Goes state event →
    section_of state event.hart.number ≡ None → armed_of state event.hart.number ≡ Some armed → (rule : ArmedRule) →
    armed_rule state event.hart.number armed ≡ rule →
    Told state event (by_armed_rule state event.hart.number armed rule)
unfolding by_armed_rule
armed_told state event armed goes out armed_is (Elides swap) is =
    (swap, record { by_rule = inr (armed, record { goes = goes; outside = out; is_armed = armed_is; rule_is = is }) })
armed_told state event armed goes out armed_is Continues is =
    record { by_rule = inr (armed, record { goes = goes; outside = out; is_armed = armed_is; rule_is = is }) }
armed_told state event armed goes out armed_is LetsGo is =
    (armed, refl, record { goes = goes; outside = out; is_armed = armed_is; rule_is = is })

section_told : (state : ModelState) (event : Event) (section : Section) → Goes state event →
    section_of state event.hart.number ≡ Some section → (rule : SectionRule) →
    section_rule state event.hart.number section ≡ rule →
    Told state event (by_section_rule state event.hart.number section rule)
unfolding by_section_rule
section_told state event section goes live (inside.RollsBack cause) is =
    (section, record { goes = goes; inside = live; rule_is = is })
section_told state event section goes live inside.Commits is =
    (section, refl, record { goes = goes; inside = live; rule_is = is })
section_told state event section goes live (inside.Buffers touch) is =
    record { by_rule = inl (section, touch, record { goes = goes; inside = live; rule_is = is }) }
section_told state event section goes live (inside.Misses line need) is =
    (line, refl, record { by_rule = inr (section, record { goes = goes; inside = live; rule_is = is }) })

outside_told : (state : ModelState) (event : Event) → Goes state event → section_of state event.hart.number ≡ None →
    (armed : Option states.Armed) → armed_of state event.hart.number ≡ armed →
    Told state event (outside_turn state event.hart.number armed)
unfolding plain_turn armed_turn
outside_told state event goes out None is =
    plain_told state event goes out is (plain_rule state event.hart.number) refl
outside_told state event goes out (Some armed) is =
    armed_told state event armed goes out is (armed_rule state event.hart.number armed) refl

going_told : (state : ModelState) (event : Event) → Goes state event → (section : Option Section) →
    section_of state event.hart.number ≡ section → Told state event (going_turn state event.hart.number section)
unfolding section_turn
going_told state event goes None is = outside_told state event goes is (armed_of state event.hart.number) refl
going_told state event goes (Some section) is =
    section_told state event section goes is (section_rule state event.hart.number section) refl

running_told : (state : ModelState) (event : Event) → event.kind ≡ kinds.Step →
    status_of state.committed event.hart.number ≡ Running → (waits : Bool) →
    has_request state event.hart.number ≡ waits → Told state event
    (if waits then stalled state else going_turn state event.hart.number (section_of state event.hart.number))
running_told state event step running true is = record { step = step; running = running; waits = is }
running_told state event step running false is =
    going_told state event (record { step = step; running = running; free = is })
    (section_of state event.hart.number) refl

status_told : (state : ModelState) (event : Event) → event.kind ≡ kinds.Step → (status : HartStatus) →
    status_of state.committed event.hart.number ≡ status → Told state event (status_turn state event.hart.number status)
status_told state event step Running is =
    running_told state event step is (has_request state event.hart.number) refl
status_told state event step (Exited code) is = inl (record { step = step; stopped = λ runs. absurd (cc) })
status_told state event step (Trapped cause pc) is = inl (record { step = step; stopped = λ runs. absurd (cc) })

order_told : (state : ModelState) (event : Event) → event.kind ≡ kinds.Order → (raised : Option Request) →
    raised_of state event.hart.number ≡ raised → Told state event (order_raised state raised)
order_told state event order None is = inr (inl (record { order = order; nothing = is }))
order_told state event order (Some request) is =
    record { request = request; order = order; raised = is; losers_are = refl; freed_are = refl }

past_told : (state : ModelState) (event : Event) → event.kind ≡ kinds.Serve → (request : Request) →
    ordered_of state event.hart.number ≡ Some request → (obstacle : Obstacle) → obstacle_to state request ≡ obstacle →
    Told state event (serve_past state request obstacle)
past_told state event serve request ordered Free is =
    record { request = request; serve = serve; ordered = ordered; free = is; losers_are = refl; freed_are = refl }
past_told state event serve request ordered (Blocks why by) is =
    record { request = request; hart = by; serve = serve; ordered = ordered; obstacle = is; by_is = refl }

serve_told : (state : ModelState) (event : Event) → event.kind ≡ kinds.Serve → (ordered : Option Request) →
    ordered_of state event.hart.number ≡ ordered → Told state event (serve_ordered state ordered)
serve_told state event serve None is = inr (inr (inl (record { serve = serve; nothing = is })))
serve_told state event serve (Some request) is = past_told state event serve request is (obstacle_to state request) refl

deliver_told : (state : ModelState) (event : Event) → event.kind ≡ kinds.Deliver → (mail : List Message) →
    (hart_of state event.hart.number).mail ≡ mail → Told state event (deliver_next state event.hart.number mail)
deliver_told state event deliver [] is = inr (inr (inr (record { deliver = deliver; nothing = is })))
deliver_told state event deliver (message ∷ others) is =
    record { message = message; others = others; deliver = deliver; mail = is; losers_are = refl }

kind_told : (state : ModelState) (event : Event) (kind : Kind) → event.kind ≡ kind →
    Told state event (kind_turn state event.hart.number kind)
unfolding step_turn order_turn serve_turn deliver_turn
kind_told state event kinds.Step is = status_told state event is (status_of state.committed event.hart.number) refl
kind_told state event kinds.Order is = order_told state event is (raised_of state event.hart.number) refl
kind_told state event kinds.Serve is = serve_told state event is (ordered_of state event.hart.number) refl
kind_told state event kinds.Deliver is = deliver_told state event is (hart_of state event.hart.number).mail refl

next_told : (state : ModelState) (event : Event) → Told state event (next state event)
unfolding next
next_told state event = kind_told state event event.kind refl

-- and back: where its rule says, the outcome comes
goes_turn : (state : ModelState) (event : Event) → Goes state event →
    next state event ≡ going_turn state event.hart.number (section_of state event.hart.number)
unfolding next step_turn
goes_turn state event goes = rw (goes.step, goes.running, goes.free) refl

stopped_idle : (state : ModelState) (h : ℕ) (status : HartStatus) → (status ≡ Running → ⊥) →
    (status_turn state h status).outcome ≡ Idle
stopped_idle state h Running stopped = absurd (stopped refl)
stopped_idle state h (Exited code) stopped = refl
stopped_idle state h (Trapped cause pc) stopped = refl

plain_comes : (state : ModelState) (event : Event) (rule : PlainRule) → GoesOutside state event rule →
    next state event ≡ by_plain_rule state event.hart.number rule
unfolding plain_turn
plain_comes state event rule w =
    goes_turn state event w.goes ∙ ap (going_turn state event.hart.number) w.outside
    ∙ ap (outside_turn state event.hart.number) w.unarmed ∙ ap (by_plain_rule state event.hart.number) w.rule_is

armed_comes : (state : ModelState) (event : Event) (armed : states.Armed) (rule : ArmedRule) →
    GoesArmed state event armed rule → next state event ≡ by_armed_rule state event.hart.number armed rule
unfolding armed_turn
armed_comes state event armed rule w =
    goes_turn state event w.goes ∙ ap (going_turn state event.hart.number) w.outside
    ∙ ap (outside_turn state event.hart.number) w.is_armed ∙ ap (by_armed_rule state event.hart.number armed) w.rule_is

section_comes : (state : ModelState) (event : Event) (section : Section) (rule : SectionRule) →
    GoesInside state event section rule → next state event ≡ by_section_rule state event.hart.number section rule
unfolding section_turn
section_comes state event section rule w =
    goes_turn state event w.goes ∙ ap (going_turn state event.hart.number) w.inside
    ∙ ap (by_section_rule state event.hart.number section) w.rule_is

order_comes : (state : ModelState) (event : Event) (raised : Option Request) → event.kind ≡ kinds.Order →
    raised_of state event.hart.number ≡ raised → next state event ≡ order_raised state raised
unfolding next order_turn
order_comes state event raised order is = rw order (ap (order_raised state) is)

serve_comes : (state : ModelState) (event : Event) (ordered : Option Request) → event.kind ≡ kinds.Serve →
    ordered_of state event.hart.number ≡ ordered → next state event ≡ serve_ordered state ordered
unfolding next serve_turn
serve_comes state event ordered serve is = rw serve (ap (serve_ordered state) is)

deliver_comes : (state : ModelState) (event : Event) (mail : List Message) → event.kind ≡ kinds.Deliver →
    (hart_of state event.hart.number).mail ≡ mail → next state event ≡ deliver_next state event.hart.number mail
unfolding next deliver_turn
deliver_comes state event mail deliver is = rw deliver (ap (deliver_next state event.hart.number) is)

idle_comes : (state : ModelState) (event : Event) → NothingToDo state event → (next state event).outcome ≡ Idle
unfolding next step_turn
idle_comes state event (inl w) = rw w.step (stopped_idle state event.hart.number _ w.stopped)
idle_comes state event (inr (inl w)) = ap (λ turn. turn.outcome) (order_comes state event None w.order w.nothing)
idle_comes state event (inr (inr (inl w))) = ap (λ turn. turn.outcome) (serve_comes state event None w.serve w.nothing)
idle_comes state event (inr (inr (inr w))) =
    ap (λ turn. turn.outcome) (deliver_comes state event [] w.deliver w.nothing)

stall_comes : (state : ModelState) (event : Event) → Waits state event → (next state event).outcome ≡ Stalled
unfolding next step_turn
stall_comes state event w = rw (w.step, w.running, w.waits) refl

missed_comes : (state : ModelState) (event : Event) (line : ℕ) (need : Need) →
    (GoesOutside state event (outside.Misses line need)
    ⊎ ((section : Section) × GoesInside state event section (inside.Misses line need))) →
    (next state event).outcome ≡ Missed (line_addr line) need
unfolding by_plain_rule by_section_rule
missed_comes state event line need (inl w) =
    ap (λ turn. turn.outcome) (plain_comes state event (outside.Misses line need) w)
missed_comes state event line need (inr (section, w)) =
    ap (λ turn. turn.outcome) (section_comes state event section (inside.Misses line need) w)

began_comes : (state : ModelState) (event : Event) (swap : Swap) →
    (GoesOutside state event (outside.Begins swap)
    ⊎ ((armed : states.Armed) × GoesArmed state event armed (Elides swap))) → (next state event).outcome ≡ Began
unfolding by_plain_rule by_armed_rule
began_comes state event swap (inl w) = ap (λ turn. turn.outcome) (plain_comes state event (outside.Begins swap) w)
began_comes state event swap (inr (armed, w)) =
    ap (λ turn. turn.outcome) (armed_comes state event armed (Elides swap) w)

buffered_comes : (state : ModelState) (event : Event) →
    (((section : Section) × (touch : Option Touch) × GoesInside state event section (inside.Buffers touch))
    ⊎ ((armed : states.Armed) × GoesArmed state event armed Continues)) →
    (next state event).outcome ≡ Buffered
unfolding by_section_rule by_armed_rule
buffered_comes state event (inl (section, touch, w)) =
    ap (λ turn. turn.outcome) (section_comes state event section (inside.Buffers touch) w)
buffered_comes state event (inr (armed, w)) = ap (λ turn. turn.outcome) (armed_comes state event armed Continues w)

comes : (state : ModelState) (event : Event) (outcome : Outcome) → ComesWhere state event outcome →
    (next state event).outcome ≡ outcome
unfolding by_plain_rule by_section_rule by_armed_rule
comes state event Idle where_is = idle_comes state event where_is
comes state event Stalled w = stall_comes state event w
comes state event (Missed line need) (number, is, missed) =
    missed_comes state event number need missed.by_rule ∙ ap (λ l. Missed l need) (sym is)
comes state event Ran (touch, w) =
    ap (λ turn. turn.outcome) (plain_comes state event (outside.Runs touch) w)
comes state event Began (swap, w) = began_comes state event swap w.by_rule
comes state event Buffered w = buffered_comes state event w.by_rule
comes state event (Committed count) (section, is, w) =
    ap (λ turn. turn.outcome) (section_comes state event section inside.Commits w)
    ∙ ap Committed (sym is)
comes state event (RolledBack cause) (section, w) =
    ap (λ turn. turn.outcome) (section_comes state event section (inside.RollsBack cause) w)
comes state event (Ordered losers freed) w =
    ap (λ turn. turn.outcome) (order_comes state event (Some w.request) w.order w.raised)
    ∙ ap (λ l. Ordered l (order_freed state w.request)) (sym w.losers_are)
    ∙ ap (λ f. Ordered losers f) (sym w.freed_are)
comes state event (Served losers freed) w =
    ap (λ turn. turn.outcome) (serve_comes state event (Some w.request) w.serve w.ordered)
    ∙ ap (λ obstacle. (serve_past state w.request obstacle).outcome) w.free
    ∙ ap (λ l. Served l (serve_freed state w.request)) (sym w.losers_are)
    ∙ ap (λ f. Served losers f) (sym w.freed_are)
comes state event (Blocked why by) w =
    ap (λ turn. turn.outcome) (serve_comes state event (Some w.request) w.serve w.ordered)
    ∙ ap (λ obstacle. (serve_past state w.request obstacle).outcome) w.obstacle ∙ ap (Blocked why) (sym w.by_is)
comes state event (Delivered losers) w =
    ap (λ turn. turn.outcome) (deliver_comes state event (w.message ∷ w.others) w.deliver w.mail)
    ∙ ap Delivered (sym w.losers_are)
comes state event Armed (word, w) = ap (λ turn. turn.outcome) (plain_comes state event (outside.Arms word) w)
comes state event (LetGo count) (armed, is, w) =
    ap (λ turn. turn.outcome) (armed_comes state event armed LetsGo w) ∙ ap LetGo (sym is)

pub by_their_rules : (state : ModelState) (event : Event) (outcome : Outcome) →
    ((next state event).outcome ≡ outcome) ↔ ComesWhere state event outcome
by_their_rules state event outcome =
    (λ is. subst (ComesWhere state event) is (next_told state event), comes state event outcome)

-- where there was nothing to do, nothing has changed
stopped_still : (state : ModelState) (h : ℕ) (status : HartStatus) → (status ≡ Running → ⊥) →
    (status_turn state h status).state ≡ state
stopped_still state h Running stopped = absurd (stopped refl)
stopped_still state h (Exited code) stopped = refl
stopped_still state h (Trapped cause pc) stopped = refl

still_where : (state : ModelState) (event : Event) → NothingToDo state event → (next state event).state ≡ state
unfolding next step_turn
still_where state event (inl w) = rw w.step (stopped_still state event.hart.number _ w.stopped)
still_where state event (inr (inl w)) = ap (λ turn. turn.state) (order_comes state event None w.order w.nothing)
still_where state event (inr (inr (inl w))) = ap (λ turn. turn.state) (serve_comes state event None w.serve w.nothing)
still_where state event (inr (inr (inr w))) = ap (λ turn. turn.state) (deliver_comes state event [] w.deliver w.nothing)

pub idle_is_still : (state : ModelState) (event : Event) → (next state event).outcome ≡ Idle →
    (next state event).state ≡ state
idle_is_still state event idle = still_where state event ((by_their_rules state event Idle).0 idle)
