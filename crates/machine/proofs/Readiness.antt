-- which events of a hart are progress, and the first of all harts
use Rattle.std.proofs.Common.{◌≡◌, ◌≢◌, ◌∙◌, ◌↔◌, ℕ, suc, ◌+◌, ◌<◌, ◌≤◌, Bool, true, false, not, List, [], ◌∷◌, Option}
use Rattle.std.proofs.Common.{None, Some}
use Rattle.std.proofs.Common.{is_some, length, drop, refl, ap, arith, cond, sym}
use Rattle.std.specs.List.{find, flat_map}
use Rattle.std.specs.Option.{option_or}
use Rattle.std.proofs.lemmas.List.{at_drop_more, drop_all}
use Rattle.std.proofs.lemmas.List.Folds.{find-append}
use Rattle.bus_order.specs.Order.{Request}
use Rattle.chronicle.specs.Chronicle.{events}
use Rattle.el_base.proofs.Laws.HartIds.{hart_id-of_hart}
use Rattle.el_base.proofs.Laws.Options.{none_from}
use Rattle.el_base.specs.Config.{IsInRange}
use Rattle.el_base.specs.declared.events.Event.{Event}
use Rattle.el_base.specs.declared.events.Kind.{Kind}
use Rattle.el_base.specs.declared.events.Kind.TheVariants.{Step, Order, Serve, Deliver}
use Rattle.el_base.specs.declared.hart_id.HartId.{HartId}
use Rattle.el_model.proofs.Laws.Deeds.{step_deed}
use Rattle.el_model.specs.Deliver.{deliver_next, deliver_turn}
use Rattle.el_model.specs.Next.{is_over, next, step_turn}
use Rattle.el_model.specs.Order.{order_raised, order_turn}
use Rattle.el_model.specs.Serve.{Blocks, Free, Obstacle, obstacle_to, serve_ordered, serve_past, serve_turn}
use Rattle.el_model.specs.State.{ModelState, count_up, has_request, hart_of, ordered_of, raised_of}
use Rattle.machine.specs.Story.{Story, state_of}
use Rattle.engine.proofs.Laws.Places.{keeps_place}
use Rattle.mail.specs.Mailbox.{Message}
use Rattle.progress_laws.proofs.Laws.EveryMode.{no_state_is_stuck}
use Rattle.progress_laws.proofs.Laws.GettingOn.{always_orderly, deed_gets_on, stopped_step}
use Rattle.progress_laws.specs.Ready.{events_of, gets_on, is_progress, ready_event}
use Rattle.rv_alu.specs.declared.view.HartStatus.TheVariants.{Running}
use Rattle.rv_flat.specs.FlatState.{status_of}
use Rattle.rv_flat.proofs.Laws.StepLaws.{start_harts}
use Rattle.engine.proofs.Laws.Lengths.{AsMany}
use Rattle.engine.specs.Readiness.{is_delivered, is_served}

-- a hart's event of a kind
abbrev pub of_hart : HartId → Kind → Event
of_hart hart kind = record { kind = kind; hart = hart }

-- a step of a hart that runs is progress exactly where it waits for nothing
stalled_is_none : (state : ModelState) (h : ℕ) → status_of state.committed h ≡ Running → has_request state h ≡ true →
    is_progress (step_turn state h).outcome ≡ false
unfolding step_turn
stalled_is_none state h running waits = rw (running, waits) refl

free_is_progress : (state : ModelState) (h : ℕ) → status_of state.committed h ≡ Running → has_request state h ≡ false →
    is_progress (step_turn state h).outcome ≡ true
free_is_progress state h running free =
    let step = step_deed state h in
    ap (λ turn. is_progress turn.outcome) step.turn_is ∙ deed_gets_on state h step.deed step.where_it running free

runs_on : (state : ModelState) (h : ℕ) → status_of state.committed h ≡ Running → (waits : Bool) →
    has_request state h ≡ waits → not waits ≡ is_progress (step_turn state h).outcome
runs_on state h running true waits = sym (stalled_is_none state h running waits)
runs_on state h running false waits = sym (free_is_progress state h running waits)

pub step_goes : (state : ModelState) (hart : HartId) (waits : Bool) → status_of state.committed hart.number ≡ Running →
    waits ≡ has_request state hart.number → not waits ≡ gets_on state (of_hart hart Step)
unfolding next
step_goes state hart waits running is = runs_on state hart.number running waits (sym is)

pub step_rests : (state : ModelState) (hart : HartId) → status_of state.committed hart.number ≢ Running →
    false ≡ gets_on state (of_hart hart Step)
unfolding next step_turn
step_rests state hart stopped = sym (stopped_step state hart.number (status_of state.committed hart.number) stopped)

-- an event at the bus is progress exactly where there is a raised request, one that is served, or a message
raised_goes : (state : ModelState) (raised : Option Request) →
    is_progress (order_raised state raised).outcome ≡ is_some raised
raised_goes state None = refl
raised_goes state (Some request) = refl

pub order_goes : (state : ModelState) (hart : HartId) →
    gets_on state (of_hart hart Order) ≡ is_some (raised_of state hart.number)
unfolding next order_turn
order_goes state hart = raised_goes state (raised_of state hart.number)

past_goes : (state : ModelState) (request : Request) (obstacle : Obstacle) →
    is_progress (serve_past state request obstacle).outcome ≡ is_served (serve_past state request obstacle).outcome
past_goes state request Free = refl
past_goes state request (Blocks why by) = refl

ordered_goes : (state : ModelState) (ordered : Option Request) →
    is_progress (serve_ordered state ordered).outcome ≡ is_served (serve_ordered state ordered).outcome
ordered_goes state None = refl
ordered_goes state (Some request) = past_goes state request (obstacle_to state request)

pub serve_goes : (state : ModelState) (hart : HartId) →
    gets_on state (of_hart hart Serve) ≡ is_served (serve_turn state hart.number).outcome
unfolding next serve_turn
serve_goes state hart = ordered_goes state (ordered_of state hart.number)

mail_goes : (state : ModelState) (h : ℕ) (mail : List Message) →
    is_progress (deliver_next state h mail).outcome ≡ is_delivered (deliver_next state h mail).outcome
mail_goes state h [] = refl
mail_goes state h (message ∷ others) = refl

pub deliver_goes : (state : ModelState) (hart : HartId) →
    gets_on state (of_hart hart Deliver) ≡ is_delivered (deliver_turn state hart.number).outcome
unfolding next deliver_turn
deliver_goes state hart = mail_goes state hart.number (hart_of state hart.number).mail

-- the first event of a hart that is progress
found_of : (test : Event → Bool) (hart : HartId) →
    find test (events_of hart.number)
    ≡ cond (test (of_hart hart Step)) (Some (of_hart hart Step))
    (cond (test (of_hart hart Order)) (Some (of_hart hart Order))
    (cond (test (of_hart hart Serve)) (Some (of_hart hart Serve))
    (cond (test (of_hart hart Deliver)) (Some (of_hart hart Deliver)) None)))
found_of test hart =
    ap (λ h. find test (of_hart h Step ∷ of_hart h Order ∷ of_hart h Serve ∷ of_hart h Deliver ∷ []))
    (hart_id-of_hart hart)

pub found_by : (test : Event → Bool) (hart : HartId) (step order serve deliver : Bool) →
    test (of_hart hart Step) ≡ step → test (of_hart hart Order) ≡ order → test (of_hart hart Serve) ≡ serve →
    test (of_hart hart Deliver) ≡ deliver → find test (events_of hart.number)
    ≡ cond step (Some (of_hart hart Step))
    (cond order (Some (of_hart hart Order))
    (cond serve (Some (of_hart hart Serve)) (cond deliver (Some (of_hart hart Deliver)) None)))
found_by test hart step order serve deliver steps orders serves delivers =
    rw (← steps, ← orders, ← serves, ← delivers) (found_of test hart)

-- the events of all harts from a number on
abbrev pub events_from : ModelState → ℕ → List Event
events_from state n = flat_map events_of (count_up n (drop n state.harts))

-- where a hart has none, the first one is behind it
or_none : (one other : Option Event) → one ≡ None → option_or one other ≡ other
or_none None other none = refl
or_none (Some event) other none = absurd (cc)

or_some : (one other : Option Event) (event : Event) → one ≡ Some event → option_or one other ≡ Some event
or_some None other event some = absurd (cc)
or_some (Some found) other event some = some

split_at : (state : ModelState) (n : ℕ) → n < length state.harts →
    find (gets_on state) (events_from state n)
    ≡ option_or (find (gets_on state) (events_of n)) (find (gets_on state) (events_from state (n + 1)))
split_at state n below =
    at_drop_more (λ harts. find (gets_on state) (flat_map events_of (count_up n harts))) state.harts n
    (hart_of state n) below
    ∙ find-append (gets_on state) (events_of n) (flat_map events_of (count_up (suc n) (drop (n + 1) state.harts)))
    ∙ ap (λ m. option_or (find (gets_on state) (events_of n))
    (find (gets_on state) (flat_map events_of (count_up m (drop (n + 1) state.harts)))))
    (omega arith)

pub none_more : (state : ModelState) (n : ℕ) (found : Option Event) → n < length state.harts →
    ready_event state ≡ find (gets_on state) (events_from state n) → found ≡ find (gets_on state) (events_of n) →
    is_some found ≡ false → ready_event state ≡ find (gets_on state) (events_from state (n + 1))
none_more state n found below so_far is none =
    so_far ∙ split_at state n below ∙ or_none _ _ (sym is ∙ none_from found none)

or_there : (found one other : Option Event) → found ≡ one → is_some found ≡ true → found ≡ option_or one other
or_there None one other is some = absurd (cc)
or_there (Some event) one other is some = sym (or_some one other event (sym is))

pub first_of : (state : ModelState) (n : ℕ) (found : Option Event) → n < length state.harts →
    ready_event state ≡ find (gets_on state) (events_from state n) → found ≡ find (gets_on state) (events_of n) →
    is_some found ≡ true → found ≡ ready_event state
first_of state n found below so_far is some = or_there found _ _ is some ∙ sym (so_far ∙ split_at state n below)

pub none_left : (state : ModelState) (n : ℕ) → length state.harts ≤ n →
    ready_event state ≡ find (gets_on state) (events_from state n) → ready_event state ≡ None
none_left state n all so_far =
    so_far ∙ ap (λ harts. find (gets_on state) (flat_map events_of (count_up n harts))) (drop_all n state.harts all)

-- there is none exactly where the machine is over
pub not_stuck : (story : Story) → IsInRange story.config → story.program.harts ≡ story.config.harts →
    (ready_event (state_of story) ≡ None) ↔ (is_over (state_of story) ≡ true)
not_stuck story in_range one_each =
    no_state_is_stuck story.program story.config (events story.entries) one_each in_range

-- the state has as many harts as configured
as_many : (story : Story) → AsMany (state_of story)
as_many story = (always_orderly story.program story.config (events story.entries)).as_many

pub harts_are : (story : Story) → story.program.harts ≡ story.config.harts →
    story.config.harts ≡ length (state_of story).harts
harts_are story one_each =
    omega (
      arith,
      one_each,
      start_harts story.program,
      (keeps_place story.program story.config (events story.entries)).harts,
      as_many story,
    )
