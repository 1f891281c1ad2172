-- how a state gets on: by a hart that waits for nothing, by a request or a message, or by the head of
-- a line that no section retains
use Rattle.std.proofs.Common.{◌≡◌, ◌∙◌, ℕ, ◌<◌, ◌==◌, true, false, ◌&&◌, not, ◌≢◌}
use Rattle.std.proofs.Common.{List, ◌∷◌, Option, None, Some, length, refl, ap, sym, inl, inr, ◌⊎◌}
use Rattle.bus_order.specs.Order.{IsOneEach, Request}
use Rattle.bus_order.proofs.Laws.Queues.{line_of_first_of, request_of_first_of}
use Rattle.el_base.specs.declared.config.Config.{Config}
use Rattle.el_base.specs.declared.events.Event.{Event}
use Rattle.el_base.specs.declared.events.Kind.{Kind}
use Rattle.el_base.specs.declared.events.Kind.TheVariants.{Step, Order, Serve, Deliver}
use Rattle.el_base.specs.declared.outcomes.Why.TheVariants.{Behind, Retained, Locked}
use Rattle.el_base.proofs.Laws.Cases.{some_none, true_false}
use Rattle.el_base.proofs.Laws.Tests.{own_test, second_of_both}
use Rattle.elf_image.specs.Program.{Program}
use Rattle.el_model.specs.Conflicts.{holder_of, retainer_of, retains}
use Rattle.el_model.specs.Deed.{Arms, Begins, Buffers, Commits, Continues, Deed, DoesWhere, Elides, LetsGo, Misses}
use Rattle.el_model.specs.Deed.{Rests, RollsBack, Runs, Waits, outcome_of}
use Rattle.el_model.specs.Deliver.{deliver_next, deliver_turn}
use Rattle.el_model.specs.Next.{after, kind_turn, status_turn}
use Rattle.el_model.specs.Order.{order_raised, order_turn}
use Rattle.el_model.specs.Serve.{Free, Obstacle, blocks_if, obstacle_to, other_head, serve_ordered, serve_past}
use Rattle.el_model.specs.Serve.{serve_turn}
use Rattle.el_model.specs.State.{ModelState, begin, has_request, hart_of, head_of, is_held, numbers_of}
use Rattle.el_model.specs.State.{ordered_of, raised_of}
use Rattle.el_model.proofs.Laws.Deeds.{step_deed}
use Rattle.el_model.proofs.Laws.FromStart.{kept_after}
use Rattle.el_model.proofs.Laws.Conflicts.{first_passes, none_first}
use Rattle.mail.specs.Mailbox.{Message}
use Rattle.progress_laws.specs.Ready.{is_progress}
use Rattle.rv_alu.specs.declared.view.HartStatus.TheVariants.{Exited, Running, Trapped}
use Rattle.rv_alu.specs.declared.view.HartStatus.{HartStatus}
use Rattle.rv_flat.specs.FlatState.{status_of}
use Rattle.rv_flat.proofs.Laws.RunsAfter.{running_status}
use Rattle.removal_laws.proofs.Laws.Promises.{held_is}
use Rattle.section_laws.specs.Waiting.{OnlyHolds}
use Rattle.section_laws.proofs.Laws.FreeLines.{has_head}
use Rattle.section_laws.proofs.Laws.Lengths.{AsMany, first_as_many, next_as_many, runs_exists}
use Rattle.section_laws.proofs.Laws.Numbered.{one_ordered_request_each}
use Rattle.section_laws.proofs.Laws.Waiting.{Sound, always_sound}

-- an event of one of the machine's harts is progress
pub record GetsOn (state : ModelState) : Type 0 where
  pub hart : ℕ
  pub kind : Kind
  pub exists : hart < length state.harts
  pub progress : is_progress (kind_turn state hart kind).outcome ≡ true

-- what a state is known to be, in every mode: each hart waits for one thing, has one ordered
-- request, and is one of the machine's
pub record Orderly (state : ModelState) : Type 0 where
  pub sound : Sound state
  pub once : IsOneEach state.order
  pub as_many : AsMany state

pub always_orderly : (program : Program) (config : Config) (events : List Event) → Orderly (after program config events)
always_orderly program config events = record {
  sound = always_sound program config events;
  once = one_ordered_request_each program config events;
  as_many = kept_after AsMany next_as_many (begin program config) events (first_as_many program config);
}

-- a hart that waits for something, or that holds a line, runs
pub ordered_runs : (state : ModelState) (h : ℕ) (request : Request) → Sound state → ordered_of state h ≡ Some request →
    status_of state.committed h ≡ Running
ordered_runs state h request sound is =
    running_status (status_of state.committed h) (λ ended. some_none (sym is ∙ ((sound h).stopped ended).not_ordered))

pub raised_runs : (state : ModelState) (h : ℕ) (request : Request) → Sound state → raised_of state h ≡ Some request →
    status_of state.committed h ≡ Running
raised_runs state h request sound is =
    running_status (status_of state.committed h) (λ ended. some_none (sym is ∙ ((sound h).stopped ended).not_raised))

pub held_runs : (state : ModelState) (h line : ℕ) → Sound state → (hart_of state h).held_line ≡ Some line →
    status_of state.committed h ≡ Running
held_runs state h line sound is =
    running_status (status_of state.committed h) (λ ended. some_none (sym is ∙ ((sound h).stopped ended).not_held))

-- a hart that runs and has no request steps
pub deed_gets_on : (state : ModelState) (h : ℕ) (deed : Deed) → DoesWhere state h deed →
    status_of state.committed h ≡ Running → has_request state h ≡ false → is_progress (outcome_of deed) ≡ true
deed_gets_on state h Rests rests running free = absurd (rests running)
deed_gets_on state h Waits waits running free = true_false (sym waits.waits ∙ free)
deed_gets_on state h (Misses line need) does running free = refl
deed_gets_on state h (Runs touch) does running free = refl
deed_gets_on state h (Begins swap) does running free = refl
deed_gets_on state h (Buffers section touch) does running free = refl
deed_gets_on state h (Commits section) does running free = refl
deed_gets_on state h (RollsBack section cause) does running free = refl
deed_gets_on state h (Arms word) does running free = refl
deed_gets_on state h (Elides armed swap) does running free = refl
deed_gets_on state h (Continues armed) does running free = refl
deed_gets_on state h (LetsGo armed) does running free = refl

pub free_gets_on : (state : ModelState) (h : ℕ) → AsMany state → status_of state.committed h ≡ Running →
    has_request state h ≡ false → GetsOn state
free_gets_on state h same running free =
    let step = step_deed state h in
    record {
      hart = h;
      kind = Step;
      exists = runs_exists state h same running;
      progress =
          ap (λ turn. is_progress turn.outcome) step.turn_is ∙ deed_gets_on state h step.deed
          step.where_it running free;
    }

-- a raised request is ordered, and a message is delivered
pub raised_gets_on : (state : ModelState) (h : ℕ) (request : Request) → h < length state.harts →
    raised_of state h ≡ Some request → GetsOn state
unfolding order_turn
raised_gets_on state h request exists raised = record {
  hart = h;
  kind = Order;
  exists = exists;
  progress = ap (λ found. is_progress (order_raised state found).outcome) raised;
}

pub mail_gets_on : (state : ModelState) (h : ℕ) (message : Message) (others : List Message) → h < length state.harts →
    (hart_of state h).mail ≡ message ∷ others → GetsOn state
unfolding deliver_turn
mail_gets_on state h message others exists mail = record {
  hart = h;
  kind = Deliver;
  exists = exists;
  progress = ap (λ box. is_progress (deliver_next state h box).outcome) mail;
}

-- a hart that holds a line waits for nothing, and steps
pub holds_only : (state : ModelState) (h line : ℕ) → Sound state → (hart_of state h).held_line ≡ Some line →
    has_request state h ≡ false
holds_only state h line sound is = only (sound h).only_holds
  where
    only : ((hart_of state h).held_line ≡ None) ⊎ OnlyHolds (ordered_of state h) (hart_of state h).section
        (raised_of state h) → has_request state h ≡ false
    only (inl none) = some_none (sym is ∙ none)
    only (inr alone) = rw (alone.not_raised, alone.not_ordered) refl

holder_gets_on : (state : ModelState) (h k line : ℕ) → Sound state → AsMany state →
    holder_of state h line ≡ Some k → GetsOn state
holder_gets_on state h k line sound same is =
    let test =
    first_passes (λ other. not (other == h) && is_held (hart_of state other).held_line line)
    (numbers_of state) k is in
    let held = held_is (hart_of state k).held_line line (second_of_both _ _ test) in
    free_gets_on state k same (held_runs state k line sound held) (holds_only state k line sound held)

-- the head of a line that no section retains is served, unless a hart holds the line, which then steps
served_gets_on : (state : ModelState) (h : ℕ) (request : Request) → h < length state.harts →
    ordered_of state h ≡ Some request → obstacle_to state request ≡ Free → GetsOn state
unfolding serve_turn
served_gets_on state h request exists is free = record {
  hart = h;
  kind = Serve;
  exists = exists;
  progress =
      ap (λ found. is_progress (serve_ordered state found).outcome) is
      ∙ ap (λ obstacle. is_progress (serve_past state request obstacle).outcome) free;
}

own_head : (head : Request) → other_head head.hart (Some head) ≡ None
own_head head = rw (own_test head.hart) refl

head_gets_on : (state : ModelState) (head : Request) → Orderly state → ordered_of state head.hart ≡ Some head →
    head_of state head.line ≡ Some head → retainer_of state head.line ≡ None → GetsOn state
head_gets_on state head orderly ordered first retained = by (holder_of state head.hart head.line) refl
  where
    exists : head.hart < length state.harts
    exists = runs_exists state head.hart orderly.as_many (ordered_runs state head.hart head orderly.sound ordered)

    behind : other_head head.hart (head_of state head.line) ≡ None
    behind = ap (other_head head.hart) first ∙ own_head head

    locked : Obstacle
    locked = blocks_if Locked (holder_of state head.hart head.line) Free

    by : (holder : Option ℕ) → holder_of state head.hart head.line ≡ holder → GetsOn state
    by (Some k) is = holder_gets_on state head.hart k head.line orderly.sound orderly.as_many is
    by None is =
        served_gets_on state head.hart head exists ordered
        (ap (λ first. blocks_if Behind first (blocks_if Retained (retainer_of state head.line) locked)) behind
        ∙ ap (λ section. blocks_if Retained section locked) retained
        ∙ ap (λ holder. blocks_if Locked holder Free) is)

pub unretained_gets_on : (state : ModelState) (h : ℕ) (request : Request) → Orderly state →
    ordered_of state h ≡ Some request → retainer_of state request.line ≡ None → GetsOn state
unretained_gets_on state h request orderly is unretained = by (head_of state request.line) refl
  where
    by : (head : Option Request) → head_of state request.line ≡ head → GetsOn state
    by None none = absurd (has_head state.order h request is none)
    by (Some head) first =
        let line = line_of_first_of state.order request.line head first in
        head_gets_on state head orderly (request_of_first_of state.order request.line head orderly.once first)
        (ap (head_of state) line ∙ first) (ap (retainer_of state) line ∙ unretained)

pub line_gets_on : (state : ModelState) (h : ℕ) (request : Request) → Orderly state →
    ordered_of state h ≡ Some request → ((g : ℕ) → retains state g request.line ≡ false) → GetsOn state
line_gets_on state h request orderly is unretained =
    unretained_gets_on state h request orderly is
    (none_first (λ g. retains state g request.line) (numbers_of state) unretained)

-- a hart that has stopped gets on by no step
pub stopped_step : (state : ModelState) (h : ℕ) (status : HartStatus) → status ≢ Running →
    is_progress (status_turn state h status).outcome ≡ false
stopped_step state h Running stopped = absurd (stopped refl)
stopped_step state h (Exited code) stopped = refl
stopped_step state h (Trapped cause pc) stopped = refl
