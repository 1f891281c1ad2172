-- each hart waits for one thing at most, and for none where it has stopped or is armed
use Rattle.std.proofs.Common.{◌≡◌, ◌≢◌, ◌∙◌, ℕ, ◌≤◌, ◌+◌, Bool, true, false, List, Option, None, Some, is_some}
use Rattle.std.proofs.Common.{length, refl, ap, sym, subst}
use Rattle.std.proofs.Common.{inl, inr, ◌⊎◌}
use Rattle.std.proofs.lemmas.Bool.{cases_eq}
use Rattle.std.proofs.lemmas.Option.{same_Some}
use Rattle.bus_order.specs.Order.{Request, removed, request_of}
use Rattle.bus_order.proofs.Laws.LookUps.{request_of_appended_other, request_of_in_front_of_other}
use Rattle.bus_order.proofs.Laws.LookUps.{request_of_removed_other, request_of_removed_own}
use Rattle.bus_order.proofs.Laws.Queues.{hart_of_request_of}
use Rattle.el_base.proofs.Laws.FreedOrder.{no_one_in_order}
use Rattle.el_base.specs.declared.config.Config.{Config}
use Rattle.el_base.specs.declared.outcomes.Need.{Need}
use Rattle.el_base.specs.declared.events.Event.{Event}
use Rattle.el_base.proofs.Laws.Cases.{some_none, true_false}
use Rattle.el_base.proofs.Laws.Options.{none_from_both}
use Rattle.elf_image.specs.Program.{Program}
use Rattle.el_model.specs.Armed.{is_freed, let_go, let_go_hart}
use Rattle.el_model.specs.BusEvent.{IsBusEvent, Nothing, Places, Serves, Start, StartsWhere, Takes, as_met, faced_head}
use Rattle.el_model.specs.BusEvent.{having_taken}
use Rattle.el_model.specs.BusEvent.{order_after, order_at, started}
use Rattle.el_model.specs.Deed.{Arms, Begins, Buffers, Commits, Continues, Deed, DoesWhere, Elides, IsArmed, IsOutside}
use Rattle.el_model.specs.Deed.{LetsGo, Misses, Rests}
use Rattle.el_model.specs.Deed.{RollsBack, Runs, Waits, committed_after, done, hart_after}
use Rattle.el_model.specs.Face.{faced, met}
use Rattle.el_model.specs.Next.{after, next, step_turn}
use Rattle.el_model.specs.Order.{Alone, Behind, InFront, Place}
use Rattle.el_model.specs.Plain.{after_candidate, candidate_of}
use Rattle.el_model.specs.Serve.{bystander, served_hart, with_claim}
use Rattle.el_model.specs.State.{Armed, Hart, ModelState, Section, Turn, armed_of, begin, has_request}
use Rattle.el_model.specs.State.{hart_of, is_live, new_hart, ordered_of}
use Rattle.el_model.specs.State.{raised_of, section_of}
use Rattle.el_model.specs.Upcoming.{Swap}
use Rattle.el_model.proofs.Laws.BusEvents.{by_event, keeps_as_met, met_becomes}
use Rattle.el_model.proofs.Laws.Deeds.{is_rolled, step_deed}
use Rattle.el_model.proofs.Laws.EachHart.{Each, each_but}
use Rattle.el_model.proofs.Laws.FromStart.{kept_after}
use Rattle.el_model.proofs.Laws.Harts.{hart_of-past}
use Rattle.el_model.proofs.Laws.Orders.{order_as_met}
use Rattle.el_model.proofs.Laws.Tests.{by_hart}
use Rattle.el_model.proofs.Laws.HartParts.{candidate_armed, claim_armed}
use Rattle.rv_alu.specs.declared.view.HartStatus.{HartStatus}
use Rattle.rv_alu.specs.declared.view.HartStatus.TheVariants.{Running}
use Rattle.rv_flat.specs.FlatState.{status_of, view_of}
use Rattle.rv_flat.proofs.Laws.RunsAfter.{running_status}
use Rattle.section_laws.specs.Waiting.{HasNothing, OnlyHolds, RunsWithNothing, WaitsForOne}
use Rattle.section_laws.proofs.Laws.Moves.{Moves, freed_is_armed, met_keeps, moved, moves_by_ends, taken_keeps}
use Rattle.section_laws.proofs.Laws.NewHarts.{each_new}
use Rattle.section_laws.proofs.Laws.Statuses.{alone_status, flat_status, let_go_status}

-- of each hart, with these statuses and these requests in order
abbrev Waiting : (ℕ → HartStatus) → (ℕ → Option Request) → ℕ → Hart → Type 0
Waiting status ordered h hart = WaitsForOne h (status h) (ordered h) hart.section hart.raised hart.held_line

abbrev pub Sound : ModelState → Type 0
Sound state = Each (Waiting (status_of state.committed) (ordered_of state)) state

-- and an armed one waits for nothing
abbrev pub Resting : (ℕ → HartStatus) → (ℕ → Option Request) → ℕ → Hart → Type 0
Resting status ordered h hart =
    (hart.armed ≡ None) ⊎ RunsWithNothing (status h) (ordered h) hart.section hart.raised hart.held_line

abbrev pub Rested : ModelState → Type 0
Rested state = Each (Resting (status_of state.committed) (ordered_of state)) state

-- both together: a hart that is let go may stop in an event of the bus, and has nothing then
abbrev Standing : (ℕ → HartStatus) → (ℕ → Option Request) → ℕ → Hart → Type 0
Standing status ordered h hart = Waiting status ordered h hart × Resting status ordered h hart

abbrev pub Settled : ModelState → Type 0
Settled state = Each (Standing (status_of state.committed) (ordered_of state)) state

pub sound_in : (state : ModelState) → Settled state → Sound state
sound_in state settled h = (settled h).0

pub rested_in : (state : ModelState) → Settled state → Rested state
rested_in state settled h = (settled h).1

pub settled_by : (state : ModelState) → Sound state → Rested state → Settled state
settled_by state sound rested h = (sound h, rested h)

-- a hart with a live section runs
pub live_runs : (state : ModelState) (h : ℕ) → Sound state → is_live state h ≡ true →
    status_of state.committed h ≡ Running
live_runs state h sound live =
    running_status (status_of state.committed h)
    (λ stopped. true_false (sym live ∙ ap is_some ((sound h).stopped stopped).no_section))

-- a hart that has nothing
nothing : (h : ℕ) (status : HartStatus) (ordered : Option Request) (section : Option Section) (raised : Option Request)
    (held : Option ℕ) → HasNothing ordered section raised held → WaitsForOne h status ordered section raised held
nothing h status ordered section raised held none = record {
  own = λ request is. some_none (sym is ∙ none.not_raised);
  one_request = inl none.not_raised;
  only_holds = inl none.not_held;
  stopped = λ ended. none;
}

-- a hart in order no more
unordered : (h : ℕ) (status : HartStatus) (ordered : Option Request) (section : Option Section)
    (raised : Option Request) (held : Option ℕ) → WaitsForOne h status ordered section raised held →
    WaitsForOne h status None section raised held
unordered h status ordered section raised held now = record {
  own = now.own;
  one_request = inr refl;
  only_holds = without now.only_holds;
  stopped = λ ended.
      let none = now.stopped ended in
      record {
        no_section = none.no_section;
        not_raised = none.not_raised;
        not_ordered = refl;
        not_held = none.not_held;
      };
}
  where
    without : (held ≡ None) ⊎ OnlyHolds ordered section raised → (held ≡ None) ⊎ OnlyHolds None section raised
    without (inl none) = inl none
    without (inr only) = inr (record { no_section = only.no_section; not_raised = only.not_raised; not_ordered = refl })

-- a section that is lost
lost_waits : (h : ℕ) (status : HartStatus) (ordered : Option Request) (section : Option Section)
    (raised : Option Request) (held : Option ℕ) → WaitsForOne h status ordered section raised held →
    WaitsForOne h status ordered None raised held
lost_waits h status ordered section raised held now = record {
  own = now.own;
  one_request = now.one_request;
  only_holds = without now.only_holds;
  stopped = λ ended.
      let none = now.stopped ended in
      record {
        no_section = refl;
        not_raised = none.not_raised;
        not_ordered = none.not_ordered;
        not_held = none.not_held;
      };
}
  where
    without : (held ≡ None) ⊎ OnlyHolds ordered section raised → (held ≡ None) ⊎ OnlyHolds ordered None raised
    without (inl none) = inl none
    without (inr only) =
        inr (record { no_section = refl; not_raised = only.not_raised; not_ordered = only.not_ordered })

-- an armed hart in order no more
unordered_rests : (armed : Option Armed) (status : HartStatus) (ordered : Option Request) (section : Option Section)
    (raised : Option Request)
    (held : Option ℕ) → (armed ≡ None) ⊎ RunsWithNothing status ordered section raised held →
    (armed ≡ None) ⊎ RunsWithNothing status None section raised held
unordered_rests armed status ordered section raised held (inl none) = inl none
unordered_rests armed status ordered section raised held (inr runs) =
    let none = runs.nothing in
    inr
    (record {
      running = runs.running;
      nothing =
          record {
            no_section = none.no_section;
            not_raised = none.not_raised;
            not_ordered = refl;
            not_held = none.not_held;
          };
    })

moves : (status : ℕ → HartStatus) (ordered : ℕ → Option Request) → Moves (Standing status ordered)
moves status ordered = moves_by_ends (λ h hart other now. now)
    (λ h hart now. (lost_waits h (status h) (ordered h) hart.section hart.raised hart.held_line now.0, inl refl))
    (λ h pc hart now. (now.0, inl refl))

-- a head is met: a hart that it lets go may stop, but had nothing
not_armed : {A X : Type 0} (armed : Option A) → is_some armed ≡ true → armed ≡ None → X
not_armed None is none = absurd (cc)
not_armed (Some armed) is none = absurd (cc)

freed_settled : (state : ModelState) (head : Request) (h : ℕ) → Settled state →
    is_freed head h (hart_of state h) ≡ true → Standing (status_of (let_go state head).committed) (ordered_of state) h
    (let_go_hart (view_of state.committed h).pc (hart_of state h))
freed_settled state head h settled freed = (by (settled h).1, inl refl)
  where
    by : Resting (status_of state.committed) (ordered_of state) h (hart_of state h) →
        Waiting (status_of (let_go state head).committed) (ordered_of state) h (hart_of state h)
    by (inl none) = not_armed (hart_of state h).armed (freed_is_armed head h (hart_of state h) freed) none
    by (inr runs) = nothing h _ _ _ _ _ runs.nothing

unfreed_settled : (state : ModelState) (head : Request) (h : ℕ) → Settled state →
    is_freed head h (hart_of state h) ≡ false →
    Standing (status_of (let_go state head).committed) (ordered_of state) h (hart_of state h)
unfreed_settled state head h settled unfreed = rw (let_go_status state head h unfreed) (settled h)

met_settled : (state : ModelState) (head : Request) → Settled state → Settled (met state head)
unfolding faced let_go
met_settled state head settled =
    met_keeps (moves (status_of (let_go state head).committed) (ordered_of state)) state head
    (λ h freed. freed_settled state head h settled freed) (λ h unfreed. unfreed_settled state head h settled unfreed)

-- a request is ordered
placed_waits : (h : ℕ) (status : HartStatus) (ordered : Option Request) (section : Option Section) (held : Option ℕ)
    (request : Request) → WaitsForOne h status None section (Some request) held →
    WaitsForOne h status ordered section None held
placed_waits h status ordered section held request now = record {
  own = λ other is. some_none (sym is);
  one_request = inl refl;
  only_holds = without now.only_holds;
  stopped = λ ended. some_none (now.stopped ended).not_raised;
}
  where
    without : (held ≡ None) ⊎ OnlyHolds None section (Some request) → (held ≡ None) ⊎ OnlyHolds ordered section None
    without (inl none) = inl none
    without (inr only) = some_none only.not_raised

pub free_of_order : (state : ModelState) (h : ℕ) (request : Request) → Sound state → raised_of state h ≡ Some request →
    ordered_of state h ≡ None
free_of_order state h request sound raised = other (sound h).one_request
  where
    other : (raised_of state h ≡ None) ⊎ (ordered_of state h ≡ None) → ordered_of state h ≡ None
    other (inl none) = some_none (sym raised ∙ none)
    other (inr none) = none

pub order_other : (state : ModelState) (request : Request) (place : Place) (g : ℕ) → g ≢ request.hart →
    request_of (order_at state request place) g ≡ request_of state.order g
order_other state request InFront g apart =
    request_of_in_front_of_other state.order request g (λ same. apart (sym same))
order_other state request Behind g apart = request_of_appended_other state.order request g (λ same. apart (sym same))
order_other state request Alone g apart = request_of_appended_other state.order request g (λ same. apart (sym same))

-- a hart with a request is not armed
unarmed_raised : (armed : Option Armed) (status : HartStatus) (ordered : Option Request) (section : Option Section)
    (request : Request)
    (held : Option ℕ) → (armed ≡ None) ⊎ RunsWithNothing status ordered section (Some request) held → armed ≡ None
unarmed_raised armed status ordered section request held (inl none) = none
unarmed_raised armed status ordered section request held (inr runs) = some_none runs.nothing.not_raised

pub unarmed_ordered : (armed : Option Armed) (status : HartStatus) (request : Request) (section : Option Section)
    (raised : Option Request)
    (held : Option ℕ) → (armed ≡ None) ⊎ RunsWithNothing status (Some request) section raised held → armed ≡ None
unarmed_ordered armed status request section raised held (inl none) = none
unarmed_ordered armed status request section raised held (inr runs) = some_none runs.nothing.not_ordered

raised_standing : (state : ModelState) (request : Request) (ordered : Option Request) → Settled state →
    raised_of state request.hart ≡ Some request →
    Standing (status_of state.committed) (λ h. ordered) request.hart
    (record (hart_of state request.hart) { raised = None })
raised_standing state request ordered settled mine =
    let status = status_of state.committed in
    let hart = hart_of state request.hart in
    let waits =
    subst (λ o. WaitsForOne request.hart (status request.hart) o hart.section (Some request) hart.held_line)
    (free_of_order state request.hart request (sound_in state settled) mine)
    (subst (λ r. WaitsForOne request.hart (status request.hart) (ordered_of state request.hart) hart.section r
    hart.held_line) mine
    (settled request.hart).0) in (
      placed_waits request.hart (status request.hart) ordered hart.section hart.held_line request waits,
      inl
          (unarmed_raised hart.armed (status request.hart) (ordered_of state request.hart) hart.section
          request hart.held_line
          (subst
          (λ r. (hart.armed ≡ None) ⊎ RunsWithNothing (status request.hart) (ordered_of state request.hart) hart.section
          r hart.held_line) mine
          (settled request.hart).1)),
    )

-- a request is served
served_waits : (state : ModelState) (request : Request) (hart : Hart) (live : Option Section) → hart.section ≡ live →
    (status : HartStatus) (ordered : Option Request) → ordered ≡ Some request →
    WaitsForOne request.hart status ordered live hart.raised hart.held_line → (new : Hart) → new.section ≡ live →
    new.raised ≡ hart.raised → new.held_line ≡ hart.held_line →
    WaitsForOne request.hart status None (with_claim (is_some live) request new).section
    (with_claim (is_some live) request new).raised
    (with_claim (is_some live) request new).held_line
served_waits state request hart None is status ordered found now new section raised held = record {
  own = λ other asked. now.own other (sym raised ∙ asked);
  one_request = inr refl;
  only_holds = inr (record { no_section = section; not_raised = raised ∙ bare now.one_request; not_ordered = refl });
  stopped = λ ended. some_none (sym found ∙ (now.stopped ended).not_ordered);
}
  where
    bare : (hart.raised ≡ None) ⊎ (ordered ≡ None) → hart.raised ≡ None
    bare (inl none) = none
    bare (inr none) = some_none (sym found ∙ none)
served_waits state request hart (Some live) is status ordered found now new section raised held = record {
  own = λ other asked. now.own other (sym raised ∙ asked);
  one_request = inr refl;
  only_holds = inl (held ∙ bare now.only_holds);
  stopped = λ ended. some_none (sym found ∙ (now.stopped ended).not_ordered);
}
  where
    bare : (hart.held_line ≡ None) ⊎ OnlyHolds ordered (Some live) hart.raised → hart.held_line ≡ None
    bare (inl none) = none
    bare (inr only) = some_none only.no_section

served_standing : (state : ModelState) (request : Request) → Settled state →
    ordered_of state request.hart ≡ Some request → Standing (status_of state.committed) (λ h. None) request.hart
    (served_hart state request (hart_of state request.hart))
served_standing state request settled mine =
    let status = status_of state.committed in
    let hart = hart_of state request.hart in (
      served_waits state request hart hart.section refl (status request.hart) (ordered_of state request.hart) mine
          (settled request.hart).0 _
          refl refl refl,
      inl
          (claim_armed (is_some hart.section) request _
          ∙ unarmed_ordered hart.armed (status request.hart) request hart.section hart.raised hart.held_line
          (subst (λ o. (hart.armed ≡ None) ⊎ RunsWithNothing (status request.hart) o hart.section hart.raised
          hart.held_line) mine
          (settled request.hart).1)),
    )

-- each hart after the start of an event, and past the last hart
started_settled : (state : ModelState) (by : ℕ) (start : Start) → Settled state → StartsWhere state by start → (h : ℕ) →
    Standing (status_of state.committed) (request_of (order_after state start)) h
    (started state by start h (hart_of state h))
started_settled state by Nothing settled where_it h = settled h
started_settled state by (Places request place) settled may h =
    let ordered = request_of (order_at state request place) in
    by_hart (Standing (status_of state.committed) ordered h) h request.hart (record (hart_of state h) { raised = None })
    (hart_of state h)
    (λ own. rw own (raised_standing state request (ordered request.hart) settled mine))
    (λ apart. rw (order_other state request place h apart) (settled h))
  where
    mine : raised_of state request.hart ≡ Some request
    mine = ap (raised_of state) ((settled by).0.own request may.raised) ∙ may.raised
started_settled state by (Serves request) settled may h =
    let ordered = request_of (removed state.order request.hart) in
    by_hart (Standing (status_of state.committed) ordered h) h request.hart
    (served_hart state request (hart_of state h))
    (bystander state request (hart_of state h))
    (λ own. rw own (rw (request_of_removed_own state.order request.hart) (served_standing state request settled mine)))
    (λ apart. rw (request_of_removed_other state.order request.hart h (λ same. apart (sym same))) (settled h))
  where
    mine : ordered_of state request.hart ≡ Some request
    mine = ap (ordered_of state) (hart_of_request_of state.order by request may.ordered) ∙ may.ordered
started_settled state by (Takes message others) settled where_it h =
    let kept = moves (status_of state.committed) (ordered_of state) in
    by_hart (Standing (status_of state.committed) (ordered_of state) h) h by
    (having_taken message others (hart_of state h)) (hart_of state h)
    (λ own. taken_keeps kept message others h (hart_of state h) (settled h)) (λ other. settled h)

past_settled : (state : ModelState) (by : ℕ) (start : Start) → Settled state → StartsWhere state by start → (h : ℕ) →
    length state.harts ≤ h →
    Standing (status_of state.committed) (request_of (order_after state start)) h (hart_of state h)
past_settled state by Nothing settled where_it h past = settled h
past_settled state by (Places request place) settled may h past = by_own (cases_eq h request.hart)
  where
    by_own : (h ≡ request.hart) ⊎ (h ≡ request.hart → ⊥) →
        Standing (status_of state.committed) (request_of (order_at state request place)) h (hart_of state h)
    by_own (inl same) =
        let own = (settled by).0.own request may.raised in
        some_none (sym may.raised ∙ ap (raised_of state) (sym own ∙ sym same)
        ∙ ap (λ hart. hart.raised) (hart_of-past state h past))
    by_own (inr apart) = rw (order_other state request place h apart) (settled h)
past_settled state by (Serves request) settled may h past = by_own (cases_eq h request.hart)
  where
    by_own : (h ≡ request.hart) ⊎ (h ≡ request.hart → ⊥) →
        Standing (status_of state.committed) (request_of (removed state.order request.hart)) h (hart_of state h)
    by_own (inl same) =
        rw same (rw (request_of_removed_own state.order request.hart) (
          unordered request.hart _ _ _ _ _ (settled request.hart).0,
          unordered_rests _ _ _ _ _ _ (settled request.hart).1,
        ))
    by_own (inr apart) = rw (request_of_removed_other state.order request.hart h (λ same. apart (sym same))) (settled h)
past_settled state by (Takes message others) settled where_it h past = settled h

-- an event of the bus: where it meets a head, what it lets go takes effect
bus_settled : {state : ModelState} {by : ℕ} {turn : Turn} → IsBusEvent state by turn → Settled state →
    Settled turn.state
bus_settled {state} {by} {turn} done settled = by_head (faced_head state done.start) refl
  where
    ordered : ℕ → Option Request
    ordered = request_of (order_after state done.start)

    by_head : (found : Option Request) → faced_head state done.start ≡ found → Settled turn.state
    by_head None is = λ h.
        let stands : Standing (status_of state.committed) ordered h (hart_of turn.state h) =
        moved (moves (status_of state.committed) ordered) state by done.start h
        (past_settled state by done.start settled done.where_it h)
        (λ below. started_settled state by done.start settled done.where_it h) (done.becomes h) in
        rw done.committed (rw done.order (rw is (rw no_one_in_order stands)))
    by_head (Some head) is = rw (done.faces head is) (met_settled (as_met state by done.start) head as_head_is_met)
      where
        as_head_is_met : Settled (as_met state by done.start)
        as_head_is_met h =
            let stands : Standing (status_of state.committed) ordered h (hart_of (as_met state by done.start) h) =
            moved (moves (status_of state.committed) ordered) state by done.start h
            (past_settled state by done.start settled done.where_it h)
            (λ below. started_settled state by done.start settled done.where_it h)
            (met_becomes state by done.start head is h) in
            rw (keeps_as_met state by done.start).committed (rw (order_as_met state by done.start) stands)

-- a step
pub record HasNoRequest (state : ModelState) (h : ℕ) : Type 0 where
  pub not_raised : raised_of state h ≡ None
  pub not_ordered : ordered_of state h ≡ None

pub no_request : (state : ModelState) (h : ℕ) → has_request state h ≡ false → HasNoRequest state h
no_request state h free =
    let none = none_from_both (raised_of state h) (ordered_of state h) free in
    record { not_raised = none.0; not_ordered = none.1 }

committed_status : (state : ModelState) (h g : ℕ) (deed : Deed) → g ≢ h →
    status_of (committed_after state h deed) g ≡ status_of state.committed g
committed_status state h g Rests apart = refl
committed_status state h g Waits apart = refl
committed_status state h g (Misses line need) apart = refl
committed_status state h g (Runs touch) apart = flat_status state.committed h g apart
committed_status state h g (Begins swap) apart = refl
committed_status state h g (Buffers section touch) apart = refl
committed_status state h g (Commits section) apart = alone_status state.committed h g (section.count + 1) apart
committed_status state h g (RollsBack section cause) apart = refl
committed_status state h g (Arms word) apart = refl
committed_status state h g (Elides armed swap) apart = refl
committed_status state h g (Continues armed) apart = refl
committed_status state h g (LetsGo armed) apart = alone_status state.committed h g armed.count apart

-- a hart that ran and had no request
free_waits : (h : ℕ) (status : HartStatus) (ordered : Option Request) (section : Option Section)
    (raised : Option Request) → status ≡ Running → ordered ≡ None →
    ((request : Request) → raised ≡ Some request → request.hart ≡ h) → WaitsForOne h status ordered section raised None
free_waits h status ordered section raised running none own = record {
  own = own;
  one_request = inr none;
  only_holds = inl refl;
  stopped = λ ended. absurd (ended running);
}

ended_waits : (h : ℕ) (status : HartStatus) (ordered : Option Request) (raised : Option Request) →
    ordered ≡ None → raised ≡ None → WaitsForOne h status ordered None raised None
ended_waits h status ordered raised none not_raised =
    nothing h status ordered None raised None
    (record { no_section = refl; not_raised = not_raised; not_ordered = none; not_held = refl })

miss_waits : (state : ModelState) (h line : ℕ) (need : Need) (hart : Hart) → status_of state.committed h ≡ Running →
    has_request state h ≡ false →
    WaitsForOne h (status_of state.committed h) (ordered_of state h) hart.section
    (Some (record { hart = h; line = line; need = need; stamp = hart.attempt })) None
miss_waits state h line need hart running free =
    free_waits h _ _ hart.section _ running (no_request state h free).not_ordered
    (λ request is. sym (ap (λ r. r.hart) (same_Some _ request is)))

candidate_waits : (h : ℕ) (status : HartStatus) (ordered : Option Request) (pc : Option ℕ) (had_watch : Bool)
    (candidate : Option Swap) (hart : Hart) → WaitsForOne h status ordered hart.section hart.raised hart.held_line →
    WaitsForOne h status ordered (after_candidate pc had_watch candidate hart).section
    (after_candidate pc had_watch candidate hart).raised
    (after_candidate pc had_watch candidate hart).held_line
candidate_waits h status ordered pc had_watch None hart now = now
candidate_waits h status ordered pc had_watch (Some swap) hart now = now

ran_waits : (state : ModelState) (h : ℕ) (status : HartStatus) → IsOutside state h →
    WaitsForOne h status (ordered_of state h) (section_of state h) (raised_of state h) None
ran_waits state h status outside =
    let none = no_request state h outside.free in
    rw outside.no_section (ended_waits h status _ _ none.not_ordered none.not_raised)

armed_waits : (state : ModelState) (h : ℕ) (armed : Armed) (section : Option Section) → IsArmed state h armed →
    WaitsForOne h (status_of state.committed h) (ordered_of state h) section (raised_of state h) None
armed_waits state h armed section is =
    let none = no_request state h is.free in
    free_waits h _ _ section _ is.running none.not_ordered (λ request raised. some_none (sym raised ∙ none.not_raised))

let_go_waits : (state : ModelState) (h : ℕ) (armed : Armed) (status : HartStatus) → IsArmed state h armed →
    WaitsForOne h status (ordered_of state h) (section_of state h) (raised_of state h) None
let_go_waits state h armed status is =
    let none = no_request state h is.free in
    rw is.no_section (ended_waits h status _ _ none.not_ordered none.not_raised)

deed_waits : (state : ModelState) (h : ℕ) (deed : Deed) → DoesWhere state h deed → Sound state →
    Waiting (status_of (committed_after state h deed)) (ordered_of state) h (hart_after state h deed (hart_of state h))
deed_waits state h Rests does sound = sound h
deed_waits state h Waits does sound = sound h
deed_waits state h (Misses line need) (inl misses) sound =
    miss_waits state h line need (hart_of state h) misses.outside.running misses.outside.free
deed_waits state h (Misses line need) (inr misses) sound =
    let inside = misses.room.wants.goes.goes_on.is_short.inside in
    miss_waits state h line need (hart_of state h) inside.running inside.free
deed_waits state h (Runs touch) runs sound =
    candidate_waits h _ _ _ _ (candidate_of state h) _ (ran_waits state h _ runs.outside)
deed_waits state h (Begins swap) begins sound =
    let none = no_request state h begins.outside.free in
    free_waits h _ _ _ _ begins.outside.running none.not_ordered (λ request is. some_none (sym is ∙ none.not_raised))
deed_waits state h (Buffers section touch) buffers sound =
    let inside = buffers.goes.goes_on.is_short.inside in
    let none = no_request state h inside.free in
    free_waits h _ _ _ _ inside.running none.not_ordered (λ request is. some_none (sym is ∙ none.not_raised))
deed_waits state h (Commits section) commits sound =
    let none = no_request state h commits.goes_on.is_short.inside.free in
    ended_waits h _ _ _ none.not_ordered none.not_raised
deed_waits state h (RollsBack section cause) must sound =
    let none = no_request state h (is_rolled state h section cause must).free in
    ended_waits h _ _ _ none.not_ordered none.not_raised
deed_waits state h (Arms word) arms sound =
    let none = no_request state h arms.outside.free in
    free_waits h _ _ _ _ arms.outside.running none.not_ordered (λ request is. some_none (sym is ∙ none.not_raised))
deed_waits state h (Elides armed swap) elides sound = armed_waits state h armed _ elides.is_armed
deed_waits state h (Continues armed) continues sound = armed_waits state h armed _ continues.is_armed
deed_waits state h (LetsGo armed) lets_go sound = let_go_waits state h armed _ lets_go.is_armed

-- an armed hart still waits for nothing after its deed
pub live_unarmed : (state : ModelState) (h : ℕ) (section : Section) → Rested state → section_of state h ≡ Some section →
    armed_of state h ≡ None
live_unarmed state h section rested live = by (rested h)
  where
    by : Resting (status_of state.committed) (ordered_of state) h (hart_of state h) → armed_of state h ≡ None
    by (inl none) = none
    by (inr runs) = some_none (sym live ∙ runs.nothing.no_section)

runs_free : (state : ModelState) (h : ℕ) → status_of state.committed h ≡ Running → has_request state h ≡ false →
    section_of state h ≡ None → RunsWithNothing (status_of state.committed h) (ordered_of state h) (section_of state h)
    (raised_of state h) None
runs_free state h running free none =
    let without = no_request state h free in
    record {
      running = running;
      nothing =
          record {
            no_section = none;
            not_raised = without.not_raised;
            not_ordered = without.not_ordered;
            not_held = refl;
          };
    }

deed_rests : (state : ModelState) (h : ℕ) (deed : Deed) → DoesWhere state h deed → Rested state →
    Resting (status_of (committed_after state h deed)) (ordered_of state) h (hart_after state h deed (hart_of state h))
deed_rests state h Rests does rested = rested h
deed_rests state h Waits does rested = rested h
deed_rests state h (Misses line need) (inl misses) rested = inl misses.outside.unarmed
deed_rests state h (Misses line need) (inr misses) rested =
    inl (live_unarmed state h misses.section rested misses.room.wants.goes.goes_on.is_short.inside.live)
deed_rests state h (Runs touch) runs rested = inl (candidate_armed _ _ (candidate_of state h) _ ∙ runs.outside.unarmed)
deed_rests state h (Begins swap) begins rested = inl refl
deed_rests state h (Buffers section touch) buffers rested =
    inl (live_unarmed state h section rested buffers.goes.goes_on.is_short.inside.live)
deed_rests state h (Commits section) commits rested = inl refl
deed_rests state h (RollsBack section cause) must rested = inl refl
deed_rests state h (Arms word) arms rested =
    inr (runs_free state h arms.outside.running arms.outside.free arms.outside.no_section)
deed_rests state h (Elides armed swap) elides rested = inl refl
deed_rests state h (Continues armed) continues rested =
    inr (runs_free state h continues.is_armed.running continues.is_armed.free continues.is_armed.no_section)
deed_rests state h (LetsGo armed) lets_go rested = inl refl

-- a hart past the last one
absent_waits : (state : ModelState) (h : ℕ) (deed : Deed) → DoesWhere state h deed → Sound state →
    length state.harts ≤ h → Waiting (status_of (committed_after state h deed)) (ordered_of state) h (new_hart 0)
absent_waits state h Rests does sound past =
    subst (Waiting (status_of state.committed) (ordered_of state) h) (hart_of-past state h past) (sound h)
absent_waits state h Waits does sound past =
    subst (Waiting (status_of state.committed) (ordered_of state) h) (hart_of-past state h past) (sound h)
absent_waits state h (Misses line need) (inl misses) sound past =
    ended_waits h _ _ _ (no_request state h misses.outside.free).not_ordered refl
absent_waits state h (Misses line need) (inr misses) sound past =
    ended_waits h _ _ _ (no_request state h misses.room.wants.goes.goes_on.is_short.inside.free).not_ordered refl
absent_waits state h (Runs touch) runs sound past =
    ended_waits h _ _ _ (no_request state h runs.outside.free).not_ordered refl
absent_waits state h (Begins swap) begins sound past =
    ended_waits h _ _ _ (no_request state h begins.outside.free).not_ordered refl
absent_waits state h (Buffers section touch) buffers sound past =
    ended_waits h _ _ _ (no_request state h buffers.goes.goes_on.is_short.inside.free).not_ordered refl
absent_waits state h (Commits section) commits sound past =
    ended_waits h _ _ _ (no_request state h commits.goes_on.is_short.inside.free).not_ordered refl
absent_waits state h (RollsBack section cause) must sound past =
    ended_waits h _ _ _ (no_request state h (is_rolled state h section cause must).free).not_ordered refl
absent_waits state h (Arms word) arms sound past =
    ended_waits h _ _ _ (no_request state h arms.outside.free).not_ordered refl
absent_waits state h (Elides armed swap) elides sound past =
    ended_waits h _ _ _ (no_request state h elides.is_armed.free).not_ordered refl
absent_waits state h (Continues armed) continues sound past =
    ended_waits h _ _ _ (no_request state h continues.is_armed.free).not_ordered refl
absent_waits state h (LetsGo armed) lets_go sound past =
    ended_waits h _ _ _ (no_request state h lets_go.is_armed.free).not_ordered refl

deed_settled : (state : ModelState) (h : ℕ) (deed : Deed) → DoesWhere state h deed → Settled state →
    Settled (done state h deed).state
deed_settled state h deed does settled =
    let sound = sound_in state settled in
    each_but (Standing (status_of (committed_after state h deed)) (ordered_of state)) state h
    (hart_after state h deed (hart_of state h))
    (deed_waits state h deed does sound, deed_rests state h deed does (λ g. (settled g).1))
    (λ g apart. rw (committed_status state h g deed apart) (settled g))
    (λ past. (absent_waits state h deed does sound past, inl refl))

step_settled : (state : ModelState) (h : ℕ) → Settled state → Settled (step_turn state h).state
step_settled state h settled =
    let step = step_deed state h in
    rw step.turn_is (deed_settled state h step.deed step.where_it settled)

pub next_settled : (state : ModelState) (event : Event) → Settled state → Settled (next state event).state
next_settled state event settled =
    by_event (λ turn. Settled turn.state) state event (λ step. step_settled state event.hart.number settled)
    (λ turn done. bus_settled done settled)

record IsFresh (hart : Hart) : Type 0 where
  no_section : hart.section ≡ None
  unarmed : hart.armed ≡ None
  not_raised : hart.raised ≡ None
  not_held : hart.held_line ≡ None

first_settled : (program : Program) (config : Config) → Settled (begin program config)
unfolding begin
first_settled program config h =
    let fresh =
    each_new IsFresh program config
    (λ sets. record { no_section = refl; unarmed = refl; not_raised = refl; not_held = refl }) h in (
      nothing h _ None _ _ _
          (record {
            no_section = fresh.no_section;
            not_raised = fresh.not_raised;
            not_ordered = refl;
            not_held = fresh.not_held;
          }),
      inl fresh.unarmed,
    )

pub always_settled : (program : Program) (config : Config) (events : List Event) → Settled (after program config events)
always_settled program config events =
    kept_after Settled next_settled (begin program config) events (first_settled program config)

pub always_sound : (program : Program) (config : Config) (events : List Event) → Sound (after program config events)
always_sound program config events = sound_in (after program config events) (always_settled program config events)
