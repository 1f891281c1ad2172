-- the losers of an event lost to harts that wait with less stamps
use Rattle.std.proofs.Common.{◌≡◌, ◌∙◌, ◌≤◌, ◌&&◌, ℕ, true, Option, None, Some, refl, ap, sym, inl, inr}
use Rattle.std.proofs.Common.{◌⊎◌, subst, arith, if◌then◌else◌}
use Rattle.std.proofs.lemmas.Option.{same_Some}
use Rattle.bus_order.specs.Order.{Request, first_of, removed, request_of}
use Rattle.bus_order.proofs.Laws.Orders.{one_each_removed}
use Rattle.bus_order.proofs.Laws.Queues.{request_of_first_of}
use Rattle.defer_list.specs.HartSet.{has}
use Rattle.el_base.proofs.Laws.MadeLosers.{named_by_map}
use Rattle.el_base.specs.Winners.{winner_over}
use Rattle.el_base.specs.declared.config.Mode.TheVariants.{Tlr}
use Rattle.el_base.specs.declared.events.Event.{Event}
use Rattle.el_base.proofs.Laws.Cases.{none_some}
use Rattle.el_base.proofs.Laws.Tests.{own_test, second_of_both}
use Rattle.el_model.specs.BusEvent.{AtFace, AtProbe, Becomes, IsAbsent, IsBusEvent, IsLetGo, IsSent, LosesIt}
use Rattle.el_model.specs.BusEvent.{LosesWhere}
use Rattle.el_model.specs.BusEvent.{Nothing, Places, Sees, Serves}
use Rattle.el_model.specs.BusEvent.{Start, Starts, StartsWhere, Takes, as_faced, faced_head, order_after}
use Rattle.el_model.specs.Conflicts.{retains, stamp_in, told_winner}
use Rattle.el_model.specs.Deed.{Arms, Begins, Buffers, Commits, Continues, Deed, Elides, LetsGo, Misses, Rests}
use Rattle.el_model.specs.Deed.{RollsBack, Runs, Waits, outcome_of}
use Rattle.el_model.specs.Face.{winning_stamp}
use Rattle.el_model.specs.Next.{after, next, step_turn}
use Rattle.el_model.specs.Order.{Alone, Behind, InFront}
use Rattle.el_model.specs.RollBack.{beaten}
use Rattle.el_model.specs.State.{Hart, ModelState, Turn, for_line, hart_of, numbers_of, ordered_of, ordered_on}
use Rattle.el_model.specs.State.{raised_of}
use Rattle.el_model.proofs.Laws.BusEvents.{by_event, frame_as_faced, freed_becomes_at}
use Rattle.el_model.proofs.Laws.Deeds.{step_deed}
use Rattle.el_model.proofs.Laws.Orders.{order_as_faced, placed_own, served_order}
use Rattle.removal_laws.specs.Laws.{LosersLoseToEarlier, LosesToEarlier, attempt_of}
use Rattle.removal_laws.proofs.Laws.Attempts.{attempts_kept}
use Rattle.removal_laws.proofs.Laws.Delivering.{own_line}
use Rattle.removal_laws.proofs.Laws.Facing.{FateIs, Lost, fate_is, least_passes, saw_clock}
use Rattle.removal_laws.proofs.Requests.{raised_own}
use Rattle.removal_laws.proofs.Laws.Throughout.{always_holds}
use Rattle.section_laws.proofs.Laws.EachKept.{BusKept, becomes_keeps, turn_keeps}
use Rattle.section_laws.proofs.Laws.Moves.{seen_grows}
use Rattle.section_laws.proofs.Laws.Numbered.{Once}
use Rattle.section_laws.proofs.Laws.Waiting.{free_of_order}
use Rattle.stamp.specs.Stamps.{Stamp, is_before}

-- an event of the bus opens and closes no attempt
pub same_attempts : (state : ModelState) → BusKept (λ g hart. hart.attempt ≡ attempt_of state g)
same_attempts state =
    attempts_kept (λ g section clock attempt. attempt ≡ attempt_of state g)
    (record { lost = λ h section clock attempt now. now })

-- a hart that has lost has seen the stamp by which it was
record IsBeaten (state : ModelState) (by : ℕ) (start : Start) (g winner seen : ℕ) : Type 0 where
  stamp : Option Stamp
  loses : LosesWhere state by start g winner stamp
  saw : (at : Stamp) → stamp ≡ Some at → at.clock ≤ seen

becomes_beaten : (state : ModelState) (by : ℕ) (start : Start) (g winner : ℕ) {lost : Option ℕ} {hart : Hart} →
    state.config.mode ≡ Tlr →
    lost ≡ Some winner → Becomes state by start g lost hart → IsBeaten state by start g winner hart.seen
becomes_beaten state by start g winner mode is (IsAbsent past) = none_some is
becomes_beaten state by start g winner mode is (Starts below) = none_some is
becomes_beaten state by start g winner mode is (IsSent message lost hart sent before) =
    becomes_beaten state by start g winner mode is before
becomes_beaten state by start g winner mode is (IsLetGo head hart frees before) = none_some is
becomes_beaten state by start g winner mode is (Sees head lost hart defers before) =
    let it = becomes_beaten state by start g winner mode is before in
    record {
      stamp = it.stamp;
      loses = it.loses;
      saw = λ at at_is. let was = it.saw at at_is in
          let more = seen_grows hart.seen head.stamp in omega (arith, was, more);
    }
becomes_beaten state by start g winner mode is (LosesIt found stamp hart loses before) = record {
  stamp = stamp;
  loses = subst (λ w. LosesWhere state by start g w stamp) (same_Some _ _ is) loses;
  saw = λ at at_is. subst (λ m. at.clock ≤ (beaten m stamp hart).seen) (sym mode) (saw_clock hart.seen stamp at at_is);
}

-- the request by which a winner won, as it is ordered after the start
record WonBy (state : ModelState) (start : Start) (g winner : ℕ) (stamp : Option Stamp) : Type 0 where
  request : Request
  waits : request_of (order_after state start) winner ≡ Some request
  stamp_is : request.stamp ≡ stamp
  earlier : is_before request.stamp (attempt_of state g) ≡ true

-- a head that is faced is ordered
placed_head : (state : ModelState) (by : ℕ) (request : Request) → Once state → raised_of state by ≡ Some request →
    ordered_of state request.hart ≡ None
placed_head state by request once raised =
    free_of_order state request.hart request once.sound (raised_own state by request once.sound raised)

head_ordered : (state : ModelState) (by : ℕ) (start : Start) (head : Request) → Once state →
    StartsWhere state by start →
    faced_head state start ≡ Some head → request_of (order_after state start) head.hart ≡ Some head
head_ordered state by Nothing head once where_it is = none_some is
head_ordered state by (Places request InFront) head once may is =
    subst (λ r. request_of (order_after state (Places request InFront)) r.hart ≡ Some r) (same_Some _ _ is)
    (placed_own state request InFront (placed_head state by request once may.raised))
head_ordered state by (Places request Behind) head once may is = none_some is
head_ordered state by (Places request Alone) head once may is =
    subst (λ r. request_of (order_after state (Places request Alone)) r.hart ≡ Some r) (same_Some _ _ is)
    (placed_own state request Alone (placed_head state by request once may.raised))
head_ordered state by (Serves request) head once may is =
    request_of_first_of (removed state.order request.hart) request.line head
    (one_each_removed state.order request.hart once.once)
    (sym (ap (λ order. first_of order request.line) (served_order state request)) ∙ is)
head_ordered state by (Takes message others) head once where_it is = none_some is

-- a section that is lost as a head is faced
module _ (state : ModelState) (by : ℕ) (start : Start) (head : Request) (is : faced_head state start ≡ Some head)
    (once : Once state)
    (where_it : StartsWhere state by start) (g winner : ℕ) where
  abbrev mid : ModelState
  mid = as_faced state by start head

  mid_attempt : attempt_of mid g ≡ attempt_of state g
  mid_attempt = becomes_keeps (same_attempts state) state by start g refl (freed_becomes_at state by start head is g)

  mid_ordered : (k : ℕ) → ordered_of mid k ≡ request_of (order_after state start) k
  mid_ordered k = ap (λ order. request_of order k) (order_as_faced state by start head)

  head_stamp : winning_stamp mid head.line head.hart ≡ head.stamp
  head_stamp =
      ap (λ found. stamp_in (for_line head.line found))
      (mid_ordered head.hart ∙ head_ordered state by start head once where_it is)
      ∙ ap (λ same. stamp_in (if same then Some head else None)) (own_test head.line)

  told_won : (found : Option Request) → ordered_on mid winner head.line ≡ found → is_before (stamp_in found)
      (attempt_of mid g) ≡ true →
      WonBy state start g winner (winning_stamp mid head.line winner)
  told_won None on less = before_none (attempt_of mid g) less
    where
      before_none : {X : Type 0} (attempt : Option Stamp) → is_before None attempt ≡ true → X
      before_none None less = absurd (cc)
      before_none (Some stamp) less = absurd (cc)
  told_won (Some request) on less = record {
    request = request;
    waits = sym (mid_ordered winner) ∙ (own_line head.line (ordered_of mid winner) request on).0;
    stamp_is = sym (ap stamp_in on);
    earlier = subst (λ attempt. is_before request.stamp attempt ≡ true) mid_attempt less;
  }

  face_won : Lost mid head g (hart_of mid g) winner → WonBy state start g winner (winning_stamp mid head.line winner)
  face_won lost = by_why lost.why
    where
      by_why : ((winner ≡ head.hart) × (is_before head.stamp (hart_of mid g).attempt ≡ true)) ⊎
          (told_winner mid (hart_of mid g) head.line ≡ Some winner) →
          WonBy state start g winner (winning_stamp mid head.line winner)
      by_why (inl (same, less)) = record {
        request = head;
        waits =
            subst (λ k. request_of (order_after state start) k ≡ Some head) (sym same)
            (head_ordered state by start head once where_it is);
        stamp_is = sym (ap (winning_stamp mid head.line) same ∙ head_stamp);
        earlier = subst (λ attempt. is_before head.stamp attempt ≡ true) mid_attempt less;
      }
      by_why (inr told) =
          told_won (ordered_on mid winner head.line) refl
          (second_of_both (has (hart_of mid g).told winner) _
          (least_passes (λ o. has (hart_of mid g).told o && is_before (stamp_in (ordered_on mid o head.line))
          (hart_of mid g).attempt)
          (λ o. stamp_in (ordered_on mid o head.line)) (numbers_of mid) winner told))

won_by : (state : ModelState) (by : ℕ) {start : Start} {g winner : ℕ} {stamp : Option Stamp} → state.config.mode ≡ Tlr →
    Once state →
    StartsWhere state by start → LosesWhere state by start g winner stamp → WonBy state start g winner stamp
won_by state by mode once where_it (AtFace start head g winner is apart fate) =
    let mid = as_faced state by start head in
    let mid_mode = ap (λ config. config.mode) (frame_as_faced state by start head).config ∙ mode in
    face_won state by start head is once where_it g winner
    (subst (FateIs mid head g (hart_of mid g)) fate (fate_is mid head g (hart_of mid g) mid_mode))
won_by state by mode once where_it (AtProbe origin others request is loses) = record {
  request = request;
  waits = is;
  stamp_is = refl;
  earlier = second_of_both (retains state by request.line) _ loses;
}

turn_beats : {state : ModelState} {by : ℕ} {turn : Turn} → IsBusEvent state by turn → state.config.mode ≡ Tlr →
    Once state → (g winner : ℕ) →
    winner_over turn.outcome g ≡ Some winner → LosesToEarlier turn.state g winner
turn_beats {state} {by} {turn} done mode once g winner lost =
    let beaten =
    becomes_beaten state by done.start g winner mode (named_by_map done.lost g winner (sym (done.names g) ∙ lost))
    (done.becomes g) in
    let won = won_by state by mode once done.where_it beaten.loses in
    record {
      request = won.request;
      waits = ap (λ order. request_of order winner) done.order ∙ won.waits;
      earlier =
          subst (λ attempt. is_before won.request.stamp attempt ≡ true)
          (sym (turn_keeps (same_attempts state) done (λ k. refl) g)) won.earlier;
      seen = λ stamp stamp_is. beaten.saw stamp (sym won.stamp_is ∙ stamp_is);
    }

-- a step names no losers
step_names_none : {X : Type 0} (deed : Deed) (g winner : ℕ) → winner_over (outcome_of deed) g ≡ Some winner → X
step_names_none Rests g winner is = absurd (cc)
step_names_none Waits g winner is = absurd (cc)
step_names_none (Misses line need) g winner is = absurd (cc)
step_names_none (Runs touch) g winner is = absurd (cc)
step_names_none (Begins swap) g winner is = absurd (cc)
step_names_none (Buffers section touch) g winner is = absurd (cc)
step_names_none (Commits section) g winner is = absurd (cc)
step_names_none (RollsBack section cause) g winner is = absurd (cc)
step_names_none (Arms word) g winner is = absurd (cc)
step_names_none (Elides armed swap) g winner is = absurd (cc)
step_names_none (Continues armed) g winner is = absurd (cc)
step_names_none (LetsGo armed) g winner is = absurd (cc)

pub step_names : {X : Type 0} (state : ModelState) (h g winner : ℕ) →
    winner_over (step_turn state h).outcome g ≡ Some winner → X
step_names state h g winner lost =
    let step = step_deed state h in
    step_names_none step.deed g winner (subst (λ turn. winner_over turn.outcome g ≡ Some winner) step.turn_is lost)

pub next_beats : (state : ModelState) (event : Event) → state.config.mode ≡ Tlr → Once state → (g winner : ℕ) →
    winner_over (next state event).outcome g ≡ Some winner → LosesToEarlier (next state event).state g winner
next_beats state event mode once g winner =
    by_event (λ turn. winner_over turn.outcome g ≡ Some winner → LosesToEarlier turn.state g winner) state event
    (λ step lost. step_names state event.hart.number g winner lost)
    (λ turn done lost. turn_beats done mode once g winner lost)

pub losers_lose_to_earlier : LosersLoseToEarlier
losers_lose_to_earlier program config events event g winner mode lost =
    let grounds = (always_holds program config events mode).grounds in
    next_beats (after program config events) event grounds.opened.mode grounds.once g winner lost
