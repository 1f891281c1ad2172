-- clocks only grow, and as an attempt closes its hart's clock becomes greater than all that it was and had seen
use Rattle.std.proofs.Common.{◌≡◌, ◌∙◌, ◌<◌, ◌≤◌, ◌==◌, ◌&&◌, ◌||◌, ℕ, Bool, true, false, List, [], ◌∷◌, Option, None}
use Rattle.std.proofs.Common.{Some, is_some, length, refl}
use Rattle.std.proofs.Common.{ap, sym, arith}
use Rattle.std.proofs.Math.Nat.{le_refl}
use Rattle.bus_order.specs.Order.{Request}
use Rattle.el_base.specs.declared.config.Mode.{Mode}
use Rattle.el_base.specs.declared.config.Mode.TheVariants.{Plain, Sle, Tlr}
use Rattle.el_base.specs.declared.events.Event.{Event}
use Rattle.el_base.specs.declared.outcomes.Outcome.{Outcome}
use Rattle.el_base.specs.declared.outcomes.Outcome.TheVariants as outcomes
use Rattle.el_base.proofs.Laws.Tests.{first_of_both, number_of_test, own_test}
use Rattle.el_model.specs.Attempts.{closed_clock, opened}
use Rattle.el_model.specs.BusEvent.{IsOfBus}
use Rattle.el_model.specs.Deed.{Arms, Begins, Buffers, Commits, Continues, Deed, DoesWhere, Elides, LetsGo, Misses}
use Rattle.el_model.specs.Deed.{Rests, RollsBack, Runs, Waits}
use Rattle.el_model.specs.Deed.{done, hart_after, outcome_of}
use Rattle.el_model.specs.Next.{after, next, state_after, step_turn}
use Rattle.el_model.specs.Plain.{candidate_of}
use Rattle.el_model.specs.Serve.{with_claim}
use Rattle.el_model.specs.State.{Hart, ModelState, hart_of, new_hart, section_of}
use Rattle.el_model.proofs.Laws.BusEvents.{by_event}
use Rattle.el_model.proofs.Laws.Deeds.{is_rolled, step_deed}
use Rattle.el_model.proofs.Laws.FromStart.{kept_after}
use Rattle.removal_laws.specs.Laws.{IsLater, LaterAttemptsAreLater, StampsAreKept, attempt_of, closes}
use Rattle.removal_laws.proofs.Laws.Attempts.{AllOpen, Own, always_open, always_own, attempts_kept, candidate_keeps}
use Rattle.removal_laws.proofs.Laws.Attempts.{next_open, next_own}
use Rattle.section_laws.specs.Sections.{is_committed, is_rolled_back}
use Rattle.el_model.proofs.Laws.EachHart.{Each, each_but, each_with}
use Rattle.section_laws.proofs.Laws.EachKept.{BusKept, event_keeps, turn_keeps}
use Rattle.section_laws.proofs.Laws.NewHarts.{live_below}
use Rattle.stamp.specs.Stamps.{Stamp, next_clock_of}

-- whether this outcome closes the attempt of its hart
abbrev pub closes_it : Outcome → Bool
closes_it outcome = is_committed outcome || is_rolled_back outcome

-- a stamp is kept by the deeds that close no attempt
abbrev Kept : ModelState → (ℕ → Bool) → Stamp → ℕ → Hart → Type 0
Kept state closing stamp g hart = closing g ≡ false → attempt_of state g ≡ Some stamp → hart.attempt ≡ Some stamp

opened_kept : (mode : Mode) (h clock : ℕ) (attempt : Option Stamp) (stamp : Stamp) → attempt ≡ Some stamp →
    opened mode h clock attempt ≡ Some stamp
opened_kept Tlr h clock None stamp is = absurd (cc)
opened_kept Tlr h clock (Some stamped) stamp is = is
opened_kept Sle h clock attempt stamp is = is
opened_kept Plain h clock attempt stamp is = is

own_closes : {X : Type 0} (h : ℕ) → ((h == h) && true) ≡ false → X
own_closes h wrong = let e = own_test h in absurd (cc)

deed_kept : (state : ModelState) (h : ℕ) (stamp : Stamp) (deed : Deed) →
    Kept state (λ g. (h == g) && closes_it (outcome_of deed)) stamp h (hart_after state h deed (hart_of state h))
deed_kept state h stamp Rests = λ still is. is
deed_kept state h stamp Waits = λ still is. is
deed_kept state h stamp (Misses line need) = λ still is. is
deed_kept state h stamp (Runs touch) =
    λ still is. candidate_keeps (λ section clock seen attempt. attempt ≡ Some stamp) _ _ (candidate_of state h) _ is
deed_kept state h stamp (Begins swap) = λ still is. opened_kept state.config.mode h (hart_of state h).clock _ stamp is
deed_kept state h stamp (Buffers section touch) = λ still is. is
deed_kept state h stamp (Commits section) = λ still is. own_closes h still
deed_kept state h stamp (RollsBack section cause) = λ still is. own_closes h still
deed_kept state h stamp (Arms word) = λ still is. is
deed_kept state h stamp (Elides armed swap) =
    λ still is. opened_kept state.config.mode h (hart_of state h).clock _ stamp is
deed_kept state h stamp (Continues armed) = λ still is. is
deed_kept state h stamp (LetsGo armed) = λ still is. is

bus_kept : (state : ModelState) (stamp : Stamp) →
    BusKept (λ g hart. attempt_of state g ≡ Some stamp → hart.attempt ≡ Some stamp)
bus_kept state stamp =
    attempts_kept (λ g section clock attempt. attempt_of state g ≡ Some stamp → attempt ≡ Some stamp)
    (record { lost = λ h section clock attempt now. now })

step_kept : (state : ModelState) (h g : ℕ) (stamp : Stamp) →
    ((h == g) && closes_it (step_turn state h).outcome) ≡ false →
    attempt_of state g ≡ Some stamp → attempt_of (step_turn state h).state g ≡ Some stamp
step_kept state h g stamp =
    let step = step_deed state h in
    rw step.turn_is
    (each_with (Kept state (λ k. (h == k) && closes_it (outcome_of step.deed)) stamp) state h
    (hart_after state h step.deed (hart_of state h)) (deed_kept state h stamp step.deed) (λ k still is. is) g)

next_kept : (state : ModelState) (event : Event) (g : ℕ) (stamp : Stamp) → closes state event g ≡ false →
    attempt_of state g ≡ Some stamp → attempt_of (next state event).state g ≡ Some stamp
next_kept state event g stamp =
    by_event
    (λ turn. ((event.hart.number == g) && closes_it turn.outcome) ≡ false → attempt_of state g ≡ Some stamp →
    attempt_of turn.state g ≡ Some stamp)
    state event (λ step. step_kept state event.hart.number g stamp)
    (λ turn done still. turn_keeps (bus_kept state stamp) done (λ k is. is) g)

pub stamps_are_kept : StampsAreKept
stamps_are_kept state h [] stamp still is = is
stamps_are_kept state h (event ∷ events) stamp (now, further) is =
    stamps_are_kept (next state event).state h events stamp further (next_kept state event h stamp now is)

-- clocks do not fall
record Grown (old hart : Hart) : Type 0 where
  clock : old.clock ≤ hart.clock
  seen : old.seen ≤ hart.seen

abbrev Growing : ModelState → ℕ → Hart → Type 0
Growing state g hart = Grown (hart_of state g) hart

claim_grows : (old : Hart) (live : Bool) (request : Request) (hart : Hart) → Grown old hart →
    Grown old (with_claim live request hart)
claim_grows old true request hart now = record { clock = now.clock; seen = now.seen }
claim_grows old false request hart now = record { clock = now.clock; seen = now.seen }

same_clocks : (old hart new : Hart) → new.clock ≡ hart.clock → new.seen ≡ hart.seen → Grown old hart → Grown old new
same_clocks old hart new clock seen now =
    let grew = now.clock in
    let saw = now.seen in
    record { clock = omega (arith, clock, grew); seen = omega (arith, seen, saw) }

bus_grows : (state : ModelState) → BusKept (Growing state)
bus_grows state = record {
  moves = record {
    posted_to = λ h hart mail now. same_clocks (hart_of state h) hart _ refl refl now;
    told = λ h hart told now. same_clocks (hart_of state h) hart _ refl refl now;
    preceded = λ h hart upstream now. same_clocks (hart_of state h) hart _ refl refl now;
    saw = λ h hart seen later now. let saw = now.seen in record { clock = now.clock; seen = omega (arith, later, saw) };
    lost = λ h hart now. same_clocks (hart_of state h) hart _ refl refl now;
    freed = λ h pc hart now. same_clocks (hart_of state h) hart _ refl refl now;
    gave_up = λ h hart now. same_clocks (hart_of state h) hart _ refl refl now;
    tried = λ h hart more now. same_clocks (hart_of state h) hart _ refl refl now;
  };
  unraised = λ h hart now. same_clocks (hart_of state h) hart _ refl refl now;
  served = λ h old request hart now.
      claim_grows (hart_of state h) (is_some hart.section) request _
      (same_clocks (hart_of state h) hart _ refl refl now);
  bystander = λ h old request hart now. same_clocks (hart_of state h) hart _ refl refl now;
}

closed_grows : (hart : Hart) (attempt : Option Stamp) → hart.clock ≤ closed_clock hart attempt
closed_grows hart None = omega arith
closed_grows hart (Some stamp) = omega arith

ungrown : (hart : Hart) → Grown hart hart
ungrown hart = record { clock = le_refl hart.clock; seen = le_refl hart.seen }

deed_grows : (state : ModelState) (h : ℕ) (deed : Deed) (hart : Hart) → Grown hart (hart_after state h deed hart)
deed_grows state h Rests hart = ungrown hart
deed_grows state h Waits hart = ungrown hart
deed_grows state h (Misses line need) hart = same_clocks hart hart _ refl refl (ungrown hart)
deed_grows state h (Runs touch) hart =
    record {
      clock =
          candidate_keeps (λ section clock seen attempt. hart.clock ≤ clock) _ _ (candidate_of state h) _
          (le_refl hart.clock);
      seen =
          candidate_keeps (λ section clock seen attempt. hart.seen ≤ seen) _ _ (candidate_of state h) _
          (le_refl hart.seen);
    }
deed_grows state h (Begins swap) hart = same_clocks hart hart _ refl refl (ungrown hart)
deed_grows state h (Buffers section touch) hart = same_clocks hart hart _ refl refl (ungrown hart)
deed_grows state h (Commits section) hart = record { clock = closed_grows hart hart.attempt; seen = le_refl hart.seen }
deed_grows state h (RollsBack section cause) hart =
    record { clock = closed_grows hart hart.attempt; seen = le_refl hart.seen }
deed_grows state h (Arms word) hart = same_clocks hart hart _ refl refl (ungrown hart)
deed_grows state h (Elides armed swap) hart = same_clocks hart hart _ refl refl (ungrown hart)
deed_grows state h (Continues armed) hart = same_clocks hart hart _ refl refl (ungrown hart)
deed_grows state h (LetsGo armed) hart = same_clocks hart hart _ refl refl (ungrown hart)

next_grows : (state : ModelState) (event : Event) (g : ℕ) → Grown (hart_of state g) (hart_of (next state event).state g)
next_grows state event =
    event_keeps (bus_grows state) state event
    (λ deed does. deed_grows state event.hart.number deed (hart_of state event.hart.number))
    (λ k. ungrown (hart_of state k))

all_grow : (state : ModelState) (events : List Event) (g : ℕ) →
    Grown (hart_of state g) (hart_of (state_after state events) g)
all_grow state [] g = ungrown (hart_of state g)
all_grow state (event ∷ events) g =
    let one = next_grows state event g in
    let rest = all_grow (next state event).state events g in
    let one_clock = one.clock in
    let one_seen = one.seen in
    let rest_clock = rest.clock in
    let rest_seen = rest.seen in
    record { clock = omega (arith, one_clock, rest_clock); seen = omega (arith, one_seen, rest_seen) }

-- as an attempt closes
record Closed (old hart : Hart) : Type 0 where
  clock : old.clock < hart.clock
  seen : old.seen < hart.clock

abbrev Closing : ModelState → (ℕ → Bool) → ℕ → Hart → Type 0
Closing state closing g hart = closing g ≡ true → Closed (hart_of state g) hart

attempt_closes : (old hart : Hart) → is_some old.attempt ≡ true →
    hart.clock ≡ closed_clock old old.attempt → Closed old hart
attempt_closes old hart some clock = by old.attempt refl
  where
    by : (attempt : Option Stamp) → old.attempt ≡ attempt → Closed old hart
    by None is = let e : false ≡ true = sym (ap is_some is) ∙ some in absurd (cc)
    by (Some stamp) is =
        let e : hart.clock ≡ next_clock_of old.clock old.seen = clock ∙ ap (closed_clock old) is in
        record { clock = omega (arith, e); seen = omega (arith, e) }

never : {X : Type 0} (closing : Bool) → (closing && false) ≡ true → X
never true wrong = absurd (cc)
never false wrong = absurd (cc)

deed_closes : (state : ModelState) (h : ℕ) (deed : Deed) → DoesWhere state h deed → AllOpen state →
    Closing state (λ g. (h == g) && closes_it (outcome_of deed)) h (hart_after state h deed (hart_of state h))
deed_closes state h Rests does now = λ closing. never (h == h) closing
deed_closes state h Waits does now = λ closing. never (h == h) closing
deed_closes state h (Misses line need) does now = λ closing. never (h == h) closing
deed_closes state h (Runs touch) does now = λ closing. never (h == h) closing
deed_closes state h (Begins swap) does now = λ closing. never (h == h) closing
deed_closes state h (Buffers section touch) does now = λ closing. never (h == h) closing
deed_closes state h (Arms word) does now = λ closing. never (h == h) closing
deed_closes state h (Elides armed swap) does now = λ closing. never (h == h) closing
deed_closes state h (Continues armed) does now = λ closing. never (h == h) closing
deed_closes state h (LetsGo armed) does now = λ closing. never (h == h) closing
deed_closes state h (Commits section) does now =
    λ closing. attempt_closes (hart_of state h) _ (now.open_each h (ap is_some does.goes_on.is_short.inside.live)) refl
deed_closes state h (RollsBack section cause) does now =
    λ closing.
    attempt_closes (hart_of state h) _ (now.open_each h (ap is_some (is_rolled state h section cause does).live)) refl

live_exists : {X : Type 0} (state : ModelState) (h : ℕ) → length state.harts ≤ h →
    is_some (section_of state h) ≡ true → X
live_exists state h past live = let below = live_below state h live in absurd (omega (arith, below, past))

done_closes : (state : ModelState) (h : ℕ) (deed : Deed) → DoesWhere state h deed → AllOpen state →
    Each (Closing state (λ g. (h == g) && closes_it (outcome_of deed))) (done state h deed).state
done_closes state h deed does now =
    each_but (Closing state (λ g. (h == g) && closes_it (outcome_of deed))) state h
    (hart_after state h deed (hart_of state h))
    (deed_closes state h deed does now)
    (λ g apart closing. absurd (apart (sym (number_of_test h g (first_of_both (h == g) _ closing)))))
    (λ past closing. past_closes state h deed does past closing)
  where
    past_closes : (state : ModelState) (h : ℕ) (deed : Deed) → DoesWhere state h deed → length state.harts ≤ h →
        ((h == h) && closes_it (outcome_of deed)) ≡ true → Closed (hart_of state h) (new_hart 0)
    past_closes state h Rests does past closing = never (h == h) closing
    past_closes state h Waits does past closing = never (h == h) closing
    past_closes state h (Misses line need) does past closing = never (h == h) closing
    past_closes state h (Runs touch) does past closing = never (h == h) closing
    past_closes state h (Begins swap) does past closing = never (h == h) closing
    past_closes state h (Buffers section touch) does past closing = never (h == h) closing
    past_closes state h (Arms word) does past closing = never (h == h) closing
    past_closes state h (Elides armed swap) does past closing = never (h == h) closing
    past_closes state h (Continues armed) does past closing = never (h == h) closing
    past_closes state h (LetsGo armed) does past closing = never (h == h) closing
    past_closes state h (Commits section) does past closing =
        live_exists state h past (ap is_some does.goes_on.is_short.inside.live)
    past_closes state h (RollsBack section cause) does past closing =
        live_exists state h past (ap is_some (is_rolled state h section cause does).live)

-- no event of the bus closes an attempt
closes_not : {X : Type 0} (own : Bool) (outcome : Outcome) → IsOfBus outcome → (own && closes_it outcome) ≡ true → X
closes_not false outcome bus closing = absurd (cc)
closes_not true outcomes.Idle bus closing = absurd (cc)
closes_not true (outcomes.Ordered losers freed) bus closing = absurd (cc)
closes_not true (outcomes.Served losers freed) bus closing = absurd (cc)
closes_not true (outcomes.Blocked why by) bus closing = absurd (cc)
closes_not true (outcomes.Delivered losers) bus closing = absurd (cc)
closes_not true outcomes.Stalled bus closing = elim bus [ ]
closes_not true (outcomes.Missed line need) bus closing = elim bus [ ]
closes_not true outcomes.Ran bus closing = elim bus [ ]
closes_not true outcomes.Began bus closing = elim bus [ ]
closes_not true outcomes.Buffered bus closing = elim bus [ ]
closes_not true (outcomes.Committed count) bus closing = elim bus [ ]
closes_not true (outcomes.RolledBack cause) bus closing = elim bus [ ]
closes_not true outcomes.Armed bus closing = elim bus [ ]
closes_not true (outcomes.LetGo count) bus closing = elim bus [ ]

step_closes : (state : ModelState) (h g : ℕ) → AllOpen state →
    ((h == g) && closes_it (step_turn state h).outcome) ≡ true →
    Closed (hart_of state g) (hart_of (step_turn state h).state g)
step_closes state h g now =
    let step = step_deed state h in
    rw step.turn_is (done_closes state h step.deed step.where_it now g)

next_closes : (state : ModelState) (event : Event) (g : ℕ) → AllOpen state → closes state event g ≡ true →
    Closed (hart_of state g) (hart_of (next state event).state g)
next_closes state event g now =
    by_event (λ turn. ((event.hart.number == g) && closes_it turn.outcome) ≡ true →
    Closed (hart_of state g) (hart_of turn.state g)) state event
    (λ step. step_closes state event.hart.number g now)
    (λ turn done closing. closes_not (event.hart.number == g) turn.outcome done.of_bus closing)

pub later_from : (first : ModelState) (between afterwards : List Event) (closing : Event) (h : ℕ) (later : Stamp) →
    Each Own first → AllOpen first → closes (state_after first between) closing h ≡ true →
    attempt_of (state_after (next (state_after first between) closing).state afterwards) h ≡ Some later →
    IsLater first h later
later_from first between afterwards closing h later own open_first closed is =
    let before = state_after first between in
    let after_it = (next before closing).state in
    let own_before = kept_after (Each Own) next_own first between own in
    let own_last = kept_after (Each Own) next_own after_it afterwards (next_own before closing own_before) in
    let open_before = kept_after AllOpen next_open first between open_first in
    let grew = all_grow first between h in
    let close = next_closes before closing h open_before closed in
    let rest = all_grow after_it afterwards h in
    let own_clock = (own_last h later is).clock_is in
    let grew_clock = grew.clock in
    let grew_seen = grew.seen in
    let close_clock = close.clock in
    let close_seen = close.seen in
    let rest_clock = rest.clock in
    record {
      than_earlier = λ earlier was.
          let e = (own h earlier was).clock_is in
          omega (arith, e, grew_clock, close_clock, rest_clock, own_clock);
      than_clock = omega (arith, grew_clock, close_clock, rest_clock, own_clock);
      than_seen = omega (arith, grew_seen, close_seen, rest_clock, own_clock);
    }

pub later_attempts_are_later : LaterAttemptsAreLater
later_attempts_are_later program config events between afterwards closing h later mode closed is =
    later_from (after program config events) between afterwards closing h later (always_own program config events)
    (always_open program config events mode) closed is
