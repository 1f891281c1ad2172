-- every event of the bus is told by its start and by what becomes of each hart from there
use Rattle.std.proofs.Common.{◌≡◌, ◌≢◌, ◌∙◌, ℕ, suc, ◌+◌, ◌<◌, ◌≤◌, Bool, true, false, ◌&&◌, not, ◌==◌, List, [], ◌∷◌}
use Rattle.std.proofs.Common.{Option, None, Some, is_some, length}
use Rattle.std.proofs.Common.{map, filter, refl, ap, sym, subst, arith, if◌then◌else◌}
use Rattle.std.specs.Prelude.{nat_lt}
use Rattle.std.proofs.lemmas.Bool.{ltb-true, ltb-false, not-true}
use Rattle.std.proofs.lemmas.Option.{same_Some}
use Rattle.bus_order.specs.Order.{Request, tail_of}
use Rattle.defer_list.specs.HartSet.{has, included}
use Rattle.el_base.proofs.Laws.MadeLosers.{unnamed_by_map}
use Rattle.chronicle.specs.Serial.{taking_effect}
use Rattle.el_base.proofs.Laws.FreedOrder.{no_one_in_order}
use Rattle.el_base.specs.Freed.{order_of}
use Rattle.el_base.specs.Losers.{losers_of}
use Rattle.el_base.specs.Winners.{winner_over}
use Rattle.el_base.specs.declared.config.Mode.{Mode}
use Rattle.el_base.specs.declared.config.Mode.TheVariants.{Plain, Sle, Tlr}
use Rattle.el_base.specs.declared.events.Event.{Event}
use Rattle.el_base.specs.declared.events.Kind.{Kind}
use Rattle.el_base.specs.declared.events.Kind.TheVariants as kinds
use Rattle.el_base.specs.declared.outcomes.Outcome.TheVariants.{Delivered, Ordered, Served}
use Rattle.el_base.proofs.Laws.Cases.{none_some}
use Rattle.el_base.proofs.Laws.Tests.{apart_by_test, number_of_test, other_test, own_test}
use Rattle.el_model.specs.BusEvent.{AtFace, AtProbe, Becomes, Forwards, IsAbsent, IsAnswered, IsBehind, IsBusEvent}
use Rattle.el_model.specs.BusEvent.{IsDeferred, IsForwarded, IsLetGo, IsOfBus}
use Rattle.el_model.specs.BusEvent.{IsPassed, IsPosted, IsSent, IsToldOn, LosesIt, MayPlace, MayServe, Nothing, Places}
use Rattle.el_model.specs.BusEvent.{Sees, Serves, Start}
use Rattle.el_model.specs.BusEvent.{Starts, Takes, TellsOn, as_faced, as_met, faced_head, freed_in, having_taken}
use Rattle.el_model.specs.BusEvent.{started}
use Rattle.el_model.specs.Armed.{freed_by, freed_hart, is_freed, let_go, let_go_hart}
use Rattle.el_model.specs.Conflicts.{conflicts_with, stamp_in}
use Rattle.el_model.specs.Deliver.{after_probe, deliver_next, deliver_turn, delivered, forwarded, forwards_on}
use Rattle.el_model.specs.Deliver.{losers_by, loses_to_origin, nobody}
use Rattle.el_model.specs.Deliver.{one_lost, post_to, probe_losers, taken, told_of, told_on}
use Rattle.el_model.specs.Face.{Fate, LosesTo, Stays, Unmet, after_fate, deferring, face_losers, faced, faced_hart}
use Rattle.el_model.specs.Face.{fate_at, freed_if, markers_for}
use Rattle.el_model.specs.Face.{met, met_if, met_losers_if, stays, winner_in, winning_stamp}
use Rattle.el_model.specs.Laws.{BusEventsAreToldOnce}
use Rattle.el_model.specs.Next.{kind_turn, next, step_turn}
use Rattle.el_model.specs.Order.{Alone, Behind, InFront, Place, before_face, freed_at, losers_at, marked_by}
use Rattle.el_model.specs.Order.{marked_from, marking, order_raised}
use Rattle.el_model.specs.Order.{order_turn, place_for, placed, placed_in_front, placed_last, unraised}
use Rattle.el_model.specs.RollBack.{beaten}
use Rattle.el_model.specs.Serve.{Blocks, Free, Obstacle, obstacle_to, serve_ordered, serve_past, serve_turn, served}
use Rattle.el_model.specs.State.{Hart, ModelState, Turn, count_up, each_hart, hart_of, head_of, idle, new_hart}
use Rattle.el_model.specs.State.{ordered_of, ordered_on, post_all}
use Rattle.el_model.specs.State.{raised_of, with_hart}
use Rattle.el_model.proofs.Laws.EachHart.{Each, each_after, each_but_below, each_with}
use Rattle.el_model.proofs.Laws.Harts.{hart_of-each_hart, hart_of-each_hart_past, hart_of-past, hart_of-with_hart_other}
use Rattle.el_model.proofs.Laws.Harts.{hart_of-with_hart_same, with_hart_kept}
use Rattle.el_model.proofs.Laws.Keeps.{Frame, Keeps, frame_let_go, frame_met, frame_of, frame_placed, frame_twice}
use Rattle.el_model.proofs.Laws.Keeps.{keeps_all, keeps_before_face}
use Rattle.el_model.proofs.Laws.Keeps.{keeps_each_hart, keeps_message, keeps_served, keeps_twice, keeps_with_hart}
use Rattle.el_model.proofs.Laws.Keeps.{met_commits, placed_commits}
use Rattle.el_model.proofs.Laws.Losing.{outside_is_unmet, own_is_unmet}
use Rattle.el_model.proofs.Laws.Orders.{met_order, placed_order, served_order}
use Rattle.el_model.proofs.Laws.Tests.{by_test}
use Rattle.mail.specs.Mailbox.{Message, Marker, Probe, posted}
use Rattle.rv_flat.specs.FlatState.{view_of}
use Rattle.rv_flat.specs.Run.{run}
use Rattle.stamp.specs.Stamps.{is_before}

module _ (state : ModelState) (by : ℕ) (start : Start) where
  -- a hart that has lost nothing so far
  abbrev Unbeaten : ℕ → Hart → Type 0
  Unbeaten h hart = Becomes state by start h None hart

  -- a hart that the start leaves as it was
  left : (h : ℕ) → started state by start h (hart_of state h) ≡ hart_of state h → Unbeaten h (hart_of state h)
  left h same = by_count (nat_lt h (length state.harts)) refl
    where
      by_count : (below : Bool) → nat_lt h (length state.harts) ≡ below → Unbeaten h (hart_of state h)
      by_count true is = subst (Unbeaten h) same (Starts (ltb-true h (length state.harts) is))
      by_count false is = IsAbsent (ltb-false h (length state.harts) is)

  absent : (h : ℕ) → length state.harts ≤ h → Unbeaten h (new_hart 0)
  absent h past = subst (Unbeaten h) (hart_of-past state h past) (IsAbsent past)

  -- one hart alone starts, or each
  one_started : (h : ℕ) (hart : Hart) → hart ≡ started state by start h (hart_of state h) →
      ((g : ℕ) → g ≢ h → started state by start g (hart_of state g) ≡ hart_of state g) →
      Each Unbeaten (with_hart state h hart)
  one_started h hart is others =
      each_but_below Unbeaten state h hart (λ below. subst (Unbeaten h) (sym is) (Starts below))
      (λ g apart. left g (others g apart)) (absent h)

  each_started : Each Unbeaten (each_hart state (started state by start))
  each_started h = by_count (nat_lt h (length state.harts)) refl
    where
      by_count : (below : Bool) → nat_lt h (length state.harts) ≡ below →
          Unbeaten h (hart_of (each_hart state (started state by start)) h)
      by_count true is =
          let below = ltb-true h (length state.harts) is in
          subst (Unbeaten h) (sym (hart_of-each_hart state (started state by start) h below)) (Starts below)
      by_count false is =
          let past = ltb-false h (length state.harts) is in
          subst (Unbeaten h) (sym (hart_of-each_hart_past state (started state by start) h past)) (absent h past)

  -- a hart is posted a message, or several
  sent : (mid : ModelState) (h : ℕ) (message : Message) → IsPosted state by start h message → Each Unbeaten mid →
      Each Unbeaten (with_hart mid h (record (hart_of mid h) { mail = posted (hart_of mid h).mail message }))
  sent mid h message is each = each_with Unbeaten mid h _ (IsSent message None (hart_of mid h) is (each h)) each

  abbrev ArePosted : ℕ → List Message → Type 0
  ArePosted h [] = Unit {0}
  ArePosted h (message ∷ messages) = IsPosted state by start h message × ArePosted h messages

  all_sent : (h : ℕ) (hart : Hart) (messages : List Message) → ArePosted h messages → Unbeaten h hart →
      Unbeaten h (post_all hart messages)
  all_sent h hart [] are now = now
  all_sent h hart (message ∷ messages) (is, are) now =
      all_sent h (record hart { mail = posted hart.mail message }) messages are (IsSent message None hart is now)

  -- messages that name harts of which a test holds
  listed : (h count from : ℕ) (kind : ℕ → Message) (test : ℕ → Bool) (harts : List Hart) → from + length harts ≤ count →
      ((k : ℕ) → k < count → test k ≡ true → IsPosted state by start h (kind k)) →
      ArePosted h (map kind (filter test (count_up from harts)))
  listed h count from kind test [] within are = tt
  listed h count from kind test (hart ∷ harts) within are =
      by_named (test from) refl (listed h count (suc from) kind test harts (omega (arith, within)) are)
    where
      by_named : (there : Bool) → test from ≡ there → ArePosted h (map kind (filter test (count_up (suc from) harts))) →
          ArePosted h
          (map kind (if there then from ∷ filter test (count_up (suc from) harts)
          else filter test (count_up (suc from) harts)))
      by_named true is rest = (are from (omega (arith, within)) is, rest)
      by_named false is rest = rest

-- the state in which a head is met, and the one in which it is faced
pub keeps_as_met : (state : ModelState) (by : ℕ) (start : Start) → Keeps state (as_met state by start)
keeps_as_met state by Nothing = keeps_all state
keeps_as_met state by (Places request place) = keeps_before_face state request place
keeps_as_met state by (Serves request) = keeps_served state request
keeps_as_met state by (Takes message others) = keeps_with_hart state by (record (hart_of state by) { mail = others })

pub frame_as_faced : (state : ModelState) (by : ℕ) (start : Start) (head : Request) →
    Frame state (as_faced state by start head)
frame_as_faced state by start head =
    frame_twice (frame_of (keeps_as_met state by start)) (frame_let_go (as_met state by start) head)

-- a hart whose section stays is not the head's
stays_apart : (state : ModelState) (head : Request) (h : ℕ) → is_some (stays (fate_at state head h)) ≡ true →
    h ≢ head.hart
stays_apart state head h is same =
    let test : (h == head.hart) ≡ true = ap (λ k. k == head.hart) same ∙ own_test head.hart in
    let e = sym is ∙ ap (λ fate. is_some (stays fate)) (own_is_unmet state head h (hart_of state h) test) in
    absurd (cc)

stays_there : (fate : Fate) → is_some (stays fate) ≡ true → fate ≡ Stays
stays_there Stays is = refl
stays_there Unmet is = absurd (cc)
stays_there (LosesTo winner) is = absurd (cc)

-- a head is faced
module _ (state : ModelState) (by : ℕ) (start : Start) (head : Request) (is : faced_head state start ≡ Some head)
    (each_met : Each (Unbeaten state by start) (as_met state by start)) where
  abbrev mid : ModelState
  mid = as_faced state by start head

  same_mode : mid.config.mode ≡ state.config.mode
  same_mode = ap (λ config. config.mode) (frame_as_faced state by start head).config

  -- the armed sections that it meets are let go
  freed_becomes : (h : ℕ) → Unbeaten state by start h (hart_of (as_met state by start) h) →
      Unbeaten state by start h (freed_hart (as_met state by start) head h (hart_of (as_met state by start) h))
  freed_becomes h now =
      let hart = hart_of (as_met state by start) h in
      by_test (Unbeaten state by start h) (is_freed head h hart)
      (let_go_hart (view_of (as_met state by start).committed h).pc hart) hart
      (λ freed.
      subst (λ committed. Unbeaten state by start h (let_go_hart (view_of committed h).pc hart))
      (sym (keeps_as_met state by start).committed)
      (IsLetGo head hart (record { head_is = is; freed = freed }) now))
      (λ stays. now)

  each : Each (Unbeaten state by start) mid
  unfolding let_go
  each =
      each_after (Unbeaten state by start) (as_met state by start) (freed_hart (as_met state by start) head)
      freed_becomes each_met

  deferring_becomes : (mode : Mode) → mid.config.mode ≡ mode → (h : ℕ) → h ≢ head.hart → fate_at mid head h ≡ Stays →
      Becomes state by start h None (deferring mode head.stamp (hart_of mid h))
  deferring_becomes Tlr in_mode h apart fate =
      Sees head None (hart_of mid h)
      (record { mode = sym same_mode ∙ in_mode; head_is = is; apart = apart; fate = fate }) (each h)
  deferring_becomes Sle in_mode h apart fate = each h
  deferring_becomes Plain in_mode h apart fate = each h

  fate_becomes : (h : ℕ) → h ≢ head.hart → (fate : Fate) → fate_at mid head h ≡ fate →
      Becomes state by start h (winner_in fate) (after_fate mid head fate (hart_of mid h))
  fate_becomes h apart Unmet fate = each h
  fate_becomes h apart Stays fate = deferring_becomes mid.config.mode refl h apart fate
  fate_becomes h apart (LosesTo winner) fate =
      let stamp = winning_stamp mid head.line winner in
      subst (λ mode. Becomes state by start h (Some winner) (beaten mode stamp (hart_of mid h))) (sym same_mode)
      (LosesIt winner stamp (hart_of mid h) (AtFace start head h winner is apart fate) (each h))

  markers_posted : (mode : Mode) → mid.config.mode ≡ mode →
      ArePosted state by start head.hart (markers_for mode mid head)
  markers_posted Tlr in_mode =
      listed state by start head.hart (length mid.harts) 0 Marker (λ h. is_some (stays (fate_at mid head h)))
      mid.harts (omega arith)
      (λ h below stay.
      IsDeferred start head h
      (record {
        mode = sym same_mode ∙ in_mode;
        head_is = is;
        apart = stays_apart mid head h stay;
        fate = stays_there (fate_at mid head h) stay;
      })
      (subst (λ n. h < n) (frame_as_faced state by start head).count below))
  markers_posted Sle in_mode = tt
  markers_posted Plain in_mode = tt

  hart_becomes : (h : ℕ) → Becomes state by start h (winner_in (fate_at mid head h))
      (faced_hart mid head h (hart_of mid h))
  hart_becomes h = by_own (h == head.hart) refl
    where
      by_own : (own : Bool) → (h == head.hart) ≡ own →
          Becomes state by start h (winner_in (fate_at mid head h))
          (if own then post_all (hart_of mid h) (markers_for mid.config.mode mid head)
          else after_fate mid head (fate_at mid head h) (hart_of mid h))
      by_own true test =
          let posted =
          subst (λ k. ArePosted state by start k (markers_for mid.config.mode mid head))
          (sym (number_of_test h head.hart test))
          (markers_posted mid.config.mode refl) in
          subst (λ fate. Becomes state by start h (winner_in fate)
          (post_all (hart_of mid h) (markers_for mid.config.mode mid head)))
          (sym (own_is_unmet mid head h (hart_of mid h) test))
          (all_sent state by start h (hart_of mid h) (markers_for mid.config.mode mid head) posted (each h))
      by_own false test =
          fate_becomes h (λ same. differ (sym test ∙ ap (λ k. k == head.hart) same ∙ own_test head.hart))
          (fate_at mid head h) refl
        where
          differ : false ≡ true → ⊥
          differ wrong = absurd (cc)

  faced_becomes : (h : ℕ) → Becomes state by start h (winner_in (fate_at mid head h)) (hart_of (faced mid head) h)
  unfolding faced
  faced_becomes h = by_count (nat_lt h (length mid.harts)) refl
    where
      by_count : (below : Bool) → nat_lt h (length mid.harts) ≡ below →
          Becomes state by start h (winner_in (fate_at mid head h)) (hart_of (each_hart mid (faced_hart mid head)) h)
      by_count true is =
          subst (Becomes state by start h (winner_in (fate_at mid head h)))
          (sym (hart_of-each_hart mid (faced_hart mid head) h (ltb-true h (length mid.harts) is))) (hart_becomes h)
      by_count false is =
          let past = ltb-false h (length mid.harts) is in
          let none = hart_of-past mid h past in
          let unmet : fate_at mid head h ≡ Unmet =
          outside_is_unmet mid head h (hart_of mid h) (ap (λ hart. hart.section) none) in
          subst (λ fate. Becomes state by start h (winner_in fate) (hart_of (each_hart mid (faced_hart mid head)) h))
          (sym unmet)
          (subst (Becomes state by start h None) (none ∙ sym (hart_of-each_hart_past mid (faced_hart mid head) h past))
          (each h))

-- nothing is done
nothing_done : (state : ModelState) (by : ℕ) (turn : Turn) → turn.state ≡ state → IsOfBus turn.outcome →
    ((h : ℕ) → winner_over turn.outcome h ≡ None) →
    ((h : ℕ) → taking_effect h turn.outcome ≡ []) → IsBusEvent state by turn
nothing_done state by turn still of_bus unnamed ineffective = record {
  start = Nothing;
  where_it = tt;
  lost = λ h. None;
  becomes = λ h. rw still (left state by Nothing h refl);
  of_bus = of_bus;
  names = λ h. unnamed h ∙ sym (unnamed_by_map (λ k. None) h refl);
  faces = λ head is. none_some is;
  order = ap (λ new. new.order) still;
  config = ap (λ new. new.config) still;
  committed = ap (λ new. new.committed) still ∙ sym (ap (run state.committed) no_one_in_order);
  effect = λ h. ineffective h ∙ sym no_one_in_order;
  count = ap (λ new. length new.harts) still;
}

-- a request is placed
module _ (state : ModelState) (by : ℕ) (request : Request) where
  unraised_started : (place : Place) → Each (Unbeaten state by (Places request place)) (unraised state request.hart)
  unraised_started place =
      one_started state by (Places request place) request.hart (record (hart_of state request.hart) { raised = None })
      (ap (λ own. if own then record (hart_of state request.hart) { raised = None } else hart_of state request.hart)
      (sym (own_test request.hart)))
      (λ g apart. ap (λ own. if own then record (hart_of state g) { raised = None } else hart_of state g)
      (other_test g request.hart apart))

  marked : (place : Place) (mode : Mode) → state.config.mode ≡ mode → (old : ModelState) (sender h : ℕ) →
      (state.config.mode ≡ Tlr → IsPosted state by (Places request place) h (Marker sender)) →
      Each (Unbeaten state by (Places request place)) old →
      Each (Unbeaten state by (Places request place)) (marked_from mode old sender h)
  marked place Tlr in_mode old sender h is each =
      sent state by (Places request place) old h (Marker sender) (is in_mode) each
  marked place Sle in_mode old sender h is each = each
  marked place Plain in_mode old sender h is each = each

  -- the state as it is faced, or as the request is behind others
  in_front_started : (former : Option Request) → head_of state request.line ≡ former →
      Each (Unbeaten state by (Places request InFront)) (marking (placed_in_front state request) request.hart former)
  in_front_started None is = unraised_started InFront
  in_front_started (Some former) is =
      marked InFront state.config.mode refl (placed_in_front state request) request.hart former.hart
      (λ mode. IsPassed request former mode is)
      (unraised_started InFront)

  behind_started : (last : Option Request) → tail_of state.order request.line ≡ last →
      Each (Unbeaten state by (Places request Behind)) (marked_by (placed_last state request) last request.hart)
  behind_started None is = unraised_started Behind
  behind_started (Some last) is =
      marked Behind state.config.mode refl (placed_last state request) last.hart request.hart
      (λ mode. IsBehind request last mode is)
      (unraised_started Behind)

  abbrev placing : Place → Turn
  placing place =
      record {
        state = placed state request place;
        outcome = Ordered (losers_at state request place) (freed_at state request place);
      }

  placed_faced : (place : Place) (head : Request) → faced_head state (Places request place) ≡ Some head →
      placed state request place ≡ met (before_face state request place) head
  unfolding placed
  placed_faced InFront head is = ap (met (before_face state request InFront)) (same_Some _ _ is)
  placed_faced Behind head is = absurd (cc)
  placed_faced Alone head is = ap (met (before_face state request Alone)) (same_Some _ _ is)

  placed_freed : (place : Place) → freed_at state request place ≡ freed_in state by (Places request place)
  placed_freed InFront = refl
  placed_freed Behind = refl
  placed_freed Alone = refl

  placed_event : (place : Place) → MayPlace state by request place → (lost : ℕ → Option ℕ) →
      ((h : ℕ) → Becomes state by (Places request place) h (lost h) (hart_of (placed state request place) h)) →
      ((h : ℕ) → winner_over (placing place).outcome h ≡ winner_over (Delivered (losers_of lost)) h) →
      IsBusEvent state by (placing place)
  placed_event place may lost becomes names =
      let frame = frame_placed state request place in
      record {
        start = Places request place;
        where_it = may;
        lost = lost;
        becomes = becomes;
        of_bus = tt;
        names = names;
        faces = placed_faced place;
        order = placed_order state request place;
        config = frame.config;
        committed =
            placed_commits state request place ∙ ap (λ freed. run state.committed (order_of freed))
            (placed_freed place);
        effect = λ h. ap order_of (placed_freed place);
        count = frame.count;
      }

  place_event : (place : Place) → MayPlace state by request place → IsBusEvent state by (placing place)
  unfolding placed face_losers
  place_event InFront may =
      placed_event InFront may (λ h. winner_in (fate_at (let_go (before_face state request InFront) request) request h))
      (faced_becomes state by (Places request InFront) request refl
      (in_front_started (head_of state request.line) refl))
      (λ h. refl)
  place_event Behind may =
      placed_event Behind may (λ h. None) (behind_started (tail_of state.order request.line) refl) (λ h. refl)
  place_event Alone may =
      placed_event Alone may (λ h. winner_in (fate_at (let_go (placed_last state request) request) request h))
      (faced_becomes state by (Places request Alone) request refl (unraised_started Alone)) (λ h. refl)

raised_event : (state : ModelState) (by : ℕ) (raised : Option Request) → raised_of state by ≡ raised →
    IsBusEvent state by (order_raised state raised)
raised_event state by None is = nothing_done state by (idle state) refl tt (λ h. refl) (λ h. refl)
raised_event state by (Some request) is =
    place_event state by request (place_for state request) (record { raised = is; place_is = refl })

-- a request is served
served_started : (state : ModelState) (by : ℕ) (request : Request) → Each (Unbeaten state by (Serves request))
    (served state request)
unfolding served
served_started state by request = each_started state by (Serves request)

serve_event : (state : ModelState) (by : ℕ) (request : Request) → MayServe state by request → (head : Option Request) →
    head_of (served state request) request.line ≡ head →
    IsBusEvent state by (record {
      state = met_if (served state request) head;
      outcome = Served (met_losers_if (served state request) head) (freed_if (served state request) head);
    })
unfolding face_losers
serve_event state by request may None is = record {
  start = Serves request;
  where_it = may;
  lost = λ h. None;
  becomes = served_started state by request;
  of_bus = tt;
  names = λ h. refl;
  faces = λ head is_head. none_some (sym is ∙ is_head);
  order = served_order state request;
  config = (keeps_served state request).config;
  committed =
      (keeps_served state request).committed
      ∙ sym (ap (run state.committed) (ap order_of (found_freed None is) ∙ no_one_in_order));
  effect = λ h. sym (ap order_of (found_freed None is));
  count = (keeps_served state request).count;
}
  where
    found_freed : (head : Option Request) → head_of (served state request) request.line ≡ head →
        freed_in state by (Serves request) ≡ freed_if (served state request) head
    found_freed head is = ap (freed_if (served state request)) is
serve_event state by request may (Some head) is =
    let after = served state request in
    let frame = frame_twice (frame_of (keeps_served state request)) (frame_met after head) in
    let freed : freed_in state by (Serves request) ≡ freed_by after head = ap (freed_if after) is in
    record {
      start = Serves request;
      where_it = may;
      lost = λ h. winner_in (fate_at (let_go after head) head h);
      becomes = faced_becomes state by (Serves request) head is (served_started state by request);
      of_bus = tt;
      names = λ h. refl;
      faces = λ found is_found. ap (met after) (same_Some _ _ (sym is ∙ is_found));
      order = met_order after (Some head) ∙ served_order state request;
      config = frame.config;
      committed =
          met_commits after head ∙ ap (λ committed. run committed (order_of (freed_by after head)))
          (keeps_served state request).committed
          ∙ sym (ap (λ f. run state.committed (order_of f)) freed);
      effect = λ h. sym (ap order_of freed);
      count = frame.count;
    }

-- as a head is met no hart has lost yet, nor as it is faced
pub met_becomes : (state : ModelState) (by : ℕ) (start : Start) (head : Request) → faced_head state start ≡ Some head →
    (h : ℕ) → Becomes state by start h None (hart_of (as_met state by start) h)
met_becomes state by Nothing head is h = absurd (cc)
met_becomes state by (Places request InFront) head is h =
    in_front_started state by request (head_of state request.line) refl h
met_becomes state by (Places request Behind) head is h =
    behind_started state by request (tail_of state.order request.line) refl h
met_becomes state by (Places request Alone) head is h = unraised_started state by request Alone h
met_becomes state by (Serves request) head is h = served_started state by request h
met_becomes state by (Takes message others) head is h = absurd (cc)

pub freed_becomes_at : (state : ModelState) (by : ℕ) (start : Start) (head : Request) →
    faced_head state start ≡ Some head → (h : ℕ) →
    Becomes state by start h None (hart_of (as_faced state by start head) h)
freed_becomes_at state by start head is h = each state by start head is (met_becomes state by start head is) h

past_event : (state : ModelState) (by : ℕ) (request : Request) → ordered_of state by ≡ Some request →
    (obstacle : Obstacle) → obstacle_to state request ≡ obstacle →
    IsBusEvent state by (serve_past state request obstacle)
past_event state by request ordered (Blocks why other) is =
    nothing_done state by (serve_past state request (Blocks why other)) refl tt (λ h. refl) (λ h. refl)
past_event state by request ordered Free is =
    serve_event state by request (record { ordered = ordered; free = is })
    (head_of (served state request) request.line) refl

ordered_event : (state : ModelState) (by : ℕ) (ordered : Option Request) → ordered_of state by ≡ ordered →
    IsBusEvent state by (serve_ordered state ordered)
ordered_event state by None is = nothing_done state by (idle state) refl tt (λ h. refl) (λ h. refl)
ordered_event state by (Some request) is = past_event state by request is (obstacle_to state request) refl

-- a message is taken
both_true : {X : Type 0} (a b : Bool) → (a && b) ≡ true → (a ≡ true → b ≡ true → X) → X
both_true true b is use_both = use_both refl is
both_true false b is use_both = absurd (cc)

is_there : {A : Type 0} (found : Option A) → is_some found ≡ true → (x : A) × (found ≡ Some x)
is_there None is = absurd (cc)
is_there (Some x) is = (x, refl)

-- a hart with a message is one of the machine's
pub with_mail : (state : ModelState) (h : ℕ) (message : Message) (others : List Message) →
    (hart_of state h).mail ≡ message ∷ others → h < length state.harts
with_mail state h message others is = by_count (nat_lt h (length state.harts)) refl
  where
    by_count : (below : Bool) → nat_lt h (length state.harts) ≡ below → h < length state.harts
    by_count true below = ltb-true h (length state.harts) below
    by_count false below =
        let none = sym is ∙ ap (λ hart. hart.mail) (hart_of-past state h (ltb-false h (length state.harts) below)) in
        absurd (cc)

module _ (state : ModelState) (by : ℕ) (message : Message) (others : List Message)
    (mail_is : (hart_of state by).mail ≡ message ∷ others) where
  abbrev Taking : ℕ → Hart → Type 0
  Taking h hart = Unbeaten state by (Takes message others) h hart

  exists : by < length state.harts
  exists = with_mail state by message others mail_is

  -- what the taking leaves of its hart, and of another
  taken_own : hart_of (taken state by others) by ≡ record (hart_of state by) { mail = others }
  taken_own = hart_of-with_hart_same state by (record (hart_of state by) { mail = others }) exists

  taken_same : {A : Type 0} (f : Hart → A) → f (record (hart_of state by) { mail = others }) ≡ f (hart_of state by) →
      (g : ℕ) →
      f (hart_of (taken state by others) g) ≡ f (hart_of state g)
  taken_same f kept g = with_hart_kept f state by (record (hart_of state by) { mail = others }) kept g

  taken_keeps : Keeps state (taken state by others)
  taken_keeps = keeps_with_hart state by (record (hart_of state by) { mail = others })

  own_start : having_taken message others (hart_of state by) ≡ started state by (Takes message others) by
      (hart_of state by)
  own_start =
      ap (λ own. if own then having_taken message others (hart_of state by) else hart_of state by) (sym (own_test by))

  others_start : (g : ℕ) → g ≢ by → started state by (Takes message others) g (hart_of state g) ≡ hart_of state g
  others_start g apart =
      ap (λ own. if own then having_taken message others (hart_of state g) else hart_of state g) (other_test g by apart)

  -- the hart becomes another besides
  taken_started : (P : ℕ → Hart → Type 0) (hart : Hart) → P by hart →
      ((g : ℕ) → g ≢ by → Taking g (hart_of state g) → P g (hart_of state g)) →
      Each P (with_hart (taken state by others) by hart)
  taken_started P hart own other =
      each_but_below P (taken state by others) by hart (λ below. own)
      (λ g apart.
      subst (P g) (sym (hart_of-with_hart_other state by g (record (hart_of state by) { mail = others }) apart))
      (other g apart (left state by (Takes message others) g (others_start g apart))))
      (λ past. absurd (omega (arith, past, exists, taken_keeps.count)))

  own_taken : Taking by (having_taken message others (hart_of state by))
  own_taken = subst (Taking by) (sym own_start) (Starts exists)

  taken_event : (new : ModelState) (losers : ℕ → Option ℕ) → Keeps state new → new.order ≡ state.order →
      ((h : ℕ) → Becomes state by (Takes message others) h (losers h) (hart_of new h)) →
      IsBusEvent state by (record { state = new; outcome = Delivered (losers_of losers) })
  taken_event new losers keeps order becomes = record {
    start = Takes message others;
    where_it = mail_is;
    lost = losers;
    becomes = becomes;
    of_bus = tt;
    names = λ h. refl;
    faces = λ head is. none_some is;
    order = order;
    config = keeps.config;
    committed = keeps.committed ∙ sym (ap (run state.committed) no_one_in_order);
    effect = λ h. sym no_one_in_order;
    count = keeps.count;
  }

-- a marker
module _ (state : ModelState) (by sender : ℕ) (others : List Message)
    (mail_is : (hart_of state by).mail ≡ Marker sender ∷ others) where
  abbrev left_mail : ModelState
  left_mail = taken state by others

  tells_on : (own : Request) → ordered_of state by ≡ Some own → (origin : ℕ) → origin < length state.harts →
      (not (origin == sender) && has (hart_of left_mail by).told origin
      && is_some (ordered_on left_mail origin own.line)) ≡ true → TellsOn state by sender origin
  tells_on own own_is origin below test =
      both_true (not (origin == sender) && has (hart_of left_mail by).told origin) _ test (λ first waits.
      both_true (not (origin == sender)) _ first (λ apart told.
      record {
        own = own;
        own_is = own_is;
        exists = below;
        apart = apart_by_test origin sender (not-true (origin == sender) apart);
        told =
            sym (ap (λ told. has told origin)
            (taken_same state by (Marker sender) others mail_is (λ hart. hart.told) refl by)) ∙ told;
        waits = waits;
      }))

  told_posted : (own : Option Request) → ordered_of state by ≡ own →
      ArePosted state by (Takes (Marker sender) others) sender (map Probe (told_on left_mail by sender own))
  told_posted None is = tt
  told_posted (Some own) is =
      listed state by (Takes (Marker sender) others) sender (length left_mail.harts) 0 Probe _
      left_mail.harts (omega arith)
      (λ origin below test.
      IsToldOn sender others origin
      (tells_on own is origin
      (subst (λ n. origin < n) (taken_keeps state by (Marker sender) others mail_is).count below) test))

  marker_event : IsBusEvent state by
      (record { state = delivered left_mail by (Marker sender); outcome = Delivered nobody })
  unfolding delivered
  marker_event =
      let hart = record (hart_of left_mail by) { upstream = included (hart_of left_mail by).upstream sender } in
      let preceded = with_hart left_mail by hart in
      let messages = Probe by ∷ map Probe (told_on left_mail by sender (ordered_of left_mail by)) in
      let before : Each (Unbeaten state by (Takes (Marker sender) others)) preceded =
      taken_started state by (Marker sender) others mail_is (Unbeaten state by (Takes (Marker sender) others)) hart
      (subst (λ old. Unbeaten state by (Takes (Marker sender) others) by
      (record old { upstream = included old.upstream sender }))
      (sym (taken_own state by (Marker sender) others mail_is)) (own_taken state by (Marker sender) others mail_is))
      (λ g apart now. now) in
      taken_event state by (Marker sender) others mail_is (post_to preceded sender messages) (λ h. None)
      (keeps_twice (taken_keeps state by (Marker sender) others mail_is) (keeps_message left_mail by (Marker sender)))
      refl
      (each_with (Unbeaten state by (Takes (Marker sender) others)) preceded sender
      (post_all (hart_of preceded sender) messages)
      (all_sent state by (Takes (Marker sender) others) sender (hart_of preceded sender) messages
      (IsAnswered sender others, told_posted (ordered_of state by) refl) (before sender)) before)

-- a probe
conflicts_same : (head : Option Request) (h : ℕ) (hart : Hart) (mail : List Message) →
    conflicts_with head h (record hart { mail = mail }) ≡ conflicts_with head h hart
conflicts_same None h hart mail = refl
conflicts_same (Some head) h hart mail = refl

module _ (state : ModelState) (by origin : ℕ) (others : List Message)
    (mail_is : (hart_of state by).mail ≡ Probe origin ∷ others) where
  abbrev probe_left : ModelState
  probe_left = taken state by others

  abbrev probe_start : Start
  probe_start = Takes (Probe origin) others

  told_before : has (hart_of probe_left by).told origin ≡ has (hart_of state by).told origin
  told_before =
      ap (λ told. has told origin) (taken_same state by (Probe origin) others mail_is (λ hart. hart.told) refl by)

  known_event : has (hart_of probe_left by).told origin ≡ true →
      IsBusEvent state by (record { state = probe_left; outcome = Delivered nobody })
  known_event known =
      taken_event state by (Probe origin) others mail_is probe_left (λ h. None)
      (taken_keeps state by (Probe origin) others mail_is) refl
      (one_started state by probe_start by (record (hart_of state by) { mail = others })
      (ap
      (λ found. record (hart_of state by) {
        mail = others;
        told = if found then (hart_of state by).told else origin ∷ (hart_of state by).told;
      })
      (sym (sym told_before ∙ known))
      ∙ own_start state by (Probe origin) others mail_is)
      (others_start state by (Probe origin) others mail_is))

  loses_before : (request : Request) →
      loses_to_origin probe_left by (Some request) ≡ loses_to_origin state by (Some request)
  loses_before request =
      taken_same state by (Probe origin) others mail_is
      (λ hart. conflicts_with (head_of state request.line) by hart && is_before request.stamp hart.attempt)
      (ap (λ meets. meets && is_before request.stamp (hart_of state by).attempt)
      (conflicts_same (head_of state request.line) by (hart_of state by) others))
      by

  -- the origins that the hart was told of now, and whether its section loses
  abbrev told_hart : Hart
  told_hart = record (hart_of probe_left by) { told = included (hart_of probe_left by).told origin }

  abbrev lost_if : Bool → ℕ → Option ℕ
  lost_if loses h = if loses then (if h == by then Some origin else None) else None

  told_so : Unbeaten state by probe_start by told_hart
  told_so =
      subst (λ old. Unbeaten state by probe_start by (record old { told = included old.told origin }))
      (sym (taken_own state by (Probe origin) others mail_is)) (own_taken state by (Probe origin) others mail_is)

  told_becomes : (request : Option Request) → ordered_of state origin ≡ request → (loses : Bool) →
      loses_to_origin probe_left by request ≡ loses →
      Becomes state by probe_start by (lost_if loses by)
      (if loses then beaten state.config.mode (stamp_in request) told_hart else told_hart)
  told_becomes request is false loses = told_so
  told_becomes None is true loses = absurd (cc)
  told_becomes (Some request) is true loses =
      subst (λ own. Becomes state by probe_start by (if own then Some origin else None)
      (beaten state.config.mode request.stamp told_hart))
      (sym (own_test by))
      (LosesIt origin request.stamp told_hart (AtProbe origin others request is (sym (loses_before request) ∙ loses))
      told_so)

  not_lost : (loses : Bool) (h : ℕ) → h ≢ by → lost_if loses h ≡ None
  not_lost true h apart = ap (λ own. if own then Some origin else None) (other_test h by apart)
  not_lost false h apart = refl

  -- a hart is forwarded the probe
  forwards_at : has (hart_of state by).told origin ≡ false → (request : Option Request) →
      ordered_of state origin ≡ request → (h : ℕ) →
      forwards_on probe_left by origin request h ≡ true → Forwards state by origin h
  forwards_at new None is h test = absurd (cc)
  forwards_at new (Some request) is h test =
      both_true (not (h == origin) && has (hart_of probe_left by).upstream h) _ test (λ first own.
      both_true (not (h == origin)) _ first (λ apart before.
      record {
        new = new;
        request = request;
        waits = is;
        apart = apart_by_test h origin (not-true (h == origin) apart);
        before =
            sym (ap (λ upstream. has upstream h)
            (taken_same state by (Probe origin) others mail_is (λ hart. hart.upstream) refl by)) ∙ before;
        own = own;
      }))

  probe_event : has (hart_of state by).told origin ≡ false → (request : Option Request) →
      ordered_of state origin ≡ request → (loses : Bool) →
      loses_to_origin probe_left by request ≡ loses →
      IsBusEvent state by
      (record { state = after_probe probe_left by origin request; outcome = Delivered (losers_of (lost_if loses)) })
  probe_event new request is loses loses_is =
      let told = with_hart probe_left by (told_of probe_left by origin request) in
      let Lost : ℕ → Hart → Type 0 = λ h hart. Becomes state by probe_start h (lost_if loses h) hart in
      let each : Each Lost told =
      taken_started state by (Probe origin) others mail_is Lost (told_of probe_left by origin request)
      (subst (λ lost. Lost by (if lost then beaten state.config.mode (stamp_in request) told_hart else told_hart))
      (sym loses_is)
      (told_becomes request is loses loses_is))
      (λ g apart now. subst (λ lost. Becomes state by probe_start g lost (hart_of state g))
      (sym (not_lost loses g apart)) now) in
      taken_event state by (Probe origin) others mail_is (after_probe probe_left by origin request) (lost_if loses)
      (keeps_twice (taken_keeps state by (Probe origin) others mail_is)
      (keeps_twice (keeps_with_hart probe_left by _) (keeps_each_hart told _)))
      refl
      (each_after Lost told (forwarded probe_left by origin request)
      (λ h now.
      by_test (Lost h) (forwards_on probe_left by origin request h)
      (record (hart_of told h) { mail = posted (hart_of told h).mail (Probe origin) })
      (hart_of told h)
      (λ sends. IsSent (Probe origin) (lost_if loses h) (hart_of told h)
      (IsForwarded origin others h (forwards_at new request is h sends)) now)
      (λ keeps. now))
      each)

-- whichever message
losers_if : (loses : Bool) (by origin : ℕ) →
    losers_of (λ h. if loses then (if h == by then Some origin else None) else None)
    ≡ (if loses then one_lost by origin else nobody)
losers_if true by origin = refl
losers_if false by origin = refl

message_event : (state : ModelState) (by : ℕ) (message : Message) (others : List Message) →
    (hart_of state by).mail ≡ message ∷ others →
    IsBusEvent state by
    (record {
      state = delivered (taken state by others) by message;
      outcome = Delivered (losers_by (taken state by others) by message);
    })
unfolding delivered
message_event state by (Marker sender) others is = marker_event state by sender others is
message_event state by (Probe origin) others is = by_told (has (hart_of (taken state by others) by).told origin) refl
  where
    by_told : (known : Bool) → has (hart_of (taken state by others) by).told origin ≡ known →
        IsBusEvent state by (record {
          state =
              if known then taken state by others else after_probe (taken state by others) by origin
              (ordered_of (taken state by others) origin);
          outcome =
              Delivered (if known then nobody else probe_losers (taken state by others) by origin
              (ordered_of (taken state by others) origin));
        })
    by_told true known = known_event state by origin others is known
    by_told false known =
        subst
        (λ losers. IsBusEvent state by (record {
          state = after_probe (taken state by others) by origin (ordered_of (taken state by others) origin);
          outcome = Delivered losers;
        }))
        (losers_if (loses_to_origin (taken state by others) by (ordered_of (taken state by others) origin)) by origin)
        (probe_event state by origin others is (sym (told_before state by origin others is) ∙ known)
        (ordered_of state origin) refl
        (loses_to_origin (taken state by others) by (ordered_of (taken state by others) origin)) refl)

mail_event : (state : ModelState) (by : ℕ) (mail : List Message) → (hart_of state by).mail ≡ mail →
    IsBusEvent state by (deliver_next state by mail)
mail_event state by [] is = nothing_done state by (idle state) refl tt (λ h. refl) (λ h. refl)
mail_event state by (message ∷ others) is = message_event state by message others is

-- every event of the bus
pub bus_event : (state : ModelState) (by : ℕ) (kind : Kind) → kind ≢ kinds.Step →
    IsBusEvent state by (kind_turn state by kind)
unfolding order_turn serve_turn deliver_turn
bus_event state by kinds.Step bus = absurd (bus refl)
bus_event state by kinds.Order bus = raised_event state by (raised_of state by) refl
bus_event state by kinds.Serve bus = ordered_event state by (ordered_of state by) refl
bus_event state by kinds.Deliver bus = mail_event state by (hart_of state by).mail refl

pub bus_events_are_told_once : BusEventsAreToldOnce
unfolding next
bus_events_are_told_once state event bus = bus_event state event.hart.number event.kind bus

pub frame_of_bus : {state : ModelState} {by : ℕ} {turn : Turn} → IsBusEvent state by turn → Frame state turn.state
frame_of_bus done = record { config = done.config; count = done.count }

-- what holds of a step and of what an event of the bus is holds of each event
pub by_kind : (P : Turn → Type 0) (state : ModelState) (h : ℕ) (kind : Kind) →
    (kind ≡ kinds.Step → P (step_turn state h)) →
    ((turn : Turn) → IsBusEvent state h turn → P turn) → P (kind_turn state h kind)
by_kind P state h kinds.Step step bus = step refl
by_kind P state h kinds.Order step bus =
    bus (kind_turn state h kinds.Order) (bus_event state h kinds.Order (λ same. absurd (cc)))
by_kind P state h kinds.Serve step bus =
    bus (kind_turn state h kinds.Serve) (bus_event state h kinds.Serve (λ same. absurd (cc)))
by_kind P state h kinds.Deliver step bus =
    bus (kind_turn state h kinds.Deliver) (bus_event state h kinds.Deliver (λ same. absurd (cc)))

pub by_event : (P : Turn → Type 0) (state : ModelState) (event : Event) →
    (event.kind ≡ kinds.Step → P (step_turn state event.hart.number)) →
    ((turn : Turn) → IsBusEvent state event.hart.number turn → P turn) → P (next state event)
unfolding next
by_event P state event step bus = by_kind P state event.hart.number event.kind step bus
