-- no hart has two requests in order, and each request is of a hart that a machine may have
use Rattle.std.proofs.Common.{◌≡◌, ◌∙◌, ◌<◌, ◌≤◌, ◌==◌, ℕ, List, [], ◌∷◌, None, Some, length}
use Rattle.std.proofs.Common.{ap, arith}
use Rattle.std.proofs.Math.ListN.{length-set}
use Rattle.std.proofs.lemmas.List.{length-replicate}
use Rattle.bus_order.specs.Order.{IsOneEach, Request, appended, in_front_of, removed, request_of}
use Rattle.bus_order.proofs.Laws.Orders.{one_each_appended, one_each_in_front_of, one_each_none, one_each_removed}
use Rattle.el_base.specs.Config.{IsInRange}
use Rattle.el_base.specs.declared.config.Config.{Config}
use Rattle.el_base.proofs.Laws.Ranges.{harts_in_range}
use Rattle.el_base.specs.declared.events.Event.{Event}
use Rattle.el_base.proofs.Laws.Cases.{none_some}
use Rattle.elf_image.specs.Program.{Program}
use Rattle.el_model.specs.BusEvent.{Nothing, Places, Serves, Start, StartsWhere, Takes, order_after, order_at}
use Rattle.el_model.specs.Losses.{AreNumbered, HartsAreNumbered}
use Rattle.el_model.specs.Next.{after, next}
use Rattle.el_model.specs.Order.{Alone, Behind, InFront, Place}
use Rattle.el_model.specs.State.{ModelState, begin, new_hart, raised_of}
use Rattle.el_model.proofs.Laws.BusEvents.{by_event}
use Rattle.el_model.proofs.Laws.Deeds.{step_deed}
use Rattle.el_model.proofs.Laws.FromStart.{kept_after}
use Rattle.el_model.proofs.Laws.Tests.{by_test}
use Rattle.el_model.proofs.Laws.Restoring.{removed_numbered}
use Rattle.section_laws.proofs.Laws.NewHarts.{exists_unless_new}
use Rattle.section_laws.specs.Laws.{EachHartWaitsForOne, OneOrderedRequestEach, RequestsAreNumbered}
use Rattle.section_laws.proofs.Laws.Waiting.{Rested, Sound, always_settled, always_sound, free_of_order, next_settled}
use Rattle.section_laws.proofs.Laws.Waiting.{rested_in, settled_by}
use Rattle.section_laws.proofs.Laws.Waiting.{sound_in}

-- no event changes how many harts there are
pub next_count : (state : ModelState) (event : Event) → length (next state event).state.harts ≡ length state.harts
next_count state event =
    by_event (λ turn. length turn.state.harts ≡ length state.harts) state event
    (λ is. let step = step_deed state event.hart.number in rw step.turn_is (length-set state.harts event.hart.number _))
    (λ turn done. done.count)

-- what is kept of the order: by a request of a hart that has none, and as one is served
pub record KeptInOrder (P : List Request → Type 0) (count : ℕ) : Type 0 where
  pub placed_last : (order : List Request) (request : Request) → request.hart < count →
      request_of order request.hart ≡ None → P order → P (appended order request)
  pub placed_before : (order : List Request) (request : Request) → request.hart < count →
      request_of order request.hart ≡ None → P order → P (in_front_of order request)
  pub taken_out : (order : List Request) (h : ℕ) → P order → P (removed order h)

-- a hart with a raised request is one of the machine's
pub raised_exists : (state : ModelState) (h : ℕ) (request : Request) → Sound state → raised_of state h ≡ Some request →
    request.hart < length state.harts
raised_exists state h request sound raised =
    rw ((sound h).own request raised)
    (exists_unless_new (λ hart. hart.raised ≡ Some request) state h (λ is. none_some is) raised)

module _ {P : List Request → Type 0} where
  place_keeps : (state : ModelState) (request : Request) (place : Place) → KeptInOrder P (length state.harts) →
      request.hart < length state.harts → request_of state.order request.hart ≡ None → P state.order →
      P (order_at state request place)
  place_keeps state request InFront kept exists free now = kept.placed_before state.order request exists free now
  place_keeps state request Behind kept exists free now = kept.placed_last state.order request exists free now
  place_keeps state request Alone kept exists free now = kept.placed_last state.order request exists free now

  start_keeps : (state : ModelState) (by : ℕ) (start : Start) → KeptInOrder P (length state.harts) → Sound state →
      StartsWhere state by start →
      P state.order → P (order_after state start)
  start_keeps state by Nothing kept sound where_it now = now
  start_keeps state by (Places request place) kept sound may now =
      let mine : raised_of state request.hart ≡ Some request =
      ap (raised_of state) ((sound by).own request may.raised) ∙ may.raised in
      place_keeps state request place kept (raised_exists state by request sound may.raised)
      (free_of_order state request.hart request sound mine) now
  start_keeps state by (Serves request) kept sound may now = kept.taken_out state.order request.hart now
  start_keeps state by (Takes message others) kept sound where_it now = now

  pub order_keeps : (state : ModelState) (event : Event) → KeptInOrder P (length state.harts) → Sound state →
      P state.order → P (next state event).state.order
  order_keeps state event kept sound now =
      by_event (λ turn. P turn.state.order) state event
      (λ is. let step = step_deed state event.hart.number in rw step.turn_is now)
      (λ turn done. rw done.order (start_keeps state event.hart.number done.start kept sound done.where_it now))

-- no hart has two
pub record Once (state : ModelState) : Type 0 where
  pub sound : Sound state
  pub rested : Rested state
  pub once : IsOneEach state.order

kept_once : (count : ℕ) → KeptInOrder IsOneEach count
kept_once count = record {
  placed_last = λ order request exists free now. one_each_appended order request now free;
  placed_before = λ order request exists free now. one_each_in_front_of order request now free;
  taken_out = λ order h now. one_each_removed order h now;
}

pub next_once : (state : ModelState) (event : Event) → Once state → Once (next state event).state
next_once state event now = record {
  sound = sound_in (next state event).state (next_settled state event (settled_by state now.sound now.rested));
  rested = rested_in (next state event).state (next_settled state event (settled_by state now.sound now.rested));
  once = order_keeps state event (kept_once (length state.harts)) now.sound now.once;
}

pub first_once : (program : Program) (config : Config) → Once (begin program config)
unfolding begin
first_once program config = record {
  sound = always_sound program config [];
  rested = rested_in (begin program config) (always_settled program config []);
  once = one_each_none;
}

pub one_ordered_request_each : OneOrderedRequestEach
one_ordered_request_each program config events =
    (kept_after Once next_once (begin program config) events (first_once program config)).once

pub each_hart_waits_for_one : EachHartWaitsForOne
each_hart_waits_for_one = always_sound

-- each request is of a hart that a machine may have
numbered_appended : (order : List Request) (request : Request) → request.hart < 8 → AreNumbered order →
    AreNumbered (appended order request)
numbered_appended [] request small now = (small, tt)
numbered_appended (first ∷ order) request small (own, others) = (own, numbered_appended order request small others)

numbered_in_front : (order : List Request) (request : Request) → request.hart < 8 → AreNumbered order →
    AreNumbered (in_front_of order request)
numbered_in_front [] request small now = (small, tt)
numbered_in_front (first ∷ order) request small (own, others) =
    by_test AreNumbered (first.line == request.line) (request ∷ first ∷ order) (first ∷ in_front_of order request)
    (λ here. (small, (own, others))) (λ behind. (own, numbered_in_front order request small others))

kept_numbered : (count : ℕ) → count ≤ 8 → KeptInOrder AreNumbered count
kept_numbered count few = record {
  placed_last = λ order request exists free now. numbered_appended order request (omega (arith, exists, few)) now;
  placed_before = λ order request exists free now. numbered_in_front order request (omega (arith, exists, few)) now;
  taken_out = removed_numbered;
}

pub record Numbered (state : ModelState) : Type 0 where
  pub sound : Sound state
  pub rested : Rested state
  pub few : length state.harts ≤ 8
  pub numbered : AreNumbered state.order

pub next_numbered : (state : ModelState) (event : Event) → Numbered state → Numbered (next state event).state
next_numbered state event now = record {
  sound = sound_in (next state event).state (next_settled state event (settled_by state now.sound now.rested));
  rested = rested_in (next state event).state (next_settled state event (settled_by state now.sound now.rested));
  few = rw (next_count state event) now.few;
  numbered = order_keeps state event (kept_numbered (length state.harts) now.few) now.sound now.numbered;
}

pub first_numbered : (program : Program) (config : Config) → program.harts ≡ config.harts → IsInRange config →
    Numbered (begin program config)
unfolding begin
first_numbered program config same range = record {
  sound = always_sound program config [];
  rested = rested_in (begin program config) (always_settled program config []);
  few = rw (length-replicate program.harts (new_hart config.sets)) (rw same (harts_in_range config range));
  numbered = tt;
}

pub numbers_of_state : (state : ModelState) → Numbered state → HartsAreNumbered state
numbers_of_state state numbered = record {
  few = numbered.few;
  raised = λ h request is.
      let few = numbered.few in
      let exists = raised_exists state h request numbered.sound is in
      omega (arith, few, exists);
  ordered = numbered.numbered;
}

pub requests_are_numbered : RequestsAreNumbered
requests_are_numbered program config events same range =
    numbers_of_state (after program config events)
    (kept_after Numbered next_numbered (begin program config) events (first_numbered program config same range))
