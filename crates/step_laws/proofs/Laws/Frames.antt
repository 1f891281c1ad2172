-- what an event leaves as it was
use Rattle.std.proofs.Common.{◌≡◌, ◌∙◌, ℕ, Bool, true, false, is_some, refl, ap, sym}
use Rattle.std.proofs.Math.ListN.{length-set}
use Rattle.bus_order.specs.Order.{Request}
use Rattle.el_base.specs.declared.events.Kind.{Kind}
use Rattle.el_base.specs.declared.events.Kind.TheVariants as kinds
use Rattle.el_model.specs.Deed.{hart_after}
use Rattle.el_model.specs.Next.{kind_turn, next}
use Rattle.el_model.specs.Serve.{with_claim}
use Rattle.el_model.specs.State.{Hart, ModelState, hart_of}
use Rattle.el_model.proofs.Laws.BusEvents.{bus_events_are_told_once}
use Rattle.el_model.proofs.Laws.Deeds.{step_deed}
use Rattle.el_model.proofs.Laws.Harts.{hart_of-with_hart_other}
use Rattle.rv_flat.specs.Run.{run}
use Rattle.section_laws.proofs.Laws.EachKept.{BusKept, turn_keeps}
use Rattle.section_laws.proofs.Laws.Moves.{moves_by_ends}
use Rattle.step_laws.specs.Frames.{BusEventsKeep, LeavesOthers, StepsKeepOthers}

-- a hart has the predictor that it had
abbrev SamePredictor : ModelState → ℕ → Hart → Type 0
SamePredictor old g hart = hart.predictor ≡ (hart_of old g).predictor

claim_predictor : (live : Bool) (request : Request) (hart : Hart) →
    (with_claim live request hart).predictor ≡ hart.predictor
claim_predictor true request hart = refl
claim_predictor false request hart = refl

same_predictor : (old : ModelState) → BusKept (SamePredictor old)
same_predictor old = record {
  moves = moves_by_ends (λ h hart other now. now)
      (λ h hart now. now)
      (λ h pc hart now. now);
  unraised = λ h hart now. now;
  served = λ h state request hart now. claim_predictor (is_some hart.section) request _ ∙ now;
  bystander = λ h state request hart now. now;
}

pub bus_events_keep : BusEventsKeep
bus_events_keep state event bus =
    let done = bus_events_are_told_once state event bus in
    record {
      committed = done.committed ∙ sym (ap (run state.committed) (done.effect event.hart.number));
      predictors = turn_keeps (same_predictor state) done (λ g. refl);
      config = done.config;
      count = done.count;
    }

kind_others : (state : ModelState) (h : ℕ) (kind : Kind) → kind ≡ kinds.Step →
    LeavesOthers state (kind_turn state h kind).state h
kind_others state h kinds.Step is =
    let step = step_deed state h in
    rw step.turn_is
    (record {
      others = λ g apart. hart_of-with_hart_other state h g (hart_after state h step.deed (hart_of state h)) apart;
      order = refl;
      config = refl;
      count = length-set state.harts h _;
    })
kind_others state h kinds.Order is = absurd (cc)
kind_others state h kinds.Serve is = absurd (cc)
kind_others state h kinds.Deliver is = absurd (cc)

pub steps_keep_others : StepsKeepOthers
unfolding next
steps_keep_others state event is = kind_others state event.hart.number event.kind is
