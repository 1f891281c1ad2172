-- a step leaves main memory as it was
use Rattle.std.proofs.Common.{◌≡◌, ◌≢◌, ◌∙◌, ap, subst, sym}
use Rattle.el_base.specs.declared.events.Event.{Event}
use Rattle.el_base.specs.declared.events.Kind.{Kind}
use Rattle.el_base.specs.declared.events.Kind.TheVariants.{Serve, Step}
use Rattle.el_model.specs.Next.{kind_turn, next, step_turn}
use Rattle.el_model.specs.State.{ModelState}
use Rattle.engine.proofs.MainMemory.{kept_lines}
use Rattle.engine.proofs.engine.Engine.turn.Goals as goal
use Rattle.engine.specs.Parts.{IsInState, parts}

steps : (kind : Kind) → kind ≡ Step → kind ≢ Serve
steps kind is serves = by (sym is ∙ serves)
  where
    by : Step ≢ Serve
    by same = cc

step_is : (state : ModelState) (event : Event) → event.kind ≡ Step →
    next state event ≡ step_turn state event.hart.number
unfolding next
step_is state event is = ap (kind_turn state event.hart.number) is

pub returns-in-Step : goal.returns-in-Step
returns-in-Step c =
    let event = c.args.event in
    let step = c.step_of.ensures in
    record {
      ready = step.ready;
      state = λ from reached is.
          subst (λ t. IsInState (parts c.step_of.new.self) t.state) (sym (step_is from event c.in-Step.is))
          (step.state from (reached, is));
      outcome =
          λ from reached is. step.outcome from (reached, is)
          ∙ ap (λ t. t.outcome) (sym (step_is from event c.in-Step.is));
      memory = λ from reached is. step.memory_stays ∙ kept_lines from event _ (steps event.kind c.in-Step.is);
    }
