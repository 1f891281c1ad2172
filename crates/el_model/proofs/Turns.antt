-- what takes effect in a turn
use Rattle.std.proofs.Common.{◌≡◌, ◌∙◌, ℕ, Option, Some, None, refl, ap, sym}
use Rattle.chronicle.specs.Serial.{taking_effect}
use Rattle.el_model.specs.Armed as rules
use Rattle.el_model.specs.Armed.{ArmedRule, armed_rule, armed_turn, by_armed_rule}
use Rattle.el_model.specs.InSection.{SectionRule, Buffers, Commits, Misses, RollsBack, by_section_rule, section_rule}
use Rattle.el_model.specs.InSection.{section_turn}
use Rattle.el_model.specs.Laws.{EventsTakeEffect}
use Rattle.el_model.specs.Next.{going_turn, outside_turn, stalled, status_turn, step_turn}
use Rattle.el_model.specs.Plain as plain
use Rattle.el_model.specs.Plain.{PlainRule, Begins, Runs, by_plain_rule, plain_rule, plain_turn}
use Rattle.el_model.specs.State.{Armed, ModelState, Section, Turn, armed_of, has_request, section_of}
use Rattle.el_model.proofs.Laws.BusEvents.{by_event}
use Rattle.el_model.proofs.Laws.Tests.{by_test}
use Rattle.rv_alu.specs.declared.view.HartStatus.{HartStatus}
use Rattle.rv_alu.specs.declared.view.HartStatus.TheVariants.{Running, Exited, Trapped}
use Rattle.rv_flat.specs.FlatState.{status_of}
use Rattle.rv_flat.specs.Run.{run}

-- the committed state after a turn is that after the instructions that took effect in it
abbrev TakesEffect : ModelState → ℕ → Turn → Type 0
TakesEffect state h turn = turn.state.committed ≡ run state.committed (taking_effect h turn.outcome)

plain_effect : (state : ModelState) (h : ℕ) (rule : PlainRule) → TakesEffect state h (by_plain_rule state h rule)
unfolding by_plain_rule
plain_effect state h (Runs touch) = refl
plain_effect state h (plain.Misses line need) = refl
plain_effect state h (Begins swap) = refl
plain_effect state h (plain.Arms word) = refl

armed_effect : (state : ModelState) (h : ℕ) (armed : Armed) (rule : ArmedRule) →
    TakesEffect state h (by_armed_rule state h armed rule)
unfolding by_armed_rule
armed_effect state h armed (rules.Elides swap) = refl
armed_effect state h armed rules.Continues = refl
armed_effect state h armed rules.LetsGo = refl

section_effect : (state : ModelState) (h : ℕ) (section : Section) (rule : SectionRule) →
    TakesEffect state h (by_section_rule state h section rule)
unfolding by_section_rule
section_effect state h section (RollsBack cause) = refl
section_effect state h section Commits = refl
section_effect state h section (Buffers touch) = refl
section_effect state h section (Misses line need) = refl

outside_effect : (state : ModelState) (h : ℕ) (armed : Option Armed) → TakesEffect state h (outside_turn state h armed)
unfolding plain_turn armed_turn
outside_effect state h None = plain_effect state h (plain_rule state h)
outside_effect state h (Some armed) = armed_effect state h armed (armed_rule state h armed)

going_effect : (state : ModelState) (h : ℕ) (section : Option Section) →
    TakesEffect state h (going_turn state h section)
unfolding section_turn
going_effect state h None = outside_effect state h (armed_of state h)
going_effect state h (Some section) = section_effect state h section (section_rule state h section)

status_effect : (state : ModelState) (h : ℕ) (status : HartStatus) → TakesEffect state h (status_turn state h status)
status_effect state h Running =
    by_test (TakesEffect state h) (has_request state h) (stalled state)
    (going_turn state h (section_of state h)) (λ waits. refl)
    (λ goes. going_effect state h (section_of state h))
status_effect state h (Exited code) = refl
status_effect state h (Trapped cause pc) = refl

step_effect : (state : ModelState) (h : ℕ) → TakesEffect state h (step_turn state h)
unfolding step_turn
step_effect state h = status_effect state h (status_of state.committed h)

pub events_take_effect : EventsTakeEffect
events_take_effect state event =
    by_event (TakesEffect state event.hart.number) state event (λ step. step_effect state event.hart.number)
    (λ turn done. done.committed ∙ sym (ap (run state.committed) (done.effect event.hart.number)))
