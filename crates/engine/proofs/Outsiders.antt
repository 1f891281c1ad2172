-- a step of a hart that acts outside of a section is that of its rule
use Rattle.std.proofs.Common.{◌≡◌, ◌∙◌, ℕ, Option, ap, refl}
use Rattle.std.specs.Prelude.{if◌then◌else◌}
use Rattle.el_base.specs.declared.events.Event.{Event}
use Rattle.el_base.specs.declared.events.Kind.TheVariants as kinds
use Rattle.el_base.specs.declared.hart_id.HartId.{HartId}
use Rattle.el_base.specs.declared.outcomes.Need.{Need}
use Rattle.el_base.specs.declared.outcomes.Outcome.{Outcome}
use Rattle.el_base.specs.declared.outcomes.Outcome.TheVariants as outcomes
use Rattle.el_model.specs.Next.{going_turn, next, outside_turn, stalled, status_turn, step_turn}
use Rattle.el_model.specs.Plain.{Begins, Misses, PlainRule, Runs, by_plain_rule, missed, plain_rule, plain_turn}
use Rattle.el_model.specs.State.{ModelState, section_of}
use Rattle.el_model.specs.Upcoming.{Swap, Touch}
use Rattle.engine.proofs.StandsOutside.{runs_there}
use Rattle.engine.proofs.TakenTurns.{as_well}
use Rattle.engine.specs.Acting.{ActsOutside}
use Rattle.engine.specs.Parts.{Parts}
use Rattle.engine.specs.Turns.{TakesTurn}

acting_turn : (parts : Parts) (h : ℕ) (state : ModelState) → ActsOutside parts h state →
    step_turn state h ≡ plain_turn state h
unfolding step_turn
acting_turn parts h state acts =
    ap (status_turn state h) (runs_there parts h state acts)
    ∙ ap (λ waits. if waits then stalled state else going_turn state h (section_of state h)) acts.may.free
    ∙ ap (going_turn state h) acts.no_section ∙ ap (outside_turn state h) acts.no_armed

-- what the rule says, the turn is
pub turn_is : (state : ModelState) (h : ℕ) (rule : PlainRule) → plain_rule state h ≡ rule →
    plain_turn state h ≡ by_plain_rule state h rule
unfolding plain_turn
turn_is state h rule is = ap (by_plain_rule state h) is

-- and so is the step
abbrev pub step_of : HartId → Event
step_of hart = record { kind = kinds.Step; hart = hart }

pub step_is : (parts : Parts) (hart : HartId) (state : ModelState) (rule : PlainRule) →
    ActsOutside parts hart.number state → plain_rule state hart.number ≡ rule →
    next state (step_of hart) ≡ by_plain_rule state hart.number rule
unfolding next
step_is parts hart state rule acts is = acting_turn parts hart.number state acts ∙ turn_is state hart.number rule is

-- what comes of a rule
pub ran_outcome : (state : ModelState) (h : ℕ) (touch : Option Touch) →
    outcomes.Ran ≡ (by_plain_rule state h (Runs touch)).outcome
unfolding by_plain_rule
ran_outcome state h touch = refl

pub began_outcome : (state : ModelState) (h : ℕ) (swap : Swap) →
    outcomes.Began ≡ (by_plain_rule state h (Begins swap)).outcome
unfolding by_plain_rule
began_outcome state h swap = refl

pub missed_turn : (state : ModelState) (h line : ℕ) (need : Need) → plain_rule state h ≡ Misses line need →
    plain_turn state h ≡ missed state h line need
unfolding by_plain_rule
missed_turn state h line need is = turn_is state h (Misses line need) is

-- a turn by a rule is that of a hart whose rule it is
pub by_rule : (old new : Parts) (h : ℕ) (rule : PlainRule) (result : Outcome) →
    ((from : ModelState) → ActsOutside old h from → plain_rule from h ≡ rule) →
    TakesTurn (λ from. ActsOutside old h from) (λ from. by_plain_rule from h rule) old new result →
    TakesTurn (λ from. ActsOutside old h from) (λ from. plain_turn from h) old new result
by_rule old new h rule result is takes =
    as_well takes (λ from acts. acts) (λ from acts. turn_is from h rule (is from acts))
