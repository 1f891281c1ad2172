-- what a hart does in its live section, in its armed one, or outside of a section is its turn
use Rattle.std.proofs.Common.{◌≡◌, ◌∙◌, ◌<◌, ℕ, length, ap, refl, subst, sym}
use Rattle.std.specs.Option.{option_map}
use Rattle.el_base.specs.declared.outcomes.Outcome.{Outcome}
use Rattle.el_model.specs.Next.{going_turn, outside_turn}
use Rattle.el_model.specs.State as model
use Rattle.engine.proofs.Framed.{own_read}
use Rattle.engine.proofs.Steps.{acts_armed, acts_inside, acts_outside}
use Rattle.engine.proofs.TakenTurns.{as_well}
use Rattle.engine.proofs.engine.Engine.act.Goals as goal
use Rattle.engine.proofs.engine.Engine.act.Goals.{After-armed}
use Rattle.engine.specs.Acting.{MayAct}
use Rattle.engine.specs.Parts.{Parts, own_at, parts}
use Rattle.engine.specs.Turns.{TakesTurn}
use Rattle.section_ctl.specs.State.{SectionState, armed_of, section_of}

abbrev GoesOn : Parts → ℕ → Parts → Outcome → Type 0
GoesOn old h new result =
    TakesTurn (λ from. MayAct old h from) (λ from. going_turn from h (model.section_of from h)) old new result

-- the hart's section is the one that is looked at
kept_is : (c : After-armed) →
    (own_at (parts c.fetch_action-action.new.self).harts c.args.hart.number).section ≡ c.section-section.result.now
kept_is c =
    let harts = (parts c.fetch_action-action.new.self).harts in
    let exists =
    subst (λ p. c.args.hart.number < length p.harts) (sym c.fetch_action-action.ensures.same) c.requires.may.exists in
    ap (λ own. own.section) (sym (own_read _ harts _ _ _ refl c.from.ensures exists c.index.ensures))
    ∙ sym c.section-section.ensures

pub returns-in-Some-default : goal.returns-in-Some-default
returns-in-Some-default c =
    let mid = parts c.fetch_action-action.new.self in
    let h = c.args.hart.number in
    let is = kept_is (goal.at.returns-in-Some-default c).After-armed in
    let live = ap (λ (s : SectionState). s.live) is ∙ sym c.in-Some-default.ensures.exact in
    subst (λ p. GoesOn p h (parts c.act_inside.new.self) c.act_inside.result) c.fetch_action-action.ensures.same
    (as_well (c.act_inside.ensures (section_of c.in-Some-default.field-0-0))
    (λ from may. acts_inside mid from h _ may live)
    (λ from may. ap (going_turn from h) (acts_inside mid from h _ may live).live))

pub returns-in-None-Some : goal.returns-in-None-Some
returns-in-None-Some c =
    let mid = parts c.fetch_action-action.new.self in
    let h = c.args.hart.number in
    let is = kept_is (goal.at.returns-in-None-Some c).After-armed in
    let none = ap (λ (s : SectionState). s.live) is ∙ sym c.in-None-Some.ensures.exact in
    let armed = ap (λ (s : SectionState). option_map (λ reserved. reserved.armed) s.armed) is
    ∙ sym c.in-None-Some.ensures'.exact in
    subst (λ p. GoesOn p h (parts c.act_armed.new.self) c.act_armed.result) c.fetch_action-action.ensures.same
    (as_well c.act_armed.ensures (λ from may. acts_armed mid from h _ may none armed)
    (λ from may.
    let acts = acts_armed mid from h (armed_of c.in-None-Some.armed) may none armed in
    ap (going_turn from h) acts.no_section ∙ ap (outside_turn from h) acts.armed_is))

pub returns-in-None-None : goal.returns-in-None-None
returns-in-None-None c =
    let mid = parts c.fetch_action-action.new.self in
    let h = c.args.hart.number in
    let is = kept_is (goal.at.returns-in-None-None c).After-armed in
    let none = ap (λ (s : SectionState). s.live) is ∙ sym c.in-None-None.ensures.exact in
    let unarmed = ap (λ (s : SectionState). option_map (λ reserved. reserved.armed) s.armed) is
    ∙ sym c.in-None-None.ensures'.exact in
    subst (λ p. GoesOn p h (parts c.act_outside.new.self) c.act_outside.result) c.fetch_action-action.ensures.same
    (as_well c.act_outside.ensures (λ from may. acts_outside mid from h may none unarmed)
    (λ from may.
    let acts = acts_outside mid from h may none unarmed in
    ap (going_turn from h) acts.no_section ∙ ap (outside_turn from h) acts.no_armed))
