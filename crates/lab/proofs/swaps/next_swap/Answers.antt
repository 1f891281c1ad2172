-- the swap that comes next
use Rattle.std.proofs.Common.{◌∙◌, ap, length, subst, sym}
use Rattle.std.specs.Option.{option_map}
use Rattle.core_step.proofs.Laws.Runs.{aligned}
use Rattle.core_step.specs.Run.{IsAligned}
use Rattle.lab.proofs.Swapping.{next_is, place_is, plain_is, shown_is}
use Rattle.lab.proofs.swaps.next_swap.Goals as goal
use Rattle.lab.specs.Swaps.{as_plain, next_plain}
use Rattle.machine.specs.Story.{state_of}
use Rattle.rv_alu.specs.declared.view.HartView.{HartView}

pub word_at-requires-clause-aligned : goal.word_at-requires-clause-aligned
word_at-requires-clause-aligned c =
    c.in-Some.ensures.aligned (subst IsAligned (sym c.next_action-action.ensures.exact) (aligned _ _ _ _))

pub word_at-requires-clause-from_base : goal.word_at-requires-clause-from_base
word_at-requires-clause-from_base c =
    let state = state_of c.args.machine.now in
    let next =
    next_is state c.args.hart.number c.next_action-action.result c.next_action-action.ensures.exact
    c.requires.outside c.requires.unarmed in
    (place_is state c.args.hart.number c.next_action-action.result c.in-Some.exchange _ _ next
    (c.in-Some.ensures.next state.committed c.args.hart.number next) c.next_action-action.ensures.in_place).from_base

pub word_at-requires-clause-before_end : goal.word_at-requires-clause-before_end
word_at-requires-clause-before_end c =
    let state = state_of c.args.machine.now in
    let next =
    next_is state c.args.hart.number c.next_action-action.result c.next_action-action.ensures.exact
    c.requires.outside c.requires.unarmed in
    (place_is state c.args.hart.number c.next_action-action.result c.in-Some.exchange _ _ next
    (c.in-Some.ensures.next state.committed c.args.hart.number next) c.next_action-action.ensures.in_place).before_end

pub why_not-requires-clause-at_pc : goal.why_not-requires-clause-at_pc
why_not-requires-clause-at_pc c =
    ap (λ (v : HartView). v.pc)
    (c.shown-pc.ensures ∙ shown_is (state_of c.args.machine.now) c.args.hart.number c.requires.outside
    c.requires.unarmed)

pub returns-in-Some : goal.returns-in-Some
returns-in-Some c =
    let state = state_of c.args.machine.now in
    let next =
    next_is state c.args.hart.number c.next_action-action.result c.next_action-action.ensures.exact
    c.requires.outside c.requires.unarmed in
    plain_is c.args.machine.now c.length-place.result c.args.hart c.in-Some.exchange c.word_at.result
    c.shown-pc.result.pc c.why_not.result
    c.history.ensures.one_run (c.in-Some.ensures.next state.committed c.args.hart.number next) c.word_at.ensures
    (ap (λ (v : HartView). v.pc)
    (c.shown-pc.ensures ∙ shown_is state c.args.hart.number c.requires.outside c.requires.unarmed))
    c.why_not.ensures
    ∙ ap (λ p. next_plain state p c.args.hart)
    (c.length-place.ensures ∙ ap (λ h. length h.entries) c.history.ensures.exact)

pub returns-in-None : goal.returns-in-None
returns-in-None c =
    let state = state_of c.args.machine.now in
    ap (option_map (as_plain state (length c.args.machine.now.entries) c.args.hart))
    (c.in-None.ensures.next state.committed c.args.hart.number
    (next_is state c.args.hart.number c.next_action-action.result c.next_action-action.ensures.exact c.requires.outside
    c.requires.unarmed))
