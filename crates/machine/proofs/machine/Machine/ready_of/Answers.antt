-- the first kind whose event is progress
use Rattle.std.proofs.Common.{◌∙◌, ap, false, refl, sym, true, Some}
use Rattle.machine.proofs.Readiness.{found_by}
use Rattle.machine.proofs.machine.Machine.ready_of.Goals as goal
use Rattle.machine.specs.Story.{state_of}
use Rattle.progress_laws.specs.Ready.{gets_on}

pub returns-then-steps-clause-first : goal.returns-then-steps-clause-first
returns-then-steps-clause-first c =
    ap Some c.event.ensures
    ∙ sym (found_by (gets_on (state_of c.args.self.now)) c.args.hart true _ _ _
    (sym c.steps.ensures ∙ c.if-steps.true) refl refl refl)

pub returns-then-raises-clause-first : goal.returns-then-raises-clause-first
returns-then-raises-clause-first c =
    ap Some c.event-then-raises.ensures
    ∙ sym (found_by (gets_on (state_of c.args.self.now)) c.args.hart false true _ _
    (sym c.steps.ensures ∙ c.if-steps.false)
    (sym c.raises.ensures ∙ c.if-raises.true) refl refl)

pub returns-then-serves-clause-first : goal.returns-then-serves-clause-first
returns-then-serves-clause-first c =
    ap Some c.event-then-serves.ensures
    ∙ sym (found_by (gets_on (state_of c.args.self.now)) c.args.hart false false true _
    (sym c.steps.ensures ∙ c.if-steps.false)
    (sym c.raises.ensures ∙ c.if-raises.false) (sym c.serves.ensures ∙ c.if-serves.true) refl)

pub returns-then-has_mail-clause-first : goal.returns-then-has_mail-clause-first
returns-then-has_mail-clause-first c =
    ap Some c.event-then-has_mail.ensures
    ∙ sym (found_by (gets_on (state_of c.args.self.now)) c.args.hart false false false true
    (sym c.steps.ensures ∙ c.if-steps.false)
    (sym c.raises.ensures ∙ c.if-raises.false) (sym c.serves.ensures ∙ c.if-serves.false)
    (sym c.has_mail.ensures ∙ c.if-has_mail.true))

pub returns-else-has_mail-clause-first : goal.returns-else-has_mail-clause-first
returns-else-has_mail-clause-first c =
    sym (found_by (gets_on (state_of c.args.self.now)) c.args.hart false false false false
    (sym c.steps.ensures ∙ c.if-steps.false)
    (sym c.raises.ensures ∙ c.if-raises.false) (sym c.serves.ensures ∙ c.if-serves.false)
    (sym c.has_mail.ensures ∙ c.if-has_mail.false))
