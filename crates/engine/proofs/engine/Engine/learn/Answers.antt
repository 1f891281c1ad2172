-- the hart learns of its next instruction
use Rattle.std.proofs.Common.{◌∙◌, ap, refl, sym}
use Rattle.std.specs.Prelude.{slice_set}
use Rattle.engine.proofs.Framed.{own_read}
use Rattle.engine.proofs.StandsOutside.{action_is, is_own}
use Rattle.engine.proofs.engine.Engine.learn.Goals as goal
use Rattle.engine.specs.Parts.{parts}
use Rattle.hart_state.specs.Deeds.{ran_own}
use Rattle.hart_state.specs.Own.{committed_pc}

pub returns : goal.returns
returns c from acts =
    let now = parts c.args.self.now in
    let h = c.args.hart.number in
    let same = own_read _ now.harts _ h _ refl c.from.ensures acts.may.exists c.index_mut-own.ensures.value in
    let next = c.requires.action ∙ action_is now h from acts in
    let pc = ap (λ view. view.pc) (sym (is_own now h from acts).view) ∙ ap committed_pc (sym same)
    ∙ ap (λ view. view.pc) (sym c.committed.ensures) in
    let code = sym acts.may.is_in.code ∙ sym c.code.ensures in
    let learnt = c.has_run.ensures.ran from h (record {
      config_is = sym acts.may.is_in.config;
      pc_is = pc;
      action_is = next;
      swap_is = c.requires.exchange from acts;
      reserves_is = c.is_load_reserved-reserves.ensures from.committed h next code pc;
    }) in
    ap (λ i. record now { harts = slice_set now.harts i c.has_run.new.self }) c.from.ensures
    ∙ ap (λ own. record now { harts = slice_set now.harts h own }) (learnt ∙ ap (ran_own from h) same)
