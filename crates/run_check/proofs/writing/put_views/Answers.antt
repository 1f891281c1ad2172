-- a view that can be has 32 registers
use Rattle.std.proofs.Common.{◌≡◌, length, subst, sym}
use Rattle.std.proofs.lemmas.List.{get_or_read}
use Rattle.rv_flat.specs.FlatState.{no_hart}
use Rattle.run_check.proofs.writing.put_views.Goals as goal

pub put_view-requires : goal.put_view-requires
put_view-requires c =
    let views = c.args.views.now in
    let index = c.loop-view.view-index in
    subst (λ v. length v.regs ≡ 32) (sym (get_or_read views index _ c.loop-view-test.true c.view-item.is no_hart))
    (c.requires index c.loop-view-test.true).registers
