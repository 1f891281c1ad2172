-- one hart more, and all of them
use Rattle.std.proofs.Common.{◌≡◌, ◌∙◌, None, Option, Some, ◌<◌, ◌≤◌, length, ap, arith, refl, subst}
use Rattle.std.specs.Option.{option_map}
use Rattle.std.proofs.lemmas.List.{get_or_read}
use Rattle.el_base.specs.Freed.{count_in}
use Rattle.el_base.specs.Losers.{beaten_by}
use Rattle.el_base.specs.declared.hart_id.HartId.{HartId}
use Rattle.engine.proofs.RestoredHarts.{IsRestoredAs, restored_more}
use Rattle.engine.proofs.losing.restore_all.Goals as goal
use Rattle.hart_state.specs.Own.{new_own}
use Rattle.rv_flat.specs.FlatState.{no_hart}

lost_none : (winner : Option HartId) → option_map (λ (h : HartId). h.number) winner ≡ None → winner ≡ None
lost_none None none = refl
lost_none (Some hart) none = absurd (cc)

pub loop-number-preserved : goal.loop-number-preserved
loop-number-preserved c =
    let now = c.loop-number.harts.items in
    let number = c.loop-number.number in
    let so_far = c.loop-number.invariant in
    let inside : number < length now =
    omega (arith, c.loop-number-test.true, c.len-number-end.ensures, so_far.harts.number) in
    let few : length now ≤ 8 = omega (arith, so_far.harts.number, c.requires.few) in
    let own_is = get_or_read now number _ inside c.index_mut.ensures.value (new_own no_hart 0 0) in
    let at : c.at-hart.result.number ≡ number = c.at-hart.ensures in
    let winner = c.winner_of.ensures ∙ ap (beaten_by c.args.losers) at in
    let count = c.count_of.ensures.exact ∙ ap (count_in c.args.freed) at in
    let is : IsRestoredAs c.args.mode (option_map (λ h. h.number) c.winner_of.result) c.count_of.result
    c.loop-number.pool c.restore.new.pool
    c.index_mut.result.now c.restore.new.hart = record {
      own = c.restore.ensures.own;
      lent = c.restore.ensures.lent;
      others = c.restore.ensures.others;
      kept = λ none. c.restore.ensures.kept (lost_none c.winner_of.result none);
    } in
    let before = c.loop-number.pool in
    let after = c.restore.new.pool in
    let new = c.restore.new.hart in
    restored_more number c.args.mode (beaten_by c.args.losers) (λ g. count_in c.args.freed g) _ before after _ now new
    so_far inside few
    (subst (λ own. IsRestoredAs c.args.mode (beaten_by c.args.losers number) (count_in c.args.freed number) before
    after own new) own_is
    (subst (λ n. IsRestoredAs c.args.mode (beaten_by c.args.losers number) n before after c.index_mut.result.now new)
    count
    (subst (λ w. IsRestoredAs c.args.mode w c.count_of.result before after c.index_mut.result.now new) winner is)))
