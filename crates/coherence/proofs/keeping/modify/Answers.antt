use Rattle.std.proofs.Common.{◌<◌, subst, sym}
use Rattle.cache_sets.specs.Calls.{IsLettered}
use Rattle.coherence.specs.Lent.{lent_all}
use Rattle.coherence.proofs.GivingUp.{still_there}
use Rattle.coherence.proofs.KeptLaws.{modified}
use Rattle.coherence.proofs.Laws.Offered.{length-lent, lent-replaced, replaced_at}
use Rattle.coherence.proofs.keeping.modify.Goals as goal
use Rattle.el_base.specs.declared.outcomes.Need.TheVariants.{Write}
use Rattle.moesi.specs.declared.letter.Letter.TheVariants.{M}

pub returns-clause-kept : goal.returns-clause-kept
returns-clause-kept c =
    let old = c.args.caches.now.items in
    let mid = c.others_give_up.new.caches.items in
    let now = c.others_give_up.new.pool in
    let h = c.args.hart.number in
    let line = c.args.line.number in
    modified h line (lent_all c.args.pool.now old) (lent_all now mid) (lent_all now c.set_letter.new.caches.items)
    c.others_give_up.ensures.gave (subst (λ n. h < n) (sym (length-lent c.args.pool.now old)) c.requires.hart_exists)
    (replaced_at (λ before after. IsLettered before after line M) h mid c.set_letter.new.caches.items now
    c.set_letter.ensures)

pub returns-clause-lent : goal.returns-clause-lent
returns-clause-lent c =
    let old = c.args.caches.now.items in
    let mid = c.others_give_up.new.caches.items in
    let now = c.others_give_up.new.pool in
    let h = c.args.hart.number in
    let line = c.args.line.number in
    lent-replaced (λ before after. IsLettered before after line M) h mid c.set_letter.new.caches.items now
    (still_there Write h line c.args.pool.now now old mid c.others_give_up.ensures.gave c.requires.hart_exists)
    c.set_letter.ensures
    c.others_give_up.ensures.lent
