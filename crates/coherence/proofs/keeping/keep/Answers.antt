use Rattle.std.proofs.Common.{◌<◌, subst, sym}
use Rattle.residency.specs.Cache.{letter_of}
use Rattle.cache_sets.specs.Calls.{IsLettered}
use Rattle.coherence.specs.Lent.{lent_all}
use Rattle.coherence.proofs.KeptLaws.{kept_letter_same}
use Rattle.coherence.proofs.Laws.Offered.{length-lent, lent-replaced, replaced_at}
use Rattle.coherence.proofs.keeping.keep.Goals as goal

pub returns-in-Read-clause-kept : goal.returns-in-Read-clause-kept
returns-in-Read-clause-kept c =
    let pool = c.args.pool.now in
    let old = c.args.caches.now.items in
    let new = c.keep_letter.new.caches.items in
    let h = c.args.hart.number in
    let line = c.args.line.number in
    rw c.in-Read.is
    (kept_letter_same h line (lent_all pool old) (lent_all pool new)
    (subst (λ n. h < n) (sym (length-lent pool old)) c.requires.hart_exists)
    (replaced_at (λ before after. IsLettered before after line (letter_of before.residency line)) h old new pool
    c.keep_letter.ensures))

pub returns-in-Read-clause-lent : goal.returns-in-Read-clause-lent
returns-in-Read-clause-lent c =
    lent-replaced
    (λ before after. IsLettered before after c.args.line.number (letter_of before.residency c.args.line.number))
    c.args.hart.number c.args.caches.now.items c.keep_letter.new.caches.items c.args.pool.now c.requires.hart_exists
    c.keep_letter.ensures
    c.requires.lent
