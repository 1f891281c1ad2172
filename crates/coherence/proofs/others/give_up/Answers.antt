use Rattle.std.proofs.Common.{◌∙◌, ap, subst}
use Rattle.cache_sets.specs.Calls.{IsLettered}
use Rattle.cache_sets.specs.Slotted.{lent}
use Rattle.coherence.proofs.others.give_up.Goals as goal
use Rattle.moesi.specs.Letters.{on_read_of}

pub returns-in-Read-clause-gives : goal.returns-in-Read-clause-gives
returns-in-Read-clause-gives c =
    let pool = c.args.pool.now in
    rw c.in-Read.is
    (subst (λ letter. IsLettered (lent pool c.args.cache.now) (lent pool c.set_letter.new.self)
    c.args.line.number letter)
    (c.on_read.ensures ∙ ap on_read_of c.letter-letter.ensures.exact) (c.set_letter.ensures.lettered pool))
