use Rattle.coherence.specs.Changed.{GetsBit}
use Rattle.coherence.proofs.Laws.Fetched.{replaced_in}
use Rattle.coherence.proofs.changing.mark.Goals as goal

pub returns : goal.returns
returns c =
    replaced_in (GetsBit c.args.line.number c.args.need) c.from.result c.args.hart.number c.args.caches.now.items
    c.index_mut-cache.result.now c.set_bit.new.self c.index_mut-cache.ensures.value c.from.ensures
    c.requires.hart_exists c.set_bit.ensures.marked
    c.set_bit.ensures.lent c.set_bit.ensures.owner
