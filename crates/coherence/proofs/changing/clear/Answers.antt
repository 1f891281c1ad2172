use Rattle.cache_sets.specs.Calls.{IsCleared}
use Rattle.coherence.proofs.Laws.Fetched.{replaced_in}
use Rattle.coherence.proofs.changing.clear.Goals as goal

pub returns : goal.returns
returns c =
    replaced_in IsCleared c.from.result c.args.hart.number c.args.caches.now.items
    c.index_mut-cache.result.now c.clear_bits.new.self c.index_mut-cache.ensures.value c.from.ensures c.requires
    c.clear_bits.ensures.cleared
    c.clear_bits.ensures.lent c.clear_bits.ensures.owner
