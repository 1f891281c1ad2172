use Rattle.cache_sets.specs.Calls.{IsLettered}
use Rattle.coherence.proofs.Laws.Fetched.{replaced_in}
use Rattle.coherence.proofs.changing.set_letter.Goals as goal

pub returns : goal.returns
returns c =
    replaced_in (λ before after. IsLettered before after c.args.line.number c.args.letter) c.from.result
    c.args.hart.number c.args.caches.now.items
    c.index_mut-cache.result.now c.set_letter.new.self c.index_mut-cache.ensures.value c.from.ensures
    c.requires.hart_exists c.set_letter.ensures.lettered
    c.set_letter.ensures.lent c.set_letter.ensures.owner
