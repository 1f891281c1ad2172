use Rattle.cache_sets.specs.Calls.{IsTouched}
use Rattle.coherence.proofs.Laws.Fetched.{replaced_in}
use Rattle.coherence.proofs.changing.touch.Goals as goal

pub returns : goal.returns
returns c =
    replaced_in (λ before after. IsTouched before after c.args.line.number) c.from.result c.args.hart.number
    c.args.caches.now.items
    c.index_mut-cache.result.now c.touch.new.self c.index_mut-cache.ensures.value c.from.ensures c.requires.hart_exists
    c.touch.ensures.touched
    c.touch.ensures.lent c.touch.ensures.owner
