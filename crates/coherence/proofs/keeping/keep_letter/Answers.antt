use Rattle.std.proofs.Common.{◌∙◌, ap}
use Rattle.residency.specs.Cache.{letter_of}
use Rattle.cache_sets.specs.Slotted.{Slotted}
use Rattle.coherence.proofs.Laws.Fetched.{indexed}
use Rattle.coherence.proofs.KeptLaws.{letter_kept}
use Rattle.coherence.proofs.keeping.keep_letter.Goals as goal

pub returns : goal.returns
returns c =
    let caches = c.args.caches.now.items in
    let h = c.args.hart.number in
    let line = c.args.line.number in
    letter_kept h line c.letter-letter.result caches c.set_letter.new.caches.items
    (c.letter-letter.ensures.exact
    ∙ ap (λ (cache : Slotted). letter_of cache.residency line)
    (indexed caches c.from.result h c.index.result.now c.index.ensures c.from.ensures c.requires.hart_exists))
    c.set_letter.ensures
