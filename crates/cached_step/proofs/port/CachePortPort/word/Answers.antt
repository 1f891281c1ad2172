-- each byte of a line is one
use Rattle.std.proofs.Common.{◌∙◌, ap}
use Rattle.cache_sets.specs.Cached.{bytes_of}
use Rattle.cache_sets.specs.Slotted.{lent}
use Rattle.cached_step.proofs.Laws.CachedBytes.{word_bytes}
use Rattle.cached_step.proofs.port.CachePortPort.word.Goals as goal

pub returns-clause-bytes : goal.returns-clause-bytes
returns-clause-bytes c at =
    let cache = lent c.args.self.now.pool.now c.args.self.now.sets.now in
    word_bytes cache c.args.address at c.bytes.result.now c.requires.aligned
    (c.bytes.ensures ∙ ap (bytes_of cache) c.line_of.ensures)
    c.word_at.ensures.bytes
