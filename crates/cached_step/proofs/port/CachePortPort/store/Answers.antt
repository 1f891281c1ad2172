-- what was written where the line's bytes were lent
use Rattle.std.proofs.Common.{◌∙◌, length, ap, refl, subst, sym}
use Rattle.cache_sets.specs.Cached.{Cached, bytes_of, with_bytes}
use Rattle.cache_sets.specs.Calls.{IsWritten}
use Rattle.cache_sets.specs.Slotted.{lent}
use Rattle.el_base.specs.Line.{line_number}
use Rattle.coherence.proofs.Laws.GivenBackLaws.{writable_there}
use Rattle.cached_step.specs.CacheRun.{PutsIn}
use Rattle.cached_step.proofs.Laws.CachedBytes.{puts_in, stored_byte}
use Rattle.cached_step.proofs.port.CachePortPort.store.Goals as goal

pub returns-clause-put : goal.returns-clause-put
returns-clause-put c =
    let port = c.args.self.now in
    let old : Cached = lent port.pool.now port.sets.now in
    let new = c.put_at.new.bytes in
    let written = c.bytes_mut-bytes.ensures.written new in
    let puts : PutsIn old (with_bytes old c.line_of.result.number new) c.args.address c.args.len c.args.value =
    puts_in old c.args.address c.args.len c.args.value c.line_of.result.number c.bytes_mut-bytes.result.now new
    c.line_of.ensures c.bytes_mut-bytes.ensures.value c.put_at.ensures.bytes
    (subst (λ cache. IsWritten old cache c.line_of.result.number new) written.with_them written.written) in (
      refl,
      refl,
      record {
        puts = subst (λ cache. PutsIn old cache c.args.address c.args.len c.args.value) (sym written.with_them) puts;
        kept = written.kept;
        others = written.others;
      },
    )

pub returns-clause-bytes : goal.returns-clause-bytes
returns-clause-bytes c at =
    let port = c.args.self.now in
    let old : Cached = lent port.pool.now port.sets.now in
    stored_byte old _ c.args.address c.args.len c.args.value at c.requires.size c.requires.aligned
    (writable_there old (line_number c.args.address) c.requires.permitted)
    (ap length (sym (c.bytes_mut-bytes.ensures.value ∙ ap (bytes_of old) c.line_of.ensures))
    ∙ c.put_at.ensures.whole_line)
    ((returns-clause-put c).2.puts)
