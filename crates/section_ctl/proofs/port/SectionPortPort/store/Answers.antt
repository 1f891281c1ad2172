-- what is shown after a store, and that the pool lends both still
use Rattle.std.proofs.Common.{◌∙◌, arith, ap}
use Rattle.cache_sets.specs.Cached.{Cached, cached_byte}
use Rattle.cache_sets.specs.Slotted as caches
use Rattle.core_step.specs.Port.{stored}
use Rattle.section_ctl.proofs.Laws.Lent.{both_by_hold, cache_stays}
use Rattle.section_ctl.proofs.PortBytes.{shown_after_put, low_part}
use Rattle.section_ctl.specs.Shown.{port_byte}
use Rattle.write_hold.specs.Slotted as holds
use Rattle.section_ctl.proofs.port.SectionPortPort.store.Goals as goal

pub invariant_of-self : goal.invariant_of-self
invariant_of-self c =
    let port = c.args.self.now in
    record {
      aligned = port.aligned;
      lent =
          both_by_hold port.pool.now c.put.new.pool port.sets.now port.hold.now port.lent
          c.put.ensures.others c.put.new.self
          c.put.ensures.lent c.put.ensures.owner;
    }

pub returns-clause-bytes : goal.returns-clause-bytes
returns-clause-bytes c at =
    let port = c.args.self.now in
    let hold = holds.lent port.pool.now port.hold.now in
    let after = holds.lent c.put.new.pool c.put.new.self in
    let cache : Cached = caches.lent port.pool.now port.sets.now in
    let put = c.in-Ok.ensures.put in
    let same = cache_stays port.pool.now c.put.new.pool port.sets.now port.hold.now port.lent c.put.ensures.others in
    ap (λ cached. port_byte after.entries port.word port.new cached at) same
    ∙ shown_after_put hold after _ _ _ (stored (cached_byte cache) port.word 4 port.new) c.args.address
    c.args.len c.args.value
    put (omega (arith, c.line_of.ensures))
    (low_part c.low_bytes-bytes.result c.args.len c.args.value c.low_bytes-bytes.ensures.four c.requires.size
    c.low_bytes-bytes.ensures.each) at
