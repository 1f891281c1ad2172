-- the word in a line: the lock word, with its new value under the hold, or another
use Rattle.std.proofs.Common.{◌%◌, ◌∙◌, ap, slice_index}
use Rattle.cache_sets.specs.Cached.{Cached, bytes_of}
use Rattle.cache_sets.specs.Slotted as caches
use Rattle.core_step.specs.Port.{stored}
use Rattle.section_ctl.proofs.PortBytes.{LiesUnder, lies_in_cache, lies_in_lock, word_bytes_of, word_shown_of}
use Rattle.write_hold.specs.Slotted as holds
use Rattle.section_ctl.proofs.port.SectionPortPort.word.Goals as goal

lies_then : (c : goal.After-read_over) →
    LiesUnder c.args.self.now.word c.args.self.now.new (caches.lent c.args.self.now.pool.now c.args.self.now.sets.now)
    c.args.address c.with_word.result
lies_then c =
    let port = c.args.self.now in
    let cache : Cached = caches.lent port.pool.now port.sets.now in
    let hold = holds.lent port.pool.now port.hold.now in
    let under_is = c.bytes-under.ensures ∙ ap (bytes_of cache) c.line_of-line.ensures in
    lies_in_lock port.word port.new cache c.args.address c.with_word.result c.if-address-self.true
    (λ at. c.with_word.ensures at ∙ (λ k. stored (slice_index (under_is k)) (c.args.address % 64) 4 port.new at))

pub returns-then-address-self-clause-value : goal.returns-then-address-self-clause-value
returns-then-address-self-clause-value c =
    let port = c.args.self.now in
    let cache : Cached = caches.lent port.pool.now port.sets.now in
    let hold = holds.lent port.pool.now port.hold.now in
    c.read_over.ensures.value
    ∙ word_shown_of hold.entries port.word port.new cache c.args.address c.with_word.result _ c.line_of-line.ensures
    c.requires.aligned (lies_then c)

pub returns-then-address-self-clause-bytes : goal.returns-then-address-self-clause-bytes
returns-then-address-self-clause-bytes c =
    let port = c.args.self.now in
    let cache : Cached = caches.lent port.pool.now port.sets.now in
    let hold = holds.lent port.pool.now port.hold.now in
    word_bytes_of hold.entries port.word port.new cache c.args.address c.with_word.result _ c.line_of-line.ensures
    c.requires.aligned (lies_then c) c.read_over.ensures.bytes

lies_else : (c : goal.After-read_over-else-address-self) →
    LiesUnder c.args.self.now.word c.args.self.now.new (caches.lent c.args.self.now.pool.now c.args.self.now.sets.now)
    c.args.address c.bytes-under.result.now
lies_else c =
    let port = c.args.self.now in
    let cache : Cached = caches.lent port.pool.now port.sets.now in
    let hold = holds.lent port.pool.now port.hold.now in
    lies_in_cache port.word port.new cache c.args.address c.bytes-under.result.now c.requires.aligned port.aligned
    c.if-address-self.false
    (c.bytes-under.ensures ∙ ap (bytes_of cache) c.line_of-line.ensures)

pub returns-else-address-self-clause-value : goal.returns-else-address-self-clause-value
returns-else-address-self-clause-value c =
    let port = c.args.self.now in
    let cache : Cached = caches.lent port.pool.now port.sets.now in
    let hold = holds.lent port.pool.now port.hold.now in
    c.read_over-else-address-self.ensures.value
    ∙ word_shown_of hold.entries port.word port.new cache c.args.address c.bytes-under.result.now _
    c.line_of-line.ensures
    c.requires.aligned (lies_else c)

pub returns-else-address-self-clause-bytes : goal.returns-else-address-self-clause-bytes
returns-else-address-self-clause-bytes c =
    let port = c.args.self.now in
    let cache : Cached = caches.lent port.pool.now port.sets.now in
    let hold = holds.lent port.pool.now port.hold.now in
    word_bytes_of hold.entries port.word port.new cache c.args.address c.bytes-under.result.now _ c.line_of-line.ensures
    c.requires.aligned (lies_else c) c.read_over-else-address-self.ensures.bytes
