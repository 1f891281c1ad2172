use Rattle.std.proofs.Common.{◌≡◌, ◌+◌, ◌*◌, ◌/◌, ◌++◌, ℕ, List, length, ap, ◌∙◌, arith}
use Rattle.std.proofs.lemmas.Grind.{common_steps}
use Rattle.chronicle.specs.Chronicle.{events}
use Rattle.trace_file.proofs.EntryBytes.{grown_by, has_room_for, whole}
use Rattle.trace_file.specs.Spelling.{head}
use Rattle.trace_file.specs.Stretches.{between, bytes_of}
use Rattle.trace_file.proofs.writing.spelled.Goals as goal

pub with_stretch-bytes-requires-clause-room : goal.with_stretch-bytes-requires-clause-room
with_stretch-bytes-requires-clause-room c =
    let so-far = ap length c.loop-four.invariant.items in
    let fits =
    has_room_for (4 * c.loop-four.four) (4 * c.loop-four.four + 4) c.args.history.now.entries (omega arith)
    (omega (arith, c.length-count.ensures, c.loop-four-test.true)) in
    omega (arith, so-far, fits, c.loop-four.invariant.room)

pub loop-four-preserved : goal.loop-four-preserved
loop-four-preserved c =
    let front = head 2 c.args.config.now (length c.args.history.now.entries) in
    let next : 4 * c.loop-four.four + 4 ≡ 4 * (c.loop-four.four + 1) = omega arith in
    record {
      items =
          grown_by front c.loop-four.bytes.items c.with_stretch-bytes.result.items 0 (4 * c.loop-four.four)
          (4 * c.loop-four.four + 4) c.args.history.now.entries (omega arith) (omega arith)
          (omega (arith, c.length-count.ensures, c.loop-four-test.true)) c.loop-four.invariant.items
          c.with_stretch-bytes.ensures.items
          ∙ ap (λ (n : ℕ). front ++ bytes_of (between 0 n c.args.history.now.entries)) next;
      room = omega (arith, c.loop-four.invariant.room, c.with_stretch-bytes.ensures.capacity);
    }

pub with_entries-requires-clause-room : goal.with_entries-requires-clause-room
with_entries-requires-clause-room c =
    let so-far = ap length c.loop-four.invariant.items in
    let ended : c.length-count.result / 4 * 4 ≡ 4 * c.loop-four.four =
    omega (arith, c.loop-four-test.false, c.loop-four.auto.four-end) in
    let fits =
    has_room_for (4 * c.loop-four.four) c.length-count.result c.args.history.now.entries
    (omega (arith, ended)) (omega (arith, c.length-count.ensures)) in
    let same = ap (λ (n : ℕ). length (bytes_of (between n c.length-count.result c.args.history.now.entries))) ended in
    omega (arith, so-far, fits, same, c.loop-four.invariant.room)

pub returns : goal.returns
returns c =
    let front = head 2 c.args.config.now (length c.args.history.now.entries) in
    let ended : c.length-count.result / 4 * 4 ≡ 4 * c.loop-four.four =
    omega (arith, c.loop-four-test.false, c.loop-four.auto.four-end) in
    let counted : length c.args.history.now.entries ≡ length (events c.args.history.now.entries) =
    grind (arith, common_steps) in
    grown_by front c.loop-four.bytes.items c.with_entries.result.items 0 (4 * c.loop-four.four) c.length-count.result
    c.args.history.now.entries (omega arith) (omega (arith, ended)) (omega (arith, c.length-count.ensures))
    c.loop-four.invariant.items
    (c.with_entries.ensures.items
    ∙ ap (λ (n : ℕ). c.loop-four.bytes.items ++ bytes_of (between n c.length-count.result c.args.history.now.entries))
    ended)
    ∙ ap (λ (n : ℕ). front ++ bytes_of (between 0 n c.args.history.now.entries)) c.length-count.ensures
    ∙ ap (λ (l : List ℕ). front ++ l) (whole c.args.history.now.entries)
    ∙ ap (λ (n : ℕ). head 2 c.args.config.now n ++ bytes_of c.args.history.now.entries) counted
