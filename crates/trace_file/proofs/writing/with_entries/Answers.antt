use Rattle.std.proofs.Common.{length, ap, sym, ◌∙◌, ◌++◌, List, ℕ, arith}
use Rattle.std.proofs.lemmas.List.{append-nil, length-append}
use Rattle.trace_file.specs.Stretches.{between, bytes_of}
use Rattle.trace_file.proofs.EntryBytes.{grown, has_room, none_between}
use Rattle.trace_file.proofs.writing.with_entries.Goals as goal

pub loop-place-init : goal.loop-place-init
loop-place-init c =
    let none = none_between c.args.from c.args.history.now.entries (omega arith) in
    record {
      items = sym (ap (λ (l : List ℕ). c.args.bytes.items ++ l) none ∙ append-nil c.args.bytes.items);
      capacity = omega arith;
    }

pub with_entry-bytes-requires : goal.with_entry-bytes-requires
with_entry-bytes-requires c =
    let so-far = ap length c.loop-place.invariant.items in
    let parts =
    length-append c.args.bytes.items (bytes_of (between c.args.from c.loop-place.place c.args.history.now.entries)) in
    let fits =
    has_room c.args.from c.loop-place.place c.args.to c.args.history.now.entries c.entry.result c.entry.ensures
    (omega arith) (omega arith) (omega arith) in
    record { room = omega (arith, so-far, parts, fits, c.loop-place.invariant.capacity, c.requires.room) }

pub loop-place-preserved : goal.loop-place-preserved
loop-place-preserved c =
    record {
      items = grown c.args.bytes.items c.loop-place.bytes.items c.with_entry-bytes.result.items c.args.from
          c.loop-place.place c.args.history.now.entries c.entry.result c.entry.ensures (omega arith)
          c.loop-place.invariant.items
          c.with_entry-bytes.ensures.items;
      capacity = omega (arith, c.loop-place.invariant.capacity, c.with_entry-bytes.ensures.capacity);
    }
