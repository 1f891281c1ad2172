use Rattle.std.proofs.Common.{Some, ap, refl, slice_index, ◌∙◌}
use Rattle.line_pool.specs.Pooled.{with_bytes}
use Rattle.write_hold.specs.Held.{laid}
use Rattle.write_hold.proofs.Calls.{entry-stored}
use Rattle.write_hold.proofs.entry.Entry.store.Goals as goal

pub returns : goal.returns
returns c =
    let old = c.args.self.now in
    let bytes = c.args.bytes.now in
    let now = c.write_at.new.line in
    entry-stored c.args.pool.now (with_bytes c.args.pool.now old.slot now) old _ c.args.offset c.places.result bytes now
    (c.bytes_mut.ensures.written now) refl refl refl
    (λ place. c.write_at.ensures place ∙ ap (λ b. laid c.args.offset bytes place (Some (slice_index b place)))
    c.bytes_mut.ensures.value)
    c.places.ensures
