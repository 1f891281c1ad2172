use Rattle.std.proofs.Common.{ap, refl, subst, ◌∙◌}
use Rattle.line_pool.specs.Calls.{IsWritten}
use Rattle.line_pool.specs.Pooled.{with_bytes}
use Rattle.cache_sets.specs.Slotted.{slot_of}
use Rattle.cache_sets.proofs.Readings.{line-there, used-bytes, used-out, used-slot, used-written}
use Rattle.cache_sets.proofs.sets.Sets.bytes_mut.Goals as goal

pub slot_in_use-slot-requires-clause-there : goal.slot_in_use-slot-requires-clause-there
slot_in_use-slot-requires-clause-there c =
    line-there c.cache.invariant c.cache.view_is c.as_slice.ensures.value c.args.line.number c.requires.resident

pub bytes_mut-requires : goal.bytes_mut-requires
bytes_mut-requires c =
    used-out c.cache.invariant c.cache.view_is c.as_slice.ensures.value c.args.line.number
    c.requires.resident c.requires.lent
    c.slot_in_use-slot.ensures

pub returns : goal.returns
returns c =
    let line = c.args.line.number in
    let pool = c.args.pool.now in
    let slot = c.slot_in_use-slot.result.now in
    let used =
    used-slot c.cache.invariant c.cache.view_is c.as_slice.ensures.value line c.requires.resident c.requires.lent
    c.slot_in_use-slot.ensures in (
      (refl, λ w. ap (λ s. with_bytes pool s w) used),
      record {
        lends = tt;
        value = c.bytes_mut.ensures.value
            ∙ used-bytes c.cache.invariant c.cache.view_is c.as_slice.ensures.value line
            c.requires.resident c.requires.lent
            c.slot_in_use-slot.ensures;
        written = λ bytes.
            used-written c.cache.invariant c.cache.view_is c.as_slice.ensures.value line
            c.requires.resident c.requires.lent
            c.slot_in_use-slot.ensures (with_bytes pool (slot_of c.args.cache.now line) bytes) bytes
            (subst (λ s. IsWritten pool (with_bytes pool s bytes) slot bytes) used (c.bytes_mut.ensures.written bytes));
      },
    )
