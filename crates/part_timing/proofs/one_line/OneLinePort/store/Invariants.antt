-- the line's bytes, with those stored that have been so far
use Rattle.std.proofs.Common.{◌≡◌, ℕ}
use Rattle.core_step.specs.Port.{byte_in_line, stored}
use Rattle.part_timing.proofs.one_line.OneLinePort.store.Given as goal

abbrev pub invariant-loop-n : goal.invariant-loop-n
invariant-loop-n l =
    (l.self ≡ record l.initial.self { bytes = l.self.bytes })
    × ((address : ℕ) → byte_in_line l.self.line.number l.self.bytes address
    ≡ stored (byte_in_line l.initial.self.line.number l.initial.self.bytes) l.address l.n l.value address)
