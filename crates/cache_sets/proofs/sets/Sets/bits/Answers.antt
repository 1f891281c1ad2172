use Rattle.std.proofs.Common.{None, ap, sym, ◌∙◌}
use Rattle.cache_sets.specs.Bits.{bits_of, bits_of_number}
use Rattle.cache_sets.proofs.Readings.{bits-found, way-found}
use Rattle.cache_sets.proofs.sets.Sets.bits.Goals as goal

pub returns-in-Some : goal.returns-in-Some
returns-in-Some c =
    bits-found c.self.invariant c.self.view_is c.as_slice.ensures.value c.args.line.number c.in-Some.way
    c.in-Some.ensures

pub returns-in-None : goal.returns-in-None
returns-in-None c =
    ap bits_of_number (c.empty.ensures tt)
    ∙ sym (ap bits_of
    (way-found c.self.invariant c.self.view_is c.as_slice.ensures.value c.args.line.number None c.in-None.ensures))
