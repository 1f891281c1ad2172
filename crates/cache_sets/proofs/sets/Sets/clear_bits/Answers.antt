use Rattle.std.proofs.Common.{ap}
use Rattle.cache_sets.specs.Slotted.{Slotted}
use Rattle.cache_sets.proofs.Every.{cleared-after, lent-cleared, stands-cleared}
use Rattle.cache_sets.proofs.sets.Sets.clear_bits.Goals as goal

pub invariant_of-self : goal.invariant_of-self
invariant_of-self c =
    stands-cleared c.self.inside.sets c.clear.new.sets c.self.invariant c.self.view_is
    c.as_mut_slice.ensures.value c.clear.ensures

pub returns : goal.returns
returns c = record {
  cleared =
      cleared-after c.self.inside.sets c.clear.new.sets c.self.invariant c.self.view_is c.as_mut_slice.ensures.value
      c.clear.ensures;
  lent =
      lent-cleared c.self.inside.sets c.clear.new.sets c.self.invariant c.self.view_is c.as_mut_slice.ensures.value
      c.clear.ensures;
  owner = ap (λ (v : Slotted). v.owner) c.self.view_is;
}
