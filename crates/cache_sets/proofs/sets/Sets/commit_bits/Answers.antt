use Rattle.std.proofs.Common.{ap}
use Rattle.cache_sets.specs.Slotted.{Slotted}
use Rattle.cache_sets.proofs.Every.{committed-after, lent-committed, stands-committed}
use Rattle.cache_sets.proofs.sets.Sets.commit_bits.Goals as goal

pub invariant_of-self : goal.invariant_of-self
invariant_of-self c =
    stands-committed c.self.inside.sets c.commit.new.sets c.self.invariant c.self.view_is c.as_mut_slice.ensures.value
    c.commit.ensures

pub returns : goal.returns
returns c = record {
  committed =
      committed-after c.self.inside.sets c.commit.new.sets c.self.invariant c.self.view_is c.as_mut_slice.ensures.value
      c.commit.ensures;
  lent =
      lent-committed c.self.inside.sets c.commit.new.sets c.self.invariant c.self.view_is c.as_mut_slice.ensures.value
      c.commit.ensures;
  owner = ap (λ (v : Slotted). v.owner) c.self.view_is;
}
