use Rattle.cache_sets.proofs.Made.{shown-made, stands-made}
use Rattle.cache_sets.proofs.sets.Sets.make.Goals as goal

pub invariant_of-result : goal.invariant_of-result
invariant_of-result c = stands-made c.args.config.now c.in_ok-sets.sets.items c.requires c.in_ok-sets.ensures

pub returns : goal.returns
returns c =
    shown-made c.args.config.now.ways c.args.config.now.sets c.args.owner c.in_ok-sets.sets.items c.in_ok-sets.ensures
