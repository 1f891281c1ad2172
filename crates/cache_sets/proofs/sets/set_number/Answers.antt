use Rattle.cache_sets.proofs.SetNumbers.{last_bits, last_below}
use Rattle.cache_sets.proofs.sets.set_number.Goals as goal

pub returns : goal.returns
returns c = record {
  exact = last_bits c.args.line.number c.requires;
  within = last_below c.args.line.number c.requires;
}
