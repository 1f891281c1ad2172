use Rattle.write_hold.proofs.Laws.Masks.{mask_of_places}
use Rattle.write_hold.proofs.entry.places.Goals as goal

pub returns : goal.returns
returns c = mask_of_places c.args.offset c.args.count c.requires.inside
