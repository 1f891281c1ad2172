use Rattle.line_pool.proofs.Moves.{has_room}
use Rattle.line_pool.proofs.share.Share.give.Goals as goal

pub push_reserved-requires : goal.push_reserved-requires
push_reserved-requires c = has_room c.args.self.now c.args.place c.requires.kept c.requires.out
