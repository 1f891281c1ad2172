use Rattle.std.proofs.Common.{arith}
use Rattle.cache_sets.proofs.Rooms.{turned}
use Rattle.cache_sets.proofs.set.Set.put_first.Goals as goal

pub returns-clause-lines : goal.returns-clause-lines
returns-clause-lines c =
    let old = c.args.self.now.lines in
    turned old.items c.args.line _ c.push_reserved.new.self.items c.rotate_right.new.self.items
    c.push_reserved.ensures.items
    (omega (arith, c.push_reserved.ensures.len, old.ok.0)) c.rotate_right.ensures.items
