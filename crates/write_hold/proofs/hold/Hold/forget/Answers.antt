use Rattle.std.proofs.Common.{arith}
use Rattle.line_pool.proofs.Laws.OtherLaws.{leaves-then}
use Rattle.write_hold.proofs.Slots.{leaves-popped, lent-popped}
use Rattle.write_hold.proofs.Steps.{stands_popped}
use Rattle.write_hold.proofs.hold.Hold.forget.Goals as goal

pub loop-entry-preserved : goal.loop-entry-preserved
loop-entry-preserved c =
    let i = c.loop-entry.self-inside in
    let kept = c.loop-entry.invariant in
    let pool = c.loop-entry.pool in
    let rest = c.pop.new.self.items in
    let entry = c.in-Some.entry in
    record {
      limit = kept.limit;
      owner = kept.owner;
      stands = stands_popped i.limit i.entries.cap c.pop.new.self.cap i.entries.items rest entry c.in-Some.ensures.items
          (omega (arith, c.pop.ensures.capacity)) kept.stands;
      owes =
          lent-popped pool i.limit i.owner i.entries.items kept.owes rest entry c.in-Some.ensures.items
          c.give.new.self c.give.ensures;
      others = leaves-then i.owner c.args.pool.now pool c.give.new.self kept.others
          (leaves-popped pool i.limit i.owner i.entries.items kept.owes rest entry c.in-Some.ensures.items
          c.give.new.self c.give.ensures);
    }
