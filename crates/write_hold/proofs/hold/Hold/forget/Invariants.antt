-- the entries that are left are lent, and the others' slots are as they were
use Rattle.std.proofs.Common.{◌≡◌, length, vec_capacity}
use Rattle.line_pool.specs.Others.{LeavesOthers}
use Rattle.write_hold.specs.Entries.{HoldStands, hold_of}
use Rattle.write_hold.specs.Slotted.{IsLent}
use Rattle.write_hold.proofs.hold.Hold.forget.Given as goal

abbrev pub invariant-loop-entry : goal.invariant-loop-entry
invariant-loop-entry l = record {
  limit : l.self-inside.limit ≡ l.fn.self.limit;
  owner : l.self-inside.owner ≡ l.fn.self.owner;
  stands : HoldStands l.self-inside.limit (vec_capacity l.self-inside.entries) l.self-inside.entries.items;
  owes : IsLent l.pool (hold_of l.self-inside.limit l.self-inside.owner l.self-inside.entries.items);
  others : LeavesOthers l.self-inside.owner l.fn.pool l.pool;
}

abbrev pub decreases-loop-entry : goal.decreases-loop-entry
decreases-loop-entry l = length l.self-inside.entries.items
