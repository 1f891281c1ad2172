use Rattle.std.proofs.Common.{rules, arith, refl}
use Rattle.bus_lock.specs.Locks.{boxed}
use Rattle.bus_lock.proofs.Keeps.{opens}
use Rattle.bus_lock.proofs.lock.BusLock.open.Goals as goal

pub store-requires : goal.store-requires
store-requires g c =
    let turn = c.requires.turn in (
      search rules,
      search rules,
      opens (boxed g.M.Chronicled.entries) (boxed g.M.Chronicled.opening) _ _ _ _ _ _ turn.1 _ turn.2
          c.args.self.now.sized.1 refl turn.4 turn.3 (omega arith),
    )
