-- a lock as contracts see it
use Rattle.std.specs.Prelude.{Box}
use Rattle.atomic_table.specs.Seated.{TableId}
use Rattle.bus_lock.specs.declared.lock.BusLock.{BusLock}

module _ {M : Type 0} where
  -- which lock it is
  abbrev pub lock_id : BusLock M → TableId
  lock_id lock = lock.table.shared.table_id

  -- the value that it was made with
  abbrev pub started_with : BusLock M → M
  started_with lock = lock.table.shared.key.value

-- what is read of a value, read of the box that it lies in
abbrev pub boxed : {M Home A : Type 0} → (M → A) → Box M Home → A
boxed read home = read home.value
