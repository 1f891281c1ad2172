-- what is drawn
use Rattle.std.specs.Prelude.{ℕ}
use Rattle.el_base.specs.declared.outcomes.Cause.TheVariants as cause
use Rattle.lab.specs.declared.tries.Ended.{Ended}
use Rattle.lab.specs.declared.tries.Ended.TheVariants as ended
use Rattle.lab_page.specs.declared.kinds.Kind.{Kind}
use Rattle.lab_page.specs.declared.kinds.Kind.TheVariants.{Committed, Released, Lost, Room, Lines, Long, Call, Mixed}
use Rattle.lab_page.specs.declared.kinds.Kind.TheVariants.{Live, Waited, Served, Moved}
use Rattle.lab_tables.specs.declared.locks.LockKind.{LockKind}
use Rattle.lab_tables.specs.declared.locks.LockKind.TheVariants.{Take, Release}

-- the number of a kind
abbrev pub kind_number : Kind → ℕ
kind_number Committed = 0
kind_number Released = 1
kind_number Lost = 2
kind_number Room = 3
kind_number Lines = 4
kind_number Long = 5
kind_number Call = 6
kind_number Mixed = 7
kind_number Live = 8
kind_number Waited = 9
kind_number Served = 10
kind_number Moved = 11

-- a section that took effect, by what its swap does to the lock
abbrev pub committed_as : LockKind → Kind
committed_as Take = Committed
committed_as Release = Released

-- what a section is drawn as, by that and how it ended
abbrev pub kind_of : LockKind → Ended → Kind
kind_of what ended.Live = Live
kind_of what (ended.Committed at count) = committed_as what
kind_of what (ended.LostTo at ran winner line) = Lost
kind_of what (ended.RolledBack at ran cause.Room) = Room
kind_of what (ended.RolledBack at ran cause.Lines) = Lines
kind_of what (ended.RolledBack at ran cause.Long) = Long
kind_of what (ended.RolledBack at ran cause.Call) = Call
kind_of what (ended.RolledBack at ran cause.Mixed) = Mixed
