-- A sink in memory that fails where it is told to, as callers see it.
use Rattle.std.specs.Prelude.{◌≡◌, ℕ, ◌-◌, ◌<◌, ◌⊎◌, min, List, ◌++◌, length}
use Rattle.el_io.specs.Counts.{one_more}
use Rattle.el_io.specs.FailurePlan.{Plan, NextFails, after_call}

-- the bytes taken, how many there is room for, the greatest length of one put, which calls fail, and the
-- count of faults
pub record MemSinkState : Type 0 where
  pub taken : List ℕ
  pub room : ℕ
  pub piece : ℕ
  pub plan : Plan
  pub faults : ℕ

-- how many bytes a put takes of so many, where it does not fail
abbrev pub part : MemSinkState → ℕ → ℕ
part sink count = min count (min sink.piece (sink.room - length sink.taken))

-- a put of these bytes fails: it is planned to, or there are bytes and no room for one
abbrev pub Fails : MemSinkState → List ℕ → Type 0
Fails sink bytes = NextFails sink.plan ⊎ ((0 < length bytes) × (length sink.taken ≡ sink.room))

-- the sink after a put that failed
abbrev pub after_fault : MemSinkState → MemSinkState
after_fault sink = record sink { plan = after_call sink.plan; faults = one_more sink.faults }

-- the sink after a put that took these bytes
abbrev pub after_taking : MemSinkState → List ℕ → MemSinkState
after_taking sink bytes = record sink { plan = after_call sink.plan; taken = sink.taken ++ bytes }
