-- A sink that never fails, and keeps the first bytes that it takes.
use Rattle.std.specs.Prelude.{ℕ, ◌+◌, Bool, ◌||◌, nat_lt, List, ◌++◌, length, take, Option, None, Some, if◌then◌else◌}

-- the bytes that are kept, how many there is room for, and whether bytes were put beyond that room
pub record SureSinkState : Type 0 where
  pub kept : List ℕ
  pub room : ℕ
  pub passed : Bool

-- what the sink tells: all that it took, as long as all is kept
abbrev pub told : SureSinkState → Option (List ℕ)
told sink = if sink.passed then None else Some sink.kept

-- the sink after these bytes were put
abbrev pub after_put : SureSinkState → List ℕ → SureSinkState
after_put sink bytes = record {
  kept = take sink.room (sink.kept ++ bytes);
  room = sink.room;
  passed = sink.passed || nat_lt sink.room (length sink.kept + length bytes);
}
