-- Where a replay differs from what its trace records.
use Rattle.std.specs.Prelude.{◌≡◌, List, Option, None, Some, slice_get}
use Rattle.drive.specs.FirstDifference.{IsFirstDifference}
use Rattle.el_base.specs.declared.outcomes.Outcome.{Outcome}
use Rattle.tool.specs.declared.difference.Difference.{Difference}

-- the first event of which another outcome came than the recorded one, with both outcomes
pub record IsDifference (recorded found : List Outcome) (difference : Difference) : Type 0 where
  pub first : IsFirstDifference recorded found difference.place
  pub recorded_there : slice_get recorded difference.place ≡ Some difference.recorded
  pub found_there : slice_get found difference.place ≡ Some difference.found

-- the outcomes that came are those that a trace records, where it records any
abbrev pub CameAsRecorded : Option (List Outcome) → List Outcome → Type 0
CameAsRecorded None found = Unit {0}
CameAsRecorded (Some recorded) found = recorded ≡ found

-- or one of them differs
abbrev pub DiffersFrom : Option (List Outcome) → List Outcome → Difference → Type 0
DiffersFrom None found difference = ⊥
DiffersFrom (Some recorded) found difference = IsDifference recorded found difference
