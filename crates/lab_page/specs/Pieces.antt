-- sections as pieces of lanes
use Rattle.std.specs.Prelude.{ℕ, ◌-◌}
use Rattle.lab.specs.declared.tries.Ended.{Ended}
use Rattle.lab.specs.declared.tries.Ended.TheVariants.{Live, Committed, LostTo, RolledBack}
use Rattle.lab.specs.declared.tries.Try.{Try}
use Rattle.lab_page.specs.Kinds.{kind_of}
use Rattle.lab_page.specs.Scale.{column_at}
use Rattle.lab_page.specs.declared.pieces.Piece.{Piece}
use Rattle.lab_page.specs.declared.scale.Scale as code
use Rattle.lab_tables.specs.declared.locks.LockKind.{LockKind}

-- the place of the event that ended a section, or of the last event
abbrev pub last_place : code.Scale → Ended → ℕ
last_place scale Live = scale.events - 1
last_place scale (Committed at count) = at
last_place scale (LostTo at ran winner line) = at
last_place scale (RolledBack at ran cause) = at

-- the piece of a section
abbrev pub piece_of : LockKind → code.Scale → Try → Piece
piece_of what scale try = record {
  hart = try.hart;
  first = column_at scale try.first;
  last = column_at scale (last_place scale try.ended);
  kind = kind_of what try.ended;
}
