-- places as columns
use Rattle.std.specs.Prelude.{ℕ, ◌*◌, ◌/◌, ◌-◌, min}
use Rattle.lab_page.specs.declared.scale.Scale as code

-- the column of a place: the last one for a place behind all events
abbrev pub column_at : code.Scale → ℕ → ℕ
column_at scale place = min (place * scale.width / scale.events) (scale.width - 1)
