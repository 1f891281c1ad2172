-- The table of a history: for each hart sums over the entries and the places.
use Rattle.std.specs.Prelude.{ℕ, Bool, false, ◌==◌, if◌then◌else◌, List, Option, None, Some, is_some, length, map, take}
use Rattle.std.specs.Prelude.{slice_get, sum, sum_by, count_by}
use Rattle.std.specs.List.{range_with_len}
use Rattle.std.specs.Option.{option_and_then}
use Rattle.el_base.specs.Winners.{winner_over}
use Rattle.el_base.specs.declared.entries.Entry.{Entry}
use Rattle.timetable.specs.Costs.{units_at}
use Rattle.timetable.specs.Unsettled.{unsettled}
use Rattle.timetable.specs.declared.hart_times.HartTimes.{HartTimes}
use Rattle.timetable.specs.declared.hart_times.Losses.{Losses}

-- this is the winner
abbrev pub is_winner : ℕ → Option ℕ → Bool
is_winner w None = false
is_winner w (Some winner) = winner == w

-- the hart that this one lost to in the event at a place
abbrev pub winner_at : ℕ → List Entry → ℕ → Option ℕ
winner_at h entries place = option_and_then (λ entry. winner_over entry.outcome h) (slice_get entries place)

-- the instructions of this hart that are lost at a place, where one of these winners is the one it lost to
abbrev pub lost_at : (Option ℕ → Bool) → ℕ → List Entry → ℕ → ℕ
lost_at wins h entries place = if wins (winner_at h entries place) then unsettled h (take place entries) else 0

-- the same, summed over the first places
abbrev pub lost_below : (Option ℕ → Bool) → ℕ → List Entry → ℕ → ℕ
lost_below wins h entries places = sum (map (lost_at wins h entries) (range_with_len 0 places))

-- the units of a hart: of its own events, and of the charges for its losses
abbrev pub units_of : ℕ → List Entry → ℕ
units_of h entries = sum_by (units_at h) entries

-- the instructions that a hart lost, whoever won
abbrev pub lost_of : ℕ → List Entry → ℕ
lost_of h entries = lost_below is_some h entries (length entries)

-- how often a hart lost to another
abbrev pub times_of : ℕ → ℕ → List Entry → ℕ
times_of h w entries = count_by (λ entry. is_winner w (winner_over entry.outcome h)) entries

-- the instructions that a hart lost to another
abbrev pub instr_of : ℕ → ℕ → List Entry → ℕ
instr_of h w entries = lost_below (is_winner w) h entries (length entries)

-- the losses of a hart to another
abbrev pub losses_of : ℕ → ℕ → List Entry → Losses
losses_of h w entries = record { times = times_of h w entries; instr = instr_of h w entries }

-- what a history says of a hart
unfoldable pub row_of : ℕ → List Entry → HartTimes
row_of h entries = record {
  units = units_of h entries;
  unsettled = unsettled h entries;
  lost = lost_of h entries;
  to = map (λ w. losses_of h w entries) (range_with_len 0 8);
}

-- what a history says of the harts 0 to 7
unfoldable pub table_of : List Entry → List HartTimes
table_of entries = map (λ h. row_of h entries) (range_with_len 0 8)
