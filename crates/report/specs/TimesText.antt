-- The text of a table of units and losses.
use Rattle.std.specs.Prelude.{ℕ, List, [], ◌∷◌, ◌++◌, ◌==◌, codes, if◌then◌else◌, map, sum}
use Rattle.std.specs.Fmt.{decimal}
use Rattle.std.specs.List.{flat_map, range_with_len}
use Rattle.el_base.specs.declared.entries.Entry.{Entry}
use Rattle.report.specs.Line.{line}
use Rattle.timetable.specs.Rows.{instr_in, lost_in, times_in, units_in}
use Rattle.timetable.specs.Table.{table_of}
use Rattle.timetable.specs.declared.hart_times.HartTimes.{HartTimes}

-- the units of a hart, and the instructions that it lost
unfoldable pub time_at : List HartTimes → ℕ → List ℕ
time_at table hart =
    line (codes "time")
    (decimal hart ∷ codes "units" ∷ decimal (units_in table hart) ∷ codes "lost" ∷ decimal (lost_in table hart) ∷ [])

-- how often a hart lost to another, and the instructions that it lost by that
unfoldable pub loss_line : List HartTimes → ℕ → ℕ → List ℕ
loss_line table loser winner =
    line (codes "lost")
    (decimal loser ∷ codes "to" ∷ decimal winner
    ∷ codes "times" ∷ decimal (times_in table loser winner)
    ∷ codes "instr" ∷ decimal (instr_in table loser winner) ∷ [])

-- nothing for a pair without a loss
abbrev pub loss_at : List HartTimes → ℕ → ℕ → List ℕ
loss_at table loser winner = if times_in table loser winner == 0 then [] else loss_line table loser winner

-- the losses of a hart to each of the first harts
abbrev pub losses_of : List HartTimes → ℕ → ℕ → List ℕ
losses_of table harts loser = flat_map (loss_at table loser) (range_with_len 0 harts)

-- the units of the first harts together
abbrev pub total_of : ℕ → List HartTimes → ℕ
total_of harts table = sum (map (units_in table) (range_with_len 0 harts))

unfoldable pub total_line : ℕ → List ℕ
total_line total = line (codes "time") (codes "total" ∷ decimal total ∷ [])

-- the first harts, their losses to one another, and the units of all
unfoldable pub times_text : ℕ → List HartTimes → List ℕ
times_text harts table =
    flat_map (time_at table) (range_with_len 0 harts)
    ++ (flat_map (losses_of table harts) (range_with_len 0 harts) ++ total_line (total_of harts table))

-- the text of a history
abbrev pub times_of : ℕ → List Entry → List ℕ
times_of harts entries = times_text harts (table_of entries)
