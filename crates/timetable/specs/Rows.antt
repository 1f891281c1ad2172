-- What the rows of a table say.
use Rattle.std.specs.Prelude.{ℕ, List, [], get_or}
use Rattle.timetable.specs.declared.hart_times.HartTimes.{HartTimes}
use Rattle.timetable.specs.declared.hart_times.Losses.{Losses}

-- no losses
abbrev pub no_losses : Losses
no_losses = record { times = 0; instr = 0 }

-- the losses of a row's hart to another
abbrev pub losses_at : HartTimes → ℕ → Losses
losses_at row w = get_or row.to w no_losses

-- the row that says nothing
abbrev pub no_row : HartTimes
no_row = record { units = 0; unsettled = 0; lost = 0; to = [] }

-- the row of a hart among those of all harts
abbrev pub row_at : List HartTimes → ℕ → HartTimes
row_at rows h = get_or rows h no_row

-- the units of a hart
abbrev pub units_in : List HartTimes → ℕ → ℕ
units_in rows h = (row_at rows h).units

-- the instructions that a hart lost, whoever won
abbrev pub lost_in : List HartTimes → ℕ → ℕ
lost_in rows h = (row_at rows h).lost

-- how often a hart lost to another
abbrev pub times_in : List HartTimes → ℕ → ℕ → ℕ
times_in rows h w = (losses_at (row_at rows h) w).times

-- the instructions that a hart lost to another
abbrev pub instr_in : List HartTimes → ℕ → ℕ → ℕ
instr_in rows h w = (losses_at (row_at rows h) w).instr
