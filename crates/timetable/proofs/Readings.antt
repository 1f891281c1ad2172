-- What the table of a history says of a hart.
use Rattle.std.proofs.Common.{◌≡◌, ℕ, ◌<◌, List, ap, ◌∙◌, arith}
use Rattle.std.proofs.lemmas.List.FromFn.{get_or-map-range_with_len}
use Rattle.el_base.specs.declared.entries.Entry.{Entry}
use Rattle.timetable.specs.Rows.{instr_in, losses_at, lost_in, no_losses, no_row, row_at, times_in, units_in}
use Rattle.timetable.specs.Table.{instr_of, losses_of, lost_of, row_of, table_of, times_of, units_of}
use Rattle.timetable.specs.declared.hart_times.HartTimes.{HartTimes}
use Rattle.timetable.specs.declared.hart_times.Losses.{Losses}

row_in : (entries : List Entry) (h : ℕ) → h < 8 → row_at (table_of entries) h ≡ row_of h entries
unfolding table_of
row_in entries h small = get_or-map-range_with_len (λ h. row_of h entries) 0 8 h h no_row small (omega arith)

losses_in : (entries : List Entry) (h w : ℕ) → h < 8 → w < 8 →
    losses_at (row_at (table_of entries) h) w ≡ losses_of h w entries
unfolding row_of
losses_in entries h w small below =
    ap (λ row. losses_at row w) (row_in entries h small)
    ∙ get_or-map-range_with_len (λ w. losses_of h w entries) 0 8 w w no_losses below (omega arith)

pub units_read : (entries : List Entry) (h : ℕ) → h < 8 → units_in (table_of entries) h ≡ units_of h entries
unfolding row_of
units_read entries h small = ap (λ (row : HartTimes). row.units) (row_in entries h small)

pub lost_read : (entries : List Entry) (h : ℕ) → h < 8 → lost_in (table_of entries) h ≡ lost_of h entries
unfolding row_of
lost_read entries h small = ap (λ (row : HartTimes). row.lost) (row_in entries h small)

pub times_read : (entries : List Entry) (h w : ℕ) → h < 8 → w < 8 →
    times_in (table_of entries) h w ≡ times_of h w entries
times_read entries h w small below = ap (λ (losses : Losses). losses.times) (losses_in entries h w small below)

pub instr_read : (entries : List Entry) (h w : ℕ) → h < 8 → w < 8 →
    instr_in (table_of entries) h w ≡ instr_of h w entries
instr_read entries h w small below = ap (λ (losses : Losses). losses.instr) (losses_in entries h w small below)

-- what a table says of each hart
pub ruleset readings = (units_read, lost_read, times_read, instr_read)
