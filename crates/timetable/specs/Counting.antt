-- Counting the events of a history, one after another.
use Rattle.std.specs.Prelude.{◌≡◌, ℕ, ◌+◌, ◌*◌, ◌<◌, ◌≤◌, if◌then◌else◌, nat_lt, Option, None, Some, length, set}
use Rattle.chronicle.specs.Tally.{has_lost}
use Rattle.el_base.specs.Winners.{winner_over}
use Rattle.el_base.specs.declared.entries.Entry.{Entry}
use Rattle.el_base.specs.declared.outcomes.Outcome.{Outcome}
use Rattle.timetable.specs.Costs.{cost, loss_charge, units_at}
use Rattle.timetable.specs.Rows.{losses_at}
use Rattle.timetable.specs.Table.{is_winner}
use Rattle.timetable.specs.Unsettled.{adds, ends_private, is_private, settles}
use Rattle.timetable.specs.declared.hart_times.HartTimes.{HartTimes}
use Rattle.timetable.specs.declared.hart_times.Losses.{Losses}

-- losses after one more, at which so many instructions were not settled
abbrev pub one_more_loss : ℕ → Losses → Losses
one_more_loss unsettled losses = record { times = losses.times + 1; instr = losses.instr + unsettled }

-- a row after an event of its hart's own
abbrev pub after_own : HartTimes → Outcome → HartTimes
after_own row outcome = record row {
  units = row.units + cost outcome;
  unsettled = if ends_private outcome then 0 else if is_private outcome then row.unsettled + 1 else row.unsettled;
}

-- a row after a loss to this winner
abbrev pub after_loss : HartTimes → ℕ → HartTimes
after_loss row winner = record {
  units = row.units + loss_charge;
  unsettled = 0;
  lost = row.lost + row.unsettled;
  to = set row.to winner (one_more_loss row.unsettled (losses_at row winner));
}

-- a row after an event in which its hart lost to somebody, if it did, and else was let go with so many instructions
abbrev pub after_others : HartTimes → Option ℕ → ℕ → HartTimes
after_others row (Some winner) freed = after_loss row winner
after_others row None freed = if nat_lt 0 freed then record row { unsettled = 0 } else row

-- what one more event changes in the row of a hart
pub record Follows (h : ℕ) (entry : Entry) (old new : HartTimes) : Type 0 where
  pub units : new.units ≡ old.units + units_at h entry
  pub unsettled : new.unsettled
      ≡ (if settles h entry then 0 else if adds h entry then old.unsettled + 1 else old.unsettled)
  pub lost : new.lost ≡ old.lost + (if has_lost h entry.outcome then old.unsettled else 0)
  pub same_places : length new.to ≡ length old.to
  pub to : (w : ℕ) → w < 8 → losses_at new w ≡
      (if is_winner w (winner_over entry.outcome h) then one_more_loss old.unsettled (losses_at old w)
      else losses_at old w)

-- the most events that a history can have, and the most units that they can come to for a hart
abbrev pub most_events : ℕ
most_events = 4294967295

abbrev pub most_units : ℕ
most_units = 30 * most_events

-- the numbers of a row are those of so many events
pub record IsWithin (events : ℕ) (row : HartTimes) : Type 0 where
  pub units : row.units ≤ 30 * events
  pub lost : row.lost + row.unsettled ≤ events
  pub places : length row.to ≡ 8
  pub times : (w : ℕ) → w < 8 → (losses_at row w).times ≤ events
  pub instr : (w : ℕ) → w < 8 → (losses_at row w).instr + row.unsettled ≤ events
