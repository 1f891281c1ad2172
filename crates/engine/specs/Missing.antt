-- a hart that misses a line
use Rattle.std.specs.Prelude.{ℕ, ◌≡◌, true}
use Rattle.el_model.specs.State.{ModelState}
use Rattle.engine.specs.Acting.{MayAct}
use Rattle.engine.specs.Parts.{Parts}
use Rattle.snoop.specs.Asking.{HasNoRequest}
use Rattle.snoop.specs.Shows.{LiesIn, has_room_in}

-- a hart that may act may miss a line: it waits for no request, the line lies in memory, and its cache has room for it
pub record MayMiss (parts : Parts) (h line : ℕ) : Type 0 where
  pub from : ModelState
  pub may : MayAct parts h from
  pub free : HasNoRequest parts.bus h
  pub in_memory : LiesIn parts.bus.copies line
  pub room : has_room_in parts.bus.copies h line ≡ true
