-- what holds of each hart by itself, whatever the events
use Rattle.std.specs.Prelude.{ℕ, ◌≡◌, ◌≢◌, ◌≤◌, ◌<◌, true, false, List, None, Option, length, slice_index}
use Rattle.residency.specs.Cache.{has_marks, read_bit, write_bit}
use Rattle.residency.specs.Residency.{Way}
use Rattle.el_base.specs.Line.{line_number}
use Rattle.el_model.specs.Armed.{most_armed}
use Rattle.el_model.specs.RollBack.{most_tries}
use Rattle.el_model.specs.State.{Armed, Section}

-- without a live or armed section no line has an access bit; a bit stands on the way of a line, so it is
-- always on a line that is resident
abbrev pub HasBitsOnlyInside : Option Section → Option Armed → List (List Way) → Type 0
HasBitsOnlyInside section armed cache = section ≡ None → armed ≡ None → has_marks cache ≡ false

-- no line is written and none is read but the one of a word
pub record HasNoOtherBit (word : ℕ) (cache : List (List Way)) : Type 0 where
  pub unwritten : (line : ℕ) → write_bit cache line ≡ false
  pub alone : (line : ℕ) → line ≢ line_number word → read_bit cache line ≡ false

-- and that one is, and so is resident
pub record HasOneReadBit (word : ℕ) (cache : List (List Way)) : Type 0 where
  pub read : read_bit cache (line_number word) ≡ true
  pub no_other : HasNoOtherBit word cache

-- an armed section has an instruction, its LR, at most 15, and fewer than a section may have
pub record IsShortArmed (long : ℕ) (armed : Armed) : Type 0 where
  pub some : 1 ≤ armed.count
  pub few : armed.count ≤ most_armed
  pub within : armed.count < long

-- the count of sections lost in a row is below the most that may be; lock removal does not count them
abbrev pub HasTriesLeft : ℕ → Type 0
HasTriesLeft tries = tries < most_tries

-- 64 counters, each from 0 to 3
pub record AreCounters (counters : List ℕ) : Type 0 where
  pub all : length counters ≡ 64
  pub small : (n : ℕ) → slice_index counters n ≤ 3
