-- the private run of an armed or a live section: the steps of its hart alone, from what is committed on
use Rattle.std.specs.Prelude.{ℕ, zero, suc, ◌≡◌, ◌≢◌, ◌≤◌, ◌<◌, ◌+◌, ◌%◌, ◌^◌, true, false, List, length, Option, None}
use Rattle.std.specs.Prelude.{Some, slice_index}
use Rattle.residency.specs.Cache.{has_bit, read_bit, write_bit}
use Rattle.residency.specs.Residency.{Way}
use Rattle.el_base.specs.Line.{line_number}
use Rattle.el_model.specs.Armed.{is_quiet}
use Rattle.el_model.specs.InSection.{is_covered}
use Rattle.el_model.specs.State.{Armed, Section}
use Rattle.el_model.specs.Upcoming.{Swap, Touch, calls_or_stops, next_conditional, next_reserved, next_swap, next_touch}
use Rattle.el_model.specs.Upcoming.{stores_to_word}
use Rattle.rv_alu.specs.Loaded.{loaded}
use Rattle.rv_alu.specs.declared.view.HartStatus.TheVariants.{Running}
use Rattle.rv_flat.specs.FlatState.{FlatState, status_of, view_of}
use Rattle.rv_flat.specs.Laws.{KeepsShape}
use Rattle.rv_flat.specs.Memory.{byte_in}
use Rattle.rv_flat.specs.Run.{alone}

-- what an instruction touches has its bit: the write bit where it writes, either bit where it reads
abbrev pub HasItsBit : List (List Way) → Option Touch → Type 0
HasItsBit cache None = Unit {0}
HasItsBit cache (Some touch) = is_covered cache touch.line touch.need ≡ true

-- an instruction of a section after its acquire: it neither calls nor stops its hart, stores to no byte of the lock
-- word, and what it touches has its bit
pub record IsCoveredStep (shown : FlatState) (h word : ℕ) (cache : List (List Way)) : Type 0 where
  pub goes_on : calls_or_stops shown h ≡ false
  pub unmixed : stores_to_word shown h word ≡ false
  pub bit : HasItsBit cache (next_touch shown h)

-- the private run of an armed section: an LR of its word, on a line with the read bit, and behind it instructions that
-- touch no memory, are no SC and neither call nor stop their hart
pub record IsArmedRun (committed : FlatState) (h : ℕ) (cache : List (List Way)) (armed : Armed) : Type 0 where
  -- at least the LR has run
  pub some : 1 ≤ armed.count
  pub reserve : next_reserved committed h ≡ Some armed.word
  pub read : read_bit cache (line_number armed.word) ≡ true
  -- the hart runs before each of the instructions, and after the last one
  pub running : (n : ℕ) → n ≤ armed.count → status_of (alone committed h n) h ≡ Running
  pub quiet : (n : ℕ) → 1 ≤ n → n < armed.count → is_quiet (alone committed h n) h ≡ true

-- a section acquires a word by an exchange, behind so many instructions: a swap that comes next, or an
-- SC behind an armed section's run
abbrev pub IsAcquire : FlatState → ℕ → List (List Way) → ℕ → Swap → Type 0
IsAcquire committed h cache zero swap = next_swap committed h ≡ Some swap
IsAcquire committed h cache (suc n) swap =
    IsArmedRun committed h cache (record { count = suc n; word = swap.word })
    × (next_conditional (alone committed h (suc n)) h ≡ Some swap)

-- the private run of a section is covered by the bits of its hart's cache
pub record IsCoveredRun (committed : FlatState) (h : ℕ) (cache : List (List Way)) (section : Section) : Type 0 where
  -- how many instructions come before the acquire, which at least has run
  pub before : ℕ
  pub some : before < section.count
  -- the acquire finds the old value in the lock word, as it is committed now, and would store the new one
  pub acquire : IsAcquire committed h cache before
      (record { word = section.word; old = section.old; new = section.new })
  -- the line of the lock word has the read bit
  pub read : read_bit cache (line_number section.word) ≡ true
  -- the hart runs before each of the instructions, and after the last one
  pub running : (n : ℕ) → n ≤ section.count → status_of (alone committed h n) h ≡ Running
  -- each instruction after the acquire is covered
  pub inside : (n : ℕ) → before < n → n < section.count → IsCoveredStep (alone committed h n) h section.word cache

-- what is committed has changed beside a hart: nothing on a line with one of its bits, and of its
-- view nothing but the reservation
pub record IsChangeBeside (h : ℕ) (cache : List (List Way)) (old new : FlatState) : Type 0 where
  pub base : new.base ≡ old.base
  pub code : new.code ≡ old.code
  pub size : length new.bytes ≡ length old.bytes
  pub harts : length new.harts ≡ length old.harts
  pub view : view_of new h ≡ record (view_of old h) { reserved = (view_of new h).reserved }
  pub bytes : (place : ℕ) → has_bit cache (line_number (old.base + place)) ≡ true →
      slice_index new.bytes place ≡ slice_index old.bytes place

-- memory is as it was
pub record KeepsMemory (old new : FlatState) : Type 0 where
  pub base : new.base ≡ old.base
  pub bytes : new.bytes ≡ old.bytes

-- memory, code, output and how many harts there are, as they were
pub record KeepsAllButViews (old new : FlatState) : Type 0 where
  pub shape : KeepsShape old new
  pub bytes : new.bytes ≡ old.bytes
  pub output : new.output ≡ old.output

-- and the view of each hart but one, with its reservation
pub record KeepsAllButAView (h : ℕ) (old new : FlatState) : Type 0 where
  pub rest : KeepsAllButViews old new
  pub others : (g : ℕ) → g ≢ h → view_of new g ≡ view_of old g

-- so many steps of a hart alone show the same from two committed states: the same view, and each byte that is the same
-- in both committed states the same
pub record ShowsTheSame (h count : ℕ) (old new : FlatState) : Type 0 where
  pub view : view_of (alone new h count) h ≡ view_of (alone old h count) h
  pub bytes : (place : ℕ) → slice_index new.bytes place ≡ slice_index old.bytes place →
      slice_index (alone new h count).bytes place ≡ slice_index (alone old h count).bytes place

-- an address is of no byte of a word
abbrev pub IsOutsideWord : ℕ → ℕ → Type 0
IsOutsideWord word address = word ≤ address → address < word + 4 → ⊥

-- what a section shows of memory: its new value in the lock word; and what is committed, outside of that word and
-- of the lines with its write bit
pub record ShowsItsOwn (committed : FlatState) (h : ℕ) (cache : List (List Way)) (section : Section) : Type 0 where
  pub lock : loaded (byte_in committed.base (alone committed h section.count).bytes) section.word 4
      ≡ section.new % 2 ^ 32
  pub others : (place : ℕ) → write_bit cache (line_number (committed.base + place)) ≡ false →
      IsOutsideWord section.word (committed.base + place) →
      slice_index (alone committed h section.count).bytes place ≡ slice_index committed.bytes place
