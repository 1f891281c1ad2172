-- the sections of each acquire, counted
use Rattle.std.specs.Prelude.{ℕ, ◌≡◌, ◌==◌, ◌&&◌, ◌++◌, ◌∷◌, [], All, Bool, true, List, map, nat_eq, sum_by}
use Rattle.std.specs.Prelude.{if◌then◌else◌}
use Rattle.std.specs.HashSet.{HashSet, contains}
use Rattle.std.specs.List.{IsDistinct, list_any, range_with_len}
use Rattle.chronicle.specs.Tally.{nothing, tally_of}
use Rattle.chronicle.specs.declared.tally.Tally.{Tally}
use Rattle.el_base.specs.Config.{IsInRange}
use Rattle.el_base.specs.declared.config.Config.{Config}
use Rattle.el_base.specs.declared.entries.Entry.{Entry}
use Rattle.el_base.specs.declared.events.Event.{Event}
use Rattle.el_model.specs.Next.{entries_from}
use Rattle.el_model.specs.State.{begin}
use Rattle.elf_image.specs.Program.{Program}
use Rattle.lab.specs.Counts.{of_end}
use Rattle.lab.specs.Tries.{tries_from}
use Rattle.lab.specs.declared.swaps.PlainSwap.{PlainSwap}
use Rattle.lab.specs.declared.tries.Acquire.{Acquire}
use Rattle.lab.specs.declared.tries.Try.{Try}

abbrev pub same_acquire : Acquire → Acquire → Bool
same_acquire a b = (a.pc == b.pc) && (a.word == b.word)

-- what a section counts for in the row of an acquire, by its address and its lock word
abbrev pub of_acquire : Acquire → Try → Tally
of_acquire acquire try =
    if same_acquire try.acquire acquire then record (of_end try.ended) { began = 1 } else nothing

-- one number of the row, summed over these sections
abbrev pub total_at : (Tally → ℕ) → Acquire → List Try → ℕ
total_at number acquire tries = sum_by (λ try. number (of_acquire acquire try)) tries

-- the row
unfoldable pub tally_at : Acquire → List Try → Tally
tally_at acquire tries = record {
  ran = total_at (λ tally. tally.ran) acquire tries;
  began = total_at (λ tally. tally.began) acquire tries;
  committed = total_at (λ tally. tally.committed) acquire tries;
  instr = total_at (λ tally. tally.instr) acquire tries;
  conflict = total_at (λ tally. tally.conflict) acquire tries;
  room = total_at (λ tally. tally.room) acquire tries;
  lines = total_at (λ tally. tally.lines) acquire tries;
  long = total_at (λ tally. tally.long) acquire tries;
  call = total_at (λ tally. tally.call) acquire tries;
  mixed = total_at (λ tally. tally.mixed) acquire tries;
  missed = total_at (λ tally. tally.missed) acquire tries;
  stalled = total_at (λ tally. tally.stalled) acquire tries;
  blocked = total_at (λ tally. tally.blocked) acquire tries;
}

-- the acquires of sections, and behind them those of swaps that ran outside of sections
abbrev pub all_acquires : List Try → List PlainSwap → List Acquire
all_acquires tries swaps = map (λ try. try.acquire) tries ++ map (λ swap. swap.acquire) swaps

-- an acquire is among these exactly where a section or a swap has it
abbrev pub AreOnlyOf : List Try → List PlainSwap → List Acquire → Type 0
AreOnlyOf tries swaps acquires =
    (acquire : Acquire) → list_any (same_acquire acquire) acquires ≡ list_any (same_acquire acquire)
    (all_acquires tries swaps)

-- the acquires of some sections are among these, of which none is twice
pub record AreAcquiresOf (tries : List Try) (acquires : List Acquire) : Type 0 where
  pub once : IsDistinct same_acquire acquires
  pub each : All (λ try. list_any (same_acquire try.acquire) acquires ≡ true) tries

-- the acquires of some swaps are among these
abbrev pub AreAmong : List PlainSwap → List Acquire → Type 0
AreAmong swaps acquires = All (λ swap. list_any (same_acquire swap.acquire) acquires ≡ true) swaps

-- acquires with one more behind them, unless it is among them
abbrev pub with_acquire : Acquire → List Acquire → List Acquire
with_acquire acquire acquires = if list_any (same_acquire acquire) acquires then acquires else acquires ++ acquire ∷ []

-- whether two pairs of an address and a lock word are one
abbrev pub same_pair : ℕ × ℕ → ℕ × ℕ → Bool
same_pair a b = nat_eq a.0 b.0 && nat_eq a.1 b.1

-- a set has the address and the lock word of each of these acquires, and nothing else
abbrev pub AreSeen : {S : Type 0} → List Acquire → HashSet (ℕ × ℕ) S → Type 0
AreSeen acquires seen =
    (acquire : Acquire) → contains same_pair seen (acquire.pc, acquire.word) ≡ list_any (same_acquire acquire) acquires

-- one number, summed over all rows, and over all lines of the report
abbrev pub sum_of_rows : (Tally → ℕ) → List Acquire → List Try → ℕ
sum_of_rows number acquires tries = sum_by (λ acquire. number (tally_at acquire tries)) acquires

abbrev pub sum_of_harts : (Tally → ℕ) → List Entry → ℕ
sum_of_harts number entries = sum_by (λ hart. number (tally_of hart entries)) (range_with_len 0 8)

-- the rows of all acquires of some sections sum to what the report has for all harts
pub record SumToTheSame (tries : List Try) (acquires : List Acquire) (entries : List Entry) : Type 0 where
  pub began : sum_of_rows (λ tally. tally.began) acquires tries ≡ sum_of_harts (λ tally. tally.began) entries
  pub committed : sum_of_rows (λ tally. tally.committed) acquires tries
      ≡ sum_of_harts (λ tally. tally.committed) entries
  pub instr : sum_of_rows (λ tally. tally.instr) acquires tries ≡ sum_of_harts (λ tally. tally.instr) entries
  pub conflict : sum_of_rows (λ tally. tally.conflict) acquires tries ≡ sum_of_harts (λ tally. tally.conflict) entries
  pub room : sum_of_rows (λ tally. tally.room) acquires tries ≡ sum_of_harts (λ tally. tally.room) entries
  pub lines : sum_of_rows (λ tally. tally.lines) acquires tries ≡ sum_of_harts (λ tally. tally.lines) entries
  pub long : sum_of_rows (λ tally. tally.long) acquires tries ≡ sum_of_harts (λ tally. tally.long) entries
  pub call : sum_of_rows (λ tally. tally.call) acquires tries ≡ sum_of_harts (λ tally. tally.call) entries
  pub mixed : sum_of_rows (λ tally. tally.mixed) acquires tries ≡ sum_of_harts (λ tally. tally.mixed) entries

-- over any events from a program's start on
abbrev pub RowsSumToTheReport : Type 0
RowsSumToTheReport =
    (program : Program) (config : Config) (events : List Event) (acquires : List Acquire) →
    program.harts ≡ config.harts → IsInRange config →
    AreAcquiresOf (tries_from (begin program config) 0 events) acquires →
    SumToTheSame (tries_from (begin program config) 0 events) acquires (entries_from (begin program config) events)
