-- sections whose acquire gives a lock back in place of taking it
use Rattle.std.specs.Prelude.{ℕ, ◌≡◌, ◌≤◌, ◌==◌, ◌&&◌, Bool, false, not, nat_eq, nat_lt, List, take, take_while, filter}
use Rattle.std.specs.Prelude.{fold, Option, None, Some}
use Rattle.std.specs.Prelude.{if◌then◌else◌}
use Rattle.std.specs.HashMap.{get}
use Rattle.std.specs.List.{prefix_len}
use Rattle.chronicle.specs.Tally.{plus}
use Rattle.lab.specs.Locks.{tally_at}
use Rattle.lab.specs.declared.releases.LastSwaps.{LastSwaps}
use Rattle.lab.specs.declared.swaps.PlainSwap.{PlainSwap}
use Rattle.lab.specs.declared.tries.Acquire.{Acquire}
use Rattle.lab.specs.declared.tries.Try.{Try}

-- the last of these swaps on a word
abbrev pub newer_on : ℕ → Option PlainSwap → PlainSwap → Option PlainSwap
newer_on word last swap = if swap.acquire.word == word then Some swap else last

abbrev pub last_on : ℕ → List PlainSwap → Option PlainSwap
last_on word swaps = fold (newer_on word) None swaps

-- of swaps in the order of their places, those before a place
abbrev pub is_before : ℕ → PlainSwap → Bool
is_before place swap = nat_lt swap.place place

abbrev pub swaps_before : ℕ → List PlainSwap → List PlainSwap
swaps_before place swaps = take_while (is_before place) swaps

-- whether this swap is one of the section's own hart that put there, in place of another value, what the section found
abbrev pub put_there : Try → Option PlainSwap → Bool
put_there try None = false
put_there try (Some swap) = (swap.hart.number == try.hart.number) && (swap.new == try.old) && not (swap.old == swap.new)

-- a section gives its lock back where the last swap on its word that ran before it did so
abbrev pub is_release : List PlainSwap → Try → Bool
is_release swaps try = put_there try (last_on try.acquire.word (swaps_before try.first swaps))

abbrev pub releases_of : List PlainSwap → List Try → List Try
releases_of swaps tries = filter (is_release swaps) tries

-- the others take it
abbrev pub takes_of : List PlainSwap → List Try → List Try
takes_of swaps tries = filter (λ try. not (is_release swaps try)) tries

-- of each acquire the rows of both parts sum to that of all sections
abbrev pub PartsSumToAll : Type 0
PartsSumToAll =
    (swaps : List PlainSwap) (tries : List Try) (acquire : Acquire) →
    plus (tally_at acquire (takes_of swaps tries)) (tally_at acquire (releases_of swaps tries)) ≡ tally_at acquire tries

-- the last swap on each word, of so many first ones of a list, each of them before a place
pub record AreLast (swaps : List PlainSwap) (last : LastSwaps) : Type 0 where
  pub within : last.seen ≤ prefix_len (is_before last.reached) swaps
  pub each : (word : ℕ) → get nat_eq last.on word ≡ last_on word (take last.seen swaps)
