-- The losers of an event.
use Rattle.std.specs.Prelude.{ℕ, ◌≤◌, List, [], ◌∷◌, Option, None, Some, if◌then◌else◌, nat_lt, slice_index, map, min}
use Rattle.std.proofs.Common.{arith, lit≤, zero, suc}
use Rattle.std.proofs.lemmas.Bool.Decides.{nat_tests}
use Rattle.el_base.specs.NibblePairs.{pairs_within}
use Rattle.el_base.specs.Nibbles.{first_eight, nibble_of, nibbles_to}
use Rattle.el_base.specs.declared.hart_id.TheConstants.{MAX_HARTS}
use Rattle.el_base.specs.declared.losers.Losers.{Losers}

-- the winner that a number stands for: nobody, or the hart of the number before it
abbrev pub decoded_winner : ℕ → Option ℕ
decoded_winner zero = None
decoded_winner (suc winner) = Some winner

-- the number of the hart that this hart lost to, if it lost
abbrev pub beaten_by : Losers → ℕ → Option ℕ
beaten_by losers h = decoded_winner (nibble_of losers.winners h)

-- the number that stands for a winner; for what no hart is, that of nobody
abbrev pub winner_code : Option ℕ → ℕ
winner_code None = 0
winner_code (Some winner) = if nat_lt winner MAX_HARTS then suc winner else 0

code_small : (winner : Option ℕ) → min (winner_code winner) 15 ≤ MAX_HARTS
code_small None = lit≤ tt
code_small (Some winner) = grind (arith, nat_tests)

pub codes_small : (winners : List (Option ℕ)) (h : ℕ) →
    min (slice_index (map winner_code winners) h) 15 ≤ MAX_HARTS
codes_small [] h = lit≤ tt
codes_small (winner ∷ winners) zero = code_small winner
codes_small (winner ∷ winners) (suc h) = codes_small winners h

-- the losers of whom the first eight of a list say whom they lost to
abbrev pub losers_to : List (Option ℕ) → Losers
losers_to winners = record {
  winners = nibbles_to (map winner_code winners);
  winners_are_harts = pairs_within MAX_HARTS (slice_index (map winner_code winners)) (codes_small winners);
}

-- the losers of whom each hart lost to the hart that the map gives for it
abbrev pub losers_of : (ℕ → Option ℕ) → Losers
losers_of winner = losers_to (first_eight winner)
