-- What losers and freed harts that are made of a map say.
use Rattle.std.proofs.Common.{◌≡◌, ℕ, ◌≤◌, ◌<◌, Option, Some, None, get_or, refl, arith, ap, ◌∙◌, min, zero, suc, Bool}
use Rattle.std.proofs.Common.{true, false, sym}
use Rattle.std.specs.Prelude.{IfSome, if◌then◌else◌, nat_lt, slice_index}
use Rattle.std.proofs.lemmas.Bool.{ltb-true, ltb-false}
use Rattle.std.proofs.lemmas.Bool.Decides.{nat_tests}
use Rattle.el_base.specs.Freed.{count_in, freed_of, no_one_freed}
use Rattle.el_base.specs.Losers.{beaten_by, decoded_winner, losers_of, losers_to, winner_code}
use Rattle.el_base.specs.NibblePairs.{nibble_in-pairs_of, past_the_pairs}
use Rattle.el_base.specs.Nibbles.{first_eight, nibble_of, nibbles_to}
use Rattle.el_base.specs.declared.freed.Freed.{Freed}
use Rattle.el_base.specs.declared.losers.Losers.{Losers}

-- no hart beyond the last has lost
pub beaten_by-beyond : (losers : Losers) (h : ℕ) → 8 ≤ h → beaten_by losers h ≡ None
beaten_by-beyond losers h beyond =
    ap decoded_winner (past_the_pairs losers.winners.pairs h losers.winners.one_byte_for_two beyond)

-- a code is read as the winner that it stands for
pub decoded-winner_code : (winner : Option ℕ) → IfSome winner (λ w. w < 8) →
    decoded_winner (min (winner_code winner) 15) ≡ winner
decoded-winner_code None known = refl
decoded-winner_code (Some winner) known = grind (arith, nat_tests)

-- a hart below 8 is in its place in the list
at_its_place : {A : Type 0} (map : ℕ → A) (d : A) (h : ℕ) → h < 8 → get_or (first_eight map) h d ≡ map h
at_its_place map d zero low = refl
at_its_place map d (suc zero) low = refl
at_its_place map d (suc (suc zero)) low = refl
at_its_place map d (suc (suc (suc zero))) low = refl
at_its_place map d (suc (suc (suc (suc zero)))) low = refl
at_its_place map d (suc (suc (suc (suc (suc zero))))) low = refl
at_its_place map d (suc (suc (suc (suc (suc (suc zero)))))) low = refl
at_its_place map d (suc (suc (suc (suc (suc (suc (suc zero))))))) low = refl
at_its_place map d (suc (suc (suc (suc (suc (suc (suc (suc h)))))))) low = absurd (omega arith)

-- a hart below 8 has the number that the map gives for it, cut at 15
nibble_of-first_eight : (number : ℕ → ℕ) (h : ℕ) → h < 8 →
    nibble_of (nibbles_to (first_eight number)) h ≡ min (number h) 15
nibble_of-first_eight number h low =
    nibble_in-pairs_of (slice_index (first_eight number)) h low
    ∙ ap (λ (n : ℕ). min n 15) (at_its_place number 0 h low)

-- a hart below 8 lost to the hart that the map gives for it, if it gives one
pub beaten_by-losers_of : (winner : ℕ → Option ℕ) (h : ℕ) → h < 8 → IfSome (winner h) (λ w. w < 8) →
    beaten_by (losers_of winner) h ≡ winner h
beaten_by-losers_of winner h low known =
    ap decoded_winner (nibble_of-first_eight (λ g. winner_code (winner g)) h low) ∙ decoded-winner_code (winner h) known

-- a code is read as nothing else
decoded_as : (winner : Option ℕ) (w : ℕ) → decoded_winner (min (winner_code winner) 15) ≡ Some w → winner ≡ Some w
decoded_as None w is = absurd (cc)
decoded_as (Some winner) w is = by (nat_lt winner 8) refl is
  where
    by : (below : Bool) → nat_lt winner 8 ≡ below → decoded_winner (min (if below then suc winner else 0) 15) ≡ Some w →
        Some winner ≡ Some w
    by true below is =
        let small = ltb-true winner 8 below in
        let kept : min (suc winner) 15 ≡ suc winner = omega (arith, small) in
        sym (ap decoded_winner kept) ∙ is
    by false past is = absurd (cc)

-- a hart that lost by losers which are made of a map lost to the hart that the map gives for it
pub named_by_map : (winner : ℕ → Option ℕ) (h w : ℕ) → beaten_by (losers_of winner) h ≡ Some w → winner h ≡ Some w
named_by_map winner h w is = by (nat_lt h 8) refl
  where
    by : (inside : Bool) → nat_lt h 8 ≡ inside → winner h ≡ Some w
    by true inside =
        let low = ltb-true h 8 inside in
        decoded_as (winner h) w
        (sym (ap decoded_winner (nibble_of-first_eight (λ g. winner_code (winner g)) h low)) ∙ is)
    by false past =
        let none = beaten_by-beyond (losers_of winner) h (ltb-false h 8 past) in
        absurd (cc)

-- and where the map gives none, it has not lost
pub unnamed_by_map : (winner : ℕ → Option ℕ) (h : ℕ) → winner h ≡ None → beaten_by (losers_of winner) h ≡ None
unnamed_by_map winner h none = by (beaten_by (losers_of winner) h) refl
  where
    by : (lost : Option ℕ) → beaten_by (losers_of winner) h ≡ lost → lost ≡ None
    by None is = refl
    by (Some w) is =
        let named = named_by_map winner h w is in
        absurd (cc)

decoded_small : (n w : ℕ) → n ≤ 8 → decoded_winner n ≡ Some w → w < 8
decoded_small zero w small is = absurd (cc)
decoded_small (suc n) w small is = let same : n ≡ w = cc in omega (arith, small, same)

-- a winner is one of the harts that a machine may have
pub winner_below : (losers : Losers) (h w : ℕ) → beaten_by losers h ≡ Some w → w < 8
winner_below losers h w is = decoded_small (nibble_of losers.winners h) w (losers.winners_are_harts h) is

-- losers that are made of maps which agree on harts 0 to 7 are one value
pub losers_of-alike : (f g : ℕ → Option ℕ) → first_eight f ≡ first_eight g → losers_of f ≡ losers_of g
losers_of-alike f g alike = ap losers_to alike

-- no hart beyond the last was freed
pub count_in-beyond : (freed : Freed) (h : ℕ) → 8 ≤ h → count_in freed h ≡ 0
count_in-beyond freed h beyond = past_the_pairs freed.counts.pairs h freed.counts.one_byte_for_two beyond

-- a hart below 8 was freed with the number that the map gives for it
pub count_in-freed_of : (count : ℕ → ℕ) (h : ℕ) → h < 8 → count h ≤ 15 → count_in (freed_of count) h ≡ count h
count_in-freed_of count h low small = nibble_of-first_eight count h low ∙ omega (arith, small)

-- no hart is among nobody
pub none_in_no_one : (h : ℕ) → count_in no_one_freed h ≡ 0
none_in_no_one h = by (nat_lt h 8) refl
  where
    by : (inside : Bool) → nat_lt h 8 ≡ inside → count_in no_one_freed h ≡ 0
    by true inside = count_in-freed_of (λ g. 0) h (ltb-true h 8 inside) (omega arith)
    by false past = count_in-beyond no_one_freed h (ltb-false h 8 past)
