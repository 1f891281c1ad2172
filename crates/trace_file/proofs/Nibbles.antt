-- Four bits a hart: what bytes say of losers and freed harts, and the bytes that say it.
use Rattle.std.proofs.Common.{◌≡◌, ℕ, zero, suc, ◌/◌, ◌%◌, ◌≤◌, ◌<◌, ◌==◌, ◌&&◌, Bool, true, false, List, [], ◌∷◌, ◌++◌}
use Rattle.std.proofs.Common.{get_or, Option, Some, None}
use Rattle.std.proofs.Common.{refl, sym, ap, ◌∙◌, min, arith}
use Rattle.std.specs.Prelude.{IfSome, IsTrue, if◌then◌else◌, nat_lt, nat_le}
use Rattle.std.proofs.lemmas.Bool.{and_parts, and_right, and_left, and_from}
use Rattle.std.proofs.lemmas.Bool.{le-leb, leb-true, ltb-true, ltb-false, lt-ltb}
use Rattle.std.proofs.lemmas.Bool.Decides.{nat_tests}
use Rattle.std.proofs.lemmas.List.{get_or_append_left}
use Rattle.el_base.specs.Freed.{count_in, freed_of}
use Rattle.el_base.specs.Losers.{beaten_by, decoded_winner, losers_of, winner_code}
use Rattle.el_base.specs.NibblePairs.{nibble_in, nibble_in-pairs_of, pair_of, pairs_of}
use Rattle.el_base.specs.Recordable.{AreFreedAmong, AreLosersAmong}
use Rattle.el_base.specs.declared.freed.Freed.{Freed}
use Rattle.el_base.specs.declared.losers.Losers.{Losers}
use Rattle.el_base.proofs.Laws.MadeLosers.{beaten_by-beyond, beaten_by-losers_of, count_in-beyond, count_in-freed_of}
use Rattle.el_base.proofs.Laws.MadeLosers.{named_by_map, winner_below}
use Rattle.el_base.proofs.Laws.MadeLosers.{decoded-winner_code}
use Rattle.el_base.proofs.Laws.SameLosers.{same_freed, same_losers}
use Rattle.trace_file.specs.Fields.{all_below, are_nibbles, is_nibble, most_for}
use Rattle.trace_file.specs.Outcomes.{freed_bytes, losers_bytes}
use Rattle.trace_file.specs.Reading.{freed_in, losers_in}

-- ---- tests of each number below one

last_or_lower : (n : ℕ) (test : ℕ → Bool) (h : ℕ) (last : Bool) → (n == h) ≡ last → h < suc n → test n ≡ true →
    (h < n → test h ≡ true) → test h ≡ true
last_or_lower n test h true is low passes lower =
    let same : n ≡ h = grind (arith, nat_tests) in
    ap test (sym same) ∙ passes
last_or_lower n test h false other low passes lower =
    let below : h < n = grind (arith, nat_tests) in
    lower below

pub each_below : (n : ℕ) (test : ℕ → Bool) (h : ℕ) → all_below n test ≡ true → h < n → test h ≡ true
each_below zero test h all low = absurd (omega arith)
each_below (suc n) test h all low =
    last_or_lower n test h (n == h) refl low (and_parts (all_below n test) (test n) all).1
    (each_below n test h (and_parts (all_below n test) (test n) all).0)

pub all_from_each : (n : ℕ) (test : ℕ → Bool) → ((h : ℕ) → h < n → test h ≡ true) → all_below n test ≡ true
all_from_each zero test each = refl
all_from_each (suc n) test each =
    and_from (all_below n test) (test n) (all_from_each n test (λ h low. each h (omega arith))) (each n (omega arith))

last_or_lower_fails : (n : ℕ) (test : ℕ → Bool) (h : ℕ) (last : Bool) → (n == h) ≡ last → h < suc n → test h ≡ false →
    (h < n → all_below n test ≡ false) → (all_below n test && test n) ≡ false
last_or_lower_fails n test h true is low fails lower =
    let same : n ≡ h = grind (arith, nat_tests) in
    and_right (all_below n test) (test n) (ap test same ∙ fails)
last_or_lower_fails n test h false other low fails lower =
    let below : h < n = grind (arith, nat_tests) in
    and_left (all_below n test) (test n) (lower below)

pub one_fails : (n : ℕ) (test : ℕ → Bool) (h : ℕ) → h < n → test h ≡ false → all_below n test ≡ false
one_fails zero test h low fails = absurd (omega arith)
one_fails (suc n) test h low fails =
    last_or_lower_fails n test h (n == h) refl low fails (λ lower. one_fails n test h lower fails)

not_le : (a b : ℕ) → b < a → nat_le a b ≡ false
not_le a b great = grind (arith, nat_tests)

-- what is known of the most that a hart may have
chosen_most : (inside : Bool) (most : ℕ) → (if inside then most else 0) ≤ most
chosen_most true most = omega arith
chosen_most false most = omega arith

pub most_small : (harts most h : ℕ) → most_for harts most h ≤ most
most_small harts most h = chosen_most (nat_lt h harts) most

some_inside : (inside : Bool) (harts most h : ℕ) → nat_lt h harts ≡ inside →
    1 ≤ (if inside then most else 0) → h < harts
some_inside true harts most h is some = ltb-true h harts is
some_inside false harts most h is some = absurd (omega arith)

pub most_inside : (harts most h : ℕ) → h < harts → most_for harts most h ≡ most
most_inside harts most h inside = rw (lt-ltb h harts inside) refl

pub nibbles_known : (harts most : ℕ) (bytes : List ℕ) → are_nibbles harts most bytes ≡ true → (h : ℕ) → h < 8 →
    nibble_in bytes h ≤ most_for harts most h
unfolding are_nibbles
nibbles_known harts most bytes passes h low =
    leb-true (nibble_in bytes h) (most_for harts most h) (each_below 8 (is_nibble harts most bytes) h passes low)

pub counts_small : (harts : ℕ) (bytes : List ℕ) → IsTrue (are_nibbles harts 15 bytes) → (h : ℕ) → h < 8 →
    nibble_in bytes h ≤ 15
counts_small harts bytes passes h low =
    omega (arith, nibbles_known harts 15 bytes passes h low, most_small harts 15 h)

pub nibbles_pass : (harts most : ℕ) (bytes : List ℕ) → ((h : ℕ) → h < 8 → nibble_in bytes h ≤ most_for harts most h) →
    true ≡ are_nibbles harts most bytes
unfolding are_nibbles
nibbles_pass harts most bytes small =
    sym (all_from_each 8 (is_nibble harts most bytes)
    (λ h low. le-leb (nibble_in bytes h) (most_for harts most h) (small h low)))

pub nibbles_small : (harts : ℕ) (bytes : List ℕ) → harts ≤ 8 → IsTrue (are_nibbles harts harts bytes) → (h : ℕ) →
    h < 8 → nibble_in bytes h ≤ 8
nibbles_small harts bytes few passes h low =
    omega (arith, nibbles_known harts harts bytes passes h low, most_small harts harts h)

pub nibbles_fail : (harts most : ℕ) (bytes : List ℕ) (h : ℕ) → h < 8 → most_for harts most h < nibble_in bytes h →
    false ≡ are_nibbles harts most bytes
unfolding are_nibbles
nibbles_fail harts most bytes h low great =
    sym (one_fails 8 (is_nibble harts most bytes) h low (not_le (nibble_in bytes h) (most_for harts most h) great))

-- ---- a byte is its two halves

halves_again : (b : ℕ) → b < 256 → pair_of (b % 16) (b / 16) ≡ b
halves_again b small =
    let low : min (b % 16) 15 ≡ b % 16 = omega arith in
    let high : min (b / 16) 15 ≡ b / 16 = omega arith in
    rw (low, high) (omega arith)

pairs_alike : (f g : ℕ → ℕ) → ((h : ℕ) → h < 8 → f h ≡ g h) → pairs_of f ≡ pairs_of g
pairs_alike f g alike =
    let e0 = alike 0 (omega arith) in
    let e1 = alike 1 (omega arith) in
    let e2 = alike 2 (omega arith) in
    let e3 = alike 3 (omega arith) in
    let e4 = alike 4 (omega arith) in
    let e5 = alike 5 (omega arith) in
    let e6 = alike 6 (omega arith) in
    let e7 = alike 7 (omega arith) in
    rw (e0, e1, e2, e3, e4, e5, e6, e7) refl

-- four bytes are those of their halves
pub pairs_again : (bytes : List ℕ) → ((i : ℕ) → get_or bytes i 0 < 256) →
    pairs_of (nibble_in bytes) ≡ get_or bytes 0 0 ∷ get_or bytes 1 0 ∷ get_or bytes 2 0 ∷ get_or bytes 3 0 ∷ []
pairs_again bytes fits =
    let e0 = halves_again (get_or bytes 0 0) (fits 0) in
    let e1 = halves_again (get_or bytes 1 0) (fits 1) in
    let e2 = halves_again (get_or bytes 2 0) (fits 2) in
    let e3 = halves_again (get_or bytes 3 0) (fits 3) in
    ap (λ (x : ℕ). x ∷ pair_of (get_or bytes 1 0 % 16) (get_or bytes 1 0 / 16) ∷ pair_of (get_or bytes 2 0 % 16)
    (get_or bytes 2 0 / 16)
    ∷ pair_of (get_or bytes 3 0 % 16) (get_or bytes 3 0 / 16) ∷ []) e0
    ∙ ap (λ (x : ℕ). get_or bytes 0 0 ∷ x ∷ pair_of (get_or bytes 2 0 % 16) (get_or bytes 2 0 / 16)
    ∷ pair_of (get_or bytes 3 0 % 16) (get_or bytes 3 0 / 16) ∷ []) e1
    ∙ ap (λ (x : ℕ). get_or bytes 0 0 ∷ get_or bytes 1 0 ∷ x ∷ pair_of (get_or bytes 3 0 % 16)
    (get_or bytes 3 0 / 16) ∷ []) e2
    ∙ ap (λ (x : ℕ). get_or bytes 0 0 ∷ get_or bytes 1 0 ∷ get_or bytes 2 0 ∷ x ∷ []) e3

chosen_front : (even : Bool) (x y : ℕ) → x ≡ y → (if even then x % 16 else x / 16) ≡ (if even then y % 16 else y / 16)
chosen_front even x y same = rw same refl

-- the first eight stand in four bytes, whatever follows them
pub nibble_in_front : (number : ℕ → ℕ) (rest : List ℕ) (h : ℕ) → h < 8 →
    nibble_in (pairs_of number ++ rest) h ≡ min (number h) 15
nibble_in_front number rest h low =
    chosen_front (h % 2 == 0) (get_or (pairs_of number ++ rest) (h / 2) 0) (get_or (pairs_of number) (h / 2) 0)
    (get_or_append_left (pairs_of number) rest 0 (h / 2) (omega arith))
    ∙ nibble_in-pairs_of number h low

-- ---- losers

code_of_decoded : (n : ℕ) → n ≤ 8 → winner_code (decoded_winner n) ≡ n
code_of_decoded zero small = refl
code_of_decoded (suc n) small = grind (arith, nat_tests)

small_decoded : (n : ℕ) → n ≤ 8 → IfSome (decoded_winner n) (λ w. w < 8)
small_decoded zero small = tt
small_decoded (suc n) small = omega arith

abbrev winners_in : List ℕ → ℕ → Option ℕ
winners_in bytes h = decoded_winner (nibble_in bytes h)

-- losers who lost to whom the bytes say are those of the bytes
pub losers_are : (losers : Losers) (bytes : List ℕ) → ((h : ℕ) → h < 8 → nibble_in bytes h ≤ 8) →
    ((h : ℕ) → h < 8 → beaten_by losers h ≡ winners_in bytes h) → losers ≡ losers_in bytes
unfolding losers_in
losers_are losers bytes small alike = same_losers losers (losers_of (winners_in bytes)) (λ h. by h (nat_lt h 8) refl)
  where
    by : (h : ℕ) (inside : Bool) → nat_lt h 8 ≡ inside → beaten_by losers h ≡ beaten_by (losers_of (winners_in bytes)) h
    by h true inside =
        let low = ltb-true h 8 inside in
        alike h low
        ∙ sym (beaten_by-losers_of (winners_in bytes) h low (small_decoded (nibble_in bytes h) (small h low)))
    by h false past =
        let beyond = ltb-false h 8 past in
        beaten_by-beyond losers h beyond ∙ sym (beaten_by-beyond (losers_of (winners_in bytes)) h beyond)

pub losers_spelled : (bytes : List ℕ) → ((i : ℕ) → get_or bytes i 0 < 256) → ((h : ℕ) → h < 8 → nibble_in bytes h ≤ 8) →
    losers_bytes (losers_in bytes) ≡ get_or bytes 0 0 ∷ get_or bytes 1 0 ∷ get_or bytes 2 0 ∷ get_or bytes 3 0 ∷ []
unfolding losers_in
losers_spelled bytes fits small =
    pairs_alike (λ h. winner_code (beaten_by (losers_of (winners_in bytes)) h)) (nibble_in bytes)
    (λ h low.
    ap winner_code (beaten_by-losers_of (winners_in bytes) h low (small_decoded (nibble_in bytes h) (small h low)))
    ∙ code_of_decoded (nibble_in bytes h) (small h low))
    ∙ pairs_again bytes fits

code_named : (n w : ℕ) → decoded_winner n ≡ Some w → n ≡ suc w
code_named zero w is = absurd (cc)
code_named (suc n) w is = let same : n ≡ w = cc in ap suc same

pub losers_below : (harts : ℕ) (bytes : List ℕ) → are_nibbles harts harts bytes ≡ true →
    AreLosersAmong harts (losers_in bytes)
unfolding losers_in
losers_below harts bytes passes h winner is = by (nat_lt h 8) refl
  where
    by : (inside : Bool) → nat_lt h 8 ≡ inside → (h < harts) × (winner < harts)
    by true inside =
        let known = nibbles_known harts harts bytes passes h (ltb-true h 8 inside) in
        let named = code_named (nibble_in bytes h) winner (named_by_map (winners_in bytes) h winner is) in
        let most = most_small harts harts h in (
          some_inside (nat_lt h harts) harts harts h refl (omega (arith, known, named)),
          omega (arith, known, named, most),
        )
    by false past =
        let none = beaten_by-beyond (losers_of (winners_in bytes)) h (ltb-false h 8 past) in
        absurd (cc)

abbrev codes_of : Losers → ℕ → ℕ
codes_of losers h = winner_code (beaten_by losers h)

pub losers_again : (losers : Losers) (rest : List ℕ) → losers_in (losers_bytes losers ++ rest) ≡ losers
losers_again losers rest =
    sym (losers_are losers (losers_bytes losers ++ rest) small alike)
  where
    known : (winner : Option ℕ) (h : ℕ) → beaten_by losers h ≡ winner → IfSome winner (λ w. w < 8)
    known None h is = tt
    known (Some w) h is = winner_below losers h w is

    code_small : (winner : Option ℕ) → IfSome winner (λ w. w < 8) → min (winner_code winner) 15 ≤ 8
    code_small None low = omega arith
    code_small (Some w) low = grind (arith, nat_tests)

    small : (h : ℕ) → h < 8 → nibble_in (losers_bytes losers ++ rest) h ≤ 8
    small h low =
        rw (nibble_in_front (codes_of losers) rest h low)
        (code_small (beaten_by losers h) (known (beaten_by losers h) h refl))

    alike : (h : ℕ) → h < 8 → beaten_by losers h ≡ winners_in (losers_bytes losers ++ rest) h
    alike h low =
        sym (ap decoded_winner (nibble_in_front (codes_of losers) rest h low)
        ∙ decoded-winner_code (beaten_by losers h) (known (beaten_by losers h) h refl))

pub losers_pass : (harts : ℕ) (losers : Losers) (rest : List ℕ) → harts ≤ 8 → AreLosersAmong harts losers →
    are_nibbles harts harts (losers_bytes losers ++ rest) ≡ true
losers_pass harts losers rest few below =
    sym (nibbles_pass harts harts (losers_bytes losers ++ rest)
    (λ h low. rw (nibble_in_front (codes_of losers) rest h low) (by h (beaten_by losers h) refl)))
  where
    by : (h : ℕ) (winner : Option ℕ) → beaten_by losers h ≡ winner →
        min (winner_code winner) 15 ≤ most_for harts harts h
    by h None is = omega arith
    by h (Some w) is =
        let named = below h w is in
        rw (most_inside harts harts h named.0) (grind (arith, nat_tests))

-- ---- freed harts

-- freed harts with the counts that the bytes say are those of the bytes
pub freed_are : (freed : Freed) (bytes : List ℕ) → ((h : ℕ) → h < 8 → nibble_in bytes h ≤ 15) →
    ((h : ℕ) → h < 8 → count_in freed h ≡ nibble_in bytes h) → freed ≡ freed_in bytes
unfolding freed_in
freed_are freed bytes small alike = same_freed freed (freed_of (nibble_in bytes)) (λ h. by h (nat_lt h 8) refl)
  where
    by : (h : ℕ) (inside : Bool) → nat_lt h 8 ≡ inside → count_in freed h ≡ count_in (freed_of (nibble_in bytes)) h
    by h true inside =
        let low = ltb-true h 8 inside in
        alike h low ∙ sym (count_in-freed_of (nibble_in bytes) h low (small h low))
    by h false past =
        let beyond = ltb-false h 8 past in
        count_in-beyond freed h beyond ∙ sym (count_in-beyond (freed_of (nibble_in bytes)) h beyond)

pub freed_spelled : (bytes : List ℕ) → ((i : ℕ) → get_or bytes i 0 < 256) → ((h : ℕ) → h < 8 → nibble_in bytes h ≤ 15) →
    freed_bytes (freed_in bytes) ≡ get_or bytes 0 0 ∷ get_or bytes 1 0 ∷ get_or bytes 2 0 ∷ get_or bytes 3 0 ∷ []
unfolding freed_in
freed_spelled bytes fits small =
    pairs_alike (count_in (freed_of (nibble_in bytes))) (nibble_in bytes)
    (λ h low. count_in-freed_of (nibble_in bytes) h low (small h low))
    ∙ pairs_again bytes fits

pub freed_below : (harts : ℕ) (bytes : List ℕ) → are_nibbles harts 15 bytes ≡ true →
    AreFreedAmong harts (freed_in bytes)
unfolding freed_in
freed_below harts bytes passes h over = by (nat_lt h 8) refl (nat_lt h harts) refl
  where
    none : (inside : Bool) → nat_lt h harts ≡ inside → ◌≡◌ {A = ℕ} (if inside then 15 else 0) 0
    none true is = let low = ltb-true h harts is in absurd (omega (arith, low, over))
    none false is = refl

    by : (inside : Bool) → nat_lt h 8 ≡ inside → (hart : Bool) → nat_lt h harts ≡ hart →
        count_in (freed_of (nibble_in bytes)) h ≡ 0
    by true inside hart is =
        let low = ltb-true h 8 inside in
        let known = nibbles_known harts 15 bytes passes h low in
        let zero-most : most_for harts 15 h ≡ 0 = none (nat_lt h harts) refl in
        let nothing : nibble_in bytes h ≡ 0 = omega (arith, known, zero-most) in
        count_in-freed_of (nibble_in bytes) h low (omega (arith, nothing)) ∙ nothing
    by false past hart is = count_in-beyond (freed_of (nibble_in bytes)) h (ltb-false h 8 past)

pub freed_again : (freed : Freed) (rest : List ℕ) → freed_in (freed_bytes freed ++ rest) ≡ freed
freed_again freed rest = sym (freed_are freed (freed_bytes freed ++ rest) small alike)
  where
    fits : (h : ℕ) → count_in freed h ≤ 15
    fits h = freed.counts.each_fits h

    small : (h : ℕ) → h < 8 → nibble_in (freed_bytes freed ++ rest) h ≤ 15
    small h low = rw (nibble_in_front (count_in freed) rest h low) (omega arith)

    alike : (h : ℕ) → h < 8 → count_in freed h ≡ nibble_in (freed_bytes freed ++ rest) h
    alike h low = sym (nibble_in_front (count_in freed) rest h low ∙ omega (arith, fits h))

pub freed_pass : (harts : ℕ) (freed : Freed) (rest : List ℕ) → AreFreedAmong harts freed →
    are_nibbles harts 15 (freed_bytes freed ++ rest) ≡ true
freed_pass harts freed rest below =
    sym (nibbles_pass harts 15 (freed_bytes freed ++ rest)
    (λ h low. rw (nibble_in_front (count_in freed) rest h low) (by h (nat_lt h harts) refl)))
  where
    by : (h : ℕ) (inside : Bool) → nat_lt h harts ≡ inside → min (count_in freed h) 15 ≤ (if inside then 15 else 0)
    by h true is = omega arith
    by h false is = let nothing = below h (ltb-false h harts is) in omega (arith, nothing)
