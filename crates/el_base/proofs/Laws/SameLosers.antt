-- Losers and freed harts are their maps.
use Rattle.std.proofs.Common.{◌≡◌, ℕ, ◌≤◌, ◌+◌, ◌*◌, ◌/◌, ◌%◌, List, length, get_or, refl, sym, ap, subst, zero, suc}
use Rattle.std.proofs.Common.{◌∙◌, arith}
use Rattle.std.proofs.lemmas.List.{ext_get_or}
use Rattle.std.proofs.Props.{props}
use Rattle.el_base.specs.Freed.{count_in}
use Rattle.el_base.specs.Losers.{beaten_by, decoded_winner}
use Rattle.el_base.specs.NibblePairs.{nibble_in}
use Rattle.el_base.specs.Nibbles.{nibble_of}
use Rattle.el_base.specs.declared.freed.Freed.{Freed}
use Rattle.el_base.specs.declared.losers.Losers.{Losers}
use Rattle.el_base.specs.declared.nibbles.Nibbles.{Nibbles}

-- the numbers of a pair of places are the parts of its byte
low_place : (pairs : List ℕ) (place : ℕ) → nibble_in pairs (2 * place) ≡ get_or pairs place 0 % 16
low_place pairs place =
    let even : 2 * place % 2 ≡ 0 = omega arith in
    let half : 2 * place / 2 ≡ place = omega arith in
    rw even (rw half refl)

high_place : (pairs : List ℕ) (place : ℕ) → nibble_in pairs (2 * place + 1) ≡ get_or pairs place 0 / 16
high_place pairs place =
    let odd : (2 * place + 1) % 2 ≡ 1 = omega arith in
    let half : (2 * place + 1) / 2 ≡ place = omega arith in
    rw odd (rw half refl)

same_parts : (x y : ℕ) → x % 16 ≡ y % 16 → x / 16 ≡ y / 16 → x ≡ y
same_parts x y low high = omega (arith, low, high)

same_pairs : (a b : Nibbles) → ((h : ℕ) → nibble_of a h ≡ nibble_of b h) → a.pairs ≡ b.pairs
same_pairs a b same =
    ext_get_or 0 a.pairs b.pairs (a.one_byte_for_two ∙ sym b.one_byte_for_two)
    (λ place within.
    same_parts (get_or a.pairs place 0) (get_or b.pairs place 0)
    (sym (low_place a.pairs place) ∙ same (2 * place) ∙ low_place b.pairs place)
    (sym (high_place a.pairs place) ∙ same (2 * place + 1) ∙ high_place b.pairs place))

abbrev made : (l : List ℕ) → length l ≡ 4 → ((h : ℕ) → nibble_in l h ≤ 15) → Nibbles
made l places fits = record { pairs = l; one_byte_for_two = places; each_fits = fits }

-- numbers for each hart are one value exactly where they are the same
same_nibbles : (a b : Nibbles) → ((h : ℕ) → nibble_of a h ≡ nibble_of b h) → a ≡ b
same_nibbles a b same =
    let P : List ℕ → Type 0 =
    λ l. (places : length l ≡ 4) (fits : (h : ℕ) → nibble_in l h ≤ 15) → a ≡ made l places fits
    in
    let places-prop : IsProp (length a.pairs ≡ 4) = hlevel props in
    let fits-prop : IsProp ((h : ℕ) → nibble_in a.pairs h ≤ 15) = hlevel props in
    let base : P a.pairs =
    λ places fits.
    ap (λ (fact : length a.pairs ≡ 4). made a.pairs fact a.each_fits) (places-prop a.one_byte_for_two places)
    ∙ ap (λ (fact : (h : ℕ) → nibble_in a.pairs h ≤ 15). made a.pairs places fact) (fits-prop a.each_fits fits)
    in
    subst P (same_pairs a b same) base b.one_byte_for_two b.each_fits

same_code : (a b : ℕ) → decoded_winner a ≡ decoded_winner b → a ≡ b
same_code zero zero same = refl
same_code zero (suc b) same = absurd cc
same_code (suc a) zero same = absurd cc
same_code (suc a) (suc b) same = cc

pub same_losers : (a b : Losers) → ((h : ℕ) → beaten_by a h ≡ beaten_by b h) → a ≡ b
same_losers a b same =
    let P : Nibbles → Type 0 =
    λ winners. (small : (h : ℕ) → nibble_of winners h ≤ 8) →
    a ≡ record { winners = winners; winners_are_harts = small }
    in
    let small-prop : IsProp ((h : ℕ) → nibble_of a.winners h ≤ 8) = hlevel props in
    let base : P a.winners =
    λ small.
    ap
    (λ (fact : (h : ℕ) → nibble_of a.winners h ≤ 8). record { winners = a.winners; winners_are_harts = fact })
    (small-prop a.winners_are_harts small)
    in
    let winners =
    same_nibbles a.winners b.winners (λ h. same_code (nibble_of a.winners h) (nibble_of b.winners h) (same h)) in
    subst P winners base b.winners_are_harts

pub same_freed : (a b : Freed) → ((h : ℕ) → count_in a h ≡ count_in b h) → a ≡ b
same_freed a b same = ap (λ (counts : Nibbles). record { counts = counts }) (same_nibbles a.counts b.counts same)
