-- sections parted by whether they give a lock back
use Rattle.std.proofs.Common.{◌≡◌, ◌∙◌, ℕ, suc, ◌+◌, ◌<◌, ◌≤◌, nat_eq, nat_lt, Bool, true, false, cond, not, List, []}
use Rattle.std.proofs.Common.{◌∷◌, ◌++◌, Option, Some, None}
use Rattle.std.proofs.Common.{length, take, get_or, filter, refl, ap, sym, subst, arith}
use Rattle.std.specs.Prelude.{sum_by}
use Rattle.std.specs.HashMap.{get}
use Rattle.std.specs.List.{prefix_len}
use Rattle.std.proofs.lemmas.Bool.Decides.{nat_tests}
use Rattle.std.proofs.lemmas.List.{take_all, take_more}
use Rattle.std.proofs.lemmas.List.Elements.{filter-append}
use Rattle.std.proofs.lemmas.List.Filters.{sum_by-filter_both}
use Rattle.std.proofs.lemmas.List.Sums.{fold_more, prefix_len_passes, prefix_len_stops}
use Rattle.chronicle.specs.Tally.{plus}
use Rattle.lab.specs.Locks.{tally_at}
use Rattle.lab.specs.Releases.{AreLast, PartsSumToAll, is_before, is_release, last_on, newer_on, put_there, releases_of}
use Rattle.lab.specs.Releases.{takes_of}
use Rattle.lab.specs.declared.releases.LastSwaps.{LastSwaps}
use Rattle.lab.specs.declared.swaps.PlainSwap.{PlainSwap}
use Rattle.lab.specs.declared.tries.Try.{Try}

-- what the two parts count is what all count
sums : (swaps : List PlainSwap) (f : Try → ℕ) (tries : List Try) →
    sum_by f (takes_of swaps tries) + sum_by f (releases_of swaps tries) ≡ sum_by f tries
sums swaps f tries =
    sum_by-filter_both (λ try. not (is_release swaps try)) (is_release swaps)
    (λ try. twice (is_release swaps try)) f tries
  where
    twice : (b : Bool) → b ≡ not (not b)
    twice true = refl
    twice false = refl

pub parts_sum : PartsSumToAll
unfolding plus tally_at
parts_sum swaps tries acquire = simp (sums swaps)

-- a later place is past no fewer swaps
pub further : (a b : ℕ) → a ≤ b → (swaps : List PlainSwap) →
    prefix_len (is_before a) swaps ≤ prefix_len (is_before b) swaps
further a b below [] = omega arith
further a b below (swap ∷ swaps) = by (nat_lt swap.place a) (nat_lt swap.place b) refl refl (further a b below swaps)
  where
    by : (x y : Bool) → nat_lt swap.place a ≡ x → nat_lt swap.place b ≡ y →
        prefix_len (is_before a) swaps ≤ prefix_len (is_before b) swaps →
        cond x (1 + prefix_len (is_before a) swaps) 0 ≤ cond y (1 + prefix_len (is_before b) swaps) 0
    by true true x y rest = omega (arith, rest)
    by true false x y rest = absurd (grind (arith, nat_tests, below))
    by false y x is rest = omega arith

-- a swap more that is before a place
pub one_before : (place : ℕ) (swaps : List PlainSwap) (index : ℕ) (swap : PlainSwap) →
    index ≤ prefix_len (is_before place) swaps → index < length swaps → swap ≡ get_or swaps index swap →
    swap.place < place → index + 1 ≤ prefix_len (is_before place) swaps
one_before place swaps index swap so_far below here before = by (nat_lt index (prefix_len (is_before place) swaps)) refl
  where
    by : (b : Bool) → nat_lt index (prefix_len (is_before place) swaps) ≡ b →
        index + 1 ≤ prefix_len (is_before place) swaps
    by true e = grind (arith, nat_tests, e)
    by false e =
        let at : prefix_len (is_before place) swaps ≡ index = grind (arith, nat_tests, e, so_far) in
        let stops : nat_lt swap.place place ≡ false =
        ap (λ (s : PlainSwap). nat_lt s.place place) (here ∙ ap (λ n. get_or swaps n swap) (sym at))
        ∙ prefix_len_stops (is_before place) swaps swap (subst (λ n. n < length swaps) (sym at) below) in
        absurd (grind (arith, nat_tests, stops, before))

-- and one that is not
pub none_before : (place : ℕ) (swaps : List PlainSwap) (index : ℕ) (swap : PlainSwap) →
    index ≤ prefix_len (is_before place) swaps → index < length swaps → swap ≡ get_or swaps index swap →
    place ≤ swap.place → index ≡ prefix_len (is_before place) swaps
none_before place swaps index swap so_far below here past = by (nat_lt index (prefix_len (is_before place) swaps)) refl
  where
    by : (b : Bool) → nat_lt index (prefix_len (is_before place) swaps) ≡ b → index ≡ prefix_len (is_before place) swaps
    by false e = grind (arith, nat_tests, e, so_far)
    by true e =
        let inside : index < prefix_len (is_before place) swaps = grind (arith, nat_tests, e) in
        let passes : nat_lt swap.place place ≡ true =
        ap (λ (s : PlainSwap). nat_lt s.place place) here ∙ prefix_len_passes (is_before place) swaps
        index swap inside in
        absurd (grind (arith, nat_tests, passes, past))

-- the last swap on a word after one more
pub last_more : (swaps : List PlainSwap) (index : ℕ) (swap : PlainSwap) (word : ℕ) (now was : Option PlainSwap) →
    index < length swaps → swap ≡ get_or swaps index swap → was ≡ last_on word (take index swaps) →
    now ≡ cond (nat_eq swap.acquire.word word) (Some swap) was → now ≡ last_on word (take (index + 1) swaps)
last_more swaps index swap word now was below here is more =
    more
    ∙ ap (cond (nat_eq swap.acquire.word word) (Some swap)) is
    ∙ ap (newer_on word (last_on word (take index swaps))) here
    ∙ sym (fold_more (newer_on word) None swaps index swap below)

-- one section more, in its part
pub part_more : (p : Try → Bool) (tries : List Try) (index : ℕ) (try : Try) (was now : List Try) →
    index < length tries → try ≡ get_or tries index try → was ≡ filter p (take index tries) →
    now ≡ was ++ cond (p try) (try ∷ []) [] → now ≡ filter p (take (index + 1) tries)
part_more p tries index try was now below here is more =
    more
    ∙ ap (λ l. l ++ cond (p try) (try ∷ []) []) is
    ∙ sym (filter-append p (take index tries) (try ∷ []))
    ∙ ap (filter p) (ap (λ (t : Try). take index tries ++ t ∷ []) here ∙ sym (take_more tries index try below))

-- whether a section gives its lock back, by the last swap on its word that is noted
pub release_is : (swaps : List PlainSwap) (last : LastSwaps) (try : Try) (found : Option PlainSwap) →
    AreLast swaps last → last.seen ≡ prefix_len (is_before try.first) swaps →
    found ≡ get nat_eq last.on try.acquire.word → put_there try found ≡ is_release swaps try
release_is swaps last try found are all is =
    ap (put_there try) (is ∙ are.each try.acquire.word)
    ∙ ap (λ n. put_there try (last_on try.acquire.word (take n swaps))) all

pub releases_more : (swaps : List PlainSwap) (tries : List Try) (index : ℕ) (try : Try) (gives : Bool)
    (was now : List Try) → index < length tries → try ≡ get_or tries index try → gives ≡ is_release swaps try →
    was ≡ releases_of swaps (take index tries) → now ≡ was ++ cond gives (try ∷ []) [] →
    now ≡ releases_of swaps (take (index + 1) tries)
releases_more swaps tries index try gives was now below here told is more =
    part_more (is_release swaps) tries index try was now below here is
    (more ∙ ap (λ b. was ++ cond b (try ∷ []) []) told)

pub takes_more : (swaps : List PlainSwap) (tries : List Try) (index : ℕ) (try : Try) (gives : Bool)
    (was now : List Try) → index < length tries → try ≡ get_or tries index try → gives ≡ is_release swaps try →
    was ≡ takes_of swaps (take index tries) → now ≡ was ++ cond gives [] (try ∷ []) →
    now ≡ takes_of swaps (take (index + 1) tries)
takes_more swaps tries index try gives was now below here told is more =
    part_more (λ t. not (is_release swaps t)) tries index try was now below here is
    (more ∙ ap (λ l. was ++ l) (other gives) ∙ ap (λ b. was ++ cond (not b) (try ∷ []) []) told)
  where
    other : (b : Bool) → cond b [] (try ∷ []) ≡ cond (not b) (try ∷ []) []
    other true = refl
    other false = refl

-- each section is in one part
pub each_in_one : (swaps : List PlainSwap) (tries : List Try) →
    length (takes_of swaps tries) + length (releases_of swaps tries) ≡ length tries
each_in_one swaps [] = refl
each_in_one swaps (try ∷ tries) = by (is_release swaps try) (each_in_one swaps tries)
  where
    by : (b : Bool) → length (takes_of swaps tries) + length (releases_of swaps tries) ≡ length tries →
        length (cond (not b) (try ∷ takes_of swaps tries) (takes_of swaps tries))
        + length (cond b (try ∷ releases_of swaps tries) (releases_of swaps tries)) ≡ suc (length tries)
    by true rest = omega (arith, rest)
    by false rest = omega (arith, rest)

pub all_parted : (swaps : List PlainSwap) (tries takes releases : List Try) (index : ℕ) → length tries ≤ index →
    takes ≡ takes_of swaps (take index tries) → releases ≡ releases_of swaps (take index tries) →
    length takes + length releases ≡ length tries
all_parted swaps tries takes releases index past taken given =
    ap (λ t. length t + length releases) taken
    ∙ ap (λ r. length (takes_of swaps (take index tries)) + length r) given
    ∙ ap (λ t. length (takes_of swaps t) + length (releases_of swaps t)) (take_all index tries past)
    ∙ each_in_one swaps tries

-- the first so many swaps are before the place that is reached
pub so_far : (swaps : List PlainSwap) (last : LastSwaps) (index : ℕ) → AreLast swaps last → last.seen ≡ index →
    index ≤ prefix_len (is_before last.reached) swaps
so_far swaps last index are at = subst (λ n. n ≤ prefix_len (is_before last.reached) swaps) at are.within
