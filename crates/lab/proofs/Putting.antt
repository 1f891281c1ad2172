-- keys that are put behind others, each once
use Rattle.std.proofs.Common.{◌≡◌, ◌∙◌, ℕ, ◌+◌, ◌<◌, ◌≤◌, Bool, true, false, cond, List, [], ◌∷◌, ◌++◌, length, map}
use Rattle.std.proofs.Common.{take, get_or, refl, ap}
use Rattle.std.proofs.Common.{append-nil, append_assoc, sym, subst, arith}
use Rattle.std.specs.HashSet.{HashSet, contains}
use Rattle.std.specs.List.{IsDistinct, list_any}
use Rattle.std.proofs.lemmas.Bool.Decides.{nat_tests}
use Rattle.std.proofs.lemmas.List.{map-append, take_all, take_more}
use Rattle.std.proofs.lemmas.List.Elements.{All-more, All-weaker}
use Rattle.std.proofs.lemmas.List.Folds.{list_any-append}
use Rattle.std.proofs.lemmas.Map.Keys.{IsDistinct-push}
use Rattle.std.proofs.lemmas.Bool.{or_left, or_right}
use Rattle.lab.proofs.Classes.{same_is}
use Rattle.lab.proofs.Firsting.{any_of_firsts, firsts_push, or_flip}
use Rattle.lab.specs.Firsts.{firsts}
use Rattle.lab.specs.Locks.{AreAcquiresOf, AreAmong, AreOnlyOf, AreSeen, all_acquires, same_acquire, same_pair}
use Rattle.lab.specs.Locks.{with_acquire}
use Rattle.lab.specs.declared.swaps.PlainSwap.{PlainSwap}
use Rattle.lab.specs.declared.tries.Acquire.{Acquire}
use Rattle.lab.specs.declared.tries.Try.{Try}

same_flip : (a b : Acquire) → same_acquire a b ≡ same_acquire b a
same_flip a b = grind (arith, nat_tests)

-- an acquire that was new is seen from then on
pub seen_more : {S : Type 0} (acquires : List Acquire) (old new : HashSet (ℕ × ℕ) S) (acquire other : Acquire) →
    AreSeen acquires old → contains same_pair new (other.pc, other.word) ≡ cond (same_acquire acquire other) true
    (contains same_pair old (other.pc, other.word)) →
    contains same_pair new (other.pc, other.word) ≡ list_any (same_acquire other) (acquires ++ acquire ∷ [])
seen_more acquires old new acquire other seen updated =
    updated
    ∙ ap (cond (same_acquire acquire other) true) (seen other)
    ∙ ap (λ b. cond b true (list_any (same_acquire other) acquires)) (same_flip acquire other)
    ∙ sym (or_flip (list_any (same_acquire other) acquires) (same_acquire other acquire))
    ∙ sym (list_any-append (same_acquire other) acquires (acquire ∷ []))

-- what is among acquires stays so
longer : (acquires : List Acquire) (acquire other : Acquire) → list_any (same_acquire other) acquires ≡ true →
    list_any (same_acquire other) (with_acquire acquire acquires) ≡ true
longer acquires acquire other known = by (list_any (same_acquire acquire) acquires)
  where
    by : (b : Bool) → list_any (same_acquire other) (cond b acquires (acquires ++ acquire ∷ [])) ≡ true
    by true = known
    by false =
        list_any-append (same_acquire other) acquires (acquire ∷ [])
        ∙ or_left (list_any (same_acquire other) acquires) _ known

-- and the one that was put is
there : (acquires : List Acquire) (acquire : Acquire) →
    list_any (same_acquire acquire) (with_acquire acquire acquires) ≡ true
there acquires acquire = by (list_any (same_acquire acquire) acquires) refl
  where
    by : (b : Bool) → list_any (same_acquire acquire) acquires ≡ b →
        list_any (same_acquire acquire) (cond b acquires (acquires ++ acquire ∷ [])) ≡ true
    by true e = e
    by false e =
        list_any-append (same_acquire acquire) acquires (acquire ∷ [])
        ∙ or_right (list_any (same_acquire acquire) acquires) _
        (or_left (same_acquire acquire acquire) false (same_is.refl acquire))

each_once : (acquires : List Acquire) (acquire : Acquire) → IsDistinct same_acquire acquires →
    IsDistinct same_acquire (with_acquire acquire acquires)
each_once acquires acquire once = by (list_any (same_acquire acquire) acquires) refl
  where
    by : (b : Bool) → list_any (same_acquire acquire) acquires ≡ b →
        IsDistinct same_acquire (cond b acquires (acquires ++ acquire ∷ []))
    by true e = once
    by false e = IsDistinct-push same_is acquires acquire once e

pub none_yet : AreAcquiresOf [] []
unfolding IsDistinct
none_yet = record { once = tt; each = λ k d below. absurd (omega arith) }

pub no_swap_yet : (acquires : List Acquire) → AreAmong [] acquires
no_swap_yet acquires = λ k d below. absurd (omega arith)

-- one section more
pub acquire_put : (tries : List Try) (place : ℕ) (try : Try) (acquires : List Acquire) → place < length tries →
    try ≡ get_or tries place try → AreAcquiresOf (take place tries) acquires →
    AreAcquiresOf (take (place + 1) tries) (with_acquire try.acquire acquires)
acquire_put tries place try acquires below here are = record {
  once = each_once acquires try.acquire are.once;
  each =
      All-more Known tries place try below
      (All-weaker (λ t. list_any (same_acquire t.acquire) acquires ≡ true) Known
      (λ t known. longer acquires try.acquire t.acquire known)
      (take place tries) are.each)
      (subst Known here (there acquires try.acquire));
}
  where
    Known : Try → Type 0
    Known t = list_any (same_acquire t.acquire) (with_acquire try.acquire acquires) ≡ true

-- one swap more
pub acquires_stay : (tries : List Try) (acquire : Acquire) (acquires : List Acquire) → AreAcquiresOf tries acquires →
    AreAcquiresOf tries (with_acquire acquire acquires)
acquires_stay tries acquire acquires are = record {
  once = each_once acquires acquire are.once;
  each =
      All-weaker (λ t. list_any (same_acquire t.acquire) acquires ≡ true)
      (λ t. list_any (same_acquire t.acquire) (with_acquire acquire acquires) ≡ true)
      (λ t known. longer acquires acquire t.acquire known) tries are.each;
}

pub swap_put : (swaps : List PlainSwap) (place : ℕ) (swap : PlainSwap) (acquires : List Acquire) →
    place < length swaps → swap ≡ get_or swaps place swap → AreAmong (take place swaps) acquires →
    AreAmong (take (place + 1) swaps) (with_acquire swap.acquire acquires)
swap_put swaps place swap acquires below here are =
    All-more Known swaps place swap below
    (All-weaker (λ t. list_any (same_acquire t.acquire) acquires ≡ true) Known
    (λ t known. longer acquires swap.acquire t.acquire known)
    (take place swaps) are)
    (subst Known here (there acquires swap.acquire))
  where
    Known : PlainSwap → Type 0
    Known t = list_any (same_acquire t.acquire) (with_acquire swap.acquire acquires) ≡ true

-- when all swaps were seen
pub all_among : (swaps : List PlainSwap) (place : ℕ) (acquires : List Acquire) → length swaps ≤ place →
    AreAmong (take place swaps) acquires → AreAmong swaps acquires
all_among swaps place acquires past among = subst (λ l. AreAmong l acquires) (take_all place swaps past) among

-- in the order of their first places
in_order : (told more : List Acquire) (acquire : Acquire) (acquires : List Acquire) →
    acquires ≡ firsts same_acquire told → more ≡ told ++ acquire ∷ [] →
    with_acquire acquire acquires ≡ firsts same_acquire more
in_order told more acquire acquires order pushed =
    ap (with_acquire acquire) order ∙ sym (firsts_push same_is told acquire) ∙ sym (ap (firsts same_acquire) pushed)

-- one section more
pub section_in_order : (tries : List Try) (place : ℕ) (try : Try) (acquires : List Acquire) → place < length tries →
    try ≡ get_or tries place try → acquires ≡ firsts same_acquire (all_acquires (take place tries) []) →
    with_acquire try.acquire acquires ≡ firsts same_acquire (all_acquires (take (place + 1) tries) [])
section_in_order tries place try acquires below here order =
    in_order (all_acquires (take place tries) []) (all_acquires (take (place + 1) tries) []) try.acquire
    acquires order (
    append-nil (map (λ t. t.acquire) (take (place + 1) tries))
    ∙ ap (λ (l : List Try). map (λ t. t.acquire) l) (take_more tries place try below)
    ∙ map-append (λ (t : Try). t.acquire) (take place tries) (get_or tries place try ∷ [])
    ∙ ap (λ (t : Try). map (λ u. u.acquire) (take place tries) ++ t.acquire ∷ []) (sym here)
    ∙ ap (λ (l : List Acquire). l ++ try.acquire ∷ []) (sym (append-nil (map (λ t. t.acquire) (take place tries))))
    )

-- one swap more
pub swap_in_order : (tries : List Try) (swaps : List PlainSwap) (place : ℕ) (swap : PlainSwap)
    (acquires : List Acquire) → place < length swaps → swap ≡ get_or swaps place swap →
    acquires ≡ firsts same_acquire (all_acquires tries (take place swaps)) →
    with_acquire swap.acquire acquires ≡ firsts same_acquire (all_acquires tries (take (place + 1) swaps))
swap_in_order tries swaps place swap acquires below here order =
    in_order (all_acquires tries (take place swaps)) (all_acquires tries (take (place + 1) swaps)) swap.acquire
    acquires order (
    ap (λ (l : List PlainSwap). all_acquires tries l) (take_more swaps place swap below)
    ∙ ap (λ (l : List Acquire). map (λ t. t.acquire) tries ++ l)
    (map-append (λ (s : PlainSwap). s.acquire) (take place swaps) (get_or swaps place swap ∷ []))
    ∙ ap (λ (s : PlainSwap). map (λ t. t.acquire) tries ++ (map (λ u. u.acquire) (take place swaps) ++ s.acquire ∷ []))
    (sym here)
    ∙ sym (append_assoc (map (λ t. t.acquire) tries) (map (λ s. s.acquire) (take place swaps)) (swap.acquire ∷ []))
    )

-- when all swaps were seen
pub swaps_in_order : (tries : List Try) (swaps : List PlainSwap) (place : ℕ) (acquires : List Acquire) →
    length swaps ≤ place → acquires ≡ firsts same_acquire (all_acquires tries (take place swaps)) →
    acquires ≡ firsts same_acquire (all_acquires tries swaps)
swaps_in_order tries swaps place acquires past order =
    order ∙ ap (λ (l : List PlainSwap). firsts same_acquire (all_acquires tries l)) (take_all place swaps past)

-- so each of them is that of a section or a swap
pub only_told : (tries : List Try) (swaps : List PlainSwap) (acquires : List Acquire) →
    acquires ≡ firsts same_acquire (all_acquires tries swaps) → AreOnlyOf tries swaps acquires
only_told tries swaps acquires order acquire =
    ap (list_any (same_acquire acquire)) order ∙ any_of_firsts same_is acquire (all_acquires tries swaps)
