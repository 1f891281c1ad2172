-- Pools that are made, and what holds of every pool.
use Rattle.std.proofs.Common.{◌≡◌, ℕ, suc, ◌+◌, ◌<◌, ◌≤◌, List, ◌∷◌, [], ◌++◌, length, map, replicate, slice_index}
use Rattle.std.proofs.Common.{slice_index_or, sum, take, refl}
use Rattle.std.proofs.Common.{ap, sym, ◌∙◌, subst, inl, inr, arith}
use Rattle.std.specs.List.{sum_by}
use Rattle.std.proofs.lemmas.Bool.{cases_lt}
use Rattle.std.proofs.lemmas.Bool.Decides.{nat_tests}
use Rattle.std.proofs.lemmas.List.{get_or_append_left, get_or_default, get_or_past, get_or_push, get_or-map, length-map}
use Rattle.std.proofs.lemmas.List.{length_push, same_lists}
use Rattle.std.proofs.lemmas.List.{take_all, take_at, take_more, take-append-le}
use Rattle.std.proofs.lemmas.List.Sums.{sum_by-cons, sum_by_more}
use Rattle.line_pool.specs.declared.share.Share as code
use Rattle.line_pool.specs.Calls.{IsMade, IsPooled, IsShare}
use Rattle.line_pool.specs.Kept.{AreFirst, AreKept, IsFull, IsKept, PoolStands, quotas_in, shown_pool, shown_share}
use Rattle.line_pool.specs.Pooled.{Pooled, Share, out_in, quotas_of, share_of, no_share}
use Rattle.line_pool.proofs.Moves.{kept_share, times-push}
use Rattle.line_pool.proofs.Steps.{quotas_shown}

-- the first places of a share
pub none_first : AreFirst 0 []
none_first = record { count = refl; each = λ place. grind (arith, nat_tests) }

pub more_first : (number : ℕ) (places : List ℕ) → AreFirst number places → AreFirst (number + 1) (places ++ number ∷ [])
more_first number places first = record {
  count = omega (arith, length_push places number, first.count);
  each = λ place. grind (arith, nat_tests, times-push places number place, first.each place);
}

empty_share : IsShare no_share
empty_share = record { few = omega arith; once = λ place. grind (arith, nat_tests) }

-- each share of a pool is one
each_share : (shares : List code.Share) (lines : List (List ℕ)) → AreKept shares → (owner : ℕ)
    → IsShare (share_of (shown_pool shares lines) owner)
each_share shares lines kept owner =
    elim (cases_lt owner (length shares)) [ inl within ↦ here shares kept within | inr past ↦ beyond past ]
  where
    here : (shares : List code.Share) → AreKept shares → owner < length shares →
        IsShare (share_of (shown_pool shares lines) owner)
    here [] kept within = absurd (omega arith)
    here (share ∷ rest) kept within =
        subst IsShare (sym (get_or-map shown_share (share ∷ rest) owner share no_share within))
        (kept_share (sum (take owner (quotas_in (share ∷ rest)))) (slice_index_or (share ∷ rest) owner share)
        (kept owner share within))

    beyond : length shares ≤ owner → IsShare (share_of (shown_pool shares lines) owner)
    beyond past =
        subst IsShare
        (sym (get_or_past (map shown_share shares) owner no_share (omega (arith, length-map shares shown_share))))
        empty_share

-- what is out and what is free adds up
pub all_add_up : (shares : List Share) → ((owner : ℕ) → IsShare (slice_index_or shares owner no_share))
    → sum_by out_in shares + sum_by (λ share. length share.free) shares ≡ sum (map (λ share. share.quota) shares)
all_add_up [] each = refl
all_add_up (share ∷ shares) each =
    let first = each 0 in
    omega (
      arith,
      all_add_up shares (λ owner. each (suc owner)),
      first.few,
      sum_by-cons out_in share shares,
      sum_by-cons (λ (s : Share). length s.free) share shares,
      sum_by-cons (λ n. n) share.quota (map (λ (s : Share). s.quota) shares),
    )

pub pooled : (shares : List code.Share) (lines : List (List ℕ)) (pool : Pooled) → PoolStands shares (length lines)
    → shown_pool shares lines ≡ pool → IsPooled pool
pooled shares lines pool stands is = subst IsPooled is shown
  where
    total : length lines ≡ sum (quotas_of (shown_pool shares lines))
    total = stands.total ∙ ap sum (sym (quotas_shown shares lines))

    shown : IsPooled (shown_pool shares lines)
    shown = record {
      owners =
          omega (
            arith,
            length-map (map shown_share shares) (λ (share : Share). share.quota),
            length-map shares shown_share,
            stands.owners,
          );
      each = each_share shares lines stands.each;
      total = total;
      adds_up = all_add_up (map shown_share shares) (each_share shares lines stands.each) ∙ sym total;
    }

-- shares of these quotas, of which all slots are free
pub record AreFull (quotas : List ℕ) (shares : List code.Share) : Type 0 where
  pub long : length shares ≡ length quotas
  pub each : (owner : ℕ) (d : code.Share) → owner < length shares
      → IsFull (sum (take owner quotas)) (slice_index quotas owner) (slice_index_or shares owner d)

pub none_full : AreFull [] []
none_full = record { long = refl; each = λ owner d within. absurd (omega arith) }

pub more_full : (quotas : List ℕ) (shares : List code.Share) (quota : ℕ) (share : code.Share) → AreFull quotas shares
    → IsFull (sum quotas) quota share
    → AreFull (quotas ++ quota ∷ []) (shares ++ share ∷ [])
more_full quotas shares quota share are full = record {
  long = omega (arith, length_push quotas quota, length_push shares share, are.long);
  each =
      λ owner d within. elim (cases_lt owner (length shares)) [
        | inl before ↦ old owner d before
        | inr past ↦ new owner d (omega (arith, length_push shares share))
      ];
}
  where
    old : (owner : ℕ) (d : code.Share) → owner < length shares
        → IsFull (sum (take owner (quotas ++ quota ∷ []))) (slice_index (quotas ++ quota ∷ []) owner)
        (slice_index_or (shares ++ share ∷ []) owner d)
    old owner d before =
        let P : List ℕ → Type 0 =
        λ first. IsFull (sum first) (slice_index (quotas ++ quota ∷ []) owner)
        (slice_index_or (shares ++ share ∷ []) owner d) in
        let Q : ℕ → Type 0 =
        λ slots. IsFull (sum (take owner quotas)) slots (slice_index_or (shares ++ share ∷ []) owner d) in
        let R : code.Share → Type 0 = λ s. IsFull (sum (take owner quotas)) (slice_index quotas owner) s in
        subst P (sym (take-append-le owner quotas (quota ∷ []) (omega (arith, are.long))))
        (subst Q (sym (get_or_append_left quotas (quota ∷ []) 0 owner (omega (arith, are.long))))
        (subst R (sym (get_or_append_left shares (share ∷ []) d owner before)) (are.each owner d before)))

    new : (owner : ℕ) (d : code.Share) → owner ≡ length shares
        → IsFull (sum (take owner (quotas ++ quota ∷ []))) (slice_index (quotas ++ quota ∷ []) owner)
        (slice_index_or (shares ++ share ∷ []) owner d)
    new owner d same =
        let P : List ℕ → Type 0 =
        λ first. IsFull (sum first) (slice_index (quotas ++ quota ∷ []) owner)
        (slice_index_or (shares ++ share ∷ []) owner d) in
        let Q : ℕ → Type 0 = λ slots. IsFull (sum quotas) slots (slice_index_or (shares ++ share ∷ []) owner d) in
        let R : code.Share → Type 0 = λ s. IsFull (sum quotas) quota s in
        subst P (sym (take_at quotas (quota ∷ []) owner (omega (arith, are.long))))
        (subst Q (sym (get_or_push quotas quota 0 owner (omega (arith, are.long))))
        (subst R (sym (get_or_push shares share d owner (omega arith))) full))

-- one share more, for the next quota
pub next_full : (all : List ℕ) (index total : ℕ) (shares now : List code.Share) (share : code.Share) →
    index < length all
    → AreFull (take index all) shares → total ≡ sum (take index all) → IsFull total (slice_index all index) share
    → now ≡ shares ++ share ∷ [] → AreFull (take (index + 1) all) now
next_full all index total shares now share within are total_is full is =
    let P : List ℕ → Type 0 = λ quotas. AreFull quotas (shares ++ share ∷ []) in
    let Q : ℕ → Type 0 = λ first. IsFull first (slice_index all index) share in
    let R : List code.Share → Type 0 = λ list. AreFull (take (index + 1) all) list in
    subst R (sym is)
    (subst P (sym (take_more all index 0 within)) (more_full (take index all) shares (slice_index all index) share are
    (subst Q total_is full)))

pub next_total : (all : List ℕ) (index total quota : ℕ) → index < length all → total ≡ sum (take index all) →
    quota ≡ slice_index all index
    → total + quota ≡ sum (take (index + 1) all)
next_total all index total quota within total_is quota_is =
    omega (arith, sum_by_more (λ n. n) all index 0 within, total_is, quota_is)

module _ (quotas : List ℕ) (shares : List code.Share) (are : AreFull quotas shares) where
  quotas_are : quotas_in shares ≡ quotas
  quotas_are =
      same_lists (quotas_in shares) quotas (length-map shares (λ (share : code.Share). share.quota) ∙ are.long)
      (λ k d within.
      let inside : k < length shares = omega (arith, within, length-map shares (λ (share : code.Share). share.quota)) in
      at k d inside shares are.each are.long)
    where
      at : (k d : ℕ) → k < length shares → (list : List code.Share) →
          ((owner : ℕ) (e : code.Share) → owner < length list
          → IsFull (sum (take owner quotas)) (slice_index quotas owner) (slice_index_or list owner e)) →
          length list ≡ length quotas
          → slice_index_or (quotas_in shares) k d ≡ slice_index_or quotas k d
      at k d inside [] each long = absurd (omega (arith, are.long))
      at k d inside (share ∷ rest) each long =
          get_or-map (λ (s : code.Share). s.quota) shares k share d inside ∙ (are.each k share inside).quota
          ∙ get_or_default quotas k 0 d (omega (arith, are.long))

  made_kept : AreKept shares
  made_kept owner d within =
      let P : List ℕ → Type 0 = λ qs. IsKept (sum (take owner qs)) (slice_index_or shares owner d) in
      subst P (sym quotas_are) (are.each owner d within).kept

  pub made_stands : (lines : List (List ℕ)) → length quotas ≤ 16 → length lines ≡ sum quotas →
      PoolStands shares (length lines)
  made_stands lines few long = record {
    owners = omega (arith, are.long);
    each = made_kept;
    total = long ∙ ap sum (sym quotas_are);
  }

  -- an owner has nothing out
  all_free : (lines : List (List ℕ)) (owner : ℕ)
      → AreFirst (share_of (shown_pool shares lines) owner).quota (share_of (shown_pool shares lines) owner).free
  all_free lines owner =
      elim (cases_lt owner (length shares)) [ inl within ↦ here shares are.each within | inr past ↦ beyond past ]
    where
      here : (list : List code.Share)
          →
          ((o : ℕ) (e : code.Share) → o < length list →
          IsFull (sum (take o quotas)) (slice_index quotas o) (slice_index_or list o e))
          → owner < length list →
          AreFirst (share_of (shown_pool list lines) owner).quota (share_of (shown_pool list lines) owner).free
      here [] each within = absurd (omega arith)
      here (share ∷ rest) each within =
          let full = each owner share within in
          let P : Share → Type 0 = λ s. AreFirst s.quota s.free in
          let Q : ℕ → Type 0 = λ slots. AreFirst slots (slice_index_or (share ∷ rest) owner share).free.items in
          subst P (sym (get_or-map shown_share (share ∷ rest) owner share no_share within))
          (subst Q (sym full.quota) full.all_free)

      beyond : length shares ≤ owner
          → AreFirst (share_of (shown_pool shares lines) owner).quota (share_of (shown_pool shares lines) owner).free
      beyond past =
          let P : Share → Type 0 = λ s. AreFirst s.quota s.free in
          subst P
          (sym (get_or_past (map shown_share shares) owner no_share (omega (arith, length-map shares shown_share))))
          none_first

  pub made : (lines : List (List ℕ)) → lines ≡ replicate (sum quotas) (replicate 64 0) →
      IsMade quotas (shown_pool shares lines)
  made lines clear = record {
    quotas = quotas_shown shares lines ∙ quotas_are;
    none_out = λ slot. let first = (all_free lines slot.owner).each slot.place in grind (arith, nat_tests, first);
    none_counted = λ owner. omega (arith, (all_free lines owner).count);
    zero = clear;
  }

-- where the loop over the quotas has ended, there is a share for each
pub all_full : (all : List ℕ) (index : ℕ) (shares : List code.Share) → length all ≤ index →
    AreFull (take index all) shares
    → AreFull all shares
all_full all index shares past are = let P : List ℕ → Type 0 = λ quotas. AreFull quotas shares in
    subst P (take_all index all past) are

pub all_total : (all : List ℕ) (index total : ℕ) → length all ≤ index → total ≡ sum (take index all) → total ≡ sum all
all_total all index total past is = is ∙ ap sum (take_all index all past)
