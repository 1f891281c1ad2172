-- Laws of caches that a pool lends, offered to the layers above: what is left of a pool, and a
-- cache that is given back to it.
use Rattle.std.proofs.Common.{◌≡◌, ◌≢◌, ◌∙◌, ◌≤◌, ◌<◌, ◌*◌, ℕ, zero, suc, zero-add, arith, if◌then◌else◌, List, [], ◌∷◌}
use Rattle.std.proofs.Common.{length, map, replicate}
use Rattle.std.proofs.Common.{slice_index, true, refl, ap, sym, subst, inl, inr}
use Rattle.std.specs.List.{range_with_len}
use Rattle.std.specs.Prelude.{slice_set}
use Rattle.std.proofs.lemmas.Bool.{cases_eq}
use Rattle.std.proofs.lemmas.Bool.Decides.{nat_tests}
use Rattle.std.proofs.lemmas.List.{ext_get_or, get_or-replicate, get_or-set_other, get_or-set_same, length-map}
use Rattle.std.proofs.lemmas.List.{length-replicate, length-set, map-set}
use Rattle.std.proofs.lemmas.List.FromFn.{get_or-map-range_with_len, length-map-range_with_len}
use Rattle.cache_sets.specs.Cached.{Cached, empty_cached}
use Rattle.cache_sets.specs.Slotted.{IsLent, Slotted, empty_slotted, lent, slots_of}
use Rattle.cache_sets.proofs.Laws.{is_lent-empty, lent-alike, lent-empty}
use Rattle.coherence.specs.Caches.{cache_at, no_cache}
use Rattle.coherence.specs.Changed.{IsReplacedAt}
use Rattle.coherence.specs.Lent.{IsLentTo, IsReplacedIn, LeavesHolds, LeavesOwner, Offers, lent_all, no_slotted}
use Rattle.coherence.specs.Lent.{slotted_at}
use Rattle.el_base.specs.Config.{allows}
use Rattle.el_base.specs.declared.config.ConfigFault.TheVariants.{Harts}
use Rattle.line_pool.specs.declared.slot.Slot.{Slot}
use Rattle.line_pool.specs.Calls.{IsMade}
use Rattle.line_pool.specs.Keeping.{Keeps, times_among}
use Rattle.line_pool.specs.Others.{LeavesOthers}
use Rattle.line_pool.specs.Pooled.{Pooled, bytes_of}
use Rattle.line_pool.proofs.Laws.{has-out, kept-out, kept-owner}
use Rattle.line_pool.proofs.Laws.OtherLaws.{same_has}

-- the caches, and one of them, with the bytes of a pool
pub length-lent : (pool : Pooled) (caches : List Slotted) → length (lent_all pool caches) ≡ length caches
length-lent pool caches = length-map caches (lent pool)

pub lent_at : (pool : Pooled) (caches : List Slotted) (h : ℕ) →
    cache_at (lent_all pool caches) h ≡ lent pool (slotted_at caches h)
lent_at pool [] h = refl
lent_at pool (cache ∷ caches) zero = refl
lent_at pool (cache ∷ caches) (suc h) = lent_at pool caches h

-- what one owner's calls leave to another, what none leaves, and one call after another
pub leaves_owner : (owner other : ℕ) (old new : Pooled) → LeavesOthers owner old new → other ≢ owner →
    LeavesOwner other old new
leaves_owner owner other old new leaves apart = record {
  outs = λ slot mine. leaves.outs slot (λ same. apart (sym mine ∙ same));
  count = leaves.counts other apart;
  bytes = λ slot mine has. leaves.bytes slot (λ same. apart (sym mine ∙ same)) has;
  quotas = leaves.quotas;
}

pub leaves_owner-same : (owner : ℕ) (pool : Pooled) → LeavesOwner owner pool pool
leaves_owner-same owner pool =
    record { outs = λ slot mine. refl; count = refl; bytes = λ slot mine has. refl; quotas = refl }

pub leaves_owner-then : (owner : ℕ) (old between new : Pooled) → LeavesOwner owner old between →
    LeavesOwner owner between new
    → LeavesOwner owner old new
leaves_owner-then owner old between new first second = record {
  outs = λ slot mine. second.outs slot mine ∙ first.outs slot mine;
  count = second.count ∙ first.count;
  bytes =
      λ slot mine has. second.bytes slot mine (same_has old between slot first.quotas ∙ has)
      ∙ first.bytes slot mine has;
  quotas = second.quotas ∙ first.quotas;
}

pub leaves_holds-same : (pool : Pooled) → LeavesHolds pool pool
leaves_holds-same pool owner past = leaves_owner-same owner pool

pub leaves_holds-then : (old between new : Pooled) → LeavesHolds old between → LeavesHolds between new →
    LeavesHolds old new
leaves_holds-then old between new first second owner past =
    leaves_owner-then owner old between new (first owner past) (second owner past)

-- so an owner keeps all that it kept, and the bytes of each slot of it
pub keeps-owner : (owner : ℕ) (old new : Pooled) (slots : List Slot) → LeavesOwner owner old new → Keeps old owner slots
    → Keeps new owner slots
keeps-owner owner old new slots leaves keeps = record {
  own = keeps.own;
  out = λ slot. elim (cases_eq slot.owner owner) [
    | inl mine ↦ subst (λ out. times_among slots slot ≤ (if out then 1 else 0)) (sym (leaves.outs slot mine))
        (keeps.out slot)
    | inr differs ↦ omega (arith, keeps.own slot differs)
  ];
  all = keeps.all ∙ sym leaves.count;
}

pub bytes-owner : (owner : ℕ) (old new : Pooled) (slots : List Slot) (slot : Slot) → LeavesOwner owner old new →
    Keeps old owner slots
    → 1 ≤ times_among slots slot → bytes_of new slot ≡ bytes_of old slot
bytes-owner owner old new slots slot leaves keeps among =
    leaves.bytes slot (kept-owner old owner slots slot keeps among)
    (has-out old slot (kept-out old owner slots slot keeps among))

-- and a cache is the one that it was, and is lent
pub lent-owner : (old new : Pooled) (cache : Slotted) → LeavesOwner cache.owner old new → IsLent old cache →
    lent new cache ≡ lent old cache
lent-owner old new cache leaves owes =
    lent-alike old new cache
    (λ slot among. bytes-owner cache.owner old new (slots_of cache) slot leaves owes.keeps among)

pub is_lent-owner : (old new : Pooled) (cache : Slotted) → LeavesOwner cache.owner old new → IsLent old cache →
    IsLent new cache
is_lent-owner old new cache leaves owes = record {
  quota = ap (λ quotas. slice_index quotas cache.owner) leaves.quotas ∙ owes.quota;
  keeps = keeps-owner cache.owner old new (slots_of cache) leaves owes.keeps;
}

-- a hart's cache was changed in its pool, which left those of the other harts, and is given back: the others are as
-- they were, and the pool lends all as before
module _ (old new : Pooled) (caches : List Slotted) (h : ℕ) (cache : Slotted) (owed : IsLentTo old caches)
    (leaves : (g : ℕ) → g ≢ h → g < length caches → LeavesOwner g old new) where
  left_to : (g : ℕ) → g ≢ h → g < length caches → LeavesOwner (slotted_at caches g).owner old new
  left_to g apart within =
      subst (λ owner. LeavesOwner owner old new) (sym (owed.owned g within)) (leaves g apart within)

  other_set : (g : ℕ) → g ≢ h → slotted_at (slice_set caches h cache) g ≡ slotted_at caches g
  other_set g apart = get_or-set_other caches h g cache no_slotted apart

  pub caches_back : lent_all new (slice_set caches h cache) ≡ slice_set (lent_all old caches) h (lent new cache)
  caches_back =
      ext_get_or no_cache (lent_all new (slice_set caches h cache)) (slice_set (lent_all old caches) h (lent new cache))
      (sizes ∙ sym (length-set (lent_all old caches) h (lent new cache) ∙ length-lent old caches))
      (λ g within. at g (omega (arith, within, sizes)))
    where
      sizes : length (lent_all new (slice_set caches h cache)) ≡ length caches
      sizes = length-lent new (slice_set caches h cache) ∙ length-set caches h cache

      at : (g : ℕ) → g < length caches
          → cache_at (lent_all new (slice_set caches h cache)) g
          ≡ cache_at (slice_set (lent_all old caches) h (lent new cache)) g
      at g within = elim (cases_eq g h) [
        | inl same ↦
            rw same
            (lent_at new (slice_set caches h cache) h
            ∙ ap (lent new) (get_or-set_same caches h cache no_slotted (subst (λ n. n < length caches) same within))
            ∙ sym (get_or-set_same (lent_all old caches) h (lent new cache) no_cache
            (subst (λ n. h < n) (sym (length-lent old caches)) (subst (λ n. n < length caches) same within))))
        | inr apart ↦
            lent_at new (slice_set caches h cache) g
            ∙ ap (lent new) (other_set g apart)
            ∙ lent-owner old new (slotted_at caches g) (left_to g apart within) (owed.each g within)
            ∙ sym (get_or-set_other (lent_all old caches) h g (lent new cache) no_cache apart ∙ lent_at old caches g)
      ]

  pub lent_back : cache.owner ≡ h → IsLent new cache → IsLentTo new (slice_set caches h cache)
  lent_back own kept = record {
    few = subst (λ n. n ≤ 8) (sym sizes) owed.few;
    owned = λ g within. elim (cases_eq g h) [
      | inl same ↦ ap (λ (c : Slotted). c.owner) (here g same within) ∙ own ∙ sym same
      | inr apart ↦ ap (λ (c : Slotted). c.owner) (other_set g apart) ∙ owed.owned g (inside g within)
    ];
    each = λ g within. elim (cases_eq g h) [
      | inl same ↦ subst (IsLent new) (sym (here g same within)) kept
      | inr apart ↦
          subst (IsLent new) (sym (other_set g apart))
          (is_lent-owner old new (slotted_at caches g) (left_to g apart (inside g within))
          (owed.each g (inside g within)))
    ];
  }
    where
      sizes : length (slice_set caches h cache) ≡ length caches
      sizes = length-set caches h cache

      inside : (g : ℕ) → g < length (slice_set caches h cache) → g < length caches
      inside g within = subst (λ n. g < n) sizes within

      here : (g : ℕ) → g ≡ h → g < length (slice_set caches h cache) → slotted_at (slice_set caches h cache) g ≡ cache
      here g same within =
          ap (slotted_at (slice_set caches h cache)) same
          ∙ get_or-set_same caches h cache no_slotted (subst (λ n. n < length caches) same (inside g within))

-- so where it was changed by a call that leaves all other owners
module _ (old new : Pooled) (caches : List Slotted) (h : ℕ) (before after : Slotted) (owed : IsLentTo old caches)
    (inside : h < length caches)
    (was : before ≡ slotted_at caches h) (leaves : LeavesOthers before.owner old new) where
  own : before.owner ≡ h
  own = ap (λ (c : Slotted). c.owner) was ∙ owed.owned h inside

  left : (g : ℕ) → g ≢ h → g < length caches → LeavesOwner g old new
  left g apart within = leaves_owner before.owner g old new leaves (λ is. apart (is ∙ own))

  pub caches_set : lent_all new (slice_set caches h after) ≡ slice_set (lent_all old caches) h (lent new after)
  caches_set = caches_back old new caches h after owed left

  pub lent_set : after.owner ≡ before.owner → IsLent new after → IsLentTo new (slice_set caches h after)
  lent_set same kept = lent_back old new caches h after owed left (same ∙ own) kept

  pub holds_set : LeavesHolds old new
  holds_set owner past =
      leaves_owner before.owner owner old new leaves (λ is. absurd (omega (arith, past, is, own, inside, owed.few)))

-- one of the caches was changed, and no bytes of any
pub replaced_at : (Becomes : Cached → Cached → Type 0) (h : ℕ) (old new : List Slotted) (pool : Pooled) →
    IsReplacedIn Becomes h old new
    → IsReplacedAt Becomes h (lent_all pool old) (lent_all pool new)
replaced_at Becomes h old new pool replaced = record {
  cache = lent pool replaced.cache;
  becomes = subst (λ was. Becomes was (lent pool replaced.cache)) (sym (lent_at pool old h)) (replaced.becomes pool);
  new_is = ap (lent_all pool) replaced.new_is ∙ map-set (lent pool) old h replaced.cache;
}

pub lent-replaced : (Becomes : Cached → Cached → Type 0) (h : ℕ) (old new : List Slotted) (pool : Pooled) →
    h < length old
    → IsReplacedIn Becomes h old new → IsLentTo pool old → IsLentTo pool new
lent-replaced Becomes h old new pool inside replaced owed =
    subst (IsLentTo pool) (sym replaced.new_is)
    (lent_back pool pool old h replaced.cache owed (λ g apart within. leaves_owner-same g pool)
    (replaced.owner ∙ owed.owned h inside) (replaced.kept pool (owed.each h inside)))

-- the caches of so many harts without lines
abbrev pub first_caches : ℕ → ℕ → ℕ → List Slotted
first_caches harts ways sets = map (λ h. empty_slotted ways sets h) (range_with_len 0 harts)

first_at : (harts ways sets h : ℕ) → h < harts → slotted_at (first_caches harts ways sets) h ≡ empty_slotted ways sets h
first_at harts ways sets h within =
    get_or-map-range_with_len (λ h. empty_slotted ways sets h) 0 harts h h no_slotted within (zero-add h)

length-first : (harts ways sets : ℕ) → length (first_caches harts ways sets) ≡ harts
length-first harts ways sets = length-map-range_with_len (λ h. empty_slotted ways sets h) 0 harts

pub caches-first : (pool : Pooled) (harts ways sets : ℕ)
    → lent_all pool (first_caches harts ways sets) ≡ replicate harts (empty_cached ways sets)
caches-first pool harts ways sets =
    ext_get_or no_cache (lent_all pool (first_caches harts ways sets)) (replicate harts (empty_cached ways sets))
    (sizes ∙ sym (length-replicate harts (empty_cached ways sets)))
    (λ h within. at h (omega (arith, within, sizes)))
  where
    sizes : length (lent_all pool (first_caches harts ways sets)) ≡ harts
    sizes = length-lent pool (first_caches harts ways sets) ∙ length-first harts ways sets

    at : (h : ℕ) → h < harts
        → cache_at (lent_all pool (first_caches harts ways sets)) h
        ≡ cache_at (replicate harts (empty_cached ways sets)) h
    at h within =
        lent_at pool (first_caches harts ways sets) h
        ∙ ap (lent pool) (first_at harts ways sets h within)
        ∙ lent-empty pool ways sets h
        ∙ sym (get_or-replicate harts h (empty_cached ways sets) no_cache within)

-- a configuration has 8 harts at most
pub few_harts : (harts : ℕ) → allows Harts harts ≡ true → harts ≤ 8
few_harts harts is = grind (arith, nat_tests)

pub lent-first : (pool : Pooled) (harts ways sets : ℕ) → harts ≤ 8 → Offers pool harts (sets * ways)
    → IsLentTo pool (first_caches harts ways sets)
lent-first pool harts ways sets few offers = record {
  few = subst (λ n. n ≤ 8) (sym (length-first harts ways sets)) few;
  owned = λ h within. ap (λ (c : Slotted). c.owner) (first_at harts ways sets h (inside h within));
  each = λ h within.
      subst (IsLent pool) (sym (first_at harts ways sets h (inside h within)))
      (is_lent-empty pool ways sets h (offers.quota h (inside h within)) (offers.none_out h (inside h within)));
}
  where
    inside : (h : ℕ) → h < length (first_caches harts ways sets) → h < harts
    inside h within = subst (λ n. h < n) (length-first harts ways sets) within

-- a pool that was made with these quotas offers them
pub offers-made : (pool : Pooled) (given : List ℕ) (harts slots : ℕ) → IsMade given pool
    → ((h : ℕ) → h < harts → slice_index given h ≡ slots) → Offers pool harts slots
offers-made pool given harts slots made quota = record {
  quota = λ h within. ap (λ quotas. slice_index quotas h) made.quotas ∙ quota h within;
  none_out = λ h within. made.none_counted h;
}
