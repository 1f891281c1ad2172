-- Laws of lent caches for the layers above: what other owners' calls leave of them, and how they begin.
pub mod AbsentLines
pub mod BitsOfWays
use Rattle.std.proofs.Common.{◌≡◌, ◌≢◌, ℕ, zero, suc, ◌*◌, ◌≤◌, List, [], ◌∷◌, map, replicate, refl, ap}
use Rattle.std.proofs.Common.{sym, subst, ◌∙◌, arith}
use Rattle.std.specs.List.{flat_map}
use Rattle.std.specs.Prelude.{slice_index}
use Rattle.std.proofs.lemmas.Bool.Decides.{nat_tests}
use Rattle.std.proofs.lemmas.List.{length-replicate}
use Rattle.std.proofs.lemmas.List.Sums.{sum_by-append, sum_by-cons}
use Rattle.line_pool.specs.declared.slot.Slot.{Slot}
use Rattle.line_pool.specs.Calls.{IsMade}
use Rattle.line_pool.specs.Keeping.{Keeps, times_among}
use Rattle.line_pool.specs.Others.{LeavesOthers}
use Rattle.line_pool.specs.Pooled.{Pooled, bytes_of, out_of, quota_of}
use Rattle.line_pool.proofs.Laws.{keeps-none}
use Rattle.line_pool.proofs.Laws.OtherLaws.{bytes-left, keeps-left, quota-left}
use Rattle.cache_sets.specs.Cached.{empty_cached}
use Rattle.residency.specs.Residency.{Way}
use Rattle.cache_sets.specs.Slotted.{IsLent, Slotted, empty_slotted, lent, slots_of}
use Rattle.cache_sets.proofs.Slots.{one_at}

-- slots with the same bytes in two pools
module _ (old new : Slot → List ℕ) where
  same_row : (slots : List Slot) → ((slot : Slot) → 1 ≤ times_among slots slot → new slot ≡ old slot) →
      map new slots ≡ map old slots
  same_row [] same = refl
  same_row (slot ∷ slots) same =
      ap (λ b. b ∷ map new slots) (same slot (grind (arith, nat_tests, sum_by-cons (one_at slot) slot slots)))
      ∙ ap (λ bs. old slot ∷ bs)
      (same_row slots (λ s among. same s (omega (arith, among, sum_by-cons (one_at s) slot slots))))

  same_rows : (sets : List (List Slot)) →
      ((slot : Slot) → 1 ≤ times_among (flat_map (λ set. set) sets) slot → new slot ≡ old slot)
      → map (λ set. map new set) sets ≡ map (λ set. map old set) sets
  same_rows [] same = refl
  same_rows (set ∷ sets) same =
      ap (λ row. row ∷ map (λ s. map new s) sets)
      (same_row set (λ s among. same s (omega (arith, among, sum_by-append (one_at s) set (flat_map (λ x. x) sets)))))
      ∙ ap (λ rows. map old set ∷ rows)
      (same_rows sets (λ s among. same s (omega (arith, among, sum_by-append (one_at s) set (flat_map (λ x. x) sets)))))

-- a cache whose slots have the same bytes in two pools
pub lent-alike : (old new : Pooled) (cache : Slotted)
    → ((slot : Slot) → 1 ≤ times_among (slots_of cache) slot → bytes_of new slot ≡ bytes_of old slot) →
    lent new cache ≡ lent old cache
lent-alike old new cache same =
    ap (λ rows. record { ways = cache.ways; residency = cache.residency; bytes = rows })
    (same_rows (bytes_of old) (bytes_of new) cache.slots same)

-- what another owner's call leaves of a cache: its bytes, and what it owes
pub lent-left : (owner : ℕ) (old new : Pooled) (cache : Slotted) → LeavesOthers owner old new → cache.owner ≢ owner →
    IsLent old cache
    → lent new cache ≡ lent old cache
lent-left owner old new cache leaves apart owes =
    lent-alike old new cache
    (λ slot among. bytes-left owner cache.owner old new (slots_of cache) slot leaves apart owes.keeps among)

pub is_lent-left : (owner : ℕ) (old new : Pooled) (cache : Slotted) → LeavesOthers owner old new → cache.owner ≢ owner →
    IsLent old cache
    → IsLent new cache
is_lent-left owner old new cache leaves apart owes = record {
  quota = quota-left owner cache.owner old new leaves ∙ owes.quota;
  keeps = keeps-left owner cache.owner old new (slots_of cache) leaves apart owes.keeps;
}

-- a cache without lines, in any pool of which its owner has nothing out
no_slots : (sets : ℕ) → flat_map (λ set. set) (replicate {A = List Slot} sets []) ≡ []
no_slots zero = refl
no_slots (suc sets) = no_slots sets

pub is_lent-empty : (pool : Pooled) (ways sets owner : ℕ) → quota_of pool owner ≡ sets * ways → out_of pool owner ≡ 0
    → IsLent pool (empty_slotted ways sets owner)
is_lent-empty pool ways sets owner quota none = record {
  quota = quota ∙ ap (λ n. n * ways) (sym (length-replicate {A = List Way} sets []));
  keeps = subst (Keeps pool owner) (sym (no_slots sets)) (keeps-none pool owner none);
}

no_rows : (bytes : Slot → List ℕ) (sets : ℕ) → map (λ set. map bytes set) (replicate sets []) ≡ replicate sets []
no_rows bytes zero = refl
no_rows bytes (suc sets) = ap (λ rows. [] ∷ rows) (no_rows bytes sets)

pub lent-empty : (pool : Pooled) (ways sets owner : ℕ) →
    lent pool (empty_slotted ways sets owner) ≡ empty_cached ways sets
lent-empty pool ways sets owner =
    ap (λ rows. record { ways = ways; residency = (empty_slotted ways sets owner).residency; bytes = rows })
    (no_rows (bytes_of pool) sets)

-- so in a pool that was made with its quota
pub is_lent-made : (pool : Pooled) (given : List ℕ) (ways sets owner : ℕ) → IsMade given pool →
    slice_index given owner ≡ sets * ways
    → IsLent pool (empty_slotted ways sets owner)
is_lent-made pool given ways sets owner made quota =
    is_lent-empty pool ways sets owner (ap (λ quotas. slice_index quotas owner) made.quotas ∙ quota)
    (made.none_counted owner)
