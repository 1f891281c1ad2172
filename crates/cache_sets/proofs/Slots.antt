-- What a lent cache owes its pool, by the slots of its lines.
use Rattle.std.proofs.Common.{◌≡◌, ◌≢◌, ℕ, ◌*◌, ◌≤◌, ◌<◌, Bool, true, false, if◌then◌else◌, List, [], ◌∷◌, length, map}
use Rattle.std.proofs.Common.{Some, refl, ap, sym, ◌∙◌, arith}
use Rattle.std.specs.List.{flat_map, sum_by}
use Rattle.std.proofs.lemmas.Bool.Decides.{nat_tests}
use Rattle.std.proofs.lemmas.List.{length-map}
use Rattle.std.proofs.lemmas.List.Sums.{sum_by-append, sum_by-cons}
use Rattle.line_pool.specs.declared.slot.Slot.{Slot}
use Rattle.line_pool.specs.Keeping.{same_slot, times_among}
use Rattle.line_pool.specs.Pooled.{Pooled, is_out, owner_of}
use Rattle.line_pool.proofs.Laws.{keeps-permuted, kept-out, kept-owner}
use Rattle.cache_sets.specs.declared.line.Line as code
use Rattle.residency.specs.Keyed.{count_of}
use Rattle.cache_sets.specs.Kept.{line_at, number_of, residency_of, set_at, shown_cache, shown_line, total}
use Rattle.cache_sets.specs.Slotted.{IsLent, slots_of}
use Rattle.residency.proofs.Laws.KeyedLemmas.{length-sum_by}
use Rattle.cache_sets.proofs.Shown.{sum-map}
use Rattle.cache_sets.proofs.Totals.{part-at, parts-at}

-- a sum over the slots of a cache, which says how often a slot is among them, and how many there are
pub slot-sum : (g : Slot → ℕ) (cache : List (List code.Line))
    → sum_by g (flat_map (λ set. set) (map (λ set. map (λ (l : code.Line). l.slot) set) cache))
    ≡ total (λ l. g l.slot) cache
slot-sum g [] = refl
slot-sum g (set ∷ cache) =
    let slots : List Slot = map (λ l. l.slot) set in
    omega (
      arith,
      sum_by-append g slots (flat_map (λ set. set) (map (λ set. map (λ (l : code.Line). l.slot) set) cache)),
      sum-map g (λ (l : code.Line). l.slot) set,
      slot-sum g cache,
      sum_by-cons (λ s. sum_by (λ (l : code.Line). g l.slot) s) set cache,
    )

-- the lines of both caches have the same slots, in whatever order
abbrev pub SameSlots : List (List code.Line) → List (List code.Line) → Type 0
SameSlots old new = (g : Slot → ℕ) → total (λ l. g l.slot) new ≡ total (λ l. g l.slot) old

abbrev pub one_at : Slot → Slot → ℕ
one_at slot other = if same_slot other slot then 1 else 0

module _ (pool : Pooled) (ways owner : ℕ) (cache : List (List code.Line)) where
  pub among-shown : (slot : Slot) → times_among (slots_of (shown_cache ways owner cache)) slot
      ≡ total (λ l. one_at slot l.slot) cache
  among-shown slot = slot-sum (one_at slot) cache

  pub count-shown : length (slots_of (shown_cache ways owner cache)) ≡ total (λ l. 1) cache
  count-shown = length-sum_by (slots_of (shown_cache ways owner cache)) ∙ slot-sum (λ slot. 1) cache

  pub sets-shown : length (residency_of cache) ≡ length cache
  sets-shown = length-map cache (map shown_line)

  pub lent-moved : (new : List (List code.Line)) → length new ≡ length cache → SameSlots cache new
      → IsLent pool (shown_cache ways owner cache) → IsLent pool (shown_cache ways owner new)
  lent-moved new sizes same lent = record {
    quota = lent.quota ∙ ap (λ n. n * ways) (sets-shown ∙ sym sizes ∙ sym (length-map new (map shown_line)));
    keeps =
        keeps-permuted pool owner (slots_of (shown_cache ways owner cache))
        (slots_of (shown_cache ways owner new)) lent.keeps
        (length-sum_by (slots_of (shown_cache ways owner new)) ∙ slot-sum (λ slot. 1) new ∙ same (λ slot. 1)
        ∙ sym count-shown)
        (λ slot. slot-sum (one_at slot) new ∙ same (one_at slot) ∙ sym (among-shown slot));
  }

  -- the slot of a line is one of them, so it is out, and of the owner
  module _ (some : 0 < length cache) (line : ℕ) (l : code.Line) (is : line_at cache line ≡ Some l) where
    pub among-at : 1 ≤ times_among (slots_of (shown_cache ways owner cache)) l.slot
    among-at = grind (arith, nat_tests, among-shown l.slot, part-at (λ x. one_at l.slot x.slot) cache line some l is)

    pub out-at : IsLent pool (shown_cache ways owner cache) → is_out pool l.slot ≡ true
    out-at lent = kept-out pool owner (slots_of (shown_cache ways owner cache)) l.slot lent.keeps among-at

    pub owner-at : IsLent pool (shown_cache ways owner cache) → owner_of l.slot ≡ owner
    owner-at lent = kept-owner pool owner (slots_of (shown_cache ways owner cache)) l.slot lent.keeps among-at

    -- and it is no other line's
    pub slots-apart : (other : ℕ) (o : code.Line) → count_of number_of (set_at cache line) line ≤ 1 → other ≢ line
        → line_at cache other ≡ Some o → IsLent pool (shown_cache ways owner cache) → o.slot ≢ l.slot
    slots-apart other o once apart there lent same =
        let parts = parts-at (λ x. one_at l.slot x.slot) cache line some other l o once apart is there in
        let its : one_at l.slot o.slot ≡ one_at l.slot l.slot = ap (one_at l.slot) same in
        let few = at_most (is_out pool l.slot) (lent.keeps.out l.slot) in
        grind (arith, nat_tests, parts, its, few, among-shown l.slot)
      where
        at_most : (out : Bool) → times_among (slots_of (shown_cache ways owner cache)) l.slot ≤ (if out then 1 else 0)
            → times_among (slots_of (shown_cache ways owner cache)) l.slot ≤ 1
        at_most true few = few
        at_most false few = omega (arith, few)
