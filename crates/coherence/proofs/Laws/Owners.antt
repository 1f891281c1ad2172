-- the copy that main memory may be behind, where there is one
use Rattle.std.proofs.Common.{◌≡◌, ◌∙◌, ◌<◌, ◌≤◌, arith, inl, inr, ℕ, Bool, true, false, List, length, Option, None}
use Rattle.std.proofs.Common.{Some, is_some, option_map, ap, refl, sym}
use Rattle.std.specs.List.{position, position_or_len}
use Rattle.std.specs.Prelude.{nat_lt}
use Rattle.std.proofs.lemmas.Bool.{cases_lt, ltb-false}
use Rattle.std.proofs.lemmas.List.{get_or_past}
use Rattle.std.proofs.lemmas.List.Sums.{fails_before_first}
use Rattle.std.proofs.lemmas.List.Quantifiers.{position-Some}
use Rattle.residency.specs.Cache.{is_resident, letter_in, letter_of, way_of}
use Rattle.cache_sets.specs.Cached.{Cached, Copy, bytes_of, copy_in}
use Rattle.residency.specs.Residency.{Way}
use Rattle.cache_sets.specs.Slotted.{Slotted, lent}
use Rattle.coherence.specs.Caches.{copies_of}
use Rattle.coherence.specs.Lent.{lent_all, no_slotted, slotted_at}
use Rattle.coherence.specs.Line.{InCopy, InMemory, IsClean, IsFound}
use Rattle.coherence.proofs.Laws.Offered.{lent_at}
use Rattle.line_pool.specs.Pooled.{Pooled}
use Rattle.moesi.specs.Letters.{is_dirty}
use Rattle.el_base.proofs.Laws.Options.{cond_none}

-- a copy is its letter and its bytes
pub copy_is : (cached : Cached) (line : ℕ) → is_resident cached.residency line ≡ true →
    copy_in cached line ≡ Some (record { letter = letter_of cached.residency line; bytes = bytes_of cached line })
copy_is cached line resident = by (way_of cached.residency line) resident
  where
    by : (way : Option Way) → is_some way ≡ true →
        option_map {U = Copy} (λ w. record { letter = w.letter; bytes = bytes_of cached line }) way
        ≡ Some (record { letter = letter_in way; bytes = bytes_of cached line })
    by None some = absurd (cc)
    by (Some way) some = refl

pub letter_is : (cached : Cached) (line : ℕ) (copy : Copy) → copy_in cached line ≡ Some copy →
    letter_of cached.residency line ≡ copy.letter
letter_is cached line copy there = by (way_of cached.residency line) there
  where
    by : (way : Option Way) → option_map {U = Copy} (λ w. record { letter = w.letter; bytes = bytes_of cached line })
        way ≡ Some copy → letter_in way ≡ copy.letter
    by None is = absurd (none is)
      where
        none : None ≡ Some copy → ⊥
        none same = absurd (cc)
    by (Some way) is = ap (λ c. c.letter) (some_is is)
      where
        some_is : {A : Type 0} {x y : A} → Some x ≡ Some y → x ≡ y
        some_is same = cc

pub dirty_resident : (cache : List (List Way)) (line : ℕ) → is_dirty (letter_of cache line) ≡ true →
    is_resident cache line ≡ true
dirty_resident cache line dirty = by (way_of cache line) dirty
  where
    by : (way : Option Way) → is_dirty (letter_in way) ≡ true → is_some way ≡ true
    by None is = absurd (cc)
    by (Some way) is = refl

abbrev owns : ℕ → Slotted → Bool
owns line cache = is_dirty (letter_of cache.residency line)

-- where no cache is found, none has such a copy
none_owns : (caches : List Slotted) (h line : ℕ) → position (owns line) caches ≡ None →
    owns line (slotted_at caches h) ≡ false
none_owns caches h line none =
    let apart = cond_none (nat_lt (position_or_len (owns line) caches) (length caches)) _ _ none in
    let past : length caches ≤ position_or_len (owns line) caches = ltb-false _ _ apart.0 in
    elim (cases_lt h (length caches)) [
      | inl inside ↦ fails_before_first (owns line) caches h no_slotted (omega arith)
      | inr outside ↦ ap (owns line) (get_or_past caches h no_slotted outside)
    ]

pub owner_at : (caches : List Slotted) (line place : ℕ) → position (owns line) caches ≡ Some place →
    (place < length caches) × (is_dirty (letter_of (slotted_at caches place).residency line) ≡ true)
owner_at caches line place is =
    let found = position-Some (owns line) caches place no_slotted is in (found.0, found.1)

pub no_owner : (caches : List Slotted) (line : ℕ) → position (owns line) caches ≡ None → (pool : Pooled) →
    IsClean (copies_of (lent_all pool caches) line)
no_owner caches line none pool h copy there =
    sym
    (ap is_dirty
    (letter_is (lent pool (slotted_at caches h)) line copy
    (ap (λ cached. copy_in cached line) (sym (lent_at pool caches h)) ∙ there)))
    ∙ none_owns caches h line none

pub found_in_copy : (pool : Pooled) (caches : List Slotted) (line place : ℕ) (behind bytes : List ℕ) →
    is_dirty (letter_of (slotted_at caches place).residency line) ≡ true →
    bytes ≡ bytes_of (lent pool (slotted_at caches place)) line →
    IsFound (copies_of (lent_all pool caches) line) behind bytes
found_in_copy pool caches line place behind bytes dirty read =
    let cached = lent pool (slotted_at caches place) in
    InCopy place (record { letter = letter_of cached.residency line; bytes = bytes_of cached line })
    (ap (λ c. copy_in c line) (lent_at pool caches place)
    ∙ copy_is cached line (dirty_resident cached.residency line dirty)) (sym read)

pub found_in_memory : (caches : List Cached) (line : ℕ) (behind bytes : List ℕ) → IsClean (copies_of caches line) →
    bytes ≡ behind → IsFound (copies_of caches line) behind bytes
found_in_memory caches line behind bytes clean read = InMemory clean (sym read)
