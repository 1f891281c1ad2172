-- Laws of lent holds for the layers above: what other owners' calls leave of them, how they
-- begin, and when they are full.
pub mod Masks
pub mod LookUps
use Rattle.std.proofs.Common.{◌≡◌, ◌≢◌, ℕ, ◌≤◌, ◌<◌, List, [], ◌∷◌, length, map, refl, ap, sym, subst}
use Rattle.std.proofs.Common.{◌∙◌, arith}
use Rattle.std.specs.Prelude.{◌↔◌, false, slice_index}
use Rattle.std.proofs.lemmas.Bool.Decides.{nat_tests}
use Rattle.std.proofs.lemmas.List.{length-map}
use Rattle.std.proofs.lemmas.List.Sums.{sum_by-cons}
use Rattle.line_pool.specs.declared.slot.Slot.{Slot}
use Rattle.line_pool.specs.Calls.{IsMade}
use Rattle.line_pool.specs.Keeping.{times_among}
use Rattle.line_pool.specs.Others.{LeavesOthers}
use Rattle.line_pool.specs.Pooled.{Pooled, bytes_of, out_of, quota_of, quotas_of}
use Rattle.line_pool.proofs.Laws.{keeps-none}
use Rattle.line_pool.proofs.Laws.OtherLaws.{bytes-left, keeps-left, quota-left}
use Rattle.write_hold.specs.Calls.{IsFull}
use Rattle.write_hold.specs.Held.{holds}
use Rattle.write_hold.specs.Slotted.{IsLent, Place, Slotted, lent, lent_entry, slots_of}
use Rattle.write_hold.proofs.Slots.{one_at}

-- lines whose slots have the same bytes in two pools
same_entries : (old new : Pooled) (entries : List Place)
    → ((slot : Slot) → 1 ≤ times_among (map (λ place. place.slot) entries) slot → bytes_of new slot ≡ bytes_of old slot)
    → map (lent_entry new) entries ≡ map (lent_entry old) entries
same_entries old new [] same = refl
same_entries old new (place ∷ entries) same =
    let slots = map (λ (p : Place). p.slot) entries in
    ap (λ bytes. record { line = place.line; mask = place.mask; bytes = bytes } ∷ map (lent_entry new) entries)
    (same place.slot (grind (arith, nat_tests, sum_by-cons (one_at place.slot) place.slot slots)))
    ∙ ap (λ rest. lent_entry old place ∷ rest)
    (same_entries old new entries (λ s among. same s (omega (arith, among, sum_by-cons (one_at s) place.slot slots))))

pub lent-alike : (old new : Pooled) (hold : Slotted)
    → ((slot : Slot) → 1 ≤ times_among (slots_of hold) slot → bytes_of new slot ≡ bytes_of old slot) →
    lent new hold ≡ lent old hold
lent-alike old new hold same =
    ap (λ entries. record { limit = hold.limit; entries = entries }) (same_entries old new hold.entries same)

-- what another owner's call leaves of a hold: its bytes, and what it owes
pub lent-left : (owner : ℕ) (old new : Pooled) (hold : Slotted) → LeavesOthers owner old new →
    hold.owner ≢ owner → IsLent old hold
    → lent new hold ≡ lent old hold
lent-left owner old new hold leaves apart owes =
    lent-alike old new hold
    (λ slot among. bytes-left owner hold.owner old new (slots_of hold) slot leaves apart owes.keeps among)

pub is_lent-left : (owner : ℕ) (old new : Pooled) (hold : Slotted) → LeavesOthers owner old new →
    hold.owner ≢ owner → IsLent old hold
    → IsLent new hold
is_lent-left owner old new hold leaves apart owes = record {
  there = subst (λ quotas. hold.owner < length quotas) (sym leaves.quotas) owes.there;
  quota = quota-left owner hold.owner old new leaves ∙ owes.quota;
  keeps = keeps-left owner hold.owner old new (slots_of hold) leaves apart owes.keeps;
}

-- a hold of nothing, in any pool of which its owner has nothing out
pub is_lent-empty : (pool : Pooled) (limit owner : ℕ) → owner < length (quotas_of pool) → quota_of pool owner ≡ limit →
    out_of pool owner ≡ 0
    → IsLent pool (record { limit = limit; owner = owner; entries = [] })
is_lent-empty pool limit owner there quota none =
    record { there = there; quota = quota; keeps = keeps-none pool owner none }

pub is_lent-made : (pool : Pooled) (given : List ℕ) (limit owner : ℕ) → IsMade given pool → owner < length given →
    slice_index given owner ≡ limit
    → IsLent pool (record { limit = limit; owner = owner; entries = [] })
is_lent-made pool given limit owner made there quota =
    is_lent-empty pool limit owner (subst (λ quotas. owner < length quotas) (sym made.quotas) there)
    (ap (λ quotas. slice_index quotas owner) made.quotas ∙ quota) (made.none_counted owner)

-- a lent hold is full for a line exactly where the line is new and its owner has its whole quota out
pub full-exactly : (pool : Pooled) (hold : Slotted) (line : ℕ) → IsLent pool hold
    → IsFull (lent pool hold) line
    ↔ ((holds (lent pool hold).entries line ≡ false) × (out_of pool hold.owner ≡ quota_of pool hold.owner))
full-exactly pool hold line owes = (
  λ full. (full.absent, omega (arith, full.full, lines, owes.quota)),
  λ out. record { absent = out.0; full = omega (arith, out.1, lines, owes.quota) },
)
  where
    lines : length (lent pool hold).entries ≡ out_of pool hold.owner
    lines =
        length-map hold.entries (lent_entry pool) ∙ sym (length-map hold.entries (λ (place : Place). place.slot))
        ∙ owes.keeps.all
