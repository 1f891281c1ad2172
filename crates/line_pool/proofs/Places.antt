-- Where slots are among all slots: distinct ones apart, and all of them within.
use Rattle.std.proofs.Common.{◌≡◌, ◌≢◌, ℕ, ◌<◌, true, List, [], length, slice_index, slice_index_or, slice_set, sum}
use Rattle.std.proofs.Common.{take, refl, ap, sym, ◌∙◌, inl, inr, arith}
use Rattle.std.proofs.lemmas.Bool.{cases_eq, cases_lt}
use Rattle.std.proofs.lemmas.Bool.Decides.{nat_tests}
use Rattle.std.proofs.lemmas.List.{get_or_past, get_or_read, get_or-map, get_or-set_other, get_or-set_same, get_or-take}
use Rattle.std.proofs.lemmas.List.{length-take-le, take-take}
use Rattle.std.proofs.lemmas.List.Sums.{sum_by_more_le}
use Rattle.line_pool.specs.declared.share.Share as code
use Rattle.line_pool.specs.declared.slot.Slot.{Slot}
use Rattle.line_pool.specs.Calls.{IsWritten}
use Rattle.line_pool.specs.Kept.{PoolStands, index_in, quotas_in, shown_pool}
use Rattle.line_pool.specs.Pooled.{Pooled, Share, bytes_of, has_slot, index_by, is_out, quota_of, quotas_of, share_of}
use Rattle.line_pool.specs.Pooled.{with_bytes, no_share}
use Rattle.line_pool.proofs.Steps.{out_there, quotas_shown, same_slots}

-- a list of quotas has as many slots
abbrev Has : List ℕ → Slot → Type 0
Has quotas slot = slot.place < slice_index quotas slot.owner

owner_within : (quotas : List ℕ) (slot : Slot) → Has quotas slot → slot.owner < length quotas
owner_within quotas slot has = elim (cases_lt slot.owner (length quotas)) [
  | inl within ↦ within
  | inr past ↦ absurd (omega (arith, has, get_or_past quotas slot.owner 0 past))
]

index_within : (quotas : List ℕ) (slot : Slot) → Has quotas slot → index_by quotas slot < sum quotas
index_within quotas slot has =
    omega (arith, has, sum_by_more_le (λ quota. quota) quotas slot.owner 0 (owner_within quotas slot has))

-- the slots of an owner end before those of a later one begin
earlier : (quotas : List ℕ) (slot other : Slot) → Has quotas slot → Has quotas other → slot.owner < other.owner
    → index_by quotas slot < index_by quotas other
earlier quotas slot other has other_has before =
    let first = sum_by_more_le (λ quota. quota) (take other.owner quotas) slot.owner 0 (omega (arith, long)) in
    let same = ap sum (take-take slot.owner other.owner quotas (omega arith)) in
    omega (arith, first, same, get_or-take other.owner quotas slot.owner 0 before, has)
  where
    long : length (take other.owner quotas) ≡ other.owner
    long = length-take-le other.owner quotas (omega (arith, owner_within quotas other other_has))

pub apart_by : (quotas : List ℕ) (slot other : Slot) → Has quotas slot → Has quotas other → other ≢ slot
    → index_by quotas other ≢ index_by quotas slot
apart_by quotas slot other has other_has apart same = elim (cases_eq other.owner slot.owner) [
  | inl owner ↦ apart (same_slots other slot owner (place owner))
  | inr differs ↦ elim (cases_lt slot.owner other.owner) [
    | inl before ↦ omega (arith, same, earlier quotas slot other has other_has before)
    | inr past ↦ omega (arith, same, earlier quotas other slot other_has has (omega arith))
  ]
]
  where
    place : other.owner ≡ slot.owner → other.place ≡ slot.place
    place owner = let e = ap (λ o. sum (take o quotas)) owner in omega (arith, same, e)

pub has_by : (pool : Pooled) (slot : Slot) → has_slot pool slot ≡ true → Has (quotas_of pool) slot
has_by pool slot has = grind (arith, nat_tests)

-- a slot that is out is one of the pool
pub has-out : (pool : Pooled) (slot : Slot) → is_out pool slot ≡ true → has_slot pool slot ≡ true
has-out pool slot out =
    let quota : quota_of pool slot.owner ≡ (share_of pool slot.owner).quota =
    get_or-map (λ (share : Share). share.quota) pool.shares slot.owner no_share 0 (out_there pool slot out) in
    grind (arith, nat_tests, quota, out)

-- the bytes of a slot after they were written, and those of the others
module _ (pool : Pooled) (total : length pool.lines ≡ sum (quotas_of pool)) (slot : Slot)
    (has : has_slot pool slot ≡ true)
    (bytes : List ℕ) where
  written_here : bytes_of (with_bytes pool slot bytes) slot ≡ bytes
  written_here =
      get_or-set_same pool.lines (index_by (quotas_of pool) slot) bytes []
      (omega (arith, total, index_within (quotas_of pool) slot (has_by pool slot has)))

  written_beside : (other : Slot) → has_slot pool other ≡ true → other ≢ slot
      → bytes_of (with_bytes pool slot bytes) other ≡ bytes_of pool other
  written_beside other there apart =
      get_or-set_other pool.lines (index_by (quotas_of pool) slot) (index_by (quotas_of pool) other) bytes []
      (apart_by (quotas_of pool) slot other (has_by pool slot has) (has_by pool other there) apart)

  pub is_written : IsWritten pool (with_bytes pool slot bytes) slot bytes
  is_written = record {
    here = written_here;
    others = written_beside;
    outs = λ other. refl;
    counts = λ owner. refl;
    quotas = refl;
  }

module _ (shares : List code.Share) (lines : List (List ℕ)) (stands : PoolStands shares (length lines)) (pool : Pooled)
    (is : shown_pool shares lines ≡ pool) (slot : Slot) (out : is_out pool slot ≡ true) (index : ℕ)
    (at : index ≡ index_in shares slot) where
  quotas_are : quotas_of pool ≡ quotas_in shares
  quotas_are = ap quotas_of (sym is) ∙ quotas_shown shares lines

  lines_are : pool.lines ≡ lines
  lines_are = ap (λ (p : Pooled). p.lines) (sym is)

  pool_total : length pool.lines ≡ sum (quotas_of pool)
  pool_total = ap length lines_are ∙ stands.total ∙ ap sum (sym quotas_are)

  index_is : index ≡ index_by (quotas_of pool) slot
  index_is = at ∙ ap (λ quotas. index_by quotas slot) (sym quotas_are)

  pub line_within : index < length lines
  line_within =
      let within = index_within (quotas_of pool) slot (has_by pool slot (has-out pool slot out)) in
      omega (arith, within, index_is, pool_total, ap length lines_are)

  pub line_read : (bytes : List ℕ) → bytes ≡ slice_index_or lines index bytes → bytes ≡ bytes_of pool slot
  line_read bytes read =
      get_or_read lines index bytes line_within read [] ∙ ap (λ n. slice_index_or lines n []) index_is
      ∙ ap (λ ls. slice_index_or ls (index_by (quotas_of pool) slot) []) (sym lines_are)

  pub line_lent : (bytes : List ℕ) → shown_pool shares (slice_set lines index bytes) ≡ with_bytes pool slot bytes
  line_lent bytes =
      ap (λ n. shown_pool shares (slice_set lines n bytes))
      (at ∙ ap (λ quotas. index_by quotas slot) (sym (quotas_shown shares lines)))
      ∙ ap (λ p. with_bytes p slot bytes) is

  pub line_written : (bytes : List ℕ) → IsWritten pool (with_bytes pool slot bytes) slot bytes
  line_written bytes = is_written pool pool_total slot (has-out pool slot out) bytes
