-- the laws that are offered to the crates above, some of them passed on from below; every other file here is private
pub mod OtherLaws
use Rattle.std.proofs.Common.{◌≡◌, ◌≢◌, ◌⊎◌, ℕ, zero, suc, ◌+◌, ◌<◌, ◌≤◌, if◌then◌else◌, Bool, true, false, List, ◌∷◌}
use Rattle.std.proofs.Common.{[], length, slice_index_or}
use Rattle.std.proofs.Common.{refl, ap, sym, ◌∙◌, subst, inl, inr, arith}
use Rattle.std.proofs.Math.ListN.{get_or-map}
use Rattle.std.proofs.lemmas.Bool.{cases_eq}
use Rattle.std.proofs.lemmas.Bool.Decides.{nat_tests}
use Rattle.std.proofs.lemmas.List.Sums.{sum_by-cons}
use Rattle.line_pool.specs.declared.slot.Slot.{Slot}
use Rattle.line_pool.specs.Calls.{IsGiven, IsPooled, IsTaken, IsWritten}
use Rattle.line_pool.specs.Keeping.{Keeps, same_slot, times_among}
use Rattle.line_pool.specs.Pooled.{Pooled, Share, bytes_of, has_slot, index_by, is_out, out_of, owner_of, quota_of}
use Rattle.line_pool.specs.Pooled.{quotas_of, share_of, no_share}
use Rattle.line_pool.proofs.Counting.{outs-counted, outs_below}
use Rattle.line_pool.proofs.Places.{apart_by, has_by}
pub use Rattle.line_pool.proofs.Places.{has-out}
use Rattle.line_pool.proofs.Steps.{same_slots}

-- a pool without owners, for what holds with any
abbrev pub no_pool : Pooled
no_pool = record { shares = []; lines = [] }

-- the quota of an owner is that of its share
pub quota-share : (pool : Pooled) (owner : ℕ) → quota_of pool owner ≡ (share_of pool owner).quota
quota-share pool owner = get_or-map (λ (share : Share). share.quota) pool.shares owner no_share

-- no owner has more out than its quota, and what is out may be counted place by place
pub out-within : (pool : Pooled) (owner : ℕ) → out_of pool owner ≤ quota_of pool owner
out-within pool owner = omega (arith, quota-share pool owner)

pub out-counted : (pool : Pooled) (owner : ℕ) → IsPooled pool →
    outs_below (share_of pool owner) (quota_of pool owner) ≡ out_of pool owner
out-counted pool owner is =
    ap (outs_below (share_of pool owner)) (quota-share pool owner) ∙ outs-counted (share_of pool owner) (is.each owner)

-- slots of a pool lie apart
pub indexes_apart : (pool : Pooled) (slot other : Slot) → has_slot pool slot ≡ true →
    has_slot pool other ≡ true → other ≢ slot
    → index_by (quotas_of pool) other ≢ index_by (quotas_of pool) slot
indexes_apart pool slot other has other_has apart =
    apart_by (quotas_of pool) slot other (has_by pool slot has) (has_by pool other other_has) apart

pub owners_apart : (slot other : Slot) → owner_of other ≢ owner_of slot → other ≢ slot
owners_apart slot other differ same = differ (ap (λ (s : Slot). s.owner) same)

-- what another owner writes leaves the bytes of a slot that is out
pub other_bytes : (old new : Pooled) (slot other : Slot) (bytes : List ℕ) → IsWritten old new slot bytes →
    is_out old other ≡ true
    → owner_of other ≢ owner_of slot → bytes_of new other ≡ bytes_of old other
other_bytes old new slot other bytes written out differ =
    written.others other (has-out old other out) (owners_apart slot other differ)

-- a slot that is out stays out where another is taken
pub stays_out : (old new : Pooled) (owner : ℕ) (slot other : Slot) → IsTaken old new owner slot →
    is_out old other ≡ true
    → is_out new other ≡ true
stays_out old new owner slot other taken out = taken.others other apart ∙ out
  where
    apart : other ≢ slot
    apart same = let never = sym (ap (is_out old) same) ∙ out in grind (arith, nat_tests, never, taken.was_free)

-- two slots are one or not
same_or_not : (left right : Slot) → (left ≡ right) ⊎ (left ≢ right)
same_or_not left right = elim (cases_eq left.owner right.owner) [
  | inl owner ↦ elim (cases_eq left.place right.place) [
    | inl place ↦ inl (same_slots left right owner place)
    | inr differs ↦ inr (λ same. differs (ap (λ (s : Slot). s.place) same))
  ]
  | inr differs ↦ inr (λ same. differs (ap (λ (s : Slot). s.owner) same))
]

same-self : (slot : Slot) → same_slot slot slot ≡ true
same-self slot = grind (arith, nat_tests)

same-other : (left right : Slot) → right ≢ left → same_slot left right ≡ false
same-other left right apart = elim (cases_eq left.owner right.owner) [
  | inl owner ↦ elim (cases_eq left.place right.place) [
    | inl place ↦ absurd (apart (sym (same_slots left right owner place)))
    | inr differs ↦ grind (arith, nat_tests)
  ]
  | inr differs ↦ grind (arith, nat_tests)
]

among-cons : (first : Slot) (slots : List Slot) (slot : Slot)
    → times_among (first ∷ slots) slot ≡ (if same_slot first slot then 1 else 0) + times_among slots slot
among-cons first slots slot = sum_by-cons (λ other. if same_slot other slot then 1 else 0) first slots

among-first : (slot : Slot) (slots : List Slot) → times_among (slot ∷ slots) slot ≡ 1 + times_among slots slot
among-first slot slots =
    among-cons slot slots slot ∙ ap (λ same. (if same then 1 else 0) + times_among slots slot) (same-self slot)

among-rest : (first : Slot) (slots : List Slot) (slot : Slot) → slot ≢ first →
    times_among (first ∷ slots) slot ≡ times_among slots slot
among-rest first slots slot apart =
    omega (
      arith,
      among-cons first slots slot ∙ ap (λ same. (if same then 1 else 0) + times_among slots slot)
          (same-other first slot apart),
    )

-- a keeper of nothing
pub keeps-none : (pool : Pooled) (owner : ℕ) → out_of pool owner ≡ 0 → Keeps pool owner []
keeps-none pool owner none =
    record { own = λ slot differs. refl; out = λ slot. grind (arith, nat_tests); all = sym none }

-- which slots are kept, and not in which order
pub keeps-permuted : (pool : Pooled) (owner : ℕ) (slots others : List Slot) → Keeps pool owner slots →
    length others ≡ length slots
    → ((slot : Slot) → times_among others slot ≡ times_among slots slot) → Keeps pool owner others
keeps-permuted pool owner slots others keeps long same = record {
  own = λ slot differs. same slot ∙ keeps.own slot differs;
  out = λ slot. omega (arith, same slot, keeps.out slot);
  all = long ∙ keeps.all;
}

-- each slot that is kept is out, and of the keeper's owner
pub kept-out : (pool : Pooled) (owner : ℕ) (slots : List Slot) (slot : Slot) → Keeps pool owner slots →
    1 ≤ times_among slots slot
    → is_out pool slot ≡ true
kept-out pool owner slots slot keeps among = by_test (is_out pool slot) (keeps.out slot)
  where
    by_test : (out : Bool) → times_among slots slot ≤ (if out then 1 else 0) → out ≡ true
    by_test true few = refl
    by_test false few = absurd (omega arith)

pub kept-owner : (pool : Pooled) (owner : ℕ) (slots : List Slot) (slot : Slot) → Keeps pool owner slots →
    1 ≤ times_among slots slot
    → owner_of slot ≡ owner
kept-owner pool owner slots slot keeps among = elim (cases_eq slot.owner owner) [
  | inl same ↦ same
  | inr differs ↦ absurd (omega (arith, keeps.own slot differs))
]

pub listed-among : (slots : List Slot) (index : ℕ) (d : Slot) → index < length slots →
    1 ≤ times_among slots (slice_index_or slots index d)
listed-among [] index d within = absurd (omega arith)
listed-among (slot ∷ slots) zero d within = omega (arith, among-first slot slots)
listed-among (slot ∷ slots) (suc index) d within =
    omega (arith, listed-among slots index d (omega arith), among-cons slot slots (slice_index_or slots index d))

-- a slot that is taken is kept beside the others
pub keeps-taken : (old new : Pooled) (owner : ℕ) (slots : List Slot) (slot : Slot) → Keeps old owner slots →
    IsTaken old new owner slot
    → Keeps new owner (slot ∷ slots)
keeps-taken old new owner slots slot keeps taken = record {
  own = λ other differs.
      among-rest slot slots other (owners_apart slot other (λ same. differs (same ∙ taken.owned)))
      ∙ keeps.own other differs;
  out = λ other. elim (same_or_not other slot) [ inl same ↦ here other same | inr apart ↦ beside other apart ];
  all = omega (arith, keeps.all, taken.count);
}
  where
    here : (other : Slot) → other ≡ slot → times_among (slot ∷ slots) other ≤ (if is_out new other then 1 else 0)
    here other same =
        let P : Slot → Type 0 = λ s. times_among (slot ∷ slots) s ≤ (if is_out new s then 1 else 0) in
        subst P (sym same)
        (grind (arith, nat_tests, among-first slot slots, keeps.out slot, taken.was_free, taken.now_out))

    beside : (other : Slot) → other ≢ slot → times_among (slot ∷ slots) other ≤ (if is_out new other then 1 else 0)
    beside other apart =
        grind (arith, nat_tests, among-rest slot slots other apart, keeps.out other, taken.others other apart)

-- a slot that is given is kept no more
pub keeps-given : (old new : Pooled) (owner : ℕ) (slots : List Slot) (slot : Slot) → Keeps old owner (slot ∷ slots) →
    IsGiven old new slot
    → Keeps new owner slots
keeps-given old new owner slots slot keeps given = record {
  own = λ other differs. omega (arith, among-cons slot slots other, keeps.own other differs);
  out = λ other. elim (same_or_not other slot) [ inl same ↦ here other same | inr apart ↦ beside other apart ];
  all = omega (arith, keeps.all, count);
}
  where
    mine : slot.owner ≡ owner
    mine = kept-owner old owner (slot ∷ slots) slot keeps (omega (arith, among-first slot slots))

    count : out_of new owner + 1 ≡ out_of old owner
    count = ap (λ o. out_of new o + 1) (sym mine) ∙ given.count ∙ ap (out_of old) mine

    here : (other : Slot) → other ≡ slot → times_among slots other ≤ (if is_out new other then 1 else 0)
    here other same =
        let P : Slot → Type 0 = λ s. times_among slots s ≤ (if is_out new s then 1 else 0) in
        subst P (sym same) (grind (arith, nat_tests, among-first slot slots, keeps.out slot))

    beside : (other : Slot) → other ≢ slot → times_among slots other ≤ (if is_out new other then 1 else 0)
    beside other apart =
        grind (arith, nat_tests, among-rest slot slots other apart, keeps.out other, given.others other apart)

-- what others take, give and write leaves it
pub keeps-taken_other : (old new : Pooled) (owner other : ℕ) (slots : List Slot) (slot : Slot) → Keeps old owner slots
    → IsTaken old new other slot
    → other ≢ owner → Keeps new owner slots
keeps-taken_other old new owner other slots slot keeps taken differs = record {
  own = keeps.own;
  out = λ s. elim (same_or_not s slot) [
    | inl same ↦
        omega (arith, keeps.own s (λ mine. differs (sym taken.owned ∙ sym (ap (λ (t : Slot). t.owner) same) ∙ mine)))
    | inr apart ↦ grind (arith, nat_tests, keeps.out s, taken.others s apart)
  ];
  all = keeps.all ∙ sym (taken.other_counts owner (λ same. differs (sym same)));
}

pub keeps-given_other : (old new : Pooled) (owner : ℕ) (slots : List Slot) (slot : Slot) → Keeps old owner slots →
    IsGiven old new slot
    → owner_of slot ≢ owner → Keeps new owner slots
keeps-given_other old new owner slots slot keeps given differs = record {
  own = keeps.own;
  out = λ s. elim (same_or_not s slot) [
    | inl same ↦ omega (arith, keeps.own s (λ mine. differs (sym (ap (λ (t : Slot). t.owner) same) ∙ mine)))
    | inr apart ↦ grind (arith, nat_tests, keeps.out s, given.others s apart)
  ];
  all = keeps.all ∙ sym (given.other_counts owner (λ same. differs (sym same)));
}

pub keeps-written : (old new : Pooled) (owner : ℕ) (slots : List Slot) (slot : Slot) (bytes : List ℕ) →
    Keeps old owner slots
    → IsWritten old new slot bytes → Keeps new owner slots
keeps-written old new owner slots slot bytes keeps written = record {
  own = keeps.own;
  out = λ s. grind (arith, nat_tests, keeps.out s, written.outs s);
  all = keeps.all ∙ sym (written.counts owner);
}
