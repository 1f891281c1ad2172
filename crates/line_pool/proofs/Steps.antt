-- A pool after a slot was taken or given.
use Rattle.std.proofs.Common.{◌≡◌, ◌≢◌, ℕ, ◌+◌, ◌<◌, ◌≤◌, true, false, List, ◌∷◌, [], ◌++◌, length, map, slice_index_or}
use Rattle.std.proofs.Common.{slice_set, sum, take, refl}
use Rattle.std.proofs.Common.{ap, sym, ◌∙◌, subst, inl, inr, arith}
use Rattle.std.proofs.lemmas.Bool.{cases_eq, cases_lt}
use Rattle.std.proofs.lemmas.Bool.Decides.{nat_tests}
use Rattle.std.proofs.lemmas.List.{append-nil, get_or_default, get_or_past, get_or-map, get_or-set_other}
use Rattle.std.proofs.lemmas.List.{get_or-set_same, length-map, length-set}
use Rattle.std.proofs.lemmas.List.{map-set, set-get_or}
use Rattle.std.proofs.Math.Seq.{map-set_same}
use Rattle.line_pool.specs.declared.share.Share as code
use Rattle.line_pool.specs.declared.slot.Slot.{Slot}
use Rattle.line_pool.specs.Calls.{IsGiven, IsShare, IsTaken}
use Rattle.line_pool.specs.Kept.{IsGivenAt, IsGivenTo, IsKept, IsOutAt, SameBeside, PoolStands, quotas_in, shown_pool}
use Rattle.line_pool.specs.Kept.{shown_share}
use Rattle.line_pool.specs.Pooled.{Pooled, Share, bytes_of, is_out, is_out_in, out_in, out_of, quotas_of, share_of}
use Rattle.line_pool.specs.Pooled.{no_share}
use Rattle.line_pool.proofs.Moves.{IsMoved, kept_share, less_is, more_is, moved}

pub same_slots : (left right : Slot) → left.owner ≡ right.owner → left.place ≡ right.place → left ≡ right
same_slots left right owner place =
    ap (λ o. record { owner = o; place = left.place }) owner ∙ ap (λ p. record { owner = right.owner; place = p }) place

-- the quotas of the pool that shares show
pub quotas_shown : (shares : List code.Share) (lines : List (List ℕ)) →
    quotas_of (shown_pool shares lines) ≡ quotas_in shares
quotas_shown [] lines = refl
quotas_shown (share ∷ shares) lines = ap (λ rest. share.quota ∷ rest) (quotas_shown shares lines)

-- an owner of a pool has a share
pub owner_there : (shares : List code.Share) (lines : List (List ℕ)) (pool : Pooled) (owner index : ℕ) →
    shown_pool shares lines ≡ pool
    → owner < length (quotas_of pool) → index ≡ owner → index < length shares
owner_there shares lines pool owner index is there same =
    let shown : length (quotas_in shares) ≡ length (quotas_of pool) =
    ap length (sym (quotas_shown shares lines) ∙ ap quotas_of is) in
    omega (arith, length-map shares (λ (share : code.Share). share.quota), shown)

-- an owner of a slot that is out has a share
pub out_there : (pool : Pooled) (slot : Slot) → is_out pool slot ≡ true → slot.owner < length pool.shares
out_there pool slot out = elim (cases_lt slot.owner (length pool.shares)) [
  | inl within ↦ within
  | inr past ↦ absurd (nothing past)
]
  where
    nothing : length pool.shares ≤ slot.owner → ⊥
    nothing past =
        let none = get_or_past pool.shares slot.owner no_share past in
        let never : is_out_in no_share slot.place ≡ true = ap (λ share. is_out_in share slot.place) (sym none) ∙ out in
        grind (arith, nat_tests, never)

-- a slot that is out, as the code has its share
pub owner_of_slot : (shares : List code.Share) (lines : List (List ℕ)) (pool : Pooled) (slot : Slot) →
    shown_pool shares lines ≡ pool
    → is_out pool slot ≡ true → slot.owner < length shares
owner_of_slot shares lines pool slot is out =
    let shown : length (map shown_share shares) ≡ length pool.shares = ap (λ (p : Pooled). length p.shares) is in
    omega (arith, length-map shares shown_share, shown, out_there pool slot out)

pub out_at : (shares : List code.Share) (lines : List (List ℕ)) (pool : Pooled) (slot : Slot) →
    shown_pool shares lines ≡ pool
    → is_out pool slot ≡ true → IsOutAt slot.owner slot.place shares
out_at shares lines pool slot is out d within =
    ap (λ share. is_out_in share slot.place)
    (sym (get_or-map shown_share shares slot.owner d no_share within)
    ∙ ap (λ (p : Pooled). share_of p slot.owner) is) ∙ out

-- a slot that is free in one pool and out in another, which are alike beside it
record IsMovedIn (less more : Pooled) (slot : Slot) : Type 0 where
  out : is_out less slot ≡ true
  free : is_out more slot ≡ false
  others : (other : Slot) → other ≢ slot → is_out less other ≡ is_out more other
  count : out_of less slot.owner ≡ out_of more slot.owner + 1
  other_counts : (owner : ℕ) → owner ≢ slot.owner → out_of less owner ≡ out_of more owner

moved_in : (less more : Pooled) (slot : Slot) → IsMoved (share_of less slot.owner) (share_of more slot.owner) slot.place
    → ((owner : ℕ) → owner ≢ slot.owner → share_of less owner ≡ share_of more owner) → IsMovedIn less more slot
moved_in less more slot own others = record {
  out = own.out;
  free = own.free;
  others = λ other apart. elim (cases_eq other.owner slot.owner) [
    | inl same ↦ own_place other same (λ place. apart (same_slots other slot same place))
    | inr differs ↦ ap (λ share. is_out_in share other.place) (others other.owner differs)
  ];
  count = own.count;
  other_counts = λ owner differs. ap out_in (others owner differs);
}
  where
    own_place : (other : Slot) → other.owner ≡ slot.owner → (other.place ≡ slot.place → ⊥) →
        is_out less other ≡ is_out more other
    own_place other same apart =
        ap (λ owner. is_out_in (share_of less owner) other.place) same ∙ own.others other.place apart
        ∙ ap (λ owner. is_out_in (share_of more owner) other.place) (sym same)

-- the shares of the code, one of which changed beside its start and quota
module _ (shares : List code.Share) (lines : List (List ℕ)) (stands : PoolStands shares (length lines)) (owner : ℕ)
    (old new : code.Share)
    (there : owner < length shares) (read : old ≡ slice_index_or shares owner old) (beside : SameBeside old new) where
  abbrev old_pool : Pooled
  old_pool = shown_pool shares lines

  abbrev new_pool : Pooled
  new_pool = shown_pool (slice_set shares owner new) lines

  same_quotas : quotas_in (slice_set shares owner new) ≡ quotas_in shares
  same_quotas =
      map-set_same (λ (share : code.Share). share.quota) shares owner new old
      (beside.quota ∙ ap (λ (share : code.Share). share.quota) read)

  pub same_quotas_of : quotas_of new_pool ≡ quotas_of old_pool
  same_quotas_of = quotas_shown (slice_set shares owner new) lines ∙ same_quotas ∙ sym (quotas_shown shares lines)

  pub same_bytes : (other : Slot) → bytes_of new_pool other ≡ bytes_of old_pool other
  same_bytes other = ap (λ quotas. slice_index_or lines (sum (take other.owner quotas) + other.place) []) same_quotas_of

  old_shown : share_of old_pool owner ≡ shown_share old
  old_shown = get_or-map shown_share shares owner old no_share there ∙ ap shown_share (sym read)

  set_shown : new_pool.shares ≡ slice_set old_pool.shares owner (shown_share new)
  set_shown = map-set shown_share shares owner new

  new_shown : share_of new_pool owner ≡ shown_share new
  new_shown =
      ap (λ shown. slice_index_or shown owner no_share) set_shown
      ∙ get_or-set_same old_pool.shares owner (shown_share new) no_share (omega (arith, length-map shares shown_share))

  others_shown : (o : ℕ) → o ≢ owner → share_of new_pool o ≡ share_of old_pool o
  others_shown o apart =
      ap (λ shown. slice_index_or shown o no_share) set_shown
      ∙ get_or-set_other old_pool.shares owner o (shown_share new) no_share apart

  old_kept : IsKept (sum (take owner (quotas_in shares))) old
  old_kept =
      let P : code.Share → Type 0 = λ share. IsKept (sum (take owner (quotas_in shares))) share in
      subst P (sym read) (stands.each owner old there)

  old_is : IsShare (shown_share old)
  old_is = kept_share (sum (take owner (quotas_in shares))) old old_kept

  -- what the pool keeps, if the share does
  pub still_stands : length new.free.items ≤ new.quota → IsShare (shown_share new) →
      PoolStands (slice_set shares owner new) (length lines)
  still_stands few share = record {
    owners = omega (arith, length-set shares owner new, stands.owners);
    each =
        λ o e within. elim (cases_eq o owner) [
          | inl same ↦ own o e same
          | inr apart ↦ other o e apart (omega (arith, length-set shares owner new))
        ];
    total = stands.total ∙ ap sum (sym same_quotas);
  }
    where
      new_kept : IsKept (sum (take owner (quotas_in shares))) new
      new_kept = record {
        start = beside.start ∙ old_kept.start;
        room = omega (arith, beside.quota, beside.room, old_kept.room);
        few = few;
        once = share.once;
      }

      own : (o : ℕ) (e : code.Share) → o ≡ owner
          → IsKept (sum (take o (quotas_in (slice_set shares owner new))))
          (slice_index_or (slice_set shares owner new) o e)
      own o e same =
          let P : ℕ → Type 0 =
          λ k. IsKept (sum (take k (quotas_in (slice_set shares owner new))))
          (slice_index_or (slice_set shares owner new) k e) in
          let Q : List ℕ → Type 0 =
          λ quotas. IsKept (sum (take owner quotas)) (slice_index_or (slice_set shares owner new) owner e) in
          let R : code.Share → Type 0 = λ share. IsKept (sum (take owner (quotas_in shares))) share in
          subst P (sym same)
          (subst Q (sym same_quotas) (subst R (sym (get_or-set_same shares owner new e there)) new_kept))

      other : (o : ℕ) (e : code.Share) → o ≢ owner → o < length shares
          → IsKept (sum (take o (quotas_in (slice_set shares owner new))))
          (slice_index_or (slice_set shares owner new) o e)
      other o e apart within =
          let Q : List ℕ → Type 0 =
          λ quotas. IsKept (sum (take o quotas)) (slice_index_or (slice_set shares owner new) o e) in
          let R : code.Share → Type 0 = λ share. IsKept (sum (take o (quotas_in shares))) share in
          subst Q (sym same_quotas)
          (subst R (sym (get_or-set_other shares owner o new e apart)) (stands.each o e within))

  -- nothing was taken
  module _ (none : old.free.items ≡ new.free.items ++ []) where
    same : old.free.items ≡ new.free.items
    same = none ∙ append-nil new.free.items

    same_share : shown_share old ≡ shown_share new
    same_share =
        ap (λ free. record { quota = old.quota; free = free }) same
        ∙ ap (λ quota. record { quota = quota; free = new.free.items }) (sym beside.quota)

    pub same_stands : PoolStands (slice_set shares owner new) (length lines)
    same_stands = let is = subst IsShare same_share old_is in still_stands is.few is

    pub same_pool : new_pool ≡ old_pool
    same_pool =
        ap (λ shown. record { shares = shown; lines = lines })
        (set_shown ∙ ap (λ share. slice_set old_pool.shares owner share) (sym same_share ∙ sym old_shown)
        ∙ set-get_or old_pool.shares owner no_share)

  -- a place was taken
  module _ (place : ℕ) (free : old.free.items ≡ new.free.items ++ place ∷ []) where
    pub taken_stands : PoolStands (slice_set shares owner new) (length lines)
    taken_stands =
        let is = less_is (shown_share new) (shown_share old) place beside.quota free old_is in still_stands is.few is

    pub taken : IsTaken old_pool new_pool owner (record { owner = owner; place = place })
    taken =
        let slot : Slot = record { owner = owner; place = place } in
        let own = moved (shown_share new) (shown_share old) place beside.quota free old_is in
        let P : Share → Type 0 = λ share. IsMoved share (share_of old_pool owner) place in
        let Q : Share → Type 0 = λ share. IsMoved (shown_share new) share place in
        let all =
        moved_in new_pool old_pool slot (subst P (sym new_shown) (subst Q (sym old_shown) own)) others_shown in
        record {
          owned = refl;
          was_free = all.free;
          now_out = all.out;
          others = all.others;
          count = all.count;
          other_counts = all.other_counts;
          quotas = same_quotas_of;
          bytes = same_bytes;
        }

  -- a place was given
  module _ (place : ℕ) (free : new.free.items ≡ old.free.items ++ place ∷ [])
      (out : is_out_in (shown_share old) place ≡ true) where
    new_is : IsShare (shown_share new)
    new_is = more_is (shown_share old) (shown_share new) place (sym beside.quota) free old_is out

    pub given_stands : PoolStands (slice_set shares owner new) (length lines)
    given_stands = still_stands new_is.few new_is

    pub given : IsGiven old_pool new_pool (record { owner = owner; place = place })
    given =
        let slot : Slot = record { owner = owner; place = place } in
        let own = moved (shown_share old) (shown_share new) place (sym beside.quota) free new_is in
        let P : Share → Type 0 = λ share. IsMoved share (share_of new_pool owner) place in
        let Q : Share → Type 0 = λ share. IsMoved (shown_share old) share place in
        let all =
        moved_in old_pool new_pool slot (subst P (sym old_shown) (subst Q (sym new_shown) own))
        (λ o apart. sym (others_shown o apart)) in
        record {
          now_free = all.free;
          others = λ other apart. sym (all.others other apart);
          count = sym all.count;
          other_counts = λ o apart. sym (all.other_counts o apart);
          quotas = same_quotas_of;
          bytes = same_bytes;
        }

-- the shares of the code after a slot was given
pub record IsGivenBack (shares now : List code.Share) (lines : List (List ℕ)) (slot : Slot) : Type 0 where
  pub stands : PoolStands now (length lines)
  pub given : IsGiven (shown_pool shares lines) (shown_pool now lines) slot

given_with : (shares now : List code.Share) (lines : List (List ℕ)) (slot : Slot) → PoolStands shares (length lines) →
    (old new : code.Share)
    → slot.owner < length shares → old ≡ slice_index_or shares slot.owner old → IsGivenTo old new slot.place
    → is_out_in (shown_share old) slot.place ≡ true → now ≡ slice_set shares slot.owner new →
    IsGivenBack shares now lines slot
given_with shares now lines slot stands old new there read at out is =
    subst (λ list. IsGivenBack shares list lines slot) (sym is) (record {
      stands = given_stands shares lines stands slot.owner old new there read at.beside slot.place at.free out;
      given = given shares lines stands slot.owner old new there read at.beside slot.place at.free out;
    })

pub given_back : (shares now : List code.Share) (lines : List (List ℕ)) (slot : Slot) → PoolStands shares (length lines)
    → slot.owner < length shares
    → IsOutAt slot.owner slot.place shares → IsGivenAt slot.owner slot.place shares now →
    IsGivenBack shares now lines slot
given_back [] now lines slot stands there out at = absurd (omega arith)
given_back (first ∷ rest) now lines slot stands there out at =
    let old = slice_index_or (first ∷ rest) slot.owner first in
    given_with (first ∷ rest) now lines slot stands old (slice_index_or now slot.owner first) there
    (get_or_default (first ∷ rest) slot.owner first old there) (at.share first) (out first there) (at.others first)
