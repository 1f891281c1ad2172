-- how the fields of a pool show it, and what they keep
use Rattle.std.specs.Prelude.{ℕ, true, ◌≡◌, ◌≤◌, ◌<◌, ◌++◌, ◌∷◌, [], nat_lt, if◌then◌else◌, List, Option, length, map}
use Rattle.std.specs.Prelude.{option_to_list, slice_index_or}
use Rattle.std.specs.Prelude.{slice_set, sum, take, vec_capacity}
use Rattle.line_pool.specs.declared.share.Share as code
use Rattle.line_pool.specs.declared.slot.Slot.{Slot}
use Rattle.line_pool.specs.Pooled.{Pooled, Share, index_by, is_out_in, times_in}

-- a share as contracts see it
abbrev pub shown_share : code.Share → Share
shown_share share = record { quota = share.quota; free = share.free.items }

-- the pool that these shares and lines show
abbrev pub shown_pool : List code.Share → List (List ℕ) → Pooled
shown_pool shares lines = record { shares = map shown_share shares; lines = lines }

-- the quota of each share, and where a slot is among all slots
abbrev pub quotas_in : List code.Share → List ℕ
quotas_in shares = map (λ share. share.quota) shares

abbrev pub index_in : List code.Share → Slot → ℕ
index_in shares slot = index_by (quotas_in shares) slot

-- the first places, so many
pub record AreFirst (number : ℕ) (places : List ℕ) : Type 0 where
  pub count : length places ≡ number
  pub each : (place : ℕ) → times_in places place ≡ (if nat_lt place number then 1 else 0)

-- what a share keeps whose slots begin at a place of all slots
pub record IsKept (first : ℕ) (share : code.Share) : Type 0 where
  pub start : share.start ≡ first
  -- there is room for all places, and each that is free is listed once
  pub room : share.quota ≤ vec_capacity share.free
  pub few : length share.free.items ≤ share.quota
  pub once : (place : ℕ) → times_in share.free.items place ≤ (if nat_lt place share.quota then 1 else 0)

-- a share of which all slots are free
pub record IsFull (first slots : ℕ) (share : code.Share) : Type 0 where
  pub kept : IsKept first share
  pub quota : share.quota ≡ slots
  pub all_free : AreFirst slots share.free.items

-- only the list of free places may have changed, and there is as much room
pub record SameBeside (old new : code.Share) : Type 0 where
  pub start : new.start ≡ old.start
  pub quota : new.quota ≡ old.quota
  pub room : vec_capacity new.free ≡ vec_capacity old.free

-- a place that was taken from a share, if one was free
pub record IsTakenFrom (old new : code.Share) (taken : Option ℕ) : Type 0 where
  pub free : old.free.items ≡ new.free.items ++ option_to_list taken
  pub beside : SameBeside old new

-- a place was given to a share
pub record IsGivenTo (old new : code.Share) (place : ℕ) : Type 0 where
  pub free : new.free.items ≡ old.free.items ++ place ∷ []
  pub beside : SameBeside old new

-- a place was given to the share of an owner, and the others are as they were
pub record IsGivenAt (owner place : ℕ) (old new : List code.Share) : Type 0 where
  pub share : (d : code.Share) → IsGivenTo (slice_index_or old owner d) (slice_index_or new owner d) place
  pub others : (d : code.Share) → new ≡ slice_set old owner (slice_index_or new owner d)

-- a place of an owner's share is out
abbrev pub IsOutAt : ℕ → ℕ → List code.Share → Type 0
IsOutAt owner place shares =
    (d : code.Share) → owner < length shares → is_out_in (shown_share (slice_index_or shares owner d)) place ≡ true

-- what each share keeps: the slots of an owner begin where those of the owner before it end
abbrev pub AreKept : List code.Share → Type 0
AreKept shares = (owner : ℕ) (d : code.Share) → owner < length shares →
    IsKept (sum (take owner (quotas_in shares))) (slice_index_or shares owner d)

-- what the fields of a pool keep
pub record PoolStands (shares : List code.Share) (lines : ℕ) : Type 0 where
  pub owners : length shares ≤ 16
  pub each : AreKept shares
  pub total : lines ≡ sum (quotas_in shares)
