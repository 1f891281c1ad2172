-- a pool of slots, of which each owner has its share
use Rattle.std.specs.Prelude.{ℕ, ◌+◌, ◌-◌, ◌==◌, ◌&&◌, nat_lt, Bool, List, [], count_by, length, map, slice_index}
use Rattle.std.specs.Prelude.{slice_index_or, slice_set, sum, take}
use Rattle.line_pool.specs.declared.slot.Slot.{Slot}

-- one owner's share: how many slots it has, and the places of those that are free
pub record Share : Type 0 where
  pub quota : ℕ
  pub free : List ℕ

-- a pool as contracts see it: each owner's share, and the bytes of all slots, one owner's after another's
pub record Pooled : Type 0 where
  pub shares : List Share
  pub lines : List (List ℕ)

-- the owner that a slot is out to
abbrev pub owner_of : Slot → ℕ
owner_of slot = slot.owner

-- what stands for a slot where there is none
abbrev pub no_slot : Slot
no_slot = record { owner = 0; place = 0 }

-- the quota of each owner, and of one
abbrev pub quotas_of : Pooled → List ℕ
quotas_of pool = map (λ share. share.quota) pool.shares

abbrev pub quota_of : Pooled → ℕ → ℕ
quota_of pool owner = slice_index (quotas_of pool) owner

-- an owner's share; an owner that is not there has nothing
abbrev pub no_share : Share
no_share = record { quota = 0; free = [] }

abbrev pub share_of : Pooled → ℕ → Share
share_of pool owner = slice_index_or pool.shares owner no_share

-- how many slots of a share are out, and of an owner
abbrev pub out_in : Share → ℕ
out_in share = share.quota - length share.free

abbrev pub out_of : Pooled → ℕ → ℕ
out_of pool owner = out_in (share_of pool owner)

-- how often a place is listed
abbrev pub times_in : List ℕ → ℕ → ℕ
times_in places place = count_by (λ other. other == place) places

-- whether a place of a share is out: the share has it, and it is not free
abbrev pub is_out_in : Share → ℕ → Bool
is_out_in share place = nat_lt place share.quota && (times_in share.free place == 0)

-- whether a pool has a slot, and whether it is out
abbrev pub has_slot : Pooled → Slot → Bool
has_slot pool slot = nat_lt slot.place (quota_of pool (owner_of slot))

abbrev pub is_out : Pooled → Slot → Bool
is_out pool slot = is_out_in (share_of pool (owner_of slot)) slot.place

-- where a slot is among all slots, by the quotas of the owners
abbrev pub index_by : List ℕ → Slot → ℕ
index_by quotas slot = sum (take (owner_of slot) quotas) + slot.place

-- the bytes of a slot
abbrev pub bytes_of : Pooled → Slot → List ℕ
bytes_of pool slot = slice_index_or pool.lines (index_by (quotas_of pool) slot) []

-- a pool after a slot got these bytes
abbrev pub with_bytes : Pooled → Slot → List ℕ → Pooled
with_bytes pool slot bytes = record pool { lines = slice_set pool.lines (index_by (quotas_of pool) slot) bytes }
