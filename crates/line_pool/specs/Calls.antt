-- what each call makes of a pool
use Rattle.std.specs.Prelude.{ℕ, ◌≡◌, ◌≢◌, ◌≤◌, ◌+◌, nat_lt, true, false, if◌then◌else◌, List, length, replicate, sum}
use Rattle.std.specs.Prelude.{sum_by}
use Rattle.line_pool.specs.declared.slot.Slot.{Slot}
use Rattle.line_pool.specs.Pooled.{Pooled, Share, bytes_of, has_slot, is_out, out_in, out_of, owner_of, quotas_of}
use Rattle.line_pool.specs.Pooled.{share_of, times_in}

-- what holds of every share: no more slots are free than it has, and each of them once
pub record IsShare (share : Share) : Type 0 where
  pub few : length share.free ≤ share.quota
  pub once : (place : ℕ) → times_in share.free place ≤ (if nat_lt place share.quota then 1 else 0)

-- what holds of every pool
pub record IsPooled (pool : Pooled) : Type 0 where
  pub owners : length (quotas_of pool) ≤ 16
  pub each : (owner : ℕ) → IsShare (share_of pool owner)
  -- there are as many slots as all owners have
  pub total : length pool.lines ≡ sum (quotas_of pool)
  -- and each is out or free
  pub adds_up : sum_by out_in pool.shares + sum_by (λ share. length share.free) pool.shares ≡ length pool.lines

-- a pool was made
pub record IsMade (given : List ℕ) (pool : Pooled) : Type 0 where
  pub quotas : quotas_of pool ≡ given
  pub none_out : (slot : Slot) → is_out pool slot ≡ false
  pub none_counted : (owner : ℕ) → out_of pool owner ≡ 0
  pub zero : pool.lines ≡ replicate (sum given) (replicate 64 0)

-- a slot was taken for an owner
pub record IsTaken (old new : Pooled) (owner : ℕ) (slot : Slot) : Type 0 where
  pub owned : owner_of slot ≡ owner
  pub was_free : is_out old slot ≡ false
  pub now_out : is_out new slot ≡ true
  pub others : (other : Slot) → other ≢ slot → is_out new other ≡ is_out old other
  pub count : out_of new owner ≡ out_of old owner + 1
  pub other_counts : (o : ℕ) → o ≢ owner → out_of new o ≡ out_of old o
  pub quotas : quotas_of new ≡ quotas_of old
  pub bytes : (other : Slot) → bytes_of new other ≡ bytes_of old other

-- a slot was given back
pub record IsGiven (old new : Pooled) (slot : Slot) : Type 0 where
  pub now_free : is_out new slot ≡ false
  pub others : (other : Slot) → other ≢ slot → is_out new other ≡ is_out old other
  pub count : out_of new (owner_of slot) + 1 ≡ out_of old (owner_of slot)
  pub other_counts : (o : ℕ) → o ≢ owner_of slot → out_of new o ≡ out_of old o
  pub quotas : quotas_of new ≡ quotas_of old
  pub bytes : (other : Slot) → bytes_of new other ≡ bytes_of old other

-- the bytes of a slot were written
pub record IsWritten (old new : Pooled) (slot : Slot) (bytes : List ℕ) : Type 0 where
  pub here : bytes_of new slot ≡ bytes
  pub others : (other : Slot) → has_slot old other ≡ true → other ≢ slot → bytes_of new other ≡ bytes_of old other
  pub outs : (other : Slot) → is_out new other ≡ is_out old other
  pub counts : (owner : ℕ) → out_of new owner ≡ out_of old owner
  pub quotas : quotas_of new ≡ quotas_of old
