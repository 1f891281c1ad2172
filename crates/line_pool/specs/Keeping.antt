-- what one keeps who has all slots of an owner that are out
use Rattle.std.specs.Prelude.{ℕ, ◌≡◌, ◌≢◌, ◌≤◌, ◌==◌, ◌&&◌, if◌then◌else◌, Bool, List, count_by, length}
use Rattle.line_pool.specs.declared.slot.Slot.{Slot}
use Rattle.line_pool.specs.Pooled.{Pooled, is_out, out_of, owner_of}

abbrev pub same_slot : Slot → Slot → Bool
same_slot left right = (owner_of left == owner_of right) && (left.place == right.place)

-- how often a slot is among these
abbrev pub times_among : List Slot → Slot → ℕ
times_among slots slot = count_by (λ other. same_slot other slot) slots

-- these are all slots of an owner that are out, each once
pub record Keeps (pool : Pooled) (owner : ℕ) (slots : List Slot) : Type 0 where
  pub own : (slot : Slot) → owner_of slot ≢ owner → times_among slots slot ≡ 0
  pub out : (slot : Slot) → times_among slots slot ≤ (if is_out pool slot then 1 else 0)
  pub all : length slots ≡ out_of pool owner
