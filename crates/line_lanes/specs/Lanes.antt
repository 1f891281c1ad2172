-- how a line is read and written eight bytes at a time
use Rattle.std.specs.Prelude.{ℕ, ◌≡◌, ◌<◌, ◌≤◌, ◌+◌, List, [], ◌∷◌, slice_index}
use Rattle.std.specs.Int.{byte_at, from_le_bytes, w64}
use Rattle.line_lanes.specs.Merged.{merged_byte}

-- the eight bytes at a place as one number, the first lowest
abbrev pub lane_of : List ℕ → ℕ → ℕ
lane_of line place =
    from_le_bytes w64
    (slice_index line place ∷ slice_index line (place + 1) ∷ slice_index line (place + 2) ∷ slice_index line (place + 3)
    ∷ slice_index line (place + 4) ∷ slice_index line (place + 5) ∷ slice_index line (place + 6) ∷ slice_index line
    (place + 7) ∷ [])

-- eight bytes were put at a place
pub record IsPutAt (place : ℕ) (old new : List ℕ) (lane : ℕ) : Type 0 where
  pub here : (k : ℕ) → k < 8 → slice_index new (place + k) ≡ byte_at k lane
  pub below : (k : ℕ) → k < place → slice_index new k ≡ slice_index old k
  pub above : (k : ℕ) → place + 8 ≤ k → slice_index new k ≡ slice_index old k

-- the eight bytes at a place were merged
pub record IsMergedFrom (place : ℕ) (old new over : List ℕ) (mask : ℕ) : Type 0 where
  pub here : (k : ℕ) → place ≤ k → k < place + 8 → slice_index new k ≡ merged_byte old over mask k
  pub below : (k : ℕ) → k < place → slice_index new k ≡ slice_index old k
  pub above : (k : ℕ) → place + 8 ≤ k → slice_index new k ≡ slice_index old k
