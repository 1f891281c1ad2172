-- which lines and bytes a hold has does not depend on the pool
use Rattle.std.proofs.Common.{◌≡◌, ◌==◌, ℕ, Bool, true, false, if◌then◌else◌, List, [], ◌∷◌, map, None, Some, is_some}
use Rattle.std.proofs.Common.{option_and_then, refl, ◌∙◌}
use Rattle.std.specs.Int.{bit_at}
use Rattle.std.specs.Prelude.{slice_index}
use Rattle.el_base.specs.Line.{line_number}
use Rattle.line_pool.specs.Pooled.{Pooled, bytes_of}
use Rattle.residency.specs.Residency.{Way}
use Rattle.section_view.specs.KeptRun.{HoldsMarked}
use Rattle.write_hold.specs.Held.{entry_of, held, held_at, holds, stored_at}
use Rattle.write_hold.specs.Slotted.{Place, Slotted, lent, lent_entry}

module _ (one other : Pooled) where
  held_line : (places : List Place) (line : ℕ) →
      holds (map (lent_entry one) places) line ≡ holds (map (lent_entry other) places) line
  held_line [] line = refl
  held_line (place ∷ places) line = by (held_line places line) (place.line == line)
    where
      by : holds (map (lent_entry one) places) line ≡ holds (map (lent_entry other) places) line → (here : Bool) →
          is_some (if here then Some (lent_entry one place) else entry_of (map (lent_entry one) places) line)
          ≡ is_some (if here then Some (lent_entry other place) else entry_of (map (lent_entry other) places) line)
      by rest true = refl
      by rest false = rest

  unstored : (place : Place) (at : ℕ) → stored_at (lent_entry one place) at ≡ None →
      stored_at (lent_entry other place) at ≡ None
  unstored place at none = by (bit_at place.mask at == 1) none
    where
      by : (set : Bool) → (if set then Some (slice_index (bytes_of one place.slot) at) else None) ≡ None
          → (if set then Some (slice_index (bytes_of other place.slot) at) else None) ≡ None
      by true none = absurd (cc)
      by false none = refl

  unheld : (places : List Place) (line at : ℕ) → held_at (map (lent_entry one) places) line at ≡ None
      → held_at (map (lent_entry other) places) line at ≡ None
  unheld [] line at none = refl
  unheld (place ∷ places) line at none = by (unheld places line at) (place.line == line) none
    where
      by : (held_at (map (lent_entry one) places) line at ≡ None →
          held_at (map (lent_entry other) places) line at ≡ None)
          → (here : Bool)
          → option_and_then (λ e. stored_at e at)
          (if here then Some (lent_entry one place) else entry_of (map (lent_entry one) places) line) ≡ None
          → option_and_then (λ e. stored_at e at)
          (if here then Some (lent_entry other place) else entry_of (map (lent_entry other) places) line)
          ≡ None
      by rest true none = unstored place at none
      by rest false none = rest none

  pub holds_alike : (hold : Slotted) (line : ℕ) →
      holds (lent one hold).entries line ≡ holds (lent other hold).entries line
  holds_alike hold line = held_line hold.entries line

  pub unheld_alike : (hold : Slotted) (address : ℕ) → held (lent one hold).entries address ≡ None →
      held (lent other hold).entries address ≡ None
  unheld_alike hold address none = unheld hold.entries (line_number address) _ none

  pub marked_alike : (cache : List (List Way)) (hold : Slotted) → HoldsMarked cache (lent one hold).entries
      → HoldsMarked cache (lent other hold).entries
  marked_alike cache hold marked line is = marked line (holds_alike hold line ∙ is)
