-- The harts that an event let go.
use Rattle.std.specs.Prelude.{ℕ, List, replicate}
use Rattle.std.specs.List.{flat_map, range_with_len}
use Rattle.el_base.specs.Nibbles.{first_eight, nibble_of, nibbles_to}
use Rattle.el_base.specs.declared.freed.Freed.{Freed}
use Rattle.el_base.specs.declared.hart_id.TheConstants.{MAX_HARTS}

-- how many instructions of this hart took effect
abbrev pub count_in : Freed → ℕ → ℕ
count_in freed h = nibble_of freed.counts h

-- the freed harts of whom each has the number that the map gives for it, cut at 15
abbrev pub freed_of : (ℕ → ℕ) → Freed
freed_of count = record { counts = nibbles_to (first_eight count) }

-- nobody was freed
abbrev pub no_one_freed : Freed
no_one_freed = freed_of (λ h. 0)

-- the first harts that were freed, in ascending order, each as often as instructions of it took effect
abbrev pub order_below : ℕ → Freed → List ℕ
order_below n freed = flat_map (λ h. replicate (count_in freed h) h) (range_with_len 0 n)

-- the harts that were freed, in ascending order, each as often as instructions of it took effect
unfoldable pub order_of : Freed → List ℕ
order_of freed = order_below MAX_HARTS freed
