-- lists whose elements have a key, such as the line of a way
use Rattle.std.specs.Prelude.{ℕ, ◌==◌, not, if◌then◌else◌, List, ◌∷◌, map, Option, find, filter, count_by}
use Rattle.std.specs.Option.{option_map_or}

module _ {X : Type 0} (key : X → ℕ) where
  -- the first element with a key
  abbrev pub found : List X → ℕ → Option X
  found xs k = find (λ x. key x == k) xs

  -- the list without those with a key
  abbrev pub without : List X → ℕ → List X
  without xs k = filter (λ x. not (key x == k)) xs

  -- the list after those with a key were changed
  abbrev pub changed_at : (X → X) → ℕ → X → X
  changed_at change k x = if key x == k then change x else x

  abbrev pub changed : (X → X) → List X → ℕ → List X
  changed change xs k = map (changed_at change k) xs

  -- the list after the one with a key came to its front
  abbrev pub fronted : List X → ℕ → List X
  fronted xs k = option_map_or (λ x. x ∷ without xs k) (found xs k) xs

  -- how many have a key
  abbrev pub count_of : List X → ℕ → ℕ
  count_of xs k = count_by (λ x. key x == k) xs
