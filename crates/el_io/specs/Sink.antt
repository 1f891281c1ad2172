-- What a sink took.
use Rattle.std.specs.Prelude.{◌≡◌, ℕ, ◌<◌, ◌⊎◌, List, [], ◌∷◌, ◌++◌, length, take, Option, None}
use Rattle.std.specs.Option.{option_map}

-- what a sink tells now is nothing, or what it told before with these bytes behind it
pub record Took (before now : Option (List ℕ)) (bytes : List ℕ) : Type 0 where
  pub grown : (now ≡ None) ⊎ (now ≡ option_map (λ told. told ++ bytes) before)

-- a sink took these bytes in as many puts as they needed, and is as it was where there are none
abbrev pub TookAll : Option (List ℕ) → Option (List ℕ) → List ℕ → Type 0
TookAll before now [] = now ≡ before
TookAll before now (byte ∷ bytes) = Took before now (byte ∷ bytes)

-- a sink took some of these bytes, from the first on, and not all
pub record TookPart (before now : Option (List ℕ)) (bytes : List ℕ) : Type 0 where
  pub count : ℕ
  pub short : count < length bytes
  pub part : TookAll before now (take count bytes)
