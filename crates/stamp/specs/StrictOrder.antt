-- what makes a relation of stamps a strict total order
use Rattle.std.specs.Prelude.{◌≡◌, Bool, true, false}
use Rattle.stamp.specs.Stamps.{Stamp}

-- of any two different stamps exactly one comes before the other
pub record IsStrictTotalOrder (before : Stamp → Stamp → Bool) : Type 0 where
  pub irreflexive : (a : Stamp) → before a a ≡ false
  pub transitive : (a b c : Stamp) → before a b ≡ true → before b c ≡ true → before a c ≡ true
  pub asymmetric : (a b : Stamp) → before a b ≡ true → before b a ≡ false
  pub total : (a b : Stamp) → before a b ≡ false → before b a ≡ false → a ≡ b
