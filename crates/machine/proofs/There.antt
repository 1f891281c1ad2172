-- a line at which a byte is told lies in memory
use Rattle.std.proofs.Common.{◌≡◌, ℕ, ◌+◌, true, length, Option, Some, None, is_some, inl, inr, arith}
use Rattle.std.specs.Prelude.{IsNone, ◌↔◌}
use Rattle.std.proofs.lemmas.Bool.{cases_lt}
use Rattle.coherence.specs.Served.{Copies, HasLine}

pub there_by_byte : (copies : Copies) (line : ℕ) (told : Option ℕ) → (IsNone told ↔ (HasLine copies line → ⊥)) →
    is_some told ≡ true → HasLine copies line
there_by_byte copies line None outside some = absurd (cc)
there_by_byte copies line (Some byte) outside some =
    elim (cases_lt line copies.first) [
      | inl before ↦ absurd (not_none (outside.1 (λ there. omega (arith, before, there.from))))
      | inr from ↦ elim (cases_lt line (copies.first + length copies.lines)) [
        | inl below ↦ record { from = from; below = below }
        | inr past ↦ absurd (not_none (outside.1 (λ there. omega (arith, past, there.below))))
      ]
    ]
  where
    not_none : IsNone (Some byte) → ⊥
    not_none none = cc
