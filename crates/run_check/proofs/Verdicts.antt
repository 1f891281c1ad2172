-- The verdict on a certificate.
use Rattle.std.proofs.Common.{◌≡◌, ℕ, ◌<◌, refl, sym, subst, arith, inl, inr}
use Rattle.std.proofs.lemmas.Bool.{cases_lt}
use Rattle.elf_image.specs.Program.{Program}
use Rattle.run_check.specs.Check.{CertificateHolds, IsFirst}
use Rattle.run_check.specs.Content.{Content}
use Rattle.run_check.specs.Differences.{number_of}
use Rattle.run_check.specs.declared.verdict.Difference.{Difference}
use Rattle.run_check.specs.declared.verdict.Difference.TheVariants.{View, Output, Memory}

-- one certificate has one verdict
apart : (program : Program) (content : Content) (kind other : Difference) (place at : ℕ) →
    IsFirst program content kind place → IsFirst program content other at → number_of kind < number_of other → ⊥
apart program content kind other place at first second low = first.here (second.earlier kind place low)

pub holds_or_differs : (program : Program) (content : Content) (kind : Difference) (place : ℕ) →
    CertificateHolds program content → IsFirst program content kind place → ⊥
holds_or_differs program content kind place holds first = first.here (holds kind place)

same_kind : (kind other : Difference) → number_of kind ≡ number_of other → kind ≡ other
same_kind View View e = refl
same_kind View Output e = absurd (omega arith)
same_kind View Memory e = absurd (omega arith)
same_kind Output View e = absurd (omega arith)
same_kind Output Output e = refl
same_kind Output Memory e = absurd (omega arith)
same_kind Memory View e = absurd (omega arith)
same_kind Memory Output e = absurd (omega arith)
same_kind Memory Memory e = refl

pub one_first : (program : Program) (content : Content) (kind other : Difference) (place at : ℕ) →
    IsFirst program content kind place → IsFirst program content other at → (kind ≡ other) × (place ≡ at)
one_first program content kind other place at first second =
    let kinds : kind ≡ other =
    elim (cases_lt (number_of kind) (number_of other)) [
      | inl low ↦ absurd (apart program content kind other place at first second low)
      | inr past ↦
          elim (cases_lt (number_of other) (number_of kind)) [
            | inl low ↦ absurd (apart program content other kind at place second first low)
            | inr past' ↦ same_kind kind other (omega arith)
          ]
    ]
    in
    let second' : IsFirst program content kind at = subst (λ k. IsFirst program content k at) (sym kinds) second in
    let places : place ≡ at =
    elim (cases_lt place at) [
      | inl low ↦ absurd (first.here (second'.before place low))
      | inr past ↦
          elim (cases_lt at place) [
            | inl low ↦ absurd (second'.here (first.before at low))
            | inr past' ↦ omega arith
          ]
    ]
    in (kinds, places)
