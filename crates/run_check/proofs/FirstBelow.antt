-- The first fault of several items.
use Rattle.std.proofs.Common.{◌≡◌, ℕ, zero, suc, ◌+◌, ◌<◌, Option, Some, None, refl, ap, ◌∙◌, inl, inr, subst, arith}
use Rattle.std.proofs.Common.{add-one}
use Rattle.std.specs.Option.{option_or}
use Rattle.std.proofs.lemmas.Bool.{cases_lt}
use Rattle.el_base.specs.declared.file_fault.FileFault.{FileFault}
use Rattle.el_base.proofs.Laws.Options.{or_none}
use Rattle.run_check.specs.Faults.{first_below}

-- the fault of the first item that has one is the first of any more items
pub found_at : (index count : ℕ) (fault : ℕ → Option FileFault) (found : FileFault) → first_below index fault ≡ None →
    fault index ≡ Some found → index < count → first_below count fault ≡ Some found
found_at index zero fault found none here within = absurd (omega arith)
found_at index (suc count) fault found none here within =
    elim (cases_lt index count) [
      | inl before ↦
          let earlier : first_below count fault ≡ Some found = found_at index count fault found none here before in
          ap (λ (first : Option FileFault). option_or first (fault count)) earlier
      | inr past ↦
          let same : index ≡ count = omega arith in
          let none' : first_below count fault ≡ None = subst (λ n. first_below n fault ≡ None) same none in
          let here' : fault count ≡ Some found = subst (λ n. fault n ≡ Some found) same here in
          ap (λ (first : Option FileFault). option_or first (fault count)) none' ∙ here'
    ]

-- one item more without a fault
pub none_more : (index : ℕ) (fault : ℕ → Option FileFault) → first_below index fault ≡ None → fault index ≡ None →
    first_below (index + 1) fault ≡ None
none_more index fault none here =
    rw (add-one index) (ap (λ (first : Option FileFault). option_or first (fault index)) none ∙ here)

-- where no item has a fault, each has none
pub none_each : (count : ℕ) (fault : ℕ → Option FileFault) → first_below count fault ≡ None → (k : ℕ) → k < count →
    fault k ≡ None
none_each zero fault none k within = absurd (omega arith)
none_each (suc count) fault none k within =
    let e = or_none (first_below count fault) (fault count) none in
    elim (cases_lt k count) [
      | inl before ↦ none_each count fault e.0 k before
      | inr past ↦ let same : count ≡ k = omega arith in subst (λ n. fault n ≡ None) same e.1
    ]

pub each_none : (count : ℕ) (fault : ℕ → Option FileFault) → ((k : ℕ) → k < count → fault k ≡ None) →
    first_below count fault ≡ None
each_none zero fault each = refl
each_none (suc count) fault each =
    ap (λ (first : Option FileFault). option_or first (fault count))
    (each_none count fault (λ k within. each k (omega arith)))
    ∙ each count (omega arith)
