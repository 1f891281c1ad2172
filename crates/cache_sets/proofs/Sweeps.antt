-- A loop that changes one set after another.
use Rattle.std.proofs.Common.{◌≡◌, ℕ, ◌+◌, ◌≤◌, ◌<◌, List, length, get_or, refl, sym, subst, inl, inr, ◌∙◌, arith}
use Rattle.std.specs.Prelude.{slice_set}
use Rattle.std.proofs.lemmas.Bool.{cases_eq}
use Rattle.std.proofs.lemmas.List.{get_or_read, get_or-set_other, get_or-set_same, length-set}
use Rattle.cache_sets.specs.declared.set.Set.{Set}
use Rattle.cache_sets.specs.declared.way.Way as known
use Rattle.cache_sets.specs.Kept.{AreChanged, IsChanged}

-- the sets below a place are changed, and the others are as they were
pub record AreChangedTo (change : known.Way → known.Way) (place : ℕ) (old now : List Set) : Type 0 where
  pub count : length now ≡ length old
  pub changed : (k : ℕ) (d : Set) → k < place → IsChanged change (get_or old k d) (get_or now k d)
  pub others : (k : ℕ) (d : Set) → place ≤ k → get_or now k d ≡ get_or old k d

pub changed-none : (change : known.Way → known.Way) (old : List Set) → AreChangedTo change 0 old old
changed-none change old = record {
  count = refl;
  changed = λ k d below. absurd (omega (arith, below));
  others = λ k d past. refl;
}

pub changed-more : (change : known.Way → known.Way) (place : ℕ) (old now : List Set) (item new : Set) →
    AreChangedTo change place old now
    → place < length now → item ≡ get_or now place item → IsChanged change item new
    → AreChangedTo change (place + 1) old (slice_set now place new)
changed-more change place old now item new are within read is = record {
  count = omega (arith, are.count, length-set now place new);
  changed = λ k d below. elim (cases_eq k place) [
    | inl same ↦
        subst (λ n. IsChanged change (get_or old n d) (get_or (slice_set now place new) n d)) (sym same)
        (subst (IsChanged change (get_or old place d)) (sym (get_or-set_same now place new d within))
        (subst (λ s. IsChanged change s new)
        (get_or_read now place item within read d ∙ are.others place d (omega arith)) is))
    | inr other ↦
        subst (IsChanged change (get_or old k d)) (sym (get_or-set_other now place k new d other))
        (are.changed k d (omega (arith, below, other)))
  ];
  others = λ k d past.
      get_or-set_other now place k new d (λ same. absurd (omega (arith, past, same)))
      ∙ are.others k d (omega (arith, past));
}

pub changed-all : (change : known.Way → known.Way) (place : ℕ) (old now : List Set) →
    AreChangedTo change place old now → length old ≤ place
    → AreChanged change old now
changed-all change place old now are past =
    record { count = are.count; each = λ k d within. are.changed k d (omega (arith, within, past)) }
