-- the reservations of other harts, one hart after another
use Rattle.std.proofs.Common.{◌≡◌, ◌≢◌, ◌∙◌, ℕ, ◌+◌, ◌<◌, ◌==◌, Bool, true, false, if◌then◌else◌, List, length, ap, sym}
use Rattle.std.proofs.Common.{subst, inl, inr, arith}
use Rattle.std.specs.Prelude.{slice_set}
use Rattle.std.proofs.lemmas.Bool.{cases_eq}
use Rattle.std.proofs.lemmas.Bool.Decides.{nat_tests}
use Rattle.std.proofs.lemmas.List.{get_or-set_other, get_or-set_same, length-set}
use Rattle.engine.specs.Parts.{own_at}
use Rattle.engine.specs.Unreserved.{AreUnreservedBelow, unreserved_beside}
use Rattle.hart_state.specs.Own.{new_own, OwnState}
use Rattle.rv_flat.specs.FlatState.{no_hart}

module _ (number h : ℕ) (lines : ℕ → Bool) (old new next : List OwnState)
    (so_far : AreUnreservedBelow number h lines old new)
    (inside : number < length new) where
  -- the hart itself is left out
  itself : number ≡ h → next ≡ new → AreUnreservedBelow (number + 1) h lines old next
  itself same is = subst (AreUnreservedBelow (number + 1) h lines old) (sym is) (record {
    count = so_far.count;
    own = so_far.own;
    below = λ g other less. so_far.below g other (omega (arith, less, other, same));
    above = λ g from. so_far.above g (omega (arith, from));
  })

  another : number ≢ h → next ≡ slice_set new number (unreserved_beside lines (own_at new number)) →
      AreUnreservedBelow (number + 1) h lines old next
  another apart is = subst (AreUnreservedBelow (number + 1) h lines old) (sym is) (record {
    count = length-set new number _ ∙ so_far.count;
    own = elsewhere h (λ same. apart (sym same)) ∙ so_far.own;
    below = λ g other less. elim (cases_eq g number) [
      | inl same ↦
          subst (λ k. own_at (slice_set new number (unreserved_beside lines (own_at new number))) k
          ≡ unreserved_beside lines (own_at old k)) (sym same)
          (get_or-set_same new number _ (new_own no_hart 0 0) inside
          ∙ ap (unreserved_beside lines) (so_far.above number (omega arith)))
      | inr differs ↦ elsewhere g differs ∙ so_far.below g other (omega (arith, less, differs))
    ];
    above = λ g from. elsewhere g (λ same. absurd (omega (arith, same, from))) ∙ so_far.above g (omega (arith, from));
  })
    where
      elsewhere : (g : ℕ) → g ≢ number →
          own_at (slice_set new number (unreserved_beside lines (own_at new number))) g ≡ own_at new g
      elsewhere g other = get_or-set_other new number g _ (new_own no_hart 0 0) other

  pub unreserved_more : next
      ≡ (if number == h then new else slice_set new number (unreserved_beside lines (own_at new number))) →
      AreUnreservedBelow (number + 1) h lines old next
  unreserved_more is = elim (cases_eq number h) [
    | inl same ↦
        let test : (number == h) ≡ true = grind (arith, nat_tests) in
        itself same
        (is ∙ ap (λ b. if b then new else slice_set new number (unreserved_beside lines (own_at new number))) test)
    | inr other ↦
        let test : (number == h) ≡ false = grind (arith, nat_tests) in
        another other
        (is ∙ ap (λ b. if b then new else slice_set new number (unreserved_beside lines (own_at new number))) test)
  ]
