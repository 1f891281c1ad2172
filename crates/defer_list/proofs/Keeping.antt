-- what is kept of each hart as it comes into the set and goes out of it
use Rattle.std.proofs.Common.{◌≡◌, ◌≢◌, ◌∙◌, ◌∷◌, ℕ, ◌<◌, ◌==◌, not, Bool, true, false, List, set, refl, sym, ap}
use Rattle.std.specs.Prelude.{filter, get_or}
use Rattle.std.proofs.lemmas.Grind.{get_or-set_at}
use Rattle.std.proofs.lemmas.List.{get_or-set_other, length-set}
use Rattle.el_base.proofs.Laws.Tests.{apart_by_test, number_of_test}
use Rattle.defer_list.specs.HartSet.{IsOnceEach, excluded, has, included, numbers}
use Rattle.defer_list.specs.Kept.{IsKept}
use Rattle.defer_list.specs.declared.told.Origin.{Origin}
use Rattle.defer_list.proofs.Laws.LookUps.{has_excluded_other, has_excluded_own, has_included_other, has_included_own}
use Rattle.defer_list.proofs.Laws.OnceEach.{added_included, filter_excluded, once_each_excluded, once_each_included}

module _ (items : List Origin) (holds : List Bool) (kept : IsKept items holds) where
  -- whether one hart is in the set has changed, and it is what is kept of the hart now
  kept_changed : (new : List Origin) (hart : ℕ) (there : Bool) → hart < 8 → IsOnceEach (numbers new) →
      has (numbers new) hart ≡ there →
      ((other : ℕ) → hart ≢ other → has (numbers new) other ≡ has (numbers items) other) →
      IsKept new (set holds hart there)
  kept_changed new hart there small once own others = record {
    once = once;
    count = length-set holds hart there ∙ kept.count;
    each = λ other below. by other below (hart == other) refl;
  }
    where
      by : (other : ℕ) → other < 8 → (b : Bool) → (hart == other) ≡ b →
          get_or (set holds hart there) other false ≡ has (numbers new) other
      by other below true e =
          let same = number_of_test hart other e in
          get_or-set_at holds hart other there false (sym same) (rw kept.count small)
          ∙ sym own
          ∙ ap (has (numbers new)) same
      by other below false e =
          let apart = apart_by_test hart other e in
          get_or-set_other holds hart other there false (λ same. apart (sym same))
          ∙ kept.each other below
          ∙ sym (others other apart)

  pub kept_added : (new : Origin) (after : List Origin) → has (numbers items) new.hart.number ≡ false →
      after ≡ new ∷ items → IsKept after (set holds new.hart.number true)
  kept_added new after none is =
      let hart : ℕ = new.hart.number in
      let added : numbers after ≡ included (numbers items) hart = ap numbers is ∙ added_included items new none in
      kept_changed after hart true new.hart.small
      (rw added (once_each_included (numbers items) hart kept.once))
      (rw added (has_included_own (numbers items) hart))
      (λ other apart. rw added (has_included_other (numbers items) hart other apart))

  pub kept_taken : (hart : ℕ) (after : List Origin) → hart < 8 →
      after ≡ filter (λ other. not (other.hart.number == hart)) items → IsKept after (set holds hart false)
  kept_taken hart after small is =
      let taken : numbers after ≡ excluded (numbers items) hart = ap numbers is ∙ filter_excluded items hart in
      kept_changed after hart false small
      (rw taken (once_each_excluded (numbers items) hart kept.once))
      (rw taken (has_excluded_own (numbers items) hart))
      (λ other apart. rw taken (has_excluded_other (numbers items) hart other apart))
