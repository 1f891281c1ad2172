-- A letter is I exactly where the line is not there.
use Rattle.std.proofs.Common.{◌≡◌, ◌∙◌, ℕ, Bool, true, false, Option, None, Some, is_some, ap, refl, sym}
use Rattle.std.specs.Prelude.{◌↔◌}
use Rattle.moesi.specs.declared.letter.Letter.{Letter}
use Rattle.moesi.specs.declared.letter.Letter.TheVariants.{I}
use Rattle.residency.specs.Cache.{is_resident, letter_in, letter_of, way_of}
use Rattle.cache_sets.specs.Cached.{Cached}
use Rattle.cache_sets.specs.Calls.{IsCached}
use Rattle.residency.specs.Residency.{Way}

pub absent_letter : (cached : Cached) (line : ℕ) (letter : Letter) → IsCached cached →
    letter ≡ letter_of cached.residency line → (letter ≡ I) ↔ (is_resident cached.residency line ≡ false)
absent_letter cached line letter kept is = by (way_of cached.residency line) refl
  where
    not_both : (b : Bool) → b ≡ false → b ≡ true → ⊥
    not_both b first second = absurd (cc)

    by : (found : Option Way) → way_of cached.residency line ≡ found →
        (letter ≡ I) ↔ (is_resident cached.residency line ≡ false)
    by None none = (λ absent. ap is_some none, λ absent. is ∙ ap letter_in none)
    by (Some way) some = (
      λ absent. absurd (kept.well_formed.valid line line way some (sym (is ∙ ap letter_in some) ∙ absent)),
      λ absent. absurd (not_both (is_some (way_of cached.residency line)) absent (ap is_some some)),
    )
