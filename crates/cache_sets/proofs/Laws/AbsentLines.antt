-- Of a line that is not there nothing can be dropped, and no letter changes.
use Rattle.std.proofs.Common.{◌≡◌, ◌∙◌, ℕ, false, None, option_map, ap, refl, sym}
use Rattle.moesi.specs.declared.letter.Letter.{Letter}
use Rattle.residency.specs.Cache.{is_resident, way_of}
use Rattle.residency.proofs.Laws.AbsentWays.{lettered_absent, without_absent}
use Rattle.cache_sets.specs.Cached.{Cached, bytes_of, copy_in, copy_with_letter}
use Rattle.cache_sets.specs.Calls.{IsLettered, IsWithout}
use Rattle.el_base.proofs.Laws.Options.{none_from}

pub no_copy : (cached : Cached) (line : ℕ) → is_resident cached.residency line ≡ false → copy_in cached line ≡ None
no_copy cached line absent =
    ap (λ way. option_map (λ w. record { letter = w.letter; bytes = bytes_of cached line }) way)
    (none_from (way_of cached.residency line) absent)

-- so a cache is what it is after either
pub stays_without : (cached : Cached) (line : ℕ) → is_resident cached.residency line ≡ false →
    IsWithout cached cached line
stays_without cached line absent = record {
  ways = refl;
  residency = sym (without_absent cached.residency line absent);
  here = no_copy cached line absent;
  others = λ l other. refl;
}

pub stays_lettered : (cached : Cached) (line : ℕ) (letter : Letter) → is_resident cached.residency line ≡ false →
    IsLettered cached cached line letter
stays_lettered cached line letter absent = record {
  ways = refl;
  residency = sym (lettered_absent cached.residency line letter absent);
  here =
      no_copy cached line absent
      ∙ sym (ap (λ copy. option_map (copy_with_letter letter) copy) (no_copy cached line absent));
  others = λ l other. refl;
}
