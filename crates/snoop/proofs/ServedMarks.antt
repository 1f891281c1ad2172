-- a cache has a bit after a request was served where it had one
use Rattle.std.proofs.Common.{◌≡◌, ◌∙◌, ℕ, ◌||◌, Bool, true, false, not, eqb, List, Option, Some, None, refl, ap, sym}
use Rattle.std.proofs.Common.{arith, if◌then◌else◌}
use Rattle.std.specs.Option.{option_map_or}
use Rattle.residency.specs.Cache.{bit_in, filled_with, has_bit, has_marks, is_resident, letter_of, lettered, room_of}
use Rattle.residency.specs.Cache.{way_of, without_line}
use Rattle.residency.specs.Cache.{marks_of}
use Rattle.residency.specs.Residency.{Way}
use Rattle.residency.specs.WellFormed.{IsWellFormed}
use Rattle.residency.proofs.Laws.MarkLemmas.{has_marks-counted, has_marks-filled_with, has_marks-lettered}
use Rattle.residency.proofs.Laws.MarkLemmas.{has_marks-touched, mark_of, total-without_line}
use Rattle.el_base.specs.declared.outcomes.Need.{Need}
use Rattle.el_base.specs.declared.outcomes.Need.TheVariants.{Read, Write}
use Rattle.el_model.specs.Serve.{kept_letter, others_cache}
use Rattle.el_model.proofs.Laws.Tests.{by_test}
use Rattle.moesi.specs.Letters.{filled_of}
use Rattle.section_laws.proofs.Laws.ServedCaches.{own_after, own_well_formed}

no_mark : (way : Option Way) → (bit_in Read way || bit_in Write way) ≡ false → option_map_or mark_of way 0 ≡ 0
no_mark None none = refl
no_mark (Some way) none = ap (λ b. if b then 1 else 0) none

-- a line without bits leaves none behind
marks_without_line : (ways : ℕ) (cache : List (List Way)) (line : ℕ) → IsWellFormed ways cache →
    has_bit cache line ≡ false → has_marks (without_line cache line) ≡ has_marks cache
marks_without_line ways cache line well none =
    has_marks-counted (without_line cache line)
    ∙ ap (λ n. not (eqb n 0)) (let same : marks_of (without_line cache line) ≡ marks_of cache =
    omega (arith, total-without_line mark_of ways cache line well, no_mark (way_of cache line) none) in same)
    ∙ sym (has_marks-counted cache)

pub others_marks : (ways : ℕ) (had : Bool) (need : Need) (cache : List (List Way)) (line : ℕ) →
    IsWellFormed ways cache → (need ≡ Write → has_bit cache line ≡ false) →
    has_marks (others_cache had need cache line) ≡ has_marks cache
others_marks ways had Write cache line well unmet = marks_without_line ways cache line well (unmet refl)
others_marks ways true Read cache line well unmet = refl
others_marks ways false Read cache line well unmet = has_marks-lettered ways cache line _ well

pub own_after_marks : (ways : ℕ) (others : Bool) (need : Need) (cache : List (List Way)) (line : ℕ) →
    IsWellFormed ways cache → room_of ways cache line ≡ true →
    has_marks (own_after ways others need cache line) ≡ has_marks cache
own_after_marks ways others need cache line well room =
    has_marks-touched ways _ line (own_well_formed ways others need cache line well room)
    ∙ by_test (λ c. has_marks c ≡ has_marks cache) (is_resident cache line)
    (lettered cache line (kept_letter need (letter_of cache line)))
    (filled_with ways cache line (filled_of need others)) (λ here. has_marks-lettered ways cache line _ well)
    (λ absent. has_marks-filled_with ways cache line _ well)
