-- Of a line that is not there nothing can be dropped, and no letter changes.
use Rattle.std.proofs.Common.{◌≡◌, ℕ, Bool, true, false, List, [], ◌∷◌, None, Some, ap, refl, if◌then◌else◌, ◌==◌}
use Rattle.std.proofs.lemmas.List.{set-get_or}
use Rattle.moesi.specs.declared.letter.Letter.{Letter}
use Rattle.residency.specs.Cache.{is_resident, lettered, set_number, set_of, way_of, without_line}
use Rattle.residency.specs.Residency.{Way, changed_in, dropped, way_in, with_letter}
use Rattle.el_base.proofs.Laws.Cases.{some_none}
use Rattle.el_base.proofs.Laws.Options.{none_from}

dropped_absent : (set : List Way) (line : ℕ) → way_in set line ≡ None → dropped set line ≡ set
dropped_absent [] line absent = refl
dropped_absent (way ∷ ways) line absent = by (way.line == line) absent (λ none. dropped_absent ways line none)
  where
    by : (same : Bool) → (if same then Some way else way_in ways line) ≡ None →
        (way_in ways line ≡ None → dropped ways line ≡ ways) →
        (if same then dropped ways line else way ∷ dropped ways line) ≡ way ∷ ways
    by true none others = some_none none
    by false none others = ap (λ rest. way ∷ rest) (others none)

changed_absent : (change : Way → Way) (set : List Way) (line : ℕ) → way_in set line ≡ None →
    changed_in change set line ≡ set
changed_absent change [] line absent = refl
changed_absent change (way ∷ ways) line absent =
    by (way.line == line) absent (λ none. changed_absent change ways line none)
  where
    by : (same : Bool) → (if same then Some way else way_in ways line) ≡ None →
        (way_in ways line ≡ None → changed_in change ways line ≡ ways) →
        (if same then change way ∷ changed_in change ways line else way ∷ changed_in change ways line) ≡ way ∷ ways
    by true none others = some_none none
    by false none others = ap (λ rest. way ∷ rest) (others none)

pub without_absent : (cache : List (List Way)) (line : ℕ) → is_resident cache line ≡ false →
    without_line cache line ≡ cache
without_absent cache line absent =
    rw (dropped_absent (set_of cache line) line (none_from (way_of cache line) absent))
    (set-get_or cache (set_number cache line) [])

pub lettered_absent : (cache : List (List Way)) (line : ℕ) (letter : Letter) → is_resident cache line ≡ false →
    lettered cache line letter ≡ cache
lettered_absent cache line letter absent =
    rw (changed_absent (with_letter letter) (set_of cache line) line (none_from (way_of cache line) absent))
    (set-get_or cache (set_number cache line) [])
