-- Sums over all lines of a cache, after a set of it changed, and the parts that lines have in them.
use Rattle.std.proofs.Common.{◌≡◌, ◌≢◌, ℕ, ◌+◌, ◌%◌, ◌≤◌, ◌<◌, List, [], ◌∷◌, length, map, get_or, Option, None, Some}
use Rattle.std.proofs.Common.{refl, ap, sym, inl, inr, ◌∙◌, arith}
use Rattle.std.specs.Option.{option_map_or}
use Rattle.std.specs.List.{sum_by}
use Rattle.std.specs.Prelude.{slice_set}
use Rattle.std.proofs.lemmas.Bool.{cases_eq}
use Rattle.std.proofs.lemmas.List.{get_or-set_other, length-set}
use Rattle.std.proofs.lemmas.List.Sums.{get_or-le-sum_by, sum_by-cons, sum_by-set}
use Rattle.cache_sets.specs.declared.line.Line as code
use Rattle.residency.specs.Keyed.{changed, count_of, found, fronted, without}
use Rattle.cache_sets.specs.Kept.{left_by, line_at, number_of, set_at, total, with_lines}
use Rattle.residency.proofs.Laws.KeyedLemmas.{found-le-sum_by, sum_by-changed, sum_by-fronted, sum_by-without}
use Rattle.residency.proofs.Laws.KeyedLemmas.{two_found}
use Rattle.cache_sets.proofs.Shown.{sum-map}

module _ (f : code.Line → ℕ) (cache : List (List code.Line)) (line : ℕ) (some : 0 < length cache) where
  pub total-with : (set : List code.Line) →
      total f (with_lines cache line set) + sum_by f (set_at cache line) ≡ total f cache + sum_by f set
  total-with set = sum_by-set (λ s. sum_by f s) cache (line % length cache) set [] (omega arith)

  -- what a line has of the sum
  abbrev part : (code.Line → ℕ) → ℕ
  part g = option_map_or g (line_at cache line) 0

  pub part-at : (l : code.Line) → line_at cache line ≡ Some l → f l ≤ total f cache
  part-at l is =
      omega (
        arith,
        found-le-sum_by number_of f (set_at cache line) line l is,
        get_or-le-sum_by (λ s. sum_by f s) cache (line % length cache) [] (omega arith),
      )

  -- and two lines have together
  pub parts-at : (other : ℕ) (l o : code.Line) → count_of number_of (set_at cache line) line ≤ 1 → other ≢ line
      → line_at cache line ≡ Some l → line_at cache other ≡ Some o → f l + f o ≤ total f cache
  parts-at other l o once apart is there = elim (cases_eq (other % length cache) (line % length cache)) [
    | inl same ↦
        omega (
          arith,
          two_found number_of f (set_at cache line) line other l o once apart is
              (ap (λ n. found number_of (get_or cache n []) other) (sym same) ∙ there),
          get_or-le-sum_by (λ s. sum_by f s) cache (line % length cache) [] (omega arith),
        )
    | inr differs ↦
        let beside = slice_set cache (line % length cache) [] in
        let kept = get_or-set_other cache (line % length cache) (other % length cache) [] [] differs in
        omega (
          arith,
          found-le-sum_by number_of f (set_at cache line) line l is,
          found-le-sum_by number_of f (set_at cache other) other o there,
          ap (λ s. sum_by f s) kept,
          get_or-le-sum_by (λ s. sum_by f s) beside (other % length cache) []
              (omega (arith, length-set cache (line % length cache) [])),
          total-with [],
        )
  ]

  module _ (once : (l : ℕ) → count_of number_of (set_at cache line) l ≤ 1) where
    pub total-fronted : total f (with_lines cache line (fronted number_of (set_at cache line) line)) ≡ total f cache
    total-fronted =
        omega (
          arith,
          total-with (fronted number_of (set_at cache line) line),
          sum_by-fronted number_of f (set_at cache line) line (once line),
        )

    pub total-changed : (change : code.Line → code.Line) →
        total f (with_lines cache line (changed number_of change (set_at cache line) line)) + part f
        ≡ total f cache + part (λ l. f (change l))
    total-changed change =
        omega (
          arith,
          total-with (changed number_of change (set_at cache line) line),
          sum_by-changed number_of f change (set_at cache line) line (once line),
        )

    pub total-kept : (change : code.Line → code.Line) → ((l : code.Line) → f (change l) ≡ f l)
        → total f (with_lines cache line (changed number_of change (set_at cache line) line)) ≡ total f cache
    total-kept change stays = omega (arith, total-changed change, same (line_at cache line))
      where
        same : (l : Option code.Line) → option_map_or (λ x. f (change x)) l 0 ≡ option_map_or f l 0
        same None = refl
        same (Some l) = stays l

    pub total-without : total f (with_lines cache line (without number_of (set_at cache line) line))
        + part f ≡ total f cache
    total-without =
        omega (
          arith,
          total-with (without number_of (set_at cache line) line),
          sum_by-without number_of f (set_at cache line) line (once line),
        )

    left_sum : (gone : Option code.Line) →
        ((l : code.Line) → gone ≡ Some l → found number_of (set_at cache line) (number_of l) ≡ Some l)
        → sum_by f (left_by (set_at cache line) gone) + option_map_or f gone 0 ≡ sum_by f (set_at cache line)
    left_sum None there = omega arith
    left_sum (Some l) there =
        omega (
          arith,
          sum_by-without number_of f (set_at cache line) (number_of l) (once (number_of l)),
          ap (λ w. option_map_or f w 0) (there l refl),
        )

    pub total-filled : (gone : Option code.Line) (new : code.Line)
        → ((l : code.Line) → gone ≡ Some l → found number_of (set_at cache line) (number_of l) ≡ Some l)
        → total f (with_lines cache line (new ∷ left_by (set_at cache line) gone)) + option_map_or f gone 0
        ≡ total f cache + f new
    total-filled gone new there =
        omega (
          arith,
          total-with (new ∷ left_by (set_at cache line) gone),
          sum_by-cons f new (left_by (set_at cache line) gone),
          left_sum gone there,
        )

-- a sum after a change of every line
pub total-map : (f : code.Line → ℕ) (change : code.Line → code.Line) (cache : List (List code.Line))
    → total f (map (map change) cache) ≡ total (λ l. f (change l)) cache
total-map f change [] = refl
total-map f change (set ∷ cache) =
    omega (
      arith,
      sum_by-cons (λ s. sum_by f s) (map change set) (map (map change) cache),
      sum_by-cons (λ s. sum_by (λ l. f (change l)) s) set cache,
      sum-map f change set,
      total-map f change cache,
    )

sum-none : (f : code.Line → ℕ) (set : List code.Line) → ((l : code.Line) → f l ≡ 0) → sum_by f set ≡ 0
sum-none f [] none = refl
sum-none f (l ∷ set) none = omega (arith, sum_by-cons f l set, none l, sum-none f set none)

pub total-none : (f : code.Line → ℕ) (cache : List (List code.Line)) → ((l : code.Line) → f l ≡ 0) → total f cache ≡ 0
total-none f [] none = refl
total-none f (set ∷ cache) none =
    omega (arith, sum_by-cons (λ s. sum_by f s) set cache, sum-none f set none, total-none f cache none)
