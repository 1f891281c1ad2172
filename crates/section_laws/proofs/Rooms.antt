-- a line that has room in a cache still has, after a line left it or changed its letter
use Rattle.std.proofs.Common.{◌≡◌, ◌∙◌, ℕ, suc, ◌<◌, ◌≤◌, ◌==◌, ◌||◌, ◌⊎◌, Bool, true, false, cond, List, [], ◌∷◌}
use Rattle.std.proofs.Common.{length, Option, Some}
use Rattle.std.proofs.Common.{is_some, refl, ap, sym, inl, inr, arith}
use Rattle.std.specs.Prelude.{nat_lt, slice_index_or}
use Rattle.std.proofs.lemmas.Bool.{cases_eq}
use Rattle.residency.specs.Cache.{lettered, room_of, set_number, set_of, with_set, without_line}
use Rattle.residency.specs.Residency.{Way, changed_in, dropped, has_unmarked, is_marked, room_in, way_in, with_letter}
use Rattle.residency.specs.WellFormed.{IsWellFormed}
use Rattle.residency.proofs.Laws.CacheLemmas.{set_of-with_set_other, set_of-with_set_same}
use Rattle.residency.proofs.Laws.Rooms.{room_by_spare}
use Rattle.el_model.proofs.Laws.Tests.{by_test}
use Rattle.moesi.specs.declared.letter.Letter.{Letter}

-- room that a line has by one of three things: it is there, the set has a way to spare, or a line without bits
room_by : (a b c d e f : Bool) → (a ≡ true → d ≡ true) → (b ≡ true → e ≡ true) → (c ≡ true → f ≡ true) →
    (a || b || c) ≡ true → (d || e || f) ≡ true
room_by true b c d e f here fewer free is = let now = here refl in rw now refl
room_by false true c d e f here fewer free is = let now = fewer refl in rw now (or_true d f)
  where
    or_true : (x y : Bool) → ((x || true) || y) ≡ true
    or_true true y = refl
    or_true false y = refl
room_by false false true d e f here fewer free is = let now = free refl in rw now (or_last (d || e))
  where
    or_last : (x : Bool) → (x || true) ≡ true
    or_last true = refl
    or_last false = refl
room_by false false false d e f here fewer free is = absurd (cc)

-- a set without a line is the set, or has fewer lines
shorter : (set : List Way) (line : ℕ) → (dropped set line ≡ set) ⊎ (length (dropped set line) < length set)
shorter [] line = inl refl
shorter (way ∷ ways) line =
    by_test (λ left. (left ≡ way ∷ ways) ⊎ (length left < length (way ∷ ways))) (way.line == line) (dropped ways line)
    (way ∷ dropped ways line)
    (λ here. elim (shorter ways line) [
      | inl same ↦ inr (let e = ap length same in omega (arith, e))
      | inr fewer ↦ inr (omega (arith, fewer))
    ])
    (λ other. elim (shorter ways line) [
      | inl same ↦ inl (ap (λ left. way ∷ left) same)
      | inr fewer ↦ inr (omega (arith, fewer))
    ])

room_dropped : (ways : ℕ) (set : List Way) (line l : ℕ) → length set ≤ ways → room_in ways set l ≡ true →
    room_in ways (dropped set line) l ≡ true
room_dropped ways set line l within room =
    elim (shorter set line) [
      | inl same ↦ ap (λ left. room_in ways left l) same ∙ room
      | inr fewer ↦ room_by_spare ways (dropped set line) l (omega (arith, fewer, within))
    ]

-- another letter changes no line and no bit
letter_length : (letter : Letter) (set : List Way) (line : ℕ) →
    length (changed_in (with_letter letter) set line) ≡ length set
letter_length letter [] line = refl
letter_length letter (way ∷ ways) line =
    by_test (λ set. length set ≡ length (way ∷ ways)) (way.line == line) _ _
    (λ here. ap suc (letter_length letter ways line))
    (λ other. ap suc (letter_length letter ways line))

letter_here : (letter : Letter) (set : List Way) (line l : ℕ) → is_some (way_in set l) ≡ true →
    is_some (way_in (changed_in (with_letter letter) set line) l) ≡ true
letter_here letter [] line l here = here
letter_here letter (way ∷ ways) line l here =
    by_test (λ set. is_some (way_in set l) ≡ true) (way.line == line) _ _
    (λ same. found (way.line == l) (with_letter letter way) way _ (way_in ways l) (letter_here letter ways line l) here)
    (λ other. found (way.line == l) way way _ (way_in ways l) (letter_here letter ways line l) here)
  where
    found : (test : Bool) (a b : Way) (x y : Option Way) → (is_some y ≡ true → is_some x ≡ true) →
        is_some (cond test (Some b) y) ≡ true → is_some (cond test (Some a) x) ≡ true
    found true a b x y rest is = refl
    found false a b x y rest is = rest is

letter_free : (letter : Letter) (set : List Way) (line : ℕ) → has_unmarked set ≡ true →
    has_unmarked (changed_in (with_letter letter) set line) ≡ true
letter_free letter [] line free = free
letter_free letter (way ∷ ways) line free =
    by_test (λ set. has_unmarked set ≡ true) (way.line == line) _ _
    (λ same. else (is_marked way) _ (has_unmarked ways) (letter_free letter ways line) free)
    (λ other. else (is_marked way) _ (has_unmarked ways) (letter_free letter ways line) free)
  where
    else : (test x y : Bool) → (y ≡ true → x ≡ true) → cond test y true ≡ true → cond test x true ≡ true
    else true x y rest is = rest is
    else false x y rest is = refl

room_letter : (letter : Letter) (ways : ℕ) (set : List Way) (line l : ℕ) → room_in ways set l ≡ true →
    room_in ways (changed_in (with_letter letter) set line) l ≡ true
room_letter letter ways set line l room =
    room_by _ _ _ _ _ _ (letter_here letter set line l)
    (λ fewer. ap (λ n. nat_lt n ways) (letter_length letter set line) ∙ fewer)
    (letter_free letter set line) room

-- the same of a cache
in_set : (ways : ℕ) (cache : List (List Way)) (line l : ℕ) (set : List Way) → 0 < length cache →
    (room_in ways (set_of cache line) l ≡ true → room_in ways set l ≡ true) → room_of ways cache l ≡ true →
    room_in ways (set_of (with_set cache line set) l) l ≡ true
in_set ways cache line l set some kept room =
    elim (cases_eq (set_number cache l) (set_number cache line)) [
      | inl same ↦ ap (λ s. room_in ways s l) (set_of-with_set_same cache line l set some same)
          ∙ kept (ap (λ n. room_in ways (slice_index_or cache n []) l) (sym same) ∙ room)
      | inr other ↦ ap (λ s. room_in ways s l) (set_of-with_set_other cache line l set other) ∙ room
    ]

pub room_without_line : (ways : ℕ) (cache : List (List Way)) (line l : ℕ) → IsWellFormed ways cache →
    room_of ways cache l ≡ true → room_of ways (without_line cache line) l ≡ true
room_without_line ways cache line l well room =
    in_set ways cache line l _ well.some_set (room_dropped ways (set_of cache line) line l (well.within line)) room

pub room_lettered : (ways : ℕ) (cache : List (List Way)) (line l : ℕ) (letter : Letter) → IsWellFormed ways cache →
    room_of ways cache l ≡ true → room_of ways (lettered cache line letter) l ≡ true
room_lettered ways cache line l letter well room =
    in_set ways cache line l _ well.some_set (room_letter letter ways (set_of cache line) line l) room
