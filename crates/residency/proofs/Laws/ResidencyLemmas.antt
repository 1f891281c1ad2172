-- One set: the way of a line after each word of a set, and which way leaves it.
use Rattle.std.proofs.Common.{◌≡◌, ◌≢◌, ℕ, ◌+◌, ◌≤◌, ◌<◌, Bool, true, false, not, cond, eqb, ltb, List, [], ◌∷◌, length}
use Rattle.std.proofs.Common.{map, Option, None, Some, option_map}
use Rattle.std.proofs.Common.{is_some, refl, ap, sym, subst, inl, inr, ◌⊎◌, ◌∙◌, arith, add-zero}
use Rattle.std.specs.Option.{option_or, option_map_or}
use Rattle.std.proofs.lemmas.Bool.Decides.{nat_tests}
use Rattle.std.proofs.lemmas.List.Sums.{sum_by-cons}
use Rattle.std.proofs.lemmas.List.Folds.{fold-map}
use Rattle.std.specs.List.{sum_by}
use Rattle.residency.specs.Residency.{Way, changed_in, dropped, evicted_in, filled_in, has_unmarked, is_marked, left_in}
use Rattle.residency.specs.Residency.{room_in, to_front, touched_in}
use Rattle.residency.specs.Residency.{victim_in, way_in}
use Rattle.residency.specs.Keyed.{count_of, changed, found, without}
use Rattle.residency.proofs.Laws.KeyedLemmas.{count_of-found, found-changed_other, found-changed_same, found-key}
use Rattle.residency.proofs.Laws.KeyedLemmas.{found-without_other, found-without_same}
use Rattle.residency.proofs.Laws.KeyedLemmas.{sum_by-changed, sum_by-without}

-- the line of a way
abbrev pub line_of : Way → ℕ
line_of way = way.line

pub way_in-found : (set : List Way) (line : ℕ) → way_in set line ≡ found line_of set line
way_in-found [] line = refl
way_in-found (way ∷ set) line = grind (arith, nat_tests, way_in-found set line)

pub dropped-without : (set : List Way) (line : ℕ) → dropped set line ≡ without line_of set line
dropped-without [] line = refl
dropped-without (way ∷ set) line = grind (arith, nat_tests, dropped-without set line)

pub changed_in-changed : (change : Way → Way) (set : List Way) (line : ℕ) →
    changed_in change set line ≡ changed line_of change set line
changed_in-changed change [] line = refl
changed_in-changed change (way ∷ set) line = grind (arith, nat_tests, changed_in-changed change set line)

-- a way is found under its own line
pub way_in-line : (set : List Way) (line : ℕ) (way : Way) → way_in set line ≡ Some way → way.line ≡ line
way_in-line set line way is = found-key line_of set line way (sym (way_in-found set line) ∙ is)

pub way_in-dropped_same : (set : List Way) (line : ℕ) → way_in (dropped set line) line ≡ None
way_in-dropped_same set line = rw (way_in-found, dropped-without) (found-without_same line_of set line)

pub way_in-dropped_other : (set : List Way) (line l : ℕ) → l ≢ line → way_in (dropped set line) l ≡ way_in set l
way_in-dropped_other set line l other =
    rw (way_in-found (dropped set line) l, way_in-found set l, dropped-without)
    (found-without_other line_of set line l other)

pub way_in-changed_in_same : (change : Way → Way) (set : List Way) (line : ℕ) →
    ((way : Way) → (change way).line ≡ way.line) →
    way_in (changed_in change set line) line ≡ option_map change (way_in set line)
way_in-changed_in_same change set line kept =
    rw (way_in-found (changed_in change set line) line, way_in-found set line, changed_in-changed)
    (found-changed_same line_of change set line kept)

pub way_in-changed_in_other : (change : Way → Way) (set : List Way) (line l : ℕ) →
    ((way : Way) → (change way).line ≡ way.line) → l ≢ line → way_in (changed_in change set line) l ≡ way_in set l
way_in-changed_in_other change set line l kept other =
    rw (way_in-found (changed_in change set line) l, way_in-found set l, changed_in-changed)
    (found-changed_other line_of change set line l kept other)

way_in-to_front : (set : List Way) (line l : ℕ) (way : Option Way) → way_in set line ≡ way →
    way_in (to_front set line way) l ≡ way_in set l
way_in-to_front set line l None is = refl
way_in-to_front set line l (Some way) is =
    grind (arith, nat_tests, way_in-line set line way is, way_in-dropped_other set line l)

-- to touch a line changes no way
pub way_in-touched_in : (set : List Way) (line l : ℕ) → way_in (touched_in set line) l ≡ way_in set l
way_in-touched_in set line l = way_in-to_front set line l (way_in set line) refl

-- a way that all have been changed in its place
pub way_in-map : (change : Way → Way) (set : List Way) (line : ℕ) → ((way : Way) → (change way).line ≡ way.line) →
    way_in (map change set) line ≡ option_map change (way_in set line)
way_in-map change [] line kept = refl
way_in-map change (way ∷ set) line kept = grind (arith, nat_tests, kept way, way_in-map change set line kept)

-- how the victim is chosen: the one further back, or else the first way, where it has no bit
choice : (later : Option Way) (marked : Bool) (first way : Way) →
    option_or later (cond marked None (Some first)) ≡ Some way → (later ≡ Some way) ⊎ ((marked ≡ false) × (first ≡ way))
choice (Some other) marked first way is = inl is
choice None true first way is = absurd cc
choice None false first way is = inr (refl, cc)

-- the victim has no bits
pub victim_in-unmarked : (set : List Way) (way : Way) → victim_in set ≡ Some way → is_marked way ≡ false
victim_in-unmarked [] way is = absurd cc
victim_in-unmarked (first ∷ set) way is =
    elim (choice (victim_in set) (is_marked first) first way is) [
      | inl later ↦ victim_in-unmarked set way later
      | inr own ↦ subst (λ (w : Way). is_marked w ≡ false) own.1 own.0
    ]

pub once_less : (first : Way) (set : List Way) → ((line : ℕ) → count_of line_of (first ∷ set) line ≤ 1) → (line : ℕ) →
    count_of line_of set line ≤ 1
once_less first set once line =
    grind (arith, once line, sum_by-cons (λ way. cond (eqb (line_of way) line) 1 0) first set)

-- a way that is found counts
pub counted : (set : List Way) (line : ℕ) (way : Way) → way_in set line ≡ Some way → 1 ≤ count_of line_of set line
counted [] line way is = absurd cc
counted (first ∷ set) line way is =
    grind (arith, nat_tests, sum_by-cons (λ w. cond (eqb (line_of w) line) 1 0) first set, counted set line way)

-- a line that is not there counts for nothing
pub uncounted : (set : List Way) (line : ℕ) → way_in set line ≡ None → count_of line_of set line ≡ 0
uncounted set line none = count_of-found line_of set line (sym (way_in-found set line) ∙ none)

-- it is there, where the set has no line twice
pub victim_in-resident : (set : List Way) (way : Way) → ((line : ℕ) → count_of line_of set line ≤ 1) →
    victim_in set ≡ Some way → way_in set way.line ≡ Some way
victim_in-resident [] way once is = absurd cc
victim_in-resident (first ∷ set) way once is =
    elim (choice (victim_in set) (is_marked first) first way is) [
      | inl later ↦
          let rest = victim_in-resident set way (once_less first set once) later in
          grind (
            arith,
            nat_tests,
            once way.line,
            counted set way.line way rest,
            sum_by-cons (λ w. cond (eqb (line_of w) way.line) 1 0) first set,
          )
      | inr own ↦ subst (λ (w : Way). way_in (first ∷ set) w.line ≡ Some w) own.1 (grind (arith, nat_tests))
    ]

some_choice : (later : Option Way) (marked : Bool) (way : Way) →
    is_some (option_or later (cond marked None (Some way))) ≡ cond marked (is_some later) true
some_choice (Some other) true way = refl
some_choice (Some other) false way = refl
some_choice None true way = refl
some_choice None false way = refl

-- there is one exactly where some line has no bit
pub victim_in-some : (set : List Way) → is_some (victim_in set) ≡ has_unmarked set
victim_in-some [] = refl
victim_in-some (way ∷ set) =
    rw (some_choice (victim_in set) (is_marked way) way) (ap (λ b. cond (is_marked way) b true) (victim_in-some set))

-- what leaves as a line comes, where there is room: nothing where the set has fewer lines than ways, else some line
pub evicted_in-none : (ways : ℕ) (set : List Way) → length set < ways → evicted_in ways set ≡ None
evicted_in-none ways set fewer = grind (arith, nat_tests)

pub evicted_in-victim : (ways : ℕ) (set : List Way) (way : Way) → evicted_in ways set ≡ Some way →
    victim_in set ≡ Some way
evicted_in-victim ways set way is = grind (arith, nat_tests)

pub evicted_in-some : (ways : ℕ) (set : List Way) (line : ℕ) → room_in ways set line ≡ true → way_in set line ≡ None →
    is_some (evicted_in ways set) ≡ not (ltb (length set) ways)
evicted_in-some ways set line room absent =
    let has : is_some (way_in set line) ≡ false = ap is_some absent in
    grind (arith, nat_tests, victim_in-some set)

-- a way that came, and the ways of other lines: those that leave are gone, and the others stay
pub way_in-filled_in_same : (ways : ℕ) (set : List Way) (way : Way) →
    way_in (filled_in ways set way) way.line ≡ Some way
way_in-filled_in_same ways set way = grind (arith, nat_tests)

way_in-left_in : (set : List Way) (evicted : Option Way) (line : ℕ) →
    ((way : Way) → evicted ≡ Some way → line ≢ way.line) → way_in (left_in set evicted) line ≡ way_in set line
way_in-left_in set None line stays = refl
way_in-left_in set (Some way) line stays = way_in-dropped_other set way.line line (stays way refl)

pub way_in-filled_in_other : (ways : ℕ) (set : List Way) (way : Way) (line : ℕ) → line ≢ way.line →
    ((gone : Way) → evicted_in ways set ≡ Some gone → line ≢ gone.line) →
    way_in (filled_in ways set way) line ≡ way_in set line
way_in-filled_in_other ways set way line other stays =
    grind (arith, nat_tests, way_in-left_in set (evicted_in ways set) line stays)

pub way_in-filled_in_evicted : (ways : ℕ) (set : List Way) (way gone : Way) → gone.line ≢ way.line →
    evicted_in ways set ≡ Some gone → way_in (filled_in ways set way) gone.line ≡ None
way_in-filled_in_evicted ways set way gone other is =
    let left : left_in set (evicted_in ways set) ≡ dropped set gone.line = ap (left_in set) is in
    rw left (grind (arith, nat_tests, way_in-dropped_same set gone.line))

-- a sum over the set of which a line was taken out, or changed
pub sum_by-dropped : (f : Way → ℕ) (set : List Way) (line : ℕ) → count_of line_of set line ≤ 1 →
    sum_by f (dropped set line) + option_map_or f (way_in set line) 0 ≡ sum_by f set
sum_by-dropped f set line once = rw (dropped-without, way_in-found) (sum_by-without line_of f set line once)

pub sum_by-changed_in : (f : Way → ℕ) (change : Way → Way) (set : List Way) (line : ℕ) → count_of line_of set line ≤ 1 →
    sum_by f (changed_in change set line) + option_map_or f (way_in set line) 0
    ≡ sum_by f set + option_map_or (λ way. f (change way)) (way_in set line) 0
sum_by-changed_in f change set line once =
    rw (changed_in-changed, way_in-found) (sum_by-changed line_of f change set line once)

sum_by-to_front : (f : Way → ℕ) (set : List Way) (line : ℕ) (way : Option Way) → count_of line_of set line ≤ 1 →
    way_in set line ≡ way → sum_by f (to_front set line way) ≡ sum_by f set
sum_by-to_front f set line None once is = refl
sum_by-to_front f set line (Some way) once is =
    let without = sum_by-dropped f set line once in
    let there : option_map_or f (way_in set line) 0 ≡ f way = ap (λ w. option_map_or f w 0) is in
    grind (arith, sum_by-cons f way (dropped set line))

pub sum_by-touched_in : (f : Way → ℕ) (set : List Way) (line : ℕ) → count_of line_of set line ≤ 1 →
    sum_by f (touched_in set line) ≡ sum_by f set
sum_by-touched_in f set line once = sum_by-to_front f set line (way_in set line) once refl

-- a sum after a line came, and another left
sum_by-left_in : (f : Way → ℕ) (set : List Way) (evicted : Option Way) → ((l : ℕ) → count_of line_of set l ≤ 1) →
    ((way : Way) → evicted ≡ Some way → way_in set way.line ≡ Some way) →
    sum_by f (left_in set evicted) + option_map_or f evicted 0 ≡ sum_by f set
sum_by-left_in f set None once there = add-zero (sum_by f set)
sum_by-left_in f set (Some way) once there =
    let without = sum_by-dropped f set way.line (once way.line) in
    let found : option_map_or f (way_in set way.line) 0 ≡ f way = ap (λ w. option_map_or f w 0) (there way refl) in
    omega (arith, without, found)

pub sum_by-filled_in : (f : Way → ℕ) (ways : ℕ) (set : List Way) (way : Way) → ((l : ℕ) → count_of line_of set l ≤ 1) →
    sum_by f (filled_in ways set way) + option_map_or f (evicted_in ways set) 0 ≡ sum_by f set + f way
sum_by-filled_in f ways set way once =
    let left = sum_by-left_in f set (evicted_in ways set) once
    (λ gone is. victim_in-resident set gone once (evicted_in-victim ways set gone is)) in
    omega (arith, left, sum_by-cons f way (left_in set (evicted_in ways set)))

-- a sum after a change of every way
pub sum_by-map : (f : Way → ℕ) (change : Way → Way) (set : List Way) →
    sum_by f (map change set) ≡ sum_by (λ way. f (change way)) set
sum_by-map f change set = fold-map (λ total way. total + f way) change 0 set

-- a function of what a change keeps
pub same_or : (f : Way → ℕ) (change : Way → Way) (way : Option Way) → ((w : Way) → f (change w) ≡ f w) →
    option_map_or (λ w. f (change w)) way 0 ≡ option_map_or f way 0
same_or f change None stays = refl
same_or f change (Some way) stays = stays way
