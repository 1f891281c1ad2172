-- a hold has room for each line with the write bit, where no more lines have it than may be held
use Rattle.std.proofs.Common.{◌≡◌, ◌≢◌, ℕ, ◌+◌, ◌≤◌, Bool, true, false, List, [], ◌∷◌, ◌++◌, length, map, inl}
use Rattle.std.proofs.Common.{inr, refl, ap, sym, subst, ◌∙◌, arith, zero, suc}
use Rattle.std.specs.Prelude.{◌==◌, ◌||◌, if◌then◌else◌, count_by, nat_lt, slice_index_or}
use Rattle.std.proofs.lemmas.Bool.{cases_eq}
use Rattle.std.proofs.lemmas.Bool.Decides.{nat_tests}
use Rattle.std.proofs.lemmas.List.Sums.{sum_by-cons}
use Rattle.std.proofs.lemmas.Grind.{common_steps}
use Rattle.residency.specs.Cache.{bit_in, set_number, set_of, write_bit, write_bits_of}
use Rattle.residency.specs.Residency.{Way, way_in}
use Rattle.el_base.specs.declared.outcomes.Need.TheVariants.{Write}
use Rattle.section_view.specs.KeptRun.{HoldsMarked}
use Rattle.write_hold.specs.Calls.{IsHold}
use Rattle.write_hold.specs.Held.{Entry, Held, has_room_for, holds}

-- how often a number is in a list
abbrev pub count_in : List ℕ → ℕ → ℕ
count_in xs n = count_by (λ x. x == n) xs

-- the list without a number's first place
abbrev removed : ℕ → List ℕ → List ℕ
removed x [] = []
removed x (y ∷ ys) = if y == x then ys else y ∷ removed x ys

-- 1 where two numbers are the same
abbrev one_if : ℕ → ℕ → ℕ
one_if x n = if x == n then 1 else 0

count-cons : (y : ℕ) (ys : List ℕ) (n : ℕ) → count_in (y ∷ ys) n ≡ one_if y n + count_in ys n
count-cons y ys n = sum_by-cons (λ x. one_if x n) y ys

one_if-same : (x n : ℕ) → x ≡ n → one_if x n ≡ 1
one_if-same x n same = grind (arith, nat_tests)

one_if-other : (x n : ℕ) → x ≢ n → one_if x n ≡ 0
one_if-other x n other = grind (arith, nat_tests)

count-here : (y : ℕ) (ys : List ℕ) (n : ℕ) → y ≡ n → count_in (y ∷ ys) n ≡ 1 + count_in ys n
count-here y ys n same = count-cons y ys n ∙ ap (λ k. k + count_in ys n) (one_if-same y n same)

count-there : (y : ℕ) (ys : List ℕ) (n : ℕ) → y ≢ n → count_in (y ∷ ys) n ≡ count_in ys n
count-there y ys n other = omega (arith, count-cons y ys n, one_if-other y n other)

removed-here : (x y : ℕ) (ys : List ℕ) → y ≡ x → removed x (y ∷ ys) ≡ ys
removed-here x y ys same =
    let yes : (y == x) ≡ true = grind (arith, nat_tests) in
    ap (λ b. if b then ys else y ∷ removed x ys) yes

removed-there : (x y : ℕ) (ys : List ℕ) → y ≢ x → removed x (y ∷ ys) ≡ y ∷ removed x ys
removed-there x y ys other =
    let no : (y == x) ≡ false = grind (arith, nat_tests) in
    ap (λ b. if b then ys else y ∷ removed x ys) no

removed-length : (x : ℕ) (ys : List ℕ) → 1 ≤ count_in ys x → length (removed x ys) + 1 ≡ length ys
removed-length x [] some = absurd (omega arith)
removed-length x (y ∷ ys) some = elim (cases_eq y x) [
  | inl same ↦ let e : length (removed x (y ∷ ys)) ≡ length ys = ap length (removed-here x y ys same) in
      grind (arith, common_steps)
  | inr other ↦
      let e : length (removed x (y ∷ ys)) ≡ length (y ∷ removed x ys) = ap length (removed-there x y ys other) in
      let rest : length (removed x ys) + 1 ≡ length ys =
      removed-length x ys (omega (arith, count-there y ys x other)) in
      grind (arith, common_steps)
]

removed-count : (x : ℕ) (ys : List ℕ) (n : ℕ) → 1 ≤ count_in ys x →
    count_in (removed x ys) n + one_if x n ≡ count_in ys n
removed-count x [] n some = absurd (omega arith)
removed-count x (y ∷ ys) n some = elim (cases_eq y x) [
  | inl same ↦
      let e : count_in (removed x (y ∷ ys)) n ≡ count_in ys n = ap (λ l. count_in l n) (removed-here x y ys same) in
      let t : one_if y n ≡ one_if x n = ap (λ k. one_if k n) same in
      omega (arith, e, t, count-cons y ys n)
  | inr other ↦
      let e : count_in (removed x (y ∷ ys)) n ≡ count_in (y ∷ removed x ys) n =
      ap (λ l. count_in l n) (removed-there x y ys other) in
      let rest : count_in (removed x ys) n + one_if x n ≡ count_in ys n =
      removed-count x ys n (omega (arith, count-there y ys x other)) in
      omega (arith, e, rest, count-cons y ys n, count-cons y (removed x ys) n)
]

-- a list that has each number no more often than another is no longer
pub length_by_counts : (xs ys : List ℕ) → ((n : ℕ) → count_in xs n ≤ count_in ys n) → length xs ≤ length ys
length_by_counts [] ys few = omega arith
length_by_counts (x ∷ xs) ys few =
    let here : 1 ≤ count_in ys x = omega (arith, few x, count-here x xs x refl) in
    let less : length (removed x ys) + 1 ≡ length ys = removed-length x ys here in
    let rest : length xs ≤ length (removed x ys) =
    length_by_counts xs (removed x ys) (λ n. omega (arith, few n, removed-count x ys n here, count-cons x xs n)) in
    grind (arith, common_steps)

-- the lines of a set, and of all sets, that have the write bit
abbrev written_in : List Way → List ℕ
written_in [] = []
written_in (way ∷ ways) = if way.write then way.line ∷ written_in ways else written_in ways

abbrev written_lines : List (List Way) → List ℕ
written_lines [] = []
written_lines (set ∷ sets) = written_in set ++ written_lines sets

length-written_in : (ways : List Way) → length (written_in ways) ≡ count_by (λ way. way.write) ways
length-written_in [] = refl
length-written_in (way ∷ ways) = grind (arith, common_steps, length-written_in ways)

length-written_lines : (cache : List (List Way)) → length (written_lines cache) ≡ write_bits_of cache
length-written_lines [] = refl
length-written_lines (set ∷ sets) = grind (arith, common_steps, length-written_in set, length-written_lines sets)

-- a line with the write bit is one of them
count-written_in : (ways : List Way) (line : ℕ) → bit_in Write (way_in ways line) ≡ true →
    1 ≤ count_in (written_in ways) line
count-written_in [] line bit = absurd cc
count-written_in (way ∷ ways) line bit = grind (arith, nat_tests, common_steps, count-written_in ways line)

count-written_lines : (cache : List (List Way)) (n line : ℕ) →
    count_in (written_in (slice_index_or cache n [])) line ≤ count_in (written_lines cache) line
count-written_lines [] n line = grind (arith, common_steps)
count-written_lines (set ∷ sets) zero line = grind (arith, common_steps)
count-written_lines (set ∷ sets) (suc n) line = grind (arith, common_steps, count-written_lines sets n line)

pub count-write_bit : (cache : List (List Way)) (line : ℕ) → write_bit cache line ≡ true →
    1 ≤ count_in (written_lines cache) line
count-write_bit cache line bit =
    let here : 1 ≤ count_in (written_in (set_of cache line)) line = count-written_in (set_of cache line) line bit in
    let all : count_in (written_in (set_of cache line)) line ≤ count_in (written_lines cache) line =
    count-written_lines cache (set_number cache line) line in
    omega arith

-- the lines that are held
abbrev count_of_line : List Entry → ℕ → ℕ
count_of_line entries n = count_by (λ entry. entry.line == n) entries

abbrev lines_of : List Entry → List ℕ
lines_of entries = map (λ entry. entry.line) entries

count-lines_of : (entries : List Entry) (n : ℕ) →
    count_in (lines_of entries) n ≡ count_by (λ entry. entry.line == n) entries
count-lines_of [] n = refl
count-lines_of (entry ∷ entries) n = grind (arith, nat_tests, common_steps, count-lines_of entries n)

none-counted : (entries : List Entry) (n : ℕ) → holds entries n ≡ false →
    count_by (λ entry. entry.line == n) entries ≡ 0
none-counted [] n none = refl
none-counted (entry ∷ entries) n none = grind (arith, nat_tests, common_steps, none-counted entries n)

pub room_for_written : (cache : List (List Way)) (hold : Held) (line : ℕ) → IsHold hold →
    HoldsMarked cache hold.entries → write_bits_of cache ≤ hold.limit →
    write_bit cache line ≡ true → has_room_for hold line ≡ true
room_for_written cache hold line sound marked few bit = by (holds hold.entries line) refl
  where
    by_held : (n : ℕ) → n ≢ line → (held : Bool) → holds hold.entries n ≡ held →
        count_in (lines_of hold.entries) n ≤ count_in (written_lines cache) n
    by_held n other true held =
        let some : 1 ≤ count_in (written_lines cache) n = count-write_bit cache n (marked n held) in
        let once : count_in (lines_of hold.entries) n ≤ 1 =
        subst (λ k. k ≤ 1) (sym (count-lines_of hold.entries n)) (sound.once n) in
        omega arith
    by_held n other false absent =
        let none : count_in (lines_of hold.entries) n ≡ 0 =
        count-lines_of hold.entries n ∙ none-counted hold.entries n absent in
        omega arith

    counted : holds hold.entries line ≡ false → (n : ℕ) →
        count_in (line ∷ lines_of hold.entries) n ≤ count_in (written_lines cache) n
    counted absent n = elim (cases_eq n line) [
      | inl same ↦
          let none : count_in (lines_of hold.entries) n ≡ 0 =
          count-lines_of hold.entries n ∙ ap (count_of_line hold.entries) same
          ∙ none-counted hold.entries line absent in
          let some : 1 ≤ count_in (written_lines cache) n =
          subst (λ k. 1 ≤ count_in (written_lines cache) k) (sym same) (count-write_bit cache line bit) in
          omega (arith, none, some, count-here line (lines_of hold.entries) n (sym same))
      | inr other ↦
          omega (
            arith,
            by_held n other (holds hold.entries n) refl,
            count-there line (lines_of hold.entries) n (λ e. other (sym e)),
          )
    ]

    fits : holds hold.entries line ≡ false → nat_lt (length hold.entries) hold.limit ≡ true
    fits absent =
        let all : length (line ∷ lines_of hold.entries) ≤ length (written_lines cache) =
        length_by_counts (line ∷ lines_of hold.entries) (written_lines cache) (counted absent) in
        grind (arith, nat_tests, common_steps, length-written_lines cache)

    by : (held : Bool) → holds hold.entries line ≡ held → has_room_for hold line ≡ true
    by true held = ap (λ b. b || nat_lt (length hold.entries) hold.limit) held
    by false absent = ap (λ b. b || nat_lt (length hold.entries) hold.limit) absent ∙ fits absent
