-- The places at which a hart comes to a pc, as a list that grows with the place.
use Rattle.std.proofs.Common.{◌≡◌, ◌≢◌, ℕ, ◌+◌, ◌-◌, ◌<◌, ◌≤◌, ◌==◌, ◌&&◌, Bool, true, false, not, List, [], ◌∷◌, ◌++◌}
use Rattle.std.proofs.Common.{length, refl, ap, ◌∙◌}
use Rattle.std.proofs.Common.{append-nil, zero, suc, arith}
use Rattle.std.proofs.lemmas.Bool.Decides.{nat_tests}
use Rattle.std.proofs.lemmas.List.Elements.{filter-append}
use Rattle.std.specs.List.{filter, range_with_len}
use Rattle.el_base.specs.declared.entries.Entry.{Entry}
use Rattle.el_base.proofs.Laws.Tests.{other_test, same_test}
use Rattle.elf_image.specs.Program.{Program}
use Rattle.step_back.specs.Standing.{ComesTo, HasNoNext, IsNext, Standing, comes_to, pc_at, places_of}

passes : (here before pc : ℕ) → here ≡ pc → before ≢ pc → ((here == pc) && not (before == pc)) ≡ true
passes here before pc there moved = rw (same_test here pc there, other_test before pc moved) refl

fails : (here before pc : ℕ) → (here ≡ pc → before ≢ pc → ⊥) → ((here == pc) && not (before == pc)) ≡ false
fails here before pc none = go (here == pc) (before == pc) refl refl
  where
    go : (now then : Bool) → (here == pc) ≡ now → (before == pc) ≡ then → ((here == pc) && not (before == pc)) ≡ false
    go false then is was = rw is refl
    go true true is was = rw (is, was) refl
    go true false is was = absurd (none (grind (arith, nat_tests, is)) (grind (arith, nat_tests, was)))

module _ (program : Program) (entries : List Entry) (hart pc place : ℕ) where
  pub came : ComesTo program entries hart pc place → comes_to program entries hart pc place ≡ true
  came comes =
      passes (pc_at program entries hart place) (pc_at program entries hart (place - 1)) pc comes.there comes.not_before

  pub did_not_come : ¬ ComesTo program entries hart pc place → comes_to program entries hart pc place ≡ false
  did_not_come none =
      fails (pc_at program entries hart place) (pc_at program entries hart (place - 1)) pc
      (λ there moved. none (record { there = there; not_before = moved }))

-- a test that fails at each of some numbers
module _ (test : ℕ → Bool) where
  quiet : (first count : ℕ) → ((n : ℕ) → first ≤ n → n < first + count → test n ≡ false) →
      filter test (range_with_len first count) ≡ []
  quiet first zero none = refl
  quiet first (suc count) none =
      rw (none first (omega arith) (omega arith))
      (quiet (first + 1) count (λ n low high. none n (omega (arith, low)) (omega (arith, high))))

  range_split : (first one more : ℕ) →
      range_with_len first (one + more) ≡ range_with_len first one ++ range_with_len (first + one) more
  range_split first zero more =
      let none : 0 + more ≡ more = omega arith in
      let same : first ≡ first + 0 = omega arith in
      ap (range_with_len first) none ∙ ap (λ from. range_with_len from more) same
  range_split first (suc one) more =
      let counted : suc one + more ≡ suc (one + more) = omega arith in
      let same : (first + 1) + one ≡ first + suc one = omega arith in
      ap (range_with_len first) counted
      ∙ ap (λ rest. first ∷ rest)
      (range_split (first + 1) one more
      ∙ ap (λ from. range_with_len (first + 1) one ++ range_with_len from more) same)

  -- those up to a number, and those behind it
  pub parted : (up count : ℕ) → up ≤ count →
      filter test (range_with_len 1 count)
      ≡ filter test (range_with_len 1 up) ++ filter test (range_with_len (1 + up) (count - up))
  parted up count within =
      let whole : count ≡ up + (count - up) = omega (arith, within) in
      ap (λ n. filter test (range_with_len 1 n)) whole
      ∙ ap (filter test) (range_split 1 up (count - up))
      ∙ filter-append test (range_with_len 1 up) (range_with_len (1 + up) (count - up))

  -- none behind a number
  pub no_more : (up count : ℕ) → up ≤ count → ((n : ℕ) → up < n → n ≤ count → test n ≡ false) →
      filter test (range_with_len 1 count) ≡ filter test (range_with_len 1 up)
  no_more up count within none =
      parted up count within
      ∙ ap (λ rest. filter test (range_with_len 1 up) ++ rest)
      (quiet (1 + up) (count - up) (λ n low high. none n (omega (arith, low)) (omega (arith, high, within))))
      ∙ append-nil (filter test (range_with_len 1 up))

  -- the next one behind a number
  pub one_more_place : (up next : ℕ) → up < next → ((n : ℕ) → up < n → n < next → test n ≡ false) → test next ≡ true →
      filter test (range_with_len 1 next) ≡ filter test (range_with_len 1 up) ++ next ∷ []
  one_more_place up next later none found =
      let least : ℕ = next - 1 in
      let same : next ≡ least + 1 = omega (arith, later) in
      parted least next (omega arith)
      ∙ ap (λ places. places ++ filter test (range_with_len (1 + least) (next - least)))
      (no_more up least (omega (arith, later)) (λ n low high. none n low (omega (arith, high, later))))
      ∙ ap (λ rest. filter test (range_with_len 1 up) ++ rest) last_one
    where
      found_there : filter test (next ∷ []) ≡ next ∷ []
      found_there = rw found refl

      last_one : filter test (range_with_len (1 + (next - 1)) (next - (next - 1))) ≡ next ∷ []
      last_one =
          let from : 1 + (next - 1) ≡ next = omega (arith, later) in
          let one : next - (next - 1) ≡ 1 = omega (arith, later) in
          ap (λ n. filter test (range_with_len n (next - (next - 1)))) from
          ∙ ap (λ n. filter test (range_with_len next n)) one
          ∙ found_there

-- what is found from a place on
module _ (standing : Standing) (hart pc : ℕ) where
  abbrev pub places_to : ℕ → List ℕ
  places_to place = filter (comes_to standing.program standing.entries hart pc) (range_with_len 1 place)

  pub next_place : (place : ℕ) → IsNext standing hart pc place →
      places_to place ≡ places_to standing.place ++ place ∷ []
  next_place place next =
      one_more_place (comes_to standing.program standing.entries hart pc) standing.place place next.later
      (λ n low high. did_not_come standing.program standing.entries hart pc n (next.least n low high))
      (came standing.program standing.entries hart pc place next.comes)

  pub last_place : standing.place ≤ length standing.entries → HasNoNext standing hart pc →
      places_of standing.program standing.entries hart pc ≡ places_to standing.place
  last_place within none =
      no_more (comes_to standing.program standing.entries hart pc) standing.place (length standing.entries) within
      (λ n low high. did_not_come standing.program standing.entries hart pc n (none n low high))

  pub places_split : (place : ℕ) → place ≤ length standing.entries →
      places_of standing.program standing.entries hart pc
      ≡ places_to place
      ++ filter (comes_to standing.program standing.entries hart pc)
      (range_with_len (1 + place) (length standing.entries - place))
  places_split place within =
      parted (comes_to standing.program standing.entries hart pc) place (length standing.entries) within
