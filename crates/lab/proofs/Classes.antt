-- sums over classes of sections: each section is in one class
use Rattle.std.proofs.Common.{◌≡◌, ◌∙◌, ℕ, zero, suc, ◌+◌, ◌<◌, ◌==◌, ◌&&◌, ◌||◌, Bool, true, false, cond, List, []}
use Rattle.std.proofs.Common.{◌∷◌, get_or, refl, ap, sym, eq-eqb, arith}
use Rattle.std.specs.Prelude.{All, sum_by}
use Rattle.std.specs.Cmp.{IsEquivalence}
use Rattle.std.specs.List.{AllByRecursion, IsDistinct, list_any, range_with_len}
use Rattle.std.proofs.lemmas.Bool.Decides.{nat_tests}
use Rattle.std.proofs.lemmas.List.Elements.{All-head, All-tail}
use Rattle.std.proofs.lemmas.List.Sums.{sum_by-cons}
use Rattle.std.proofs.lemmas.Bool.{and_parts}
use Rattle.chronicle.specs.Tally.{nothing}
use Rattle.chronicle.specs.declared.tally.Tally.{Tally}
use Rattle.el_model.specs.Next.{entries_from}
use Rattle.el_model.specs.State.{begin}
use Rattle.lab.proofs.Counting.{sections_are_told}
use Rattle.lab.specs.Counts.{TellTheSame, of_end, of_section, total_of}
use Rattle.lab.specs.Locks.{AreAcquiresOf, RowsSumToTheReport, of_acquire, same_acquire, tally_at, total_at}
use Rattle.lab.specs.Tries.{tries_from}
use Rattle.lab.specs.declared.tries.Acquire.{Acquire}
use Rattle.lab.specs.declared.tries.Try.{Try}

sum_of_none : {K : Type 0} (keys : List K) → sum_by (λ k. 0) keys ≡ 0
sum_of_none [] = refl
sum_of_none (k ∷ keys) = omega (arith, sum_by-cons (λ k. 0) k keys, sum_of_none keys)

sum_of_sums : {K : Type 0} (f g : K → ℕ) (keys : List K) → sum_by (λ k. f k + g k) keys ≡ sum_by f keys + sum_by g keys
sum_of_sums f g [] = refl
sum_of_sums f g (k ∷ keys) =
    omega (arith, sum_by-cons (λ k. f k + g k) k keys, sum_by-cons f k keys, sum_by-cons g k keys, sum_of_sums f g keys)

sum_same : {K : Type 0} (f g : K → ℕ) → ((k : K) → f k ≡ g k) → (keys : List K) → sum_by f keys ≡ sum_by g keys
sum_same f g same [] = refl
sum_same f g same (k ∷ keys) = omega (arith, sum_by-cons f k keys, sum_by-cons g k keys, same k, sum_same f g same keys)

-- where each section counts once over all keys, the sums over the keys are the sum over the sections
classes : {K : Type 0} (f : K → Try → ℕ) (value : Try → ℕ) (keys : List K) (tries : List Try) →
    All (λ try. sum_by (λ k. f k try) keys ≡ value try) tries →
    sum_by (λ k. sum_by (f k) tries) keys ≡ sum_by value tries
classes f value keys [] once = sum_of_none keys
classes f value keys (try ∷ tries) once =
    let Once : Try → Type 0 = λ t. sum_by (λ k. f k t) keys ≡ value t in
    omega (
      arith,
      sum_same (λ k. sum_by (f k) (try ∷ tries)) (λ k. f k try + sum_by (f k) tries)
          (λ k. sum_by-cons (f k) try tries) keys,
      sum_of_sums (λ k. f k try) (λ k. sum_by (f k) tries) keys,
      All-head Once try tries once,
      classes f value keys tries (All-tail Once try tries once),
      sum_by-cons value try tries,
    )

-- what a section counts for
abbrev counted : Try → Tally
counted try = record (of_end try.ended) { began = 1 }

-- acquires that are the same are one
pub acquire_is : (a b : Acquire) → same_acquire a b ≡ true → a ≡ b
acquire_is a b same =
    let both = and_parts (a.pc == b.pc) (a.word == b.word) same in
    let pc : a.pc ≡ b.pc = grind (arith, nat_tests, both.0) in
    let word : a.word ≡ b.word = grind (arith, nat_tests, both.1) in
    ap (λ n. record { pc = n; word = a.word }) pc ∙ ap (λ n. record { pc = b.pc; word = n }) word

module _ (number : Tally → ℕ) (none : number nothing ≡ 0) (try : Try) where
  unmatched : (first : Acquire) (acquires : List Acquire) → same_acquire try.acquire first ≡ true →
      AllByRecursion (λ y. same_acquire first y ≡ false) acquires →
      sum_by (λ acquire. number (of_acquire acquire try)) acquires ≡ 0
  unmatched first [] same apart = refl
  unmatched first (acquire ∷ acquires) same apart =
      let other : same_acquire try.acquire acquire ≡ false =
      ap (λ a. same_acquire a acquire) (acquire_is try.acquire first same) ∙ apart.0 in
      let here : number (of_acquire acquire try) ≡ 0 = ap (λ b. number (cond b (counted try) nothing)) other ∙ none in
      omega (
        arith,
        sum_by-cons (λ a. number (of_acquire a try)) acquire acquires,
        here,
        unmatched first acquires same apart.1,
      )

  matched : (acquires : List Acquire) → IsDistinct same_acquire acquires →
      list_any (same_acquire try.acquire) acquires ≡ true →
      sum_by (λ acquire. number (of_acquire acquire try)) acquires ≡ number (counted try)
  unfolding IsDistinct
  matched [] distinct there = absurd cc
  matched (acquire ∷ acquires) distinct there =
      by (same_acquire try.acquire acquire) refl there (λ known. matched acquires distinct.1 known)
    where
      by : (b : Bool) → same_acquire try.acquire acquire ≡ b →
          (b || list_any (same_acquire try.acquire) acquires) ≡ true →
          (list_any (same_acquire try.acquire) acquires ≡ true →
          sum_by (λ a. number (of_acquire a try)) acquires ≡ number (counted try)) →
          sum_by (λ a. number (of_acquire a try)) (acquire ∷ acquires) ≡ number (counted try)
      by true is there rest =
          let here : number (of_acquire acquire try) ≡ number (counted try) =
          ap (λ b. number (cond b (counted try) nothing)) is in
          omega (
            arith,
            sum_by-cons (λ a. number (of_acquire a try)) acquire acquires,
            here,
            unmatched acquire acquires is distinct.0,
          )
      by false is there rest =
          let here : number (of_acquire acquire try) ≡ 0 = ap (λ b. number (cond b (counted try) nothing)) is ∙ none in
          omega (arith, sum_by-cons (λ a. number (of_acquire a try)) acquire acquires, here, rest there)

  -- of the eight harts one is its hart
  one_hart : sum_by (λ h. number (of_section h try)) (range_with_len 0 8) ≡ number (counted try)
  one_hart = by try.hart.number try.hart.small
    where
      by : (n : ℕ) → n < 8 → sum_by (λ h. number (cond (n == h) (counted try) nothing)) (range_with_len 0 8)
          ≡ number (counted try)
      by zero small = omega (arith, none)
      by (suc zero) small = omega (arith, none)
      by (suc (suc zero)) small = omega (arith, none)
      by (suc (suc (suc zero))) small = omega (arith, none)
      by (suc (suc (suc (suc zero)))) small = omega (arith, none)
      by (suc (suc (suc (suc (suc zero))))) small = omega (arith, none)
      by (suc (suc (suc (suc (suc (suc zero)))))) small = omega (arith, none)
      by (suc (suc (suc (suc (suc (suc (suc zero))))))) small = omega (arith, none)
      by (suc (suc (suc (suc (suc (suc (suc (suc n)))))))) small = absurd (omega arith)

-- so the rows sum to the sections of all harts
by_rows : (number : Tally → ℕ) → number nothing ≡ 0 → (tries : List Try) (acquires : List Acquire) →
    AreAcquiresOf tries acquires → sum_by (λ acquire. total_at number acquire tries) acquires
    ≡ sum_by (λ h. total_of number h tries) (range_with_len 0 8)
by_rows number none tries acquires are =
    classes (λ acquire try. number (of_acquire acquire try)) (λ try. number (counted try)) acquires tries
    (λ k d below. matched number none (get_or tries k d) acquires are.once (are.each k d below))
    ∙ sym
    (classes (λ h try. number (of_section h try)) (λ try. number (counted try)) (range_with_len 0 8) tries
    (λ k d below. one_hart number none (get_or tries k d)))

pub rows_sum : RowsSumToTheReport
unfolding tally_at
rows_sum program config events acquires same range are =
    let tries = tries_from (begin program config) 0 events in
    let told : (h : ℕ) → TellTheSame h tries (entries_from (begin program config) events) =
    λ h. sections_are_told program config events h same range in
    record {
      began = by_rows (λ t. t.began) refl tries acquires are ∙ sum_same _ _ (λ h. (told h).began) (range_with_len 0 8);
      committed =
          by_rows (λ t. t.committed) refl tries acquires are ∙ sum_same _ _ (λ h. (told h).committed)
          (range_with_len 0 8);
      instr = by_rows (λ t. t.instr) refl tries acquires are ∙ sum_same _ _ (λ h. (told h).instr) (range_with_len 0 8);
      conflict =
          by_rows (λ t. t.conflict) refl tries acquires are ∙ sum_same _ _ (λ h. (told h).conflict)
          (range_with_len 0 8);
      room = by_rows (λ t. t.room) refl tries acquires are ∙ sum_same _ _ (λ h. (told h).room) (range_with_len 0 8);
      lines = by_rows (λ t. t.lines) refl tries acquires are ∙ sum_same _ _ (λ h. (told h).lines) (range_with_len 0 8);
      long = by_rows (λ t. t.long) refl tries acquires are ∙ sum_same _ _ (λ h. (told h).long) (range_with_len 0 8);
      call = by_rows (λ t. t.call) refl tries acquires are ∙ sum_same _ _ (λ h. (told h).call) (range_with_len 0 8);
      mixed = by_rows (λ t. t.mixed) refl tries acquires are ∙ sum_same _ _ (λ h. (told h).mixed) (range_with_len 0 8);
    }

-- acquires that are the same, as keys
pub same_is : IsEquivalence same_acquire
same_is = record {
  refl = λ x. one x x refl;
  symm =
      λ x y. symm (x.pc == y.pc) (x.word == y.word) (y.pc == x.pc) (y.word == x.word) (turned x.pc y.pc)
      (turned x.word y.word);
  congr = λ x y z same. ap (λ a. same_acquire a z) (acquire_is x y same);
}
  where
    one : (x y : Acquire) → x ≡ y → same_acquire x y ≡ true
    one x y e =
        both (x.pc == y.pc) (x.word == y.word) (eq-eqb x.pc y.pc (ap (λ a. a.pc) e))
        (eq-eqb x.word y.word (ap (λ a. a.word) e))
      where
        both : (a b : Bool) → a ≡ true → b ≡ true → (a && b) ≡ true
        both true b p q = q
        both false b p q = absurd cc

    turned : (a b : ℕ) → (a == b) ≡ (b == a)
    turned a b = grind (arith, nat_tests)

    symm : (a b c d : Bool) → a ≡ c → b ≡ d → (a && b) ≡ (c && d)
    symm a b c d p q = ap (λ x. x && b) p ∙ ap (λ x. c && x) q
