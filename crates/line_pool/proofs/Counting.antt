-- How many places of a share are out, counted one by one.
use Rattle.std.proofs.Common.{◌≡◌, ℕ, zero, suc, ◌+◌, ◌<◌, ◌≤◌, ◌==◌, nat_lt, if◌then◌else◌, true, List, [], ◌∷◌}
use Rattle.std.proofs.Common.{length, refl, ap, sym, ◌∙◌, inl, inr, arith}
use Rattle.std.specs.List.{count_by}
use Rattle.std.proofs.lemmas.Bool.{cases_eq, cases_lt}
use Rattle.std.proofs.lemmas.Bool.Decides.{nat_tests}
use Rattle.std.proofs.lemmas.List.Sums.{sum_by-cons}
use Rattle.line_pool.specs.Calls.{IsShare}
use Rattle.line_pool.specs.Pooled.{Share, is_out_in, out_in, times_in}

-- how many of the first places of a share are out
abbrev pub outs_below : Share → ℕ → ℕ
outs_below share zero = 0
outs_below share (suc n) = outs_below share n + (if is_out_in share n then 1 else 0)

-- how many of the listed places are below another
abbrev listed_below : List ℕ → ℕ → ℕ
listed_below places n = count_by (λ other. nat_lt other n) places

times-cons : (place : ℕ) (places : List ℕ) (n : ℕ) →
    times_in (place ∷ places) n ≡ (if place == n then 1 else 0) + times_in places n
times-cons place places n = sum_by-cons (λ other. if other == n then 1 else 0) place places

below-cons : (place : ℕ) (places : List ℕ) (n : ℕ)
    → listed_below (place ∷ places) n ≡ (if nat_lt place n then 1 else 0) + listed_below places n
below-cons place places n = sum_by-cons (λ other. if nat_lt other n then 1 else 0) place places

below-zero : (places : List ℕ) → listed_below places 0 ≡ 0
below-zero [] = refl
below-zero (place ∷ places) = let rest = below-zero places in grind (arith, nat_tests, rest, below-cons place places 0)

below-suc : (places : List ℕ) (n : ℕ) → listed_below places (suc n) ≡ listed_below places n + times_in places n
below-suc [] n = refl
below-suc (place ∷ places) n =
    let rest = below-suc places n in
    grind (
      arith,
      nat_tests,
      rest,
      below-cons place places (suc n),
      below-cons place places n,
      times-cons place places n,
    )

-- all listed places are below another, where none is listed from that one on
below-all : (places : List ℕ) (n : ℕ) → ((place : ℕ) → n ≤ place → times_in places place ≡ 0) →
    listed_below places n ≡ length places
below-all [] n none = refl
below-all (place ∷ places) n none =
    let rest = below-all places n (λ other past. omega (arith, times-cons place places other, none other past)) in
    below-cons place places n ∙ (elim (cases_lt place n) [
      | inl below ↦ grind (arith, nat_tests)
      | inr past ↦ absurd (not_there past)
    ])
  where
    not_there : n ≤ place → ⊥
    not_there past = grind (arith, nat_tests, times-cons place places place, none place past)

module _ (share : Share) (is : IsShare share) where
  -- each place below the quota is out or listed
  counted_to : (n : ℕ) → n ≤ share.quota → outs_below share n + listed_below share.free n ≡ n
  counted_to zero within = omega (arith, below-zero share.free)
  counted_to (suc n) within =
      let rest = counted_to n (omega arith) in grind (arith, nat_tests, rest, below-suc share.free n, is.once n)

  counted : outs_below share share.quota + length share.free ≡ share.quota
  counted =
      ap (λ n. outs_below share share.quota + n) (sym (below-all share.free share.quota
      (λ place past. grind (arith, nat_tests, is.once place))))
      ∙ counted_to share.quota (omega arith)

  -- the slots that are out are as many as are counted one by one
  pub outs-counted : outs_below share share.quota ≡ out_in share
  outs-counted = omega (arith, counted)

-- one place that is out is counted
one_out : (share : Share) (place n : ℕ) → place < n → is_out_in share place ≡ true → 1 ≤ outs_below share n
one_out share place zero within is = absurd (omega arith)
one_out share place (suc n) within is = elim (cases_eq place n) [
  | inl same ↦ here same
  | inr other ↦ omega (arith, one_out share place n (omega arith) is)
]
  where
    here : place ≡ n → 1 ≤ outs_below share (suc n)
    here same = let at : is_out_in share n ≡ true = ap (is_out_in share) (sym same) ∙ is in grind (arith, at)

-- where a place is out, fewer are free than there are
pub some_out : (share : Share) (place : ℕ) → IsShare share → is_out_in share place ≡ true →
    length share.free < share.quota
some_out share place is out =
    omega (arith, counted share is, one_out share place share.quota (grind (arith, nat_tests)) out)
