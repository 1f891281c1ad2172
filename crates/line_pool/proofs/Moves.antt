-- A share of which one place more is free than of another.
use Rattle.std.proofs.Common.{◌≡◌, ◌≢◌, ℕ, ◌+◌, ◌<◌, ◌==◌, if◌then◌else◌, true, false, List, [], ◌∷◌, ◌++◌, length, ap}
use Rattle.std.proofs.Common.{◌∙◌, vec_capacity, vec_len, arith}
use Rattle.std.proofs.lemmas.Bool.Decides.{nat_tests}
use Rattle.std.proofs.lemmas.List.{length_push}
use Rattle.std.proofs.lemmas.List.Sums.{sum_by_push}
use Rattle.line_pool.specs.Calls.{IsShare}
use Rattle.line_pool.specs.declared.share.Share as code
use Rattle.line_pool.specs.Kept.{IsKept, shown_share}
use Rattle.line_pool.specs.Pooled.{Share, is_out_in, out_in, times_in}
use Rattle.line_pool.proofs.Counting.{some_out}

pub record IsMoved (less more : Share) (place : ℕ) : Type 0 where
  pub quota : less.quota ≡ more.quota
  pub out : is_out_in less place ≡ true
  pub free : is_out_in more place ≡ false
  pub others : (other : ℕ) → other ≢ place → is_out_in less other ≡ is_out_in more other
  pub count : out_in less ≡ out_in more + 1

pub times-push : (places : List ℕ) (place n : ℕ) →
    times_in (places ++ place ∷ []) n ≡ times_in places n + (if place == n then 1 else 0)
times-push places place n = sum_by_push (λ other. if other == n then 1 else 0) places place

module _ (less more : Share) (place : ℕ) (same : less.quota ≡ more.quota)
    (is : more.free ≡ less.free ++ place ∷ []) where
  times : (n : ℕ) → times_in more.free n ≡ times_in less.free n + (if place == n then 1 else 0)
  times n = ap (λ places. times_in places n) is ∙ times-push less.free place n

  longer : length more.free ≡ length less.free + 1
  longer = ap length is ∙ length_push less.free place

  pub moved : IsShare more → IsMoved less more place
  moved share = record {
    quota = same;
    out = grind (arith, nat_tests, times place, share.once place);
    free = grind (arith, nat_tests, times place);
    others = λ other apart. grind (arith, nat_tests, times other);
    count = omega (arith, longer, share.few);
  }

  -- the other share is one, if either is and the place is out of the one that has less free
  pub less_is : IsShare more → IsShare less
  less_is share =
      record { few = omega (arith, longer, share.few); once = λ n. grind (arith, nat_tests, times n, share.once n) }

  pub more_is : IsShare less → is_out_in less place ≡ true → IsShare more
  more_is share out = record {
    few = omega (arith, longer, some_out less place share out);
    once = λ n. grind (arith, nat_tests, times n, share.once n, out);
  }

-- a share of the code is one as contracts see it
pub kept_share : (first : ℕ) (share : code.Share) → IsKept first share → IsShare (shown_share share)
kept_share first share kept = record { few = kept.few; once = kept.once }

pub has_room : (share : code.Share) (place : ℕ) → IsKept share.start share → is_out_in (shown_share share) place ≡ true
    → vec_len share.free < vec_capacity share.free
has_room share place kept out =
    omega (
      arith,
      kept.room,
      share.free.ok.0,
      some_out (shown_share share) place (kept_share share.start share kept) out,
    )
