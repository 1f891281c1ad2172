-- The order of stamps.
use Rattle.std.proofs.Common.{◌≡◌, ◌<◌, ℕ, ◌==◌, ◌&&◌, ◌||◌, nat_lt, Bool, true, false, arith}
use Rattle.std.proofs.lemmas.Bool.Decides.{nat_tests}
use Rattle.stamp.specs.Stamps.{Stamp, less_of, next_clock_of}
use Rattle.stamp.specs.StrictOrder.{IsStrictTotalOrder}

-- the order of two pairs of numbers
abbrev before : ℕ → ℕ → ℕ → ℕ → Bool
before a h b g = nat_lt a b || ((a == b) && nat_lt h g)

before_itself : (a h : ℕ) → before a h a h ≡ false
before_itself a h = grind (arith, nat_tests)

before_transitive : (a h b g c k : ℕ) → before a h b g ≡ true → before b g c k ≡ true → before a h c k ≡ true
before_transitive a h b g c k first second = grind (arith, nat_tests)

before_asymmetric : (a h b g : ℕ) → before a h b g ≡ true → before b g a h ≡ false
before_asymmetric a h b g first = grind (arith, nat_tests)

same_clock : (a h b g : ℕ) → before a h b g ≡ false → before b g a h ≡ false → a ≡ b
same_clock a h b g first second = grind (arith, nat_tests)

same_hart : (a h b g : ℕ) → before a h b g ≡ false → before b g a h ≡ false → h ≡ g
same_hart a h b g first second = grind (arith, nat_tests)

pub less_strict : IsStrictTotalOrder less_of
less_strict = record {
  irreflexive = λ a. before_itself a.clock a.hart;
  transitive = λ a b c. before_transitive a.clock a.hart b.clock b.hart c.clock c.hart;
  asymmetric = λ a b. before_asymmetric a.clock a.hart b.clock b.hart;
  total = λ (a b : Stamp) (first : less_of a b ≡ false) (second : less_of b a ≡ false).
      λ i. record {
        clock = same_clock a.clock a.hart b.clock b.hart first second i;
        hart = same_hart a.clock a.hart b.clock b.hart first second i;
      };
}

-- the clock goes on past both
pub next_clock_above_own : (own seen : ℕ) → own < next_clock_of own seen
next_clock_above_own own seen = grind arith

pub next_clock_above_seen : (own seen : ℕ) → seen < next_clock_of own seen
next_clock_above_seen own seen = grind arith
