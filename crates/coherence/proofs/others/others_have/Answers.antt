-- one hart before those that were asked
use Rattle.std.proofs.Common.{◌≡◌, ◌-◌, ◌<◌, ◌≤◌, ℕ, suc, arith, length, refl}
use Rattle.coherence.proofs.Laws.Fetched.{indexed}
use Rattle.coherence.proofs.GivingUp.{before_absent, before_there}
use Rattle.coherence.proofs.others.others_have.Goals as goal

stepped : (number : ℕ) → 0 < number → number ≡ suc (number - 1)
stepped number some = omega (arith, some)

within : (number count : ℕ) → 0 < number → number ≤ count → number - 1 < count
within number count some fits = omega (arith, some, fits)

lower : (number count : ℕ) → number ≤ count → number - 1 ≤ count
lower number count fits = omega (arith, fits)

pub loop-number-preserved-then-is_other_copy : goal.loop-number-preserved-then-is_other_copy
loop-number-preserved-then-is_other_copy c =
    let caches = c.args.caches.now in
    let number = c.loop-number.number in
    let cache = c.index-caches-number.result in
    let inside : number - 1 < length caches =
    within number (length caches) c.loop-number-test.true c.loop-number.invariant.0 in (
      lower number (length caches) c.loop-number.invariant.0,
      before_there caches number (number - 1) c.args.hart.number c.args.line.number cache c.loop-number.some
          c.is_other_copy.result
          (stepped number c.loop-number-test.true) inside
          (indexed caches (number - 1) (number - 1) cache c.index-caches-number.is refl inside)
          c.loop-number.invariant.1 c.is_other_copy.ensures c.if-is_other_copy.true,
    )

pub loop-number-preserved : goal.loop-number-preserved
loop-number-preserved c =
    let caches = c.args.caches.now in
    let number = c.loop-number.number in
    let cache = c.index-caches-number.result in
    let inside : number - 1 < length caches =
    within number (length caches) c.loop-number-test.true c.loop-number.invariant.0 in (
      lower number (length caches) c.loop-number.invariant.0,
      before_absent caches number (number - 1) c.args.hart.number c.args.line.number cache c.loop-number.some
          c.is_other_copy.result
          (stepped number c.loop-number-test.true) inside
          (indexed caches (number - 1) (number - 1) cache c.index-caches-number.is refl inside)
          c.loop-number.invariant.1 c.is_other_copy.ensures c.if-is_other_copy.false,
    )
