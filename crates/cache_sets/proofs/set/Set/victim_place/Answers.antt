use Rattle.std.proofs.Common.{◌-◌, arith}
use Rattle.std.proofs.lemmas.Bool.Decides.{nat_tests}
use Rattle.cache_sets.proofs.VictimPlaces.{victim_found, victim_missing}
use Rattle.cache_sets.proofs.set.Set.victim_place.Goals as goal

pub returns-then-not-is_marked : goal.returns-then-not-is_marked
returns-then-not-is_marked c =
    let some = c.loop-place-test.true in
    victim_found c.args.self.now.lines.items (c.loop-place.place - 1) c.index.result.now
    (omega (arith, some, c.loop-place.invariant.within))
    c.index.ensures (grind (arith, nat_tests, c.is_marked.ensures, c.if-not-is_marked.true))
    (λ k past inside d. c.loop-place.invariant.marked k (omega (arith, some, past)) inside d)

pub returns : goal.returns
returns c =
    victim_missing c.args.self.now.lines.items
    (λ k past inside d. c.loop-place.invariant.marked k (omega (arith, c.loop-place-test.false)) inside d)
