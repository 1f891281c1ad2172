use Rattle.std.proofs.Common.{ap}
use Rattle.cache_sets.specs.Slotted.{Slotted}
use Rattle.cache_sets.proofs.After.{lent-touched, stands-touched, touched-after}
use Rattle.cache_sets.proofs.Reached.{once-reached, reached}
use Rattle.cache_sets.proofs.sets.Sets.touch.Goals as goal

pub touch-requires : goal.touch-requires
touch-requires c =
    once-reached _ _ _ _ (reached c.as_slice.ensures.value c.set_number-number.ensures.exact
    c.set_number-number.ensures.within c.index_mut-set.ensures.value) _ _ _ c.self.invariant c.args.line.number

pub invariant_of-self : goal.invariant_of-self
invariant_of-self c =
    let at =
    reached c.as_slice.ensures.value c.set_number-number.ensures.exact c.set_number-number.ensures.within
    c.index_mut-set.ensures.value in
    stands-touched c.touch.new.self c.self.invariant c.self.view_is at c.touch.ensures.room c.touch.ensures.lines

pub returns : goal.returns
returns c =
    let at =
    reached c.as_slice.ensures.value c.set_number-number.ensures.exact c.set_number-number.ensures.within
    c.index_mut-set.ensures.value in
    record {
      touched =
          touched-after c.touch.new.self c.self.invariant c.self.view_is at c.touch.ensures.room c.touch.ensures.lines;
      lent =
          lent-touched c.touch.new.self c.self.invariant c.self.view_is at c.touch.ensures.room c.touch.ensures.lines;
      owner = ap (λ (v : Slotted). v.owner) c.self.view_is;
    }
