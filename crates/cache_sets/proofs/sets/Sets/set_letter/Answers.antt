use Rattle.std.proofs.Common.{ap}
use Rattle.cache_sets.specs.Slotted.{Slotted}
use Rattle.cache_sets.proofs.After.{lent-lettered, lettered-after, stands-lettered}
use Rattle.cache_sets.proofs.Reached.{once-reached, reached}
use Rattle.cache_sets.proofs.sets.Sets.set_letter.Goals as goal

pub set_letter-requires : goal.set_letter-requires
set_letter-requires c =
    once-reached _ _ _ _ (reached c.as_slice.ensures.value c.set_number-number.ensures.exact
    c.set_number-number.ensures.within c.index_mut-set.ensures.value) _ _ _ c.self.invariant c.args.line.number

pub invariant_of-self : goal.invariant_of-self
invariant_of-self c =
    let at =
    reached c.as_slice.ensures.value c.set_number-number.ensures.exact c.set_number-number.ensures.within
    c.index_mut-set.ensures.value in
    stands-lettered c.set_letter.new.self c.self.invariant c.self.view_is at c.set_letter.ensures.room c.args.letter
    c.set_letter.ensures.lines c.requires.valid

pub returns : goal.returns
returns c =
    let at =
    reached c.as_slice.ensures.value c.set_number-number.ensures.exact c.set_number-number.ensures.within
    c.index_mut-set.ensures.value in
    record {
      lettered =
          lettered-after c.set_letter.new.self c.self.invariant c.self.view_is at c.set_letter.ensures.room
          c.args.letter c.set_letter.ensures.lines;
      lent =
          lent-lettered c.set_letter.new.self c.self.invariant c.self.view_is at c.set_letter.ensures.room c.args.letter
          c.set_letter.ensures.lines;
      owner = ap (λ (v : Slotted). v.owner) c.self.view_is;
    }
