use Rattle.std.proofs.Common.{◌-◌, ap, ◌∙◌, arith}
use Rattle.std.proofs.Common.{subst}
use Rattle.line_pool.specs.Others.{LeavesOthers}
use Rattle.cache_sets.specs.Slotted.{Slotted}
use Rattle.cache_sets.proofs.After.{gone-out, leaves-after, lent-without, stands-dropped, without-after}
use Rattle.cache_sets.proofs.Counts.{bits-inside, marks-after_drop, marks-below, writes-after_drop, writes-below}
use Rattle.cache_sets.proofs.Reached.{once-reached, reached}
use Rattle.cache_sets.proofs.sets.Sets.drop_line.Goals as goal

pub remove-gone-requires : goal.remove-gone-requires
remove-gone-requires c =
    once-reached _ _ _ _
    (reached c.as_slice.ensures.value c.set_number-number.ensures.exact c.set_number-number.ensures.within
    c.index_mut-set.ensures.value)
    _ _ _ c.self.invariant c.args.line.number

pub give_back-requires : goal.give_back-requires
give_back-requires c =
    let at =
    reached c.as_slice.ensures.value c.set_number-number.ensures.exact c.set_number-number.ensures.within
    c.index_mut-set.ensures.value in
    gone-out c.remove-gone.new.self c.self.invariant c.self.view_is at c.remove-gone.ensures.room
    c.remove-gone.ensures.left
    c.args.pool.now c.args.pool.now c.remove-gone.result
    c.requires.lent c.requires.resident c.remove-gone.ensures.gone

pub overflow_sub-self : goal.overflow_sub-self
overflow_sub-self c =
    omega (
      arith,
      c.marks.ensures,
      marks-below _ _ _ _ _ _ c.self.invariant.sound
          (bits-inside c.args.line.number c.bits-before.ensures c.self.view_is),
    )

pub overflow_sub-self-2 : goal.overflow_sub-self-2
overflow_sub-self-2 c =
    omega (
      arith,
      c.writes.ensures,
      writes-below _ _ _ _ _ _ c.self.invariant.sound
          (bits-inside c.args.line.number c.bits-before.ensures c.self.view_is),
    )

pub invariant_of-self : goal.invariant_of-self
invariant_of-self c =
    let i = c.self.inside in
    let at =
    reached c.as_slice.ensures.value c.set_number-number.ensures.exact c.set_number-number.ensures.within
    c.index_mut-set.ensures.value in
    let bits = bits-inside c.args.line.number c.bits-before.ensures c.self.view_is in
    stands-dropped c.remove-gone.new.self c.self.invariant c.self.view_is at c.remove-gone.ensures.room
    c.remove-gone.ensures.left _ _
    ((λ k. i.marked - c.marks.ensures k) ∙ marks-after_drop _ _ _ _ _ _ c.self.invariant.sound bits)
    ((λ k. i.written - c.writes.ensures k) ∙ writes-after_drop _ _ _ _ _ _ c.self.invariant.sound bits)

pub returns : goal.returns
returns c =
    let at =
    reached c.as_slice.ensures.value c.set_number-number.ensures.exact c.set_number-number.ensures.within
    c.index_mut-set.ensures.value in
    let own = ap (λ (v : Slotted). v.owner) c.self.view_is in
    record {
      without =
          without-after c.remove-gone.new.self c.self.invariant c.self.view_is at c.remove-gone.ensures.room
          c.remove-gone.ensures.left c.args.pool.now
          c.give_back.new.pool c.remove-gone.result c.requires.lent c.requires.resident c.remove-gone.ensures.gone
          c.give_back.ensures;
      lent =
          lent-without c.remove-gone.new.self c.self.invariant c.self.view_is at c.remove-gone.ensures.room
          c.remove-gone.ensures.left c.args.pool.now
          c.give_back.new.pool c.remove-gone.result c.requires.lent c.requires.resident c.remove-gone.ensures.gone
          c.give_back.ensures;
      others = subst (λ o. LeavesOthers o c.args.pool.now c.give_back.new.pool) own
          (leaves-after c.remove-gone.new.self c.self.invariant c.self.view_is at c.remove-gone.ensures.room
          c.remove-gone.ensures.left c.args.pool.now
          c.give_back.new.pool c.remove-gone.result c.requires.lent c.requires.resident c.remove-gone.ensures.gone
          c.give_back.ensures);
      owner = own;
    }
