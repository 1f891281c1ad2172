use Rattle.std.proofs.Common.{◌≡◌, ◌+◌, ◌-◌, ap, subst, sym, true, ◌∙◌, arith}
use Rattle.residency.specs.Cache.{is_resident}
use Rattle.cache_sets.specs.Slotted.{Slotted}
use Rattle.cache_sets.proofs.After.{lent-marked, marked-after, stands-marked}
use Rattle.cache_sets.proofs.Counts.{bits-inside, few-marks, few-writes, marks-after_bit, marks-below, marks_in-le}
use Rattle.cache_sets.proofs.Counts.{writes-after_bit, writes-below, writes_in-le}
use Rattle.cache_sets.proofs.Reached.{once-reached, reached}
use Rattle.cache_sets.proofs.sets.Sets.set_bit.Goals as goal

pub set_bit-requires : goal.set_bit-requires
set_bit-requires c =
    once-reached _ _ _ _ (reached c.as_slice.ensures.value c.set_number-number.ensures.exact
    c.set_number-number.ensures.within c.index_mut-set.ensures.value) _ _ _ c.self.invariant c.args.line.number

pub overflow_sub-self : goal.overflow_sub-self
overflow_sub-self c =
    omega (
      arith,
      c.marks.ensures,
      marks-below _ _ _ _ _ _ c.self.invariant.sound
          (bits-inside c.args.line.number c.bits-before.ensures c.self.view_is),
    )

pub overflow_add-self : goal.overflow_add-self
overflow_add-self c =
    let bits = bits-inside c.args.line.number c.bits-before.ensures c.self.view_is in
    omega (arith, c.marks-2.ensures, marks_in-le c.with-after.result, few-marks _ _ _ _ _ _ c.self.invariant.sound bits)

pub overflow_sub-self-2 : goal.overflow_sub-self-2
overflow_sub-self-2 c =
    omega (
      arith,
      c.writes.ensures,
      writes-below _ _ _ _ _ _ c.self.invariant.sound
          (bits-inside c.args.line.number c.bits-before.ensures c.self.view_is),
    )

pub overflow_add-self-2 : goal.overflow_add-self-2
overflow_add-self-2 c =
    let bits = bits-inside c.args.line.number c.bits-before.ensures c.self.view_is in
    omega (
      arith,
      c.writes-2.ensures,
      writes_in-le c.with-after.result,
      few-writes _ _ _ _ _ _ c.self.invariant.sound bits,
    )

pub invariant_of-self : goal.invariant_of-self
invariant_of-self c =
    let i = c.self.inside in
    let at =
    reached c.as_slice.ensures.value c.set_number-number.ensures.exact c.set_number-number.ensures.within
    c.index_mut-set.ensures.value in
    let bits = bits-inside c.args.line.number c.bits-before.ensures c.self.view_is in
    let resident =
    subst (λ (v : Slotted). is_resident v.residency c.args.line.number ≡ true) (sym c.self.view_is) c.requires in
    stands-marked c.set_bit.new.self c.self.invariant c.self.view_is at c.set_bit.ensures.room c.args.need
    c.set_bit.ensures.lines _ _
    ((λ k. i.marked - c.marks.ensures k + c.marks-2.ensures k)
    ∙ marks-after_bit _ _ _ _ _ _ c.self.invariant.sound bits c.args.need c.with-after.result resident
    c.with-after.ensures)
    ((λ k. i.written - c.writes.ensures k + c.writes-2.ensures k)
    ∙ writes-after_bit _ _ _ _ _ _ c.self.invariant.sound bits c.args.need c.with-after.result resident
    c.with-after.ensures)

pub returns : goal.returns
returns c =
    let at =
    reached c.as_slice.ensures.value c.set_number-number.ensures.exact c.set_number-number.ensures.within
    c.index_mut-set.ensures.value in
    record {
      marked =
          marked-after c.set_bit.new.self c.self.invariant c.self.view_is at c.set_bit.ensures.room c.args.need
          c.set_bit.ensures.lines;
      lent =
          lent-marked c.set_bit.new.self c.self.invariant c.self.view_is at c.set_bit.ensures.room c.args.need
          c.set_bit.ensures.lines;
      owner = ap (λ (v : Slotted). v.owner) c.self.view_is;
    }
