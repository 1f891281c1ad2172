use Rattle.std.proofs.Common.{ap, subst}
use Rattle.line_pool.specs.Others.{LeavesOthers}
use Rattle.cache_sets.specs.Slotted.{Slotted}
use Rattle.cache_sets.proofs.Filled.{filled-after, leaves-after, lent-after, may_vacate, none-leaves, place-left}
use Rattle.cache_sets.proofs.Filled.{slot-out, stands-filled}
use Rattle.cache_sets.proofs.Reached.{once-reached, reached}
use Rattle.cache_sets.proofs.sets.Sets.fill.Goals as goal

pub make_room-gone-requires : goal.make_room-gone-requires
make_room-gone-requires c =
    once-reached _ _ _ _ (reached c.as_slice.ensures.value c.set_number-number.ensures.exact
    c.set_number-number.ensures.within c.index_mut-set.ensures.value) _ _ _ c.self.invariant

pub vacated-evicted-requires : goal.vacated-evicted-requires
vacated-evicted-requires c =
    let at =
    reached c.as_slice.ensures.value c.set_number-number.ensures.exact c.set_number-number.ensures.within
    c.index_mut-set.ensures.value in
    may_vacate c.args.line c.self.invariant c.self.view_is at c.make_room-gone.ensures c.requires.room c.requires.absent
    c.requires.valid c.requires.lent

pub write-requires : goal.write-requires
write-requires c =
    let at =
    reached c.as_slice.ensures.value c.set_number-number.ensures.exact c.set_number-number.ensures.within
    c.index_mut-set.ensures.value in
    slot-out c.args.line c.self.invariant c.self.view_is at c.make_room-gone.ensures c.requires.room c.requires.absent
    c.requires.valid c.requires.lent
    c.vacated-evicted.new.pool c.vacated-evicted.result.slot c.vacated-evicted.result.evicted c.vacated-evicted.ensures

pub put_first-requires : goal.put_first-requires
put_first-requires c =
    let at =
    reached c.as_slice.ensures.value c.set_number-number.ensures.exact c.set_number-number.ensures.within
    c.index_mut-set.ensures.value in
    place-left c.args.line c.self.invariant c.self.view_is at c.make_room-gone.ensures c.requires.room c.requires.absent
    c.requires.valid c.requires.lent
    c.vacated-evicted.new.pool c.vacated-evicted.result.slot c.vacated-evicted.result.evicted c.vacated-evicted.ensures

pub invariant_of-self : goal.invariant_of-self
invariant_of-self c =
    let at =
    reached c.as_slice.ensures.value c.set_number-number.ensures.exact c.set_number-number.ensures.within
    c.index_mut-set.ensures.value in
    stands-filled c.args.line c.self.invariant c.self.view_is at c.make_room-gone.ensures c.requires.room
    c.requires.absent c.requires.valid c.requires.lent
    c.vacated-evicted.new.pool c.vacated-evicted.result.slot c.vacated-evicted.result.evicted
    c.vacated-evicted.ensures c.put_first.new.self c.write.ensures c.new.ensures c.put_first.ensures.lines
    c.put_first.ensures.room

pub returns : goal.returns
returns c =
    let at =
    reached c.as_slice.ensures.value c.set_number-number.ensures.exact c.set_number-number.ensures.within
    c.index_mut-set.ensures.value in
    let own = ap (λ (v : Slotted). v.owner) c.self.view_is in
    record {
      filled =
          filled-after c.args.line c.self.invariant c.self.view_is at c.make_room-gone.ensures c.requires.room
          c.requires.absent c.requires.valid
          c.requires.lent c.vacated-evicted.new.pool c.vacated-evicted.result.slot c.vacated-evicted.result.evicted
          c.vacated-evicted.ensures c.put_first.new.self c.write.ensures c.new.ensures c.put_first.ensures.lines
          c.put_first.ensures.room;
      none_leaves =
          none-leaves c.args.line c.self.invariant c.self.view_is at c.make_room-gone.ensures c.requires.room
          c.requires.absent c.requires.valid
          c.requires.lent c.vacated-evicted.new.pool c.vacated-evicted.result.slot c.vacated-evicted.result.evicted
          c.vacated-evicted.ensures c.put_first.new.self c.write.ensures c.new.ensures c.put_first.ensures.lines
          c.put_first.ensures.room;
      lent =
          lent-after c.args.line c.self.invariant c.self.view_is at c.make_room-gone.ensures c.requires.room
          c.requires.absent c.requires.valid
          c.requires.lent c.vacated-evicted.new.pool c.vacated-evicted.result.slot c.vacated-evicted.result.evicted
          c.vacated-evicted.ensures c.put_first.new.self c.write.ensures c.new.ensures c.put_first.ensures.lines
          c.put_first.ensures.room;
      others = subst (λ o. LeavesOthers o c.args.pool.now c.write.new.pool) own
          (leaves-after c.args.line c.self.invariant c.self.view_is at c.make_room-gone.ensures c.requires.room
          c.requires.absent c.requires.valid
          c.requires.lent c.vacated-evicted.new.pool c.vacated-evicted.result.slot c.vacated-evicted.result.evicted
          c.vacated-evicted.ensures c.put_first.new.self c.write.ensures c.new.ensures c.put_first.ensures.lines
          c.put_first.ensures.room);
      owner = own;
    }
