use Rattle.std.proofs.Common.{None, Some, ap, is_some, refl, subst, sym, arith}
use Rattle.line_pool.specs.Others.{LeavesOthers}
use Rattle.write_hold.specs.Calls.{IsPut}
use Rattle.write_hold.specs.Entries.{HoldStands, hold_of}
use Rattle.write_hold.specs.Slotted.{IsLent, Slotted, lent}
use Rattle.write_hold.proofs.After.{full-new, held-not_full, held-out, leaves-held, lent-held, lent-new, put-held}
use Rattle.write_hold.proofs.After.{put-new, stands-held, stands-new}
use Rattle.write_hold.proofs.Steps.{place_told}
use Rattle.write_hold.proofs.hold.Hold.put.Goals as goal

-- the line was held
pub store-requires-clause-out : goal.store-requires-clause-out
store-requires-clause-out c =
    let at =
    place_told c.self.inside.entries.items _ c.args.line.number (Some c.in-Some.place) c.place_of.result
    c.deref.ensures.value
    c.place_of.ensures c.in-Some.is in
    held-out c.self.invariant c.self.view_is c.requires.lent c.args.line.number at c.index_mut.ensures.value

pub invariant_of-self : goal.invariant_of-self
invariant_of-self c =
    let at =
    place_told c.self.inside.entries.items _ c.args.line.number (Some c.in-Some.place) c.place_of.result
    c.deref.ensures.value
    c.place_of.ensures c.in-Some.is in
    stands-held c.self.invariant c.self.view_is c.requires.lent c.args.line.number at
    c.index_mut.ensures.value c.store.ensures

pub returns-in-Some-clause-put : goal.returns-in-Some-clause-put
returns-in-Some-clause-put c =
    let at =
    place_told c.self.inside.entries.items _ c.args.line.number (Some c.in-Some.place) c.place_of.result
    c.deref.ensures.value
    c.place_of.ensures c.in-Some.is in
    put-held c.self.invariant c.self.view_is c.requires.lent c.args.line.number at c.index_mut.ensures.value
    c.store.ensures c.requires.inside

pub returns-in-Some-clause-refused_exactly : goal.returns-in-Some-clause-refused_exactly
returns-in-Some-clause-refused_exactly c =
    let at =
    place_told c.self.inside.entries.items _ c.args.line.number (Some c.in-Some.place) c.place_of.result
    c.deref.ensures.value
    c.place_of.ensures c.in-Some.is in (
      λ refused. absurd cc,
      λ full.
          sym (held-not_full c.self.invariant c.self.view_is c.requires.lent c.args.line.number at
          c.index_mut.ensures.value full),
    )

pub returns-in-Some-clause-lent : goal.returns-in-Some-clause-lent
returns-in-Some-clause-lent c =
    let at =
    place_told c.self.inside.entries.items _ c.args.line.number (Some c.in-Some.place) c.place_of.result
    c.deref.ensures.value
    c.place_of.ensures c.in-Some.is in
    lent-held c.self.invariant c.self.view_is c.requires.lent c.args.line.number at
    c.index_mut.ensures.value c.store.ensures

pub returns-in-Some-clause-others : goal.returns-in-Some-clause-others
returns-in-Some-clause-others c =
    let at =
    place_told c.self.inside.entries.items _ c.args.line.number (Some c.in-Some.place) c.place_of.result
    c.deref.ensures.value
    c.place_of.ensures c.in-Some.is in
    subst (λ o. LeavesOthers o c.args.pool.now c.store.new.pool) (ap (λ (v : Slotted). v.owner) c.self.view_is)
    (leaves-held c.self.invariant c.self.view_is c.requires.lent c.args.line.number at c.index_mut.ensures.value
    c.store.ensures)

-- a slot was taken for it
pub invariant_of-self-in-Some-take : goal.invariant_of-self-in-Some-take
invariant_of-self-in-Some-take c =
    let at = place_told c.self.inside.entries.items _ c.args.line.number None c.place_of.result c.deref.ensures.value
    c.place_of.ensures c.in-None.is in
    subst (HoldStands c.self.inside.limit c.push_reserved.new.self.cap) (sym c.push_reserved.ensures.items)
    (stands-new c.self.invariant c.self.view_is c.requires.lent c.args.line.number at c.in-Some-take.ensures.taken
    c.new-entry.ensures.slot c.store-in-Some-take.ensures
    (ap (λ l. l.number) c.new-entry.ensures.line)
    c.push_reserved.new.self.cap (omega (arith, c.push_reserved.ensures.capacity)))

pub returns-in-Some-take-clause-put : goal.returns-in-Some-take-clause-put
returns-in-Some-take-clause-put c =
    let i = c.self.inside in
    let at = place_told c.self.inside.entries.items _ c.args.line.number None c.place_of.result c.deref.ensures.value
    c.place_of.ensures c.in-None.is in
    subst (λ new. IsPut (lent c.args.pool.now c.args.self.now)
    (lent c.store-in-Some-take.new.pool (hold_of i.limit i.owner new))
    c.args.line.number c.args.offset c.args.bytes.now) (sym c.push_reserved.ensures.items)
    (put-new c.self.invariant c.self.view_is c.requires.lent c.args.line.number at c.in-Some-take.ensures.taken
    c.new-entry.ensures.slot c.store-in-Some-take.ensures
    (ap (λ l. l.number) c.new-entry.ensures.line)
    c.requires.inside (c.new-entry.ensures.nothing c.take.new.self))

pub returns-in-Some-take-clause-lent : goal.returns-in-Some-take-clause-lent
returns-in-Some-take-clause-lent c =
    let i = c.self.inside in
    let at = place_told c.self.inside.entries.items _ c.args.line.number None c.place_of.result c.deref.ensures.value
    c.place_of.ensures c.in-None.is in
    subst (λ new. IsLent c.store-in-Some-take.new.pool (hold_of i.limit i.owner new))
    (sym c.push_reserved.ensures.items)
    (lent-new c.self.invariant c.self.view_is c.requires.lent c.args.line.number at c.in-Some-take.ensures.taken
    c.new-entry.ensures.slot c.store-in-Some-take.ensures
    (ap (λ l. l.number) c.new-entry.ensures.line))

-- there was none
pub returns-in-None-take-clause-refused_exactly : goal.returns-in-None-take-clause-refused_exactly
returns-in-None-take-clause-refused_exactly c =
    let at = place_told c.self.inside.entries.items _ c.args.line.number None c.place_of.result c.deref.ensures.value
    c.place_of.ensures c.in-None.is in (
      λ refused. full-new c.self.invariant c.self.view_is c.requires.lent c.args.line.number at
          (c.take.ensures.none_exactly.0 (ap is_some c.in-None-take.is)),
      λ full. refl,
    )
