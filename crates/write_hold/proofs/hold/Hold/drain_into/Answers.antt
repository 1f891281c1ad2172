use Rattle.std.proofs.Common.{◌≡◌, None, Some, true, ap, is_some, subst, sym, ◌∙◌, arith}
use Rattle.std.proofs.lemmas.Bool.{true≢false}
use Rattle.el_base.proofs.Laws.ListLaws.{find_by_no_position}
use Rattle.line_pool.specs.Others.{LeavesOthers}
use Rattle.write_hold.specs.Calls.{IsDrained}
use Rattle.write_hold.specs.Entries.{HoldStands, hold_of}
use Rattle.write_hold.specs.Held.{holds}
use Rattle.write_hold.specs.Slotted.{IsLent, Slotted, lent}
use Rattle.write_hold.proofs.After.{drained-after, held-out, leaves-drained, lent-drained, stands-drained}
use Rattle.write_hold.proofs.Shown.{shown_holds}
use Rattle.write_hold.proofs.Steps.{is_of, place_told}
use Rattle.write_hold.proofs.hold.Hold.drain_into.Goals as goal

pub unreachable-requires : goal.unreachable-requires
unreachable-requires c =
    let entries = c.self.inside.entries.items in
    let line = c.args.line.number in
    let pool = c.args.pool.now in
    let at =
    place_told entries _ line None c.place_of.result c.deref.ensures.value c.place_of.ensures c.in_default.is in
    true≢false
    (sym (subst (λ (hold : Slotted). holds (lent pool hold).entries line ≡ true) (sym c.self.view_is) c.requires.held)
    ∙ shown_holds pool entries line ∙ ap is_some (find_by_no_position (is_of line) entries at))

pub merge_into-requires : goal.merge_into-requires
merge_into-requires c =
    let at =
    place_told c.self.inside.entries.items _ c.args.line.number (Some c.in-Some.place) c.place_of.result
    c.deref.ensures.value
    c.place_of.ensures c.in-Some.is in
    held-out c.self.invariant c.self.view_is c.requires.lent c.args.line.number at c.remove-entry.ensures.value

pub give-requires : goal.give-requires
give-requires c =
    let at =
    place_told c.self.inside.entries.items _ c.args.line.number (Some c.in-Some.place) c.place_of.result
    c.deref.ensures.value
    c.place_of.ensures c.in-Some.is in
    held-out c.self.invariant c.self.view_is c.requires.lent c.args.line.number at c.remove-entry.ensures.value

pub invariant_of-self : goal.invariant_of-self
invariant_of-self c =
    let at =
    place_told c.self.inside.entries.items _ c.args.line.number (Some c.in-Some.place) c.place_of.result
    c.deref.ensures.value
    c.place_of.ensures c.in-Some.is in
    subst (HoldStands c.self.inside.limit c.remove-entry.new.self.cap) (sym c.remove-entry.ensures.items)
    (stands-drained c.self.invariant c.self.view_is c.requires.lent c.args.line.number at c.remove-entry.ensures.value
    c.give.ensures c.remove-entry.new.self.cap
    (omega (arith, c.remove-entry.ensures.capacity)))

pub returns : goal.returns
returns c =
    let i = c.self.inside in
    let at =
    place_told c.self.inside.entries.items _ c.args.line.number (Some c.in-Some.place) c.place_of.result
    c.deref.ensures.value
    c.place_of.ensures c.in-Some.is in
    record {
      drained =
          subst (λ new. IsDrained (lent c.args.pool.now c.args.self.now)
          (lent c.give.new.self (hold_of i.limit i.owner new))
          c.args.line.number c.args.target.now c.merge_into.new.target) (sym c.remove-entry.ensures.items)
          (drained-after c.self.invariant c.self.view_is c.requires.lent c.args.line.number at
          c.remove-entry.ensures.value c.give.ensures c.args.target.now
          c.merge_into.new.target c.merge_into.ensures);
      lent = subst (λ new. IsLent c.give.new.self (hold_of i.limit i.owner new)) (sym c.remove-entry.ensures.items)
          (lent-drained c.self.invariant c.self.view_is c.requires.lent c.args.line.number at
          c.remove-entry.ensures.value c.give.ensures);
      others =
          subst (λ o. LeavesOthers o c.args.pool.now c.give.new.self) (ap (λ (v : Slotted). v.owner) c.self.view_is)
          (leaves-drained c.self.invariant c.self.view_is c.requires.lent c.args.line.number at
          c.remove-entry.ensures.value c.give.ensures);
      owner = ap (λ (v : Slotted). v.owner) c.self.view_is;
    }
