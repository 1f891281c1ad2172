use Rattle.std.proofs.Common.{ap, refl, sym, subst, ◌∙◌}
use Rattle.write_hold.specs.Calls.{IsHold}
use Rattle.write_hold.specs.Held.{holds}
use Rattle.write_hold.specs.Slotted.{lent}
use Rattle.write_hold.proofs.Finds.{is_some_position}
use Rattle.write_hold.proofs.Shown.{shown_holds, shown_sound}
use Rattle.write_hold.proofs.Steps.{is_of, place_told}
use Rattle.write_hold.proofs.hold.Hold.has.Goals as goal

pub returns-clause-exact : goal.returns-clause-exact
returns-clause-exact c =
    let entries = c.self.inside.entries.items in
    let line = c.args.line.number in
    let answer = c.place_of.result in
    λ pool.
    c.is_some.ensures
    ∙ is_some_position (is_of line) entries answer
    (place_told entries _ line answer answer c.deref.ensures.value c.place_of.ensures refl)
    ∙ sym (shown_holds pool entries line) ∙ ap (λ hold. holds (lent pool hold).entries line) c.self.view_is

pub returns-clause-sound : goal.returns-clause-sound
returns-clause-sound c =
    let i = c.self.inside in
    λ pool. subst (λ hold. IsHold (lent pool hold)) c.self.view_is
    (shown_sound pool i.limit i.entries.cap i.owner i.entries.items c.self.invariant)
