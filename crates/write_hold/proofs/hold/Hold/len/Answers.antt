use Rattle.std.proofs.Common.{subst}
use Rattle.write_hold.specs.Calls.{IsHold}
use Rattle.write_hold.specs.Slotted.{lent}
use Rattle.write_hold.proofs.Shown.{shown_sound}
use Rattle.write_hold.proofs.hold.Hold.len.Goals as goal

pub returns-clause-sound : goal.returns-clause-sound
returns-clause-sound c =
    let i = c.self.inside in
    λ pool. subst (λ hold. IsHold (lent pool hold)) c.self.view_is
    (shown_sound pool i.limit i.entries.cap i.owner i.entries.items c.self.invariant)
