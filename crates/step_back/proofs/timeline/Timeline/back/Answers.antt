-- the last event's instructions are taken back
use Rattle.std.proofs.Common.{◌≡◌, ◌+◌, ◌-◌, List, ℕ, ap, arith, length, length-append, subst}
use Rattle.step_back.specs.Effect.{harts_in}
use Rattle.step_back.specs.Standing.{StandsAt, serial_to}
use Rattle.step_back.proofs.Serials.{stands_back, took_effect}
use Rattle.step_back.proofs.timeline.Timeline.back.Goals as goal

pub undo_all-requires : goal.undo_all-requires
undo_all-requires c =
    let before : ℕ = c.self.inside.place - 1 in
    let next : c.self.inside.place ≡ before + 1 = omega arith in
    let At : ℕ → Type 0 = StandsAt c.self.inside.trail c.self.inside.history.entries in
    let hart : ℕ = c.entry-entry.result.event.hart.number in
    let harts : List ℕ = harts_in hart c.of.result in
    omega (
      arith,
      c.count.ensures hart,
      ap length
          (took_effect c.self.inside.trail c.self.inside.history.entries before c.entry-entry.result harts
          (subst At next c.self.invariant)
          c.entry-entry.ensures (c.of.ensures hart)),
      length-append (serial_to c.self.inside.history.entries before) harts,
    )

pub invariant_of-self : goal.invariant_of-self
invariant_of-self c =
    let before : ℕ = c.self.inside.place - 1 in
    let next : c.self.inside.place ≡ before + 1 = omega arith in
    let At : ℕ → Type 0 = StandsAt c.self.inside.trail c.self.inside.history.entries in
    let hart : ℕ = c.entry-entry.result.event.hart.number in
    stands_back c.self.inside.trail c.undo_all.new.self c.self.inside.history.entries before c.count.result
    c.entry-entry.result
    (harts_in hart c.of.result) (subst At next c.self.invariant) c.entry-entry.ensures (c.of.ensures hart)
    (c.count.ensures hart) c.undo_all.ensures
