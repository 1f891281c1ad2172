-- the next event's instructions take effect
use Rattle.step_back.specs.Effect.{harts_in}
use Rattle.step_back.proofs.Serials.{stands_on, takes_effect}
use Rattle.step_back.proofs.timeline.Timeline.forward.Goals as goal

pub take_effect-requires-clause-exist : goal.take_effect-requires-clause-exist
take_effect-requires-clause-exist c =
    (takes_effect c.self.inside.trail c.self.inside.history.entries c.self.inside.place c.entry-entry.result
    (harts_in c.entry-entry.result.event.hart.number c.of.result) c.self.invariant c.entry-entry.ensures
    (c.of.ensures c.entry-entry.result.event.hart.number)).exist

pub take_effect-requires-clause-room : goal.take_effect-requires-clause-room
take_effect-requires-clause-room c =
    (takes_effect c.self.inside.trail c.self.inside.history.entries c.self.inside.place c.entry-entry.result
    (harts_in c.entry-entry.result.event.hart.number c.of.result) c.self.invariant c.entry-entry.ensures
    (c.of.ensures c.entry-entry.result.event.hart.number)).short

pub invariant_of-self : goal.invariant_of-self
invariant_of-self c =
    stands_on c.self.inside.trail c.take_effect.new.self c.self.inside.history.entries c.self.inside.place
    c.entry-entry.result
    (harts_in c.entry-entry.result.event.hart.number c.of.result) c.self.invariant c.entry-entry.ensures
    (c.of.ensures c.entry-entry.result.event.hart.number) c.take_effect.ensures
