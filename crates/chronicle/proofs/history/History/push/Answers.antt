-- the counts have room for an entry more, and are kept
use Rattle.std.proofs.Common.{◌≤◌, subst, sym}
use Rattle.chronicle.proofs.Counted.{keeps_more, room_for_one}
use Rattle.chronicle.specs.Chronicle.{spare_of}
use Rattle.chronicle.proofs.history.History.push.Goals as goal

pub count-requires-clause-tallies : goal.count-requires-clause-tallies
count-requires-clause-tallies c =
    room_for_one c.self.inside.entries c.self.inside.counts c.self.invariant
    (subst (λ history. 1 ≤ spare_of history) (sym c.self.view_is) c.requires)

pub invariant_of-self : goal.invariant_of-self
invariant_of-self c =
    let counted = c.count.ensures in
    keeps_more c.self.inside.entries c.push.new.self c.self.inside.counts c.count.new.self c.args.entry c.self.invariant
    (subst (λ history. 1 ≤ spare_of history) (sym c.self.view_is) c.requires) c.push.ensures
    counted.tallies counted.small
    counted.steps counted.few
