-- what would be written back
use Rattle.std.proofs.Common.{◌∙◌, ◌<◌, ap, subst, sym}
use Rattle.machine.specs.EngineMemory.{if_dirty}
use Rattle.lab.proofs.Lining.{leaving_told}
use Rattle.lab.proofs.lines.back_for.Goals as goal
use Rattle.machine.specs.Story.{state_of}
use Rattle.snoop.specs.Shows.{bus_state}

pub returns : goal.returns
returns c =
    let h = c.args.hart.number in
    c.if_dirty.ensures
    ∙ ap (if_dirty c.sets-sets.result.now.residency) c.leaving.ensures
    ∙ leaving_told (bus_state c.bus.result.now) (state_of c.args.machine.now) c.sets-sets.result.now h
    c.args.line.number c.bus.ensures.shows
    c.sets-sets.ensures.exact (subst (λ n. h < n) (sym c.bus.ensures.harts) c.requires.hart_exists)
