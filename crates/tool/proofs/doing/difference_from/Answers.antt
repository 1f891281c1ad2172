-- what a driver says of a difference, as the answer of a replay
use Rattle.std.proofs.Common.{◌∙◌, ◌<◌, ap, length, refl, subst, sym}
use Rattle.std.specs.Prelude.{slice_get}
use Rattle.chronicle.specs.Chronicle.{Chronicle}
use Rattle.std.proofs.lemmas.Option.{slice_get_read}
use Rattle.tool.proofs.Differences.{difference_is, differing_at, none_differs}
use Rattle.tool.proofs.doing.difference_from.Goals as goal

pub bounds-recorded-place : goal.bounds-recorded-place
bounds-recorded-place c =
    (differing_at c.args.machine.now c.follow_recorded.new.machine c.args.events.now c.args.recorded.now c.in-Some.place
    c.requires.new c.requires.one_each c.follow_recorded.ensures.followed
    ((c.follow_recorded.ensures.differs c.in-Some.place).0 c.in-Some.is)).within

pub entry-requires : goal.entry-requires
entry-requires c =
    let differing =
    differing_at c.args.machine.now c.follow_recorded.new.machine c.args.events.now c.args.recorded.now c.in-Some.place
    c.requires.new c.requires.one_each c.follow_recorded.ensures.followed
    ((c.follow_recorded.ensures.differs c.in-Some.place).0 c.in-Some.is) in
    subst (λ (history : Chronicle). c.in-Some.place < length history.entries)
    (sym c.history.ensures.exact) differing.there

pub returns-in-Some-clause-exact : goal.returns-in-Some-clause-exact
returns-in-Some-clause-exact c =
    let differing =
    differing_at c.args.machine.now c.follow_recorded.new.machine c.args.events.now c.args.recorded.now c.in-Some.place
    c.requires.new c.requires.one_each c.follow_recorded.ensures.followed
    ((c.follow_recorded.ensures.differs c.in-Some.place).0 c.in-Some.is) in
    difference_is c.args.machine.now c.follow_recorded.new.machine c.args.recorded.now _ c.entry.result differing
    (slice_get_read c.args.recorded.now (length c.args.recorded.now) c.in-Some.place c.index-recorded-place.result refl
    differing.within c.index-recorded-place.is)
    (ap (λ (history : Chronicle). slice_get history.entries c.in-Some.place) (sym c.history.ensures.exact)
    ∙ c.entry.ensures)
    refl

pub returns-in-None-clause-exact : goal.returns-in-None-clause-exact
returns-in-None-clause-exact c =
    none_differs c.args.machine.now c.follow_recorded.new.machine c.args.events.now c.args.recorded.now c.requires.new
    c.follow_recorded.ensures.followed (c.follow_recorded.ensures.agrees.0 c.in-None.is)
