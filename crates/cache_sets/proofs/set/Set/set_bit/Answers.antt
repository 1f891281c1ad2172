use Rattle.std.proofs.Common.{ap, sym, ◌∙◌}
use Rattle.std.specs.Prelude.{slice_set}
use Rattle.cache_sets.specs.Kept.{marked_way, number_of, with_way}
use Rattle.residency.proofs.Laws.KeyedLemmas.{changed-absent, changed_read, position-found}
use Rattle.cache_sets.proofs.set.Set.set_bit.Goals as goal

pub returns-in-Some-get_mut-clause-lines : goal.returns-in-Some-get_mut-clause-lines
returns-in-Some-get_mut-clause-lines c =
    let line = c.in-Some-get_mut.found.now in
    ap (λ bits. slice_set c.args.self.now.lines.items c.in-Some.place
    (record line { way = record line.way { bits = bits } }))
    c.with-found.ensures
    ∙ changed_read number_of (with_way (marked_way c.args.need)) c.args.self.now.lines.items c.args.line.number
    c.in-Some.place line c.requires
    (sym c.place_of.ensures ∙ c.in-Some.is) c.in-Some-get_mut.ensures.value

pub returns-in_default-clause-lines : goal.returns-in_default-clause-lines
returns-in_default-clause-lines c =
    sym (changed-absent number_of (with_way (marked_way c.args.need)) c.args.self.now.lines.items c.args.line.number
    (position-found number_of c.args.self.now.lines.items c.args.line.number
    (sym c.place_of.ensures ∙ c.in_default.is)))
