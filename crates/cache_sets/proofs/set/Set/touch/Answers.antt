use Rattle.std.proofs.Common.{length, ap, sym, ◌∙◌, arith}
use Rattle.std.proofs.lemmas.List.{with_items_is}
use Rattle.cache_sets.specs.Kept.{number_of}
use Rattle.residency.proofs.Laws.KeyedLemmas.{fronted-absent, fronted_from, position-found}
use Rattle.cache_sets.proofs.set.Set.touch.Goals as goal

pub returns-in-Some-clause-lines : goal.returns-in-Some-clause-lines
returns-in-Some-clause-lines c =
    let old = c.args.self.now.lines in
    with_items_is old c.to_front.new.lines
    (omega (arith, c.to_front.auto.lines, ap length c.as_mut_slice.ensures.value, old.ok.0))
    ∙ fronted_from number_of old.items c.as_mut_slice.result.now c.to_front.new.lines c.args.line.number
    c.in-Some.place c.requires
    (sym c.place_of.ensures ∙ c.in-Some.is) c.as_mut_slice.ensures.value c.to_front.ensures

pub returns-in_default-clause-lines : goal.returns-in_default-clause-lines
returns-in_default-clause-lines c =
    sym (fronted-absent number_of c.args.self.now.lines.items c.args.line.number
    (position-found number_of c.args.self.now.lines.items c.args.line.number
    (sym c.place_of.ensures ∙ c.in_default.is)))
