use Rattle.std.proofs.Common.{option_map, ap, sym, ◌∙◌}
use Rattle.cache_sets.specs.declared.line.Line as code
use Rattle.cache_sets.specs.Kept.{number_of}
use Rattle.residency.proofs.Laws.KeyedLemmas.{found_read, position-found}
use Rattle.cache_sets.proofs.set.Set.find.Goals as goal

pub returns-in_err-place : goal.returns-in_err-place
returns-in_err-place c =
    c.from_residual.ensures
    ∙ sym (ap (option_map (λ (l : code.Line). l.way))
    (position-found number_of c.args.self.now.lines.items c.args.line.number
    (sym c.place_of.ensures ∙ c.in_err-place.was)))

pub returns : goal.returns
returns c =
    let it = c.index.result.now in
    sym (ap (option_map (λ (l : code.Line). l.way))
    (found_read number_of c.args.self.now.lines.items c.args.line.number c.in_ok-place.place it
    (sym c.place_of.ensures ∙ c.in_ok-place.was)
    c.index.ensures))
