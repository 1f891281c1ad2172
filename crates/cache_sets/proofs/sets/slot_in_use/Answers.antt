use Rattle.std.proofs.Common.{ap, is_some, sym, ◌∙◌}
use Rattle.std.specs.Option.{option_map_or}
use Rattle.std.proofs.lemmas.Bool.{true≢false}
use Rattle.line_pool.specs.Pooled.{no_slot}
use Rattle.cache_sets.specs.declared.line.Line as code
use Rattle.residency.specs.Keyed.{found}
use Rattle.cache_sets.specs.Kept.{number_of}
use Rattle.residency.proofs.Laws.KeyedLemmas.{found_read, position-found}
use Rattle.cache_sets.proofs.sets.slot_in_use.Goals as goal

pub unreachable-requires : goal.unreachable-requires
unreachable-requires c =
    let line = c.args.line.number in
    let items = c.set_of-set.result.now.lines.items in
    true≢false
    (sym c.requires.there ∙ ap (λ lines. is_some (found number_of lines line)) (sym c.set_of-set.ensures)
    ∙ ap is_some (position-found number_of items line (sym c.place_of.ensures ∙ c.in-None.is)))

pub returns : goal.returns
returns c =
    let line = c.args.line.number in
    let items = c.set_of-set.result.now.lines.items in
    let it = c.index.result.now in
    sym (ap (λ lines. option_map_or (λ (l : code.Line). l.slot) (found number_of lines line) no_slot)
    (sym c.set_of-set.ensures)
    ∙ ap (λ l. option_map_or (λ (x : code.Line). x.slot) l no_slot)
    (found_read number_of items line c.in-Some.place it (sym c.place_of.ensures ∙ c.in-Some.is) c.index.ensures))
