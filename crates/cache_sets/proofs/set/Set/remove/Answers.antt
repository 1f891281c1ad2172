use Rattle.std.proofs.Common.{refl, sym, ◌∙◌}
use Rattle.cache_sets.specs.Kept.{number_of}
use Rattle.residency.proofs.Laws.KeyedLemmas.{found_read, position-found, position-key, remove-without, without-absent}
use Rattle.cache_sets.proofs.set.Set.remove.Goals as goal

pub returns-in_err-place : goal.returns-in_err-place
returns-in_err-place c =
    let items = c.args.self.now.lines.items in
    let none = position-found number_of items c.args.line.number (sym c.place_of.ensures ∙ c.in_err-place.was) in
    record {
      gone = c.from_residual.ensures ∙ sym none;
      left = sym (without-absent number_of items c.args.line.number none);
      room = refl;
    }

pub returns : goal.returns
returns c =
    let items = c.args.self.now.lines.items in
    let line = c.args.line.number in
    let place = c.in_ok-place.place in
    let gone = c.remove.result in
    let is = sym c.place_of.ensures ∙ c.in_ok-place.was in
    let at = position-key number_of items line place gone is in
    record {
      gone = sym (found_read number_of items line place gone is c.remove.ensures.value);
      left = c.remove.ensures.items ∙ remove-without number_of items line place gone c.requires at.0 at.1;
      room = c.remove.ensures.capacity;
    }
