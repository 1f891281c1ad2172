-- one event more
use Rattle.std.proofs.Common.{◌++◌, ◌∷◌, [], ◌∙◌, ap, sym, take}
use Rattle.std.proofs.lemmas.List.{take_more}
use Rattle.std.proofs.lemmas.Option.{get_or_from_slice_get, slice_get_within}
use Rattle.machine.proofs.copies.copy_of.Goals as goal

pub loop-place-preserved : goal.loop-place-preserved
loop-place-preserved c =
    let entries = c.args.history.now.entries in
    let place = c.loop-place.place in
    let entry = c.entry.result in
    record {
      so_far =
          ap (λ history. history.entries) c.push.ensures
          ∙ ap (λ before. before ++ entry ∷ []) c.loop-place.invariant.so_far
          ∙ sym (take_more entries place entry (slice_get_within entries place entry c.entry.ensures)
          ∙ ap (λ last. take place entries ++ last ∷ [])
          (get_or_from_slice_get entries place entry entry c.entry.ensures));
      room = ap (λ history. history.places) c.push.ensures ∙ c.loop-place.invariant.room;
    }
