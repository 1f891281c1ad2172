-- one hart's word more
use Rattle.std.proofs.Common.{◌≡◌, ◌<◌, ◌∙◌, ap, arith, below_more, get_or, length}
use Rattle.std.specs.Option.{unwrap_or}
use Rattle.std.proofs.lemmas.List.{get_or_default, get_or-set_other, get_or-set_same, length-set}
use Rattle.rv_flat.specs.FlatState.{no_hart}
use Rattle.rv_flat.proofs.flat_state.changes.reserved_words.Goals as goal

pub loop-place-preserved : goal.loop-place-preserved
loop-place-preserved c =
    let place = c.loop-place.place in
    let words = c.loop-place.words in
    let harts = c.args.harts.now in
    let exists : place < length harts = c.loop-place-test.true in
    let room : place < length words = omega (arith, c.requires, c.loop-place.invariant.eight) in
    let word : c.unwrap_or.result ≡ unwrap_or (get_or harts place no_hart).reserved 0 =
    c.unwrap_or.ensures ∙ ap (λ view. unwrap_or view.reserved 0)
    (get_or_default harts place c.index-harts-place.result no_hart exists) in
    record {
      eight = length-set words place c.unwrap_or.result ∙ c.loop-place.invariant.eight;
      so_far =
          below_more _ _
          (λ k low. get_or-set_other words place k c.unwrap_or.result 0 (λ same. omega arith)
          ∙ c.loop-place.invariant.so_far k low)
          (get_or-set_same words place c.unwrap_or.result 0 room ∙ word);
      no_other = λ k high.
          get_or-set_other words place k c.unwrap_or.result 0 (λ same. omega arith)
          ∙ c.loop-place.invariant.no_other k (omega arith);
    }
