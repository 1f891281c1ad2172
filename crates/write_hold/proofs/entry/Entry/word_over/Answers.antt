use Rattle.std.proofs.Common.{◌≡◌, ◌<◌, ℕ, ap, subst, ◌∙◌}
use Rattle.line_lanes.proofs.Laws.{word_nested}
use Rattle.line_lanes.specs.Merged.{merged_byte}
use Rattle.line_lanes.specs.Words.{word_at}
use Rattle.write_hold.specs.Entries.{byte_over}
use Rattle.write_hold.proofs.Calls.{merged-over}
use Rattle.write_hold.proofs.entry.Entry.word_over.Goals as goal

pub returns : goal.returns
returns c =
    let entry = c.args.self.now in
    let under = c.args.under.now in
    let over = c.bytes.result.now in
    let seen : (place : ℕ) → merged_byte under over entry.mask place ≡ byte_over c.args.pool.now entry under place =
    λ place. ap (λ b. merged_byte under b entry.mask place) c.bytes.ensures
    ∙ merged-over c.args.pool.now entry under place in
    record {
      value = c.merged_word.ensures.word
          ∙ (λ i. word_at (λ place. seen place i) c.args.offset)
          ∙ word_nested (byte_over c.args.pool.now entry under) c.args.offset;
      bytes = λ place from before. subst (λ n. n < 256) (seen place) (c.merged_word.ensures.bytes place from before);
    }
