use Rattle.report.specs.Line.{bytes_of, spaced}
use Rattle.report.proofs.Putting.{failed_puts, one_failed}
use Rattle.report.proofs.word.put_words.Goals as goal

pub returns-in_err-put_spaced : goal.returns-in_err-put_spaced
returns-in_err-put_spaced g c =
    failed_puts c.from_residual.result _ _ _ c.from_residual.ensures.0
    (one_failed (λ word. spaced (bytes_of word)) _ _ _ c.args.words.now c.loop-word.word-index _ c.loop-word-test.true
    c.loop-word.invariant c.in_err-put_spaced.ensures)
