use Rattle.std.proofs.Common.{ℕ, List, [], ◌∷◌}
use Rattle.std.specs.List.{flat_map}
use Rattle.report.specs.Line.{bytes_of, spaced}
use Rattle.report.specs.declared.word.Word.{Word}
use Rattle.report.proofs.Putting.{failed_puts, line_of_words, put_stopped, put_then, put_then_part, same_part}
use Rattle.report.proofs.word.put_line.Goals as goal
use Rattle.report.proofs.Laws.Puts.{same_puts}

abbrev text : List Word → List ℕ
text words = flat_map (λ word. spaced (bytes_of word)) words

pub returns-in_err-put_words : goal.returns-in_err-put_words
returns-in_err-put_words g c =
    failed_puts c.from_residual-in_err-put_words.result _ _ _ c.from_residual-in_err-put_words.ensures.0
    (same_part _ _ _ _ (line_of_words c.args.first.now c.args.words.now c.args.more.now)
    (put_then_part _ _ _ c.args.first.now _ c.in_ok-put_word.ensures
    (put_stopped _ _ (text c.args.words.now) _ c.in_err-put_words.ensures)))

pub returns-in_err-put_words-2 : goal.returns-in_err-put_words-2
returns-in_err-put_words-2 g c =
    failed_puts c.from_residual-in_err-put_words-2.result _ _ _ c.from_residual-in_err-put_words-2.ensures.0
    (same_part _ _ _ _ (line_of_words c.args.first.now c.args.words.now c.args.more.now)
    (put_then_part _ _ _ c.args.first.now _ c.in_ok-put_word.ensures
    (put_then_part _ _ _ (text c.args.words.now) _ c.in_ok-put_words.ensures
    (put_stopped _ _ (text c.args.more.now) (10 ∷ []) c.in_err-put_words-2.ensures))))

pub returns : goal.returns
returns g c =
    same_puts c.put_bytes.result _ _ _ _ (line_of_words c.args.first.now c.args.words.now c.args.more.now)
    (put_then c.put_bytes.result _ _ _ c.args.first.now _ c.in_ok-put_word.ensures
    (put_then c.put_bytes.result _ _ _ (text c.args.words.now) _ c.in_ok-put_words.ensures
    (put_then c.put_bytes.result _ _ _ (text c.args.more.now) (10 ∷ []) c.in_ok-put_words-2.ensures
    c.put_bytes.ensures)))
