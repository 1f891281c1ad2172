use Rattle.std.proofs.Common.{◌+◌, ap, ◌∙◌, take, drop}
use Rattle.file_numbers.specs.Numbers.{number_at}
use Rattle.run_check.specs.Faults.{line_at, line_place}
use Rattle.run_check.proofs.Items.{patch_is}
use Rattle.run_check.proofs.reading.patch_at.Goals as goal

pub returns : goal.returns
returns c =
    let file = c.args.file.now in
    let place = c.line_place-place.ensures in
    patch_is _ (line_at file c.args.lines c.args.index) c.line_bytes.result
    (take 64 (drop (line_place c.args.lines c.args.index + 4) file))
    (c.number_at.ensures ∙ ap (λ p. number_at file p) place)
    (c.line_bytes.ensures ∙ ap (λ p. take 64 (drop (p + 4) file)) place)
