use Rattle.std.proofs.Common.{◌+◌, ap, ◌∙◌}
use Rattle.std.specs.Prelude.{slice_index}
use Rattle.file_numbers.specs.Numbers.{number_at}
use Rattle.run_check.specs.Faults.{hart_at, count_at}
use Rattle.run_check.proofs.Items.{stretch_is}
use Rattle.run_check.proofs.reading.stretch_at.Goals as goal

pub returns : goal.returns
returns c =
    let file = c.args.file.now in
    let place = c.stretch_place-place.ensures in
    stretch_is _ (hart_at file c.args.index) c.number_at.result (count_at file c.args.index)
    (ap (λ p. slice_index file p) place)
    (c.number_at.ensures ∙ ap (λ p. number_at file (p + 1)) place)
