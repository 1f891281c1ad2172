use Rattle.std.proofs.Common.{List, ℕ, length, ap, ◌∙◌}
use Rattle.std.specs.List.{flat_map, range_with_len}
use Rattle.report.proofs.Putting.{put_then}
use Rattle.report.specs.PlaceText.{view_line}
use Rattle.report.specs.Text.{last_line}
use Rattle.rv_flat.specs.FlatState.{view_of}
use Rattle.step_back.specs.Standing.{serial_to, state_here}
use Rattle.report.proofs.places.put_place.Goals as goal
use Rattle.report.proofs.Laws.Puts.{same_puts}

pub returns : goal.returns
returns g c =
    let standing = c.args.timeline.now in
    put_then c.put_last_line.result _ _ _
    (flat_map (view_line (view_of (state_here standing))) (range_with_len 0 standing.program.harts)) _
    c.in_ok-put_pc_lines.ensures
    (same_puts c.put_last_line.result _ _ _ _
    (ap (λ n. last_line n (length c.output.result.now)) c.serial.ensures
    ∙ ap (λ (bytes : List ℕ). last_line (length (serial_to standing.entries standing.place)) (length bytes))
    c.output.ensures.exact)
    c.put_last_line.ensures)
