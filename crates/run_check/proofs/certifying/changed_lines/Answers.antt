use Rattle.std.proofs.Common.{◌≡◌, ◌+◌, ◌*◌, ◌-◌, ◌∙◌, arith, ap, not}
use Rattle.run_check.specs.Certified.{changed}
use Rattle.run_check.proofs.Gathering.{changed_is, image_line, line_passed, line_pushed, patch_gathered}
use Rattle.run_check.proofs.certifying.changed_lines.Goals as goal
use Rattle.run_check.proofs.certifying.changed_lines.Goals.{then-not-same_bytes+in_ok-push, else-not-same_bytes}

pub loop-index-preserved : goal.loop-index-preserved
loop-index-preserved g c =
    let program = c.args.image.now in
    let memory = (g.R.Reached.state c.args.reached.now).bytes in
    let index = c.loop-index.index in
    let line = c.line_at-line.ensures in
    let image =
    image_line program.bytes c.bytes-bytes.result.now index (64 * index + 64 - 64 * index)
    (omega arith) c.bytes-bytes.ensures.exact in
    let compared : changed program memory index ≡ not c.same_bytes.result =
    changed_is program memory c.line_at-line.result _ index c.same_bytes.result line image c.same_bytes.ensures
    in
    elim c.if-not-same_bytes.branch [
      | then-not-same_bytes+in_ok-push w ↦
          ap (λ v. v.items) w.lines-is
          ∙ line_pushed program memory index c.loop-index.lines.items w.push.new.self.items _ c.loop-index.invariant
          (compared ∙ ap not w.if-not-same_bytes.true)
          (patch_gathered program memory c.line_at-line.result c.base-base.result index w.line_of.result
          c.base-base.ensures.valid.base_on_line
          c.base-base.ensures.exact w.line_of.ensures line)
          w.in_ok-push.ensures.items
      | else-not-same_bytes w ↦
          ap (λ v. v.items) w.lines-is
          ∙ line_passed program memory index c.loop-index.lines.items c.loop-index.invariant
          (compared ∙ ap not w.if-not-same_bytes.false)
    ]
