use Rattle.std.proofs.Common.{ap, refl}
use Rattle.std.specs.Prelude.{length}
use Rattle.command_line.specs.Words.{look_meaning}
use Rattle.tool.proofs.Timelines.{place_shown}
use Rattle.tool.proofs.looking.look_in_files.Goals as goal

pub returns : goal.returns
returns c =
    let told =
    place_shown (look_meaning c.args.command) c.args.image.items c.args.trace.items _ _ _ c.in_ok-image.image _
    c.in_ok-place.place c.in_ok-timeline_at.field-0
    (record {
      trace = c.in_ok-trace.ensures.exact;
      harts = c.in_ok-trace.ensures.harts;
      accepted = c.in_ok-image.ensures.exact.0;
      program_is = c.in_ok-image.ensures.exact.1;
    })
    (ap length c.as_slice.ensures) c.in_ok-place.ensures.exact.0 c.in_ok-place.ensures.exact.1
    c.in_ok-timeline_at.ensures in
    (told.0, told.1, refl, refl, tt)
