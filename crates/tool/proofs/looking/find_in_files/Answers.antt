use Rattle.std.proofs.Common.{refl}
use Rattle.command_line.specs.Words.{find_meaning}
use Rattle.tool.proofs.Timelines.{places_found}
use Rattle.tool.proofs.looking.find_in_files.Goals as goal

pub returns : goal.returns
returns c =
    let told =
    places_found (find_meaning c.args.command) c.args.image.items c.args.trace.items _ _ _ c.in_ok-image.image
    c.in_ok-hart.hart.number c.in_ok-make.field-0
    (record {
      trace = c.in_ok-trace.ensures.exact;
      harts = c.in_ok-trace.ensures.harts;
      accepted = c.in_ok-image.ensures.exact.0;
      program_is = c.in_ok-image.ensures.exact.1;
    })
    c.in_ok-hart.ensures.exact.0 c.in_ok-hart.ensures.exact.1 c.in_ok-hart.ensures.exact.2 c.in_ok-make.ensures in
    (told.0, told.1, refl, refl, told.2)
