use Rattle.elf_image.proofs.Accepted.{loadable}
use Rattle.elf_image.proofs.Valid.{is_program}
use Rattle.elf_image.proofs.loader.load.Goals as goal

pub load_program-requires-clause-loadable : goal.load_program-requires-clause-loadable
load_program-requires-clause-loadable c =
    rw (c.in_ok-parts.ensures.layout, c.in_ok-parts.ensures.segments)
    (loadable c.args.file.now c.args.harts c.in_ok-parts.ensures.accepted)

pub load_program-requires-clause-valid : goal.load_program-requires-clause-valid
load_program-requires-clause-valid c =
    is_program c.args.file.now c.args.harts c.in_ok-parts.ensures.accepted c.requires.harts_in_range.0
    c.requires.harts_in_range.1
