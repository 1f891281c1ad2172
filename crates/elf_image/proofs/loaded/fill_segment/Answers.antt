use Rattle.std.proofs.Common.{arith}
use Rattle.elf_image.proofs.Filling.{get_or-filled}
use Rattle.elf_image.proofs.loaded.fill_segment.Goals as goal

pub returns : goal.returns
returns c k below =
    get_or-filled c.args.bytes.now c.args.file.now _ c.args.base c.args.segment.now _ _ _ _ k
    c.copy_from_slice.ensures.after
    (omega arith) (omega arith) (omega arith) (omega arith) (omega arith) (omega arith) below
