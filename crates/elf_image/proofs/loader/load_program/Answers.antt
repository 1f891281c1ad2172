use Rattle.std.proofs.Common.{◌≡◌, length, ap, arith}
use Rattle.elf_image.proofs.loader.load_program.Goals as goal

pub load_code-requires : goal.load_code-requires
load_code-requires c k d below =
    let inside = (c.requires.loadable.fits k d (rw c.deref-3.ensures.0 at below)).inside in
    let len : length c.deref-2.result.now ≡ length c.in_ok-bytes.bytes.items = ap length c.deref-2.ensures.value in
    rw c.deref-3.ensures.0
    (record { above = omega (arith, inside.above); below = omega (arith, inside.below, c.in_ok-bytes.ensures.len) })
