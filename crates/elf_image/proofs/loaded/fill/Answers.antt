use Rattle.std.proofs.Common.{◌≡◌, ◌+◌, length, get_or, take, ap, ◌∙◌, arith}
use Rattle.std.proofs.lemmas.List.{get_or-replicate, take_all}
use Rattle.elf_image.specs.Loaded.{loaded_byte}
use Rattle.elf_image.proofs.Filling.{filled_more, all_loaded}
use Rattle.elf_image.proofs.loaded.fill.Goals as goal

pub loop-segment-init : goal.loop-segment-init
unfolding loaded_byte
loop-segment-init c k below =
    ap (λ bytes. get_or bytes k 0) c.requires.zeros ∙ get_or-replicate (length c.args.bytes.now) k 0 0 below

pub loop-segment-preserved : goal.loop-segment-preserved
loop-segment-preserved c k below =
    filled_more c.args.file.now c.args.segments.now c.loop-segment.segment-index c.args.base (length c.args.bytes.now)
    (c.args.base + k) _ _ _ c.requires.fits c.requires.apart (omega arith) (c.fill_segment.ensures k (omega arith))
    (c.loop-segment.invariant k (omega arith))

pub returns : goal.returns
returns c =
    let all : take c.loop-segment.segment-index c.args.segments.now ≡ c.args.segments.now =
    take_all _ _ c.loop-segment-test.false in
    rw (← c.loop-segment.auto.bytes)
    (all_loaded (loaded_byte c.args.file.now c.args.segments.now) c.args.base c.loop-segment.bytes
    (rw all at c.loop-segment.invariant))
