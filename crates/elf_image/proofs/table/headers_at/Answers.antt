use Rattle.std.proofs.Common.{◌≤◌, arith}
use Rattle.std.proofs.lemmas.List.Elements.{All-push}
use Rattle.elf_image.specs.Limits.{file_limit}
use Rattle.elf_image.proofs.Headers.{headers_more, header_place}
use Rattle.elf_image.proofs.table.headers_at.Goals as goal

pub loop-index-preserved : goal.loop-index-preserved
loop-index-preserved c =
    let more = headers_more c.args.file.now c.args.place c.loop-index.index in
    let place : c.read.result.place ≤ file_limit = rw (c.read.ensures, header_place) (omega arith) in (
      cc,
      omega arith,
      rw c.push.ensures.items (All-push (λ header. header.place ≤ file_limit) _ _ c.loop-index.invariant.2 place),
    )
