use Rattle.std.proofs.Common.{refl, rules}
use Rattle.rv_asm.proofs.Words.{one_more}
use Rattle.rv_asm.proofs.builder.Asm.words.Goals as goal

pub loop-place-preserved : goal.loop-place-preserved
loop-place-preserved c =
    let encoded = c.encode.ensures in (
      one_more _ _ _ _ _ _ _ c.loop-place.invariant.0 c.push_reserved.ensures.items refl c.near_insn.ensures.exact
          encoded.means_it encoded.fence,
      search rules,
    )
