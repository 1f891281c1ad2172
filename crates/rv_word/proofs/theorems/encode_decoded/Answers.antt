use Rattle.std.proofs.Common.{◌≡◌, ◌≢◌, ◌∙◌, sym, refl, ap, Option, Some}
use Rattle.rv_word.specs.Meaning.{Means}
use Rattle.rv_word.specs.declared.insn.Insn.{Insn}
use Rattle.rv_word.specs.declared.insn.Insn.TheVariants.{Fence}
use Rattle.rv_word.proofs.theorems.encode_decoded.Goals as goal

one_value : (found : Option Insn) (insn other : Insn) → found ≡ Some insn → Some other ≡ found → insn ≡ other
one_value found insn other is_insn is_other = cc

pub returns-clause-same : goal.returns-clause-same
returns-clause-same c insn decodes other =
    let decoded_insn : Insn = c.in_ok-decode.field-0 in
    let same : insn ≡ decoded_insn = one_value _ _ _ decodes c.in_ok-decode.ensures.exact in
    let meant : Means c.args.word decoded_insn = (c.in_ok-decode.ensures.is_the_meaning decoded_insn).0 refl in
    let not_fence : decoded_insn ≢ Fence = λ fence. other (same ∙ fence) in
    ap Some (sym (c.encode.ensures.no_other_word_does c.args.word c.ranges.word.fits meant not_fence))
