-- The words one after the other.
use Rattle.std.proofs.Common.{◌≡◌, ℕ, ◌+◌, ◌<◌, List, [], ◌∷◌, ◌++◌, length, Some, arith, below_more}
use Rattle.std.proofs.lemmas.List.{get_or_append_left, get_or_push, length_push}
use Rattle.std.specs.Prelude.{EachIndex}
use Rattle.rv_word.specs.Meaning.{Means}
use Rattle.rv_word.specs.declared.insn.Insn.{Insn}
use Rattle.rv_word.specs.declared.insn.Insn.TheVariants.{Fence}
use Rattle.rv_asm.specs.Assembly.{Assembly}
use Rattle.rv_asm.specs.Finished.{HasWord, insn_at}

-- the words of the instructions before a place, in order
pub record AreWordsUpTo (asm : Assembly) (place : ℕ) (words : List ℕ) : Type 0 where
  pub same_length : length words ≡ place
  pub each : EachIndex words (HasWord asm words)

pub one_more : (asm : Assembly) (words more : List ℕ) (place next word : ℕ) (insn : Insn) → AreWordsUpTo asm place words
    → more ≡ words ++ word ∷ [] → next ≡ place + 1
    → insn_at asm place ≡ Some insn → Means word insn → (insn ≡ Fence → word ≡ 0x0ff0000f)
    → AreWordsUpTo asm next more
one_more asm words more place next word insn before is_more is_next here means fence =
    let length_is : length words ≡ place = before.same_length in
    let last : HasWord asm (words ++ word ∷ []) place =
    rw (here, get_or_push words word 0 place length_is) (record { means = means; fence = fence }) in
    let below : (k : ℕ) → k < place → HasWord asm (words ++ word ∷ []) k =
    λ k lower. let within : k < length words = omega arith in rw get_or_append_left (before.each k within) in
    rw (is_more, is_next)
    (record {
      same_length = omega (arith, length_push words word);
      each =
          λ k within. below_more (HasWord asm (words ++ word ∷ [])) place below last k
          (omega (arith, length_push words word));
    })
