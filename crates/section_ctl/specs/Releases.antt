-- the release of a section, by its instruction
use Rattle.std.specs.Prelude.{ℕ, Option, Some}
use Rattle.rv_alu.specs.declared.action.Action.{Action}
use Rattle.rv_alu.specs.declared.action.Action.TheVariants as actions
use Rattle.rv_word.specs.declared.insn.AmoOp.TheVariants as amos
use Rattle.rv_word.specs.declared.insn.Insn.{Insn}
use Rattle.rv_word.specs.declared.insn.Insn.TheVariants as insns

-- what a release does: a swap of the old value into the lock word, or a store of it
abbrev pub release_of_insn : Option Insn → ℕ → ℕ → Action
release_of_insn (Some (insns.Amo op rd rs1 rs2 aq rl)) word old = actions.Amo amos.Swap rd word old
release_of_insn _ word old = actions.Store word 4 old

-- the instruction of a release stores, or is atomic
abbrev pub IsReleaseInsn : Option Insn → Type 0
IsReleaseInsn (Some (insns.Store width rs1 rs2 offset)) = Unit {0}
IsReleaseInsn (Some (insns.Amo op rd rs1 rs2 aq rl)) = Unit {0}
IsReleaseInsn _ = ⊥
