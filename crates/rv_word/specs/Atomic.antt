use Rattle.std.specs.Prelude.{ℕ, Option, [], ◌∷◌, find, ◌==◌}
use Rattle.rv_word.specs.declared.insn.AmoOp.{AmoOp}
use Rattle.rv_word.specs.declared.insn.AmoOp.TheVariants.{Swap, Add, Xor, And, Or, Min, Max, Minu, Maxu}
use Rattle.rv_word.specs.declared.insn.Insn.{Insn}
use Rattle.rv_word.specs.declared.insn.Insn.TheVariants.{Lr, Sc, Amo}

-- the instruction is one of the A extension
abbrev pub IsAtomic : Insn → Type 0
IsAtomic (Lr rd rs1 aq rl) = Unit {0}
IsAtomic (Sc rd rs1 rs2 aq rl) = Unit {0}
IsAtomic (Amo op rd rs1 rs2 aq rl) = Unit {0}
IsAtomic _ = ⊥

-- funct5 of an atomic memory operation
abbrev pub amo_code : AmoOp → ℕ
amo_code Swap = 0b00001
amo_code Add = 0b00000
amo_code Xor = 0b00100
amo_code And = 0b01100
amo_code Or = 0b01000
amo_code Min = 0b10000
amo_code Max = 0b10100
amo_code Minu = 0b11000
amo_code Maxu = 0b11100

-- the operation that has this code, or none
unfoldable pub amo_at : ℕ → Option AmoOp
amo_at code =
    find (λ op. code == amo_code op) (Swap ∷ Add ∷ Xor ∷ And ∷ Or ∷ Min ∷ Max ∷ Minu ∷ Maxu ∷ [])
