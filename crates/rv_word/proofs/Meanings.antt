use Rattle.std.proofs.Common.{◌≡◌, ℕ, Some, arith, IsTrue}
use Rattle.std.proofs.lemmas.Grind.{common_steps}
use Rattle.rv_word.specs.declared.insn.Alu.{Alu}
use Rattle.rv_word.specs.declared.insn.Alu.TheVariants.{Add, Sub, Sll, Slt, Sltu, Xor, Srl, Sra, Or, And, Mul, Mulh}
use Rattle.rv_word.specs.declared.insn.Alu.TheVariants.{Mulhsu, Mulhu, Div, Divu, Rem, Remu}
use Rattle.rv_word.specs.declared.insn.Insn.{Insn}
use Rattle.rv_word.specs.declared.insn.Insn.TheVariants.{Lui, Auipc, Jal, Jalr, Branch, Load, Store, OpImm, Op, Fence}
use Rattle.rv_word.specs.declared.insn.Insn.TheVariants.{Ecall, Ebreak, Lr, Sc, Amo}
use Rattle.rv_word.specs.Arithmetic.{is_op_row, is_op_imm_row, op_at, op_imm_at}
use Rattle.rv_word.specs.Meaning.{Means}
use Rattle.rv_word.specs.Decoding.{decoded}
use Rattle.rv_word.proofs.Codes.{test_at-code, load_width_at-code, store_width_at-code, amo_at-code, amo_code-ne-lr}
use Rattle.rv_word.proofs.Codes.{amo_code-ne-sc}

op_at-row : (word : ℕ) (op : Alu) → IsTrue (is_op_row word op) → op_at word ≡ Some op
unfolding op_at
op_at-row word Add row = grind (arith, common_steps)
op_at-row word Sub row = grind (arith, common_steps)
op_at-row word Sll row = grind (arith, common_steps)
op_at-row word Slt row = grind (arith, common_steps)
op_at-row word Sltu row = grind (arith, common_steps)
op_at-row word Xor row = grind (arith, common_steps)
op_at-row word Srl row = grind (arith, common_steps)
op_at-row word Sra row = grind (arith, common_steps)
op_at-row word Or row = grind (arith, common_steps)
op_at-row word And row = grind (arith, common_steps)
op_at-row word Mul row = grind (arith, common_steps)
op_at-row word Mulh row = grind (arith, common_steps)
op_at-row word Mulhsu row = grind (arith, common_steps)
op_at-row word Mulhu row = grind (arith, common_steps)
op_at-row word Div row = grind (arith, common_steps)
op_at-row word Divu row = grind (arith, common_steps)
op_at-row word Rem row = grind (arith, common_steps)
op_at-row word Remu row = grind (arith, common_steps)

op_imm_at-row : (word : ℕ) (op : Alu) → IsTrue (is_op_imm_row word op) → op_imm_at word ≡ Some op
unfolding op_imm_at
op_imm_at-row word Add row = grind (arith, common_steps)
op_imm_at-row word Sub row = grind (arith, common_steps)
op_imm_at-row word Sll row = grind (arith, common_steps)
op_imm_at-row word Slt row = grind (arith, common_steps)
op_imm_at-row word Sltu row = grind (arith, common_steps)
op_imm_at-row word Xor row = grind (arith, common_steps)
op_imm_at-row word Srl row = grind (arith, common_steps)
op_imm_at-row word Sra row = grind (arith, common_steps)
op_imm_at-row word Or row = grind (arith, common_steps)
op_imm_at-row word And row = grind (arith, common_steps)
op_imm_at-row word Mul row = grind (arith, common_steps)
op_imm_at-row word Mulh row = grind (arith, common_steps)
op_imm_at-row word Mulhsu row = grind (arith, common_steps)
op_imm_at-row word Mulhu row = grind (arith, common_steps)
op_imm_at-row word Div row = grind (arith, common_steps)
op_imm_at-row word Divu row = grind (arith, common_steps)
op_imm_at-row word Rem row = grind (arith, common_steps)
op_imm_at-row word Remu row = grind (arith, common_steps)

-- the instruction that a word means is the one that `decoded` gives
pub decoded_means : (word : ℕ) (insn : Insn) → Means word insn → decoded word ≡ Some insn
unfolding decoded
decoded_means word (Lui rd imm) m = grind (arith, common_steps)
decoded_means word (Auipc rd imm) m = grind (arith, common_steps)
decoded_means word (Jal rd offset) m = grind (arith, common_steps)
decoded_means word (Jalr rd rs1 offset) m = grind (arith, common_steps)
decoded_means word (Branch test rs1 rs2 offset) m = grind (arith, common_steps, test_at-code test)
decoded_means word (Load width rd rs1 offset) m = grind (arith, common_steps, load_width_at-code width)
decoded_means word (Store width rs1 rs2 offset) m = grind (arith, common_steps, store_width_at-code width)
decoded_means word (OpImm op rd rs1 imm) m = grind (arith, common_steps, op_imm_at-row word op)
decoded_means word (Op op rd rs1 rs2) m = grind (arith, common_steps, op_at-row word op)
decoded_means word Fence m = grind (arith, common_steps)
decoded_means word Ecall m = grind (arith, common_steps)
decoded_means word Ebreak m = grind (arith, common_steps)
decoded_means word (Lr rd rs1 aq rl) m = grind (arith, common_steps)
decoded_means word (Sc rd rs1 rs2 aq rl) m = grind (arith, common_steps)
decoded_means word (Amo op rd rs1 rs2 aq rl) m =
    grind (arith, common_steps, amo_at-code op, amo_code-ne-lr op, amo_code-ne-sc op)

-- no word means two instructions
pub one_meaning : (word : ℕ) (insn other : Insn) → Means word insn → Means word other → insn ≡ other
one_meaning word insn other m n =
    let first : decoded word ≡ Some insn = decoded_means word insn m in
    let second : decoded word ≡ Some other = decoded_means word other n in
    cc
