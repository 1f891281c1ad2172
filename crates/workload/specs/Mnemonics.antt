-- Instructions by the names that assemblers give them, with their operands in the same order.
use Rattle.std.specs.Prelude.{ℕ, ℤ, true, false}
use Rattle.rv_word.specs.declared.insn.Alu.TheVariants as alu
use Rattle.rv_word.specs.declared.insn.AmoOp.TheVariants as amo
use Rattle.rv_word.specs.declared.insn.Insn.{Insn}
use Rattle.rv_word.specs.declared.insn.Insn.TheVariants as insn
use Rattle.rv_word.specs.declared.insn.LoadWidth.TheVariants as loaded
use Rattle.rv_word.specs.declared.insn.StoreWidth.TheVariants as stored
use Rattle.workload.specs.declared.registers.Register.{Register}
use Rattle.workload.specs.declared.registers.Register.TheVariants.{Data, Zero}
use Rattle.workload.specs.Registers.{reg}

abbrev pub lui : Register → ℕ → Insn
lui rd imm = insn.Lui (reg rd) imm

abbrev pub addi : Register → Register → ℤ → Insn
addi rd rs1 imm = insn.OpImm alu.Add (reg rd) (reg rs1) imm

abbrev pub andi : Register → Register → ℤ → Insn
andi rd rs1 imm = insn.OpImm alu.And (reg rd) (reg rs1) imm

abbrev pub sltiu : Register → Register → ℤ → Insn
sltiu rd rs1 imm = insn.OpImm alu.Sltu (reg rd) (reg rs1) imm

abbrev pub slli : Register → Register → ℤ → Insn
slli rd rs1 imm = insn.OpImm alu.Sll (reg rd) (reg rs1) imm

abbrev pub srli : Register → Register → ℤ → Insn
srli rd rs1 imm = insn.OpImm alu.Srl (reg rd) (reg rs1) imm

abbrev pub add : Register → Register → Register → Insn
add rd rs1 rs2 = insn.Op alu.Add (reg rd) (reg rs1) (reg rs2)

abbrev pub xor : Register → Register → Register → Insn
xor rd rs1 rs2 = insn.Op alu.Xor (reg rd) (reg rs1) (reg rs2)

abbrev pub lw : Register → ℤ → Register → Insn
lw rd offset rs1 = insn.Load loaded.Word (reg rd) (reg rs1) offset

abbrev pub lbu : Register → ℤ → Register → Insn
lbu rd offset rs1 = insn.Load loaded.ByteU (reg rd) (reg rs1) offset

abbrev pub sw : Register → ℤ → Register → Insn
sw rs2 offset rs1 = insn.Store stored.Word (reg rs1) (reg rs2) offset

abbrev pub sb : Register → ℤ → Register → Insn
sb rs2 offset rs1 = insn.Store stored.Byte (reg rs1) (reg rs2) offset

abbrev pub lr_w : Register → Register → Insn
lr_w rd rs1 = insn.Lr (reg rd) (reg rs1) false false

abbrev pub sc_w : Register → Register → Register → Insn
sc_w rd rs2 rs1 = insn.Sc (reg rd) (reg rs1) (reg rs2) false false

-- the two bits of an atomic operation are acquire and release
abbrev pub amoswap_w_aq : Register → Register → Register → Insn
amoswap_w_aq rd rs2 rs1 = insn.Amo amo.Swap (reg rd) (reg rs1) (reg rs2) true false

abbrev pub amoswap_w_rl : Register → Register → Register → Insn
amoswap_w_rl rd rs2 rs1 = insn.Amo amo.Swap (reg rd) (reg rs1) (reg rs2) false true

abbrev pub amoadd_w_rl : Register → Register → Register → Insn
amoadd_w_rl rd rs2 rs1 = insn.Amo amo.Add (reg rd) (reg rs1) (reg rs2) false true

abbrev pub fence : Insn
fence = insn.Fence

abbrev pub ecall : Insn
ecall = insn.Ecall

-- a small number into a register
abbrev pub li : Register → ℤ → Insn
li rd number = addi rd Zero number

-- the address of a place in the data into a register
abbrev pub address : Register → ℤ → Insn
address rd place = addi rd Data place
