-- The mnemonics, as GNU objdump writes them.
use Rattle.std.specs.Prelude.{ℕ, List, codes}
use Rattle.rv_word.specs.declared.insn.Alu.{Alu}
use Rattle.rv_word.specs.declared.insn.Alu.TheVariants.{Add, Sub, Sll, Slt, Sltu, Xor, Srl, Sra, Or, And, Mul, Mulh}
use Rattle.rv_word.specs.declared.insn.Alu.TheVariants.{Mulhsu, Mulhu, Div, Divu, Rem, Remu}
use Rattle.rv_word.specs.declared.insn.AmoOp.{AmoOp}
use Rattle.rv_word.specs.declared.insn.AmoOp.TheVariants as amos
use Rattle.rv_word.specs.declared.insn.LoadWidth.{LoadWidth}
use Rattle.rv_word.specs.declared.insn.LoadWidth.TheVariants as loads
use Rattle.rv_word.specs.declared.insn.StoreWidth.{StoreWidth}
use Rattle.rv_word.specs.declared.insn.StoreWidth.TheVariants as stores
use Rattle.rv_word.specs.declared.insn.Test.{Test}
use Rattle.rv_word.specs.declared.insn.Test.TheVariants as tests
use Rattle.rv_text.specs.declared.pseudos.ZeroTest.{ZeroTest}
use Rattle.rv_text.specs.declared.pseudos.ZeroTest.TheVariants as zeros

abbrev pub alu_name : Alu → List ℕ
alu_name Add = codes "add"
alu_name Sub = codes "sub"
alu_name Sll = codes "sll"
alu_name Slt = codes "slt"
alu_name Sltu = codes "sltu"
alu_name Xor = codes "xor"
alu_name Srl = codes "srl"
alu_name Sra = codes "sra"
alu_name Or = codes "or"
alu_name And = codes "and"
alu_name Mul = codes "mul"
alu_name Mulh = codes "mulh"
alu_name Mulhsu = codes "mulhsu"
alu_name Mulhu = codes "mulhu"
alu_name Div = codes "div"
alu_name Divu = codes "divu"
alu_name Rem = codes "rem"
alu_name Remu = codes "remu"

abbrev pub alu_immediate_name : Alu → List ℕ
alu_immediate_name Slt = codes "slti"
alu_immediate_name Sltu = codes "sltiu"
alu_immediate_name op = alu_name op

abbrev pub test_name : Test → List ℕ
test_name tests.Eq = codes "beq"
test_name tests.Ne = codes "bne"
test_name tests.Lt = codes "blt"
test_name tests.Ge = codes "bge"
test_name tests.Ltu = codes "bltu"
test_name tests.Geu = codes "bgeu"

abbrev pub zero_test_name : ZeroTest → List ℕ
zero_test_name zeros.Eq = codes "beqz"
zero_test_name zeros.Ne = codes "bnez"
zero_test_name zeros.Le = codes "blez"
zero_test_name zeros.Ge = codes "bgez"
zero_test_name zeros.Lt = codes "bltz"
zero_test_name zeros.Gt = codes "bgtz"

abbrev pub load_name : LoadWidth → List ℕ
load_name loads.Byte = codes "lb"
load_name loads.Half = codes "lh"
load_name loads.Word = codes "lw"
load_name loads.ByteU = codes "lbu"
load_name loads.HalfU = codes "lhu"

abbrev pub store_name : StoreWidth → List ℕ
store_name stores.Byte = codes "sb"
store_name stores.Half = codes "sh"
store_name stores.Word = codes "sw"

abbrev pub amo_name : AmoOp → List ℕ
amo_name amos.Swap = codes "amoswap.w"
amo_name amos.Add = codes "amoadd.w"
amo_name amos.Xor = codes "amoxor.w"
amo_name amos.And = codes "amoand.w"
amo_name amos.Or = codes "amoor.w"
amo_name amos.Min = codes "amomin.w"
amo_name amos.Max = codes "amomax.w"
amo_name amos.Minu = codes "amominu.w"
amo_name amos.Maxu = codes "amomaxu.w"
