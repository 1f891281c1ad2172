-- Which pseudoinstruction stands for which instruction.
use Rattle.std.specs.Prelude.{◌≡◌, ℕ, pos, negsuc}
use Rattle.rv_word.specs.declared.insn.Alu.TheVariants as alu
use Rattle.rv_word.specs.declared.insn.Insn.{Insn}
use Rattle.rv_word.specs.declared.insn.Insn.TheVariants.{Branch, Jal, Jalr, Op, OpImm}
use Rattle.rv_word.specs.declared.insn.Test.{Test}
use Rattle.rv_word.specs.declared.insn.Test.TheVariants as tests
use Rattle.rv_word.specs.declared.reg.Reg.{Reg}
use Rattle.rv_text.specs.declared.pseudos.Pseudo.{Pseudo}
use Rattle.rv_text.specs.declared.pseudos.Pseudo.TheVariants.{Nop, Li, Mv, Not, ZextB, Seqz, Neg, Snez, Sltz, Sgtz}
use Rattle.rv_text.specs.declared.pseudos.Pseudo.TheVariants.{BranchZero, J, Call, Ret, Jr, CallAt, Plain}
use Rattle.rv_text.specs.declared.pseudos.ZeroTest.{ZeroTest}
use Rattle.rv_text.specs.declared.pseudos.ZeroTest.TheVariants as zeros

abbrev pub IsZero : Reg → Type 0
IsZero reg = reg.number ≡ 0

-- the register of return addresses, x1
abbrev pub IsLink : Reg → Type 0
IsLink reg = reg.number ≡ 1

-- a branch with this test of two registers is a test of one of them against zero
abbrev pub TestsZero : ZeroTest → Test → Reg → Reg → Reg → Type 0
TestsZero zeros.Eq test rs rs1 rs2 = (test ≡ tests.Eq) × (rs ≡ rs1) × IsZero rs2
TestsZero zeros.Ne test rs rs1 rs2 = (test ≡ tests.Ne) × (rs ≡ rs1) × IsZero rs2
TestsZero zeros.Lt test rs rs1 rs2 = (test ≡ tests.Lt) × (rs ≡ rs1) × IsZero rs2
TestsZero zeros.Ge test rs rs1 rs2 = (test ≡ tests.Ge) × (rs ≡ rs1) × IsZero rs2
TestsZero zeros.Le test rs rs1 rs2 = (test ≡ tests.Ge) × IsZero rs1 × (rs ≡ rs2)
TestsZero zeros.Gt test rs rs1 rs2 = (test ≡ tests.Lt) × IsZero rs1 × (rs ≡ rs2)

-- an operation with an immediate that a pseudoinstruction stands for
abbrev pub StandsForOpImm : Pseudo → Insn → Type 0
StandsForOpImm Nop (OpImm op rd rs1 imm) = (op ≡ alu.Add) × IsZero rd × IsZero rs1 × (imm ≡ pos 0)
StandsForOpImm (Li d i) (OpImm op rd rs1 imm) = (op ≡ alu.Add) × (d ≡ rd) × IsZero rs1 × (i ≡ imm)
StandsForOpImm (Mv d s) (OpImm op rd rs1 imm) = (op ≡ alu.Add) × (d ≡ rd) × (s ≡ rs1) × (imm ≡ pos 0)
StandsForOpImm (Not d s) (OpImm op rd rs1 imm) = (op ≡ alu.Xor) × (d ≡ rd) × (s ≡ rs1) × (imm ≡ negsuc 0)
StandsForOpImm (ZextB d s) (OpImm op rd rs1 imm) = (op ≡ alu.And) × (d ≡ rd) × (s ≡ rs1) × (imm ≡ pos 255)
StandsForOpImm (Seqz d s) (OpImm op rd rs1 imm) = (op ≡ alu.Sltu) × (d ≡ rd) × (s ≡ rs1) × (imm ≡ pos 1)
StandsForOpImm _ _ = ⊥

-- an instruction is spelled so (RISC-V unprivileged manual, chapter 'RISC-V Assembly Programmer's Handbook')
abbrev pub StandsFor : Pseudo → Insn → Type 0
StandsFor (Plain insn) other = insn ≡ other
StandsFor (Neg d s) (Op op rd rs1 rs2) = (op ≡ alu.Sub) × (d ≡ rd) × IsZero rs1 × (s ≡ rs2)
StandsFor (Snez d s) (Op op rd rs1 rs2) = (op ≡ alu.Sltu) × (d ≡ rd) × IsZero rs1 × (s ≡ rs2)
StandsFor (Sltz d s) (Op op rd rs1 rs2) = (op ≡ alu.Slt) × (d ≡ rd) × (s ≡ rs1) × IsZero rs2
StandsFor (Sgtz d s) (Op op rd rs1 rs2) = (op ≡ alu.Slt) × (d ≡ rd) × IsZero rs1 × (s ≡ rs2)
StandsFor (BranchZero zero_test rs o) (Branch test rs1 rs2 offset) = TestsZero zero_test test rs rs1 rs2 × (o ≡ offset)
StandsFor (J o) (Jal rd offset) = IsZero rd × (o ≡ offset)
StandsFor (Call o) (Jal rd offset) = IsLink rd × (o ≡ offset)
StandsFor Ret (Jalr rd rs1 offset) = IsZero rd × IsLink rs1 × (offset ≡ pos 0)
StandsFor (Jr rs o) (Jalr rd rs1 offset) = IsZero rd × (rs ≡ rs1) × (o ≡ offset)
StandsFor (CallAt rs o) (Jalr rd rs1 offset) = IsLink rd × (rs ≡ rs1) × (o ≡ offset)
StandsFor pseudo insn = StandsForOpImm pseudo insn

-- the place in the order in which they are tried: where two stand for one instruction, the less is written
abbrev pub place_of_test : ZeroTest → ℕ
place_of_test zeros.Eq = 10
place_of_test zeros.Ne = 11
place_of_test zeros.Le = 12
place_of_test zeros.Ge = 13
place_of_test zeros.Lt = 14
place_of_test zeros.Gt = 15

abbrev pub place_of : Pseudo → ℕ
place_of Nop = 0
place_of (Li rd imm) = 1
place_of (Mv rd rs) = 2
place_of (Not rd rs) = 3
place_of (ZextB rd rs) = 4
place_of (Seqz rd rs) = 5
place_of (Neg rd rs) = 6
place_of (Snez rd rs) = 7
place_of (Sltz rd rs) = 8
place_of (Sgtz rd rs) = 9
place_of (BranchZero test rs offset) = place_of_test test
place_of (J offset) = 16
place_of (Call offset) = 17
place_of Ret = 18
place_of (Jr rs offset) = 19
place_of (CallAt rs offset) = 20
place_of (Plain insn) = 21
