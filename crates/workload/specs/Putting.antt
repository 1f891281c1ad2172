-- How a listing puts a program together. A line of it goes behind what stands before it: `▸` puts an instruction there,
-- and `▹` a branch, a jump, a label or a whole part.
use Rattle.std.specs.Prelude.{[], length}
use Rattle.rv_asm.specs.Assembly.{Assembly, with_item, with_label, with_place}
use Rattle.rv_asm.specs.declared.item.Item.TheVariants.{BranchTo, Fixed, JumpTo}
use Rattle.rv_asm.specs.declared.item.Label.{Label}
use Rattle.rv_word.specs.declared.insn.Insn.{Insn}
use Rattle.rv_word.specs.declared.insn.Test.{Test}
use Rattle.rv_word.specs.declared.insn.Test.TheVariants.{Ne}
use Rattle.workload.specs.declared.registers.Register.{Register}
use Rattle.workload.specs.declared.registers.Register.TheVariants.{Zero}
use Rattle.workload.specs.Registers.{reg}

-- a program without words
unfoldable pub empty : Assembly
empty = record { items = []; places = [] }

-- an instruction
unfoldable pub put : Insn → Assembly → Assembly
put insn program = with_item program (Fixed insn)

-- the label that is made next
unfoldable pub next_label : Assembly → Label
next_label program = record { number = length program.places }

-- the next label at the next word
unfoldable pub here : Assembly → Assembly
here program = with_place (with_label program) (next_label program)

-- a branch to a label
unfoldable pub branch : Test → Register → Register → Label → Assembly → Assembly
branch test rs1 rs2 label program = with_item program (BranchTo test (reg rs1) (reg rs2) label)

abbrev pub bne : Register → Register → Label → Assembly → Assembly
bne rs1 rs2 label program = branch Ne rs1 rs2 label program

-- a jump to a label
unfoldable pub jump : Register → Label → Assembly → Assembly
jump rd label program = with_item program (JumpTo (reg rd) label)

abbrev pub j : Label → Assembly → Assembly
j label program = jump Zero label program

infixl 10 ◌▸◌
abbrev pub ◌▸◌ : Assembly → Insn → Assembly
program ▸ insn = put insn program

infixl 10 ◌▹◌
abbrev pub ◌▹◌ : Assembly → (Assembly → Assembly) → Assembly
program ▹ part = part program
