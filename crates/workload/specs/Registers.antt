-- The registers of a workload by their numbers.
use Rattle.std.specs.Prelude.{ℕ}
use Rattle.rv_word.specs.Field.{reg_field}
use Rattle.rv_word.specs.declared.reg.Reg.{Reg}
use Rattle.workload.specs.declared.registers.Register.{Register}
use Rattle.workload.specs.declared.registers.Register.TheVariants.{A0, A1, A2, A7, Data, Hart, Harts, Left, Lock}
use Rattle.workload.specs.declared.registers.Register.TheVariants.{OtherLock, OtherWord, RoundsLeft}
use Rattle.workload.specs.declared.registers.Register.TheVariants.{State, Sum, T0, T1, T2, Word, Zero}

abbrev pub number_of : Register → ℕ
number_of Zero = 0
number_of T0 = 5
number_of T1 = 6
number_of T2 = 7
number_of Hart = 10
number_of Harts = 11
number_of A0 = 10
number_of A1 = 11
number_of A2 = 12
number_of A7 = 17
number_of Data = 18
number_of RoundsLeft = 19
number_of Left = 20
number_of Lock = 21
number_of OtherLock = 22
number_of Word = 23
number_of OtherWord = 24
number_of State = 25
number_of Sum = 26

unfoldable pub reg : Register → Reg
reg register = reg_field 0 (number_of register)
