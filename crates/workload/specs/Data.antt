-- The data of a workload before the first step. What is behind these bytes is 0.
use Rattle.std.specs.Prelude.{ℕ, zero, suc, List, [], ◌++◌, codes, replicate}
use Rattle.byteorder.specs.Endian.{little_bytes}
use Rattle.workload.specs.declared.work.Work.{Work}
use Rattle.workload.specs.declared.work.Work.TheVariants.{Bank}

abbrev pub zeros : ℕ → List ℕ
zeros count = replicate count 0

-- the line of an account, with 1,000 in its first word
unfoldable pub account : List ℕ
account = little_bytes 4 1000 ++ zeros 60

unfoldable pub accounts : ℕ → List ℕ
accounts zero = []
accounts (suc count) = accounts count ++ account

-- a bank's 64 accounts, behind lines of zeros, of the done harts, the text and the locks
unfoldable pub balances : List ℕ
balances = zeros 1152 ++ accounts 64

-- the first line: the number, and the digits in its second quarter
unfoldable pub first_line : ℕ → List ℕ
first_line number = little_bytes 4 number ++ zeros 12 ++ codes "0123456789abcdef" ++ zeros 32

-- the lines behind the first, as far as a kind fills them
unfoldable pub later_lines : Work → List ℕ
later_lines Bank = balances
later_lines _ = []

abbrev pub data_of : Work → ℕ → List ℕ
data_of kind number = first_line number ++ later_lines kind
