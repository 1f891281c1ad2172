-- How long the data of a workload is, and where its number stands.
use Rattle.std.proofs.Common.{◌≡◌, ◌<◌, ◌≤◌, ℕ, zero, suc, ◌+◌, ◌*◌, ◌^◌, List, ◌++◌, length, refl, arith, add-one}
use Rattle.std.proofs.Common.{append_assoc, length-append, sym}
use Rattle.std.proofs.lemmas.List.{append-nil, length-replicate}
use Rattle.std.specs.Prelude.{codes}
use Rattle.byteorder.specs.Numbers.{little_number-reads_back}
use Rattle.elf_image.specs.Numbers.{word_at}
use Rattle.workload.specs.Data.{account, accounts, balances, data_of, first_line, later_lines, zeros}
use Rattle.workload.specs.declared.layout.TheConstants.{DATA_LEN}
use Rattle.workload.specs.declared.work.Work.{Work}
use Rattle.workload.specs.declared.work.Work.TheVariants.{Bank}

-- Accounts, one after another

pub no_accounts : (before : List ℕ) → before ≡ before ++ accounts 0
unfolding accounts
no_accounts before = sym (append-nil before)

last_account : (count : ℕ) → accounts (count + 1) ≡ accounts count ++ account
unfolding accounts
last_account count = rw (add-one count) refl

pub one_account_more : (before bytes : List ℕ) (count : ℕ) → bytes ≡ before ++ accounts count →
    bytes ++ account ≡ before ++ accounts (count + 1)
one_account_more before bytes count same = rw (same, last_account count) (append_assoc before (accounts count) account)

-- Lengths

length_account : length account ≡ 64
unfolding account
length_account = refl

length_accounts : (count : ℕ) → length (accounts count) ≡ 64 * count
unfolding accounts
length_accounts zero = refl
length_accounts (suc count) =
    let before = length_accounts count in
    simp (length-append) (omega (arith, before, length_account))

length_balances : length balances ≡ 5248
unfolding balances
length_balances =
    let known = length_accounts 64 in
    simp (length-append, length-replicate) (omega (arith, known))

length_later_lines : (kind : Work) → length (later_lines kind) ≤ 5248
unfolding later_lines
length_later_lines Bank = omega (arith, length_balances)
length_later_lines _ = omega arith

length_first_line : (number : ℕ) → length (first_line number) ≡ 64
unfolding first_line
length_first_line number = refl

pub filled : (kind : Work) (number : ℕ) (bytes : List ℕ) → bytes ≡ data_of kind number → 64 ≤ length bytes
filled kind number bytes same =
    let first = length_first_line number in
    rw (same) (simp (length-append) (omega (arith, first)))

pub fits : (kind : Work) (number : ℕ) (bytes : List ℕ) → bytes ≡ data_of kind number → length bytes ≤ DATA_LEN
fits kind number bytes same =
    let first = length_first_line number in
    let later = length_later_lines kind in
    rw (same) (simp (length-append) (omega (arith, first, later)))

-- The number comes first

number_first : (number : ℕ) (rest : List ℕ) → number < 2 ^ 32 → word_at (first_line number ++ rest) 0 ≡ number
unfolding first_line
number_first number rest small =
    little_number-reads_back 4 number (zeros 12 ++ codes "0123456789abcdef" ++ zeros 32 ++ rest) small

pub has_number : (kind : Work) (number : ℕ) (bytes : List ℕ) → bytes ≡ data_of kind number → number < 2 ^ 32 →
    word_at bytes 0 ≡ number
has_number kind number bytes same small = rw same (number_first number (later_lines kind) small)
