-- The end of a run as listings: the harts wait for each other, and hart 0 tells the result.
use Rattle.std.specs.Prelude.{ℤ, pos}
use Rattle.rv_asm.specs.Assembly.{Assembly}
use Rattle.rv_asm.specs.declared.item.Label.{Label}
use Rattle.workload.specs.declared.layout.TheConstants.{DIGITS, DONE, TEXT, WORDS}
use Rattle.workload.specs.declared.registers.Register.TheVariants.{A0, A1, A2, A7, Data, Hart, Harts, Left, Sum, T0, T1}
use Rattle.workload.specs.declared.registers.Register.TheVariants.{T2, Word, Zero}
use Rattle.workload.specs.Mnemonics.{add, addi, address, amoadd_w_rl, ecall, fence, lbu, li, lw, sb, slli, srli}
use Rattle.workload.specs.Parts.{again}
use Rattle.workload.specs.Putting.{bne, here, j, next_label, ◌▸◌, ◌▹◌}

-- the hart is counted as done
unfoldable pub say_done : Assembly → Assembly
say_done before =
    before
    ▸ address T0 DONE
    ▸ li T1 (pos 1)
    ▸ amoadd_w_rl Zero T1 T0

-- the hart waits until all are done
unfoldable pub wait_for_all : Assembly → Assembly
wait_for_all before =
    let wait = next_label before in
    before
    ▹ here
    ▸ lw T0 DONE Data
    ▹ bne T0 Harts wait
    ▸ fence

-- so many words are added up
unfoldable pub sum_words : ℤ → Assembly → Assembly
sum_words words before =
    let ready = before
    ▸ address Word WORDS
    ▸ li Left words
    ▸ li Sum (pos 0) in
    let next = next_label ready in
    ready
    ▹ here
    ▸ lw T0 (pos 0) Word
    ▸ add Sum Sum T0
    ▸ addi Word Word (pos 64)
    ▹ again Left next

-- the system call that writes the text
unfoldable pub write_text : Assembly → Assembly
write_text before =
    before
    ▸ li A0 (pos 1)
    ▸ address A1 TEXT
    ▸ li A2 (pos 9)
    ▸ li A7 (pos 64)
    ▸ ecall

-- the sum is put out: eight lower-case hexadecimal digits and a newline
unfoldable pub tell_sum : Assembly → Assembly
tell_sum before =
    let ready = before
    ▸ address T0 TEXT
    ▸ li T1 (pos 8) in
    let next = next_label ready in
    ready
    ▹ here
    ▸ srli T2 Sum (pos 28)
    ▸ add T2 T2 Data
    ▸ lbu T2 DIGITS T2
    ▸ sb T2 (pos 0) T0
    ▸ slli Sum Sum (pos 4)
    ▸ addi T0 T0 (pos 1)
    ▹ again T1 next
    ▸ li T2 (pos 10)
    ▸ sb T2 (pos 0) T0
    ▹ write_text

-- each hart says that it is done; every hart but 0 leaves; hart 0 waits until all are done, tells the sum of so many
-- words, and leaves
unfoldable pub ending : ℤ → Label → Assembly → Assembly
ending words exit before =
    before
    ▹ say_done
    ▹ bne Hart Zero exit
    ▹ wait_for_all
    ▹ sum_words words
    ▹ tell_sum
    ▹ j exit
