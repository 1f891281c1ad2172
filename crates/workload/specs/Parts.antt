-- What the listings of workloads are made of.
use Rattle.std.specs.Prelude.{ℤ, pos, neg_ℤ}
use Rattle.rv_asm.specs.Assembly.{Assembly}
use Rattle.rv_asm.specs.declared.item.Label.{Label}
use Rattle.workload.specs.declared.layout.TheConstants.{DATA_START, NUMBER}
use Rattle.workload.specs.declared.parts.Taking.{Taking}
use Rattle.workload.specs.declared.parts.Taking.TheVariants.{ByPair, BySwap}
use Rattle.workload.specs.declared.registers.Register.{Register}
use Rattle.workload.specs.declared.registers.Register.TheVariants.{A0, A7, Data, Hart, State, T0, T1, T2, Zero}
use Rattle.workload.specs.Mnemonics.{add, addi, amoswap_w_aq, amoswap_w_rl, andi, ecall, li, lr_w, lui, lw, sc_w, slli}
use Rattle.workload.specs.Mnemonics.{sltiu, srli, sw, xor}
use Rattle.workload.specs.Putting.{bne, here, next_label, ◌▸◌, ◌▹◌}

-- a register is counted down by 1, and the hart goes back unless that gives 0
unfoldable pub again : Register → Label → Assembly → Assembly
again left label before =
    before
    ▸ addi left left (neg_ℤ (pos 1))
    ▹ bne left Zero label

-- the end of every hart: it exits with 0
unfoldable pub leave : Assembly → Assembly
leave before =
    before
    ▹ here
    ▸ li A0 (pos 0)
    ▸ li A7 (pos 93)
    ▸ ecall

-- the start of every hart: it finds the data
unfoldable pub start : Assembly → Assembly
start before = before ▸ lui Data DATA_START

-- the lock at an address is taken by a swap
unfoldable pub take_lock : Register → Assembly → Assembly
take_lock lock before =
    let ready = before ▸ li T0 (pos 1) in
    let held = next_label ready in
    ready
    ▹ here
    ▸ lw T1 (pos 0) lock
    ▹ bne T1 Zero held
    ▸ amoswap_w_aq T1 T0 lock
    ▹ bne T1 Zero held

-- the lock at an address is taken by a reserved load and a conditional store
unfoldable pub take_lock_by_pair : Register → Assembly → Assembly
take_lock_by_pair lock before =
    let ready = before ▸ li T0 (pos 1) in
    let held = next_label ready in
    ready
    ▹ here
    ▸ lr_w T1 lock
    ▹ bne T1 Zero held
    ▸ sc_w T1 T0 lock
    ▹ bne T1 Zero held

abbrev pub take : Taking → Register → Assembly → Assembly
take BySwap lock before = take_lock lock before
take ByPair lock before = take_lock_by_pair lock before

-- the lock at an address is given back
unfoldable pub give_lock : Register → Assembly → Assembly
give_lock lock before = before ▸ amoswap_w_rl Zero Zero lock

-- a number is added to the word at an address
unfoldable pub add_to_word : Register → ℤ → Assembly → Assembly
add_to_word word number before =
    before
    ▸ lw T0 (pos 0) word
    ▸ addi T0 T0 number
    ▸ sw T0 (pos 0) word

-- what a hart draws from first: the number of the workload, exclusive or the hart's number and 1 times 0x9e3779b9,
-- and 1 where that is 0
unfoldable pub seed : Assembly → Assembly
seed before =
    let ready = before
    ▸ lui T0 0x9e378000
    ▸ addi T0 T0 (neg_ℤ (pos 0x647))
    ▸ addi T1 Hart (pos 1)
    ▸ li State (pos 0) in
    let times = next_label ready in
    ready
    ▹ here
    ▸ add State State T0
    ▹ again T1 times
    ▸ lw T0 NUMBER Data
    ▸ xor State State T0
    ▸ sltiu T0 State (pos 1)
    ▸ add State State T0

-- the next number is drawn, by Marsaglia's xorshift, of which the mask says the bits that are kept, and becomes the
-- address of that line of the data
unfoldable pub draw_line : Register → ℤ → Assembly → Assembly
draw_line rd mask before =
    before
    ▸ slli T2 State (pos 13)
    ▸ xor State State T2
    ▸ srli T2 State (pos 17)
    ▸ xor State State T2
    ▸ slli T2 State (pos 5)
    ▸ xor State State T2
    ▸ andi rd State mask
    ▸ slli rd rd (pos 6)
    ▸ add rd rd Data
