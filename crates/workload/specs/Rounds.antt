-- What each hart does in each kind of workload, as listings.
use Rattle.std.specs.Prelude.{pos, neg_ℤ, ◌+ℤ◌}
use Rattle.rv_asm.specs.Assembly.{Assembly}
use Rattle.workload.specs.declared.layout.TheConstants.{LOCKS, WORDS}
use Rattle.workload.specs.declared.parts.Taking.{Taking}
use Rattle.workload.specs.declared.parts.Taking.TheVariants.{ByPair, BySwap}
use Rattle.workload.specs.declared.registers.Register.TheVariants.{Left, Lock, OtherLock, OtherWord, RoundsLeft, Word}
use Rattle.workload.specs.declared.work.Work.{Work}
use Rattle.workload.specs.declared.work.Work.TheVariants.{Bank, Buckets, Counter, Locks, Overflow, Pairs}
use Rattle.workload.specs.Mnemonics.{addi, address, li}
use Rattle.workload.specs.Parts.{add_to_word, again, draw_line, give_lock, seed, take, take_lock}
use Rattle.workload.specs.Putting.{here, next_label, ◌▸◌, ◌▹◌}

-- 100 times: take the lock, in one way or the other, and add 1 to the word
unfoldable pub counter : Taking → Assembly → Assembly
counter taking before =
    let ready = before
    ▸ address Lock LOCKS
    ▸ address Word WORDS
    ▸ li RoundsLeft (pos 100) in
    let round = next_label ready in
    ready
    ▹ here
    ▹ take taking Lock
    ▹ add_to_word Word (pos 1)
    ▹ give_lock Lock
    ▹ again RoundsLeft round

-- 200 times: draw two accounts, take the lock, move 1 from the one to the other
unfoldable pub bank : Assembly → Assembly
bank before =
    let ready = before
    ▹ seed
    ▸ address Lock LOCKS
    ▸ li RoundsLeft (pos 200) in
    let round = next_label ready in
    ready
    ▹ here
    ▹ draw_line Word (pos 63)
    ▸ addi Word Word WORDS
    ▹ draw_line OtherWord (pos 63)
    ▸ addi OtherWord OtherWord WORDS
    ▹ take_lock Lock
    ▹ add_to_word Word (neg_ℤ (pos 1))
    ▹ add_to_word OtherWord (pos 1)
    ▹ give_lock Lock
    ▹ again RoundsLeft round

-- 200 times: draw a bucket, take its lock, add 1 to it
unfoldable pub buckets : Assembly → Assembly
buckets before =
    let ready = before
    ▹ seed
    ▸ li RoundsLeft (pos 200) in
    let round = next_label ready in
    ready
    ▹ here
    ▹ draw_line Word (pos 15)
    ▸ addi Lock Word LOCKS
    ▸ addi Word Word WORDS
    ▹ take_lock Lock
    ▹ add_to_word Word (pos 1)
    ▹ give_lock Lock
    ▹ again RoundsLeft round

-- 100 times: take both locks, add 1 to both words, give the locks back, the later one first
unfoldable pub locks : Assembly → Assembly
locks before =
    let ready = before
    ▸ address Lock LOCKS
    ▸ address OtherLock (LOCKS +ℤ pos 64)
    ▸ address Word WORDS
    ▸ address OtherWord (WORDS +ℤ pos 64)
    ▸ li RoundsLeft (pos 100) in
    let round = next_label ready in
    ready
    ▹ here
    ▹ take_lock Lock
    ▹ take_lock OtherLock
    ▹ add_to_word Word (pos 1)
    ▹ add_to_word OtherWord (pos 1)
    ▹ give_lock OtherLock
    ▹ give_lock Lock
    ▹ again RoundsLeft round

-- 20 times: take the lock, add 1 to each of 20 words
unfoldable pub overflow : Assembly → Assembly
overflow before =
    let ready = before
    ▸ address Lock LOCKS
    ▸ li RoundsLeft (pos 20) in
    let round = next_label ready in
    let taken = ready
    ▹ here
    ▹ take_lock Lock
    ▸ address Word WORDS
    ▸ li Left (pos 20) in
    let next = next_label taken in
    taken
    ▹ here
    ▹ add_to_word Word (pos 1)
    ▸ addi Word Word (pos 64)
    ▹ again Left next
    ▹ give_lock Lock
    ▹ again RoundsLeft round

-- the rounds of a kind
abbrev pub rounds : Work → Assembly → Assembly
rounds Counter before = counter BySwap before
rounds Bank before = bank before
rounds Buckets before = buckets before
rounds Locks before = locks before
rounds Overflow before = overflow before
rounds Pairs before = counter ByPair before
