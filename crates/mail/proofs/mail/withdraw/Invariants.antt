use Rattle.std.proofs.Common.{◌≡◌, ◌≤◌, ◌++◌, drop, take, length}
use Rattle.circular_buffer.specs.Buffer.{buffer}
use Rattle.mail.specs.Withdrawn.{remaining}
use Rattle.mail.proofs.mail.withdraw.Given as goal

abbrev pub invariant-loop-place : goal.invariant-loop-place
invariant-loop-place l =
    (l.messages
    ≡ buffer (drop l._place l.fn.messages.items ++ remaining l.withdrawn (take l._place l.fn.messages.items))
    l.fn.messages.capacity)
    × (length l.messages.items ≤ l.messages.capacity)
