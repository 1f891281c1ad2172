use Rattle.std.proofs.Common.{◌≡◌, ◌≤◌}
use mathlib.Core.List.{IsPrefix}
use Rattle.bus_lock.specs.Locks.{started_with}
use Rattle.drive.specs.Turns.{IsRound, round_at, turns_of}
use Rattle.drive.proofs.threads.drive.Given as goal

abbrev pub invariant-loop-turn : goal.invariant-loop-turn
invariant-loop-turn g l =
    (l.pass.lock ≡ l.initial.pass.lock) × (l.pass.opening ≡ l.initial.pass.opening)
    × (l.pass.share ≡ l.initial.pass.share)
    × IsPrefix l.initial.pass.seen l.pass.seen × IsRound (round_at (started_with l.lock) l.pass.seen)
    × (l.turn ≤ turns_of (round_at (started_with l.lock) l.pass.seen) l.driver.number)
