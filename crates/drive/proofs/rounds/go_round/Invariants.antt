use Rattle.std.proofs.Common.{◌≡◌, ◌*◌, ◌%◌}
use Rattle.drive.specs.Drivers.{GoesRound}
use Rattle.drive.proofs.rounds.go_round.Given as goal

abbrev pub invariant-loop : goal.invariant-loop
invariant-loop l = record {
  round : GoesRound l.initial.machine l.machine (4 * l.counter);
  turn : l.hart.0 ≡ l.counter % l.harts;
}
