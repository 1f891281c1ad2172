use Rattle.std.proofs.Common.{◌≡◌, length, take}
use Rattle.rv_flat.specs.Run.{run}
use Rattle.run_check.specs.Content.{written_out}
use Rattle.run_check.specs.Rules.{steps_before}
use Rattle.run_check.specs.Spelling.{count_in}
use Rattle.run_check.proofs.checking.run_stretches.Given as goal

abbrev pub invariant-loop-stretch : goal.invariant-loop-stretch
invariant-loop-stretch l = record {
  ran : l.flat ≡ run l.initial.flat (written_out (take l.stretch-index l.stretches));
  serial : l.serial ≡ steps_before (count_in l.stretches) l.stretch-index;
  harts : length l.flat.harts ≡ length l.initial.flat.harts;
}
