use Rattle.std.proofs.Common.{◌≡◌, take}
use Rattle.chronicle.specs.Serial.{serial}
use Rattle.run_check.specs.Certified.{with_pending, IsGrowing}
use Rattle.run_check.specs.Content.{written_out}
use Rattle.run_check.proofs.stretches.stretches_of.Given as goal

abbrev pub invariant-loop-place : goal.invariant-loop-place
invariant-loop-place g l = record {
  growing : IsGrowing l.stretches.items l.pending;
  written : written_out (with_pending l.stretches.items l.pending)
      ≡ serial (take l.place (g.C.Chronicled.entries l.history));
}
