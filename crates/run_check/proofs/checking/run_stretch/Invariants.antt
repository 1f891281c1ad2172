use Rattle.std.proofs.Common.{◌≡◌, length}
use Rattle.rv_flat.specs.Run.{alone}
use Rattle.run_check.proofs.checking.run_stretch.Given as goal

abbrev pub invariant-loop-step : goal.invariant-loop-step
invariant-loop-step l = record {
  ran : l.flat ≡ alone l.initial.flat l.stretch.hart.number l._step;
  harts : length l.flat.harts ≡ length l.initial.flat.harts;
}
