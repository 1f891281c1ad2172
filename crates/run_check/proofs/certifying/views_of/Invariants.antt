use Rattle.std.proofs.Common.{◌≡◌, ℕ, ◌<◌, take}
use Rattle.std.specs.Prelude.{slice_index_or}
use Rattle.rv_flat.specs.FlatState.{no_hart}
use Rattle.run_check.specs.Spelling.{IsView}
use Rattle.run_check.proofs.certifying.views_of.Given as goal

abbrev pub invariant-loop-number : goal.invariant-loop-number
invariant-loop-number g l = record {
  read : l.views.items ≡ take l.number (g.R.Reached.state l.reached).harts;
  valid : (hart : ℕ) → hart < l.number → IsView (slice_index_or (g.R.Reached.state l.reached).harts hart no_hart);
}
