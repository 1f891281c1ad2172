use Rattle.std.proofs.Common.{◌≡◌, ℕ, ◌+◌, ◌*◌, ◌<◌, ◌≤◌, None, false, length}
use Rattle.run_check.specs.Faults.{first_below, view_fault, view_wrong}
use Rattle.run_check.proofs.judging.check_views.Given as goal

abbrev pub invariant-loop-hart : goal.invariant-loop-hart
invariant-loop-hart l = record {
  none : first_below l.hart (view_fault l.file l.views) ≡ None;
  right : (hart : ℕ) → hart < l.hart → view_wrong l.file (l.views + 138 * hart) ≡ false;
  whole : l.views + 138 * l.hart ≤ length l.file;
}
