use Rattle.std.proofs.Common.{◌≡◌, ℕ, ◌<◌, ◌≤◌}
use Rattle.el_base.specs.Freed.{count_in}
use Rattle.el_base.specs.NibblePairs.{nibble_in}
use Rattle.trace_file.proofs.outcome_fields.freed_in.Given as goal

-- below and from the place on apart: one choice for both is a long search
abbrev pub invariant-loop-hart : goal.invariant-loop-hart
invariant-loop-hart l = record {
  read : (h : ℕ) → h < l.hart → count_in l.freed h ≡ nibble_in l.bytes h;
  none : (h : ℕ) → l.hart ≤ h → count_in l.freed h ≡ 0;
}
