-- the lines from the place on have bits
use Rattle.std.proofs.Common.{◌≡◌, ◌≤◌, ◌<◌, ℕ, true, get_or, length}
use Rattle.cache_sets.specs.declared.line.Line as code
use Rattle.cache_sets.specs.Kept.{shown_line}
use Rattle.residency.specs.Residency.{is_marked}
use Rattle.cache_sets.proofs.set.Set.victim_place.Given as goal

abbrev pub invariant-loop-place : goal.invariant-loop-place
invariant-loop-place l = record {
  within : l.place ≤ length l.self.lines.items;
  marked : (k : ℕ) → l.place ≤ k → k < length l.self.lines.items →
      (d : code.Line) → is_marked (shown_line (get_or l.self.lines.items k d)) ≡ true;
}

abbrev pub decreases-loop-place : goal.decreases-loop-place
decreases-loop-place l = l.place
