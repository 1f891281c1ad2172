-- the hart has come to the pc at none of the places passed
use Rattle.std.proofs.Common.{◌≡◌, ◌<◌, ◌≤◌, ℕ}
use Rattle.step_back.specs.Standing.{ComesTo}
use Rattle.step_back.proofs.timeline.Timeline.next_at.Given as goal

abbrev pub invariant-loop : goal.invariant-loop
invariant-loop l = record {
  moved : l.self ≡ record l.initial.self { place = l.counter };
  passed : (place : ℕ) → l.start < place → place ≤ l.counter →
      ¬ ComesTo l.initial.self.program l.initial.self.entries l.hart.number l.pc place;
}
