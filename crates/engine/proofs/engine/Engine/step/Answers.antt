-- an event that finds nothing to do leaves the parts in the state that they are in
use Rattle.std.proofs.Common.{◌∙◌, sym}
use Rattle.engine.proofs.Laws.NothingFound.{resting_lines, resting_outcome, resting_state}
use Rattle.engine.proofs.engine.Engine.step.Goals as goal
use Rattle.engine.specs.Parts.{parts}

pub returns-then-finds_nothing : goal.returns-then-finds_nothing
returns-then-finds_nothing c =
    let old = parts c.args.self.now in
    let event = c.args.event in
    record {
      ready = c.requires.stands.ready;
      state =
          λ from reached is. resting_state old from event
          (sym (c.finds_nothing.ensures from is) ∙ c.if-finds_nothing.true) is;
      outcome =
          λ from reached is. resting_outcome from event
          (sym (c.finds_nothing.ensures from is) ∙ c.if-finds_nothing.true);
      memory = λ from reached is.
          resting_lines from event old.bus.copies.lines
          (sym (c.finds_nothing.ensures from is) ∙ c.if-finds_nothing.true);
    }
