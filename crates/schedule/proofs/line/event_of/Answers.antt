use Rattle.std.proofs.Common.{rules}
use Rattle.schedule.proofs.Spellings.{name_of_spelled}
use Rattle.schedule.proofs.line.event_of.Goals as goal

pub returns-in_err-kind-clause-none : goal.returns-in_err-kind-clause-none
returns-in_err-kind-clause-none c =
    λ none kind hart inside same.
    c.in_err-kind.ensures.none (search rules) kind
    (name_of_spelled c.in_ok-digit.front.now c.in_ok-space.name.now c.in_ok-digit.digit.now
    c.in_ok-space.space.now kind hart
    (search rules) (search rules))
