-- from the start
use Rattle.lab.proofs.releases.begin_from.Goals as goal

pub returns-else-last-place-clause-last : goal.returns-else-last-place-clause-last
returns-else-last-place-clause-last c = λ swaps are. c.none.ensures.none swaps
