-- caches and main memory tell one thing
use Rattle.coherence.specs.Served.{IsCoherent, shown_copies}
use Rattle.cache_vectors.proofs.hierarchies.letters_follow_requests_of_two_harts.Given as goal

abbrev pub invariant-loop-hart : goal.invariant-loop-hart
invariant-loop-hart g l = IsCoherent (shown_copies l.memory.pool l.memory.hierarchy)
