-- caches and main memory tell one thing
use Rattle.coherence.specs.Served.{IsCoherent, shown_copies}
use Rattle.snoop.proofs.tests.read_by.Given as goal

abbrev pub invariant-loop-reader : goal.invariant-loop-reader
invariant-loop-reader l = IsCoherent (shown_copies l.memory.pool l.memory.hierarchy)
