-- the markers that are still to be sent lead to the same agents
use Rattle.std.proofs.Common.{◌≡◌, drop}
use Rattle.snoop.specs.Settled.{markers_sent}
use Rattle.snoop.proofs.settling.send_markers.Given as goal

abbrev pub invariant-loop-number : goal.invariant-loop-number
invariant-loop-number l =
    markers_sent l.number (drop l.number l.fates) l.to.number l.agents.items ≡ markers_sent 0 l.fates l.to.number
    l.initial.agents.items
