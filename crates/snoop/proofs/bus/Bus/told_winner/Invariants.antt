-- the earliest of the origins from the number on
use Rattle.std.proofs.Common.{◌≡◌, ◌≤◌, drop, length}
use Rattle.bus_agent.specs.Agent.{agent_at}
use Rattle.snoop.specs.Fates.{number_of, told_from}
use Rattle.snoop.proofs.bus.Bus.told_winner.Given as goal

abbrev pub invariant-loop-number : goal.invariant-loop-number
invariant-loop-number l =
    (l.number ≤ length l.self.agents.items)
    × (number_of l.winner
    ≡ told_from (agent_at l.self.agents.items l.hart.number) l.self.order l.line.number l.number
    (drop l.number l.self.agents.items))

abbrev pub decreases-loop-number : goal.decreases-loop-number
decreases-loop-number l = l.number
