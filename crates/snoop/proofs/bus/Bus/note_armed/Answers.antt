-- a hart is noted as armed
use Rattle.std.proofs.Common.{refl}
use Rattle.bus_agent.specs.Agent.{agent_at, agent_noted}
use Rattle.snoop.proofs.Noting.{noted_shows}
use Rattle.snoop.proofs.Ready.{ready_agent}
use Rattle.snoop.proofs.bus.Bus.note_armed.Goals as goal
use Rattle.snoop.specs.Shows.{bus_state}

pub returns : goal.returns
returns c =
    let bus = bus_state c.args.self.now in
    let h = c.args.hart.number in
    let count = c.args.count in
    record {
      ready =
          rw c.note_armed.ensures
          (ready_agent bus h (agent_noted count (agent_at bus.agents h)) c.requires.ready (λ request is. is)
          c.requires.few);
      shows = λ state now shows noted. rw c.note_armed.ensures (noted_shows bus state h count now shows noted);
      copies_stay = refl;
    }
