-- a hart's agent at the bus
use Rattle.std.specs.Prelude.{ℕ, Bool, false, true, List, [], Option, None, Some, slice_index_or, slice_set}
use Rattle.bus_order.specs.Order.{Request}
use Rattle.defer_list.specs.HartSet.{excluded, included}
use Rattle.el_base.specs.declared.config.Mode.{Mode}
use Rattle.el_model.specs.Attempts.{opened, seen_after}
use Rattle.el_model.specs.Plain.{armed_count}
use Rattle.el_model.specs.State.{Hart}
use Rattle.mail.specs.Mailbox.{Message, posted, without_markers, without_oldest, without_probe}
use Rattle.stamp.specs.Stamps.{Stamp, next_clock_of}

-- what a hart has at the bus beside its cache; each field is the one of this name of the definition's hart, but that of
-- an armed section the count alone is noted, and 0 where there is none
pub record Agent : Type 0 where
  pub raised : Option Request
  pub held_line : Option ℕ
  pub mail : List Message
  pub told : List ℕ
  pub upstream : List ℕ
  pub clock : ℕ
  pub seen : ℕ
  pub attempt : Option Stamp
  pub armed : ℕ

-- an agent of a hart that has asked for nothing yet
abbrev pub new_agent : Agent
new_agent = record {
  raised = None;
  held_line = None;
  mail = [];
  told = [];
  upstream = [];
  clock = 0;
  seen = 0;
  attempt = None;
  armed = 0;
}

-- that part of a hart
abbrev pub agent_of : Hart → Agent
agent_of hart = record {
  raised = hart.raised;
  held_line = hart.held_line;
  mail = hart.mail;
  told = hart.told;
  upstream = hart.upstream;
  clock = hart.clock;
  seen = hart.seen;
  attempt = hart.attempt;
  armed = armed_count hart.armed;
}

-- the agent of a hart; past the last one, one that has asked for nothing
abbrev pub agent_at : List Agent → ℕ → Agent
agent_at agents h = slice_index_or agents h new_agent

-- the agents after one has become another
abbrev pub with_agent : List Agent → ℕ → Agent → List Agent
with_agent agents h agent = slice_set agents h agent

-- an agent that was posted a message
abbrev pub agent_posted : Message → Agent → Agent
agent_posted message agent = record agent { mail = posted agent.mail message }

-- an agent without the oldest message of its mailbox
abbrev pub agent_taken : Agent → Agent
agent_taken agent = record agent { mail = without_oldest agent.mail }

-- an agent without the messages and sets that came with an origin's request
abbrev pub agent_forgetting : ℕ → Agent → Agent
agent_forgetting origin agent =
    record agent { mail = without_probe agent.mail origin; told = excluded agent.told origin }

-- an agent whose request is served: no hart is before it any more
abbrev pub agent_served : Agent → Agent
agent_served agent = record agent { mail = without_markers agent.mail; upstream = [] }

-- a hart without a live section holds the line that it was served; one with a live section has a bit instead
abbrev pub agent_claiming : Bool → ℕ → Agent → Agent
agent_claiming true line agent = agent
agent_claiming false line agent = record agent { held_line = Some line }

-- an agent that was told of an origin, and one that knows of a hart before it
abbrev pub agent_told : ℕ → Agent → Agent
agent_told origin agent = record agent { told = included agent.told origin }

abbrev pub agent_behind : ℕ → Agent → Agent
agent_behind sender agent = record agent { upstream = included agent.upstream sender }

-- an agent that has seen a stamp, if there is one
abbrev pub agent_seeing : Option Stamp → Agent → Agent
agent_seeing stamp agent = record agent { seen = seen_after agent.seen stamp }

-- a hart was told of an origin and has seen a stamp, if there is one
abbrev pub agent_heard : ℕ → Option Stamp → Agent → Agent
agent_heard origin stamp agent = agent_seeing stamp (agent_told origin agent)

-- an agent whose attempt is open, and one whose attempt is closed
abbrev pub agent_opened : Mode → ℕ → Agent → Agent
agent_opened mode h agent = record agent { attempt = opened mode h agent.clock agent.attempt }

-- a clock as an attempt closes, if one is open
abbrev pub clock_after : ℕ → ℕ → Option Stamp → ℕ
clock_after clock seen None = clock
clock_after clock seen (Some stamp) = next_clock_of clock seen

abbrev pub agent_closed : Agent → Agent
agent_closed agent = record agent { attempt = None; clock = clock_after agent.clock agent.seen agent.attempt }

-- an agent that is noted as armed, with a count; 0 stands for one that is not armed
abbrev pub agent_noted : ℕ → Agent → Agent
agent_noted count agent = record agent { armed = count }
