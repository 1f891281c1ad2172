-- an event of the bus, told once: how it starts, and what becomes of each hart from there, one change after another
use Rattle.std.specs.Prelude.{ℕ, ◌≡◌, ◌≢◌, ◌<◌, ◌≤◌, ◌==◌, true, false, List, ◌∷◌, length, Option, None, Some, is_some}
use Rattle.std.specs.Prelude.{if◌then◌else◌}
use Rattle.bus_order.specs.Order.{Request, appended, in_front_of, removed, tail_of}
use Rattle.defer_list.specs.HartSet.{has, included}
use Rattle.el_base.specs.Losers.{beaten_by, losers_of}
use Rattle.el_base.specs.Winners.{winner_over}
use Rattle.el_base.specs.declared.config.Mode.TheVariants.{Tlr}
use Rattle.chronicle.specs.Serial.{taking_effect}
use Rattle.el_base.specs.Freed.{order_of}
use Rattle.el_base.specs.declared.freed.Freed.{Freed}
use Rattle.el_base.specs.declared.outcomes.Outcome.{Outcome}
use Rattle.el_base.specs.declared.outcomes.Outcome.TheVariants as outcomes
use Rattle.el_model.specs.Armed.{is_freed, let_go, let_go_hart}
use Rattle.el_model.specs.Attempts.{see}
use Rattle.el_model.specs.Deliver.{loses_to_origin, taken}
use Rattle.el_model.specs.Face.{LosesTo, Stays, fate_at, freed_if, met, winning_stamp}
use Rattle.el_model.specs.Order.{Alone, Behind, InFront, Place, before_face, place_for}
use Rattle.el_model.specs.RollBack.{beaten}
use Rattle.el_model.specs.Serve.{Free, obstacle_to, served, serving}
use Rattle.el_model.specs.State.{Hart, ModelState, Turn, hart_of, head_of, ordered_of, ordered_on, raised_of}
use Rattle.mail.specs.Mailbox.{Message, Marker, Probe, posted}
use Rattle.rv_flat.specs.FlatState.{view_of}
use Rattle.rv_flat.specs.Run.{run}
use Rattle.stamp.specs.Stamps.{Stamp}

-- how an event of the bus starts
pub data Start : Type 0 where
  Nothing : Start  -- there is nothing to do, or something is in the way
  Places : Request → Place → Start  -- a raised request takes its place in the order
  Serves : Request → Start  -- an ordered request is served
  Takes : Message → List Message → Start  -- the oldest message of a mailbox is taken, and these are left

-- where the event of a hart starts so
pub record MayPlace (state : ModelState) (by : ℕ) (request : Request) (place : Place) : Type 0 where
  pub raised : raised_of state by ≡ Some request
  pub place_is : place ≡ place_for state request

pub record MayServe (state : ModelState) (by : ℕ) (request : Request) : Type 0 where
  pub ordered : ordered_of state by ≡ Some request
  pub free : obstacle_to state request ≡ Free

abbrev pub StartsWhere : ModelState → ℕ → Start → Type 0
StartsWhere state by Nothing = Unit {0}
StartsWhere state by (Places request place) = MayPlace state by request place
StartsWhere state by (Serves request) = MayServe state by request
StartsWhere state by (Takes message others) = (hart_of state by).mail ≡ message ∷ others

-- a hart as it has taken a message: the sender of a marker is before it, and of the origin of a probe it was told
abbrev pub having_taken : Message → List Message → Hart → Hart
having_taken (Marker sender) others hart = record hart { mail = others; upstream = included hart.upstream sender }
having_taken (Probe origin) others hart = record hart { mail = others; told = included hart.told origin }

-- a hart after the start
abbrev pub started : ModelState → ℕ → Start → ℕ → Hart → Hart
started state by Nothing h hart = hart
started state by (Places request place) h hart = if h == request.hart then record hart { raised = None } else hart
started state by (Serves request) h hart = serving state request h hart
started state by (Takes message others) h hart = if h == by then having_taken message others hart else hart

-- the order after it
abbrev pub order_at : ModelState → Request → Place → List Request
order_at state request InFront = in_front_of state.order request
order_at state request Behind = appended state.order request
order_at state request Alone = appended state.order request

abbrev pub order_after : ModelState → Start → List Request
order_after state Nothing = state.order
order_after state (Places request place) = order_at state request place
order_after state (Serves request) = removed state.order request.hart
order_after state (Takes message others) = state.order

-- the head that is met then, if one is, the state in which it lets go the armed sections that it meets,
-- and the one in which it is faced
abbrev pub faced_head : ModelState → Start → Option Request
faced_head state Nothing = None
faced_head state (Places request InFront) = Some request
faced_head state (Places request Behind) = None
faced_head state (Places request Alone) = Some request
faced_head state (Serves request) = head_of (served state request) request.line
faced_head state (Takes message others) = None

abbrev pub as_met : ModelState → ℕ → Start → ModelState
as_met state by Nothing = state
as_met state by (Places request place) = before_face state request place
as_met state by (Serves request) = served state request
as_met state by (Takes message others) = taken state by others

abbrev pub as_faced : ModelState → ℕ → Start → Request → ModelState
as_faced state by start head = let_go (as_met state by start) head

-- the harts that are let go, each with the number of its instructions
abbrev pub freed_in : ModelState → ℕ → Start → Freed
freed_in state by start = freed_if (as_met state by start) (faced_head state start)

-- the armed section of a hart is let go as the head is met
pub record Frees (state : ModelState) (by : ℕ) (start : Start) (h : ℕ) (head : Request) : Type 0 where
  pub head_is : faced_head state start ≡ Some head
  pub freed : is_freed head h (hart_of (as_met state by start) h) ≡ true

-- the section of another hart stays as the head is faced
pub record Defers (state : ModelState) (by : ℕ) (start : Start) (h : ℕ) (head : Request) : Type 0 where
  pub mode : state.config.mode ≡ Tlr
  pub head_is : faced_head state start ≡ Some head
  pub apart : h ≢ head.hart
  pub fate : fate_at (as_faced state by start head) head h ≡ Stays

-- a hart that took a marker tells its sender of an origin
pub record TellsOn (state : ModelState) (by sender origin : ℕ) : Type 0 where
  pub own : Request
  pub own_is : ordered_of state by ≡ Some own
  pub exists : origin < length state.harts
  pub apart : origin ≢ sender
  pub told : has (hart_of state by).told origin ≡ true
  pub waits : is_some (ordered_on state origin own.line) ≡ true

-- a hart that took the probe of an origin, new to it, forwards it to a hart that is before it
pub record Forwards (state : ModelState) (by origin h : ℕ) : Type 0 where
  pub new : has (hart_of state by).told origin ≡ false
  pub request : Request
  pub waits : ordered_of state origin ≡ Some request
  pub apart : h ≢ origin
  pub before : has (hart_of state by).upstream h ≡ true
  pub own : is_some (ordered_on state by request.line) ≡ true

-- which messages a hart is posted, after which start
pub data IsPosted (state : ModelState) (by : ℕ) : Start → ℕ → Message → Type 0 where
  -- the last hart of the line sends its marker to one that is placed behind it
  IsBehind : (request last : Request) → state.config.mode ≡ Tlr → tail_of state.order request.line ≡ Some last →
      IsPosted state by (Places request Behind) request.hart (Marker last.hart)
  -- a hart that is placed in front sends its own to the former head
  IsPassed : (request former : Request) → state.config.mode ≡ Tlr → head_of state request.line ≡ Some former →
      IsPosted state by (Places request InFront) former.hart (Marker request.hart)
  -- each hart that defers a head sends it a marker
  IsDeferred : (start : Start) (head : Request) (h : ℕ) → Defers state by start h head → h < length state.harts →
      IsPosted state by start head.hart (Marker h)
  -- a hart that took a marker sends back its own probe, and those of origins
  IsAnswered : (sender : ℕ) (others : List Message) → IsPosted state by (Takes (Marker sender) others) sender (Probe by)
  IsToldOn : (sender : ℕ) (others : List Message) (origin : ℕ) → TellsOn state by sender origin →
      IsPosted state by (Takes (Marker sender) others) sender (Probe origin)
  -- one that took a probe forwards it
  IsForwarded : (origin : ℕ) (others : List Message) (h : ℕ) → Forwards state by origin h →
      IsPosted state by (Takes (Probe origin) others) h (Probe origin)

-- to which hart a section is lost, and by which stamp: as a head is faced, or to an origin that its hart was told of
pub data LosesWhere (state : ModelState) (by : ℕ) : Start → ℕ → ℕ → Option Stamp → Type 0 where
  AtFace : (start : Start) (head : Request) (h winner : ℕ) → faced_head state start ≡ Some head → h ≢ head.hart →
      fate_at (as_faced state by start head) head h ≡ LosesTo winner →
      LosesWhere state by start h winner (winning_stamp (as_faced state by start head) head.line winner)
  AtProbe : (origin : ℕ) (others : List Message) (request : Request) → ordered_of state origin ≡ Some request →
      loses_to_origin state by (Some request) ≡ true →
      LosesWhere state by (Takes (Probe origin) others) by origin request.stamp

-- what becomes of a hart, and to whom its section is lost
pub data Becomes (state : ModelState) (by : ℕ) (start : Start) (h : ℕ) : Option ℕ → Hart → Type 0 where
  IsAbsent : length state.harts ≤ h → Becomes state by start h None (hart_of state h)
  Starts : h < length state.harts → Becomes state by start h None (started state by start h (hart_of state h))
  IsSent : (message : Message) (lost : Option ℕ) (hart : Hart) → IsPosted state by start h message →
      Becomes state by start h lost hart →
      Becomes state by start h lost (record hart { mail = posted hart.mail message })
  IsLetGo : (head : Request) (hart : Hart) → Frees state by start h head → Becomes state by start h None hart →
      Becomes state by start h None (let_go_hart (view_of state.committed h).pc hart)
  Sees : (head : Request) (lost : Option ℕ) (hart : Hart) → Defers state by start h head →
      Becomes state by start h lost hart → Becomes state by start h lost (see head.stamp hart)
  LosesIt : (winner : ℕ) (stamp : Option Stamp) (hart : Hart) → LosesWhere state by start h winner stamp →
      Becomes state by start h None hart → Becomes state by start h (Some winner) (beaten state.config.mode stamp hart)

-- how an event of the bus may come out
abbrev pub IsOfBus : Outcome → Type 0
IsOfBus outcomes.Idle = Unit {0}
IsOfBus (outcomes.Ordered losers freed) = Unit {0}
IsOfBus (outcomes.Served losers freed) = Unit {0}
IsOfBus (outcomes.Blocked why by) = Unit {0}
IsOfBus (outcomes.Delivered losers) = Unit {0}
IsOfBus _ = ⊥

-- what an event of the bus is: a start, and what becomes of each hart from there; what is committed stays, but for the
-- instructions of the harts that it lets go
pub record IsBusEvent (state : ModelState) (by : ℕ) (turn : Turn) : Type 0 where
  pub start : Start
  pub where_it : StartsWhere state by start
  pub lost : ℕ → Option ℕ
  pub becomes : (h : ℕ) → Becomes state by start h (lost h) (hart_of turn.state h)
  pub of_bus : IsOfBus turn.outcome
  pub names : (h : ℕ) → winner_over turn.outcome h ≡ beaten_by (losers_of lost) h
  pub faces : (head : Request) → faced_head state start ≡ Some head → turn.state ≡ met (as_met state by start) head
  pub order : turn.state.order ≡ order_after state start
  pub config : turn.state.config ≡ state.config
  pub committed : turn.state.committed ≡ run state.committed (order_of (freed_in state by start))
  pub effect : (h : ℕ) → taking_effect h turn.outcome ≡ order_of (freed_in state by start)
  pub count : length turn.state.harts ≡ length state.harts
