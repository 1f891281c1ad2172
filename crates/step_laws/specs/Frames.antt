-- what an event leaves as it was, in any state
use Rattle.std.specs.Prelude.{ℕ, ◌≡◌, ◌≢◌, length}
use Rattle.chronicle.specs.Serial.{taking_effect}
use Rattle.el_base.specs.declared.events.Event.{Event}
use Rattle.el_base.specs.declared.events.Kind.TheVariants as kinds
use Rattle.el_model.specs.Next.{next}
use Rattle.el_model.specs.State.{ModelState, Turn, hart_of}
use Rattle.rv_flat.specs.Run.{run}

-- what is committed, but for the instructions that take effect as harts are let go, each hart's predictor, the
-- configuration and how many harts there are
pub record LeavesPredictors (state : ModelState) (h : ℕ) (turn : Turn) : Type 0 where
  pub committed : turn.state.committed ≡ run state.committed (taking_effect h turn.outcome)
  pub predictors : (g : ℕ) → (hart_of turn.state g).predictor ≡ (hart_of state g).predictor
  pub config : turn.state.config ≡ state.config
  pub count : length turn.state.harts ≡ length state.harts

-- each hart but one, the order of requests, the configuration and how many harts there are
pub record LeavesOthers (state new : ModelState) (h : ℕ) : Type 0 where
  pub others : (g : ℕ) → g ≢ h → hart_of new g ≡ hart_of state g
  pub order : new.order ≡ state.order
  pub config : new.config ≡ state.config
  pub count : length new.harts ≡ length state.harts

-- an event that is no step commits the instructions of the harts that it lets go and nothing else,
-- and leaves each hart's predictor
abbrev pub BusEventsKeep : Type 0
BusEventsKeep =
    (state : ModelState) (event : Event) → event.kind ≢ kinds.Step →
    LeavesPredictors state event.hart.number (next state event)

-- a step leaves each other hart and the order of requests
abbrev pub StepsKeepOthers : Type 0
StepsKeepOthers =
    (state : ModelState) (event : Event) → event.kind ≡ kinds.Step →
    LeavesOthers state (next state event).state event.hart.number
