-- what each change of a hart keeps, every event keeps, and so it holds of every state that can be reached
use Rattle.std.proofs.Common.{◌≢◌, ℕ, List, Option, None}
use Rattle.bus_order.specs.Order.{Request}
use Rattle.el_base.specs.declared.config.Config.{Config}
use Rattle.el_base.specs.declared.events.Event.{Event}
use Rattle.el_base.specs.declared.events.Kind.{Kind}
use Rattle.el_base.specs.declared.events.Kind.TheVariants as kinds
use Rattle.elf_image.specs.Program.{Program}
use Rattle.el_model.specs.BusEvent.{Becomes, IsBusEvent, Nothing, Places, Serves, Start, Takes, having_taken, started}
use Rattle.el_model.specs.Deed.{Deed, DoesWhere, hart_after}
use Rattle.el_model.specs.Next.{after, kind_turn, next}
use Rattle.el_model.specs.Serve.{bystander, served_hart}
use Rattle.el_model.specs.State.{Hart, ModelState, Turn, begin, hart_of, new_hart}
use Rattle.el_model.proofs.Laws.BusEvents.{bus_event, by_event}
use Rattle.el_model.proofs.Laws.EachHart.{Each}
use Rattle.el_model.proofs.Laws.FromStart.{kept_after}
use Rattle.el_model.proofs.Laws.Tests.{by_hart}
use Rattle.section_laws.proofs.Laws.Moves.{Moves, moved, step_keeps, taken_keeps}
use Rattle.section_laws.proofs.Laws.NewHarts.{each_new}

-- what is said of each hart is kept by the events of the bus
pub record BusKept (P : ℕ → Hart → Type 0) : Type 0 where
  pub moves : Moves P
  pub unraised : (h : ℕ) (hart : Hart) → P h hart → P h (record hart { raised = None })
  pub served : (h : ℕ) (state : ModelState) (request : Request) (hart : Hart) → P h hart →
      P h (served_hart state request hart)
  pub bystander : (h : ℕ) (state : ModelState) (request : Request) (hart : Hart) → P h hart →
      P h (bystander state request hart)

module _ {P : ℕ → Hart → Type 0} (kept : BusKept P) where
  started_keeps : (state : ModelState) (by : ℕ) (start : Start) (h : ℕ) (hart : Hart) → P h hart →
      P h (started state by start h hart)
  started_keeps state by Nothing h hart now = now
  started_keeps state by (Places request place) h hart now =
      by_hart (P h) h request.hart (record hart { raised = None }) hart (λ own. kept.unraised h hart now) (λ other. now)
  started_keeps state by (Serves request) h hart now =
      by_hart (P h) h request.hart (served_hart state request hart) (bystander state request hart)
      (λ own. kept.served h state request hart now)
      (λ other. kept.bystander h state request hart now)
  started_keeps state by (Takes message others) h hart now =
      by_hart (P h) h by (having_taken message others hart) hart
      (λ own. taken_keeps kept.moves message others h hart now) (λ other. now)

  pub becomes_keeps : (state : ModelState) (by : ℕ) (start : Start) (h : ℕ) {lost : Option ℕ} {hart : Hart} →
      P h (hart_of state h) →
      Becomes state by start h lost hart → P h hart
  becomes_keeps state by start h now becomes =
      moved kept.moves state by start h (λ past. now)
      (λ below. started_keeps state by start h (hart_of state h) now) becomes

  pub turn_keeps : {state : ModelState} {by : ℕ} {turn : Turn} → IsBusEvent state by turn → Each P state →
      Each P turn.state
  turn_keeps {state} {by} done each h = becomes_keeps state by done.start h (each h) (done.becomes h)

  -- so does every event where its hart's deeds do
  pub event_keeps : (state : ModelState) (event : Event) →
      ((deed : Deed) → DoesWhere state event.hart.number deed →
      P event.hart.number (hart_after state event.hart.number deed (hart_of state event.hart.number))) → Each P state →
      Each P (next state event).state
  event_keeps state event deeds each =
      by_event (λ turn. Each P turn.state) state event (λ step. step_keeps P state event.hart.number deeds each)
      (λ turn done. turn_keeps done each)

  pub bus_keeps : (state : ModelState) (h : ℕ) (kind : Kind) → kind ≢ kinds.Step → Each P state →
      Each P (kind_turn state h kind).state
  bus_keeps state h kind bus each = turn_keeps (bus_event state h kind bus) each

-- and by a hart's own deeds, and holds of a hart before its first event
pub record EachKept (P : Hart → Type 0) : Type 0 where
  pub bus : BusKept (λ h hart. P hart)
  pub deed : (state : ModelState) (h : ℕ) (deed : Deed) → DoesWhere state h deed → P (hart_of state h) →
      P (hart_after state h deed (hart_of state h))
  pub new : (sets : ℕ) → P (new_hart sets)

module _ {P : Hart → Type 0} (kept : EachKept P) where
  pub next_keeps : (state : ModelState) (event : Event) → Each (λ h hart. P hart) state →
      Each (λ h hart. P hart) (next state event).state
  next_keeps state event each =
      event_keeps kept.bus state event
      (λ deed does. kept.deed state event.hart.number deed does (each event.hart.number)) each

  pub first_each : (program : Program) (config : Config) → Each (λ h hart. P hart) (begin program config)
  first_each program config = each_new P program config kept.new

  pub always_each : (program : Program) (config : Config) (events : List Event) →
      Each (λ h hart. P hart) (after program config events)
  always_each program config events =
      kept_after (Each (λ h hart. P hart)) next_keeps (begin program config) events (first_each program config)
