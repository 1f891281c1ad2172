-- what comes of the line that the hart of the least open stamp waits for
use Rattle.std.specs.Prelude.{ℕ, ◌≡◌, ◌⊎◌, Bool, true, false, List, None, Some, is_some}
use Rattle.std.specs.List.{list_any}
use Rattle.bus_order.specs.Order.{Request}
use Rattle.el_base.specs.declared.config.Config.{Config}
use Rattle.el_base.specs.declared.config.Mode.TheVariants.{Tlr}
use Rattle.el_base.specs.declared.events.Event.{Event}
use Rattle.el_base.specs.declared.events.Kind.TheVariants as kinds
use Rattle.elf_image.specs.Program.{Program}
use Rattle.el_model.specs.Conflicts.{retains}
use Rattle.el_model.specs.Next.{after, next}
use Rattle.el_model.specs.State.{ModelState, hart_of, head_of, ordered_on}
use Rattle.mail.specs.Mailbox.{Marker, Message, Probe}
use Rattle.progress_laws.specs.Ready.{gets_on}
use Rattle.removal_laws.specs.Laws.{HasLeast, IsLocked, is_served}
use Rattle.stamp.specs.Stamps.{Stamp}

-- the hart whose request a message is about: a marker tells its receiver who is before it, a probe names who waits
abbrev pub subject_of : ℕ → Message → ℕ
subject_of receiver (Marker sender) = receiver
subject_of receiver (Probe origin) = origin

-- whether a message in a hart's mailbox is about a line: that request is ordered on it
abbrev pub is_about : ModelState → ℕ → ℕ → Message → Bool
is_about state line receiver message = is_some (ordered_on state (subject_of receiver message) line)

-- a hart has the least open stamp, its request is ordered on a line, and no mailbox has a message about that line
pub record LeastWaits (state : ModelState) (h line : ℕ) : Type 0 where
  pub stamp : Stamp
  pub least : HasLeast state h stamp
  pub request : Request
  pub waits : ordered_on state h line ≡ Some request
  pub delivered : (g : ℕ) → list_any (is_about state line g) (hart_of state g).mail ≡ false

-- a step is progress, and its hart holds no line after it
pub record EndsHold (state : ModelState) (step : Event) : Type 0 where
  pub progress : gets_on state step ≡ true
  pub ended : (hart_of (next state step).state step.hart.number).held_line ≡ None

-- no live section retains a line, it has a first request, and a serve of that one's hart is `Served`, or `Blocked` as
-- `Locked` by a hart without a live section that holds the line until its next step
pub record MovesOn (state : ModelState) (line : ℕ) : Type 0 where
  pub not_retained : (g : ℕ) → retains state g line ≡ false
  pub head : Request
  pub is_head : head_of state line ≡ Some head
  pub served : (serve : Event) → serve.kind ≡ kinds.Serve → serve.hart.number ≡ head.hart →
      (is_served (next state serve).outcome ≡ true) ⊎ IsLocked state line (next state serve).outcome
  pub hold_ends : (step : Event) → step.kind ≡ kinds.Step → (hart_of state step.hart.number).held_line ≡ Some line →
      EndsHold state step

-- in lock removal, in every state that can be reached, such a line moves on
abbrev pub LineOfLeastStampMovesOn : Type 0
LineOfLeastStampMovesOn =
    (program : Program) (config : Config) (events : List Event) (h line : ℕ) → config.mode ≡ Tlr →
    LeastWaits (after program config events) h line → MovesOn (after program config events) line
