-- the laws of lock removal
use Rattle.std.specs.Prelude.{ℕ, ◌≡◌, ◌≢◌, ◌<◌, ◌≤◌, ◌==◌, ◌&&◌, ◌||◌, ◌⊎◌, Bool, true, false, List, [], ◌∷◌, Option}
use Rattle.std.specs.Prelude.{None, Some}
use Rattle.bus_order.specs.Order.{Request}
use Rattle.el_base.specs.Config.{IsInRange}
use Rattle.el_base.specs.HartId.{hart_id}
use Rattle.el_base.specs.declared.config.Config.{Config}
use Rattle.el_base.specs.declared.config.Mode.TheVariants.{Tlr}
use Rattle.el_base.specs.declared.events.Event.{Event}
use Rattle.el_base.specs.declared.events.Kind.TheVariants as kinds
use Rattle.el_base.specs.declared.outcomes.Outcome.{Outcome}
use Rattle.el_base.specs.declared.outcomes.Outcome.TheVariants.{Blocked, Served}
use Rattle.el_base.specs.declared.outcomes.Why.TheVariants.{Locked}
use Rattle.elf_image.specs.Program.{Program}
use Rattle.el_model.specs.Conflicts.{retains}
use Rattle.el_base.specs.Winners.{winner_over}
use Rattle.el_model.specs.Next.{after, next, state_after}
use Rattle.el_model.specs.State.{ModelState, hart_of, head_of, is_live, ordered_of, ordered_on, section_of}
use Rattle.mail.specs.Mailbox.{Marker, Probe, has_message}
use Rattle.removal_laws.specs.Facts.{Everywhere, Facts}
use Rattle.section_laws.specs.Sections.{is_committed, is_rolled_back}
use Rattle.stamp.specs.Stamps.{Stamp, is_before, less_of}

-- a hart's open attempt
abbrev pub attempt_of : ModelState → ℕ → Option Stamp
attempt_of state h = (hart_of state h).attempt

-- whether this event closes a hart's attempt: its section commits, or the hart rolls it back itself
abbrev pub closes : ModelState → Event → ℕ → Bool
closes state event h =
    (event.hart.number == h) && (is_committed (next state event).outcome || is_rolled_back (next state event).outcome)

-- an open attempt is its hart's own, with the clock that the hart has now
pub record IsCurrent (state : ModelState) (h : ℕ) (stamp : Stamp) : Type 0 where
  pub own : stamp.hart ≡ h
  pub clock_is : stamp.clock ≡ (hart_of state h).clock

abbrev pub AttemptsAreCurrent : Type 0
AttemptsAreCurrent =
    (program : Program) (config : Config) (events : List Event) (h : ℕ) (stamp : Stamp) →
    attempt_of (after program config events) h ≡ Some stamp → IsCurrent (after program config events) h stamp

-- no two harts have the same stamp
abbrev pub StampsAreDistinct : Type 0
StampsAreDistinct =
    (program : Program) (config : Config) (events : List Event) (g h : ℕ) (stamp : Stamp) →
    attempt_of (after program config events) g ≡ Some stamp →
    attempt_of (after program config events) h ≡ Some stamp → g ≡ h

-- none of these events closes the attempt of a hart
abbrev pub NeverCloses : ModelState → ℕ → List Event → Type 0
NeverCloses state h [] = Unit {0}
NeverCloses state h (event ∷ events) = (closes state event h ≡ false) × NeverCloses (next state event).state h events

-- a stamp is kept until its attempt closes, whatever sections are lost in between
abbrev pub StampsAreKept : Type 0
StampsAreKept =
    (state : ModelState) (h : ℕ) (events : List Event) (stamp : Stamp) → NeverCloses state h events →
    attempt_of state h ≡ Some stamp → attempt_of (state_after state events) h ≡ Some stamp

-- once an attempt has closed, each later one of its hart has a greater clock than the hart had, and than it had seen,
-- at any time before the close; an open attempt has the clock of its hart
pub record IsLater (state : ModelState) (h : ℕ) (later : Stamp) : Type 0 where
  pub than_earlier : (earlier : Stamp) → attempt_of state h ≡ Some earlier → earlier.clock < later.clock
  pub than_clock : (hart_of state h).clock < later.clock
  pub than_seen : (hart_of state h).seen < later.clock

abbrev pub LaterAttemptsAreLater : Type 0
LaterAttemptsAreLater =
    (program : Program) (config : Config) (events between afterwards : List Event) (closing : Event) (h : ℕ)
    (later : Stamp) → config.mode ≡ Tlr → closes (state_after (after program config events) between) closing h ≡ true →
    attempt_of (state_after (next (state_after (after program config events) between) closing).state afterwards) h
    ≡ Some later → IsLater (after program config events) h later

-- the facts of lock removal hold of every state that can be reached
abbrev pub FactsHoldThroughout : Type 0
FactsHoldThroughout =
    (program : Program) (config : Config) (events : List Event) → config.mode ≡ Tlr →
    Facts Everywhere (after program config events)

-- a hart whose request waits for a line with a stamp less than that of each other hart's live section
pub record WaitsWithLeast (state : ModelState) (h line : ℕ) (request : Request) : Type 0 where
  pub waits : ordered_on state h line ≡ Some request
  pub least : (g : ℕ) → g ≢ h → is_live state g ≡ true → is_before request.stamp (attempt_of state g) ≡ true

-- no mailbox of a hart that waits for a line has a marker, and none the probe of an origin that waits for it
pub record IsDelivered (state : ModelState) (line : ℕ) : Type 0 where
  pub no_marker : (h sender : ℕ) (request : Request) → ordered_on state h line ≡ Some request →
      has_message (hart_of state h).mail (Marker sender) ≡ false
  pub no_probe : (h origin : ℕ) (request : Request) → ordered_on state origin line ≡ Some request →
      has_message (hart_of state h).mail (Probe origin) ≡ false

-- once the messages of a line are delivered, no section retains it from a hart that waits for it with the least stamp
abbrev pub LeastStampIsNotRetained : Type 0
LeastStampIsNotRetained =
    (program : Program) (config : Config) (events : List Event) (h g line : ℕ) (request : Request) → config.mode ≡ Tlr →
    WaitsWithLeast (after program config events) h line request → IsDelivered (after program config events) line →
    retains (after program config events) g line ≡ false

-- whom a hart lost to: a hart whose request waits, with a stamp less than that of the loser's
-- open attempt; its clock is seen
pub record LosesToEarlier (state : ModelState) (g winner : ℕ) : Type 0 where
  pub request : Request
  pub waits : ordered_of state winner ≡ Some request
  pub earlier : is_before request.stamp (attempt_of state g) ≡ true
  pub seen : (stamp : Stamp) → request.stamp ≡ Some stamp → stamp.clock ≤ (hart_of state g).seen

-- as an event ends, each of its losers has lost to such a hart
abbrev pub LosersLoseToEarlier : Type 0
LosersLoseToEarlier =
    (program : Program) (config : Config) (events : List Event) (event : Event) (g winner : ℕ) → config.mode ≡ Tlr →
    winner_over (next (after program config events) event).outcome g ≡ Some winner →
    LosesToEarlier (next (after program config events) event).state g winner

-- a hart whose open attempt has the least stamp
pub record HasLeast (state : ModelState) (h : ℕ) (stamp : Stamp) : Type 0 where
  pub attempt : attempt_of state h ≡ Some stamp
  pub least : (g : ℕ) (other : Stamp) → g ≢ h → attempt_of state g ≡ Some other → less_of stamp other ≡ true

-- no event names it among its losers
abbrev pub LeastStampNeverLoses : Type 0
LeastStampNeverLoses =
    (program : Program) (config : Config) (events : List Event) (event : Event) (h : ℕ) (stamp : Stamp) →
    config.mode ≡ Tlr → HasLeast (after program config events) h stamp →
    winner_over (next (after program config events) event).outcome h ≡ None

-- once an attempt has closed, each later one of its hart has a greater clock than the winner that the hart lost to
abbrev pub LaterThanWinners : Type 0
LaterThanWinners =
    (program : Program) (config : Config) (events between afterwards : List Event) (event closing : Event)
    (g winner : ℕ) (request : Request)
    (stamp later : Stamp) → config.mode ≡ Tlr →
    winner_over (next (after program config events) event).outcome g ≡ Some winner →
    ordered_of (next (after program config events) event).state winner ≡ Some request → request.stamp ≡ Some stamp →
    closes (state_after (next (after program config events) event).state between) closing g ≡ true →
    attempt_of (state_after (next (state_after (next (after program config events) event).state between) closing).state
    afterwards) g ≡ Some later → stamp.clock < later.clock

-- and than the head of a line that the hart's section retained
abbrev pub LaterThanDeferredHeads : Type 0
LaterThanDeferredHeads =
    (program : Program) (config : Config) (events between afterwards : List Event) (closing : Event) (g line : ℕ)
    (head : Request)
    (stamp later : Stamp) → config.mode ≡ Tlr → retains (after program config events) g line ≡ true →
    head_of (after program config events) line ≡ Some head → head.stamp ≡ Some stamp →
    closes (state_after (after program config events) between) closing g ≡ true →
    attempt_of (state_after (next (state_after (after program config events) between) closing).state afterwards) g
    ≡ Some later → stamp.clock < later.clock

-- an outcome of a served request
abbrev pub is_served : Outcome → Bool
is_served (Served losers freed) = true
is_served _ = false

-- a hart without a live section that holds the line is in the way
pub record IsLocked (state : ModelState) (line : ℕ) (outcome : Outcome) : Type 0 where
  pub holder : ℕ
  pub outcome_is : outcome ≡ Blocked Locked (hart_id holder)
  pub holds : (hart_of state holder).held_line ≡ Some line
  pub outside : section_of state holder ≡ None

-- once the messages of a line are delivered, and a hart waits for it with the least stamp, its head is
-- served, unless the line is locked
abbrev pub HeadIsServed : Type 0
HeadIsServed =
    (program : Program) (config : Config) (events : List Event) (event : Event) (h line : ℕ) (request head : Request) →
    config.mode ≡ Tlr → WaitsWithLeast (after program config events) h line request →
    IsDelivered (after program config events) line → head_of (after program config events) line ≡ Some head →
    event.kind ≡ kinds.Serve → event.hart.number ≡ head.hart →
    (is_served (next (after program config events) event).outcome ≡ true)
    ⊎ IsLocked (after program config events) line (next (after program config events) event).outcome

-- what ends the section of such a hart is its own commit or its own rollback
abbrev pub LeastEndsItsOwnSection : Type 0
LeastEndsItsOwnSection =
    (program : Program) (config : Config) (events : List Event) (event : Event) (h : ℕ) (stamp : Stamp) →
    config.mode ≡ Tlr → program.harts ≡ config.harts → IsInRange config →
    HasLeast (after program config events) h stamp → is_live (after program config events) h ≡ true →
    is_live (next (after program config events) event).state h ≡ false →
    closes (after program config events) event h ≡ true
