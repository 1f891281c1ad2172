-- where each outcome comes
use Rattle.std.specs.Prelude.{◌≡◌, ◌≢◌, ◌⊎◌, ◌+◌, ℕ, true, false, List, [], ◌∷◌, Option, None, Some}
use Rattle.bus_order.specs.Order.{Request}
use Rattle.el_base.specs.HartId.{hart_id}
use Rattle.el_base.specs.LineAddr.{line_addr}
use Rattle.el_base.specs.declared.events.Event.{Event}
use Rattle.el_base.specs.declared.events.Kind.TheVariants as kinds
use Rattle.el_base.specs.declared.freed.Freed.{Freed}
use Rattle.el_base.specs.declared.hart_id.HartId.{HartId}
use Rattle.el_base.specs.declared.losers.Losers.{Losers}
use Rattle.el_base.specs.declared.outcomes.Need.{Need}
use Rattle.el_base.specs.declared.outcomes.Outcome.{Outcome}
use Rattle.el_base.specs.declared.outcomes.Outcome.TheVariants.{Idle, Stalled, Missed, Ran, Began, Buffered, Committed}
use Rattle.el_base.specs.declared.outcomes.Outcome.TheVariants.{RolledBack, Ordered, Served}
use Rattle.el_base.specs.declared.outcomes.Outcome.TheVariants.{Blocked, Delivered, Armed, LetGo}
use Rattle.el_base.specs.declared.outcomes.Why.{Why}
use Rattle.mail.specs.Mailbox.{Message}
use Rattle.el_model.specs.Armed.{ArmedRule, Continues, Elides, LetsGo, armed_rule}
use Rattle.el_model.specs.Deliver.{message_losers}
use Rattle.el_model.specs.InSection as inside
use Rattle.el_model.specs.InSection.{SectionRule, section_rule}
use Rattle.el_model.specs.Order.{order_freed, order_losers}
use Rattle.el_model.specs.Plain as outside
use Rattle.el_model.specs.Plain.{PlainRule, plain_rule}
use Rattle.el_model.specs.Serve.{Blocks, Free, obstacle_to, serve_freed, serve_losers}
use Rattle.el_model.specs.State as states
use Rattle.el_model.specs.State.{ModelState, Section, armed_of, has_request, hart_of, ordered_of, raised_of, section_of}
use Rattle.el_model.specs.Upcoming.{Swap, Touch}
use Rattle.rv_alu.specs.declared.view.HartStatus.TheVariants.{Running}
use Rattle.rv_flat.specs.FlatState.{status_of}

-- a step of a hart that runs and waits for no request
pub record Goes (state : ModelState) (event : Event) : Type 0 where
  pub step : event.kind ≡ kinds.Step
  pub running : status_of state.committed event.hart.number ≡ Running
  pub free : has_request state event.hart.number ≡ false

-- the same outside of a section, armed or live, by a rule
pub record GoesOutside (state : ModelState) (event : Event) (rule : PlainRule) : Type 0 where
  pub goes : Goes state event
  pub outside : section_of state event.hart.number ≡ None
  pub unarmed : armed_of state event.hart.number ≡ None
  pub rule_is : plain_rule state event.hart.number ≡ rule

-- the same of an armed hart
pub record GoesArmed (state : ModelState) (event : Event) (armed : states.Armed) (rule : ArmedRule) : Type 0 where
  pub goes : Goes state event
  pub outside : section_of state event.hart.number ≡ None
  pub is_armed : armed_of state event.hart.number ≡ Some armed
  pub rule_is : armed_rule state event.hart.number armed ≡ rule

-- the same inside of a section
pub record GoesInside (state : ModelState) (event : Event) (section : Section) (rule : SectionRule) : Type 0 where
  pub goes : Goes state event
  pub inside : section_of state event.hart.number ≡ Some section
  pub rule_is : section_rule state event.hart.number section ≡ rule

-- a step of a hart that runs and waits for a request
pub record Waits (state : ModelState) (event : Event) : Type 0 where
  pub step : event.kind ≡ kinds.Step
  pub running : status_of state.committed event.hart.number ≡ Running
  pub waits : has_request state event.hart.number ≡ true

-- a step of a hart that has stopped
pub record HasStopped (state : ModelState) (event : Event) : Type 0 where
  pub step : event.kind ≡ kinds.Step
  pub stopped : status_of state.committed event.hart.number ≢ Running

-- there is nothing to order, to serve, or to deliver
pub record NothingRaised (state : ModelState) (event : Event) : Type 0 where
  pub order : event.kind ≡ kinds.Order
  pub nothing : raised_of state event.hart.number ≡ None

pub record NothingOrdered (state : ModelState) (event : Event) : Type 0 where
  pub serve : event.kind ≡ kinds.Serve
  pub nothing : ordered_of state event.hart.number ≡ None

pub record NoMail (state : ModelState) (event : Event) : Type 0 where
  pub deliver : event.kind ≡ kinds.Deliver
  pub nothing : (hart_of state event.hart.number).mail ≡ []

abbrev pub NothingToDo : ModelState → Event → Type 0
NothingToDo state event =
    HasStopped state event ⊎ (NothingRaised state event ⊎ (NothingOrdered state event ⊎ NoMail state event))

-- an instruction misses a line, outside or inside of a section
pub record MissesLine (state : ModelState) (event : Event) (line : ℕ) (need : Need) : Type 0 where
  pub by_rule : GoesOutside state event (outside.Misses line need)
      ⊎ ((section : Section) × GoesInside state event section (inside.Misses line need))

-- a section begins: at a swap, or at the SC of an armed section
pub record BeginsSection (state : ModelState) (event : Event) (swap : Swap) : Type 0 where
  pub by_rule : GoesOutside state event (outside.Begins swap)
      ⊎ ((armed : states.Armed) × GoesArmed state event armed (Elides swap))

-- one more instruction is kept private, of a live section or of an armed one
pub record KeepsPrivate (state : ModelState) (event : Event) : Type 0 where
  pub by_rule :
      ((section : Section) × (touch : Option Touch) × GoesInside state event section (inside.Buffers touch))
      ⊎ ((armed : states.Armed) × GoesArmed state event armed Continues)

-- a request takes its place
pub record TakesPlace (state : ModelState) (event : Event) (losers : Losers) (freed : Freed) : Type 0 where
  pub request : Request
  pub order : event.kind ≡ kinds.Order
  pub raised : raised_of state event.hart.number ≡ Some request
  pub losers_are : losers ≡ order_losers state request
  pub freed_are : freed ≡ order_freed state request

-- a request is served, as nothing is in its way
pub record IsServed (state : ModelState) (event : Event) (losers : Losers) (freed : Freed) : Type 0 where
  pub request : Request
  pub serve : event.kind ≡ kinds.Serve
  pub ordered : ordered_of state event.hart.number ≡ Some request
  pub free : obstacle_to state request ≡ Free
  pub losers_are : losers ≡ serve_losers state request
  pub freed_are : freed ≡ serve_freed state request

-- something is in its way
pub record IsBlocked (state : ModelState) (event : Event) (why : Why) (by : HartId) : Type 0 where
  pub request : Request
  pub hart : ℕ
  pub serve : event.kind ≡ kinds.Serve
  pub ordered : ordered_of state event.hart.number ≡ Some request
  pub obstacle : obstacle_to state request ≡ Blocks why hart
  pub by_is : by ≡ hart_id hart

-- the oldest message takes effect
pub record TakesMessage (state : ModelState) (event : Event) (losers : Losers) : Type 0 where
  pub message : Message
  pub others : List Message
  pub deliver : event.kind ≡ kinds.Deliver
  pub mail : (hart_of state event.hart.number).mail ≡ message ∷ others
  pub losers_are : losers ≡ message_losers state event.hart.number message others

-- where an outcome comes
abbrev pub ComesWhere : ModelState → Event → Outcome → Type 0
ComesWhere state event Idle = NothingToDo state event
ComesWhere state event Stalled = Waits state event
ComesWhere state event (Missed line need) =
    (number : ℕ) × (line ≡ line_addr number) × MissesLine state event number need
ComesWhere state event Ran = (touch : Option Touch) × GoesOutside state event (outside.Runs touch)
ComesWhere state event Began = (swap : Swap) × BeginsSection state event swap
ComesWhere state event Buffered = KeepsPrivate state event
ComesWhere state event (Committed count) =
    (section : Section) × (count ≡ section.count + 1) × GoesInside state event section inside.Commits
ComesWhere state event (RolledBack cause) =
    (section : Section) × GoesInside state event section (inside.RollsBack cause)
ComesWhere state event (Ordered losers freed) = TakesPlace state event losers freed
ComesWhere state event (Served losers freed) = IsServed state event losers freed
ComesWhere state event (Blocked why by) = IsBlocked state event why by
ComesWhere state event (Delivered losers) = TakesMessage state event losers
ComesWhere state event Armed = (word : ℕ) × GoesOutside state event (outside.Arms word)
ComesWhere state event (LetGo count) =
    (armed : states.Armed) × (count ≡ armed.count) × GoesArmed state event armed LetsGo
