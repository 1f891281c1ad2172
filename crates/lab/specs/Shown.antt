-- what one event was about
use Rattle.std.specs.Prelude.{ℕ, ◌≡◌, ◌<◌, ◌==◌, length, List, Option, None, Some, slice_get, slice_index_or}
use Rattle.std.specs.List.{position}
use Rattle.std.specs.Option.{option_map}
use Rattle.bus_order.specs.Order as order
use Rattle.bus_order.specs.Order.{Request}
use Rattle.bus_order.specs.declared.request.Request as requests
use Rattle.residency.specs.Cache.{letter_of}
use Rattle.el_base.specs.declared.events.Kind.{Kind}
use Rattle.el_base.specs.declared.events.Kind.TheVariants as kinds
use Rattle.el_model.specs.Next.{shown_of}
use Rattle.el_model.specs.State.{ModelState, armed_of, cache_of, hart_of, ordered_of, raised_of, section_of}
use Rattle.lab.specs.declared.showing.Sight.{Sight}
use Rattle.lab.specs.declared.showing.What.{What}
use Rattle.lab.specs.declared.showing.What.TheVariants.{Step, Order, Serve, Deliver}
use Rattle.mail.specs.Mailbox as mailbox
use Rattle.mail.specs.Mailbox.{Message, Marker, Probe}
use Rattle.mail.specs.declared.message.Message as messages
use Rattle.moesi.specs.declared.letter.Letter.{Letter}
use Rattle.moesi.specs.declared.letter.Letter.TheVariants.{I}
use Rattle.rv_alu.specs.declared.action.Action.{Action}
use Rattle.rv_flat.specs.Step.{action_of}
use Rattle.machine.specs.SectionState as sections

-- what a hart sees, with its live or armed section
pub record IsSightOf (state : ModelState) (h : ℕ) (sight : Sight) : Type 0 where
  pub view : sight.view ≡ shown_of state h
  pub section : option_map sections.section_of sight.section ≡ section_of state h
  pub armed : option_map sections.armed_of sight.armed ≡ armed_of state h

-- of the line of a request, what each cache knows of it
abbrev pub AreLetters : ModelState → Option Request → List Letter → Type 0
AreLetters state None letters = Unit {0}
AreLetters state (Some request) letters =
    (h : ℕ) → h < length state.harts → slice_index_or letters h I ≡ letter_of (cache_of state h) request.line

-- the request of the origin of a probe
abbrev pub about_of : ModelState → Option Message → Option Request
about_of state None = None
about_of state (Some (Marker sender)) = None
about_of state (Some (Probe origin)) = ordered_of state origin

-- what is told of a step: what its hart saw before it, came to next, and saw after it
pub record IsStep (h : ℕ) (old new : ModelState) (before : Sight) (action : Action) (after : Sight) : Type 0 where
  pub before_is : IsSightOf old h before
  pub action_is : action ≡ action_of old.committed (shown_of old h)
  pub after_is : IsSightOf new h after

-- of an order: the request that the hart had raised, and the place of its hart's request after the event
pub record IsOrder (h : ℕ) (old new : ModelState) (request : Option requests.Request) (at : Option ℕ) : Type 0 where
  pub request_is : option_map order.numbered request ≡ raised_of old h
  pub place_is : at ≡ position (λ ordered. ordered.hart == h) new.order

-- of a serve: the request that the hart had in the order, and the letters of its line before the event and after it
pub record IsServe (h : ℕ) (old new : ModelState) (request : Option requests.Request)
    (before after : List Letter) : Type 0 where
  pub request_is : option_map order.numbered request ≡ ordered_of old h
  pub before_are : AreLetters old (ordered_of old h) before
  pub after_are : AreLetters new (ordered_of old h) after

-- of a delivery: the oldest message, and of a probe the request of its origin
pub record IsDelivery (h : ℕ) (old : ModelState) (message : Option messages.Message)
    (about : Option requests.Request) : Type 0 where
  pub message_is : option_map mailbox.numbered message ≡ slice_get (hart_of old h).mail 0
  pub about_is : option_map order.numbered about ≡ about_of old (slice_get (hart_of old h).mail 0)

-- what is told of an event of a hart, by its kind, between the states before and after it
abbrev pub Tells : Kind → ℕ → ModelState → ModelState → What → Type 0
Tells kinds.Step h old new (Step before action after) = IsStep h old new before action after
Tells kinds.Order h old new (Order request at) = IsOrder h old new request at
Tells kinds.Serve h old new (Serve request before after) = IsServe h old new request before after
Tells kinds.Deliver h old new (Deliver message about) = IsDelivery h old message about
Tells _ _ _ _ _ = ⊥
