-- the order of requests after each part of an event of the bus
use Rattle.std.proofs.Common.{◌≡◌, ℕ, List, [], ◌∷◌, Option, None, Some, refl}
use Rattle.bus_order.specs.Order.{Request, removed, request_of, tail_of}
use Rattle.bus_order.proofs.Laws.Queues.{line_of_first_of}
use Rattle.bus_order.proofs.Laws.LookUps.{request_of_appended_own, request_of_in_front_of_own}
use Rattle.defer_list.specs.HartSet.{has}
use Rattle.el_base.specs.declared.config.Mode.{Mode}
use Rattle.el_base.specs.declared.config.Mode.TheVariants.{Plain, Sle, Tlr}
use Rattle.el_model.specs.BusEvent.{Nothing, Places, Serves, Start, Takes, as_faced, as_met, order_after, order_at}
use Rattle.el_model.specs.Deliver.{after_probe, deliver_next, delivered, taken}
use Rattle.el_model.specs.Armed.{let_go}
use Rattle.el_model.specs.Face.{faced, met_if}
use Rattle.el_model.specs.Order.{Alone, Behind, InFront, Place, marked_by, marked_from, marking, placed}
use Rattle.el_model.specs.Order.{placed_in_front, placed_last}
use Rattle.el_model.specs.Serve.{served}
use Rattle.el_model.specs.State.{ModelState, head_of, ordered_of, hart_of}
use Rattle.el_model.proofs.Laws.Tests.{by_test}
use Rattle.mail.specs.Mailbox.{Marker, Message, Probe}

marked_order : (mode : Mode) (state : ModelState) (sender h : ℕ) → (marked_from mode state sender h).order ≡ state.order
marked_order Tlr state sender h = refl
marked_order Sle state sender h = refl
marked_order Plain state sender h = refl

marked_by_order : (state : ModelState) (last : Option Request) (h : ℕ) → (marked_by state last h).order ≡ state.order
marked_by_order state None h = refl
marked_by_order state (Some last) h = marked_order state.config.mode state last.hart h

marking_order : (state : ModelState) (h : ℕ) (former : Option Request) → (marking state h former).order ≡ state.order
marking_order state h None = refl
marking_order state h (Some former) = marked_order state.config.mode state h former.hart

pub met_order : (state : ModelState) (head : Option Request) → (met_if state head).order ≡ state.order
unfolding faced let_go
met_order state None = refl
met_order state (Some head) = refl

pub placed_order : (state : ModelState) (request : Request) (place : Place) →
    (placed state request place).order ≡ order_at state request place
unfolding placed faced let_go
placed_order state request InFront =
    marking_order (placed_in_front state request) request.hart (head_of state request.line)
placed_order state request Behind =
    marked_by_order (placed_last state request) (tail_of state.order request.line) request.hart
placed_order state request Alone = refl

pub served_order : (state : ModelState) (request : Request) →
    (served state request).order ≡ removed state.order request.hart
unfolding served
served_order state request = refl

pub message_order : (state : ModelState) (h : ℕ) (message : Message) → (delivered state h message).order ≡ state.order
unfolding delivered
message_order state h (Marker sender) = refl
message_order state h (Probe origin) =
    by_test (λ new. new.order ≡ state.order) (has (hart_of state h).told origin) state
    (after_probe state h origin (ordered_of state origin))
    (λ known. refl) (λ new. refl)

pub mail_order : (state : ModelState) (h : ℕ) (mail : List Message) →
    (deliver_next state h mail).state.order ≡ state.order
mail_order state h [] = refl
mail_order state h (message ∷ others) = message_order (taken state h others) h message

-- as a head is met, and as it is faced
pub order_as_met : (state : ModelState) (by : ℕ) (start : Start) →
    (as_met state by start).order ≡ order_after state start
order_as_met state by Nothing = refl
order_as_met state by (Places request InFront) =
    marking_order (placed_in_front state request) request.hart (head_of state request.line)
order_as_met state by (Places request Behind) =
    marked_by_order (placed_last state request) (tail_of state.order request.line) request.hart
order_as_met state by (Places request Alone) = refl
order_as_met state by (Serves request) = served_order state request
order_as_met state by (Takes message others) = refl

pub order_as_faced : (state : ModelState) (by : ℕ) (start : Start) (head : Request) →
    (as_faced state by start head).order ≡ order_after state start
unfolding let_go
order_as_faced state by start head = order_as_met state by start

-- the head of a line asks for this line
pub head_line : (state : ModelState) (line : ℕ) (request : Request) → head_of state line ≡ Some request →
    request.line ≡ line
head_line state line request is = line_of_first_of state.order line request is

-- a request that is ordered is the one of its hart
pub placed_own : (state : ModelState) (request : Request) (place : Place) → request_of state.order request.hart ≡ None →
    request_of (order_at state request place) request.hart ≡ Some request
placed_own state request InFront none = request_of_in_front_of_own state.order request none
placed_own state request Behind none = request_of_appended_own state.order request none
placed_own state request Alone none = request_of_appended_own state.order request none
