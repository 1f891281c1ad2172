-- what no event of the bus changes: the configuration and how many harts there are; and what is
-- committed, unless it lets a hart go
use Rattle.std.proofs.Common.{◌≡◌, ◌∙◌, ℕ, suc, List, [], ◌∷◌, Option, Some, None, length, refl, ap, sym}
use Rattle.std.proofs.Math.ListN.{length-set}
use Rattle.bus_order.specs.Order.{Request, appended, in_front_of, tail_of}
use Rattle.defer_list.specs.HartSet.{has}
use Rattle.el_base.proofs.Laws.FreedOrder.{no_one_in_order}
use Rattle.el_base.specs.Freed.{order_of}
use Rattle.el_base.specs.declared.config.Mode.{Mode}
use Rattle.el_base.specs.declared.config.Mode.TheVariants.{Plain, Sle, Tlr}
use Rattle.el_model.specs.Armed.{freed_by, let_go}
use Rattle.el_model.specs.Deliver.{after_probe, delivered}
use Rattle.el_model.specs.Face.{faced, met}
use Rattle.el_model.specs.Order.{Alone, Behind, InFront, Place, before_face, freed_at, marked_by, marked_from, marking}
use Rattle.el_model.specs.Order.{placed, placed_in_front, placed_last}
use Rattle.el_model.specs.Serve.{served}
use Rattle.el_model.specs.State.{Hart, ModelState, each_from, each_hart, hart_of, head_of, ordered_of, with_hart}
use Rattle.el_model.proofs.Laws.Tests.{by_test}
use Rattle.mail.specs.Mailbox.{Marker, Message, Probe}
use Rattle.rv_flat.specs.Run.{run}

pub record Keeps (old new : ModelState) : Type 0 where
  pub config : new.config ≡ old.config
  pub committed : new.committed ≡ old.committed
  pub count : length new.harts ≡ length old.harts

-- the same without what is committed
pub record Frame (old new : ModelState) : Type 0 where
  pub config : new.config ≡ old.config
  pub count : length new.harts ≡ length old.harts

pub frame_of : {old new : ModelState} → Keeps old new → Frame old new
frame_of keeps = record { config = keeps.config; count = keeps.count }

pub frame_twice : {first second third : ModelState} → Frame first second → Frame second third → Frame first third
frame_twice one two = record { config = two.config ∙ one.config; count = two.count ∙ one.count }

pub keeps_all : (state : ModelState) → Keeps state state
keeps_all state = record { config = refl; committed = refl; count = refl }

pub keeps_twice : {first second third : ModelState} → Keeps first second → Keeps second third → Keeps first third
keeps_twice one two = record {
  config = two.config ∙ one.config;
  committed = two.committed ∙ one.committed;
  count = two.count ∙ one.count;
}

pub length-each_from : (h : ℕ) (becomes : ℕ → Hart → Hart) (harts : List Hart) →
    length (each_from h becomes harts) ≡ length harts
length-each_from h becomes [] = refl
length-each_from h becomes (hart ∷ harts) = ap suc (length-each_from (suc h) becomes harts)

pub keeps_each_hart : (state : ModelState) (becomes : ℕ → Hart → Hart) → Keeps state (each_hart state becomes)
keeps_each_hart state becomes =
    record { config = refl; committed = refl; count = length-each_from 0 becomes state.harts }

pub keeps_with_hart : (state : ModelState) (h : ℕ) (hart : Hart) → Keeps state (with_hart state h hart)
keeps_with_hart state h hart = record { config = refl; committed = refl; count = length-set state.harts h hart }

pub keeps_reordered : (state : ModelState) (order : List Request) → Keeps state (record state { order = order })
keeps_reordered state order = record { config = refl; committed = refl; count = refl }

pub keeps_marked_from : (mode : Mode) (state : ModelState) (sender h : ℕ) →
    Keeps state (marked_from mode state sender h)
keeps_marked_from Tlr state sender h = keeps_with_hart state h _
keeps_marked_from Sle state sender h = keeps_all state
keeps_marked_from Plain state sender h = keeps_all state

pub keeps_marked_by : (state : ModelState) (last : Option Request) (h : ℕ) → Keeps state (marked_by state last h)
keeps_marked_by state None h = keeps_all state
keeps_marked_by state (Some last) h = keeps_marked_from state.config.mode state last.hart h

pub keeps_marking : (state : ModelState) (h : ℕ) (former : Option Request) → Keeps state (marking state h former)
keeps_marking state h None = keeps_all state
keeps_marking state h (Some former) = keeps_marked_from state.config.mode state h former.hart

pub keeps_faced : (state : ModelState) (head : Request) → Keeps state (faced state head)
unfolding faced
keeps_faced state head = keeps_each_hart state _

pub frame_let_go : (state : ModelState) (head : Request) → Frame state (let_go state head)
unfolding let_go
frame_let_go state head = record { config = refl; count = length-each_from 0 _ state.harts }

pub frame_met : (state : ModelState) (head : Request) → Frame state (met state head)
frame_met state head = frame_twice (frame_let_go state head) (frame_of (keeps_faced _ head))

pub met_commits : (state : ModelState) (head : Request) →
    (met state head).committed ≡ run state.committed (order_of (freed_by state head))
unfolding let_go
met_commits state head = (keeps_faced (let_go state head) head).committed

pub keeps_served : (state : ModelState) (request : Request) → Keeps state (served state request)
unfolding served
keeps_served state request = record { config = refl; committed = refl; count = length-each_from 0 _ state.harts }

pub keeps_placed_last : (state : ModelState) (request : Request) → Keeps state (placed_last state request)
keeps_placed_last state request =
    keeps_twice (keeps_with_hart state request.hart _) (keeps_reordered _ (appended state.order request))

pub keeps_placed_in_front : (state : ModelState) (request : Request) → Keeps state (placed_in_front state request)
keeps_placed_in_front state request =
    keeps_twice (keeps_with_hart state request.hart _) (keeps_reordered _ (in_front_of state.order request))

pub keeps_before_face : (state : ModelState) (request : Request) (place : Place) →
    Keeps state (before_face state request place)
keeps_before_face state request InFront =
    keeps_twice (keeps_placed_in_front state request) (keeps_marking _ request.hart (head_of state request.line))
keeps_before_face state request Behind =
    keeps_twice (keeps_placed_last state request) (keeps_marked_by _ (tail_of state.order request.line) request.hart)
keeps_before_face state request Alone = keeps_placed_last state request

pub frame_placed : (state : ModelState) (request : Request) (place : Place) → Frame state (placed state request place)
unfolding placed
frame_placed state request InFront =
    frame_twice (frame_of (keeps_before_face state request InFront)) (frame_met _ request)
frame_placed state request Behind = frame_of (keeps_before_face state request Behind)
frame_placed state request Alone = frame_twice (frame_of (keeps_before_face state request Alone)) (frame_met _ request)

pub placed_commits : (state : ModelState) (request : Request) (place : Place) →
    (placed state request place).committed ≡ run state.committed (order_of (freed_at state request place))
unfolding placed
placed_commits state request InFront =
    met_commits (before_face state request InFront) request
    ∙ ap (λ committed. run committed (order_of (freed_at state request InFront)))
    (keeps_before_face state request InFront).committed
placed_commits state request Behind =
    (keeps_before_face state request Behind).committed ∙ sym (ap (run state.committed) no_one_in_order)
placed_commits state request Alone =
    met_commits (before_face state request Alone) request
    ∙ ap (λ committed. run committed (order_of (freed_at state request Alone)))
    (keeps_before_face state request Alone).committed

pub keeps_message : (state : ModelState) (h : ℕ) (message : Message) → Keeps state (delivered state h message)
unfolding delivered
keeps_message state h (Marker sender) = keeps_twice (keeps_with_hart state h _) (keeps_with_hart _ sender _)
keeps_message state h (Probe origin) =
    by_test (Keeps state) (has (hart_of state h).told origin) state
    (after_probe state h origin (ordered_of state origin))
    (λ known. keeps_all state) (λ new. keeps_twice (keeps_with_hart state h _) (keeps_each_hart _ _))
