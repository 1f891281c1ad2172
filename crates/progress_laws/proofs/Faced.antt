-- without stamps a request that is faced as the head of its line meets no section after it: each that met it has lost
use Rattle.std.proofs.Common.{◌≡◌, ◌∙◌, ℕ, Bool, true, false, ◌&&◌, ◌==◌, not}
use Rattle.std.proofs.Common.{Option, None, Some, is_some, length, refl, ap, sym, inl, inr, ◌⊎◌, if◌then◌else◌}
use Rattle.std.specs.Prelude.{nat_lt}
use Rattle.std.proofs.lemmas.Bool.{ltb-true, ltb-false}
use Rattle.bus_order.specs.Order.{IsOneEach, Request, first_of}
use Rattle.bus_order.proofs.Laws.Queues.{first_of_removed_other, hart_of_request_of}
use Rattle.std.proofs.lemmas.Bool.{cases_eq}
use Rattle.el_base.specs.declared.config.Mode.{Mode}
use Rattle.el_base.specs.declared.config.Mode.TheVariants.{Plain, Sle, Tlr}
use Rattle.el_base.proofs.Laws.Cases.{false_true}
use Rattle.el_base.proofs.Laws.Tests.{false_between, number_of_test, own_test}
use Rattle.el_model.specs.BusEvent.{IsBusEvent, Nothing, Places, Serves, Start, StartsWhere, Takes, as_faced}
use Rattle.el_model.specs.BusEvent.{faced_head, having_taken, order_after}
use Rattle.el_model.specs.BusEvent.{started}
use Rattle.el_model.specs.Conflicts.{conflicts, conflicts_with, meets_bit, retains, wins_over}
use Rattle.el_model.specs.Face.{LosesTo, Unmet, after_fate, deferring_fate, faced, faced_hart, fate_of, markers_for}
use Rattle.el_model.specs.Face.{winning_stamp}
use Rattle.el_model.specs.Losses.{standing_of}
use Rattle.el_model.specs.Order.{Place}
use Rattle.el_model.specs.Quiet.{has_stamps}
use Rattle.el_model.specs.Serve.{bystander, served_hart}
use Rattle.el_model.specs.State.{Hart, ModelState, Turn, hart_of, head_of, new_hart, ordered_of, post_all}
use Rattle.el_model.proofs.Laws.BusEvents.{frame_as_faced}
use Rattle.el_model.proofs.Laws.Harts.{hart_of-each_hart, hart_of-each_hart_past}
use Rattle.el_model.proofs.Laws.Losing.{beaten_stands, lost_section}
use Rattle.el_model.proofs.Laws.Orders.{head_line, served_order}
use Rattle.el_model.proofs.Laws.Tests.{by_hart, by_test}
use Rattle.section_laws.proofs.Laws.Fewer.{bystander_fewer, fewer_moves, fewer_unmet, served_fewer}
use Rattle.section_laws.proofs.Laws.Bits.{Fewer, fewer_same}
use Rattle.policy.specs.Winners.{wins_of}
use Rattle.section_laws.proofs.Laws.Moves.{moved, taken_keeps}
use Rattle.section_laws.proofs.Laws.Placed.{StaysOrIsFaced, placed_first}
use Rattle.stamp.specs.Stamps.{Stamp}

-- without stamps each request wins
each_wins : (mode : Mode) (request section : Option Stamp) → has_stamps mode ≡ false →
    wins_of mode request section ≡ true
each_wins Tlr request section stampless = false_true (sym stampless)
each_wins Sle request section stampless = refl
each_wins Plain request section stampless = refl

-- a hart without a section meets nothing
pub dead_unmet : (head : Request) (h : ℕ) (hart : Hart) → hart.section ≡ None → conflicts head h hart ≡ false
dead_unmet head h hart dead =
    ap (λ section. (not (head.hart == h) && is_some section) && meets_bit hart head.line head.need) dead
    ∙ false_between (not (head.hart == h)) (meets_bit hart head.line head.need)

own_unmet : (head : Request) (h : ℕ) (hart : Hart) → (h == head.hart) ≡ true → conflicts head h hart ≡ false
own_unmet head h hart is =
    ap (λ k. conflicts head k hart) (number_of_test h head.hart is)
    ∙ ap (λ own. (not own && is_some hart.section) && meets_bit hart head.line head.need) (own_test head.hart)

fate_unmet : (state : ModelState) (head : Request) (h : ℕ) (hart : Hart) → has_stamps state.config.mode ≡ false →
    (meets : Bool) → conflicts head h hart ≡ meets → (wins : Bool) → wins ≡ true → conflicts head h
    (after_fate state head
    (if meets then (if wins then LosesTo head.hart else deferring_fate state.config.mode state head hart) else Unmet)
    hart) ≡ false
fate_unmet state head h hart stampless false is wins all = is
fate_unmet state head h hart stampless true is true all =
    dead_unmet head h (after_fate state head (LosesTo head.hart) hart)
    (ap (λ standing. standing.section) (beaten_stands state.config.mode (winning_stamp state head.line head.hart) hart)
    ∙ lost_section state.config.mode (standing_of hart))
fate_unmet state head h hart stampless true is false all = false_true all

faced_hart_unmet : (state : ModelState) (head : Request) (h : ℕ) (hart : Hart) → has_stamps state.config.mode ≡ false →
    conflicts head h (faced_hart state head h hart) ≡ false
faced_hart_unmet state head h hart stampless =
    by_test (λ new. conflicts head h new ≡ false) (h == head.hart)
    (post_all hart (markers_for state.config.mode state head))
    (after_fate state head (fate_of state head h hart) hart)
    (λ own. own_unmet head h (post_all hart (markers_for state.config.mode state head)) own)
    (λ other.
    fate_unmet state head h hart stampless (conflicts head h hart) refl (wins_over state.config.mode head.stamp hart)
    (each_wins state.config.mode head.stamp hart.attempt stampless))

faced_unmet_by : (state : ModelState) (head : Request) (h : ℕ) → has_stamps state.config.mode ≡ false → (below : Bool) →
    nat_lt h (length state.harts) ≡ below → conflicts head h (hart_of (faced state head) h) ≡ false
unfolding faced
faced_unmet_by state head h stampless true is =
    rw (hart_of-each_hart state (faced_hart state head) h (ltb-true h (length state.harts) is))
    (faced_hart_unmet state head h (hart_of state h) stampless)
faced_unmet_by state head h stampless false is =
    rw (hart_of-each_hart_past state (faced_hart state head) h (ltb-false h (length state.harts) is))
    (dead_unmet head h (new_hart 0) refl)

pub faced_unmet : (state : ModelState) (head : Request) (h : ℕ) → has_stamps state.config.mode ≡ false →
    conflicts head h (hart_of (faced state head) h) ≡ false
faced_unmet state head h stampless = faced_unmet_by state head h stampless (nat_lt h (length state.harts)) refl

-- no section retains a line
abbrev pub NoneRetains : ModelState → Type 0
NoneRetains state = (h line : ℕ) → retains state h line ≡ false

-- a head that stays meets no more sections where each has no bit more
same_head : (state new : ModelState) (h line : ℕ) → Fewer line (hart_of state h) (hart_of new h) →
    head_of new line ≡ head_of state line → retains state h line ≡ false → retains new h line ≡ false
same_head state new h line fewer same unmet =
    ap (λ head. conflicts_with head h (hart_of new h)) same
    ∙ fewer_unmet (head_of state line) h line (hart_of state h) (hart_of new h) (head_line state line) fewer unmet

-- after a start a line has its head as before, and each section no bit more there, or the head that is faced
record HeadStays (state : ModelState) (by : ℕ) (start : Start) (line : ℕ) : Type 0 where
  same : first_of (order_after state start) line ≡ head_of state line
  fewer : (h : ℕ) → Fewer line (hart_of state h) (started state by start h (hart_of state h))

abbrev HeadAfter : ModelState → ℕ → Start → ℕ → Type 0
HeadAfter state by start line =
    HeadStays state by start line ⊎ (first_of (order_after state start) line ≡ faced_head state start)

as_before : (state : ModelState) (line h : ℕ) → Fewer line (hart_of state h) (hart_of state h)
as_before state line h = fewer_same line (hart_of state h) (hart_of state h) refl refl

placed_fewer : (state : ModelState) (by : ℕ) (request : Request) (place : Place) (line h : ℕ) →
    Fewer line (hart_of state h) (started state by (Places request place) h (hart_of state h))
placed_fewer state by request place line h =
    by_hart (Fewer line (hart_of state h)) h request.hart (record (hart_of state h) { raised = None }) (hart_of state h)
    (λ own. fewer_same line (hart_of state h) _ refl refl) (λ other. as_before state line h)

head_after : (state : ModelState) (by : ℕ) (start : Start) → StartsWhere state by start → IsOneEach state.order →
    (line : ℕ) →
    HeadAfter state by start line
head_after state by Nothing where_it once line = inl (record { same = refl; fewer = as_before state line })
head_after state by (Places request place) may once line =
    either (placed_first state request place line may.place_is)
  where
    either : StaysOrIsFaced state request place line → HeadAfter state by (Places request place) line
    either (inl same) = inl (record { same = same; fewer = placed_fewer state by request place line })
    either (inr own) = inr own
head_after state by (Serves request) may once line = by_line (cases_eq line request.line)
  where
    mine : ordered_of state request.hart ≡ Some request
    mine = ap (ordered_of state) (hart_of_request_of state.order by request may.ordered) ∙ may.ordered

    by_line : (line ≡ request.line) ⊎ (line ≡ request.line → ⊥) → HeadAfter state by (Serves request) line
    by_line (inl same) = inr (rw same (sym (ap (λ order. first_of order request.line) (served_order state request))))
    by_line (inr other) =
        inl (record {
          same = first_of_removed_other state.order request.hart line request once mine (λ same. other (sym same));
          fewer = λ h.
              by_hart (Fewer line (hart_of state h)) h request.hart (served_hart state request (hart_of state h))
              (bystander state request (hart_of state h))
              (λ own. served_fewer state request (hart_of state h) line other)
              (λ apart. bystander_fewer state request (hart_of state h) line);
        })
head_after state by (Takes message others) where_it once line =
    inl (record {
      same = refl;
      fewer = λ h.
          by_hart (Fewer line (hart_of state h)) h by (having_taken message others (hart_of state h)) (hart_of state h)
          (λ own. taken_keeps (fewer_moves line (hart_of state)) message others h (hart_of state h)
          (as_before state line h))
          (λ other. as_before state line h);
    })

pub bus_unretained : {state : ModelState} {by : ℕ} {turn : Turn} → IsBusEvent state by turn →
    has_stamps state.config.mode ≡ false →
    IsOneEach state.order → NoneRetains state → NoneRetains turn.state
bus_unretained {state} {by} {turn} done stampless once none h line =
    by_head (head_after state by done.start done.where_it once line)
  where
    new_head : head_of turn.state line ≡ first_of (order_after state done.start) line
    new_head = ap (λ order. first_of order line) done.order

    met : (found : Option Request) → faced_head state done.start ≡ found →
        conflicts_with found h (hart_of turn.state h) ≡ false
    met None is = refl
    met (Some head) is =
        ap (λ new. conflicts head h (hart_of new h)) (done.faces head is)
        ∙ faced_unmet (as_faced state by done.start head) head h
        (ap (λ config. has_stamps config.mode) (frame_as_faced state by done.start head).config ∙ stampless)

    by_head : HeadAfter state by done.start line → retains turn.state h line ≡ false
    by_head (inl stays) =
        same_head state turn.state h line
        (moved (fewer_moves line (hart_of state)) state by done.start h (λ past. as_before state line h)
        (λ below. stays.fewer h) (done.becomes h))
        (new_head ∙ stays.same) (none h line)
    by_head (inr faced) =
        ap (λ head. conflicts_with head h (hart_of turn.state h)) (new_head ∙ faced)
        ∙ met (faced_head state done.start) refl
