-- the line that the hart of the least open stamp waits for: the hart's request has a less stamp than each other hart's
-- live section, so by the laws of lock removal no section retains the line; and a hart that holds it steps
use Rattle.std.proofs.Common.{◌≡◌, ◌≢◌, ◌∙◌, ◌||◌, if◌then◌else◌, ℕ, Bool, true, false, List, [], ◌∷◌}
use Rattle.std.proofs.Common.{Option, None, Some, is_some, refl, ap, sym}
use Rattle.std.specs.List.{list_any}
use Rattle.bus_order.specs.Order.{Request}
use Rattle.el_base.specs.declared.events.Event.{Event}
use Rattle.el_base.specs.declared.events.Kind.TheVariants as kinds
use Rattle.el_base.proofs.Laws.Cases.{false_true, true_false}
use Rattle.el_model.specs.Deed.{Arms, Begins, Buffers, Commits, Continues, Elides, LetsGo, Misses, Rests, RollsBack}
use Rattle.el_model.specs.Deed.{Runs, Waits}
use Rattle.el_model.specs.Deed.{Deed, DoesWhere, done, hart_after}
use Rattle.el_model.specs.Next.{after, kind_turn, next}
use Rattle.el_model.specs.Plain.{acquire_pc, after_candidate, candidate_of}
use Rattle.el_model.specs.State.{Hart, ModelState, has_request, hart_of, head_of, is_live, ordered_of}
use Rattle.el_model.specs.Upcoming.{Swap}
use Rattle.el_model.proofs.Laws.Deeds.{step_deed}
use Rattle.el_model.proofs.Laws.Harts.{hart_of-with_hart_same}
use Rattle.mail.specs.Mailbox.{Marker, Message, Probe, has_message, same_message}
use Rattle.mail.proofs.Laws.OnceEach.{same_is_one}
use Rattle.progress_laws.proofs.Laws.GettingOn.{Orderly, always_orderly, deed_gets_on, held_runs, holds_only}
use Rattle.progress_laws.specs.LeastStamp.{EndsHold, LeastWaits, LineOfLeastStampMovesOn, is_about}
use Rattle.progress_laws.specs.Ready.{is_progress}
use Rattle.removal_laws.specs.Facts.{Everywhere, Facts}
use Rattle.removal_laws.specs.Laws.{IsDelivered, WaitsWithLeast, attempt_of}
use Rattle.removal_laws.proofs.Laws.Climbing.{least_stamp_is_not_retained}
use Rattle.removal_laws.proofs.Laws.Delivering.{own_line}
use Rattle.removal_laws.proofs.Laws.Promises.{head_is_served}
use Rattle.removal_laws.proofs.Laws.Throughout.{facts_hold_throughout}
use Rattle.rv_alu.specs.declared.view.HartStatus.TheVariants.{Running}
use Rattle.rv_flat.specs.FlatState.{status_of}
use Rattle.section_laws.proofs.Laws.FreeLines.{has_head}
use Rattle.section_laws.proofs.Laws.Lengths.{runs_exists}
use Rattle.stamp.specs.Stamps.{is_before}

-- a message that a test takes is not in a box of which the test takes none
not_in_box : (test : Message → Bool) (box : List Message) (message : Message) → list_any test box ≡ false →
    test message ≡ true → has_message box message ≡ false
not_in_box test [] message none takes = refl
not_in_box test (first ∷ others) message none takes =
    by (test first) refl none (same_message first message) refl (λ rest. not_in_box test others message rest takes)
  where
    by : (taken : Bool) → test first ≡ taken → (taken || list_any test others) ≡ false → (same : Bool) →
        same_message first message ≡ same → (list_any test others ≡ false → has_message others message ≡ false) →
        (if same then true else has_message others message) ≡ false
    by true is wrong same there further = true_false wrong
    by false is rest true same further = true_false (sym takes ∙ ap test (sym (same_is_one first message same)) ∙ is)
    by false is rest false apart further = further rest

module _ (state : ModelState) (h line : ℕ) (facts : Facts Everywhere state) (least : LeastWaits state h line) where
  ordered : (ordered_of state h ≡ Some least.request) × (least.request.line ≡ line)
  ordered = own_line line (ordered_of state h) least.request least.waits

  -- a request has the stamp of its hart's open attempt
  stamp_is : least.request.stamp ≡ Some least.stamp
  stamp_is = facts.stamped.ordered h least.request ordered.0 ∙ least.least.attempt

  -- and a live section has an open one
  before_others : (g : ℕ) → g ≢ h → is_live state g ≡ true → is_before least.request.stamp (attempt_of state g) ≡ true
  before_others g apart live = by (attempt_of state g) refl (facts.stamped.opened g live)
    where
      by : (attempt : Option _) → attempt_of state g ≡ attempt → is_some attempt ≡ true →
          is_before least.request.stamp attempt ≡ true
      by None is open_one = false_true open_one
      by (Some other) is open_one =
          ap (λ stamp. is_before stamp (Some other)) stamp_is ∙ least.least.least g other apart is

  waits_with_least : WaitsWithLeast state h line least.request
  waits_with_least = record { waits = least.waits; least = before_others }

  is_delivered : IsDelivered state line
  is_delivered = record {
    no_marker = λ g sender request on.
        not_in_box (is_about state line g) (hart_of state g).mail (Marker sender) (least.delivered g) (ap is_some on);
    no_probe = λ g origin request on.
        not_in_box (is_about state line g) (hart_of state g).mail (Probe origin) (least.delivered g) (ap is_some on);
  }

  first_request : (head : Request) × (head_of state line ≡ Some head)
  first_request = by (head_of state line) refl
    where
      by : (head : Option Request) → head_of state line ≡ head → (found : Request) × (head_of state line ≡ Some found)
      by (Some head) is = (head, is)
      by None none = absurd (has_head state.order h least.request ordered.0 (ap (head_of state) ordered.1 ∙ none))

-- each deed of a hart that steps ends its hold
ran_held : (pc : Option ℕ) (watched : Bool) (candidate : Option Swap) (hart : Hart) →
    (after_candidate pc watched candidate hart).held_line ≡ hart.held_line
ran_held pc watched None hart = refl
ran_held pc watched (Some swap) hart = refl

deed_ends_hold : (state : ModelState) (h : ℕ) (deed : Deed) → DoesWhere state h deed →
    status_of state.committed h ≡ Running → has_request state h ≡ false →
    (hart_after state h deed (hart_of state h)).held_line ≡ None
deed_ends_hold state h Rests rests running free = absurd (rests running)
deed_ends_hold state h Waits waits running free = true_false (sym waits.waits ∙ free)
deed_ends_hold state h (Misses line need) does running free = refl
deed_ends_hold state h (Runs touch) does running free =
    ran_held (acquire_pc state h) (is_some (hart_of state h).predictor.watch) (candidate_of state h) _
deed_ends_hold state h (Begins swap) does running free = refl
deed_ends_hold state h (Buffers section touch) does running free = refl
deed_ends_hold state h (Commits section) does running free = refl
deed_ends_hold state h (RollsBack section cause) does running free = refl
deed_ends_hold state h (Arms word) does running free = refl
deed_ends_hold state h (Elides armed swap) does running free = refl
deed_ends_hold state h (Continues armed) does running free = refl
deed_ends_hold state h (LetsGo armed) does running free = refl

step_ends_hold : (state : ModelState) (line : ℕ) → Orderly state → (step : Event) → step.kind ≡ kinds.Step →
    (hart_of state step.hart.number).held_line ≡ Some line → EndsHold state step
unfolding next
step_ends_hold state line orderly step kind held =
    let h = step.hart.number in
    let deed = step_deed state h in
    let turn_is : kind_turn state h step.kind ≡ done state h deed.deed = ap (kind_turn state h) kind ∙ deed.turn_is in
    let running = held_runs state h line orderly.sound held in
    let free = holds_only state h line orderly.sound held in
    record {
      progress =
          ap (λ turn. is_progress turn.outcome) turn_is ∙ deed_gets_on state h deed.deed deed.where_it running free;
      ended =
          ap (λ turn. (hart_of turn.state h).held_line) turn_is
          ∙ ap (λ hart. hart.held_line)
          (hart_of-with_hart_same state h (hart_after state h deed.deed (hart_of state h))
          (runs_exists state h orderly.as_many running))
          ∙ deed_ends_hold state h deed.deed deed.where_it running free;
    }

pub line_of_least_stamp_moves_on : LineOfLeastStampMovesOn
line_of_least_stamp_moves_on program config events h line mode least =
    let state = after program config events in
    let facts = facts_hold_throughout program config events mode in
    let waits = waits_with_least state h line facts least in
    let delivered = is_delivered state h line facts least in
    let found = first_request state h line facts least in
    record {
      not_retained = λ g. least_stamp_is_not_retained program config events h g line least.request mode waits delivered;
      head = found.0;
      is_head = found.1;
      served = λ serve kind own.
          head_is_served program config events serve h line least.request found.0 mode waits delivered found.1 kind own;
      hold_ends = step_ends_hold state line (always_orderly program config events);
    }
