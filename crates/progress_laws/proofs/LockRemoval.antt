-- in lock removal, where every hart that runs waits and no message is under way, no section
-- retains the line of the least stamp
use Rattle.std.proofs.Common.{◌≡◌, ◌≢◌, ◌∙◌, ◌≤◌, ◌↔◌, ℕ, Bool, true, false, List, [], ◌∷◌}
use Rattle.std.proofs.Common.{Option, None, Some, is_some, length, refl, ap, sym, inl, inr, ◌⊎◌, if◌then◌else◌}
use Rattle.std.proofs.lemmas.Bool.{false_from_ne_true}
use Rattle.bus_order.specs.Order.{Request}
use Rattle.el_model.specs.Conflicts.{conflicts_with, retains, stamp_in}
use Rattle.el_model.specs.Next.{is_over}
use Rattle.el_model.specs.State.{ModelState, for_line, hart_of, head_of, is_live, ordered_of, ordered_on}
use Rattle.mail.specs.Mailbox.{Marker, Message, Probe, has_message}
use Rattle.progress_laws.proofs.AllWait.{OnlyWaits, gets_on_or_waits}
use Rattle.progress_laws.proofs.Laws.GettingOn.{GetsOn, Orderly, line_gets_on, ordered_runs}
use Rattle.progress_laws.proofs.LeastStamp.{Least, NoStamp, least_below}
use Rattle.progress_laws.proofs.Laws.Over.{not_stuck, over_stopped}
use Rattle.progress_laws.specs.Ready.{ready_event}
use Rattle.removal_laws.specs.Facts.{Everywhere, Facts, IsWaiting}
use Rattle.removal_laws.specs.Laws.{IsDelivered, WaitsWithLeast, attempt_of}
use Rattle.section_laws.proofs.Laws.Bits.{meets}
use Rattle.section_laws.proofs.Laws.Waiting.{live_runs}
use Rattle.removal_laws.proofs.Laws.Climbing.{not_retained}
use Rattle.rv_alu.specs.declared.view.HartStatus.TheVariants.{Running}
use Rattle.rv_flat.specs.FlatState.{status_of}
use Rattle.stamp.specs.Stamps.{Stamp, is_before, less_of}
use Rattle.stamp.proofs.Laws.StampOrder.{less_strict}
use Rattle.el_base.proofs.Laws.Cases.{false_true, none_some}
use Rattle.el_base.proofs.Laws.Tests.{own_test}

abbrev NoMail : ModelState → Type 0
NoMail state = (h : ℕ) → (hart_of state h).mail ≡ []

-- the stamp with which a hart waits
abbrev waiting_stamp : ModelState → ℕ → Option Stamp
waiting_stamp state h = stamp_in (ordered_of state h)

record WaitsWithStamp (state : ModelState) (h : ℕ) : Type 0 where
  request : Request
  ordered : ordered_of state h ≡ Some request
  stamp : Stamp
  attempt : attempt_of state h ≡ Some stamp
  stamp_is : request.stamp ≡ Some stamp

on_its_line : (state : ModelState) (h : ℕ) (request : Request) → ordered_of state h ≡ Some request →
    ordered_on state h request.line ≡ Some request
on_its_line state h request is =
    ap (for_line request.line) is ∙ ap (λ test. if test then Some request else None) (own_test request.line)

-- a section that retains a line is live
retainer_live : (state : ModelState) (g line : ℕ) → retains state g line ≡ true → is_live state g ≡ true
retainer_live state g line = by (head_of state line)
  where
    by : (head : Option Request) → conflicts_with head g (hart_of state g) ≡ true → is_live state g ≡ true
    by None retained = false_true retained
    by (Some head) retained = (meets head g (hart_of state g) retained).live

module _ (state : ModelState) (facts : Facts Everywhere state) (orderly : Orderly state)
    (waits : (h : ℕ) → OnlyWaits state h) where
  -- a hart with a live section runs, so it waits, with the stamp of its attempt
  with_stamp : (g : ℕ) (attempt : Option Stamp) → attempt_of state g ≡ attempt → is_some attempt ≡ true →
      (request : Request) → ordered_of state g ≡ Some request → WaitsWithStamp state g
  with_stamp g None is some request ordered = false_true some
  with_stamp g (Some stamp) is some request ordered = record {
    request = request;
    ordered = ordered;
    stamp = stamp;
    attempt = is;
    stamp_is = facts.stamped.ordered g request ordered ∙ is;
  }

  live_waits : (g : ℕ) → is_live state g ≡ true → WaitsWithStamp state g
  live_waits g live =
      let found = (waits g).waits (live_runs state g orderly.sound live) in
      with_stamp g (attempt_of state g) refl (facts.stamped.opened g live) found.0 found.1

  delivered : (line : ℕ) → IsDelivered state line
  delivered line = record {
    no_marker = λ h sender request on. ap (λ mail. has_message mail (Marker sender)) (waits h).mail;
    no_probe = λ h origin request on. ap (λ mail. has_message mail (Probe origin)) (waits h).mail;
  }

  -- a stamp that none is before is before that of each other hart
  before_others : (h g : ℕ) (request : Request) (value stamp : Stamp) → ordered_of state h ≡ Some request →
      request.stamp ≡ Some value → attempt_of state g ≡ Some stamp → g ≢ h → less_of stamp value ≡ false →
      less_of value stamp ≡ true
  before_others h g request value stamp ordered stamped attempt apart later = by (less_of value stamp) refl
    where
      mine : value.hart ≡ h
      mine = facts.stamped.own h value (sym (facts.stamped.ordered h request ordered) ∙ stamped)

      by : (before : Bool) → less_of value stamp ≡ before → before ≡ true
      by true is = refl
      by false is =
          let same = less_strict.total value stamp is later in
          absurd (apart (sym (facts.stamped.own g stamp attempt) ∙ sym (ap (λ s. s.hart) same) ∙ mine))

  waits_with_least : (h : ℕ) (request : Request) (value : Stamp) → ordered_of state h ≡ Some request →
      request.stamp ≡ Some value →
      ((g : ℕ) (other : Request) → ordered_of state g ≡ Some other → is_before other.stamp (Some value) ≡ false) →
      WaitsWithLeast state h request.line request
  waits_with_least h request value ordered stamped least = record {
    waits = on_its_line state h request ordered;
    least = λ g apart live.
        let waiting = live_waits g live in
        ap (λ s. is_before s (attempt_of state g)) stamped
        ∙ ap (is_before (Some value)) waiting.attempt
        ∙ before_others h g request value waiting.stamp ordered stamped waiting.attempt apart
        (sym (ap (λ s. is_before s (Some value)) waiting.stamp_is) ∙ least g waiting.request waiting.ordered);
  }

  -- so where some hart waits with a stamp, the line of the least of all is not retained
  least_gets_on : Least (waiting_stamp state) (length state.harts) → GetsOn state
  least_gets_on least = by (ordered_of state least.number) refl
    where
      by : (ordered : Option Request) → ordered_of state least.number ≡ ordered → GetsOn state
      by None is = none_some (sym (ap stamp_in is) ∙ least.is)
      by (Some request) is =
          line_gets_on state least.number request orderly is
          (not_retained state least.number request.line request orderly.once facts
          (waits_with_least least.number request least.value is (sym (ap stamp_in is) ∙ least.is)
          (λ k other ordered.
          sym (ap (λ found. is_before (stamp_in found) (Some least.value)) ordered)
          ∙ least.least k (facts.exists k other ordered)))
          (delivered request.line))

  -- where none does, there is no section
  none_live : NoStamp (waiting_stamp state) (length state.harts) → (g : ℕ) → is_live state g ≡ true → ⊥
  none_live none g live =
      let waiting = live_waits g live in
      none_some (sym (none g (facts.exists g waiting.request waiting.ordered)) ∙ ap stamp_in waiting.ordered
      ∙ waiting.stamp_is)

  none_gets_on : NoStamp (waiting_stamp state) (length state.harts) → (h : ℕ) →
      status_of state.committed h ≡ Running → GetsOn state
  none_gets_on none h running =
      let found = (waits h).waits running in
      line_gets_on state h found.0 orderly found.1
      (λ g. false_from_ne_true (retains state g found.0.line)
      (λ retained. none_live none g (retainer_live state g found.0.line retained)))

pub removal_gets_on : (state : ModelState) → Facts Everywhere state → Orderly state → (h : ℕ) →
    status_of state.committed h ≡ Running → GetsOn state
removal_gets_on state facts orderly h running = by (gets_on_or_waits state orderly)
  where
    by_stamp : (waits : (k : ℕ) → OnlyWaits state k) →
        NoStamp (waiting_stamp state) (length state.harts) ⊎ Least (waiting_stamp state) (length state.harts) →
        GetsOn state
    by_stamp waits (inl none) = none_gets_on state facts orderly waits none h running
    by_stamp waits (inr least) = least_gets_on state facts orderly waits least

    by : GetsOn state ⊎ ((k : ℕ) → OnlyWaits state k) → GetsOn state
    by (inl on) = on
    by (inr waits) = by_stamp waits (least_below (waiting_stamp state) (length state.harts))

-- where all harts have stopped no message is left: the addressee of a marker and the origin
-- of a probe have ordered requests
marker_there : (before : ℕ) (others : List Message) → has_message (Marker before ∷ others) (Marker before) ≡ true
marker_there before others = rw (own_test before) refl

probe_there : (origin : ℕ) (others : List Message) → has_message (Probe origin ∷ others) (Probe origin) ≡ true
probe_there origin others = rw (own_test origin) refl

waiting_runs : (state : ModelState) (h : ℕ) → Orderly state → IsWaiting state h → status_of state.committed h ≡ Running
waiting_runs state h orderly waits = by (ordered_of state h) refl waits
  where
    by : (ordered : Option Request) → ordered_of state h ≡ ordered → is_some ordered ≡ true →
        status_of state.committed h ≡ Running
    by None is some = false_true some
    by (Some request) is some = ordered_runs state h request orderly.sound is

pub no_mail_where_over : (state : ModelState) → Facts Everywhere state → Orderly state →
    is_over state ≡ true → NoMail state
no_mail_where_over state facts orderly over h = by (hart_of state h).mail refl
  where
    never : (g : ℕ) → IsWaiting state g → (hart_of state h).mail ≡ []
    never g waits = absurd (over_stopped state g over (waiting_runs state g orderly waits))

    by : (mail : List Message) → (hart_of state h).mail ≡ mail → (hart_of state h).mail ≡ []
    by [] is = is
    by (Marker before ∷ others) is =
        never h
        (facts.messages.before h before
        (inl (ap (λ mail. has_message mail (Marker before)) is ∙ marker_there before others))).waits
    by (Probe origin ∷ others) is =
        never origin
        (facts.messages.known h origin
        (inl (ap (λ mail. has_message mail (Probe origin)) is ∙ probe_there origin others))).waits

pub removal_not_stuck : (state : ModelState) → Facts Everywhere state → Orderly state → length state.harts ≤ 8 →
    (ready_event state ≡ None) ↔ (is_over state ≡ true)
removal_not_stuck state facts orderly few =
    not_stuck state orderly few (removal_gets_on state facts orderly) (no_mail_where_over state facts orderly)
