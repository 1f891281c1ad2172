-- attempts: a stamp has the number of its hart and the hart's clock, and a hart with a live section has one open
use Rattle.std.proofs.Common.{◌≡◌, ◌∙◌, ℕ, Bool, true, false, List, Option, None, Some, is_some, refl, ap, sym}
use Rattle.bus_order.specs.Order.{Request}
use Rattle.el_base.specs.declared.config.Config.{Config}
use Rattle.el_base.specs.declared.config.Mode.{Mode}
use Rattle.el_base.specs.declared.config.Mode.TheVariants.{Plain, Sle, Tlr}
use Rattle.el_base.specs.declared.events.Event.{Event}
use Rattle.el_base.proofs.Laws.Cases.{clash, false_true, none_some}
use Rattle.elf_image.specs.Program.{Program}
use Rattle.el_model.specs.Attempts.{opened}
use Rattle.el_model.specs.Deed.{Arms, Begins, Buffers, Commits, Continues, Deed, DoesWhere, Elides, LetsGo, Misses}
use Rattle.el_model.specs.Deed.{Rests, RollsBack, Runs, Waits, hart_after}
use Rattle.el_model.specs.Next.{after, next}
use Rattle.el_model.specs.Plain.{after_candidate, candidate_of}
use Rattle.el_model.specs.Serve.{with_claim}
use Rattle.el_model.specs.State.{Hart, ModelState, Section, begin, hart_of}
use Rattle.el_model.specs.Upcoming.{Swap}
use Rattle.el_model.proofs.Laws.FromStart.{begin_config, first_outside, kept_after, next_config}
use Rattle.removal_laws.specs.Laws.{AttemptsAreCurrent, StampsAreDistinct}
use Rattle.el_model.proofs.Laws.EachHart.{Each}
use Rattle.section_laws.proofs.Laws.EachKept.{BusKept, event_keeps}
use Rattle.section_laws.proofs.Laws.Moves.{moves_by_ends}
use Rattle.section_laws.proofs.Laws.NewHarts.{each_new}
use Rattle.stamp.specs.Stamps.{Stamp}

-- an attempt of this hart with this clock
pub record IsOwn (h clock : ℕ) (stamp : Stamp) : Type 0 where
  pub hart : stamp.hart ≡ h
  pub clock_is : stamp.clock ≡ clock

abbrev pub Own : ℕ → Hart → Type 0
Own h hart = (stamp : Stamp) → hart.attempt ≡ Some stamp → IsOwn h hart.clock stamp

-- an event of the bus keeps what is said of a hart's section, clock and attempt, unless the section is lost
pub record Attempting (P : ℕ → Option Section → ℕ → Option Stamp → Type 0) : Type 0 where
  pub lost : (h : ℕ) (section : Option Section) (clock : ℕ) (attempt : Option Stamp) → P h section clock attempt →
      P h None clock attempt

module _ (P : ℕ → Option Section → ℕ → Option Stamp → Type 0) (keeps : Attempting P) where
  claim_keeps : (h : ℕ) (live : Bool) (request : Request) (hart : Hart) → P h hart.section hart.clock hart.attempt →
      P h (with_claim live request hart).section (with_claim live request hart).clock
      (with_claim live request hart).attempt
  claim_keeps h true request hart now = now
  claim_keeps h false request hart now = now

  pub attempts_kept : BusKept (λ h hart. P h hart.section hart.clock hart.attempt)
  attempts_kept = record {
    moves = moves_by_ends (λ h hart other now. now)
        (λ h hart now. keeps.lost h hart.section hart.clock hart.attempt now)
        (λ h pc hart now. now);
    unraised = λ h hart now. now;
    served = λ h state request hart now. claim_keeps h (is_some hart.section) request _ now;
    bystander = λ h state request hart now. now;
  }

-- a candidate that ran changes none of them
pub candidate_keeps : (P : Option Section → ℕ → ℕ → Option Stamp → Type 0) (pc : Option ℕ) (had_watch :
    Bool) (candidate : Option Swap) (hart : Hart) →
    P hart.section hart.clock hart.seen hart.attempt →
    P (after_candidate pc had_watch candidate hart).section (after_candidate pc had_watch candidate hart).clock
    (after_candidate pc had_watch candidate hart).seen (after_candidate pc had_watch candidate hart).attempt
candidate_keeps P pc had_watch None hart now = now
candidate_keeps P pc had_watch (Some swap) hart now = now

own_bus : BusKept Own
own_bus =
    attempts_kept (λ h section clock attempt. (stamp : Stamp) → attempt ≡ Some stamp → IsOwn h clock stamp)
    (record { lost = λ h section clock attempt now. now })

own_opened : (mode : Mode) (h clock : ℕ) (attempt : Option Stamp) →
    ((stamp : Stamp) → attempt ≡ Some stamp → IsOwn h clock stamp) → (stamp : Stamp) →
    opened mode h clock attempt ≡ Some stamp → IsOwn h clock stamp
own_opened Tlr h clock None own stamp is =
    let same : stamp ≡ record { clock = clock; hart = h } = cc in
    rw same (record { hart = refl; clock_is = refl })
own_opened Tlr h clock (Some stamped) own stamp is = own stamp is
own_opened Sle h clock attempt own stamp is = own stamp is
own_opened Plain h clock attempt own stamp is = own stamp is

own_deed : (state : ModelState) (h : ℕ) (deed : Deed) (hart : Hart) → Own h hart → Own h (hart_after state h deed hart)
own_deed state h Rests hart own = own
own_deed state h Waits hart own = own
own_deed state h (Misses line need) hart own = own
own_deed state h (Runs touch) hart own =
    candidate_keeps (λ section clock seen attempt. (stamp : Stamp) → attempt ≡ Some stamp → IsOwn h clock stamp) _ _
    (candidate_of state h) _ own
own_deed state h (Begins swap) hart own = own_opened state.config.mode h hart.clock hart.attempt own
own_deed state h (Buffers section touch) hart own = own
own_deed state h (Commits section) hart own = λ stamp is. none_some is
own_deed state h (RollsBack section cause) hart own = λ stamp is. none_some is
own_deed state h (Arms word) hart own = own
own_deed state h (Elides armed swap) hart own = own_opened state.config.mode h hart.clock hart.attempt own
own_deed state h (Continues armed) hart own = own
own_deed state h (LetsGo armed) hart own = own

pub next_own : (state : ModelState) (event : Event) → Each Own state → Each Own (next state event).state
next_own state event own =
    event_keeps own_bus state event
    (λ deed does. own_deed state event.hart.number deed (hart_of state event.hart.number) (own event.hart.number)) own

pub first_own : (program : Program) (config : Config) → Each Own (begin program config)
first_own program config h stamp is =
    none_some (sym (each_new (λ hart. hart.attempt ≡ None) program config (λ sets. refl) h) ∙ is)

pub always_own : (program : Program) (config : Config) (events : List Event) → Each Own (after program config events)
always_own program config events =
    kept_after (Each Own) next_own (begin program config) events (first_own program config)

pub attempts_are_current : AttemptsAreCurrent
attempts_are_current program config events h stamp is =
    let own = always_own program config events h stamp is in record { own = own.hart; clock_is = own.clock_is }

pub stamps_are_distinct : StampsAreDistinct
stamps_are_distinct program config events g h stamp is_g is_h =
    sym (always_own program config events g stamp is_g).hart ∙ (always_own program config events h stamp is_h).hart

-- in lock removal a hart with a live section has an attempt open
abbrev Open : ℕ → Hart → Type 0
Open h hart = is_some hart.section ≡ true → is_some hart.attempt ≡ true

pub record AllOpen (state : ModelState) : Type 0 where
  pub mode : state.config.mode ≡ Tlr
  pub open_each : Each Open state

open_bus : BusKept Open
open_bus =
    attempts_kept (λ h section clock attempt. is_some section ≡ true → is_some attempt ≡ true)
    (record { lost = λ h section clock attempt now live. false_true live })

opened_open : (mode : Mode) (h clock : ℕ) (attempt : Option Stamp) → mode ≡ Tlr →
    is_some (opened mode h clock attempt) ≡ true
opened_open Tlr h clock None is = refl
opened_open Tlr h clock (Some stamped) is = refl
opened_open Sle h clock attempt is = absurd (cc)
opened_open Plain h clock attempt is = absurd (cc)

open_deed : (state : ModelState) (h : ℕ) (deed : Deed) → DoesWhere state h deed → AllOpen state →
    Open h (hart_after state h deed (hart_of state h))
open_deed state h Rests does now = now.open_each h
open_deed state h Waits does now = now.open_each h
open_deed state h (Misses line need) does now = now.open_each h
open_deed state h (Runs touch) does now =
    candidate_keeps (λ section clock seen attempt. is_some section ≡ true → is_some attempt ≡ true) _ _
    (candidate_of state h) _
    (now.open_each h)
open_deed state h (Begins swap) does now =
    λ live. opened_open state.config.mode h (hart_of state h).clock (hart_of state h).attempt now.mode
open_deed state h (Buffers section touch) does now =
    λ live. now.open_each h (ap is_some does.goes.goes_on.is_short.inside.live)
open_deed state h (Commits section) does now = λ live. false_true live
open_deed state h (RollsBack section cause) does now = λ live. false_true live
open_deed state h (Arms word) does now = now.open_each h
open_deed state h (Elides armed swap) does now =
    λ live. opened_open state.config.mode h (hart_of state h).clock (hart_of state h).attempt now.mode
open_deed state h (Continues armed) does now = now.open_each h
open_deed state h (LetsGo armed) does now = now.open_each h

pub next_open : (state : ModelState) (event : Event) → AllOpen state → AllOpen (next state event).state
next_open state event now = record {
  mode = ap (λ config. config.mode) (next_config state event) ∙ now.mode;
  open_each =
      event_keeps open_bus state event (λ deed does. open_deed state event.hart.number deed does now) now.open_each;
}

pub always_open : (program : Program) (config : Config) (events : List Event) → config.mode ≡ Tlr →
    AllOpen (after program config events)
always_open program config events mode =
    kept_after AllOpen next_open (begin program config) events
    (record {
      mode = ap (λ c. c.mode) (begin_config program config) ∙ mode;
      open_each = λ h live. clash (first_outside program config h) live;
    })
