-- an event of the bus lets go the harts that its outcome tells, and leaves all else that is
-- committed and each other armed section
use Rattle.std.proofs.Common.{◌≡◌, ◌∙◌, ◌≤◌, ◌<◌, ◌+◌, ◌-◌, ◌==◌, ◌⊎◌, ℕ, zero, suc}
use Rattle.std.proofs.Common.{Bool, true, false, List, [], ◌∷◌, ◌++◌, Option, None, Some, is_some, length}
use Rattle.std.proofs.Common.{replicate, refl, ap, sym, subst, inl, inr, arith, if◌then◌else◌}
use Rattle.std.specs.Prelude.{nat_lt}
use Rattle.std.proofs.lemmas.Bool.{ltb-false, ltb-true}
use Rattle.bus_order.specs.Order.{Request}
use Rattle.chronicle.specs.Serial.{taking_effect}
use Rattle.el_base.proofs.Laws.FreedOrder.{order_below-more}
use Rattle.el_base.proofs.Laws.MadeLosers.{count_in-beyond, count_in-freed_of, none_in_no_one}
use Rattle.el_base.specs.Freed.{count_in, order_below, order_of}
use Rattle.el_base.specs.LetGo.{freed_of_outcome}
use Rattle.el_base.specs.declared.config.Mode.{Mode}
use Rattle.el_base.specs.declared.config.Mode.TheVariants.{Plain, Sle, Tlr}
use Rattle.el_base.specs.declared.freed.Freed.{Freed}
use Rattle.el_base.specs.declared.outcomes.Outcome.{Outcome}
use Rattle.el_base.specs.declared.outcomes.Outcome.TheVariants as outcomes
use Rattle.el_base.proofs.Laws.Cases.{none_some, not_both}
use Rattle.el_base.proofs.Laws.Tests.{other_test, own_test}
use Rattle.el_model.specs.Armed.{freed_count}
use Rattle.el_model.specs.BusEvent.{Becomes, Frees, IsAbsent, IsBusEvent, IsLetGo, IsOfBus, IsSent}
use Rattle.el_model.specs.BusEvent.{LosesIt, LosesWhere, Nothing, Places, Sees, Serves, Start, Starts}
use Rattle.el_model.specs.BusEvent.{Takes, as_met, freed_in, having_taken, started}
use Rattle.el_model.specs.Face.{freed_if}
use Rattle.el_model.specs.Next.{after}
use Rattle.el_model.specs.Plain.{armed_count}
use Rattle.el_model.specs.RollBack.{beaten, most_tries, out_of_section}
use Rattle.el_model.specs.Serve.{bystander, served_hart, with_claim}
use Rattle.el_model.specs.State.{Armed, Hart, ModelState, Section, Turn, armed_of, hart_of, section_of}
use Rattle.el_model.proofs.Laws.BusEvents.{bus_events_are_told_once, met_becomes}
use Rattle.el_model.proofs.Laws.Restoring.{loser_lives}
use Rattle.el_model.proofs.Laws.Tests.{by_hart}
use Rattle.el_model.proofs.Laws.HartParts.{beaten_armed, claim_armed}
use Rattle.mail.specs.Mailbox.{Marker, Message, Probe}
use Rattle.rv_flat.specs.FlatState.{view_of}
use Rattle.run_laws.proofs.Laws.EventsBeside.{AllArmed}
use Rattle.run_laws.proofs.Laws.LettingGo.{IsGone, bus_leaves, spared_or_gone, was_armed}
use Rattle.run_laws.proofs.Laws.Reachable.{armed_sections_run_covered}
use Rattle.section_laws.specs.EachHart.{IsShortArmed}
use Rattle.section_laws.proofs.Laws.ArmedCounts.{armed_sections_are_short}
use Rattle.section_laws.proofs.Laws.Moves.{freed_is_armed}
use Rattle.section_laws.proofs.Laws.NewHarts.{exists_unless_new}
use Rattle.section_laws.proofs.Laws.Numbered.{requests_are_numbered}
use Rattle.stamp.specs.Stamps.{Stamp}
use Rattle.section_laws.proofs.Laws.Waiting.{Rested, always_settled, live_unarmed, rested_in}
use Rattle.step_laws.specs.LettingGo as letting_go
use Rattle.step_laws.specs.LettingGo.{BusEventsLetHartsGo}

-- how often a hart stands in a list
abbrev one_if : Bool → ℕ
one_if true = 1
one_if false = 0

abbrev times : ℕ → List ℕ → ℕ
times g [] = 0
times g (h ∷ harts) = one_if (h == g) + times g harts

times-append : (g : ℕ) (first second : List ℕ) → times g (first ++ second) ≡ times g first + times g second
times-append g [] second = omega arith
times-append g (h ∷ first) second = let rest = times-append g first second in omega (arith, rest)

times-own : (g n : ℕ) → times g (replicate n g) ≡ n
times-own g zero = refl
times-own g (suc n) =
    let rest = times-own g n in
    let one : one_if (g == g) ≡ 1 = ap one_if (own_test g) in
    omega (arith, rest, one)

times-other : (g h n : ℕ) → (h == g) ≡ false → times g (replicate n h) ≡ 0
times-other g h zero apart = refl
times-other g h (suc n) apart =
    let rest = times-other g h n apart in
    let none : one_if (h == g) ≡ 0 = ap one_if apart in
    omega (arith, rest, none)

one_hart_more : (freed : Freed) (g n : ℕ) →
    times g (order_below (suc n) freed) ≡ times g (order_below n freed) + times g (replicate (count_in freed n) n)
one_hart_more freed g n =
    let next : suc n ≡ n + 1 = omega arith in
    ap (λ m. times g (order_below m freed)) next ∙ ap (times g) (order_below-more n freed)
    ∙ times-append g (order_below n freed) (replicate (count_in freed n) n)

-- so the order in which instructions take effect tells who was freed, with which number
not_below : (freed : Freed) (g n : ℕ) → n ≤ g → times g (order_below n freed) ≡ 0
not_below freed g zero past = refl
not_below freed g (suc n) past =
    let rest = not_below freed g n (omega (arith, past)) in
    let last = times-other g n (count_in freed n) (other_test n g (λ same. absurd (omega (arith, past, same)))) in
    let more = one_hart_more freed g n in
    omega (arith, rest, last, more)

counted_below : (freed : Freed) (k g n : ℕ) → n ≡ suc g + k → times g (order_below n freed) ≡ count_in freed g
counted_below freed zero g n is =
    let one : n ≡ suc g = omega (arith, is) in
    let before = not_below freed g g (omega arith) in
    let own = times-own g (count_in freed g) in
    let more = one_hart_more freed g g in
    ap (λ m. times g (order_below m freed)) one ∙ omega (arith, before, own, more)
counted_below freed (suc k) g n is =
    let one : n ≡ suc (suc g + k) = omega (arith, is) in
    let rest = counted_below freed k g (suc g + k) refl in
    let last =
    times-other g (suc g + k) (count_in freed (suc g + k))
    (other_test (suc g + k) g (λ same. absurd (omega (arith, same)))) in
    let more = one_hart_more freed g (suc g + k) in
    ap (λ m. times g (order_below m freed)) one ∙ omega (arith, rest, last, more)

counted : (freed : Freed) (g : ℕ) → times g (order_of freed) ≡ count_in freed g
unfolding order_of
counted freed g = by (nat_lt g 8) refl
  where
    by : (below : Bool) → nat_lt g 8 ≡ below → times g (order_below 8 freed) ≡ count_in freed g
    by true is = let below = ltb-true g 8 is in counted_below freed (7 - g) g 8 (omega (arith, below))
    by false is =
        let past = ltb-false g 8 is in not_below freed g 8 past ∙ sym (count_in-beyond freed g past)

told_of : (h g : ℕ) (outcome : Outcome) → IsOfBus outcome →
    count_in (freed_of_outcome outcome) g ≡ times g (taking_effect h outcome)
told_of h g outcomes.Idle of_bus = none_in_no_one g
told_of h g (outcomes.Ordered losers freed) of_bus = sym (counted freed g)
told_of h g (outcomes.Served losers freed) of_bus = sym (counted freed g)
told_of h g (outcomes.Blocked why by) of_bus = none_in_no_one g
told_of h g (outcomes.Delivered losers) of_bus = none_in_no_one g
told_of h g _ of_bus = absurd of_bus

told : {state : ModelState} {by : ℕ} {turn : Turn} → (done : IsBusEvent state by turn) → (g : ℕ) →
    count_in (freed_of_outcome turn.outcome) g ≡ count_in (freed_in state by done.start) g
told {state} {by} {turn} done g =
    told_of 0 g turn.outcome done.of_bus ∙ ap (times g) (done.effect 0) ∙ counted (freed_in state by done.start) g

-- a hart after an event of the bus: its armed section, and the pc of its last LR, are as they were, or it was let go
record AreKept (state : ModelState) (g : ℕ) (armed : Option Armed) (last : Option ℕ) : Type 0 where
  armed_is : armed ≡ armed_of state g
  last_is : last ≡ (hart_of state g).last_lr

record AreLetGo (state : ModelState) (by : ℕ) (start : Start) (g : ℕ) (armed : Option Armed)
    (last : Option ℕ) : Type 0 where
  head : Request
  frees : Frees state by start g head
  over : armed ≡ None
  pc : last ≡ Some (view_of state.committed g).pc

abbrev KeptOrLetGo : ModelState → ℕ → Start → ℕ → Hart → Type 0
KeptOrLetGo state by start g hart =
    AreKept state g hart.armed hart.last_lr ⊎ AreLetGo state by start g hart.armed hart.last_lr

claim_last : (live : Bool) (request : Request) (hart : Hart) → (with_claim live request hart).last_lr ≡ hart.last_lr
claim_last true request hart = refl
claim_last false request hart = refl

taken_kept : (state : ModelState) (message : Message) (others : List Message) (g : ℕ) →
    let hart = having_taken message others (hart_of state g) in AreKept state g hart.armed hart.last_lr
taken_kept state (Marker sender) others g = record { armed_is = refl; last_is = refl }
taken_kept state (Probe origin) others g = record { armed_is = refl; last_is = refl }

abbrev Kept : ModelState → ℕ → Hart → Type 0
Kept state g hart = AreKept state g hart.armed hart.last_lr

all_kept : (state : ModelState) (g : ℕ) → Kept state g (hart_of state g)
all_kept state g = record { armed_is = refl; last_is = refl }

started_kept : (state : ModelState) (by : ℕ) (start : Start) (g : ℕ) →
    Kept state g (started state by start g (hart_of state g))
started_kept state by Nothing g = all_kept state g
started_kept state by (Places request place) g =
    by_hart (Kept state g) g request.hart (record (hart_of state g) { raised = None }) (hart_of state g)
    (λ own. all_kept state g)
    (λ other. all_kept state g)
started_kept state by (Serves request) g =
    by_hart (Kept state g) g request.hart (served_hart state request (hart_of state g))
    (bystander state request (hart_of state g))
    (λ own.
    record {
      armed_is = claim_armed (is_some (section_of state g)) request _;
      last_is = claim_last (is_some (section_of state g)) request _;
    })
    (λ other. all_kept state g)
started_kept state by (Takes message others) g =
    by_hart (Kept state g) g by (having_taken message others (hart_of state g)) (hart_of state g)
    (λ own. taken_kept state message others g)
    (λ other. all_kept state g)

-- a hart that loses a section is none that was armed
try_last : (hart : Hart) (last : Bool) →
    (if last then record hart { tries = 0; fallback = true } else record hart { tries = hart.tries + 1 }).last_lr
    ≡ hart.last_lr
try_last hart true = refl
try_last hart false = refl

beaten_last : (mode : Mode) (stamp : Option Stamp) (hart : Hart) → (beaten mode stamp hart).last_lr ≡ hart.last_lr
beaten_last Tlr stamp hart = refl
beaten_last Sle stamp hart = try_last (out_of_section hart) (hart.tries + 1 == most_tries)
beaten_last Plain stamp hart = try_last (out_of_section hart) (hart.tries + 1 == most_tries)

loser_unarmed : (state : ModelState) (by g : ℕ) {start : Start} {winner : ℕ} {stamp : Option Stamp} → Rested state →
    LosesWhere state by start g winner stamp → armed_of state g ≡ None
loser_unarmed state by g rested loses = by_section (section_of state g) refl
  where
    by_section : (found : Option Section) → section_of state g ≡ found → armed_of state g ≡ None
    by_section None none = absurd (loser_lives state by loses none)
    by_section (Some section) live = live_unarmed state g section rested live

lost_kept : (state : ModelState) (by : ℕ) (start : Start) (g : ℕ) (stamp : Option Stamp) (hart : Hart) →
    armed_of state g ≡ None → KeptOrLetGo state by start g hart →
    KeptOrLetGo state by start g (beaten state.config.mode stamp hart)
lost_kept state by start g stamp hart none (inl kept) =
    inl (record {
      armed_is = beaten_armed state.config.mode stamp hart ∙ sym none;
      last_is = beaten_last state.config.mode stamp hart ∙ kept.last_is;
    })
lost_kept state by start g stamp hart none (inr gone) =
    inr (record {
      head = gone.head;
      frees = gone.frees;
      over = beaten_armed state.config.mode stamp hart;
      pc = beaten_last state.config.mode stamp hart ∙ gone.pc;
    })

kept_or_let_go : (state : ModelState) (by : ℕ) (start : Start) (g : ℕ) {lost : Option ℕ} {hart : Hart} → Rested state →
    Becomes state by start g lost hart → KeptOrLetGo state by start g hart
kept_or_let_go state by start g rested (IsAbsent past) = inl (all_kept state g)
kept_or_let_go state by start g rested (Starts below) = inl (started_kept state by start g)
kept_or_let_go state by start g rested (IsSent message lost hart sent now) = kept_or_let_go state by start g rested now
kept_or_let_go state by start g rested (IsLetGo head hart frees now) =
    inr (record { head = head; frees = frees; over = refl; pc = refl })
kept_or_let_go state by start g rested (Sees head lost hart defers now) = kept_or_let_go state by start g rested now
kept_or_let_go state by start g rested (LosesIt winner stamp hart loses now) =
    lost_kept state by start g stamp hart (loser_unarmed state by g rested loses)
    (kept_or_let_go state by start g rested now)

-- a hart that is let go counts with all its instructions
record IsCounted (state : ModelState) (by : ℕ) (start : Start) (g : ℕ) : Type 0 where
  armed : Armed
  was : armed_of state g ≡ Some armed
  some : 1 ≤ armed.count
  count_is : count_in (freed_in state by start) g ≡ armed.count

module _ (state : ModelState) (by : ℕ) (start : Start) (few : length state.harts ≤ 8)
    (long : ℕ) (short : (h : ℕ) (armed : Armed) → armed_of state h ≡ Some armed → IsShortArmed long armed) where
  exists : (g : ℕ) (armed : Armed) → armed_of state g ≡ Some armed → g < 8
  exists g armed is =
      let there = exists_unless_new (λ hart. hart.armed ≡ Some armed) state g (λ none. none_some none) is in
      omega (arith, there, few)

  counted_hart : (g : ℕ) (head : Request) → Frees state by start g head → IsCounted state by start g
  counted_hart g head frees =
      by_armed (hart_of (as_met state by start) g).armed refl
      (freed_is_armed head g (hart_of (as_met state by start) g) frees.freed)
    where
      by_armed : (found : Option Armed) → (hart_of (as_met state by start) g).armed ≡ found → is_some found ≡ true →
          IsCounted state by start g
      by_armed None is some = absurd (cc)
      by_armed (Some armed) is some =
          let mid = as_met state by start in
          let was = was_armed state by start g (met_becomes state by start head frees.head_is g) armed is in
          let bounds = short g armed was in
          let few_there = bounds.few in
          let whole : freed_count head g (hart_of mid g) ≡ armed.count =
          ap (λ test. if test then armed_count (hart_of mid g).armed else 0) frees.freed ∙ ap armed_count is in
          record {
            armed = armed;
            was = was;
            some = bounds.some;
            count_is = ap (λ found. count_in (freed_if mid found) g) frees.head_is
                ∙ count_in-freed_of (λ h. freed_count head h (hart_of mid h)) g (exists g armed was)
                (omega (arith, whole, few_there))
                ∙ whole;
          }

-- so exactly the harts that its outcome tells are let go
module _ {state : ModelState} {by : ℕ} {turn : Turn} (done : IsBusEvent state by turn)
    (few : length state.harts ≤ 8) (long : ℕ)
    (short : (h : ℕ) (armed : Armed) → armed_of state h ≡ Some armed → IsShortArmed long armed) (rested : Rested state)
    (all : AllArmed state) where
  abbrev freed : Freed
  freed = freed_in state by done.start

  one_let_go : (g : ℕ) → AreLetGo state by done.start g (armed_of turn.state g) (hart_of turn.state g).last_lr →
      letting_go.IsLetGo state turn.state g (count_in freed g)
  one_let_go g gone =
      let it = counted_hart state by done.start few long short g gone.head gone.frees in
      let some = it.some in
      let count_is = it.count_is in
      record {
        armed = it.armed;
        was = it.was;
        count_is = sym it.count_is;
        over = gone.over;
        view = (bus_leaves done all).let_go g (omega (arith, some, count_is));
        last = gone.pc;
      }

  spared_hart : (g : ℕ) → count_in freed g ≡ 0 → Kept state g (hart_of turn.state g)
  spared_hart g none = by_end (kept_or_let_go state by done.start g rested (done.becomes g))
    where
      by_end : KeptOrLetGo state by done.start g (hart_of turn.state g) → Kept state g (hart_of turn.state g)
      by_end (inl kept) = kept
      by_end (inr gone) =
          let it = counted_hart state by done.start few long short g gone.head gone.frees in
          let some = it.some in
          let count_is = it.count_is in
          absurd (omega (arith, some, count_is, none))

  let_go_hart : (g : ℕ) → 1 ≤ count_in freed g → letting_go.IsLetGo state turn.state g (count_in freed g)
  let_go_hart g some = by_end (kept_or_let_go state by done.start g rested (done.becomes g)) (spared_or_gone done g)
    where
      by_end : KeptOrLetGo state by done.start g (hart_of turn.state g) →
          (count_in freed g ≡ 0) ⊎ IsGone state turn.state g → letting_go.IsLetGo state turn.state g (count_in freed g)
      by_end (inr gone) either = one_let_go g gone
      by_end (inl kept) (inl none) = absurd (omega (arith, some, none))
      by_end (inl kept) (inr gone) = not_both gone.was (ap is_some (sym kept.armed_is ∙ gone.unarmed))

  lets_harts_go : letting_go.LetsHartsGo state turn.state (freed_of_outcome turn.outcome)
  lets_harts_go = record {
    memory = (bus_leaves done all).keeps;
    stays_view = λ g none. (bus_leaves done all).spared g (sym (told done g) ∙ none);
    stays_armed = λ g none. (spared_hart g (sym (told done g) ∙ none)).armed_is;
    stays_last = λ g none. (spared_hart g (sym (told done g) ∙ none)).last_is;
    lets_go = λ g some.
        subst (letting_go.IsLetGo state turn.state g) (sym (told done g))
        (let_go_hart g (subst (λ n. 1 ≤ n) (told done g) some));
  }

pub bus_events_let_harts_go : BusEventsLetHartsGo
bus_events_let_harts_go program config events event bytes same range bus =
    let state = after program config events in
    lets_harts_go (bus_events_are_told_once state event bus)
    (requests_are_numbered program config events same range).few config.long
    (λ h armed is. armed_sections_are_short program config events range h armed is)
    (rested_in state (always_settled program config events))
    (λ h armed is. armed_sections_run_covered program config events h armed bytes is)
