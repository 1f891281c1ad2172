-- the fates of sections, as the code finds them and as the definition has them
use Rattle.std.proofs.Common.{◌≡◌, ◌∙◌, ℕ, suc, ◌+◌, ◌<◌, ◌==◌, ◌&&◌, not, Bool, true, false, List, [], ◌∷◌, ◌++◌}
use Rattle.std.proofs.Common.{length, length-append, drop, Option, None, refl, ap, sym, arith, inl, inr}
use Rattle.std.specs.Prelude.{slice_index_or}
use Rattle.std.proofs.Math.ListN.{drop_of_length-le, get_or-append}
use Rattle.std.proofs.Math.Seq.{drop-cons, get_or-append_seam}
use Rattle.std.proofs.lemmas.Bool.{cases_eq, cases_lt}
use Rattle.bus_agent.specs.Agent.{Agent, agent_at, agent_of, new_agent}
use Rattle.el_base.proofs.Laws.Cases.{true_false}
use Rattle.el_base.proofs.Laws.Tests.{false_between}
use Rattle.el_model.specs.Conflicts.{conflicts, least_such, meets_bit, told_winner, wins_over}
use Rattle.bus_order.specs.Order.{Request}
use Rattle.el_model.specs.State.{Hart, ModelState, count_up, hart_of}
use Rattle.snoop.proofs.AfterFate.{past_unmet}
use Rattle.snoop.proofs.LosersBelow.{past_fates}
use Rattle.snoop.proofs.Laws.Living.{lives_shown}
use Rattle.el_base.specs.declared.config.Mode.TheVariants.{Plain}
use Rattle.el_model.specs.Face.{fate_at}
use Rattle.policy.specs.Winners.{wins_of}
use Rattle.snoop.specs.Deciding.{DecidesIn}
use Rattle.snoop.specs.declared.fates.Fate as fates
use Rattle.snoop.specs.declared.fates.Fate.TheVariants as declared
use Rattle.snoop.specs.Fates.{earlier_told, fate_in, numbered_fate, is_earlier_told, stamp_on, told_from}
use Rattle.snoop.specs.Shows.{IsReady, BusState, Shows}
use Rattle.stamp.specs.Stamps.{Stamp}

-- past the last hart no origin was told
pub none_told : (agent : Agent) (order : List Request) (line from : ℕ) (agents : List Agent) → from ≡ length agents →
    told_from agent order line from (drop from agents) ≡ None
none_told agent order line from agents past =
    ap (told_from agent order line from) (drop_of_length-le agents (omega arith))

-- one origin before those that were looked at
pub told_before : (agents : List Agent) (agent : Agent) (order : List Request) (line from number : ℕ)
    (later here : Option ℕ) → from ≡ suc number → number < length agents →
    later ≡ told_from agent order line from (drop from agents) → here ≡ earlier_told agent order line number later →
    here ≡ told_from agent order line number (drop number agents)
told_before agents agent order line from number later here next inside behind is =
    rw (is, behind, next, drop-cons agents number new_agent inside) refl

-- the origin that the agents tell is the definition's
told_by_harts : (agent : Agent) (order : List Request) (line from : ℕ) (agents : List Agent) (harts : List Hart) →
    length agents ≡ length harts → told_from agent order line from agents
    ≡ least_such (is_earlier_told agent order line) (stamp_on order line) (count_up from harts)
told_by_harts agent order line from [] [] same = refl
told_by_harts agent order line from [] (hart ∷ harts) same = absurd (omega arith)
told_by_harts agent order line from (first ∷ others) [] same = absurd (omega arith)
told_by_harts agent order line from (first ∷ others) (hart ∷ harts) same =
    ap (earlier_told agent order line from) (told_by_harts agent order line (suc from) others harts (omega arith))

pub winner_is_told : (bus : BusState) (state : ModelState) (h line : ℕ) → Shows bus state →
    told_from (agent_at bus.agents h) bus.order line 0 bus.agents ≡ told_winner state (hart_of state h) line
winner_is_told bus state h line shows =
    ap (λ agent. told_from agent bus.order line 0 bus.agents) (shows.agents h)
    ∙ ap (λ order. told_from (agent_of (hart_of state h)) order line 0 bus.agents) shows.order
    ∙ told_by_harts (agent_of (hart_of state h)) state.order line 0 bus.agents state.harts shows.agent_each

-- in the plain mode no head meets a section
pub plain_unmet : (bus : BusState) (state : ModelState) (head : Request) (h : ℕ) → IsReady bus → Shows bus state →
    bus.mode ≡ Plain → conflicts head h (hart_of state h) ≡ false
plain_unmet bus state head h ready shows plain =
    ap (λ live. (not (head.hart == h) && live) && meets_bit (hart_of state h) head.line head.need)
    (sym (lives_shown bus state h shows)
    ∙ ap (λ marks. marks && ((agent_at bus.agents h).armed == 0)) (ready.unmarked plain h))
    ∙ false_between (not (head.hart == h)) (meets_bit (hart_of state h) head.line head.need)

-- so where one does, the policy answers as the definition does
pub wins_where_met : (bus : BusState) (state : ModelState) (head : Request) (h : ℕ)
    (beats : Option Stamp → Option Stamp → Bool) → IsReady bus → Shows bus state → DecidesIn bus.mode beats →
    conflicts head h (hart_of state h) ≡ true →
    beats head.stamp (agent_at bus.agents h).attempt ≡ wins_over state.config.mode head.stamp (hart_of state h)
wins_where_met bus state head h beats ready shows decides met =
    decides (λ plain. true_false (sym met ∙ plain_unmet bus state head h ready shows plain)) head.stamp
    (agent_at bus.agents h).attempt
    ∙ ap (λ agent. wins_of bus.mode head.stamp agent.attempt) (shows.agents h)
    ∙ ap (λ mode. wins_over mode head.stamp (hart_of state h)) shows.mode

-- the fates of the harts below a number
pub record FatesBelow (bus : BusState) (head : Request) (number : ℕ) (fates : List fates.Fate) : Type 0 where
  pub count : length fates ≡ number
  pub each : (state : ModelState) → Shows bus state → (h : ℕ) → h < number → fate_in fates h ≡ fate_at state head h

pub no_fates : (bus : BusState) (head : Request) → FatesBelow bus head 0 []
no_fates bus head = record { count = refl; each = λ state shows h below. absurd (omega arith) }

pub one_fate_more : (bus : BusState) (head : Request) (number h : ℕ) (known : List fates.Fate) (fate : fates.Fate) →
    FatesBelow bus head number known → h ≡ number →
    ((state : ModelState) → Shows bus state → numbered_fate fate ≡ fate_at state head h) →
    FatesBelow bus head (number + 1) (known ++ fate ∷ [])
one_fate_more bus head number h known fate below same is = record {
  count = length-append known (fate ∷ []) ∙ ap (λ n. n + 1) below.count;
  each = λ state shows g under. elim (cases_eq g number) [
    | inl last ↦
        ap numbered_fate
        (ap (λ n. slice_index_or (known ++ fate ∷ []) n declared.Unmet) (last ∙ sym below.count)
        ∙ get_or-append_seam known fate [] declared.Unmet)
        ∙ is state shows ∙ ap (fate_at state head) (same ∙ sym last)
    | inr before ↦
        ap numbered_fate (get_or-append known (fate ∷ []) declared.Unmet g (omega (arith, before, under, below.count)))
        ∙ below.each state shows g (omega (arith, before, under))
  ];
}

-- past the last hart there is nothing to meet
pub all_fates : (bus : BusState) (head : Request) (number : ℕ) (known : List fates.Fate) →
    FatesBelow bus head number known → number ≡ length bus.agents → (state : ModelState) → Shows bus state → (h : ℕ) →
    fate_in known h ≡ fate_at state head h
all_fates bus head number known below all state shows h = elim (cases_lt h number) [
  | inl under ↦ below.each state shows h under
  | inr past ↦
      past_fates known h (omega (arith, past, below.count))
      ∙ sym (past_unmet state head h (omega (arith, past, all, shows.agent_each)))
]
