-- the harts that a head lets go, one after another
use Rattle.std.proofs.Common.{◌≡◌, ◌≢◌, ◌∙◌, ℕ, ◌+◌, ◌<◌, ◌≤◌, ◌==◌, Bool, true, false, cond, length, refl, ap, sym}
use Rattle.std.proofs.Common.{arith, inl, inr, if◌then◌else◌}
use Rattle.std.proofs.lemmas.Bool.{cases_eq, cases_lt}
use Rattle.bus_agent.proofs.Laws.Agents.{agent_past}
use Rattle.bus_agent.specs.Agent.{agent_at, new_agent}
use Rattle.bus_order.specs.Order.{Request}
use Rattle.el_base.specs.Freed.{count_in}
use Rattle.el_base.specs.declared.freed.Freed.{Freed}
use Rattle.el_base.proofs.Laws.Tests.{other_test, own_test}
use Rattle.snoop.proofs.Changes.{no_hart_changed, one_hart_changed}
use Rattle.snoop.specs.LettingGo.{AreLetGo, IsLetGo, agent_let_go, freed_at, frees, goes}
use Rattle.snoop.specs.Shows.{BusState}

-- of the harts below a number those are freed that have a count, and of the others none
pub record AreFreedBelow (count : ℕ → ℕ) (number : ℕ) (freed : Freed) : Type 0 where
  pub done : (h : ℕ) → h < number → count_in freed h ≡ count h
  pub rest : (h : ℕ) → number ≤ h → count_in freed h ≡ 0

pub no_one_yet : (count : ℕ → ℕ) (freed : Freed) → ((h : ℕ) → count_in freed h ≡ 0) → AreFreedBelow count 0 freed
no_one_yet count freed none = record { done = λ h below. absurd (omega arith); rest = λ h from. none h }

pub one_freed_more : (count : ℕ → ℕ) (number : ℕ) (freed result : Freed) → AreFreedBelow count number freed →
    ((h : ℕ) → count_in result h ≡ (if h == number then count number else count_in freed h)) →
    AreFreedBelow count (number + 1) result
one_freed_more count number freed result below is = record {
  done = λ h under. elim (cases_eq h number) [
    | inl same ↦ is h ∙ here h same
    | inr other ↦ is h ∙ there h other ∙ below.done h (omega (arith, under, other))
  ];
  rest = λ h from. is h ∙ there h (λ same. absurd (omega (arith, from, same))) ∙ below.rest h (omega (arith, from));
}
  where
    here : (h : ℕ) → h ≡ number → (if h == number then count number else count_in freed h) ≡ count h
    here h same = rw same (ap (λ b. cond b (count number) (count_in freed number)) (own_test number))

    there : (h : ℕ) → h ≢ number → (if h == number then count number else count_in freed h) ≡ count_in freed h
    there h other = ap (λ b. cond b (count number) (count_in freed h)) (other_test h number other)

-- past the last hart there is none to be let go
pub all_freed : (bus : BusState) (head : Request) (number : ℕ) (freed : Freed) → number ≡ length bus.agents →
    AreFreedBelow (freed_at bus head) number freed → (h : ℕ) → count_in freed h ≡ freed_at bus head h
all_freed bus head number freed all below h = elim (cases_lt h number) [
  | inl under ↦ below.done h under
  | inr past ↦ below.rest h past ∙ sym (nothing (frees bus head h) (agent_past bus.agents h (omega (arith, past, all))))
]
  where
    nothing : (test : Bool) → agent_at bus.agents h ≡ new_agent →
        (if test then (agent_at bus.agents h).armed else 0) ≡ 0
    nothing true is = ap (λ agent. agent.armed) is
    nothing false is = refl

-- one hart more is let go
pub none_let_go : (freed : Freed) (bus : BusState) → AreLetGo freed 0 bus bus
none_let_go freed bus = no_hart_changed (λ h. agent_let_go (goes freed h)) (goes freed) bus

pub one_let_go : (freed : Freed) (h : ℕ) (old mid new : BusState) → AreLetGo freed h old mid →
    IsLetGo (goes freed h) h mid new → h < length mid.agents → AreLetGo freed (h + 1) old new
one_let_go freed h old mid new below at inside =
    one_hart_changed (λ g. agent_let_go (goes freed g)) (goes freed) h old mid new below at inside
