-- one agent after another becomes what is said of its number
use Rattle.std.proofs.Common.{◌≡◌, ◌∙◌, ◌<◌, ◌≤◌, ℕ, suc, List, length, arith, refl, sym, ap, inl, inr}
use Rattle.std.proofs.lemmas.Bool.{cases_eq}
use Rattle.bus_agent.proofs.Laws.Agents.{agent_other, agent_same, count_with_agent}
use Rattle.bus_agent.specs.Agent.{Agent, agent_at, with_agent}

-- those below a number have, and the others are as they were
pub record AreChangedBelow (becomes : ℕ → Agent → Agent) (number : ℕ) (old new : List Agent) : Type 0 where
  pub count : length new ≡ length old
  pub done : (g : ℕ) → g < number → agent_at new g ≡ becomes g (agent_at old g)
  pub rest : (g : ℕ) → number ≤ g → agent_at new g ≡ agent_at old g

pub none_changed : (becomes : ℕ → Agent → Agent) (old : List Agent) → AreChangedBelow becomes 0 old old
none_changed becomes old = record { count = refl; done = λ g below. absurd (omega arith); rest = λ g from. refl }

pub one_changed : (becomes : ℕ → Agent → Agent) (number : ℕ) (old new : List Agent) (agent : Agent) →
    number < length new → agent ≡ becomes number (agent_at new number) → AreChangedBelow becomes number old new →
    AreChangedBelow becomes (suc number) old (with_agent new number agent)
one_changed becomes number old new agent inside is below = record {
  count = count_with_agent new number agent ∙ below.count;
  done = λ g under. elim (cases_eq g number) [
    | inl same ↦ ap (agent_at (with_agent new number agent)) same ∙ agent_same new number agent inside ∙ is
        ∙ ap (becomes number) (below.rest number (omega arith)) ∙ ap (λ k. becomes k (agent_at old k)) (sym same)
    | inr before ↦ agent_other new number g agent before ∙ below.done g (omega (arith, before, under))
  ];
  rest = λ g from. agent_other new number g agent (omega arith) ∙ below.rest g (omega arith);
}
