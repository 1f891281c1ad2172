-- the agents of all harts: past the last one, after one has become another, and with one more
use Rattle.std.proofs.Common.{◌≡◌, ◌≢◌, ◌∙◌, ℕ, zero, suc, ◌<◌, ◌≤◌, List, [], ◌∷◌, ◌++◌, length, None}
use Rattle.std.proofs.Common.{refl, ap, sym, subst, inl, inr, arith}
use Rattle.std.proofs.lemmas.Bool.{cases_eq, cases_lt}
use Rattle.std.proofs.lemmas.List.{get_or-set_same, get_or-set_other, length-set}
use Rattle.bus_agent.specs.Agent.{Agent, agent_at, new_agent, with_agent}

-- an agent past the last one
pub agent_past : (agents : List Agent) (h : ℕ) → length agents ≤ h → agent_at agents h ≡ new_agent
agent_past [] h past = refl
agent_past (agent ∷ agents) zero past = absurd (omega arith)
agent_past (agent ∷ agents) (suc h) past = agent_past agents h (omega arith)

-- an agent after one has become another
pub agent_same : (agents : List Agent) (h : ℕ) (agent : Agent) → h < length agents →
    agent_at (with_agent agents h agent) h ≡ agent
agent_same agents h agent below = get_or-set_same agents h agent new_agent below

pub agent_other : (agents : List Agent) (h g : ℕ) (agent : Agent) → g ≢ h →
    agent_at (with_agent agents h agent) g ≡ agent_at agents g
agent_other agents h g agent differs = get_or-set_other agents h g agent new_agent differs

pub count_with_agent : (agents : List Agent) (h : ℕ) (agent : Agent) →
    length (with_agent agents h agent) ≡ length agents
count_with_agent agents h agent = length-set agents h agent

-- what a change of one agent keeps, every agent keeps
pub agent_kept : {A : Type 0} (f : Agent → A) (agents : List Agent) (h g : ℕ) (agent : Agent) →
    f agent ≡ f (agent_at agents h) → f (agent_at (with_agent agents h agent) g) ≡ f (agent_at agents g)
agent_kept f [] h g agent keeps = refl
agent_kept f (first ∷ agents) zero zero agent keeps = keeps
agent_kept f (first ∷ agents) zero (suc g) agent keeps = refl
agent_kept f (first ∷ agents) (suc h) zero agent keeps = refl
agent_kept f (first ∷ agents) (suc h) (suc g) agent keeps = agent_kept f agents h g agent keeps

-- the counts that are noted, after one agent has changed
pub few_armed_yet : (agents : List Agent) (h : ℕ) (agent : Agent) → ((g : ℕ) → (agent_at agents g).armed ≤ 15) →
    agent.armed ≤ 15 → (g : ℕ) → (agent_at (with_agent agents h agent) g).armed ≤ 15
few_armed_yet agents h agent few here g = elim (cases_eq g h) [
  | inl own ↦ elim (cases_lt h (length agents)) [
    | inl below ↦
        subst (λ a. a.armed ≤ 15)
        (sym (ap (agent_at (with_agent agents h agent)) own ∙ agent_same agents h agent below)) here
    | inr past ↦
        subst (λ a. a.armed ≤ 15)
        (agent_past agents g (omega (arith, past, own))
        ∙ sym (agent_past (with_agent agents h agent) g (omega (arith, past, own, count_with_agent agents h agent))))
        (few g)
  ]
  | inr other ↦ subst (λ a. a.armed ≤ 15) (sym (agent_other agents h g agent other)) (few g)
]

-- one agent more that has raised no request
pub none_raised_more : (agents : List Agent) (agent : Agent) → ((h : ℕ) → (agent_at agents h).raised ≡ None) →
    agent.raised ≡ None → (h : ℕ) → (agent_at (agents ++ agent ∷ []) h).raised ≡ None
none_raised_more [] agent none here zero = here
none_raised_more [] agent none here (suc h) = refl
none_raised_more (first ∷ agents) agent none here zero = none 0
none_raised_more (first ∷ agents) agent none here (suc h) = none_raised_more agents agent (λ k. none (suc k)) here h

-- and one more that is noted as armed for few instructions
pub few_armed_more : (agents : List Agent) (agent : Agent) → ((h : ℕ) → (agent_at agents h).armed ≤ 15) →
    agent.armed ≤ 15 → (h : ℕ) → (agent_at (agents ++ agent ∷ []) h).armed ≤ 15
few_armed_more [] agent few here zero = here
few_armed_more [] agent few here (suc h) = omega arith
few_armed_more (first ∷ agents) agent few here zero = few 0
few_armed_more (first ∷ agents) agent few here (suc h) = few_armed_more agents agent (λ k. few (suc k)) here h
