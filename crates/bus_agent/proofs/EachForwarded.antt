-- a probe is forwarded to one hart after another
use Rattle.std.proofs.Common.{◌≡◌, ◌∙◌, ◌<◌, ◌==◌, ◌&&◌, not, ℕ, suc, false, List, length, arith, refl, sym, ap, inl}
use Rattle.std.proofs.Common.{inr, if◌then◌else◌}
use Rattle.std.proofs.lemmas.Bool.{cases_lt}
use Rattle.std.proofs.lemmas.List.{set-get_or}
use Rattle.bus_agent.proofs.EachAgent.{AreChangedBelow, one_changed}
use Rattle.bus_agent.specs.Agent.{Agent, agent_at, agent_posted, new_agent, with_agent}
use Rattle.bus_agent.specs.Forwarding.{AreForwarded, agent_forwarded}
use Rattle.defer_list.specs.HartSet.{has}
use Rattle.el_model.proofs.Laws.Tests.{by_test}
use Rattle.mail.specs.Mailbox.{Probe}

-- it stays where it was
pub not_forwarded : (agents : List Agent) (upstream : List ℕ) (origin g : ℕ) →
    (not (g == origin) && has upstream g) ≡ false →
    agents ≡ with_agent agents g (agent_forwarded upstream origin g (agent_at agents g))
not_forwarded agents upstream origin g none =
    sym
    (ap
    (λ test. with_agent agents g
    (if test then agent_posted (Probe origin) (agent_at agents g) else agent_at agents g)) none
    ∙ set-get_or agents g new_agent)

forwarded_kept : {A : Type 0} (f : Agent → A) (upstream : List ℕ) (origin g : ℕ) (agent : Agent) →
    f (agent_posted (Probe origin) agent) ≡ f agent → f (agent_forwarded upstream origin g agent) ≡ f agent
forwarded_kept f upstream origin g agent keeps =
    by_test (λ a. f a ≡ f agent) (not (g == origin) && has upstream g) (agent_posted (Probe origin) agent) agent
    (λ test. keeps) (λ test. refl)

pub changed_kept : {A : Type 0} (f : Agent → A) (upstream : List ℕ) (origin number h : ℕ) (old now : List Agent) →
    AreChangedBelow (agent_forwarded upstream origin) number old now →
    f (agent_posted (Probe origin) (agent_at old h)) ≡ f (agent_at old h) → f (agent_at now h) ≡ f (agent_at old h)
changed_kept f upstream origin number h old now changed keeps =
    elim (cases_lt h number) [
      | inl below ↦ ap f (changed.done h below) ∙ forwarded_kept f upstream origin h (agent_at old h) keeps
      | inr past ↦ ap f (changed.rest h past)
    ]

-- to know who is before it, the hart is asked again and again; that stays
pub one_forwarded : (upstream : List ℕ) (origin h number : ℕ) (old now : List Agent) →
    upstream ≡ (agent_at old h).upstream → number < length now →
    AreChangedBelow (agent_forwarded upstream origin) number old now →
    AreChangedBelow (agent_forwarded upstream origin) (suc number) old
    (with_agent now number (agent_forwarded (agent_at now h).upstream origin number (agent_at now number)))
one_forwarded upstream origin h number old now is inside changed =
    one_changed (agent_forwarded upstream origin) number old now _ inside
    (ap (λ before. agent_forwarded before origin number (agent_at now number))
    (changed_kept (λ a. a.upstream) upstream origin number h old now changed refl ∙ sym is))
    changed

pub all_forwarded : (upstream : List ℕ) (origin number : ℕ) (old now : List Agent) → number ≡ length old →
    AreChangedBelow (agent_forwarded upstream origin) number old now → AreForwarded upstream origin old now
all_forwarded upstream origin number old now all changed = record {
  count = changed.count;
  each = λ g below. changed.done g (omega (arith, below, all));
}
