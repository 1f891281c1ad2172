-- the facts hold of every state that can be reached in lock removal
use Rattle.std.proofs.Common.{◌≡◌, ◌∙◌, ℕ, true, List, [], None, refl, sym, inl, inr, subst}
use Rattle.defer_list.specs.HartSet.{has}
use Rattle.el_base.specs.declared.config.Config.{Config}
use Rattle.el_base.specs.declared.config.Mode.TheVariants.{Tlr}
use Rattle.el_base.specs.declared.events.Event.{Event}
use Rattle.el_base.specs.declared.events.Kind.{Kind}
use Rattle.el_base.specs.declared.events.Kind.TheVariants as kinds
use Rattle.el_base.proofs.Laws.Cases.{false_true, some_none}
use Rattle.elf_image.specs.Program.{Program}
use Rattle.el_model.specs.Next.{after, kind_turn, next}
use Rattle.el_model.specs.Order.{order_turn}
use Rattle.el_model.specs.Serve.{serve_turn}
use Rattle.el_model.specs.State.{Hart, ModelState, begin, hart_of, ordered_of, raised_of}
use Rattle.el_model.proofs.Laws.FromStart.{kept_after}
use Rattle.mail.specs.Mailbox.{Marker, Probe, has_message}
use Rattle.removal_laws.specs.Facts.{IsLinked, Knows}
use Rattle.removal_laws.specs.Laws.{FactsHoldThroughout}
use Rattle.removal_laws.proofs.Laws.Attempts.{always_open, first_own}
use Rattle.removal_laws.proofs.Grounds.{Grounds, Standing, facts_of, next_grounds}
use Rattle.removal_laws.proofs.Placing.{ordered_stands}
use Rattle.removal_laws.proofs.Serving.{taken_stands}
use Rattle.removal_laws.proofs.Stepping.{step_stands}
use Rattle.removal_laws.proofs.Telling.{delivered_stands}
use Rattle.section_laws.proofs.Laws.ArmedBits as bits
use Rattle.section_laws.proofs.Laws.EachKept.{first_each}
use Rattle.section_laws.proofs.Laws.NewHarts.{each_new}
use Rattle.section_laws.proofs.Laws.Numbered.{first_once}

kind_stands : (state : ModelState) (h : ℕ) (kind : Kind) → Grounds state → Standing state →
    Standing (kind_turn state h kind).state
unfolding order_turn serve_turn
kind_stands state h kinds.Step grounds standing = step_stands state h grounds standing
kind_stands state h kinds.Order grounds standing = ordered_stands state h (raised_of state h) refl grounds standing
kind_stands state h kinds.Serve grounds standing = taken_stands state h (ordered_of state h) refl grounds standing
kind_stands state h kinds.Deliver grounds standing = delivered_stands state h grounds standing

-- what holds between two events
pub record Holding (state : ModelState) : Type 0 where
  pub grounds : Grounds state
  pub standing : Standing state

pub next_holds : (state : ModelState) (event : Event) → Holding state → Holding (next state event).state
unfolding next
next_holds state event now = record {
  grounds = next_grounds state event now.grounds;
  standing = kind_stands state event.hart.number event.kind now.grounds now.standing;
}

-- before the first event
record IsFresh (hart : Hart) : Type 0 where
  mail : hart.mail ≡ []
  told : hart.told ≡ []
  upstream : hart.upstream ≡ []
  raised : hart.raised ≡ None

fresh : (program : Program) (config : Config) (h : ℕ) → IsFresh (hart_of (begin program config) h)
fresh program config =
    each_new IsFresh program config (λ sets. record { mail = refl; told = refl; upstream = refl; raised = refl })

unlinked : {X : Type 0} (hart : Hart) (before : ℕ) → IsFresh hart → IsLinked hart before → X
unlinked hart before fresh (inl sent) =
    false_true (subst (λ box. has_message box (Marker before) ≡ true) fresh.mail sent)
unlinked hart before fresh (inr is) = false_true (subst (λ harts. has harts before ≡ true) fresh.upstream is)

unknown : {X : Type 0} (hart : Hart) (origin : ℕ) → IsFresh hart → Knows hart origin → X
unknown hart origin fresh (inl sent) = false_true (subst (λ box. has_message box (Probe origin) ≡ true) fresh.mail sent)
unknown hart origin fresh (inr is) = false_true (subst (λ harts. has harts origin ≡ true) fresh.told is)

first_holds : (program : Program) (config : Config) → config.mode ≡ Tlr → Holding (begin program config)
unfolding begin
first_holds program config mode = record {
  grounds = record {
    once = first_once program config;
    own = first_own program config;
    opened = always_open program config [] mode;
    stamped = λ h. record {
      raised_is = λ request is. some_none (sym is ∙ (fresh program config h).raised);
      ordered_is = λ request is. absurd (cc);
    };
    below = λ h request is. absurd (cc);
    clean = first_each bits.kept program config;
  };
  standing = record {
    messages = record {
      before = λ h before is. unlinked (hart_of (begin program config) h) before (fresh program config h) is;
      known = λ h origin is. unknown (hart_of (begin program config) h) origin (fresh program config h) is;
      chained = λ line on. tt;
      told_own = λ h before is. unlinked (hart_of (begin program config) h) before (fresh program config h) (inr is);
      told_on = λ h before origin line own request is told apart on waits.
          unlinked (hart_of (begin program config) h) before (fresh program config h) (inr is);
    };
    retaining = record {
      may = λ g line on is. absurd (cc);
      raised = λ h request is live bit. some_none (sym is ∙ (fresh program config h).raised);
      ordered = λ h request is live bit. absurd (cc);
      first = λ h request on is live bit. absurd (cc);
    };
  };
}

pub always_holds : (program : Program) (config : Config) (events : List Event) → config.mode ≡ Tlr →
    Holding (after program config events)
always_holds program config events mode =
    kept_after Holding next_holds (begin program config) events (first_holds program config mode)

pub facts_hold_throughout : FactsHoldThroughout
facts_hold_throughout program config events mode =
    let now = always_holds program config events mode in
    facts_of (after program config events) now.grounds now.standing
