-- what the rule of a hart with an armed section says, and its turn
use Rattle.std.proofs.Common.{◌≡◌, ◌∙◌, ℕ, suc, ◌<◌, Bool, true, false, Option, None, Some, ap, refl, sym, arith}
use Rattle.std.specs.Prelude.{◌&&◌, if◌then◌else◌, nat_lt}
use Rattle.std.proofs.lemmas.Bool.Decides.{nat_tests}
use Rattle.el_base.specs.declared.outcomes.Outcome.{Outcome}
use Rattle.el_base.specs.declared.outcomes.Outcome.TheVariants as outcomes
use Rattle.el_base.proofs.Laws.Tests.{first_of_both, second_of_both}
use Rattle.el_model.specs.Armed.{ArmedRule, Continues, Elides, LetsGo, armed_rule, armed_turn, by_armed_rule, completes}
use Rattle.el_model.specs.Armed.{exchange_rule, is_quiet}
use Rattle.el_model.specs.Armed.{may_grow, most_armed, shown_armed}
use Rattle.el_model.specs.State.{Armed, ModelState, Turn}
use Rattle.el_model.specs.Upcoming.{Swap, next_conditional}
use Rattle.engine.proofs.TakenTurns.{as_well}
use Rattle.engine.specs.Acting.{ActsArmed}
use Rattle.engine.specs.Armed.{ArmedSomewhere, FollowsArmed, FollowsArmedSomewhere}
use Rattle.engine.specs.Parts.{Parts}
use Rattle.engine.specs.Turns.{TakesTurn}
use Rattle.section_laws.proofs.Laws.ArmedBits.{completing}

-- what the rule says, the turn is
pub turn_is : (state : ModelState) (h : ℕ) (armed : Armed) (rule : ArmedRule) → armed_rule state h armed ≡ rule →
    armed_turn state h armed ≡ by_armed_rule state h armed rule
unfolding armed_turn
turn_is state h armed rule is = ap (by_armed_rule state h armed) is

pub elides_outcome : (state : ModelState) (h : ℕ) (armed : Armed) (swap : Swap) →
    armed_rule state h armed ≡ Elides swap → outcomes.Began ≡ (armed_turn state h armed).outcome
unfolding by_armed_rule
elides_outcome state h armed swap is = sym (ap (λ turn. turn.outcome) (turn_is state h armed (Elides swap) is))

pub continues_outcome : (state : ModelState) (h : ℕ) (armed : Armed) → armed_rule state h armed ≡ Continues →
    outcomes.Buffered ≡ (armed_turn state h armed).outcome
unfolding by_armed_rule
continues_outcome state h armed is = sym (ap (λ turn. turn.outcome) (turn_is state h armed Continues is))

pub lets_go_outcome : (state : ModelState) (h : ℕ) (armed : Armed) → armed_rule state h armed ≡ LetsGo →
    outcomes.LetGo armed.count ≡ (armed_turn state h armed).outcome
unfolding by_armed_rule
lets_go_outcome state h armed is = sym (ap (λ turn. turn.outcome) (turn_is state h armed LetsGo is))

-- an acquire that is elided is one by the SC that comes next, to the section's word
pub record IsElided (state : ModelState) (h : ℕ) (armed : Armed) (swap : Swap) : Type 0 where
  pub next : next_conditional (shown_armed state h armed) h ≡ Some swap
  pub word : swap.word ≡ armed.word

pub elides_at : (state : ModelState) (h : ℕ) (armed : Armed) (swap : Swap) → armed_rule state h armed ≡ Elides swap →
    IsElided state h armed swap
elides_at state h armed swap is = by (next_conditional (shown_armed state h armed) h) refl is
  where
    of : (found : Swap) → Elides found ≡ Elides swap → found ≡ swap
    of found same = cc

    quiet_not : (quiet : Bool) → (if quiet then Continues else LetsGo) ≡ Elides swap → ⊥
    quiet_not true is = cc
    quiet_not false is = cc

    completed : (found : Swap) (test : Bool) → completes state h armed found ≡ test →
        (if test then Elides found else LetsGo) ≡ Elides swap → (completes state h armed swap ≡ true) × (found ≡ swap)
    completed found true done is = let same = of found is in (ap (completes state h armed) (sym same) ∙ done, same)
    completed found false done is = absurd (cc)

    by : (found : Option Swap) → next_conditional (shown_armed state h armed) h ≡ found →
        exchange_rule state h armed found ≡ Elides swap → IsElided state h armed swap
    by None next is = absurd (quiet_not (is_quiet (shown_armed state h armed) h && may_grow state armed) is)
    by (Some found) next is =
        let done = completed found (completes state h armed found) refl is in
        record { next = next ∙ ap Some done.1; word = (completing state h armed swap done.0).same }

-- one that goes on comes to a quiet instruction, and has room for one more
pub record GoesOnQuietly (state : ModelState) (h : ℕ) (armed : Armed) : Type 0 where
  pub quiet : is_quiet (shown_armed state h armed) h ≡ true
  pub grows : may_grow state armed ≡ true
  pub fits : armed.count < most_armed

pub continues_at : (state : ModelState) (h : ℕ) (armed : Armed) → armed_rule state h armed ≡ Continues →
    GoesOnQuietly state h armed
continues_at state h armed is = by (next_conditional (shown_armed state h armed) h) is
  where
    quiet : (test : Bool) → (is_quiet (shown_armed state h armed) h && may_grow state armed) ≡ test →
        (if test then Continues else LetsGo) ≡ Continues → GoesOnQuietly state h armed
    quiet true both is =
        let grows = second_of_both (is_quiet (shown_armed state h armed) h) (may_grow state armed) both in
        let fits = first_of_both (nat_lt armed.count most_armed) (nat_lt (suc armed.count) state.config.long) grows in
        record {
          quiet = first_of_both (is_quiet (shown_armed state h armed) h) (may_grow state armed) both;
          grows = grows;
          fits = grind (arith, nat_tests);
        }
    quiet false both is = absurd (cc)

    by : (found : Option Swap) → exchange_rule state h armed found ≡ Continues → GoesOnQuietly state h armed
    by None is = quiet (is_quiet (shown_armed state h armed) h && may_grow state armed) refl is
    by (Some found) is = absurd (elided (completes state h armed found) is)
      where
        elided : (test : Bool) → (if test then Elides found else LetsGo) ≡ Continues → ⊥
        elided true is = cc
        elided false is = cc

-- a turn by a rule is that of a hart whose rule it is
pub by_rule : (old new : Parts) (h : ℕ) (armed : Armed) (rule : ArmedRule) (turn : ModelState → Turn)
    (result : Outcome) → ((from : ModelState) → ActsArmed old h from armed → armed_rule from h armed ≡ rule) →
    TakesTurn (FollowsArmed old h armed rule) turn old new result →
    TakesTurn (λ from. ActsArmed old h from armed) turn old new result
by_rule old new h armed rule turn result is takes =
    as_well takes (λ from acts. record { acts = acts; rule_is = is from acts }) (λ from acts. refl)

pub follows_somewhere : (parts : Parts) (h : ℕ) (armed : Armed) (rule : ArmedRule) → ArmedSomewhere parts h armed →
    ((from : ModelState) → ActsArmed parts h from armed → armed_rule from h armed ≡ rule) →
    FollowsArmedSomewhere parts h armed rule
follows_somewhere parts h armed rule some is = record {
  from = some.from;
  follows = record { acts = some.acts; rule_is = is some.from some.acts };
  free = some.free;
}
