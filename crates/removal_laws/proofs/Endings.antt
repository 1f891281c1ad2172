-- the section of the hart with the least stamp ends by a commit or by a rollback of its own
use Rattle.std.proofs.Common.{◌≡◌, ◌==◌, ◌&&◌, ◌||◌, ◌⊎◌, ℕ, Bool, true, false, None, is_some, refl, ap, inl, inr}
use Rattle.el_base.specs.Winners.{winner_over}
use Rattle.el_base.specs.declared.outcomes.Outcome.{Outcome}
use Rattle.el_base.proofs.Laws.Cases.{clash, false_true}
use Rattle.el_base.proofs.Laws.Tests.{same_test}
use Rattle.el_model.specs.Next.{after}
use Rattle.el_model.specs.State.{is_live}
use Rattle.el_model.proofs.Laws.BusEvents.{by_event}
use Rattle.removal_laws.specs.Laws.{LeastEndsItsOwnSection}
use Rattle.removal_laws.proofs.Laws.Clocks.{closes_it}
use Rattle.removal_laws.proofs.Laws.Promises.{least_stamp_never_loses}
use Rattle.section_laws.proofs.Laws.Endings.{HowItEnds, bus_ends, step_ends}
use Rattle.section_laws.proofs.Laws.Numbered.{requests_are_numbered}
use Rattle.section_laws.specs.Sections.{is_committed, is_rolled_back}

-- a step that ends a section closes an attempt
closes_own : (own commits rolls : Bool) → own ≡ true → (commits ≡ true) ⊎ (rolls ≡ true) →
    (own && (commits || rolls)) ≡ true
closes_own true true rolls own how = refl
closes_own true false rolls own (inl wrong) = false_true wrong
closes_own true false rolls own (inr rolled) = rolled
closes_own false commits rolls own how = false_true own

step_closes : (h g : ℕ) (outcome : Outcome) → (h ≡ g) × HowItEnds outcome → ((h == g) && closes_it outcome) ≡ true
step_closes h g outcome (own, how) =
    closes_own (h == g) (is_committed outcome) (is_rolled_back outcome) (same_test h g own) how

pub least_ends_its_own_section : LeastEndsItsOwnSection
least_ends_its_own_section program config events event h stamp mode same range least live =
    let state = after program config events in
    let numbered = requests_are_numbered program config events same range in
    by_event
    (λ turn. winner_over turn.outcome h ≡ None → is_live turn.state h ≡ false →
    ((event.hart.number == h) && closes_it turn.outcome) ≡ true) state event
    (λ step unnamed ended. step_closes event.hart.number h _ (step_ends state event.hart.number h live ended))
    (λ turn done unnamed ended. clash (ap is_some unnamed) (bus_ends done h numbered live ended))
    (least_stamp_never_loses program config events event h stamp mode least)
