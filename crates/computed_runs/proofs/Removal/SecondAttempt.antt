-- The laws at worked values: a hart commits a section and begins another one.
use Rattle.std.proofs.Common.{◌≡◌, zero, suc, true, List, [], ◌∷◌, Some, refl}
use Rattle.el_base.specs.declared.config.Mode.TheVariants.{Tlr}
use Rattle.el_base.specs.declared.events.Event.{Event}
use Rattle.el_base.specs.declared.events.Kind.TheVariants.{Order, Serve, Step}
use Rattle.el_base.specs.declared.outcomes.Outcome.TheVariants.{Began, Committed}
use Rattle.computed_runs.proofs.Computing.{computing}
use Rattle.computed_runs.proofs.Given.{event, stamp}
use Rattle.computed_runs.proofs.Rows.Given.{machine_of, settings, store_word, swap, usual}
use Rattle.el_model.specs.Next.{outcomes_from, state_after}
use Rattle.el_model.specs.State.{ModelState}
use Rattle.removal_laws.specs.Laws.{attempt_of, closes}
use Rattle.stamp.specs.Stamps.{Stamp}

-- it takes a lock, gives it back and takes it again
abbrev first : ModelState
first =
    machine_of (settings 1 Tlr 16 4 16 2000) 128
    (record { words = swap 7 5 10 ∷ store_word 0 10 ∷ swap 7 5 10 ∷ []; registers = usual } ∷ [])

abbrev beginning : List Event
beginning = event Step 0 ∷ event Order 0 ∷ event Serve 0 ∷ event Step 0 ∷ []

abbrev again : List Event
again = event Step 0 ∷ event Step 0 ∷ []

outcomes : outcomes_from (state_after first beginning) again ≡ Committed 2 ∷ Began ∷ []
unfolding computing
outcomes = refl

first_attempt : attempt_of (state_after first beginning) 0 ≡ Some (stamp 0 0)
unfolding computing
first_attempt = refl

closed : closes (state_after first beginning) (event Step 0) 0 ≡ true
unfolding computing
closed = refl

second_attempt : attempt_of (state_after (state_after first beginning) again) 0 ≡ Some (stamp 1 0)
unfolding computing
second_attempt = refl

-- a wrong statement: an attempt has the clock of the one before it
abbrev SameClock : Type 0
SameClock =
    (earlier later : Stamp) → attempt_of (state_after first beginning) 0 ≡ Some earlier →
    attempt_of (state_after (state_after first beginning) again) 0 ≡ Some later → earlier.clock ≡ later.clock

another_clock : SameClock → ⊥
another_clock same = differs (same (stamp 0 0) (stamp 1 0) first_attempt second_attempt)
  where
    differs : zero ≡ suc zero → ⊥
    differs wrong = absurd (cc)
