-- what the laws of lock removal say of later attempts, computed at worked states: two harts, each of which has two
-- sections, and writes line B, number 1025, in the first
use Rattle.std.specs.Option.{option_map}
use Rattle.std.proofs.Common.{◌≡◌, ◌++◌, true, List, [], ◌∷◌, Some, refl}
use Rattle.el_base.specs.declared.config.Mode.TheVariants.{Tlr}
use Rattle.el_base.specs.declared.events.Event.{Event}
use Rattle.el_base.specs.declared.events.Kind.TheVariants.{Step, Order, Serve}
use Rattle.computed_runs.proofs.Computing.{computing}
use Rattle.computed_runs.proofs.Given.{event, stamp}
use Rattle.computed_runs.proofs.Rows.Given.{Worker, machine_of, settings, store_word, swap, usual}
use Rattle.el_model.specs.Conflicts.{retains}
use Rattle.el_base.specs.Winners.{winner_over}
use Rattle.el_model.specs.Next.{next, state_after}
use Rattle.el_model.specs.State.{ModelState, head_of}
use Rattle.removal_laws.specs.Laws.{attempt_of, closes}

abbrev worker : Worker
worker = record { words = swap 7 5 10 ∷ store_word 6 11 ∷ store_word 0 10 ∷ swap 7 5 10 ∷ []; registers = usual }

abbrev first : ModelState
first = machine_of (settings 2 Tlr 16 4 16 2000) 128 (worker ∷ worker ∷ [])

-- both are in their sections
abbrev both : List Event
both =
    event Step 0 ∷ event Order 0 ∷ event Serve 0 ∷ event Step 0 ∷ event Step 1 ∷ event Order 1 ∷ event Serve 1
    ∷ event Step 1 ∷ []

-- hart 0 has written line B, and hart 1 waits for it
abbrev deferring : ModelState
deferring =
    state_after first
    (both ++ event Step 0 ∷ event Order 0 ∷ event Serve 0 ∷ event Step 0 ∷ event Step 1 ∷ event Order 1 ∷ [])

-- hart 0, whose stamp is less, retains the line
defers : retains deferring 0 1025 ≡ true
unfolding computing
defers = refl

deferred_head : option_map (λ head. head.stamp) (head_of deferring 1025) ≡ Some (Some (stamp 0 1))
unfolding computing
deferred_head = refl

-- it commits, which closes its attempt, and begins again: the new attempt has a greater clock
-- than the head that was deferred
closes_after_deferring : closes deferring (event Step 0) 0 ≡ true
unfolding computing
closes_after_deferring = refl

later_than_deferred : attempt_of (state_after deferring (event Step 0 ∷ event Step 0 ∷ [])) 0 ≡ Some (stamp 1 0)
unfolding computing
later_than_deferred = refl

-- hart 1 has written line B, and hart 0 asks for it
abbrev asking : ModelState
asking =
    state_after first (both ++ event Step 1 ∷ event Order 1 ∷ event Serve 1 ∷ event Step 1 ∷ event Step 0 ∷ [])

-- hart 1 loses its section to hart 0, whose stamp is less
loses : winner_over (next asking (event Order 0)).outcome 1 ≡ Some 0
unfolding computing
loses = refl

winner : attempt_of (next asking (event Order 0)).state 0 ≡ Some (stamp 0 0)
unfolding computing
winner = refl

-- hart 0 commits, and hart 1 begins its section again, with the stamp that it had
abbrev again : ModelState
again =
    state_after asking
    (event Order 0 ∷ event Serve 0 ∷ event Step 0 ∷ event Step 0 ∷ event Step 1 ∷ event Step 1 ∷
    event Order 1 ∷ event Serve 1 ∷
    event Step 1 ∷ [])

kept_stamp : attempt_of again 1 ≡ Some (stamp 0 1)
unfolding computing
kept_stamp = refl

-- it commits, which closes its attempt, and begins the next one, with a greater clock than the winner's
closes_after_losing : closes again (event Step 1) 1 ≡ true
unfolding computing
closes_after_losing = refl

later_than_winner : attempt_of (state_after again (event Step 1 ∷ event Step 1 ∷ [])) 1 ≡ Some (stamp 1 1)
unfolding computing
later_than_winner = refl
