-- what the laws of sections say of tries and of rollbacks, computed at worked states of lock elision
use Rattle.std.specs.Prelude.{is_some}
use Rattle.std.proofs.Common.{◌≡◌, ◌++◌, true, List, [], ◌∷◌, refl}
use Rattle.el_base.specs.declared.config.Mode.TheVariants.{Sle}
use Rattle.el_base.specs.declared.events.Event.{Event}
use Rattle.el_base.specs.declared.events.Kind.TheVariants.{Step, Order, Serve}
use Rattle.el_base.specs.declared.outcomes.Cause.TheVariants.{Room}
use Rattle.el_base.specs.declared.outcomes.Outcome.TheVariants.{Began, RolledBack, Ran}
use Rattle.computed_runs.proofs.Computing.{computing}
use Rattle.computed_runs.proofs.Given.{event}
use Rattle.computed_runs.proofs.Rows.Given.{load_word, machine_of, settings, store_beyond, swap, usual}
use Rattle.el_model.specs.Next.{next, state_after}
use Rattle.el_model.specs.Plain.{candidate_of}
use Rattle.el_model.specs.State.{ModelState, hart_of}

-- hart 0 begins a section, and hart 1 stores to the line of its lock word
abbrev pair : ModelState
pair =
    machine_of (settings 2 Sle 16 4 16 2000) 64 (
    record { words = swap 7 5 10 ∷ []; registers = usual } ∷
    record {
      words = store_beyond 4 6 10 ∷ store_beyond 4 6 10 ∷ store_beyond 4 6 10 ∷ store_beyond 4 6 10 ∷ [];
      registers = usual;
    } ∷ [])

-- one section is begun and lost
abbrev loss : List Event
loss =
    event Step 0 ∷ event Order 0 ∷ event Serve 0 ∷ event Step 0 ∷ event Step 1 ∷ event Order 1 ∷ event Serve 1
    ∷ event Step 1 ∷ []

-- three losses in a row are counted
three_tries : (hart_of (state_after pair (loss ++ loss ++ loss)) 0).tries ≡ 3
unfolding computing
three_tries = refl

-- the fourth is not: the count begins again, and the next candidate runs outside of a section
no_fourth : (hart_of (state_after pair (loss ++ loss ++ loss ++ loss)) 0).tries ≡ 0
unfolding computing
no_fourth = refl

falls_back : (hart_of (state_after pair (loss ++ loss ++ loss ++ loss)) 0).fallback ≡ true
unfolding computing
falls_back = refl

-- one set of two ways: a section that needs a third line is rolled back by its hart, which then takes the lock
abbrev crowded : ModelState
crowded =
    machine_of (settings 1 Sle 1 2 16 2000) 192
    (record { words = swap 7 5 10 ∷ load_word 7 11 ∷ swap 7 5 12 ∷ []; registers = usual } ∷ [])

abbrev filling : List Event
filling =
    event Step 0 ∷ event Order 0 ∷ event Serve 0 ∷ event Step 0 ∷ event Step 0 ∷ event Order 0 ∷ event Serve 0
    ∷ event Step 0 ∷ []

rolled_back : (next (state_after crowded filling) (event Step 0)).outcome ≡ RolledBack Room
unfolding computing
rolled_back = refl

-- the acquire comes next again, as a candidate; it runs, and begins no section
abbrev back : List Event
back = filling ++ event Step 0 ∷ []

is_candidate : is_some (candidate_of (state_after crowded back) 0) ≡ true
unfolding computing
is_candidate = refl

runs_outside : (next (state_after crowded back) (event Step 0)).outcome ≡ Ran
unfolding computing
runs_outside = refl

-- the next acquire, of another lock, begins a section
abbrev asking : List Event
asking = back ++ event Step 0 ∷ event Step 0 ∷ event Step 0 ∷ event Order 0 ∷ event Serve 0 ∷ []

begins_again : (next (state_after crowded asking) (event Step 0)).outcome ≡ Began
unfolding computing
begins_again = refl
