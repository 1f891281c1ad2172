-- Lock removal: hart 1 has written line B in its section, and harts 2, 3 and 0 wait for B in this order. Probes go up
-- the chain, until that of hart 0, which is the oldest, costs hart 1 its section; then harts 2 and 3, which were told
-- of hart 0, lose theirs as they become the next to have faced hart 0.
use Rattle.std.proofs.Common.{◌≡◌, List, [], ◌∷◌, refl}
use Rattle.el_base.specs.LineAddr.{line_addr}
use Rattle.el_base.specs.declared.config.Mode.TheVariants.{Tlr}
use Rattle.el_base.specs.declared.events.Event.{Event}
use Rattle.el_base.specs.declared.events.Kind.TheVariants.{Step, Order, Serve, Deliver}
use Rattle.el_base.specs.declared.outcomes.Need.TheVariants.{Read, Write}
use Rattle.el_base.specs.declared.outcomes.Outcome.{Outcome}
use Rattle.el_base.specs.declared.outcomes.Outcome.TheVariants.{Missed, Began, Buffered, Delivered}
use Rattle.computed_runs.proofs.Computing.{computing}
use Rattle.computed_runs.proofs.Given.{event, lost, ordered_with, served_with}
use Rattle.computed_runs.proofs.Rows.Given.{machine_of, settings, store_word, swap, usual}
use Rattle.el_model.specs.Next.{outcomes_from, state_after}
use Rattle.el_model.specs.State.{ModelState, hart_of}
use Rattle.mail.specs.Mailbox.{Marker}

abbrev pub first : ModelState
first =
    machine_of (settings 4 Tlr 16 4 16 2000) 128 (
    record { words = swap 7 5 10 ∷ store_word 6 11 ∷ store_word 0 10 ∷ []; registers = usual } ∷
    record { words = swap 7 5 10 ∷ store_word 6 11 ∷ store_word 0 10 ∷ []; registers = usual } ∷
    record { words = swap 7 5 10 ∷ store_word 6 11 ∷ store_word 0 10 ∷ []; registers = usual } ∷
    record { words = swap 7 5 10 ∷ store_word 6 11 ∷ store_word 0 10 ∷ []; registers = usual } ∷ [])

abbrev pub events : List Event
events =
    event Step 0 ∷ event Order 0 ∷ event Serve 0 ∷ event Step 0 ∷ event Step 1 ∷ event Order 1 ∷ event Serve 1 ∷
    event Step 1 ∷ event Step 2 ∷ event Order 2 ∷ event Serve 2 ∷ event Step 2 ∷ event Step 3 ∷ event Order 3 ∷
    event Serve 3 ∷ event Step 3 ∷ event Step 1 ∷ event Order 1 ∷ event Serve 1 ∷ event Step 1 ∷ event Step 2 ∷
    event Step 3 ∷ event Step 0 ∷ event Order 2 ∷ event Order 3 ∷ event Order 0 ∷ event Deliver 0 ∷ event Deliver 3 ∷
    event Deliver 3 ∷ event Deliver 2 ∷ event Deliver 2 ∷ event Deliver 2 ∷ event Deliver 1 ∷ event Deliver 1 ∷
    event Deliver 1 ∷ event Serve 2 ∷ event Serve 3 ∷ event Serve 0 ∷ []

abbrev expected : List Outcome
expected =
    Missed (line_addr 1024) Read ∷ ordered_with [] [] ∷ served_with [] [] ∷ Began ∷ Missed (line_addr 1024) Read ∷
    ordered_with [] [] ∷ served_with [] [] ∷ Began ∷ Missed (line_addr 1024) Read ∷ ordered_with [] [] ∷
    served_with [] [] ∷ Began ∷ Missed (line_addr 1024) Read ∷ ordered_with [] [] ∷ served_with [] [] ∷ Began ∷
    Missed (line_addr 1025) Write ∷ ordered_with [] [] ∷ served_with [] [] ∷ Buffered ∷
    Missed (line_addr 1025) Write ∷ Missed (line_addr 1025) Write ∷ Missed (line_addr 1025) Write ∷
    ordered_with [] [] ∷ ordered_with [] [] ∷ ordered_with [] [] ∷ Delivered (lost []) ∷ Delivered (lost []) ∷
    Delivered (lost []) ∷ Delivered (lost []) ∷ Delivered (lost []) ∷ Delivered (lost []) ∷
    Delivered (lost []) ∷ Delivered (lost []) ∷ Delivered (lost ((1, 0) ∷ [])) ∷ served_with ((2, 0) ∷ []) [] ∷
    served_with ((3, 0) ∷ []) [] ∷ served_with [] [] ∷ []

outcomes : outcomes_from first events ≡ expected
unfolding computing
outcomes = refl

-- who is sent markers as the requests are ordered
abbrev pub ordering : List Event
ordering =
    event Step 0 ∷ event Order 0 ∷ event Serve 0 ∷ event Step 0 ∷ event Step 1 ∷ event Order 1 ∷ event Serve 1 ∷
    event Step 1 ∷ event Step 2 ∷ event Order 2 ∷ event Serve 2 ∷ event Step 2 ∷ event Step 3 ∷ event Order 3 ∷
    event Serve 3 ∷ event Step 3 ∷ event Step 1 ∷ event Order 1 ∷ event Serve 1 ∷ event Step 1 ∷ event Step 2 ∷
    event Step 3 ∷ event Step 0 ∷ event Order 2 ∷ event Order 3 ∷ event Order 0 ∷ []

mail_of_2 : (hart_of (state_after first ordering) 2).mail ≡ Marker 1 ∷ []
unfolding computing
mail_of_2 = refl

mail_of_3 : (hart_of (state_after first ordering) 3).mail ≡ Marker 2 ∷ []
unfolding computing
mail_of_3 = refl

mail_of_0 : (hart_of (state_after first ordering) 0).mail ≡ Marker 3 ∷ []
unfolding computing
mail_of_0 = refl
