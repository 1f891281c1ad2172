-- Two harts elide one lock, and each stores to a line of its own. As the second commits, the section of the first goes
-- on: its private run is covered, and shows what it showed. What it does not say is refuted on the same run.
use Rattle.std.specs.Prelude.{slice_index}
use Rattle.std.proofs.Common.{◌≡◌, ℕ, List, [], ◌∷◌, None, Some, true, replicate, refl, arith, ◌<◌}
use Rattle.residency.specs.Cache.{read_bit}
use Rattle.el_base.specs.LineAddr.{line_addr}
use Rattle.el_base.specs.declared.config.Mode.TheVariants.{Sle}
use Rattle.el_base.specs.declared.events.Event.{Event}
use Rattle.el_base.specs.declared.events.Kind.TheVariants.{Step, Order, Serve}
use Rattle.el_base.specs.declared.outcomes.Need.TheVariants.{Read, Write}
use Rattle.el_base.specs.declared.outcomes.Outcome.{Outcome}
use Rattle.el_base.specs.declared.outcomes.Outcome.TheVariants.{Missed, Began, Buffered, Committed}
use Rattle.computed_runs.proofs.Computing.{computing}
use Rattle.computed_runs.proofs.Given.{event, ordered_with, patched, section, served_with}
use Rattle.computed_runs.proofs.Rows.Given.{machine_of, settings, store_byte, store_word, swap, usual}
use Rattle.el_model.specs.Next.{outcomes_from, state_after}
use Rattle.el_model.specs.State.{ModelState, cache_of, section_of}
use Rattle.el_model.specs.Upcoming.{next_swap}
use Rattle.rv_alu.specs.Loaded.{loaded}
use Rattle.rv_alu.specs.declared.view.HartStatus.TheVariants.{Running}
use Rattle.rv_alu.specs.declared.view.HartView.{HartView}
use Rattle.rv_flat.specs.FlatState.{FlatState, status_of, view_of}
use Rattle.rv_flat.specs.Memory.{byte_in}
use Rattle.rv_flat.specs.Run.{alone}
use Rattle.run_laws.specs.PrivateRun.{IsCoveredStep}

abbrev first : ModelState
first =
    machine_of (settings 2 Sle 16 4 16 2000) 192 (
    record { words = swap 7 5 10 ∷ store_byte 6 11 ∷ store_word 0 10 ∷ []; registers = usual } ∷
    record { words = swap 7 5 10 ∷ store_byte 6 12 ∷ store_word 0 10 ∷ []; registers = usual } ∷ [])

-- both are in their sections
abbrev before : List Event
before =
    event Step 0 ∷ event Order 0 ∷ event Serve 0 ∷ event Step 0 ∷ event Step 1 ∷ event Order 1 ∷
    event Serve 1 ∷ event Step 1 ∷
    event Step 0 ∷ event Order 0 ∷ event Serve 0 ∷ event Step 0 ∷ event Step 1 ∷ event Order 1 ∷ event Serve 1
    ∷ event Step 1 ∷ []

-- the second hart commits
abbrev commit : Event
commit = event Step 1

abbrev expected : List Outcome
expected =
    Missed (line_addr 1024) Read ∷ ordered_with [] [] ∷ served_with [] [] ∷ Began ∷ Missed (line_addr 1024) Read ∷
    ordered_with [] [] ∷ served_with [] [] ∷ Began ∷ Missed (line_addr 1025) Write ∷ ordered_with [] [] ∷
    served_with [] [] ∷ Buffered ∷
    Missed (line_addr 1026) Write ∷ ordered_with [] [] ∷ served_with [] [] ∷ Buffered ∷ []

outcomes : outcomes_from first before ≡ expected
unfolding computing
outcomes = refl

outcome : outcomes_from (state_after first before) (commit ∷ []) ≡ Committed 3 ∷ []
unfolding computing
outcome = refl

-- what is committed before the commit and after it
abbrev old : FlatState
old = (state_after first before).committed

abbrev new : FlatState
new = (state_after (state_after first before) (commit ∷ [])).committed

-- the first hart has a section of two instructions, before and after
live : section_of (state_after first before) 0 ≡ Some (section 2 65536 0 1)
unfolding computing
live = refl

still_live : section_of (state_after (state_after first before) (commit ∷ [])) 0 ≡ Some (section 2 65536 0 1)
unfolding computing
still_live = refl

-- its acquire comes next in what is committed, and finds the old value there, before and after
acquire : next_swap old 0 ≡ Some (record { word = 65536; old = 0; new = 1 })
unfolding computing
acquire = refl

same_acquire : next_swap new 0 ≡ Some (record { word = 65536; old = 0; new = 1 })
unfolding computing
same_acquire = refl

lock_line : read_bit (cache_of (state_after first before) 0) 1024 ≡ true
unfolding computing
lock_line = refl

-- its store is covered, and it runs on
store : IsCoveredStep (alone old 0 1) 0 65536 (cache_of (state_after first before) 0)
unfolding computing
store = record { goes_on = refl; unmixed = refl; bit = refl }

running : status_of (alone old 0 2) 0 ≡ Running
unfolding computing
running = refl

-- it ends in the same view
abbrev view : HartView
view = record { pc = 131080; regs = patched (replicate 32 0) usual; reserved = None; status = Running }

old_view : view_of (alone old 0 2) 0 ≡ view
unfolding computing
old_view = refl

new_view : view_of (alone new 0 2) 0 ≡ view
unfolding computing
new_view = refl

-- and shows its own store, which is not committed
shown_store : slice_index (alone new 0 2).bytes 64 ≡ 5
unfolding computing
shown_store = refl

not_committed : slice_index new.bytes 64 ≡ 0
unfolding computing
not_committed = refl

differ : (a b : ℕ) → b < a → a ≡ b → ⊥
differ a b less same = absurd (omega (arith, less, same))

-- wrong: the lock word that a section shows is the committed one
LockWordIsCommitted : FlatState → FlatState → ℕ → Type 0
LockWordIsCommitted committed shown word =
    loaded (byte_in shown.base shown.bytes) word 4 ≡ loaded (byte_in committed.base committed.bytes) word 4

lock_word_is_not_committed : LockWordIsCommitted old (alone old 0 2) 65536 → ⊥
unfolding computing LockWordIsCommitted
lock_word_is_not_committed same = differ 1 0 (omega arith) same

-- wrong: another hart's event changes no byte that a section shows; it shows what the other hart has committed
EveryByteIsShownAsBefore : FlatState → FlatState → ℕ → ℕ → Type 0
EveryByteIsShownAsBefore old new h count =
    (place : ℕ) → slice_index (alone new h count).bytes place ≡ slice_index (alone old h count).bytes place

bytes_are_not_all_shown_as_before : EveryByteIsShownAsBefore old new 0 2 → ⊥
unfolding computing EveryByteIsShownAsBefore
bytes_are_not_all_shown_as_before same = differ 5 0 (omega arith) (same 128)
