-- The laws at worked values: a section and a watch at their longest, a clock that grows, a section that is lost, and
-- one that survives. What the laws do not say is refuted on the same runs.
use Rattle.std.proofs.Common.{◌≡◌, ◌<◌, ℕ, List, [], ◌∷◌, None, Some, true, refl, ap, sym, ◌∙◌, arith}
use Rattle.residency.specs.Cache.{letter_of, read_bit}
use Rattle.el_base.specs.LineAddr.{line_addr}
use Rattle.el_base.specs.declared.config.Mode.TheVariants.{Sle, Tlr}
use Rattle.el_base.specs.declared.events.Event.{Event}
use Rattle.el_base.specs.declared.events.Kind.TheVariants.{Step, Order, Serve}
use Rattle.el_base.specs.declared.outcomes.Cause.TheVariants.{Long}
use Rattle.el_base.specs.declared.outcomes.Need.TheVariants.{Read, Write}
use Rattle.el_base.specs.declared.outcomes.Outcome.TheVariants.{Missed, Began, Buffered, RolledBack, Ran}
use Rattle.computed_runs.proofs.Computing.{computing}
use Rattle.computed_runs.proofs.Given.{event, ordered_with, section, served_with, watch}
use Rattle.computed_runs.proofs.Rows.Given.{machine_of, settings, store_byte, store_word, swap, usual}
use Rattle.el_base.specs.Winners.{winner_over}
use Rattle.el_model.specs.Next.{next, outcomes_from, state_after}
use Rattle.el_model.specs.State.{ModelState, cache_of, hart_of, section_of}
use Rattle.moesi.specs.declared.letter.Letter.TheVariants.{E, S}

-- one hart, whose sections may have two instructions: its section comes to its longest and is
-- rolled back, and its swap runs then
abbrev alone_first : ModelState
alone_first =
    machine_of (settings 1 Tlr 16 4 16 2) 192 (
    record { words = swap 7 5 10 ∷ store_byte 6 11 ∷ store_word 0 10 ∷ []; registers = usual } ∷ [])

abbrev to_its_longest : List Event
to_its_longest =
    event Step 0 ∷ event Order 0 ∷ event Serve 0 ∷ event Step 0 ∷ event Step 0 ∷ event Order 0 ∷ event Serve 0
    ∷ event Step 0 ∷ []

to_its_longest_outcomes : outcomes_from alone_first to_its_longest
    ≡ Missed (line_addr 1024) Read ∷ ordered_with [] [] ∷ served_with [] [] ∷ Began ∷ Missed (line_addr 1025) Write
    ∷ ordered_with [] [] ∷ served_with [] [] ∷ Buffered ∷ []
unfolding computing
to_its_longest_outcomes = refl

abbrev at_its_longest : ModelState
at_its_longest = state_after alone_first to_its_longest

longest : section_of at_its_longest 0 ≡ Some (section 2 65536 0 1)
unfolding computing
longest = refl

abbrev rolled_back : ModelState
rolled_back = (next at_its_longest (event Step 0)).state

ends_itself : (next at_its_longest (event Step 0)).outcome ≡ RolledBack Long
unfolding computing
ends_itself = refl

no_section_left : section_of rolled_back 0 ≡ None
unfolding computing
no_section_left = refl

-- the attempt has closed, nine events after the start, and the clock has grown by one
clock_before : (hart_of at_its_longest 0).clock ≡ 0
unfolding computing
clock_before = refl

clock_after : (hart_of rolled_back 0).clock ≡ 1
unfolding computing
clock_after = refl

-- the swap runs outside of a section, and is watched with the greatest count that a watch may have here
swap_runs : (next rolled_back (event Step 0)).outcome ≡ Ran
unfolding computing
swap_runs = refl

watched : (hart_of (next rolled_back (event Step 0)).state 0).predictor.watch ≡ Some (watch 131072 65536 0 1)
unfolding computing
watched = refl

-- wrong: a section has fewer instructions than it may have
IsNeverLongest : ModelState → ℕ → Type 0
IsNeverLongest state long = (count : ℕ) → section_of state 0 ≡ Some (section count 65536 0 1) → count < long

sections_come_to_their_longest : IsNeverLongest at_its_longest 2 → ⊥
unfolding IsNeverLongest
sections_come_to_their_longest short = let less : 2 < 2 = short 2 longest in absurd (omega (arith, less))

-- two harts: as the second asks to write the line of the first one's lock, the first one's section is lost to it
abbrev both_first : ModelState
both_first =
    machine_of (settings 2 Sle 16 4 16 2000) 192 (
    record { words = swap 7 5 10 ∷ store_byte 6 11 ∷ store_word 0 10 ∷ []; registers = usual } ∷
    record { words = store_byte 6 10 ∷ []; registers = usual } ∷ [])

abbrev to_the_write : List Event
to_the_write = event Step 0 ∷ event Order 0 ∷ event Serve 0 ∷ event Step 0 ∷ event Step 1 ∷ []

to_the_write_outcomes : outcomes_from both_first to_the_write
    ≡ Missed (line_addr 1024) Read ∷ ordered_with [] [] ∷ served_with [] [] ∷ Began ∷ Missed (line_addr 1024) Write ∷ []
unfolding computing
to_the_write_outcomes = refl

abbrev asked : ModelState
asked = state_after both_first to_the_write

live : section_of asked 0 ≡ Some (section 1 65536 0 1)
unfolding computing
live = refl

loses : winner_over (next asked (event Order 1)).outcome 0 ≡ Some 1
unfolding computing
loses = refl

lost_it : section_of (next asked (event Order 1)).state 0 ≡ None
unfolding computing
lost_it = refl

-- two harts that elide one lock: the first one's section survives the second one's read of the line, with its bit
abbrev sharing_first : ModelState
sharing_first =
    machine_of (settings 2 Sle 16 4 16 2000) 192 (
    record { words = swap 7 5 10 ∷ store_byte 6 11 ∷ store_word 0 10 ∷ []; registers = usual } ∷
    record { words = swap 7 5 10 ∷ store_byte 6 12 ∷ store_word 0 10 ∷ []; registers = usual } ∷ [])

abbrev to_the_read : List Event
to_the_read = event Step 0 ∷ event Order 0 ∷ event Serve 0 ∷ event Step 0 ∷ event Step 1 ∷ event Order 1 ∷ []

abbrev ordered : ModelState
ordered = state_after sharing_first to_the_read

abbrev shared : ModelState
shared = (next ordered (event Serve 1)).state

is_served : (next ordered (event Serve 1)).outcome ≡ served_with [] []
unfolding computing
is_served = refl

still_live : section_of shared 0 ≡ Some (section 1 65536 0 1)
unfolding computing
still_live = refl

bit_before : read_bit (cache_of ordered 0) 1024 ≡ true
unfolding computing
bit_before = refl

bit_after : read_bit (cache_of shared 0) 1024 ≡ true
unfolding computing
bit_after = refl

letter_before : letter_of (cache_of ordered 0) 1024 ≡ E
unfolding computing
letter_before = refl

letter_after : letter_of (cache_of shared 0) 1024 ≡ S
unfolding computing
letter_after = refl

-- wrong: another hart's event leaves the cache of a section that survives as it was; its letters may change
IsCacheKept : ModelState → ModelState → Type 0
IsCacheKept state new = cache_of new 0 ≡ cache_of state 0

caches_are_not_kept : IsCacheKept ordered shared → ⊥
unfolding IsCacheKept
caches_are_not_kept same = differ (sym letter_after ∙ ap (λ cache. letter_of cache 1024) same ∙ letter_before)
  where
    differ : S ≡ E → ⊥
    differ wrong = absurd (cc)
