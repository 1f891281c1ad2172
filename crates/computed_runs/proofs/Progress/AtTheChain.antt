-- what the laws of sections say, computed at one worked state: four harts in lock removal, of which hart 1 has written
-- line B, number 1025, in its section, and harts 2, 3 and 0 wait for B in this order. Line A, number 1024, has the lock
-- word. Lists are by ascending hart: what stands at place h is said of hart h
use Rattle.std.specs.Prelude.{count_by, is_some, nat_lt, slice_index}
use Rattle.std.specs.List.{list_all}
use Rattle.std.specs.Option.{option_map}
use Rattle.std.proofs.Common.{◌≡◌, ◌++◌, ◌==◌, ℕ, Bool, true, false, List, [], ◌∷◌, length, map, replicate, None, Some}
use Rattle.std.proofs.Common.{refl, if◌then◌else◌}
use Rattle.residency.specs.Cache.{has_marks, letter_of, room_of, way_of, write_bit, write_bits_of}
use Rattle.chronicle.specs.Serial.{serial}
use Rattle.el_base.specs.declared.entries.Entry.{Entry}
use Rattle.el_base.specs.declared.events.Event.{Event}
use Rattle.el_base.specs.declared.events.Kind.TheVariants.{Step, Order, Serve, Deliver}
use Rattle.el_base.specs.declared.outcomes.Outcome.TheVariants.{Committed, Stalled}
use Rattle.computed_runs.proofs.Computing.{computing}
use Rattle.computed_runs.proofs.Given.{ascending, event, patched, section}
use Rattle.computed_runs.proofs.Rows.ChainOfFour as chain
use Rattle.computed_runs.proofs.Rows.Given.{usual}
use Rattle.el_model.specs.InSection.{shown_in}
use Rattle.el_model.specs.Next.{entries_from, next, shown_of, state_after}
use Rattle.el_model.specs.State.{Hart, ModelState, cache_of, hart_of, is_live, raised_of, section_of}
use Rattle.el_model.specs.Upcoming.{is_release}
use Rattle.mail.specs.Mailbox.{Marker, Probe}
use Rattle.moesi.specs.declared.letter.Letter.TheVariants.{I, M, S}
use Rattle.rv_alu.specs.declared.view.HartStatus.TheVariants.{Running}
use Rattle.rv_alu.specs.declared.view.HartView.{HartView}
use Rattle.rv_flat.specs.FlatState.{view_of}
use Rattle.section_laws.specs.Messages.{origins, senders}
use Rattle.section_laws.specs.Sections.{begins, commits, count_of, loses, rolls_back}

abbrev waiting : ModelState
waiting = state_after chain.first chain.ordering

-- each message is delivered, the last of which costs hart 1 its section
abbrev delivering : List Event
delivering =
    event Deliver 0 ∷ event Deliver 3 ∷ event Deliver 3 ∷ event Deliver 2 ∷ event Deliver 2 ∷ event Deliver 2 ∷
    event Deliver 1 ∷
    event Deliver 1 ∷ event Deliver 1 ∷ []

abbrev delivered : ModelState
delivered = state_after waiting delivering

-- what is read of each hart
abbrev live_with_bits : Hart → Bool × Bool
live_with_bits hart = (is_some hart.section, has_marks hart.cache)

-- each hart is in its section and has bits; hart 1, once it has lost its section, has none
bits_at_first : map live_with_bits waiting.harts ≡ (true, true) ∷ (true, true) ∷ (true, true) ∷ (true, true) ∷ []
unfolding computing
bits_at_first = refl

bits_after_the_loss : map live_with_bits delivered.harts ≡ (true, true) ∷ (false, false) ∷ (true, true)
    ∷ (true, true) ∷ []
unfolding computing
bits_after_the_loss = refl

-- each predictor has 64 counters, none above 3
counters : map (λ hart. length hart.predictor.counters) waiting.harts ≡ 64 ∷ 64 ∷ 64 ∷ 64 ∷ []
unfolding computing
counters = refl

small_counters : map (λ hart. list_all (λ counter. nat_lt counter 4) hart.predictor.counters) waiting.harts
    ≡ true ∷ true ∷ true ∷ true ∷ []
unfolding computing
small_counters = refl

-- no hart has a raised request or a hold, and harts 2, 3 and 0 have an ordered request each, hart 1 none
none_raised : map (λ hart. is_some hart.raised) waiting.harts ≡ false ∷ false ∷ false ∷ false ∷ []
unfolding computing
none_raised = refl

none_held : map (λ hart. is_some hart.held_line) waiting.harts ≡ false ∷ false ∷ false ∷ false ∷ []
unfolding computing
none_held = refl

ordered_harts : map (λ request. request.hart) waiting.order ≡ 2 ∷ 3 ∷ 0 ∷ []
unfolding computing
ordered_harts = refl

-- the four harts have numbers below eight, and so have the harts of the requests
four_harts : length waiting.harts ≡ 4
unfolding computing
four_harts = refl

-- hart 0 from its first miss to its section: it has a raised request, then an ordered one,
-- then a hold, then none of them
abbrev waits_of : ModelState → Bool × ℕ × Bool
waits_of state = (
  is_some (raised_of state 0),
  count_by (λ request. request.hart == 0) state.order,
  is_some (hart_of state 0).held_line,
)

raised_first : waits_of (state_after chain.first (event Step 0 ∷ [])) ≡ (true, 0, false)
unfolding computing
raised_first = refl

-- the raised request is its own
raised_is_own : option_map (λ request. request.hart) (raised_of (state_after chain.first (event Step 0 ∷ [])) 0)
    ≡ Some 0
unfolding computing
raised_is_own = refl

then_ordered : waits_of (state_after chain.first (event Step 0 ∷ event Order 0 ∷ [])) ≡ (false, 1, false)
unfolding computing
then_ordered = refl

then_held : waits_of (state_after chain.first (event Step 0 ∷ event Order 0 ∷ event Serve 0 ∷ [])) ≡ (false, 0, true)
unfolding computing
then_held = refl

then_inside : waits_of (state_after chain.first (event Step 0 ∷ event Order 0 ∷ event Serve 0 ∷ event Step 0 ∷ []))
    ≡ (false, 0, false)
unfolding computing
then_inside = refl

-- line A is shared by all; line B is M in the cache of hart 1, and in no other
letters_of_lock : map (λ hart. letter_of hart.cache 1024) waiting.harts ≡ S ∷ S ∷ S ∷ S ∷ []
unfolding computing
letters_of_lock = refl

letters_of_data : map (λ hart. letter_of hart.cache 1025) waiting.harts ≡ I ∷ M ∷ I ∷ I ∷ []
unfolding computing
letters_of_data = refl

-- hart 1, which has it as M, is the one that has written it
written : map (λ hart. write_bit hart.cache 1025) waiting.harts ≡ false ∷ true ∷ false ∷ false ∷ []
unfolding computing
written = refl

-- and line B is in no other cache
elsewhere_in_no_cache : map (λ hart. is_some (way_of hart.cache 1025)) waiting.harts ≡ false ∷ true ∷ false ∷ false ∷ []
unfolding computing
elsewhere_in_no_cache = refl

-- the lines in each set of a cache: 16 sets, of at most one line of the four that they may have,
-- each line in the set of its number
abbrev lines_of : Hart → List (List ℕ)
lines_of hart = map (λ set. map (λ way. way.line) set) hart.cache

lines_of_writer : lines_of (hart_of waiting 1) ≡ (1024 ∷ []) ∷ (1025 ∷ []) ∷ replicate 14 []
unfolding computing
lines_of_writer = refl

lines_of_others : map (λ h. lines_of (hart_of waiting h)) (0 ∷ 2 ∷ 3 ∷ [])
    ≡ ((1024 ∷ []) ∷ replicate 15 []) ∷ ((1024 ∷ []) ∷ replicate 15 []) ∷ ((1024 ∷ []) ∷ replicate 15 []) ∷ []
unfolding computing
lines_of_others = refl

-- line B has room in the cache of each hart that waits for it
room_for_data : map (λ h. room_of 4 (cache_of waiting h) 1025) (2 ∷ 3 ∷ 0 ∷ []) ≡ true ∷ true ∷ true ∷ []
unfolding computing
room_for_data = refl

-- each section has written fewer lines than the 16 that it may, so each hart that waits may write one more
written_lines : map (λ hart. write_bits_of hart.cache) waiting.harts ≡ 0 ∷ 1 ∷ 0 ∷ 0 ∷ []
unfolding computing
written_lines = refl

-- after hart 0 took its marker: no mailbox has a message twice, each names another hart,
-- and hart 0 has hart 3 before it
abbrev probed : ModelState
probed = state_after waiting (event Deliver 0 ∷ [])

mailboxes : map (λ hart. hart.mail) probed.harts ≡ [] ∷ [] ∷ (Marker 1 ∷ []) ∷ (Marker 2 ∷ Probe 0 ∷ []) ∷ []
unfolding computing
mailboxes = refl

before_each : map (λ hart. hart.upstream) probed.harts ≡ (3 ∷ []) ∷ [] ∷ [] ∷ [] ∷ []
unfolding computing
before_each = refl

-- once all is delivered, hart 1 was told of harts 0, 2 and 3, hart 2 of 0 and 3, and hart 3 of 0
told_harts : map (λ hart. ascending hart.told) delivered.harts ≡ [] ∷ (0 ∷ 2 ∷ 3 ∷ []) ∷ (0 ∷ 3 ∷ []) ∷ (0 ∷ []) ∷ []
unfolding computing
told_harts = refl

-- and of each once, as the lists are no longer
told_of : map (λ hart. length hart.told) delivered.harts ≡ 0 ∷ 3 ∷ 2 ∷ 1 ∷ []
unfolding computing
told_of = refl

-- fewer markers and probes in each mailbox than there are harts
markers : map (λ hart. length (senders hart.mail)) probed.harts ≡ 0 ∷ 0 ∷ 1 ∷ 1 ∷ []
unfolding computing
markers = refl

probes : map (λ hart. length (origins hart.mail)) probed.harts ≡ 0 ∷ 0 ∷ 0 ∷ 1 ∷ []
unfolding computing
probes = refl

-- a step of a hart that waits is stalled, and that of hart 1 commits. `ChainOfFour` has steps that miss a line and
-- buffer an instruction, and `AfterRollbacks` has one that rolls back
steps : map (λ h. (next waiting (event Step h)).outcome) (0 ∷ 1 ∷ 2 ∷ 3 ∷ []) ≡ Stalled ∷ Committed 3
    ∷ Stalled ∷ Stalled ∷ []
unfolding computing
steps = refl

-- the sections that each hart has begun, committed, rolled back and lost over the whole chain, and whether one is live
abbrev history : List Entry
history = entries_from chain.first chain.events

abbrev account_of : ℕ → List ℕ
account_of h =
    count_of (begins h) history ∷ count_of (commits h) history ∷ count_of (rolls_back h) history
    ∷ count_of (loses h) history
    ∷ (if is_live (state_after chain.first chain.events) h then 1 else 0) ∷ []

accounts : map account_of (0 ∷ 1 ∷ 2 ∷ 3 ∷ [])
    ≡ (1 ∷ 0 ∷ 0 ∷ 0 ∷ 1 ∷ []) ∷ (1 ∷ 0 ∷ 0 ∷ 1 ∷ 0 ∷ []) ∷
    (1 ∷ 0 ∷ 0 ∷ 1 ∷ 0 ∷ []) ∷ (1 ∷ 0 ∷ 0 ∷ 1 ∷ 0 ∷ []) ∷ []
unfolding computing
accounts = refl

-- 26 events and the commit of hart 1: three instructions take effect, all of hart 1
serial_order : serial (entries_from chain.first (chain.ordering ++ event Step 1 ∷ [])) ≡ 1 ∷ 1 ∷ 1 ∷ []
unfolding computing
serial_order = refl

as_many_events : length (chain.ordering ++ event Step 1 ∷ []) ≡ 27
unfolding computing
as_many_events = refl

-- hart 1 has committed and stopped, where its code ends: it has no section, no request and no hold
abbrev stopped : ModelState
stopped = state_after waiting (event Step 1 ∷ event Step 1 ∷ [])

stopped_is_outside : section_of stopped 1 ≡ None
unfolding computing
stopped_is_outside = refl

stopped_raises_none : raised_of stopped 1 ≡ None
unfolding computing
stopped_raises_none = refl

stopped_holds_none : (hart_of stopped 1).held_line ≡ None
unfolding computing
stopped_holds_none = refl

not_in_order : map (λ request. request.hart) stopped.order ≡ 2 ∷ 3 ∷ 0 ∷ []
unfolding computing
not_in_order = refl

-- while the others take their messages, the section of hart 1 stays as it was
abbrev taking : List Event
taking = event Deliver 0 ∷ event Deliver 3 ∷ event Deliver 3 ∷ event Deliver 2 ∷ event Deliver 2 ∷ event Deliver 2 ∷ []

same_section : map (λ state. section_of state 1) (waiting ∷ state_after waiting taking ∷ [])
    ≡ Some (section 2 65536 0 1) ∷ Some (section 2 65536 0 1) ∷ []
unfolding computing
same_section = refl

-- it ends in the same view, before and after
abbrev shown : HartView
shown = record { pc = 135176; regs = patched (replicate 32 0) usual; reserved = None; status = Running }

shown_before : shown_of waiting 1 ≡ shown
unfolding computing
shown_before = refl

shown_after : shown_of (state_after waiting taking) 1 ≡ shown
unfolding computing
shown_after = refl

-- the release of hart 1 comes next, and its step commits, as `steps` has it
release_is_next : is_release (shown_in waiting 1 (section 2 65536 0 1)) 1 65536 0 ≡ true
unfolding computing
release_is_next = refl

-- all three take effect at once: before, hart 1 is at its acquire and its store is not committed; after,
-- it is past its release and it is
store_before : slice_index waiting.committed.bytes 64 ≡ 0
unfolding computing
store_before = refl

store_after : slice_index (next waiting (event Step 1)).state.committed.bytes 64 ≡ 5
unfolding computing
store_after = refl

counter_before : (view_of waiting.committed 1).pc ≡ 135168
unfolding computing
counter_before = refl

counter_after : (view_of (next waiting (event Step 1)).state.committed 1).pc ≡ 135180
unfolding computing
counter_after = refl
