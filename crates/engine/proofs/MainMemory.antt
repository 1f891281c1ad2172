-- main memory after an event of the bus
use Rattle.std.proofs.Common.{◌≡◌, ◌≢◌, ◌∙◌, ◌<◌, ◌-◌, ◌/◌, arith, ℕ, Bool, true, false, List, length, Option, None}
use Rattle.std.proofs.Common.{Some, option_map, ap, refl, sym}
use Rattle.std.proofs.Common.{if◌then◌else◌}
use Rattle.std.specs.Prelude.{slice_set}
use Rattle.bus_order.specs.Order.{Request, request_of}
use Rattle.residency.specs.Cache.{letter_in, letter_of, way_of}
use Rattle.cache_sets.specs.Cached.{Cached, Copy, bytes_of, copy_in}
use Rattle.residency.specs.Residency.{Way}
use Rattle.coherence.proofs.Laws.Fetched.{copy_resident}
use Rattle.coherence.proofs.Laws.Offered.{lent_at}
use Rattle.coherence.proofs.Laws.Owners.{letter_is}
use Rattle.coherence.specs.Beginning.{line_of}
use Rattle.coherence.specs.Caches.{cache_at}
use Rattle.coherence.specs.Served.{lines_after, victim_of, with_copy_back, with_line_back}
use Rattle.el_base.specs.declared.events.Event.{Event}
use Rattle.el_base.specs.declared.events.Kind.{Kind}
use Rattle.el_base.specs.declared.events.Kind.TheVariants as kinds
use Rattle.el_base.specs.declared.line.TheConstants.{LINE_BYTES}
use Rattle.el_base.specs.declared.outcomes.Outcome.{Outcome}
use Rattle.el_base.specs.declared.outcomes.Outcome.TheVariants as outcomes
use Rattle.el_model.specs.Next.{next}
use Rattle.el_model.specs.State.{ModelState, cache_of}
use Rattle.engine.specs.MainMemory.{back_as, back_by, back_for, if_dirty, leaving_line, line_written_back, lines_from}
use Rattle.engine.specs.MainMemory.{with_committed}
use Rattle.line_pool.specs.Pooled.{Pooled}
use Rattle.moesi.specs.Letters.{is_dirty}
use Rattle.moesi.specs.declared.letter.Letter.TheVariants.{I}
use Rattle.rv_flat.specs.FlatState.{FlatState}
use Rattle.snoop.specs.MainMemory.{lines_for, lines_served}
use Rattle.snoop.specs.Shows.{BusState, Shows, Tells, lent_copies}

-- a line without a copy has the letter I
no_letter : (cached : Cached) (line : ℕ) → copy_in cached line ≡ None → letter_of cached.residency line ≡ I
no_letter cached line none = by (way_of cached.residency line) none
  where
    by : (way : Option Way) → option_map {U = Copy} (λ w. record { letter = w.letter; bytes = bytes_of cached line })
        way ≡ None → letter_in way ≡ I
    by None is = refl
    by (Some way) is = absurd (cc)

-- a line is written back with the committed bytes
put_back : (flat : FlatState) (first line : ℕ) (bytes : List ℕ) (lines : List (List ℕ)) (dirty : Bool) →
    first ≡ flat.base / LINE_BYTES → bytes ≡ line_of flat line →
    (if dirty then slice_set lines (line - first) bytes else lines) ≡ with_committed flat lines
    (if dirty then Some line else None)
put_back flat first line bytes lines true first_is bytes_are =
    ap (λ n. slice_set lines (line - n) bytes) first_is ∙ ap (slice_set lines (line - flat.base / LINE_BYTES)) bytes_are
put_back flat first line bytes lines false first_is bytes_are = refl

-- a hart's cache with the bytes of a pool is that of the state
abbrev lent_to : Pooled → BusState → ℕ → Cached
lent_to pool bus h = cache_at (lent_copies pool bus.copies).caches h

cache_is : (pool : Pooled) (bus : BusState) (state : ModelState) (h : ℕ) → Shows bus state →
    (lent_to pool bus h).residency ≡ cache_of state h
cache_is pool bus state h shows = ap (λ (c : Cached). c.residency) (lent_at pool bus.copies.caches h) ∙ shows.caches h

-- a copy that leaves a cache has the committed bytes
left_lines : (pool : Pooled) (bus : BusState) (state : ModelState) (h : ℕ) → Shows bus state →
    Tells pool bus (line_of state.committed) → (line : Option ℕ) →
    with_line_back (lent_to pool bus h) bus.copies.first bus.copies.lines line
    ≡ with_committed state.committed bus.copies.lines (if_dirty (cache_of state h) line)
left_lines pool bus state h shows told None = refl
left_lines pool bus state h shows told (Some line) = by (copy_in (lent_to pool bus h) line) refl
  where
    by : (copy : Option Copy) → copy_in (lent_to pool bus h) line ≡ copy →
        with_copy_back bus.copies.first bus.copies.lines line copy
        ≡ with_committed state.committed bus.copies.lines (if_dirty (cache_of state h) (Some line))
    by None none =
        sym
        (ap (λ letter. with_committed state.committed bus.copies.lines (if is_dirty letter then Some line else None))
        (ap (λ cache. letter_of cache line) (sym (cache_is pool bus state h shows))
        ∙ no_letter (lent_to pool bus h) line none))
    by (Some copy) there =
        let inside = told.told.inside h line (copy_resident (lent_to pool bus h) line copy there) in
        put_back state.committed bus.copies.first line copy.bytes bus.copies.lines (is_dirty copy.letter)
        (omega (arith, shows.memory.first))
        ((told.told.each line inside).same h copy there)
        ∙ sym
        (ap (λ letter. with_committed state.committed bus.copies.lines (if is_dirty letter then Some line else None))
        (ap (λ cache. letter_of cache line) (sym (cache_is pool bus state h shows))
        ∙ letter_is (lent_to pool bus h) line copy there))

-- the line that leaves is the definition's
leaves : (pool : Pooled) (bus : BusState) (state : ModelState) (h line : ℕ) → Shows bus state → h < length state.harts →
    victim_of (lent_to pool bus h) line ≡ leaving_line state.config.ways (cache_of state h) line
leaves pool bus state h line shows below =
    ap (λ ways. leaving_line ways (lent_to pool bus h).residency line)
    (ap (λ (c : Cached). c.ways) (lent_at pool bus.copies.caches h) ∙ shows.ways h below)
    ∙ ap (λ cache. leaving_line state.config.ways cache line) (cache_is pool bus state h shows)

for_request : (pool : Pooled) (bus : BusState) (state : ModelState) (h : ℕ) → Shows bus state →
    Tells pool bus (line_of state.committed) → h < length state.harts → (asked : Option Request) →
    lines_for (lent_copies pool bus.copies) h asked ≡ with_committed state.committed bus.copies.lines
    (back_for state h asked)
unfolding lines_after
for_request pool bus state h shows told below None = refl
for_request pool bus state h shows told below (Some request) =
    left_lines pool bus state h shows told (victim_of (lent_to pool bus h) request.line)
    ∙ ap (λ line. with_committed state.committed bus.copies.lines (if_dirty (cache_of state h) line))
    (leaves pool bus state h request.line shows below)

as_outcome : (pool : Pooled) (bus : BusState) (state : ModelState) (h : ℕ) → Shows bus state →
    Tells pool bus (line_of state.committed) → h < length state.harts → (outcome : Outcome) →
    lines_served pool bus h outcome ≡ with_committed state.committed bus.copies.lines (back_as state h outcome)
as_outcome pool bus state h shows told below (outcomes.Served losers freed) =
    for_request pool bus state h shows told below (request_of bus.order h)
    ∙ ap (λ order. with_committed state.committed bus.copies.lines (back_for state h (request_of order h))) shows.order
as_outcome pool bus state h shows told below outcomes.Idle = refl
as_outcome pool bus state h shows told below outcomes.Stalled = refl
as_outcome pool bus state h shows told below (outcomes.Missed line need) = refl
as_outcome pool bus state h shows told below outcomes.Ran = refl
as_outcome pool bus state h shows told below outcomes.Began = refl
as_outcome pool bus state h shows told below outcomes.Buffered = refl
as_outcome pool bus state h shows told below (outcomes.Committed count) = refl
as_outcome pool bus state h shows told below (outcomes.RolledBack cause) = refl
as_outcome pool bus state h shows told below (outcomes.Ordered losers freed) = refl
as_outcome pool bus state h shows told below (outcomes.Blocked why by) = refl
as_outcome pool bus state h shows told below (outcomes.Delivered losers) = refl
as_outcome pool bus state h shows told below outcomes.Armed = refl
as_outcome pool bus state h shows told below (outcomes.LetGo count) = refl

-- a request that is served
pub served_lines : (pool : Pooled) (bus : BusState) (state : ModelState) (event : Event) (outcome : Outcome) →
    Shows bus state → Tells pool bus (line_of state.committed) → event.hart.number < length state.harts →
    event.kind ≡ kinds.Serve → outcome ≡ (next state event).outcome →
    lines_served pool bus event.hart.number outcome ≡ lines_from state event bus.copies.lines
unfolding lines_from line_written_back
served_lines pool bus state event outcome shows told below serves is =
    let h = event.hart.number in
    as_outcome pool bus state h shows told below outcome
    ∙ ap (λ o. with_committed state.committed bus.copies.lines (back_as state h o)) is
    ∙ ap (λ kind. with_committed state.committed bus.copies.lines (back_by state h (next state event).outcome kind))
    (sym serves)

-- each other event leaves main memory as it was
pub kept_lines : (state : ModelState) (event : Event) (lines : List (List ℕ)) → event.kind ≢ kinds.Serve →
    lines ≡ lines_from state event lines
unfolding lines_from line_written_back
kept_lines state event lines other = by event.kind other
  where
    by : (kind : Kind) → kind ≢ kinds.Serve →
        lines ≡ with_committed state.committed lines (back_by state event.hart.number (next state event).outcome kind)
    by kinds.Step other = refl
    by kinds.Order other = refl
    by kinds.Serve other = absurd (other refl)
    by kinds.Deliver other = refl
