-- what an event makes of main memory
use Rattle.std.specs.Prelude.{ℕ, ◌-◌, ◌/◌, List, Option, None, Some, option_map, if◌then◌else◌, slice_set}
use Rattle.bus_order.specs.Order.{Request}
use Rattle.residency.specs.Cache.{evicted_by, is_resident, letter_of}
use Rattle.residency.specs.Residency.{Way}
use Rattle.coherence.specs.Beginning.{line_of}
use Rattle.el_base.specs.declared.events.Event.{Event}
use Rattle.el_base.specs.declared.events.Kind.{Kind}
use Rattle.el_base.specs.declared.events.Kind.TheVariants as kinds
use Rattle.el_base.specs.declared.line.TheConstants.{LINE_BYTES}
use Rattle.el_base.specs.declared.outcomes.Outcome.{Outcome}
use Rattle.el_base.specs.declared.outcomes.Outcome.TheVariants.{Served}
use Rattle.el_model.specs.Next.{next}
use Rattle.el_model.specs.State.{ModelState, cache_of, ordered_of}
use Rattle.moesi.specs.Letters.{is_dirty}
use Rattle.rv_flat.specs.FlatState.{FlatState}

-- the line that leaves a cache, with so many ways in a set, for another: none where that is there already
abbrev pub leaving_line : ℕ → List (List Way) → ℕ → Option ℕ
leaving_line ways cache line =
    if is_resident cache line then None else option_map (λ way. way.line) (evicted_by ways cache line)

-- a line of a cache, where its copy is modified or owned
abbrev pub if_dirty : List (List Way) → Option ℕ → Option ℕ
if_dirty cache None = None
if_dirty cache (Some line) = if is_dirty (letter_of cache line) then Some line else None

-- the line that is written back as a request of a hart, if there is one, is served
abbrev pub back_for : ModelState → ℕ → Option Request → Option ℕ
back_for state h None = None
back_for state h (Some request) =
    if_dirty (cache_of state h) (leaving_line state.config.ways (cache_of state h) request.line)

-- and by the outcome: where nothing was served, none is
abbrev pub back_as : ModelState → ℕ → Outcome → Option ℕ
back_as state h (Served losers freed) = back_for state h (ordered_of state h)
back_as state h _ = None

abbrev pub back_by : ModelState → ℕ → Outcome → Kind → Option ℕ
back_by state h outcome kinds.Step = None
back_by state h outcome kinds.Order = None
back_by state h outcome kinds.Serve = back_as state h outcome
back_by state h outcome kinds.Deliver = None

-- the line that an event writes back, if it writes one back: a request of the hart is served, its line was not in the
-- hart's cache, and this one left for it, with the letter M or O
unfoldable pub line_written_back : ModelState → Event → Option ℕ
line_written_back state event = back_by state event.hart.number (next state event).outcome event.kind

-- main memory with the committed bytes of a line, if there is one; each other line is as it was
abbrev pub with_committed : FlatState → List (List ℕ) → Option ℕ → List (List ℕ)
with_committed flat lines None = lines
with_committed flat lines (Some line) = slice_set lines (line - flat.base / LINE_BYTES) (line_of flat line)

-- main memory after an event
unfoldable pub lines_from : ModelState → Event → List (List ℕ) → List (List ℕ)
lines_from state event lines = with_committed state.committed lines (line_written_back state event)
