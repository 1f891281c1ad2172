-- an ordered request is served, or something is in its way
use Rattle.std.specs.Prelude.{ℕ, Bool, true, false, ◌&&◌, List, [], Option, None, Some, is_some, not, ◌==◌}
use Rattle.std.specs.Prelude.{if◌then◌else◌}
use Rattle.std.specs.List.{list_any}
use Rattle.bus_order.specs.Order.{Request, removed}
use Rattle.residency.specs.Cache.{filled_with, is_resident, letter_of, lettered, marked, touched, without_line}
use Rattle.residency.specs.Residency.{Way}
use Rattle.defer_list.specs.HartSet.{excluded}
use Rattle.el_base.specs.HartId.{hart_id}
use Rattle.el_base.specs.declared.freed.Freed.{Freed}
use Rattle.el_base.specs.declared.losers.Losers.{Losers}
use Rattle.el_base.specs.declared.outcomes.Need.{Need}
use Rattle.el_base.specs.declared.outcomes.Need.TheVariants.{Read, Write}
use Rattle.el_base.specs.declared.outcomes.Outcome.TheVariants.{Blocked, Served}
use Rattle.el_base.specs.declared.outcomes.Why.{Why}
use Rattle.el_base.specs.declared.outcomes.Why.TheVariants.{Behind, Retained, Locked}
use Rattle.el_model.specs.Conflicts.{holder_of, retainer_of}
use Rattle.el_model.specs.Face.{freed_if, met_if, met_losers_if}
use Rattle.el_model.specs.State.{Hart, ModelState, Turn, cache_of, each_hart, head_of, idle, numbers_of, ordered_of}
use Rattle.mail.specs.Mailbox.{without_markers, without_probe}
use Rattle.moesi.specs.Letters.{filled_of, on_read_of}
use Rattle.moesi.specs.declared.letter.Letter.{Letter}
use Rattle.moesi.specs.declared.letter.Letter.TheVariants.{M}

-- what is in the way of a request: nothing, or a hart
pub data Obstacle : Type 0 where
  Free : Obstacle
  Blocks : Why → ℕ → Obstacle

-- a hart in the way for this reason, where there is one
abbrev pub blocks_if : Why → Option ℕ → Obstacle → Obstacle
blocks_if why None other = other
blocks_if why (Some by) other = Blocks why by

-- the hart of another request that is the head of the line, if the head is another hart's
abbrev pub other_head : ℕ → Option Request → Option ℕ
other_head h None = None
other_head h (Some head) = if head.hart == h then None else Some head.hart

-- the first of these that holds: another hart's request comes first, a section retains the line, another hart holds it
abbrev pub obstacle_to : ModelState → Request → Obstacle
obstacle_to state request =
    blocks_if Behind (other_head request.hart (head_of state request.line))
    (blocks_if Retained (retainer_of state request.line)
    (blocks_if Locked (holder_of state request.hart request.line) Free))

-- whether a hart other than this one has a copy of a line
abbrev pub others_have : ModelState → ℕ → ℕ → Bool
others_have state h line =
    list_any (λ other. not (other == h) && is_resident (cache_of state other) line) (numbers_of state)

-- the cache of another hart as a request is served: its copy goes, or its letter changes
abbrev pub given_up : Need → List (List Way) → ℕ → List (List Way)
given_up Write cache line = without_line cache line
given_up Read cache line = lettered cache line (on_read_of (letter_of cache line))

-- the others' copies as a request is served: a read of a line that the hart has already changes none
abbrev pub others_cache : Bool → Need → List (List Way) → ℕ → List (List Way)
others_cache had Write cache line = given_up Write cache line
others_cache had Read cache line = if had then cache else given_up Read cache line

-- the letter of a line that the hart had, after its request was served
abbrev pub kept_letter : Need → Letter → Letter
kept_letter Read letter = letter
kept_letter Write letter = M

-- the line in the cache of the hart that is served: a line that it had keeps its letter for a read and gets M for a
-- write; another one is filled, in a set of so many ways
abbrev pub own_copy : ℕ → Bool → Need → List (List Way) → ℕ → List (List Way)
own_copy ways others need cache line =
    if is_resident cache line then lettered cache line (kept_letter need (letter_of cache line))
    else filled_with ways cache line (filled_of need others)

-- what the served hart has of the line: in a section a bit, else a hold until its next step
abbrev pub with_claim : Bool → Request → Hart → Hart
with_claim true request hart = record hart { cache = marked hart.cache request.line request.need }
with_claim false request hart = record hart { held_line = Some request.line }

-- a hart without the messages and sets that came with an origin's request
abbrev pub forgetting : ℕ → Hart → Hart
forgetting origin hart =
    record hart { mail = without_probe hart.mail origin; told = excluded hart.told origin }

-- what the hart becomes whose request is served
abbrev pub served_hart : ModelState → Request → Hart → Hart
served_hart state request hart =
    let filled =
    own_copy state.config.ways (others_have state request.hart request.line) request.need hart.cache request.line in
    with_claim (is_some hart.section) request
    (record (forgetting request.hart hart) {
      cache = touched filled request.line;
      mail = without_markers (without_probe hart.mail request.hart);
      upstream = [];
    })

-- what another hart becomes
abbrev pub bystander : ModelState → Request → Hart → Hart
bystander state request hart =
    record (forgetting request.hart hart) {
      cache =
          others_cache (is_resident (cache_of state request.hart) request.line) request.need hart.cache request.line;
    }

abbrev pub serving : ModelState → Request → ℕ → Hart → Hart
serving state request h hart =
    if h == request.hart then served_hart state request hart else bystander state request hart

-- the state after a request was served, before the next head of its line is faced
unfoldable pub served : ModelState → Request → ModelState
served state request =
    record (each_hart state (serving state request)) { order = removed state.order request.hart }

-- who loses as the next head of its line is faced
abbrev pub serve_losers : ModelState → Request → Losers
serve_losers state request =
    let after = served state request in met_losers_if after (head_of after request.line)

-- and who is let go
abbrev pub serve_freed : ModelState → Request → Freed
serve_freed state request =
    let after = served state request in freed_if after (head_of after request.line)

-- the request is served, and the next head of its line is faced
abbrev pub served_turn : ModelState → Request → Turn
served_turn state request = record {
  state = let after = served state request in met_if after (head_of after request.line);
  outcome = Served (serve_losers state request) (serve_freed state request);
}

abbrev pub serve_past : ModelState → Request → Obstacle → Turn
serve_past state request Free = served_turn state request
serve_past state request (Blocks why by) = record { state = state; outcome = Blocked why (hart_id by) }

abbrev pub serve_ordered : ModelState → Option Request → Turn
serve_ordered state None = idle state
serve_ordered state (Some request) = serve_past state request (obstacle_to state request)

unfoldable pub serve_turn : ModelState → ℕ → Turn
serve_turn state h = serve_ordered state (ordered_of state h)
