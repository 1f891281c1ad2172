-- what an action that ran leaves to be done: others' reservations, and the output
use Rattle.std.specs.Prelude.{ℕ, ◌≡◌, ◌≤◌, ◌+◌, ◌%◌, true, List, [], map, Option, None, Some}
use Rattle.residency.specs.Cache.{is_resident}
use Rattle.cache_sets.specs.Cached.{Cached, bytes_of}
use Rattle.el_base.specs.Line.{line_number}
use Rattle.el_base.specs.declared.line.TheConstants.{LINE_BYTES}
use Rattle.hart_state.specs.Deeds.{unreserved_own}
use Rattle.hart_state.specs.Own.{OwnState}
use Rattle.rv_alu.specs.declared.action.Action.{Action}
use Rattle.rv_alu.specs.declared.action.Action.TheVariants as actions
use Rattle.rv_flat.specs.Memory.{piece_of}

-- harts without the committed reservations of words on a line, if one was written
abbrev pub unreserved_on : Option ℕ → List OwnState → List OwnState
unreserved_on None harts = harts
unreserved_on (Some line) harts = map (unreserved_own line) harts

-- the bytes that an action appends to the output: those of the line in a cache
abbrev pub piece_in : Cached → Action → List ℕ
piece_in cache (actions.Append address len) =
    piece_of (bytes_of cache (line_number address)) (address % LINE_BYTES) len
piece_in cache _ = []

-- those bytes are there, in one line, and the output has so much room
pub record IsThere (cache : Cached) (room_left address len : ℕ) : Type 0 where
  pub resident : is_resident cache.residency (line_number address) ≡ true
  pub one_line : address % LINE_BYTES + len ≤ LINE_BYTES
  pub room : len ≤ room_left

abbrev pub CanAppend : Cached → ℕ → Action → Type 0
CanAppend cache room (actions.Append address len) = IsThere cache room address len
CanAppend cache room _ = Unit {0}
