-- an armed section: a step of its hart, which waits for no request, and how it is let go
use Rattle.std.specs.Prelude.{ℕ, suc, Bool, ◌&&◌, Option, None, Some, is_some, not, ◌==◌, nat_lt, if◌then◌else◌}
use Rattle.bus_order.specs.Order.{Request}
use Rattle.residency.specs.Cache.{cleared, has_bit}
use Rattle.el_base.specs.Freed.{freed_of, order_of}
use Rattle.el_base.specs.Line.{line_number}
use Rattle.el_base.specs.declared.freed.Freed.{Freed}
use Rattle.el_base.specs.declared.outcomes.Outcome.TheVariants as outcomes
use Rattle.el_model.specs.Conflicts.{is_wanted_to_write, is_write}
use Rattle.el_model.specs.Plain.{armed_count, began_hart}
use Rattle.el_model.specs.State.{Armed, Hart, ModelState, Turn, each_hart, hart_of, with_hart}
use Rattle.el_model.specs.Upcoming.{Swap, calls_or_stops, changes_word, is_store_conditional, next_conditional}
use Rattle.el_model.specs.Upcoming.{next_touch}
use Rattle.rv_flat.specs.FlatState.{FlatState, view_of}
use Rattle.rv_flat.specs.Laws.{next_insn}
use Rattle.rv_flat.specs.Run.{alone, run}

-- what such a step comes to
pub data ArmedRule : Type 0 where
  Elides : Swap → ArmedRule  -- its SC is elided, and a live section begins
  Continues : ArmedRule  -- one more instruction is kept private
  LetsGo : ArmedRule  -- all that was kept private takes effect, and no more

-- what an armed section shows: the state after its instructions alone
abbrev pub shown_armed : ModelState → ℕ → Armed → FlatState
shown_armed state h armed = alone state.committed h armed.count

-- how many instructions are kept private at most
abbrev pub most_armed : ℕ
most_armed = 15

-- whether the next instruction touches no memory, is no SC and neither calls nor stops
abbrev pub is_quiet : FlatState → ℕ → Bool
is_quiet flat h =
    not (is_some (next_touch flat h)) && not (is_store_conditional (next_insn flat h)) && not (calls_or_stops flat h)

-- whether one more instruction may be kept private: then the SC behind it is still within the length of a section
abbrev pub may_grow : ModelState → Armed → Bool
may_grow state armed = nat_lt armed.count most_armed && nat_lt (suc armed.count) state.config.long

-- whether an exchange is one of the armed section's word that changes it, and no other hart waits to write there
abbrev pub completes : ModelState → ℕ → Armed → Swap → Bool
completes state h armed swap =
    (swap.word == armed.word) && changes_word swap && not (is_wanted_to_write state h (line_number armed.word))

abbrev pub quiet_rule : ModelState → ℕ → Armed → ArmedRule
quiet_rule state h armed = if is_quiet (shown_armed state h armed) h && may_grow state armed then Continues else LetsGo

abbrev pub exchange_rule : ModelState → ℕ → Armed → Option Swap → ArmedRule
exchange_rule state h armed None = quiet_rule state h armed
exchange_rule state h armed (Some swap) = if completes state h armed swap then Elides swap else LetsGo

-- an SC that changes the word completes the acquire; what touches no memory is kept private;
-- anything else lets the section go
abbrev pub armed_rule : ModelState → ℕ → Armed → ArmedRule
armed_rule state h armed = exchange_rule state h armed (next_conditional (shown_armed state h armed) h)

-- a hart after one more instruction of its armed section
abbrev pub continued_hart : Armed → Hart → Hart
continued_hart armed hart = record hart { armed = Some (record armed { count = suc armed.count }); held_line = None }

-- a hart whose armed section, which began at the LR at a pc, was let go: no bits are left
abbrev pub let_go_hart : ℕ → Hart → Hart
let_go_hart pc hart = record hart { armed = None; cache = cleared hart.cache; last_lr = Some pc }

-- what a rule does; the committed view of an armed hart stands at its LR
unfoldable pub by_armed_rule : ModelState → ℕ → Armed → ArmedRule → Turn
by_armed_rule state h armed (Elides swap) = record {
  state = with_hart state h (began_hart state.config.mode h swap (hart_of state h));
  outcome = outcomes.Began;
}
by_armed_rule state h armed Continues = record {
  state = with_hart state h (continued_hart armed (hart_of state h));
  outcome = outcomes.Buffered;
}
by_armed_rule state h armed LetsGo = record {
  state =
      record (with_hart state h
      (let_go_hart (view_of state.committed h).pc (record (hart_of state h) { held_line = None }))) {
        committed = alone state.committed h armed.count;
      };
  outcome = outcomes.LetGo armed.count;
}

unfoldable pub armed_turn : ModelState → ℕ → Armed → Turn
armed_turn state h armed = by_armed_rule state h armed (armed_rule state h armed)

-- whether a head, as it is faced, lets a hart's armed section go: it is to write, and the section has read its line
abbrev pub is_freed : Request → ℕ → Hart → Bool
is_freed head h hart = is_write head && not (head.hart == h) && is_some hart.armed && has_bit hart.cache head.line

-- how many instructions of a hart take effect then
abbrev pub freed_count : Request → ℕ → Hart → ℕ
freed_count head h hart = if is_freed head h hart then armed_count hart.armed else 0

abbrev pub freed_by : ModelState → Request → Freed
freed_by state head = freed_of (λ h. freed_count head h (hart_of state h))

abbrev pub freed_hart : ModelState → Request → ℕ → Hart → Hart
freed_hart state head h hart =
    if is_freed head h hart then let_go_hart (view_of state.committed h).pc hart else hart

-- each such section is let go, and what the harts kept private takes effect, in ascending order of harts
unfoldable pub let_go : ModelState → Request → ModelState
let_go state head =
    record (each_hart state (freed_hart state head)) {
      committed = run state.committed (order_of (freed_by state head));
    }
