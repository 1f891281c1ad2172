-- how a run of small numbers is told: where it starts, its events, and what it comes to
use Rattle.std.proofs.Common.{ℕ, ◌+◌, ◌-◌, ◌*◌, ◌/◌, ◌%◌, ◌^◌, Bool, List, [], ◌∷◌, ◌==◌, if◌then◌else◌, map, filter}
use Rattle.std.proofs.Common.{replicate, Option, Some, None}
use Rattle.std.specs.Prelude.{slice_set}
use Rattle.std.specs.List.{range_with_len}
use Rattle.bus_order.specs.Order.{Request}
use Rattle.residency.specs.Residency.{Way}
use Rattle.defer_list.specs.HartSet.{has}
use Rattle.el_base.specs.Freed.{freed_of}
use Rattle.el_base.specs.HartId.{hart_id}
use Rattle.el_base.specs.Losers.{losers_of}
use Rattle.el_base.specs.declared.config.Config.{Config}
use Rattle.el_base.specs.declared.events.Event.{Event}
use Rattle.el_base.specs.declared.events.Kind.{Kind}
use Rattle.el_base.specs.declared.freed.Freed.{Freed}
use Rattle.el_base.specs.declared.losers.Losers.{Losers}
use Rattle.el_base.specs.declared.outcomes.Need.{Need}
use Rattle.el_base.specs.declared.outcomes.Outcome.{Outcome}
use Rattle.el_base.specs.declared.outcomes.Outcome.TheVariants.{Ordered, Served}
use Rattle.el_model.specs.State.{Armed, Hart, ModelState, Section, new_hart}
use Rattle.moesi.specs.declared.letter.Letter.{Letter}
use Rattle.pair_table.specs.Predictor.{Watch}
use Rattle.rv_alu.specs.declared.view.HartStatus.TheVariants.{Running}
use Rattle.rv_alu.specs.declared.view.HartView.{HartView}
use Rattle.rv_alu.specs.Regs.{a0, a1, set, sp}
use Rattle.stamp.specs.Stamps.{Stamp}

abbrev pub event : Kind → ℕ → Event
event kind h = record { kind = kind; hart = hart_id h }

abbrev pub stamp : ℕ → ℕ → Stamp
stamp clock hart = record { clock = clock; hart = hart }

abbrev pub request : ℕ → ℕ → Need → Option Stamp → Request
request hart line need stamp = record { hart = hart; line = line; need = need; stamp = stamp }

abbrev pub way : ℕ → Letter → Bool → Bool → Way
way line letter read write = record { line = line; letter = letter; read = read; write = write }

abbrev pub section : ℕ → ℕ → ℕ → ℕ → Section
section count word old new = record { count = count; word = word; old = old; new = new }

abbrev pub armed : ℕ → ℕ → Armed
armed count word = record { count = count; word = word }

abbrev pub watch : ℕ → ℕ → ℕ → ℕ → Watch
watch pc word old count = record { pc = pc; word = word; old = old; count = count }

-- the winner of a hart, in a list of losers with their winners
abbrev pub winner_in : List (ℕ × ℕ) → ℕ → Option ℕ
winner_in [] h = None
winner_in ((loser, winner) ∷ others) h = if loser == h then Some winner else winner_in others h

abbrev pub lost : List (ℕ × ℕ) → Losers
lost pairs = losers_of (winner_in pairs)

-- the count of a hart, in a list of freed harts with their counts
abbrev pub count_among : List (ℕ × ℕ) → ℕ → ℕ
count_among [] h = 0
count_among ((hart, count) ∷ others) h = if hart == h then count else count_among others h

abbrev pub freed : List (ℕ × ℕ) → Freed
freed pairs = freed_of (count_among pairs)

-- a request took its place, or was served: who lost to whom, and who was let go with how many instructions
abbrev pub ordered_with : List (ℕ × ℕ) → List (ℕ × ℕ) → Outcome
ordered_with losers let_go = Ordered (lost losers) (freed let_go)

abbrev pub served_with : List (ℕ × ℕ) → List (ℕ × ℕ) → Outcome
served_with losers let_go = Served (lost losers) (freed let_go)

-- a list with other numbers at some places
abbrev pub patched : List ℕ → List (ℕ × ℕ) → List ℕ
patched numbers [] = numbers
patched numbers ((place, number) ∷ others) = patched (slice_set numbers place number) others

abbrev pub bytes_of : List ℕ → List ℕ
bytes_of [] = []
bytes_of (word ∷ words) =
    word % 256 ∷ word / 256 % 256 ∷ word / 65536 % 256 ∷ word / 16777216 ∷ bytes_of words

-- a hart that begins at the start of the code, with its number, the number of harts and a stack
-- pointer that may lie below memory
abbrev pub first_view_at : Config → ℕ → ℕ → ℕ → HartView
first_view_at config end start h = record {
  pc = start;
  regs =
      set (set (set (replicate 32 0) a0 h) a1 config.harts) sp ((end + (2 ^ 32 - 65536 * h)) % 2 ^ 32);
  reserved = None;
  status = Running;
}

-- a machine over memory of zeros from a base on, with code elsewhere
abbrev pub first_state : Config → ℕ → ℕ → ℕ → List ℕ → ModelState
first_state config base len start words = record {
  config = config;
  committed = record {
    harts = map (first_view_at config (base + len) start) (range_with_len 0 config.harts);
    base = base;
    bytes = replicate len 0;
    code = record { start = start; bytes = bytes_of words } ∷ [];
    output = [];
  };
  harts = replicate config.harts (new_hart config.sets);
  order = [];
}

-- what is told of the last state: sets of harts in ascending order
pub record Ending : Type 0 where
  pub harts : List Hart
  pub order : List Request
  pub pcs : List ℕ
  pub registers : List (List ℕ)
  pub bytes : List ℕ

abbrev pub ascending : List ℕ → List ℕ
ascending harts = filter (has harts) (range_with_len 0 8)

abbrev pub told_hart : Hart → Hart
told_hart hart = record hart { told = ascending hart.told; upstream = ascending hart.upstream }

abbrev pub ending_of : ModelState → Ending
ending_of state = record {
  harts = map told_hart state.harts;
  order = state.order;
  pcs = map (λ view. view.pc) state.committed.harts;
  registers = map (λ view. view.regs) state.committed.harts;
  bytes = state.committed.bytes;
}
