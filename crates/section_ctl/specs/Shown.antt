-- the bytes that a section shows over a cache, and the lines that it may touch
use Rattle.std.specs.Prelude.{ℕ, ◌≡◌, ◌&&◌, ◌==◌, Bool, List}
use Rattle.cache_sets.specs.Cached.{Cached, cached_byte}
use Rattle.cache_sets.specs.Slotted as caches
use Rattle.residency.specs.Residency.{Way}
use Rattle.core_step.specs.Port.{stored}
use Rattle.el_base.specs.Line.{line_number}
use Rattle.el_base.specs.declared.outcomes.Need.{Need}
use Rattle.el_base.specs.declared.outcomes.Need.TheVariants.{Read, Write}
use Rattle.el_model.specs.InSection.{is_covered}
use Rattle.line_pool.specs.Pooled.{Pooled}
use Rattle.rv_alu.specs.Execution.{Execution, perform}
use Rattle.rv_alu.specs.declared.action.Action.{Action}
use Rattle.rv_alu.specs.declared.footprint.Access.{Access}
use Rattle.rv_alu.specs.declared.footprint.Access.TheVariants as accesses
use Rattle.rv_alu.specs.declared.view.HartView.{HartView}
use Rattle.section_ctl.specs.declared.live.Live.{Live}
use Rattle.section_view.specs.KeptRun.{held_over}
use Rattle.write_hold.specs.Held.{Entry, Held, has_room_for}
use Rattle.write_hold.specs.Slotted as holds

-- the byte that a port shows: the held one, else the new value's in the lock word, else the cached one
abbrev pub port_byte : List Entry → ℕ → ℕ → Cached → ℕ → ℕ
port_byte hold word new cache = held_over hold (stored (cached_byte cache) word 4 new)

-- what an action of a live section does over such bytes, where a pool lends the hold and the cache
abbrev pub action_over : Pooled → holds.Slotted → caches.Slotted → Live → HartView → Action → Execution
action_over pool hold cache live view action =
    perform action view (port_byte (holds.lent pool hold).entries live.word live.new (caches.lent pool cache))

-- whether a line may be touched: it has its bit, and what is written may be held
abbrev pub may_touch : List (List Way) → Held → ℕ → Need → Bool
may_touch cache hold line Read = is_covered cache line Read
may_touch cache hold line Write = is_covered cache line Write && has_room_for hold line

-- a port permits one line
abbrev pub permits_one : ℕ → List (List Way) → Held → ℕ → Need → Bool
permits_one one cache hold line need = (line == one) && may_touch cache hold line need

-- a line is the one that an access touches, if it touches one
abbrev pub IsTouchedLine : Access → ℕ → Type 0
IsTouchedLine (accesses.Read address len) line = line ≡ line_number address
IsTouchedLine (accesses.Write address len) line = line ≡ line_number address
IsTouchedLine _ line = Unit {0}
