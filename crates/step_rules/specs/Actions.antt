-- what an action is to the rules
use Rattle.std.specs.Prelude.{ℕ, ◌+◌, ◌≡◌, Bool, true, false, ◌&&◌, ◌==◌, nat_lt, Option, None, Some, if◌then◌else◌}
use Rattle.el_model.specs.Upcoming.{Swap, Touch, is_swap_op}
use Rattle.rv_alu.specs.Loaded.{loaded}
use Rattle.rv_alu.specs.declared.action.Action.{Action}
use Rattle.rv_alu.specs.declared.action.Action.TheVariants as actions
use Rattle.rv_flat.specs.FlatState.{FlatState, view_of}
use Rattle.rv_flat.specs.Step.{action_of}
use Rattle.step_rules.specs.declared.upcoming.Exchange as exchanges
use Rattle.step_rules.specs.declared.upcoming.Swap as swaps
use Rattle.step_rules.specs.declared.upcoming.Touch as touches

-- an action is the next one of a hart, in a state of plain shared memory
abbrev pub IsNext : Action → FlatState → ℕ → Type 0
IsNext action flat h = action ≡ action_of flat (view_of flat h)

-- a touch and a swap as numbers
abbrev pub numbered_touch : touches.Touch → Touch
numbered_touch touch = record { line = touch.line.number; need = touch.need }

abbrev pub numbered_swap : swaps.Swap → Swap
numbered_swap swap = record { word = swap.word; old = swap.old; new = swap.new }

-- a swap over memory, of which `byte` tells each byte
abbrev pub swap_over : (ℕ → ℕ) → exchanges.Exchange → Swap
swap_over byte exchange = record { word = exchange.word; old = loaded byte exchange.word 4; new = exchange.new }

-- the same of an action, where it is a swap
abbrev pub swap_by : (ℕ → ℕ) → Action → Option Swap
swap_by byte (actions.Amo op rd address source) =
    if is_swap_op op then Some (record { word = address; old = loaded byte address 4; new = source }) else None
swap_by byte _ = None

-- where it is a store conditional that succeeds
abbrev pub conditional_by : (ℕ → ℕ) → Action → Option Swap
conditional_by byte (actions.StoreConditional rd address value) =
    Some (record { word = address; old = loaded byte address 4; new = value })
conditional_by byte _ = None

-- and where it is either, and so exchanges a word
abbrev pub exchange_by : (ℕ → ℕ) → Action → Option Swap
exchange_by byte (actions.Amo op rd address source) = swap_by byte (actions.Amo op rd address source)
exchange_by byte (actions.StoreConditional rd address value) =
    Some (record { word = address; old = loaded byte address 4; new = value })
exchange_by byte _ = None

-- the word that an action reserves
abbrev pub reserved_by : Action → Option ℕ
reserved_by (actions.LoadReserved rd address) = Some address
reserved_by _ = None

-- whether it touches no memory, is no store conditional and neither calls nor stops its hart
abbrev pub quiet : Action → Bool
quiet (actions.Put rd value) = true
quiet (actions.JumpAndLink rd target) = true
quiet (actions.Go target) = true
quiet _ = false

-- whether bytes from an address on are bytes of a word
abbrev pub meets_word : ℕ → ℕ → ℕ → Bool
meets_word word address len = nat_lt address (word + 4) && nat_lt word (address + len)

-- whether an action stores to a byte of a word
abbrev pub stores_in : ℕ → Action → Bool
stores_in word (actions.Store address len value) = meets_word word address len
stores_in word (actions.StoreConditional rd address value) = meets_word word address 4
stores_in word (actions.Amo op rd address source) = meets_word word address 4
stores_in word _ = false

-- whether it gives a word back: it stores all of it, with this value, and is no store conditional
abbrev pub releases : ℕ → ℕ → Action → Bool
releases word old (actions.Store address len value) = (len == 4) && ((address == word) && (value == old))
releases word old (actions.Amo op rd address source) = is_swap_op op && ((address == word) && (source == old))
releases word old _ = false

-- whether it is a call, or stops its hart
abbrev pub is_call_or_stop : Action → Bool
is_call_or_stop (actions.Trap cause) = true
is_call_or_stop (actions.Exit code) = true
is_call_or_stop (actions.Answer value) = true
is_call_or_stop (actions.Append address len) = true
is_call_or_stop _ = false
