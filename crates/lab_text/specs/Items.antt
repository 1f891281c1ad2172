-- what an event did, as a list of items
use Rattle.std.specs.Prelude.{ℕ, ◌%◌, Bool, true, false, ◌==◌, ◌||◌, List, [], ◌∷◌, ◌++◌, Option, None, Some}
use Rattle.std.specs.Prelude.{if◌then◌else◌, slice_index_or}
use Rattle.std.specs.List.{flat_map, range_with_len}
use Rattle.std.specs.Option.{option_map}
use Rattle.bus_order.specs.declared.request.Request.{Request}
use Rattle.el_base.specs.Freed.{count_in}
use Rattle.el_base.specs.HartId.{hart_id}
use Rattle.el_base.specs.Losers.{beaten_by}
use Rattle.el_base.specs.declared.freed.Freed.{Freed}
use Rattle.el_base.specs.declared.losers.Losers.{Losers}
use Rattle.el_base.specs.declared.outcomes.Outcome.{Outcome}
use Rattle.el_base.specs.declared.outcomes.Outcome.TheVariants as outcomes
use Rattle.lab.specs.declared.showing.Shown.{Shown}
use Rattle.lab.specs.declared.showing.Sight.{Sight}
use Rattle.lab.specs.declared.showing.What.{What}
use Rattle.lab.specs.declared.showing.What.TheVariants.{Step, Order, Serve, Deliver}
use Rattle.lab_text.specs.declared.items.Item.{Item}
use Rattle.lab_text.specs.declared.items.Item.TheVariants as items
use Rattle.mail.specs.declared.message.Message.{Message}
use Rattle.moesi.specs.declared.letter.Letter.{Letter}
use Rattle.moesi.specs.declared.letter.Letter.TheVariants.{M, O, E, S, I}
use Rattle.rv_alu.specs.Action.{next_pc_of}
use Rattle.rv_alu.specs.Execution.{loads}
use Rattle.rv_alu.specs.Operation.{amo_of}
use Rattle.rv_alu.specs.Regs.{get}
use Rattle.rv_alu.specs.declared.action.Action.{Action}
use Rattle.rv_alu.specs.declared.action.Action.TheVariants as actions
use Rattle.rv_alu.specs.declared.transfers.Load.{Load}
use Rattle.rv_alu.specs.declared.view.HartStatus.{HartStatus}
use Rattle.rv_alu.specs.declared.view.HartStatus.TheVariants.{Running, Exited, Trapped}
use Rattle.rv_alu.specs.declared.view.HartView.{HartView}
use Rattle.rv_word.specs.declared.insn.AmoOp.{AmoOp}
use Rattle.rv_word.specs.declared.insn.AmoOp.TheVariants.{Swap}
use Rattle.rv_word.specs.declared.reg.Reg.{Reg}
use Rattle.section_ctl.specs.declared.live.Live.{Live}

-- whether an event did something: all do but those with nothing to do, and steps that only wait
abbrev pub is_deed : Outcome → Bool
is_deed outcomes.Idle = false
is_deed outcomes.Stalled = false
is_deed _ = true

-- a section that began, ran on or ended by a step: what is told of it is the section after
-- its beginning, and before its end
abbrev pub section_items : Outcome → Option Live → Option Live → List Item
section_items outcomes.Began before (Some live) = items.Began live.word live.old live.new ∷ []
section_items outcomes.Buffered before after = items.Private ∷ []
section_items (outcomes.Committed count) (Some live) after = items.Committed live.word count ∷ []
section_items (outcomes.RolledBack cause) (Some live) after = items.RolledBack live.word cause ∷ []
section_items outcomes.Armed before after = items.Armed ∷ []
section_items (outcomes.LetGo count) before after = items.LetGo count ∷ []
section_items _ before after = []

-- whether a step of this outcome reads and stores what its instruction does: the acquire and
-- the release of a section do not
abbrev pub has_access : Outcome → Bool
has_access outcomes.Ran = true
has_access outcomes.Buffered = true
has_access outcomes.Armed = true
has_access _ = false

-- what an instruction has put into this register; register 0 does not tell
abbrev pub put_into : Reg → HartView → Option ℕ
put_into rd after = if rd.number == 0 then None else Some (get after.regs rd.number)

-- what an instruction has read of memory, as the register has it into which it went
abbrev pub value_read : Action → HartView → Option ℕ
value_read (actions.Load width rd address) after = put_into rd after
value_read (actions.LoadReserved rd address) after = put_into rd after
value_read (actions.Amo op rd address source) after = put_into rd after
value_read _ after = None

abbrev pub load_items : Option Load → Option ℕ → List Item
load_items None value = []
load_items (Some load) value = items.Read load.address load.len value ∷ []

-- the low bytes of a value, so many
abbrev pub low_bytes : ℕ → ℕ → ℕ
low_bytes len value = if len == 1 then value % 256 else if len == 2 then value % 65536 else value

-- what an atomic operation stores, by what it has read; a swap stores its source, whatever was there
abbrev pub amo_stores : AmoOp → ℕ → Option ℕ → Option ℕ
amo_stores Swap source old = Some source
amo_stores op source old = option_map (λ value. amo_of op value source) old

-- what an instruction stores, and what it appends to the output
abbrev pub store_items : Action → HartView → List Item
store_items (actions.Store address len value) after = items.Stored address len (Some (low_bytes len value)) ∷ []
store_items (actions.StoreConditional rd address value) after = items.Stored address 4 (Some value) ∷ []
store_items (actions.Amo op rd address source) after =
    items.Stored address 4 (amo_stores op source (put_into rd after)) ∷ []
store_items (actions.Append address len) after = items.Appended address len ∷ []
store_items _ after = []

abbrev pub access_items : Outcome → Action → HartView → List Item
access_items outcome action after =
    if has_access outcome then load_items (loads action) (value_read action after) ++ store_items action after else []

-- a register that has another value after a step
abbrev pub register_item : ℕ → ℕ → ℕ → List Item
register_item index from to = if from == to then [] else items.Register index to ∷ []

abbrev pub register_items : List ℕ → List ℕ → List Item
register_items before after =
    flat_map (λ index. register_item index (get before index) (get after index)) (range_with_len 0 32)

-- the pc, where the hart neither stayed nor went on to the next instruction in memory
abbrev pub pc_items : ℕ → ℕ → List Item
pc_items from to = if to == from || to == next_pc_of from then [] else items.Went to ∷ []

-- how a running hart stopped
abbrev pub stop_items : HartStatus → HartStatus → List Item
stop_items Running (Exited code) = items.Exited code ∷ []
stop_items Running (Trapped cause pc) = items.Trapped cause ∷ []
stop_items _ _ = []

-- what is another of what a hart sees
abbrev pub view_items : HartView → HartView → List Item
view_items before after =
    register_items before.regs after.regs ++ pc_items before.pc after.pc ++ stop_items before.status after.status

-- a step that is neither idle nor waits nor misses a line
abbrev pub effect_items : Outcome → Sight → Action → Sight → List Item
effect_items outcome before action after =
    section_items outcome before.section after.section
    ++ access_items outcome action after.view
    ++ view_items before.view after.view

abbrev pub step_items : Outcome → Sight → Action → Sight → List Item
step_items outcomes.Stalled before action after = items.Stalled ∷ []
step_items (outcomes.Missed line need) before action after = items.Missed line need ∷ []
step_items outcome before action after = effect_items outcome before action after

-- the request that is ordered or served
abbrev pub request_items : Option Request → List Item
request_items None = []
request_items (Some request) = items.Asked request ∷ []

abbrev pub same_letter : Letter → Letter → Bool
same_letter M M = true
same_letter O O = true
same_letter E E = true
same_letter S S = true
same_letter I I = true
same_letter _ _ = false

-- what a hart's cache knows of a line, where it is another than before
abbrev pub letter_item : ℕ → Letter → Letter → List Item
letter_item h from to = if same_letter from to then [] else items.Turned (hart_id h) from to ∷ []

abbrev pub letter_items : List Letter → List Letter → List Item
letter_items before after =
    flat_map (λ h. letter_item h (slice_index_or before h I) (slice_index_or after h I)) (range_with_len 0 8)

-- the place that a request took in the order
abbrev pub place_items : Option ℕ → List Item
place_items None = []
place_items (Some place) = items.At place ∷ []

-- the message that is taken, and of a probe the request that it tells of
abbrev pub message_items : Option Message → List Item
message_items None = []
message_items (Some message) = items.Took message ∷ []

abbrev pub about_items : Option Request → List Item
about_items None = []
about_items (Some request) = items.About request ∷ []

-- what an event was about
abbrev pub what_items : Outcome → What → List Item
what_items outcome (Step before action after) = step_items outcome before action after
what_items outcome (Order request at) = request_items request ++ place_items at
what_items outcome (Serve request before after) = request_items request ++ letter_items before after
what_items outcome (Deliver message about) = message_items message ++ about_items about

-- a hart whose section lost, with the winner
abbrev pub loss_item : ℕ → Option ℕ → List Item
loss_item loser None = []
loss_item loser (Some winner) = items.Lost (hart_id loser) (hart_id winner) ∷ []

abbrev pub loss_items : Losers → List Item
loss_items losers = flat_map (λ h. loss_item h (beaten_by losers h)) (range_with_len 0 8)

-- a hart that was let go, with so many instructions
abbrev pub freed_item : ℕ → ℕ → List Item
freed_item h count = if count == 0 then [] else items.Freed (hart_id h) count ∷ []

abbrev pub freed_items : Freed → List Item
freed_items freed = flat_map (λ h. freed_item h (count_in freed h)) (range_with_len 0 8)

-- what came of it for other harts
abbrev pub outcome_items : Outcome → List Item
outcome_items (outcomes.Blocked why other) = items.Blocked why other ∷ []
outcome_items (outcomes.Ordered losers freed) = loss_items losers ++ freed_items freed
outcome_items (outcomes.Served losers freed) = loss_items losers ++ freed_items freed
outcome_items (outcomes.Delivered losers) = loss_items losers
outcome_items _ = []

-- what an event did that was not idle
abbrev pub deed_items : Outcome → What → List Item
deed_items outcomes.Idle what = []
deed_items outcome what = what_items outcome what ++ outcome_items outcome

-- what an event did, all of it, in this order
unfoldable pub items_of : Shown → List Item
items_of shown = deed_items shown.outcome shown.what
