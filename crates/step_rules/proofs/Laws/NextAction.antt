-- what a hart's next action tells of its next instruction
use Rattle.std.proofs.Common.{◌≡◌, ◌∙◌, ℕ, Bool, true, false, Option, None, Some, refl, ap, sym}
use Rattle.std.specs.Prelude.{◌&&◌, ◌||◌, ◌==◌, if◌then◌else◌, is_some, not, option_map}
use Rattle.std.proofs.Math.Bool.{and-false, or-false, or-true}
use Rattle.elf_image.specs.Program.{code_word}
use Rattle.el_model.specs.Armed.{is_quiet}
use Rattle.el_model.specs.Upcoming as model
use Rattle.el_model.specs.Upcoming.{Swap, calls, gives_back, is_load_reserved, is_store_conditional, is_swap}
use Rattle.el_model.specs.Upcoming.{is_swap_op, is_word_store}
use Rattle.el_model.specs.Upcoming.{overlaps, read_at, stops, swap_of, touch_of}
use Rattle.rv_alu.specs.Action.{action_at, action_of, insn_action_of}
use Rattle.rv_alu.specs.Cause.{illegal_instruction, instruction_access_fault}
use Rattle.rv_alu.specs.Execution.{executed, insn_at, insn_touched, perform, store_in, touched}
use Rattle.rv_alu.specs.Footprint.{footprint, is_call}
use Rattle.rv_alu.specs.Operation.{amo_of}
use Rattle.rv_alu.specs.declared.action.Action.{Action}
use Rattle.rv_alu.specs.declared.action.Action.TheVariants as actions
use Rattle.rv_alu.specs.declared.span.Span.{Span}
use Rattle.rv_alu.specs.declared.view.HartView.{HartView}
use Rattle.rv_flat.specs.FlatState.{FlatState, room_of, span_of, view_of}
use Rattle.rv_flat.specs.Laws.{next_insn}
use Rattle.rv_flat.specs.Memory.{byte_in}
use Rattle.rv_word.specs.Decoding.{decoded}
use Rattle.rv_word.specs.declared.insn.AmoOp.{AmoOp}
use Rattle.rv_word.specs.declared.insn.AmoOp.TheVariants as amos
use Rattle.rv_word.specs.declared.insn.Insn.{Insn}
use Rattle.step_rules.proofs.Origins.{ComesOf, Facts, comes, facts_of}
use Rattle.step_rules.specs.Actions.{IsNext, conditional_by, exchange_by, is_call_or_stop, quiet, releases, reserved_by}
use Rattle.step_rules.specs.Actions.{stores_in, swap_by, swap_over}
use Rattle.step_rules.specs.declared.upcoming.Exchange as exchanges
use Rattle.el_base.proofs.Laws.Options.{none_either}
use Rattle.el_base.proofs.Laws.Tests.{second_not}

-- what holds of an action for each reason holds of what comes next at a word of code
at_word : (P : Option Insn → Action → Type 0) → P None (actions.Trap illegal_instruction) →
    P None (actions.Trap instruction_access_fault) →
    ((insn : Insn) (action : Action) → ComesOf insn action → P (Some insn) action) →
    (word : Option ℕ) (view : HartView) (span : Span) (room : ℕ) → P (insn_at word) (action_at word view span room)
at_word P illegal absent each None view span room = absent
at_word P illegal absent each (Some word) view span room = by (decoded word)
  where
    by : (insn : Option Insn) → P insn (insn_action_of insn view span room)
    by None = illegal
    by (Some insn) =
        each insn (action_of insn view.pc view.regs view.reserved span room)
        (comes insn view.pc view.regs view.reserved span room)

-- what an action tells of its instruction, fact by fact
module _ (insn : Insn) {facts : Facts} (of : facts_of insn ≡ facts) where
  word_store_fact : is_word_store (Some insn) ≡ facts.word_store
  word_store_fact = ap (λ f. f.word_store) of

  swap_fact : is_swap (Some insn) ≡ facts.swap
  swap_fact = ap (λ f. f.swap) of

  reserve_fact : is_load_reserved (Some insn) ≡ facts.reserve
  reserve_fact = ap (λ f. f.reserve) of

  conditional_fact : is_store_conditional (Some insn) ≡ facts.conditional
  conditional_fact = ap (λ f. f.conditional) of

  call_fact : is_call insn ≡ facts.call
  call_fact = ap (λ f. f.call) of

-- what it touches
touch_at : (word : Option ℕ) (view : HartView) (span : Span) (room : ℕ) →
    touch_of (footprint (action_at word view span room)) ≡ touch_of (touched word view span room)
touch_at None view span room = refl
touch_at (Some word) view span room = by (decoded word)
  where
    by : (insn : Option Insn) → touch_of (footprint (insn_action_of insn view span room))
        ≡ touch_of (insn_touched insn view span room)
    by None = refl
    by (Some insn) = refl

pub next_touch : (action : Action) (flat : FlatState) (h : ℕ) → IsNext action flat h →
    touch_of (footprint action) ≡ model.next_touch flat h
next_touch action flat h next =
    ap (λ a. touch_of (footprint a)) next
    ∙ touch_at (code_word flat.code (view_of flat h).pc) (view_of flat h) (span_of flat) (room_of flat)

-- the swap that it is
swap_amo : (flat : FlatState) (op : AmoOp) (address source : ℕ) (byte : ℕ → ℕ) (old : ℕ) →
    (if is_swap_op op then swap_of flat (Some (record { address = address; len = 4; value = amo_of op old source }))
    else None)
    ≡ (if is_swap_op op then swap_of flat (Some (record { address = address; len = 4; value = source })) else None)
swap_amo flat amos.Swap address source byte old = refl
swap_amo flat _ address source byte old = refl

swap_is : (flat : FlatState) (view : HartView) (insn : Insn) (action : Action) → ComesOf insn action →
    swap_by (byte_in flat.base flat.bytes) action
    ≡ (if is_swap (Some insn) then swap_of flat (store_in (perform action view (byte_in flat.base flat.bytes)))
    else None)
swap_is flat view insn (actions.Trap cause) of = sym (none_either (is_swap (Some insn)) None refl)
swap_is flat view insn (actions.Amo op rd address source) of =
    rw (swap_fact insn of) (sym (swap_amo flat op address source (byte_in flat.base flat.bytes) _))
swap_is flat view insn _ of = rw (swap_fact insn of) refl

pub next_swap : (action : Action) (flat : FlatState) (h : ℕ) → IsNext action flat h →
    swap_by (byte_in flat.base flat.bytes) action ≡ model.next_swap flat h
unfolding executed
next_swap action flat h next =
    ap (λ a. swap_by (byte_in flat.base flat.bytes) a) next
    ∙ at_word
    (λ insn a. swap_by (byte_in flat.base flat.bytes) a
    ≡ (if is_swap insn then swap_of flat (store_in (perform a (view_of flat h) (byte_in flat.base flat.bytes)))
    else None))
    refl refl (swap_is flat (view_of flat h))
    (code_word flat.code (view_of flat h).pc) (view_of flat h) (span_of flat) (room_of flat)

-- the exchange that it is, where it is an SC that succeeds
conditional_is : (flat : FlatState) (view : HartView) (insn : Insn) (action : Action) → ComesOf insn action →
    conditional_by (byte_in flat.base flat.bytes) action
    ≡ (if is_store_conditional (Some insn) then swap_of flat
    (store_in (perform action view (byte_in flat.base flat.bytes))) else None)
conditional_is flat view insn (actions.Trap cause) of = sym (none_either (is_store_conditional (Some insn)) None refl)
conditional_is flat view insn _ of = rw (conditional_fact insn of) refl

pub next_conditional : (action : Action) (flat : FlatState) (h : ℕ) → IsNext action flat h →
    conditional_by (byte_in flat.base flat.bytes) action ≡ model.next_conditional flat h
unfolding executed
next_conditional action flat h next =
    ap (λ a. conditional_by (byte_in flat.base flat.bytes) a) next
    ∙ at_word
    (λ insn a. conditional_by (byte_in flat.base flat.bytes) a
    ≡ (if is_store_conditional insn then swap_of flat
    (store_in (perform a (view_of flat h) (byte_in flat.base flat.bytes))) else None))
    refl refl (conditional_is flat (view_of flat h))
    (code_word flat.code (view_of flat h).pc) (view_of flat h) (span_of flat) (room_of flat)

-- and where it is either
exchange_is : (flat : FlatState) (view : HartView) (insn : Insn) (action : Action) → ComesOf insn action →
    exchange_by (byte_in flat.base flat.bytes) action
    ≡ (if is_swap (Some insn) || is_store_conditional (Some insn)
    then swap_of flat (store_in (perform action view (byte_in flat.base flat.bytes))) else None)
exchange_is flat view insn (actions.Trap cause) of =
    sym (none_either (is_swap (Some insn) || is_store_conditional (Some insn)) None refl)
exchange_is flat view insn (actions.Amo op rd address source) of =
    rw (swap_fact insn of, conditional_fact insn of, or-false (is_swap_op op))
    (sym (swap_amo flat op address source (byte_in flat.base flat.bytes) _))
exchange_is flat view insn _ of = rw (swap_fact insn of, conditional_fact insn of) refl

pub next_exchange : (action : Action) (flat : FlatState) (h : ℕ) → IsNext action flat h →
    exchange_by (byte_in flat.base flat.bytes) action ≡ model.next_exchange flat h
unfolding executed
next_exchange action flat h next =
    ap (λ a. exchange_by (byte_in flat.base flat.bytes) a) next
    ∙ at_word
    (λ insn a. exchange_by (byte_in flat.base flat.bytes) a
    ≡ (if is_swap insn || is_store_conditional insn
    then swap_of flat (store_in (perform a (view_of flat h) (byte_in flat.base flat.bytes))) else None))
    refl refl (exchange_is flat (view_of flat h))
    (code_word flat.code (view_of flat h).pc) (view_of flat h) (span_of flat) (room_of flat)

-- an exchange is by an SC exactly where the instruction is one
sc_exchange : (swaps conditional : Bool) (found : Option Swap) → is_some (if swaps || conditional then found else None)
    ≡ true → is_some (if conditional then found else None) ≡ conditional
sc_exchange true true found is = is
sc_exchange true false found is = refl
sc_exchange false true found is = is
sc_exchange false false found is = refl

sc_by : (found : Option Swap) (test : Option exchanges.Exchange) (byte : ℕ → ℕ) →
    option_map (swap_over byte) test ≡ found → is_some test ≡ is_some found
sc_by found None byte is = ap is_some is
sc_by found (Some exchange) byte is = ap is_some is

pub exchanges_by_sc : (action : Action) (flat : FlatState) (h : ℕ) (test : Option exchanges.Exchange) →
    IsNext action flat h → option_map (swap_over (byte_in flat.base flat.bytes)) test
    ≡ conditional_by (byte_in flat.base flat.bytes) action → is_some (model.next_exchange flat h) ≡ true →
    is_some test ≡ is_store_conditional (next_insn flat h)
exchanges_by_sc action flat h test next told is =
    sc_by (model.next_conditional flat h) test (byte_in flat.base flat.bytes)
    (told ∙ next_conditional action flat h next)
    ∙ sc_exchange (is_swap (next_insn flat h)) (is_store_conditional (next_insn flat h))
    (swap_of flat (model.next_store flat h)) is

-- the word that it reserves
read_at_word : (word : Option ℕ) (view : HartView) (span : Span) (room : ℕ) →
    read_at (footprint (action_at word view span room)) ≡ read_at (touched word view span room)
read_at_word None view span room = refl
read_at_word (Some word) view span room = by (decoded word)
  where
    by : (insn : Option Insn) → read_at (footprint (insn_action_of insn view span room))
        ≡ read_at (insn_touched insn view span room)
    by None = refl
    by (Some insn) = refl

reserved_is : (insn : Insn) (action : Action) → ComesOf insn action →
    reserved_by action ≡ (if is_load_reserved (Some insn) then read_at (footprint action) else None)
reserved_is insn (actions.Trap cause) of = sym (none_either (is_load_reserved (Some insn)) None refl)
reserved_is insn _ of = rw (reserve_fact insn of) refl

pub next_reserved : (action : Action) (flat : FlatState) (h : ℕ) → IsNext action flat h →
    reserved_by action ≡ model.next_reserved flat h
next_reserved action flat h next =
    let word = code_word flat.code (view_of flat h).pc in
    ap reserved_by next
    ∙ at_word (λ insn a. reserved_by a ≡ (if is_load_reserved insn then read_at (footprint a) else None)) refl refl
    reserved_is word
    (view_of flat h) (span_of flat) (room_of flat)
    ∙ ap (λ from. if is_load_reserved (insn_at word) then from else None)
    (read_at_word word (view_of flat h) (span_of flat) (room_of flat))

-- an instruction that does not stop its hart reserves a word exactly where it is an LR
reserving_is : (view : HartView) (byte : ℕ → ℕ) (insn : Insn) (action : Action) → ComesOf insn action →
    stops (perform action view byte) ≡ false → is_some (reserved_by action) ≡ is_load_reserved (Some insn)
reserving_is view byte insn (actions.Trap cause) of goes = absurd (cc)
reserving_is view byte insn _ of goes = rw (reserve_fact insn of) refl

pub reserves_going : (action : Action) (flat : FlatState) (h : ℕ) → IsNext action flat h →
    model.calls_or_stops flat h ≡ false → is_some (reserved_by action) ≡ is_load_reserved (next_insn flat h)
unfolding executed
reserves_going action flat h next goes =
    ap (λ a. is_some (reserved_by a)) next
    ∙ at_word
    (λ insn a. stops (perform a (view_of flat h) (byte_in flat.base flat.bytes)) ≡ false →
    is_some (reserved_by a) ≡ is_load_reserved insn)
    (λ stopped. refl) (λ stopped. refl) (reserving_is (view_of flat h) (byte_in flat.base flat.bytes))
    (code_word flat.code (view_of flat h).pc) (view_of flat h) (span_of flat) (room_of flat)
    (second_not (calls (next_insn flat h)) _ goes)

-- whether it is quiet
quiet_is : (view : HartView) (byte : ℕ → ℕ) (insn : Insn) (action : Action) → ComesOf insn action →
    quiet action
    ≡ (not (is_some (touch_of (footprint action))) && not (is_store_conditional (Some insn))
    && not (is_call insn || stops (perform action view byte)))
quiet_is view byte insn (actions.Trap cause) of =
    rw (or-true (is_call insn), and-false (not (is_store_conditional (Some insn)))) refl
quiet_is view byte insn (actions.Fail rd) of = rw (conditional_fact insn of) refl
quiet_is view byte insn (actions.Append address len) of = refl
quiet_is view byte insn (actions.Load width rd address) of = refl
quiet_is view byte insn (actions.LoadReserved rd address) of = refl
quiet_is view byte insn (actions.Store address len value) of = refl
quiet_is view byte insn (actions.StoreConditional rd address value) of = refl
quiet_is view byte insn (actions.Amo op rd address source) of = refl
quiet_is view byte insn _ of = rw (conditional_fact insn of, call_fact insn of) refl

pub next_quiet : (action : Action) (flat : FlatState) (h : ℕ) → IsNext action flat h → quiet action ≡ is_quiet flat h
unfolding executed
next_quiet action flat h next =
    ap quiet next
    ∙ at_word
    (λ insn a. quiet a
    ≡ (not (is_some (touch_of (footprint a))) && not (is_store_conditional insn)
    && not (calls insn || stops (perform a (view_of flat h) (byte_in flat.base flat.bytes)))))
    refl refl (quiet_is (view_of flat h) (byte_in flat.base flat.bytes))
    (code_word flat.code (view_of flat h).pc) (view_of flat h) (span_of flat) (room_of flat)
    ∙ ap (λ touch. not (is_some touch) && not (is_store_conditional (next_insn flat h))
    && not (model.calls_or_stops flat h))
    (touch_at (code_word flat.code (view_of flat h).pc) (view_of flat h) (span_of flat) (room_of flat))

-- whether it is a release
release_amo : (op : AmoOp) (found : Bool) (source old : ℕ) (loaded : ℕ) →
    (is_swap_op op && (found && (source == old))) ≡ (is_swap_op op && (found && (amo_of op loaded source == old)))
release_amo amos.Swap found source old loaded = refl
release_amo _ found source old loaded = refl

release_is : (word old : ℕ) (view : HartView) (byte : ℕ → ℕ) (insn : Insn) (action : Action) → ComesOf insn action →
    releases word old action
    ≡ ((is_word_store (Some insn) || is_swap (Some insn)) && gives_back word old (store_in (perform action view byte)))
release_is word old view byte insn (actions.Store address len value) of =
    rw (word_store_fact insn of, swap_fact insn of, or-false (len == 4)) refl
release_is word old view byte insn (actions.Amo op rd address source) of =
    rw (word_store_fact insn of, swap_fact insn of) (release_amo op (address == word) source old _)
release_is word old view byte insn (actions.Trap cause) of =
    sym (and-false (is_word_store (Some insn) || is_swap (Some insn)))
release_is word old view byte insn _ of = rw (word_store_fact insn of, swap_fact insn of) refl

pub next_release : (action : Action) (flat : FlatState) (h word old : ℕ) → IsNext action flat h →
    releases word old action ≡ model.is_release flat h word old
unfolding executed
next_release action flat h word old next =
    ap (λ a. releases word old a) next
    ∙ at_word
    (λ insn a. releases word old a
    ≡ ((is_word_store insn || is_swap insn)
    && gives_back word old (store_in (perform a (view_of flat h) (byte_in flat.base flat.bytes)))))
    refl refl (release_is word old (view_of flat h) (byte_in flat.base flat.bytes))
    (code_word flat.code (view_of flat h).pc) (view_of flat h) (span_of flat) (room_of flat)

-- whether it stores to a word
store_is : (word : ℕ) (view : HartView) (byte : ℕ → ℕ) (action : Action) →
    stores_in word action ≡ overlaps word (store_in (perform action view byte))
store_is word view byte (actions.Store address len value) = refl
store_is word view byte (actions.StoreConditional rd address value) = refl
store_is word view byte (actions.Amo op rd address source) = refl
store_is word view byte _ = refl

pub next_store_to_word : (action : Action) (flat : FlatState) (h word : ℕ) → IsNext action flat h →
    stores_in word action ≡ model.stores_to_word flat h word
unfolding executed
next_store_to_word action flat h word next =
    ap (λ a. stores_in word a) next
    ∙ store_is word (view_of flat h) (byte_in flat.base flat.bytes)
    (action_at (code_word flat.code (view_of flat h).pc) (view_of flat h) (span_of flat) (room_of flat))

-- whether it is a call, or stops its hart
call_is : (view : HartView) (byte : ℕ → ℕ) (insn : Insn) (action : Action) → ComesOf insn action →
    is_call_or_stop action ≡ (is_call insn || stops (perform action view byte))
call_is view byte insn (actions.Trap cause) of = sym (or-true (is_call insn))
call_is view byte insn _ of = rw (call_fact insn of) refl

pub next_call_or_stop : (action : Action) (flat : FlatState) (h : ℕ) → IsNext action flat h →
    is_call_or_stop action ≡ model.calls_or_stops flat h
unfolding executed
next_call_or_stop action flat h next =
    ap is_call_or_stop next
    ∙ at_word (λ insn a. is_call_or_stop a
    ≡ (calls insn || stops (perform a (view_of flat h) (byte_in flat.base flat.bytes))))
    refl refl (call_is (view_of flat h) (byte_in flat.base flat.bytes))
    (code_word flat.code (view_of flat h).pc) (view_of flat h) (span_of flat) (room_of flat)
