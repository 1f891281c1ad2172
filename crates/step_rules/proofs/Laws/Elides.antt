-- the rule of a hart outside of a section, by what its next action is
use Rattle.std.proofs.Common.{◌≡◌, ◌∙◌, ◌≤◌, ℕ, Bool, true, false, Option, None, Some, refl, ap, subst, sym}
use Rattle.std.specs.Prelude.{if◌then◌else◌}
use Rattle.std.proofs.lemmas.Option.{same_Some}
use Rattle.elf_image.specs.Program.{code_word}
use Rattle.el_model.specs.Plain.{may_elide, plain_rule, reserve_rule, swap_rule, touch_rule}
use Rattle.el_model.specs.State.{ModelState, hart_of}
use Rattle.el_model.specs.Upcoming.{Swap, is_swap_op, next_reserved, next_swap, next_touch}
use Rattle.rv_alu.proofs.Laws.Footprints.{fits}
use Rattle.rv_alu.specs.Action.{action_at, insn_action_of}
use Rattle.rv_alu.specs.Footprint.{IsInPlace}
use Rattle.rv_alu.specs.Loaded.{loaded}
use Rattle.rv_alu.specs.declared.action.Action.{Action}
use Rattle.rv_alu.specs.declared.action.Action.TheVariants as actions
use Rattle.rv_alu.specs.declared.span.Span.{Span}
use Rattle.rv_alu.specs.declared.view.HartView.{HartView}
use Rattle.rv_flat.specs.FlatState.{FlatState, room_of, span_of, view_of}
use Rattle.rv_flat.specs.Memory.{byte_in}
use Rattle.rv_word.specs.Decoding.{decoded}
use Rattle.rv_word.specs.declared.insn.Insn.{Insn}
use Rattle.step_rules.proofs.Laws.NextAction.{next_reserved as reserved_next, next_swap as swap_next}
use Rattle.step_rules.specs.Actions.{IsNext, reserved_by, swap_by, swap_over}
use Rattle.step_rules.specs.Rules.{MayElide, acquiring_rule}
use Rattle.step_rules.specs.declared.upcoming.Exchange as exchanges
use Rattle.el_base.proofs.Laws.Cases.{none_some}

-- a hart's next action is in its place
in_place_at : (word : Option ℕ) (view : HartView) (span : Span) (room : ℕ) →
    IsInPlace span room (action_at word view span room)
in_place_at None view span room = tt
in_place_at (Some word) view span room = by (decoded word)
  where
    by : (insn : Option Insn) → IsInPlace span room (insn_action_of insn view span room)
    by None = tt
    by (Some insn) = (fits insn view.pc view.regs view.reserved span room).in_place

-- the word of a swap lies in memory
swap_from : (span : Span) (room : ℕ) (byte : ℕ → ℕ) (action : Action) (swap : Swap) → IsInPlace span room action →
    swap_by byte action ≡ Some swap → span.base ≤ swap.word
swap_from span room byte (actions.Amo op rd address source) swap place is =
    by (is_swap_op op) (record { word = address; old = loaded byte address 4; new = source }) place.from_base is
  where
    by : (b : Bool) (found : Swap) → span.base ≤ found.word → (if b then Some found else None) ≡ Some swap →
        span.base ≤ swap.word
    by true found from same = subst (λ s. span.base ≤ s.word) (same_Some found swap same) from
    by false found from same = none_some same
swap_from span room byte _ swap place is = none_some is

next_in_place : (action : Action) (flat : FlatState) (h : ℕ) → IsNext action flat h →
    IsInPlace (span_of flat) (room_of flat) action
next_in_place action flat h next =
    subst (IsInPlace (span_of flat) (room_of flat)) (sym next)
    (in_place_at (code_word flat.code (view_of flat h).pc) (view_of flat h) (span_of flat) (room_of flat))

pub exchange_from : (action : Action) (flat : FlatState) (h : ℕ) (exchange : exchanges.Exchange) →
    IsNext action flat h → Some (swap_over (byte_in flat.base flat.bytes) exchange) ≡ next_swap flat h →
    flat.base ≤ exchange.word
exchange_from action flat h exchange next is =
    swap_from (span_of flat) (room_of flat) (byte_in flat.base flat.bytes) action
    (swap_over (byte_in flat.base flat.bytes) exchange)
    (next_in_place action flat h next) (swap_next action flat h next ∙ sym is)

-- the word that an LR reserves does too
reserved_from : (span : Span) (room : ℕ) (action : Action) (word : ℕ) → IsInPlace span room action →
    reserved_by action ≡ Some word → span.base ≤ word
reserved_from span room (actions.LoadReserved rd address) word place is =
    subst (λ w. span.base ≤ w) (same_Some address word is) place.from_base
reserved_from span room _ word place is = none_some is

pub reserve_from : (action : Action) (flat : FlatState) (h word : ℕ) → IsNext action flat h →
    Some word ≡ next_reserved flat h → flat.base ≤ word
reserve_from action flat h word next is =
    reserved_from (span_of flat) (room_of flat) action word (next_in_place action flat h next)
    (reserved_next action flat h next ∙ sym is)

-- the rule where the hart may elide
acquiring_same : (state : ModelState) (h : ℕ) →
    may_elide state.config.mode (hart_of state h) (view_of state.committed h).pc ≡ true → (found : Option Swap) →
    acquiring_rule state h found ≡ swap_rule state h found
acquiring_same state h may None =
    sym (ap (λ b. reserve_rule state h (if b then next_reserved state.committed h else None)) may)
acquiring_same state h may (Some swap) = refl

pub elided : (state : ModelState) (h : ℕ) (may : Bool) → MayElide state h may → may ≡ true →
    acquiring_rule state h (next_swap state.committed h) ≡ plain_rule state h
elided state h may is true_is =
    let trusted = sym is ∙ true_is in
    acquiring_same state h trusted (next_swap state.committed h)
    ∙ sym (ap (λ b. swap_rule state h (if b then next_swap state.committed h else None)) trusted)

-- and where it may not
pub not_elided : (state : ModelState) (h : ℕ) (may : Bool) → MayElide state h may → may ≡ false →
    touch_rule state h (next_touch state.committed h) ≡ plain_rule state h
not_elided state h may is false_is =
    let distrusted = sym is ∙ false_is in
    sym (ap (λ b. reserve_rule state h (if b then next_reserved state.committed h else None)) distrusted)
    ∙ sym (ap (λ b. swap_rule state h (if b then next_swap state.committed h else None)) distrusted)
