-- what a change holds, and where a step stores
use Rattle.std.proofs.Common.{◌≡◌, ◌≢◌, ◌≤◌, ℕ, ◌+◌, ◌-◌, length, Option, None, Some, arith, refl, ap, sym, subst, ◌∙◌}
use Rattle.std.specs.Prelude.{is_some, slice_index}
use Rattle.std.specs.Option.{unwrap_or}
use Rattle.elf_image.specs.Program.{code_word}
use Rattle.el_base.specs.Harts.{has_hart}
use Rattle.rv_alu.proofs.Laws.Footprints.{fits}
use Rattle.rv_alu.specs.declared.action.Action.{Action}
use Rattle.rv_alu.specs.declared.action.Action.TheVariants as actions
use Rattle.rv_alu.specs.declared.footprint.Access.{Access}
use Rattle.rv_alu.specs.declared.footprint.Access.TheVariants.{Nothing}
use Rattle.rv_alu.specs.declared.view.HartStatus.{HartStatus}
use Rattle.rv_alu.specs.declared.view.HartStatus.TheVariants.{Running, Exited, Trapped}
use Rattle.rv_alu.specs.declared.view.HartView.{HartView}
use Rattle.rv_alu.specs.Action.{action_at, insn_action_of}
use Rattle.rv_alu.specs.Execution.{insn_at, insn_touched, touched}
use Rattle.rv_alu.specs.Footprint.{IsInPlace, IsPiece, IsSize, footprint}
use Rattle.rv_word.specs.Decoding.{decoded}
use Rattle.rv_word.specs.declared.insn.Insn.{Insn}
use Rattle.rv_flat.specs.declared.change.Change.{Change}
use Rattle.rv_flat.specs.Change.{Holds, IsChangeOf, four_bytes, register_in, reserved_in, written_from, written_len}
use Rattle.rv_flat.specs.Change.{written_register}
use Rattle.rv_flat.specs.FlatState.{FlatState, room_of, span_of, status_of, view_of}
use Rattle.rv_flat.specs.Laws.{footprint_of, touched_in}
use Rattle.rv_flat.specs.Step.{action_of}

-- what is written lies in memory, and is no longer than a word
pub record IsWritable (state : FlatState) (access : Access) : Type 0 where
  pub short : written_len access ≤ 4
  pub inside : written_from access - state.base + written_len access ≤ length state.bytes

pub in_place-writable : (state : FlatState) (action : Action) → IsInPlace (span_of state) (room_of state) action →
    IsWritable state (footprint action)
in_place-writable state (actions.Store address len value) h =
    let there : IsPiece (span_of state) address len = h.0 in
    let above : state.base ≤ address = there.from_base in
    let below : address + len ≤ state.base + length state.bytes = there.before_end in
    let sized : IsSize len = h.1 in
    record { short = omega arith; inside = omega arith }
in_place-writable state (actions.StoreConditional rd address value) h =
    let above : state.base ≤ address = h.from_base in
    let below : address + 4 ≤ state.base + length state.bytes = h.before_end in
    record { short = omega arith; inside = omega arith }
in_place-writable state (actions.Amo op rd address source) h =
    let above : state.base ≤ address = h.from_base in
    let below : address + 4 ≤ state.base + length state.bytes = h.before_end in
    record { short = omega arith; inside = omega arith }
in_place-writable state _ h = record { short = omega arith; inside = omega arith }

nothing-writable : (state : FlatState) → IsWritable state Nothing
nothing-writable state = record { short = omega arith; inside = omega arith }

insn-writable : (state : FlatState) (view : HartView) (insn : Option Insn) →
    IsWritable state (insn_touched insn view (span_of state) (room_of state))
insn-writable state view None = nothing-writable state
insn-writable state view (Some insn) =
    in_place-writable state (insn_action_of (Some insn) view (span_of state) (room_of state))
    (fits insn view.pc view.regs view.reserved (span_of state) (room_of state)).in_place

status-writable : (state : FlatState) (view : HartView) (status : HartStatus) →
    IsWritable state (touched_in state view status)
status-writable state view Running = insn-writable state view (insn_at (code_word state.code view.pc))
status-writable state view (Exited code) = nothing-writable state
status-writable state view (Trapped cause pc) = nothing-writable state

-- where a step writes lies in memory
pub step-writable : (state : FlatState) (hart : ℕ) → IsWritable state (footprint_of state hart)
step-writable state hart = status-writable state (view_of state hart) (status_of state hart)

-- a change depends on what an access writes alone
holds-same : (state : FlatState) (hart written : ℕ) (left right : Access) (change : Change) →
    written_from left ≡ written_from right → written_len left ≡ written_len right →
    Holds state hart written left change → Holds state hart written right change
holds-same state hart written left right change from len h =
    record {
      number = h.number;
      pc = h.pc;
      status = h.status;
      reg = h.reg;
      value = h.value;
      address = h.address ∙ from;
      len = h.len ∙ len;
      bytes =
          h.bytes ∙ ap (λ from. four_bytes state from (written_len left)) from
          ∙ ap (four_bytes state (written_from right)) len;
      holders = h.holders;
      words = h.words;
      output = h.output;
    }

insn-holds : (state : FlatState) (hart written : ℕ) (view : HartView) (change : Change) (insn : Option Insn) →
    Holds state hart written (footprint (insn_action_of insn view (span_of state) (room_of state))) change →
    Holds state hart written (insn_touched insn view (span_of state) (room_of state)) change
insn-holds state hart written view change None h =
    holds-same state hart written (footprint (actions.Trap 2)) Nothing change refl refl h
insn-holds state hart written view change (Some insn) h = h

word-holds : (state : FlatState) (hart written : ℕ) (view : HartView) (change : Change) (word : Option ℕ) →
    Holds state hart written (footprint (action_at word view (span_of state) (room_of state))) change →
    Holds state hart written (touched word view (span_of state) (room_of state)) change
word-holds state hart written view change None h =
    holds-same state hart written (footprint (actions.Trap 1)) Nothing change refl refl h
word-holds state hart written view change (Some word) h = insn-holds state hart written view change (decoded word) h

-- the change of a hart that runs is that of its next action
pub running-change : (state : FlatState) (hart : ℕ) (action : Action) (change : Change) →
    status_of state hart ≡ Running → action ≡ action_of state (view_of state hart) →
    Holds state hart (written_register action) (footprint action) change → IsChangeOf state hart change
running-change state hart action change runs is h =
    let view : HartView = view_of state hart in
    let By : HartStatus → Type 0 =
    λ status. Holds state hart (register_in state view status) (touched_in state view status) change in
    let Of : Action → Type 0 = λ action. Holds state hart (written_register action) (footprint action) change in
    subst By (sym runs)
    (word-holds state hart (written_register (action_of state view)) view change (code_word state.code view.pc)
    (subst Of is h))

stopped-status : (state : FlatState) (hart : ℕ) (view : HartView) (status : HartStatus) (change : Change) →
    status ≢ Running → Holds state hart 0 Nothing change →
    Holds state hart (register_in state view status) (touched_in state view status) change
stopped-status state hart view Running change stopped h = absurd (stopped refl)
stopped-status state hart view (Exited code) change stopped h = h
stopped-status state hart view (Trapped cause pc) change stopped h = h

-- the change of a hart that has stopped holds no register and no bytes
pub stopped-change : (state : FlatState) (hart : ℕ) (change : Change) → status_of state hart ≢ Running →
    Holds state hart 0 Nothing change → IsChangeOf state hart change
stopped-change state hart change stopped h =
    stopped-status state hart (view_of state hart) (status_of state hart) change stopped h

-- a reservation that a change holds is the hart's
pub reserved-held : (change : Change) (hart : ℕ) (reserved : Option ℕ) →
    has_hart change.holders hart ≡ is_some reserved → slice_index change.words hart ≡ unwrap_or reserved 0 →
    reserved_in change hart ≡ reserved
reserved-held change hart None holder word = rw holder refl
reserved-held change hart (Some there) holder word = rw holder (ap Some word)
