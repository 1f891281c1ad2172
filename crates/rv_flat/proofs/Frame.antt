-- a step depends on what its hart sees alone
use Rattle.std.proofs.Common.{◌≡◌, ◌≤◌, ◌<◌, ℕ, ◌+◌, ◌-◌, List, [], ◌++◌, length, drop, Option, None, Some, refl, arith}
use Rattle.std.proofs.Common.{ap, sym, subst, ◌∙◌}
use Rattle.std.specs.Prelude.{IfSome, slice_index}
use Rattle.std.proofs.lemmas.Grind.{common_steps, same_number_lists}
use Rattle.std.proofs.lemmas.List.{append-nil, get_or-drop, get_or-take, length-take}
use Rattle.elf_image.specs.Program.{code_word}
use Rattle.rv_alu.proofs.Laws.Executions.{executed-append, executed-room, executed_agree}
use Rattle.rv_alu.specs.declared.footprint.Access.{Access}
use Rattle.rv_alu.specs.declared.footprint.Access.TheVariants.{Read}
use Rattle.rv_alu.specs.declared.view.HartStatus.{HartStatus}
use Rattle.rv_alu.specs.declared.view.HartStatus.TheVariants.{Running, Exited, Trapped}
use Rattle.rv_alu.specs.declared.view.HartView.{HartView}
use Rattle.rv_alu.specs.Execution.{Append, Execution, Store, append_in, executed, insn_at, store_in}
use Rattle.rv_alu.specs.Footprint.{AgreeOn, IsNoCall, IsPiece}
use Rattle.rv_flat.specs.FlatState.{FlatState, room_of, span_of, status_of, view_of}
use Rattle.rv_flat.specs.Laws.{AreSameTo, DidTheSame, IsInOneLine, next_insn, touched_by, touched_in, with_output}
use Rattle.rv_flat.specs.Memory.{byte_in, piece_of}
use Rattle.rv_flat.specs.Step.{appended_by, applied, execution_of, flat, status_step, stored_by}
use Rattle.rv_flat.proofs.Laws.PutBytes.{put_bytes-same}
use Rattle.rv_flat.proofs.Laws.StepLaws.{appended, appended_by-more, one_line-touched, view-applied, within}

-- a hart does the same next in two states that are the same to it
pub same_execution : (left right : FlatState) (view : HartView) → left.code ≡ right.code →
    span_of left ≡ span_of right → room_of left ≡ room_of right →
    AgreeOn (touched_by right view) (byte_in left.base left.bytes) (byte_in right.base right.bytes) →
    execution_of left view ≡ execution_of right view
same_execution left right view code span room bytes =
    let byte : ℕ → ℕ = byte_in left.base left.bytes in
    ap (λ from. executed (code_word from view.pc) view (span_of left) (room_of left) byte) code
    ∙ ap (λ addresses. executed (code_word right.code view.pc) view addresses (room_of left) byte) span
    ∙ ap (λ room. executed (code_word right.code view.pc) view (span_of right) room byte) room
    ∙ executed_agree (code_word right.code view.pc) view (span_of right) (room_of right) byte
    (byte_in right.base right.bytes) bytes

-- a piece of memory depends on the bytes there alone
piece-same : (left right : List ℕ) (place len : ℕ) → length left ≡ length right →
    ((k : ℕ) → place ≤ k → k < place + len → slice_index left k ≡ slice_index right k) →
    piece_of left place len ≡ piece_of right place len
piece-same left right place len same h =
    same_number_lists (piece_of left place len) (piece_of right place len)
    (grind (arith, common_steps))
    (λ k within.
    let short : k < len = omega (arith, length-take {A = ℕ}) in
    get_or-take len (drop place left) k 0 short ∙ get_or-drop place left k 0
    ∙ h (place + k) (omega arith) (omega arith)
    ∙ sym (get_or-take len (drop place right) k 0 short ∙ get_or-drop place right k 0))

-- what the code and memory of two states have in common
record SamePlaces (left right : FlatState) : Type 0 where
  base : left.base ≡ right.base
  size : length left.bytes ≡ length right.bytes

same_places : (left right : FlatState) → span_of left ≡ span_of right → SamePlaces left right
same_places left right same =
    let base : left.base ≡ right.base = ap (λ span. span.base) same in
    let end : left.base + length left.bytes ≡ right.base + length right.bytes = ap (λ span. span.end) same in
    record { base = base; size = omega arith }

same_appended : (left right : FlatState) (append : Option Append) (access : Access) → SamePlaces left right →
    IsInOneLine (span_of right) access → IfSome append (λ append. access ≡ Read append.address append.len) →
    AgreeOn access (byte_in left.base left.bytes) (byte_in right.base right.bytes) →
    appended append left.base left.bytes ≡ appended append right.base right.bytes
same_appended left right None access same piece is agree = refl
same_appended left right (Some append) access same piece is agree =
    let there : IsPiece (span_of right) append.address append.len = rw is at piece in
    let agree = rw is at agree in
    ap (λ base. piece_of left.bytes (append.address - base) append.len) same.base
    ∙ piece-same left.bytes right.bytes (append.address - right.base) append.len same.size
    (λ k low high.
    let above : right.base ≤ append.address = there.from_base in
    let base : left.base ≡ right.base = same.base in
    let back_left : right.base + k - left.base ≡ k = omega arith in
    let back_right : right.base + k - right.base ≡ k = omega arith in
    rw (back_left, back_right) at (agree (right.base + k) (omega arith, omega arith)))

same_stored : (left right : FlatState) (store : Option Store) → SamePlaces left right → (place : ℕ) →
    slice_index left.bytes place ≡ slice_index right.bytes place →
    slice_index (stored_by store left.base left.bytes) place
    ≡ slice_index (stored_by store right.base right.bytes) place
same_stored left right None same place h = h
same_stored left right (Some store) same place h =
    rw same.base
    (put_bytes-same left.bytes right.bytes (store.address - right.base) store.len store.value place same.size h)

-- one execution does the same to both
same_applied : (hart : ℕ) (left right : FlatState) (view : HartView) → hart < length left.harts →
    hart < length right.harts → SamePlaces left right →
    AgreeOn (touched_by right view) (byte_in left.base left.bytes) (byte_in right.base right.bytes) →
    DidTheSame hart left right (applied left hart view (execution_of right view))
    (applied right hart view (execution_of right view))
same_applied hart left right view in_left in_right same agree =
    let execution : Execution = execution_of right view in
    record {
      view = view-applied left hart view execution in_left ∙ sym (view-applied right hart view execution in_right);
      bytes = same_stored left right (store_in execution) same;
      more = appended (append_in execution) right.base right.bytes;
      left_output =
          appended_by-more (append_in execution) left.base left.bytes left.output
          ∙ ap (λ more. left.output ++ more)
          (same_appended left right (append_in execution) (touched_by right view) same (one_line-touched right view)
          (within right view).append agree);
      right_output = appended_by-more (append_in execution) right.base right.bytes right.output;
    }

same_status : (hart : ℕ) (left right : FlatState) (view : HartView) (status : HartStatus) → hart < length left.harts →
    hart < length right.harts → view_of left hart ≡ view_of right hart → left.code ≡ right.code →
    span_of left ≡ span_of right → room_of left ≡ room_of right →
    AgreeOn (touched_in right view status) (byte_in left.base left.bytes) (byte_in right.base right.bytes) →
    DidTheSame hart left right (status_step left hart view status) (status_step right hart view status)
same_status hart left right view Running in_left in_right seen code span room agree =
    let Did : Execution → Type 0 =
    λ execution. DidTheSame hart left right (applied left hart view execution)
    (applied right hart view (execution_of right view)) in
    subst Did (sym (same_execution left right view code span room agree))
    (same_applied hart left right view in_left in_right (same_places left right span) agree)
same_status hart left right view (Exited exit) in_left in_right seen code span room agree =
    record {
      view = seen;
      bytes = λ place h. h;
      more = [];
      left_output = sym (append-nil left.output);
      right_output = sym (append-nil right.output);
    }
same_status hart left right view (Trapped cause pc) in_left in_right seen code span room agree =
    record {
      view = seen;
      bytes = λ place h. h;
      more = [];
      left_output = sym (append-nil left.output);
      right_output = sym (append-nil right.output);
    }

-- a step does the same to two states that are the same to its hart
pub same_step : (hart : ℕ) (left right : FlatState) → hart < length left.harts → hart < length right.harts →
    AreSameTo hart left right → DidTheSame hart left right (flat left hart) (flat right hart)
unfolding flat
same_step hart left right in_left in_right same =
    let Did : HartView → Type 0 =
    λ view. DidTheSame hart left right (status_step left hart view view.status) (flat right hart) in
    subst Did (sym same.view)
    (same_status hart left right (view_of right hart) (status_of right hart) in_left in_right same.view same.code
    same.span same.room same.bytes)

any_output-applied : (state : FlatState) (output : List ℕ) (hart : ℕ) (view : HartView) →
    IsNoCall (insn_at (code_word state.code view.pc)) →
    applied (with_output state output) hart view (execution_of (with_output state output) view)
    ≡ with_output (applied state hart view (execution_of state view)) output
any_output-applied state output hart view none =
    let word : Option ℕ = code_word state.code view.pc in
    let byte : ℕ → ℕ = byte_in state.base state.bytes in
    ap (applied (with_output state output) hart view)
    (executed-room word view (span_of state) (room_of (with_output state output)) (room_of state) byte none)
    ∙ ap (λ append. with_output (applied state hart view (execution_of state view))
    (appended_by append state.base state.bytes output))
    (executed-append word view (span_of state) (room_of state) byte none)

any_output-status : (state : FlatState) (output : List ℕ) (hart : ℕ) (view : HartView) (status : HartStatus) →
    IsNoCall (insn_at (code_word state.code view.pc)) →
    status_step (with_output state output) hart view status ≡ with_output (status_step state hart view status) output
any_output-status state output hart view Running none = any_output-applied state output hart view none
any_output-status state output hart view (Exited code) none = refl
any_output-status state output hart view (Trapped cause pc) none = refl

-- a step that makes no call is the same whatever the output is
pub any_output : (state : FlatState) (output : List ℕ) (hart : ℕ) → IsNoCall (next_insn state hart) →
    flat (with_output state output) hart ≡ with_output (flat state hart) output
unfolding flat
any_output state output hart none = any_output-status state output hart (view_of state hart) (status_of state hart) none
