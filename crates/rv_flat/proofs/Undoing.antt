-- what a step overwrites, put back, gives the state before the step
use Rattle.std.proofs.Common.{◌≡◌, ◌≤◌, ◌<◌, ℕ, ◌+◌, ◌-◌, List, ◌++◌, append_assoc, length, take, drop, arith, refl, ap}
use Rattle.std.proofs.Common.{sym, subst, ◌∙◌, inl, inr, ◌⊎◌}
use Rattle.std.specs.Prelude.{Bool, true, false, if◌then◌else◌, nat_eq, replicate, slice_index, slice_index_or}
use Rattle.std.specs.Prelude.{slice_set}
use Rattle.std.proofs.lemmas.Bool.{cases_eq}
use Rattle.std.proofs.lemmas.Grind.{same_number_lists}
use Rattle.std.proofs.lemmas.List.{drop-drop, get_or_default, get_or-drop, get_or-set_other, get_or-set_same}
use Rattle.std.proofs.lemmas.List.{get_or-take, length-drop, length-take, same_lists, set-get_or, set-set}
use Rattle.std.proofs.lemmas.List.{take-append-drop, take_at}
use Rattle.elf_image.specs.Program.{CodeSegment}
use Rattle.rv_alu.specs.declared.action.Action.{Action}
use Rattle.rv_alu.specs.declared.action.Action.TheVariants as actions
use Rattle.rv_alu.specs.declared.footprint.Access.{Access}
use Rattle.rv_alu.specs.declared.footprint.Access.TheVariants.{Nothing, Read, Write, Trap, Exit}
use Rattle.rv_alu.specs.declared.view.HartStatus.{HartStatus}
use Rattle.rv_alu.specs.declared.view.HartStatus.TheVariants.{Running, Exited, Trapped}
use Rattle.rv_alu.specs.declared.view.HartView.{HartView}
use Rattle.rv_alu.specs.Execution.{executed, perform, view_after}
use Rattle.rv_alu.specs.Regs.{a0, get, set}
use Rattle.rv_flat.specs.declared.change.Change.{Change}
use Rattle.rv_flat.specs.Change.{IsChangeOf, IsLeftBy, register_in, register_of, reserved_in, written_from, written_len}
use Rattle.rv_flat.specs.Change.{written_register}
use Rattle.rv_flat.specs.FlatState.{FlatState, no_hart, status_of, view_of}
use Rattle.rv_flat.specs.Laws.{KeepsShape, Writes, footprint_of, seen_after}
use Rattle.rv_flat.specs.Memory.{byte_in, piece_of}
use Rattle.rv_flat.specs.Step.{action_of, execution_of, flat, status_step}
use Rattle.rv_flat.proofs.Changes.{IsWritable, reserved-held, step-writable}
use Rattle.rv_flat.proofs.Laws.StepLaws.{keeps_others, keeps_shape, view-applied, writes_in_footprint}

-- a register that is written twice, the second time with what it had, is as it was
set-back : (regs : List ℕ) (reg value : ℕ) → set (set regs reg value) reg (get regs reg) ≡ regs
set-back regs reg value = tested (nat_eq reg 0)
  where
    tested : (b : Bool) → (if b then (if b then regs else slice_set regs reg value)
        else slice_set (if b then regs else slice_set regs reg value) reg (get regs reg)) ≡ regs
    tested true = refl
    tested false = set-set regs reg value (get regs reg) ∙ set-get_or regs reg 0

-- a hart's view with the pc, status, register and reservation of another
abbrev pub given_back : HartView → ℕ → HartView → HartView
given_back before written after =
    record after {
      pc = before.pc;
      regs = set after.regs written (get before.regs written);
      reserved = before.reserved;
      status = before.status;
    }

own-performed : (action : Action) (view : HartView) (byte : ℕ → ℕ) →
    given_back view (written_register action) (view_after (perform action view byte) view) ≡ view
own-performed (actions.Put rd value) view byte =
    ap (λ regs. record view { regs = regs }) (set-back view.regs rd.number value)
own-performed (actions.JumpAndLink rd target) view byte =
    ap (λ regs. record view { regs = regs }) (set-back view.regs rd.number _)
own-performed (actions.Answer value) view byte = ap (λ regs. record view { regs = regs }) (set-back view.regs a0 value)
own-performed (actions.Append address len) view byte =
    ap (λ regs. record view { regs = regs }) (set-back view.regs a0 len)
own-performed (actions.Load width rd address) view byte =
    ap (λ regs. record view { regs = regs }) (set-back view.regs rd.number _)
own-performed (actions.LoadReserved rd address) view byte =
    ap (λ regs. record view { regs = regs }) (set-back view.regs rd.number _)
own-performed (actions.StoreConditional rd address value) view byte =
    ap (λ regs. record view { regs = regs }) (set-back view.regs rd.number 0)
own-performed (actions.Fail rd) view byte = ap (λ regs. record view { regs = regs }) (set-back view.regs rd.number 1)
own-performed (actions.Amo op rd address source) view byte =
    ap (λ regs. record view { regs = regs }) (set-back view.regs rd.number _)
own-performed _ view byte = refl

own-status : (before : FlatState) (hart : ℕ) (view : HartView) (status : HartStatus) → hart < length before.harts →
    view_of before hart ≡ view →
    given_back view (register_in before view status) (view_of (status_step before hart view status) hart) ≡ view
unfolding executed
own-status before hart view Running there seen =
    ap (given_back view (written_register (action_of before view)))
    (view-applied before hart view (execution_of before view) there)
    ∙ own-performed (action_of before view) view (byte_in before.base before.bytes)
own-status before hart view (Exited code) there seen = ap (given_back view 0) seen
own-status before hart view (Trapped cause pc) there seen = ap (given_back view 0) seen

-- a hart's own view, given back after its step
own : (before : FlatState) (hart : ℕ) → hart < length before.harts →
    given_back (view_of before hart) (register_of before hart) (view_of (flat before hart) hart) ≡ view_of before hart
unfolding flat
own before hart there = own-status before hart (view_of before hart) (status_of before hart) there refl

-- another hart's view, given its reservation back
other-seen : (access : Access) (view : HartView) → record (seen_after access view) { reserved = view.reserved } ≡ view
other-seen (Write from len) view = refl
other-seen (Read from len) view = refl
other-seen Nothing view = refl
other-seen (Trap cause) view = refl
other-seen (Exit code) view = refl

-- what is below a place, and from one on, depends on the bytes there alone
below-same : (left right : List ℕ) (place : ℕ) → length left ≡ length right →
    ((k : ℕ) → k < place → slice_index left k ≡ slice_index right k) →
    take place left ≡ take place right
below-same left right place same h =
    same_number_lists (take place left) (take place right) (omega (arith, length-take {A = ℕ}))
    (λ k within.
    let low : k < place = omega (arith, length-take {A = ℕ}) in
    get_or-take place left k 0 low ∙ h k low ∙ sym (get_or-take place right k 0 low))

above-same : (left right : List ℕ) (place : ℕ) → length left ≡ length right →
    ((k : ℕ) → place ≤ k → slice_index left k ≡ slice_index right k) →
    drop place left ≡ drop place right
above-same left right place same h =
    same_number_lists (drop place left) (drop place right) (omega (arith, length-drop {A = ℕ}))
    (λ k within. get_or-drop place left k 0 ∙ h (place + k) (omega arith) ∙ sym (get_or-drop place right k 0))

-- a list is what is below a place, a piece from there on, and the rest
in_pieces : (bytes : List ℕ) (place len : ℕ) →
    take place bytes ++ piece_of bytes place len ++ drop (place + len) bytes ≡ bytes
in_pieces bytes place len =
    append_assoc (take place bytes) (piece_of bytes place len) (drop (place + len) bytes)
    ∙ ap (λ rest. take place bytes ++ rest)
    (ap (λ rest. piece_of bytes place len ++ rest) (sym (drop-drop len place bytes))
    ∙ take-append-drop len (drop place bytes))
    ∙ take-append-drop place bytes

-- bytes that changed in one piece, with that piece put back
piece-back : (before after : List ℕ) (place len : ℕ) → length after ≡ length before →
    ((k : ℕ) → (place ≤ k → k < place + len → ⊥) → slice_index after k ≡ slice_index before k) →
    take place after ++ piece_of before place len ++ drop (place + len) after ≡ before
piece-back before after place len same h =
    ap (λ low. low ++ piece_of before place len ++ drop (place + len) after)
    (below-same after before place same (λ k low. h k (λ from within. omega arith)))
    ∙ ap (λ high. take place before ++ piece_of before place len ++ high)
    (above-same after before (place + len) same (λ k high. h k (λ from within. omega arith)))
    ∙ in_pieces before place len

-- a place that the access does not write
outside : (base place : ℕ) (access : Access) →
    (written_from access - base ≤ place → place < written_from access - base + written_len access → ⊥) →
    Writes access (base + place) → ⊥
outside base place (Write from len) h there = h (omega arith) (omega arith)
outside base place (Read from len) h there = there
outside base place Nothing h there = there
outside base place (Trap cause) h there = there
outside base place (Exit code) h there = there

-- where a change's address, base and length are equal to others
pieces-same : (bytes held : List ℕ) (address from base old_base len n : ℕ) → address ≡ from → base ≡ old_base →
    len ≡ n → take (address - base) bytes ++ take len held ++ drop (address - base + length (take len held)) bytes
    ≡ take (from - old_base) bytes ++ take n held ++ drop (from - old_base + length (take n held)) bytes
pieces-same bytes held address from base old_base len n there same long = rw (there, same, long) refl

length-piece : (bytes : List ℕ) (place len : ℕ) → place + len ≤ length bytes → length (piece_of bytes place len) ≡ len
length-piece bytes place len inside = omega (arith, length-take len (drop place bytes), length-drop place bytes)

-- the view that has a change's pc, register and status
abbrev pub changed-view : Change → HartView → HartView
changed-view change view =
    record view {
      pc = change.pc;
      regs = set view.regs change.reg.number change.value;
      status = change.status;
    }

changed-given : (change : Change) (before : HartView) (written : ℕ) (after : HartView) → change.pc ≡ before.pc →
    change.status ≡ before.status → change.reg.number ≡ written → change.value ≡ get before.regs written →
    reserved_in change change.hart.number ≡ before.reserved →
    record (changed-view change after) { reserved = reserved_in change change.hart.number }
    ≡ given_back before written after
changed-given change before written after pc status reg value reserved = rw (pc, status, reg, value, reserved) refl

-- a state is what undoing a change leaves of another one
pub record IsPutBack (change : Change) (after new : FlatState) : Type 0 where
  pub count : length new.harts ≡ length after.harts
  pub harts : (hart : ℕ) → hart < length after.harts →
      slice_index_or new.harts hart no_hart
      ≡ record (slice_index_or (slice_set after.harts change.hart.number
      (changed-view change (view_of after change.hart.number))) hart no_hart)
      { reserved = reserved_in change hart }
  pub bytes : (let place = change.address - after.base in let held = take change.len change.bytes in
      new.bytes ≡ take place after.bytes ++ held ++ drop (place + length held) after.bytes)
  pub output : new.output ≡ take change.output after.output
  pub base : new.base ≡ after.base
  pub code : new.code ≡ after.code

-- one hart's view, with its reservation back
one-back : (before : FlatState) (change : Change) (new : FlatState) (k : ℕ) → change.hart.number < length before.harts →
    IsChangeOf before change.hart.number change → IsPutBack change (flat before change.hart.number) new →
    k < length before.harts → (k ≡ change.hart.number) ⊎ (k ≡ change.hart.number → ⊥) → view_of new k ≡ view_of before k
one-back before change new k there held is below (inl same) =
    let hart : ℕ = change.hart.number in
    let after : FlatState = flat before hart in
    let exists : hart < length after.harts = omega (arith, (keeps_shape before hart).harts) in
    let Back : HartView → HartView = λ view. record view { reserved = reserved_in change hart } in
    rw same
    (is.harts hart exists
    ∙ ap Back (get_or-set_same after.harts hart (changed-view change (view_of after hart)) no_hart exists)
    ∙ changed-given change (view_of before hart) (register_of before hart) (view_of after hart) held.pc held.status
    held.reg held.value
    (reserved-held change hart (view_of before hart).reserved (held.holders hart) (held.words hart))
    ∙ own before hart there)
one-back before change new k there held is below (inr apart) =
    let hart : ℕ = change.hart.number in
    let after : FlatState = flat before hart in
    let exists : k < length after.harts = omega (arith, (keeps_shape before hart).harts) in
    let Back : HartView → HartView = λ view. record view { reserved = reserved_in change k } in
    is.harts k exists
    ∙ ap Back
    (get_or-set_other after.harts hart k (changed-view change (view_of after hart)) no_hart apart
    ∙ keeps_others before hart k apart)
    ∙ ap (λ reserved. record (seen_after (footprint_of before hart) (view_of before k)) { reserved = reserved })
    (reserved-held change k (view_of before k).reserved (held.holders k) (held.words k))
    ∙ other-seen (footprint_of before hart) (view_of before k)

harts-back : (before : FlatState) (change : Change) (new : FlatState) → change.hart.number < length before.harts →
    IsChangeOf before change.hart.number change → IsPutBack change (flat before change.hart.number) new →
    new.harts ≡ before.harts
harts-back before change new there held is =
    let count : length (flat before change.hart.number).harts ≡ length before.harts =
    (keeps_shape before change.hart.number).harts in
    same_lists new.harts before.harts (is.count ∙ count)
    (λ k d within.
    let below : k < length before.harts = omega (arith, is.count, count) in
    get_or_default new.harts k d no_hart within
    ∙ one-back before change new k there held is below (cases_eq k change.hart.number)
    ∙ sym (get_or_default before.harts k d no_hart below))

bytes-back : (before : FlatState) (change : Change) (new : FlatState) → IsChangeOf before change.hart.number change →
    IsPutBack change (flat before change.hart.number) new → new.bytes ≡ before.bytes
bytes-back before change new held is =
    let hart : ℕ = change.hart.number in
    let access : Access = footprint_of before hart in
    let after : FlatState = flat before hart in
    let shape : KeepsShape before after = keeps_shape before hart in
    let from : ℕ = written_from access in
    let len : ℕ = written_len access in
    let place : ℕ = from - before.base in
    let long : length (piece_of before.bytes place len) ≡ len =
    length-piece before.bytes place len (step-writable before hart).inside in
    is.bytes
    ∙ pieces-same after.bytes change.bytes change.address from after.base before.base change.len len held.address
    shape.base held.len
    ∙ ap (λ piece. take place after.bytes ++ piece ++ drop (place + length piece) after.bytes)
    (ap (take len) held.bytes ∙ take_at (piece_of before.bytes place len) (replicate (4 - len) 0) len long)
    ∙ ap (λ n. take place after.bytes ++ piece_of before.bytes place len ++ drop (place + n) after.bytes) long
    ∙ piece-back before.bytes after.bytes place len shape.length_of_bytes
    (λ k out. writes_in_footprint before hart k (outside before.base k access out))

output-back : (before : FlatState) (change : Change) (new : FlatState) → IsChangeOf before change.hart.number change →
    IsPutBack change (flat before change.hart.number) new → new.output ≡ before.output
output-back before change new held is =
    let shape : KeepsShape before (flat before change.hart.number) = keeps_shape before change.hart.number in
    is.output
    ∙ ap (λ len. take len (flat before change.hart.number).output) held.output
    ∙ ap (take (length before.output)) shape.output
    ∙ take_at before.output shape.more (length before.output) refl

same-state : (left right : FlatState) → left.harts ≡ right.harts → left.base ≡ right.base → left.bytes ≡ right.bytes →
    left.code ≡ right.code →
    left.output ≡ right.output → left ≡ right
same-state left right harts base bytes code output =
    let Of : List HartView → ℕ → List ℕ → List CodeSegment → List ℕ → FlatState =
    λ harts base bytes code output.
    record { harts = harts; base = base; bytes = bytes; code = code; output = output } in
    let same : Of left.harts left.base left.bytes left.code left.output ≡ Of right.harts right.base right.bytes
    right.code right.output = cc in
    same

-- what undoing a step's change leaves of the step's state is the state before the step
pub undone : (before : FlatState) (change : Change) (after new : FlatState) → IsLeftBy before change after →
    IsPutBack change after new → new ≡ before
undone before change after new left is =
    let Back : FlatState → Type 0 = λ after. IsPutBack change after new in
    let is : IsPutBack change (flat before change.hart.number) new = subst Back left.stepped is in
    let shape : KeepsShape before (flat before change.hart.number) = keeps_shape before change.hart.number in
    same-state new before (harts-back before change new left.exists left.noted is) (is.base ∙ shape.base)
    (bytes-back before change new left.noted is)
    (is.code ∙ shape.code) (output-back before change new left.noted is)

-- what undoing needs of a state and a change
pub record CanUndo (change : Change) (after : FlatState) : Type 0 where
  pub exists : change.hart.number < length after.harts
  pub short : change.len ≤ 4
  pub inside : change.address - after.base + change.len ≤ length after.bytes

pub can_undo : (before : FlatState) (change : Change) (after : FlatState) → IsLeftBy before change after →
    CanUndo change after
can_undo before change after left =
    let hart : ℕ = change.hart.number in
    let shape : KeepsShape before (flat before hart) = keeps_shape before hart in
    let writable : IsWritable before (footprint_of before hart) = step-writable before hart in
    let can : CanUndo change (flat before hart) = record {
      exists = rw shape.harts left.exists;
      short = rw left.noted.len writable.short;
      inside = rw (left.noted.address, left.noted.len, shape.base, shape.length_of_bytes) writable.inside;
    } in
    subst (CanUndo change) (sym left.stepped) can
