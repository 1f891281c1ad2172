-- the laws of a step
use Rattle.std.proofs.Common.{◌≡◌, ◌≢◌, ◌≤◌, ◌<◌, ℕ, ◌+◌, ◌-◌, ◌%◌, List, [], ◌∷◌, ◌++◌, length, Option, None, Some}
use Rattle.std.proofs.Common.{refl, arith, ◌*◌, zero-add, ap}
use Rattle.std.proofs.Common.{sym, ◌∙◌, inl, inr, ◌⊎◌}
use Rattle.std.specs.Prelude.{MatchOption, map, replicate, slice_index, slice_index_or, slice_set}
use Rattle.std.proofs.lemmas.List.{append-nil, get_or-set_other, get_or-set_same, length-map, length-set}
use Rattle.std.proofs.lemmas.List.{replicate-append-replicate}
use Rattle.std.proofs.lemmas.Bool.{cases_eq}
use Rattle.std.proofs.Math.ListN.{get_or-map}
use Rattle.std.proofs.lemmas.List.FromFn.{get_or-map-range_with_len, length-map-range_with_len}
use Rattle.elf_image.specs.Limits.{stack_size}
use Rattle.elf_image.specs.Program.{Program, code_word}
use Rattle.el_base.specs.declared.line.TheConstants.{LINE_BYTES}
use Rattle.el_base.specs.Line.{line_number}
use Rattle.rv_alu.proofs.Laws.Executions.{IsWithin, executed-regs, executed-within, set-regs}
use Rattle.rv_alu.proofs.Laws.Footprints.{fits}
use Rattle.rv_alu.specs.declared.footprint.Access.{Access}
use Rattle.rv_alu.specs.declared.footprint.Access.TheVariants.{Nothing, Read, Write, Trap, Exit}
use Rattle.rv_alu.specs.declared.view.HartStatus.{HartStatus}
use Rattle.rv_alu.specs.declared.view.HartStatus.TheVariants.{Running, Exited, Trapped}
use Rattle.rv_alu.specs.declared.view.HartView.{HartView}
use Rattle.rv_alu.specs.Execution.{Append, Execution, Store, append_in, insn_at, insn_touched, store_in, view_after}
use Rattle.rv_alu.specs.Footprint.{IsFootprint, IsNoWrite, IsPiece, access_of}
use Rattle.rv_alu.specs.Regs.{AreRegs, set}
use Rattle.rv_alu.specs.declared.span.Span.{Span}
use Rattle.rv_word.specs.declared.insn.Insn.{Insn}
use Rattle.rv_flat.specs.FlatState.{FlatState, first_regs, first_view, no_hart, room_of, span_of, start, status_of}
use Rattle.rv_flat.specs.FlatState.{view_of}
use Rattle.rv_flat.specs.Laws.{HasRegs, IsInOneLine, KeepsShape, Writes, footprint_of, seen_after, touched_by}
use Rattle.rv_flat.specs.Laws.{touched_in, written_line}
use Rattle.rv_flat.specs.Memory.{byte_in, piece_of}
use Rattle.rv_flat.specs.Run.{alone, run}
use Rattle.rv_flat.specs.Step.{appended_by, applied, execution_of, flat, status_step, stored_by, unreserved}
use Rattle.rv_flat.specs.Step.{unreserved_by}
use Rattle.rv_flat.proofs.Laws.PutBytes.{length-put_bytes, put_bytes-other}

-- what a hart touches is in memory and in one line
footprint-one_line : (insn : Insn) (span : Span) (room : ℕ) (access : Access) → IsFootprint insn span room access →
    IsInOneLine span access
footprint-one_line insn span room (Read from len) h = h.0
footprint-one_line insn span room (Write from len) h = h.0
footprint-one_line insn span room Nothing h = tt
footprint-one_line insn span room (Trap cause) h = tt
footprint-one_line insn span room (Exit code) h = tt

insn-one_line : (insn : Option Insn) (view : HartView) (span : Span) (room : ℕ) →
    IsInOneLine span (insn_touched insn view span room)
insn-one_line None view span room = tt
insn-one_line (Some insn) view span room =
    footprint-one_line insn span room (access_of insn view.pc view.regs view.reserved span room)
    (fits insn view.pc view.regs view.reserved span room).footprint

pub one_line-touched : (state : FlatState) (view : HartView) → IsInOneLine (span_of state) (touched_by state view)
one_line-touched state view =
    insn-one_line (insn_at (code_word state.code view.pc)) view (span_of state) (room_of state)

-- what is stored and appended is what is touched
pub within : (state : FlatState) (view : HartView) → IsWithin (touched_by state view) (execution_of state view)
within state view =
    executed-within (code_word state.code view.pc) view (span_of state) (room_of state) (byte_in state.base state.bytes)

by_status : (P : Access → FlatState → Type 0) (state : FlatState) (hart : ℕ) (view : HartView) (status : HartStatus) →
    P Nothing state → P (touched_by state view) (applied state hart view (execution_of state view)) →
    P (touched_in state view status) (status_step state hart view status)
by_status P state hart view Running still goes = goes
by_status P state hart view (Exited code) still goes = still
by_status P state hart view (Trapped cause pc) still goes = still

-- what holds where nothing is done, and of what the hart's next instruction does, holds of the step
pub by_step : (P : Access → FlatState → Type 0) (state : FlatState) (hart : ℕ) →
    P Nothing state →
    P (touched_by state (view_of state hart))
    (applied state hart (view_of state hart) (execution_of state (view_of state hart))) →
    P (footprint_of state hart) (flat state hart)
unfolding flat
by_step P state hart still goes = by_status P state hart (view_of state hart) (status_of state hart) still goes

-- what a step touches is in memory and in one line
pub one_line : (state : FlatState) (hart : ℕ) → IsInOneLine (span_of state) (footprint_of state hart)
one_line state hart =
    by_step (λ access new. IsInOneLine (span_of state) access) state hart tt
    (one_line-touched state (view_of state hart))

still_status : (state : FlatState) (hart : ℕ) (view : HartView) (status : HartStatus) → status ≢ Running →
    status_step state hart view status ≡ state
still_status state hart view Running h = absurd (h refl)
still_status state hart view (Exited code) h = refl
still_status state hart view (Trapped cause pc) h = refl

-- a hart that has stopped changes nothing
pub still : (state : FlatState) (hart : ℕ) → status_of state hart ≢ Running → flat state hart ≡ state
unfolding flat
still state hart h = still_status state hart (view_of state hart) (status_of state hart) h

-- a running hart's step is what its next instruction does
pub running : (state : FlatState) (hart : ℕ) → status_of state hart ≡ Running →
    flat state hart ≡ applied state hart (view_of state hart) (execution_of state (view_of state hart))
unfolding flat
running state hart h = ap (status_step state hart (view_of state hart)) h

pub length-unreserved_by : (store : Option Store) (harts : List HartView) →
    length (unreserved_by store harts) ≡ length harts
length-unreserved_by None harts = refl
length-unreserved_by (Some store) harts = length-map harts (unreserved (line_number store.address))

pub length-stored_by : (store : Option Store) (base : ℕ) (bytes : List ℕ) →
    length (stored_by store base bytes) ≡ length bytes
length-stored_by None base bytes = refl
length-stored_by (Some store) base bytes = length-put_bytes bytes (store.address - base) store.len store.value

-- the bytes that are appended
abbrev pub appended : Option Append → ℕ → List ℕ → List ℕ
appended None base bytes = []
appended (Some append) base bytes = piece_of bytes (append.address - base) append.len

pub appended_by-more : (append : Option Append) (base : ℕ) (bytes output : List ℕ) →
    appended_by append base bytes output ≡ output ++ appended append base bytes
appended_by-more None base bytes output = sym (append-nil output)
appended_by-more (Some append) base bytes output = refl

-- a step keeps the shape of the state
pub keeps_shape : (state : FlatState) (hart : ℕ) → KeepsShape state (flat state hart)
keeps_shape state hart =
    let view : HartView = view_of state hart in
    let execution : Execution = execution_of state view in
    by_step (λ access new. KeepsShape state new) state hart
    (record {
      base = refl;
      length_of_bytes = refl;
      code = refl;
      harts = refl;
      more = [];
      output = sym (append-nil state.output);
    })
    (record {
      base = refl;
      length_of_bytes = length-stored_by (store_in execution) state.base state.bytes;
      code = refl;
      harts =
          length-set (unreserved_by (store_in execution) state.harts) hart (view_after execution view)
          ∙ length-unreserved_by (store_in execution) state.harts;
      more = appended (append_in execution) state.base state.bytes;
      output = appended_by-more (append_in execution) state.base state.bytes state.output;
    })

-- the own view after a step
pub view-applied : (state : FlatState) (hart : ℕ) (view : HartView) (execution : Execution) →
    hart < length state.harts → view_of (applied state hart view execution) hart ≡ view_after execution view
view-applied state hart view execution there =
    let within : hart < length (unreserved_by (store_in execution) state.harts) =
    omega (arith, length-unreserved_by (store_in execution) state.harts) in
    get_or-set_same (unreserved_by (store_in execution) state.harts) hart (view_after execution view) no_hart within

pub own_view : (state : FlatState) (hart : ℕ) → hart < length state.harts → status_of state hart ≡ Running →
    view_of (flat state hart) hart ≡ view_after (execution_of state (view_of state hart)) (view_of state hart)
own_view state hart there runs =
    ap (λ new. view_of new hart) (running state hart runs) ∙ view-applied state hart (view_of state hart)
    (execution_of state (view_of state hart)) there

-- the bytes of a state are those of another, but where the access writes
abbrev pub KeepsBytes : FlatState → Access → FlatState → Type 0
KeepsBytes state access new =
    (place : ℕ) → (Writes access (state.base + place) → ⊥) → slice_index new.bytes place ≡ slice_index state.bytes place

stored_by-other : (state : FlatState) (access : Access) (store : Option Store) → IsInOneLine (span_of state) access →
    MatchOption store (IsNoWrite access) (λ store. access ≡ Write store.address store.len) → (place : ℕ) →
    (Writes access (state.base + place) → ⊥) →
    slice_index (stored_by store state.base state.bytes) place ≡ slice_index state.bytes place
stored_by-other state access None piece is place out = refl
stored_by-other state access (Some store) piece is place out =
    let there : IsPiece (span_of state) store.address store.len = rw is at piece in
    let outside = rw is at out in
    put_bytes-other state.bytes (store.address - state.base) store.len store.value place
    (λ low high. let above : state.base ≤ store.address = there.from_base in outside (omega arith, omega arith))

-- a step changes memory only where its footprint writes
pub writes_in_footprint : (state : FlatState) (hart : ℕ) → KeepsBytes state (footprint_of state hart) (flat state hart)
writes_in_footprint state hart =
    by_step (KeepsBytes state) state hart (λ place out. refl)
    (stored_by-other state (touched_by state (view_of state hart)) (store_in (execution_of state (view_of state hart)))
    (one_line-touched state (view_of state hart)) (within state (view_of state hart)).store)

-- so it changes memory only on the line that is written
on_line : (span : Span) (access : Access) (address : ℕ) → IsInOneLine span access → Writes access address →
    written_line access ≡ Some (line_number address)
on_line span (Write from len) address piece there =
    let short : from % LINE_BYTES + len ≤ LINE_BYTES = piece.one_line in
    let low : from ≤ address = there.0 in
    let high : address < from + len = there.1 in
    let same : line_number from ≡ line_number address = omega arith in
    ap Some same
on_line span (Read from len) address piece there = absurd there
on_line span Nothing address piece there = absurd there
on_line span (Trap cause) address piece there = absurd there
on_line span (Exit code) address piece there = absurd there

pub writes_on_line : (state : FlatState) (hart place : ℕ) →
    written_line (footprint_of state hart) ≢ Some (line_number (state.base + place)) →
    slice_index (flat state hart).bytes place ≡ slice_index state.bytes place
writes_on_line state hart place apart =
    writes_in_footprint state hart place
    (λ there.
    apart (on_line (span_of state) (footprint_of state hart) (state.base + place) (one_line state hart) there))

-- a hart's view after another's step is as before, but for a reservation on the line that the access writes
abbrev pub KeepsOthers : FlatState → ℕ → Access → FlatState → Type 0
KeepsOthers state hart access new =
    (other : ℕ) → other ≢ hart → view_of new other ≡ seen_after access (view_of state other)

seen_after-none : (access : Access) → IsNoWrite access → (view : HartView) → seen_after access view ≡ view
seen_after-none (Write from len) none view = absurd none
seen_after-none (Read from len) none view = refl
seen_after-none Nothing none view = refl
seen_after-none (Trap cause) none view = refl
seen_after-none (Exit code) none view = refl

unreserved_by-view : (access : Access) (store : Option Store) (harts : List HartView) (other : ℕ) →
    MatchOption store (IsNoWrite access) (λ store. access ≡ Write store.address store.len) →
    slice_index_or (unreserved_by store harts) other no_hart ≡ seen_after access (slice_index_or harts other no_hart)
unreserved_by-view access None harts other none = sym (seen_after-none access none (slice_index_or harts other no_hart))
unreserved_by-view access (Some store) harts other is =
    rw is (get_or-map (unreserved (line_number store.address)) harts other no_hart)

-- a step changes no other hart's view, but takes reservations on the line that it writes
pub keeps_others : (state : FlatState) (hart : ℕ) → KeepsOthers state hart (footprint_of state hart) (flat state hart)
keeps_others state hart =
    let view : HartView = view_of state hart in
    let execution : Execution = execution_of state view in
    by_step (KeepsOthers state hart) state hart (λ other apart. refl)
    (λ other apart.
    get_or-set_other (unreserved_by (store_in execution) state.harts) hart other
    (view_after execution view) no_hart apart
    ∙ unreserved_by-view (touched_by state view) (store_in execution) state.harts other (within state view).store)

-- a run of a list and then of another
pub run_append : (state : FlatState) (first second : List ℕ) →
    run state (first ++ second) ≡ run (run state first) second
run_append state [] second = refl
run_append state (hart ∷ first) second = run_append (flat state hart) first second

-- a run keeps the harts that there are
pub harts-run : (state : FlatState) (harts : List ℕ) → length (run state harts).harts ≡ length state.harts
harts-run state [] = refl
harts-run state (hart ∷ harts) = harts-run (flat state hart) harts ∙ (keeps_shape state hart).harts

-- steps of one hart, one after the other
pub alone_sum : (state : FlatState) (hart m n : ℕ) → alone state hart (m + n) ≡ alone (alone state hart m) hart n
alone_sum state hart m n =
    ap (run state) (sym (replicate-append-replicate m n hart)) ∙ run_append state (replicate m hart) (replicate n hart)

regs_along : (old new : HartView) → new ≡ old → AreRegs old.regs → AreRegs new.regs
regs_along old new same h = (ap (λ view. length view.regs) same ∙ h.0, ap (λ view. slice_index view.regs 0) same ∙ h.1)

unreserved_by-regs : (store : Option Store) (harts : List HartView) (other : ℕ) →
    AreRegs (slice_index_or harts other no_hart).regs →
    AreRegs (slice_index_or (unreserved_by store harts) other no_hart).regs
unreserved_by-regs None harts other h = h
unreserved_by-regs (Some store) harts other h =
    let line : ℕ = line_number store.address in
    regs_along (unreserved line (slice_index_or harts other no_hart))
    (slice_index_or (map (unreserved line) harts) other no_hart)
    (get_or-map (unreserved line) harts other no_hart) h

-- of the hart whose view is new, or of another
regs_by : (harts : List HartView) (hart : ℕ) (new : HartView) (other : ℕ) → (hart < length harts → AreRegs new.regs) →
    AreRegs (slice_index_or harts other no_hart).regs →
    other < length harts → (other ≡ hart) ⊎ (other ≡ hart → ⊥) →
    AreRegs (slice_index_or (slice_set harts hart new) other no_hart).regs
regs_by harts hart new other own others within (inl same) =
    let there = rw same at within in
    regs_along new (slice_index_or (slice_set harts hart new) other no_hart)
    (rw same (get_or-set_same harts hart new no_hart there)) (own there)
regs_by harts hart new other own others within (inr apart) =
    regs_along (slice_index_or harts other no_hart) (slice_index_or (slice_set harts hart new) other no_hart)
    (get_or-set_other harts hart other new no_hart apart) others

-- a step leaves each hart 32 registers of which the first is 0
pub keeps_regs : (state : FlatState) (hart : ℕ) → HasRegs state → HasRegs (flat state hart)
keeps_regs state hart h =
    let view : HartView = view_of state hart in
    let execution : Execution = execution_of state view in
    let harts : List HartView = unreserved_by (store_in execution) state.harts in
    let as_many : length harts ≡ length state.harts = length-unreserved_by (store_in execution) state.harts in
    by_step (λ access new. HasRegs new) state hart h
    (λ other exists.
    let there : other < length harts = omega (arith, exists, length-set harts hart (view_after execution view)) in
    regs_by harts hart (view_after execution view) other
    (λ own. executed-regs (code_word state.code view.pc) view (span_of state) (room_of state)
    (byte_in state.base state.bytes) (h hart (rw as_many at own)))
    (unreserved_by-regs (store_in execution) state.harts other (h other (rw as_many at there)))
    there (cases_eq other hart))

-- the registers of a program's harts before their first step
first_are_regs : (program : Program) (hart : ℕ) → AreRegs (first_regs program hart)
first_are_regs program hart =
    let numbered = set (replicate 32 0) 10 hart in
    let counted = set numbered 11 program.harts in
    set-regs counted 2 (program.base + length program.bytes - stack_size * hart)
    (set-regs numbered 11 program.harts (set-regs (replicate 32 0) 10 hart (refl, refl)))

first_has_regs : (program : Program) (hart : ℕ) → AreRegs (first_view program hart).regs
unfolding first_view
first_has_regs program hart = first_are_regs program hart

pub start_regs : (program : Program) → HasRegs (start program)
unfolding start
start_regs program hart within =
    let few : hart < program.harts = rw (length-map-range_with_len (first_view program) 0 program.harts) at within in
    regs_along (first_view program hart) (view_of (start program) hart)
    (get_or-map-range_with_len (first_view program) 0 program.harts hart hart no_hart few (zero-add hart))
    (first_has_regs program hart)

-- a program starts with all of its harts
pub start_harts : (program : Program) → length (start program).harts ≡ program.harts
unfolding start
start_harts program = length-map-range_with_len (first_view program) 0 program.harts
