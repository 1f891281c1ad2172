-- a hart does the same next in two states that are alike to it, and after it they are alike
use Rattle.std.proofs.Common.{◌≡◌, ◌≤◌, ◌<◌, ◌+◌, ◌-◌, ◌∙◌, ℕ, zero, suc, arith, false, List, Option, None, Some}
use Rattle.std.proofs.Common.{length, refl, ap, sym}
use Rattle.std.specs.Prelude.{slice_index}
use Rattle.residency.specs.Residency.{Way}
use Rattle.elf_image.specs.Program.{code_word}
use Rattle.el_model.specs.Upcoming.{calls, next_access, next_execution, next_touch}
use Rattle.rv_alu.proofs.Laws.Executions.{executed-room, executed_agree, touched-room}
use Rattle.rv_alu.specs.Execution.{Store, executed, insn_at, store_in, touched, view_after}
use Rattle.rv_alu.specs.Footprint.{IsNoCall}
use Rattle.rv_alu.specs.declared.view.HartStatus.TheVariants.{Running}
use Rattle.rv_flat.proofs.Laws.PutBytes.{put_bytes-same}
use Rattle.rv_flat.proofs.Laws.RunsAfter.{runs-exists}
use Rattle.rv_flat.proofs.Laws.StepLaws.{alone_sum, keeps_shape, own_view, running}
use Rattle.rv_flat.specs.FlatState.{FlatState, room_of, span_of, status_of, view_of}
use Rattle.rv_flat.specs.Laws.{next_insn}
use Rattle.rv_flat.specs.Memory.{byte_in}
use Rattle.rv_flat.specs.Run.{alone}
use Rattle.rv_flat.specs.Step.{flat, stored_by}
use Rattle.rv_word.specs.declared.insn.Insn.{Insn}
use Rattle.run_laws.proofs.Laws.Touches.{IsOnBit, SameOnBits, agree_there}

-- memory lies at the same place, and the code is the same
pub record SamePlaces (left right : FlatState) : Type 0 where
  pub base : right.base ≡ left.base
  pub code : right.code ≡ left.code
  pub size : length right.bytes ≡ length left.bytes

pub same_places_flat : (left right : FlatState) (h : ℕ) → SamePlaces left right →
    SamePlaces (flat left h) (flat right h)
same_places_flat left right h same =
    let l = keeps_shape left h in
    let r = keeps_shape right h in
    record {
      base = r.base ∙ same.base ∙ sym l.base;
      code = r.code ∙ same.code ∙ sym l.code;
      size = r.length_of_bytes ∙ same.size ∙ sym l.length_of_bytes;
    }

pub same_span : (left right : FlatState) → SamePlaces left right → span_of right ≡ span_of left
same_span left right same =
    ap (λ base. record { base = base; end = base + length right.bytes }) same.base
    ∙ ap (λ size. record { base = left.base; end = left.base + size }) same.size

pub no_call : (insn : Option Insn) → calls insn ≡ false → IsNoCall insn
no_call None none = tt
no_call (Some insn) none = none

-- the next instruction is the same
pub same_insn : (left right : FlatState) (h : ℕ) → right.code ≡ left.code → (view_of right h).pc ≡ (view_of left h).pc →
    next_insn right h ≡ next_insn left h
same_insn left right h code pc =
    ap (λ code. insn_at (code_word code (view_of right h).pc)) code ∙ ap (λ pc. insn_at (code_word left.code pc)) pc

-- it touches the same
pub same_access : (left right : FlatState) (h : ℕ) → SamePlaces left right → view_of right h ≡ view_of left h →
    calls (next_insn left h) ≡ false → next_access right h ≡ next_access left h
same_access left right h same view none =
    let word = code_word left.code (view_of left h).pc in
    ap (λ view. touched (code_word right.code view.pc) view (span_of right) (room_of right)) view
    ∙ ap (λ code. touched (code_word code (view_of left h).pc) (view_of left h) (span_of right) (room_of right))
    same.code
    ∙ ap (λ span. touched word (view_of left h) span (room_of right)) (same_span left right same)
    ∙ touched-room (insn_at word) (view_of left h) (span_of left) (room_of right) (room_of left)
    (no_call (insn_at word) none)

-- and does the same, where what it touches is on a line with a bit
pub same_execution : (left right : FlatState) (h : ℕ) (cache : List (List Way)) → SamePlaces left right →
    view_of right h ≡ view_of left h → SameOnBits cache left right → calls (next_insn left h) ≡ false →
    IsOnBit cache (next_touch left h) → next_execution right h ≡ next_execution left h
same_execution left right h cache same view bytes none bit =
    let word = code_word left.code (view_of left h).pc in
    let byte = byte_in right.base right.bytes in
    ap (λ view. executed (code_word right.code view.pc) view (span_of right) (room_of right) byte) view
    ∙ ap (λ code. executed (code_word code (view_of left h).pc) (view_of left h) (span_of right) (room_of right) byte)
    same.code
    ∙ ap (λ span. executed word (view_of left h) span (room_of right) byte) (same_span left right same)
    ∙ executed-room word (view_of left h) (span_of left) (room_of right) (room_of left) byte
    (no_call (insn_at word) none)
    ∙ executed_agree word (view_of left h) (span_of left) (room_of left) byte (byte_in left.base left.bytes)
    (agree_there left right h cache same.base bytes bit)

-- a store leaves each byte that was the same the same
same_stored : (store : Option Store) (base : ℕ) (left right : List ℕ) (place : ℕ) → length right ≡ length left →
    slice_index right place ≡ slice_index left place →
    slice_index (stored_by store base right) place ≡ slice_index (stored_by store base left) place
same_stored None base left right place size same = same
same_stored (Some store) base left right place size same =
    put_bytes-same right left (store.address - base) store.len store.value place size same

-- what two steps of a hart leave, where both did the same
pub record DidAlike (h : ℕ) (left right left_after right_after : FlatState) : Type 0 where
  pub places : SamePlaces left_after right_after
  pub view : view_of right_after h ≡ view_of left_after h
  pub bytes : (place : ℕ) → slice_index right.bytes place ≡ slice_index left.bytes place →
      slice_index right_after.bytes place ≡ slice_index left_after.bytes place

pub did_alike : (left right : FlatState) (h : ℕ) → SamePlaces left right → status_of left h ≡ Running →
    status_of right h ≡ Running → next_execution right h ≡ next_execution left h →
    view_after (next_execution left h) (view_of right h) ≡ view_after (next_execution left h) (view_of left h) →
    DidAlike h left right (flat left h) (flat right h)
did_alike left right h same left_runs right_runs does view = record {
  places = same_places_flat left right h same;
  view =
      own_view right h (runs-exists right h right_runs) right_runs
      ∙ ap (λ execution. view_after execution (view_of right h)) does ∙ view
      ∙ sym (own_view left h (runs-exists left h left_runs) left_runs);
  bytes = λ place is.
      ap (λ new. slice_index new.bytes place) (running right h right_runs)
      ∙ ap (λ execution. slice_index (stored_by (store_in execution) right.base right.bytes) place) does
      ∙ ap (λ base. slice_index (stored_by (store_in (next_execution left h)) base right.bytes) place) same.base
      ∙ same_stored (store_in (next_execution left h)) left.base left.bytes right.bytes place same.size is
      ∙ sym (ap (λ new. slice_index new.bytes place) (running left h left_runs));
}

-- where memory lies
pub alone_base : (state : FlatState) (h n : ℕ) → (alone state h n).base ≡ state.base
alone_base state h zero = refl
alone_base state h (suc n) = alone_base (flat state h) h n ∙ (keeps_shape state h).base

-- one step more at the end
pub alone_more : (state : FlatState) (h n : ℕ) → alone state h (n + 1) ≡ flat (alone state h n) h
alone_more state h n = alone_sum state h n 1

-- two runs of a hart that are alike after so many steps, and of which the next does the same
abbrev pub AlikeAt : ℕ → FlatState → FlatState → ℕ → Type 0
AlikeAt h old new n = DidAlike h old new (alone old h n) (alone new h n)

pub record DoesSame (h : ℕ) (left right : FlatState) : Type 0 where
  pub runs : status_of left h ≡ Running
  pub execution : next_execution right h ≡ next_execution left h

pub alike_more : (h n : ℕ) (old new : FlatState) → AlikeAt h old new n → DoesSame h (alone old h n) (alone new h n) →
    AlikeAt h old new (n + 1)
alike_more h n old new since same =
    let left = alone old h n in
    let right = alone new h n in
    let did =
    did_alike left right h since.places same.runs (ap (λ view. view.status) since.view ∙ same.runs) same.execution
    (ap (view_after (next_execution left h)) since.view) in
    rw (alone_more old h n, alone_more new h n)
    (record { places = did.places; view = did.view; bytes = λ place is. did.bytes place (since.bytes place is) })

-- runs that are alike after some steps stay so as long as each next step does the same
module _ (h first last : ℕ) (old new : FlatState) (begins : AlikeAt h old new first)
    (goes : (n : ℕ) → first ≤ n → n < last → AlikeAt h old new n → DoesSame h (alone old h n) (alone new h n)) where
  alike_after : (k n : ℕ) → n ≡ first + k → n ≤ last → AlikeAt h old new n
  alike_after zero n is within = let same : n ≡ first = omega (arith, is) in rw same begins
  alike_after (suc k) n is within =
      let one_more : n ≡ first + k + 1 = omega (arith, is) in
      let before = alike_after k (first + k) refl (omega (arith, is, within)) in
      rw one_more
      (alike_more h (first + k) old new before (goes (first + k) (omega arith) (omega (arith, is, within)) before))

  pub alike_runs : (n : ℕ) → first ≤ n → n ≤ last → AlikeAt h old new n
  alike_runs n some within = alike_after (n - first) n (omega (arith, some)) within
