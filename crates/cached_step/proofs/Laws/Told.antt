-- caches and main memory tell the bytes of memory, before and after an action ran over a cache
use Rattle.std.proofs.Common.{◌≡◌, ◌≢◌, ◌∙◌, ◌⊎◌, ℕ, ◌+◌, ◌-◌, ◌*◌, ◌/◌, ◌%◌, ◌≤◌, ◌<◌, true, inl, inr, List, length}
use Rattle.std.proofs.Common.{drop, Option, None, Some, ap}
use Rattle.std.proofs.Common.{arith, refl, sym, subst}
use Rattle.std.specs.Option.{option_map_or}
use Rattle.std.specs.Prelude.{IfSome, slice_index}
use Rattle.std.proofs.lemmas.Bool.{cases_eq, cases_lt, eq-eqb, ne_eqb}
use Rattle.std.proofs.lemmas.List.{get_or-drop, get_or-take}
use Rattle.residency.specs.Cache.{is_resident}
use Rattle.cache_sets.specs.Cached.{Cached, cached_byte}
use Rattle.coherence.specs.Beginning.{LiesWhere, line_at}
use Rattle.coherence.specs.Caches.{cache_at}
use Rattle.coherence.specs.GivenBack.{bytes_with, copies_with}
use Rattle.coherence.specs.Served.{Copies, HasLine, TellsOf}
use Rattle.coherence.proofs.Laws.GivenBackLaws.{copy_tells, tells_same_bytes, tells_same_copies, tells_stored}
use Rattle.coherence.proofs.Laws.GivenBackLaws.{readable_there, writable_there}
use Rattle.core_step.specs.Run.{lacking, refused}
use Rattle.core_step.proofs.Laws.Runs.{is_permitted, performed}
use Rattle.el_base.specs.Line.{line_number}
use Rattle.el_base.specs.declared.outcomes.Need.{Need}
use Rattle.el_base.specs.declared.outcomes.Need.TheVariants as needs
use Rattle.el_model.specs.Upcoming.{Touch, touch_of}
use Rattle.elf_image.specs.Program.{code_word}
use Rattle.rv_alu.specs.Action.{action_at, insn_action_of}
use Rattle.rv_alu.specs.Execution.{Store, insn_touched, perform, store_in, touched}
use Rattle.rv_alu.specs.Footprint.{AgreeOn, IsInPlace, IsPiece, IsStoreIn, footprint}
use Rattle.rv_alu.specs.declared.action.Action.{Action}
use Rattle.rv_alu.specs.declared.action.Action.TheVariants as actions
use Rattle.rv_alu.specs.declared.span.Span.{Span}
use Rattle.rv_alu.specs.declared.view.HartView.{HartView}
use Rattle.rv_alu.proofs.Laws.Executions.{executed_agree}
use Rattle.rv_flat.specs.FlatState.{FlatState, room_of, span_of}
use Rattle.rv_flat.specs.Memory.{byte_in, put_bytes}
use Rattle.rv_flat.specs.Step.{action_of, applied, execution_of, stored_by}
use Rattle.rv_flat.proofs.Laws.StepLaws.{length-stored_by}
use Rattle.rv_word.specs.Decoding.{decoded}
use Rattle.rv_word.specs.declared.insn.Insn.{Insn}
use Rattle.cached_step.specs.CacheRun.{HasRun, line_after, permitted}
use Rattle.cached_step.specs.Memory.{TellsMemory}
use Rattle.cached_step.proofs.Windows.{put-before, put-behind, put-inside}

-- the line of a piece of memory lies there
piece_line : (copies : Copies) (flat : FlatState) (address len : ℕ) →
    LiesWhere copies.first (length copies.lines) flat → IsPiece (span_of flat) address len →
    HasLine copies (line_number address)
piece_line copies flat address len placed piece =
    let first : copies.first * 64 ≡ flat.base = placed.first in
    let size : length copies.lines * 64 ≡ length flat.bytes = placed.lines in
    let low : flat.base ≤ address = piece.from_base in
    let some : 1 ≤ len = piece.some in
    let high : address + len ≤ flat.base + length flat.bytes = piece.before_end in
    record { from = omega arith; below = omega arith }

touch_line : (copies : Copies) (line : ℕ) (need : Need) (touch : Touch) →
    Some (record { line = line; need = need }) ≡ Some touch → HasLine copies line →
    HasLine copies touch.line
touch_line copies line need touch is there =
    subst (HasLine copies) (ap (λ (t : Option Touch). option_map_or (λ s. s.line) t 0) is) there

pub touched_there : (copies : Copies) (flat : FlatState) (room : ℕ) (action : Action) (touch : Touch) →
    LiesWhere copies.first (length copies.lines) flat → IsInPlace (span_of flat) room action →
    touch_of (footprint action) ≡ Some touch → HasLine copies touch.line
touched_there copies flat room (actions.Append address len) touch placed there is =
    touch_line copies _ _ touch is (piece_line copies flat address len placed there.0)
touched_there copies flat room (actions.Load width rd address) touch placed there is =
    touch_line copies _ _ touch is (piece_line copies flat address _ placed there.0)
touched_there copies flat room (actions.LoadReserved rd address) touch placed there is =
    touch_line copies _ _ touch is (piece_line copies flat address 4 placed there)
touched_there copies flat room (actions.Store address len value) touch placed there is =
    touch_line copies _ _ touch is (piece_line copies flat address len placed there.0)
touched_there copies flat room (actions.StoreConditional rd address value) touch placed there is =
    touch_line copies _ _ touch is (piece_line copies flat address 4 placed there)
touched_there copies flat room (actions.Amo op rd address source) touch placed there is =
    touch_line copies _ _ touch is (piece_line copies flat address 4 placed there)
touched_there copies flat room _ touch placed there is = absurd (cc)

-- a byte of memory, in a cache that has its line
pub byte_told : (copies : Copies) (flat : FlatState) (h address : ℕ) → TellsMemory copies flat → flat.base ≤ address →
    is_resident (cache_at copies.caches h).residency (line_number address) ≡ true →
    cached_byte (cache_at copies.caches h) address ≡ byte_in flat.base flat.bytes address
byte_told copies flat h address tells low resident =
    ap (λ bytes. slice_index bytes (address % 64))
    (copy_tells copies h (line_number address) (line_at flat.base flat.bytes) tells.bytes resident)
    ∙ get_or-take 64 (drop ((line_number address - flat.base / 64) * 64) flat.bytes) (address % 64) 0 (omega arith)
    ∙ get_or-drop ((line_number address - flat.base / 64) * 64) flat.bytes (address % 64) 0
    ∙ ap (slice_index flat.bytes) place
  where
    place : (line_number address - flat.base / 64) * 64 + address % 64 ≡ address - flat.base
    place = let first : copies.first * 64 ≡ flat.base = tells.placed.first in omega arith

piece_agrees : (copies : Copies) (flat : FlatState) (h address len : ℕ) → TellsMemory copies flat →
    IsPiece (span_of flat) address len → is_resident (cache_at copies.caches h).residency (line_number address) ≡ true →
    (at : ℕ) → (address ≤ at) × (at < address + len) →
    cached_byte (cache_at copies.caches h) at ≡ byte_in flat.base flat.bytes at
piece_agrees copies flat h address len tells piece resident at within =
    let low : address ≤ at = within.0 in
    let high : at < address + len = within.1 in
    let one_line : address % 64 + len ≤ 64 = piece.one_line in
    let base : flat.base ≤ address = piece.from_base in
    let same : line_number at ≡ line_number address = omega arith in
    byte_told copies flat h at tells (omega arith)
    (subst (λ line. is_resident (cache_at copies.caches h).residency line ≡ true) (sym same) resident)

-- the bytes of a piece that may be read, and of one that may be written
read_agrees : (copies : Copies) (flat : FlatState) (h address len : ℕ) → TellsMemory copies flat →
    IsPiece (span_of flat) address len → refused (permitted (cache_at copies.caches h)) (line_number address) needs.Read
    ≡ None → (at : ℕ) → (address ≤ at) × (at < address + len) →
    cached_byte (cache_at copies.caches h) at ≡ byte_in flat.base flat.bytes at
read_agrees copies flat h address len tells piece none =
    piece_agrees copies flat h address len tells piece
    (readable_there (cache_at copies.caches h).residency (line_number address)
    (is_permitted (permitted (cache_at copies.caches h)) (line_number address) needs.Read none))

write_agrees : (copies : Copies) (flat : FlatState) (h address len : ℕ) → TellsMemory copies flat →
    IsPiece (span_of flat) address len →
    refused (permitted (cache_at copies.caches h)) (line_number address) needs.Write ≡ None → (at : ℕ) →
    (address ≤ at) × (at < address + len) → cached_byte (cache_at copies.caches h) at ≡ byte_in flat.base flat.bytes at
write_agrees copies flat h address len tells piece none =
    piece_agrees copies flat h address len tells piece
    (writable_there (cache_at copies.caches h) (line_number address)
    (is_permitted (permitted (cache_at copies.caches h)) (line_number address) needs.Write none))

pub bytes_agree : (copies : Copies) (flat : FlatState) (h room : ℕ) (action : Action) → TellsMemory copies flat →
    IsInPlace (span_of flat) room action → lacking (permitted (cache_at copies.caches h)) (footprint action) ≡ None →
    AgreeOn (footprint action) (cached_byte (cache_at copies.caches h)) (byte_in flat.base flat.bytes)
bytes_agree copies flat h room (actions.Append address len) tells there none =
    read_agrees copies flat h address len tells there.0 none
bytes_agree copies flat h room (actions.Load width rd address) tells there none =
    read_agrees copies flat h address _ tells there.0 none
bytes_agree copies flat h room (actions.LoadReserved rd address) tells there none =
    read_agrees copies flat h address 4 tells there none
bytes_agree copies flat h room (actions.Store address len value) tells there none =
    write_agrees copies flat h address len tells there.0 none
bytes_agree copies flat h room (actions.StoreConditional rd address value) tells there none =
    write_agrees copies flat h address 4 tells there none
bytes_agree copies flat h room (actions.Amo op rd address source) tells there none =
    write_agrees copies flat h address 4 tells there none
bytes_agree copies flat h room _ tells there none = λ at nowhere. absurd nowhere

-- what an instruction touches, its action does
agree_insn : (insn : Option Insn) (view : HartView) (span : Span) (room : ℕ) (left right : ℕ → ℕ) →
    AgreeOn (footprint (insn_action_of insn view span room)) left right →
    AgreeOn (insn_touched insn view span room) left right
agree_insn None view span room left right agree = λ at nowhere. absurd nowhere
agree_insn (Some insn) view span room left right agree = agree

agree_touched : (word : Option ℕ) (view : HartView) (span : Span) (room : ℕ) (left right : ℕ → ℕ) →
    AgreeOn (footprint (action_at word view span room)) left right → AgreeOn (touched word view span room) left right
agree_touched None view span room left right agree = λ at nowhere. absurd nowhere
agree_touched (Some word) view span room left right agree = agree_insn (decoded word) view span room left right agree

pub performs_flat : (copies : Copies) (flat : FlatState) (h : ℕ) (view : HartView) → TellsMemory copies flat →
    IsInPlace (span_of flat) (room_of flat) (action_of flat view) →
    lacking (permitted (cache_at copies.caches h)) (footprint (action_of flat view)) ≡ None →
    perform (action_of flat view) view (cached_byte (cache_at copies.caches h)) ≡ execution_of flat view
performs_flat copies flat h view tells there none =
    sym (performed (code_word flat.code view.pc) view (span_of flat) (room_of flat)
    (cached_byte (cache_at copies.caches h)))
    ∙ executed_agree (code_word flat.code view.pc) view (span_of flat) (room_of flat)
    (cached_byte (cache_at copies.caches h)) (byte_in flat.base flat.bytes)
    (agree_touched (code_word flat.code view.pc) view (span_of flat) (room_of flat) _ _
    (bytes_agree copies flat h (room_of flat) (action_of flat view) tells there none))

-- the bytes of a line, with other ones for one line
with_here : (bytes : ℕ → List ℕ) (line : ℕ) (new : List ℕ) (l : ℕ) → l ≡ line → bytes_with bytes line new l ≡ new
with_here bytes line new l same = rw (eq-eqb l line same) refl

with_other : (bytes : ℕ → List ℕ) (line : ℕ) (new : List ℕ) (l : ℕ) → l ≢ line → bytes_with bytes line new l ≡ bytes l
with_other bytes line new l other = rw (ne_eqb l line other) refl

-- a store in memory is a store in its line
stored_line : (first base : ℕ) (bytes : List ℕ) (address len value l : ℕ) → first * 64 ≡ base → base ≤ address →
    address % 64 + len ≤ 64 → first ≤ l →
    line_at base (put_bytes bytes (address - base) len value) l
    ≡ bytes_with (line_at base bytes) (line_number address)
    (put_bytes (line_at base bytes (line_number address)) (address % 64) len value) l
stored_line first base bytes address len value l place low one_line from =
    elim (cases_eq l (line_number address)) [
      | inl same ↦
          ap (line_at base (put_bytes bytes (address - base) len value)) same
          ∙ put-inside bytes ((line_number address - base / 64) * 64) 64 (address % 64) (address - base) len value
          (omega arith) one_line
          ∙ sym (with_here (line_at base bytes) (line_number address)
          (put_bytes (line_at base bytes (line_number address)) (address % 64) len value) l same)
      | inr other ↦
          elsewhere other (cases_lt l (line_number address))
          ∙ sym (with_other (line_at base bytes) (line_number address)
          (put_bytes (line_at base bytes (line_number address)) (address % 64) len value) l other)
    ]
  where
    elsewhere : l ≢ line_number address → (l < line_number address) ⊎ (line_number address ≤ l) →
        line_at base (put_bytes bytes (address - base) len value) l ≡ line_at base bytes l
    elsewhere other (inl under) = put-behind bytes ((l - base / 64) * 64) 64 (address - base) len value (omega arith)
    elsewhere other (inr past) =
        let after : line_number address < l = omega (arith, other) in
        put-before bytes ((l - base / 64) * 64) 64 (address - base) len value (omega arith)

told_after : (copies : Copies) (flat : FlatState) (h : ℕ) (new : Cached) (action : Action) (store : Option Store) →
    TellsMemory copies flat → IfSome store (IsStoreIn (span_of flat)) →
    HasRun (cache_at copies.caches h) new action store →
    TellsOf (copies_with copies h new) (line_at flat.base (stored_by store flat.base flat.bytes))
told_after copies flat h new action None tells there run =
    tells_same_copies copies h new (line_at flat.base flat.bytes) tells.bytes run.copies
told_after copies flat h new action (Some store) tells there run =
    tells_same_bytes (copies_with copies h new)
    (bytes_with (line_at flat.base flat.bytes) line (line_after old store.address store.len store.value)) _
    (tells_stored copies h line new (line_at flat.base flat.bytes) (line_after old store.address store.len store.value)
    tells.bytes run.copies)
    (λ l inside.
    stored_line copies.first flat.base flat.bytes store.address store.len store.value l tells.placed.first
    there.0.from_base there.0.one_line inside.from
    ∙ ap (λ bytes. bytes_with (line_at flat.base flat.bytes) line
    (put_bytes bytes (store.address % 64) store.len store.value) l)
    (sym (copy_tells copies h line (line_at flat.base flat.bytes) tells.bytes
    (writable_there old line run.copies.may))))
  where
    old : Cached
    old = cache_at copies.caches h

    line : ℕ
    line = line_number store.address

-- a store lies in memory
store_in_place : (span : Span) (room : ℕ) (action : Action) (view : HartView) (byte : ℕ → ℕ) →
    IsInPlace span room action → IfSome (store_in (perform action view byte)) (IsStoreIn span)
store_in_place span room (actions.Store address len value) view byte there = there
store_in_place span room (actions.StoreConditional rd address value) view byte there = (there, inr (inr refl))
store_in_place span room (actions.Amo op rd address source) view byte there = (there, inr (inr refl))
store_in_place span room _ view byte there = tt

pub tells_memory_after : (copies : Copies) (flat : FlatState) (h room : ℕ) (new : Cached) (action : Action)
    (view : HartView) (byte : ℕ → ℕ) → TellsMemory copies flat → IsInPlace (span_of flat) room action →
    HasRun (cache_at copies.caches h) new action (store_in (perform action view byte)) →
    TellsMemory (copies_with copies h new) (applied flat h view (perform action view byte))
tells_memory_after copies flat h room new action view byte tells there run = record {
  placed = record {
    first = tells.placed.first;
    lines = tells.placed.lines ∙ sym (length-stored_by (store_in (perform action view byte)) flat.base flat.bytes);
  };
  bytes =
      told_after copies flat h new action (store_in (perform action view byte)) tells
      (store_in_place (span_of flat) room action view byte there) run;
}
