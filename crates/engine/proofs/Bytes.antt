-- bytes of memory, by the lines that they lie in
use Rattle.std.proofs.Common.{◌≡◌, ◌∙◌, ℕ, ◌+◌, ◌-◌, ◌*◌, ◌/◌, ◌%◌, ◌≤◌, drop, take, Option, Some, None, ap, inl, inr}
use Rattle.std.proofs.Common.{arith, length}
use Rattle.std.specs.Prelude.{IfSome, IsNone, slice_index, ◌↔◌}
use Rattle.std.proofs.lemmas.Bool.{cases_lt}
use Rattle.std.proofs.lemmas.List.{drop-drop, drop-take, get_or-drop, get_or-take, take-take}
use Rattle.coherence.specs.Beginning.{LiesWhere, line_of}
use Rattle.el_base.specs.Line.{line_number}
use Rattle.el_base.specs.declared.line.TheConstants.{LINE_BYTES}
use Rattle.rv_flat.specs.FlatState.{FlatState}
use Rattle.rv_flat.specs.Memory.{byte_in, piece_of}
use Rattle.snoop.specs.Shows.{Holding, LiesIn}

-- the place of an address in memory is that of its line, and its place in it
placed : (first base address : ℕ) → first * LINE_BYTES ≡ base → first ≤ line_number address →
    (line_number address - base / LINE_BYTES) * 64 + address % LINE_BYTES ≡ address - base
placed first base address is from = omega (arith, is, from)

pub same_byte : (state : FlatState) (first address : ℕ) → first * LINE_BYTES ≡ state.base →
    first ≤ line_number address → slice_index (line_of state (line_number address)) (address % LINE_BYTES)
    ≡ byte_in state.base state.bytes address
same_byte state first address is from =
    let place = (line_number address - state.base / LINE_BYTES) * 64 in
    get_or-take 64 (drop place state.bytes) (address % LINE_BYTES) 0 (omega arith)
    ∙ get_or-drop place state.bytes (address % LINE_BYTES) 0
    ∙ ap (slice_index state.bytes) (placed first state.base address is from)

pub same_piece : (state : FlatState) (first address len : ℕ) → first * LINE_BYTES ≡ state.base →
    first ≤ line_number address → address % LINE_BYTES + len ≤ LINE_BYTES →
    piece_of (line_of state (line_number address)) (address % LINE_BYTES) len ≡ piece_of state.bytes
    (address - state.base) len
same_piece state first address len is from fits =
    let place = (line_number address - state.base / LINE_BYTES) * 64 in
    let at = address % LINE_BYTES in
    let whole : 64 ≡ at + (64 - at) = omega arith in
    ap (λ n. take len (drop at (take n (drop place state.bytes)))) whole
    ∙ ap (take len) (drop-take at (64 - at) (drop place state.bytes))
    ∙ take-take len (64 - at) (drop at (drop place state.bytes)) (omega (arith, fits))
    ∙ ap (take len)
    (drop-drop at place state.bytes ∙ ap (λ n. drop n state.bytes) (placed first state.base address is from))

-- the byte that the bus tells is that of committed memory
pub told_byte : (copies : Holding) (state : FlatState) (address : ℕ) (told : Option ℕ) →
    LiesWhere copies.first (length copies.lines) state →
    (IsNone told ↔ (LiesIn copies (line_number address) → ⊥)) →
    IfSome told (λ byte. byte ≡ slice_index (line_of state (line_number address)) (address % LINE_BYTES)) →
    IfSome told (λ byte. byte ≡ byte_in state.base state.bytes address)
told_byte copies state address None lies outside is = tt
told_byte copies state address (Some byte) lies outside is =
    elim (cases_lt (line_number address) copies.first) [
      | inl before ↦ absurd (not_none (outside.1 (λ there. omega (arith, before, there.from))))
      | inr from ↦ is ∙ same_byte state copies.first address lies.first from
    ]
  where
    not_none : IsNone (Some byte) → ⊥
    not_none none = cc
