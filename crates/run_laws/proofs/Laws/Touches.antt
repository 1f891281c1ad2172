-- what an instruction touches lies on the line of its touch, and where that line has a bit, two memories that agree on
-- the lines with bits agree there
use Rattle.std.proofs.Common.{◌≡◌, ◌≤◌, ◌<◌, ◌+◌, ◌-◌, ◌%◌, ◌∙◌, ℕ, true, List, Option, None, Some, arith, ap}
use Rattle.std.specs.Prelude.{slice_index}
use Rattle.std.proofs.lemmas.Bool.{or_right}
use Rattle.residency.specs.Cache.{has_bit, read_bit}
use Rattle.residency.specs.Residency.{Way}
use Rattle.el_base.specs.Line.{line_number}
use Rattle.el_base.specs.declared.line.TheConstants.{LINE_BYTES}
use Rattle.el_base.specs.declared.outcomes.Need.{Need}
use Rattle.el_base.specs.declared.outcomes.Need.TheVariants as needs
use Rattle.el_model.specs.InSection.{is_covered}
use Rattle.el_model.specs.Upcoming.{Touch, next_access, next_touch, touch_of}
use Rattle.rv_alu.specs.Footprint.{AgreeOn, IsPiece, Touches}
use Rattle.rv_alu.specs.declared.footprint.Access.{Access}
use Rattle.rv_alu.specs.declared.footprint.Access.TheVariants.{Nothing, Read, Write, Trap, Exit}
use Rattle.rv_alu.specs.declared.span.Span.{Span}
use Rattle.rv_flat.specs.FlatState.{FlatState, span_of, view_of}
use Rattle.rv_flat.specs.Laws.{IsInOneLine}
use Rattle.rv_flat.specs.Memory.{byte_in}
use Rattle.rv_flat.proofs.Laws.StepLaws.{one_line-touched}
use Rattle.run_laws.specs.PrivateRun.{HasItsBit}

-- the line of what is touched has a bit
abbrev pub IsOnBit : List (List Way) → Option Touch → Type 0
IsOnBit cache None = Unit {0}
IsOnBit cache (Some touch) = has_bit cache touch.line ≡ true

covered_bit : (cache : List (List Way)) (line : ℕ) (need : Need) → is_covered cache line need ≡ true →
    has_bit cache line ≡ true
covered_bit cache line needs.Read is = is
covered_bit cache line needs.Write is = or_right (read_bit cache line) _ is

pub on_bit : (cache : List (List Way)) (touch : Option Touch) → HasItsBit cache touch → IsOnBit cache touch
on_bit cache None is = tt
on_bit cache (Some touch) is = covered_bit cache touch.line touch.need is

-- memory is the same on each line with a bit
abbrev pub SameOnBits : List (List Way) → FlatState → FlatState → Type 0
SameOnBits cache left right =
    (place : ℕ) → has_bit cache (line_number (left.base + place)) ≡ true →
    slice_index right.bytes place ≡ slice_index left.bytes place

-- an address that is touched is not below the base, and on the touched line
pub record IsTouched (base : ℕ) (cache : List (List Way)) (address : ℕ) : Type 0 where
  pub above : base ≤ address
  pub bit : has_bit cache (line_number address) ≡ true

on_piece : (span : Span) (cache : List (List Way)) (from len address : ℕ) → IsPiece span from len → from ≤ address →
    address < from + len → has_bit cache (line_number from) ≡ true → IsTouched span.base cache address
on_piece span cache from len address piece low high bit =
    let short : from % LINE_BYTES + len ≤ LINE_BYTES = piece.one_line in
    let base : span.base ≤ from = piece.from_base in
    let same : line_number address ≡ line_number from = omega arith in
    record { above = omega arith; bit = ap (has_bit cache) same ∙ bit }

pub touched_on_bit : (span : Span) (cache : List (List Way)) (access : Access) (address : ℕ) → IsInOneLine span access →
    IsOnBit cache (touch_of access) → Touches access address → IsTouched span.base cache address
touched_on_bit span cache (Read from len) address piece bit there =
    on_piece span cache from len address piece there.0 there.1 bit
touched_on_bit span cache (Write from len) address piece bit there =
    on_piece span cache from len address piece there.0 there.1 bit
touched_on_bit span cache Nothing address piece bit there = absurd there
touched_on_bit span cache (Trap cause) address piece bit there = absurd there
touched_on_bit span cache (Exit code) address piece bit there = absurd there

pub agree_there : (left right : FlatState) (h : ℕ) (cache : List (List Way)) → right.base ≡ left.base →
    SameOnBits cache left right → IsOnBit cache (next_touch left h) →
    AgreeOn (next_access left h) (byte_in right.base right.bytes) (byte_in left.base left.bytes)
agree_there left right h cache base same bit address there =
    let touched =
    touched_on_bit (span_of left) cache (next_access left h) address
    (one_line-touched left (view_of left h)) bit there in
    let above : left.base ≤ address = touched.above in
    let back : left.base + (address - left.base) ≡ address = omega arith in
    ap (λ base. slice_index right.bytes (address - base)) base
    ∙ same (address - left.base) (ap (λ a. has_bit cache (line_number a)) back ∙ touched.bit)
