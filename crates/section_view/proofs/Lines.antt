-- memory line by line
use Rattle.std.proofs.Common.{◌≡◌, ◌≤◌, ◌<◌, ◌+◌, ◌-◌, ◌*◌, ◌/◌, ◌%◌, ◌∙◌, ℕ, false, List, length, drop, arith, ap, sym}
use Rattle.std.specs.Prelude.{slice_index, unwrap_or}
use Rattle.std.proofs.lemmas.Grind.{same_number_lists}
use Rattle.std.proofs.lemmas.List.{get_or-drop, get_or-take, length-drop, length-take}
use Rattle.coherence.specs.Beginning.{line_in, line_of}
use Rattle.el_base.specs.declared.line.TheConstants.{LINE_BYTES}
use Rattle.rv_flat.specs.FlatState.{FlatState}
use Rattle.section_view.specs.Release.{IsLineFrom}
use Rattle.write_hold.proofs.Laws.LookUps.{held_at_address, seen_at_no_line}
use Rattle.write_hold.specs.Held.{Entry, held, held_at, holds, seen_at}

-- a byte of a line
byte_of_line : (bytes : List ℕ) (line place : ℕ) → place < 64 →
    slice_index (line_in bytes line) place ≡ slice_index bytes (line * 64 + place)
byte_of_line bytes line place within =
    get_or-take 64 (drop (line * 64) bytes) place 0 within ∙ get_or-drop (line * 64) bytes place 0

length_of_line : (left right : List ℕ) (line : ℕ) → length left ≡ length right →
    length (line_in left line) ≡ length (line_in right line)
length_of_line left right line same = omega (arith, same, length-take {A = ℕ}, length-drop {A = ℕ})

-- where each byte is the held one over the one before, so is each byte of a line
module _ (old new : FlatState) (hold : List Entry) (base : new.base ≡ old.base)
    (size : length new.bytes ≡ length old.bytes)
    (bytes : (place : ℕ) → slice_index new.bytes place ≡ unwrap_or (held hold (old.base + place))
    (slice_index old.bytes place)) where
  pub line_bytes : (line place : ℕ) → IsLineFrom old line → place < LINE_BYTES →
      slice_index (line_of new line) place ≡ seen_at hold line (line_of old line) place
  line_bytes line place from within =
      let first : ℕ = line - old.base / LINE_BYTES in
      let aligned : old.base % LINE_BYTES ≡ 0 = from.aligned in
      let low : old.base / LINE_BYTES ≤ line = from.from in
      let address : old.base + (first * 64 + place) ≡ line * LINE_BYTES + place = omega arith in
      ap (λ base. slice_index (line_in new.bytes (line - base / LINE_BYTES)) place) base
      ∙ byte_of_line new.bytes first place within ∙ bytes (first * 64 + place)
      ∙ ap (λ byte. unwrap_or byte (slice_index old.bytes (first * 64 + place)))
      (ap (held hold) address ∙ held_at_address hold line place within)
      ∙ ap (unwrap_or (held_at hold line place)) (sym (byte_of_line old.bytes first place within))

  pub same_line : (line : ℕ) → IsLineFrom old line → holds hold line ≡ false → line_of new line ≡ line_of old line
  same_line line from absent =
      same_number_lists (line_of new line) (line_of old line)
      (ap (λ base. length (line_in new.bytes (line - base / LINE_BYTES))) base
      ∙ length_of_line new.bytes old.bytes (line - old.base / LINE_BYTES) size)
      (λ place within.
      let short : place < LINE_BYTES = omega (arith, length-take {A = ℕ}) in
      line_bytes line place from short ∙ seen_at_no_line hold line (line_of old line) place absent)
