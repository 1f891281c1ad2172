-- What comes of a program that was put together: its words, or the fault that it has.
use Rattle.std.specs.Prelude.{◌≡◌, ℕ, ◌-◌, ◌^◌, min, Bool, false, not, ◌&&◌, List, length, slice_get, slice_index}
use Rattle.std.specs.Prelude.{EachIndex, fold, find, ℤ, pos}
use Rattle.std.specs.Prelude.{negsuc, ◌-ℤ◌, ◌*ℤ◌, int_lt, int_le, Option, Some, None, is_none, if◌then◌else◌, IsSomeAnd}
use Rattle.std.specs.List.{filter_map, range_with_len}
use Rattle.std.specs.Option.{option_map, option_map_or, option_and_then}
use Rattle.rv_word.specs.declared.insn.Insn.{Insn}
use Rattle.rv_word.specs.declared.insn.Insn.TheVariants.{Branch, Jal, Fence}
use Rattle.rv_word.specs.Meaning.{Means}
use Rattle.rv_asm.specs.declared.item.Item.{Item}
use Rattle.rv_asm.specs.declared.item.Item.TheVariants.{Fixed, BranchTo, JumpTo}
use Rattle.rv_asm.specs.Assembly.{Assembly, label_of, place_of}

-- the least of some numbers
abbrev pub lesser : Option ℕ → ℕ → Option ℕ
lesser None n = Some n
lesser (Some least) n = Some (min least n)

abbrev pub least_of : List ℕ → Option ℕ
least_of numbers = fold lesser None numbers

-- the number of the label of a branch or jump, if that has no place
abbrev pub unplaced_label : Assembly → Item → Option ℕ
unplaced_label asm item =
    option_and_then (λ label. if is_none (place_of asm label) then Some label.number else None) (label_of item)

-- the least label that is used and not placed
unfoldable pub first_unplaced : Assembly → Option ℕ
first_unplaced asm = least_of (filter_map (unplaced_label asm) asm.items)

-- the bytes from the word at one place to the word at another, negative where it lies before
abbrev pub offset : ℕ → ℕ → ℤ
offset from to = pos 4 *ℤ (pos to -ℤ pos from)

-- the instruction of an item at a place, if its label has a place
abbrev pub item_insn : Assembly → ℕ → Item → Option Insn
item_insn asm place (Fixed insn) = Some insn
item_insn asm place (BranchTo test rs1 rs2 label) =
    option_map (λ to. Branch test rs1 rs2 (offset place to)) (place_of asm label)
item_insn asm place (JumpTo rd label) = option_map (λ to. Jal rd (offset place to)) (place_of asm label)

-- the instruction at a place
unfoldable pub insn_at : Assembly → ℕ → Option Insn
insn_at asm place = option_and_then (item_insn asm place) (slice_get asm.items place)

-- the number fits two's complement of so many bits
abbrev pub fits_signed_bits : ℕ → ℤ → Bool
fits_signed_bits width z = int_le (negsuc (2 ^ (width - 1) - 1)) z && int_lt z (pos (2 ^ (width - 1)))

-- the offset of a branch or jump does not fit its form
abbrev pub is_far : Insn → Bool
is_far (Branch test rs1 rs2 offset) = not (fits_signed_bits 13 offset)
is_far (Jal rd offset) = not (fits_signed_bits 21 offset)
is_far _ = false

abbrev pub is_far_at : Assembly → ℕ → Bool
is_far_at asm place = option_map_or is_far (insn_at asm place) false

-- the first place whose offset does not fit
unfoldable pub first_far : Assembly → Option ℕ
first_far asm = find (is_far_at asm) (range_with_len 0 (length asm.items))

-- the word that is written for an instruction: of the many that mean a fence, the one that orders all
pub record IsWordOf (insn : Insn) (word : ℕ) : Type 0 where
  pub means : Means word insn
  pub fence : insn ≡ Fence → word ≡ 0x0ff0000f

-- a place has the word of its instruction
abbrev pub HasWord : Assembly → List ℕ → ℕ → Type 0
HasWord asm words place = IsSomeAnd (insn_at asm place) (λ insn. IsWordOf insn (slice_index words place))

-- the words are those of the instructions, in order
pub record IsAssembled (asm : Assembly) (words : List ℕ) : Type 0 where
  pub same_length : length words ≡ length asm.items
  pub each : EachIndex words (HasWord asm words)
