-- Programs that have no fault: each label has its place, and there are few words.
use Rattle.std.proofs.Common.{◌≡◌, ℕ, ◌+◌, ◌<◌, List, [], ◌∷◌, length, zero, suc, Option, Some, None, Bool, true, false}
use Rattle.std.proofs.Common.{refl, arith}
use Rattle.std.proofs.lemmas.Int.{ints}
use Rattle.std.proofs.lemmas.List.Elements.{All-head, All-tail}
use Rattle.std.proofs.lemmas.Option.{get_or_from_slice_get}
use Rattle.std.specs.Prelude.{find, IsSome, All, slice_get}
use Rattle.std.specs.List.{filter_map, range_with_len}
use Rattle.std.specs.Option.{option_and_then, option_map_or}
use Rattle.rv_word.specs.declared.insn.Insn.{Insn}
use Rattle.rv_word.specs.declared.insn.Insn.TheVariants.{Branch, Jal}
use Rattle.rv_word.specs.Validity.{Valid}
use Rattle.rv_asm.specs.declared.item.Item.{Item}
use Rattle.rv_asm.specs.declared.item.Item.TheVariants.{Fixed, BranchTo, JumpTo}
use Rattle.rv_asm.specs.Assembly.{Assembly, IsAssembly, IsItem}
use Rattle.rv_asm.specs.Finished.{unplaced_label, first_unplaced, item_insn, insn_at, is_far, is_far_at, first_far}
use Rattle.rv_asm.specs.Finished.{offset, fits_signed_bits}

-- where each label that was made has a place, none that is used is unplaced
item_placed : (asm : Assembly) (item : Item) → All IsSome asm.places → IsItem (length asm.places) item →
    unplaced_label asm item ≡ None
item_placed asm (Fixed insn) placed made = refl
item_placed asm (BranchTo test rs1 rs2 label) placed made = grind (arith, placed label.number None)
item_placed asm (JumpTo rd label) placed made = grind (arith, placed label.number None)

items_placed : (asm : Assembly) (items : List Item) → All IsSome asm.places → All (IsItem (length asm.places)) items
    → filter_map (unplaced_label asm) items ≡ []
items_placed asm [] placed made = refl
items_placed asm (item ∷ items) placed made =
    rw (item_placed asm item placed (All-head (IsItem (length asm.places)) item items made))
    (items_placed asm items placed (All-tail (IsItem (length asm.places)) item items made))

pub all_placed : (asm : Assembly) → IsAssembly asm → All IsSome asm.places → first_unplaced asm ≡ None
unfolding first_unplaced
all_placed asm is placed = rw (items_placed asm asm.items placed is.valid) refl

-- a valid instruction is not far
valid_near : (insn : Insn) → Valid insn → is_far insn ≡ false
valid_near (Branch test rs1 rs2 offset) valid = grind (arith, ints)
valid_near (Jal rd offset) valid = grind (arith, ints)
valid_near _ valid = refl

-- a branch reaches each of a thousand words, and so does a jump
branch_near : (from to : ℕ) → from < 1024 → to < 1024 → fits_signed_bits 13 (offset from to) ≡ true
branch_near from to near_from near_to = grind (arith, ints)

jump_near : (from to : ℕ) → from < 1024 → to < 1024 → fits_signed_bits 21 (offset from to) ≡ true
jump_near from to near_from near_to = grind (arith, ints)

-- an item of a short program is not far
item_near : (asm : Assembly) (place : ℕ) (item : Item) → IsAssembly asm → length asm.items < 1024 →
    place < length asm.items
    → IsItem (length asm.places) item → option_map_or is_far (item_insn asm place item) false ≡ false
item_near asm place (Fixed insn) is short within made = valid_near insn made
item_near asm place (BranchTo test rs1 rs2 label) is short within made =
    grind (arith, is.behind label.number None, branch_near)
item_near asm place (JumpTo rd label) is short within made = grind (arith, is.behind label.number None, jump_near)

found_near : (asm : Assembly) (place : ℕ) (found : Option Item) → IsAssembly asm → length asm.items < 1024 →
    place < length asm.items
    → slice_get asm.items place ≡ found →
    option_map_or is_far (option_and_then (item_insn asm place) found) false ≡ false
found_near asm place None is short within there = refl
found_near asm place (Some item) is short within there =
    item_near asm place item is short within
    (rw (get_or_from_slice_get asm.items place item item there) at (is.valid place item within))

place_near : (asm : Assembly) (place : ℕ) → IsAssembly asm → length asm.items < 1024 → place < length asm.items →
    is_far_at asm place ≡ false
unfolding insn_at
place_near asm place is short within = found_near asm place (slice_get asm.items place) is short within refl

nothing_found : (p : ℕ → Bool) (from count : ℕ) → ((k : ℕ) → k < from + count → p k ≡ false) →
    find p (range_with_len from count) ≡ None
nothing_found p from zero none = refl
nothing_found p from (suc count) none =
    grind (arith, none from, nothing_found p (from + 1) count (λ k below. none k (omega arith)))

-- in a program of fewer than 1,024 words nothing is far
pub short_near : (asm : Assembly) → IsAssembly asm → length asm.items < 1024 → first_far asm ≡ None
unfolding first_far
short_near asm is short =
    nothing_found (is_far_at asm) 0 (length asm.items) (λ place within. place_near asm place is short (omega arith))
