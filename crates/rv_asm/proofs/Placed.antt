-- What a program has of which no label is unplaced and none is far.
use Rattle.std.proofs.Common.{◌≡◌, ℕ, ◌+◌, ◌<◌, ◌≤◌, List, [], ◌∷◌, length, zero, suc, Option, Some, None, Bool, false}
use Rattle.std.proofs.Common.{refl, arith}
use Rattle.std.specs.Prelude.{fold, find, IsSome, slice_get, min}
use Rattle.std.specs.List.{filter_map, range_with_len}
use Rattle.std.specs.Option.{option_and_then}
use Rattle.rv_asm.specs.declared.item.Item.{Item}
use Rattle.rv_asm.specs.declared.item.Item.TheVariants.{Fixed, BranchTo, JumpTo}
use Rattle.rv_asm.specs.Assembly.{Assembly}
use Rattle.rv_asm.specs.Finished.{lesser, least_of, unplaced_label, first_unplaced, item_insn, insn_at, is_far_at}
use Rattle.rv_asm.specs.Finished.{first_far}

-- there is a least number as soon as there is one
some_least : (numbers : List ℕ) (least : ℕ) → fold lesser (Some least) numbers ≡ None → ⊥
some_least [] least none = cc
some_least (n ∷ numbers) least none = some_least numbers (min least n) none

no_least : (numbers : List ℕ) → least_of numbers ≡ None → numbers ≡ []
no_least [] none = refl
no_least (n ∷ numbers) none = absurd (some_least numbers n none)

-- what gives nothing of a list gives nothing of each element
gives_none : {X Y : Type 0} (h : X → Option Y) (xs : List X) (place : ℕ) (x : X) → filter_map h xs ≡ [] →
    slice_get xs place ≡ Some x → h x ≡ None
gives_none h (y ∷ xs) zero x none there = grind arith
gives_none h (y ∷ xs) (suc place) x none there = grind (arith, gives_none h xs place x)
gives_none h [] place x none there = cc

gives_none_further : {X Y : Type 0} (h : X → Option Y) (x : X) (xs : List X) → filter_map h (x ∷ xs) ≡ [] →
    filter_map h xs ≡ []
gives_none_further h x xs none = grind arith

-- what is not found in a range is true of nothing there
not_found : (p : ℕ → Bool) (from count place : ℕ) → find p (range_with_len from count) ≡ None → from ≤ place →
    place < from + count → p place ≡ false
not_found p from zero place none low high = absurd (omega arith)
not_found p from (suc count) place none low high = grind (arith, not_found p (from + 1) count place)

-- an item whose label is no unplaced one has an instruction
has_insn : (asm : Assembly) (place : ℕ) (item : Item) → unplaced_label asm item ≡ None →
    IsSome (item_insn asm place item)
has_insn asm place (Fixed insn) placed = refl
has_insn asm place (BranchTo test rs1 rs2 label) placed = grind arith
has_insn asm place (JumpTo rd label) placed = grind arith

-- where no label is unplaced, each place has an instruction
insn_from : (asm : Assembly) (items : List Item) (place there : ℕ) → filter_map (unplaced_label asm) items ≡ []
    → there < length items → IsSome (option_and_then (item_insn asm place) (slice_get items there))
insn_from asm [] place there placed within = absurd (omega arith)
insn_from asm (item ∷ items) place zero placed within =
    has_insn asm place item (gives_none (unplaced_label asm) (item ∷ items) 0 item placed refl)
insn_from asm (item ∷ items) place (suc there) placed within =
    insn_from asm items place there (gives_none_further (unplaced_label asm) item items placed) (omega arith)

pub placed_insn : (asm : Assembly) (place : ℕ) → first_unplaced asm ≡ None → place < length asm.items →
    IsSome (insn_at asm place)
unfolding first_unplaced insn_at
placed_insn asm place placed within = insn_from asm asm.items place place (no_least _ placed) within

-- and where none is far, no place is
pub near_at : (asm : Assembly) (place : ℕ) → first_far asm ≡ None → place < length asm.items →
    is_far_at asm place ≡ false
unfolding first_far
near_at asm place near within = not_found (is_far_at asm) 0 (length asm.items) place near (omega arith) (omega arith)
