-- A program that is being put together.
use Rattle.std.specs.Prelude.{◌<◌, ◌≤◌, ℕ, List, [], ◌∷◌, ◌++◌, length, slice_index_or, slice_set, All, Option, Some}
use Rattle.std.specs.Prelude.{None, IfSome}
use Rattle.rv_word.specs.Validity.{Valid}
use Rattle.rv_asm.specs.declared.builder.TheConstants.{MOST_WORDS}
use Rattle.rv_asm.specs.declared.item.Item.{Item}
use Rattle.rv_asm.specs.declared.item.Label.{Label}
use Rattle.rv_asm.specs.declared.item.Item.TheVariants.{Fixed, BranchTo, JumpTo}

-- what was put, one item a word, and for each label the place that it has, if it has one. Labels go by their
-- number, and a place is the number of words before it
pub record Assembly : Type 0 where
  pub items : List Item
  pub places : List (Option ℕ)

-- the place of a label, if it has one
abbrev pub place_of : Assembly → Label → Option ℕ
place_of asm label = slice_index_or asm.places label.number None

-- with one item more
abbrev pub with_item : Assembly → Item → Assembly
with_item asm item = record asm { items = asm.items ++ item ∷ [] }

-- with one label more, which has no place yet
abbrev pub with_label : Assembly → Assembly
with_label asm = record asm { places = asm.places ++ None ∷ [] }

-- with the label at the next word
abbrev pub with_place : Assembly → Label → Assembly
with_place asm label = record asm { places = slice_set asm.places label.number (Some (length asm.items)) }

-- the label of a branch or jump
abbrev pub label_of : Item → Option Label
label_of (Fixed insn) = None
label_of (BranchTo test rs1 rs2 label) = Some label
label_of (JumpTo rd label) = Some label

-- an instruction has a word, and a label is one of so many that were made
abbrev pub IsItem : ℕ → Item → Type 0
IsItem labels (Fixed insn) = Valid insn
IsItem labels (BranchTo test rs1 rs2 label) = label.number < labels
IsItem labels (JumpTo rd label) = label.number < labels

-- what is true of every program that was put together: a label stands at most behind the last word
pub record IsAssembly (asm : Assembly) : Type 0 where
  pub few_words : length asm.items ≤ MOST_WORDS
  pub valid : All (IsItem (length asm.places)) asm.items
  pub behind : All (λ place. IfSome place (λ to. to ≤ length asm.items)) asm.places
