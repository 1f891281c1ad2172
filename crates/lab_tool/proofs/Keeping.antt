-- Which files stay as they are.
use Rattle.std.proofs.Common.{◌≡◌, ℕ, List, Option, None, Some, refl, sym, subst}
use Rattle.el_io.specs.Shelf.{Contents, KeepsOthers}
use Rattle.lab_tool.specs.Files.{ChangesOneAtMost, KeepsBut}

others_same : (told : Option Contents) (name : List ℕ) → KeepsOthers told told name
others_same None name = refl
others_same (Some contents) name = λ other differs. refl

-- where nothing changed, nothing else did
pub others_stay : (before now : Option Contents) (name : List ℕ) → now ≡ before → KeepsOthers before now name
others_stay before now name same =
    subst (λ (one : Option Contents). KeepsOthers before one name) (sym same) (others_same before name)

pub keeps_same : (name : Option (List ℕ)) (before now : Option Contents) → now ≡ before → KeepsBut name before now
keeps_same None before now same = same
keeps_same (Some name) before now same = others_stay before now name same

-- and a change goes on from what was there
pub others_from : (before between now : Option Contents) (name : List ℕ) → between ≡ before →
    KeepsOthers between now name → KeepsOthers before now name
others_from before between now name same keeps = subst (λ (one : Option Contents). KeepsOthers one now name) same keeps

pub keeps_from : (name : Option (List ℕ)) (before between now : Option Contents) → between ≡ before →
    KeepsBut name between now → KeepsBut name before now
keeps_from name before between now same keeps = subst (λ (one : Option Contents). KeepsBut name one now) same keeps

-- no file changed, or one
pub none_changes : (before now : Option Contents) → now ≡ before → ChangesOneAtMost before now
none_changes before now same = record { file = None; keeps = same }

pub one_changes : (name : Option (List ℕ)) (before now : Option Contents) → KeepsBut name before now →
    ChangesOneAtMost before now
one_changes name before now keeps = record { file = name; keeps = keeps }
