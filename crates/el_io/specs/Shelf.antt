-- What a shelf holds, and the list of its failed calls.
use Rattle.std.specs.Prelude.{◌≡◌, ◌≢◌, ℕ, List, [], ◌∷◌, ◌++◌, Option, None, Some, Result, Ok, Err}
use Rattle.el_io.specs.declared.shelf.Call.{Call}
use Rattle.el_io.specs.declared.shelf.ShelfFault.{ShelfFault}
use Rattle.el_io.specs.declared.shelf.ShelfFault.TheVariants.{Failed, TooBig, NoMemory}

-- the bytes of each name; a name without a file has none
abbrev pub Contents : Type 0
Contents = List ℕ → List ℕ

-- where contents are told, this name has these bytes
abbrev pub Holds : Option Contents → List ℕ → List ℕ → Type 0
Holds None name bytes = Unit {0}
Holds (Some contents) name bytes = contents name ≡ bytes

-- contents stay told or untold, and every other name keeps its bytes
abbrev pub KeepsOthers : Option Contents → Option Contents → List ℕ → Type 0
KeepsOthers None now name = now ≡ None
KeepsOthers (Some before) None name = ⊥
KeepsOthers (Some before) (Some now) name = (other : List ℕ) → other ≢ name → now other ≡ before other

-- a call by its kind and the name that it was given
abbrev pub NamedCall : Type 0
NamedCall = Call × List ℕ

-- the list of failed calls after this call: `Failed` adds the call at the end, and no other answer adds any
abbrev pub Records : {T : Type 0} → Result T ShelfFault → List NamedCall → List NamedCall → NamedCall → Type 0
Records (Ok _) before now call = now ≡ before
Records (Err Failed) before now call = now ≡ before ++ call ∷ []
Records (Err TooBig) before now call = now ≡ before
Records (Err NoMemory) before now call = now ≡ before
