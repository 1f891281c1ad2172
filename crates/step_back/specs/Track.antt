-- a run that can be taken back
use Rattle.std.specs.Prelude.{◌≡◌, ℕ, List, [], ◌∷◌, map}
use Rattle.elf_image.specs.Program.{Program}
use Rattle.rv_flat.specs.declared.change.Change.{Change}
use Rattle.rv_flat.specs.Change.{IsLeftBy}
use Rattle.rv_flat.specs.FlatState.{FlatState, start}
use Rattle.rv_flat.specs.Run.{run}
use Rattle.rv_flat.specs.Step.{flat}

-- a program, the harts whose instructions ran, one by one, and how many instructions there is room for
pub record Track : Type 0 where
  pub program : Program
  pub harts : List ℕ
  pub room : ℕ

-- the state that the run has come to
abbrev pub reached : Track → FlatState
reached track = run (start track.program) track.harts

-- the harts whose steps these changes are of
abbrev pub harts_of : List Change → List ℕ
harts_of changes = map (λ change. change.hart.number) changes

-- these changes are those of steps that were made one after another from a state on
abbrev pub AreLeftBy : FlatState → List Change → Type 0
AreLeftBy state [] = Unit {0}
AreLeftBy state (change ∷ changes) =
    let next = flat state change.hart.number in IsLeftBy state change next × AreLeftBy next changes

-- a flat state is what the steps that these changes are of lead to, from the start of the program
pub record IsTracked (program : Program) (state : FlatState) (changes : List Change) : Type 0 where
  pub reached : state ≡ run (start program) (harts_of changes)
  pub noted : AreLeftBy (start program) changes
