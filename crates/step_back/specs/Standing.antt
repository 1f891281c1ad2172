-- where a timeline stands
use Rattle.std.specs.Prelude.{◌≡◌, ◌≢◌, ◌≤◌, ◌<◌, ℕ, ◌-◌, ◌==◌, ◌&&◌, Bool, not, All, List, length, take}
use Rattle.std.specs.List.{filter, range_with_len}
use Rattle.chronicle.specs.Serial.{serial}
use Rattle.el_base.specs.declared.entries.Entry.{Entry}
use Rattle.elf_image.specs.Program.{Program}
use Rattle.rv_flat.specs.FlatState.{FlatState, start, view_of}
use Rattle.rv_flat.specs.Run.{run}
use Rattle.step_back.specs.Track.{Track}

-- a program, the events of a run of it with their outcomes, and how many of them have been made
pub record Standing : Type 0 where
  pub program : Program
  pub entries : List Entry
  pub place : ℕ

-- the harts whose instructions have taken effect at a place of a history
abbrev pub serial_to : List Entry → ℕ → List ℕ
serial_to entries place = serial (take place entries)

-- the committed state at a place: what one run of the program comes to, in the serial order of the events up to there
abbrev pub state_at : Program → List Entry → ℕ → FlatState
state_at program entries place = run (start program) (serial_to entries place)

-- the committed state at the present place
abbrev pub state_here : Standing → FlatState
state_here standing = state_at standing.program standing.entries standing.place

-- a run that can be taken back has come to a place of a history, whose harts exist and for all of which there is room
pub record StandsAt (track : Track) (entries : List Entry) (place : ℕ) : Type 0 where
  pub within : place ≤ length entries
  pub stands : track.harts ≡ serial_to entries place
  pub exist : All (λ hart. hart < track.program.harts) (serial entries)
  pub spacious : length (serial entries) ≤ track.room

-- a hart's committed pc at a place
abbrev pub pc_at : Program → List Entry → ℕ → ℕ → ℕ
pc_at program entries hart place = (view_of (state_at program entries place) hart).pc

-- a hart comes to a pc at a place: its committed pc is this one there, and was not before the place's last event
pub record ComesTo (program : Program) (entries : List Entry) (hart pc place : ℕ) : Type 0 where
  pub there : pc_at program entries hart place ≡ pc
  pub not_before : pc_at program entries hart (place - 1) ≢ pc

-- the same as a test
abbrev pub comes_to : Program → List Entry → ℕ → ℕ → ℕ → Bool
comes_to program entries hart pc place =
    (pc_at program entries hart place == pc) && not (pc_at program entries hart (place - 1) == pc)

-- the places of a history, from 1 on, at which a hart comes to a pc
abbrev pub places_of : Program → List Entry → ℕ → ℕ → List ℕ
places_of program entries hart pc = filter (comes_to program entries hart pc) (range_with_len 1 (length entries))

-- a place is the least later one at which a hart comes to a pc
pub record IsNext (standing : Standing) (hart pc place : ℕ) : Type 0 where
  pub later : standing.place < place
  pub within : place ≤ length standing.entries
  pub comes : ComesTo standing.program standing.entries hart pc place
  pub least : (between : ℕ) → standing.place < between → between < place →
      ¬ ComesTo standing.program standing.entries hart pc between

-- there is no later place at which a hart comes to a pc
abbrev pub HasNoNext : Standing → ℕ → ℕ → Type 0
HasNoNext standing hart pc =
    (place : ℕ) → standing.place < place → place ≤ length standing.entries →
    ¬ ComesTo standing.program standing.entries hart pc place
