-- what holds of the lock's table between any two of its steps
use Rattle.std.specs.Prelude.{ℕ, ◌≡◌, ◌≢◌, ◌+◌, ◌<◌, ◌≤◌, ◌⊎◌, Bool, true, false, List, [], ◌∷◌, length, Option, Some}
use mathlib.Core.List.{IsPrefix}
use mathlib.Core.Option.{some}
use mathlib.Core.Option as maybe
use lib.ListN.{get_elem?}
use Rattle.atomic_table.specs.Table.{State}
use Rattle.el_base.specs.declared.entries.Entry.{Entry}
use Rattle.bus_lock.specs.declared.view.View.{View}
use Rattle.bus_lock.specs.Passes.{below, times}

-- whether two shares are of different halves of some pass
abbrev pub apart : List Bool → List Bool → Bool
apart [] right = false
apart (x ∷ left) [] = false
apart (true ∷ left) (true ∷ right) = apart left right
apart (false ∷ left) (false ∷ right) = apart left right
apart (true ∷ left) (false ∷ right) = true
apart (false ∷ left) (true ∷ right) = true

-- what the views come to, added up
abbrev pub total : (View → ℕ) → List View → ℕ
total weight [] = 0
total weight (view ∷ views) = weight view + total weight views

-- how often a place was made under a pass with this view
abbrev pub made : ℕ → View → ℕ
made place view = times place view.places

-- a view fits the history and the tickets: what it has seen begins the history; it waits with a ticket that was drawn
-- and not served; where it has its turn, it is served and has seen the whole history; a view that was joined to another
-- has no places
pub record Fits (begins : List ℕ) (log : List Entry) (next serving : ℕ) (view : View) : Type 0 where
  pub opening : view.live ≡ true → view.opening ≡ begins
  pub seen : IsPrefix view.seen log
  pub beside : IsPrefix view.beside log
  pub waits : 0 < view.ticket → (serving < view.ticket) × (view.ticket ≤ next)
  pub turn : view.turn ≡ true → (view.live ≡ true) × (view.ticket ≡ serving + 1) × (view.seen ≡ log)
  pub spent : view.live ≡ false → view.places ≡ []

-- some pass has its turn, and the value with it
abbrev pub IsOut : List View → Type 0
IsOut views = (seat : ℕ) × (view : View) × (get_elem? views seat ≡ some view) × (view.turn ≡ true)

-- some pass has seen the whole history
abbrev pub IsKnown : List Entry → List View → Type 0
IsKnown log views =
    (seat : ℕ) × (view : View) × (get_elem? views seat ≡ some view) × (view.live ≡ true)
    × ((view.seen ≡ log) ⊎ (view.beside ≡ log))

module _ {M : Type 0} (entries : M → List Entry) (opening : M → List ℕ) (begins : List ℕ) where
  -- the value is in the lock, with this history
  abbrev pub IsHome : List Entry → List (maybe.Option (Option M)) → Type 0
  IsHome log homes = (value : M) × (get_elem? homes 0 ≡ some (some (Some value))) × (entries value ≡ log)
      × (opening value ≡ begins)

  -- the words are the next ticket, the one that is served, and the length of the history. No two waiting passes have
  -- one ticket, no two passes have shares of which one is a part of the other, and the places of all passes are those
  -- of the entries made since the lock was made
  pub record Ticketed (begun : ℕ) (s : State (Option M) View) : Type 0 where
    pub log : List Entry
    pub next : ℕ
    pub serving : ℕ
    pub words : s.words ≡ next ∷ serving ∷ length log ∷ []
    pub behind : serving ≤ next
    pub fits : (seat : ℕ) (view : View) → get_elem? s.views seat ≡ some view → Fits begins log next serving view
    pub tickets : (i j : ℕ) (v w : View) → get_elem? s.views i ≡ some v → get_elem? s.views j ≡ some w → 0 < v.ticket →
        v.ticket ≡ w.ticket → i ≡ j
    pub shares : (i j : ℕ) (v w : View) → get_elem? s.views i ≡ some v → get_elem? s.views j ≡ some w → i ≢ j →
        v.live ≡ true →
        w.live ≡ true → apart v.share w.share ≡ true
    pub known : IsKnown log s.views
    pub placed : (place : ℕ) → total (made place) s.views + below place begun ≡ below place (length log)
    pub value : IsHome log s.homes ⊎ IsOut s.views
