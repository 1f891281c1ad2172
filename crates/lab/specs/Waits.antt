-- since when nothing of a hart took effect
use Rattle.std.specs.Prelude.{ℕ, ◌+◌, Bool, List, [], ◌∷◌, Option, None, Some, ◌==◌, if◌then◌else◌}
use Rattle.std.specs.List.{list_any}
use Rattle.chronicle.specs.Serial.{taking_effect}
use Rattle.el_base.specs.declared.entries.Entry.{Entry}

-- whether an instruction of this hart took effect by an entry
abbrev pub acts : ℕ → Entry → Bool
acts h entry = list_any (λ hart. hart == h) (taking_effect entry.event.hart.number entry.outcome)

-- the place of the last of these entries by which one did, the first of them at a place; where there is none, `last`
abbrev pub last_from : ℕ → ℕ → Option ℕ → List Entry → Option ℕ
last_from h place last [] = last
last_from h place last (entry ∷ entries) = last_from h (place + 1) (if acts h entry then Some place else last) entries

-- the place of the last entry of a history by which an instruction of this hart took effect
unfoldable pub last_effect : ℕ → List Entry → Option ℕ
last_effect h entries = last_from h 0 None entries
