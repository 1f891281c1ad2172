-- Counting the events of a history, one after another.
use Rattle.std.specs.Prelude.{ℕ, ◌≡◌, ◌<◌, ◌≤◌, ◌+◌, ◌*◌, ◌^◌, Bool, List, IsTrue, nat_lt, get_or, length}
use Rattle.std.specs.Prelude.{if◌then◌else◌}
use Rattle.std.specs.List.{list_all}
use Rattle.chronicle.specs.Chronicle.{Chronicle}
use Rattle.chronicle.specs.Serial.{most_effects, serial}
use Rattle.chronicle.specs.Tally.{IsTallyOf, nothing, numbers, tally_of}
use Rattle.chronicle.specs.declared.counts.Counts.{Counts}
use Rattle.el_base.specs.declared.entries.Entry.{Entry}
use Rattle.chronicle.specs.declared.tally.Tally.{Tally}

-- the tally of a hart among those of all harts
abbrev pub tally_at : List Tally → ℕ → Tally
tally_at tallies hart = get_or tallies hart nothing

-- one more event can be counted
unfoldable pub HasRoom : Tally → Type 0
HasRoom tally = IsTrue (list_all (λ number. nat_lt (number + most_effects) (2 ^ 64)) (numbers tally))

-- a tally after an event in which a section of the hart lost, or none did
abbrev pub with_loss : Tally → Bool → Tally
with_loss tally lost = if lost then record tally { conflict = tally.conflict + 1 } else tally

-- these are the counts of some entries, and none is above what so many can count for
pub record IsCounted (entries : List Entry) (counts : Counts) : Type 0 where
  pub tallies : (hart : ℕ) → hart < 8 → tally_at counts.tallies hart ≡ tally_of hart entries
  pub steps : counts.steps ≡ length (serial entries)
  pub few : counts.steps ≤ length entries * most_effects
  pub small : (hart : ℕ) → IsTallyOf (length entries) (tally_of hart entries)

-- a history keeps its counts beside its entries
pub record KeepsCounts (history : Chronicle) (counts : Counts) : Type 0 where
  pub within : length history.entries ≤ history.places
  pub few_places : history.places < 2 ^ 32
  pub counted : IsCounted history.entries counts
