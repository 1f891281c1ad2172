-- What a history says of one hart: sums over its entries.
use Rattle.std.specs.Prelude.{ℕ, ◌+◌, ◌*◌, ◌^◌, Bool, List, [], ◌∷◌, ◌==◌, if◌then◌else◌, IsTrue, nat_lt, nat_le}
use Rattle.std.specs.Prelude.{sum_by, is_some}
use Rattle.std.specs.List.{list_all}
use Rattle.el_base.specs.Winners.{winner_over}
use Rattle.el_base.specs.declared.entries.Entry.{Entry}
use Rattle.el_base.specs.declared.outcomes.Cause.TheVariants.{Room, Lines, Long, Call, Mixed}
use Rattle.el_base.specs.declared.outcomes.Outcome.{Outcome}
use Rattle.el_base.specs.declared.outcomes.Outcome.TheVariants.{Stalled, Missed, Ran, Began, Committed, RolledBack}
use Rattle.el_base.specs.declared.outcomes.Outcome.TheVariants.{Blocked}
use Rattle.chronicle.specs.Serial.{most_effects}
use Rattle.chronicle.specs.declared.tally.Tally.{Tally}

-- the tally of a hart of which there is nothing to say
abbrev pub nothing : Tally
nothing = record {
  ran = 0;
  began = 0;
  committed = 0;
  instr = 0;
  conflict = 0;
  room = 0;
  lines = 0;
  long = 0;
  call = 0;
  mixed = 0;
  missed = 0;
  stalled = 0;
  blocked = 0;
}

-- what an event of a hart's own counts for, by its outcome
abbrev pub of_outcome : Outcome → Tally
of_outcome Ran = record nothing { ran = 1 }
of_outcome Began = record nothing { began = 1 }
of_outcome (Committed count) = record nothing { committed = 1; instr = count }
of_outcome (RolledBack Room) = record nothing { room = 1 }
of_outcome (RolledBack Lines) = record nothing { lines = 1 }
of_outcome (RolledBack Long) = record nothing { long = 1 }
of_outcome (RolledBack Call) = record nothing { call = 1 }
of_outcome (RolledBack Mixed) = record nothing { mixed = 1 }
of_outcome (Missed _ _) = record nothing { missed = 1 }
of_outcome Stalled = record nothing { stalled = 1 }
of_outcome (Blocked _ _) = record nothing { blocked = 1 }
of_outcome _ = nothing

-- whether a section of this hart lost in an event of this outcome
abbrev pub has_lost : ℕ → Outcome → Bool
has_lost hart outcome = is_some (winner_over outcome hart)

-- what an event counts for in the tally of this hart, which may lose in events of any hart
unfoldable pub of_entry : ℕ → Entry → Tally
of_entry hart entry =
    record (if entry.event.hart.number == hart then of_outcome entry.outcome else nothing) {
      conflict = if has_lost hart entry.outcome then 1 else 0;
    }

-- one number of the tally of this hart, summed over these entries
abbrev pub total : (Tally → ℕ) → ℕ → List Entry → ℕ
total number hart entries = sum_by (λ entry. number (of_entry hart entry)) entries

-- what these entries say of a hart
unfoldable pub tally_of : ℕ → List Entry → Tally
tally_of hart entries = record {
  ran = total (λ tally. tally.ran) hart entries;
  began = total (λ tally. tally.began) hart entries;
  committed = total (λ tally. tally.committed) hart entries;
  instr = total (λ tally. tally.instr) hart entries;
  conflict = total (λ tally. tally.conflict) hart entries;
  room = total (λ tally. tally.room) hart entries;
  lines = total (λ tally. tally.lines) hart entries;
  long = total (λ tally. tally.long) hart entries;
  call = total (λ tally. tally.call) hart entries;
  mixed = total (λ tally. tally.mixed) hart entries;
  missed = total (λ tally. tally.missed) hart entries;
  stalled = total (λ tally. tally.stalled) hart entries;
  blocked = total (λ tally. tally.blocked) hart entries;
}

-- the tally of two parts of a history, by those of the parts
unfoldable pub plus : Tally → Tally → Tally
plus a b = record {
  ran = a.ran + b.ran;
  began = a.began + b.began;
  committed = a.committed + b.committed;
  instr = a.instr + b.instr;
  conflict = a.conflict + b.conflict;
  room = a.room + b.room;
  lines = a.lines + b.lines;
  long = a.long + b.long;
  call = a.call + b.call;
  mixed = a.mixed + b.mixed;
  missed = a.missed + b.missed;
  stalled = a.stalled + b.stalled;
  blocked = a.blocked + b.blocked;
}

-- the numbers of a tally, one a field
abbrev pub numbers : Tally → List ℕ
numbers tally =
    tally.ran ∷ tally.began ∷ tally.committed ∷ tally.instr ∷ tally.conflict ∷ tally.room ∷ tally.lines ∷ tally.long ∷
    tally.call ∷ tally.mixed ∷ tally.missed ∷ tally.stalled ∷ tally.blocked ∷ []

-- the numbers of two tallies can be added
unfoldable pub SumFits : Tally → Tally → Type 0
SumFits a b = IsTrue (list_all (λ number. nat_lt number (2 ^ 64)) (numbers (plus a b)))

-- the tally is one of so many events: none of its numbers is above what their commits can count
unfoldable pub IsTallyOf : ℕ → Tally → Type 0
IsTallyOf events tally = IsTrue (list_all (λ number. nat_le number (events * most_effects)) (numbers tally))
