-- the rows of acquires
use Rattle.std.proofs.Common.{◌≡◌, ◌∙◌, ℕ, ◌+◌, ◌<◌, ◌≤◌, List, [], ◌∷◌, ◌++◌, ap, arith, get_or, length, subst, sym}
use Rattle.std.proofs.Common.{take}
use Rattle.std.specs.Prelude.{slice_index}
use Rattle.std.proofs.lemmas.List.{map-append, take_all, take_more}
use Rattle.lab.specs.LockRows.{AreLosses}
use Rattle.lab.specs.declared.lock_rows.AcquireCounts.{AcquireCounts}
use Rattle.lab.specs.declared.tries.Acquire.{Acquire}
use Rattle.lab.specs.declared.tries.Try.{Try}
use Rattle.lab_tables.proofs.Pushing.{each_pushed, there}
use Rattle.lab_tables.specs.LockCounts.{AreLossesBelow, AreLossesTo, ShowsEach}
use Rattle.lab_tables.specs.LockRows.{acquires_in, losses_at}
use Rattle.lab_tables.specs.declared.locks.LockRow.{LockRow}
use Rattle.lab_tables.specs.declared.locks.PlainRuns.{PlainRuns}

-- losses to one hart more
pub losses_pushed : (tries : List Try) (lists : List AcquireCounts) (counts : AcquireCounts) (hart : ℕ) →
    length lists ≡ hart → AreLosses hart tries counts.times → AreLossesBelow tries lists →
    AreLossesBelow tries (lists ++ counts ∷ [])
losses_pushed tries lists counts hart here are each =
    each_pushed (λ h c. AreLosses h tries c.times) lists counts each
    (λ n e. subst (λ h. AreLosses h tries counts.times) (sym here ∙ sym e) are)

-- what is shown of each is the number of losses
pub losses_shown : (tries : List Try) (lists : List AcquireCounts) (acquire : Acquire) (numbers : List ℕ) →
    AreLossesTo tries lists → ShowsEach lists acquire numbers →
    (hart : ℕ) → hart < 8 → slice_index numbers hart ≡ losses_at hart acquire tries
losses_shown tries lists acquire numbers are shows hart small =
    let within : hart < length lists = omega (arith, are.eight) in
    let found = there lists hart within in
    shows hart found.0 found.1 ∙ are.each hart found.0 found.1 acquire

-- plain runs by their reasons, in the order of the tests
abbrev pub plain_of : ℕ → ℕ → ℕ → ℕ → PlainRuns
plain_of a b c d = record { plain_mode = a; fallback = b; confidence = c; no_candidate = d }

pub runs_same : (a b c d e f g h : ℕ) → a ≡ e → b ≡ f → c ≡ g → d ≡ h →
    plain_of a b c d ≡ plain_of e f g h
runs_same a b c d e f g h p q r s =
    ap (λ n. plain_of n b c d) p ∙ ap (λ n. plain_of e n c d) q ∙ ap (λ n. plain_of e f n d) r
    ∙ ap (λ n. plain_of e f g n) s

-- one row more
pub rows_pushed : (rows : List LockRow) (acquires : List Acquire) (place : ℕ) (row : LockRow) (none : Acquire) →
    place < length acquires → row.acquire ≡ get_or acquires place none → acquires_in rows ≡ take place acquires →
    acquires_in (rows ++ row ∷ []) ≡ take (place + 1) acquires
rows_pushed rows acquires place row none inside here so_far =
    map-append (λ r. r.acquire) rows (row ∷ [])
    ∙ ap (λ l. l ++ row.acquire ∷ []) so_far
    ∙ ap (λ a. take place acquires ++ a ∷ []) here
    ∙ sym (take_more acquires place none inside)

-- when there is a row for each
pub rows_whole : (rows : List LockRow) (acquires : List Acquire) (place : ℕ) → length acquires ≤ place →
    acquires_in rows ≡ take place acquires → acquires_in rows ≡ acquires
rows_whole rows acquires place past so_far = so_far ∙ take_all place acquires past
