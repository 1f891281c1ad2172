-- a pass of a lock, and a value that is held, as contracts see them
use Rattle.std.specs.Prelude.{ℕ, ◌≡◌, ◌+◌, ◌≤◌, ◌⊎◌, Bool, true, false, List, [], ◌∷◌, ◌++◌, length, nat_eq, nat_lt}
use Rattle.std.specs.Prelude.{if◌then◌else◌}
use Rattle.atomic_table.specs.Seated.{TableId}
use Rattle.el_base.specs.declared.entries.Entry.{Entry}

-- what a pass knows: which lock it is of, the history that it has seen, which is an opening and a list of entries, the
-- places of the entries that were made under it, and its share, the lefts (false) and rights (true) by which it was
-- split from the whole
pub record Account : Type 0 where
  pub lock : TableId
  pub opening : List ℕ
  pub seen : List Entry
  pub places : List ℕ
  pub share : List Bool

-- a value that is out of its lock, with what the pass knows that holds it
pub record Holding (M : Type 0) : Type 0 where
  pub pass : Account
  pub value : M

-- 1 where a test is met, else 0
abbrev pub one_if : Bool → ℕ
one_if met = if met then 1 else 0

-- how often a place is in a list
abbrev pub times : ℕ → List ℕ → ℕ
times place [] = 0
times place (p ∷ places) = one_if (nat_eq p place) + times place places

-- 1 for each place below a length, else 0
abbrev pub below : ℕ → ℕ → ℕ
below place length = one_if (nat_lt place length)

-- each place from one length up to another is in the list exactly once, and no other place is
abbrev pub AreThePlaces : List ℕ → ℕ → ℕ → Type 0
AreThePlaces places begun ended = (place : ℕ) → times place places + below place begun ≡ below place ended

-- no place is in the list twice
abbrev pub AreDistinct : List ℕ → Type 0
AreDistinct places = (place : ℕ) → times place places ≤ 1

-- the entries go on from those that were seen by one entry, or by none
abbrev pub GoesOn : List Entry → List Entry → Type 0
GoesOn seen entries = (entries ≡ seen) ⊎ ((entry : Entry) × (entries ≡ seen ++ entry ∷ []))

-- the place of the entry that is new, if one is
abbrev pub place_of_new : List Entry → List Entry → List ℕ
place_of_new seen entries = if nat_lt (length seen) (length entries) then length seen ∷ [] else []

-- the account of the pass that gives the value back: it has seen these entries, with the place of the new one if there
-- is one
abbrev pub noted : Account → List Entry → Account
noted pass entries =
    record pass { seen = entries; places = pass.places ++ place_of_new pass.seen entries }

-- these are the two halves of one pass with this share
pub record AreHalves (share : List Bool) (left right : Account) : Type 0 where
  pub same_lock : left.lock ≡ right.lock
  pub left_share : left.share ≡ share ++ false ∷ []
  pub right_share : right.share ≡ share ++ true ∷ []

-- the longer of two lists, the first where they are equally long
abbrev pub longer : List Entry → List Entry → List Entry
longer left right = if nat_lt (length left) (length right) then right else left
