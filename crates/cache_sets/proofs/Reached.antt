-- The set of a line as a call reaches it, and the cache after the call put another set in its place.
use Rattle.std.proofs.Common.{◌≡◌, ℕ, ◌%◌, ◌≤◌, ◌<◌, List, [], length, get_or, vec_capacity, ap, sym, inl, inr, ◌∙◌}
use Rattle.std.proofs.Common.{arith}
use Rattle.std.specs.Prelude.{slice_set}
use Rattle.std.proofs.lemmas.Bool.{cases_eq}
use Rattle.std.proofs.lemmas.List.{get_or-map, get_or-set_other, get_or-set_same, length-map, length-set, map-set}
use Rattle.cache_sets.specs.declared.line.Line as code
use Rattle.cache_sets.specs.declared.set.Set.{Set}
use Rattle.residency.specs.Keyed.{count_of}
use Rattle.cache_sets.specs.Kept.{HasRoom, HaveRoom, CacheStands, lines_of, number_of, set_at, with_lines}
use Rattle.cache_sets.proofs.Shown.{once_at}

abbrev pub items_of : Set → List code.Line
items_of set = set.lines.items

pub record Reaches (sets : List Set) (line number : ℕ) (set : Set) : Type 0 where
  pub number_is : number ≡ line % length sets
  pub within : number < length sets
  pub read : set ≡ get_or sets number set

pub reached : {sets slice : List Set} {line number : ℕ} {set : Set} → slice ≡ sets → number ≡ line % length slice →
    number < length slice
    → set ≡ get_or sets number set → Reaches sets line number set
reached {sets} {slice} {line} {number} {set} same is within read = record {
  number_is = is ∙ ap (λ s. line % length s) same;
  within = omega (arith, within, ap length same);
  read = read;
}

module _ (sets : List Set) (line number : ℕ) (old : Set) (at : Reaches sets line number old) where
  place_is : number ≡ line % length (lines_of sets)
  place_is = at.number_is ∙ ap (λ n. line % n) (sym (length-map sets items_of))

  -- its lines
  pub lines-reached : old.lines.items ≡ set_at (lines_of sets) line
  lines-reached =
      ap items_of at.read ∙ sym (get_or-map items_of sets number old [] at.within)
      ∙ ap (λ n. get_or (lines_of sets) n []) place_is

  pub once-reached : (ways marks writes : ℕ) → CacheStands ways sets marks writes → (l : ℕ) →
      count_of number_of old.lines.items l ≤ 1
  once-reached ways marks writes stands l =
      omega (
        arith,
        once_at ways (lines_of sets) line l stands.sound.well_formed,
        ap (λ set. count_of number_of set l) lines-reached,
      )

  -- the lines of all sets after it changed
  pub lines-after : (new : Set) → lines_of (slice_set sets number new) ≡ with_lines (lines_of sets) line new.lines.items
  lines-after new = map-set items_of sets number new ∙ ap (λ n. slice_set (lines_of sets) n new.lines.items) place_is

  pub room-reached : (ways : ℕ) → HaveRoom ways sets → ways ≤ vec_capacity old.lines
  room-reached ways room = omega (arith, room number old at.within, ap (λ s. vec_capacity s.lines) at.read)

  pub room-after : (ways : ℕ) (new : Set) → HaveRoom ways sets → HasRoom old new →
      HaveRoom ways (slice_set sets number new)
  room-after ways new room same k d within = elim (cases_eq k number) [
    | inl here ↦
        omega (
          arith,
          room-reached ways room,
          same,
          ap (λ s. vec_capacity s.lines)
              (ap (λ n. get_or (slice_set sets number new) n d) here ∙ get_or-set_same sets number new d at.within),
        )
    | inr other ↦
        omega (
          arith,
          room k d (omega (arith, within, length-set sets number new)),
          ap (λ s. vec_capacity s.lines) (get_or-set_other sets number k new d other),
        )
  ]
