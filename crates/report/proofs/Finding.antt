-- Putting the places at which a hart comes to a pc, one after another.
use Rattle.std.proofs.Common.{◌≡◌, ◌≤◌, ◌-◌, ◌+◌, ℕ, List, [], ◌∷◌, ◌++◌, length, ap, subst, sym, ◌∙◌, append-nil}
use Rattle.std.proofs.Common.{append_assoc}
use Rattle.std.proofs.lemmas.Grind.{flat_map-append}
use Rattle.std.specs.List.{filter, flat_map, range_with_len}
use Rattle.report.proofs.Putting.{put_stopped, put_then_all, put_then_part, same_part}
use Rattle.report.specs.Line.{number_line}
use Rattle.report.specs.PlaceText.{found_text}
use Rattle.report.specs.Puts.{PutAll, PutPart, SinkState}
use Rattle.step_back.proofs.Laws.Places.{last_place, next_place, places_split, places_to}
use Rattle.step_back.specs.Standing.{HasNoNext, IsNext, Standing, comes_to}

module _ (standing : Standing) (hart pc : ℕ) where
  abbrev text_to : ℕ → List ℕ
  text_to place = flat_map number_line (places_to standing hart pc place)

  one_more : (place : ℕ) → IsNext standing hart pc place → text_to place ≡ text_to standing.place ++ number_line place
  one_more place next =
      ap (flat_map number_line) (next_place standing hart pc place next)
      ∙ flat_map-append number_line (places_to standing hart pc standing.place) (place ∷ [])
      ∙ ap (λ bytes. text_to standing.place ++ bytes) (append-nil (number_line place))

  pub put_next : (before between now : SinkState) (place : ℕ) → IsNext standing hart pc place →
      PutAll before between (flat_map number_line (places_to standing hart pc standing.place)) →
      PutAll between now (number_line place) →
      PutAll before now (flat_map number_line (places_to standing hart pc place))
  put_next before between now place next a b =
      subst (λ text. PutAll before now text) (sym (one_more place next))
      (put_then_all before between now (text_to standing.place) (number_line place) a b)

  abbrev rest_of : ℕ → List ℕ
  rest_of place =
      flat_map number_line
      (filter (comes_to standing.program standing.entries hart pc)
      (range_with_len (1 + place) (length standing.entries - place)))

  whole : (place : ℕ) → IsNext standing hart pc place →
      text_to standing.place ++ (number_line place ++ rest_of place)
      ≡ found_text standing.program standing.entries hart pc
  whole place next =
      sym (append_assoc (text_to standing.place) (number_line place) (rest_of place))
      ∙ ap (λ text. text ++ rest_of place) (sym (one_more place next))
      ∙ sym (flat_map-append number_line (places_to standing hart pc place) _)
      ∙ ap (flat_map number_line) (sym (places_split standing hart pc place next.within))

  pub put_failed : (before between now : SinkState) (place : ℕ) → IsNext standing hart pc place →
      PutAll before between (flat_map number_line (places_to standing hart pc standing.place)) →
      PutPart between now (number_line place) →
      PutPart before now (found_text standing.program standing.entries hart pc)
  put_failed before between now place next a b =
      same_part before now _ _ (whole place next)
      (put_then_part before between now (text_to standing.place) _ a
      (put_stopped between now (number_line place) (rest_of place) b))

  pub put_last : (before now : SinkState) → standing.place ≤ length standing.entries → HasNoNext standing hart pc →
      PutAll before now (flat_map number_line (places_to standing hart pc standing.place)) →
      PutAll before now (found_text standing.program standing.entries hart pc)
  put_last before now within none a =
      subst (λ text. PutAll before now text) (sym (ap (flat_map number_line) (last_place standing hart pc within none)))
      a

-- the same at the standings that a loop goes through
pub still_within : (standing next : Standing) (hart pc : ℕ) → next ≡ record standing { place = next.place } →
    IsNext standing hart pc next.place → next.place ≤ length next.entries
still_within standing next hart pc moved is =
    subst (λ (one : Standing). next.place ≤ length one.entries) (sym moved) is.within

module _ (first standing : Standing) (hart pc : ℕ) (same : standing ≡ record first { place = standing.place }) where
  pub all_told : (before now : SinkState) → standing.place ≤ length standing.entries → HasNoNext standing hart pc →
      PutAll before now (flat_map number_line (places_to standing hart pc standing.place)) →
      PutAll before now (found_text first.program first.entries hart pc)
  all_told before now within none put =
      subst (λ (one : Standing). PutAll before now (found_text one.program one.entries hart pc)) same
      (put_last standing hart pc before now within none put)

  module _ (next : Standing) (number : ℕ) (moved : next ≡ record standing { place = next.place })
      (is : IsNext standing hart pc next.place) (told : number ≡ next.place) (before between now : SinkState)
      (put : PutAll before between (flat_map number_line (places_to standing hart pc standing.place))) where
    pub one_told : PutAll between now (number_line number) →
        PutAll before now (flat_map number_line (places_to next hart pc next.place))
    one_told line =
        subst (λ (one : Standing). PutAll before now (flat_map number_line (places_to one hart pc next.place)))
        (sym moved)
        (put_next standing hart pc before between now next.place is put
        (subst (λ n. PutAll between now (number_line n)) told line))

    pub one_failed_to_be_told : PutPart between now (number_line number) →
        PutPart before now (found_text first.program first.entries hart pc)
    one_failed_to_be_told line =
        subst (λ (one : Standing). PutPart before now (found_text one.program one.entries hart pc)) same
        (put_failed standing hart pc before between now next.place is put
        (subst (λ n. PutPart between now (number_line n)) told line))
