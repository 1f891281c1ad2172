-- Where a replay differs from what was recorded, by what a driver says of it.
use Rattle.std.proofs.Common.{◌≡◌, ◌∙◌, ◌<◌, ℕ, Bool, true, false, List, [], ◌++◌, length, nat_lt, Some, refl, ap, sym}
use Rattle.std.proofs.Common.{subst, arith}
use Rattle.std.specs.Prelude.{slice_get}
use Rattle.std.specs.Option.{option_map}
use Rattle.std.proofs.lemmas.Bool.{ltb-false, ltb-true}
use Rattle.std.proofs.lemmas.Option.{slice_get-map, slice_get_past}
use Rattle.std.proofs.lemmas.List.{length-map}
use Rattle.drive.specs.FirstDifference.{IsFirstDifference}
use Rattle.el_base.specs.declared.entries.Entry.{Entry}
use Rattle.el_base.specs.declared.events.Event.{Event}
use Rattle.el_base.specs.declared.outcomes.Outcome.{Outcome}
use Rattle.el_model.proofs.Laws.Folds.{length-outcomes_from, outcomes-entries_from}
use Rattle.el_model.specs.Next.{entries_from, outcomes_from}
use Rattle.drive.specs.Story.{Story, continued, state_of}
use Rattle.trace_file.specs.Spelling.{outcomes}
use Rattle.tool.specs.Differing.{IsDifference}
use Rattle.tool.specs.declared.difference.Difference.{Difference}

-- what comes of the events of a story that begins with them
found_is : (story : Story) (made : List Event) → story.entries ≡ [] →
    outcomes_from (state_of story) made ≡ outcomes (continued story made).entries
found_is story made new =
    sym (outcomes-entries_from (state_of story) made)
    ∙ ap (λ (before : List Entry). outcomes (before ++ entries_from (state_of story) made)) (sym new)

-- a first difference is within lists of one length
first_within : (recorded found : List Outcome) (place : ℕ) → length recorded ≡ length found →
    IsFirstDifference recorded found place → place < length recorded
first_within recorded found place same first = by (nat_lt place (length recorded)) refl
  where
    by : (inside : Bool) → nat_lt place (length recorded) ≡ inside → place < length recorded
    by true inside = ltb-true place (length recorded) inside
    by false past =
        let over = ltb-false place (length recorded) past in
        absurd (first.here
        (slice_get_past recorded place over ∙ sym (slice_get_past found place (omega (arith, over, same)))))

-- what follows of a driver's answer
pub record Differing (story later : Story) (recorded : List Outcome) (place : ℕ) : Type 0 where
  pub first : IsFirstDifference recorded (outcomes later.entries) place
  pub within : place < length recorded
  pub there : place < length later.entries

pub differing_at : (story later : Story) (made : List Event) (recorded : List Outcome) (place : ℕ) →
    story.entries ≡ [] → length recorded ≡ length made → later ≡ continued story made →
    IsFirstDifference recorded (outcomes_from (state_of story) made) place → Differing story later recorded place
differing_at story later made recorded place new one_each goes first =
    let found : outcomes_from (state_of story) made ≡ outcomes later.entries =
    found_is story made new ∙ ap (λ (one : Story). outcomes one.entries) (sym goes) in
    let many = length-outcomes_from (state_of story) made in
    let within =
    first_within recorded (outcomes_from (state_of story) made) place (omega (arith, one_each, many)) first in
    let as_many : length (outcomes_from (state_of story) made) ≡ length later.entries =
    ap length found ∙ length-map later.entries (λ entry. entry.outcome) in
    record {
      first = subst (λ (came : List Outcome). IsFirstDifference recorded came place) found first;
      within = within;
      there = omega (arith, within, one_each, many, as_many);
    }

pub none_differs : (story later : Story) (made : List Event) (recorded : List Outcome) → story.entries ≡ [] →
    later ≡ continued story made → recorded ≡ outcomes_from (state_of story) made → recorded ≡ outcomes later.entries
none_differs story later made recorded new goes same =
    same ∙ found_is story made new ∙ ap (λ (one : Story). outcomes one.entries) (sym goes)

-- the difference, with both outcomes
pub difference_is : (story later : Story) (recorded : List Outcome) (difference : Difference) (entry : Entry) →
    Differing story later recorded difference.place → slice_get recorded difference.place ≡ Some difference.recorded →
    slice_get later.entries difference.place ≡ Some entry → difference.found ≡ entry.outcome →
    IsDifference recorded (outcomes later.entries) difference
difference_is story later recorded difference entry differing recorded_there entry_there found = record {
  first = differing.first;
  recorded_there = recorded_there;
  found_there =
      slice_get-map (λ (one : Entry). one.outcome) later.entries difference.place
      ∙ ap (option_map (λ (one : Entry). one.outcome)) entry_there ∙ ap Some (sym found);
}
