-- Counting an event in the rows of all harts.
use Rattle.std.proofs.Common.{◌≡◌, ℕ, ◌+◌, ◌<◌, ◌≤◌, ◌==◌, Bool, true, false, List, length, set, None, refl, subst, sym}
use Rattle.std.proofs.Common.{◌∙◌, arith}
use Rattle.std.proofs.lemmas.Grind.{get_or-set_at}
use Rattle.std.proofs.lemmas.List.{get_or-set_other, length-set}
use Rattle.el_base.specs.Winners.{winner_over}
use Rattle.el_base.specs.declared.entries.Entry.{Entry}
use Rattle.el_base.proofs.Laws.Tests.{apart_by_test, number_of_test}
use Rattle.timetable.specs.Counting.{Follows, after_others}
use Rattle.timetable.specs.Rows.{no_row, row_at}
use Rattle.timetable.specs.Unsettled.{freed_by}
use Rattle.timetable.specs.declared.hart_times.HartTimes.{HartTimes}
use Rattle.timetable.proofs.Counting.{event_follows}

-- the event is counted in the rows of the first harts, and in no other
pub record CountedBelow (entry : Entry) (before now : List HartTimes) (number : ℕ) : Type 0 where
  pub places : length now ≡ 8
  pub counted : (h : ℕ) → h < number → Follows h entry (row_at before h) (row_at now h)
  pub rest : (h : ℕ) → number ≤ h → row_at now h ≡ row_at before h

pub none_counted : (entry : Entry) (rows : List HartTimes) → length rows ≡ 8 → CountedBelow entry rows rows 0
none_counted entry rows places = record {
  places = places;
  counted = λ h below. grind (arith, below);
  rest = λ h _. refl;
}

pub one_more_counted : (entry : Entry) (before now : List HartTimes) (number : ℕ) (new : HartTimes) → number < 8 →
    CountedBelow entry before now number → Follows number entry (row_at now number) new →
    CountedBelow entry before (set now number new) (number + 1)
one_more_counted entry before now number new small so_far follows = record {
  places = length-set now number new ∙ so_far.places;
  counted = λ h below. by h below (h == number) refl;
  rest =
      λ h above. get_or-set_other now number h new no_row (grind (arith, above)) ∙ so_far.rest h (omega (arith, above));
}
  where
    by : (h : ℕ) → h < number + 1 → (b : Bool) → (h == number) ≡ b →
        Follows h entry (row_at before h) (row_at (set now number new) h)
    by h below true e =
        let same = number_of_test h number e in
        subst (λ row. Follows h entry (row_at before h) row)
        (sym (get_or-set_at now number h new no_row same (omega (arith, small, so_far.places))))
        (subst (λ row. Follows h entry row new) (so_far.rest h (omega (arith, same)))
        (subst (λ n. Follows n entry (row_at now n) new) (sym same) follows))
    by h below false e =
        let other = apart_by_test h number e in
        subst (λ row. Follows h entry (row_at before h) row) (sym (get_or-set_other now number h new no_row other))
        (so_far.counted h (grind (arith, below, other)))

-- an event that concerns its own hart alone leaves the row of any other
stays : (h : ℕ) (entry : Entry) (row : HartTimes) → (entry.event.hart.number == h) ≡ false → length row.to ≡ 8 →
    winner_over entry.outcome h ≡ None → freed_by entry.outcome h ≡ 0 → Follows h entry row row
stays h entry row e places kept bound =
    subst (λ n. Follows h entry row (after_others row None n)) bound
    (event_follows h entry row false e places None kept)

pub own_counted : (entry : Entry) (rows : List HartTimes) (new : HartTimes) → entry.event.hart.number < length rows →
    ((h : ℕ) → h < 8 → length (row_at rows h).to ≡ 8) →
    ((h : ℕ) → winner_over entry.outcome h ≡ None) → ((h : ℕ) → freed_by entry.outcome h ≡ 0) →
    Follows entry.event.hart.number entry (row_at rows entry.event.hart.number) new →
    (h : ℕ) → h < 8 → Follows h entry (row_at rows h) (row_at (set rows entry.event.hart.number new) h)
own_counted entry rows new there places kept bound follows h below = by (entry.event.hart.number == h) refl
  where
    by : (b : Bool) → (entry.event.hart.number == h) ≡ b →
        Follows h entry (row_at rows h) (row_at (set rows entry.event.hart.number new) h)
    by true e =
        let same = number_of_test entry.event.hart.number h e in
        subst (λ row. Follows h entry (row_at rows h) row)
        (sym (get_or-set_at rows entry.event.hart.number h new no_row (sym same) there))
        (subst (λ n. Follows n entry (row_at rows n) new) same follows)
    by false e =
        let other = apart_by_test entry.event.hart.number h e in
        subst (λ row. Follows h entry (row_at rows h) row)
        (sym (get_or-set_other rows entry.event.hart.number h new no_row (λ same. other (sym same))))
        (stays h entry (row_at rows h) e (places h below) (kept h) (bound h))
