-- What one event changes in the row of a hart.
use Rattle.std.proofs.Common.{◌≡◌, ◌≢◌, ℕ, ◌+◌, ◌<◌, ◌==◌, ◌&&◌, ◌||◌, Bool, true, false, cond, List, get_or, length}
use Rattle.std.proofs.Common.{Option, None, Some, refl, ap}
use Rattle.std.proofs.Common.{sym, ◌∙◌, arith}
use Rattle.std.specs.Prelude.{nat_lt}
use Rattle.std.proofs.lemmas.Bool.Decides.{nat_tests}
use Rattle.std.proofs.lemmas.Grind.{get_or-set_at}
use Rattle.std.proofs.lemmas.List.{get_or-set_other, length-set}
use Rattle.chronicle.specs.Tally.{has_lost}
use Rattle.el_base.specs.Winners.{winner_over}
use Rattle.el_base.specs.declared.entries.Entry.{Entry}
use Rattle.el_base.specs.declared.outcomes.Outcome.{Outcome}
use Rattle.el_base.specs.declared.outcomes.Outcome.TheVariants.{Idle, Stalled, Missed, Ran, Began, Buffered}
use Rattle.el_base.specs.declared.outcomes.Outcome.TheVariants.{Committed, RolledBack, Ordered, Served, Blocked}
use Rattle.el_base.specs.declared.outcomes.Outcome.TheVariants.{Delivered, Armed, LetGo}
use Rattle.timetable.specs.Costs.{units_at}
use Rattle.timetable.specs.Counting.{Follows, after_loss, after_others, after_own, one_more_loss}
use Rattle.timetable.specs.Rows.{losses_at, no_losses}
use Rattle.timetable.specs.Unsettled.{adds, ends_private, freed_by, settles}
use Rattle.timetable.specs.declared.hart_times.HartTimes.{HartTimes}
use Rattle.timetable.specs.declared.hart_times.Losses.{Losses}

-- where somebody lost, the event's own hart neither ran in private nor ended that
own_unsettled_stays : (row : HartTimes) (outcome : Outcome) (h winner : ℕ) → winner_over outcome h ≡ Some winner →
    (after_own row outcome).unsettled ≡ row.unsettled
own_unsettled_stays row Idle h winner lost = refl
own_unsettled_stays row Stalled h winner lost = refl
own_unsettled_stays row (Missed _ _) h winner lost = refl
own_unsettled_stays row Ran h winner lost = refl
own_unsettled_stays row Began h winner lost = grind (arith, lost)
own_unsettled_stays row Buffered h winner lost = grind (arith, lost)
own_unsettled_stays row (Committed _) h winner lost = grind (arith, lost)
own_unsettled_stays row (RolledBack _) h winner lost = grind (arith, lost)
own_unsettled_stays row (Ordered _ _) h winner lost = refl
own_unsettled_stays row (Served _ _) h winner lost = refl
own_unsettled_stays row (Blocked _ _) h winner lost = refl
own_unsettled_stays row (Delivered _) h winner lost = refl
own_unsettled_stays row Armed h winner lost = grind (arith, lost)
own_unsettled_stays row (LetGo _) h winner lost = grind (arith, lost)

-- the losses to each hart after one to this winner
lost_to : (row : HartTimes) (winner : ℕ) → length row.to ≡ 8 → (w : ℕ) → w < 8 → (b : Bool) → (winner == w) ≡ b →
    losses_at (after_loss row winner) w ≡ cond b (one_more_loss row.unsettled (losses_at row w)) (losses_at row w)
lost_to row winner places w small true e =
    let same : winner ≡ w = grind (arith, nat_tests) in
    get_or-set_at row.to winner w (one_more_loss row.unsettled (losses_at row winner)) no_losses (sym same)
    (omega (arith, same, places, small))
    ∙ ap (λ n. one_more_loss row.unsettled (losses_at row n)) same
lost_to row winner places w small false e =
    let other : w ≢ winner = grind (arith, nat_tests) in
    get_or-set_other row.to winner w (one_more_loss row.unsettled (losses_at row winner)) no_losses other

-- the row of a hart after its own part of an event, if it has one
abbrev pub after_any : (own : Bool) → HartTimes → Outcome → HartTimes
after_any true row outcome = after_own row outcome
after_any false row outcome = row

loss_follows : (h winner : ℕ) (entry : Entry) (old : HartTimes) (own : Bool) → (entry.event.hart.number == h) ≡ own →
    winner_over entry.outcome h ≡ Some winner → length old.to ≡ 8 →
    Follows h entry old (after_loss (after_any own old entry.outcome) winner)
unfolding units_at
loss_follows h winner entry old own e lost places = record {
  units = charged own e;
  unsettled = settled (entry.event.hart.number == h && ends_private entry.outcome) lost;
  lost = counted own lost;
  same_places = same own;
  to = λ w small. rw lost (beaten own w small);
}
  where
    stays : (own : Bool) → (after_any own old entry.outcome).unsettled ≡ old.unsettled
    stays true = own_unsettled_stays old entry.outcome h winner lost
    stays false = refl

    charged : (own : Bool) → (entry.event.hart.number == h) ≡ own →
        (after_any own old entry.outcome).units + 10 ≡ old.units + units_at h entry
    charged true e = grind (arith, e, lost)
    charged false e = grind (arith, e, lost)

    settled : (b : Bool) → winner_over entry.outcome h ≡ Some winner →
        0 ≡ cond (b || has_lost h entry.outcome || nat_lt 0 (freed_by entry.outcome h)) 0
        (cond (adds h entry) (old.unsettled + 1) old.unsettled)
    settled true lost = refl
    settled false lost = rw lost refl

    counted : (own : Bool) → winner_over entry.outcome h ≡ Some winner →
        (after_any own old entry.outcome).lost + (after_any own old entry.outcome).unsettled
        ≡ old.lost + cond (has_lost h entry.outcome) old.unsettled 0
    counted true lost = grind (arith, stays true, lost)
    counted false lost = grind (arith, lost)

    same : (own : Bool) → length (after_loss (after_any own old entry.outcome) winner).to ≡ length old.to
    same true = length-set old.to winner _
    same false = length-set old.to winner _

    beaten : (own : Bool) (w : ℕ) → w < 8 → losses_at (after_loss (after_any own old entry.outcome) winner) w
        ≡ cond (winner == w) (one_more_loss old.unsettled (losses_at old w)) (losses_at old w)
    beaten true w small = lost_to (after_own old entry.outcome) winner places w small (winner == w) refl
        ∙ ap (λ n. cond (winner == w) (one_more_loss n (losses_at old w)) (losses_at old w)) (stays true)
    beaten false w small = lost_to old winner places w small (winner == w) refl

-- an event in which the hart did not lose, with the test whether it was let go
rest_follows : (h : ℕ) (entry : Entry) (old : HartTimes) (own : Bool) → (entry.event.hart.number == h) ≡ own →
    winner_over entry.outcome h ≡ None →
    Follows h entry old (after_others (after_any own old entry.outcome) None (freed_by entry.outcome h))
unfolding units_at
rest_follows h entry old own e kept = by own e (nat_lt 0 (freed_by entry.outcome h)) refl
  where
    row : Bool → Bool → HartTimes
    row own freed =
        cond freed (record (after_any own old entry.outcome) { unsettled = 0 }) (after_any own old entry.outcome)

    charged : (own freed : Bool) → (entry.event.hart.number == h) ≡ own →
        (row own freed).units ≡ old.units + units_at h entry
    charged true true e = grind (arith, e, kept)
    charged true false e = grind (arith, e, kept)
    charged false true e = grind (arith, e, kept)
    charged false false e = grind (arith, e, kept)

    settled : (own freed : Bool) → (entry.event.hart.number == h) ≡ own → nat_lt 0 (freed_by entry.outcome h) ≡ freed →
        (row own freed).unsettled ≡ cond (settles h entry) 0 (cond (adds h entry) (old.unsettled + 1) old.unsettled)
    settled true true e f = grind (arith, e, f, kept)
    settled true false e f = grind (arith, e, f, kept)
    settled false true e f = grind (arith, e, f, kept)
    settled false false e f = grind (arith, e, f, kept)

    counted : (own freed : Bool) → (row own freed).lost ≡ old.lost
    counted true true = refl
    counted true false = refl
    counted false true = refl
    counted false false = refl

    same : (own freed : Bool) → (row own freed).to ≡ old.to
    same true true = refl
    same true false = refl
    same false true = refl
    same false false = refl

    by : (own : Bool) → (entry.event.hart.number == h) ≡ own → (freed : Bool) →
        nat_lt 0 (freed_by entry.outcome h) ≡ freed → Follows h entry old (row own freed)
    by own e freed f = record {
      units = charged own freed e;
      unsettled = settled own freed e f;
      lost = rw kept (counted own freed ∙ (omega arith));
      same_places = ap length (same own freed);
      to = λ w small. rw kept (ap (λ (l : List Losses). get_or l w no_losses) (same own freed));
    }

pub event_follows : (h : ℕ) (entry : Entry) (old : HartTimes) (own : Bool) → (entry.event.hart.number == h) ≡ own →
    length old.to ≡ 8 → (winner : Option ℕ) → winner_over entry.outcome h ≡ winner →
    Follows h entry old (after_others (after_any own old entry.outcome) winner (freed_by entry.outcome h))
event_follows h entry old own e places None kept = rest_follows h entry old own e kept
event_follows h entry old own e places (Some winner) lost = loss_follows h winner entry old own e lost places
