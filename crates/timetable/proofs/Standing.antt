-- A row beside the history that it was counted from.
use Rattle.std.proofs.Common.{◌≡◌, ℕ, ◌+◌, ◌<◌, ◌≤◌, ◌==◌, ◌&&◌, ◌||◌, Bool, true, false, cond, lit≤, List, [], ◌∷◌}
use Rattle.std.proofs.Common.{◌++◌, length, map, take}
use Rattle.std.proofs.Common.{take_all, get_or, Option, None, Some, refl, ap, subst, sym, ◌∙◌, arith}
use Rattle.std.specs.Prelude.{is_some, nat_lt, slice_get}
use Rattle.std.specs.List.{range_with_len}
use Rattle.std.proofs.lemmas.List.{ext_get_or, get_or-replicate}
use Rattle.std.proofs.lemmas.List.FromFn.{get_or-map-range_with_len, length-map-range_with_len}
use Rattle.std.proofs.lemmas.List.Sums.{sum_by_push}
use Rattle.chronicle.specs.Tally.{has_lost}
use Rattle.el_base.specs.Winners.{winner_over}
use Rattle.el_base.specs.declared.entries.Entry.{Entry}
use Rattle.el_base.specs.declared.outcomes.Outcome.{Outcome}
use Rattle.el_base.specs.declared.outcomes.Outcome.TheVariants.{Idle, Stalled, Missed, Ran, Began, Buffered}
use Rattle.el_base.specs.declared.outcomes.Outcome.TheVariants.{Committed, RolledBack, Ordered, Served, Blocked}
use Rattle.el_base.specs.declared.outcomes.Outcome.TheVariants.{Delivered, Armed, LetGo}
use Rattle.timetable.specs.Costs.{cost, units_at}
use Rattle.timetable.specs.Counting.{Follows, IsWithin, one_more_loss}
use Rattle.timetable.specs.Rows.{losses_at, no_losses, no_row, row_at}
use Rattle.timetable.specs.Table.{is_winner, losses_of, lost_below, row_of, table_of, times_of, units_of}
use Rattle.timetable.specs.Unsettled.{adds, ends_private, freed_by, settles, unsettled}
use Rattle.timetable.specs.declared.hart_times.HartTimes.{HartTimes}
use Rattle.timetable.specs.declared.hart_times.Losses.{Losses}
use Rattle.timetable.proofs.Summing.{lost_below_more, taken_more, unsettled_push}

-- the losses to a hart in the first places
abbrev losses_below : ℕ → List Entry → ℕ → ℕ → Losses
losses_below h entries place w =
    record { times = times_of h w (take place entries); instr = lost_below (is_winner w) h entries place }

-- a row says of a hart what the first places of a history do
pub record RowSays (h : ℕ) (entries : List Entry) (place : ℕ) (row : HartTimes) : Type 0 where
  pub units : row.units ≡ units_of h (take place entries)
  pub unsettled : row.unsettled ≡ unsettled h (take place entries)
  pub lost : row.lost ≡ lost_below is_some h entries place
  pub to : (w : ℕ) → w < 8 → losses_at row w ≡ losses_below h entries place w
  pub within : IsWithin place row

cost_small : (outcome : Outcome) → cost outcome ≤ 20
cost_small Idle = lit≤ tt
cost_small Stalled = lit≤ tt
cost_small (Missed _ _) = lit≤ tt
cost_small Ran = lit≤ tt
cost_small Began = lit≤ tt
cost_small Buffered = lit≤ tt
cost_small (Committed _) = lit≤ tt
cost_small (RolledBack _) = lit≤ tt
cost_small (Ordered _ _) = lit≤ tt
cost_small (Served _ _) = lit≤ tt
cost_small (Blocked _ _) = lit≤ tt
cost_small (Delivered _) = lit≤ tt
cost_small Armed = lit≤ tt
cost_small (LetGo _) = lit≤ tt

either_small : (own lost : Bool) (n : ℕ) → n ≤ 20 → cond own n 0 + cond lost 10 0 ≤ 30
either_small true true n small = omega (arith, small)
either_small true false n small = omega (arith, small)
either_small false true n small = lit≤ tt
either_small false false n small = lit≤ tt

units_small : (h : ℕ) (entry : Entry) → units_at h entry ≤ 30
unfolding units_at
units_small h entry =
    either_small (entry.event.hart.number == h) (has_lost h entry.outcome) (cost entry.outcome)
    (cost_small entry.outcome)

-- what is lost is settled by that
lost_small : (n lost unsettled : ℕ) (ended has_lost freed adds : Bool) → lost + unsettled ≤ n →
    lost + cond has_lost unsettled 0 + cond (ended || has_lost || freed) 0 (cond adds (unsettled + 1) unsettled) ≤ n + 1
lost_small n lost unsettled true true freed adds small = omega (arith, small)
lost_small n lost unsettled true false freed adds small = omega (arith, small)
lost_small n lost unsettled false true freed adds small = omega (arith, small)
lost_small n lost unsettled false false true adds small = omega (arith, small)
lost_small n lost unsettled false false false true small = omega (arith, small)
lost_small n lost unsettled false false false false small = omega (arith, small)

without_none : (a b most : ℕ) → a + 0 + b ≤ most → a + b ≤ most
without_none a b most small = omega (arith, small)

instr_small : (n w unsettled : ℕ) (losses : Losses) (ended freed adds : Bool) (winner : Option ℕ) →
    losses.instr + unsettled ≤ n → (cond (is_winner w winner) (one_more_loss unsettled losses) losses).instr
    + cond (ended || is_some winner || freed) 0 (cond adds (unsettled + 1) unsettled) ≤ n + 1
instr_small n w unsettled losses ended freed adds None small =
    without_none losses.instr _ (n + 1) (lost_small n losses.instr unsettled ended false freed adds small)
instr_small n w unsettled losses ended freed adds (Some winner) small = by (winner == w) ended
  where
    by : (b ended : Bool) → (cond b (one_more_loss unsettled losses) losses).instr
        + cond (ended || true || freed) 0 (cond adds (unsettled + 1) unsettled) ≤ n + 1
    by true ended = lost_small n losses.instr unsettled ended true freed adds small
    by false true = omega (arith, small)
    by false false = omega (arith, small)

times_small : (n : ℕ) (unsettled : ℕ) (losses : Losses) (b : Bool) → losses.times ≤ n →
    (cond b (one_more_loss unsettled losses) losses).times ≤ n + 1
times_small n unsettled losses true small = omega (arith, small)
times_small n unsettled losses false small = omega (arith, small)

within_more : (h n : ℕ) (entry : Entry) (old new : HartTimes) → IsWithin n old → Follows h entry old new →
    IsWithin (n + 1) new
within_more h n entry old new small more = record {
  units = omega (arith, more.units, units_small h entry, small.units);
  lost =
      rw more.lost
      (rw more.unsettled
      (lost_small n old.lost old.unsettled (entry.event.hart.number == h && ends_private entry.outcome)
      (has_lost h entry.outcome) (nat_lt 0 (freed_by entry.outcome h)) (adds h entry) small.lost));
  places = more.same_places ∙ small.places;
  times =
      λ w below. rw (more.to w below)
      (times_small n old.unsettled (losses_at old w) (is_winner w (winner_over entry.outcome h))
      (small.times w below));
  instr = λ w below. rw (more.to w below) (rw more.unsettled (instr_small n w old.unsettled (losses_at old w)
      (entry.event.hart.number == h && ends_private entry.outcome) (nat_lt 0 (freed_by entry.outcome h)) (adds h entry)
      (winner_over entry.outcome h) (small.instr w below)));
}

-- a row of fewer events
pub within_most : (n most : ℕ) (row : HartTimes) → n ≤ most → IsWithin n row → IsWithin most row
within_most n most row few small = record {
  units = omega (arith, few, small.units);
  lost = omega (arith, few, small.lost);
  places = small.places;
  times = λ w below. omega (arith, few, small.times w below);
  instr = λ w below. omega (arith, few, small.instr w below);
}

same_losses : (a b : Losses) → a.times ≡ b.times → a.instr ≡ b.instr → a ≡ b
same_losses a b times instr =
    ap (λ n. record { times = n; instr = a.instr }) times ∙ ap (λ n. record { times = b.times; instr = n }) instr

losses_more : (h w place : ℕ) (entries : List Entry) (entry : Entry) (b : Bool) (n : ℕ) →
    n ≡ unsettled h (take place entries) →
    times_of h w (take place entries ++ entry ∷ []) ≡ times_of h w (take place entries) + cond b 1 0 →
    lost_below (is_winner w) h entries (place + 1) ≡ lost_below (is_winner w) h entries place + cond b
    (unsettled h (take place entries)) 0 → take (place + 1) entries ≡ take place entries ++ entry ∷ [] →
    cond b (one_more_loss n (losses_below h entries place w)) (losses_below h entries place w)
    ≡ losses_below h entries (place + 1) w
losses_more h w place entries entry true n same times instr more =
    same_losses _ (losses_below h entries (place + 1) w) (sym (ap (λ l. times_of h w l) more ∙ times))
    (ap (λ m. lost_below (is_winner w) h entries place + m) same ∙ sym instr)
losses_more h w place entries entry false n same times instr more =
    same_losses _ (losses_below h entries (place + 1) w) (sym (ap (λ l. times_of h w l) more ∙ times ∙ (omega arith)))
    (sym (instr ∙ (omega arith)))

-- a row after one more place
pub stands_more : (h : ℕ) (entries : List Entry) (place : ℕ) (entry : Entry) (old new : HartTimes) →
    slice_get entries place ≡ Some entry → RowSays h entries place old → Follows h entry old new →
    RowSays h entries (place + 1) new
stands_more h entries place entry old new here so_far more = record {
  units =
      more.units ∙ ap (λ n. n + units_at h entry) so_far.units
      ∙ sym (sum_by_push (units_at h) (take place entries) entry)
      ∙ ap (λ l. units_of h l) (sym next);
  unsettled = more.unsettled ∙ ap (λ n. cond (settles h entry) 0 (cond (adds h entry) (n + 1) n)) so_far.unsettled
      ∙ sym (unsettled_push h (take place entries) entry) ∙ ap (λ l. unsettled h l) (sym next);
  lost = more.lost ∙ ap (λ n. n + cond (has_lost h entry.outcome) old.unsettled 0) so_far.lost
      ∙ ap (λ n. lost_below is_some h entries place + cond (has_lost h entry.outcome) n 0) so_far.unsettled
      ∙ sym (lost_below_more is_some h entries place entry here);
  to = λ w below. more.to w below
      ∙ ap (λ losses. cond (is_winner w (winner_over entry.outcome h)) (one_more_loss old.unsettled losses) losses)
      (so_far.to w below)
      ∙ losses_more h w place entries entry (is_winner w (winner_over entry.outcome h)) old.unsettled so_far.unsettled
      (sum_by_push (λ e. cond (is_winner w (winner_over e.outcome h)) 1 0) (take place entries) entry)
      (lost_below_more (is_winner w) h entries place entry here) next;
  within = within_more h place entry old new so_far.within more;
}
  where
    next : take (place + 1) entries ≡ take place entries ++ entry ∷ []
    next = taken_more entries place entry here

-- the row of no events
pub stands_at_first : (h : ℕ) (entries : List Entry) → RowSays h entries 0 (row_of h [])
unfolding row_of unsettled
stands_at_first h entries = record {
  units = refl;
  unsettled = refl;
  lost = refl;
  to = none;
  within = record {
    units = lit≤ tt;
    lost = lit≤ tt;
    places = refl;
    times = λ w below. rw (none w below) (lit≤ tt);
    instr = λ w below. rw (none w below) (lit≤ tt);
  };
}
  where
    none : (w : ℕ) → w < 8 → get_or (map (λ w. losses_of h w []) (range_with_len 0 8)) w no_losses ≡ no_losses
    none w below = get_or-map-range_with_len (λ w. losses_of h w []) 0 8 w w no_losses below (omega arith)

-- eight rows that are the same
pub first_rows : (row : HartTimes) (h : ℕ) → h < 8 → row_at (row ∷ row ∷ row ∷ row ∷ row ∷ row ∷ row ∷ row ∷ []) h ≡ row
first_rows row h small = get_or-replicate 8 h row no_row small

same_rows : (a b : HartTimes) → a.units ≡ b.units → a.unsettled ≡ b.unsettled → a.lost ≡ b.lost → a.to ≡ b.to → a ≡ b
same_rows a b units unsettled lost to =
    ap (λ n. record a { units = n }) units
    ∙ ap (λ n. record b { unsettled = n; lost = a.lost; to = a.to }) unsettled
    ∙ ap (λ n. record b { lost = n; to = a.to }) lost
    ∙ ap (λ l. record b { to = l }) to

row_stands : (h : ℕ) (entries : List Entry) (row : HartTimes) → RowSays h entries (length entries) row →
    row ≡ row_of h entries
unfolding row_of
row_stands h entries row stands =
    same_rows row (row_of h entries) (stands.units ∙ ap (λ l. units_of h l) all)
    (stands.unsettled ∙ ap (λ l. unsettled h l) all)
    stands.lost
    (ext_get_or no_losses row.to (map (λ w. losses_of h w entries) (range_with_len 0 8))
    (stands.within.places ∙ sym (length-map-range_with_len (λ w. losses_of h w entries) 0 8))
    (λ w below. stands.to w (within w below) ∙ same_losses _ (losses_of h w entries) (ap (λ l. times_of h w l) all) refl
    ∙ sym (get_or-map-range_with_len (λ w. losses_of h w entries) 0 8 w w no_losses (within w below) (omega arith))))
  where
    all : take (length entries) entries ≡ entries
    all = take_all (length entries) entries (omega arith)

    within : (w : ℕ) → w < length row.to → w < 8
    within w below = omega (arith, below, stands.within.places)

-- the rows after all places
pub table_stands : (entries : List Entry) (rows : List HartTimes) (place : ℕ) → place ≡ length entries →
    length rows ≡ 8 → ((h : ℕ) → h < 8 → RowSays h entries place (row_at rows h)) → rows ≡ table_of entries
unfolding table_of
table_stands entries rows place whole places stands =
    ext_get_or no_row rows (map (λ h. row_of h entries) (range_with_len 0 8))
    (places ∙ sym (length-map-range_with_len (λ h. row_of h entries) 0 8))
    (λ h below. row_stands h entries (row_at rows h)
    (subst (λ n. RowSays h entries n (row_at rows h)) whole (stands h (omega (arith, below, places))))
    ∙ sym (get_or-map-range_with_len (λ h. row_of h entries) 0 8 h h no_row
    (omega (arith, below, places)) (omega arith)))
