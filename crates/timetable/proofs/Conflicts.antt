-- The losses of a hart to all harts together are the conflicts of its tally.
use Rattle.std.proofs.Common.{◌≡◌, ℕ, ◌+◌, ◌≤◌, cond, zero, suc, List, [], ◌∷◌, map, Option, refl, ap, sym, ◌∙◌, arith}
use Rattle.std.specs.Prelude.{is_some, sum, sum_by}
use Rattle.std.specs.List.{range_with_len}
use Rattle.std.proofs.lemmas.Bool.Decides.{nat_tests}
use Rattle.std.proofs.lemmas.List.Sums.{sum_by-cons}
use Rattle.chronicle.specs.Tally.{has_lost, of_entry, tally_of}
use Rattle.el_base.specs.Losers.{decoded_winner}
use Rattle.el_base.specs.Nibbles.{nibble_of}
use Rattle.el_base.specs.Winners.{winner_over}
use Rattle.el_base.specs.declared.entries.Entry.{Entry}
use Rattle.el_base.specs.declared.outcomes.Outcome.{Outcome}
use Rattle.el_base.specs.declared.outcomes.Outcome.TheVariants.{Idle, Stalled, Missed, Ran, Began, Buffered}
use Rattle.el_base.specs.declared.outcomes.Outcome.TheVariants.{Committed, RolledBack, Ordered, Served, Blocked}
use Rattle.el_base.specs.declared.outcomes.Outcome.TheVariants.{Delivered, Armed, LetGo}
use Rattle.timetable.specs.Table.{is_winner, times_of}

-- how many of the eight harts a winner is
abbrev winners : Option ℕ → ℕ
winners winner = sum (map (λ w. cond (is_winner w winner) 1 0) (range_with_len 0 8))

one_of_eight : (code : ℕ) → code ≤ 8 → winners (decoded_winner code) ≡ cond (is_some (decoded_winner code)) 1 0
one_of_eight zero small = refl
one_of_eight (suc winner) small = grind (arith, nat_tests, small)

one_winner : (outcome : Outcome) (h : ℕ) → winners (winner_over outcome h) ≡ cond (has_lost h outcome) 1 0
one_winner Idle h = refl
one_winner Stalled h = refl
one_winner (Missed _ _) h = refl
one_winner Ran h = refl
one_winner Began h = refl
one_winner Buffered h = refl
one_winner (Committed _) h = refl
one_winner (RolledBack _) h = refl
one_winner (Ordered losers _) h = one_of_eight (nibble_of losers.winners h) (losers.winners_are_harts h)
one_winner (Served losers _) h = one_of_eight (nibble_of losers.winners h) (losers.winners_are_harts h)
one_winner (Blocked _ _) h = refl
one_winner (Delivered losers) h = one_of_eight (nibble_of losers.winners h) (losers.winners_are_harts h)
one_winner Armed h = refl
one_winner (LetGo _) h = refl

-- sums of eight numbers each
abbrev eight : (ℕ → ℕ) → ℕ
eight f = sum (map f (range_with_len 0 8))

eight_more : (f g whole : ℕ → ℕ) → ((w : ℕ) → whole w ≡ f w + g w) → eight whole ≡ eight f + eight g
eight_more f g whole each =
    omega (arith, each 0, each 1, each 2, each 3, each 4, each 5, each 6, each 7)

all_losses : (h : ℕ) (entries : List Entry) →
    eight (λ w. times_of h w entries) ≡ sum_by (λ entry. cond (has_lost h entry.outcome) 1 0) entries
all_losses h [] = refl
all_losses h (entry ∷ entries) =
    eight_more (λ w. cond (is_winner w (winner_over entry.outcome h)) 1 0) (λ w. times_of h w entries)
    (λ w. times_of h w (entry ∷ entries))
    (λ w. sum_by-cons (λ e. cond (is_winner w (winner_over e.outcome h)) 1 0) entry entries)
    ∙ ap (λ n. n + eight (λ w. times_of h w entries)) (one_winner entry.outcome h)
    ∙ ap (λ n. cond (has_lost h entry.outcome) 1 0 + n) (all_losses h entries)
    ∙ sym (sum_by-cons (λ e. cond (has_lost h e.outcome) 1 0) entry entries)

pub losses_are_conflicts : (h : ℕ) (entries : List Entry) →
    sum (map (λ w. times_of h w entries) (range_with_len 0 8)) ≡ (tally_of h entries).conflict
unfolding tally_of of_entry
losses_are_conflicts h entries = all_losses h entries
