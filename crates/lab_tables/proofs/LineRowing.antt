-- the rows of lines
use Rattle.std.proofs.Common.{◌≡◌, ◌∙◌, ◌+◌, ◌<◌, ◌≤◌, ◌&&◌, ℕ, Bool, true, false, cond, List, [], ◌∷◌, ◌++◌, Some, ap}
use Rattle.std.proofs.Common.{arith, get_or, length, refl}
use Rattle.std.proofs.Common.{subst, sym, take}
use Rattle.std.specs.Prelude.{count_by, filter, slice_get}
use Rattle.std.specs.Global.{Vec}
use Rattle.std.proofs.lemmas.List.{map-append, take_all, take_more}
use Rattle.std.proofs.lemmas.List.Sums.{sum_by-cons}
use Rattle.std.proofs.Math.Bool.{and-false}
use Rattle.el_base.proofs.Laws.HartIds.{same_hart}
use Rattle.el_base.specs.declared.hart_id.HartId.{HartId}
use Rattle.el_base.specs.declared.line.LineAddr.{LineAddr}
use Rattle.lab.specs.LineRows.{AreCountsOf, counts_on, is_counted, is_on}
use Rattle.lab.specs.declared.line_rows.LineCount.TheVariants as counted
use Rattle.lab.specs.declared.line_rows.LineCounts.{LineCounts}
use Rattle.lab.specs.declared.lines.Fact.{Fact}
use Rattle.lab.specs.declared.lines.LineFact.{LineFact}
use Rattle.lab.specs.declared.lines.LineFact.TheVariants.{Lost}
use Rattle.lab_tables.proofs.Pushing.{each_pushed, there}
use Rattle.lab_tables.specs.LineCounts.{AreAllBeaten, AreAllBeatenBelow, AreBeatenBelow, AreBeatenBy, ShowsAll, is_loss}
use Rattle.lab_tables.specs.LineCounts.{is_lost}
use Rattle.lab_tables.specs.LineRows.{beats_in, lines_in}
use Rattle.lab_tables.specs.declared.lines.LineRow.{LineRow}

-- one loser more
pub beaten_pushed : (losses : List Fact) (winner : HartId) (lists : List LineCounts) (counts : LineCounts)
    (loser : HartId) → length lists ≡ loser.number → AreCountsOf (counted.Lost winner loser) losses counts →
    AreBeatenBelow losses winner lists → AreBeatenBelow losses winner (lists ++ counts ∷ [])
beaten_pushed losses winner lists counts loser here are each other found e =
    each_pushed (λ i c. (h : HartId) → h.number ≡ i → AreCountsOf (counted.Lost winner h) losses c) lists counts
    (λ i c f h same. each h c (subst (λ k. slice_get lists k ≡ Some c) (sym same) f))
    (λ n f h same. subst (λ k. AreCountsOf (counted.Lost winner k) losses counts)
    (same_hart loser h (sym here ∙ sym f ∙ sym same)) are)
    other.number found e other refl

-- one winner more
pub all_pushed : (losses : List Fact) (lists : List (Vec LineCounts)) (list : Vec LineCounts) (winner : HartId) →
    length lists ≡ winner.number → AreBeatenBy losses winner list.items → AreAllBeatenBelow losses lists →
    AreAllBeatenBelow losses (lists ++ list ∷ [])
all_pushed losses lists list winner here are each other found e =
    each_pushed (λ i c. (h : HartId) → h.number ≡ i → AreBeatenBy losses h c.items) lists list
    (λ i c f h same. each h c (subst (λ k. slice_get lists k ≡ Some c) (sym same) f))
    (λ n f h same. subst (λ k. AreBeatenBy losses k list.items) (same_hart winner h (sym here ∙ sym f ∙ sym same)) are)
    other.number found e other refl

-- only facts that tell of losses are counted as losses
not_counted : (winner loser : HartId) (what : LineFact) → is_lost what ≡ false →
    is_counted (counted.Lost winner loser) what ≡ false
not_counted winner loser (Lost by of) e = absurd cc
not_counted winner loser _ e = refl

counts_of_losses : (winner loser : HartId) (line : ℕ) (facts : List Fact) →
    count_by (counts_on (counted.Lost winner loser) line) (filter is_loss facts)
    ≡ count_by (counts_on (counted.Lost winner loser) line) facts
counts_of_losses winner loser line [] = refl
counts_of_losses winner loser line (fact ∷ facts) = by (is_loss fact) refl (counts_of_losses winner loser line facts)
  where
    by : (b : Bool) → is_loss fact ≡ b →
        count_by (counts_on (counted.Lost winner loser) line) (filter is_loss facts)
        ≡ count_by (counts_on (counted.Lost winner loser) line) facts →
        count_by (counts_on (counted.Lost winner loser) line)
        (cond b (fact ∷ filter is_loss facts) (filter is_loss facts))
        ≡ count_by (counts_on (counted.Lost winner loser) line) (fact ∷ facts)
    by true e rest =
        let f : Fact → ℕ = λ x. cond (counts_on (counted.Lost winner loser) line x) 1 0 in
        omega (arith, sum_by-cons f fact (filter is_loss facts), sum_by-cons f fact facts, rest)
    by false e rest =
        let f : Fact → ℕ = λ x. cond (counts_on (counted.Lost winner loser) line x) 1 0 in
        let no : f fact ≡ 0 =
        ap (λ b. cond (is_on line fact && b) 1 0) (not_counted winner loser fact.what e)
        ∙ ap (λ b. cond b 1 0) (and-false (is_on line fact)) in
        omega (arith, sum_by-cons f fact facts, no, rest)

-- what is shown of all is how often one hart beat another
pub beats_shown : (facts : List Fact) (lists : List (Vec LineCounts)) (line : ℕ) (beats : List (List ℕ)) →
    AreAllBeaten (filter is_loss facts) lists → ShowsAll lists line beats → (winner loser : HartId) →
    beats_in beats winner.number loser.number ≡ count_by (counts_on (counted.Lost winner loser) line) facts
beats_shown facts lists line beats are shows winner loser =
    let within : winner.number < length lists = omega (arith, are.eight, winner.small) in
    let found = there lists winner.number within in
    let by_winner = are.each winner found.0 found.1 in
    let inside : loser.number < length found.0.items = omega (arith, by_winner.eight, loser.small) in
    let of_loser = there found.0.items loser.number inside in
    shows winner.number loser.number found.0 of_loser.0 found.1 of_loser.1
    ∙ by_winner.each loser of_loser.0 of_loser.1 line
    ∙ counts_of_losses winner loser line facts

-- one row more
pub rows_pushed : (rows : List LineRow) (lines : List LineAddr) (place : ℕ) (row : LineRow) (line : LineAddr) →
    place < length lines → line ≡ get_or lines place line → row.line ≡ line → lines_in rows ≡ take place lines →
    lines_in (rows ++ row ∷ []) ≡ take (place + 1) lines
rows_pushed rows lines place row line inside here same so_far =
    map-append (λ r. r.line) rows (row ∷ [])
    ∙ ap (λ l. l ++ row.line ∷ []) so_far
    ∙ ap (λ l. take place lines ++ l ∷ []) (same ∙ here)
    ∙ sym (take_more lines place line inside)

-- when there is a row for each
pub rows_whole : (rows : List LineRow) (lines : List LineAddr) (place : ℕ) → length lines ≤ place →
    lines_in rows ≡ take place lines → lines_in rows ≡ lines
rows_whole rows lines place past so_far = so_far ∙ take_all place lines past
