-- What the entries of a hold find after each of the three things that are done to them, and that they go on to stand:
-- one is stored in, one comes, and one leaves.
use Rattle.std.proofs.Common.{◌≡◌, ◌≢◌, ℕ, ◌+◌, ◌<◌, ◌≤◌, ◌==◌, cond, Bool, true, false, List, [], ◌∷◌, ◌++◌, length}
use Rattle.std.proofs.Common.{get_or, set, Option, None, Some}
use Rattle.std.proofs.Common.{refl, ap, sym, ◌∙◌, arith}
use Rattle.std.specs.List.{count_by, find, position, remove}
use Rattle.std.proofs.lemmas.Bool.{eqb-true}
use Rattle.std.proofs.lemmas.Bool.Decides.{nat_tests}
use Rattle.std.proofs.lemmas.List.{length-append, length-set}
use Rattle.std.proofs.lemmas.List.Edits.{length-remove}
use Rattle.std.proofs.lemmas.List.Folds.{find-set, find_past}
use Rattle.std.proofs.lemmas.List.Quantifiers.{position-Some}
use Rattle.std.proofs.lemmas.List.Sums.{sum_by-append, sum_by-remove, sum_by-set, sum_by_push}
use Rattle.el_base.proofs.Laws.ListLaws.{find_by_no_position, place_by_position}
use Rattle.write_hold.specs.declared.entry.Entry as code
use Rattle.write_hold.specs.Entries.{HoldStands, number_of}
use Rattle.write_hold.proofs.Finds.{count_none_found, find_none_counted, find_pushed_other, find_pushed_same}
use Rattle.write_hold.proofs.Finds.{find_removed_other, found_at_position}

-- whether an entry is that of a line
abbrev pub is_of : ℕ → code.Entry → Bool
is_of line entry = number_of entry == line

-- the entry of a line
abbrev pub found : List code.Entry → ℕ → Option code.Entry
found entries line = find (is_of line) entries

-- it is of that line, and of no other one
its_line : (entry : code.Entry) (line : ℕ) → is_of line entry ≡ true → number_of entry ≡ line
its_line entry line is = eqb-true (number_of entry) line is

of_line : (entry : code.Entry) (line : ℕ) → number_of entry ≡ line → is_of line entry ≡ true
of_line entry line is = grind (arith, nat_tests)

of_no_other : (entry : code.Entry) (line l : ℕ) → number_of entry ≡ line → l ≢ line → is_of l entry ≡ false
of_no_other entry line l is other = grind (arith, nat_tests)

-- where an entry stands, as it is told of a list that is the same
pub place_told : (entries told : List code.Entry) (line : ℕ) (place answer : Option ℕ) → told ≡ entries →
    answer ≡ position (is_of line) told
    → answer ≡ place → position (is_of line) entries ≡ place
place_told entries told line place answer same is answered = ap (position (is_of line)) (sym same) ∙ sym is ∙ answered

-- what it counts for a line
abbrev weight : ℕ → code.Entry → ℕ
weight line entry = cond (is_of line entry) 1 0

-- what a look-up finds after something was done to one line
pub record Finds (old new : List code.Entry) (line : ℕ) (before after : Option code.Entry) : Type 0 where
  pub was : found old line ≡ before
  pub is : found new line ≡ after
  pub others : (l : ℕ) → l ≢ line → found new l ≡ found old l

-- an entry was stored in: it is read at a place, and stays that of its line
module _ (entries : List code.Entry) (line i : ℕ) (x y : code.Entry) (at : position (is_of line) entries ≡ Some i)
    (read : x ≡ get_or entries i x)
    (kept : y.line ≡ x.line) where
  within_set : i < length entries
  within_set = (place_by_position (is_of line) entries i at).1

  line_of_read : number_of (get_or entries i x) ≡ line
  line_of_read = its_line (get_or entries i x) line (position-Some (is_of line) entries i x at).1

  line_of_new : number_of y ≡ line
  line_of_new = ap (λ line. line.number) kept ∙ ap number_of read ∙ line_of_read

  pub finds_set : Finds entries (set entries i y) line (Some x) (Some y)
  finds_set = record {
    was = found_at_position (is_of line) entries i x at read;
    is =
        find-set (is_of line) entries i y (sym (place_by_position (is_of line) entries i at).0) within_set
        (of_line y line line_of_new);
    others = λ l other.
        find_past (is_of l) entries i y x (of_no_other (get_or entries i x) line l line_of_read other)
        (of_no_other y line l line_of_new other);
  }

  count_set : (l : ℕ) → count_by (is_of l) (set entries i y) ≡ count_by (is_of l) entries
  count_set l =
      let same : weight l y ≡ weight l (get_or entries i x) =
      ap (λ (n : ℕ). cond {A = ℕ} (n == l) 1 0) (line_of_new ∙ sym line_of_read) in
      omega (arith, same, sum_by-set (weight l) entries i y x within_set)

  pub stands_set : (limit room : ℕ) → HoldStands limit room entries → HoldStands limit room (set entries i y)
  stands_set limit room stands = record {
    few = omega (arith, stands.few, length-set entries i y);
    reserved = stands.reserved;
    once = λ l. omega (arith, count_set l, stands.once l);
  }

-- an entry came, of a line that had none
module _ (entries : List code.Entry) (line : ℕ) (y : code.Entry) (none : position (is_of line) entries ≡ None)
    (its : number_of y ≡ line) where
  pub finds_pushed : Finds entries (entries ++ y ∷ []) line None (Some y)
  finds_pushed = record {
    was = find_by_no_position (is_of line) entries none;
    is = find_pushed_same (is_of line) entries y (find_by_no_position (is_of line) entries none) (of_line y line its);
    others = λ l other. find_pushed_other (is_of l) entries y (of_no_other y line l its other);
  }

  count_pushed : (l : ℕ) → count_by (is_of l) entries ≤ 1 → count_by (is_of l) (entries ++ y ∷ []) ≤ 1
  count_pushed l once =
      step (is_of l y) refl (sum_by-append (weight l) entries (y ∷ []))
    where
      step : (own : Bool) → is_of l y ≡ own →
          count_by (is_of l) (entries ++ y ∷ []) ≡ count_by (is_of l) entries + (0 + cond own 1 0)
          → count_by (is_of l) (entries ++ y ∷ []) ≤ 1
      step true is sum =
          let same : line ≡ l = sym its ∙ its_line y l is in
          let zero : count_by (is_of l) entries ≡ 0 =
          ap (λ l. count_by (is_of l) entries) (sym same) ∙ count_none_found (is_of line) entries
          (find_by_no_position (is_of line) entries none) in
          omega arith
      step false is sum = omega arith

  pub stands_pushed : (limit room more : ℕ) → length entries < limit → room ≤ more → HoldStands limit room entries →
      HoldStands limit more (entries ++ y ∷ [])
  stands_pushed limit room more fits grows stands = record {
    few = omega (arith, length-append entries (y ∷ []));
    reserved = omega (arith, stands.reserved);
    once = λ l. count_pushed l (stands.once l);
  }

-- an entry left: it is read at a place
module _ (entries : List code.Entry) (line i : ℕ) (x : code.Entry) (at : position (is_of line) entries ≡ Some i)
    (read : x ≡ get_or entries i x) where
  within_removed : i < length entries
  within_removed = (place_by_position (is_of line) entries i at).1

  line_of_removed : number_of (get_or entries i x) ≡ line
  line_of_removed = its_line (get_or entries i x) line (position-Some (is_of line) entries i x at).1

  count_removed : (l : ℕ) → count_by (is_of l) (remove entries i) + weight l (get_or entries i x)
      ≡ count_by (is_of l) entries
  count_removed l = sum_by-remove (weight l) entries i x within_removed

  none_left : count_by (is_of line) entries ≤ 1 → count_by (is_of line) (remove entries i) ≡ 0
  none_left once =
      let one : weight line (get_or entries i x) ≡ 1 =
      ap (λ (own : Bool). cond {A = ℕ} own 1 0) (of_line (get_or entries i x) line line_of_removed) in
      omega (arith, count_removed line)

  pub finds_removed : count_by (is_of line) entries ≤ 1 → Finds entries (remove entries i) line (Some x) None
  finds_removed once = record {
    was = found_at_position (is_of line) entries i x at read;
    is = find_none_counted (is_of line) (remove entries i) (none_left once);
    others = λ l other.
        find_removed_other (is_of l) entries i x within_removed
        (of_no_other (get_or entries i x) line l line_of_removed other);
  }

  pub stands_removed : (limit room more : ℕ) → room ≤ more → HoldStands limit room entries →
      HoldStands limit more (remove entries i)
  stands_removed limit room more grows stands = record {
    few = omega (arith, stands.few, length-remove entries i within_removed);
    reserved = omega (arith, stands.reserved);
    once = λ l. omega (arith, count_removed l, stands.once l);
  }

-- the last entry left
pub stands_popped : (limit room more : ℕ) (entries rest : List code.Entry) (x : code.Entry) →
    entries ≡ rest ++ x ∷ [] → room ≤ more
    → HoldStands limit room entries → HoldStands limit more rest
stands_popped limit room more entries rest x is grows stands = record {
  few = omega (arith, stands.few, ap length is, length-append rest (x ∷ []));
  reserved = omega (arith, stands.reserved);
  once = λ l. omega (arith, stands.once l, ap (count_by (is_of l)) is, sum_by_push (weight l) rest x);
}
