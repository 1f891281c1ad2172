-- the bars of more and more pieces
use Rattle.std.proofs.Common.{◌≡◌, ◌∙◌, ◌==◌, ◌&&◌, ◌≢◌, ℕ, ◌+◌, ◌<◌, ◌≤◌, ◌^◌, Bool, true, false, cond, List, [], ◌∷◌}
use Rattle.std.proofs.Common.{◌++◌, get_or, length, refl}
use Rattle.std.proofs.Common.{ap, set, sym, subst, arith, get_or-set_same, get_or-set_other, length-set, replicate}
use Rattle.std.proofs.Common.{take}
use Rattle.std.specs.Prelude.{count_by, max, slice_index}
use Rattle.std.proofs.lemmas.Bool.Decides.{nat_tests}
use Rattle.std.proofs.lemmas.List.{get_or-replicate, length-replicate, length-take-le, take_more}
use Rattle.std.proofs.lemmas.List.Elements.{All-push, All-weaker}
use Rattle.std.proofs.lemmas.List.Sums.{count_by-le-length, sum_by_push}
use Rattle.std.proofs.lemmas.Bool.{and_right}
use Rattle.lab_page.specs.Bars.{AreBars, IsBarAt, bar_at, begins, begins_as, with_piece}
use Rattle.lab_page.specs.Kinds.{kind_number}
use Rattle.lab_page.specs.declared.bars.Bar.{Bar}
use Rattle.lab_page.specs.declared.kinds.Kind.{Kind}
use Rattle.lab_page.specs.declared.kinds.Kind.TheVariants.{Committed, Released, Lost, Room, Lines, Long, Call, Mixed}
use Rattle.lab_page.specs.declared.kinds.Kind.TheVariants.{Live, Waited, Served, Moved}
use Rattle.lab_page.specs.declared.pieces.Piece.{Piece}

abbrev flag : Bool → ℕ
flag b = cond b 1 0

counted_more : (hart column kind : ℕ) (pieces : List Piece) (piece : Piece) →
    count_by (begins_as hart column kind) (pieces ++ piece ∷ [])
    ≡ count_by (begins_as hart column kind) pieces + cond (begins_as hart column kind piece) 1 0
counted_more hart column kind pieces piece = sum_by_push (λ x. cond (begins_as hart column kind x) 1 0) pieces piece

-- the number of a kind is below the number of kinds
kind_small : (kind : Kind) → kind_number kind < 12
kind_small Committed = omega arith
kind_small Released = omega arith
kind_small Lost = omega arith
kind_small Room = omega arith
kind_small Lines = omega arith
kind_small Long = omega arith
kind_small Call = omega arith
kind_small Mixed = omega arith
kind_small Live = omega arith
kind_small Waited = omega arith
kind_small Served = omega arith
kind_small Moved = omega arith

-- a bar where the piece does not begin
bar_passed : (hart column : ℕ) (pieces : List Piece) (piece : Piece) (bar : Bar) → begins hart column piece ≡ false →
    IsBarAt hart column pieces bar → IsBarAt hart column (pieces ++ piece ∷ []) bar
bar_passed hart column pieces piece bar apart was = record {
  kinds = was.kinds;
  counted = λ kind small.
      let none : flag (begins_as hart column kind piece) ≡ 0 =
      ap (λ b. flag (b && (kind_number piece.kind == kind))) apart in
      omega (arith, was.counted kind small, counted_more hart column kind pieces piece, none);
  reaches =
      let Reaches : Piece → Type 0 = λ x. begins hart column x ≡ true → x.last ≤ bar.last in
      All-push Reaches pieces piece was.reaches (λ here. absurd (true_false (sym here ∙ apart)));
}
  where
    true_false : true ≡ false → ⊥
    true_false e = absurd cc

-- the bar where it begins
bar_put : (hart column : ℕ) (pieces : List Piece) (piece : Piece) (bar : Bar) → begins hart column piece ≡ true →
    IsBarAt hart column pieces bar → IsBarAt hart column (pieces ++ piece ∷ []) (with_piece bar piece)
bar_put hart column pieces piece bar begun was = record {
  kinds =
      length-set bar.counts (kind_number piece.kind) (slice_index bar.counts (kind_number piece.kind) + 1) ∙ was.kinds;
  counted = λ kind small. by kind small (kind_number piece.kind == kind) refl;
  reaches =
      let Before : Piece → Type 0 = λ x. begins hart column x ≡ true → x.last ≤ bar.last in
      let Reaches : Piece → Type 0 = λ x. begins hart column x ≡ true → x.last ≤ max bar.last piece.last in
      All-push Reaches pieces piece
      (All-weaker Before Reaches (λ x reaches e. further x.last (reaches e)) pieces was.reaches)
      (λ e. own);
}
  where
    further : (n : ℕ) → n ≤ bar.last → n ≤ max bar.last piece.last
    further n below = omega arith

    own : piece.last ≤ max bar.last piece.last
    own = omega arith

    within : kind_number piece.kind < length bar.counts
    within = omega (arith, kind_small piece.kind, was.kinds)

    by : (kind : ℕ) → kind < 12 → (b : Bool) → (kind_number piece.kind == kind) ≡ b →
        slice_index (with_piece bar piece).counts kind ≡ count_by (begins_as hart column kind) (pieces ++ piece ∷ [])
    by kind small true e =
        let same : kind_number piece.kind ≡ kind = grind (arith, nat_tests, e) in
        let one : flag (begins_as hart column kind piece) ≡ 1 =
        ap (λ b. flag (b && (kind_number piece.kind == kind))) begun ∙ ap flag e in
        let here : slice_index (with_piece bar piece).counts kind ≡ slice_index bar.counts kind + 1 =
        subst (λ k. slice_index (with_piece bar piece).counts k ≡ slice_index bar.counts k + 1) same
        (get_or-set_same bar.counts (kind_number piece.kind)
        (slice_index bar.counts (kind_number piece.kind) + 1) 0 within) in
        omega (arith, here, was.counted kind small, counted_more hart column kind pieces piece, one)
    by kind small false e =
        let other : kind ≢ kind_number piece.kind = grind (arith, nat_tests, e) in
        let none : flag (begins_as hart column kind piece) ≡ 0 =
        ap (λ b. flag (b && (kind_number piece.kind == kind))) begun ∙ ap flag e in
        let here : slice_index (with_piece bar piece).counts kind ≡ slice_index bar.counts kind =
        get_or-set_other bar.counts (kind_number piece.kind) kind
        (slice_index bar.counts (kind_number piece.kind) + 1) 0 other in
        omega (arith, here, was.counted kind small, counted_more hart column kind pieces piece, none)

-- the bars with a piece of the hart more
pub bars_put : (hart width : ℕ) (pieces : List Piece) (piece : Piece) (bars : List Bar) → piece.hart.number ≡ hart →
    piece.first < width → AreBars hart width pieces bars →
    AreBars hart width (pieces ++ piece ∷ []) (set bars piece.first (with_piece (bar_at bars piece.first) piece))
bars_put hart width pieces piece bars own inside was = record {
  columns = length-set bars piece.first (with_piece (bar_at bars piece.first) piece) ∙ was.columns;
  each = λ column below. by column below (piece.first == column) refl;
}
  where
    by : (column : ℕ) → column < width → (b : Bool) → (piece.first == column) ≡ b →
        IsBarAt hart column (pieces ++ piece ∷ [])
        (bar_at (set bars piece.first (with_piece (bar_at bars piece.first) piece)) column)
    by column below true e =
        let same : piece.first ≡ column = grind (arith, nat_tests, e) in
        let within : piece.first < length bars = omega (arith, inside, was.columns) in
        let begun : begins hart piece.first piece ≡ true = grind (arith, nat_tests, own) in
        subst (λ k. IsBarAt hart k (pieces ++ piece ∷ [])
        (bar_at (set bars piece.first (with_piece (bar_at bars piece.first) piece)) k)) same
        (subst (λ bar. IsBarAt hart piece.first (pieces ++ piece ∷ []) bar)
        (sym (get_or-set_same bars piece.first (with_piece (bar_at bars piece.first) piece)
        (record { last = 0; counts = [] }) within))
        (bar_put hart piece.first pieces piece (bar_at bars piece.first) begun (was.each piece.first inside)))
    by column below false e =
        let other : column ≢ piece.first = grind (arith, nat_tests, e) in
        let not_begun : begins hart column piece ≡ false =
        and_right (piece.hart.number == hart) (piece.first == column) e in
        subst (λ bar. IsBarAt hart column (pieces ++ piece ∷ []) bar)
        (sym (get_or-set_other bars piece.first column (with_piece (bar_at bars piece.first) piece)
        (record { last = 0; counts = [] }) other))
        (bar_passed hart column pieces piece (bar_at bars column) not_begun (was.each column below))

-- the bars with a piece that is not one of the hart, or begins past the last column
pub bars_passed : (hart width : ℕ) (pieces : List Piece) (piece : Piece) (bars : List Bar) →
    ((column : ℕ) → column < width → begins hart column piece ≡ false) → AreBars hart width pieces bars →
    AreBars hart width (pieces ++ piece ∷ []) bars
bars_passed hart width pieces piece bars none was = record {
  columns = was.columns;
  each =
      λ column below. bar_passed hart column pieces piece (bar_at bars column) (none column below)
      (was.each column below);
}

-- the bars of no piece
pub bars_none : (hart width : ℕ) →
    AreBars hart width [] (replicate width (record { last = 0; counts = replicate 12 0 }))
bars_none hart width = record {
  columns = length-replicate width (record { last = 0; counts = replicate 12 0 });
  each = λ column below.
      subst (λ bar. IsBarAt hart column [] bar)
      (sym (get_or-replicate width column (record { last = 0; counts = replicate 12 0 })
      (record { last = 0; counts = [] }) below))
      (none column);
}
  where
    none : (column : ℕ) → IsBarAt hart column [] (record { last = 0; counts = replicate 12 0 })
    none column = record {
      kinds = length-replicate {A = ℕ} 12 0;
      counted = λ kind small. get_or-replicate {A = ℕ} 12 kind 0 0 small;
      reaches = λ k d below. absurd (omega arith);
    }

-- one piece more in a list of all
pub bars_more : (hart width : ℕ) (pieces : List Piece) (place : ℕ) (none : Piece) (bars : List Bar) →
    place < length pieces → AreBars hart width (take place pieces ++ get_or pieces place none ∷ []) bars →
    AreBars hart width (take (place + 1) pieces) bars
bars_more hart width pieces place none bars inside are =
    subst (λ l. AreBars hart width l bars) (sym (take_more pieces place none inside)) are

-- a bar counts no more pieces than there were
pub count_fits : (hart width place : ℕ) (pieces : List Piece) (bars : List Bar) (column : ℕ) (kind : Kind) →
    place < length pieces → length pieces < 2 ^ 64 → AreBars hart width (take place pieces) bars →
    column < length bars → slice_index (bar_at bars column).counts (kind_number kind) + 1 < 2 ^ 64
count_fits hart width place pieces bars column kind inside fits are below =
    let within : column < width = omega (arith, below, are.columns) in
    let counted = (are.each column within).counted (kind_number kind) (kind_small kind) in
    let few = count_by-le-length (begins_as hart column (kind_number kind)) (take place pieces) in
    let taken : length (take place pieces) ≡ place = length-take-le place pieces (omega (arith, inside)) in
    omega (arith, counted, few, taken, inside, fits)

-- one piece of the hart more, by its place
pub piece_put : (hart width place : ℕ) (pieces : List Piece) (piece : Piece) (bars : List Bar) → place < length pieces →
    piece ≡ get_or pieces place piece → piece.hart.number ≡ hart → piece.first < length bars →
    AreBars hart width (take place pieces) bars →
    AreBars hart width (take (place + 1) pieces) (set bars piece.first (with_piece (bar_at bars piece.first) piece))
piece_put hart width place pieces piece bars inside here own below are =
    let now : List Bar = set bars piece.first (with_piece (bar_at bars piece.first) piece) in
    let column : piece.first < width = omega (arith, below, are.columns) in
    bars_more hart width pieces place piece now inside
    (subst (λ p. AreBars hart width (take place pieces ++ p ∷ []) now) here
    (bars_put hart width (take place pieces) piece bars own column are))

-- one piece more that is not the hart's, or begins past the last column
pub piece_passed : (hart width place : ℕ) (pieces : List Piece) (piece : Piece) (bars : List Bar) →
    place < length pieces → piece ≡ get_or pieces place piece →
    ((piece.hart.number ≡ hart) → piece.first < length bars → ⊥) → AreBars hart width (take place pieces) bars →
    AreBars hart width (take (place + 1) pieces) bars
piece_passed hart width place pieces piece bars inside here other are =
    bars_more hart width pieces place piece bars inside
    (subst (λ p. AreBars hart width (take place pieces ++ p ∷ []) bars) here
    (bars_passed hart width (take place pieces) piece bars
    (λ column below. none column below (piece.hart.number == hart) (piece.first == column) refl refl) are))
  where
    none : (column : ℕ) → column < width → (a b : Bool) → (piece.hart.number == hart) ≡ a →
        (piece.first == column) ≡ b → begins hart column piece ≡ false
    none column below true true p q =
        let own : piece.hart.number ≡ hart = grind (arith, nat_tests, p) in
        let first : piece.first ≡ column = grind (arith, nat_tests, q) in
        absurd (other own (omega (arith, first, below, are.columns)))
    none column below true false p q = and_right (piece.hart.number == hart) (piece.first == column) q
    none column below false b p q = ap (λ a. a && (piece.first == column)) p
