-- pieces drawn together
use Rattle.std.specs.Prelude.{ℕ, ◌≡◌, ◌<◌, ◌≤◌, ◌+◌, ◌==◌, ◌&&◌, All, Bool, true, List, [], count_by, length, max}
use Rattle.std.specs.Prelude.{slice_index, slice_index_or, slice_set}
use Rattle.lab_page.specs.Kinds.{kind_number}
use Rattle.lab_page.specs.declared.bars.Bar.{Bar}
use Rattle.lab_page.specs.declared.kinds.TheConstants.{KINDS}
use Rattle.lab_page.specs.declared.pieces.Piece.{Piece}

-- whether a piece is one of a hart that begins in a column
abbrev pub begins : ℕ → ℕ → Piece → Bool
begins hart column piece = (piece.hart.number == hart) && (piece.first == column)

-- and is of the kind of this number
abbrev pub begins_as : ℕ → ℕ → ℕ → Piece → Bool
begins_as hart column kind piece = begins hart column piece && (kind_number piece.kind == kind)

-- a bar counts each piece of a hart that begins in a column, by its kind, and reaches to its last column
pub record IsBarAt (hart column : ℕ) (pieces : List Piece) (bar : Bar) : Type 0 where
  pub kinds : length bar.counts ≡ KINDS
  pub counted : (kind : ℕ) → kind < KINDS → slice_index bar.counts kind ≡ count_by (begins_as hart column kind) pieces
  pub reaches : All (λ piece. begins hart column piece ≡ true → piece.last ≤ bar.last) pieces

-- a bar of a list; past its last one, a bar that counts nothing
abbrev pub bar_at : List Bar → ℕ → Bar
bar_at bars column = slice_index_or bars column (record { last = 0; counts = [] })

-- each column has its bar
pub record AreBars (hart width : ℕ) (pieces : List Piece) (bars : List Bar) : Type 0 where
  pub columns : length bars ≡ width
  pub each : (column : ℕ) → column < width → IsBarAt hart column pieces (bar_at bars column)

-- a bar with one piece more
abbrev pub with_piece : Bar → Piece → Bar
with_piece bar piece = record {
  last = max bar.last piece.last;
  counts = slice_set bar.counts (kind_number piece.kind) (slice_index bar.counts (kind_number piece.kind) + 1);
}
