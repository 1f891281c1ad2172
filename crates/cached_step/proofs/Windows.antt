-- bytes that are put, seen through so many bytes from a place on
use Rattle.std.proofs.Common.{◌≡◌, ◌∙◌, ℕ, zero, suc, ◌+◌, ◌-◌, ◌/◌, ◌%◌, ◌≤◌, ◌<◌, List, take, drop, ap, arith, refl}
use Rattle.std.specs.Prelude.{slice_set}
use Rattle.std.proofs.lemmas.List.{drop-set-add, drop-set-lt, take-set-le}
use Rattle.std.proofs.Math.Seq.{take-set-lt}
use Rattle.rv_flat.specs.Memory.{piece_of, put_bytes}

set-inside : (bytes : List ℕ) (from n i place byte : ℕ) → place ≡ from + i → i < n →
    piece_of (slice_set bytes place byte) from n ≡ slice_set (piece_of bytes from n) i byte
set-inside bytes from n i place byte is inside =
    ap (λ k. piece_of (slice_set bytes k byte) from n) is
    ∙ ap (take n) (drop-set-add from bytes i byte) ∙ take-set-lt n (drop from bytes) i byte inside

set-behind : (bytes : List ℕ) (from n place byte : ℕ) → from + n ≤ place →
    piece_of (slice_set bytes place byte) from n ≡ piece_of bytes from n
set-behind bytes from n place byte past =
    let is : place ≡ from + (place - from) = omega arith in
    ap (λ k. piece_of (slice_set bytes k byte) from n) is
    ∙ ap (take n) (drop-set-add from bytes (place - from) byte) ∙ take-set-le n (drop from bytes) (place - from)
    byte (omega arith)

set-before : (bytes : List ℕ) (from n place byte : ℕ) → place < from →
    piece_of (slice_set bytes place byte) from n ≡ piece_of bytes from n
set-before bytes from n place byte under = ap (take n) (drop-set-lt from bytes place byte under)

-- all of them are seen, or none
pub put-inside : (bytes : List ℕ) (from n i place len value : ℕ) → place ≡ from + i → i + len ≤ n →
    piece_of (put_bytes bytes place len value) from n ≡ put_bytes (piece_of bytes from n) i len value
put-inside bytes from n i place zero value is inside = refl
put-inside bytes from n i place (suc len) value is inside =
    put-inside (slice_set bytes place (value % 256)) from n (i + 1) (place + 1) len (value / 256)
    (omega arith) (omega arith)
    ∙ ap (λ w. put_bytes w (i + 1) len (value / 256)) (set-inside bytes from n i place (value % 256) is (omega arith))

pub put-behind : (bytes : List ℕ) (from n place len value : ℕ) → from + n ≤ place →
    piece_of (put_bytes bytes place len value) from n ≡ piece_of bytes from n
put-behind bytes from n place zero value past = refl
put-behind bytes from n place (suc len) value past =
    put-behind (slice_set bytes place (value % 256)) from n (place + 1) len (value / 256) (omega arith)
    ∙ set-behind bytes from n place (value % 256) past

pub put-before : (bytes : List ℕ) (from n place len value : ℕ) → place + len ≤ from →
    piece_of (put_bytes bytes place len value) from n ≡ piece_of bytes from n
put-before bytes from n place zero value under = refl
put-before bytes from n place (suc len) value under =
    put-before (slice_set bytes place (value % 256)) from n (place + 1) len (value / 256) (omega arith)
    ∙ set-before bytes from n place (value % 256) (omega arith)
