-- Pieces of a list of bytes.
use Rattle.std.proofs.Common.{◌≡◌, ℕ, zero, suc, ◌+◌, ◌*◌, ◌<◌, List, [], ◌∷◌, ◌++◌, length, map, get_or}
use Rattle.std.proofs.Common.{take, drop, refl, sym, ap, ◌∙◌, append_assoc, zero-add, add-one, arith}
use Rattle.std.specs.List.{flat_map, range_with_len}
use Rattle.std.proofs.Math.Seq.{drop-cons}
use Rattle.std.proofs.lemmas.List.{append-nil, drop-drop, drop-take, drop_at, take-append-drop, take-take}
use Rattle.std.proofs.lemmas.List.Concat.{flat_map-append}
use Rattle.std.proofs.lemmas.List.FromFn.{map-range_with_len_more}
use Rattle.std.proofs.lemmas.Bool.Decides.{nat_tests}
use Rattle.file_numbers.specs.Numbers.{number_at}
use Rattle.run_check.specs.Faults.{register_at}

pub take_sum : (m n : ℕ) (xs : List ℕ) → take (m + n) xs ≡ take m xs ++ take n (drop m xs)
take_sum m n xs =
    sym (take-append-drop m (take (m + n) xs))
    ∙ ap (λ (front : List ℕ). front ++ drop m (take (m + n) xs)) (take-take m (m + n) xs (omega arith))
    ∙ ap (λ (rest : List ℕ). take m xs ++ rest) (drop-take m n xs)

-- a piece and what follows it
pub split_at : (place len : ℕ) (file : List ℕ) → drop place file ≡ take len (drop place file) ++ drop (place + len) file
split_at place len file =
    sym (take-append-drop len (drop place file))
    ∙ ap (λ (rest : List ℕ). take len (drop place file) ++ rest) (drop-drop len place file)

-- two pieces side by side
pub piece_sum : (place m n : ℕ) (file : List ℕ) →
    take (m + n) (drop place file) ≡ take m (drop place file) ++ take n (drop (place + m) file)
piece_sum place m n file =
    take_sum m n (drop place file) ∙ ap (λ (rest : List ℕ). take m (drop place file) ++ take n rest)
    (drop-drop m place file)

pub byte_piece : (file : List ℕ) (place : ℕ) → place < length file → take 1 (drop place file) ≡ get_or file place 0 ∷ []
byte_piece file place within = ap (take 1) (drop-cons file place 0 within)

-- ---- items of one size

-- items whose bytes stand one after the other
pub items_piece : {X : Type 0} (bytes : X → List ℕ) (at : ℕ → X) (place size : ℕ) (file : List ℕ) (count : ℕ) →
    ((k : ℕ) → k < count → take size (drop (place + size * k) file) ≡ bytes (at k)) →
    take (size * count) (drop place file) ≡ flat_map bytes (map at (range_with_len 0 count))
items_piece bytes at place size file zero each = let none : size * 0 ≡ 0 = omega arith in rw none refl
items_piece {X} bytes at place size file (suc count) each =
    let sum : size * suc count ≡ size * count + size = omega arith in
    let before = items_piece bytes at place size file count (λ k within. each k (omega arith)) in
    let last : take size (drop (place + size * count) file) ≡ bytes (at count) = each count (omega arith) in
    let one : flat_map bytes (at count ∷ []) ≡ bytes (at count) = append-nil (bytes (at count)) in
    let more : map at (range_with_len 0 (count + 1)) ≡ map at (range_with_len 0 count) ++ at count ∷ [] =
    map-range_with_len_more at 0 count count (zero-add count) in
    let listed : flat_map bytes (map at (range_with_len 0 (suc count)))
    ≡ flat_map bytes (map at (range_with_len 0 count)) ++ bytes (at count) =
    ap (λ n. flat_map bytes (map at (range_with_len 0 n))) (sym (add-one count))
    ∙ ap (flat_map bytes) more
    ∙ flat_map-append bytes (map at (range_with_len 0 count)) (at count ∷ [])
    ∙ ap (λ (l : List ℕ). flat_map bytes (map at (range_with_len 0 count)) ++ l) one
    in
    ap (λ n. take n (drop place file)) sum
    ∙ piece_sum place (size * count) size file
    ∙ ap (λ (l : List ℕ). l ++ take size (drop (place + size * count) file)) before
    ∙ ap (λ (l : List ℕ). flat_map bytes (map at (range_with_len 0 count)) ++ l) last
    ∙ sym listed

-- behind so many items of one size stands the next one
pub item_behind : {X : Type 0} (bytes : X → List ℕ) (size : ℕ) (xs : List X) (rest : List ℕ) (k : ℕ) (d : X) →
    ((i : ℕ) → i < length xs → length (bytes (get_or xs i d)) ≡ size) → k < length xs →
    drop (size * k) (flat_map bytes xs ++ rest) ≡ bytes (get_or xs k d) ++ (flat_map bytes (drop (suc k) xs) ++ rest)
item_behind bytes size [] rest k d each within = absurd (omega arith)
item_behind bytes size (x ∷ xs) rest zero d each within =
    let none : size * 0 ≡ 0 = omega arith in
    rw none (append_assoc (bytes x) (flat_map bytes xs) rest)
item_behind bytes size (x ∷ xs) rest (suc k) d each within =
    let sum : size * suc k ≡ size + size * k = omega arith in
    let long : length (bytes x) ≡ size = each 0 (omega arith) in
    let whole : flat_map bytes (x ∷ xs) ++ rest ≡ bytes x ++ (flat_map bytes xs ++ rest) =
    append_assoc (bytes x) (flat_map bytes xs) rest in
    ap (λ n. drop n (flat_map bytes (x ∷ xs) ++ rest)) sum
    ∙ sym (drop-drop (size * k) size (flat_map bytes (x ∷ xs) ++ rest))
    ∙ ap (λ (l : List ℕ). drop (size * k) (drop size l)) whole
    ∙ ap (drop (size * k)) (drop_at (bytes x) (flat_map bytes xs ++ rest) size long)
    ∙ item_behind bytes size xs rest k d (λ i inside. each (suc i) (omega arith)) (omega arith)

-- behind all items stands what follows them
pub behind_all : {X : Type 0} (bytes : X → List ℕ) (size : ℕ) (xs : List X) (rest : List ℕ) (d : X) →
    ((i : ℕ) → i < length xs → length (bytes (get_or xs i d)) ≡ size) →
    drop (size * length xs) (flat_map bytes xs ++ rest) ≡ rest
behind_all bytes size [] rest d each = let none : size * 0 ≡ 0 = omega arith in rw none refl
behind_all bytes size (x ∷ xs) rest d each =
    let sum : size * suc (length xs) ≡ size + size * length xs = omega arith in
    let long : length (bytes x) ≡ size = each 0 (omega arith) in
    let whole : flat_map bytes (x ∷ xs) ++ rest ≡ bytes x ++ (flat_map bytes xs ++ rest) =
    append_assoc (bytes x) (flat_map bytes xs) rest in
    ap (λ n. drop n (flat_map bytes (x ∷ xs) ++ rest)) sum
    ∙ sym (drop-drop (size * length xs) size (flat_map bytes (x ∷ xs) ++ rest))
    ∙ ap (λ (l : List ℕ). drop (size * length xs) (drop size l)) whole
    ∙ ap (drop (size * length xs)) (drop_at (bytes x) (flat_map bytes xs ++ rest) size long)
    ∙ behind_all bytes size xs rest d (λ i inside. each (suc i) (omega arith))

-- a register but the first stands in its place
pub register_behind : (file : List ℕ) (place k : ℕ) →
    register_at file place (suc k) ≡ number_at file (place + 4 * suc k)
register_behind file place k = grind (arith, nat_tests)
