-- Eight bytes that were put into a line, merged ones among them, and the bytes of a merged word.
use Rattle.std.proofs.Common.{◌≡◌, ℕ, zero, suc, ◌+◌, ◌-◌, ◌/◌, ◌%◌, ◌^◌, ◌<◌, ◌≤◌, List, ◌++◌, drop, length, take}
use Rattle.std.proofs.Common.{slice_index, ap, sym, subst, ◌∙◌}
use Rattle.std.proofs.Common.{lit<, add-zero, arith}
use Rattle.std.specs.Int.{bit_at, byte_at, bytes_low_first, to_le_bytes, w64}
use Rattle.std.proofs.lemmas.Nat.{shr-shr}
use Rattle.std.proofs.lemmas.Grind.{common_steps}
use Rattle.line_lanes.specs.Lanes.{IsMergedFrom, IsPutAt}
use Rattle.line_lanes.specs.Merged.{merged_byte}
use Rattle.line_lanes.specs.Words.{word_at}
use Rattle.line_lanes.proofs.Bytes.{byte_below}

-- the bytes of a number, listed from one on
listed : (i n k x : ℕ) → k < n → slice_index (bytes_low_first i n x) k ≡ byte_at (i + k) x
listed i zero k x less = absurd (omega arith)
listed i (suc n) zero x less = let e : i ≡ i + 0 = omega arith in ap (λ j. byte_at j x) e
listed i (suc n) (suc k) x less =
    let e : suc i + k ≡ i + suc k = omega arith in listed (suc i) n k x (omega arith) ∙ ap (λ j. byte_at j x) e

byte_listed : (k x : ℕ) → k < 8 → slice_index (to_le_bytes w64 x) k ≡ byte_at k x
byte_listed k x less = let e : 0 + k ≡ k = omega arith in listed 0 8 k x less ∙ ap (λ j. byte_at j x) e

-- a list after eight numbers took the place of others
abbrev put_at : ℕ → List ℕ → List ℕ → List ℕ
put_at place bytes old = take place old ++ (bytes ++ drop (length bytes) (drop place old))

module _ (place : ℕ) (bytes old : List ℕ) (inside : place + length bytes ≤ length old) (k : ℕ) where
  put_below : k < place → slice_index (put_at place bytes old) k ≡ slice_index old k
  put_below below = grind (arith, common_steps)

  put_inside : k < length bytes → slice_index (put_at place bytes old) (place + k) ≡ slice_index bytes k
  put_inside within = grind (arith, common_steps)

  put_above : place + length bytes ≤ k → slice_index (put_at place bytes old) k ≡ slice_index old k
  put_above beyond = grind (arith, common_steps)

pub was_put : (place lane : ℕ) (bytes old new : List ℕ) → place + 8 ≤ length old → bytes ≡ to_le_bytes w64 lane
    → new ≡ take place old ++ (bytes ++ drop (place + 8 - place) (drop place old)) → IsPutAt place old new lane
was_put place lane bytes old new inside bytes_are new_is = record {
  here = λ k within.
      ap (λ l. slice_index l (place + k)) is ∙ put_inside place bytes old fits k (omega (arith, eight))
      ∙ ap (λ l. slice_index l k) bytes_are ∙ byte_listed k lane within;
  below = λ k below. ap (λ l. slice_index l k) is ∙ put_below place bytes old fits k below;
  above = λ k beyond. ap (λ l. slice_index l k) is ∙ put_above place bytes old fits k (omega (arith, eight));
}
  where
    eight : length bytes ≡ 8
    eight = ap length bytes_are

    fits : place + length bytes ≤ length old
    fits = omega (arith, eight)

    is : new ≡ put_at place bytes old
    is =
        let e : place + 8 - place ≡ length bytes = omega (arith, eight) in
        new_is ∙ ap (λ n. take place old ++ (bytes ++ drop n (drop place old))) e

pub bit_after : (mask place k : ℕ) → bit_at (mask / 2 ^ place) k ≡ bit_at mask (place + k)
bit_after mask place k = ap (λ n. n % 2) (shr-shr mask place k)

pub merged_from : (place mask lane : ℕ) (old new over : List ℕ) → IsPutAt place old new lane
    → ((k : ℕ) → k < 8 → byte_at k lane ≡ merged_byte old over mask (place + k)) → IsMergedFrom place old new over mask
merged_from place mask lane old new over put are = record {
  here = λ k past within. here (k - place) k (omega arith) (omega arith);
  below = put.below;
  above = put.above;
}
  where
    here : (j k : ℕ) → k ≡ place + j → j < 8 → slice_index new k ≡ merged_byte old over mask k
    here j k is less =
        ap (λ n. slice_index new n) is ∙ put.here j less ∙ are j less ∙ ap (λ n. merged_byte old over mask n) (sym is)

-- a word of bytes that are those from a place on
pub word_is : (lane word place : ℕ) (bytes : List ℕ) (byte : ℕ → ℕ) → word ≡ word_at (slice_index bytes) 0 →
    bytes ≡ to_le_bytes w64 lane
    → ((k : ℕ) → k < 4 → byte_at k lane ≡ byte (place + k)) → word ≡ word_at byte place
word_is lane word place bytes byte is bytes_are are =
    let first : byte (place + 0) ≡ byte place = ap byte (add-zero place) in
    is ∙ omega (arith, each 0 (lit< tt), first, each 1 (lit< tt), each 2 (lit< tt), each 3 (lit< tt))
  where
    each : (k : ℕ) → k < 4 → slice_index bytes k ≡ byte (place + k)
    each k less = ap (λ l. slice_index l k) bytes_are ∙ byte_listed k lane (omega arith) ∙ are k less

-- and they are bytes
pub bytes_fit : (byte : ℕ → ℕ) (lane offset : ℕ) → ((k : ℕ) → k < 4 → byte_at k lane ≡ byte (offset + k))
    → (place : ℕ) → offset ≤ place → place < offset + 4 → byte place < 256
bytes_fit byte lane offset are place past before = at (place - offset) (omega arith) (omega arith)
  where
    at : (k : ℕ) → k < 4 → place ≡ offset + k → byte place < 256
    at k less same = subst (λ n. n < 256) (are k less ∙ ap byte (sym same)) (byte_below k lane)

-- a byte of a word that was read
pub byte_read : (byte : ℕ → ℕ) (place k word : ℕ) → word ≡ word_at byte place
    → ((p : ℕ) → place ≤ p → p < place + 4 → byte p < 256) → k < 4 → byte_at k word ≡ byte (place + k)
byte_read byte place k word is small less = ap (byte_at k) is ∙ at k less
  where
    each : (j : ℕ) → j < 4 → byte (place + j) < 256
    each j before = small (place + j) (omega arith) (omega arith)

    first : byte (place + 0) ≡ byte place
    first = ap byte (add-zero place)

    at : (j : ℕ) → j < 4 → byte_at j (word_at byte place) ≡ byte (place + j)
    at zero before = omega (arith, first, each 0 (lit< tt))
    at (suc zero) before = omega (arith, first, each 0 (lit< tt), each 1 (lit< tt))
    at (suc (suc zero)) before = omega (arith, first, each 0 (lit< tt), each 1 (lit< tt), each 2 (lit< tt))
    at (suc (suc (suc zero))) before =
        omega (arith, first, each 0 (lit< tt), each 1 (lit< tt), each 2 (lit< tt), each 3 (lit< tt))
    at (suc (suc (suc (suc j)))) before = absurd (omega arith)
