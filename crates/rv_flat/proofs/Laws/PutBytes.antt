-- how bytes are put one after another
use Rattle.std.proofs.Common.{◌≡◌, ℕ, zero, suc, ◌+◌, ◌-◌, ◌*◌, ◌/◌, ◌%◌, ◌^◌, ◌≤◌, ◌<◌, ◌∙◌, List, ap, arith, lit<}
use Rattle.std.proofs.Common.{length, refl, sym}
use Rattle.std.specs.Prelude.{slice_index, slice_set}
use Rattle.std.proofs.lemmas.Grind.{common_steps}
use Rattle.std.proofs.lemmas.List.{get_or-set_other, get_or-set_same, length-set}
use Rattle.std.proofs.Math.Arith.{mod-mul}
use Rattle.std.proofs.Math.Nat.{div-div-eq-div-mul, pow-suc}
use Rattle.rv_alu.specs.Loaded.{loaded}
use Rattle.rv_flat.specs.Memory.{AreBytes, byte_in, put_bytes}
use Rattle.el_base.proofs.Laws.Tests.{pow_256_pos}

-- one byte less is to be put after the first one
pub put_bytes_more : (bytes : List ℕ) (place n m value : ℕ) → n ≡ suc m →
    put_bytes bytes place n value ≡ put_bytes (slice_set bytes place (value % 256)) (place + 1) m (value / 256)
put_bytes_more bytes place n m value h = rw h refl

pub length-put_bytes : (bytes : List ℕ) (place n value : ℕ) → length (put_bytes bytes place n value) ≡ length bytes
length-put_bytes bytes place zero value = refl
length-put_bytes bytes place (suc n) value =
    length-put_bytes (slice_set bytes place (value % 256)) (place + 1) n (value / 256)
    ∙ length-set bytes place (value % 256)

-- a byte at another place stays
pub put_bytes-other : (bytes : List ℕ) (place n value k : ℕ) → (place ≤ k → k < place + n → ⊥) →
    slice_index (put_bytes bytes place n value) k ≡ slice_index bytes k
put_bytes-other bytes place zero value k out = refl
put_bytes-other bytes place (suc n) value k out =
    put_bytes-other (slice_set bytes place (value % 256)) (place + 1) n (value / 256) k
    (λ low high. out (omega arith) (omega arith))
    ∙ get_or-set_other bytes place k (value % 256) 0 (λ e. out (omega arith) (omega arith))

set-same : (left right : List ℕ) (place value k : ℕ) → length left ≡ length right →
    slice_index left k ≡ slice_index right k →
    slice_index (slice_set left place value) k ≡ slice_index (slice_set right place value) k
set-same left right place value k same h = grind (arith, common_steps)

-- a byte that is the same in two lists is the same after both got the same bytes
pub put_bytes-same : (left right : List ℕ) (place n value k : ℕ) → length left ≡ length right →
    slice_index left k ≡ slice_index right k →
    slice_index (put_bytes left place n value) k ≡ slice_index (put_bytes right place n value) k
put_bytes-same left right place zero value k same h = h
put_bytes-same left right place (suc n) value k same h =
    put_bytes-same (slice_set left place (value % 256)) (slice_set right place (value % 256)) (place + 1)
    n (value / 256) k
    (length-set left place (value % 256) ∙ same ∙ sym (length-set right place (value % 256)))
    (set-same left right place (value % 256) k same h)

-- a byte of a number is that of its high bytes one place lower
byte_more : (value k : ℕ) → value / 256 / 256 ^ k % 256 ≡ value / 256 ^ suc k % 256
byte_more value k =
    let more : 256 ^ suc k ≡ 256 * 256 ^ k = rw pow-suc (omega arith) in
    ap (λ n. n % 256) (div-div-eq-div-mul value 256 (256 ^ k)) ∙ sym (ap (λ power. value / power % 256) more)

-- a byte that was put is the number's
pub put_bytes-here : (bytes : List ℕ) (place n value k at : ℕ) → place + n ≤ length bytes → k < n → at ≡ place + k →
    slice_index (put_bytes bytes place n value) at ≡ value / 256 ^ k % 256
put_bytes-here bytes place zero value k at inside below is = absurd (omega arith)
put_bytes-here bytes place (suc n) value zero at inside below is =
    let here : at ≡ place = omega arith in
    let first : value % 256 ≡ value / 256 ^ 0 % 256 = omega arith in
    put_bytes-other (slice_set bytes place (value % 256)) (place + 1) n (value / 256) at (λ low high. omega arith)
    ∙ ap (slice_index (slice_set bytes place (value % 256))) here
    ∙ get_or-set_same bytes place (value % 256) 0 (omega arith) ∙ first
put_bytes-here bytes place (suc n) value (suc k) at inside below is =
    put_bytes-here (slice_set bytes place (value % 256)) (place + 1) n (value / 256) k at
    (omega (arith, length-set bytes place (value % 256))) (omega arith) (omega arith)
    ∙ byte_more value k

-- bytes stay bytes
set-bytes : (bytes : List ℕ) (place value : ℕ) → AreBytes bytes → AreBytes (slice_set bytes place (value % 256))
set-bytes bytes place value h k = let here : slice_index bytes k < 256 = h k in grind (arith, common_steps)

pub put_bytes-bytes : (bytes : List ℕ) (place n value : ℕ) → AreBytes bytes → AreBytes (put_bytes bytes place n value)
put_bytes-bytes bytes place zero value h = h
put_bytes-bytes bytes place (suc n) value h =
    put_bytes-bytes (slice_set bytes place (value % 256)) (place + 1) n (value / 256) (set-bytes bytes place value h)

digits : (n value : ℕ) → value % 256 + 256 * (value / 256 % 256 ^ n) ≡ value % 256 ^ suc n
digits n value =
    let split : value % (256 ^ n * 256) ≡ value / 256 % 256 ^ n * 256 + value % 256 =
    mod-mul value (pow_256_pos n) (lit< tt) in
    rw pow-suc (omega arith)

-- what is loaded where a number was just put is the number's low bytes
pub loaded-put_bytes : (base : ℕ) (bytes : List ℕ) (from place n value : ℕ) → from ≡ base + place →
    place + n ≤ length bytes → loaded (byte_in base (put_bytes bytes place n value)) from n ≡ value % 256 ^ n
loaded-put_bytes base bytes from place zero value there inside = omega arith
loaded-put_bytes base bytes from place (suc n) value there inside =
    let first : List ℕ = slice_set bytes place (value % 256) in
    let all : List ℕ = put_bytes first (place + 1) n (value / 256) in
    let at : from - base ≡ place = omega arith in
    let here : place < length bytes = omega arith in
    let low : byte_in base all from ≡ value % 256 =
    ap (slice_index all) at
    ∙ put_bytes-other first (place + 1) n (value / 256) place (λ under over. omega arith)
    ∙ get_or-set_same bytes place (value % 256) 0 here in
    let high : loaded (byte_in base all) (from + 1) n ≡ value / 256 % 256 ^ n =
    loaded-put_bytes base first (from + 1) (place + 1) n (value / 256) (omega arith)
    (omega (arith, length-set bytes place (value % 256))) in
    ap (λ low. low + 256 * loaded (byte_in base all) (from + 1) n) low ∙ ap (λ high. value % 256 + 256 * high) high
    ∙ digits n value
