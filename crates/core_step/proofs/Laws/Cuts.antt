-- bytes cut out of a longer number
use Rattle.std.proofs.Common.{◌≡◌, ℕ, zero, suc, ◌+◌, ◌-◌, ◌*◌, ◌/◌, ◌%◌, ◌^◌, ◌≤◌, ◌<◌, ◌∙◌, inl, inr, ap, arith, lit<}
use Rattle.std.proofs.Common.{refl, sym}
use Rattle.std.proofs.Math.Arith.{mod-mul}
use Rattle.std.proofs.Math.Nat.{div-div-eq-div-mul, pow-suc}
use Rattle.rv_alu.specs.Footprint.{IsSize}
use Rattle.rv_alu.specs.Loaded.{loaded}
use Rattle.el_base.proofs.Laws.Tests.{pow_256_pos}

-- a shift by whole bytes
power : (place : ℕ) → place ≤ 4 → 2 ^ (8 * place) ≡ 256 ^ place
power zero h = refl
power (suc zero) h = refl
power (suc (suc zero)) h = refl
power (suc (suc (suc zero))) h = refl
power (suc (suc (suc (suc zero)))) h = refl
power (suc (suc (suc (suc (suc n))))) h = absurd (omega arith)

pub byte_shift : (shift place : ℕ) → place ≤ 4 → shift ≡ 8 * place → 2 ^ shift ≡ 256 ^ place
byte_shift shift place h is = ap (λ n. 2 ^ n) is ∙ power place h

-- bytes from an address on, so many
abbrev AreBytes : (ℕ → ℕ) → ℕ → ℕ → Type 0
AreBytes byte start n = (at : ℕ) → start ≤ at → at < start + n → byte at < 256

bytes-rest : (byte : ℕ → ℕ) (start n : ℕ) → AreBytes byte start (suc n) → AreBytes byte (start + 1) n
bytes-rest byte start n bytes at low high = bytes at (omega arith) (omega arith)

-- the low bytes of a longer number
loaded-low : (byte : ℕ → ℕ) (start len n : ℕ) → AreBytes byte start n → len ≤ n →
    loaded byte start n % 256 ^ len ≡ loaded byte start len
loaded-low byte start zero n bytes h = omega arith
loaded-low byte start (suc len) zero bytes h = absurd (omega arith)
loaded-low byte start (suc len) (suc n) bytes h =
    let first : byte start < 256 = bytes start (omega arith) (omega arith) in
    let rest : ℕ = loaded byte (start + 1) n in
    let low : rest % 256 ^ len ≡ loaded byte (start + 1) len =
    loaded-low byte (start + 1) len n (bytes-rest byte start n bytes) (omega arith) in
    let split : (byte start + 256 * rest) % (256 ^ len * 256) ≡ (byte start + 256 * rest) / 256 % 256 ^ len * 256
    + (byte start + 256 * rest) % 256 =
    mod-mul (byte start + 256 * rest) (pow_256_pos len) (lit< tt) in
    let over : (byte start + 256 * rest) / 256 ≡ rest = omega arith in
    let under : (byte start + 256 * rest) % 256 ≡ byte start = omega arith in
    ap (λ power. (byte start + 256 * rest) % power) (pow-suc 256 len) ∙ split
    ∙ ap (λ high. high % 256 ^ len * 256 + (byte start + 256 * rest) % 256) over
    ∙ ap (λ high. high * 256 + (byte start + 256 * rest) % 256) low ∙ omega (arith, under)

-- the high bytes
loaded-high : (byte : ℕ → ℕ) (start place m n : ℕ) → n ≡ place + m → AreBytes byte start n →
    loaded byte start n / 256 ^ place ≡ loaded byte (start + place) m
loaded-high byte start zero m n h bytes =
    let whole : loaded byte start n / 256 ^ zero ≡ loaded byte start n = omega arith in
    let same : n ≡ m = omega arith in
    let there : start + zero ≡ start = omega arith in
    whole ∙ ap (loaded byte start) same ∙ sym (ap (λ from. loaded byte from m) there)
loaded-high byte start (suc place) m zero h bytes = absurd (omega arith)
loaded-high byte start (suc place) m (suc n) h bytes =
    let first : byte start < 256 = bytes start (omega arith) (omega arith) in
    let rest : ℕ = loaded byte (start + 1) n in
    let over : (byte start + 256 * rest) / 256 ≡ rest = omega arith in
    let more : 256 ^ suc place ≡ 256 * 256 ^ place = rw pow-suc (omega arith) in
    let there : start + 1 + place ≡ start + suc place = omega arith in
    ap (λ power. (byte start + 256 * rest) / power) more
    ∙ sym (div-div-eq-div-mul (byte start + 256 * rest) 256 (256 ^ place)) ∙ ap (λ high. high / 256 ^ place) over
    ∙ loaded-high byte (start + 1) place m n (omega arith) (bytes-rest byte start n bytes)
    ∙ ap (λ from. loaded byte from m) there

-- what is loaded from a place in an aligned word
pub cut_loaded : (byte : ℕ → ℕ) (start place len address : ℕ) → place + len ≤ 4 → start + place ≡ address →
    ((at : ℕ) → start ≤ at → at < start + 4 → byte at < 256) →
    loaded byte start 4 / 256 ^ place % 256 ^ len ≡ loaded byte address len
cut_loaded byte start place len address inside is bytes =
    ap (λ high. high % 256 ^ len) (loaded-high byte start place (4 - place) 4 (omega arith) bytes)
    ∙ loaded-low byte (start + place) len (4 - place)
    (λ at low high. bytes at (omega arith) (omega arith)) (omega arith)
    ∙ ap (λ from. loaded byte from len) is

-- an aligned piece of such a size is inside of one aligned word
pub in_word : (address len : ℕ) → IsSize len → address % len ≡ 0 → address % 4 + len ≤ 4
in_word address len (inl one) h = rw one (omega arith)
in_word address len (inr (inl two)) h = let even : address % 2 ≡ 0 = rw two at h in rw two (omega arith)
in_word address len (inr (inr four)) h = let even : address % 4 ≡ 0 = rw four at h in rw four (omega arith)
