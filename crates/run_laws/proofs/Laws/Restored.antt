-- a word that is put back leaves memory as it was
use Rattle.std.proofs.Common.{◌≡◌, ◌≤◌, ◌<◌, ◌+◌, ◌-◌, ◌*◌, ◌/◌, ◌%◌, ◌∙◌, ℕ, zero, suc, List, length, arith, ap, inl}
use Rattle.std.proofs.Common.{inr, ◌⊎◌}
use Rattle.std.specs.Prelude.{slice_index, slice_set}
use Rattle.std.proofs.lemmas.Bool.{cases_eq}
use Rattle.std.proofs.lemmas.List.{get_or-set_same, length-set}
use Rattle.rv_alu.specs.Loaded.{loaded}
use Rattle.rv_flat.proofs.Laws.PutBytes.{put_bytes-other}
use Rattle.rv_flat.specs.Memory.{AreBytes, byte_in, put_bytes}

-- the low byte of a number of bytes, and the others
low_byte : (byte rest : ℕ) → byte < 256 → (byte + 256 * rest) % 256 ≡ byte
low_byte byte rest small = omega arith

high_bytes : (byte rest : ℕ) → byte < 256 → (byte + 256 * rest) / 256 ≡ rest
high_bytes byte rest small = omega arith

-- the first byte, and those after it
put_first : (now before : List ℕ) (place n k byte rest : ℕ) → byte < 256 → byte ≡ slice_index before place →
    place < length now → place ≤ k →
    (place + 1 ≤ k → slice_index (put_bytes (slice_set now place ((byte + 256 * rest) % 256)) (place + 1) n rest) k
    ≡ slice_index before k) → (k ≡ place) ⊎ (k ≡ place → ⊥) →
    slice_index (put_bytes (slice_set now place ((byte + 256 * rest) % 256)) (place + 1) n ((byte + 256 * rest) / 256))
    k ≡ slice_index before k
put_first now before place n k byte rest small is there low later (inl same) =
    rw same
    (put_bytes-other (slice_set now place ((byte + 256 * rest) % 256)) (place + 1) n ((byte + 256 * rest) / 256) place
    (λ under over. omega arith)
    ∙ get_or-set_same now place ((byte + 256 * rest) % 256) 0 there ∙ low_byte byte rest small ∙ is)
put_first now before place n k byte rest small is there low later (inr apart) =
    ap (λ number. slice_index (put_bytes (slice_set now place ((byte + 256 * rest) % 256)) (place + 1) n number) k)
    (high_bytes byte rest small)
    ∙ later (omega arith)

-- what was loaded from a memory of bytes, put at the same place of another memory, is there as it was
pub put_back : (now before : List ℕ) (base from place n k : ℕ) → from ≡ base + place → AreBytes before →
    length now ≡ length before → place + n ≤ length now → place ≤ k → k < place + n →
    slice_index (put_bytes now place n (loaded (byte_in base before) from n)) k ≡ slice_index before k
put_back now before base from place zero k is bytes size inside low high = absurd (omega arith)
put_back now before base from place (suc n) k is bytes size inside low high =
    let byte : ℕ = byte_in base before from in
    let rest : ℕ = loaded (byte_in base before) (from + 1) n in
    let back : from - base ≡ place = omega arith in
    put_first now before place n k byte rest (bytes (from - base)) (ap (slice_index before) back) (omega arith) low
    (λ past.
    put_back (slice_set now place ((byte + 256 * rest) % 256)) before base (from + 1) (place + 1) n k
    (omega arith) bytes
    (length-set now place ((byte + 256 * rest) % 256) ∙ size)
    (omega (arith, length-set now place ((byte + 256 * rest) % 256))) past (omega arith))
    (cases_eq k place)
