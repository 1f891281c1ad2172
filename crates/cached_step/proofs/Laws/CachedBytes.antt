-- bytes in a cache, and what a store makes of them
use Rattle.std.proofs.Common.{◌≡◌, ◌∙◌, ◌⊎◌, ℕ, ◌+◌, ◌-◌, ◌%◌, ◌≤◌, ◌<◌, Bool, true, false, inl, inr, List, [], ◌∷◌}
use Rattle.std.proofs.Common.{length, Option, None, Some, is_some}
use Rattle.std.proofs.Common.{option_map, ap, arith, refl, sym, subst}
use Rattle.std.specs.Option.{option_map_or}
use Rattle.std.specs.Prelude.{◌==◌, if◌then◌else◌, slice_index}
use Rattle.std.proofs.lemmas.Bool.{cases_eq, cases_lt}
use Rattle.residency.specs.Cache.{is_resident, way_of}
use Rattle.cache_sets.specs.Cached.{Cached, Copy, bytes_in, bytes_of, cached_byte, copy_in, copy_with_bytes, with_bytes}
use Rattle.cache_sets.specs.Calls.{IsWritten}
use Rattle.residency.specs.Residency.{Way, way_in}
use Rattle.coherence.proofs.Laws.Owners.{copy_is}
use Rattle.core_step.specs.Port.{stored}
use Rattle.core_step.proofs.Laws.Cuts.{in_word}
use Rattle.core_step.proofs.Laws.Bytes.{stored_inside, stored_outside}
use Rattle.el_base.specs.Line.{line_number}
use Rattle.el_base.specs.declared.line.TheConstants.{LINE_BYTES}
use Rattle.rv_alu.specs.Footprint.{IsSize}
use Rattle.rv_flat.specs.Memory.{put_bytes}
use Rattle.rv_flat.proofs.Laws.PutBytes.{put_bytes-here, put_bytes-other}
use Rattle.cached_step.specs.CacheRun.{PutsIn, line_after}

-- a line that is not there has no bytes
not_here : (b : Bool) (way : Way) (other : Option Way) (bytes rest : List ℕ) → (is_some other ≡ false → rest ≡ []) →
    is_some (if b then Some way else other) ≡ false → (if b then bytes else rest) ≡ []
not_here true way other bytes rest none absent = absurd (cc)
not_here false way other bytes rest none absent = none absent

bytes_in-absent : (ways : List Way) (rows : List (List ℕ)) (line : ℕ) → is_some (way_in ways line) ≡ false →
    bytes_in ways rows line ≡ []
bytes_in-absent [] rows line absent = refl
bytes_in-absent (way ∷ ways) [] line absent = refl
bytes_in-absent (way ∷ ways) (bytes ∷ rows) line absent =
    not_here (way.line == line) way (way_in ways line) bytes (bytes_in ways rows line)
    (bytes_in-absent ways rows line) absent

-- the bytes of a line are those of its copy
bytes_of_copy : Option Copy → List ℕ
bytes_of_copy copy = option_map_or (λ c. c.bytes) copy []

bytes_of-copy : (cache : Cached) (line : ℕ) → bytes_of cache line ≡ bytes_of_copy (copy_in cache line)
unfolding bytes_of_copy
bytes_of-copy cache line = by (way_of cache.residency line) refl
  where
    by : (way : Option Way) → way_of cache.residency line ≡ way →
        bytes_of cache line ≡ option_map_or (λ c. c.bytes)
        (option_map {U = Copy} (λ w. record { letter = w.letter; bytes = bytes_of cache line }) way) []
    by None is = bytes_in-absent _ _ line (ap is_some is)
    by (Some way) is = refl

-- a copy that is as it was has the same bytes
pub same_bytes : (old new : Cached) (line : ℕ) → copy_in new line ≡ copy_in old line →
    bytes_of new line ≡ bytes_of old line
same_bytes old new line same = bytes_of-copy new line ∙ ap bytes_of_copy same ∙ sym (bytes_of-copy old line)

-- a line that is there has the bytes that were written
pub written_bytes : (old new : Cached) (line : ℕ) (bytes : List ℕ) → IsWritten old new line bytes →
    is_resident old.residency line ≡ true → bytes_of new line ≡ bytes
unfolding bytes_of_copy
written_bytes old new line bytes written there =
    bytes_of-copy new line ∙ ap bytes_of_copy
    (written.here ∙ ap (option_map (copy_with_bytes bytes)) (copy_is old line there))

-- a byte on the line of an address
byte_near : (cache : Cached) (address at : ℕ) → line_number at ≡ line_number address →
    cached_byte cache at ≡ slice_index (bytes_of cache (line_number address)) (at % LINE_BYTES)
byte_near cache address at same = ap (λ line. slice_index (bytes_of cache line) (at % LINE_BYTES)) same

-- each byte of the word at an address is a byte
pub word_bytes : (cache : Cached) (address at : ℕ) (bytes : List ℕ) → address % 4 ≡ 0 →
    bytes ≡ bytes_of cache (line_number address) → ((k : ℕ) → slice_index bytes k < 256) → address ≤ at →
    at < address + 4 → cached_byte cache at < 256
word_bytes cache address at bytes even is small low high =
    let same : line_number at ≡ line_number address = omega arith in
    let there : cached_byte cache at ≡ slice_index bytes (at % LINE_BYTES) =
    byte_near cache address at same ∙ sym (ap (λ b. slice_index b (at % LINE_BYTES)) is) in
    let byte : slice_index bytes (at % LINE_BYTES) < 256 = small (at % LINE_BYTES) in
    omega arith

-- a store puts its bytes there, and leaves all others
pub stored_byte : (old new : Cached) (address len value at : ℕ) → IsSize len → address % len ≡ 0 →
    is_resident old.residency (line_number address) ≡ true →
    length (bytes_of old (line_number address)) ≡ LINE_BYTES → PutsIn old new address len value →
    cached_byte new at ≡ stored (cached_byte old) address len value at
stored_byte old new address len value at size even there full puts =
    elim (cases_eq (line_number at) (line_number address)) [
      | inl same ↦
          byte_near new address at same
          ∙ ap (λ bytes. slice_index bytes (at % LINE_BYTES))
          (written_bytes old new (line_number address) (line_after old address len value) puts there)
          ∙ on_line same (cases_lt at address) (cases_lt at (address + len))
      | inr other ↦
          ap (λ bytes. slice_index bytes (at % LINE_BYTES))
          (same_bytes old new (line_number at) (puts.others (line_number at) other))
          ∙ sym (stored_outside (cached_byte old) address len value at
          (λ low high. other (omega (arith, within size even))))
    ]
  where
    within : IsSize len → address % len ≡ 0 → address % LINE_BYTES + len ≤ LINE_BYTES
    within size even = omega (arith, in_word address len size even)

    elsewhere : line_number at ≡ line_number address → (address ≤ at → at < address + len → ⊥) →
        slice_index (line_after old address len value) (at % LINE_BYTES) ≡ stored (cached_byte old) address len value at
    elsewhere same out =
        put_bytes-other (bytes_of old (line_number address)) (address % LINE_BYTES) len value (at % LINE_BYTES)
        (λ low high. out (omega arith) (omega arith))
        ∙ sym (byte_near old address at same) ∙ sym (stored_outside (cached_byte old) address len value at out)

    on_line : line_number at ≡ line_number address → (at < address) ⊎ (address ≤ at) →
        (at < address + len) ⊎ (address + len ≤ at) →
        slice_index (line_after old address len value) (at % LINE_BYTES) ≡ stored (cached_byte old) address len value at
    on_line same (inl below) _ = elsewhere same (λ low high. omega arith)
    on_line same (inr low) (inr past) = elsewhere same (λ _ high. omega arith)
    on_line same (inr low) (inl high) =
        put_bytes-here (bytes_of old (line_number address)) (address % LINE_BYTES) len value (at - address)
        (at % LINE_BYTES)
        (omega (arith, within size even)) (omega arith) (omega arith)
        ∙ sym (stored_inside (cached_byte old) address len value at low high)

-- what was written where a line's bytes were lent
pub puts_in : (old : Cached) (address len value line : ℕ) (bytes new : List ℕ) → line ≡ line_number address →
    bytes ≡ bytes_of old line → new ≡ put_bytes bytes (address % LINE_BYTES) len value →
    IsWritten old (with_bytes old line new) line new → PutsIn old (with_bytes old line new) address len value
puts_in old address len value line bytes new is held put written =
    let all : new ≡ line_after old address len value =
    put ∙ ap (λ b. put_bytes b (address % LINE_BYTES) len value) (held ∙ ap (bytes_of old) is) in
    subst (λ b. IsWritten old (with_bytes old line new) (line_number address) b) all
    (subst (λ l. IsWritten old (with_bytes old line new) l new) is written)
