-- the bytes that a port over a section shows
use Rattle.std.proofs.Common.{◌≡◌, ◌≢◌, ℕ, ◌+◌, ◌-◌, ◌*◌, ◌%◌, ◌<◌, ◌≤◌, ◌&&◌, nat_le, nat_lt, if◌then◌else◌, Bool}
use Rattle.std.proofs.Common.{true, false, List}
use Rattle.std.proofs.Common.{length, take, inl, inr, slice_index, Some, refl, ap, sym, subst, ◌∙◌, arith}
use Rattle.std.specs.Option.{unwrap_or}
use Rattle.std.proofs.lemmas.Bool.Decides.{nat_tests}
use Rattle.std.proofs.lemmas.Grind.{common_steps}
use Rattle.cache_sets.specs.Cached.{Cached, bytes_of, cached_byte}
use Rattle.core_step.specs.Port.{byte_of, stored}
use Rattle.core_step.proofs.Laws.Bytes.{stored_inside, stored_outside}
use Rattle.el_base.specs.Line.{line_number}
use Rattle.el_base.specs.declared.line.TheConstants.{LINE_BYTES}
use Rattle.rv_alu.specs.Footprint.{IsSize}
use Rattle.rv_alu.specs.Loaded.{loaded}
use Rattle.rv_alu.proofs.Laws.Executions.{loaded_from}
use Rattle.section_ctl.specs.Shown.{port_byte}
use Rattle.section_view.specs.KeptRun.{held_over}
use Rattle.section_view.specs.Laws.{AreLowBytes}
use Rattle.write_hold.specs.Calls.{IsPut}
use Rattle.write_hold.specs.Held.{Entry, Held, held, held_at, laid, seen_at}

-- what lies under the hold in a word
abbrev pub LiesUnder : ℕ → ℕ → Cached → ℕ → List ℕ → Type 0
LiesUnder word new cache address under =
    (k : ℕ) → k < 4 → slice_index under (address % LINE_BYTES + k) ≡ stored (cached_byte cache) word 4 new (address + k)

-- an aligned word of a line
module _ (entries : List Entry) (word new : ℕ) (cache : Cached) (address : ℕ) (under : List ℕ) where
  abbrev Lies : Type 0
  Lies = LiesUnder word new cache address under

  seen : address % 4 ≡ 0 → Lies → (k : ℕ) → k < 4 →
      seen_at entries (line_number address) under (address % LINE_BYTES + k) ≡ port_byte entries word new
      cache (address + k)
  seen aligned lies k below =
      let its_line : line_number (address + k) ≡ line_number address = omega arith in
      let its_place : (address + k) % LINE_BYTES ≡ address % LINE_BYTES + k = omega arith in
      ap (unwrap_or (held_at entries (line_number address) (address % LINE_BYTES + k))) (lies k below)
      ∙ sym (λ i. unwrap_or (held_at entries (its_line i) (its_place i))
      (stored (cached_byte cache) word 4 new (address + k)))

  pub word_shown : address % 4 ≡ 0 → Lies →
      loaded (seen_at entries (line_number address) under) (address % LINE_BYTES) 4
      ≡ loaded (port_byte entries word new cache) address 4
  word_shown aligned lies =
      loaded_from (seen_at entries (line_number address) under) (port_byte entries word new cache)
      (address % LINE_BYTES) address 4 (seen aligned lies)

  pub word_bytes : address % 4 ≡ 0 → Lies →
      ((place : ℕ) → address % LINE_BYTES ≤ place → place < address % LINE_BYTES + 4 →
      seen_at entries (line_number address) under place < 256) → (at : ℕ) → address ≤ at → at < address + 4 →
      port_byte entries word new cache at < 256
  word_bytes aligned lies bytes at low high =
      let k : ℕ = at - address in
      let same : address + k ≡ at = omega arith in
      let shown : port_byte entries word new cache (address + k) < 256 =
      subst (λ n. n < 256) (seen aligned lies k (omega arith))
      (bytes (address % LINE_BYTES + k) (omega arith) (omega arith)) in
      subst (λ n. port_byte entries word new cache n < 256) same shown

-- the same where the line is known by its number
module _ (entries : List Entry) (word new : ℕ) (cache : Cached) (address : ℕ) (under : List ℕ) (line : ℕ)
    (is : line ≡ line_number address) where
  pub word_shown_of : address % 4 ≡ 0 → LiesUnder word new cache address under →
      loaded (seen_at entries line under) (address % LINE_BYTES) 4 ≡ loaded (port_byte entries word new cache) address 4
  word_shown_of aligned lies =
      (λ k. loaded (seen_at entries (is k) under) (address % LINE_BYTES) 4)
      ∙ word_shown entries word new cache address under aligned lies

  pub word_bytes_of : address % 4 ≡ 0 → LiesUnder word new cache address under →
      ((place : ℕ) → address % LINE_BYTES ≤ place → place < address % LINE_BYTES + 4 →
      seen_at entries line under place < 256) → (at : ℕ) → address ≤ at → at < address + 4 →
      port_byte entries word new cache at < 256
  word_bytes_of aligned lies bytes =
      word_bytes entries word new cache address under aligned lies
      (λ place low high. subst (λ l. seen_at entries l under place < 256) is (bytes place low high))

-- the bytes of a line in the cache
cached_from : (cache : Cached) (address k : ℕ) → address % 4 ≡ 0 → k < 4 →
    slice_index (bytes_of cache (line_number address)) (address % LINE_BYTES + k) ≡ cached_byte cache (address + k)
cached_from cache address k aligned below =
    let its_line : line_number (address + k) ≡ line_number address = omega arith in
    let its_place : (address + k) % LINE_BYTES ≡ address % LINE_BYTES + k = omega arith in
    sym (λ i. slice_index (bytes_of cache (its_line i)) (its_place i))

-- the lock word, which the line has with its new value
pub lies_in_lock : (word new : ℕ) (cache : Cached) (address : ℕ) (under : List ℕ) → address ≡ word →
    ((at : ℕ) → slice_index under at ≡ stored (slice_index (bytes_of cache (line_number address)))
    (address % LINE_BYTES) 4 new at) → LiesUnder word new cache address under
lies_in_lock word new cache address under is with_word k below =
    let place : ℕ = address % LINE_BYTES in
    with_word (place + k)
    ∙ stored_inside (slice_index (bytes_of cache (line_number address))) place 4 new (place + k)
    (omega arith) (omega arith)
    ∙ ap (byte_of new) (omega arith)
    ∙ sym (stored_inside (cached_byte cache) word 4 new (address + k) (omega arith) (omega arith))

-- any other word
pub lies_in_cache : (word new : ℕ) (cache : Cached) (address : ℕ) (under : List ℕ) → address % 4 ≡ 0 → word % 4 ≡ 0 →
    address ≢ word → under ≡ bytes_of cache (line_number address) → LiesUnder word new cache address under
lies_in_cache word new cache address under aligned lock_aligned other is k below =
    ap (λ bytes. slice_index bytes (address % LINE_BYTES + k)) is ∙ cached_from cache address k aligned below
    ∙ sym (stored_outside (cached_byte cache) word 4 new (address + k) (λ low high. other (omega arith)))

-- as many of a word's bytes as are stored
pub low_part : (bytes : List ℕ) (len value : ℕ) → length bytes ≡ 4 → IsSize len →
    ((place : ℕ) → place < 4 → slice_index bytes place ≡ byte_of value place) →
    AreLowBytes (take len bytes) len value
low_part bytes len value four size each = record {
  count = grind (arith, common_steps);
  each = λ place below. let within : place < 4 = few size place below in grind (arith, common_steps, each place within);
}
  where
    few : IsSize len → (place : ℕ) → place < len → place < 4
    few (inl one) place below = omega arith
    few (inr (inl two)) place below = omega arith
    few (inr (inr four)) place below = omega arith

-- after the low bytes of a value were put into the hold
pub shown_after_put : (old new : Held) (line offset : ℕ) (bytes : List ℕ) (under : ℕ → ℕ) (address len value : ℕ) →
    IsPut old new line offset bytes →
    line * LINE_BYTES + offset ≡ address → AreLowBytes bytes len value → (at : ℕ) →
    held_over new.entries under at ≡ stored (held_over old.entries under) address len value at
shown_after_put old new line offset bytes under address len value put is low at =
    ap (λ byte. unwrap_or byte (under at)) (put.put at ∙ (λ k. laid (is k) bytes at (held old.entries at)))
    ∙ (λ k.
    unwrap_or (if nat_le address at && nat_lt at (address + low.count k)
    then Some (slice_index bytes (at - address)) else held old.entries at)
    (under at))
    ∙ by (nat_le address at && nat_lt at (address + len)) refl
  where
    by : (within : Bool) → (nat_le address at && nat_lt at (address + len)) ≡ within →
        unwrap_or (if within then Some (slice_index bytes (at - address)) else held old.entries at) (under at)
        ≡ (if within then byte_of value (at - address) else held_over old.entries under at)
    by true within = low.each (at - address) (grind (arith, nat_tests))
    by false within = refl
