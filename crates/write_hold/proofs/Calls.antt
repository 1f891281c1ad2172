-- A hold and its pool after each call.
use Rattle.std.proofs.Common.{◌≡◌, ℕ, ◌+◌, ◌==◌, if◌then◌else◌, ◌&&◌, nat_le, nat_lt, Bool, true, false, List, length}
use Rattle.std.proofs.Common.{slice_index, None, Some}
use Rattle.std.proofs.Common.{bit_or, refl, ap, sym, subst, ◌∙◌}
use Rattle.std.specs.Int.{bit_at}
use Rattle.std.specs.Option.{unwrap_or}
use Rattle.line_lanes.specs.Merged.{merged_byte}
use Rattle.line_pool.specs.Calls.{IsWritten}
use Rattle.line_pool.specs.Pooled.{Pooled, bytes_of}
use Rattle.write_hold.specs.declared.entry.Entry as code
use Rattle.write_hold.specs.Entries.{IsStored, byte_over}
use Rattle.write_hold.specs.Held.{laid}
use Rattle.write_hold.proofs.Stores.{stored_over}

-- a merged byte is the one that its hart sees
pub merged-over : (pool : Pooled) (entry : code.Entry) (under : List ℕ) (place : ℕ)
    → merged_byte under (bytes_of pool entry.slot) entry.mask place ≡ byte_over pool entry under place
merged-over pool entry under place = by_bit (bit_at entry.mask place == 1)
  where
    by_bit : (set : Bool) → (if set then slice_index (bytes_of pool entry.slot) place else slice_index under place)
        ≡ unwrap_or (if set then Some (slice_index (bytes_of pool entry.slot) place) else None)
        (slice_index under place)
    by_bit true = refl
    by_bit false = refl

-- an entry after bytes were written into its slot, and its mask got their places
pub entry-stored : (before after : Pooled) (old new : code.Entry) (offset run : ℕ) (bytes now : List ℕ)
    → IsWritten before after old.slot now → new.line ≡ old.line → new.slot ≡ old.slot → new.mask ≡ bit_or old.mask run
    →
    ((place : ℕ) → Some (slice_index now place) ≡ laid offset bytes place
    (Some (slice_index (bytes_of before old.slot) place)))
    → ((place : ℕ) → (bit_at run place == 1) ≡ (nat_le offset place && nat_lt place (offset + length bytes)))
    → IsStored before after old new offset bytes
entry-stored before after old new offset run bytes now written line slot mask is marked = record {
  line = line;
  slot = slot;
  written = subst (λ b. IsWritten before after old.slot b) (sym written.here) written;
  laid = λ place.
      (λ k. if bit_at (mask k) place == 1 then Some (slice_index (bytes_of after (slot k)) place) else None)
      ∙ ap (λ b. if bit_at (bit_or old.mask run) place == 1 then Some (slice_index b place) else None) written.here
      ∙ stored_over offset place old.mask run bytes (bytes_of before old.slot) now (is place) (marked place);
}
