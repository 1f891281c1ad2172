-- what is done to a lent cache in turn, as one change
use Rattle.std.proofs.Common.{◌≡◌, ◌∙◌, ℕ, Bool, true, false, List, Option, Some, option_map, ap, refl, sym}
use Rattle.std.proofs.Common.{if◌then◌else◌}
use Rattle.std.proofs.lemmas.Option.{same_Some}
use Rattle.residency.specs.Cache.{letter_of, write_bit}
use Rattle.cache_sets.specs.Cached.{Cached, Copy, bytes_of, copy_in, copy_with_bytes, copy_with_letter}
use Rattle.cache_sets.specs.Calls.{IsCommitted, IsLettered, IsTouched, IsWritten}
use Rattle.coherence.specs.Caches.{behind_of, cache_at, copies_of}
use Rattle.coherence.specs.GivenBack.{IsCopyBack, IsGivenBack, IsStoredIn, Kept, Stored, WroteLines, bytes_back}
use Rattle.coherence.specs.GivenBack.{bytes_put, copies_with}
use Rattle.coherence.specs.Served.{Copies, HasLine, TellsOf}
use Rattle.coherence.proofs.Laws.Fetched.{copy_resident}
use Rattle.coherence.proofs.Laws.GivenBackLaws.{kept_bytes, tells_after, writable_there}
use Rattle.coherence.proofs.Laws.Owners.{copy_is, letter_is}
use Rattle.moesi.specs.Letters.{may_write}
use Rattle.moesi.specs.declared.letter.Letter.TheVariants.{M}

-- a change that leaves all copies, as of their order or bits
pub unchanged_back : (old new : Cached) → ((l : ℕ) → copy_in new l ≡ copy_in old l) → IsGivenBack old new
unchanged_back old new same = record { each = λ l. Kept (same l) }

copy_then : (before between after : Option Copy) → IsCopyBack before between → IsCopyBack between after →
    IsCopyBack before after
copy_then before between after first (Kept same) = by first
  where
    by : IsCopyBack before between → IsCopyBack before after
    by (Kept kept) = Kept (same ∙ kept)
    by (Stored was is there may here letter) = Stored was is there may (same ∙ here) letter
copy_then before between after first (Stored was is there may here letter) = by first
  where
    by : IsCopyBack before between → IsCopyBack before after
    by (Kept kept) = Stored was is (sym kept ∙ there) may here letter
    by (Stored was' is' there' may' here' letter') = Stored was' is there' may' here letter

-- one change after another
pub back_then : (old mid new : Cached) → IsGivenBack old mid → IsGivenBack mid new → IsGivenBack old new
back_then old mid new first second =
    record { each = λ l. copy_then (copy_in old l) (copy_in mid l) (copy_in new l) (first.each l) (second.each l) }

-- a line that may be written gets the letter M and then these bytes, or these bytes and then the letter
pub stored_by_letter_first : (old mid new : Cached) (line : ℕ) (bytes : List ℕ) →
    may_write (letter_of old.residency line) ≡ true → IsLettered old mid line M → IsWritten mid new line bytes →
    IsStoredIn old new line bytes
stored_by_letter_first old mid new line bytes may lettered written = record {
  may = may;
  here =
      written.here
      ∙ ap (option_map (copy_with_bytes bytes))
      (lettered.here ∙ ap (option_map (copy_with_letter M)) (copy_is old line (writable_there old line may)));
  others = λ l other. written.others l other ∙ lettered.others l other;
}

pub stored_by_bytes_first : (old mid new : Cached) (line : ℕ) (bytes : List ℕ) →
    may_write (letter_of old.residency line) ≡ true → IsWritten old mid line bytes → IsLettered mid new line M →
    IsStoredIn old new line bytes
stored_by_bytes_first old mid new line bytes may written lettered = record {
  may = may;
  here =
      lettered.here
      ∙ ap (option_map (copy_with_letter M))
      (written.here ∙ ap (option_map (copy_with_bytes bytes)) (copy_is old line (writable_there old line may)));
  others = λ l other. lettered.others l other ∙ written.others l other;
}

-- a line whose copy is the same may be written as before
pub may_still : (old mid : Cached) (line : ℕ) → copy_in mid line ≡ copy_in old line →
    may_write (letter_of old.residency line) ≡ true → may_write (letter_of mid.residency line) ≡ true
may_still old mid line same may =
    ap may_write (letter_is mid line _ (same ∙ copy_is old line (writable_there old line may))) ∙ may

-- the bytes of a copy
pub bytes_is : (cached : Cached) (line : ℕ) (copy : Copy) → copy_in cached line ≡ Some copy →
    bytes_of cached line ≡ copy.bytes
bytes_is cached line copy there =
    ap (λ c. c.bytes) (same_Some _ _ (sym (copy_is cached line (copy_resident cached line copy there)) ∙ there))

-- before and after it the order and the bits may change
pub stored_then_same : (old mid new : Cached) (line : ℕ) (bytes : List ℕ) → IsStoredIn old mid line bytes →
    ((l : ℕ) → copy_in new l ≡ copy_in mid l) → IsStoredIn old new line bytes
stored_then_same old mid new line bytes stores same = record {
  may = stores.may;
  here = same line ∙ stores.here;
  others = λ l other. same l ∙ stores.others l other;
}

pub same_then_stored : (old mid new : Cached) (line : ℕ) (bytes : List ℕ) → ((l : ℕ) → copy_in mid l ≡ copy_in old l) →
    IsStoredIn mid new line bytes → IsStoredIn old new line bytes
same_then_stored old mid new line bytes same stores = record {
  may = may_still mid old line (sym (same line)) stores.may;
  here = stores.here;
  others = λ l other. stores.others l other ∙ same l;
}

-- a store: the line is touched, gets the letter M and then these bytes
pub stored_by_calls : (old touched modified new : Cached) (line : ℕ) (bytes : List ℕ) →
    may_write (letter_of old.residency line) ≡ true → IsTouched old touched line → IsLettered touched modified line M →
    IsWritten modified new line bytes → IsStoredIn old new line bytes
stored_by_calls old touched modified new line bytes may touch lettered written =
    same_then_stored old touched new line bytes touch.copies
    (stored_by_letter_first touched modified new line bytes (may_still old touched line (touch.copies line) may)
    lettered written)

-- the bytes of the copy are as they were until then
pub bytes_by_calls : (old touched modified : Cached) (line : ℕ) → may_write (letter_of old.residency line) ≡ true →
    IsTouched old touched line → IsLettered touched modified line M → bytes_of modified line ≡ bytes_of old line
bytes_by_calls old touched modified line may touch lettered =
    bytes_is modified line _
    (lettered.here ∙ ap (option_map (copy_with_letter M))
    (touch.copies line ∙ copy_is old line (writable_there old line may)))

-- a section commits: the lines that it wrote get the letter M
pub committed_copy : (old mid new : Cached) (put : ℕ → List ℕ) (l : ℕ) → WroteLines old mid put → IsCommitted mid new →
    write_bit mid.residency l ≡ true → copy_in new l ≡ Some (record { letter = M; bytes = put l })
committed_copy old mid new put l wrote commits bit =
    commits.written l bit
    ∙ ap (option_map (copy_with_letter M))
    (wrote.written l bit ∙ ap (option_map (copy_with_bytes (put l)))
    (copy_is old l (writable_there old l (wrote.may l bit))))

pub committed_back : (old mid new : Cached) (put : ℕ → List ℕ) → WroteLines old mid put → IsCommitted mid new →
    IsGivenBack old new
committed_back old mid new put wrote commits = record { each = λ l. by l (write_bit mid.residency l) refl }
  where
    by : (l : ℕ) (bit : Bool) → write_bit mid.residency l ≡ bit → IsCopyBack (copy_in old l) (copy_in new l)
    by l true is =
        Stored (record { letter = letter_of old.residency l; bytes = bytes_of old l })
        (record { letter = M; bytes = put l })
        (copy_is old l (writable_there old l (wrote.may l is))) (wrote.may l is)
        (committed_copy old mid new put l wrote commits is) refl
    by l false is = Kept (commits.others l is ∙ wrote.others l is)

-- and these bytes are told of them then
pub tells_committed : (copies : Copies) (h : ℕ) (mid new : Cached) (bytes put : ℕ → List ℕ) → TellsOf copies bytes →
    WroteLines (cache_at copies.caches h) mid put → IsCommitted mid new →
    TellsOf (copies_with copies h new) (bytes_put (write_bit mid.residency) put bytes)
tells_committed copies h mid new bytes put tells wrote commits =
    tells_after copies h new bytes (bytes_put (write_bit mid.residency) put bytes) tells
    (record {
      given_back = committed_back (cache_at copies.caches h) mid new put wrote commits;
      exact = λ l there. by l there (write_bit mid.residency l) refl;
    })
  where
    by : (l : ℕ) → HasLine copies l → (bit : Bool) → write_bit mid.residency l ≡ bit →
        (if bit then put l else bytes l) ≡ bytes_back bytes new l
    by l there true is = sym (rw (committed_copy (cache_at copies.caches h) mid new put l wrote commits is) refl)
    by l there false is =
        sym
        (kept_bytes (bytes l) (copies_of copies.caches l) (behind_of copies.first copies.lines l) h (copy_in new l)
        (tells.each l there)
        (commits.others l is ∙ wrote.others l is))
