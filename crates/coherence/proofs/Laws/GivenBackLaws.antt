-- a hart's cache was lent and came back: what caches and main memory tell then
use Rattle.std.proofs.Common.{◌≡◌, ◌∙◌, ◌<◌, ◌≤◌, ℕ, true, List, length, Option, None, Some, is_some, ap, refl, sym}
use Rattle.std.proofs.Common.{subst, inl, inr}
use Rattle.std.specs.Option.{option_map_or}
use Rattle.std.specs.Prelude.{slice_set}
use Rattle.std.proofs.lemmas.Bool.{cases_eq, cases_lt, eq-eqb, ne_eqb}
use Rattle.std.proofs.lemmas.List.{get_or-set_same, length-set}
use Rattle.residency.specs.Cache.{is_resident, letter_in, letter_of, way_of}
use Rattle.cache_sets.specs.Cached.{Cached, Copy, bytes_of, copy_in}
use Rattle.residency.specs.Residency.{Way}
use Rattle.coherence.specs.Caches.{behind_of, cache_at, copies_of, no_cache}
use Rattle.coherence.specs.GivenBack.{IsCopyBack, IsGivenBack, IsStoredIn, Kept, Stored, TellsAfter, bytes_back}
use Rattle.coherence.specs.GivenBack.{bytes_with, copies_with}
use Rattle.coherence.specs.Line.{Coherent}
use Rattle.coherence.specs.Served.{Copies, HasLine, TellsOf}
use Rattle.coherence.proofs.FetchLaws.{other_new}
use Rattle.coherence.proofs.Laws.Fetched.{copy_resident}
use Rattle.coherence.proofs.Laws.GivenUp.{beyond}
use Rattle.coherence.proofs.KeptLaws.{coherent_same_copies, same_copies_at}
use Rattle.coherence.proofs.Laws.LineLaws.{same_line, stored}
use Rattle.coherence.proofs.Laws.Owners.{copy_is}
use Rattle.moesi.specs.Letters.{may_read, may_write}
use Rattle.moesi.specs.declared.letter.Letter.TheVariants.{M}
use Rattle.el_base.proofs.Laws.Cases.{none_some}

-- the bytes of a line whose copy was kept are those that it had
pub kept_bytes : (bytes : List ℕ) (copies : ℕ → Option Copy) (behind : List ℕ) (h : ℕ) (copy : Option Copy) →
    Coherent bytes copies behind → copy ≡ copies h → option_map_or (λ c. c.bytes) copy bytes ≡ bytes
kept_bytes bytes copies behind h None coherent is = refl
kept_bytes bytes copies behind h (Some copy) coherent is = coherent.same h copy (sym is)

-- past the last hart no copy is written
only_inside : (caches : List Cached) (h line : ℕ) (was : Copy) → copy_in (cache_at caches h) line ≡ Some was →
    h < length caches
only_inside caches h line was there =
    elim (cases_lt h (length caches)) [
      | inl inside ↦ inside
      | inr outside ↦ none_some (sym (ap (λ c. copy_in c line) (beyond caches h outside)) ∙ there)
    ]

-- each line of memory
line_back : (h line : ℕ) (bytes behind : List ℕ) (old : List Cached) (cache : Cached) →
    IsCopyBack (copy_in (cache_at old h) line) (copy_in cache line) → Coherent bytes (copies_of old line) behind →
    Coherent (option_map_or (λ c. c.bytes) (copy_in cache line) bytes) (copies_of (slice_set old h cache) line) behind
line_back h line bytes behind old cache (Kept same) coherent =
    rw (kept_bytes bytes (copies_of old line) behind h (copy_in cache line) coherent same)
    (same_line bytes (copies_of old line) (copies_of (slice_set old h cache) line) behind behind coherent
    (λ g. same_copies_at h line g old cache same) refl)
line_back h line bytes behind old cache (Stored was is before may after letter) coherent =
    rw after
    (stored bytes behind is.bytes h (copies_of old line) (copies_of (slice_set old h cache) line) coherent
    (record {
      before = was;
      there = before;
      may = may;
      here =
          ap (λ c. copy_in c line) (get_or-set_same old h cache no_cache (only_inside old h line was before))
          ∙ (after ∙ ap (λ l. Some (record { letter = l; bytes = is.bytes })) letter);
      others = λ g other. ap (λ c. copy_in c line) (other_new h g old cache other);
    }))

-- a copy that is there after the loan was there before it
was_there : (before after : Option Copy) (copy : Copy) → IsCopyBack before after → after ≡ Some copy →
    (was : Copy) × (before ≡ Some was)
was_there before after copy (Kept same) there = (copy, sym same ∙ there)
was_there before after copy (Stored was is is_before may is_after letter) there = (was, is_before)

-- the general law: whatever lines were written
pub tells_back : (copies : Copies) (h : ℕ) (cache : Cached) (bytes : ℕ → List ℕ) → TellsOf copies bytes →
    IsGivenBack (cache_at copies.caches h) cache → TellsOf (copies_with copies h cache) (bytes_back bytes cache)
tells_back copies h cache bytes tells back = record {
  each =
      λ line there. line_back h line (bytes line) (behind_of copies.first copies.lines line) copies.caches cache
      (back.each line) (tells.each line there);
  inside = λ g line resident. elim (cases_eq g h) [
    | inl own ↦
        tells.inside h line
        (mine line
        (subst (λ k. is_resident (cache_at (slice_set copies.caches h cache) k).residency line ≡ true) own
        resident))
    | inr other ↦
        tells.inside g line
        (subst (λ c. is_resident c.residency line ≡ true) (other_new h g copies.caches cache other) resident)
  ];
}
  where
    mine : (line : ℕ) → is_resident (cache_at (slice_set copies.caches h cache) h).residency line ≡ true →
        is_resident (cache_at copies.caches h).residency line ≡ true
    mine line resident =
        elim (cases_lt h (length copies.caches)) [
          | inl inside ↦
              let here : is_resident cache.residency line ≡ true =
              subst (λ c. is_resident c.residency line ≡ true)
              (get_or-set_same copies.caches h cache no_cache inside) resident in
              let was = was_there _ _ _ (back.each line) (copy_is cache line here) in
              copy_resident (cache_at copies.caches h) line was.0 was.1
          | inr outside ↦
              subst (λ c. is_resident c.residency line ≡ true)
              (beyond (slice_set copies.caches h cache) h
              (subst (λ n. n ≤ h) (sym (length-set copies.caches h cache)) outside)
              ∙ sym (beyond copies.caches h outside))
              resident
        ]

-- bytes that are the same for each line of memory are told as well
pub tells_same_bytes : (copies : Copies) (bytes told : ℕ → List ℕ) → TellsOf copies bytes →
    ((line : ℕ) → HasLine copies line → told line ≡ bytes line) → TellsOf copies told
tells_same_bytes copies bytes told tells same = record {
  each = λ line there.
      subst (λ b. Coherent b (copies_of copies.caches line) (behind_of copies.first copies.lines line))
      (sym (same line there))
      (tells.each line there);
  inside = tells.inside;
}

pub tells_after : (copies : Copies) (h : ℕ) (cache : Cached) (bytes told : ℕ → List ℕ) → TellsOf copies bytes →
    TellsAfter copies h cache bytes told → TellsOf (copies_with copies h cache) told
tells_after copies h cache bytes told tells after =
    tells_same_bytes (copies_with copies h cache) (bytes_back bytes cache) told
    (tells_back copies h cache bytes tells after.given_back) after.exact

-- the same copies, whatever became of their order and bits, tell the same
pub tells_same_copies : (copies : Copies) (h : ℕ) (cache : Cached) (bytes : ℕ → List ℕ) → TellsOf copies bytes →
    ((line : ℕ) → copy_in cache line ≡ copy_in (cache_at copies.caches h) line) →
    TellsOf (copies_with copies h cache) bytes
tells_same_copies copies h cache bytes tells same =
    coherent_same_copies h copies.first copies.lines bytes copies.caches cache same tells

-- a line whose letter may be written is there
pub writable_there : (cached : Cached) (line : ℕ) → may_write (letter_of cached.residency line) ≡ true →
    is_resident cached.residency line ≡ true
writable_there cached line may = by (way_of cached.residency line) may
  where
    by : (way : Option Way) → may_write (letter_in way) ≡ true → is_some way ≡ true
    by None is = absurd (cc)
    by (Some way) is = refl

-- and one that may be read
pub readable_there : (cache : List (List Way)) (line : ℕ) → may_read (letter_of cache line) ≡ true →
    is_resident cache line ≡ true
readable_there cache line may = by (way_of cache line) may
  where
    by : (way : Option Way) → may_read (letter_in way) ≡ true → is_some way ≡ true
    by None is = absurd (cc)
    by (Some way) is = refl

-- a copy has its line's bytes
pub copy_tells : (copies : Copies) (h line : ℕ) (bytes : ℕ → List ℕ) → TellsOf copies bytes →
    is_resident (cache_at copies.caches h).residency line ≡ true → bytes_of (cache_at copies.caches h) line ≡ bytes line
copy_tells copies h line bytes tells resident =
    (tells.each line (tells.inside h line resident)).same h _ (copy_is (cache_at copies.caches h) line resident)

-- one line that was written is a way to give a cache back
pub stored_back : (old new : Cached) (line : ℕ) (bytes : List ℕ) → IsStoredIn old new line bytes → IsGivenBack old new
stored_back old new line bytes stores = record {
  each = λ l. elim (cases_eq l line) [
    | inl same ↦
        rw same
        (Stored (record { letter = letter_of old.residency line; bytes = bytes_of old line })
        (record { letter = M; bytes = bytes })
        (copy_is old line (writable_there old line stores.may)) stores.may stores.here refl)
    | inr other ↦ Kept (stores.others l other)
  ];
}

-- these are its bytes, and each other line has those that it had
stored_bytes : (copies : Copies) (h line : ℕ) (cache : Cached) (bytes : ℕ → List ℕ) (new : List ℕ) →
    TellsOf copies bytes → IsStoredIn (cache_at copies.caches h) cache line new → (l : ℕ) → HasLine copies l →
    bytes_with bytes line new l ≡ bytes_back bytes cache l
stored_bytes copies h line cache bytes new tells stores l there =
    elim (cases_eq l line) [
      | inl same ↦ rw (eq-eqb l line same, same, stores.here) refl
      | inr other ↦
          rw (ne_eqb l line other)
          (sym (kept_bytes (bytes l) (copies_of copies.caches l) _ h (copy_in cache l) (tells.each l there)
          (stores.others l other)))
    ]

pub tells_stored : (copies : Copies) (h line : ℕ) (cache : Cached) (bytes : ℕ → List ℕ) (new : List ℕ) →
    TellsOf copies bytes → IsStoredIn (cache_at copies.caches h) cache line new →
    TellsOf (copies_with copies h cache) (bytes_with bytes line new)
tells_stored copies h line cache bytes new tells stores =
    tells_after copies h cache bytes (bytes_with bytes line new) tells
    (record {
      given_back = stored_back (cache_at copies.caches h) cache line new stores;
      exact = stored_bytes copies h line cache bytes new tells stores;
    })
