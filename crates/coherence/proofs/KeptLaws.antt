-- a hart keeps its copy: caches and main memory tell what they told
use Rattle.std.proofs.Common.{◌≡◌, ◌≢◌, ◌∙◌, ◌⊎◌, ◌<◌, ◌≤◌, ℕ, true, List, length, Some, option_map, ap, refl, sym}
use Rattle.std.proofs.Common.{subst, inl, inr}
use Rattle.std.specs.Prelude.{slice_set}
use Rattle.std.proofs.lemmas.Bool.{cases_eq, cases_lt}
use Rattle.std.proofs.lemmas.List.{get_or-set_same, length-set}
use Rattle.residency.specs.Cache.{is_resident, letter_of}
use Rattle.cache_sets.specs.Cached.{Cached, bytes_of, copy_in, copy_with_letter}
use Rattle.cache_sets.specs.Calls.{IsLettered, IsWithout}
use Rattle.cache_sets.specs.Slotted.{Slotted, lent}
use Rattle.coherence.specs.Caches.{AreCoherent, IsInMemory, OthersGiveUp, behind_of, cache_at, copies_of, no_cache}
use Rattle.coherence.specs.Changed.{IsReplacedAt}
use Rattle.coherence.specs.Kept.{IsKept, LeavesTo}
use Rattle.coherence.specs.Lent.{IsReplacedIn, slotted_at}
use Rattle.coherence.specs.Line.{Coherent}
use Rattle.coherence.proofs.FetchLaws.{given_up_at, other_new}
use Rattle.coherence.proofs.Laws.Fetched.{copy_resident}
use Rattle.coherence.proofs.Laws.GivenUp.{beyond}
use Rattle.coherence.proofs.Laws.LineLaws.{same_line, write_served}
use Rattle.coherence.proofs.Laws.Owners.{copy_is}
use Rattle.el_base.specs.declared.outcomes.Need.{Need}
use Rattle.el_base.specs.declared.outcomes.Need.TheVariants.{Read, Write}
use Rattle.el_model.specs.Serve.{kept_letter}
use Rattle.moesi.specs.declared.letter.Letter.{Letter}
use Rattle.moesi.specs.declared.letter.Letter.TheVariants.{M}

-- the copy keeps its letter, or is modified as the only one
pub letter_kept : (h line : ℕ) (letter : Letter) (old new : List Slotted) →
    letter ≡ letter_of (slotted_at old h).residency line →
    IsReplacedIn (λ before after. IsLettered before after line letter) h old new →
    IsReplacedIn (λ before after. IsLettered before after line (letter_of before.residency line)) h old new
letter_kept h line letter old new is replaced = record {
  cache = replaced.cache;
  becomes = λ pool.
      subst (λ l. IsLettered (lent pool (slotted_at old h)) (lent pool replaced.cache) line l) is
      (replaced.becomes pool);
  kept = replaced.kept;
  owner = replaced.owner;
  new_is = replaced.new_is;
}

pub kept_letter_same : (h line : ℕ) (old new : List Cached) → h < length old →
    IsReplacedAt (λ before after. IsLettered before after line (letter_of before.residency line)) h old new →
    IsKept Read h line old new
kept_letter_same h line old new inside replaced =
    rw replaced.new_is
    (record {
      count = length-set old h replaced.cache;
      own = rw (get_or-set_same old h replaced.cache no_cache inside) replaced.becomes;
      others = λ g other. other_new h g old replaced.cache other;
    })

pub modified : (h line : ℕ) (old mid new : List Cached) → OthersGiveUp Write h line old mid → h < length old →
    IsReplacedAt (λ before after. IsLettered before after line M) h mid new → IsKept Write h line old new
modified h line old mid new gave inside replaced =
    rw replaced.new_is
    (record {
      count = length-set mid h replaced.cache ∙ gave.count;
      own =
          rw (get_or-set_same mid h replaced.cache no_cache (subst (λ n. h < n) (sym gave.count) inside))
          (subst (λ c. IsLettered c replaced.cache line M) gave.own replaced.becomes);
      others = λ g other.
          subst (λ c. IsWithout (cache_at old g) c line) (sym (other_new h g mid replaced.cache other))
          (given_up_at Write h line old mid gave g other);
    })

-- where the copies of other lines are as they were, only the line itself is to be looked at
pub one_line : (told : ℕ → List ℕ) (first line : ℕ) (lines : List (List ℕ)) (old new : List Cached) →
    AreCoherent told first lines old → ((l g : ℕ) → l ≢ line → copies_of new l g ≡ copies_of old l g) →
    IsInMemory first (length lines) line → Coherent (told line) (copies_of new line) (behind_of first lines line) →
    AreCoherent told first lines new
one_line told first line lines old new coherent same there here = record {
  each = λ l in_memory. elim (cases_eq l line) [
    | inl is ↦ subst (λ k. Coherent (told k) (copies_of new k) (behind_of first lines k)) (sym is) here
    | inr other ↦ same_line (told l) (copies_of old l) (copies_of new l) _ _ (coherent.each l in_memory)
        (λ g. same l g other) refl
  ];
  inside = λ g l resident. elim (cases_eq l line) [
    | inl is ↦ subst (IsInMemory first (length lines)) (sym is) there
    | inr other ↦
        coherent.inside g l
        (copy_resident (cache_at old g) l _ (sym (same l g other) ∙ copy_is (cache_at new g) l resident))
  ];
}

kept_other : (need : Need) (h line l g : ℕ) (old new : List Cached) → IsKept need h line old new → l ≢ line →
    copies_of new l g ≡ copies_of old l g
kept_other need h line l g old new kept other =
    elim (cases_eq g h) [
      | inl own ↦ rw own (kept.own.others l other)
      | inr apart ↦ by need (kept.others g apart)
    ]
  where
    by : (n : Need) → LeavesTo n (cache_at old g) (cache_at new g) line → copies_of new l g ≡ copies_of old l g
    by Read same = ap (λ c. copy_in c l) same
    by Write without = without.others l other

-- the copy of the hart itself
pub own_kept : (need : Need) (h line : ℕ) (old new : List Cached) → IsKept need h line old new →
    is_resident (cache_at old h).residency line ≡ true →
    copies_of new line h
    ≡ Some (record {
      letter = kept_letter need (letter_of (cache_at old h).residency line);
      bytes = bytes_of (cache_at old h) line;
    })
own_kept need h line old new kept resident =
    kept.own.here
    ∙ ap (λ copy. option_map (copy_with_letter (kept_letter need (letter_of (cache_at old h).residency line))) copy)
    (copy_is (cache_at old h) line resident)

line_kept : (need : Need) (h line : ℕ) (told behind : List ℕ) (old new : List Cached) → IsKept need h line old new →
    is_resident (cache_at old h).residency line ≡ true → Coherent told (copies_of old line) behind →
    Coherent told (copies_of new line) behind
line_kept Read h line told behind old new kept resident coherent =
    same_line told (copies_of old line) (copies_of new line) behind behind coherent (λ g. same g) refl
  where
    same : (g : ℕ) → copies_of new line g ≡ copies_of old line g
    same g = elim (cases_eq g h) [
      | inl own ↦ rw own (own_kept Read h line old new kept resident ∙ sym (copy_is (cache_at old h) line resident))
      | inr apart ↦ ap (λ c. copy_in c line) (kept.others g apart)
    ]
line_kept Write h line told behind old new kept resident coherent =
    write_served told behind h (copies_of new line) _ (own_kept Write h line old new kept resident) refl
    (coherent.same h _ (copy_is (cache_at old h) line resident))
    (λ g apart. (kept.others g apart).here)

pub coherent_kept : (need : Need) (h line first : ℕ) (lines : List (List ℕ)) (told : ℕ → List ℕ)
    (old new : List Cached) → IsKept need h line old new → is_resident (cache_at old h).residency line ≡ true →
    AreCoherent told first lines old → AreCoherent told first lines new
coherent_kept need h line first lines told old new kept resident coherent =
    let there = coherent.inside h line resident in
    one_line told first line lines old new coherent (λ l g other. kept_other need h line l g old new kept other) there
    (line_kept need h line (told line) (behind_of first lines line) old new kept resident (coherent.each line there))

-- where one cache is replaced by one with the same copy of a line, the copies of that line are as they were
pub same_copies_at : (h line g : ℕ) (old : List Cached) (cache : Cached) →
    copy_in cache line ≡ copy_in (cache_at old h) line → copies_of (slice_set old h cache) line g ≡ copies_of old line g
same_copies_at h line g old cache same =
    elim (cases_eq g h) [
      | inl own ↦ rw own (here (cases_lt h (length old)))
      | inr apart ↦ ap (λ c. copy_in c line) (other_new h g old cache apart)
    ]
  where
    here : (h < length old) ⊎ (length old ≤ h) → copies_of (slice_set old h cache) line h ≡ copies_of old line h
    here (inl inside) = ap (λ c. copy_in c line) (get_or-set_same old h cache no_cache inside) ∙ same
    here (inr outside) =
        ap (λ c. copy_in c line)
        (beyond (slice_set old h cache) h (subst (λ n. n ≤ h) (sym (length-set old h cache)) outside)
        ∙ sym (beyond old h outside))

-- where it has the same copies of all lines, caches and main memory tell what they told
pub coherent_same_copies : (h first : ℕ) (lines : List (List ℕ)) (told : ℕ → List ℕ) (old : List Cached)
    (cache : Cached) → ((l : ℕ) → copy_in cache l ≡ copy_in (cache_at old h) l) → AreCoherent told first lines old →
    AreCoherent told first lines (slice_set old h cache)
coherent_same_copies h first lines told old cache copies coherent = record {
  each = λ l in_memory.
      same_line (told l) (copies_of old l) (copies_of (slice_set old h cache) l) _ _ (coherent.each l in_memory)
      (λ g. same_copies_at h l g old cache (copies l)) refl;
  inside = λ g l resident.
      coherent.inside g l
      (copy_resident (cache_at old g) l _
      (sym (same_copies_at h l g old cache (copies l)) ∙ copy_is (cache_at (slice_set old h cache) g) l resident));
}
