-- The fields of a cache after each call, and what they show.
use Rattle.std.proofs.lemmas.List.{length-set}
use Rattle.std.specs.Int.{IsPowerOfTwo}
use Rattle.std.proofs.Common.{◌≡◌, ◌≢◌, ℕ, true, List, Option, Some, ap, sym, subst, ◌∙◌}
use Rattle.std.specs.Prelude.{slice_set}
use Rattle.el_base.specs.declared.outcomes.Need.{Need}
use Rattle.moesi.specs.declared.letter.Letter.{Letter}
use Rattle.moesi.specs.declared.letter.Letter.TheVariants.{I}
use Rattle.line_pool.specs.Calls.{IsGiven}
use Rattle.line_pool.specs.Others.{LeavesOthers}
use Rattle.line_pool.specs.Pooled.{Pooled, is_out}
use Rattle.cache_sets.specs.declared.line.Line as code
use Rattle.cache_sets.specs.declared.set.Set.{Set}
use Rattle.residency.specs.Cache.{is_resident, marked, without_line, write_bits_of}
use Rattle.cache_sets.specs.Calls.{IsLettered, IsMarked, IsTouched, IsWithout}
use Rattle.residency.specs.Keyed.{changed, found, fronted, without}
use Rattle.cache_sets.specs.Kept.{HasRoom, IsGivenBack, IsSound, CacheStands, lettered_way, line_at, lines_of}
use Rattle.cache_sets.specs.Kept.{marked_way, number_of, residency_of}
use Rattle.cache_sets.specs.Kept.{set_at, shown_cache, with_lines, with_way}
use Rattle.residency.specs.Cache.{marks_of}
use Rattle.cache_sets.specs.Slotted.{IsLent, Slotted, lent}
use Rattle.cache_sets.proofs.Changes.{is_lettered, is_marked, is_touched, slots-lettered, slots-marked, slots-touched}
use Rattle.cache_sets.proofs.Changes.{some, sound-lettered}
use Rattle.cache_sets.proofs.Changes.{sound-marked, sound-touched, sound-without}
use Rattle.cache_sets.proofs.Drops.{is_dropped, leaves-dropped, lent-dropped}
use Rattle.cache_sets.proofs.Loans.{resident-at}
use Rattle.cache_sets.proofs.Reached.{Reaches, lines-after, lines-reached, room-after}
use Rattle.cache_sets.proofs.Shown.{length-with}
use Rattle.cache_sets.proofs.Slots.{SameSlots, lent-moved, out-at}

-- what holds of the caches that fields show holds of the values
pub between : (P : Slotted → Slotted → Type 0) (shown old new after : Slotted) → shown ≡ old → after ≡ new →
    P shown new → P old after
between P shown old new after is are holds = subst (λ a. P a after) is (subst (λ b. P shown b) (sym are) holds)

module _ {ways owner marks writes : ℕ} {sets : List Set} {v : Slotted} {line number : ℕ} {old : Set} (new : Set)
    (stands : CacheStands ways sets marks writes) (is : shown_cache ways owner (lines_of sets) ≡ v)
    (at : Reaches sets line number old) (room : HasRoom old new) where
  abbrev cache : List (List code.Line)
  cache = lines_of sets

  abbrev after : Slotted
  after = shown_cache ways owner (lines_of (slice_set sets number new))

  -- the lines after a word on the old set's
  module _ (word : List code.Line → List code.Line) (does : new.lines.items ≡ word old.lines.items) where
    lines_are : lines_of (slice_set sets number new) ≡ with_lines cache line (word (set_at cache line))
    lines_are =
        lines-after sets line number old at new ∙ ap (with_lines cache line)
        (does ∙ ap word (lines-reached sets line number old at))

    pub after_is : after ≡ shown_cache ways owner (with_lines cache line (word (set_at cache line)))
    after_is = ap (shown_cache ways owner) lines_are

    pub stands-after : (new_marks new_writes : ℕ) →
        IsSound ways (with_lines cache line (word (set_at cache line))) new_marks new_writes
        → CacheStands ways (slice_set sets number new) new_marks new_writes
    stands-after new_marks new_writes sound = record {
      binary = subst IsPowerOfTwo (sym (length-set sets number new)) stands.binary;
      sound = subst (λ c. IsSound ways c new_marks new_writes) (sym lines_are) sound;
      room = room-after sets line number old at ways new stands.room room;
    }

    lent-after : SameSlots cache (with_lines cache line (word (set_at cache line))) → (pool : Pooled) → IsLent pool v →
        IsLent pool after
    lent-after same pool =
        between (λ a b. IsLent pool a → IsLent pool b) _ _ _ _ is after_is
        (lent-moved pool ways owner cache (with_lines cache line (word (set_at cache line)))
        (length-with cache line (word (set_at cache line))) same)

  -- a line was touched
  module _ (does : new.lines.items ≡ fronted number_of old.lines.items line) where
    abbrev front : List code.Line → List code.Line
    front lines = fronted number_of lines line

    pub stands-touched : CacheStands ways (slice_set sets number new) marks writes
    stands-touched = stands-after front does marks writes (sound-touched ways marks writes cache line stands.sound)

    pub touched-after : (pool : Pooled) → IsTouched (lent pool v) (lent pool after) line
    touched-after pool =
        between (λ a b. IsTouched (lent pool a) (lent pool b) line) _ _ _ _ is (after_is front does)
        (is_touched ways marks writes cache line stands.sound owner pool)

    pub lent-touched : (pool : Pooled) → IsLent pool v → IsLent pool after
    lent-touched = lent-after front does (slots-touched ways marks writes cache line stands.sound)

  -- it got another letter
  module _ (letter : Letter)
      (does : new.lines.items ≡ changed number_of (with_way (lettered_way letter)) old.lines.items line) where
    abbrev relettered : List code.Line → List code.Line
    relettered lines = changed number_of (with_way (lettered_way letter)) lines line

    pub stands-lettered : letter ≢ I → CacheStands ways (slice_set sets number new) marks writes
    stands-lettered valid =
        stands-after relettered does marks writes
        (sound-lettered ways marks writes cache line stands.sound letter valid)

    pub lettered-after : (pool : Pooled) → IsLettered (lent pool v) (lent pool after) line letter
    lettered-after pool =
        between (λ a b. IsLettered (lent pool a) (lent pool b) line letter) _ _ _ _ is (after_is relettered does)
        (is_lettered ways marks writes cache line stands.sound letter owner pool)

    pub lent-lettered : (pool : Pooled) → IsLent pool v → IsLent pool after
    lent-lettered = lent-after relettered does (slots-lettered ways marks writes cache line stands.sound letter)

  -- it got a bit
  module _ (need : Need)
      (does : new.lines.items ≡ changed number_of (with_way (marked_way need)) old.lines.items line) where
    abbrev remarked : List code.Line → List code.Line
    remarked lines = changed number_of (with_way (marked_way need)) lines line

    pub stands-marked : (new_marks new_writes : ℕ) → new_marks ≡ marks_of (marked (residency_of cache) line need)
        → new_writes ≡ write_bits_of (marked (residency_of cache) line need) →
        CacheStands ways (slice_set sets number new) new_marks new_writes
    stands-marked new_marks new_writes counted written =
        stands-after remarked does new_marks new_writes
        (sound-marked ways marks writes cache line stands.sound need new_marks new_writes counted written)

    pub marked-after : (pool : Pooled) → IsMarked (lent pool v) (lent pool after) line need
    marked-after pool =
        between (λ a b. IsMarked (lent pool a) (lent pool b) line need) _ _ _ _ is (after_is remarked does)
        (is_marked ways marks writes cache line stands.sound need owner pool)

    pub lent-marked : (pool : Pooled) → IsLent pool v → IsLent pool after
    lent-marked = lent-after remarked does (slots-marked ways marks writes cache line stands.sound need)

  -- it left
  module _ (does : new.lines.items ≡ without number_of old.lines.items line) where
    abbrev rest : List code.Line → List code.Line
    rest lines = without number_of lines line

    pub stands-dropped : (new_marks new_writes : ℕ) → new_marks ≡ marks_of (without_line (residency_of cache) line)
        → new_writes ≡ write_bits_of (without_line (residency_of cache) line) →
        CacheStands ways (slice_set sets number new) new_marks new_writes
    stands-dropped new_marks new_writes counted written =
        stands-after rest does new_marks new_writes
        (sound-without ways marks writes cache line stands.sound new_marks new_writes counted written)

    module _ (before between_them : Pooled) (gone : Option code.Line) (owes : IsLent before v)
        (resident : is_resident v.residency line ≡ true)
        (left : gone ≡ found number_of old.lines.items line) where
      there : (l : code.Line) × (line_at cache line ≡ Some l)
      there = resident-at cache line (subst (λ w. is_resident w.residency line ≡ true) (sym is) resident)

      gone_is : gone ≡ Some there.0
      gone_is = left ∙ ap (λ lines. found number_of lines line) (lines-reached sets line number old at) ∙ there.1

      owes_shown : IsLent before (shown_cache ways owner cache)
      owes_shown = subst (IsLent before) (sym is) owes

      pub gone-out : (l : code.Line) → gone ≡ Some l → is_out before l.slot ≡ true
      gone-out l same =
          out-at before ways owner cache (some ways marks writes cache line stands.sound) line l
          (ap (λ lines. found number_of lines line) (sym (lines-reached sets line number old at)) ∙ sym left ∙ same)
          owes_shown

      module _ (back : IsGivenBack before between_them gone) where
        given : IsGiven before between_them there.0.slot
        given = subst (IsGivenBack before between_them) gone_is back

        pub leaves-after : LeavesOthers owner before between_them
        leaves-after =
            leaves-dropped ways marks writes owner cache line stands.sound before between_them owes_shown
            there.0 there.1 given

        pub lent-without : IsLent between_them after
        lent-without =
            subst (IsLent between_them) (sym (after_is rest does))
            (lent-dropped ways marks writes owner cache line stands.sound before between_them owes_shown
            there.0 there.1 given)

        pub without-after : IsWithout (lent before v) (lent between_them after) line
        without-after =
            between (λ a b. IsWithout (lent before a) (lent between_them b) line) _ _ _ _ is (after_is rest does)
            (is_dropped ways marks writes owner cache line stands.sound before between_them owes_shown
            there.0 there.1 given)
