-- A line is touched, its way changes, or it leaves: the cache after it.
use Rattle.std.proofs.Common.{◌≡◌, ◌≢◌, ℕ, ◌≤◌, ◌<◌, false, ltb, List, ◌∷◌, length, map, Option, None, Some, option_map}
use Rattle.std.proofs.Common.{refl, ap, sym, subst, inl}
use Rattle.std.proofs.Common.{inr, ◌∙◌, arith}
use Rattle.std.specs.Option.{option_map_or}
use Rattle.std.proofs.lemmas.Bool.{cases_eq}
use Rattle.std.proofs.lemmas.Bool.Decides.{nat_tests}
use Rattle.el_base.specs.declared.outcomes.Need.{Need}
use Rattle.moesi.specs.declared.letter.Letter.{Letter}
use Rattle.moesi.specs.declared.letter.Letter.TheVariants.{I}
use Rattle.line_pool.specs.Pooled.{Pooled}
use Rattle.cache_sets.specs.declared.line.Line as code
use Rattle.cache_sets.specs.declared.way.Way as known
use Rattle.residency.specs.Cache.{lettered, marked, set_of, touched, with_set, without_line, write_bits_of}
use Rattle.cache_sets.specs.Cached.{Copy, copy_in, copy_with_letter}
use Rattle.cache_sets.specs.Calls.{IsLettered, IsMarked, IsTouched, IsWithout}
use Rattle.residency.specs.Keyed.{changed, count_of, found, fronted, without}
use Rattle.cache_sets.specs.Kept.{IsSound, lettered_way, line_at, marked_way, number_of, residency_of, set_at}
use Rattle.cache_sets.specs.Kept.{shown_cache, shown_line, shown_way}
use Rattle.cache_sets.specs.Kept.{total, with_lines, with_way}
use Rattle.residency.specs.Cache.{marks_of}
use Rattle.residency.specs.Residency.{Way, changed_in, dropped, to_front, touched_in, with_bit, with_letter}
use Rattle.cache_sets.specs.Slotted.{lent}
use Rattle.residency.specs.WellFormed.{IsWellFormed}
use Rattle.cache_sets.proofs.BitLemmas.{named-with_need, shown_marked}
use Rattle.residency.proofs.Laws.KeyedLemmas.{changed-map, found-changed_other, found-changed_same, found-fronted}
use Rattle.residency.proofs.Laws.KeyedLemmas.{found-without_other}
use Rattle.residency.proofs.Laws.KeyedLemmas.{found-without_same, without-map}
use Rattle.residency.proofs.Laws.MarkLemmas.{mark_of, one_if, total-lettered, total-touched, write_of}
use Rattle.residency.proofs.Laws.ResidencyLemmas.{changed_in-changed, dropped-without, line_of}
use Rattle.cache_sets.proofs.Shown.{copy_of, copy_shown, length-with, line_at-with_other, line_at-with_same, once_at}
use Rattle.cache_sets.proofs.Shown.{residency-with, set_of_shown}
use Rattle.cache_sets.proofs.Shown.{some_set, way_in_shown}
use Rattle.cache_sets.proofs.Slots.{SameSlots}
use Rattle.cache_sets.proofs.Totals.{part-at, total-changed, total-fronted, total-kept, total-without}
use Rattle.residency.proofs.Laws.WellFormedLemmas.{well_formed-lettered, well_formed-marked, well_formed-touched}
use Rattle.residency.proofs.Laws.WellFormedLemmas.{well_formed-without_line}

-- one for a line with bits that have no name
abbrev pub unnamed : code.Line → ℕ
unnamed line = one_if (ltb 3 line.way.bits.0)

-- the words of a set on what it shows
pub dropped_shown : (lines : List code.Line) (line : ℕ) →
    dropped (map shown_line lines) line ≡ map shown_line (without number_of lines line)
dropped_shown lines line =
    dropped-without (map shown_line lines) line ∙ without-map number_of line_of shown_line (λ l. refl) lines line

touched_in_shown : (lines : List code.Line) (line : ℕ) →
    touched_in (map shown_line lines) line ≡ map shown_line (fronted number_of lines line)
touched_in_shown lines line =
    ap (to_front (map shown_line lines) line) (way_in_shown lines line) ∙ by_line (found number_of lines line)
  where
    by_line : (l : Option code.Line) → to_front (map shown_line lines) line (option_map shown_line l)
        ≡ map shown_line (option_map_or (λ x. x ∷ without number_of lines line) l lines)
    by_line None = refl
    by_line (Some l) = ap (λ rest. shown_line l ∷ rest) (dropped_shown lines line)

-- the copy of a line that has what it had
pub same_copy : (pool : Pooled) (ways owner : ℕ) (cache new : List (List code.Line)) (line : ℕ) →
    line_at new line ≡ line_at cache line
    → copy_in (lent pool (shown_cache ways owner new)) line ≡ copy_in (lent pool (shown_cache ways owner cache)) line
same_copy pool ways owner cache new line same =
    copy_shown pool ways owner new line ∙ ap (option_map (copy_of pool)) same
    ∙ sym (copy_shown pool ways owner cache line)

module _ (ways marks writes : ℕ) (cache : List (List code.Line)) (line : ℕ)
    (sound : IsSound ways cache marks writes) where
  pub some : 0 < length cache
  some = some_set ways cache sound.well_formed

  pub once : (l : ℕ) → count_of number_of (set_at cache line) l ≤ 1
  once l = once_at ways cache line l sound.well_formed

  -- the residency after a set that shows what a word makes of it
  pub residency-after : (set : List code.Line) (word : List Way → List Way) →
      word (map shown_line (set_at cache line)) ≡ map shown_line set
      → residency_of (with_lines cache line set) ≡ with_set (residency_of cache) line
      (word (set_of (residency_of cache) line))
  residency-after set word is =
      residency-with cache line set ∙ ap (with_set (residency_of cache) line)
      (sym is ∙ ap word (sym (set_of_shown cache line)))

  pub sound-with : (set : List code.Line) (residency : List (List Way)) (new_marks new_writes : ℕ)
      → residency_of (with_lines cache line set) ≡ residency → IsWellFormed ways residency →
      total unnamed (with_lines cache line set) ≡ 0
      → new_marks ≡ marks_of residency → new_writes ≡ write_bits_of residency →
      IsSound ways (with_lines cache line set) new_marks new_writes
  sound-with set residency new_marks new_writes is kept named counted written = record {
    some_way = sound.some_way;
    ways_fit = sound.ways_fit;
    sets_fit = omega (arith, sound.sets_fit, length-with cache line set);
    well_formed = subst (IsWellFormed ways) (sym is) kept;
    named = named;
    marked = counted ∙ ap marks_of (sym is);
    written = written ∙ ap write_bits_of (sym is);
  }

  -- it was touched
  abbrev pub touched_lines : List (List code.Line)
  touched_lines = with_lines cache line (fronted number_of (set_at cache line) line)

  residency-touched : residency_of touched_lines ≡ touched (residency_of cache) line
  residency-touched =
      residency-after (fronted number_of (set_at cache line) line) (λ set. touched_in set line)
      (touched_in_shown (set_at cache line) line)

  pub sound-touched : IsSound ways touched_lines marks writes
  sound-touched =
      sound-with (fronted number_of (set_at cache line) line) (touched (residency_of cache) line) marks writes
      residency-touched
      (well_formed-touched ways (residency_of cache) line sound.well_formed)
      (total-fronted unnamed cache line some once ∙ sound.named)
      (sound.marked ∙ sym (total-touched mark_of ways (residency_of cache) line sound.well_formed))
      (sound.written ∙ sym (total-touched write_of ways (residency_of cache) line sound.well_formed))

  pub slots-touched : SameSlots cache touched_lines
  slots-touched g = total-fronted (λ l. g l.slot) cache line some once

  pub is_touched : (owner : ℕ) (pool : Pooled)
      → IsTouched (lent pool (shown_cache ways owner cache)) (lent pool (shown_cache ways owner touched_lines)) line
  is_touched owner pool = record {
    ways = refl;
    residency = residency-touched;
    copies = λ l.
        same_copy pool ways owner cache touched_lines l
        (line_at-with_other cache line (fronted number_of (set_at cache line) line) l some
        (found-fronted number_of (set_at cache line) line l));
  }

  -- it left
  abbrev pub lines_without : List (List code.Line)
  lines_without = with_lines cache line (without number_of (set_at cache line) line)

  residency-without : residency_of lines_without ≡ without_line (residency_of cache) line
  residency-without =
      residency-after (without number_of (set_at cache line) line) (λ set. dropped set line)
      (dropped_shown (set_at cache line) line)

  pub sound-without : (new_marks new_writes : ℕ) → new_marks ≡ marks_of (without_line (residency_of cache) line)
      → new_writes ≡ write_bits_of (without_line (residency_of cache) line) →
      IsSound ways lines_without new_marks new_writes
  sound-without new_marks new_writes counted written =
      sound-with (without number_of (set_at cache line) line) (without_line (residency_of cache) line) new_marks
      new_writes residency-without
      (well_formed-without_line ways (residency_of cache) line sound.well_formed)
      (omega (arith, total-without unnamed cache line some once, sound.named))
      counted written

  pub is_without : (owner : ℕ) (pool : Pooled)
      → IsWithout (lent pool (shown_cache ways owner cache)) (lent pool (shown_cache ways owner lines_without)) line
  is_without owner pool = record {
    ways = refl;
    residency = residency-without;
    here =
        copy_shown pool ways owner lines_without line
        ∙ ap (option_map (copy_of pool))
        (line_at-with_same cache line (without number_of (set_at cache line) line) line some refl
        ∙ found-without_same number_of (set_at cache line) line);
    others = λ l other.
        same_copy pool ways owner cache lines_without l
        (line_at-with_other cache line (without number_of (set_at cache line) line) l some
        (found-without_other number_of (set_at cache line) line l other));
  }

-- a change of a way in the code, of the way that it shows, and of the copy that the cache has
pub record IsChange (code_change : known.Way → known.Way) (change : Way → Way)
    (copy_change : Copy → Copy) : Type 0 where
  pub shown : (way : known.Way) → shown_way (code_change way) ≡ change (shown_way way)
  pub line : (way : known.Way) → (code_change way).line ≡ way.line
  pub named : (way : known.Way) → ltb 3 way.bits.0 ≡ false → ltb 3 (code_change way).bits.0 ≡ false
  pub copy : (pool : Pooled) (l : code.Line) → copy_of pool (with_way code_change l) ≡ copy_change (copy_of pool l)

module _ (code_change : known.Way → known.Way) (change : Way → Way) (copy_change : Copy → Copy)
    (is : IsChange code_change change copy_change)
    (ways marks writes : ℕ) (cache : List (List code.Line)) (line : ℕ) (sound : IsSound ways cache marks writes) where
  abbrev changed_set : List code.Line
  changed_set = changed number_of (with_way code_change) (set_at cache line) line

  abbrev pub changed_lines : List (List code.Line)
  changed_lines = with_lines cache line changed_set

  same_number : (l : code.Line) → number_of (with_way code_change l) ≡ number_of l
  same_number l = ap (λ n. n.number) (is.line l.way)

  residency-changed : residency_of changed_lines ≡ with_set (residency_of cache) line
      (changed_in change (set_of (residency_of cache) line) line)
  residency-changed =
      residency-after ways marks writes cache line sound changed_set (λ set. changed_in change set line)
      (changed_in-changed change (map shown_line (set_at cache line)) line
      ∙ changed-map number_of line_of shown_line (λ l. refl) (with_way code_change) change (set_at cache line) line
      (λ l. is.shown l.way))

  named-changed : total unnamed changed_lines ≡ 0
  named-changed =
      omega (
        arith,
        total-changed unnamed cache line (some ways marks writes cache line sound)
            (once ways marks writes cache line sound) (with_way code_change),
        sound.named,
        by_line (line_at cache line) refl,
      )
    where
      by_line : (l : Option code.Line) → line_at cache line ≡ l →
          option_map_or (λ x. unnamed (with_way code_change x)) l 0 ≡ 0
      by_line None none = refl
      by_line (Some l) there =
          let few = part-at unnamed cache line (some ways marks writes cache line sound) l there in
          let own : ltb 3 l.way.bits.0 ≡ false = grind (arith, nat_tests, few, sound.named) in
          ap one_if (is.named l.way own)

  pub sound-changed : (residency : List (List Way)) (new_marks new_writes : ℕ)
      → with_set (residency_of cache) line (changed_in change (set_of (residency_of cache) line) line) ≡ residency →
      IsWellFormed ways residency
      → new_marks ≡ marks_of residency → new_writes ≡ write_bits_of residency →
      IsSound ways changed_lines new_marks new_writes
  sound-changed residency new_marks new_writes same kept counted written =
      sound-with ways marks writes cache line sound changed_set residency new_marks new_writes
      (residency-changed ∙ same) kept named-changed
      counted written

  pub slots-changed : SameSlots cache changed_lines
  slots-changed g =
      total-kept (λ l. g l.slot) cache line (some ways marks writes cache line sound)
      (once ways marks writes cache line sound)
      (with_way code_change) (λ l. refl)

  pub changed-here : (owner : ℕ) (pool : Pooled) → copy_in (lent pool (shown_cache ways owner changed_lines)) line
      ≡ option_map copy_change (copy_in (lent pool (shown_cache ways owner cache)) line)
  changed-here owner pool =
      copy_shown pool ways owner changed_lines line
      ∙ ap (option_map (copy_of pool))
      (line_at-with_same cache line changed_set line (some ways marks writes cache line sound) refl
      ∙ found-changed_same number_of (with_way code_change) (set_at cache line) line same_number)
      ∙ both (line_at cache line) ∙ ap (option_map copy_change) (sym (copy_shown pool ways owner cache line))
    where
      both : (l : Option code.Line) → option_map (copy_of pool) (option_map (with_way code_change) l)
          ≡ option_map copy_change (option_map (copy_of pool) l)
      both None = refl
      both (Some l) = ap Some (is.copy pool l)

  pub changed-others : (owner : ℕ) (pool : Pooled) (l : ℕ) → l ≢ line →
      copy_in (lent pool (shown_cache ways owner changed_lines)) l
      ≡ copy_in (lent pool (shown_cache ways owner cache)) l
  changed-others owner pool l other =
      same_copy pool ways owner cache changed_lines l
      (line_at-with_other cache line changed_set l (some ways marks writes cache line sound)
      (found-changed_other number_of (with_way code_change) (set_at cache line) line l same_number other))

-- it got another letter
letters : (letter : Letter) → IsChange (lettered_way letter) (with_letter letter) (copy_with_letter letter)
letters letter = record { shown = λ way. refl; line = λ way. refl; named = λ way named. named; copy = λ pool l. refl }

-- it got a bit
marks_with : (need : Need) → IsChange (marked_way need) (with_bit need) (λ copy. copy)
marks_with need = record {
  shown = shown_marked need;
  line = λ way. refl;
  named = λ way named. named-with_need need way.bits.0 named;
  copy = λ pool l. refl;
}

module _ (ways marks writes : ℕ) (cache : List (List code.Line)) (line : ℕ)
    (sound : IsSound ways cache marks writes) where
  module _ (letter : Letter) where
    abbrev pub lettered_lines : List (List code.Line)
    lettered_lines = with_lines cache line (changed number_of (with_way (lettered_way letter)) (set_at cache line) line)

    pub sound-lettered : letter ≢ I → IsSound ways lettered_lines marks writes
    sound-lettered valid =
        sound-changed (lettered_way letter) (with_letter letter) (copy_with_letter letter) (letters letter) ways marks
        writes cache line sound
        (lettered (residency_of cache) line letter) marks writes refl
        (well_formed-lettered ways (residency_of cache) line letter valid sound.well_formed)
        (sound.marked
        ∙ sym (total-lettered mark_of ways (residency_of cache) line letter sound.well_formed (λ way. refl)))
        (sound.written
        ∙ sym (total-lettered write_of ways (residency_of cache) line letter sound.well_formed (λ way. refl)))

    pub slots-lettered : SameSlots cache lettered_lines
    slots-lettered =
        slots-changed (lettered_way letter) (with_letter letter) (copy_with_letter letter) (letters letter) ways marks
        writes cache line sound

    pub is_lettered : (owner : ℕ) (pool : Pooled)
        → IsLettered (lent pool (shown_cache ways owner cache))
        (lent pool (shown_cache ways owner lettered_lines)) line letter
    is_lettered owner pool = record {
      ways = refl;
      residency =
          residency-changed (lettered_way letter) (with_letter letter) (copy_with_letter letter) (letters letter) ways
          marks writes cache line sound;
      here =
          changed-here (lettered_way letter) (with_letter letter) (copy_with_letter letter) (letters letter) ways marks
          writes cache line sound
          owner pool;
      others =
          changed-others (lettered_way letter) (with_letter letter) (copy_with_letter letter) (letters letter) ways
          marks writes cache line sound
          owner pool;
    }

  module _ (need : Need) where
    abbrev pub marked_lines : List (List code.Line)
    marked_lines = with_lines cache line (changed number_of (with_way (marked_way need)) (set_at cache line) line)

    pub sound-marked : (new_marks new_writes : ℕ) → new_marks ≡ marks_of (marked (residency_of cache) line need)
        → new_writes ≡ write_bits_of (marked (residency_of cache) line need) →
        IsSound ways marked_lines new_marks new_writes
    sound-marked new_marks new_writes counted written =
        sound-changed (marked_way need) (with_bit need) (λ copy. copy) (marks_with need) ways marks writes
        cache line sound
        (marked (residency_of cache) line need) new_marks new_writes refl
        (well_formed-marked ways (residency_of cache) line need sound.well_formed) counted written

    pub slots-marked : SameSlots cache marked_lines
    slots-marked =
        slots-changed (marked_way need) (with_bit need) (λ copy. copy) (marks_with need) ways marks writes
        cache line sound

    pub is_marked : (owner : ℕ) (pool : Pooled)
        → IsMarked (lent pool (shown_cache ways owner cache))
        (lent pool (shown_cache ways owner marked_lines)) line need
    is_marked owner pool = record {
      ways = refl;
      residency =
          residency-changed (marked_way need) (with_bit need) (λ copy. copy) (marks_with need) ways marks writes
          cache line sound;
      copies = λ l. elim (cases_eq l line) [
        | inl same ↦
            subst (λ n. copy_in (lent pool (shown_cache ways owner marked_lines)) n
            ≡ copy_in (lent pool (shown_cache ways owner cache)) n)
            (sym same)
            (changed-here (marked_way need) (with_bit need) (λ copy. copy) (marks_with need) ways marks writes cache
            line sound owner pool
            ∙ unchanged (copy_in (lent pool (shown_cache ways owner cache)) line))
        | inr other ↦
            changed-others (marked_way need) (with_bit need) (λ copy. copy) (marks_with need) ways marks writes cache
            line sound owner pool l other
      ];
    }
      where
        unchanged : (copy : Option Copy) → option_map (λ c. c) copy ≡ copy
        unchanged None = refl
        unchanged (Some copy) = refl
