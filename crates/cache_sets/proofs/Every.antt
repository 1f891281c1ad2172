-- A step that changes the way of every line of a cache, and leaves no bits.
use Rattle.std.specs.Int.{IsPowerOfTwo}
use Rattle.std.proofs.Common.{◌≡◌, ℕ, suc, ◌%◌, ◌<◌, Bool, true, false, cond, ltb, List, [], ◌∷◌, length, map, get_or}
use Rattle.std.proofs.Common.{Option, None, Some, option_map}
use Rattle.std.proofs.Common.{refl, ap, sym, subst, ◌∙◌, arith}
use Rattle.std.specs.Prelude.{Vec}
use Rattle.std.specs.Vec.{with_items}
use Rattle.std.specs.declared.alloc.Global.{Global}
use Rattle.std.proofs.lemmas.List.{get_or-map, length-map, with_items_is}
use Rattle.moesi.specs.declared.letter.Letter.TheVariants.{M}
use Rattle.el_base.specs.declared.outcomes.Need.TheVariants.{Write}
use Rattle.line_pool.specs.Pooled.{Pooled}
use Rattle.line_pool.specs.Pooled as pools
use Rattle.cache_sets.specs.declared.line.Line as code
use Rattle.cache_sets.specs.declared.set.Set.{Set}
use Rattle.cache_sets.specs.declared.way.Way as known
use Rattle.residency.specs.Cache.{bit_in, cleared, committed, committed_way as spec_committed, write_bit, write_bits_of}
use Rattle.cache_sets.specs.Cached.{copy_in, copy_with_letter}
use Rattle.cache_sets.specs.Calls.{IsCleared, IsCommitted}
use Rattle.residency.specs.Keyed.{found}
use Rattle.cache_sets.specs.Kept.{AreChanged, HaveRoom, IsSound, CacheStands, cleared_way, committed_way, line_at}
use Rattle.cache_sets.specs.Kept.{lines_of, number_of, residency_of}
use Rattle.cache_sets.specs.Kept.{set_at, shown_cache, shown_line, shown_way, with_way}
use Rattle.residency.specs.Cache.{marks_of}
use Rattle.residency.specs.Residency.{Way, without_bits}
use Rattle.cache_sets.specs.Slotted.{IsLent, Slotted, lent}
use Rattle.residency.specs.WellFormed.{IsWellFormed}
use Rattle.cache_sets.proofs.After.{between}
use Rattle.cache_sets.proofs.Changes.{some, unnamed}
use Rattle.residency.proofs.Laws.KeyedLemmas.{found-map}
use Rattle.residency.proofs.Laws.MarkLemmas.{marks_of-cleared, marks_of-committed, one_if, write_bits_of-cleared}
use Rattle.residency.proofs.Laws.MarkLemmas.{write_bits_of-committed}
use Rattle.cache_sets.proofs.Shown.{copy_of, copy_shown, way_of_shown}
use Rattle.cache_sets.proofs.Slots.{SameSlots, lent-moved}
use Rattle.cache_sets.proofs.Totals.{total-map, total-none}
use Rattle.residency.proofs.Laws.WellFormedLemmas.{well_formed-cleared, well_formed-committed}

-- the lines of sets that were all changed, and their room
pub lines-changed : (change : known.Way → known.Way) (old new : List Set) → AreChanged change old new
    → lines_of new ≡ map (map (with_way change)) (lines_of old)
lines-changed change [] [] changed = refl
lines-changed change [] (set ∷ sets) changed = absurd (omega (arith, changed.count))
lines-changed change (set ∷ sets) [] changed = absurd (omega (arith, changed.count))
lines-changed change (set ∷ sets) (other ∷ others) changed =
    ap (λ lines. lines ∷ lines_of others) (changed.each 0 set (omega arith)).lines
    ∙ ap (λ rest. map (with_way change) set.lines.items ∷ rest)
    (lines-changed change sets others
    (record {
      count = omega (arith, changed.count);
      each = λ k d within. changed.each (suc k) d (omega (arith, within));
    }))

pub room-changed : (change : known.Way → known.Way) (ways : ℕ) (old new : List Set) → AreChanged change old new →
    HaveRoom ways old
    → HaveRoom ways new
room-changed change ways old new changed room k d within =
    omega (
      arith,
      room k d (omega (arith, within, changed.count)),
      (changed.each k d (omega (arith, within, changed.count))).room,
    )

-- a change of a way in the code, and of the way that it shows
record Clears (change : known.Way → known.Way) (shown_change : Way → Way) : Type 0 where
  shown : (way : known.Way) → shown_way (change way) ≡ shown_change (shown_way way)
  line : (way : known.Way) → (change way).line ≡ way.line
  named : (way : known.Way) → ltb 3 (change way).bits.0 ≡ false

module _ (change : known.Way → known.Way) (shown_change : Way → Way) (clears : Clears change shown_change) where
  lines_shown : (lines : List code.Line) →
      map shown_line (map (with_way change) lines) ≡ map shown_change (map shown_line lines)
  lines_shown [] = refl
  lines_shown (l ∷ lines) =
      ap (λ w. w ∷ map shown_line (map (with_way change) lines)) (clears.shown l.way)
      ∙ ap (λ ws. shown_change (shown_line l) ∷ ws) (lines_shown lines)

  residency_shown : (cache : List (List code.Line)) → residency_of (map (map (with_way change)) cache)
      ≡ map (map shown_change) (residency_of cache)
  residency_shown [] = refl
  residency_shown (set ∷ cache) =
      ap (λ s. s ∷ residency_of (map (map (with_way change)) cache)) (lines_shown set)
      ∙ ap (λ ss. map shown_change (map shown_line set) ∷ ss) (residency_shown cache)

  line_at-every : (cache : List (List code.Line)) (line : ℕ) → 0 < length cache
      → line_at (map (map (with_way change)) cache) line ≡ option_map (with_way change) (line_at cache line)
  line_at-every cache line some =
      ap (λ n. found number_of (get_or (map (map (with_way change)) cache) (line % n) []) line)
      (length-map cache (map (with_way change)))
      ∙ ap (λ set. found number_of set line)
      (get_or-map (map (with_way change)) cache (line % length cache) [] [] (omega arith))
      ∙ found-map number_of number_of (with_way change) (λ l. ap (λ n. n.number) (clears.line l.way))
      (set_at cache line) line

  sound-every : (ways marks writes : ℕ) (cache : List (List code.Line)) (residency : List (List Way)) →
      IsSound ways cache marks writes
      → map (map shown_change) (residency_of cache) ≡ residency → IsWellFormed ways residency → 0 ≡ marks_of residency
      → 0 ≡ write_bits_of residency → IsSound ways (map (map (with_way change)) cache) 0 0
  sound-every ways marks writes cache residency sound is kept marked written =
      let there : residency_of (map (map (with_way change)) cache) ≡ residency = residency_shown cache ∙ is in
      record {
        some_way = sound.some_way;
        ways_fit = sound.ways_fit;
        sets_fit = omega (arith, sound.sets_fit, length-map cache (map (with_way change)));
        well_formed = subst (IsWellFormed ways) (sym there) kept;
        named = total-map unnamed (with_way change) cache
            ∙ total-none (λ l. unnamed (with_way change l)) cache (λ l. ap one_if (clears.named l.way));
        marked = marked ∙ ap marks_of (sym there);
        written = written ∙ ap write_bits_of (sym there);
      }

  copy-every : (pool : Pooled) (ways owner : ℕ) (cache : List (List code.Line)) (line : ℕ) → 0 < length cache
      → copy_in (lent pool (shown_cache ways owner (map (map (with_way change)) cache))) line
      ≡ option_map (λ l. copy_of pool (with_way change l)) (line_at cache line)
  copy-every pool ways owner cache line some =
      copy_shown pool ways owner (map (map (with_way change)) cache) line
      ∙ ap (option_map (copy_of pool)) (line_at-every cache line some) ∙ both (line_at cache line)
    where
      both : (l : Option code.Line) → option_map (copy_of pool) (option_map (with_way change) l)
          ≡ option_map (λ x. copy_of pool (with_way change x)) l
      both None = refl
      both (Some l) = refl

pub slots-every : (change : known.Way → known.Way) (cache : List (List code.Line)) →
    SameSlots cache (map (map (with_way change)) cache)
slots-every change cache g = total-map (λ l. g l.slot) (with_way change) cache

-- no line has a bit
clears_bits : Clears cleared_way without_bits
clears_bits = record { shown = λ way. refl; line = λ way. refl; named = λ way. refl }

-- the written lines are modified, and no line has a bit
commits_bits : Clears committed_way spec_committed
commits_bits = record { shown = λ way. refl; line = λ way. refl; named = λ way. refl }

-- the copy of a line after a commit: modified where it is written
copy_committed : (pool : Pooled) (l : Option code.Line) (write : Bool) → bit_in Write (option_map shown_line l) ≡ write
    → option_map (λ x. copy_of pool (with_way committed_way x)) l
    ≡ cond write (option_map (copy_with_letter M) (option_map (copy_of pool) l)) (option_map (copy_of pool) l)
copy_committed pool None true is = refl
copy_committed pool None false is = refl
copy_committed pool (Some l) true is =
    ap (λ b. Some (record { letter = cond b M l.way.letter; bytes = pools.bytes_of pool l.slot })) is
copy_committed pool (Some l) false is =
    ap (λ b. Some (record { letter = cond b M l.way.letter; bytes = pools.bytes_of pool l.slot })) is

module _ (ways marks writes : ℕ) (cache : List (List code.Line)) (sound : IsSound ways cache marks writes) where
  pub sound-cleared : IsSound ways (map (map (with_way cleared_way)) cache) 0 0
  sound-cleared =
      sound-every cleared_way without_bits clears_bits ways marks writes cache (cleared (residency_of cache)) sound refl
      (well_formed-cleared ways (residency_of cache) sound.well_formed)
      (sym (marks_of-cleared (residency_of cache))) (sym (write_bits_of-cleared (residency_of cache)))

  pub is_cleared : (owner : ℕ) (pool : Pooled) → IsCleared (lent pool (shown_cache ways owner cache))
      (lent pool (shown_cache ways owner (map (map (with_way cleared_way)) cache)))
  is_cleared owner pool = record {
    ways = refl;
    residency = residency_shown cleared_way without_bits clears_bits cache;
    copies = λ l.
        copy-every cleared_way without_bits clears_bits pool ways owner cache l (some ways marks writes cache l sound)
        ∙ sym (copy_shown pool ways owner cache l);
  }

  pub sound-committed : IsSound ways (map (map (with_way committed_way)) cache) 0 0
  sound-committed =
      sound-every committed_way spec_committed commits_bits ways marks writes cache
      (committed (residency_of cache)) sound refl
      (well_formed-committed ways (residency_of cache) sound.well_formed)
      (sym (marks_of-committed (residency_of cache))) (sym (write_bits_of-committed (residency_of cache)))

  copy_after : (owner : ℕ) (pool : Pooled) (line : ℕ) (write : Bool) → write_bit (residency_of cache) line ≡ write
      → copy_in (lent pool (shown_cache ways owner (map (map (with_way committed_way)) cache))) line
      ≡ cond write (option_map (copy_with_letter M) (copy_in (lent pool (shown_cache ways owner cache)) line))
      (copy_in (lent pool (shown_cache ways owner cache)) line)
  copy_after owner pool line write is =
      copy-every committed_way spec_committed commits_bits pool ways owner cache line
      (some ways marks writes cache line sound)
      ∙ copy_committed pool (line_at cache line) write (ap (bit_in Write) (sym (way_of_shown cache line)) ∙ is)
      ∙ ap (λ copy. cond write (option_map (copy_with_letter M) copy) copy)
      (sym (copy_shown pool ways owner cache line))

  pub is_committed : (owner : ℕ) (pool : Pooled) → IsCommitted (lent pool (shown_cache ways owner cache))
      (lent pool (shown_cache ways owner (map (map (with_way committed_way)) cache)))
  is_committed owner pool = record {
    ways = refl;
    residency = residency_shown committed_way spec_committed commits_bits cache;
    written = λ l bit. copy_after owner pool l true bit;
    others = λ l none. copy_after owner pool l false none;
  }

-- the fields after a call that changed every set
module _ {ways owner marks writes : ℕ} (sets : Vec Set Global) {slice : List Set} (new : List Set) {v : Slotted}
    (stands : CacheStands ways sets.items marks writes)
    (is : shown_cache ways owner (lines_of sets.items) ≡ v) (same : slice ≡ sets.items) where
  abbrev cache : List (List code.Line)
  cache = lines_of sets.items

  abbrev after : Slotted
  after = shown_cache ways owner (lines_of (with_items sets new).items)

  module _ (change : known.Way → known.Way) (changed : AreChanged change slice new) where
    whole : (with_items sets new).items ≡ new
    whole = with_items_is sets new (omega (arith, changed.count, ap length same, sets.ok.0))

    of_all : AreChanged change sets.items new
    of_all = subst (λ s. AreChanged change s new) same changed

    lines_are : lines_of (with_items sets new).items ≡ map (map (with_way change)) cache
    lines_are = ap lines_of whole ∙ lines-changed change sets.items new of_all

    after_is : after ≡ shown_cache ways owner (map (map (with_way change)) cache)
    after_is = ap (shown_cache ways owner) lines_are

    stands-after : IsSound ways (map (map (with_way change)) cache) 0 0 →
        CacheStands ways (with_items sets new).items 0 0
    stands-after sound = record {
      binary = subst IsPowerOfTwo (sym (ap length whole ∙ changed.count ∙ ap length same)) stands.binary;
      sound = subst (λ c. IsSound ways c 0 0) (sym lines_are) sound;
      room = subst (HaveRoom ways) (sym whole) (room-changed change ways sets.items new of_all stands.room);
    }

    lent-after : (pool : Pooled) → IsLent pool v → IsLent pool after
    lent-after pool =
        between (λ a b. IsLent pool a → IsLent pool b) _ _ _ _ is after_is
        (lent-moved pool ways owner cache (map (map (with_way change)) cache) (length-map cache (map (with_way change)))
        (slots-every change cache))

  module _ (changed : AreChanged cleared_way slice new) where
    pub stands-cleared : CacheStands ways (with_items sets new).items 0 0
    stands-cleared = stands-after cleared_way changed (sound-cleared ways marks writes cache stands.sound)

    pub cleared-after : (pool : Pooled) → IsCleared (lent pool v) (lent pool after)
    cleared-after pool =
        between (λ a b. IsCleared (lent pool a) (lent pool b)) _ _ _ _ is (after_is cleared_way changed)
        (is_cleared ways marks writes cache stands.sound owner pool)

    pub lent-cleared : (pool : Pooled) → IsLent pool v → IsLent pool after
    lent-cleared = lent-after cleared_way changed

  module _ (changed : AreChanged committed_way slice new) where
    pub stands-committed : CacheStands ways (with_items sets new).items 0 0
    stands-committed = stands-after committed_way changed (sound-committed ways marks writes cache stands.sound)

    pub committed-after : (pool : Pooled) → IsCommitted (lent pool v) (lent pool after)
    committed-after pool =
        between (λ a b. IsCommitted (lent pool a) (lent pool b)) _ _ _ _ is (after_is committed_way changed)
        (is_committed ways marks writes cache stands.sound owner pool)

    pub lent-committed : (pool : Pooled) → IsLent pool v → IsLent pool after
    lent-committed = lent-after committed_way changed
