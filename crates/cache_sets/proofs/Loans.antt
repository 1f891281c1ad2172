-- What a cache shows of a line by its slot, and the cache after the bytes of a slot of it were written.
use Rattle.std.proofs.Common.{◌≡◌, ◌≢◌, ℕ, zero, suc, ◌%◌, ◌<◌, true, cond, eqb, List, [], ◌∷◌, length, map, get_or}
use Rattle.std.proofs.Common.{Option, None, Some, option_map}
use Rattle.std.proofs.Common.{is_some, refl, ap, sym, subst, inl, inr, ◌∙◌, arith}
use Rattle.std.specs.Option.{option_map_or}
use Rattle.std.specs.Prelude.{slice_index, slice_set}
use Rattle.std.proofs.lemmas.Bool.{cases_eq}
use Rattle.std.proofs.lemmas.Bool.Decides.{nat_tests}
use Rattle.std.proofs.lemmas.List.{get_or-map, length-map}
use Rattle.std.proofs.lemmas.Option.{same_Some}
use Rattle.std.proofs.Math.Nat.{mod-eq_of_lt}
use Rattle.line_pool.specs.declared.slot.Slot.{Slot}
use Rattle.line_pool.specs.Calls.{IsWritten}
use Rattle.line_pool.specs.Others.{LeavesOthers}
use Rattle.line_pool.specs.Pooled.{Pooled, bytes_of, no_slot}
use Rattle.line_pool.proofs.Laws.{has-out, keeps-written}
use Rattle.line_pool.proofs.Laws.OtherLaws.{leaves-written}
use Rattle.cache_sets.specs.declared.line.Line as code
use Rattle.residency.specs.Cache.{is_resident, set_number, set_of}
use Rattle.cache_sets.specs.Cached as caches
use Rattle.cache_sets.specs.Cached.{put_in}
use Rattle.cache_sets.specs.Calls.{IsCached}
use Rattle.cache_sets.specs.Calls as calls
use Rattle.residency.specs.Keyed.{count_of, found}
use Rattle.cache_sets.specs.Kept.{IsSound, line_at, number_of, residency_of, set_at, shown_cache, shown_line}
use Rattle.cache_sets.specs.Kept.{slot_in_use}
use Rattle.residency.specs.Residency.{way_in}
use Rattle.cache_sets.specs.Slotted.{IsLent, IsWrittenIn, lent, slots_of}
use Rattle.cache_sets.proofs.Changes.{some}
use Rattle.residency.proofs.Laws.KeyedLemmas.{found_at}
use Rattle.cache_sets.proofs.Shown.{bytes_shown, once_at, set_of_shown, way_in_shown, way_of_shown}
use Rattle.cache_sets.proofs.Slots.{out-at, owner-at, slots-apart}
use Rattle.cache_sets.proofs.WrittenLines.{is_written}

-- what holds of every cache with its bytes
bytes_of_each : (bytes : Slot → List ℕ) (cache : List (List code.Line))
    → map length (map (λ set. map bytes set) (map (λ set. map (λ (l : code.Line). l.slot) set) cache))
    ≡ map length (residency_of cache)
bytes_of_each bytes [] = refl
bytes_of_each bytes (set ∷ cache) =
    let slots : List Slot = map (λ l. l.slot) set in
    ap (λ n. n ∷ map length (map (λ s. map bytes s) (map (λ s. map (λ (l : code.Line). l.slot) s) cache)))
    (length-map slots bytes ∙ length-map set (λ (l : code.Line). l.slot) ∙ sym (length-map set shown_line))
    ∙ ap (λ sizes. length (map shown_line set) ∷ sizes) (bytes_of_each bytes cache)

pub is_cached : (ways marks writes owner : ℕ) (cache : List (List code.Line)) (pool : Pooled) →
    IsSound ways cache marks writes
    → IsCached (lent pool (shown_cache ways owner cache))
is_cached ways marks writes owner cache pool sound = record {
  well_formed = sound.well_formed;
  some_way = sound.some_way;
  ways_fit = sound.ways_fit;
  sets_fit = omega (arith, sound.sets_fit, length-map cache (map shown_line));
  each_has_bytes = bytes_of_each (bytes_of pool) cache;
}

-- a line that is there
pub resident-at : (cache : List (List code.Line)) (line : ℕ) → is_resident (residency_of cache) line ≡ true
    → (l : code.Line) × (line_at cache line ≡ Some l)
resident-at cache line resident =
    by_line (line_at cache line) refl (ap is_some (sym (way_of_shown cache line)) ∙ resident)
  where
    by_line : (l : Option code.Line) → line_at cache line ≡ l → is_some (option_map shown_line l) ≡ true
        → (x : code.Line) × (line_at cache line ≡ Some x)
    by_line None is there = absurd cc
    by_line (Some l) is there = (l, is)

-- a list of which one place alone is made in another way
module _ {X Y : Type 0} (F G : X → Y) where
  same_map : (xs : List X) (d : X) → ((j : ℕ) → j < length xs → F (get_or xs j d) ≡ G (get_or xs j d)) →
      map F xs ≡ map G xs
  same_map [] d each = refl
  same_map (x ∷ xs) d each =
      ap (λ y. y ∷ map F xs) (each 0 (omega arith))
      ∙ ap (λ ys. G x ∷ ys) (same_map xs d (λ j within. each (suc j) (omega (arith, within))))

  map_but_one : (xs : List X) (k : ℕ) (y : Y) (d : X) →
      ((j : ℕ) → j < length xs → j ≢ k → F (get_or xs j d) ≡ G (get_or xs j d))
      → (k < length xs → F (get_or xs k d) ≡ y) → map F xs ≡ slice_set (map G xs) k y
  map_but_one [] k y d others here = refl
  map_but_one (x ∷ xs) zero y d others here =
      ap (λ z. z ∷ map F xs) (here (omega arith))
      ∙ ap (λ ys. y ∷ ys)
      (same_map xs d (λ j within. others (suc j) (omega (arith, within)) (λ is. absurd (omega (arith, is)))))
  map_but_one (x ∷ xs) (suc k) y d others here =
      ap (λ z. z ∷ map F xs) (others 0 (omega arith) (λ is. absurd (omega (arith, is))))
      ∙ ap (λ ys. G x ∷ ys)
      (map_but_one xs k y d (λ j within apart. others (suc j) (omega (arith, within)) (λ is. apart (omega (arith, is))))
      (λ within. here (omega (arith, within))))

-- the bytes of a set, of which one line's were written
put_lines : (before after : Slot → List ℕ) (lines : List code.Line) (line : ℕ) (new : List ℕ)
    → ((k : ℕ) (d : code.Line) → k < length lines → after (get_or lines k d).slot
    ≡ (cond (eqb (number_of (get_or lines k d)) line) new (before (get_or lines k d).slot)))
    → map after (map (λ l. l.slot) lines) ≡ put_in (map shown_line lines)
    (map before (map (λ l. l.slot) lines)) line new
put_lines before after [] line new each = refl
put_lines before after (l ∷ lines) line new each =
    ap (λ b. b ∷ map after (map (λ (x : code.Line). x.slot) lines)) (each 0 l (omega arith))
    ∙ ap (λ bs. cond (eqb (number_of l) line) new (before l.slot) ∷ bs)
    (put_lines before after lines line new (λ k d within. each (suc k) d (omega (arith, within))))

module _ (ways marks writes owner : ℕ) (cache : List (List code.Line)) (pool : Pooled)
    (sound : IsSound ways cache marks writes)
    (owes : IsLent pool (shown_cache ways owner cache)) where
  some_set : 0 < length cache
  some_set = some ways marks writes cache 0 sound

  -- each line of each set is the line of its number
  module _ (j k : ℕ) (d : code.Line) (within : j < length cache) (inside : k < length (get_or cache j [])) where
    abbrev it : code.Line
    it = get_or (get_or cache j []) k d

    own_set : set_at cache j ≡ get_or cache j []
    own_set = ap (λ n. get_or cache n []) (mod-eq_of_lt within)

    found_here : found number_of (get_or cache j []) (number_of it) ≡ Some it
    found_here =
        found_at number_of (get_or cache j []) (number_of it) k d
        (omega (
          arith,
          once_at ways cache j (number_of it) sound.well_formed,
          ap (λ s. count_of number_of s (number_of it)) own_set,
        )) inside refl

    pub home_here : number_of it % length cache ≡ j
    home_here =
        let there : way_in (set_of (residency_of cache) j) (number_of it) ≡ Some (shown_line it) =
        ap (λ set. way_in set (number_of it)) (set_of_shown cache j ∙ ap (map shown_line) own_set)
        ∙ way_in_shown (get_or cache j []) (number_of it) ∙ ap (option_map shown_line) found_here in
        ap (λ n. number_of it % n) (sym (length-map cache (map shown_line)))
        ∙ sound.well_formed.home j (number_of it) (shown_line it) there
        ∙ ap (λ n. j % n) (length-map cache (map shown_line)) ∙ mod-eq_of_lt within

    pub line_here : line_at cache (number_of it) ≡ Some it
    line_here = ap (λ n. found number_of (get_or cache n []) (number_of it)) home_here ∙ found_here

  -- the slot of a line that is there
  module _ (line : ℕ) (l : code.Line) (is : line_at cache line ≡ Some l) where
    pub slot-used : slot_in_use cache line ≡ l.slot
    slot-used = ap (λ x. option_map_or (λ (l : code.Line). l.slot) x no_slot) is

    pub bytes-used : bytes_of pool l.slot ≡ caches.bytes_of (lent pool (shown_cache ways owner cache)) line
    bytes-used =
        sym (bytes_shown pool ways owner cache line
        ∙ ap (λ x. option_map_or (λ (l : code.Line). bytes_of pool l.slot) x []) is)

    module _ (new : Pooled) (bytes : List ℕ) (written : IsWritten pool new l.slot bytes) where
      -- what each line's bytes are then
      bytes_then : (j k : ℕ) (d : code.Line) → j < length cache → k < length (get_or cache j [])
          → bytes_of new (get_or (get_or cache j []) k d).slot
          ≡ cond (eqb (number_of (get_or (get_or cache j []) k d)) line) bytes
          (bytes_of pool (get_or (get_or cache j []) k d).slot)
      bytes_then j k d within inside =
          let x = get_or (get_or cache j []) k d in
          let there = line_here j k d within inside in
          elim (cases_eq (number_of x) line) [
            | inl same ↦
                let one : l ≡ x = same_Some l x (sym is ∙ ap (line_at cache) (sym same) ∙ there) in
                let here : bytes_of new x.slot ≡ bytes =
                ap (λ (y : code.Line). bytes_of new y.slot) (sym one) ∙ written.here in
                grind (arith, nat_tests, here)
            | inr other ↦
                let out = out-at pool ways owner cache some_set (number_of x) x there owes in
                let apart = slots-apart pool ways owner cache some_set line l is (number_of x) x
                (once_at ways cache line line sound.well_formed) other there owes in
                let beside = written.others x.slot (has-out pool x.slot out) apart in
                grind (arith, nat_tests, beside)
          ]

      -- no line of another set has the number
      bytes_beside : (j k : ℕ) (d : code.Line) → j < length cache → j ≢ line % length cache →
          k < length (get_or cache j [])
          → bytes_of new (get_or (get_or cache j []) k d).slot ≡ bytes_of pool (get_or (get_or cache j []) k d).slot
      bytes_beside j k d within other inside =
          let x = get_or (get_or cache j []) k d in
          let apart : number_of x ≢ line =
          λ same. other (sym (home_here j k d within inside) ∙ ap (λ n. n % length cache) same) in
          let later = bytes_then j k d within inside in
          grind (arith, nat_tests, later)

      with_them : lent new (shown_cache ways owner cache)
          ≡ caches.with_bytes (lent pool (shown_cache ways owner cache)) line bytes
      with_them =
          ap (λ rows. record { ways = ways; residency = residency_of cache; bytes = rows })
          (map_but_one (map (bytes_of new)) (map (bytes_of pool)) slots (set_number (residency_of cache) line) _ []
          (λ j within other. beside j (omega (arith, within, sizes)) (λ same. other (same ∙ sym place)))
          (λ within. here))
        where
          slots : List (List Slot)
          slots = map (λ set. map (λ (l : code.Line). l.slot) set) cache

          sizes : length slots ≡ length cache
          sizes = length-map cache (map (λ (l : code.Line). l.slot))

          place : set_number (residency_of cache) line ≡ line % length cache
          place = ap (λ n. line % n) (length-map cache (map shown_line))

          row : (j : ℕ) → j < length cache → get_or slots j [] ≡ map (λ l. l.slot) (get_or cache j [])
          row j within = get_or-map (map (λ (l : code.Line). l.slot)) cache j [] [] within

          slot_at : (j k : ℕ) (d : code.Line) → k < length (get_or cache j [])
              → get_or (map (λ l. l.slot) (get_or cache j [])) k d.slot ≡ (get_or (get_or cache j []) k d).slot
          slot_at j k d inside = get_or-map (λ (l : code.Line). l.slot) (get_or cache j []) k d d.slot inside

          beside : (j : ℕ) → j < length cache → j ≢ line % length cache
              → map (bytes_of new) (get_or slots j []) ≡ map (bytes_of pool) (get_or slots j [])
          beside j within other =
              ap (map (bytes_of new)) (row j within)
              ∙ same_map (bytes_of new) (bytes_of pool) (map (λ l. l.slot) (get_or cache j [])) l.slot
              (λ k inside. each k (omega (arith, inside, length-map (get_or cache j []) (λ (l : code.Line). l.slot))))
              ∙ ap (map (bytes_of pool)) (sym (row j within))
            where
              each : (k : ℕ) → k < length (get_or cache j []) →
                  bytes_of new (get_or (map (λ l. l.slot) (get_or cache j [])) k l.slot)
                  ≡ bytes_of pool (get_or (map (λ l. l.slot) (get_or cache j [])) k l.slot)
              each k inside =
                  ap (bytes_of new) (slot_at j k l inside) ∙ bytes_beside j k l within other inside
                  ∙ ap (bytes_of pool) (sym (slot_at j k l inside))

          here : map (bytes_of new) (get_or slots (set_number (residency_of cache) line) [])
              ≡ put_in (set_of (residency_of cache) line)
              (get_or (map (λ set. map (bytes_of pool) set) slots) (set_number (residency_of cache) line) []) line bytes
          here =
              let within : line % length cache < length cache = omega (arith, some_set) in
              let at : get_or slots (set_number (residency_of cache) line) [] ≡ map (λ l. l.slot) (set_at cache line) =
              ap (λ n. get_or slots n []) place ∙ row (line % length cache) within in
              let rows : get_or (map (λ set. map (bytes_of pool) set) slots) (set_number (residency_of cache) line) []
              ≡ map (bytes_of pool) (map (λ l. l.slot) (set_at cache line)) =
              get_or-map (map (bytes_of pool)) slots (set_number (residency_of cache) line) [] []
              (omega (arith, within, sizes, place))
              ∙ ap (map (bytes_of pool)) at in
              ap (map (bytes_of new)) at
              ∙ put_lines (bytes_of pool) (bytes_of new) (set_at cache line) line bytes
              (λ k d inside. bytes_then (line % length cache) k d within inside)
              ∙ ap (λ ways. put_in ways (map (bytes_of pool) (map (λ l. l.slot) (set_at cache line))) line bytes)
              (sym (set_of_shown cache line))
              ∙ ap (λ bs. put_in (set_of (residency_of cache) line) bs line bytes) (sym rows)

      pub written-in : IsWrittenIn pool new (shown_cache ways owner cache) line bytes
      written-in = record {
        with_them = with_them;
        written =
            subst (λ c. calls.IsWritten (lent pool (shown_cache ways owner cache)) c line bytes) (sym with_them)
            (is_written (lent pool (shown_cache ways owner cache)) line bytes
            (is_cached ways marks writes owner cache pool sound));
        kept = record {
          quota = ap (λ quotas. slice_index quotas owner) written.quotas ∙ owes.quota;
          keeps =
              keeps-written pool new owner (slots_of (shown_cache ways owner cache)) l.slot bytes owes.keeps written;
        };
        others =
            subst (λ o. LeavesOthers o pool new) (owner-at pool ways owner cache some_set line l is owes)
            (leaves-written pool new l.slot bytes written);
      }
