-- What a call reads of a line in the fields of a cache.
use Rattle.std.proofs.Common.{◌≡◌, ℕ, ◌<◌, false, true, ltb, List, length, map, Option, None, Some, option_map}
use Rattle.std.proofs.Common.{is_some, refl, ap, sym, subst, ◌∙◌, arith}
use Rattle.std.specs.Option.{option_map_or}
use Rattle.std.proofs.lemmas.Bool.Decides.{nat_tests}
use Rattle.std.proofs.lemmas.Option.{same_Some}
use Rattle.line_pool.specs.declared.slot.Slot.{Slot}
use Rattle.line_pool.specs.Calls.{IsWritten}
use Rattle.line_pool.specs.Pooled.{Pooled, is_out, no_slot}
use Rattle.line_pool.specs.Pooled as pools
use Rattle.cache_sets.specs.declared.line.Line as code
use Rattle.cache_sets.specs.declared.set.Set.{Set}
use Rattle.cache_sets.specs.declared.way.Way as known
use Rattle.cache_sets.specs.Bits.{bits_of}
use Rattle.residency.specs.Cache.{has_marks, is_resident, set_of, way_of}
use Rattle.cache_sets.specs.Cached.{bytes_of}
use Rattle.cache_sets.specs.Calls.{IsCached}
use Rattle.cache_sets.specs.Kept.{CacheStands, line_at, lines_of, residency_of, set_at, shown_cache, shown_line}
use Rattle.cache_sets.specs.Kept.{shown_way, slot_in_use}
use Rattle.cache_sets.specs.Slotted.{IsLent, IsWrittenIn, Slotted, lent, slot_of}
use Rattle.cache_sets.proofs.BitLemmas.{bits_of_shown}
use Rattle.cache_sets.proofs.Changes.{some, unnamed}
use Rattle.cache_sets.proofs.Loans.{bytes-used, is_cached, resident-at, slot-used, written-in}
use Rattle.residency.proofs.Laws.MarkLemmas.{has_marks-counted}
use Rattle.cache_sets.proofs.Shown.{set_of_shown, slot_shown, way_of_shown}
use Rattle.cache_sets.proofs.Slots.{out-at}
use Rattle.cache_sets.proofs.Totals.{part-at}

module _ {ways owner marks writes : ℕ} {sets : List Set} {v : Slotted} (stands : CacheStands ways sets marks writes)
    (is : shown_cache ways owner (lines_of sets) ≡ v) where
  abbrev cache : List (List code.Line)
  cache = lines_of sets

  some_set : 0 < length cache
  some_set = some ways marks writes cache 0 stands.sound

  pub cached-always : (pool : Pooled) → IsCached (lent pool v)
  cached-always pool =
      subst (λ w. IsCached (lent pool w)) is (is_cached ways marks writes owner cache pool stands.sound)

  pub some-marks : ltb 0 marks ≡ has_marks v.residency
  some-marks =
      let counted = has_marks-counted (residency_of cache) in
      let here : ltb 0 marks ≡ has_marks (residency_of cache) =
      grind (arith, nat_tests, stands.sound.marked, counted) in
      here ∙ ap (λ w. has_marks w.residency) is

  module _ {slice : List Set} (same : slice ≡ sets) (line : ℕ) where
    -- the set of a line, its way and its bits
    pub set-found : (lines : List code.Line) → lines ≡ set_at (lines_of slice) line →
        map shown_line lines ≡ set_of v.residency line
    set-found lines read =
        ap (map shown_line) (read ∙ ap (λ s. set_at (lines_of s) line) same) ∙ sym (set_of_shown cache line)
        ∙ ap (λ w. set_of w.residency line) is

    line-found : line_at (lines_of slice) line ≡ line_at cache line
    line-found = ap (λ s. line_at (lines_of s) line) same

    pub way-found : (way : Option known.Way) → way ≡ option_map (λ l. l.way) (line_at (lines_of slice) line)
        → way_of v.residency line ≡ option_map shown_way way
    way-found way found =
        ap (λ w. way_of w.residency line) (sym is) ∙ way_of_shown cache line ∙ both (line_at cache line)
        ∙ ap (option_map shown_way) (ap (option_map (λ (l : code.Line). l.way)) (sym line-found) ∙ sym found)
      where
        both : (l : Option code.Line) → option_map shown_line l ≡ option_map shown_way (option_map (λ x. x.way) l)
        both None = refl
        both (Some l) = refl

    pub bits-found : (way : known.Way) → Some way ≡ option_map (λ l. l.way) (line_at (lines_of slice) line)
        → way.bits ≡ bits_of (way_of v.residency line)
    bits-found way found =
        by_line (line_at cache line) refl (found ∙ ap (option_map (λ (l : code.Line). l.way)) line-found)
      where
        by_line : (l : Option code.Line) → line_at cache line ≡ l → Some way ≡ option_map (λ x. x.way) l
            → way.bits ≡ bits_of (way_of v.residency line)
        by_line None there own = absurd cc
        by_line (Some l) there own =
            let few = part-at unnamed cache line some_set l there in
            let named : ltb 3 l.way.bits.0 ≡ false = grind (arith, nat_tests, few, stands.sound.named) in
            let mine : way ≡ l.way = same_Some way l.way own in
            ap (λ (w : known.Way). w.bits) mine ∙ sym (bits_of_shown l.way named)
            ∙ ap (λ w. bits_of (Some (shown_way w))) (sym mine) ∙ sym (ap bits_of (way-found (Some way) found))

    -- a line that is there, and its slot
    module _ (resident : is_resident v.residency line ≡ true) where
      there : (l : code.Line) × (line_at cache line ≡ Some l)
      there = resident-at cache line (subst (λ w. is_resident w.residency line ≡ true) (sym is) resident)

      pub line-there : is_some (line_at (lines_of slice) line) ≡ true
      line-there = ap is_some (line-found ∙ there.1)

      module _ {pool : Pooled} (owes : IsLent pool v) {slot : Slot}
          (used : slot ≡ slot_in_use (lines_of slice) line) where
        owes_shown : IsLent pool (shown_cache ways owner cache)
        owes_shown = subst (IsLent pool) (sym is) owes

        slot_is : slot ≡ there.0.slot
        slot_is =
            used ∙ ap (λ l. option_map_or (λ (x : code.Line). x.slot) l no_slot) line-found
            ∙ slot-used ways marks writes owner cache pool stands.sound owes_shown line there.0 there.1

        pub used-out : is_out pool slot ≡ true
        used-out = ap (is_out pool) slot_is ∙ out-at pool ways owner cache some_set line there.0 there.1 owes_shown

        pub used-slot : slot ≡ slot_of v line
        used-slot =
            used ∙ ap (λ l. option_map_or (λ (x : code.Line). x.slot) l no_slot) line-found
            ∙ sym (slot_shown ways owner cache line)
            ∙ ap (λ w. slot_of w line) is

        pub used-bytes : pools.bytes_of pool slot ≡ bytes_of (lent pool v) line
        used-bytes =
            ap (pools.bytes_of pool) slot_is ∙ bytes-used ways marks writes owner cache pool stands.sound owes_shown
            line there.0 there.1
            ∙ ap (λ w. bytes_of (lent pool w) line) is

        pub used-written : (new : Pooled) (bytes : List ℕ) → IsWritten pool new slot bytes →
            IsWrittenIn pool new v line bytes
        used-written new bytes written =
            subst (λ w. IsWrittenIn pool new w line bytes) is
            (written-in ways marks writes owner cache pool stands.sound owes_shown line there.0 there.1 new bytes
            (subst (λ s. IsWritten pool new s bytes) slot_is written))
