-- The fields of a cache as a line comes, and after it came.
use Rattle.std.proofs.Common.{◌≡◌, ◌≢◌, ℕ, ◌+◌, ◌*◌, ◌≤◌, ◌<◌, true, false, not, ltb, List, [], ◌∷◌, length, map}
use Rattle.std.proofs.Common.{Option, None, Some, option_map}
use Rattle.std.proofs.Common.{is_some, vec_capacity, refl, ap, sym, subst, ◌∙◌, arith}
use Rattle.std.specs.Prelude.{◌↔◌, IsNone, slice_set}
use Rattle.std.specs.List.{sum_by}
use Rattle.std.specs.Option.{option_map_or}
use Rattle.std.proofs.lemmas.Bool.Decides.{nat_tests}
use Rattle.std.proofs.lemmas.List.{length-map}
use Rattle.std.proofs.lemmas.List.Sums.{sum_by-cons}
use Rattle.el_base.specs.declared.line.LineAddr.{LineAddr}
use Rattle.el_base.proofs.Laws.Options.{none_from}
use Rattle.moesi.specs.declared.letter.Letter.{Letter}
use Rattle.moesi.specs.declared.letter.Letter.TheVariants.{I}
use Rattle.line_pool.specs.declared.slot.Slot.{Slot}
use Rattle.line_pool.specs.Calls.{IsWritten}
use Rattle.line_pool.specs.Others.{LeavesOthers}
use Rattle.line_pool.specs.Pooled.{Pooled, is_out, no_slot, owner_of, quota_of}
use Rattle.line_pool.proofs.Laws.OtherLaws.{owner-there}
use Rattle.cache_sets.specs.declared.evicted.Evicted.{Evicted}
use Rattle.cache_sets.specs.declared.line.Line as code
use Rattle.cache_sets.specs.declared.set.Set.{Set}
use Rattle.cache_sets.specs.declared.way.Way as known
use Rattle.residency.specs.Cache.{is_resident, room_of, set_of, way_of}
use Rattle.cache_sets.specs.Calls.{IsFilledWith}
use Rattle.residency.specs.Keyed.{found}
use Rattle.cache_sets.specs.Kept.{HasRoom, IsSound, IsVacated, MakesRoom, MayVacate, CacheStands, left_by, lines_of}
use Rattle.cache_sets.specs.Kept.{new_way, number_of, residency_of}
use Rattle.cache_sets.specs.Kept.{set_at, shown_cache, shown_line, total}
use Rattle.residency.specs.Residency.{Way, evicted_in, room_in, way_in}
use Rattle.cache_sets.specs.Slotted.{IsLent, Slotted, lent}
use Rattle.cache_sets.proofs.After.{after_is, between, stands-after}
use Rattle.cache_sets.proofs.Changes.{once, some}
use Rattle.cache_sets.proofs.Fills.{IsVacancy, Leaves, filled_lines, filled_set, gone_at, is_filled, leaves-filled}
use Rattle.cache_sets.proofs.Fills.{lent-filled, sound-filled, vacancy}
use Rattle.residency.proofs.Laws.MarkLemmas as marks_of_all
use Rattle.cache_sets.proofs.Reached.{Reaches, lines-reached, room-reached}
use Rattle.residency.proofs.Laws.ResidencyLemmas.{evicted_in-some}
use Rattle.cache_sets.proofs.Shown.{length-with, set_at-with_same, set_of_shown, sum-map}
use Rattle.cache_sets.proofs.Slots.{count-shown, out-at, owner-at}
use Rattle.cache_sets.proofs.Totals.{total-filled}

-- a sum over what lines show
total-shown : (f : Way → ℕ) (cache : List (List code.Line)) →
    marks_of_all.total f (residency_of cache) ≡ total (λ l. f (shown_line l)) cache
total-shown f [] = refl
total-shown f (set ∷ cache) =
    omega (
      arith,
      sum_by-cons (λ s. sum_by f s) (map shown_line set) (residency_of cache),
      sum_by-cons (λ s. sum_by (λ l. f (shown_line l)) s) set cache,
      sum-map f shown_line set,
      total-shown f cache,
    )

-- nothing leaves exactly where the set has fewer lines than ways
none_of : (ways : ℕ) (set : List Way) (line : ℕ) (evicted : Option Way) → evicted ≡ evicted_in ways set →
    room_in ways set line ≡ true
    → way_in set line ≡ None → is_some evicted ≡ not (ltb (length set) ways)
none_of ways set line evicted is room absent = ap is_some is ∙ evicted_in-some ways set line room absent

told_some : (told : Option Evicted) (gone : Option code.Line) (show : code.Line → Evicted) → told ≡ option_map show gone
    → is_some told ≡ is_some (option_map shown_line gone)
told_some told None show is = ap is_some is
told_some told (Some l) show is = ap is_some is

exactly_fewer : (told : Option Evicted) (n ways : ℕ) → is_some told ≡ not (ltb n ways) → IsNone told ↔ (n < ways)
exactly_fewer told n ways is =
    (λ none. grind (arith, nat_tests, none, is), λ fewer. grind (arith, nat_tests, fewer, is))

module _ {ways owner marks writes : ℕ} {sets : List Set} {v : Slotted} (line : LineAddr) {number : ℕ} {old made : Set}
    {letter : Letter}
    {gone : Option code.Line} {before : Pooled} (stands : CacheStands ways sets marks writes)
    (is : shown_cache ways owner (lines_of sets) ≡ v)
    (at : Reaches sets line.number number old) (makes : MakesRoom ways old made gone)
    (room : room_of v.ways v.residency line.number ≡ true) (absent : is_resident v.residency line.number ≡ false)
    (valid : letter ≢ I)
    (owes : IsLent before v) where
  abbrev cache : List (List code.Line)
  cache = lines_of sets

  old_lines : old.lines.items ≡ set_at cache line.number
  old_lines = lines-reached sets line.number number old at

  some_set : 0 < length cache
  some_set = some ways marks writes cache line.number stands.sound

  it_leaves : Leaves ways cache line.number gone
  it_leaves = record {
    evicted = makes.evicted ∙ ap (λ lines. evicted_in ways (map shown_line lines)) old_lines;
    there = λ l same. ap (λ lines. found number_of lines (number_of l)) (sym old_lines) ∙ makes.there l same;
  }

  has_room : room_of ways (residency_of cache) line.number ≡ true
  has_room = subst (λ w. room_of w.ways w.residency line.number ≡ true) (sym is) room

  not_there : is_resident (residency_of cache) line.number ≡ false
  not_there = subst (λ w. is_resident w.residency line.number ≡ false) (sym is) absent

  owes_shown : IsLent before (shown_cache ways owner cache)
  owes_shown = subst (IsLent before) (sym is) owes

  leaves_some : is_some (option_map shown_line gone) ≡ not (ltb (length (set_of (residency_of cache) line.number)) ways)
  leaves_some =
      none_of ways (set_of (residency_of cache) line.number) line.number (option_map shown_line gone)
      (it_leaves.evicted ∙ ap (evicted_in ways) (sym (set_of_shown cache line.number))) has_room
      (none_from (way_of (residency_of cache) line.number) not_there)

  held : (l : code.Line) → gone ≡ Some l → (is_out before l.slot ≡ true) × (owner_of l.slot ≡ owner)
  held l same =
      let there =
      gone_at ways marks writes cache line letter gone stands.sound it_leaves has_room not_there valid
      l.slot l same in (
        out-at before ways owner cache some_set (number_of l) l there owes_shown,
        owner-at before ways owner cache some_set (number_of l) l there owes_shown,
      )

  abbrev gone_count : Option code.Line → ℕ
  gone_count g = option_map_or (λ l. 1) g 0

  -- with a line more there are no more lines than places
  module _ (slot : Slot) where
    abbrev lines_then : List (List code.Line)
    lines_then =
        filled_lines ways marks writes cache line letter gone stands.sound it_leaves has_room not_there valid slot

    sound_then : IsSound ways lines_then marks writes
    sound_then =
        sound-filled ways marks writes cache line letter gone stands.sound it_leaves has_room not_there valid slot

    one_more : gone ≡ None → total (λ l. 1) lines_then ≡ total (λ l. 1) cache + 1
    one_more none =
        omega (
          arith,
          total-filled (λ l. 1) cache line.number some_set (once ways marks writes cache line.number stands.sound) gone
              (record { way = new_way line letter; slot = slot }) it_leaves.there,
          ap gone_count none,
        )

    fits_then : total (λ l. 1) lines_then ≤ length cache * ways
    fits_then =
        omega (
          arith,
          marks_of_all.total-le (λ way. 1) ways (residency_of lines_then) sound_then.well_formed (λ way. omega arith),
          total-shown (λ way. 1) lines_then,
          ap (λ n. n * ways) (length-map lines_then (map shown_line) ∙ length-with cache line.number
              (filled_set ways marks writes cache line letter gone stands.sound it_leaves has_room
              not_there valid slot)),
        )

    pub set_then : length (left_by (set_at cache line.number) gone) + 1 ≤ ways
    set_then =
        omega (
          arith,
          sound_then.well_formed.within line.number,
          ap length (set_of_shown lines_then line.number),
          length-map (set_at lines_then line.number) shown_line,
          ap length (set_at-with_same cache line.number
              (filled_set ways marks writes cache line letter gone stands.sound it_leaves has_room not_there valid slot)
              line.number some_set refl),
        )

  pub may_vacate : MayVacate before owner gone
  may_vacate = by_line gone refl
    where
      by_line : (g : Option code.Line) → gone ≡ g → MayVacate before owner g
      by_line None none =
          let few = fits_then no_slot in
          let more = one_more no_slot none in
          let count = owes_shown.keeps.all in
          let quota : quota_of before owner ≡ length cache * ways =
          owes_shown.quota ∙ ap (λ n. n * ways) (length-map cache (map shown_line)) in
          let all = count-shown before ways owner cache in (
            owner-there before owner (omega (arith, few, more, quota)),
            λ same. omega (arith, few, more, quota, count, all, same),
          )
      by_line (Some l) same = (held l same).0

  module _ (between_them : Pooled) (slot : Slot) (told : Option Evicted)
      (vacated : IsVacated owner before between_them gone slot told) where
    vacant : IsVacancy owner before between_them gone slot told
    vacant = vacancy owner before between_them gone slot told held vacated

    pub slot-out : is_out between_them slot ≡ true
    slot-out = vacant.out

    pub place-left : length made.lines.items < vec_capacity made.lines
    place-left =
        omega (
          arith,
          set_then slot,
          ap length (makes.left ∙ ap (λ lines. left_by lines gone) old_lines),
          room-reached sets line.number number old at ways stands.room,
          makes.room,
        )

    module _ (last : Set) {way : known.Way} {after : Pooled} {bytes : List ℕ}
        (written : IsWritten between_them after slot bytes)
        (way_is : way ≡ new_way line letter)
        (put : last.lines.items ≡ record { way = way; slot = slot } ∷ made.lines.items)
        (same : HasRoom made last) where
      abbrev filling : List code.Line → List code.Line
      filling lines = record { way = new_way line letter; slot = slot } ∷ left_by lines gone

      does : last.lines.items ≡ filling old.lines.items
      does = put ∙ ap (λ w. record { way = w; slot = slot } ∷ made.lines.items) way_is
          ∙ ap (λ lines. record { way = new_way line letter; slot = slot } ∷ lines) makes.left

      pub stands-filled : CacheStands ways (slice_set sets number last) marks writes
      stands-filled = stands-after last stands is at (same ∙ makes.room) filling does marks writes (sound_then slot)

      pub filled-after : IsFilledWith (lent before v)
          (lent after (shown_cache ways owner (lines_of (slice_set sets number last)))) line.number
          letter bytes told
      filled-after =
          between (λ a b. IsFilledWith (lent before a) (lent after b) line.number letter bytes told) _ _ _ _ is
          (after_is last stands is at (same ∙ makes.room) filling does)
          (is_filled ways marks writes cache line letter gone stands.sound it_leaves has_room not_there valid slot owner
          before between_them after
          told bytes owes_shown vacant written)

      pub lent-after : IsLent after (shown_cache ways owner (lines_of (slice_set sets number last)))
      lent-after =
          subst (IsLent after) (sym (after_is last stands is at (same ∙ makes.room) filling does))
          (lent-filled ways marks writes cache line letter gone stands.sound it_leaves has_room not_there valid slot
          owner before between_them after
          told bytes owes_shown vacant written)

      pub leaves-after : LeavesOthers owner before after
      leaves-after =
          leaves-filled ways marks writes cache line letter gone stands.sound it_leaves has_room not_there valid slot
          owner before between_them after
          told bytes owes_shown vacant written

      pub none-leaves : IsNone told ↔ (length (set_of v.residency line.number) < v.ways)
      none-leaves =
          subst (λ w. IsNone told ↔ (length (set_of w.residency line.number) < w.ways)) is
          (exactly_fewer told (length (set_of (residency_of cache) line.number)) ways
          (told_some told gone _ vacant.told_is ∙ leaves_some))
