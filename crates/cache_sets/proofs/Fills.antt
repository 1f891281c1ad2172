-- A line comes, and another one leaves for it, if one does: the cache and its pool after it.
use Rattle.std.proofs.Common.{◌≡◌, ◌≢◌, ℕ, ◌+◌, ◌*◌, ◌%◌, ◌<◌, true, false, List, [], ◌∷◌, length, map, get_or, Option}
use Rattle.std.proofs.Common.{None, Some, option_map}
use Rattle.std.proofs.Common.{is_some, refl, ap, sym, subst, ◌∙◌, arith}
use Rattle.std.specs.Option.{option_map_or}
use Rattle.std.specs.List.{sum_by}
use Rattle.std.specs.Prelude.{slice_index}
use Rattle.std.proofs.lemmas.Bool.Decides.{nat_tests}
use Rattle.std.proofs.lemmas.List.{length-map}
use Rattle.std.proofs.lemmas.List.Sums.{sum_by-cons}
use Rattle.std.proofs.lemmas.Option.{none-some}
use Rattle.el_base.specs.declared.line.LineAddr.{LineAddr}
use Rattle.moesi.specs.declared.letter.Letter.{Letter}
use Rattle.moesi.specs.declared.letter.Letter.TheVariants.{I}
use Rattle.line_pool.specs.declared.slot.Slot.{Slot}
use Rattle.line_pool.specs.Calls.{IsWritten}
use Rattle.line_pool.specs.Keeping.{Keeps}
use Rattle.line_pool.specs.Others.{LeavesOthers}
use Rattle.line_pool.specs.Pooled.{Pooled, bytes_of, is_out, owner_of}
use Rattle.line_pool.proofs.Laws.{has-out, keeps-permuted, keeps-taken, keeps-written, stays_out}
use Rattle.line_pool.proofs.Laws.OtherLaws.{leaves-same, leaves-taken, leaves-then, leaves-written}
use Rattle.cache_sets.specs.declared.evicted.Evicted.{Evicted}
use Rattle.cache_sets.specs.declared.line.Line as code
use Rattle.residency.specs.Cache.{filled_with, is_resident, room_of, set_of}
use Rattle.cache_sets.specs.Cached.{copy_in}
use Rattle.cache_sets.specs.Calls.{IsFilledWith}
use Rattle.residency.specs.Keyed.{found}
use Rattle.cache_sets.specs.Kept.{IsSound, IsVacated, left_by, line_at, new_way, number_of, residency_of, set_at}
use Rattle.cache_sets.specs.Kept.{shown_cache, shown_line, with_lines}
use Rattle.residency.specs.Residency.{Way, evicted_in, filled_in, left_in, way_in}
use Rattle.cache_sets.specs.Slotted.{IsLent, lent, slots_of}
use Rattle.cache_sets.proofs.Changes.{dropped_shown, once, residency-after, some, sound-with, unnamed}
use Rattle.residency.proofs.Laws.KeyedLemmas.{found-without_other, found-without_same, length-sum_by, mapped}
use Rattle.residency.proofs.Laws.MarkLemmas.{marks_of-filled_with, write_bits_of-filled_with}
use Rattle.cache_sets.proofs.Shown.{copy_of, copy_shown, length-with, line_at-with_other, line_at-with_same, once_at}
use Rattle.cache_sets.proofs.Shown.{set_of_shown, way_in_shown, way_of_shown}
use Rattle.cache_sets.proofs.Slots.{one_at, out-at, slot-sum, slots-apart}
use Rattle.cache_sets.proofs.Totals.{total-filled}
use Rattle.residency.proofs.Laws.WellFormedLemmas.{fresh, well_formed-filled_with}

-- a slot for a line that comes, whether it was taken or is that of the line that left
pub record IsVacancy (owner : ℕ) (old new : Pooled) (gone : Option code.Line) (slot : Slot)
    (told : Option Evicted) : Type 0 where
  pub leaves : LeavesOthers owner old new
  pub out : is_out new slot ≡ true
  pub mine : owner_of slot ≡ owner
  pub told_is : told
      ≡ option_map (λ l. record { line = l.way.line; letter = l.way.letter; bytes = bytes_of old l.slot }) gone
  pub bytes : (s : Slot) → bytes_of new s ≡ bytes_of old s
  pub stays : (s : Slot) → is_out old s ≡ true → is_out new s ≡ true
  pub apart : (s : Slot) → is_out old s ≡ true → ((l : code.Line) → gone ≡ Some l → s ≢ l.slot) → s ≢ slot
  pub keeps : (slots others : List Slot) → Keeps old owner slots
      → ((g : Slot → ℕ) → sum_by g others + option_map_or (λ l. g l.slot) gone 0 ≡ sum_by g slots + g slot) →
      Keeps new owner others

pub vacancy : (owner : ℕ) (old new : Pooled) (gone : Option code.Line) (slot : Slot) (told : Option Evicted)
    → ((l : code.Line) → gone ≡ Some l → (is_out old l.slot ≡ true) × (owner_of l.slot ≡ owner))
    → IsVacated owner old new gone slot told → IsVacancy owner old new gone slot told
vacancy owner old new None slot told held is = record {
  leaves = leaves-taken owner old new slot is.0;
  out = is.0.now_out;
  mine = is.0.owned;
  told_is = is.1;
  bytes = is.0.bytes;
  stays = λ s out. stays_out old new owner slot s is.0 out;
  apart = λ s out others same. let never = sym (ap (is_out old) same) ∙ out in
      grind (arith, nat_tests, never, is.0.was_free);
  keeps = λ slots others keeps same.
      keeps-permuted new owner (slot ∷ slots) others (keeps-taken old new owner slots slot keeps is.0)
      (omega (arith, length-sum_by others, length-sum_by slots, same (λ s. 1)))
      (λ s. omega (arith, same (one_at s), sum_by-cons (one_at s) slot slots));
}
vacancy owner old new (Some l) slot told held is = record {
  leaves = subst (λ p. LeavesOthers owner old p) (sym is.0) (leaves-same owner old);
  out = ap (λ p. is_out p slot) is.0 ∙ ap (is_out old) is.1 ∙ (held l refl).0;
  mine = ap owner_of is.1 ∙ (held l refl).1;
  told_is = is.2;
  bytes = λ s. ap (λ p. bytes_of p s) is.0;
  stays = λ s out. ap (λ p. is_out p s) is.0 ∙ out;
  apart = λ s out others same. others l refl (same ∙ is.1);
  keeps = λ slots others keeps same.
      subst (λ p. Keeps p owner others) (sym is.0)
      (keeps-permuted old owner slots others keeps
      (omega (arith, length-sum_by others, length-sum_by slots, same (λ s. 1)))
      (λ s. omega (arith, same (one_at s), ap (one_at s) is.1)));
}

-- what stays in a set as a line leaves
left_by_shown : (lines : List code.Line) (gone : Option code.Line)
    → map shown_line (left_by lines gone) ≡ left_in (map shown_line lines) (option_map shown_line gone)
left_by_shown lines None = refl
left_by_shown lines (Some l) = sym (dropped_shown lines (number_of l))

found-left_by : (lines : List code.Line) (gone : Option code.Line) (l : ℕ) →
    ((x : code.Line) → gone ≡ Some x → l ≢ number_of x)
    → found number_of (left_by lines gone) l ≡ found number_of lines l
found-left_by lines None l stays = refl
found-left_by lines (Some x) l stays = found-without_other number_of lines (number_of x) l (stays x refl)

-- the line that leaves a set for another is the definition's
pub record Leaves (ways : ℕ) (cache : List (List code.Line)) (line : ℕ) (gone : Option code.Line) : Type 0 where
  pub evicted : option_map shown_line gone ≡ evicted_in ways (map shown_line (set_at cache line))
  pub there : (l : code.Line) → gone ≡ Some l → found number_of (set_at cache line) (number_of l) ≡ Some l

module _ (ways marks writes : ℕ) (cache : List (List code.Line)) (line : LineAddr) (letter : Letter)
    (gone : Option code.Line)
    (sound : IsSound ways cache marks writes) (leaves : Leaves ways cache line.number gone)
    (room : room_of ways (residency_of cache) line.number ≡ true)
    (absent : is_resident (residency_of cache) line.number ≡ false)
    (valid : letter ≢ I) (slot : Slot) where
  abbrev new_line : code.Line
  new_line = record { way = new_way line letter; slot = slot }

  abbrev pub filled_set : List code.Line
  filled_set = new_line ∷ left_by (set_at cache line.number) gone

  abbrev pub filled_lines : List (List code.Line)
  filled_lines = with_lines cache line.number filled_set

  some_set : 0 < length cache
  some_set = some ways marks writes cache line.number sound

  residency-filled : residency_of filled_lines ≡ filled_with ways (residency_of cache) line.number letter
  residency-filled =
      residency-after ways marks writes cache line.number sound filled_set
      (λ set. filled_in ways set (fresh line.number letter))
      (ap (λ rest. fresh line.number letter ∷ rest)
      (ap (left_in (map shown_line (set_at cache line.number))) (sym leaves.evicted)
      ∙ sym (left_by_shown (set_at cache line.number) gone)))

  pub sound-filled : IsSound ways filled_lines marks writes
  sound-filled =
      sound-with ways marks writes cache line.number sound filled_set
      (filled_with ways (residency_of cache) line.number letter) marks writes
      residency-filled
      (well_formed-filled_with ways (residency_of cache) line.number letter room absent valid sound.well_formed)
      (omega (
        arith,
        total-filled unnamed cache line.number some_set (once ways marks writes cache line.number sound) gone
            new_line leaves.there,
        sound.named,
      ))
      (sound.marked ∙ sym (marks_of-filled_with ways (residency_of cache) line.number letter sound.well_formed))
      (sound.written ∙ sym (write_bits_of-filled_with ways (residency_of cache) line.number letter sound.well_formed))

  -- the line was not there
  absent_here : line_at cache line.number ≡ None
  absent_here = by_line (line_at cache line.number) (ap is_some (sym (way_of_shown cache line.number)) ∙ absent)
    where
      by_line : (l : Option code.Line) → is_some (option_map shown_line l) ≡ false → l ≡ None
      by_line None none = refl
      by_line (Some l) none = absurd cc

  -- what is behind it
  behind : (l : ℕ) → l ≢ line.number →
      found number_of filled_set l ≡ found number_of (left_by (set_at cache line.number) gone) l
  behind l other = grind (arith, nat_tests)

  -- what left was another line of the same set
  module _ (l : code.Line) (is : gone ≡ Some l) where
    gone_other : number_of l ≢ line.number
    gone_other same =
        none-some l (sym absent_here ∙ ap (found number_of (set_at cache line.number)) (sym same) ∙ leaves.there l is)

    gone_home : number_of l % length cache ≡ line.number % length cache
    gone_home =
        let there : way_in (set_of (residency_of cache) line.number) (number_of l) ≡ Some (shown_line l) =
        ap (λ set. way_in set (number_of l)) (set_of_shown cache line.number)
        ∙ way_in_shown (set_at cache line.number) (number_of l)
        ∙ ap (option_map shown_line) (leaves.there l is) in
        ap (λ k. number_of l % k) (sym (length-map cache (map shown_line)))
        ∙ sound.well_formed.home line.number (number_of l) (shown_line l) there
        ∙ ap (λ k. line.number % k) (length-map cache (map shown_line))

    pub gone_at : line_at cache (number_of l) ≡ Some l
    gone_at = ap (λ k. found number_of (get_or cache k []) (number_of l)) gone_home ∙ leaves.there l is

    gone_after : line_at filled_lines (number_of l) ≡ None
    gone_after =
        line_at-with_same cache line.number filled_set (number_of l) some_set gone_home
        ∙ behind (number_of l) gone_other
        ∙ ap (λ g. found number_of (left_by (set_at cache line.number) g) (number_of l)) is
        ∙ found-without_same number_of (set_at cache line.number) (number_of l)

  new_at : line_at filled_lines line.number ≡ Some new_line
  new_at = line_at-with_same cache line.number filled_set line.number some_set refl ∙ grind (arith, nat_tests)

  other_at : (l : ℕ) → l ≢ line.number → ((x : code.Line) → gone ≡ Some x → l ≢ number_of x) →
      line_at filled_lines l ≡ line_at cache l
  other_at l other stays =
      line_at-with_other cache line.number filled_set l some_set
      (behind l other ∙ found-left_by (set_at cache line.number) gone l stays)

  module _ (owner : ℕ) (old between new : Pooled) (told : Option Evicted) (bytes : List ℕ)
      (owes : IsLent old (shown_cache ways owner cache))
      (vacant : IsVacancy owner old between gone slot told) (written : IsWritten between new slot bytes) where
    pub leaves-filled : LeavesOthers owner old new
    leaves-filled =
        leaves-then owner old between new vacant.leaves
        (subst (λ o. LeavesOthers o between new) vacant.mine (leaves-written between new slot bytes written))

    pub lent-filled : IsLent new (shown_cache ways owner filled_lines)
    lent-filled = record {
      quota =
          ap (λ quotas. slice_index quotas owner) leaves-filled.quotas ∙ owes.quota
          ∙ ap (λ k. k * ways) (length-map cache (map shown_line) ∙ sym (length-with cache line.number filled_set)
          ∙ sym (length-map filled_lines (map shown_line)));
      keeps =
          keeps-written between new owner (slots_of (shown_cache ways owner filled_lines)) slot bytes
          (vacant.keeps (slots_of (shown_cache ways owner cache))
          (slots_of (shown_cache ways owner filled_lines)) owes.keeps
          (λ g. omega (
            arith,
            slot-sum g filled_lines,
            slot-sum g cache,
            total-filled (λ l. g l.slot) cache line.number some_set (once ways marks writes cache line.number sound)
                gone new_line leaves.there,
          )))
          written;
    }

    -- a line that was there before and is there after has the bytes that it had
    kept_bytes : (l : ℕ) (x : code.Line) → line_at cache l ≡ Some x →
        ((g : code.Line) → gone ≡ Some g → l ≢ number_of g)
        → bytes_of new x.slot ≡ bytes_of old x.slot
    kept_bytes l x is stays =
        let out = out-at old ways owner cache some_set l x is owes in
        written.others x.slot (has-out between x.slot (vacant.stays x.slot out))
        (vacant.apart x.slot out
        (λ g left. slots-apart old ways owner cache some_set (number_of g) g (gone_at g left) l x
        (once_at ways cache (number_of g) (number_of g) sound.well_formed) (stays g left) is owes))
        ∙ vacant.bytes x.slot

    kept_copy : (l : ℕ) → ((g : code.Line) → gone ≡ Some g → l ≢ number_of g) → (x : Option code.Line) →
        line_at cache l ≡ x
        → option_map (copy_of new) x ≡ option_map (copy_of old) x
    kept_copy l stays None is = refl
    kept_copy l stays (Some x) is =
        ap (λ b. Some (record { letter = x.way.letter; bytes = b })) (kept_bytes l x is stays)

    victim_told : (gone : Option code.Line) (told : Option Evicted)
        → told ≡ option_map (λ l. record { line = l.way.line; letter = l.way.letter; bytes = bytes_of old l.slot }) gone
        → option_map (λ (e : Evicted). e.line.number) told ≡ option_map (λ (way : Way). way.line)
        (option_map shown_line gone)
    victim_told None told is = ap (option_map (λ (e : Evicted). e.line.number)) is
    victim_told (Some l) told is = ap (option_map (λ (e : Evicted). e.line.number)) is

    pub is_filled : IsFilledWith (lent old (shown_cache ways owner cache))
        (lent new (shown_cache ways owner filled_lines)) line.number letter
        bytes told
    is_filled = record {
      ways = refl;
      residency = residency-filled;
      victim =
          victim_told gone told vacant.told_is
          ∙ ap (option_map (λ (way : Way). way.line))
          (leaves.evicted ∙ ap (evicted_in ways) (sym (set_of_shown cache line.number)));
      here =
          copy_shown new ways owner filled_lines line.number ∙ ap (option_map (copy_of new)) new_at
          ∙ ap (λ b. Some (record { letter = letter; bytes = b })) written.here;
      left = λ e is.
          let l = left_line e is in
          subst (λ (x : Evicted). copy_in (lent old (shown_cache ways owner cache)) x.line.number
          ≡ Some (record { letter = x.letter; bytes = x.bytes })) l.2
          (copy_shown old ways owner cache (number_of l.0) ∙ ap (option_map (copy_of old)) (gone_at l.0 l.1));
      gone = λ e is.
          let l = left_line e is in
          subst (λ (x : Evicted). copy_in (lent new (shown_cache ways owner filled_lines)) x.line.number ≡ None) l.2
          (copy_shown new ways owner filled_lines (number_of l.0) ∙ ap (option_map (copy_of new)) (gone_after l.0 l.1));
      others = λ l other stays.
          let apart : (g : code.Line) → gone ≡ Some g → l ≢ number_of g =
          λ g is. stays (shown_gone g) (vacant.told_is ∙ ap (option_map shown_gone) is) in
          copy_shown new ways owner filled_lines l
          ∙ ap (option_map (copy_of new)) (other_at l other apart)
          ∙ kept_copy l apart (line_at cache l) refl
          ∙ sym (copy_shown old ways owner cache l);
    }
      where
        shown_gone : code.Line → Evicted
        shown_gone l = record { line = l.way.line; letter = l.way.letter; bytes = bytes_of old l.slot }

        left_line : (e : Evicted) → told ≡ Some e → (l : code.Line) × (gone ≡ Some l) × (shown_gone l ≡ e)
        left_line e is = mapped shown_gone gone e (sym vacant.told_is ∙ is)
