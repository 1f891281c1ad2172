-- one held line more is drained into a cache
use Rattle.std.proofs.Common.{◌≡◌, ◌≢◌, ℕ, ◌<◌, Bool, true, false, List, [], length, slice_index, Option, None, Some}
use Rattle.std.proofs.Common.{is_some, option_map}
use Rattle.std.proofs.Common.{option_and_then, inl, inr, refl, ap, sym, subst, ◌∙◌, arith}
use Rattle.std.specs.Option.{unwrap_or}
use Rattle.std.proofs.lemmas.Bool.{cases_eq}
use Rattle.std.proofs.lemmas.List.{length-map}
use Rattle.residency.specs.Cache.{bit_in, committed, is_resident, way_of, write_bit}
use Rattle.cache_sets.specs.Cached.{Cached, Copy, bytes_of, copy_in, copy_with_bytes, copy_with_letter}
use Rattle.cache_sets.specs.Calls.{IsCommitted, IsWritten}
use Rattle.cache_sets.specs.Slotted as caches
use Rattle.cache_sets.specs.Slotted.{IsWrittenIn}
use Rattle.residency.specs.Residency.{Way}
use Rattle.el_base.specs.declared.line.TheConstants.{LINE_BYTES}
use Rattle.el_base.specs.declared.outcomes.Need.TheVariants.{Write}
use Rattle.line_pool.specs.Others.{LeavesOthers}
use Rattle.line_pool.specs.Pooled.{Pooled}
use Rattle.moesi.specs.declared.letter.Letter.TheVariants.{M}
use Rattle.section_ctl.proofs.Laws.Lent.{beside_cache, beside_hold, beside_same, beside_then, both_by_cache}
use Rattle.section_ctl.proofs.Laws.Lent.{both_by_hold, cache_stays, hold_stays}
use Rattle.section_ctl.specs.Calls.{HasCommitted, committed_copy}
use Rattle.section_ctl.specs.Drains.{AreDrained, AreDrainedIn, IsDrainedIn, IsDrainedInto}
use Rattle.section_ctl.specs.Lent.{LeavesBeside, LendsBoth}
use Rattle.section_view.specs.KeptRun.{HoldsMarked}
use Rattle.write_hold.proofs.Laws.LookUps.{holds_after_drain_other, seen_after_drain}
use Rattle.write_hold.specs.Calls.{IsDrained}
use Rattle.write_hold.specs.Held.{Held, holds as holds_line, seen_at, stored_at}
use Rattle.write_hold.specs.Slotted as holds

-- a line with the write bit is there
pub resident_with_bit : (cache : List (List Way)) (line : ℕ) → write_bit cache line ≡ true →
    is_resident cache line ≡ true
resident_with_bit cache line bit = by (way_of cache line) bit
  where
    by : (way : Option Way) → bit_in Write way ≡ true → is_some way ≡ true
    by None bit = absurd cc
    by (Some way) bit = refl

-- a copy of a way, and the bytes of a copy
abbrev pub copy_of : List ℕ → Way → Copy
copy_of bytes way = record { letter = way.letter; bytes = bytes }

abbrev pub bytes_or_none : Option Copy → List ℕ
bytes_or_none None = []
bytes_or_none (Some copy) = copy.bytes

-- copies with the same bytes
bytes_of_copy : (way other : Option Way) (left right is : List ℕ) → is_some way ≡ true →
    option_map (copy_of left) other ≡ option_map (copy_with_bytes right) (option_map (copy_of is) way) → left ≡ right
bytes_of_copy None other left right is there same = absurd cc
bytes_of_copy (Some way) None left right is there same = absurd cc
bytes_of_copy (Some way) (Some w) left right is there same = ap bytes_or_none same

same_bytes_of_copy : (way other : Option Way) (left right : List ℕ) → is_some way ≡ true →
    option_map (copy_of left) other ≡ option_map (copy_of right) way → left ≡ right
same_bytes_of_copy None other left right there same = absurd cc
same_bytes_of_copy (Some way) None left right there same = absurd cc
same_bytes_of_copy (Some way) (Some w) left right there same = ap bytes_or_none same

pub written_bytes : (old new : Cached) (line : ℕ) (bytes : List ℕ) → is_resident old.residency line ≡ true →
    IsWritten old new line bytes → bytes_of new line ≡ bytes
written_bytes old new line bytes there written =
    bytes_of_copy (way_of old.residency line) (way_of new.residency line) (bytes_of new line) bytes (bytes_of old line)
    there written.here

pub other_bytes : (old new : Cached) (line : ℕ) → is_resident old.residency line ≡ true →
    copy_in new line ≡ copy_in old line → bytes_of new line ≡ bytes_of old line
other_bytes old new line there same =
    same_bytes_of_copy (way_of old.residency line) (way_of new.residency line) (bytes_of new line)
    (bytes_of old line) there same

pub none_drained : (hold : Held) (cache : Cached) → AreDrained hold hold cache cache
none_drained hold cache = record {
  limit = refl;
  ways = refl;
  residency = refl;
  within = λ line held. held;
  shows = λ line place held below. refl;
  size = λ line held none. absurd cc;
  others = λ line none. refl;
}

-- what is held of a line is put over its bytes in a pool that lends both: the hold is drained into a copy
-- of the bytes, which is written
module _ (old between new : Pooled) (cache : caches.Slotted) (hold after : holds.Slotted) (line : ℕ) (bytes : List ℕ)
    (owes : LendsBoth old cache hold) (there : is_resident cache.residency line ≡ true)
    (drained : IsDrained (holds.lent old hold) (holds.lent between after) line
    (bytes_of (caches.lent old cache) line) bytes)
    (lends : holds.IsLent between after) (same : after.owner ≡ hold.owner)
    (leaves : LeavesOthers hold.owner old between)
    (written : IsWrittenIn between new cache line bytes) (whole : length bytes ≡ LINE_BYTES) where
  owes_then : LendsBoth between cache after
  owes_then = both_by_hold old between cache hold owes leaves after lends same

  filled : bytes_of (caches.lent new cache) line ≡ bytes
  filled = written_bytes (caches.lent between cache) (caches.lent new cache) line bytes there written.written

  line_drained : IsDrainedInto (holds.lent old hold) (holds.lent new after) (caches.lent old cache)
      (caches.lent new cache) line
  line_drained = record {
    drained =
        subst (λ now. IsDrained (holds.lent old hold) now line (bytes_of (caches.lent old cache) line)
        (bytes_of (caches.lent new cache) line))
        (sym (hold_stays between new cache after owes_then written.others))
        (subst (IsDrained (holds.lent old hold) (holds.lent between after) line (bytes_of (caches.lent old cache) line))
        (sym filled) drained);
    whole = ap length filled ∙ whole;
    written = subst (IsWritten (caches.lent old cache) (caches.lent new cache) line) (sym filled)
        (subst (λ was. IsWritten was (caches.lent new cache) line bytes)
        (cache_stays old between cache hold owes leaves) written.written);
  }

  pub drained_in : IsDrainedIn cache old new hold after line
  drained_in = record {
    drained = line_drained;
    lent = both_by_cache between new cache after owes_then written.others cache written.kept refl;
    owner = same;
    beside =
        beside_then cache.owner hold.owner old between new (beside_hold cache.owner hold.owner old between leaves)
        (beside_cache cache.owner hold.owner between new written.others);
  }

-- each line that was held is there
drained_there : (hold now : Held) (cache new : Cached) (line : ℕ) → HoldsMarked cache.residency hold.entries →
    AreDrained hold now cache new → holds_line hold.entries line ≡ true → is_resident new.residency line ≡ true
drained_there hold now cache new line marked far held =
    subst (λ residency. is_resident residency line ≡ true) (sym far.residency)
    (resident_with_bit cache.residency line (marked line held))

-- one line more
module _ (hold now next : Held) (cache filled new : Cached) (line : ℕ)
    (marked : HoldsMarked cache.residency hold.entries)
    (far : AreDrained hold now cache filled) (held : holds_line now.entries line ≡ true)
    (more : IsDrainedInto now next filled new line) where
  abbrev before : List ℕ
  before = bytes_of filled line

  abbrev after : List ℕ
  after = bytes_of new line

  drained : IsDrained now next line before after
  drained = more.drained

  written : IsWritten filled new line after
  written = more.written

  elsewhere : (l : ℕ) → l ≢ line → holds_line hold.entries l ≡ true → bytes_of new l ≡ bytes_of filled l
  elsewhere l other held_first = other_bytes filled new l
      (drained_there hold now cache filled l marked far held_first) (written.others l other)

  shown_here : (place : ℕ) → place < LINE_BYTES → seen_at next.entries line (bytes_of new line) place ≡ seen_at
      hold.entries line (bytes_of cache line) place
  shown_here place below =
      seen_after_drain now next line before after drained place below
      ∙ far.shows line place (far.within line held) below

  shown_elsewhere : (l place : ℕ) → l ≢ line → holds_line hold.entries l ≡ true → place < LINE_BYTES →
      seen_at next.entries l (bytes_of new l) place ≡ seen_at hold.entries l (bytes_of cache l) place
  shown_elsewhere l place other held_first below =
      ap (λ entry. unwrap_or (option_and_then (λ e. stored_at e place) entry) (slice_index (bytes_of new l) place))
      (drained.others l other)
      ∙ ap (λ bytes. seen_at now.entries l bytes place) (elsewhere l other held_first)
      ∙ far.shows l place held_first below

  held_apart : (l : ℕ) → holds_line hold.entries l ≡ false → l ≢ line
  held_apart l none same =
      by (holds_line hold.entries line) (far.within line held) (ap (holds_line hold.entries) (sym same) ∙ none)
    where
      by : (b : Bool) → b ≡ true → b ≡ false → ⊥
      by true it not_it = cc
      by false it not_it = cc

  pub one_more_drained : AreDrained hold next cache new
  one_more_drained = record {
    limit = drained.limit ∙ far.limit;
    ways = written.ways ∙ far.ways;
    residency = written.residency ∙ far.residency;
    within = λ l still. elim (cases_eq l line) [
      | inl same ↦ subst (λ k. holds_line hold.entries k ≡ true) (sym same) (far.within line held)
      | inr other ↦ far.within l (sym (holds_after_drain_other now next line before after drained l other) ∙ still)
    ];
    shows = λ l place held_first below. elim (cases_eq l line) [
      | inl same ↦
          subst (λ k. seen_at next.entries k (bytes_of new k) place ≡ seen_at hold.entries k (bytes_of cache k) place)
          (sym same) (shown_here place below)
      | inr other ↦ shown_elsewhere l place other held_first below
    ];
    size = λ l held_first none. elim (cases_eq l line) [
      | inl same ↦ ap (λ k. length (bytes_of new k)) same ∙ more.whole
      | inr other ↦
          ap length (elsewhere l other held_first)
          ∙ far.size l held_first (sym (holds_after_drain_other now next line before after drained l other) ∙ none)
    ];
    others = λ l none. written.others l (held_apart l none) ∙ far.others l none;
  }

-- so in a pool
pub none_drained_in : (cache : caches.Slotted) (pool : Pooled) (hold : holds.Slotted) → LendsBoth pool cache hold →
    AreDrainedIn cache pool pool hold hold
none_drained_in cache pool hold owes = record {
  drained = none_drained (holds.lent pool hold) (caches.lent pool cache);
  lent = owes;
  owner = refl;
  beside = beside_same cache.owner hold.owner pool;
}

module _ (cache : caches.Slotted) (pool now next : Pooled) (hold held after : holds.Slotted) (line : ℕ)
    (marked : HoldsMarked cache.residency (holds.lent pool hold).entries) (far : AreDrainedIn cache pool now hold held)
    (is : holds_line (holds.lent now held).entries line ≡ true) where
  pub drained_resident : is_resident cache.residency line ≡ true
  drained_resident = resident_with_bit cache.residency line (marked line (far.drained.within line is))

  pub one_more_drained_in : IsDrainedIn cache now next held after line → AreDrainedIn cache pool next hold after
  one_more_drained_in more = record {
    drained =
        one_more_drained (holds.lent pool hold) (holds.lent now held) (holds.lent next after) (caches.lent pool cache)
        (caches.lent now cache)
        (caches.lent next cache) line marked far.drained is more.drained;
    lent = more.lent;
    owner = more.owner ∙ far.owner;
    beside = beside_then cache.owner hold.owner pool now next far.beside
        (subst (λ owner. LeavesBeside cache.owner owner now next) far.owner more.beside);
  }

  pub fewer_drained_in : IsDrainedIn cache now next held after line → length after.entries < length held.entries
  fewer_drained_in more =
      omega (
        arith,
        more.drained.drained.count,
        length-map after.entries (holds.lent_entry next),
        length-map held.entries (holds.lent_entry now),
      )

-- a copy that was modified
modified_bytes : (way other : Option Way) (left right : List ℕ) → is_some way ≡ true →
    option_map (copy_of left) other ≡ option_map (copy_with_letter M) (option_map (copy_of right) way) → left ≡ right
modified_bytes None other left right there same = absurd cc
modified_bytes (Some way) None left right there same = absurd cc
modified_bytes (Some way) (Some w) left right there same = ap bytes_or_none same

modified_copy : (way other : Option Way) (left right : List ℕ) → is_some way ≡ true →
    option_map (copy_of left) other ≡ option_map (copy_with_letter M) (option_map (copy_of right) way) →
    option_map (copy_of left) other ≡ Some (record { letter = M; bytes = left })
modified_copy None other left right there same = absurd cc
modified_copy (Some way) other left right there same =
    same ∙ ap (λ bytes. Some (record { letter = M; bytes = bytes }))
    (sym (modified_bytes (Some way) other left right there same))

-- all that was held is drained, and the cache commits
module _ (hold now : Held) (cache filled new : Cached) (marked : HoldsMarked cache.residency hold.entries)
    (far : AreDrained hold now cache filled)
    (nothing : now.entries ≡ []) (done : IsCommitted filled new) where
  bit : (line : ℕ) → write_bit filled.residency line ≡ write_bit cache.residency line
  bit line = ap (λ residency. write_bit residency line) far.residency

  copy : (line : ℕ) → holds_line hold.entries line ≡ true →
      copy_in new line ≡ option_map (copy_with_letter M) (copy_in filled line)
  copy line is = done.written line (bit line ∙ marked line is)

  same : (line : ℕ) → holds_line hold.entries line ≡ true → bytes_of new line ≡ bytes_of filled line
  same line is =
      modified_bytes (way_of filled.residency line) (way_of new.residency line) (bytes_of new line)
      (bytes_of filled line) (drained_there hold now cache filled line marked far is)
      (copy line is)

  other : (line : ℕ) → holds_line hold.entries line ≡ false → (written : Bool) →
      write_bit cache.residency line ≡ written →
      copy_in new line ≡ option_map (committed_copy written) (copy_in cache line)
  other line none true is =
      done.written line (bit line ∙ is) ∙ ap (option_map (copy_with_letter M)) (far.others line none)
  other line none false is = done.others line (bit line ∙ is) ∙ far.others line none ∙ kept (copy_in cache line)
    where
      kept : (there : Option Copy) → there ≡ option_map (committed_copy false) there
      kept None = refl
      kept (Some there) = refl

  pub commits_drained : HasCommitted cache new hold.entries
  commits_drained = record {
    ways = done.ways ∙ far.ways;
    residency = done.residency ∙ ap committed far.residency;
    held =
        λ line is. modified_copy (way_of filled.residency line) (way_of new.residency line) (bytes_of new line)
        (bytes_of filled line)
        (drained_there hold now cache filled line marked far is) (copy line is);
    size = λ line is. ap length (same line is) ∙ far.size line is (ap (λ entries. holds_line entries line) nothing);
    bytes = λ line place is below. ap (λ bytes. slice_index bytes place) (same line is)
        ∙ sym (ap (λ entries. seen_at entries line (bytes_of filled line) place) nothing)
        ∙ far.shows line place is below;
    others = λ line none. other line none (write_bit cache.residency line) refl;
  }
