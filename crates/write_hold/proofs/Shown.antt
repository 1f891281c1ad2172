-- What a hold shows of what its entries find, with the bytes that a pool has in their slots.
use Rattle.std.proofs.Common.{◌≡◌, ◌≢◌, ℕ, ◌+◌, ◌-◌, ◌*◌, ◌%◌, ◌≤◌, ◌==◌, ◌&&◌, nat_le, nat_lt, if◌then◌else◌, false}
use Rattle.std.proofs.Common.{List, length, map, slice_index}
use Rattle.std.proofs.Common.{Option, None, Some, is_some, option_map, option_and_then, refl, ap, sym, ◌∙◌, inl, inr}
use Rattle.std.proofs.Common.{arith}
use Rattle.std.specs.Option.{unwrap_or}
use Rattle.std.proofs.lemmas.Bool.{cases_eq}
use Rattle.std.proofs.lemmas.Bool.Decides.{nat_tests}
use Rattle.std.proofs.lemmas.List.{length-map}
use Rattle.el_base.proofs.Laws.ListLaws.{count_of_map, find_of_map}
use Rattle.el_base.specs.Line.{line_number}
use Rattle.el_base.specs.declared.line.TheConstants.{LINE_BYTES}
use Rattle.line_pool.specs.Pooled.{Pooled, bytes_of}
use Rattle.write_hold.specs.declared.entry.Entry as code
use Rattle.write_hold.specs.Held.{Entry, entry_of, held, holds, laid, seen_at, stored_at}
use Rattle.write_hold.specs.Calls.{IsDrained, IsFull, IsPut, IsHold}
use Rattle.write_hold.specs.Entries.{IsMerged, HoldStands, hold_of, seen_entry}
use Rattle.write_hold.specs.Slotted.{Place, lent, lent_entry}
use Rattle.write_hold.proofs.Steps.{Finds, found}

-- an entry with the bytes of its slot
abbrev pub full : Pooled → code.Entry → Entry
full pool entry = lent_entry pool (seen_entry entry)

-- the entries of a hold, and the one of a line
abbrev pub all_of : Pooled → List code.Entry → List Entry
all_of pool entries = map (lent_entry pool) (map seen_entry entries)

pub shown_entry : (pool : Pooled) (entries : List code.Entry) (line : ℕ) →
    entry_of (all_of pool entries) line ≡ option_map (full pool) (found entries line)
shown_entry pool entries line =
    find_of_map (lent_entry pool) (λ entry. entry.line == line) (map seen_entry entries)
    ∙ ap (option_map (lent_entry pool)) (find_of_map seen_entry (λ (place : Place). place.line == line) entries)
    ∙ both (found entries line)
  where
    both : (entry : Option code.Entry) →
        option_map (lent_entry pool) (option_map seen_entry entry) ≡ option_map (full pool) entry
    both None = refl
    both (Some entry) = refl

is_some_shown : (pool : Pooled) (entry : Option code.Entry) → is_some (option_map (full pool) entry) ≡ is_some entry
is_some_shown pool None = refl
is_some_shown pool (Some entry) = refl

pub shown_holds : (pool : Pooled) (entries : List code.Entry) (line : ℕ) →
    holds (all_of pool entries) line ≡ is_some (found entries line)
shown_holds pool entries line = ap is_some (shown_entry pool entries line) ∙ is_some_shown pool (found entries line)

pub length-shown : (pool : Pooled) (entries : List code.Entry) → length (all_of pool entries) ≡ length entries
length-shown pool entries = length-map (map seen_entry entries) (lent_entry pool) ∙ length-map entries seen_entry

pub shown_sound : (pool : Pooled) (limit room owner : ℕ) (entries : List code.Entry) → HoldStands limit room entries
    → IsHold (lent pool (hold_of limit owner entries))
shown_sound pool limit room owner entries stands = record {
  few = omega (arith, stands.few, length-shown pool entries);
  once = λ line.
      omega (
        arith,
        stands.once line,
        count_of_map (lent_entry pool) (λ entry. entry.line == line) (map seen_entry entries),
        count_of_map seen_entry (λ (place : Place). place.line == line) entries,
      );
}

-- bytes that are laid from a place of a line on, at each place of that line and at each other address
laid_from : (base offset place address : ℕ) (bytes : List ℕ) (under : Option ℕ) → address ≡ base + place
    → laid offset bytes place under ≡ laid (base + offset) bytes address under
laid_from base offset place address bytes under is =
    let low : nat_le offset place ≡ nat_le (base + offset) address = grind (arith, nat_tests) in
    let high : nat_lt place (offset + length bytes) ≡ nat_lt address (base + offset + length bytes) =
    grind (arith, nat_tests) in
    let at : place - offset ≡ address - (base + offset) = omega arith in
    (λ k. if low k && high k then Some (slice_index bytes (at k)) else under)

laid_in_line : (line offset address : ℕ) (bytes : List ℕ) (under : Option ℕ) → line_number address ≡ line
    → laid offset bytes (address % LINE_BYTES) under ≡ laid (line * LINE_BYTES + offset) bytes address under
laid_in_line line offset address bytes under is =
    laid_from (line * LINE_BYTES) offset (address % LINE_BYTES) address bytes under (omega arith)

pub laid_elsewhere : (line offset address : ℕ) (bytes : List ℕ) (under : Option ℕ) →
    offset + length bytes ≤ LINE_BYTES → line_number address ≢ line
    → laid (line * LINE_BYTES + offset) bytes address under ≡ under
laid_elsewhere line offset address bytes under inside other =
    let start : ℕ = line * LINE_BYTES + offset in
    let outside : (nat_le start address && nat_lt address (start + length bytes)) ≡ false = grind (arith, nat_tests) in
    ap (λ within. if within then Some (slice_index bytes (address - start)) else under) outside

-- the byte of what is found of a line, if it is found
abbrev pub byte_of : Pooled → Option code.Entry → ℕ → Option ℕ
byte_of pool entry place = option_and_then (λ e. stored_at e place) (option_map (full pool) entry)

-- the slots of all lines but one have the bytes that they had
abbrev pub StayBeside : Pooled → Pooled → List code.Entry → ℕ → Type 0
StayBeside before after entries line =
    (l : ℕ) (entry : code.Entry) → l ≢ line → found entries l ≡ Some entry →
    bytes_of after entry.slot ≡ bytes_of before entry.slot

-- so their entries are what they were
module _ (before after : Pooled) (old new : List code.Entry) (line : ℕ) (was is : Option code.Entry)
    (finds : Finds old new line was is)
    (stay : StayBeside before after old line) where
  pub entry_beside : (l : ℕ) → l ≢ line → entry_of (all_of after new) l ≡ entry_of (all_of before old) l
  entry_beside l other =
      shown_entry after new l ∙ ap (option_map (full after)) (finds.others l other) ∙ alike (found old l) refl
      ∙ sym (shown_entry before old l)
    where
      alike : (entry : Option code.Entry) → found old l ≡ entry →
          option_map (full after) entry ≡ option_map (full before) entry
      alike None none = refl
      alike (Some e) there =
          ap (λ bytes. Some (record { line = e.line.number; mask = e.mask; bytes = bytes })) (stay l e other there)

-- what a put leaves
module _ (before after : Pooled) (limit owner line offset : ℕ) (old new : List code.Entry) (bytes : List ℕ)
    (was : Option code.Entry)
    (entry : code.Entry) (inside : offset + length bytes ≤ LINE_BYTES) (finds : Finds old new line was (Some entry))
    (stay : StayBeside before after old line)
    (stored : (place : ℕ) → stored_at (full after entry) place ≡ laid offset bytes place (byte_of before was place))
    (count : length new ≡ (if is_some was then length old else length old + 1)) where
  had : is_some was ≡ holds (all_of before old) line
  had = sym (shown_holds before old line ∙ ap is_some finds.was)

  held_as : (address : ℕ) (x y : Option Entry) → x ≡ y
      → option_and_then (λ e. stored_at e (address % LINE_BYTES)) x
      ≡ option_and_then (λ e. stored_at e (address % LINE_BYTES)) y
  held_as address x y same = ap (option_and_then (λ e. stored_at e (address % LINE_BYTES))) same

  entry_here : (pool : Pooled) (entries : List code.Entry) (address : ℕ) → line_number address ≡ line
      → entry_of (all_of pool entries) (line_number address) ≡ option_map (full pool) (found entries line)
  entry_here pool entries address same = ap (entry_of (all_of pool entries)) same ∙ shown_entry pool entries line

  here : (address : ℕ) → line_number address ≡ line
      → held (all_of after new) address ≡ laid (line * LINE_BYTES + offset) bytes address
      (held (all_of before old) address)
  here address same =
      let place : ℕ = address % LINE_BYTES in
      held_as address _ (Some (full after entry))
      (entry_here after new address same ∙ ap (option_map (full after)) finds.is)
      ∙ stored place
      ∙ ap (laid offset bytes place)
      (sym (held_as address _ (option_map (full before) was)
      (entry_here before old address same ∙ ap (option_map (full before)) finds.was)))
      ∙ laid_in_line line offset address bytes (held (all_of before old) address) same

  elsewhere : (address : ℕ) → line_number address ≢ line
      → held (all_of after new) address ≡ laid (line * LINE_BYTES + offset) bytes address
      (held (all_of before old) address)
  elsewhere address other =
      held_as address _ _
      (entry_beside before after old new line was (Some entry) finds stay (line_number address) other)
      ∙ sym (laid_elsewhere line offset address bytes (held (all_of before old) address) inside other)

  pub shown_put : IsPut (lent before (hold_of limit owner old)) (lent after (hold_of limit owner new)) line offset bytes
  shown_put = record {
    limit = refl;
    put = λ address. elim (cases_eq (line_number address) line) [
      | inl same ↦ here address same
      | inr other ↦ elsewhere address other
    ];
    there = shown_holds after new line ∙ ap is_some finds.is;
    others = λ l other. entry_beside before after old new line was (Some entry) finds stay l other;
    count = length-shown after new ∙ count ∙ (λ k. if had k then size k else size k + 1);
  }
    where
      size : length old ≡ length (all_of before old)
      size = sym (length-shown before old)

-- the bytes of a line as they are seen, where its entry is found and where none is
pub seen_as : (pool : Pooled) (entries : List code.Entry) (line : ℕ) (entry : Option code.Entry) (under : List ℕ) →
    found entries line ≡ entry
    → (λ place. unwrap_or (byte_of pool entry place) (slice_index under place))
    ≡ seen_at (all_of pool entries) line under
seen_as pool entries line entry under is =
    ap (λ e. λ place. unwrap_or (option_and_then (λ x. stored_at x place) e) (slice_index under place))
    (sym (shown_entry pool entries line ∙ ap (option_map (full pool)) is))

-- what a drain leaves
pub shown_drained : (before after : Pooled) (limit owner line : ℕ) (old new : List code.Entry) (gone : code.Entry)
    (was now : List ℕ)
    → Finds old new line (Some gone) None → StayBeside before after old line → IsMerged before gone was now →
    length new + 1 ≡ length old
    → IsDrained (lent before (hold_of limit owner old)) (lent after (hold_of limit owner new)) line was now
shown_drained before after limit owner line old new gone was now finds stay merged count = record {
  limit = refl;
  merged =
      λ place within. merged place within ∙ ap (λ byte. byte place) (seen_as before old line (Some gone) was finds.was);
  gone = shown_holds after new line ∙ ap is_some finds.is;
  others = λ l other. entry_beside before after old new line (Some gone) None finds stay l other;
  count = omega (arith, count, length-shown after new, length-shown before old);
}

-- a line without room is none that is held
pub shown_full : (pool : Pooled) (limit owner line : ℕ) (entries : List code.Entry) (entry : Option code.Entry) →
    found entries line ≡ entry
    → IsFull (lent pool (hold_of limit owner entries)) line → is_some entry ≡ false
shown_full pool limit owner line entries entry is full =
    sym (ap is_some is) ∙ sym (shown_holds pool entries line) ∙ full.absent

pub full_shown : (pool : Pooled) (limit owner line : ℕ) (entries : List code.Entry) → found entries line ≡ None →
    length entries ≡ limit
    → IsFull (lent pool (hold_of limit owner entries)) line
full_shown pool limit owner line entries none full = record {
  absent = shown_holds pool entries line ∙ ap is_some none;
  full = length-shown pool entries ∙ full;
}
