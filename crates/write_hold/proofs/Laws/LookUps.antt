-- What a hold has after each call, of the same line and of another one, and that what is laid later wins.
use Rattle.std.proofs.Common.{◌≡◌, ◌≢◌, ℕ, ◌+◌, ◌-◌, ◌*◌, ◌%◌, ◌<◌, ◌≤◌, ◌&&◌, nat_le, nat_lt, if◌then◌else◌, Bool}
use Rattle.std.proofs.Common.{true, false, List, [], length}
use Rattle.std.proofs.Common.{slice_index, Option, None, Some, is_some, option_and_then, refl, ap, ◌∙◌, arith}
use Rattle.std.specs.Option.{unwrap_or}
use Rattle.std.proofs.lemmas.Bool.Decides.{nat_tests}
use Rattle.el_base.specs.Line.{line_number}
use Rattle.el_base.specs.declared.line.TheConstants.{LINE_BYTES}
use Rattle.write_hold.specs.Calls.{IsDrained, IsPut}
use Rattle.write_hold.specs.Held.{Entry, Held, entry_of, held, held_at, holds, laid, seen_at, stored_at}

-- an address that the bytes cover has its byte of them, and each other one what it had
module _ (start : ℕ) (bytes : List ℕ) (address : ℕ) (under : Option ℕ) where
  chosen : (covered : Bool) → (nat_le start address && nat_lt address (start + length bytes)) ≡ covered
      → laid start bytes address under ≡ (if covered then Some (slice_index bytes (address - start)) else under)
  chosen covered is = ap (λ b. if b then Some (slice_index bytes (address - start)) else under) is

  pub laid_inside : start ≤ address → address < start + length bytes →
      laid start bytes address under ≡ Some (slice_index bytes (address - start))
  laid_inside from before = chosen true (grind (arith, nat_tests))

  pub laid_below : address < start → laid start bytes address under ≡ under
  laid_below below = chosen false (grind (arith, nat_tests))

  pub laid_above : start + length bytes ≤ address → laid start bytes address under ≡ under
  laid_above above = chosen false (grind (arith, nat_tests))

  -- no byte outside of a line that the bytes lie in is theirs
  pub laid_in_other_line : (line offset : ℕ) → start ≡ line * LINE_BYTES + offset →
      offset + length bytes ≤ LINE_BYTES → line_number address ≢ line
      → laid start bytes address under ≡ under
  laid_in_other_line line offset is inside other = chosen false (grind (arith, nat_tests))

-- what is laid later wins: bytes that were covered leave no trace
pub later_wins : (first second : ℕ) (old new : List ℕ) (address : ℕ) (under : Option ℕ) → second ≤ first →
    first + length old ≤ second + length new
    → laid second new address (laid first old address under) ≡ laid second new address under
later_wins first second old new address under from past =
    step (nat_le first address && nat_lt address (first + length old))
    (nat_le second address && nat_lt address (second + length new))
    (λ covered. grind (arith, nat_tests))
  where
    step : (in_old in_new : Bool) → (in_old ≡ true → in_new ≡ true)
        →
        (if in_new then Some (slice_index new (address - second)) else if in_old
        then Some (slice_index old (address - first)) else under)
        ≡ (if in_new then Some (slice_index new (address - second)) else under)
    step in_old true covers = refl
    step false false covers = refl
    step true false covers = cc (covers refl)

-- bytes that lie apart may be laid in either order
pub either_order : (first second : ℕ) (old new : List ℕ) (address : ℕ) (under : Option ℕ) → first + length old ≤ second
    → laid second new address (laid first old address under) ≡ laid first old address (laid second new address under)
either_order first second old new address under apart =
    step (nat_le first address && nat_lt address (first + length old))
    (nat_le second address && nat_lt address (second + length new))
    (λ covered. grind (arith, nat_tests))
  where
    step : (in_old in_new : Bool) → (in_old ≡ true → in_new ≡ false)
        →
        (if in_new then Some (slice_index new (address - second)) else if in_old
        then Some (slice_index old (address - first)) else under)
        ≡ (if in_old then Some (slice_index old (address - first)) else if in_new
        then Some (slice_index new (address - second)) else under)
    step true true covers = cc (covers refl)
    step true false covers = refl
    step false in_new covers = refl

-- an address is a place of its line
pub held_at_address : (entries : List Entry) (line place : ℕ) → place < LINE_BYTES →
    held entries (line * LINE_BYTES + place) ≡ held_at entries line place
held_at_address entries line place within =
    let its_line : line_number (line * LINE_BYTES + place) ≡ line = omega arith in
    let its_place : (line * LINE_BYTES + place) % LINE_BYTES ≡ place = omega arith in
    (λ k. held_at entries (its_line k) (its_place k))

-- a line that is not held has no byte, so it shows those under it
pub held_at_no_line : (entries : List Entry) (line place : ℕ) → holds entries line ≡ false →
    held_at entries line place ≡ None
held_at_no_line entries line place absent = step (entry_of entries line) absent
  where
    step : (entry : Option Entry) → is_some entry ≡ false → option_and_then (λ e. stored_at e place) entry ≡ None
    step None absent = refl
    step (Some entry) absent = absurd cc

pub held_no_line : (entries : List Entry) (address : ℕ) → holds entries (line_number address) ≡ false →
    held entries address ≡ None
held_no_line entries address absent = held_at_no_line entries (line_number address) (address % LINE_BYTES) absent

pub seen_at_no_line : (entries : List Entry) (line : ℕ) (under : List ℕ) (place : ℕ) → holds entries line ≡ false
    → seen_at entries line under place ≡ slice_index under place
seen_at_no_line entries line under place absent =
    ap (λ byte. unwrap_or byte (slice_index under place)) (held_at_no_line entries line place absent)

-- a byte that is held is of a line that is held
pub holds_line_of_held : (entries : List Entry) (address byte : ℕ) → held entries address ≡ Some byte →
    holds entries (line_number address) ≡ true
holds_line_of_held entries address byte is = step (entry_of entries (line_number address)) is
  where
    step : (entry : Option Entry) → option_and_then (λ e. stored_at e (address % LINE_BYTES)) entry ≡ Some byte →
        is_some entry ≡ true
    step None is = absurd cc
    step (Some entry) is = refl

-- two holds that have the same of a line
same_of_line : (old new : List Entry) (address : ℕ) →
    entry_of new (line_number address) ≡ entry_of old (line_number address)
    → held new address ≡ held old address
same_of_line old new address same = ap (option_and_then (λ e. stored_at e (address % LINE_BYTES))) same

-- after a put
module _ (old new : Held) (line offset : ℕ) (bytes : List ℕ) (put : IsPut old new line offset bytes) where
  pub held_after_put_inside : (address : ℕ) → line * LINE_BYTES + offset ≤ address →
      address < line * LINE_BYTES + offset + length bytes
      → held new.entries address ≡ Some (slice_index bytes (address - (line * LINE_BYTES + offset)))
  held_after_put_inside address from before =
      put.put address ∙ laid_inside (line * LINE_BYTES + offset) bytes address (held old.entries address) from before

  pub held_after_put_below : (address : ℕ) → address < line * LINE_BYTES + offset →
      held new.entries address ≡ held old.entries address
  held_after_put_below address below =
      put.put address ∙ laid_below (line * LINE_BYTES + offset) bytes address (held old.entries address) below

  pub held_after_put_above : (address : ℕ) → line * LINE_BYTES + offset + length bytes ≤ address →
      held new.entries address ≡ held old.entries address
  held_after_put_above address above =
      put.put address ∙ laid_above (line * LINE_BYTES + offset) bytes address (held old.entries address) above

  pub held_after_put_in_other_line : (address : ℕ) → line_number address ≢ line →
      held new.entries address ≡ held old.entries address
  held_after_put_in_other_line address other =
      same_of_line old.entries new.entries address (put.others (line_number address) other)

  pub holds_after_put_other : (l : ℕ) → l ≢ line → holds new.entries l ≡ holds old.entries l
  holds_after_put_other l other = ap is_some (put.others l other)

-- after two puts
pub held_after_two_puts : (old between new : Held) (line offset l o : ℕ) (bytes more : List ℕ) →
    IsPut old between line offset bytes
    → IsPut between new l o more → (address : ℕ) → held new.entries address
    ≡ laid (l * LINE_BYTES + o) more address
    (laid (line * LINE_BYTES + offset) bytes address (held old.entries address))
held_after_two_puts old between new line offset l o bytes more first second address =
    second.put address ∙ ap (laid (l * LINE_BYTES + o) more address) (first.put address)

-- after a drain
module _ (old new : Held) (line : ℕ) (before after : List ℕ) (drained : IsDrained old new line before after) where
  pub held_after_drain_same : (address : ℕ) → line_number address ≡ line → held new.entries address ≡ None
  held_after_drain_same address same = held_no_line new.entries address (ap (holds new.entries) same ∙ drained.gone)

  pub held_after_drain_other : (address : ℕ) → line_number address ≢ line →
      held new.entries address ≡ held old.entries address
  held_after_drain_other address other =
      same_of_line old.entries new.entries address (drained.others (line_number address) other)

  pub holds_after_drain_other : (l : ℕ) → l ≢ line → holds new.entries l ≡ holds old.entries l
  holds_after_drain_other l other = ap is_some (drained.others l other)

  -- the line shows what it showed
  pub seen_after_drain : (place : ℕ) → place < LINE_BYTES →
      seen_at new.entries line after place ≡ seen_at old.entries line before place
  seen_after_drain place within =
      seen_at_no_line new.entries line after place drained.gone ∙ drained.merged place within

-- where nothing is held
pub held_nothing : (address : ℕ) → held [] address ≡ None
held_nothing address = refl

pub holds_nothing : (line : ℕ) → holds [] line ≡ false
holds_nothing line = refl
