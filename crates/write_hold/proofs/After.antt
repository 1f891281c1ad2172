-- The fields of a hold after each call, what they show, and what they owe the pool.
use Rattle.std.proofs.Common.{◌≡◌, ℕ, ◌+◌, ◌≤◌, ◌<◌, true, false, List, [], ◌∷◌, ◌++◌, length, get_or, set, None, Some}
use Rattle.std.proofs.Common.{is_some, ap, sym, subst, ◌∙◌, arith}
use Rattle.std.specs.List.{position, remove}
use Rattle.std.specs.Prelude.{slice_index}
use Rattle.std.proofs.lemmas.List.{length-append, length-set}
use Rattle.std.proofs.lemmas.List.Edits.{length-remove}
use Rattle.el_base.proofs.Laws.ListLaws.{find_by_no_position, place_by_position}
use Rattle.el_base.specs.declared.line.TheConstants.{LINE_BYTES}
use Rattle.line_pool.specs.declared.slot.Slot.{Slot}
use Rattle.line_pool.specs.Calls.{IsGiven, IsTaken, IsWritten}
use Rattle.line_pool.specs.Others.{LeavesOthers}
use Rattle.line_pool.specs.Pooled.{Pooled, bytes_of, is_out, out_of, quota_of}
use Rattle.line_pool.proofs.Laws.{out-within}
use Rattle.write_hold.specs.declared.entry.Entry as code
use Rattle.write_hold.specs.Calls.{IsDrained, IsFull, IsPut}
use Rattle.write_hold.specs.Entries.{IsMerged, IsStored, HoldStands, hold_of, number_of}
use Rattle.write_hold.specs.Held.{laid, stored_at}
use Rattle.write_hold.specs.Slotted.{IsLent, Slotted, lent}
use Rattle.write_hold.proofs.Finds.{found_at_position}
use Rattle.write_hold.proofs.Shown.{full, full_shown, shown_drained, shown_full, shown_put}
use Rattle.write_hold.proofs.Slots.{entry-out, leaves-given_entry, leaves-stored, leaves-written_entry, lent-given}
use Rattle.write_hold.proofs.Slots.{lent-stored, lent-written}
use Rattle.write_hold.proofs.Slots.{out-counted, stay-taken, stay-written}
use Rattle.write_hold.proofs.Steps.{finds_pushed, finds_removed, finds_set, found, is_of, stands_pushed, stands_removed}
use Rattle.write_hold.proofs.Steps.{stands_set}

module _ {limit owner room : ℕ} {entries : List code.Entry} {v : Slotted} (stands : HoldStands limit room entries)
    (is : hold_of limit owner entries ≡ v)
    {pool : Pooled} (owes : IsLent pool v) (line : ℕ) where
  owes_shown : IsLent pool (hold_of limit owner entries)
  owes_shown = subst (IsLent pool) (sym is) owes

  -- a line that is held, where it was read
  module _ {place : ℕ} (at : position (is_of line) entries ≡ Some place) {x : code.Entry}
      (read : x ≡ get_or entries place x) where
    x_found : found entries line ≡ Some x
    x_found = found_at_position (is_of line) entries place x at read

    pub held-out : is_out pool x.slot ≡ true
    held-out = entry-out pool limit owner entries owes_shown line x x_found

    pub held-not_full : IsFull (lent pool v) line → is_some (Some x) ≡ false
    held-not_full full =
        shown_full pool limit owner line entries (Some x) x_found
        (subst (λ hold. IsFull (lent pool hold) line) (sym is) full)

    module _ {after : Pooled} {y : code.Entry} {offset : ℕ} {bytes : List ℕ}
        (stored : IsStored pool after x y offset bytes) where
      pub stands-held : HoldStands limit room (set entries place y)
      stands-held = stands_set entries line place x y at read stored.line limit room stands

      pub put-held : offset + length bytes ≤ LINE_BYTES
          → IsPut (lent pool v) (lent after (hold_of limit owner (set entries place y))) line offset bytes
      put-held inside =
          subst (λ hold. IsPut (lent pool hold) (lent after (hold_of limit owner (set entries place y))) line
          offset bytes) is
          (shown_put pool after limit owner line offset entries (set entries place y) bytes (Some x) y inside
          (finds_set entries line place x y at read stored.line)
          (stay-written pool limit owner entries owes_shown line x x_found after (bytes_of after x.slot) stored.written)
          stored.laid (length-set entries place y))

      pub lent-held : IsLent after (hold_of limit owner (set entries place y))
      lent-held =
          lent-written pool limit owner entries owes_shown after place x y (bytes_of after x.slot) read
          stored.slot stored.written

      pub leaves-held : LeavesOthers owner pool after
      leaves-held =
          leaves-written_entry pool limit owner entries owes_shown line x x_found after
          (bytes_of after x.slot) stored.written

    -- it left, and its slot was given back
    module _ {after : Pooled} (given : IsGiven pool after x.slot) where
      pub stands-drained : (more : ℕ) → room ≤ more → HoldStands limit more (remove entries place)
      stands-drained more grows = stands_removed entries line place x at read limit room more grows stands

      pub drained-after : (was now : List ℕ) → IsMerged pool x was now
          → IsDrained (lent pool v) (lent after (hold_of limit owner (remove entries place))) line was now
      drained-after was now merged =
          subst (λ hold. IsDrained (lent pool hold) (lent after (hold_of limit owner (remove entries place)))
          line was now) is
          (shown_drained pool after limit owner line entries (remove entries place) x was now
          (finds_removed entries line place x at read (stands.once line))
          (λ l entry apart there. given.bytes entry.slot) merged
          (length-remove entries place (place_by_position (is_of line) entries place at).1))

      pub lent-drained : IsLent after (hold_of limit owner (remove entries place))
      lent-drained =
          lent-given pool limit owner entries owes_shown after place x
          (place_by_position (is_of line) entries place at).1 read given

      pub leaves-drained : LeavesOthers owner pool after
      leaves-drained = leaves-given_entry pool limit owner entries owes_shown line x x_found after given

  -- a line that is new
  module _ (at : position (is_of line) entries ≡ None) where
    none_found : found entries line ≡ None
    none_found = find_by_no_position (is_of line) entries at

    -- its owner has its whole quota out
    pub full-new : out_of pool owner ≡ quota_of pool owner → IsFull (lent pool v) line
    full-new out =
        subst (λ hold. IsFull (lent pool hold) line) is
        (full_shown pool limit owner line entries none_found
        (sym (out-counted pool limit owner entries owes_shown) ∙ out ∙ owes_shown.quota))

    -- or a slot was taken for it
    module _ {between after : Pooled} {slot : Slot} (taken : IsTaken pool between owner slot) {fresh y : code.Entry}
        {offset : ℕ} {bytes : List ℕ}
        (own : fresh.slot ≡ slot) (stored : IsStored between after fresh y offset bytes)
        (its : number_of fresh ≡ line) where
      y_line : number_of y ≡ line
      y_line = ap (λ l. l.number) stored.line ∙ its

      pub room-new : length entries < limit
      room-new =
          omega (
            arith,
            out-counted pool limit owner entries owes_shown,
            taken.count,
            out-within between owner,
            ap (λ quotas. slice_index quotas owner) taken.quotas,
            owes_shown.quota,
          )

      pub stands-new : (more : ℕ) → room ≤ more → HoldStands limit more (entries ++ y ∷ [])
      stands-new more grows = stands_pushed entries line y at y_line limit room more room-new grows stands

      pub put-new : offset + length bytes ≤ LINE_BYTES → ((place : ℕ) → stored_at (full between fresh) place ≡ None)
          → IsPut (lent pool v) (lent after (hold_of limit owner (entries ++ y ∷ []))) line offset bytes
      put-new inside nothing =
          subst (λ hold. IsPut (lent pool hold) (lent after (hold_of limit owner (entries ++ y ∷ []))) line
          offset bytes) is
          (shown_put pool after limit owner line offset entries (entries ++ y ∷ []) bytes None y inside
          (finds_pushed entries line y at y_line)
          (stay-taken pool limit owner entries owes_shown between after y slot (bytes_of after fresh.slot) taken
          (subst (λ s. IsWritten between after s (bytes_of after fresh.slot)) own stored.written)
          (stored.slot ∙ own) line)
          (λ place. stored.laid place ∙ ap (laid offset bytes place) (nothing place))
          (length-append entries (y ∷ [])))

      pub lent-new : IsLent after (hold_of limit owner (entries ++ y ∷ []))
      lent-new =
          lent-stored pool limit owner entries owes_shown between after y slot (bytes_of after fresh.slot) taken
          (subst (λ s. IsWritten between after s (bytes_of after fresh.slot)) own stored.written) (stored.slot ∙ own)

      pub leaves-new : LeavesOthers owner pool after
      leaves-new =
          leaves-stored pool limit owner entries owes_shown between after y slot (bytes_of after fresh.slot) taken
          (subst (λ s. IsWritten between after s (bytes_of after fresh.slot)) own stored.written) (stored.slot ∙ own)
