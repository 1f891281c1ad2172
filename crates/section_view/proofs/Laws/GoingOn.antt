-- a section goes on by a covered instruction
use Rattle.std.proofs.Common.{◌≡◌, ◌≤◌, ◌<◌, ◌+◌, ◌-◌, ◌*◌, ◌%◌, ◌∙◌, ◌==◌, ℕ, Bool, true, false, List, Option, None}
use Rattle.std.proofs.Common.{Some, length, nat_le, nat_lt}
use Rattle.std.proofs.Common.{arith, refl, ap, sym, subst, inl, inr, ◌⊎◌}
use Rattle.std.specs.Prelude.{MatchOption, slice_index}
use Rattle.std.proofs.lemmas.Bool.{cases_eq, or_left, or_right}
use Rattle.std.proofs.lemmas.Bool.Decides.{nat_tests}
use Rattle.std.proofs.lemmas.Option.{same_Some}
use Rattle.residency.specs.Cache.{write_bit}
use Rattle.residency.specs.Residency.{Way}
use Rattle.core_step.specs.Port.{byte_of}
use Rattle.el_base.specs.Line.{line_number}
use Rattle.el_base.specs.declared.line.TheConstants.{LINE_BYTES}
use Rattle.el_base.proofs.Laws.Cases.{none_some}
use Rattle.el_model.specs.State.{Section}
use Rattle.el_model.specs.Upcoming.{next_access, next_execution, next_store, overlaps, touch_of}
use Rattle.rv_alu.specs.Execution.{Store, store_in, view_after}
use Rattle.rv_alu.specs.Footprint.{IsNoWrite, IsPiece}
use Rattle.rv_alu.specs.declared.footprint.Access.{Access}
use Rattle.rv_alu.specs.declared.footprint.Access.TheVariants.{Nothing, Read, Write, Trap, Exit}
use Rattle.rv_alu.specs.declared.view.HartStatus.TheVariants.{Running}
use Rattle.rv_alu.specs.declared.view.HartView.{HartView}
use Rattle.rv_flat.proofs.Laws.PutBytes.{put_bytes-here, put_bytes-other}
use Rattle.rv_flat.proofs.Laws.RunsAfter.{runs-exists}
use Rattle.rv_flat.proofs.Laws.StepLaws.{one_line-touched, own_view, running, within}
use Rattle.rv_flat.specs.FlatState.{FlatState, span_of, status_of, view_of}
use Rattle.rv_flat.specs.Laws.{IsInOneLine, footprint_of, written_line}
use Rattle.rv_flat.specs.Run.{alone}
use Rattle.rv_flat.specs.Step.{flat, stored_by}
use Rattle.run_laws.proofs.Laws.Shown.{running_footprint}
use Rattle.run_laws.proofs.Laws.Alike.{alone_more}
use Rattle.run_laws.proofs.Laws.WordStores.{writes_store}
use Rattle.run_laws.specs.PrivateRun.{HasItsBit, IsCoveredRun, IsCoveredStep, IsOutsideWord}
use Rattle.section_view.proofs.Laws.Beginning.{or_cases}
use Rattle.rv_flat.proofs.Laws.Shapes.{keeps_alone}
use Rattle.section_view.proofs.Laws.ShownBytes.{do_as_shown}
use Rattle.section_view.specs.KeptRun.{HoldsMarked, KeepsRun, WroteLine, is_written}
use Rattle.section_view.specs.Laws.{GoesOn, HoldsAfter, IsHeldStore, SectionsGoOn}
use Rattle.write_hold.proofs.Laws.LookUps.{holds_after_put_other, laid_above, laid_below, laid_inside}
use Rattle.write_hold.specs.Held.{Entry, Held, held, holds}

-- an address that a store covers, with its byte, or one that it does not
data IsPutAt (store : Store) (old new : Held) (address : ℕ) : Type 0 where
  Covered : store.address ≤ address → address < store.address + store.len →
      held new.entries address ≡ Some (byte_of store.value (address - store.address)) → IsPutAt store old new address
  Kept : (store.address ≤ address → address < store.address + store.len → ⊥) →
      held new.entries address ≡ held old.entries address → IsPutAt store old new address

put_at : (store : Store) (old new : Held) → IsHeldStore store old new → (address : ℕ) → IsPutAt store old new address
put_at store old new stored address =
    by (nat_le store.address address) (nat_lt address (store.address + store.len)) refl refl
  where
    at : ℕ
    at = line_number store.address * LINE_BYTES + store.address % LINE_BYTES

    start : line_number store.address * LINE_BYTES + store.address % LINE_BYTES ≡ store.address
    start = omega arith

    by : (low high : Bool) → nat_le store.address address ≡ low → nat_lt address (store.address + store.len) ≡ high →
        IsPutAt store old new address
    by true true low high =
        let from : store.address ≤ address = grind (arith, nat_tests) in
        let below : address < store.address + store.len = grind (arith, nat_tests) in
        let count : length stored.bytes ≡ store.len = stored.low.count in
        Covered from below
        (stored.put.put address
        ∙ laid_inside at stored.bytes address (held old.entries address)
        (omega (arith, start)) (omega (arith, start))
        ∙ ap (λ start. Some (slice_index stored.bytes (address - start))) start
        ∙ ap Some (stored.low.each (address - store.address) (omega arith)))
    by true false low high =
        let past : store.address + store.len ≤ address = grind (arith, nat_tests) in
        let count : length stored.bytes ≡ store.len = stored.low.count in
        Kept (λ from below. omega arith)
        (stored.put.put address
        ∙ laid_above at stored.bytes address (held old.entries address) (omega (arith, start)))
    by false high low is =
        let before : address < store.address = grind (arith, nat_tests) in
        Kept (λ from below. omega arith)
        (stored.put.put address
        ∙ laid_below at stored.bytes address (held old.entries address) (omega (arith, start)))

-- the line of a store is held after it, and those that were held
stored_line : (store : Store) (old new : Held) → IsHeldStore store old new → (line : ℕ) →
    holds new.entries line ≡ true → (line ≡ line_number store.address) ⊎ (holds old.entries line ≡ true)
stored_line store old new stored line is = by (cases_eq line (line_number store.address))
  where
    by : (line ≡ line_number store.address) ⊎ (line ≡ line_number store.address → ⊥) →
        (line ≡ line_number store.address) ⊎ (holds old.entries line ≡ true)
    by (inl same) = inl same
    by (inr other) =
        inr
        (sym (holds_after_put_other old new (line_number store.address) (store.address % LINE_BYTES) stored.bytes
        stored.put line other) ∙ is)

still_held : (store : Store) (old new : Held) → IsHeldStore store old new → (line : ℕ) →
    holds old.entries line ≡ true → holds new.entries line ≡ true
still_held store old new stored line is = by (cases_eq line (line_number store.address))
  where
    by : (line ≡ line_number store.address) ⊎ (line ≡ line_number store.address → ⊥) → holds new.entries line ≡ true
    by (inl same) = ap (holds new.entries) same ∙ stored.put.there
    by (inr other) =
        holds_after_put_other old new (line_number store.address) (store.address % LINE_BYTES) stored.bytes
        stored.put line other ∙ is

-- what an instruction writes is what it stores
pub written_store : (access : Access) → IsNoWrite access → written_line access ≡ None
written_store (Write from len) none = absurd none
written_store (Read from len) none = refl
written_store Nothing none = refl
written_store (Trap cause) none = refl
written_store (Exit code) none = refl

no_store : (state : FlatState) (h : ℕ) → status_of state h ≡ Running → next_store state h ≡ None →
    written_line (footprint_of state h) ≡ None
no_store state h runs none =
    ap written_line (running_footprint state h runs)
    ∙ written_store (next_access state h) (by (next_store state h) none (within state (view_of state h)).store)
  where
    by : (store : Option Store) → store ≡ None →
        MatchOption store (IsNoWrite (next_access state h))
        (λ store. next_access state h ≡ Write store.address store.len) → IsNoWrite (next_access state h)
    by None none access = access
    by (Some store) none access = absurd (cc)

a_store : (state : FlatState) (h : ℕ) (store : Store) → status_of state h ≡ Running → next_store state h ≡ Some store →
    written_line (footprint_of state h) ≡ Some (line_number store.address)
a_store state h store runs is = ap written_line (running_footprint state h runs ∙ writes_store state h store is)

-- the bytes after an instruction
bytes_after : (state : FlatState) (h : ℕ) (store : Option Store) → status_of state h ≡ Running →
    next_store state h ≡ store → (flat state h).bytes ≡ stored_by store state.base state.bytes
bytes_after state h store runs is =
    ap (λ new. new.bytes) (running state h runs) ∙ ap (λ store. stored_by store state.base state.bytes) is

-- lines that were written by one step more
pub written_before : (committed : FlatState) (h n line : ℕ) → WroteLine committed h n line →
    WroteLine committed h (n + 1) line
written_before committed h n line wrote = let before =
    wrote.before in record { step = wrote.step; before = omega arith; writes = wrote.writes }

pub written_last : (committed : FlatState) (h n line : ℕ) →
    written_line (footprint_of (alone committed h n) h) ≡ Some line → WroteLine committed h (n + 1) line
written_last committed h n line is = record { step = n; before = omega arith; writes = is }

pub written_since : (committed : FlatState) (h n line : ℕ) → WroteLine committed h (n + 1) line →
    (written_line (footprint_of (alone committed h n) h) ≡ Some line) ⊎ WroteLine committed h n line
written_since committed h n line wrote = by (cases_eq wrote.step n)
  where
    by : (wrote.step ≡ n) ⊎ (wrote.step ≡ n → ⊥) → (written_line (footprint_of (alone committed h n) h) ≡ Some line) ⊎
        WroteLine committed h n line
    by (inl same) = inl (subst (λ n. written_line (footprint_of (alone committed h n) h) ≡ Some line) same wrote.writes)
    by (inr other) =
        let before = wrote.before in
        let earlier : wrote.step < n = omega arith in
        inr (record { step = wrote.step; before = earlier; writes = wrote.writes })

-- the view after one step more
pub view_after_step : (committed : FlatState) (h n : ℕ) (view : HartView) → view ≡ view_of (alone committed h n) h →
    status_of (alone committed h n) h ≡ Running →
    view_after (next_execution (alone committed h n) h) view ≡ view_of (alone committed h (n + 1)) h
view_after_step committed h n view is runs =
    let shown = alone committed h n in
    ap (view_after (next_execution shown h)) is ∙ sym (own_view shown h (runs-exists shown h runs) runs)
    ∙ sym (ap (λ state. view_of state h) (alone_more committed h n))

module _ (committed : FlatState) (h : ℕ) (cache now : List (List Way)) (section : Section) (view : HartView)
    (old new : Held)
    (run : IsCoveredRun committed h cache section) (keeps : KeepsRun committed h section view old.entries)
    (step : IsCoveredStep (alone committed h section.count) h section.word now) where
  runs : status_of (alone committed h section.count) h ≡ Running
  runs = run.running section.count (omega arith)

  base : (alone committed h section.count).base ≡ committed.base
  base = (keeps_alone committed h section.count).base

  after_bytes : (store : Option Store) → next_store (alone committed h section.count) h ≡ store →
      (alone committed h (section.count + 1)).bytes ≡ stored_by store (alone committed h section.count).base
      (alone committed h section.count).bytes
  after_bytes store is =
      ap (λ new. new.bytes) (alone_more committed h section.count)
      ∙ bytes_after (alone committed h section.count) h store runs is

  after_view : view_after (next_execution (alone committed h section.count) h) view
      ≡ view_of (alone committed h (section.count + 1)) h
  after_view = view_after_step committed h section.count view keeps.view runs

  KeptWith : List Entry → Type 0
  KeptWith entries =
      KeepsRun committed h (record section { count = section.count + 1 })
      (view_after (next_execution (alone committed h section.count) h) view) entries

  -- without a store
  nothing_wrote : next_store (alone committed h section.count) h ≡ None → (line : ℕ) →
      WroteLine committed h (section.count + 1) line → is_written section.word old.entries line ≡ true
  nothing_wrote none line wrote = by (written_since committed h section.count line wrote)
    where
      by : (written_line (footprint_of (alone committed h section.count) h) ≡ Some line)
          ⊎ WroteLine committed h section.count line → is_written section.word old.entries line ≡ true
      by (inl is) = none_some (sym (no_store (alone committed h section.count) h runs none) ∙ is)
      by (inr before) = (keeps.written line).0 before

  kept_without : next_store (alone committed h section.count) h ≡ None → KeptWith old.entries
  unfolding KeptWith
  kept_without none = record {
    view = after_view;
    held_byte =
        λ place byte is. ap (λ bytes. slice_index bytes place) (after_bytes None none) ∙ keeps.held_byte place byte is;
    unheld_byte =
        λ place is out. ap (λ bytes. slice_index bytes place) (after_bytes None none) ∙ keeps.unheld_byte place is out;
    free = keeps.free;
    written =
        λ line.
        (nothing_wrote none line, λ is. written_before committed h section.count line ((keeps.written line).1 is));
  }

  -- with one
  module _ (store : Store) (is : next_store (alone committed h section.count) h ≡ Some store)
      (stored : IsHeldStore store old new) where
    writes : next_access (alone committed h section.count) h ≡ Write store.address store.len
    writes = writes_store (alone committed h section.count) h store is

    piece : IsPiece (span_of (alone committed h section.count)) store.address store.len
    piece =
        let shown = alone committed h section.count in
        subst (IsInOneLine (span_of shown)) writes (one_line-touched shown (view_of shown h))

    covered_byte : (place : ℕ) → store.address ≤ committed.base + place →
        committed.base + place < store.address + store.len → slice_index (alone committed h (section.count + 1)).bytes
        place ≡ byte_of store.value (committed.base + place - store.address)
    covered_byte place low high =
        let shown = alone committed h section.count in
        let from : shown.base ≤ store.address = piece.from_base in
        let end : store.address + store.len ≤ shown.base + length shown.bytes = piece.before_end in
        ap (λ bytes. slice_index bytes place) (after_bytes (Some store) is)
        ∙ put_bytes-here shown.bytes (store.address - shown.base) store.len store.value
        (committed.base + place - store.address) place
        (omega arith) (omega arith) (omega (arith, base))

    kept_byte : (place : ℕ) →
        (store.address ≤ committed.base + place → committed.base + place < store.address + store.len → ⊥) →
        slice_index (alone committed h (section.count + 1)).bytes place
        ≡ slice_index (alone committed h section.count).bytes place
    kept_byte place out =
        let shown = alone committed h section.count in
        let from : shown.base ≤ store.address = piece.from_base in
        ap (λ bytes. slice_index bytes place) (after_bytes (Some store) is)
        ∙ put_bytes-other shown.bytes (store.address - shown.base) store.len store.value place
        (λ low high. out (omega (arith, base)) (omega (arith, base)))

    held_byte : (place byte : ℕ) → held new.entries (committed.base + place) ≡ Some byte →
        slice_index (alone committed h (section.count + 1)).bytes place ≡ byte
    held_byte place byte is_held = by (put_at store old new stored (committed.base + place))
      where
        by : IsPutAt store old new (committed.base + place) →
            slice_index (alone committed h (section.count + 1)).bytes place ≡ byte
        by (Covered low high there) = covered_byte place low high ∙ same_Some _ byte (sym there ∙ is_held)
        by (Kept out same) = kept_byte place out ∙ keeps.held_byte place byte (sym same ∙ is_held)

    unheld_byte : (place : ℕ) → held new.entries (committed.base + place) ≡ None →
        IsOutsideWord section.word (committed.base + place) →
        slice_index (alone committed h (section.count + 1)).bytes place ≡ slice_index committed.bytes place
    unheld_byte place none outside = by (put_at store old new stored (committed.base + place))
      where
        by : IsPutAt store old new (committed.base + place) →
            slice_index (alone committed h (section.count + 1)).bytes place ≡ slice_index committed.bytes place
        by (Covered low high there) = none_some (sym none ∙ there)
        by (Kept out same) = kept_byte place out ∙ keeps.unheld_byte place (sym same ∙ none) outside

    free : (address : ℕ) → section.word ≤ address → address < section.word + 4 → held new.entries address ≡ None
    free address from below = by (put_at store old new stored address)
      where
        apart : overlaps section.word (Some store) ≡ false
        apart = ap (overlaps section.word) (sym is) ∙ step.unmixed

        by : IsPutAt store old new address → held new.entries address ≡ None
        by (Covered low high there) = absurd (grind (arith, nat_tests))
        by (Kept out same) = same ∙ keeps.free address from below

    wrote : (line : ℕ) → WroteLine committed h (section.count + 1) line →
        is_written section.word new.entries line ≡ true
    wrote line by_step = by (written_since committed h section.count line by_step)
      where
        by : (written_line (footprint_of (alone committed h section.count) h) ≡ Some line)
            ⊎ WroteLine committed h section.count line → is_written section.word new.entries line ≡ true
        by (inl last) =
            let same = same_Some _ line (sym (a_store (alone committed h section.count) h store runs is) ∙ last) in
            or_right (line == line_number section.word) (holds new.entries line)
            (ap (holds new.entries) (sym same) ∙ stored.put.there)
        by (inr before) =
            or_cases (line == line_number section.word) (holds old.entries line) ((keeps.written line).0 before)
            (λ lock. or_left (line == line_number section.word) (holds new.entries line) lock)
            (λ was. or_right (line == line_number section.word) (holds new.entries line)
            (still_held store old new stored line was))

    was_written : (line : ℕ) → is_written section.word old.entries line ≡ true →
        WroteLine committed h (section.count + 1) line
    was_written line test = written_before committed h section.count line ((keeps.written line).1 test)

    wrote_it : (line : ℕ) → is_written section.word new.entries line ≡ true →
        WroteLine committed h (section.count + 1) line
    wrote_it line test =
        or_cases (line == line_number section.word) (holds new.entries line) test
        (λ lock. was_written line (or_left (line == line_number section.word) (holds old.entries line) lock))
        (λ there. by (stored_line store old new stored line there))
      where
        by : (line ≡ line_number store.address) ⊎ (holds old.entries line ≡ true) →
            WroteLine committed h (section.count + 1) line
        by (inl same) =
            written_last committed h section.count line
            (a_store (alone committed h section.count) h store runs is ∙ ap Some (sym same))
        by (inr was) = was_written line (or_right (line == line_number section.word) (holds old.entries line) was)

    kept_with : KeptWith new.entries
    unfolding KeptWith
    kept_with = record {
      view = after_view;
      held_byte = held_byte;
      unheld_byte = unheld_byte;
      free = free;
      written = λ line. (wrote line, wrote_it line);
    }

    marked_with : HoldsMarked now old.entries → HoldsMarked now new.entries
    marked_with marked line there = by (stored_line store old new stored line there)
      where
        bit : write_bit now (line_number store.address) ≡ true
        bit = subst (λ access. HasItsBit now (touch_of access)) writes step.bit

        by : (line ≡ line_number store.address) ⊎ (holds old.entries line ≡ true) → write_bit now line ≡ true
        by (inl same) = ap (write_bit now) same ∙ bit
        by (inr was) = marked line was

  going : (store : Option Store) → next_store (alone committed h section.count) h ≡ store → HoldsAfter store old new →
      GoesOn committed h now section (view_after (next_execution (alone committed h section.count) h) view) old new
  unfolding KeptWith
  going None is same =
      record {
        keeps = subst KeptWith (sym same) (kept_without is);
        marked = λ marked. subst (HoldsMarked now) (sym same) marked;
      }
  going (Some store) is stored = record { keeps = kept_with store is stored; marked = marked_with store is stored }

pub goes_on : SectionsGoOn
goes_on committed h cache now section view old new under run keeps beside step after =
    let does = do_as_shown committed h cache section view old.entries under run keeps beside in
    subst (λ execution. GoesOn committed h now section (view_after execution view) old new) (sym does)
    (going committed h cache now section view old new run keeps step
    (next_store (alone committed h section.count) h) refl
    (subst (λ execution. HoldsAfter (store_in execution) old new) does after))
