-- what an action that ran leaves of the harts and of the output
use Rattle.std.proofs.Common.{◌≡◌, ◌∙◌, ℕ, ◌*◌, ◌%◌, ◌≤◌, List, ◌++◌, map, Option, Some, None, refl, ap, sym}
use Rattle.std.proofs.Common.{append-nil, arith}
use Rattle.std.specs.Prelude.{OnSome, option_map, slice_set}
use Rattle.std.proofs.lemmas.List.{map-set}
use Rattle.cache_sets.specs.Cached.{Cached, bytes_of}
use Rattle.coherence.specs.Beginning.{line_of}
use Rattle.el_base.specs.Line.{line_number}
use Rattle.el_base.specs.declared.line.TheConstants.{LINE_BYTES}
use Rattle.engine.proofs.Bytes.{same_piece}
use Rattle.engine.specs.Effect.{piece_in, unreserved_on}
use Rattle.hart_state.specs.Deeds.{unreserved_own}
use Rattle.hart_state.specs.Own.{OwnState}
use Rattle.reg_mark.specs.Marks.{unmarked, views_unreserved}
use Rattle.reg_mark.specs.declared.marked.Marked.{Marked}
use Rattle.rv_alu.proofs.Laws.Executions.{store_ends_reservation, unreserved-none}
use Rattle.rv_alu.specs.Execution.{Store, append_in, perform, store_in, view_after}
use Rattle.rv_alu.specs.Footprint.{IsInPlace, footprint}
use Rattle.rv_alu.specs.declared.action.Action.{Action}
use Rattle.rv_alu.specs.declared.action.Action.TheVariants as actions
use Rattle.rv_alu.specs.declared.span.Span.{Span}
use Rattle.rv_alu.specs.declared.view.HartView.{HartView}
use Rattle.rv_flat.specs.FlatState.{FlatState}
use Rattle.rv_flat.specs.Laws.{written_line}
use Rattle.rv_flat.specs.Memory.{piece_of}
use Rattle.rv_flat.specs.Step.{appended_by}

-- the line of a store, if there is one
abbrev pub store_line : Option Store → Option ℕ
store_line store = option_map (λ s. line_number s.address) store

-- it is the line that the action writes
pub line_stored : (action : Action) (view : HartView) (byte : ℕ → ℕ) →
    store_line (store_in (perform action view byte)) ≡ written_line (footprint action)
line_stored (actions.Trap cause) view byte = refl
line_stored (actions.Exit code) view byte = refl
line_stored (actions.Put rd value) view byte = refl
line_stored (actions.JumpAndLink rd target) view byte = refl
line_stored (actions.Go target) view byte = refl
line_stored (actions.Answer value) view byte = refl
line_stored (actions.Append address len) view byte = refl
line_stored (actions.Load width rd address) view byte = refl
line_stored (actions.LoadReserved rd address) view byte = refl
line_stored (actions.Store address len value) view byte = refl
line_stored (actions.StoreConditional rd address value) view byte = refl
line_stored (actions.Fail rd) view byte = refl
line_stored (actions.Amo op rd address source) view byte = refl

-- a hart without a reservation and without a checkpoint has nothing to lose
same_marks : (line : ℕ) (marks : Marked) → marks.mark ≡ None → marks.present.reserved ≡ None →
    views_unreserved line marks.mark marks.present ≡ marks
same_marks line marks none free =
    ap (λ mark. views_unreserved line mark marks.present) none
    ∙ ap unmarked (unreserved-none line marks.present free)
    ∙ sym (ap (λ mark. record marks { mark = mark }) none)

nothing_lost : (line : ℕ) (own : OwnState) → own.section.marks.mark ≡ None → own.section.marks.present.reserved ≡ None →
    unreserved_own line own ≡ own
nothing_lost line own none free =
    ap (λ marks. record own { section = record own.section { marks = marks } })
    (same_marks line own.section.marks none free)

own_set : (store : Option Store) (harts : List OwnState) (h : ℕ) (own : OwnState) → own.section.marks.mark ≡ None →
    OnSome store (own.section.marks.present.reserved ≡ None) →
    unreserved_on (store_line store) (slice_set harts h own) ≡ slice_set (unreserved_on (store_line store) harts) h own
own_set None harts h own none free = refl
own_set (Some store) harts h own none free =
    map-set (unreserved_own (line_number store.address)) harts h own
    ∙ ap (slice_set (map (unreserved_own (line_number store.address)) harts) h)
    (nothing_lost (line_number store.address) own none free)

-- others' reservations end after the hart has its new view, as before it
pub harts_after : (action : Action) (view : HartView) (byte : ℕ → ℕ) (harts : List OwnState) (h : ℕ) (own : OwnState) →
    own.section.marks.mark ≡ None → own.section.marks.present ≡ view_after (perform action view byte) view →
    unreserved_on (written_line (footprint action)) (slice_set harts h own)
    ≡ slice_set (unreserved_on (written_line (footprint action)) harts) h own
harts_after action view byte harts h own none is =
    let execution = perform action view byte in
    ap (λ line. unreserved_on line (slice_set harts h own)) (sym (line_stored action view byte))
    ∙ own_set (store_in execution) harts h own none
    (free_of (store_in execution) (sym (ap (λ v. v.reserved) is)) (store_ends_reservation action view byte))
    ∙ ap (λ line. slice_set (unreserved_on line harts) h own) (line_stored action view byte)
  where
    free_of : (store : Option Store) → {left right : Option ℕ} → left ≡ right → OnSome store (left ≡ None) →
        OnSome store (right ≡ None)
    free_of None same free = tt
    free_of (Some store) same free = sym same ∙ free

-- what an action appends is what it finds in the cache
abbrev pub TellsPiece : Cached → FlatState → Action → Type 0
TellsPiece cache state (actions.Append address len) =
    bytes_of cache (line_number address) ≡ line_of state (line_number address)
TellsPiece cache state _ = Unit {0}

comes_from : (first room address len : ℕ) (span : Span) → first * LINE_BYTES ≡ span.base →
    IsInPlace span room (actions.Append address len) → first ≤ line_number address
comes_from first room address len span is place = omega (arith, place.0.from_base, is)

pub appended_after : (cache : Cached) (state : FlatState) (first room : ℕ) (span : Span) (action : Action)
    (view : HartView) (byte : ℕ → ℕ) → first * LINE_BYTES ≡ state.base → first * LINE_BYTES ≡ span.base →
    IsInPlace span room action → TellsPiece cache state action → state.output ++ piece_in cache action
    ≡ appended_by (append_in (perform action view byte)) state.base state.bytes state.output
appended_after cache state first room span (actions.Append address len) view byte is base place tells =
    ap (λ piece. state.output ++ piece)
    (ap (λ bytes. piece_of bytes (address % LINE_BYTES) len) tells
    ∙ same_piece state first address len is (comes_from first room address len span base place) place.0.one_line)
appended_after cache state first room span (actions.Trap cause) view byte is base place tells = append-nil state.output
appended_after cache state first room span (actions.Exit code) view byte is base place tells = append-nil state.output
appended_after cache state first room span (actions.Put rd value) view byte is base place tells =
    append-nil state.output
appended_after cache state first room span (actions.JumpAndLink rd target) view byte is base place tells =
    append-nil state.output
appended_after cache state first room span (actions.Go target) view byte is base place tells = append-nil state.output
appended_after cache state first room span (actions.Answer value) view byte is base place tells =
    append-nil state.output
appended_after cache state first room span (actions.Load width rd address) view byte is base place tells =
    append-nil state.output
appended_after cache state first room span (actions.LoadReserved rd address) view byte is base place tells =
    append-nil state.output
appended_after cache state first room span (actions.Store address len value) view byte is base place tells =
    append-nil state.output
appended_after cache state first room span (actions.StoreConditional rd address value) view byte is base place tells =
    append-nil state.output
appended_after cache state first room span (actions.Fail rd) view byte is base place tells = append-nil state.output
appended_after cache state first room span (actions.Amo op rd address source) view byte is base place tells =
    append-nil state.output
