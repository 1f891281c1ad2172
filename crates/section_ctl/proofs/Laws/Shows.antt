-- the private run of a section is kept, and takes effect
use Rattle.std.proofs.Common.{◌≡◌, ℕ, ◌+◌, ◌-◌, ◌%◌, ◌^◌, ◌≤◌, ◌<◌, ◌||◌, Bool, true, false, List, [], map, slice_index}
use Rattle.std.proofs.Common.{Option, None, Some, is_some}
use Rattle.std.proofs.Common.{option_map, inl, inr, refl, ap, sym, subst, ◌∙◌, arith}
use Rattle.std.specs.Option.{unwrap_or}
use Rattle.std.specs.Prelude.{IfSome, if◌then◌else◌}
use Rattle.std.proofs.lemmas.Bool.{cases_eq}
use Rattle.residency.proofs.Laws.CacheLemmas.{way_of-touched}
use Rattle.residency.specs.Cache.{bit_in, is_resident, marked, touched, way_of, write_bit}
use Rattle.cache_sets.specs.Cached.{Cached, bytes_of, cached_byte}
use Rattle.line_pool.specs.Pooled.{Pooled}
use Rattle.residency.specs.Residency.{Way}
use Rattle.el_base.specs.Line.{line_number}
use Rattle.el_base.specs.declared.line.TheConstants.{LINE_BYTES}
use Rattle.el_base.specs.declared.outcomes.Need.TheVariants.{Write}
use Rattle.el_model.specs.State.{Section}
use Rattle.el_model.specs.Upcoming.{Touch, is_release, touch_of}
use Rattle.section_view.proofs.Laws.Touches.{on_bit, touched_on_bit}
use Rattle.section_view.specs.PrivateRun.{HasItsBit, IsCoveredStep}
use Rattle.rv_alu.specs.declared.action.Action.{Action}
use Rattle.rv_flat.proofs.Laws.StepLaws.{one_line-touched}
use Rattle.rv_flat.specs.FlatState.{FlatState, span_of}
use Rattle.rv_flat.specs.Laws.{touched_by}
use Rattle.rv_flat.specs.Memory.{AreBytes, byte_in}
use Rattle.rv_flat.specs.Run.{alone}
use Rattle.rv_alu.specs.Footprint.{footprint}
use Rattle.rv_alu.specs.declared.action.Action.TheVariants as actions
use Rattle.rv_alu.specs.Execution.{Store, insn_at, perform, put_of, release_of, store_in, view_after}
use Rattle.rv_alu.specs.declared.view.HartStatus.TheVariants.{Running}
use Rattle.rv_alu.specs.declared.view.HartView.{HartView}
use Rattle.rv_word.specs.Decoding.{decoded}
use Rattle.rv_word.specs.declared.reg.Reg.{Reg}
use Rattle.section_ctl.proofs.Drained.{bytes_or_none, copy_of}
use Rattle.section_view.proofs.Laws.Beginning.{begins}
use Rattle.section_view.proofs.Laws.Committing.{commits, released_view_told}
use Rattle.section_view.proofs.Laws.GoingOn.{goes_on}
use Rattle.section_view.proofs.Laws.Shapes.{comes_to}
use Rattle.section_view.specs.KeptRun.{HoldsMarked, KeepsRun, section_byte, section_execution}
use Rattle.section_view.specs.Laws.{AgreeBeside, HoldsAfter}
use Rattle.section_view.specs.Release.{HasEffect, released_view}
use Rattle.write_hold.proofs.Laws.LookUps.{held_no_line, holds_after_put_other}
use Rattle.write_hold.specs.Held.{Entry, Held, held, holds}
use Rattle.write_hold.specs.Slotted.{lent_entry}
use Rattle.section_ctl.specs.Calls.{HasCommitted, HasReleased, HasReleasedBy, HasRun, IsCoveredIn, begun_state}
use Rattle.section_ctl.specs.Calls.{committed_copy, run_of}
use Rattle.section_ctl.specs.PrivateRuns.{BeginsRun, CommitsCode, CommitsRun, FollowsMemory, GoesOnRun, IsKept}
use Rattle.section_ctl.specs.PrivateRuns.{TakesEffect}
use Rattle.section_ctl.specs.State.{SectionState, hold_in}

-- the cache has the committed bytes wherever what comes next touches memory
pub agrees : (pool : Pooled) (committed : FlatState) (h : ℕ) (state : SectionState) (section : Section)
    (cache : Cached) → IsKept pool committed h state section cache →
    IsCoveredStep (alone committed h section.count) h section.word cache.residency →
    AgreeBeside committed section.word (touched_by committed state.marks.present) (cached_byte cache)
agrees pool committed h state section cache kept covered address there outside =
    let view = state.marks.present in
    let access =
    (comes_to committed h cache.residency section view (hold_in pool state).entries kept.run kept.keeps).access in
    let bit = subst (λ a. HasItsBit cache.residency (touch_of a)) access covered.bit in
    let touched =
    touched_on_bit (span_of committed) cache.residency (touched_by committed view) address
    (one_line-touched committed view)
    (on_bit cache.residency (touch_of (touched_by committed view)) bit) there in
    kept.bytes address touched.above touched.bit

pub goes_on_run : (pool next : Pooled) (old new : SectionState) (section : Section) (cache : Cached) (action : Action) →
    HasRun pool next old new section (run_of pool old section cache action) →
    GoesOnRun pool next old new section cache action
goes_on_run pool next old new section cache action ran committed h kept is covered =
    let view = old.marks.present in
    let before = hold_in pool old in
    let after = hold_in next new in
    let byte = section_byte before.entries section.word section.new (cached_byte cache) in
    let held = subst (λ a. HoldsAfter (store_in (perform a view byte)) before after) is ran.hold in
    let keeps =
    (goes_on committed h cache.residency cache.residency section view before after (cached_byte cache)
    kept.run kept.keeps
    (agrees pool committed h old section cache kept covered) covered held).keeps in
    let present = ap (λ marks. marks.present) ran.marks ∙ ap (λ a. view_after (perform a view byte) view) is in
    subst (λ v. KeepsRun committed h (record section { count = section.count + 1 }) v after.entries) (sym present) keeps

-- a store is to the line that its action touches for writing
store_touched : (cache : List (List Way)) (action : Action) (view : HartView) (byte : ℕ → ℕ) →
    HasItsBit cache (touch_of (footprint action)) →
    IfSome (store_in (perform action view byte)) (λ store. write_bit cache (line_number store.address) ≡ true)
store_touched cache (actions.Store address len value) view byte bit = bit
store_touched cache (actions.StoreConditional rd address value) view byte bit = bit
store_touched cache (actions.Amo op rd address source) view byte bit = bit
store_touched cache _ view byte bit = tt

-- held lines still have the write bit
marked_with : (store : Option Store) (cache : List (List Way)) (old new : Held) →
    IfSome store (λ s. write_bit cache (line_number s.address) ≡ true) → HoldsAfter store old new →
    HoldsMarked cache old.entries → HoldsMarked cache new.entries
marked_with None cache old new bit same marked line is =
    marked line (ap (λ entries. holds entries line) (sym same) ∙ is)
marked_with (Some store) cache old new bit held marked line is = elim (cases_eq line (line_number store.address)) [
  | inl same ↦ ap (write_bit cache) same ∙ bit
  | inr other ↦ marked line (sym (holds_after_put_other old new (line_number store.address)
      (store.address % LINE_BYTES) held.bytes held.put line other) ∙ is)
]

write_bit_covered : (old new : Cached) (touch : Option Touch) (line : ℕ) → HasItsBit old.residency touch →
    IsCoveredIn old new touch → write_bit new.residency line ≡ write_bit old.residency line
write_bit_covered old new None line bit after = ap (λ cache. write_bit cache line) after.residency
write_bit_covered old new (Some touch) line bit after =
    ap (λ cache. write_bit cache line) after.residency
    ∙ ap (λ b. write_bit (touched (if b then old.residency else marked old.residency touch.line touch.need) touch.line)
    line) bit
    ∙ ap (bit_in Write) (way_of-touched old.residency touch.line line)

pub marked_after : (pool next : Pooled) (old new : SectionState) (section : Section) (before after : Cached)
    (action : Action) → HasItsBit before.residency (touch_of (footprint action)) →
    HoldsMarked before.residency (hold_in pool old).entries →
    HasRun pool next old new section (run_of pool old section before action) →
    IsCoveredIn before after (touch_of (footprint action)) → HoldsMarked after.residency (hold_in next new).entries
marked_after pool next old new section before after action bit marked ran covered line is =
    let byte = section_byte (hold_in pool old).entries section.word section.new (cached_byte before) in
    write_bit_covered before after (touch_of (footprint action)) line bit covered
    ∙ marked_with (store_in (run_of pool old section before action)) before.residency (hold_in pool old)
    (hold_in next new)
    (store_touched before.residency action old.marks.present byte bit) ran.hold marked line is

-- a section begins
pub begins_run : (before after : SectionState) (word old new : ℕ) (rd : Reg) → before.marks.present.status ≡ Running →
    before.hold.entries ≡ [] → after ≡ begun_state before word old new rd.number →
    BeginsRun before after (record { count = 1; word = word; old = old; new = new }) rd
begins_run before after word old new rd running empty is pool committed h op address source at next acts =
    let section : Section = record { count = 1; word = word; old = old; new = new } in
    let keeps =
    begins committed h (record { word = word; old = old; new = new }) op rd address source
    (ap (λ view. view.status) (sym at)
    ∙ running) next acts in
    let present = ap (λ state. state.marks.present) is ∙ ap (λ view. release_of (put_of view rd.number old)) at in
    let nothing = ap (λ state. (hold_in pool state).entries) is ∙ ap (map (lent_entry pool)) empty in
    subst (λ entries. KeepsRun committed h section after.marks.present entries) (sym nothing)
    (subst (λ view. KeepsRun committed h section view []) (sym present) keeps)

-- the bytes of a line of which nothing was held
bytes_committed : (way other : Option Way) (left right : List ℕ) (written : Bool) → is_some other ≡ true →
    option_map (copy_of left) other ≡ option_map (committed_copy written) (option_map (copy_of right) way) →
    left ≡ right
bytes_committed way None left right written there same = absurd cc
bytes_committed None (Some w) left right written there same = absurd cc
bytes_committed (Some way) (Some w) left right written there same = ap bytes_or_none same

-- the cache has the bytes of memory after a commit
module _ (committed done : FlatState) (h word : ℕ) (view : HartView) (hold : List Entry) (old new : Cached)
    (effect : HasEffect committed done h word view hold) (puts : HasCommitted old new hold) where
  -- each byte of memory
  done_byte : (address : ℕ) → committed.base ≤ address →
      byte_in done.base done.bytes address ≡ unwrap_or (held hold address)
      (byte_in committed.base committed.bytes address)
  done_byte address above =
      let there : committed.base + (address - committed.base) ≡ address = omega arith in
      ap (λ base. slice_index done.bytes (address - base)) effect.base ∙ effect.bytes (address - committed.base)
      ∙ ap (λ a. unwrap_or (held hold a) (slice_index committed.bytes (address - committed.base))) there

  -- the byte was as it was in memory
  abbrev Had : ℕ → Type 0
  Had address = cached_byte old address ≡ byte_in committed.base committed.bytes address

  on_held : (address : ℕ) → Had address → holds hold (line_number address) ≡ true →
      cached_byte new address ≡ unwrap_or (held hold address) (byte_in committed.base committed.bytes address)
  on_held address had is =
      let below : address % LINE_BYTES < LINE_BYTES = omega arith in
      puts.bytes (line_number address) (address % LINE_BYTES) is below ∙ ap (unwrap_or (held hold address)) had

  on_other : (address : ℕ) → Had address → is_resident new.residency (line_number address) ≡ true →
      holds hold (line_number address) ≡ false →
      cached_byte new address ≡ unwrap_or (held hold address) (byte_in committed.base committed.bytes address)
  on_other address had there none =
      let line : ℕ = line_number address in
      let before = way_of old.residency line in
      let after = way_of new.residency line in
      let same =
      bytes_committed before after (bytes_of new line) (bytes_of old line) (write_bit old.residency line) there
      (puts.others line none) in
      ap (λ bytes. slice_index bytes (address % LINE_BYTES)) same ∙ had
      ∙ sym (ap (λ byte. unwrap_or byte (byte_in committed.base committed.bytes address))
      (held_no_line hold address none))

  pub done_bytes : FollowsMemory committed done old new
  done_bytes address from there had =
      let above : committed.base ≤ address = subst (λ base. base ≤ address) effect.base from in
      by (holds hold (line_number address)) refl ∙ sym (done_byte address above)
    where
      by : (b : Bool) → holds hold (line_number address) ≡ b →
          cached_byte new address ≡ unwrap_or (held hold address) (byte_in committed.base committed.bytes address)
      by true is = on_held address had is
      by false none = on_other address had there none

-- a section commits
commits_with : (pool : Pooled) (before after : SectionState) (section : Section) (old new : Cached) (committed :
    FlatState) (h : ℕ) → AreBytes committed.bytes →
    IsKept pool committed h before section old →
    is_release (alone committed h section.count) h section.word section.old ≡ true → after.marks.present
    ≡ view_after (section_execution committed section before.marks.present (hold_in pool before).entries (λ at. 0))
    before.marks.present → HasCommitted old new (hold_in pool before).entries →
    TakesEffect pool committed h before after section old new
commits_with pool before after section old new committed h bytes kept release present puts =
    let done = alone committed h (section.count + 1) in
    let hold = (hold_in pool before).entries in
    let effect =
    commits committed h old.residency section before.marks.present hold (λ at. 0) bytes kept.run
    kept.keeps release in
    record {
      effect = subst (λ v. HasEffect committed done h section.word v hold) (sym present) effect;
      bytes = done_bytes committed done h section.word _ hold old new effect puts;
    }

pub commits_run : (pool : Pooled) (before after : SectionState) (section : Section) (old new : Cached)
    (action : Action) → HasReleased pool before after section action →
    HasCommitted old new (hold_in pool before).entries → CommitsRun pool before after section old new action
commits_run pool before after section old new action released puts committed h bytes kept is release =
    let view = before.marks.present in
    let byte = section_byte (hold_in pool before).entries section.word section.new (λ at. 0) in
    let present =
    ap (λ marks. marks.present) (released.marks (λ at. 0)) ∙ ap (λ a. view_after (perform a view byte) view) is in
    commits_with pool before after section old new committed h bytes kept release present puts

pub commits_code : (pool : Pooled) (before after : SectionState) (section : Section) (old new : Cached) (code : ℕ) →
    HasReleasedBy before after section (decoded code) → section.new < 2 ^ 32 →
    HasCommitted old new (hold_in pool before).entries → CommitsCode pool before after section old new code
commits_code pool before after section old new code released small puts committed h bytes kept at release =
    let view = before.marks.present in
    let told =
    released_view_told committed h old.residency section view (hold_in pool before).entries (λ at. 0) kept.run
    kept.keeps release in
    let same : section.new ≡ section.new % 2 ^ 32 = omega arith in
    let present = ap (λ marks. marks.present) released.marks ∙ ap (released_view (decoded code) view) same
    ∙ ap (λ word. released_view (insn_at word) view (section.new % 2 ^ 32)) (sym at) ∙ sym told in
    commits_with pool before after section old new committed h bytes kept release present puts

-- what holds of a live section by what does
pub if_some_map : {A : Type 0} (o : Option A) (P Q : A → Type 0) → ((x : A) → P x → Q x) → IfSome o P → IfSome o Q
if_some_map None P Q map told = tt
if_some_map (Some x) P Q map told = map x told

-- what one of two that are there tells
pub of_either : {A B : Type 0} (o : Option A) (other : Option B) (P : A → Type 0) (Q : B → Type 0) (R : Type 0) →
    (is_some o || is_some other) ≡ true → IfSome o P → IfSome other Q → ((x : A) → P x → R) → ((x : B) → Q x → R) → R
of_either (Some x) other P Q R there first second left right = left x first
of_either None (Some x) P Q R there first second left right = right x second
of_either None None P Q R there first second left right = absurd cc

-- what holds of what is there, and the other way round
pub of_some : {A : Type 0} (o : Option A) (x : A) (P : A → Type 0) → o ≡ Some x → IfSome o P → P x
of_some o x P is told = subst (λ o. IfSome o P) is told

pub at_some : {A : Type 0} (o : Option A) (x : A) (P : A → Type 0) → o ≡ Some x → P x → IfSome o P
at_some o x P is told = subst (λ o. IfSome o P) (sym is) told
