-- a section begins, and stays live
use Rattle.std.proofs.Common.{◌≡◌, ℕ, ◌+◌, ◌-◌, ◌*◌, ◌/◌, ◌%◌, ◌<◌, ◌≤◌, false, List, [], length, map, ◌⊎◌, inl, inr}
use Rattle.std.proofs.Common.{Option, None, Some}
use Rattle.std.proofs.Common.{ap, sym, subst, ◌∙◌, arith}
use Rattle.std.proofs.lemmas.Bool.{cases_lt}
use Rattle.std.proofs.lemmas.Bool.Decides.{nat_tests}
use Rattle.core_step.specs.Port.{byte_of, stored}
use Rattle.core_step.proofs.Laws.Bytes.{stored_inside}
use Rattle.el_base.specs.Line.{line_number}
use Rattle.el_base.specs.declared.line.TheConstants.{LINE_BYTES}
use Rattle.el_model.specs.State.{Section}
use Rattle.el_model.specs.Upcoming.{overlaps}
use Rattle.line_pool.specs.Pooled.{Pooled}
use Rattle.reg_mark.specs.declared.marked.Marked.{Marked}
use Rattle.rv_alu.specs.Execution.{Store, number_of, perform, put_of, release_of, store_in, view_after}
use Rattle.rv_alu.specs.Loaded.{loaded}
use Rattle.rv_alu.specs.declared.action.Action.{Action}
use Rattle.rv_alu.specs.declared.action.Action.TheVariants as actions
use Rattle.rv_alu.specs.declared.view.HartStatus.TheVariants.{Running}
use Rattle.rv_alu.specs.declared.view.HartView.{HartView}
use Rattle.rv_word.specs.declared.insn.AmoOp.TheVariants as amos
use Rattle.rv_word.specs.declared.reg.Reg.{Reg}
use Rattle.section_ctl.proofs.Laws.AnyPool.{unheld_alike}
use Rattle.section_ctl.specs.Calls.{ends_section}
use Rattle.section_ctl.specs.State.{IsArmed, IsLive, Reserved, SectionStands, armed_in, live_in, reserved_of}
use Rattle.section_ctl.specs.State.{section_of}
use Rattle.section_ctl.specs.declared.private.Private.{Private}
use Rattle.section_ctl.specs.declared.private.Private.TheVariants as privates
use Rattle.section_view.specs.Laws.{HoldsAfter}
use Rattle.write_hold.proofs.Laws.LookUps.{laid_above, laid_below}
use Rattle.write_hold.specs.Held.{Held, held, laid}
use Rattle.write_hold.specs.Slotted.{Place, Slotted, lent, lent_entry}

-- a word that was stored is loaded
pub loaded_stored : (byte : ℕ → ℕ) (word value : ℕ) → value < 4294967296 →
    loaded (stored byte word 4 value) word 4 ≡ value
loaded_stored byte word value small =
    let first : stored byte word 4 value word ≡ value / 1 % 256 = at word 0 (omega arith) (omega arith) in
    let second : stored byte word 4 value (word + 1) ≡ value / 256 % 256 =
    at (word + 1) 1 (omega arith) (omega arith) in
    let third : stored byte word 4 value (word + 1 + 1) ≡ value / 65536 % 256 =
    at (word + 1 + 1) 2 (omega arith) (omega arith) in
    let fourth : stored byte word 4 value (word + 1 + 1 + 1) ≡ value / 16777216 % 256 =
    at (word + 1 + 1 + 1) 3 (omega arith) (omega arith) in
    let whole : value / 1 % 256 + 256
    * (value / 256 % 256 + 256 * (value / 65536 % 256 + 256 * (value / 16777216 % 256 + 256 * 0)))
    ≡ value = omega arith in
    (λ k. first k + 256 * (second k + 256 * (third k + 256 * (fourth k + 256 * 0)))) ∙ whole
  where
    at : (address place : ℕ) → address ≡ word + place → place < 4 →
        stored byte word 4 value address ≡ byte_of value place
    at address place is below =
        let back : address - word ≡ place = omega arith in
        stored_inside byte word 4 value address (omega arith) (omega arith) ∙ ap (byte_of value) back

-- an action that does not stop its hart keeps its status
pub goes_on_running : (action : Action) (view : HartView) (byte : ℕ → ℕ) → ends_section action ≡ false →
    view.status ≡ Running → (view_after (perform action view byte) view).status ≡ Running
goes_on_running (actions.Trap cause) view byte goes running = absurd cc
goes_on_running (actions.Exit code) view byte goes running = absurd cc
goes_on_running _ view byte goes running = running

-- the view after a swap that was elided
pub begun_view : (rd : Reg) (word old new : ℕ) (view after : HartView) → old < 4294967296 →
    ((byte : ℕ → ℕ) → Some old ≡ number_of (actions.Amo amos.Swap rd word new) byte →
    after ≡ view_after (perform (actions.Amo amos.Swap rd word new) view byte) view) →
    after ≡ release_of (put_of view rd.number old)
begun_view rd word old new view after small told =
    let byte : ℕ → ℕ = stored (λ at. 0) word 4 old in
    let found : loaded byte word 4 ≡ old = loaded_stored (λ at. 0) word old small in
    told byte (ap Some (sym found)) ∙ ap (λ value. release_of (put_of view rd.number value)) found

-- nothing is held where no section is live
pub nothing_held : (marks : Marked) (hold : Slotted) (private : Private) → SectionStands marks hold private →
    live_in private ≡ None → hold.entries ≡ []
nothing_held marks hold privates.Nothing stands none = stands.empty
nothing_held marks hold (privates.Armed reserved) stands none = stands.empty
nothing_held marks hold (privates.Live live) stands none = absurd cc

-- a section that is shown is there
pub is_live : (marks : Marked) (hold : Slotted) (private : Private) (section : Section) →
    SectionStands marks hold private → live_in private ≡ Some section → IsLive marks hold section
is_live marks hold privates.Nothing section stands is = absurd cc
is_live marks hold (privates.Armed reserved) section stands is = absurd cc
is_live marks hold (privates.Live live) section stands is = let same : section_of live ≡ section = cc in
    subst (IsLive marks hold) same stands

pub is_armed : (marks : Marked) (hold : Slotted) (private : Private) (reserved : Reserved) →
    SectionStands marks hold private → armed_in private ≡ Some reserved → IsArmed marks hold reserved
is_armed marks hold privates.Nothing reserved stands is = absurd cc
is_armed marks hold (privates.Armed there) reserved stands is = let same : reserved_of there ≡ reserved = cc in
    subst (IsArmed marks hold) same stands
is_armed marks hold (privates.Live live) reserved stands is = absurd cc

pub held_none : (entries : List Place) → entries ≡ [] → (pool : Pooled) (address : ℕ) →
    held (map (lent_entry pool) entries) address ≡ None
held_none entries none pool address = ap (λ places. held (map (lent_entry pool) places) address) none

-- a byte that was not held, and was not stored, is not held
kept_free : (store : Option Store) (word : ℕ) (old new : Held) → overlaps word store ≡ false →
    HoldsAfter store old new → ((address : ℕ) → word ≤ address → address < word + 4 → held old.entries address ≡ None) →
    (address : ℕ) → word ≤ address → address < word + 4 → held new.entries address ≡ None
kept_free None word old new apart after free address low high = ap (λ l. held l address) after ∙ free address low high
kept_free (Some store) word old new apart after free address low high =
    let line : ℕ = line_number store.address in
    let start : line * LINE_BYTES + store.address % LINE_BYTES ≡ store.address = omega arith in
    after.put.put address ∙ (λ k. laid (start k) after.bytes address (held old.entries address))
    ∙ by (cases_lt address store.address)
  where
    len : length after.bytes ≡ store.len
    len = after.low.count

    by : (address < store.address) ⊎ (store.address ≤ address) →
        laid store.address after.bytes address (held old.entries address) ≡ None
    by (inl below) =
        laid_below store.address after.bytes address (held old.entries address) below ∙ free address low high
    by (inr past) =
        laid_above store.address after.bytes address (held old.entries address) (grind (arith, nat_tests))
        ∙ free address low high

-- a live section stays live over an action that is buffered
pub stays_live : (old new : Pooled) (marks : Marked) (hold after : Slotted) (section : Section) (count : ℕ) (action :
    Action) (byte : ℕ → ℕ) (view : HartView) →
    IsLive marks hold section →
    ends_section action ≡ false → overlaps section.word (store_in (perform action marks.present byte)) ≡ false →
    view ≡ view_after (perform action marks.present byte) marks.present →
    HoldsAfter (store_in (perform action marks.present byte)) (lent old hold) (lent new after) →
    IsLive (record { present = view; mark = marks.mark }) after (record section { count = count })
stays_live old new marks hold after section count action byte view live goes apart is held = record {
  mark = live.mark;
  running = ap (λ v. v.status) is ∙ goes_on_running action marks.present byte goes live.running;
  aligned = live.aligned;
  free = λ pool address low high. unheld_alike new pool after address
      (kept_free (store_in (perform action marks.present byte)) section.word (lent old hold) (lent new after) apart
      held (live.free old)
      address low high);
}
