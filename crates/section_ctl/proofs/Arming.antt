-- a section arms, goes on, and becomes a live one; its private run is kept
use Rattle.std.proofs.Common.{◌≡◌, ◌∙◌, ◌<◌, ◌+◌, ℕ, true, false, [], map, None, Some, ap, refl, subst, sym}
use Rattle.core_step.specs.Port.{stored}
use Rattle.el_model.specs.State.{Armed}
use Rattle.rv_alu.specs.Execution.{number_of, perform, put_of, release_of, view_after}
use Rattle.rv_alu.specs.Loaded.{loaded}
use Rattle.rv_alu.specs.declared.action.Action.{Action}
use Rattle.rv_alu.specs.declared.action.Action.TheVariants as actions
use Rattle.rv_alu.specs.declared.view.HartStatus.TheVariants.{Running}
use Rattle.rv_alu.specs.declared.view.HartView.{HartView}
use Rattle.rv_word.specs.declared.reg.Reg.{Reg}
use Rattle.section_ctl.proofs.Laws.Begins.{goes_on_running, loaded_stored}
use Rattle.section_ctl.specs.Calls.{HasContinued, armed_state, elided_state, ends_section, is_quiet_action}
use Rattle.section_ctl.specs.PrivateRuns.{ArmsRun, ContinuesRun, ElidesRun}
use Rattle.section_ctl.specs.State.{Reserved, SectionState, hold_in}
use Rattle.section_view.proofs.Laws.Arming.{armed_elides, armed_goes, arms}
use Rattle.section_view.specs.ArmedLaws.{elided, reserved_view}
use Rattle.section_view.specs.KeptRun.{KeepsArmed, KeepsRun}
use Rattle.write_hold.specs.Slotted.{lent_entry}

-- the view after an LR
pub armed_view : (rd : Reg) (word old : ℕ) (view after : HartView) → old < 4294967296 →
    ((byte : ℕ → ℕ) → Some old ≡ number_of (actions.LoadReserved rd word) byte →
    after ≡ view_after (perform (actions.LoadReserved rd word) view byte) view) →
    after ≡ reserved_view view rd.number word old
armed_view rd word old view after small told =
    let byte : ℕ → ℕ = stored (λ at. 0) word 4 old in
    let found : loaded byte word 4 ≡ old = loaded_stored (λ at. 0) word old small in
    told byte (ap Some (sym found)) ∙ ap (reserved_view view rd.number word) found

-- the view after an SC that was elided
pub elided_view : (rd : Reg) (word new : ℕ) (view after : HartView) →
    ((byte : ℕ → ℕ) → None ≡ number_of (actions.StoreConditional rd word new) byte →
    after ≡ view_after (perform (actions.StoreConditional rd word new) view byte) view) →
    after ≡ release_of (put_of view rd.number 0)
elided_view rd word new view after told = told (λ at. 0) refl

-- a quiet action neither calls nor stops its hart
pub quiet_goes : (action : Action) → is_quiet_action action ≡ true → ends_section action ≡ false
quiet_goes (actions.Put rd value) quiet = refl
quiet_goes (actions.JumpAndLink rd target) quiet = refl
quiet_goes (actions.Go target) quiet = refl
quiet_goes _ quiet = absurd (cc)

-- and loads nothing, so its hart runs after it
quiet_loads : (action : Action) (byte : ℕ → ℕ) → is_quiet_action action ≡ true → None ≡ number_of action byte
quiet_loads (actions.Put rd value) byte quiet = refl
quiet_loads (actions.JumpAndLink rd target) byte quiet = refl
quiet_loads (actions.Go target) byte quiet = refl
quiet_loads _ byte quiet = absurd (cc)

pub quiet_continues : (action : Action) (view after : HartView) → is_quiet_action action ≡ true →
    view.status ≡ Running →
    ((byte : ℕ → ℕ) → None ≡ number_of action byte → after ≡ view_after (perform action view byte) view) →
    after.status ≡ Running
quiet_continues action view after quiet running told =
    let byte : ℕ → ℕ = λ at. 0 in
    ap (λ v. v.status) (told byte (quiet_loads action byte quiet))
    ∙ goes_on_running action view byte (quiet_goes action quiet) running

pub arms_run : (before after : SectionState) (word old : ℕ) (rd : Reg) → before.marks.present.status ≡ Running →
    after ≡ armed_state before word old rd.number → ArmsRun before after word old rd
arms_run before after word old rd running is committed h at acts found =
    let armed : Armed = record { count = 1; word = word } in
    let keeps = arms committed h word old rd (ap (λ view. view.status) (sym at) ∙ running) acts found in
    let present = ap (λ state. state.marks.present) is ∙ ap (λ view. reserved_view view rd.number word old) at in
    subst (KeepsArmed committed h armed old) (sym present) keeps

pub continues_run : (before after : SectionState) (reserved : Reserved) (action : Action) →
    HasContinued before after reserved action → ContinuesRun before after reserved action
continues_run before after reserved action ran committed h cache kept is quiet =
    let view = before.marks.present in
    let armed : Armed = record reserved.armed { count = reserved.armed.count + 1 } in
    let keeps = armed_goes committed h cache reserved.armed reserved.old view (λ at. 0) kept.run kept.keeps quiet in
    let present =
    ap (λ marks. marks.present) (ran.marks (λ at. 0)) ∙ ap (λ a. view_after (perform a view (λ at. 0)) view) is in
    subst (KeepsArmed committed h armed reserved.old) (sym present) keeps

pub elides_run : (before after : SectionState) (reserved : Reserved) (new : ℕ) (rd : Reg) → before.hold.entries ≡ [] →
    after ≡ elided_state before reserved new rd.number → ElidesRun before after reserved new rd
elides_run before after reserved new rd empty is committed h cache found address source kept next acts =
    let section = elided reserved.armed reserved.old new in
    let it = armed_elides committed h cache reserved.armed reserved.old before.marks.present
    (record { word = reserved.armed.word; old = found; new = new }) rd address source kept.run kept.keeps
    next refl acts in
    let present = ap (λ state. state.marks.present) is in
    record {
      same = it.found;
      keeps = λ pool. subst (KeepsRun committed h section after.marks.present)
          (sym (ap (λ state. (hold_in pool state).entries) is ∙ ap (map (lent_entry pool)) empty))
          (subst (λ view. KeepsRun committed h section view []) (sym present) it.keeps);
    }
