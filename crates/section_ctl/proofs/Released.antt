-- the view after a release
use Rattle.std.proofs.Common.{◌≡◌, ℕ, ◌<◌, List, Option, Some, option_map, refl, ap, sym, subst, ◌∙◌}
use Rattle.el_model.specs.State.{Section}
use Rattle.line_pool.specs.Pooled.{Pooled}
use Rattle.reg_mark.specs.Marks.{unmarked}
use Rattle.rv_alu.specs.Execution.{loads, number_of, perform, put_of, release_of, view_after}
use Rattle.rv_alu.specs.declared.action.Action.{Action}
use Rattle.rv_word.specs.declared.insn.Insn.{Insn}
use Rattle.rv_word.specs.declared.insn.Insn.TheVariants as insns
use Rattle.section_ctl.proofs.Laws.Begins.{loaded_stored}
use Rattle.section_view.specs.KeptRun.{held_over, section_byte}
use Rattle.section_ctl.specs.Calls.{HasReleased, HasReleasedBy}
use Rattle.section_ctl.specs.Releases.{IsReleaseInsn, release_of_insn}
use Rattle.section_ctl.specs.State.{SectionState, hold_in}
use Rattle.section_view.specs.Release.{BySwap, ByStore, IsReleaseAction, released_view}
use Rattle.write_hold.specs.Held.{Entry}

-- a release finds the new value in the lock word, where it loads it
pub finds_new : (action : Action) (word old new : ℕ) (hold : List Entry) (under : ℕ → ℕ) → new < 4294967296 →
    IsReleaseAction word old action →
    option_map (λ load. new) (loads action) ≡ number_of action (section_byte hold word new under)
finds_new action word old new hold under small (ByStore is) =
    subst (λ a. option_map (λ load. new) (loads a) ≡ number_of a (section_byte hold word new under)) (sym is) refl
finds_new action word old new hold under small (BySwap rd is) =
    subst (λ a. option_map (λ load. new) (loads a) ≡ number_of a (section_byte hold word new under)) (sym is)
    (ap Some (sym (loaded_stored (held_over hold under) word new small)))

-- the view after a release, by its instruction
pub released_by : (pool : Pooled) (before after : SectionState) (section : Section) (insn : Option Insn) →
    IsReleaseInsn insn → section.new < 4294967296 →
    HasReleased pool before after section (release_of_insn insn section.word section.old) →
    HasReleasedBy before after section insn
released_by pool before after section insn is small released = record {
  marks = released.marks (λ at. 0) ∙ ap unmarked (by insn is);
  hold = released.hold;
  live = released.live;
  armed = released.armed;
}
  where
    byte : ℕ → ℕ
    byte = section_byte (hold_in pool before).entries section.word section.new (λ at. 0)

    by : (i : Option Insn) → IsReleaseInsn i →
        view_after (perform (release_of_insn i section.word section.old) before.marks.present byte) before.marks.present
        ≡ released_view i before.marks.present section.new
    by (Some (insns.Store width rs1 rs2 offset)) is = refl
    by (Some (insns.Amo op rd rs1 rs2 aq rl)) is =
        ap (λ value. release_of (put_of before.marks.present rd.number value))
        (loaded_stored (held_over (hold_in pool before).entries (λ at. 0)) section.word section.new small)
    by _ is = absurd is

-- such an action is a release
pub releases_by : (insn : Option Insn) (word old : ℕ) → IsReleaseAction word old (release_of_insn insn word old)
releases_by (Some (insns.Amo op rd rs1 rs2 aq rl)) word old = BySwap rd refl
releases_by _ word old = ByStore refl
