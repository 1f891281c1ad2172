-- an action of a section does not depend on the room of the output
use Rattle.std.proofs.Common.{◌≡◌, ◌-◌, ◌%◌, ℕ, Bool, true, false, List, Option, None, Some, refl}
use Rattle.std.specs.Prelude.{◌==◌, ◌||◌, if◌then◌else◌, not}
use Rattle.el_base.specs.declared.line.TheConstants.{LINE_BYTES}
use Rattle.rv_alu.specs.Action.{action_at, action_of, insn_action_of}
use Rattle.rv_alu.specs.Regs.{a0, a1, a2, a7, get}
use Rattle.rv_alu.specs.Span.{holds}
use Rattle.rv_alu.specs.Syscall.{call_of, exit_number, write_number}
use Rattle.rv_alu.specs.declared.action.Action.{Action}
use Rattle.rv_alu.specs.declared.span.Span.{Span}
use Rattle.rv_alu.specs.declared.view.HartView.{HartView}
use Rattle.rv_word.specs.Decoding.{decoded}
use Rattle.rv_word.specs.declared.insn.Insn.{Insn}
use Rattle.rv_word.specs.declared.insn.Insn.TheVariants as insns
use Rattle.section_ctl.specs.Calls.{ends_section}

-- an action that does not end a section is not a call, and does not depend on the room of the output
call_ends : (regs : List ℕ) (span : Span) (room : ℕ) → ends_section (call_of regs span room) ≡ true
call_ends regs span room =
    ends_if (get regs a7 == exit_number) _ _ refl (ends_if (get regs a7 == write_number) _ _
    (ends_if (not ((get regs a0 == 1) || (get regs a0 == 2))) _ _ refl (ends_if (get regs a2 == 0) _ _ refl
    (ends_if (not (holds span (get regs a1 - get regs a1 % LINE_BYTES) LINE_BYTES)) _ _ refl
    (ends_if (room == 0) _ _ refl refl)))) refl)
  where
    ends_if : (b : Bool) (x y : Action) → ends_section x ≡ true → ends_section y ≡ true →
        ends_section (if b then x else y) ≡ true
    ends_if true x y first second = first
    ends_if false x y first second = second

same_insn : (insn : Insn) (view : HartView) (span : Span) (room : ℕ) →
    ends_section (action_of insn view.pc view.regs view.reserved span 0) ≡ false →
    action_of insn view.pc view.regs view.reserved span room ≡ action_of insn view.pc view.regs view.reserved span 0
unfolding action_of
same_insn insns.Ecall view span room goes = absurd (apart (call_ends view.regs span 0) goes)
  where
    apart : ends_section (call_of view.regs span 0) ≡ true → ends_section (call_of view.regs span 0) ≡ false → ⊥
    apart ends goes_on = cc
same_insn _ view span room goes = refl

decoded_same : (insn : Option Insn) (view : HartView) (span : Span) (room : ℕ) →
    ends_section (insn_action_of insn view span 0) ≡ false →
    insn_action_of insn view span room ≡ insn_action_of insn view span 0
decoded_same None view span room goes = refl
decoded_same (Some insn) view span room goes = same_insn insn view span room goes

pub any_room : (word : ℕ) (view : HartView) (span : Span) (room : ℕ) →
    ends_section (action_at (Some word) view span 0) ≡ false →
    action_at (Some word) view span room ≡ action_at (Some word) view span 0
any_room word view span room goes = decoded_same (decoded word) view span room goes
