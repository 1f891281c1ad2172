-- laws of what a write call appends to the output
use Rattle.std.proofs.Common.{◌≡◌, ℕ, Bool, None, Some, ap, refl, sym, ◌∙◌}
use Rattle.std.specs.Prelude.{IfSome}
use Rattle.std.specs.Option.{option_map}
use Rattle.el_base.specs.declared.outcomes.Need.{Need}
use Rattle.rv_word.specs.Decoding.{decoded}
use Rattle.rv_word.specs.declared.insn.Insn.TheVariants.{Ecall}
use Rattle.rv_alu.specs.declared.action.Action.{Action}
use Rattle.rv_alu.specs.declared.action.Action.TheVariants as actions
use Rattle.rv_alu.specs.declared.span.Span.{Span}
use Rattle.rv_alu.specs.declared.view.HartView.{HartView}
use Rattle.rv_alu.specs.Action.{action_at, action_of}
use Rattle.rv_alu.specs.Execution.{append_in, executed, perform, touched}
use Rattle.rv_alu.specs.Footprint.{footprint}
use Rattle.core_step.specs.Run.{ended_of, lacking}
use Rattle.core_step.specs.Written.{appended_of, read_of}
use Rattle.core_step.specs.declared.ended.Ended.TheVariants.{Ran}
use Rattle.core_step.proofs.Laws.Runs.{performed}

appended-append : (action : Action) (view : HartView) (byte : ℕ → ℕ) →
    appended_of action ≡ option_map read_of (append_in (perform action view byte))
appended-append (actions.Append address len) view byte = refl
appended-append _ view byte = refl

appended-footprint : (action : Action) → IfSome (appended_of action) (λ access. footprint action ≡ access)
appended-footprint (actions.Append address len) = refl
appended-footprint _ = tt

appended-ends : (action : Action) (view : HartView) (byte : ℕ → ℕ) (permits : ℕ → Need → Bool) →
    IfSome (appended_of action) (λ access. lacking permits access ≡ None →
    ended_of (lacking permits (footprint action)) (perform action view byte) ≡ Ran)
appended-ends (actions.Append address len) view byte permits = λ none. rw none refl
appended-ends _ view byte permits = tt

-- the action of a call
call-action : (word : ℕ) (view : HartView) (span : Span) (room : ℕ) → decoded word ≡ Some Ecall →
    action_at (Some word) view span room ≡ action_of Ecall view.pc view.regs view.reserved span room
call-action word view span room is = rw is refl

call-touched : (word : ℕ) (view : HartView) (span : Span) (room : ℕ) → decoded word ≡ Some Ecall →
    touched (Some word) view span room ≡ footprint (action_of Ecall view.pc view.regs view.reserved span room)
call-touched word view span room is = rw is refl

call-executed : (word : ℕ) (view : HartView) (span : Span) (room : ℕ) (byte : ℕ → ℕ) → decoded word ≡ Some Ecall →
    executed (Some word) view span room byte
    ≡ perform (action_of Ecall view.pc view.regs view.reserved span room) view byte
call-executed word view span room byte is =
    performed (Some word) view span room byte ∙ ap (λ action. perform action view byte)
    (call-action word view span room is)

-- what a call appends is what its execution does, it is what the call touches, and where it is permitted the call runs
pub appends : (word : ℕ) (view : HartView) (span : Span) (room : ℕ) (byte : ℕ → ℕ) →
    decoded word ≡ Some Ecall →
    appended_of (action_of Ecall view.pc view.regs view.reserved span room) ≡ option_map read_of
    (append_in (executed (Some word) view span room byte))
appends word view span room byte is =
    appended-append (action_of Ecall view.pc view.regs view.reserved span room) view byte
    ∙ sym (ap (λ execution. option_map read_of (append_in execution)) (call-executed word view span room byte is))

pub touches : (word : ℕ) (view : HartView) (span : Span) (room : ℕ) → decoded word ≡ Some Ecall →
    IfSome (appended_of (action_of Ecall view.pc view.regs view.reserved span room))
    (λ access. touched (Some word) view span room ≡ access)
touches word view span room is =
    rw (call-touched word view span room is)
    (appended-footprint (action_of Ecall view.pc view.regs view.reserved span room))

pub runs : (word : ℕ) (view : HartView) (span : Span) (room : ℕ) (byte : ℕ → ℕ) (permits : ℕ → Need → Bool) →
    decoded word ≡ Some Ecall →
    IfSome (appended_of (action_of Ecall view.pc view.regs view.reserved span room))
    (λ access. lacking permits access ≡ None → ended_of (lacking permits (touched (Some word) view span room))
    (executed (Some word) view span room byte) ≡ Ran)
runs word view span room byte permits is =
    rw (call-touched word view span room is, call-executed word view span room byte is)
    (appended-ends (action_of Ecall view.pc view.regs view.reserved span room) view byte permits)
