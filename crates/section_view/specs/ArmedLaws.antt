-- what holds of the view and the value that the code keeps of an armed section
use Rattle.std.specs.Prelude.{ℕ, ◌≡◌, ◌+◌, Bool, true, List, [], Some}
use Rattle.residency.specs.Residency.{Way}
use Rattle.el_model.specs.Armed.{is_quiet}
use Rattle.el_model.specs.State.{Armed, Section}
use Rattle.el_model.specs.Upcoming.{Swap, next_conditional, next_reserved}
use Rattle.rv_alu.specs.Execution.{perform, put_of, release_of, view_after}
use Rattle.rv_alu.specs.Loaded.{loaded}
use Rattle.rv_alu.specs.Regs.{get}
use Rattle.rv_alu.specs.declared.action.Action.TheVariants as actions
use Rattle.rv_alu.specs.declared.view.HartStatus.TheVariants.{Running}
use Rattle.rv_alu.specs.declared.view.HartView.{HartView}
use Rattle.rv_flat.specs.FlatState.{FlatState, status_of, view_of}
use Rattle.rv_flat.specs.Laws.{next_insn}
use Rattle.rv_flat.specs.Memory.{byte_in}
use Rattle.rv_flat.specs.Run.{alone}
use Rattle.rv_flat.specs.Step.{action_of}
use Rattle.rv_word.specs.declared.insn.Insn.TheVariants as insns
use Rattle.rv_word.specs.declared.reg.Reg.{Reg}
use Rattle.run_laws.specs.PrivateRun.{IsArmedRun, IsChangeBeside}
use Rattle.section_view.specs.KeptRun.{KeepsArmed, KeepsRun}
use Rattle.section_view.specs.Laws.{ComesTo}

-- the view after an LR of a word that found a value
abbrev pub reserved_view : HartView → ℕ → ℕ → ℕ → HartView
reserved_view view rd word old = record (put_of view rd old) { reserved = Some word }

-- where a hart comes to an LR, the view after it, with the value of its word, keeps the run
-- of the section that arms there
abbrev pub ArmedSectionsBegin : Type 0
ArmedSectionsBegin =
    (committed : FlatState) (h word old : ℕ) (rd : Reg) → status_of committed h ≡ Running →
    action_of committed (view_of committed h) ≡ actions.LoadReserved rd word →
    old ≡ loaded (byte_in committed.base committed.bytes) word 4 →
    KeepsArmed committed h (record { count = 1; word = word }) old
    (reserved_view (view_of committed h) rd.number word old)

-- what comes next in an armed section is what its view comes to in what is committed
abbrev pub ArmedSectionsComeTo : Type 0
ArmedSectionsComeTo =
    (committed : FlatState) (h : ℕ) (cache : List (List Way)) (armed : Armed) (old : ℕ) (view : HartView) →
    IsArmedRun committed h cache armed → KeepsArmed committed h armed old view →
    ComesTo committed (alone committed h armed.count) h view

-- an armed section goes on by a quiet instruction, over any bytes, since it touches none
abbrev pub ArmedSectionsGoOn : Type 0
ArmedSectionsGoOn =
    (committed : FlatState) (h : ℕ) (cache : List (List Way)) (armed : Armed) (old : ℕ) (view : HartView)
    (under : ℕ → ℕ) → IsArmedRun committed h cache armed → KeepsArmed committed h armed old view →
    is_quiet (alone committed h armed.count) h ≡ true →
    KeepsArmed committed h (record armed { count = armed.count + 1 }) old
    (view_after (perform (action_of committed view) view under) view)

-- the live section that an armed one becomes at its SC
abbrev pub elided : Armed → ℕ → ℕ → Section
elided armed old new = record { count = armed.count + 1; word = armed.word; old = old; new = new }

-- an armed section's SC is elided: it finds the value that is kept, and the view after it and a hold of nothing
-- keep the run of the live section
pub record IsElided (committed : FlatState) (h : ℕ) (armed : Armed) (old : ℕ) (swap : Swap)
    (view : HartView) : Type 0 where
  pub found : swap.old ≡ old
  pub keeps : KeepsRun committed h (elided armed old swap.new) view []

abbrev pub ArmedSectionsElide : Type 0
ArmedSectionsElide =
    (committed : FlatState) (h : ℕ) (cache : List (List Way)) (armed : Armed) (old : ℕ) (view : HartView)
    (swap : Swap) (rd : Reg)
    (address value : ℕ) → IsArmedRun committed h cache armed → KeepsArmed committed h armed old view →
    next_conditional (alone committed h armed.count) h ≡ Some swap → swap.word ≡ armed.word →
    action_of committed view ≡ actions.StoreConditional rd address value →
    IsElided committed h armed old swap (release_of (put_of view rd.number 0))

-- the same view and value keep an armed section's run after a change beside its hart
abbrev pub KeptArmedRunsSurvive : Type 0
KeptArmedRunsSurvive =
    (h : ℕ) (cache : List (List Way)) (armed : Armed) (old new : FlatState) (value : ℕ) (view : HartView) →
    IsArmedRun old h cache armed → IsChangeBeside h cache old new → KeepsArmed old h armed value view →
    KeepsArmed new h armed value view

-- the action of an LR that comes next is that of its register
abbrev pub ReservesAct : Type 0
ReservesAct =
    (committed : FlatState) (h word : ℕ) (rd rs1 : Reg) (aq rl : Bool) → next_reserved committed h ≡ Some word →
    next_insn committed h ≡ Some (insns.Lr rd rs1 aq rl) →
    action_of committed (view_of committed h) ≡ actions.LoadReserved rd word

-- and that of an SC that comes next, and succeeds, is that of its registers
abbrev pub ConditionalsAct : Type 0
ConditionalsAct =
    (committed : FlatState) (h : ℕ) (swap : Swap) (rd rs1 rs2 : Reg) (aq rl : Bool) →
    next_conditional committed h ≡ Some swap → next_insn committed h ≡ Some (insns.Sc rd rs1 rs2 aq rl) →
    action_of committed (view_of committed h) ≡ actions.StoreConditional rd swap.word
    (get (view_of committed h).regs rs2.number)
