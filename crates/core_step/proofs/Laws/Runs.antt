-- laws of an instruction that runs over a port
use Rattle.std.proofs.Common.{◌≡◌, ℕ, ◌-◌, ◌%◌, Bool, true, false, inl, inr, List, Option, None, Some, ap, arith, refl}
use Rattle.std.proofs.Common.{◌∙◌}
use Rattle.std.specs.Prelude.{◌==◌, if◌then◌else◌, ◌||◌, not, IfSome}
use Rattle.std.proofs.lemmas.Bool.Decides.{nat_tests}
use Rattle.el_base.specs.LineAddr.{line_addr}
use Rattle.el_base.specs.declared.line.LineAddr.{LineAddr}
use Rattle.el_base.specs.declared.line.TheConstants.{LINE_BYTES}
use Rattle.el_base.specs.declared.outcomes.Need.{Need}
use Rattle.rv_word.specs.Decoding.{decoded}
use Rattle.rv_word.specs.declared.insn.Insn.{Insn}
use Rattle.rv_word.specs.declared.insn.Insn.TheVariants as insns
use Rattle.rv_alu.specs.declared.action.Action.{Action}
use Rattle.rv_alu.specs.declared.action.Action.TheVariants as actions
use Rattle.rv_alu.specs.declared.footprint.Access.{Access}
use Rattle.rv_alu.specs.declared.span.Span.{Span}
use Rattle.rv_alu.specs.declared.view.HartStatus.TheVariants.{Running}
use Rattle.rv_alu.specs.declared.view.HartView.{HartView}
use Rattle.rv_alu.specs.Action.{action_at, action_of, checked_of, has_reserved_of, indirect_of, insn_action_of, jump_of}
use Rattle.rv_alu.specs.Action.{load_size_of, store_size_of}
use Rattle.rv_alu.specs.Cause.{instruction_address_misaligned}
use Rattle.rv_alu.specs.Execution.{Execution, Goes, Stops, executed, insn_touched, loads, perform, store_in, touched}
use Rattle.rv_alu.specs.Execution.{view_after}
use Rattle.rv_alu.specs.Footprint.{footprint}
use Rattle.rv_alu.specs.Operation.{moved_of, taken_of}
use Rattle.rv_alu.specs.Regs.{a0, a1, a2, a7, get}
use Rattle.rv_alu.specs.Span.{holds}
use Rattle.rv_alu.specs.Syscall.{call_of, exit_number, write_call_of, write_number}
use Rattle.rv_alu.proofs.Laws.Footprints.{load_sized, store_sized}
use Rattle.core_step.specs.Run.{IsAligned, IsLoadable, IsReady, IsStorable, ended_by, ended_of, ended_with, lacking}
use Rattle.core_step.specs.Run.{refused, store_when}
use Rattle.core_step.specs.declared.ended.Ended.{Ended}
use Rattle.core_step.specs.declared.ended.Ended.TheVariants as ends
use Rattle.core_step.specs.declared.want.Want.{Want}

-- what an instruction lacks is what its action lacks
lacking-insn : (permits : ℕ → Need → Bool) (insn : Option Insn) (view : HartView) (span : Span) (room : ℕ) →
    lacking permits (insn_touched insn view span room) ≡ lacking permits
    (footprint (insn_action_of insn view span room))
lacking-insn permits None view span room = refl
lacking-insn permits (Some insn) view span room = refl

pub lacking_same : (permits : ℕ → Need → Bool) (word : Option ℕ) (view : HartView) (span : Span) (room : ℕ) →
    lacking permits (touched word view span room) ≡ lacking permits (footprint (action_at word view span room))
lacking_same permits None view span room = refl
lacking_same permits (Some word) view span room = lacking-insn permits (decoded word) view span room

-- one of two actions
aligned-if : (b : Bool) (x y : Action) → IsAligned x → IsAligned y → IsAligned (if b then x else y)
aligned-if true x y hx hy = hx
aligned-if false x y hx hy = hy

aligned-jump : (target : ℕ) (action : Action) → IsAligned action → IsAligned (jump_of target action)
aligned-jump target action h = aligned-if (target % 4 == 0) action (actions.Trap instruction_address_misaligned) h tt

-- an access that passes its checks is aligned
aligned-checked : (span : Span) (address size misaligned outside : ℕ) (action : Action) →
    (address % size ≡ 0 → IsAligned action) → IsAligned (checked_of span address size misaligned outside action)
aligned-checked span address size misaligned outside action aligned =
    tested (address % size == 0) (holds span address size) (λ even. aligned (grind (arith, nat_tests)))
  where
    tested : (b c : Bool) → (b ≡ true → IsAligned action) →
        IsAligned (if b then (if c then action else actions.Trap outside) else actions.Trap misaligned)
    tested true true h = h refl
    tested true false h = tt
    tested false c h = tt

aligned-write_call : (regs : List ℕ) (span : Span) (room : ℕ) → IsAligned (write_call_of regs span room)
aligned-write_call regs span room =
    aligned-if (not ((get regs a0 == 1) || (get regs a0 == 2))) _ _ tt
    (aligned-if (get regs a2 == 0) _ _ tt
    (aligned-if (not (holds span (get regs a1 - get regs a1 % LINE_BYTES) LINE_BYTES)) _ _ tt
    (aligned-if (room == 0) _ _ tt tt)))

aligned-call : (regs : List ℕ) (span : Span) (room : ℕ) → IsAligned (call_of regs span room)
aligned-call regs span room =
    aligned-if (get regs a7 == exit_number) _ _ tt
    (aligned-if (get regs a7 == write_number) _ _ (aligned-write_call regs span room) tt)

-- the loads and stores of each instruction are aligned
aligned-insn : (insn : Insn) (pc : ℕ) (regs : List ℕ) (reserved : Option ℕ) (span : Span) (room : ℕ) →
    IsAligned (action_of insn pc regs reserved span room)
unfolding action_of
aligned-insn (insns.Lui rd imm) pc regs reserved span room = tt
aligned-insn (insns.Auipc rd imm) pc regs reserved span room = tt
aligned-insn (insns.Jal rd offset) pc regs reserved span room = let target = moved_of pc offset in
    aligned-jump target (actions.JumpAndLink rd target) tt
aligned-insn (insns.Jalr rd rs1 offset) pc regs reserved span room =
    let target =
    indirect_of (moved_of (get regs rs1.number) offset) in aligned-jump target (actions.JumpAndLink rd target) tt
aligned-insn (insns.Branch test rs1 rs2 offset) pc regs reserved span room =
    aligned-if (taken_of test (get regs rs1.number) (get regs rs2.number)) _ _
    (aligned-jump (moved_of pc offset) (actions.Go (moved_of pc offset)) tt) tt
aligned-insn (insns.Load width rd rs1 offset) pc regs reserved span room =
    aligned-checked span _ (load_size_of width) _ _ _ (λ even. even)
aligned-insn (insns.Store width rs1 rs2 offset) pc regs reserved span room =
    aligned-checked span _ (store_size_of width) _ _ _ (λ even. (store_sized width, even))
aligned-insn (insns.OpImm op rd rs1 imm) pc regs reserved span room = tt
aligned-insn (insns.Op op rd rs1 rs2) pc regs reserved span room = tt
aligned-insn insns.Fence pc regs reserved span room = tt
aligned-insn insns.Ecall pc regs reserved span room = aligned-call regs span room
aligned-insn insns.Ebreak pc regs reserved span room = tt
aligned-insn (insns.Lr rd rs1 aq rl) pc regs reserved span room = aligned-checked span _ 4 _ _ _ (λ even. even)
aligned-insn (insns.Sc rd rs1 rs2 aq rl) pc regs reserved span room =
    aligned-checked span _ 4 _ _ _ (λ even. aligned-if (has_reserved_of reserved (get regs rs1.number)) _ _ even tt)
aligned-insn (insns.Amo op rd rs1 rs2 aq rl) pc regs reserved span room = aligned-checked span _ 4 _ _ _ (λ even. even)

aligned-decoded : (insn : Option Insn) (view : HartView) (span : Span) (room : ℕ) →
    IsAligned (insn_action_of insn view span room)
aligned-decoded None view span room = tt
aligned-decoded (Some insn) view span room = aligned-insn insn view.pc view.regs view.reserved span room

pub aligned : (word : Option ℕ) (view : HartView) (span : Span) (room : ℕ) → IsAligned (action_at word view span room)
aligned None view span room = tt
aligned (Some word) view span room = aligned-decoded (decoded word) view span room

pub aligned_at : (word : Option ℕ) (view : HartView) (span : Span) (room : ℕ) (action : Action) →
    action ≡ action_at word view span room → IsAligned action
aligned_at word view span room action is = rw is (aligned word view span room)

-- an execution is its action's
pub performed : (word : Option ℕ) (view : HartView) (span : Span) (room : ℕ) (byte : ℕ → ℕ) →
    executed word view span room byte ≡ perform (action_at word view span room) view byte
unfolding executed
performed word view span room byte = refl

-- what is not refused is permitted
pub is_permitted : (permits : ℕ → Need → Bool) (line : ℕ) (need : Need) → refused permits line need ≡ None →
    permits line need ≡ true
is_permitted permits line need h = tested (permits line need) h
  where
    want : Want
    want = record { line = line_addr line; need = need }

    tested : (b : Bool) → (if b then None else Some want) ≡ None → b ≡ true
    tested true h = refl
    tested false h = cc

-- a load and a store of an action that may happen
pub load_ready : (permits : ℕ → Need → Bool) (action : Action) → IsReady permits action →
    IfSome (loads action) (IsLoadable permits)
load_ready permits (actions.Load width rd address) ready =
    record {
      size = load_sized width;
      aligned = ready.aligned;
      permitted = inl (is_permitted permits _ _ ready.permitted);
    }
load_ready permits (actions.LoadReserved rd address) ready =
    record {
      size = inr (inr refl);
      aligned = ready.aligned;
      permitted = inl (is_permitted permits _ _ ready.permitted);
    }
load_ready permits (actions.Amo op rd address source) ready =
    record {
      size = inr (inr refl);
      aligned = ready.aligned;
      permitted = inr (is_permitted permits _ _ ready.permitted);
    }
load_ready permits _ ready = tt

pub store_ready : (permits : ℕ → Need → Bool) (action : Action) (view : HartView) (byte : ℕ → ℕ) →
    IsReady permits action → IfSome (store_in (perform action view byte)) (IsStorable permits)
store_ready permits (actions.Store address len value) view byte ready =
    record { size = ready.aligned.0; aligned = ready.aligned.1; permitted = is_permitted permits _ _ ready.permitted }
store_ready permits (actions.StoreConditional rd address value) view byte ready =
    record { size = inr (inr refl); aligned = ready.aligned; permitted = is_permitted permits _ _ ready.permitted }
store_ready permits (actions.Amo op rd address source) view byte ready =
    record { size = inr (inr refl); aligned = ready.aligned; permitted = is_permitted permits _ _ ready.permitted }
store_ready permits _ view byte ready = tt

-- how an action ends shows in its hart's status
pub ended_alike : (action : Action) (view : HartView) (byte : ℕ → ℕ) → view.status ≡ Running →
    ended_with (view_after (perform action view byte) view).status ≡ ended_by (perform action view byte)
ended_alike (actions.Trap cause) view byte running = refl
ended_alike (actions.Exit code) view byte running = refl
ended_alike _ view byte running = rw running refl

-- what ended in no need of a line lacked none, and its store is that of its execution
pub record HasRanBy (permits : ℕ → Need → Bool) (access : Access) (execution : Execution) (ended : Ended) : Type 0 where
  pub lacked : lacking permits access ≡ None
  pub store : store_when ended execution ≡ store_in execution

ran_store : (execution : Execution) → store_when (ended_by execution) execution ≡ store_in execution
ran_store (Stops status) = refl
ran_store (Goes view store append) = refl

pub ran_by : (permits : ℕ → Need → Bool) (access : Access) (execution : Execution) (ended : Ended) →
    ended ≡ ended_of (lacking permits access) execution →
    ((line : LineAddr) (need : Need) → ended ≡ ends.Needs line need → ⊥) → HasRanBy permits access execution ended
ran_by permits access execution ended is not_needs =
    let by : (lacking permits access ≡ None) × (ended ≡ ended_by execution) = tested (lacking permits access) is in
    record { lacked = by.0; store = ap (λ e. store_when e execution) by.1 ∙ ran_store execution }
  where
    tested : (lack : Option Want) → ended ≡ ended_of lack execution → (lack ≡ None) × (ended ≡ ended_by execution)
    tested None is = (refl, is)
    tested (Some want) is = absurd (not_needs want.line want.need is)
