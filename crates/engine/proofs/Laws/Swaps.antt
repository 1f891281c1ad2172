-- an action that is a swap, a store conditional that succeeds, or a load reserved
use Rattle.std.proofs.Common.{◌≡◌, ◌∙◌, ℕ, ◌%◌, ◌≤◌, Bool, true, false, Option, Some, None, refl, ap, sym, subst}
use Rattle.std.specs.Prelude.{if◌then◌else◌}
use Rattle.std.proofs.lemmas.Option.{same_Some}
use Rattle.residency.specs.Cache.{is_resident}
use Rattle.cache_sets.specs.Cached.{Cached}
use Rattle.cached_step.specs.CacheRun.{permitted}
use Rattle.coherence.proofs.Laws.GivenBackLaws.{writable_there}
use Rattle.core_step.proofs.Laws.Runs.{is_permitted}
use Rattle.core_step.specs.Run.{IsAligned, lacking}
use Rattle.el_base.specs.Line.{line_number}
use Rattle.el_base.specs.declared.outcomes.Need.TheVariants.{Write}
use Rattle.el_base.proofs.Laws.Cases.{none_some}
use Rattle.el_model.specs.Upcoming.{Swap, is_swap_op, touch_of}
use Rattle.engine.proofs.PlainRules.{TouchesWord}
use Rattle.rv_alu.specs.Footprint.{IsInPlace, footprint}
use Rattle.rv_alu.specs.Loaded.{loaded}
use Rattle.rv_alu.specs.declared.action.Action.{Action}
use Rattle.rv_alu.specs.declared.action.Action.TheVariants as actions
use Rattle.rv_alu.specs.declared.footprint.Access.TheVariants as accesses
use Rattle.rv_alu.specs.declared.span.Span.{Span}
use Rattle.rv_word.specs.declared.insn.AmoOp.{AmoOp}
use Rattle.rv_word.specs.declared.reg.Reg.{Reg}
use Rattle.step_rules.specs.Actions.{conditional_by, exchange_by, reserved_by, swap_by}

-- it is an atomic operation on the swap's word
pub record IsSwapOf (action : Action) (swap : Swap) : Type 0 where
  pub op : AmoOp
  pub rd : Reg
  pub source : ℕ
  pub is : action ≡ actions.Amo op rd swap.word source

pub swap_action : (byte : ℕ → ℕ) (action : Action) (swap : Swap) → swap_by byte action ≡ Some swap →
    IsSwapOf action swap
swap_action byte (actions.Amo op rd address source) swap is =
    by (is_swap_op op) (record { word = address; old = loaded byte address 4; new = source }) refl is
  where
    by : (b : Bool) (found : Swap) → found.word ≡ address → (if b then Some found else None) ≡ Some swap →
        IsSwapOf (actions.Amo op rd address source) swap
    by true found word same = record {
      op = op;
      rd = rd;
      source = source;
      is = ap (λ a. actions.Amo op rd a source) (sym word ∙ ap (λ s. s.word) (same_Some found swap same));
    }
    by false found word same = none_some same
swap_action byte _ swap is = none_some is

-- it is a store conditional to the exchange's word
pub record IsConditionalOf (action : Action) (swap : Swap) : Type 0 where
  pub rd : Reg
  pub is : action ≡ actions.StoreConditional rd swap.word swap.new

pub conditional_action : (byte : ℕ → ℕ) (action : Action) (swap : Swap) → conditional_by byte action ≡ Some swap →
    IsConditionalOf action swap
conditional_action byte (actions.StoreConditional rd address value) swap is =
    let same = same_Some (record { word = address; old = loaded byte address 4; new = value }) swap is in
    record { rd = rd; is = ap (λ s. actions.StoreConditional rd s.word s.new) same }
conditional_action byte _ swap is = none_some is

-- it is a load reserved of the word
pub record IsReserveOf (action : Action) (word : ℕ) : Type 0 where
  pub rd : Reg
  pub is : action ≡ actions.LoadReserved rd word

pub reserve_action : (action : Action) (word : ℕ) → reserved_by action ≡ Some word → IsReserveOf action word
reserve_action (actions.LoadReserved rd address) word is =
    record { rd = rd; is = ap (actions.LoadReserved rd) (same_Some address word is) }
reserve_action _ word is = none_some is

pub same_reserve : (action : Action) (word : ℕ) (rd : Reg) (address : ℕ) → IsReserveOf action word →
    action ≡ actions.LoadReserved rd address → actions.LoadReserved rd word ≡ action
same_reserve action word rd address of is =
    ap (actions.LoadReserved rd) (sym (same_Some address word (ap reserved_by (sym is ∙ of.is)))) ∙ sym is

-- what a swap touches is its word's line
pub touches_word : (byte : ℕ → ℕ) (action : Action) (swap : Option Swap) → swap_by byte action ≡ swap →
    TouchesWord swap (touch_of (footprint action))
touches_word byte action None is = tt
touches_word byte action (Some swap) is = ap (λ a. touch_of (footprint a)) (swap_action byte action swap is).is

-- its word is aligned where the action is
pub word_aligned : (action : Action) (swap : Swap) → IsSwapOf action swap → IsAligned action → swap.word % 4 ≡ 0
word_aligned action swap of even = subst IsAligned of.is even

pub reserve_aligned : (action : Action) (word : ℕ) → IsReserveOf action word → IsAligned action → word % 4 ≡ 0
reserve_aligned action word of even = subst IsAligned of.is even

-- an exchange writes its word
pub exchange_writes : (byte : ℕ → ℕ) (action : Action) (swap : Swap) → exchange_by byte action ≡ Some swap →
    footprint action ≡ accesses.Write swap.word 4
exchange_writes byte (actions.Amo op rd address source) swap is =
    ap footprint (swap_action byte (actions.Amo op rd address source) swap is).is
exchange_writes byte (actions.StoreConditional rd address value) swap is =
    ap footprint (conditional_action byte (actions.StoreConditional rd address value) swap is).is
exchange_writes byte _ swap is = none_some is

-- its word lies in memory
pub exchanged_from : (span : Span) (room : ℕ) (byte : ℕ → ℕ) (action : Action) (swap : Swap) →
    IsInPlace span room action → exchange_by byte action ≡ Some swap → span.base ≤ swap.word
exchanged_from span room byte (actions.Amo op rd address source) swap place is =
    (subst (IsInPlace span room) (swap_action byte (actions.Amo op rd address source) swap is).is place).from_base
exchanged_from span room byte (actions.StoreConditional rd address value) swap place is =
    (subst (IsInPlace span room) (conditional_action byte (actions.StoreConditional rd address value) swap is).is
    place).from_base
exchanged_from span room byte _ swap place is = none_some is

-- a word whose line may be written there lies on a line that is there
pub written_there : (cache : Cached) (action : Action) (word : ℕ) → footprint action ≡ accesses.Write word 4 →
    lacking (permitted cache) (footprint action) ≡ None → is_resident cache.residency (line_number word) ≡ true
written_there cache action word is none =
    writable_there cache (line_number word)
    (is_permitted (permitted cache) (line_number word) Write
    (ap (λ access. lacking (permitted cache) access) (sym is) ∙ none))
