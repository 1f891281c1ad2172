-- Kinds by the codes that a trace has for them.
use Rattle.std.specs.Prelude.{ℕ, ◌==◌, List, [], ◌∷◌, find}
use Rattle.std.specs.Option.{unwrap_or}
use Rattle.el_base.specs.Kinds.{kind_number}
use Rattle.el_base.specs.Modes.{mode_number}
use Rattle.el_base.specs.declared.config.Mode.{Mode}
use Rattle.el_base.specs.declared.config.Mode.TheVariants.{Plain, Sle, Tlr}
use Rattle.el_base.specs.declared.events.Kind.{Kind}
use Rattle.el_base.specs.declared.events.Kind.TheVariants.{Step, Order, Serve, Deliver}
use Rattle.el_base.specs.declared.outcomes.Cause.{Cause}
use Rattle.el_base.specs.declared.outcomes.Cause.TheVariants.{Room, Lines, Long, Call, Mixed}
use Rattle.el_base.specs.declared.outcomes.Why.{Why}
use Rattle.el_base.specs.declared.outcomes.Why.TheVariants.{Behind, Retained, Locked}

-- the first of several kinds that has a code, or the last where none of them has it
abbrev pub one_with_code : {A : Type 0} → (A → ℕ) → List A → A → ℕ → A
one_with_code code_of others last code = unwrap_or (find (λ one. code_of one == code) others) last

-- ---- codes

abbrev pub cause_code : Cause → ℕ
cause_code Room = 0
cause_code Lines = 1
cause_code Long = 2
cause_code Call = 3
cause_code Mixed = 4

abbrev pub why_code : Why → ℕ
why_code Behind = 0
why_code Retained = 1
why_code Locked = 2

-- ---- the kinds that codes say

abbrev pub mode_at : ℕ → Mode
mode_at number = one_with_code mode_number (Plain ∷ Sle ∷ []) Tlr number

unfoldable pub kind_at : ℕ → Kind
kind_at number = one_with_code kind_number (Step ∷ Order ∷ Serve ∷ []) Deliver number

unfoldable pub cause_at : ℕ → Cause
cause_at code = one_with_code cause_code (Room ∷ Lines ∷ Long ∷ Call ∷ []) Mixed code

unfoldable pub why_at : ℕ → Why
why_at code = one_with_code why_code (Behind ∷ Retained ∷ []) Locked code
