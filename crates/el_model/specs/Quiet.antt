-- what never arises where a mode has no use for it
use Rattle.std.specs.Prelude.{ℕ, ◌≡◌, Bool, false, true, [], None}
use Rattle.residency.specs.Cache.{has_marks}
use Rattle.el_base.specs.declared.config.Mode.{Mode}
use Rattle.el_base.specs.declared.config.Mode.TheVariants.{Plain, Sle, Tlr}
use Rattle.el_model.specs.State.{Hart, ModelState, hart_of}

-- a hart without messages, without harts that it was told of or that are before it, and without an attempt
pub record IsSilent (hart : Hart) : Type 0 where
  pub mail : hart.mail ≡ []
  pub told : hart.told ≡ []
  pub upstream : hart.upstream ≡ []
  pub attempt : hart.attempt ≡ None

-- a hart without a live or armed section, without bits, and without a watch
pub record IsPlain (hart : Hart) : Type 0 where
  pub section : hart.section ≡ None
  pub armed : hart.armed ≡ None
  pub unmarked : has_marks hart.cache ≡ false
  pub watch : hart.predictor.watch ≡ None

-- whether attempts have stamps in this mode
abbrev pub has_stamps : Mode → Bool
has_stamps Plain = false
has_stamps Sle = false
has_stamps Tlr = true

abbrev pub AllSilent : ModelState → Type 0
AllSilent state = (h : ℕ) → IsSilent (hart_of state h)

abbrev pub AllPlain : ModelState → Type 0
AllPlain state = (h : ℕ) → IsPlain (hart_of state h)
