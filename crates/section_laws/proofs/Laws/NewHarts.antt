-- before the first event each hart is new, and a hart that is not new is one of the machine's
use Rattle.std.proofs.Common.{◌≡◌, ℕ, ◌<◌, Bool, true, false, is_some, length, refl, subst}
use Rattle.std.specs.Prelude.{nat_lt}
use Rattle.std.proofs.lemmas.Bool.{ltb-true, ltb-false}
use Rattle.el_base.proofs.Laws.Cases.{false_true}
use Rattle.el_base.specs.declared.config.Config.{Config}
use Rattle.elf_image.specs.Program.{Program}
use Rattle.el_model.specs.State.{Hart, ModelState, begin, hart_of, is_live, new_hart}
use Rattle.el_model.proofs.Laws.AllHarts.{all_first}
use Rattle.el_model.proofs.Laws.Harts.{hart_of-past}

pub each_new : (P : Hart → Type 0) (program : Program) (config : Config) → ((sets : ℕ) → P (new_hart sets)) →
    (h : ℕ) → P (hart_of (begin program config) h)
unfolding begin
each_new P program config new h =
    all_first P program.harts (new_hart config.sets) (new_hart 0) (new config.sets) (new 0) h

exists_by : (P : Hart → Type 0) (state : ModelState) (h : ℕ) → (P (new_hart 0) → ⊥) → P (hart_of state h) →
    (below : Bool) → nat_lt h (length state.harts) ≡ below → h < length state.harts
exists_by P state h new has true below = ltb-true h (length state.harts) below
exists_by P state h new has false below =
    absurd (new (subst P (hart_of-past state h (ltb-false h (length state.harts) below)) has))

pub exists_unless_new : (P : Hart → Type 0) (state : ModelState) (h : ℕ) → (P (new_hart 0) → ⊥) →
    P (hart_of state h) → h < length state.harts
exists_unless_new P state h new has = exists_by P state h new has (nat_lt h (length state.harts)) refl

-- so is a hart with a live section
pub live_below : (state : ModelState) (h : ℕ) → is_live state h ≡ true → h < length state.harts
live_below state h live = exists_unless_new (λ hart. is_some hart.section ≡ true) state h (λ is. false_true is) live
