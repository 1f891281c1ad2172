-- what each event keeps of a state that can be reached holds of every such state; so the laws
-- of those may be used on the way
use Rattle.std.proofs.Common.{◌≡◌, List, [], ◌∷◌, ◌++◌, refl, sym, subst}
use Rattle.el_base.specs.declared.config.Config.{Config}
use Rattle.el_base.specs.declared.events.Event.{Event}
use Rattle.elf_image.specs.Program.{Program}
use Rattle.el_model.specs.Next.{after, next, state_after}
use Rattle.el_model.specs.State.{ModelState, begin}

pub state_after-last : (state : ModelState) (events : List Event) (event : Event) →
    state_after state (events ++ event ∷ []) ≡ (next (state_after state events) event).state
state_after-last state [] event = refl
state_after-last state (first ∷ events) event = state_after-last (next state first).state events event

module _ (P : ModelState → Type 0) (program : Program) (config : Config)
    (keeps : (events : List Event) (event : Event) → P (after program config events) →
    P (next (after program config events) event).state) where
  kept_on : (done events : List Event) → P (after program config done) →
      P (state_after (after program config done) events)
  kept_on done [] now = now
  kept_on done (event ∷ events) now =
      let last = state_after-last (begin program config) done event in
      subst (λ state. P (state_after state events)) last
      (kept_on (done ++ event ∷ []) events (subst P (sym last) (keeps done event now)))

  pub kept_along : P (begin program config) → (events : List Event) → P (after program config events)
  kept_along first events = kept_on [] events first
