-- ends of sections, one event after another
use Rattle.std.proofs.Common.{◌≡◌, ℕ, ◌+◌, ◌∙◌, List, [], ◌∷◌, ◌++◌, length, refl, ap, sym, arith, add-zero}
use Rattle.el_base.specs.declared.events.Event.{Event}
use Rattle.el_model.specs.Next.{next, state_after}
use Rattle.el_model.specs.State.{ModelState}
use Rattle.lab.specs.Tries.{end_from, end_in, first_end, moment_of}
use Rattle.lab.specs.declared.tries.Ended.{Ended}
use Rattle.lab.specs.declared.tries.Ended.TheVariants.{Live, Committed, LostTo, RolledBack}

pub first_end-live : (ended : Ended) → first_end ended Live ≡ ended
first_end-live Live = refl
first_end-live (Committed at count) = refl
first_end-live (LostTo at ran winner line) = refl
first_end-live (RolledBack at ran cause) = refl

pub first_end-assoc : (a b c : Ended) → first_end (first_end a b) c ≡ first_end a (first_end b c)
first_end-assoc Live b c = refl
first_end-assoc (Committed at count) b c = refl
first_end-assoc (LostTo at ran winner line) b c = refl
first_end-assoc (RolledBack at ran cause) b c = refl

-- one event more, at the place behind the others
pub end_from-push : (state : ModelState) (place here h : ℕ) (events : List Event) (event : Event) →
    here ≡ place + length events → end_from state place h (events ++ event ∷ [])
    ≡ first_end (end_from state place h events) (end_in (moment_of (state_after state events) here event) h)
end_from-push state place here h [] event at =
    first_end-live (end_in (moment_of state place event) h)
    ∙ ap (λ p. end_in (moment_of state p event) h) (sym (at ∙ add-zero place))
end_from-push state place here h (first ∷ events) event at =
    ap (first_end (end_in (moment_of state place first) h))
    (end_from-push (next state first).state (place + 1) here h events event (omega arith))
    ∙ sym
    (first_end-assoc (end_in (moment_of state place first) h) (end_from (next state first).state (place + 1) h events)
    (end_in (moment_of (state_after (next state first).state events) here event) h))
