-- the list of a round robin is the only one
use Rattle.std.proofs.Common.{◌≡◌, ℕ, suc, ◌+◌, ◌<◌, ◌≤◌, List, [], ◌∷◌, length, take, Some, true, false, refl, sym}
use Rattle.std.proofs.Common.{◌∙◌, ap, arith, inl, inr}
use Rattle.std.specs.Prelude.{slice_get}
use Rattle.std.proofs.Math.Seq.{take-length}
use Rattle.std.proofs.lemmas.Bool.{cases_order}
use Rattle.el_base.specs.declared.events.Event.{Event}
use Rattle.el_base.proofs.Laws.HartIds.{same_hart}
use Rattle.el_base.proofs.Laws.Kinds.{one_kind}
use Rattle.drive.specs.RoundRobin.{IsEventAt, IsRoundRobin}
use Rattle.el_model.specs.Next.{is_over, state_after}
use Rattle.el_model.specs.State.{ModelState}

-- one event stands at a place
one_turn : (harts place : ℕ) (a b : Event) → IsEventAt harts place a → IsEventAt harts place b → a ≡ b
one_turn harts place a b first second =
    let kinds : a.kind ≡ b.kind = one_kind a.kind b.kind (first.kind ∙ sym second.kind) in
    let ids : a.hart ≡ b.hart = same_hart a.hart b.hart (first.hart ∙ sym second.hart) in
    let same_kind : a ≡ record { kind = b.kind; hart = a.hart } = ap (λ k. record { kind = k; hart = a.hart }) kinds in
    same_kind ∙ ap (λ h. record { kind = b.kind; hart = h }) ids

-- each event is the one of its place, the first of them at an offset
abbrev AreTurns : ℕ → ℕ → List Event → Type 0
AreTurns harts offset events =
    (place i : ℕ) → place ≡ offset + i → (event : Event) → slice_get events i ≡ Some event → IsEventAt harts place event

turns_after : (harts offset : ℕ) (event : Event) (events : List Event) → AreTurns harts offset (event ∷ events) →
    AreTurns harts (offset + 1) events
turns_after harts offset event events all place i at other found = all place (suc i) (omega arith) other found

-- so many events of a round robin are the same in all of them
same_turns : (harts offset : ℕ) (first second : List Event) → AreTurns harts offset first →
    AreTurns harts offset second → length first ≤ length second → take (length first) second ≡ first
same_turns harts offset [] second one two within = refl
same_turns harts offset (a ∷ first) [] one two within = absurd (omega arith)
same_turns harts offset (a ∷ first) (b ∷ second) one two within =
    let at : offset ≡ offset + 0 = omega arith in
    let heads : b ≡ a = one_turn harts offset b a (two offset 0 at b refl) (one offset 0 at a refl) in
    let tails : take (length first) second ≡ first =
    same_turns harts (offset + 1) first second (turns_after harts offset a first one)
    (turns_after harts offset b second two) (omega arith) in
    ap (λ e. e ∷ take (length first) second) heads ∙ ap (λ rest. a ∷ rest) tails

turns_of : (state : ModelState) (harts left : ℕ) (events : List Event) → IsRoundRobin state harts left events →
    AreTurns harts 0 events
turns_of state harts left events robin place i at event found =
    let here : place ≡ i = omega arith in
    robin.turns place event (rw here found)

-- none ends before another one does
not_shorter : (state : ModelState) (harts left : ℕ) (first second : List Event) →
    IsRoundRobin state harts left first → IsRoundRobin state harts left second → length first < length second → ⊥
not_shorter state harts left first second one two shorter =
    let prefix : take (length first) second ≡ first =
    same_turns harts 0 first second (turns_of state harts left first one) (turns_of state harts left second two)
    (omega arith) in
    let steps : length second ≤ left = two.steps in
    let going : is_over (state_after state first) ≡ false = rw prefix at (two.going (length first) shorter) in
    elim one.ended [ inl all ↦ omega arith | inr over ↦ let no : true ≡ false = sym over ∙ going in cc ]

pub one_round_robin : (state : ModelState) (harts left : ℕ) (first second : List Event) →
    IsRoundRobin state harts left first → IsRoundRobin state harts left second → first ≡ second
one_round_robin state harts left first second one two =
    elim (cases_order (length first) (length second)) [
      | inl same ↦
          let prefix : take (length first) second ≡ first =
          same_turns harts 0 first second (turns_of state harts left first one) (turns_of state harts left second two)
          (omega arith) in
          sym prefix ∙ ap (λ n. take n second) same ∙ take-length second
      | inr (inl shorter) ↦ absurd (not_shorter state harts left first second one two shorter)
      | inr (inr longer) ↦ absurd (not_shorter state harts left second first two one longer)
    ]
