-- drivers on threads, one turn after another
use Rattle.std.proofs.Common.{◌≡◌, ◌≢◌, ℕ, ◌+◌, ◌%◌, ◌<◌, ◌≤◌, false, List, [], ◌∷◌, ◌++◌, length, drop, sym, refl, ap}
use Rattle.std.proofs.Common.{◌∙◌, subst, inl, inr, arith}
use Rattle.std.proofs.Common.{length-append}
use Rattle.std.proofs.lemmas.Bool.Decides.{nat_tests}
use Rattle.std.proofs.lemmas.List.{append-nil, drop-append-le, get_or-set_other, get_or-set_same, map-append}
use Rattle.std.proofs.lemmas.List.{take-append-le}
use Rattle.std.proofs.lemmas.List.Elements.{All-append, All-cons, All-nil, filter-append}
use Rattle.std.specs.Prelude.{slice_index, slice_set}
use mathlib.Core.Logic.{dite}
use native.Mathlib.Decide.{ℕ_discrete}
use Rattle.chronicle.specs.Chronicle.{events}
use Rattle.drive.specs.Turns.{AreCounts, AreTurns, GoesByTurns, IsRound, RoundStory, before_of, made_in, of_hart}
use Rattle.drive.specs.Turns.{round_at, turns_of}
use Rattle.el_base.specs.Kinds.{kind_number}
use Rattle.el_base.specs.declared.entries.Entry.{Entry}
use Rattle.el_base.specs.declared.events.Event.{Event}
use Rattle.el_base.proofs.Laws.ListLaws.{slice_get_push}
use Rattle.el_model.specs.Next.{entries_from, is_over}
use Rattle.machine.proofs.Laws.Continued.{continued_more, going_more}
use Rattle.machine.specs.Story.{Story, continued, state_of}

own_event : (hart : ℕ) (event : Event) → event.hart.number ≡ hart → of_hart hart (event ∷ []) ≡ event ∷ []
own_event hart event same = grind (arith, nat_tests)

other_event : (hart : ℕ) (event : Event) → event.hart.number ≢ hart → of_hart hart (event ∷ []) ≡ []
other_event hart event other = grind (arith, nat_tests)

of_hart_more : (hart : ℕ) (made : List Event) (event : Event) →
    of_hart hart (made ++ event ∷ []) ≡ of_hart hart made ++ of_hart hart (event ∷ [])
of_hart_more hart made event = filter-append _ made (event ∷ [])

own_more : (hart : ℕ) (made : List Event) (event : Event) → event.hart.number ≡ hart →
    of_hart hart (made ++ event ∷ []) ≡ of_hart hart made ++ event ∷ []
own_more hart made event same =
    of_hart_more hart made event ∙ ap (λ l. of_hart hart made ++ l) (own_event hart event same)

other_more : (hart : ℕ) (made : List Event) (event : Event) → event.hart.number ≢ hart →
    of_hart hart (made ++ event ∷ []) ≡ of_hart hart made
other_more hart made event other = of_hart_more hart made event
    ∙ (ap (λ l. of_hart hart made ++ l) (other_event hart event other) ∙ append-nil (of_hart hart made))

turns_more : (most : ℕ) (made : List Event) (event : Event) → AreTurns most made → length made < most →
    kind_number event.kind ≡ length made % 4 → AreTurns most (made ++ event ∷ [])
turns_more most made event turns fewer kind = record {
  few = omega (arith, length-append made (event ∷ []));
  kinds = λ turn other found.
      elim (slice_get_push made event turn other found) [
        | inl before_it ↦ turns.kinds turn other before_it
        | inr last ↦ subst (λ (e : Event). kind_number e.kind ≡ turn % 4) last.1 (kind ∙ ap (λ n. n % 4) (sym last.0))
      ];
}

-- one turn more
one_turn : (turns : ℕ) (before now : Story) (made : List Event) (event : Event) → GoesByTurns turns before now made →
    is_over (state_of now) ≡ false → event.hart.number < before.config.harts →
    length (of_hart event.hart.number made) < turns →
    kind_number event.kind ≡ length (of_hart event.hart.number made) % 4 →
    GoesByTurns turns before (continued now (event ∷ [])) (made ++ event ∷ [])
one_turn turns before now made event goes runs exists left kind = record {
  story = continued_more before now (continued now (event ∷ [])) made event goes.story refl;
  each = λ hart. dite (ℕ_discrete event.hart.number hart)
      (λ same. subst (AreTurns turns) (sym (own_more hart made event same))
      (turns_more turns (of_hart hart made) event (goes.each hart)
      (subst (λ h. length (of_hart h made) < turns) same left)
      (subst (λ h. kind_number event.kind ≡ length (of_hart h made) % 4) same kind)))
      (λ other. subst (AreTurns turns) (sym (other_more hart made event other)) (goes.each hart));
  exist =
      let Exists : Event → Type 0 = λ other. other.hart.number < before.config.harts in
      All-append Exists made (event ∷ []) goes.exist (All-cons Exists event [] exists (All-nil Exists));
  going = going_more before now made event goes.story runs goes.going;
}

-- a round that has gone on by some entries more
pub made_on : (start : RoundStory) (part rest : List Entry) → start.base ≤ length part →
    made_in (round_at start (part ++ rest)) ≡ made_in (round_at start part) ++ events rest
made_on start part rest within =
    ap events (drop-append-le start.base part rest within) ∙ map-append _ (drop start.base part) rest

pub before_on : (start : RoundStory) (part rest : List Entry) → start.base ≤ length part →
    before_of (round_at start (part ++ rest)) ≡ before_of (round_at start part)
before_on start part rest within =
    ap (λ list. record start.now { entries = list }) (take-append-le start.base part rest within)

module _ (round : RoundStory) (event : Event) (good : IsRound round) where
  abbrev pub further : RoundStory
  further = record round { now = continued round.now (event ∷ []) }

  abbrev added : List Entry
  added = entries_from (state_of round.now) (event ∷ [])

  before_same : before_of further ≡ before_of round
  before_same = before_on round round.now.entries added good.within

  made_more : made_in further ≡ made_in round ++ event ∷ []
  made_more = made_on round round.now.entries added good.within

  pub own_turn : (hart : ℕ) → event.hart.number ≡ hart → turns_of further hart ≡ turns_of round hart + 1
  own_turn hart same =
      ap (λ made. length (of_hart hart made)) made_more ∙ (ap length (own_more hart (made_in round) event same)
      ∙ length-append (of_hart hart (made_in round)) (event ∷ []))

  pub other_turn : (hart : ℕ) → event.hart.number ≢ hart → turns_of further hart ≡ turns_of round hart
  other_turn hart other =
      ap (λ made. length (of_hart hart made)) made_more ∙ ap length (other_more hart (made_in round) event other)

  pub round_more : is_over (state_of round.now) ≡ false → event.hart.number < round.now.config.harts →
      turns_of round event.hart.number < round.turns →
      kind_number event.kind ≡ turns_of round event.hart.number % 4 → IsRound further
  round_more runs exists left kind = record {
    within = let w = good.within in omega (arith, w, length-append round.now.entries added);
    by_turns =
        subst (λ (made : List Event). GoesByTurns round.turns (before_of further) further.now made) (sym made_more)
        (subst (λ (before : Story). GoesByTurns round.turns before further.now (made_in round ++ event ∷ []))
        (sym before_same)
        (one_turn round.turns (before_of round) round.now (made_in round) event good.by_turns runs exists left kind));
  }

  pub counts_more : (counts : List ℕ) (hart count : ℕ) → AreCounts round counts → length counts ≡ 8 → hart < 8 →
      event.hart.number ≡ hart → count ≡ slice_index counts hart + 1 → AreCounts further (slice_set counts hart count)
  counts_more counts hart count are long small same one j inside = dite (ℕ_discrete j hart)
      (λ here. ap (slice_index (slice_set counts hart count)) here ∙
      (get_or-set_same counts hart count 0 (omega (arith, long)) ∙
      (one ∙ (ap (λ n. n + 1) (are hart small) ∙ (sym (own_turn hart same) ∙ ap (turns_of further) (sym here))))))
      (λ other. get_or-set_other counts hart j count 0 other
      ∙ (are j inside ∙ sym (other_turn j (λ e. other (sym e ∙ same)))))
