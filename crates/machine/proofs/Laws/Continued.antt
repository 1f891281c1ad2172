-- stories that go on
use Rattle.std.proofs.Common.{◌≡◌, ◌-◌, length, length-append, arith, List, [], ◌∷◌, ◌++◌, sym, ◌∙◌, ap, append-nil}
use Rattle.std.proofs.Common.{append_assoc}
use Rattle.std.proofs.Common.{ℕ, ◌<◌, ◌≤◌, take, false, inl, inr, ◌+◌, get_or}
use Rattle.std.proofs.lemmas.List.{length-take-le, map-append, take-append-le, take_more}
use Rattle.std.proofs.Math.Seq.{take-length}
use Rattle.std.proofs.lemmas.Bool.{cases_order}
use Rattle.std.proofs.Math.Nat.{le_of_lt}
use Rattle.chronicle.specs.Chronicle.{events}
use Rattle.el_base.specs.declared.events.Event.{Event}
use Rattle.el_model.proofs.Laws.Folds.{entries_from-append, events-entries_from, length-entries_from}
use Rattle.el_model.proofs.Laws.Folds.{state_after-append}
use Rattle.el_model.specs.Next.{after, entries_from, is_over, state_after}
use Rattle.el_model.specs.State.{begin}
use Rattle.machine.specs.Story.{Story, continued, left_of, state_of}

-- the state after further events
pub state_of_continued : (story : Story) (made : List Event) →
    state_of (continued story made) ≡ state_after (state_of story) made
state_of_continued story made =
    ap (λ list. after story.program story.config list)
    (map-append _ story.entries (entries_from (state_of story) made)
    ∙ ap (λ list. events story.entries ++ list) (events-entries_from (state_of story) made))
    ∙ state_after-append (begin story.program story.config) (events story.entries) made

-- a story that does not go on
pub nothing_more : (story : Story) → continued story [] ≡ story
nothing_more story = ap (λ list. record story { entries = list }) (append-nil story.entries)

-- the steps that are left then
pub left_of_continued : (story : Story) (made : List Event) →
    left_of (continued story made) ≡ left_of story - length made
left_of_continued story made =
    omega (
      arith,
      length-append story.entries (entries_from (state_of story) made),
      length-entries_from (state_of story) made,
    )

-- going on twice
pub continued_twice : (story : Story) (first second : List Event) →
    continued (continued story first) second ≡ continued story (first ++ second)
continued_twice story first second =
    ap (λ list. record story { entries = list })
    (ap (λ state. (story.entries ++ entries_from (state_of story) first) ++ entries_from state second)
    (state_of_continued story first)
    ∙ append_assoc story.entries (entries_from (state_of story) first)
    (entries_from (state_after (state_of story) first) second)
    ∙ ap (λ list. story.entries ++ list) (sym (entries_from-append (state_of story) first second)))

-- one event more
pub continued_more : (before now later : Story) (made : List Event) (event : Event) → now ≡ continued before made →
    later ≡ continued now (event ∷ []) → later ≡ continued before (made ++ event ∷ [])
continued_more before now later made event reached more =
    more ∙ ap (λ story. continued story (event ∷ [])) reached ∙ continued_twice before made (event ∷ [])

-- where every hart has not stopped at any of some events, nor after them, it has not at any of one event more
pub going_more : (before now : Story) (made : List Event) (event : Event) → now ≡ continued before made →
    is_over (state_of now) ≡ false →
    ((i : ℕ) → i < length made → is_over (state_after (state_of before) (take i made)) ≡ false) →
    (i : ℕ) → i < length (made ++ event ∷ []) →
    is_over (state_after (state_of before) (take i (made ++ event ∷ []))) ≡ false
going_more before now made event story runs going i within =
    let up_to : i ≤ length made = omega (arith, length-append made (event ∷ [])) in
    let part : take i (made ++ event ∷ []) ≡ take i made = take-append-le i made (event ∷ []) up_to in
    rw part (elim (cases_order i (length made)) [
      | inl last ↦
          ap (λ n. is_over (state_after (state_of before) (take n made))) last
          ∙ ap (λ list. is_over (state_after (state_of before) list)) (take-length made)
          ∙ ap is_over (sym (ap state_of story ∙ state_of_continued before made)) ∙ runs
      | inr (inl earlier) ↦ going i earlier
      | inr (inr past) ↦ absurd (omega arith)
    ])

-- the next of a list of events
pub one_followed : (before now later : Story) (events : List Event) (place : ℕ) (event : Event) →
    now ≡ continued before (take place events) → place < length events → event ≡ get_or events place event →
    later ≡ continued now (event ∷ []) → later ≡ continued before (take (place + 1) events)
one_followed before now later events place event reached within here more =
    let next_ones : take place events ++ event ∷ [] ≡ take (place + 1) events =
    ap (λ e. take place events ++ e ∷ []) here ∙ sym (take_more events place event within) in
    continued_more before now later (take place events) event reached more
    ∙ ap (λ made. continued before made) next_ones

-- a step is left for it
pub one_left : (before now : Story) (events : List Event) (place : ℕ) → now ≡ continued before (take place events) →
    place < length events → length events ≤ left_of before → 1 ≤ left_of now
one_left before now events place reached within enough =
    let left : left_of now ≡ left_of before - length (take place events) =
    ap left_of reached ∙ left_of_continued before (take place events) in
    omega (arith, length-take-le place events (le_of_lt within))
