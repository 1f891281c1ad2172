-- the events of a seed, one after another
use Rattle.std.proofs.Common.{◌≡◌, ℕ, ◌+◌, ◌-◌, ◌<◌, ◌≤◌, ◌⊎◌, List, [], ◌∷◌, ◌++◌, length, take}
use Rattle.std.proofs.Common.{Some, false, true, refl, ◌∙◌, ap, sym, subst, arith, length-append, inl, inr}
use Rattle.std.specs.Prelude.{slice_get, IsTrue}
use Rattle.el_base.specs.declared.events.Event.{Event}
use Rattle.el_base.proofs.Laws.ListLaws.{slice_get_push}
use Rattle.el_model.specs.Next.{is_over, state_after}
use Rattle.lab_run.specs.Drawn.{MakesDrawn}
use Rattle.machine.proofs.Laws.Continued.{continued_more, going_more, left_of_continued, nothing_more}
use Rattle.machine.proofs.Laws.Continued.{state_of_continued}
use Rattle.machine.specs.Story.{Story, continued, left_of, state_of}
use Rattle.schedule.specs.Drawn.{IsDrawnAt}

-- so many drawn events were made, and it may still go on
pub record GoesDrawn (seed : ℕ) (before now : Story) (place : ℕ) : Type 0 where
  pub made : List Event
  pub story : now ≡ continued before made
  pub count : length made ≡ place
  pub drawn : (i : ℕ) (event : Event) → slice_get made i ≡ Some event → IsDrawnAt seed before.config.harts i event
  pub going : (i : ℕ) → i < length made → is_over (state_after (state_of before) (take i made)) ≡ false

pub none_made : (seed : ℕ) (story : Story) → GoesDrawn seed story story 0
none_made seed story = record {
  made = [];
  story = sym (nothing_more story);
  count = refl;
  drawn = λ i event found. cc;
  going = λ i within. absurd (omega arith);
}

-- the state that was reached
reached : (seed : ℕ) (before now : Story) (place : ℕ) (gone : GoesDrawn seed before now place) →
    state_of now ≡ state_after (state_of before) gone.made
reached seed before now place gone = ap state_of gone.story ∙ state_of_continued before gone.made

pub one_made : (seed : ℕ) (before now later : Story) (place : ℕ) (event : Event) → GoesDrawn seed before now place →
    is_over (state_of now) ≡ false → IsDrawnAt seed before.config.harts place event →
    later ≡ continued now (event ∷ []) → GoesDrawn seed before later (place + 1)
one_made seed before now later place event gone runs drawn more = record {
  made = gone.made ++ event ∷ [];
  story = continued_more before now later gone.made event gone.story more;
  count = omega (arith, length-append gone.made (event ∷ []), gone.count);
  drawn = λ i other found.
      elim (slice_get_push gone.made event i other found) [
        | inl before_it ↦ gone.drawn i other before_it
        | inr last ↦
            let At : ℕ → Type 0 = λ n. IsDrawnAt seed before.config.harts n other in
            subst At (sym (last.0 ∙ gone.count))
            (subst (λ (e : Event). IsDrawnAt seed before.config.harts place e) last.1 drawn)
      ];
  going = going_more before now gone.made event gone.story runs gone.going;
}

-- a step is left where fewer were made than were left
pub one_left : (seed : ℕ) (before now : Story) (place steps : ℕ) → GoesDrawn seed before now place →
    steps ≡ left_of before → place < steps → 1 ≤ left_of now
one_left seed before now place steps gone all within =
    let left : left_of now ≡ left_of before - length gone.made =
    ap left_of gone.story ∙ left_of_continued before gone.made in
    omega (arith, gone.count, all, within)

all_made : (seed : ℕ) (before now : Story) (place : ℕ) → GoesDrawn seed before now place → place ≤ left_of before →
    (place ≡ left_of before) ⊎ IsTrue (is_over (state_of now)) → MakesDrawn seed before now
all_made seed before now place gone within ended = record {
  made = gone.made;
  drawn = record {
    drawn = gone.drawn;
    steps = omega (arith, gone.count);
    going = gone.going;
    ended = elim ended [
      | inl full ↦ inl (gone.count ∙ full)
      | inr over ↦ inr (sym (ap is_over (reached seed before now place gone)) ∙ over)
    ];
  };
  story = gone.story;
}

-- it ends where no step is left, or where every hart has stopped
pub no_step_left : (seed : ℕ) (before now : Story) (place : ℕ) → GoesDrawn seed before now place →
    place ≡ left_of before → MakesDrawn seed before now
no_step_left seed before now place gone full = all_made seed before now place gone (omega (arith, full)) (inl full)

pub all_stopped : (seed : ℕ) (before now : Story) (place steps : ℕ) → GoesDrawn seed before now place →
    steps ≡ left_of before → place < steps → is_over (state_of now) ≡ true → MakesDrawn seed before now
all_stopped seed before now place steps gone all within over =
    all_made seed before now place gone (omega (arith, all, within)) (inr over)
