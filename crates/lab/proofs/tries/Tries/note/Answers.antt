-- an event that begins a section
use Rattle.std.proofs.Common.{◌∙◌, ap, inl, inr, refl, slice_index, sym}
use Rattle.el_base.specs.declared.outcomes.Outcome.TheVariants.{Began}
use Rattle.lab.proofs.Noting.{noted_nothing, noted_still}
use Rattle.lab.proofs.tries.Tries.note.Goals as goal
use Rattle.lab.specs.Tries.{noted}
use Rattle.machine.specs.Story.{state_of}

pub returns-in_ok-begin-in-Began : goal.returns-in_ok-begin-in-Began
returns-in_ok-begin-in-Began c =
    c.in_ok-begin-in-Began.ensures
    ∙ noted_still
    (record {
      place = c.args.place;
      ran = slice_index c.args.ran.now;
      event = c.args.event;
      outcome = Began;
      after = state_of c.args.machine.now;
    })
    (λ h. refl) c.args.self.now (λ h. refl)
    ∙ ap (λ outcome. noted
    (record {
      place = c.args.place;
      ran = slice_index c.args.ran.now;
      event = c.args.event;
      outcome = outcome;
      after = state_of c.args.machine.now;
    })
    c.args.self.now) (sym c.in-Began.is)

pub returns-in-Idle : goal.returns-in-Idle
returns-in-Idle c =
    let nothing =
    noted_nothing c.args.place (slice_index c.args.ran.now) c.args.event
    (state_of c.args.machine.now) c.args.self.now
    c.args.outcome in
    elim c.in-Idle.is [
      | inl e ↦ nothing _ e (λ h. refl) (λ h. refl) (λ begun. refl)
      | inr (inl e) ↦ nothing _ e (λ h. refl) (λ h. refl) (λ begun. refl)
      | inr (inr (inl (line, need, e))) ↦ nothing _ e (λ h. refl) (λ h. refl) (λ begun. refl)
      | inr (inr (inr (inl e))) ↦ nothing _ e (λ h. refl) (λ h. refl) (λ begun. refl)
      | inr (inr (inr (inr (inl e)))) ↦ nothing _ e (λ h. refl) (λ h. refl) (λ begun. refl)
      | inr (inr (inr (inr (inr (inl (why, by, e)))))) ↦ nothing _ e (λ h. refl) (λ h. refl) (λ begun. refl)
      | inr (inr (inr (inr (inr (inr (inl e)))))) ↦ nothing _ e (λ h. refl) (λ h. refl) (λ begun. refl)
      | inr (inr (inr (inr (inr (inr (inr (count, e))))))) ↦ nothing _ e (λ h. refl) (λ h. refl) (λ begun. refl)
    ]
