-- a live section survives every event of other harts, and shows the same after them
use Rattle.std.proofs.Common.{◌≡◌, ◌≢◌, ◌∙◌, ℕ, true, List, [], ◌∷◌, ◌++◌, None, Some, is_some, refl, ap, sym, subst}
use Rattle.std.proofs.Common.{inl, inr, ◌⊎◌}
use Rattle.el_base.specs.declared.config.Config.{Config}
use Rattle.el_base.specs.declared.events.Event.{Event}
use Rattle.el_base.proofs.Laws.Cases.{not_both}
use Rattle.elf_image.specs.Program.{Program}
use Rattle.el_model.specs.Next.{after, kind_turn, next, state_after}
use Rattle.el_model.specs.State.{ModelState, Section, armed_of, begin, cache_of, hart_of, section_of}
use Rattle.rv_flat.specs.Memory.{AreBytes}
use Rattle.section_laws.proofs.Laws.Numbered.{one_ordered_request_each}
use Rattle.section_laws.proofs.Laws.OnceEach.{no_set_has_a_line_twice}
use Rattle.section_laws.proofs.Laws.Waiting.{always_settled, live_unarmed, rested_in}
use Rattle.run_laws.proofs.Beside.{beside_twice, same_beside}
use Rattle.run_laws.proofs.Laws.Bits.{KeepsBits, same_bits}
use Rattle.run_laws.proofs.Laws.Kept.{IsKept, other_kept}
use Rattle.run_laws.proofs.Laws.Reachable.{live_sections_run_covered, other_harts_change_nothing_covered}
use Rattle.run_laws.proofs.Laws.Reached.{state_after-last}
use Rattle.run_laws.proofs.Laws.Survival.{survives}
use Rattle.run_laws.specs.Laws.{AreOfOthers, OtherHartsChangeNothingShown, SectionsSurviveOtherHarts}
use Rattle.run_laws.specs.PrivateRun.{IsChangeBeside}

-- since a state a hart's section is as it was, has kept its bits, and what is committed has
-- changed beside it; or it has ended
record Since (old new : ModelState) (h : ℕ) : Type 0 where
  same : section_of new h ≡ section_of old h
  keeps : KeepsBits (cache_of old h) (cache_of new h)
  change : IsChangeBeside h (cache_of old h) old.committed new.committed

abbrev EndedOrSince : ModelState → ℕ → ModelState → Type 0
EndedOrSince old h new = (section_of new h ≡ None) ⊎ Since old new h

since_more : (old state new : ModelState) (h : ℕ) → IsKept state h (hart_of new h) →
    IsChangeBeside h (cache_of state h) state.committed new.committed → Since old state h → EndedOrSince old h new
since_more old state new h (inl ended) change since = inl ended
since_more old state new h (inr (same, keeps)) change since =
    inr (record {
      same = same ∙ since.same;
      keeps = λ line need bit. keeps line need (since.keeps line need bit);
      change =
          beside_twice h (cache_of old h) (cache_of state h) old.committed state.committed new.committed since.keeps
          since.change change;
    })

ended_more : (old state new : ModelState) (h : ℕ) → IsKept state h (hart_of new h) → section_of state h ≡ None →
    EndedOrSince old h new
ended_more old state new h (inl ended) none = inl ended
ended_more old state new h (inr (same, keeps)) none = inl (same ∙ none)

-- of a section that was live
module _ (program : Program) (config : Config) (bytes : AreBytes program.bytes) (old : ModelState) (h : ℕ)
    (section : Section)
    (was_live : section_of old h ≡ Some section) where
  -- while it lives its hart is not armed
  unarmed_since : {X : Type 0} (done : List Event) → Since old (after program config done) h →
      is_some (armed_of (after program config done) h) ≡ true → X
  unarmed_since done since armed =
      let state = after program config done in
      not_both armed
      (ap is_some
      (live_unarmed state h section (rested_in state (always_settled program config done)) (since.same ∙ was_live)))

  since_event : (done : List Event) (event : Event) → event.hart.number ≢ h →
      EndedOrSince old h (after program config done) → EndedOrSince old h (next (after program config done) event).state
  unfolding next
  since_event done event apart now = by now
    where
      kept : IsKept (after program config done) h
          (hart_of (kind_turn (after program config done) event.hart.number event.kind).state h)
      kept =
          other_kept (after program config done) event.hart.number h event.kind (λ same. apart (sym same))
          (rested_in (after program config done) (always_settled program config done))
          (one_ordered_request_each program config done)
          (no_set_has_a_line_twice program config done)

      by : EndedOrSince old h (after program config done) →
          EndedOrSince old h (kind_turn (after program config done) event.hart.number event.kind).state
      by (inl ended) =
          ended_more old (after program config done)
          (kind_turn (after program config done) event.hart.number event.kind).state h kept ended
      by (inr since) =
          since_more old (after program config done)
          (kind_turn (after program config done) event.hart.number event.kind).state h kept
          (other_harts_change_nothing_covered program config done event h bytes apart
          (λ armed. unarmed_since done since armed)) since

  since_events : (done others : List Event) → AreOfOthers h others → EndedOrSince old h (after program config done) →
      EndedOrSince old h (state_after (after program config done) others)
  since_events done [] apart now = now
  since_events done (event ∷ others) (apart, rest) now =
      let last = state_after-last (begin program config) done event in
      subst (λ state. EndedOrSince old h (state_after state others)) last
      (since_events (done ++ event ∷ []) others rest
      (subst (EndedOrSince old h) (sym last) (since_event done event apart now)))

still_live : (old new : ModelState) (h : ℕ) → EndedOrSince old h new →
    is_some (section_of new h) ≡ true → Since old new h
still_live old new h (inl ended) live = not_both live (ap is_some ended)
still_live old new h (inr since) live = since

pub sections_survive_other_harts : SectionsSurviveOtherHarts
sections_survive_other_harts program config events others h section bytes apart live lives =
    let old = after program config events in
    let new = state_after old others in
    let first : EndedOrSince old h old = inr (record {
      same = refl;
      keeps = same_bits (cache_of old h);
      change = same_beside h (cache_of old h) old.committed;
    }) in
    let since =
    still_live old new h (since_events program config bytes old h section live events others apart first) lives in
    record {
      same = since.same ∙ live;
      shows =
          (survives h (cache_of old h) section old.committed new.committed
          (live_sections_run_covered program config events h section bytes live) since.change).1;
    }

pub other_harts_change_nothing_shown : OtherHartsChangeNothingShown
other_harts_change_nothing_shown program config events event h section bytes apart live lives =
    sections_survive_other_harts program config events (event ∷ []) h section bytes (apart, tt) live lives
