-- a cache after a run: it is well formed, and its bits are as they were
use Rattle.std.proofs.Common.{◌≡◌, ◌≢◌, ◌∙◌, ℕ, List, Option, None, Some, ap, refl, sym, subst}
use Rattle.residency.specs.Cache.{has_marks}
use Rattle.cache_sets.specs.Cached.{Cached}
use Rattle.residency.specs.Residency.{Way}
use Rattle.residency.specs.WellFormed.{IsWellFormed}
use Rattle.residency.proofs.Laws.MarkLemmas.{has_marks-lettered, has_marks-touched}
use Rattle.residency.proofs.Laws.WellFormedLemmas.{well_formed-lettered, well_formed-touched}
use Rattle.el_base.specs.declared.outcomes.Need.{Need}
use Rattle.el_base.specs.declared.outcomes.Need.TheVariants.{Read, Write}
use Rattle.el_model.specs.Plain.{after_access, after_touch}
use Rattle.el_model.specs.Upcoming.{Touch, touch_of}
use Rattle.moesi.specs.declared.letter.Letter.TheVariants.{I, M}
use Rattle.rv_alu.specs.Execution.{Store}
use Rattle.rv_alu.specs.Footprint.{footprint}
use Rattle.rv_alu.specs.declared.action.Action.{Action}
use Rattle.cached_step.specs.CacheRun.{HasRun}
use Rattle.cached_step.specs.Laws.{StaysInForm}

not_absent : M ≢ I
not_absent same = cc

well_formed-access : (ways : ℕ) (cache : List (List Way)) (line : ℕ) (need : Need) → IsWellFormed ways cache →
    IsWellFormed ways (after_access cache line need)
well_formed-access ways cache line Read well = well_formed-touched ways cache line well
well_formed-access ways cache line Write well =
    well_formed-lettered ways _ line M not_absent (well_formed-touched ways cache line well)

well_formed-touch : (ways : ℕ) (cache : List (List Way)) (touch : Option Touch) → IsWellFormed ways cache →
    IsWellFormed ways (after_touch cache touch)
well_formed-touch ways cache None well = well
well_formed-touch ways cache (Some touch) well = well_formed-access ways cache touch.line touch.need well

marks-access : (ways : ℕ) (cache : List (List Way)) (line : ℕ) (need : Need) → IsWellFormed ways cache →
    has_marks (after_access cache line need) ≡ has_marks cache
marks-access ways cache line Read well = has_marks-touched ways cache line well
marks-access ways cache line Write well =
    has_marks-lettered ways _ line M (well_formed-touched ways cache line well) ∙ has_marks-touched ways cache line well

marks-touch : (ways : ℕ) (cache : List (List Way)) (touch : Option Touch) → IsWellFormed ways cache →
    has_marks (after_touch cache touch) ≡ has_marks cache
marks-touch ways cache None well = refl
marks-touch ways cache (Some touch) well = marks-access ways cache touch.line touch.need well

pub stays_in_form : (old new : Cached) (action : Action) (store : Option Store) → IsWellFormed old.ways old.residency →
    HasRun old new action store → StaysInForm old new
stays_in_form old new action store well run = record {
  well_formed =
      subst (λ ways. IsWellFormed ways new.residency) (sym run.ways)
      (subst (λ cache. IsWellFormed old.ways cache) (sym run.residency)
      (well_formed-touch old.ways old.residency (touch_of (footprint action)) well));
  marks = ap has_marks run.residency ∙ marks-touch old.ways old.residency (touch_of (footprint action)) well;
}
