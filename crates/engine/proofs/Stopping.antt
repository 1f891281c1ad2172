-- whether every hart has stopped, one hart after another
use Rattle.std.proofs.Common.{◌≡◌, ◌≢◌, ℕ, ◌+◌, ◌<◌, Bool, List, true, false, ◌&&◌, length, take, refl, ◌∙◌, ap, sym}
use Rattle.std.specs.List.{list_all}
use Rattle.std.proofs.lemmas.List.Folds.{list_all-map, list_all_at, list_all_more}
use Rattle.el_model.specs.Next.{all_stopped, has_stopped}
use Rattle.engine.specs.Parts.{committed_at, own_at}
use Rattle.engine.specs.Views.{committed_views}
use Rattle.hart_state.specs.Own.{OwnState, new_own}
use Rattle.reg_mark.specs.Marks.{committed_of}
use Rattle.rv_alu.specs.declared.view.HartStatus.{HartStatus}
use Rattle.rv_alu.specs.declared.view.HartStatus.TheVariants.{Running, Exited, Trapped}
use Rattle.rv_alu.specs.declared.view.HartView.{HartView}
use Rattle.rv_flat.specs.FlatState.{no_hart}

not_running : (status : HartStatus) → status ≢ Running → has_stopped status ≡ true
not_running Running other = absurd (other refl)
not_running (Exited code) other = refl
not_running (Trapped cause pc) other = refl

-- a view has stopped, and what a hart keeps tells of it
abbrev stopped_view : HartView → Bool
stopped_view view = has_stopped view.status

abbrev stopped_own : OwnState → Bool
stopped_own own = has_stopped (committed_of own.section.marks).status

of_harts : (harts : List OwnState) → all_stopped (committed_views harts) ≡ list_all stopped_own harts
of_harts harts = list_all-map stopped_view (λ own. committed_of own.section.marks) harts

pub one_runs : (harts : List OwnState) (hart : ℕ) → hart < length harts → (committed_at harts hart).status ≡ Running →
    all_stopped (committed_views harts) ≡ false
one_runs harts hart within running =
    of_harts harts ∙ list_all_at stopped_own harts hart (new_own no_hart 0 0) within (ap has_stopped running)

pub one_more_stopped : (harts : List OwnState) (hart : ℕ) → hart < length harts →
    all_stopped (committed_views (take hart harts)) ≡ true → (committed_at harts hart).status ≢ Running →
    all_stopped (committed_views (take (hart + 1) harts)) ≡ true
one_more_stopped harts hart within before stopped =
    of_harts (take (hart + 1) harts) ∙ list_all_more stopped_own harts hart (new_own no_hart 0 0) within
    ∙ ap (λ test. test && stopped_own (own_at harts hart)) (sym (of_harts (take hart harts)) ∙ before)
    ∙ not_running (committed_at harts hart).status stopped
