-- a hart's steps stop and start no other hart, nor do those of the harts that are let go
use Rattle.std.proofs.Common.{◌≡◌, ◌≢◌, ◌∙◌, ◌+◌, ◌⊎◌, ℕ, zero, suc, Bool, true, false, replicate, refl, ap, sym, inl}
use Rattle.std.proofs.Common.{inr, arith, if◌then◌else◌}
use Rattle.std.specs.Prelude.{nat_lt}
use Rattle.std.proofs.lemmas.Bool.{cases_eq, ltb-true, ltb-false}
use Rattle.bus_order.specs.Order.{Request}
use Rattle.el_base.proofs.Laws.FreedOrder.{order_below-more}
use Rattle.el_base.proofs.Laws.MadeLosers.{count_in-beyond, count_in-freed_of}
use Rattle.el_base.specs.Freed.{count_in, order_below, order_of}
use Rattle.el_base.specs.declared.freed.Freed.{Freed}
use Rattle.el_model.specs.Armed.{freed_by, freed_count, is_freed, let_go}
use Rattle.el_model.specs.Plain.{armed_count}
use Rattle.el_model.specs.State.{ModelState, hart_of}
use Rattle.rv_flat.specs.FlatState.{FlatState, status_of, view_of}
use Rattle.rv_flat.specs.Laws.{footprint_of}
use Rattle.rv_flat.specs.Run.{alone, run}
use Rattle.rv_flat.specs.Step.{flat}
use Rattle.rv_flat.proofs.Laws.StepLaws.{keeps_others, run_append}
use Rattle.rv_flat.proofs.Laws.RunsAfter.{seen_after-status}

pub flat_status : (state : FlatState) (h g : ℕ) → g ≢ h → status_of (flat state h) g ≡ status_of state g
flat_status state h g apart =
    ap (λ view. view.status) (keeps_others state h g apart) ∙ seen_after-status (footprint_of state h) (view_of state g)

pub alone_status : (state : FlatState) (h g count : ℕ) → g ≢ h → status_of (alone state h count) g ≡ status_of state g
alone_status state h g zero apart = refl
alone_status state h g (suc count) apart = alone_status (flat state h) h g count apart ∙ flat_status state h g apart

-- harts that are let go, of which this one is none
others_status : (state : FlatState) (freed : Freed) (g n : ℕ) → count_in freed g ≡ 0 →
    status_of (run state (order_below n freed)) g ≡ status_of state g
others_status state freed g zero none = refl
others_status state freed g (suc n) none =
    let first = run state (order_below n freed) in
    let next : suc n ≡ n + 1 = omega arith in
    ap (λ m. status_of (run state (order_below m freed)) g) next
    ∙ ap (λ harts. status_of (run state harts) g) (order_below-more n freed)
    ∙ ap (λ flat. status_of flat g) (run_append state (order_below n freed) (replicate (count_in freed n) n))
    ∙ by (cases_eq g n)
    ∙ others_status state freed g n none
  where
    by : (g ≡ n) ⊎ (g ≡ n → ⊥) →
        status_of (alone (run state (order_below n freed)) n (count_in freed n)) g
        ≡ status_of (run state (order_below n freed)) g
    by (inl same) =
        ap (λ count. status_of (alone (run state (order_below n freed)) n count) g)
        (ap (count_in freed) (sym same) ∙ none)
    by (inr apart) = alone_status (run state (order_below n freed)) n g (count_in freed n) apart

pub freed_status : (state : FlatState) (freed : Freed) (g : ℕ) → count_in freed g ≡ 0 →
    status_of (run state (order_of freed)) g ≡ status_of state g
unfolding order_of
freed_status state freed g none = others_status state freed g 8 none

-- a hart that a head does not let go
pub unfreed_count : (state : ModelState) (head : Request) (g : ℕ) → is_freed head g (hart_of state g) ≡ false →
    count_in (freed_by state head) g ≡ 0
unfreed_count state head g unfreed = by (nat_lt g 8) refl
  where
    none : freed_count head g (hart_of state g) ≡ 0
    none = ap (λ test. if test then armed_count (hart_of state g).armed else 0) unfreed

    by : (below : Bool) → nat_lt g 8 ≡ below → count_in (freed_by state head) g ≡ 0
    by true is =
        count_in-freed_of (λ h. freed_count head h (hart_of state h)) g (ltb-true g 8 is) (rw none (omega arith)) ∙ none
    by false is = count_in-beyond (freed_by state head) g (ltb-false g 8 is)

pub let_go_status : (state : ModelState) (head : Request) (g : ℕ) → is_freed head g (hart_of state g) ≡ false →
    status_of (let_go state head).committed g ≡ status_of state.committed g
unfolding let_go
let_go_status state head g unfreed =
    freed_status state.committed (freed_by state head) g (unfreed_count state head g unfreed)
