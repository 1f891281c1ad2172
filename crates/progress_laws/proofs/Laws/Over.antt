-- a machine that is over gets on by no event, and one that is not has a hart that runs
use Rattle.std.proofs.Common.{◌≡◌, ◌↔◌, ◌≢◌, ◌∙◌, ℕ, zero, suc, ◌<◌, ◌≤◌, Bool, true, false, ◌&&◌, List, [], ◌∷◌, None}
use Rattle.std.proofs.Common.{length, refl, ap, sym, arith}
use Rattle.std.specs.Prelude.{slice_index_or}
use Rattle.el_base.specs.declared.events.Kind.{Kind}
use Rattle.el_base.specs.declared.events.Kind.TheVariants.{Step, Order, Serve, Deliver}
use Rattle.el_base.proofs.Laws.Cases.{true_false}
use Rattle.el_base.proofs.Laws.Tests.{first_of_both, second_of_both}
use Rattle.el_model.specs.Deliver.{deliver_next, deliver_turn}
use Rattle.el_model.specs.Next.{all_stopped, has_stopped, is_over, kind_turn, next, step_turn}
use Rattle.el_model.specs.Order.{order_raised, order_turn}
use Rattle.el_model.specs.Serve.{serve_ordered, serve_turn}
use Rattle.el_model.specs.State.{ModelState, hart_of}
use Rattle.progress_laws.proofs.Laws.GettingOn.{GetsOn, Orderly, stopped_step}
use Rattle.progress_laws.proofs.Ready.{gets_on_by_number, none_is_ready_where_none_gets_on, number_kept, of_kind}
use Rattle.progress_laws.specs.Ready.{gets_on, is_progress, ready_event}
use Rattle.rv_alu.specs.declared.view.HartStatus.{HartStatus}
use Rattle.rv_alu.specs.declared.view.HartStatus.TheVariants.{Exited, Running, Trapped}
use Rattle.rv_alu.specs.declared.view.HartView.{HartView}
use Rattle.rv_flat.specs.FlatState.{no_hart, status_of}
use Rattle.section_laws.proofs.Laws.Waiting.{Sound}

-- where all have stopped, no hart runs
stopped_not_running : (status : HartStatus) → has_stopped status ≡ true → status ≢ Running
stopped_not_running Running stopped is = true_false (sym stopped)
stopped_not_running (Exited code) stopped is = absurd (cc)
stopped_not_running (Trapped cause pc) stopped is = absurd (cc)

stopped_at : (views : List HartView) (h : ℕ) → all_stopped views ≡ true →
    has_stopped (slice_index_or views h no_hart).status ≡ true
stopped_at [] h all = refl
stopped_at (view ∷ views) zero all = first_of_both (has_stopped view.status) _ all
stopped_at (view ∷ views) (suc h) all = stopped_at views h (second_of_both (has_stopped view.status) _ all)

pub over_stopped : (state : ModelState) (h : ℕ) → is_over state ≡ true → status_of state.committed h ≢ Running
unfolding is_over
over_stopped state h over = stopped_not_running (status_of state.committed h) (stopped_at state.committed.harts h over)

-- where not all have, some hart runs
abbrev SomeRuns : List HartView → Type 0
SomeRuns views = (h : ℕ) × ((slice_index_or views h no_hart).status ≡ Running)

some_runs : (views : List HartView) → all_stopped views ≡ false → SomeRuns views
some_runs [] not_all = true_false not_all
some_runs (view ∷ views) not_all = by view.status refl not_all (some_runs views)
  where
    behind : SomeRuns views → SomeRuns (view ∷ views)
    behind (h, running) = (suc h, running)

    by : (status : HartStatus) → view.status ≡ status → (has_stopped status && all_stopped views) ≡ false →
        (all_stopped views ≡ false → SomeRuns views) → SomeRuns (view ∷ views)
    by Running is rest others = (0, is)
    by (Exited code) is rest others = behind (others rest)
    by (Trapped cause pc) is rest others = behind (others rest)

pub runs_unless_over : (state : ModelState) → is_over state ≡ false → (h : ℕ) × (status_of state.committed h ≡ Running)
unfolding is_over
runs_unless_over state going = some_runs state.committed.harts going

-- a hart that has stopped, with an empty mailbox, gets on by no event
stopped_rests : (state : ModelState) (h : ℕ) (kind : Kind) → Sound state → status_of state.committed h ≢ Running →
    (hart_of state h).mail ≡ [] → is_progress (kind_turn state h kind).outcome ≡ false
unfolding step_turn order_turn serve_turn deliver_turn
stopped_rests state h Step sound stopped mail = stopped_step state h (status_of state.committed h) stopped
stopped_rests state h Order sound stopped mail =
    ap (λ raised. is_progress (order_raised state raised).outcome) ((sound h).stopped stopped).not_raised
stopped_rests state h Serve sound stopped mail =
    ap (λ ordered. is_progress (serve_ordered state ordered).outcome) ((sound h).stopped stopped).not_ordered
stopped_rests state h Deliver sound stopped mail = ap (λ box. is_progress (deliver_next state h box).outcome) mail

pub none_ready_where_over : (state : ModelState) → Sound state → length state.harts ≤ 8 → is_over state ≡ true →
    ((h : ℕ) → (hart_of state h).mail ≡ []) → ready_event state ≡ None
none_ready_where_over state sound few over empty =
    (none_is_ready_where_none_gets_on state few).1
    (λ event exists.
    let h = event.hart.number in
    gets_on_by_number state event ∙ stopped_rests state h event.kind sound (over_stopped state h over) (empty h))

-- where some event gets on, one is ready
of_kind_gets_on : (state : ModelState) (h : ℕ) (kind : Kind) → h < 8 →
    gets_on state (of_kind h kind) ≡ is_progress (kind_turn state h kind).outcome
unfolding next
of_kind_gets_on state h kind small =
    ap (λ number. is_progress (kind_turn state number kind).outcome) (number_kept h small)

pub ready_where_gets_on : (state : ModelState) → length state.harts ≤ 8 → GetsOn state → ready_event state ≢ None
ready_where_gets_on state few on none =
    let exists = on.exists in
    let small : on.hart < 8 = omega (arith, exists, few) in
    let rests =
    (none_is_ready_where_none_gets_on state few).0 none (of_kind on.hart on.kind)
    (rw (number_kept on.hart small) exists) in
    true_false (sym on.progress ∙ sym (of_kind_gets_on state on.hart on.kind small) ∙ rests)

-- so where a hart that runs is enough to get on, none is ready exactly where the machine is over
pub none_ready_over : (state : ModelState) → length state.harts ≤ 8 →
    ((h : ℕ) → status_of state.committed h ≡ Running → GetsOn state) → ready_event state ≡ None → is_over state ≡ true
none_ready_over state few on none = by (is_over state) refl
  where
    by : (over : Bool) → is_over state ≡ over → over ≡ true
    by true is = refl
    by false is =
        let runs = runs_unless_over state is in
        absurd (ready_where_gets_on state few (on runs.0 runs.1) none)

pub not_stuck : (state : ModelState) → Orderly state → length state.harts ≤ 8 →
    ((h : ℕ) → status_of state.committed h ≡ Running → GetsOn state) →
    (is_over state ≡ true → (h : ℕ) → (hart_of state h).mail ≡ []) → (ready_event state ≡ None) ↔ (is_over state ≡ true)
not_stuck state orderly few on empty =
    (none_ready_over state few on, λ over. none_ready_where_over state orderly.sound few over (empty over))
