-- a section that begins has a covered run, and one more instruction of a section is covered too; so of an armed section
use Rattle.std.proofs.Common.{◌≡◌, ◌∙◌, ◌≤◌, ◌<◌, ◌+◌, ℕ, zero, suc, true, false, List, Option, None, Some, is_some}
use Rattle.std.proofs.Common.{refl, ap, sym, subst, inl, inr, ◌⊎◌, arith}
use Rattle.std.proofs.lemmas.Bool.{cases_eq, or_left}
use Rattle.residency.specs.Cache.{bit_in, letter_in, marked, read_bit, touched, way_of, write_bit}
use Rattle.residency.specs.Residency.{Way}
use Rattle.el_base.specs.Line.{line_number}
use Rattle.el_base.specs.declared.outcomes.Need.{Need}
use Rattle.el_base.specs.declared.outcomes.Need.TheVariants.{Read, Write}
use Rattle.el_base.proofs.Laws.Tests.{first_of_both, second_not, unrefused}
use Rattle.el_model.specs.Armed.{is_quiet}
use Rattle.el_model.specs.Deed.{IsCoverable, MayArm, MayBegin, MayBuffer, MayContinue, MayElide, permits}
use Rattle.el_model.specs.InSection.{covered, is_covered}
use Rattle.el_model.specs.Plain.{armed_count}
use Rattle.el_model.specs.State.{Armed, ModelState, Section, armed_of, cache_of}
use Rattle.el_model.specs.Upcoming.{Swap, Touch, calls, calls_or_stops, next_conditional, next_execution, stops}
use Rattle.moesi.specs.Letters.{may_of, may_read}
use Rattle.rv_alu.specs.Action.{action_at}
use Rattle.rv_alu.specs.Execution.{executed, perform, view_after}
use Rattle.rv_alu.specs.declared.action.Action.{Action}
use Rattle.rv_alu.specs.declared.action.Action.TheVariants as actions
use Rattle.rv_alu.specs.declared.span.Span.{Span}
use Rattle.rv_alu.specs.declared.view.HartStatus.TheVariants.{Running}
use Rattle.rv_alu.specs.declared.view.HartView.{HartView}
use Rattle.rv_flat.proofs.Laws.RunsAfter.{runs-exists}
use Rattle.rv_flat.proofs.Laws.StepLaws.{own_view}
use Rattle.rv_flat.specs.FlatState.{FlatState, status_of, view_of}
use Rattle.rv_flat.specs.Laws.{next_insn}
use Rattle.rv_flat.specs.Run.{alone}
use Rattle.rv_flat.specs.Step.{flat}
use Rattle.run_laws.proofs.Laws.Bits.{KeepsBits, acquire_kept, bits_covered, bits_marked, bits_touched, bits_twice}
use Rattle.run_laws.proofs.Laws.Bits.{covered_kept, marked_has_bit, step_kept}
use Rattle.run_laws.proofs.Laws.Alike.{alone_more}
use Rattle.run_laws.proofs.Laws.Reserving.{acquires_at, quiet_of, reserves}
use Rattle.run_laws.specs.PrivateRun.{HasItsBit, IsAcquire, IsArmedRun, IsCoveredRun, IsCoveredStep}
use Rattle.section_laws.proofs.Laws.ArmedBits.{completing}
use Rattle.section_laws.proofs.Laws.Bits.{read_bit_marked}

-- an instruction that does not stop its hart leaves it as it was in this
perform_status : (action : Action) (view : HartView) (byte : ℕ → ℕ) → stops (perform action view byte) ≡ false →
    (view_after (perform action view byte) view).status ≡ view.status
perform_status (actions.Trap cause) view byte is = absurd (cc)
perform_status (actions.Exit code) view byte is = absurd (cc)
perform_status _ view byte is = refl

executed_status : (word : Option ℕ) (view : HartView) (span : Span) (room : ℕ) (byte : ℕ → ℕ) →
    stops (executed word view span room byte) ≡ false →
    (view_after (executed word view span room byte) view).status ≡ view.status
unfolding executed
executed_status word view span room byte is = perform_status (action_at word view span room) view byte is

goes_on_running : (state : FlatState) (h : ℕ) → status_of state h ≡ Running → stops (next_execution state h) ≡ false →
    status_of (flat state h) h ≡ Running
goes_on_running state h runs is =
    ap (λ view. view.status) (own_view state h (runs-exists state h runs) runs)
    ∙ executed_status _ (view_of state h) _ _ _ is ∙ runs

resident_way : (way : Option Way) (need : Need) → may_of (letter_in way) need ≡ true → is_some way ≡ true
resident_way None Read may = absurd (cc)
resident_way None Write may = absurd (cc)
resident_way (Some way) need may = refl

-- a hart still runs after one more instruction that neither calls nor stops it
one_more_runs : (committed : FlatState) (h count : ℕ) →
    ((n : ℕ) → n ≤ count → status_of (alone committed h n) h ≡ Running) →
    calls_or_stops (alone committed h count) h ≡ false → (n : ℕ) → n ≤ count + 1 →
    status_of (alone committed h n) h ≡ Running
one_more_runs committed h count running goes_on n within = by (cases_eq n (count + 1))
  where
    by : (n ≡ count + 1) ⊎ (n ≡ count + 1 → ⊥) → status_of (alone committed h n) h ≡ Running
    by (inl last) =
        ap (λ m. status_of (alone committed h m) h) last ∙ ap (λ state. status_of state h)
        (alone_more committed h count)
        ∙ goes_on_running (alone committed h count) h (running count (omega arith))
        (second_not (calls (next_insn (alone committed h count) h)) _ goes_on)
    by (inr before) = running n (omega (arith, within))

-- the bits as the line of a word gets the read bit
keeps_marked : (cache : List (List Way)) (line : ℕ) → KeepsBits cache (touched (marked cache line Read) line)
keeps_marked cache line l =
    bits_twice cache (marked cache line Read) _ l (bits_marked cache line Read l)
    (bits_touched (marked cache line Read) line l)

-- a section that begins
begun : (committed : FlatState) (h : ℕ) (cache : List (List Way)) (before : ℕ) (swap : Swap) →
    IsAcquire committed h cache before swap →
    read_bit (touched (marked cache (line_number swap.word) Read) (line_number swap.word)) (line_number swap.word)
    ≡ true → ((n : ℕ) → n ≤ before → status_of (alone committed h n) h ≡ Running) →
    IsCoveredRun committed h (touched (marked cache (line_number swap.word) Read) (line_number swap.word))
    (record { count = suc before; word = swap.word; old = swap.old; new = swap.new })
begun committed h cache before swap is read running = record {
  before = before;
  some = omega arith;
  acquire = acquire_kept committed h cache _ before swap (keeps_marked cache (line_number swap.word)) is;
  read = read;
  running = λ n within.
      one_more_runs committed h before running (acquires_at committed h cache before swap is).stores.goes_on n
      (omega (arith, within));
  inside = λ n past less. absurd (omega (arith, past, less));
}

pub begun_run : (state : ModelState) (h : ℕ) (swap : Swap) → MayBegin state h swap →
    IsCoveredRun state.committed h
    (touched (marked (cache_of state h) (line_number swap.word) Read) (line_number swap.word))
    (record { count = suc (armed_count (armed_of state h)); word = swap.word; old = swap.old; new = swap.new })
begun_run state h swap may =
    subst
    (λ armed.
    IsCoveredRun state.committed h
    (touched (marked (cache_of state h) (line_number swap.word) Read) (line_number swap.word))
    (record { count = suc (armed_count armed); word = swap.word; old = swap.old; new = swap.new }))
    (sym may.outside.unarmed)
    (begun state.committed h (cache_of state h) 0 swap may.elidable.next
    (read_bit_marked (cache_of state h) (line_number swap.word) may.readable)
    (λ n within. let none : n ≡ 0 = omega (arith, within) in rw none may.outside.running))

-- at the SC of an armed section
acquire_armed : (committed : FlatState) (h : ℕ) (cache : List (List Way)) (armed : Armed) (swap : Swap) →
    IsArmedRun committed h cache armed → swap.word ≡ armed.word →
    next_conditional (alone committed h armed.count) h ≡ Some swap → IsAcquire committed h cache armed.count swap
acquire_armed committed h cache armed swap run same next = by armed.count refl next
  where
    renamed : (n : ℕ) → armed.count ≡ suc n → IsArmedRun committed h cache (record { count = suc n; word = swap.word })
    renamed n is =
        subst (λ count. IsArmedRun committed h cache (record { count = count; word = swap.word })) is
        (subst (λ word. IsArmedRun committed h cache (record { count = armed.count; word = word })) (sym same) run)

    by : (count : ℕ) → armed.count ≡ count → next_conditional (alone committed h count) h ≡ Some swap →
        IsAcquire committed h cache count swap
    by zero is next = let some = run.some in absurd (omega (arith, is, some))
    by (suc n) is next = (renamed n is, next)

pub elided_run : (state : ModelState) (h : ℕ) (armed : Armed) (swap : Swap) → MayElide state h armed swap →
    IsArmedRun state.committed h (cache_of state h) armed →
    IsCoveredRun state.committed h
    (touched (marked (cache_of state h) (line_number swap.word) Read) (line_number swap.word))
    (record { count = suc (armed_count (armed_of state h)); word = swap.word; old = swap.old; new = swap.new })
elided_run state h armed swap may run =
    let same = (completing state h armed swap may.completing).same in
    subst
    (λ found.
    IsCoveredRun state.committed h
    (touched (marked (cache_of state h) (line_number swap.word) Read) (line_number swap.word))
    (record { count = suc (armed_count found); word = swap.word; old = swap.old; new = swap.new }))
    (sym may.is_armed.armed_is)
    (begun state.committed h (cache_of state h) armed.count swap
    (acquire_armed state.committed h (cache_of state h) armed swap run same may.next)
    (keeps_marked (cache_of state h) (line_number swap.word) (line_number swap.word) Read
    (ap (λ word. read_bit (cache_of state h) (line_number word)) same ∙ run.read))
    run.running)

-- an armed section that begins, and one more instruction of it
pub arming_run : (state : ModelState) (h word : ℕ) → MayArm state h word →
    IsArmedRun state.committed h (touched (marked (cache_of state h) (line_number word) Read) (line_number word))
    (record { count = 1; word = word })
arming_run state h word may = record {
  some = omega arith;
  reserve = may.reserving.next;
  read =
      read_bit_marked (cache_of state h) (line_number word)
      (first_of_both (may_read (letter_in (way_of (cache_of state h) (line_number word)))) _ may.may_open);
  running = λ n within.
      one_more_runs state.committed h 0
      (λ n none. let zero_is : n ≡ 0 = omega (arith, none) in rw zero_is may.outside.running)
      (reserves state.committed h word may.reserving.next).goes_on n (omega (arith, within));
  quiet = λ n some less. absurd (omega (arith, some, less));
}

pub continued_run : (state : ModelState) (h : ℕ) (armed : Armed) → MayContinue state h armed →
    IsArmedRun state.committed h (cache_of state h) armed →
    IsArmedRun state.committed h (cache_of state h) (record armed { count = suc armed.count })
continued_run state h armed may run = record {
  some = omega arith;
  reserve = run.reserve;
  read = run.read;
  running = λ n within.
      one_more_runs state.committed h armed.count run.running
      (quiet_of (alone state.committed h armed.count) h may.quiet).goes_on n
      (omega (arith, within));
  quiet = λ n some less. quiet n some less (cases_eq n armed.count);
}
  where
    quiet : (n : ℕ) → 1 ≤ n → n < suc armed.count → (n ≡ armed.count) ⊎ (n ≡ armed.count → ⊥) →
        is_quiet (alone state.committed h n) h ≡ true
    quiet n some less (inl last) = rw last may.quiet
    quiet n some less (inr before) = run.quiet n some (omega (arith, less))

-- one more instruction
pub own_covered : (cache : List (List Way)) (line : ℕ) (need : Need) → bit_in need (way_of cache line) ≡ true →
    is_covered cache line need ≡ true
own_covered cache line Read bit = or_left (read_bit cache line) (write_bit cache line) bit
own_covered cache line Write bit = bit

now_covered : (state : ModelState) (h : ℕ) (section : Section) (touch : Option Touch) →
    IsCoverable state h section touch → HasItsBit (covered (cache_of state h) touch) touch
now_covered state h section None coverable = tt
now_covered state h section (Some touch) (inl has) =
    let cache = cache_of state h in
    covered_kept cache (covered cache (Some touch)) touch.line touch.need
    (bits_covered cache (Some touch) touch.line) has
now_covered state h section (Some touch) (inr (room, taken)) =
    let cache = cache_of state h in
    let permitted = unrefused (permits state h touch) _ taken in
    rw room.wants.uncovered
    (own_covered (touched (marked cache touch.line touch.need) touch.line) touch.line touch.need
    (bits_touched (marked cache touch.line touch.need) touch.line touch.line touch.need
    (marked_has_bit cache touch.line touch.need (resident_way (way_of cache touch.line) touch.need permitted))))

pub buffered_run : (state : ModelState) (h : ℕ) (section : Section) (touch : Option Touch) →
    MayBuffer state h section touch → IsCoveredRun state.committed h (cache_of state h) section →
    IsCoveredRun state.committed h (covered (cache_of state h) touch) (record section { count = section.count + 1 })
buffered_run state h section touch may run = record {
  before = run.before;
  some = let some = run.some in omega (arith, some);
  acquire =
      acquire_kept state.committed h (cache_of state h) _ run.before _
      (bits_covered (cache_of state h) touch) run.acquire;
  read = bits_covered (cache_of state h) touch (line_number section.word) Read run.read;
  running = one_more_runs state.committed h section.count run.running may.goes.goes_on.calls;
  inside = λ n past less. inside n past less (cases_eq n section.count);
}
  where
    inside : (n : ℕ) → run.before < n → n < section.count + 1 → (n ≡ section.count) ⊎ (n ≡ section.count → ⊥) →
        IsCoveredStep (alone state.committed h n) h section.word (covered (cache_of state h) touch)
    inside n past less (inl last) =
        rw last (record {
          goes_on = may.goes.goes_on.calls;
          unmixed = may.goes.mixes;
          bit = rw may.touches (now_covered state h section touch may.coverable);
        })
    inside n past less (inr before) =
        step_kept (alone state.committed h n) h section.word (cache_of state h) _
        (bits_covered (cache_of state h) touch)
        (run.inside n past (omega (arith, less)))
