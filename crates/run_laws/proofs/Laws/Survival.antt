-- a covered run survives a change beside its hart, and shows the same after it; so does the run of an armed section
use Rattle.std.proofs.Common.{◌≡◌, ◌≤◌, ◌<◌, ◌+◌, ◌∙◌, ◌&&◌, ◌||◌, ℕ, zero, suc, Bool, true, false, not, List, None}
use Rattle.std.proofs.Common.{Some, is_some, arith, refl, ap}
use Rattle.std.proofs.Common.{sym, subst, if◌then◌else◌}
use Rattle.std.specs.Prelude.{nat_lt}
use Rattle.std.proofs.lemmas.Bool.{ltb-false, ltb-true, or_left}
use Rattle.residency.specs.Cache.{has_bit, read_bit, write_bit}
use Rattle.residency.specs.Residency.{Way}
use Rattle.elf_image.specs.Program.{code_word}
use Rattle.el_base.specs.Line.{line_number}
use Rattle.el_base.proofs.Laws.Tests.{first_not, second_not}
use Rattle.el_model.specs.Armed.{is_quiet}
use Rattle.el_model.specs.State.{Armed, Section}
use Rattle.el_model.specs.Upcoming.{Swap, calls, calls_or_stops, is_load_reserved, is_store_conditional, is_swap}
use Rattle.el_model.specs.Upcoming.{next_access, next_conditional}
use Rattle.el_model.specs.Upcoming.{next_execution, next_reserved, next_store, next_swap, next_touch, overlaps, read_at}
use Rattle.el_model.specs.Upcoming.{stops, swap_of, touch_of}
use Rattle.rv_alu.proofs.Laws.Executions.{amo-reserved, executed-room, executed_agree, loaded-same, touched-room}
use Rattle.rv_alu.specs.Execution.{Execution, Goes, Stops, executed, store_in, touched, view_after}
use Rattle.rv_alu.specs.Footprint.{AgreeOn, IsNoCall}
use Rattle.rv_alu.specs.declared.footprint.Access.TheVariants.{Read}
use Rattle.rv_alu.specs.declared.view.HartStatus.TheVariants.{Running}
use Rattle.rv_alu.specs.declared.view.HartView.{HartView}
use Rattle.rv_flat.specs.FlatState.{FlatState, room_of, span_of, status_of, view_of}
use Rattle.rv_flat.specs.Laws.{next_insn}
use Rattle.rv_flat.specs.Memory.{byte_in}
use Rattle.rv_flat.specs.Run.{alone}
use Rattle.rv_flat.specs.Step.{flat}
use Rattle.rv_word.specs.Decoding.{decoded}
use Rattle.run_laws.proofs.Laws.Alike.{AlikeAt, DidAlike, SamePlaces, alike_more, alike_runs, alone_base, did_alike}
use Rattle.run_laws.proofs.Laws.Alike.{same_access, same_execution}
use Rattle.run_laws.proofs.Laws.Alike.{same_insn, same_span}
use Rattle.run_laws.proofs.Laws.Reserving.{Completes, IsReserve, Quiet, Reserves, completes_by, lr-reserved, quiet_of}
use Rattle.run_laws.proofs.Laws.Reserving.{reserve_insn, reserves}
use Rattle.run_laws.proofs.Laws.Touches.{IsOnBit, SameOnBits, agree_there, on_bit}
use Rattle.run_laws.proofs.Laws.WordStores.{Acquires, IsAtomic, acquires, swap_insn}
use Rattle.run_laws.specs.Laws.{ArmedRunsSurvive, CoveredRunsSurvive}
use Rattle.run_laws.specs.PrivateRun.{HasItsBit, IsAcquire, IsArmedRun, IsChangeBeside, IsCoveredRun, IsCoveredStep}
use Rattle.run_laws.specs.PrivateRun.{ShowsTheSame}

pub places_of : (h : ℕ) (cache : List (List Way)) (old new : FlatState) → IsChangeBeside h cache old new →
    SamePlaces old new
places_of h cache old new change = record { base = change.base; code = change.code; size = change.size }

-- the acquire does the same, whatever the hart had reserved
record SameAcquire (h : ℕ) (old new : FlatState) (swap : Swap) : Type 0 where
  execution : next_execution new h ≡ next_execution old h
  acquire : next_swap new h ≡ Some swap

same_acquire : (h : ℕ) (cache : List (List Way)) (old new : FlatState) (swap : Swap) → next_swap old h ≡ Some swap →
    read_bit cache (line_number swap.word) ≡ true → IsChangeBeside h cache old new → SameAcquire h old new swap
same_acquire h cache old new swap is read change = record { execution = execution; acquire = found }
  where
    places : SamePlaces old new
    places = places_of h cache old new change

    first : Acquires old h swap
    first = acquires old h swap is

    agree : AgreeOn (next_access old h) (byte_in new.base new.bytes) (byte_in old.base old.bytes)
    agree =
        agree_there old new h cache change.base change.bytes
        (rw first.stores.writes
        (or_left (read_bit cache (line_number swap.word)) (write_bit cache (line_number swap.word)) read))

    execution : next_execution new h ≡ next_execution old h
    execution =
        let view : HartView = view_of old h in
        let seen : HartView = record view { reserved = (view_of new h).reserved } in
        let byte : ℕ → ℕ = byte_in new.base new.bytes in
        let atomic : IsAtomic (code_word old.code view.pc) = swap_insn (code_word old.code view.pc) first.swaps in
        ap (λ view. executed (code_word new.code view.pc) view (span_of new) (room_of new) byte) change.view
        ∙ ap (λ code. executed (code_word code view.pc) seen (span_of new) (room_of new) byte) change.code
        ∙ ap (λ word. executed word seen (span_of new) (room_of new) byte) atomic.here
        ∙ ap (λ span. executed (Some atomic.word) seen span (room_of new) byte) (same_span old new places)
        ∙ executed-room (Some atomic.word) seen (span_of old) (room_of new) (room_of old) byte
        (subst IsNoCall (sym atomic.means) refl)
        ∙ (amo-reserved atomic.word atomic.op atomic.rd atomic.rs1 atomic.rs2 atomic.aq atomic.rl view
        (view_of new h).reserved (span_of old) (room_of old)
        swap.word 4 byte atomic.means (rw atomic.here at first.stores.writes)).1
        ∙ ap (λ word. executed word view (span_of old) (room_of old) byte) (sym atomic.here)
        ∙ executed_agree (code_word old.code view.pc) view (span_of old) (room_of old) byte
        (byte_in old.base old.bytes) agree

    found : next_swap new h ≡ Some swap
    found =
        ap (λ insn. if is_swap insn then swap_of new (next_store new h) else None)
        (same_insn old new h change.code (ap (λ view. view.pc) change.view))
        ∙ ap (λ swaps. if swaps then swap_of new (next_store new h) else None) first.swaps
        ∙ ap (λ execution. swap_of new (store_in execution)) execution ∙ ap (swap_of new) first.stores.stores
        ∙ ap (λ value. Some (record { word = swap.word; old = value; new = swap.new }))
        (loaded-same (byte_in new.base new.bytes) (byte_in old.base old.bytes) swap.word 4
        (λ k low high. (rw first.stores.writes at agree) k (low, high)) ∙ sym first.old)

-- so does the LR of an armed section
record SameReserve (h : ℕ) (old new : FlatState) (word : ℕ) : Type 0 where
  execution : next_execution new h ≡ next_execution old h
  reserve : next_reserved new h ≡ Some word

same_reserve : (h : ℕ) (cache : List (List Way)) (old new : FlatState) (word : ℕ) → next_reserved old h ≡ Some word →
    read_bit cache (line_number word) ≡ true → IsChangeBeside h cache old new → SameReserve h old new word
same_reserve h cache old new word is read change = record { execution = execution; reserve = found }
  where
    places : SamePlaces old new
    places = places_of h cache old new change

    first : Reserves old h word
    first = reserves old h word is

    lr : IsReserve (code_word old.code (view_of old h).pc)
    lr = reserve_insn (code_word old.code (view_of old h).pc) first.reserving

    agree : AgreeOn (next_access old h) (byte_in new.base new.bytes) (byte_in old.base old.bytes)
    agree =
        agree_there old new h cache change.base change.bytes
        (rw first.reads (or_left (read_bit cache (line_number word)) (write_bit cache (line_number word)) read))

    execution : next_execution new h ≡ next_execution old h
    execution =
        let view : HartView = view_of old h in
        let seen : HartView = record view { reserved = (view_of new h).reserved } in
        let byte : ℕ → ℕ = byte_in new.base new.bytes in
        ap (λ view. executed (code_word new.code view.pc) view (span_of new) (room_of new) byte) change.view
        ∙ ap (λ code. executed (code_word code view.pc) seen (span_of new) (room_of new) byte) change.code
        ∙ ap (λ word. executed word seen (span_of new) (room_of new) byte) lr.here
        ∙ ap (λ span. executed (Some lr.word) seen span (room_of new) byte) (same_span old new places)
        ∙ executed-room (Some lr.word) seen (span_of old) (room_of new) (room_of old) byte
        (subst IsNoCall (sym lr.means) refl)
        ∙ (lr-reserved lr.word lr.rd lr.rs1 lr.aq lr.rl view (view_of new h).reserved (span_of old) (room_of old)
        word 4 byte lr.means
        (rw lr.here at first.reads)).1
        ∙ ap (λ word. executed word view (span_of old) (room_of old) byte) (sym lr.here)
        ∙ executed_agree (code_word old.code view.pc) view (span_of old) (room_of old) byte
        (byte_in old.base old.bytes) agree

    access : next_access new h ≡ Read word 4
    access =
        let view : HartView = view_of old h in
        let seen : HartView = record view { reserved = (view_of new h).reserved } in
        ap (λ view. touched (code_word new.code view.pc) view (span_of new) (room_of new)) change.view
        ∙ ap (λ code. touched (code_word code view.pc) seen (span_of new) (room_of new)) change.code
        ∙ ap (λ word. touched word seen (span_of new) (room_of new)) lr.here
        ∙ ap (λ span. touched (Some lr.word) seen span (room_of new)) (same_span old new places)
        ∙ touched-room (decoded lr.word) seen (span_of old) (room_of new) (room_of old)
        (subst IsNoCall (sym lr.means) refl)
        ∙ (lr-reserved lr.word lr.rd lr.rs1 lr.aq lr.rl view (view_of new h).reserved (span_of old) (room_of old) word 4
        (byte_in new.base new.bytes)
        lr.means (rw lr.here at first.reads)).0

    found : next_reserved new h ≡ Some word
    found =
        ap (λ insn. if is_load_reserved insn then read_at (next_access new h) else None)
        (same_insn old new h change.code (ap (λ view. view.pc) change.view))
        ∙ ap (λ reserving. if reserving then read_at (next_access new h) else None) first.reserving ∙ ap read_at access

goes_view : (execution : Execution) (one other : HartView) → stops execution ≡ false →
    view_after execution one ≡ view_after execution other
goes_view (Stops status) one other is = absurd (cc)
goes_view (Goes view store append) one other is = refl

-- in a later instruction the same comes next
record SameStep (left right : FlatState) (h word : ℕ) (cache : List (List Way)) : Type 0 where
  execution : next_execution right h ≡ next_execution left h
  covered : IsCoveredStep right h word cache

same_next : (left right : FlatState) (h word : ℕ) (cache : List (List Way)) → SamePlaces left right →
    view_of right h ≡ view_of left h → SameOnBits cache left right → IsCoveredStep left h word cache →
    SameStep left right h word cache
same_next left right h word cache places view bytes step = record {
  execution = does;
  covered = record {
    goes_on =
        ap (λ insn. calls insn || stops (next_execution right h))
        (same_insn left right h places.code (ap (λ view. view.pc) view))
        ∙ ap (λ execution. calls (next_insn left h) || stops execution) does ∙ step.goes_on;
    unmixed = ap (λ execution. overlaps word (store_in execution)) does ∙ step.unmixed;
    bit =
        subst (λ access. HasItsBit cache (touch_of access)) (sym (same_access left right h places view none)) step.bit;
  };
}
  where
    none : calls (next_insn left h) ≡ false
    none = first_not _ (stops (next_execution left h)) step.goes_on

    does : next_execution right h ≡ next_execution left h
    does = same_execution left right h cache places view bytes none (on_bit cache (next_touch left h) step.bit)

-- and a quiet one
record SameQuiet (left right : FlatState) (h : ℕ) : Type 0 where
  execution : next_execution right h ≡ next_execution left h
  quiet : is_quiet right h ≡ true

same_quiet : (left right : FlatState) (h : ℕ) (cache : List (List Way)) → SamePlaces left right →
    view_of right h ≡ view_of left h → SameOnBits cache left right → is_quiet left h ≡ true → SameQuiet left right h
same_quiet left right h cache places view bytes is = record {
  execution = does;
  quiet =
      ap (λ access. not (is_some (touch_of access)) && not (is_store_conditional (next_insn right h))
      && not (calls_or_stops right h))
      (same_access left right h places view none)
      ∙ ap (λ insn. not (is_some (next_touch left h)) && not (is_store_conditional insn)
      && not (calls insn || stops (next_execution right h)))
      (same_insn left right h places.code (ap (λ view. view.pc) view))
      ∙ ap
      (λ execution. not (is_some (next_touch left h)) && not (is_store_conditional (next_insn left h))
      && not (calls (next_insn left h) || stops execution))
      does
      ∙ is;
}
  where
    it : Quiet left h
    it = quiet_of left h is

    none : calls (next_insn left h) ≡ false
    none = first_not _ (stops (next_execution left h)) it.goes_on

    does : next_execution right h ≡ next_execution left h
    does = same_execution left right h cache places view bytes none (subst (IsOnBit cache) (sym it.untouched) tt)

-- and an SC that succeeds
record SameConditional (left right : FlatState) (h : ℕ) (swap : Swap) : Type 0 where
  execution : next_execution right h ≡ next_execution left h
  next : next_conditional right h ≡ Some swap

same_conditional : (left right : FlatState) (h : ℕ) (cache : List (List Way)) (swap : Swap) → SamePlaces left right →
    view_of right h ≡ view_of left h → SameOnBits cache left right → read_bit cache (line_number swap.word) ≡ true →
    next_conditional left h ≡ Some swap → SameConditional left right h swap
same_conditional left right h cache swap places view bytes read is = record { execution = does; next = found }
  where
    first : Completes left h swap
    first = completes_by left h swap is

    none : calls (next_insn left h) ≡ false
    none = first_not _ (stops (next_execution left h)) first.stores.goes_on

    on : IsOnBit cache (next_touch left h)
    on =
        rw first.stores.writes
        (or_left (read_bit cache (line_number swap.word)) (write_bit cache (line_number swap.word)) read)

    does : next_execution right h ≡ next_execution left h
    does = same_execution left right h cache places view bytes none on

    agree : AgreeOn (next_access left h) (byte_in right.base right.bytes) (byte_in left.base left.bytes)
    agree = agree_there left right h cache places.base bytes on

    found : next_conditional right h ≡ Some swap
    found =
        ap (λ insn. if is_store_conditional insn then swap_of right (next_store right h) else None)
        (same_insn left right h places.code (ap (λ view. view.pc) view))
        ∙ ap (λ conditional. if conditional then swap_of right (next_store right h) else None) first.conditional
        ∙ ap (λ execution. swap_of right (store_in execution)) does ∙ ap (swap_of right) first.stores.stores
        ∙ ap (λ value. Some (record { word = swap.word; old = value; new = swap.new }))
        (loaded-same (byte_in right.base right.bytes) (byte_in left.base left.bytes) swap.word 4
        (λ k low high. (rw first.stores.writes at agree) k (low, high)) ∙ sym first.old)

bits_alike : (h n : ℕ) (cache : List (List Way)) (old new : FlatState) → IsChangeBeside h cache old new →
    AlikeAt h old new n → SameOnBits cache (alone old h n) (alone new h n)
bits_alike h n cache old new change since place bit =
    since.bytes place
    (change.bytes place (ap (λ base. has_bit cache (line_number (base + place))) (sym (alone_base old h n)) ∙ bit))

-- of one change beside an armed run
module _ (h : ℕ) (cache : List (List Way)) (armed : Armed) (old new : FlatState) (run : IsArmedRun old h cache armed)
    (change : IsChangeBeside h cache old new) where
  reserve_alike : SameReserve h old new armed.word
  reserve_alike = same_reserve h cache old new armed.word run.reserve run.read change

  armed_runs : status_of new h ≡ Running
  armed_runs = ap (λ view. view.status) change.view ∙ run.running 0 (omega arith)

  first_armed : DidAlike h old new (flat old h) (flat new h)
  first_armed =
      did_alike old new h (places_of h cache old new change) (run.running 0 (omega arith)) armed_runs
      reserve_alike.execution
      (goes_view (next_execution old h) (view_of new h) (view_of old h)
      (second_not (calls (next_insn old h)) _ (reserves old h armed.word run.reserve).goes_on))

  quiet_at : (n : ℕ) → 1 ≤ n → n < armed.count → AlikeAt h old new n → SameQuiet (alone old h n) (alone new h n) h
  quiet_at n some less since =
      same_quiet (alone old h n) (alone new h n) h cache since.places since.view
      (bits_alike h n cache old new change since) (run.quiet n some less)

  pub armed_alike : (n : ℕ) → 1 ≤ n → n ≤ armed.count → AlikeAt h old new n
  armed_alike =
      alike_runs h 1 armed.count old new first_armed
      (λ n some less since.
      record { runs = run.running n (omega (arith, less)); execution = (quiet_at n some less since).execution })

  armed_runs_on : (n : ℕ) → n ≤ armed.count → status_of (alone new h n) h ≡ Running
  armed_runs_on zero within = armed_runs
  armed_runs_on (suc n) within =
      ap (λ view. view.status) (armed_alike (suc n) (omega arith) within).view ∙ run.running (suc n) within

  pub armed_survives : IsArmedRun new h cache armed
  armed_survives = record {
    some = run.some;
    reserve = reserve_alike.reserve;
    read = run.read;
    running = armed_runs_on;
    quiet = λ n some less. (quiet_at n some less (armed_alike n some (omega (arith, less)))).quiet;
  }

  armed_shows : ShowsTheSame h armed.count old new
  armed_shows = let all =
      armed_alike armed.count run.some (omega arith) in record { view = all.view; bytes = all.bytes }

pub armed_runs_survive : ArmedRunsSurvive
armed_runs_survive h cache armed old new run change =
    (armed_survives h cache armed old new run change, armed_shows h cache armed old new run change)

-- an acquire is the same after the change, and what it leaves is alike
record SameAcquiring (h : ℕ) (cache : List (List Way)) (old new : FlatState) (before : ℕ) (swap : Swap) : Type 0 where
  acquire : IsAcquire new h cache before swap
  alike : AlikeAt h old new (before + 1)
  running : (n : ℕ) → n ≤ before → status_of (alone new h n) h ≡ Running

acquires_alike : (h : ℕ) (cache : List (List Way)) (old new : FlatState) (before : ℕ) (swap : Swap) →
    IsChangeBeside h cache old new → read_bit cache (line_number swap.word) ≡ true →
    ((n : ℕ) → n ≤ before → status_of (alone old h n) h ≡ Running) → IsAcquire old h cache before swap →
    SameAcquiring h cache old new before swap
acquires_alike h cache old new zero swap change read running is = record {
  acquire = same.acquire;
  alike = did_alike old new h (places_of h cache old new change) (running 0 (omega arith)) runs same.execution
      (goes_view (next_execution old h) (view_of new h) (view_of old h)
      (second_not (calls (next_insn old h)) _ (acquires old h swap is).stores.goes_on));
  running = λ n within. let none : n ≡ 0 = omega (arith, within) in rw none runs;
}
  where
    same : SameAcquire h old new swap
    same = same_acquire h cache old new swap is read change

    runs : status_of new h ≡ Running
    runs = ap (λ view. view.status) change.view ∙ running 0 (omega arith)
acquires_alike h cache old new (suc n) swap change read running (run, is) = record {
  acquire = (survived, same.next);
  alike =
      alike_more h (suc n) old new since
      (record { runs = running (suc n) (omega arith); execution = same.execution });
  running = survived.running;
}
  where
    survived : IsArmedRun new h cache (record { count = suc n; word = swap.word })
    survived = armed_survives h cache (record { count = suc n; word = swap.word }) old new run change

    since : AlikeAt h old new (suc n)
    since =
        armed_alike h cache (record { count = suc n; word = swap.word }) old new run change (suc n)
        (omega arith) (omega arith)

    same : SameConditional (alone old h (suc n)) (alone new h (suc n)) h swap
    same =
        same_conditional (alone old h (suc n)) (alone new h (suc n)) h cache swap since.places since.view
        (bits_alike h (suc n) cache old new change since) read is

-- of one change beside a covered run
module _ (h : ℕ) (cache : List (List Way)) (section : Section) (old new : FlatState)
    (run : IsCoveredRun old h cache section)
    (change : IsChangeBeside h cache old new) where
  acquiring : SameAcquiring h cache old new run.before
      (record { word = section.word; old = section.old; new = section.new })
  acquiring =
      let some = run.some in
      acquires_alike h cache old new run.before _ change run.read
      (λ n within. run.running n (omega (arith, within, some))) run.acquire

  same_at : (n : ℕ) → run.before < n → n < section.count → AlikeAt h old new n →
      SameStep (alone old h n) (alone new h n) h section.word cache
  same_at n past less since =
      same_next (alone old h n) (alone new h n) h section.word cache since.places since.view
      (bits_alike h n cache old new change since)
      (run.inside n past less)

  alike_from : (n : ℕ) → run.before + 1 ≤ n → n ≤ section.count → AlikeAt h old new n
  alike_from =
      alike_runs h (run.before + 1) section.count old new acquiring.alike
      (λ n past less since.
      record {
        runs = run.running n (omega (arith, less));
        execution = (same_at n (omega (arith, past)) less since).execution;
      })

  new_runs_on : (n : ℕ) → n ≤ section.count → status_of (alone new h n) h ≡ Running
  new_runs_on n within = by (nat_lt run.before n) refl
    where
      by : (past : Bool) → nat_lt run.before n ≡ past → status_of (alone new h n) h ≡ Running
      by true is =
          let past = ltb-true run.before n is in
          ap (λ view. view.status) (alike_from n (omega (arith, past)) within).view ∙ run.running n within
      by false is = acquiring.running n (ltb-false run.before n is)

  run_survives : IsCoveredRun new h cache section
  run_survives = record {
    before = run.before;
    some = run.some;
    acquire = acquiring.acquire;
    read = run.read;
    running = new_runs_on;
    inside = λ n past less. (same_at n past less (alike_from n (omega (arith, past)) (omega (arith, less)))).covered;
  }

  shows_same : ShowsTheSame h section.count old new
  shows_same =
      let some = run.some in
      let all = alike_from section.count (omega (arith, some)) (omega arith) in
      record { view = all.view; bytes = all.bytes }

pub survives : CoveredRunsSurvive
survives h cache section old new run change =
    (run_survives h cache section old new run change, shows_same h cache section old new run change)
