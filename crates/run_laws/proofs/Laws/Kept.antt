-- every event keeps the private run of each live section covered, and that of each armed one
use Rattle.std.proofs.Common.{◌≡◌, ◌≢◌, ◌∙◌, ℕ, true, false, List, Option, None, Some, is_some, refl, ap, sym, subst}
use Rattle.std.proofs.Common.{inl, inr, ◌⊎◌}
use Rattle.std.proofs.lemmas.Option.{same_Some}
use Rattle.bus_order.specs.Order.{IsOneEach, Request}
use Rattle.residency.specs.Cache.{bit_in, is_resident, way_of}
use Rattle.el_base.specs.Freed.{count_in}
use Rattle.el_base.specs.declared.events.Kind.{Kind}
use Rattle.el_base.specs.declared.outcomes.Need.{Need}
use Rattle.el_base.specs.declared.outcomes.Need.TheVariants.{Write}
use Rattle.el_base.proofs.Laws.Cases.{none_some, not_both}
use Rattle.el_model.specs.Armed.{let_go_hart}
use Rattle.el_model.specs.BusEvent.{Becomes, IsAbsent, IsBusEvent, IsLetGo, IsSent, LosesIt, Nothing, Places, Sees}
use Rattle.el_model.specs.BusEvent.{Serves, Start, Starts}
use Rattle.el_model.specs.BusEvent.{StartsWhere, Takes, freed_in, having_taken, started}
use Rattle.el_model.specs.Conflicts.{meets_bit}
use Rattle.el_model.specs.Deed.{Arms, Begins, Buffers, Commits, Continues, Deed, DoesWhere, Elides, LetsGo, Misses}
use Rattle.el_model.specs.Deed.{Rests, RollsBack, Runs, Waits}
use Rattle.el_model.specs.Deed.{committed_after, hart_after}
use Rattle.el_model.specs.InSection.{covered}
use Rattle.el_model.specs.Losses.{standing_of}
use Rattle.el_model.specs.Next.{kind_turn, step_turn}
use Rattle.el_model.specs.Plain.{candidate_of}
use Rattle.el_model.specs.Serve.{bystander, others_have, own_copy, served_hart}
use Rattle.el_model.specs.State.{Hart, ModelState, Section, Turn, armed_of, cache_of, hart_of, ordered_of, raised_of}
use Rattle.el_model.specs.State.{section_of}
use Rattle.el_model.proofs.Laws.BusEvents.{by_kind}
use Rattle.el_model.proofs.Laws.Deeds.{step_deed}
use Rattle.el_model.proofs.Laws.EachHart.{Each, each_but}
use Rattle.el_model.proofs.Laws.Harts.{hart_of-with_hart_other}
use Rattle.el_model.proofs.Laws.Losing.{lost_section}
use Rattle.el_model.proofs.Laws.Restoring.{stands}
use Rattle.el_model.proofs.Laws.Tests.{by_hart}
use Rattle.el_model.proofs.Laws.HartParts.{candidate_armed, candidate_section, claim_section}
use Rattle.mail.specs.Mailbox.{Marker, Message, Probe}
use Rattle.rv_flat.specs.FlatState.{status_of, view_of}
use Rattle.section_laws.specs.Once.{AreOnce}
use Rattle.section_laws.specs.Waiting.{RunsWithNothing}
use Rattle.section_laws.proofs.Laws.FreeLines.{unmet}
use Rattle.section_laws.proofs.Laws.LetGone.{ReadsItsLine}
use Rattle.section_laws.proofs.Laws.Waiting.{Rested}
use Rattle.run_laws.proofs.Laws.Bits.{KeepsBits, armed_kept, bits_claim, bits_covered, bits_others, bits_own}
use Rattle.run_laws.proofs.Laws.Bits.{bits_touched, run_kept}
use Rattle.run_laws.proofs.Laws.Bits.{same_bits, some_bit}
use Rattle.run_laws.proofs.Laws.EventsBeside.{AllArmed, AllCovered, ArmedCovered, Covered, Sound, deed_beside}
use Rattle.run_laws.proofs.Laws.Growing.{arming_run, begun_run, buffered_run, continued_run, elided_run}
use Rattle.run_laws.proofs.Laws.LettingGo.{IsGone, bus_beside, frees_armed, spared_or_gone, was_armed}
use Rattle.run_laws.proofs.Laws.Survival.{armed_survives, survives}
use Rattle.run_laws.specs.PrivateRun.{IsArmedRun, IsCoveredRun}

-- after an event of the bus a hart's section has ended, or it is as it was and has kept its bits
abbrev pub IsKept : ModelState → ℕ → Hart → Type 0
IsKept old h hart = (hart.section ≡ None) ⊎ ((hart.section ≡ section_of old h) × KeepsBits (cache_of old h) hart.cache)

all_kept : (state : ModelState) → Each (IsKept state) state
all_kept state h = inr (refl, same_bits (cache_of state h))

-- a section that is not live is none of which a hart is let go: it has ended, or there was none
let_go_kept : (state : ModelState) (h pc : ℕ) (hart : Hart) → section_of state h ≡ None → IsKept state h hart →
    IsKept state h (let_go_hart pc hart)
let_go_kept state h pc hart none (inl ended) = inl ended
let_go_kept state h pc hart none (inr (same, keeps)) = inl (same ∙ none)

-- an armed hart has no live section
armed_outside : (state : ModelState) (h : ℕ) → Rested state → is_some (armed_of state h) ≡ true →
    section_of state h ≡ None
armed_outside state h rested armed = by (rested h)
  where
    by : (armed_of state h ≡ None) ⊎
        RunsWithNothing (status_of state.committed h) (ordered_of state h) (section_of state h) (raised_of state h)
        (hart_of state h).held_line → section_of state h ≡ None
    by (inl none) = not_both armed (ap is_some none)
    by (inr runs) = runs.nothing.no_section

becomes_kept : (state : ModelState) (by : ℕ) (start : Start) (h : ℕ) {lost : Option ℕ} {hart : Hart} → Rested state →
    IsKept state h (started state by start h (hart_of state h)) → Becomes state by start h lost hart →
    IsKept state h hart
becomes_kept state by start h rested begun (IsAbsent past) = all_kept state h
becomes_kept state by start h rested begun (Starts below) = begun
becomes_kept state by start h rested begun (IsSent message lost hart sent before) =
    becomes_kept state by start h rested begun before
becomes_kept state by start h rested begun (IsLetGo head hart frees before) =
    let_go_kept state h (view_of state.committed h).pc hart
    (armed_outside state h rested (frees_armed state by start h head frees))
    (becomes_kept state by start h rested begun before)
becomes_kept state by start h rested begun (Sees head lost hart defers before) =
    becomes_kept state by start h rested begun before
becomes_kept state by start h rested begun (LosesIt winner stamp hart loses before) =
    inl
    (ap (λ standing. standing.section) (stands state by start h (LosesIt winner stamp hart loses before))
    ∙ lost_section state.config.mode (standing_of (hart_of state h)))

taken_kept : (state : ModelState) (message : Message) (others : List Message) (h : ℕ) →
    IsKept state h (having_taken message others (hart_of state h))
taken_kept state (Marker sender) others h = all_kept state h
taken_kept state (Probe origin) others h = all_kept state h

-- a request is served
own_kept : (state : ModelState) (request : Request) → AreOnce (cache_of state request.hart) →
    IsKept state request.hart (served_hart state request (hart_of state request.hart))
own_kept state request once =
    inr (
      claim_section (is_some (section_of state request.hart)) request _,
      (λ l need bit.
          let others = others_have state request.hart request.line in
          let cache = cache_of state request.hart in
          let copy = own_copy state.config.ways others request.need cache request.line in
          bits_claim (is_some (section_of state request.hart)) request _ l need
          (bits_touched copy request.line l need
          (bits_own state.config.ways others request.need cache request.line once l need bit))),
    )

-- where a request to write is served, no other live section has a bit on its line
met_bit : (hart : Hart) (line : ℕ) (need more : Need) {X : Type 0} → need ≡ Write → meets_bit hart line need ≡ false →
    bit_in more (way_of hart.cache line) ≡ true → X
met_bit hart line need more write unmet bit =
    not_both (some_bit more (way_of hart.cache line) bit) (ap (meets_bit hart line) (sym write) ∙ unmet)

bystander_kept : (state : ModelState) (request : Request) (h : ℕ) →
    ((section : Section) → section_of state h ≡ Some section →
    meets_bit (hart_of state h) request.line request.need ≡ false) → (section : Option Section) →
    section_of state h ≡ section → IsKept state h (bystander state request (hart_of state h))
bystander_kept state request h clear None none = inl none
bystander_kept state request h clear (Some section) live =
    inr (
      refl,
      (λ l need bit.
          bits_others (is_resident (cache_of state request.hart) request.line) request.need
          (cache_of state h) request.line l
          (λ write same.
          met_bit (hart_of state h) request.line request.need need write (clear section live)
          (ap (λ line. bit_in need (way_of (cache_of state h) line)) (sym same) ∙ bit))
          need bit),
    )

started_kept : (state : ModelState) (by : ℕ) (start : Start) → StartsWhere state by start → IsOneEach state.order →
    ((g : ℕ) → AreOnce (cache_of state g)) →
    (h : ℕ) → IsKept state h (started state by start h (hart_of state h))
started_kept state by Nothing where_it one once h = all_kept state h
started_kept state by (Places request place) where_it one once h =
    by_hart (IsKept state h) h request.hart (record (hart_of state h) { raised = None }) (hart_of state h)
    (λ own. all_kept state h)
    (λ other. all_kept state h)
started_kept state by (Serves request) may one once h =
    by_hart (IsKept state h) h request.hart (served_hart state request (hart_of state h))
    (bystander state request (hart_of state h))
    (λ own. rw own (own_kept state request (once request.hart)))
    (λ apart.
    bystander_kept state request h
    (λ section live. unmet state by h request section one may.ordered may.free apart live) (section_of state h) refl)
started_kept state by (Takes message others) where_it one once h =
    by_hart (IsKept state h) h by (having_taken message others (hart_of state h)) (hart_of state h)
    (λ own. taken_kept state message others h) (λ other. all_kept state h)

pub turn_kept : {state : ModelState} {by : ℕ} {turn : Turn} → IsBusEvent state by turn → Rested state →
    IsOneEach state.order → ((g : ℕ) → AreOnce (cache_of state g)) → Each (IsKept state) turn.state
turn_kept {state} {by} done rested one once h =
    becomes_kept state by done.start h rested (started_kept state by done.start done.where_it one once h)
    (done.becomes h)

-- an event of another hart leaves a section so too
pub other_step_kept : (state : ModelState) (h g : ℕ) → g ≢ h → IsKept state g (hart_of (step_turn state h).state g)
other_step_kept state h g apart =
    let step = step_deed state h in
    rw step.turn_is
    (subst (IsKept state g)
    (sym (hart_of-with_hart_other state h g (hart_after state h step.deed (hart_of state h)) apart))
    (all_kept state g))

pub other_kept : (state : ModelState) (h g : ℕ) (kind : Kind) → g ≢ h → Rested state → IsOneEach state.order →
    ((k : ℕ) → AreOnce (cache_of state k)) →
    IsKept state g (hart_of (kind_turn state h kind).state g)
other_kept state h g kind apart rested one once =
    by_kind (λ turn. IsKept state g (hart_of turn.state g)) state h kind (λ step. other_step_kept state h g apart)
    (λ turn done. turn_kept done rested one once g)

-- a deed of its own hart
own_covered : (state : ModelState) (h : ℕ) (deed : Deed) → DoesWhere state h deed → AllCovered state → AllArmed state →
    Covered (committed_after state h deed) h (hart_after state h deed (hart_of state h))
own_covered state h Rests does each armed_runs section is = each h section is
own_covered state h Waits does each armed_runs section is = each h section is
own_covered state h (Misses line need) does each armed_runs section is = each h section is
own_covered state h (Runs touch) does each armed_runs section is =
    none_some (sym does.outside.no_section ∙ sym (candidate_section _ _ (candidate_of state h) _) ∙ is)
own_covered state h (Begins swap) does each armed_runs section is =
    subst (IsCoveredRun state.committed h _) (same_Some _ section is) (begun_run state h swap does)
own_covered state h (Buffers before touch) does each armed_runs section is =
    subst (IsCoveredRun state.committed h (covered (cache_of state h) touch)) (same_Some _ section is)
    (buffered_run state h before touch does (each h before does.goes.goes_on.is_short.inside.live))
own_covered state h (Commits before) does each armed_runs section is = none_some is
own_covered state h (RollsBack before cause) does each armed_runs section is = none_some is
own_covered state h (Arms word) does each armed_runs section is = none_some (sym does.outside.no_section ∙ is)
own_covered state h (Elides armed swap) does each armed_runs section is =
    subst (IsCoveredRun state.committed h _) (same_Some _ section is)
    (elided_run state h armed swap does (armed_runs h armed does.is_armed.armed_is))
own_covered state h (Continues armed) does each armed_runs section is = none_some (sym does.is_armed.no_section ∙ is)
own_covered state h (LetsGo armed) does each armed_runs section is = none_some (sym does.is_armed.no_section ∙ is)

-- and of its armed section
own_armed : (state : ModelState) (h : ℕ) (deed : Deed) → DoesWhere state h deed → AllArmed state →
    ArmedCovered (committed_after state h deed) h (hart_after state h deed (hart_of state h))
own_armed state h Rests does each armed is = each h armed is
own_armed state h Waits does each armed is = each h armed is
own_armed state h (Misses line need) does each armed is = each h armed is
own_armed state h (Runs touch) does each armed is =
    none_some (sym (candidate_armed _ _ (candidate_of state h) _ ∙ does.outside.unarmed) ∙ is)
own_armed state h (Begins swap) does each armed is = none_some is
own_armed state h (Buffers section touch) does each armed is =
    armed_kept state.committed h (cache_of state h) _ armed (bits_covered (cache_of state h) touch) (each h armed is)
own_armed state h (Commits section) does each armed is = none_some is
own_armed state h (RollsBack section cause) does each armed is = none_some is
own_armed state h (Arms word) does each armed is =
    subst (IsArmedRun state.committed h _) (same_Some _ armed is) (arming_run state h word does)
own_armed state h (Elides before swap) does each armed is = none_some is
own_armed state h (Continues before) does each armed is =
    subst (IsArmedRun state.committed h _) (same_Some _ armed is)
    (continued_run state h before does (each h before does.is_armed.armed_is))
own_armed state h (LetsGo before) does each armed is = none_some is

-- a step
step_covered : (state : ModelState) (h : ℕ) → Sound state → AllCovered state → AllArmed state →
    AllCovered (step_turn state h).state
step_covered state h sound each armed_runs =
    let step = step_deed state h in
    rw step.turn_is
    (each_but (Covered (committed_after state h step.deed)) state h (hart_after state h step.deed (hart_of state h))
    (own_covered state h step.deed step.where_it each armed_runs)
    (λ g apart section is.
    (survives g (cache_of state g) section state.committed (committed_after state h step.deed) (each g section is)
    (deed_beside state h g step.deed apart step.where_it sound each armed_runs)).0)
    (λ past section is. none_some is))

step_armed : (state : ModelState) (h : ℕ) → Sound state → AllCovered state → AllArmed state →
    AllArmed (step_turn state h).state
step_armed state h sound each armed_runs =
    let step = step_deed state h in
    rw step.turn_is
    (each_but (ArmedCovered (committed_after state h step.deed)) state h
    (hart_after state h step.deed (hart_of state h))
    (own_armed state h step.deed step.where_it armed_runs)
    (λ g apart armed is.
    armed_survives g (cache_of state g) armed state.committed (committed_after state h step.deed)
    (armed_runs g armed is)
    (deed_beside state h g step.deed apart step.where_it sound each armed_runs))
    (λ past armed is. none_some is))

-- an event of the bus: a section that is kept is covered as before, and so is an armed one
bus_covered : {state : ModelState} {h : ℕ} {turn : Turn} → IsBusEvent state h turn → Rested state →
    IsOneEach state.order → ((g : ℕ) → AreOnce (cache_of state g)) → AllCovered state → AllArmed state →
    AllCovered turn.state
bus_covered {state} {h} {turn} done rested one once each armed_runs g section is = by (turn_kept done rested one once g)
  where
    of_kept : section_of state g ≡ Some section → KeepsBits (cache_of state g) (cache_of turn.state g) →
        (count_in (freed_in state h done.start) g ≡ 0) ⊎ IsGone state turn.state g →
        IsCoveredRun turn.state.committed g (cache_of turn.state g) section
    of_kept live keeps (inl spared) =
        run_kept turn.state.committed g (cache_of state g) (cache_of turn.state g) section keeps
        (survives g (cache_of state g) section state.committed turn.state.committed (each g section live)
        (bus_beside done armed_runs g spared)).0
    of_kept live keeps (inr gone) = none_some (sym (armed_outside state g rested gone.was) ∙ live)

    by : IsKept state g (hart_of turn.state g) → IsCoveredRun turn.state.committed g (cache_of turn.state g) section
    by (inl ended) = none_some (sym ended ∙ is)
    by (inr (same, keeps)) = of_kept (sym same ∙ is) keeps (spared_or_gone done g)

bus_armed : {state : ModelState} {h : ℕ} {turn : Turn} → IsBusEvent state h turn → AllArmed state →
    Each (λ g hart. ReadsItsLine hart) turn.state → AllArmed turn.state
bus_armed {state} {h} {turn} done armed_runs reads g armed is = by (spared_or_gone done g)
  where
    survived : (count_in (freed_in state h done.start) g ≡ 0) →
        IsArmedRun turn.state.committed g (cache_of state g) armed
    survived spared =
        armed_survives g (cache_of state g) armed state.committed turn.state.committed
        (armed_runs g armed (was_armed state h done.start g (done.becomes g) armed is))
        (bus_beside done armed_runs g spared)

    by : (count_in (freed_in state h done.start) g ≡ 0) ⊎ IsGone state turn.state g →
        IsArmedRun turn.state.committed g (cache_of turn.state g) armed
    by (inl spared) =
        let run = survived spared in
        record {
          some = run.some;
          reserve = run.reserve;
          read = reads g armed is;
          running = run.running;
          quiet = run.quiet;
        }
    by (inr gone) = none_some (sym gone.unarmed ∙ is)

-- each event
pub kind_covered : (state : ModelState) (h : ℕ) (kind : Kind) → Sound state → Rested state → IsOneEach state.order →
    ((g : ℕ) → AreOnce (cache_of state g)) → AllCovered state → AllArmed state →
    AllCovered (kind_turn state h kind).state
kind_covered state h kind sound rested one once each armed_runs =
    by_kind (λ turn. AllCovered turn.state) state h kind (λ step. step_covered state h sound each armed_runs)
    (λ turn done. bus_covered done rested one once each armed_runs)

pub kind_armed : (state : ModelState) (h : ℕ) (kind : Kind) → Sound state → AllCovered state → AllArmed state →
    Each (λ g hart. ReadsItsLine hart) (kind_turn state h kind).state → AllArmed (kind_turn state h kind).state
kind_armed state h kind sound each armed_runs =
    by_kind (λ turn. Each (λ g hart. ReadsItsLine hart) turn.state → AllArmed turn.state) state h kind
    (λ step reads. step_armed state h sound each armed_runs) (λ turn done reads. bus_armed done armed_runs reads)
