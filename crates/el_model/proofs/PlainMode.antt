-- in the plain mode nothing of sections, bits and watches ever arises
use Rattle.std.proofs.Common.{◌≡◌, ◌∙◌, ℕ, Bool, true, false, List, Option, None, Some, is_some, refl, ap, sym}
use Rattle.std.proofs.Common.{if◌then◌else◌, ◌==◌, ◌+◌}
use Rattle.bus_order.specs.Order.{Request}
use Rattle.residency.specs.Cache.{has_marks}
use Rattle.residency.proofs.Laws.Unmarked.{unmarked-cleared, unmarked-empty, unmarked-touched}
use Rattle.el_base.specs.declared.config.Mode.{Mode}
use Rattle.el_base.specs.declared.config.Mode.TheVariants.{Plain, Sle, Tlr}
use Rattle.el_base.specs.declared.events.Event.{Event}
use Rattle.el_model.specs.Deed.{Arms, Begins, Buffers, Commits, Continues, Deed, DoesWhere, Elides, IsArmed, IsInside}
use Rattle.el_model.specs.Deed.{LetsGo, Misses, Rests}
use Rattle.el_model.specs.Deed.{RollsBack, Runs, Waits, hart_after}
use Rattle.el_model.specs.BusEvent.{Becomes, IsAbsent, IsLetGo, IsSent, LosesIt, Nothing, Places, Sees, Serves, Start}
use Rattle.el_model.specs.BusEvent.{Starts, Takes, having_taken, started}
use Rattle.el_model.specs.Next.{next, step_turn}
use Rattle.el_model.specs.Plain.{after_candidate, candidate_of, if_candidate, may_elide, watched}
use Rattle.el_model.specs.Quiet.{IsPlain}
use Rattle.el_model.specs.RollBack.{beaten, most_tries, out_of_section}
use Rattle.el_model.specs.Serve.{bystander, served_hart, with_claim}
use Rattle.el_model.specs.State.{Armed, Hart, ModelState, Section, hart_of, new_hart}
use Rattle.el_model.specs.Upcoming.{Swap, next_exchange}
use Rattle.el_model.proofs.Laws.AllHarts.{All}
use Rattle.el_model.proofs.Laws.BusEvents.{by_event}
use Rattle.el_model.proofs.Laws.Deeds.{is_rolled, step_deed}
use Rattle.el_model.proofs.Laws.EachHart.{each_with}
use Rattle.el_model.proofs.Laws.Tests.{by_test}
use Rattle.el_model.proofs.Laws.Unmarked.{others_unmarked, own_unmarked, touch_unmarked}
use Rattle.mail.specs.Mailbox.{Marker, Message, Probe}
use Rattle.pair_table.specs.Predictor.{Predictor, Watch}
use Rattle.stamp.specs.Stamps.{Stamp}

pub new_is_plain : (sets : ℕ) → IsPlain (new_hart sets)
new_is_plain sets = record { section = refl; armed = refl; unmarked = unmarked-empty sets; watch = refl }

-- the same sections and watch, and a cache without bits
still_plain : (old new : Hart) → new.section ≡ old.section → new.armed ≡ old.armed →
    new.predictor.watch ≡ old.predictor.watch → has_marks new.cache ≡ false →
    IsPlain old → IsPlain new
still_plain old new section armed watch unmarked plain =
    record {
      section = section ∙ plain.section;
      armed = armed ∙ plain.armed;
      unmarked = unmarked;
      watch = watch ∙ plain.watch;
    }

try_plain : (hart : Hart) (last : Bool) → IsPlain hart →
    IsPlain (if last then record hart { tries = 0; fallback = true } else record hart { tries = hart.tries + 1 })
try_plain hart true plain =
    still_plain hart (record hart { tries = 0; fallback = true }) refl refl refl plain.unmarked plain
try_plain hart false plain =
    still_plain hart (record hart { tries = hart.tries + 1 }) refl refl refl plain.unmarked plain

out_plain : (hart : Hart) → IsPlain hart → IsPlain (out_of_section hart)
out_plain hart plain =
    record { section = refl; armed = refl; unmarked = unmarked-cleared hart.cache; watch = plain.watch }

beaten_plain : (mode : Mode) (winner : Option Stamp) (hart : Hart) → IsPlain hart → IsPlain (beaten mode winner hart)
beaten_plain Tlr winner hart plain =
    record { section = refl; armed = refl; unmarked = unmarked-cleared hart.cache; watch = plain.watch }
beaten_plain Sle winner hart plain =
    try_plain (out_of_section hart) (hart.tries + 1 == most_tries) (out_plain hart plain)
beaten_plain Plain winner hart plain =
    try_plain (out_of_section hart) (hart.tries + 1 == most_tries) (out_plain hart plain)

claim_plain : (section : Option Section) (request : Request) (hart : Hart) → section ≡ None → IsPlain hart →
    IsPlain (with_claim (is_some section) request hart)
claim_plain None request hart none plain = still_plain hart _ refl refl refl plain.unmarked plain
claim_plain (Some section) request hart none plain = absurd (cc)

serving_plain : (state : ModelState) (request : Request) (hart : Hart) (own : Bool) → IsPlain hart →
    IsPlain (if own then served_hart state request hart else bystander state request hart)
serving_plain state request hart true plain =
    claim_plain hart.section request _ plain.section
    (still_plain hart _ refl refl refl (unmarked-touched _ request.line
    (own_unmarked state.config.ways _ request.need hart.cache request.line plain.unmarked)) plain)
serving_plain state request hart false plain =
    still_plain hart _ refl refl refl (others_unmarked _ request.need hart.cache request.line plain.unmarked) plain

taken_plain : (message : Message) (others : List Message) (hart : Hart) → IsPlain hart →
    IsPlain (having_taken message others hart)
taken_plain (Marker sender) others hart plain = still_plain hart _ refl refl refl plain.unmarked plain
taken_plain (Probe origin) others hart plain = still_plain hart _ refl refl refl plain.unmarked plain

started_plain : (state : ModelState) (by : ℕ) (start : Start) (h : ℕ) (hart : Hart) → IsPlain hart →
    IsPlain (started state by start h hart)
started_plain state by Nothing h hart plain = plain
started_plain state by (Places request place) h hart plain =
    by_test IsPlain (h == request.hart) (record hart { raised = None }) hart
    (λ own. still_plain hart _ refl refl refl plain.unmarked plain) (λ other. plain)
started_plain state by (Serves request) h hart plain = serving_plain state request hart (h == request.hart) plain
started_plain state by (Takes message others) h hart plain =
    by_test IsPlain (h == by) (having_taken message others hart) hart (λ own. taken_plain message others hart plain)
    (λ other. plain)

becomes_plain : (state : ModelState) (by : ℕ) (start : Start) (h : ℕ) {lost : Option ℕ} {hart : Hart} →
    IsPlain (hart_of state h) →
    Becomes state by start h lost hart → IsPlain hart
becomes_plain state by start h plain (IsAbsent past) = plain
becomes_plain state by start h plain (Starts below) = started_plain state by start h (hart_of state h) plain
becomes_plain state by start h plain (IsSent message lost hart sent now) =
    let before = becomes_plain state by start h plain now in still_plain hart _ refl refl refl before.unmarked before
becomes_plain state by start h plain (IsLetGo head hart frees now) =
    let before = becomes_plain state by start h plain now in
    record { section = before.section; armed = refl; unmarked = unmarked-cleared hart.cache; watch = before.watch }
becomes_plain state by start h plain (Sees head lost hart defers now) =
    let before = becomes_plain state by start h plain now in still_plain hart _ refl refl refl before.unmarked before
becomes_plain state by start h plain (LosesIt winner stamp hart loses now) =
    beaten_plain state.config.mode stamp hart (becomes_plain state by start h plain now)

-- a hart's own deed, where locks are not elided
no_candidate : (mode : Mode) (swap : Option Swap) → mode ≡ Plain → if_candidate mode swap ≡ None
no_candidate mode None plain = refl
no_candidate mode (Some swap) plain = rw plain refl

watched_none : (state : ModelState) (h : ℕ) (predictor : Predictor) (watch : Option Watch) → watch ≡ None →
    watched state h predictor watch ≡ predictor
watched_none state h predictor None none = refl
watched_none state h predictor (Some watch) none = absurd (cc)

candidate_plain : (pc : Option ℕ) (had_watch : Bool) (candidate : Option Swap) (hart : Hart) → candidate ≡ None →
    IsPlain hart → IsPlain (after_candidate pc had_watch candidate hart)
candidate_plain pc had_watch None hart none plain = plain
candidate_plain pc had_watch (Some swap) hart none plain = absurd (cc)

not_elided : (mode : Mode) (hart : Hart) (pc : ℕ) → mode ≡ Plain → may_elide mode hart pc ≡ true → ⊥
not_elided Plain hart pc plain elided = absurd (cc)
not_elided Sle hart pc plain elided = absurd (cc)
not_elided Tlr hart pc plain elided = absurd (cc)

no_section : {X : Type 0} (state : ModelState) (h : ℕ) (section : Section) → IsInside state h section →
    IsPlain (hart_of state h) → X
no_section state h section live plain = absurd (none_some (sym plain.section ∙ live.live))
  where
    none_some : {A : Type 0} {x : A} → None ≡ Some x → ⊥
    none_some same = absurd (cc)

not_armed : {X : Type 0} (state : ModelState) (h : ℕ) (armed : Armed) → IsArmed state h armed →
    IsPlain (hart_of state h) → X
not_armed state h armed is plain = absurd (none_some (sym plain.armed ∙ is.armed_is))
  where
    none_some : {A : Type 0} {x : A} → None ≡ Some x → ⊥
    none_some same = absurd (cc)

deed_plain : (state : ModelState) (h : ℕ) (deed : Deed) → state.config.mode ≡ Plain → DoesWhere state h deed →
    IsPlain (hart_of state h) → IsPlain (hart_after state h deed (hart_of state h))
deed_plain state h Rests mode where_it plain = plain
deed_plain state h Waits mode where_it plain = plain
deed_plain state h (Misses line need) mode where_it plain =
    still_plain (hart_of state h) _ refl refl refl plain.unmarked plain
deed_plain state h (Runs touch) mode where_it plain =
    let hart = hart_of state h in
    candidate_plain _ _ (candidate_of state h) _ (no_candidate state.config.mode (next_exchange state.committed h) mode)
    (still_plain hart _ refl refl
    (ap (λ predictor. predictor.watch) (watched_none state h hart.predictor hart.predictor.watch plain.watch))
    (touch_unmarked hart.cache touch plain.unmarked) plain)
deed_plain state h (Begins swap) mode may plain =
    absurd (not_elided state.config.mode (hart_of state h) _ mode may.elidable.trusted)
deed_plain state h (Buffers section touch) mode may plain =
    no_section state h section may.goes.goes_on.is_short.inside plain
deed_plain state h (Commits section) mode may plain = no_section state h section may.goes_on.is_short.inside plain
deed_plain state h (RollsBack section cause) mode must plain =
    no_section state h section (is_rolled state h section cause must) plain
deed_plain state h (Arms word) mode may plain =
    absurd (not_elided state.config.mode (hart_of state h) _ mode may.reserving.trusted)
deed_plain state h (Elides armed swap) mode may plain = not_armed state h armed may.is_armed plain
deed_plain state h (Continues armed) mode may plain = not_armed state h armed may.is_armed plain
deed_plain state h (LetsGo armed) mode must plain = not_armed state h armed must.is_armed plain

step_plain : (state : ModelState) (h : ℕ) → state.config.mode ≡ Plain → All IsPlain state →
    All IsPlain (step_turn state h).state
step_plain state h mode all =
    let step = step_deed state h in
    rw (step.turn_is)
    (each_with (λ g hart. IsPlain hart) state h (hart_after state h step.deed (hart_of state h))
    (deed_plain state h step.deed mode step.where_it (all h)) all)

pub next_plain : (state : ModelState) (event : Event) → state.config.mode ≡ Plain → All IsPlain state →
    All IsPlain (next state event).state
next_plain state event mode all =
    by_event (λ turn. All IsPlain turn.state) state event (λ step. step_plain state event.hart.number mode all)
    (λ turn done h. becomes_plain state event.hart.number done.start h (all h) (done.becomes h))
