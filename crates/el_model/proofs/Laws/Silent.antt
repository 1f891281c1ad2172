-- without stamps nothing of messages and attempts ever arises
use Rattle.std.proofs.Common.{◌≡◌, ◌∙◌, ℕ, Bool, true, false, List, ◌∷◌, Option, None, Some, is_some, refl, ap, sym}
use Rattle.std.proofs.Common.{if◌then◌else◌, ◌==◌, ◌+◌}
use Rattle.bus_order.specs.Order.{Request}
use Rattle.el_base.specs.declared.config.Mode.{Mode}
use Rattle.el_base.specs.declared.config.Mode.TheVariants.{Plain, Sle, Tlr}
use Rattle.el_base.specs.declared.events.Event.{Event}
use Rattle.el_model.specs.Armed.{let_go_hart}
use Rattle.el_model.specs.Attempts.{opened}
use Rattle.el_model.specs.BusEvent.{Becomes, IsAbsent, IsAnswered, IsBehind, IsDeferred, IsForwarded, IsLetGo, IsPassed}
use Rattle.el_model.specs.BusEvent.{IsPosted, IsSent, IsToldOn, LosesIt}
use Rattle.el_model.specs.BusEvent.{Nothing, Places, Sees, Serves, Start, Starts, StartsWhere, Takes, started}
use Rattle.el_model.specs.Deed.{Arms, Begins, Buffers, Commits, Continues, Deed, Elides, LetsGo, Misses, Rests}
use Rattle.el_model.specs.Deed.{RollsBack, Runs, Waits, hart_after}
use Rattle.el_model.specs.Next.{next, step_turn}
use Rattle.el_model.specs.Plain.{after_candidate, candidate_of}
use Rattle.el_model.specs.Quiet.{IsSilent, has_stamps}
use Rattle.el_model.specs.RollBack.{beaten, most_tries, out_of_section}
use Rattle.el_model.specs.Serve.{bystander, served_hart, with_claim}
use Rattle.el_model.specs.State.{Hart, ModelState, hart_of, new_hart}
use Rattle.el_model.specs.Upcoming.{Swap}
use Rattle.el_model.proofs.Laws.AllHarts.{All}
use Rattle.el_model.proofs.Laws.BusEvents.{by_event}
use Rattle.el_model.proofs.Laws.Deeds.{step_deed}
use Rattle.el_model.proofs.Laws.EachHart.{each_with}
use Rattle.el_model.proofs.Laws.Tests.{by_test}
use Rattle.mail.specs.Mailbox.{Message}
use Rattle.rv_flat.specs.FlatState.{view_of}
use Rattle.stamp.specs.Stamps.{Stamp}

pub new_is_silent : (sets : ℕ) → IsSilent (new_hart sets)
new_is_silent sets = record { mail = refl; told = refl; upstream = refl; attempt = refl }

-- the same mailbox, sets and attempt
still_silent : (old new : Hart) → new.mail ≡ old.mail → new.told ≡ old.told → new.upstream ≡ old.upstream →
    new.attempt ≡ old.attempt → IsSilent old → IsSilent new
still_silent old new mail told upstream attempt silent = record {
  mail = mail ∙ silent.mail;
  told = told ∙ silent.told;
  upstream = upstream ∙ silent.upstream;
  attempt = attempt ∙ silent.attempt;
}

try_silent : (hart : Hart) (last : Bool) → IsSilent hart →
    IsSilent (if last then record hart { tries = 0; fallback = true } else record hart { tries = hart.tries + 1 })
try_silent hart true silent = still_silent hart (record hart { tries = 0; fallback = true }) refl refl refl refl silent
try_silent hart false silent = still_silent hart (record hart { tries = hart.tries + 1 }) refl refl refl refl silent

beaten_silent : (mode : Mode) (winner : Option Stamp) (hart : Hart) → IsSilent hart → IsSilent (beaten mode winner hart)
beaten_silent Tlr winner hart silent =
    record { mail = silent.mail; told = silent.told; upstream = silent.upstream; attempt = silent.attempt }
beaten_silent Sle winner hart silent =
    try_silent (out_of_section hart) (hart.tries + 1 == most_tries)
    (record { mail = silent.mail; told = silent.told; upstream = silent.upstream; attempt = silent.attempt })
beaten_silent Plain winner hart silent =
    try_silent (out_of_section hart) (hart.tries + 1 == most_tries)
    (record { mail = silent.mail; told = silent.told; upstream = silent.upstream; attempt = silent.attempt })

claim_silent : (live : Bool) (request : Request) (hart : Hart) → IsSilent hart → IsSilent (with_claim live request hart)
claim_silent true request hart silent = still_silent hart (with_claim true request hart) refl refl refl refl silent
claim_silent false request hart silent = still_silent hart (with_claim false request hart) refl refl refl refl silent

serving_silent : (state : ModelState) (request : Request) (hart : Hart) (own : Bool) → IsSilent hart →
    IsSilent (if own then served_hart state request hart else bystander state request hart)
serving_silent state request hart true silent =
    claim_silent (is_some hart.section) request _
    (record { mail = rw silent.mail refl; told = rw silent.told refl; upstream = refl; attempt = silent.attempt })
serving_silent state request hart false silent =
    record {
      mail = rw silent.mail refl;
      told = rw silent.told refl;
      upstream = silent.upstream;
      attempt = silent.attempt;
    }

-- no message is posted, and none is taken
stamped : {X : Type 0} (mode : Mode) → has_stamps mode ≡ false → mode ≡ Tlr → X
stamped mode stampless is = let e = sym (ap has_stamps is) ∙ stampless in absurd (cc)

none_taken : {X : Type 0} (hart : Hart) (message : Message) (others : List Message) → IsSilent hart →
    hart.mail ≡ message ∷ others → X
none_taken hart message others silent is = let e = sym silent.mail ∙ is in absurd (cc)

none_posted : {X : Type 0} (state : ModelState) (by : ℕ) {start : Start} {h : ℕ} {message : Message} →
    has_stamps state.config.mode ≡ false →
    All IsSilent state → StartsWhere state by start → IsPosted state by start h message → X
none_posted state by stampless all where_it (IsBehind request last mode is) = stamped state.config.mode stampless mode
none_posted state by stampless all where_it (IsPassed request former mode is) = stamped state.config.mode stampless mode
none_posted state by stampless all where_it (IsDeferred start head h defers below) =
    stamped state.config.mode stampless defers.mode
none_posted state by stampless all where_it (IsAnswered sender others) =
    none_taken (hart_of state by) _ _ (all by) where_it
none_posted state by stampless all where_it (IsToldOn sender others origin tells) =
    none_taken (hart_of state by) _ _ (all by) where_it
none_posted state by stampless all where_it (IsForwarded origin others h forwards) =
    none_taken (hart_of state by) _ _ (all by) where_it

started_silent : (state : ModelState) (by : ℕ) (start : Start) (h : ℕ) → All IsSilent state →
    StartsWhere state by start →
    IsSilent (started state by start h (hart_of state h))
started_silent state by Nothing h all where_it = all h
started_silent state by (Places request place) h all where_it =
    by_test IsSilent (h == request.hart) (record (hart_of state h) { raised = None }) (hart_of state h)
    (λ own. still_silent (hart_of state h) _ refl refl refl refl (all h)) (λ other. all h)
started_silent state by (Serves request) h all where_it =
    serving_silent state request (hart_of state h) (h == request.hart) (all h)
started_silent state by (Takes message others) h all where_it =
    none_taken (hart_of state by) message others (all by) where_it

becomes_silent : (state : ModelState) (by : ℕ) (start : Start) (h : ℕ) {lost : Option ℕ} {hart : Hart} →
    has_stamps state.config.mode ≡ false →
    All IsSilent state → StartsWhere state by start → Becomes state by start h lost hart → IsSilent hart
becomes_silent state by start h stampless all where_it (IsAbsent past) = all h
becomes_silent state by start h stampless all where_it (Starts below) = started_silent state by start h all where_it
becomes_silent state by start h stampless all where_it (IsSent message lost hart sent now) =
    none_posted state by stampless all where_it sent
becomes_silent state by start h stampless all where_it (IsLetGo head hart frees now) =
    still_silent hart (let_go_hart (view_of state.committed h).pc hart) refl refl refl refl
    (becomes_silent state by start h stampless all where_it now)
becomes_silent state by start h stampless all where_it (Sees head lost hart defers now) =
    stamped state.config.mode stampless defers.mode
becomes_silent state by start h stampless all where_it (LosesIt winner stamp hart loses now) =
    beaten_silent state.config.mode stamp hart (becomes_silent state by start h stampless all where_it now)

-- a hart's own deed opens no attempt
opened_none : (mode : Mode) (h clock : ℕ) (attempt : Option Stamp) → has_stamps mode ≡ false → attempt ≡ None →
    opened mode h clock attempt ≡ None
opened_none Tlr h clock attempt stampless none = absurd (cc)
opened_none Sle h clock attempt stampless none = none
opened_none Plain h clock attempt stampless none = none

candidate_silent : (pc : Option ℕ) (had_watch : Bool) (candidate : Option Swap) (hart : Hart) → IsSilent hart →
    IsSilent (after_candidate pc had_watch candidate hart)
candidate_silent pc had_watch None hart silent = silent
candidate_silent pc had_watch (Some swap) hart silent = still_silent hart _ refl refl refl refl silent

deed_silent : (state : ModelState) (h : ℕ) (deed : Deed) (hart : Hart) → has_stamps state.config.mode ≡ false →
    IsSilent hart → IsSilent (hart_after state h deed hart)
deed_silent state h Rests hart stampless silent = silent
deed_silent state h Waits hart stampless silent = silent
deed_silent state h (Misses line need) hart stampless silent = still_silent hart _ refl refl refl refl silent
deed_silent state h (Runs touch) hart stampless silent =
    candidate_silent _ _ (candidate_of state h) _ (still_silent hart _ refl refl refl refl silent)
deed_silent state h (Begins swap) hart stampless silent = record {
  mail = silent.mail;
  told = silent.told;
  upstream = silent.upstream;
  attempt = opened_none state.config.mode h hart.clock hart.attempt stampless silent.attempt;
}
deed_silent state h (Buffers section touch) hart stampless silent = still_silent hart _ refl refl refl refl silent
deed_silent state h (Commits section) hart stampless silent =
    record { mail = silent.mail; told = silent.told; upstream = silent.upstream; attempt = refl }
deed_silent state h (RollsBack section cause) hart stampless silent =
    record { mail = silent.mail; told = silent.told; upstream = silent.upstream; attempt = refl }
deed_silent state h (Arms word) hart stampless silent = still_silent hart _ refl refl refl refl silent
deed_silent state h (Elides armed swap) hart stampless silent = record {
  mail = silent.mail;
  told = silent.told;
  upstream = silent.upstream;
  attempt = opened_none state.config.mode h hart.clock hart.attempt stampless silent.attempt;
}
deed_silent state h (Continues armed) hart stampless silent = still_silent hart _ refl refl refl refl silent
deed_silent state h (LetsGo armed) hart stampless silent = still_silent hart _ refl refl refl refl silent

step_silent : (state : ModelState) (h : ℕ) → has_stamps state.config.mode ≡ false → All IsSilent state →
    All IsSilent (step_turn state h).state
step_silent state h stampless all =
    let step = step_deed state h in
    rw (step.turn_is)
    (each_with (λ g hart. IsSilent hart) state h (hart_after state h step.deed (hart_of state h))
    (deed_silent state h step.deed (hart_of state h) stampless (all h)) all)

pub next_silent : (state : ModelState) (event : Event) → has_stamps state.config.mode ≡ false → All IsSilent state →
    All IsSilent (next state event).state
next_silent state event stampless all =
    by_event (λ turn. All IsSilent turn.state) state event (λ step. step_silent state event.hart.number stampless all)
    (λ turn done h. becomes_silent state event.hart.number done.start h stampless all done.where_it (done.becomes h))
