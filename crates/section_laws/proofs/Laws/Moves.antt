-- what an event of the bus does to each hart after its start, as a few moves: it is posted messages, is told of
-- origins, has harts before it, sees stamps, loses its live section or has its armed one let go
use Rattle.std.proofs.Common.{◌≡◌, ◌<◌, ◌≤◌, ℕ, Bool, true, false, ◌&&◌, not, List, [], ◌∷◌, Option, None, Some}
use Rattle.std.proofs.Common.{ap, is_some, length, refl}
use Rattle.std.proofs.Common.{if◌then◌else◌, ◌==◌, ◌+◌, arith}
use Rattle.std.proofs.lemmas.Bool.{false_from_ne_true}
use Rattle.bus_order.specs.Order.{Request}
use Rattle.residency.specs.Cache.{has_bit}
use Rattle.defer_list.specs.HartSet.{included}
use Rattle.el_base.proofs.Laws.Cases.{clash}
use Rattle.el_base.specs.declared.config.Mode.{Mode}
use Rattle.el_base.specs.declared.config.Mode.TheVariants.{Plain, Sle, Tlr}
use Rattle.el_model.specs.Armed.{freed_hart, is_freed, let_go, let_go_hart}
use Rattle.el_model.specs.Attempts.{seen_after}
use Rattle.el_model.specs.BusEvent.{Becomes, IsAbsent, IsLetGo, IsSent, LosesIt, Sees, Start, Starts, having_taken}
use Rattle.el_model.specs.BusEvent.{started}
use Rattle.el_model.specs.Conflicts.{is_write}
use Rattle.el_model.specs.Deed.{Deed, DoesWhere, hart_after}
use Rattle.el_model.specs.Face.{Fate, LosesTo, Stays, Unmet, after_fate, deferring, faced, faced_hart, fate_of}
use Rattle.el_model.specs.Face.{markers_for, met, winning_stamp}
use Rattle.el_model.specs.Next.{step_turn}
use Rattle.el_model.specs.RollBack.{beaten, most_tries, out_of_section}
use Rattle.el_model.specs.State.{Hart, ModelState, hart_of, post_all}
use Rattle.el_model.proofs.Laws.Deeds.{step_deed}
use Rattle.el_model.proofs.Laws.EachHart.{Each, each_after, each_become, each_with}
use Rattle.el_model.proofs.Laws.Harts.{hart_of-past}
use Rattle.el_model.proofs.Laws.Tests.{by_test}
use Rattle.mail.specs.Mailbox.{Message, Marker, Probe, posted}
use Rattle.rv_flat.specs.FlatState.{view_of}
use Rattle.stamp.specs.Stamps.{Stamp}

-- what is said of each hart is kept by these moves
pub record Moves (P : ℕ → Hart → Type 0) : Type 0 where
  pub posted_to : (h : ℕ) (hart : Hart) (mail : List Message) → P h hart → P h (record hart { mail = mail })
  pub told : (h : ℕ) (hart : Hart) (told : List ℕ) → P h hart → P h (record hart { told = told })
  pub preceded : (h : ℕ) (hart : Hart) (upstream : List ℕ) → P h hart → P h (record hart { upstream = upstream })
  pub saw : (h : ℕ) (hart : Hart) (seen : ℕ) → hart.seen ≤ seen → P h hart → P h (record hart { seen = seen })
  pub lost : (h : ℕ) (hart : Hart) → P h hart → P h (out_of_section hart)
  pub freed : (h pc : ℕ) (hart : Hart) → P h hart → P h (let_go_hart pc hart)
  pub gave_up : (h : ℕ) (hart : Hart) → P h hart → P h (record hart { tries = 0; fallback = true })
  pub tried : (h : ℕ) (hart : Hart) → (hart.tries + 1 == most_tries) ≡ false → P h hart →
      P h (record hart { tries = hart.tries + 1 })

-- a hart with another's mail, with what that was told and saw, and with its count of lost sections
abbrev pub with_news : Hart → Hart → Hart
with_news hart other = record hart {
  mail = other.mail;
  told = other.told;
  upstream = other.upstream;
  seen = other.seen;
  tries = other.tries;
  fallback = other.fallback;
}

-- what says nothing of all that is kept by the moves where the ends of a section keep it
pub moves_by_ends : {P : ℕ → Hart → Type 0} →
    ((h : ℕ) (hart other : Hart) → P h hart → P h (with_news hart other)) →
    ((h : ℕ) (hart : Hart) → P h hart → P h (out_of_section hart)) →
    ((h pc : ℕ) (hart : Hart) → P h hart → P h (let_go_hart pc hart)) → Moves P
moves_by_ends beside lost freed = record {
  posted_to = λ h hart mail. beside h hart (record hart { mail = mail });
  told = λ h hart told. beside h hart (record hart { told = told });
  preceded = λ h hart upstream. beside h hart (record hart { upstream = upstream });
  saw = λ h hart seen later. beside h hart (record hart { seen = seen });
  lost = lost;
  freed = freed;
  gave_up = λ h hart. beside h hart (record hart { tries = 0; fallback = true });
  tried = λ h hart more. beside h hart (record hart { tries = hart.tries + 1 });
}

-- a hart that sees a stamp has seen no less than before
pub seen_grows : (seen : ℕ) (stamp : Option Stamp) → seen ≤ seen_after seen stamp
seen_grows seen None = omega arith
seen_grows seen (Some stamp) = omega arith

-- a hart that is let go is armed, and one that is not armed is not let go
pub freed_is_armed : (head : Request) (h : ℕ) (hart : Hart) → is_freed head h hart ≡ true → is_some hart.armed ≡ true
freed_is_armed head h hart =
    by (is_write head) (not (head.hart == h)) (is_some hart.armed) (has_bit hart.cache head.line)
  where
    by : (a b c d : Bool) → (a && b && c && d) ≡ true → c ≡ true
    by true true true d freed = refl
    by true true false d freed = absurd (cc)
    by true false c d freed = absurd (cc)
    by false b c d freed = absurd (cc)

pub none_freed : (head : Request) (h : ℕ) (hart : Hart) → hart.armed ≡ None → is_freed head h hart ≡ false
none_freed head h hart none =
    false_from_ne_true (is_freed head h hart)
    (λ freed. clash (ap is_some none) (freed_is_armed head h hart freed))

module _ {P : ℕ → Hart → Type 0} (moves : Moves P) where
  try_keeps : (h : ℕ) (hart : Hart) (last : Bool) → (hart.tries + 1 == most_tries) ≡ last → P h hart →
      P h (if last then record hart { tries = 0; fallback = true } else record hart { tries = hart.tries + 1 })
  try_keeps h hart true is now = moves.gave_up h hart now
  try_keeps h hart false is now = moves.tried h hart is now

  beaten_keeps : (mode : Mode) (winner : Option Stamp) (h : ℕ) (hart : Hart) → P h hart → P h (beaten mode winner hart)
  beaten_keeps Tlr winner h hart now =
      moves.saw h (out_of_section hart) (seen_after hart.seen winner) (seen_grows hart.seen winner)
      (moves.lost h hart now)
  beaten_keeps Sle winner h hart now =
      try_keeps h (out_of_section hart) (hart.tries + 1 == most_tries) refl (moves.lost h hart now)
  beaten_keeps Plain winner h hart now =
      try_keeps h (out_of_section hart) (hart.tries + 1 == most_tries) refl (moves.lost h hart now)

  pub taken_keeps : (message : Message) (others : List Message) (h : ℕ) (hart : Hart) → P h hart →
      P h (having_taken message others hart)
  taken_keeps (Marker sender) others h hart now =
      moves.preceded h (record hart { mail = others }) (included hart.upstream sender)
      (moves.posted_to h hart others now)
  taken_keeps (Probe origin) others h hart now =
      moves.told h (record hart { mail = others }) (included hart.told origin) (moves.posted_to h hart others now)

  -- what holds after the start of an event holds after it
  pub moved : (state : ModelState) (by : ℕ) (start : Start) (h : ℕ) {lost : Option ℕ} {hart : Hart} →
      (length state.harts ≤ h → P h (hart_of state h)) →
      (h < length state.harts → P h (started state by start h (hart_of state h))) →
      Becomes state by start h lost hart → P h hart
  moved state by start h absent begun (IsAbsent past) = absent past
  moved state by start h absent begun (Starts below) = begun below
  moved state by start h absent begun (IsSent message lost hart sent now) =
      moves.posted_to h hart (posted hart.mail message) (moved state by start h absent begun now)
  moved state by start h absent begun (IsLetGo head hart frees now) =
      moves.freed h (view_of state.committed h).pc hart (moved state by start h absent begun now)
  moved state by start h absent begun (Sees head lost hart defers now) =
      moves.saw h hart (seen_after hart.seen head.stamp) (seen_grows hart.seen head.stamp)
      (moved state by start h absent begun now)
  moved state by start h absent begun (LosesIt winner stamp hart loses now) =
      beaten_keeps state.config.mode stamp h hart (moved state by start h absent begun now)

  -- a head is met: `Becomes` does not say that each hart that it frees is let go, so what rests on that goes by the
  -- harts as they are let go or not, and what holds then holds after the head is faced
  posted_keep : (h : ℕ) (hart : Hart) (messages : List Message) → P h hart → P h (post_all hart messages)
  posted_keep h hart [] now = now
  posted_keep h hart (message ∷ messages) now =
      posted_keep h (record hart { mail = posted hart.mail message }) messages
      (moves.posted_to h hart (posted hart.mail message) now)

  deferring_keeps : (mode : Mode) (stamp : Option Stamp) (h : ℕ) (hart : Hart) → P h hart →
      P h (deferring mode stamp hart)
  deferring_keeps Tlr stamp h hart now = moves.saw h hart (seen_after hart.seen stamp) (seen_grows hart.seen stamp) now
  deferring_keeps Sle stamp h hart now = now
  deferring_keeps Plain stamp h hart now = now

  fate_keeps : (state : ModelState) (head : Request) (fate : Fate) (h : ℕ) (hart : Hart) → P h hart →
      P h (after_fate state head fate hart)
  fate_keeps state head Unmet h hart now = now
  fate_keeps state head Stays h hart now = deferring_keeps state.config.mode head.stamp h hart now
  fate_keeps state head (LosesTo winner) h hart now =
      beaten_keeps state.config.mode (winning_stamp state head.line winner) h hart now

  faced_keeps : (state : ModelState) (head : Request) → Each P state → Each P (faced state head)
  unfolding faced
  faced_keeps state head each =
      each_after P state (faced_hart state head)
      (λ h now.
      by_test (P h) (h == head.hart) (post_all (hart_of state h) (markers_for state.config.mode state head))
      (after_fate state head (fate_of state head h (hart_of state h)) (hart_of state h))
      (λ own. posted_keep h (hart_of state h) (markers_for state.config.mode state head) now)
      (λ other. fate_keeps state head (fate_of state head h (hart_of state h)) h (hart_of state h) now))
      each

  pub met_keeps : (state : ModelState) (head : Request) →
      ((h : ℕ) → is_freed head h (hart_of state h) ≡ true →
      P h (let_go_hart (view_of state.committed h).pc (hart_of state h))) →
      ((h : ℕ) → is_freed head h (hart_of state h) ≡ false → P h (hart_of state h)) → Each P (met state head)
  unfolding let_go
  met_keeps state head let_go_one kept_one =
      faced_keeps (let_go state head) head
      (each_become P state (freed_hart state head)
      (λ h.
      by_test (P h) (is_freed head h (hart_of state h)) (let_go_hart (view_of state.committed h).pc (hart_of state h))
      (hart_of state h) (let_go_one h) (kept_one h))
      (λ h past.
      kept_one h (none_freed head h (hart_of state h) (ap (λ hart. hart.armed) (hart_of-past state h past)))))

-- a step is a deed of its hart
pub step_keeps : (P : ℕ → Hart → Type 0) (state : ModelState) (h : ℕ) →
    ((deed : Deed) → DoesWhere state h deed → P h (hart_after state h deed (hart_of state h))) → Each P state →
    Each P (step_turn state h).state
step_keeps P state h keeps each =
    let step = step_deed state h in
    rw (step.turn_is)
    (each_with P state h (hart_after state h step.deed (hart_of state h)) (keeps step.deed step.where_it) each)
