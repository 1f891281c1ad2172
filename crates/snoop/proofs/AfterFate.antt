-- what a fate leaves of a hart
use Rattle.std.proofs.Common.{◌≡◌, ◌∙◌, ℕ, ◌+◌, ◌≤◌, Bool, true, false, not, ◌&&◌, ◌==◌, List, [], ◌∷◌, length, Option}
use Rattle.std.proofs.Common.{is_some}
use Rattle.std.proofs.Common.{refl, ap, sym, if◌then◌else◌}
use Rattle.bus_agent.specs.Agent.{agent_of, agent_seeing}
use Rattle.bus_order.specs.Order.{Request}
use Rattle.residency.specs.Cache.{cleared}
use Rattle.el_base.specs.declared.config.Mode.{Mode}
use Rattle.el_base.specs.declared.config.Mode.TheVariants.{Plain, Sle, Tlr}
use Rattle.el_base.proofs.Laws.Tests.{false_between, own_test}
use Rattle.el_model.specs.Conflicts.{meets_bit, wins_over}
use Rattle.el_model.specs.Face.{Fate, LosesTo, Stays, Unmet, after_fate, deferring, deferring_fate, fate_at, fate_of}
use Rattle.el_model.specs.Face.{winning_stamp}
use Rattle.el_model.specs.Plain.{armed_count}
use Rattle.el_model.specs.RollBack.{beaten, most_tries, out_of_section}
use Rattle.el_model.specs.State.{Hart, ModelState, new_hart, post_all}
use Rattle.el_model.proofs.Laws.Harts.{hart_of-past}
use Rattle.el_model.proofs.Laws.HartParts.{beaten_armed}
use Rattle.mail.specs.Mailbox.{Message, posted}
use Rattle.snoop.proofs.Laws.Living.{TellsSection, live_unarmed, tells_cleared, tells_yet}
use Rattle.snoop.specs.Changing.{cleared_if}
use Rattle.snoop.specs.Settled.{in_removal, loses, stamp_seen}
use Rattle.stamp.specs.Stamps.{Stamp}

-- a try more or less is no matter of the bus
try_kept : {A : Type 0} (f : Hart → A) (hart : Hart) →
    ((h : Hart) (tries : ℕ) (fallback : Bool) → f (record h { tries = tries; fallback = fallback }) ≡ f h) →
    (last : Bool) →
    f (if last then record hart { tries = 0; fallback = true } else record hart { tries = hart.tries + 1 }) ≡ f hart
try_kept f hart same true = same hart 0 true
try_kept f hart same false = same hart (hart.tries + 1) hart.fallback

-- a loser, as the bus sees it: it was not armed
out_of_section_agent : (hart : Hart) → armed_count hart.armed ≡ 0 → agent_of (out_of_section hart) ≡ agent_of hart
out_of_section_agent hart none = ap (λ n. record (agent_of hart) { armed = n }) (sym none)

pub beaten_agent : (mode : Mode) (stamp : Option Stamp) (hart : Hart) → armed_count hart.armed ≡ 0 →
    agent_of (beaten mode stamp hart) ≡ agent_seeing (in_removal mode stamp) (agent_of hart)
beaten_agent Tlr stamp hart none = ap (agent_seeing stamp) (out_of_section_agent hart none)
beaten_agent Sle stamp hart none =
    try_kept agent_of (out_of_section hart) (λ h tries fallback. refl) (hart.tries + 1 == most_tries)
    ∙ out_of_section_agent hart none
beaten_agent Plain stamp hart none =
    try_kept agent_of (out_of_section hart) (λ h tries fallback. refl) (hart.tries + 1 == most_tries)
    ∙ out_of_section_agent hart none

pub beaten_upstream : (mode : Mode) (stamp : Option Stamp) (hart : Hart) →
    (beaten mode stamp hart).upstream ≡ hart.upstream
beaten_upstream Tlr stamp hart = refl
beaten_upstream Sle stamp hart =
    try_kept (λ h. h.upstream) (out_of_section hart) (λ h tries fallback. refl) (hart.tries + 1 == most_tries)
beaten_upstream Plain stamp hart =
    try_kept (λ h. h.upstream) (out_of_section hart) (λ h tries fallback. refl) (hart.tries + 1 == most_tries)

pub beaten_cache : (mode : Mode) (stamp : Option Stamp) (hart : Hart) →
    (beaten mode stamp hart).cache ≡ cleared hart.cache
beaten_cache Tlr stamp hart = refl
beaten_cache Sle stamp hart =
    try_kept (λ h. h.cache) (out_of_section hart) (λ h tries fallback. refl) (hart.tries + 1 == most_tries)
beaten_cache Plain stamp hart =
    try_kept (λ h. h.cache) (out_of_section hart) (λ h tries fallback. refl) (hart.tries + 1 == most_tries)

pub beaten_live : (mode : Mode) (stamp : Option Stamp) (hart : Hart) → is_some (beaten mode stamp hart).section ≡ false
beaten_live Tlr stamp hart = refl
beaten_live Sle stamp hart =
    try_kept (λ h. is_some h.section) (out_of_section hart) (λ h tries fallback. refl) (hart.tries + 1 == most_tries)
beaten_live Plain stamp hart =
    try_kept (λ h. is_some h.section) (out_of_section hart) (λ h tries fallback. refl) (hart.tries + 1 == most_tries)

pub beaten_tells : (mode : Mode) (stamp : Option Stamp) (hart : Hart) → TellsSection (beaten mode stamp hart)
beaten_tells mode stamp hart =
    tells_cleared (beaten mode stamp hart) hart.cache (beaten_live mode stamp hart) (beaten_armed mode stamp hart)
    (beaten_cache mode stamp hart)

deferring_agent : (mode : Mode) (stamp : Option Stamp) (hart : Hart) →
    agent_of (deferring mode stamp hart) ≡ agent_seeing (in_removal mode stamp) (agent_of hart)
deferring_agent Tlr stamp hart = refl
deferring_agent Sle stamp hart = refl
deferring_agent Plain stamp hart = refl

deferring_cache : (mode : Mode) (stamp : Option Stamp) (hart : Hart) → (deferring mode stamp hart).cache ≡ hart.cache
deferring_cache Tlr stamp hart = refl
deferring_cache Sle stamp hart = refl
deferring_cache Plain stamp hart = refl

deferring_section : (mode : Mode) (stamp : Option Stamp) (hart : Hart) →
    (deferring mode stamp hart).section ≡ hart.section
deferring_section Tlr stamp hart = refl
deferring_section Sle stamp hart = refl
deferring_section Plain stamp hart = refl

deferring_armed : (mode : Mode) (stamp : Option Stamp) (hart : Hart) → (deferring mode stamp hart).armed ≡ hart.armed
deferring_armed Tlr stamp hart = refl
deferring_armed Sle stamp hart = refl
deferring_armed Plain stamp hart = refl

-- a hart after its fate, as the bus sees it: its agent, its cache, and whether it has a section
pub fate_agent : (state : ModelState) (head : Request) (fate : Fate) (hart : Hart) →
    (loses fate ≡ true → armed_count hart.armed ≡ 0) → agent_of (after_fate state head fate hart)
    ≡ agent_seeing (stamp_seen state.config.mode state.order head fate) (agent_of hart)
fate_agent state head Unmet hart unarmed = refl
fate_agent state head Stays hart unarmed = deferring_agent state.config.mode head.stamp hart
fate_agent state head (LosesTo winner) hart unarmed =
    beaten_agent state.config.mode (winning_stamp state head.line winner) hart (unarmed refl)

pub fate_cache : (state : ModelState) (head : Request) (fate : Fate) (hart : Hart) →
    (after_fate state head fate hart).cache ≡ cleared_if (loses fate) hart.cache
fate_cache state head Unmet hart = refl
fate_cache state head Stays hart = deferring_cache state.config.mode head.stamp hart
fate_cache state head (LosesTo winner) hart = beaten_cache state.config.mode (winning_stamp state head.line winner) hart

pub fate_tells : (state : ModelState) (head : Request) (fate : Fate) (hart : Hart) → TellsSection hart →
    TellsSection (after_fate state head fate hart)
fate_tells state head Unmet hart told = told
fate_tells state head Stays hart told =
    let mode = state.config.mode in
    tells_yet hart (deferring mode head.stamp hart) (deferring_section mode head.stamp hart)
    (deferring_armed mode head.stamp hart)
    (deferring_cache mode head.stamp hart) told
fate_tells state head (LosesTo winner) hart told =
    beaten_tells state.config.mode (winning_stamp state head.line winner) hart

-- a loser had a live section, and was not armed
loser_lives : (apart live meets : Bool) (met : Fate) →
    loses (if (apart && live) && meets then met else Unmet) ≡ true → live ≡ true
loser_lives true true meets met lost = refl
loser_lives true false meets met lost = absurd (cc)
loser_lives false live meets met lost = absurd (cc)

pub loser_unarmed : (state : ModelState) (head : Request) (h : ℕ) (hart : Hart) → TellsSection hart →
    loses (fate_of state head h hart) ≡ true → armed_count hart.armed ≡ 0
loser_unarmed state head h hart told lost =
    live_unarmed hart told
    (loser_lives (not (head.hart == h)) (is_some hart.section) (meets_bit hart head.line head.need) _ lost)

-- messages are no matter of the cache and of the section
pub post_all_cache : (hart : Hart) (messages : List Message) → (post_all hart messages).cache ≡ hart.cache
post_all_cache hart [] = refl
post_all_cache hart (message ∷ messages) = post_all_cache (record hart { mail = posted hart.mail message }) messages

pub post_all_armed : (hart : Hart) (messages : List Message) → (post_all hart messages).armed ≡ hart.armed
post_all_armed hart [] = refl
post_all_armed hart (message ∷ messages) = post_all_armed (record hart { mail = posted hart.mail message }) messages

pub post_all_section : (hart : Hart) (messages : List Message) → (post_all hart messages).section ≡ hart.section
post_all_section hart [] = refl
post_all_section hart (message ∷ messages) = post_all_section (record hart { mail = posted hart.mail message }) messages

-- the head's own hart does not meet it, and no hart past the last one does
unmet_by : (state : ModelState) (head : Request) (hart : Hart) (meets : Bool) → meets ≡ false →
    (if meets then (if wins_over state.config.mode head.stamp hart then LosesTo head.hart
    else deferring_fate state.config.mode state head hart) else Unmet) ≡ Unmet
unmet_by state head hart true is = absurd (cc)
unmet_by state head hart false is = refl

pub own_unmet : (state : ModelState) (head : Request) (hart : Hart) → fate_of state head head.hart hart ≡ Unmet
own_unmet state head hart =
    unmet_by state head hart _
    (ap (λ own. (not own && is_some hart.section) && meets_bit hart head.line head.need) (own_test head.hart))

pub past_unmet : (state : ModelState) (head : Request) (h : ℕ) → length state.harts ≤ h → fate_at state head h ≡ Unmet
past_unmet state head h past =
    ap (fate_of state head h) (hart_of-past state h past)
    ∙ unmet_by state head (new_hart 0) _
    (false_between (not (head.hart == h)) (meets_bit (new_hart 0) head.line head.need))
