-- the bus shows what the definition makes of a marker
use Rattle.std.proofs.Common.{◌≡◌, ◌∙◌, ℕ, suc, ◌-◌, ◌<◌, Bool, true, false, List, [], ◌∷◌, length, map, Option, Some}
use Rattle.std.proofs.Common.{None, refl, ap, sym}
use Rattle.std.proofs.Common.{subst, inl, inr, arith, if◌then◌else◌}
use Rattle.std.specs.List.{filter}
use Rattle.std.specs.Prelude.{slice_index_or, slice_set}
use Rattle.std.proofs.lemmas.Bool.{cases_lt}
use Rattle.std.proofs.lemmas.List.{set-get_or, set-set, set_past}
use Rattle.bus_agent.proofs.Laws.Agents.{agent_kept, count_with_agent}
use Rattle.bus_agent.specs.Agent.{Agent, agent_at, agent_behind, agent_posted, agent_taken, with_agent}
use Rattle.bus_order.specs.Order.{Request, request_of}
use Rattle.defer_list.specs.HartSet.{included}
use Rattle.el_base.specs.declared.outcomes.Outcome.TheVariants.{Delivered, Idle}
use Rattle.el_model.specs.Deliver.{after_marker, deliver_next, deliver_turn, delivered, losers_by, post_to, taken}
use Rattle.el_model.specs.Deliver.{told_on}
use Rattle.el_model.specs.State.{Hart, ModelState, count_up, hart_of, new_hart, post_all, with_hart}
use Rattle.el_model.proofs.Laws.Harts.{hart_of-with_hart_same}
use Rattle.mail.specs.Mailbox.{Message, Probe, oldest, posted, without_oldest}
use Rattle.snoop.specs.Delivering.{marker_taken, numbers_from, passed_on, passes, posts_sent, probe_sent, probes_sent}
use Rattle.snoop.specs.Shows.{IsReady, BusState, Shows}
use Rattle.snoop.proofs.Ready.{ready_agent}
use Rattle.snoop.proofs.Showing.{shows_agent}

-- the numbers of all harts
all_numbers : (from : ℕ) (harts : List Hart) → numbers_from from (length harts) ≡ count_up from harts
all_numbers from [] = refl
all_numbers from (hart ∷ harts) = ap (λ rest. from ∷ rest) (all_numbers (suc from) harts)

-- a hart that is written where it was read
pub same_hart_there : (state : ModelState) (h : ℕ) → with_hart state h (hart_of state h) ≡ state
same_hart_there state h = ap (λ harts. record state { harts = harts }) (set-get_or state.harts h (new_hart 0))

-- a hart that is written twice
twice_there : (state : ModelState) (h : ℕ) (first : Hart) (then_ : Hart → Hart) →
    with_hart (with_hart state h first) h (then_ (hart_of (with_hart state h first) h))
    ≡ with_hart state h (then_ first)
twice_there state h first then_ =
    elim (cases_lt h (length state.harts)) [
      | inl below ↦ ap (λ hart. with_hart (with_hart state h first) h (then_ hart))
          (hart_of-with_hart_same state h first below)
          ∙ ap (λ harts. record state { harts = harts }) (set-set state.harts h first (then_ first))
      | inr past ↦ let gone = set_past state.harts h first past in
          ap (λ harts. record state { harts = slice_set harts h (then_ (slice_index_or harts h (new_hart 0))) }) gone
          ∙ ap (λ harts. record state { harts = harts })
          (set_past state.harts h (then_ (hart_of state h)) past ∙ sym (set_past state.harts h (then_ first) past))
    ]

-- messages that are posted, one after another
pub shows_posts : (messages : List Message) (bus : BusState) (state : ModelState) (to : ℕ) → Shows bus state →
    Shows (record bus { agents = posts_sent messages to bus.agents }) (post_to state to messages)
shows_posts [] bus state to shows = subst (Shows bus) (sym (same_hart_there state to)) shows
shows_posts (message ∷ messages) bus state to shows =
    subst (Shows (record bus { agents = posts_sent (message ∷ messages) to bus.agents }))
    (twice_there state to (record (hart_of state to) { mail = posted (hart_of state to).mail message })
    (λ hart. post_all hart messages))
    (shows_posts messages
    (record bus { agents = with_agent bus.agents to (agent_posted message (agent_at bus.agents to)) })
    (with_hart state to (record (hart_of state to) { mail = posted (hart_of state to).mail message })) to
    (shows_agent bus state to (agent_posted message (agent_at bus.agents to))
    (record (hart_of state to) { mail = posted (hart_of state to).mail message }) shows
    (ap (agent_posted message) (shows.agents to)) refl refl refl))

pub ready_posts : (messages : List Message) (bus : BusState) (to : ℕ) → IsReady bus →
    IsReady (record bus { agents = posts_sent messages to bus.agents })
ready_posts [] bus to ready = ready
ready_posts (message ∷ messages) bus to ready =
    ready_posts messages
    (record bus { agents = with_agent bus.agents to (agent_posted message (agent_at bus.agents to)) }) to
    (ready_agent bus to (agent_posted message (agent_at bus.agents to)) ready (λ request is. is) (ready.few_armed to))

-- probes of those that a test takes are such messages
pub probes_posted : (test : ℕ → Bool) (numbers : List ℕ) (to : ℕ) (agents : List Agent) →
    probes_sent test numbers to agents ≡ posts_sent (map Probe (filter test numbers)) to agents
probes_posted test [] to agents = refl
probes_posted test (origin ∷ others) to agents = by (test origin) (λ now. probes_posted test others to now)
  where
    by : (taken : Bool) →
        ((now : List Agent) → probes_sent test others to now ≡ posts_sent (map Probe (filter test others)) to now) →
        probes_sent test others to (probe_sent taken origin to agents)
        ≡ posts_sent (map Probe (if taken then origin ∷ filter test others else filter test others)) to agents
    by true rest = rest (with_agent agents to (agent_posted (Probe origin) (agent_at agents to)))
    by false rest = rest agents

-- the loop: what is left to be sent, after some origins were looked at
pub all_probes : (test : ℕ → Bool) (count to : ℕ) (agents : List Agent) →
    probes_sent test (numbers_from 0 count) to agents ≡ probes_sent test (numbers_from 0 (count - 0)) to agents
all_probes test count to agents = let e : count ≡ count - 0 = omega arith in
    ap (λ n. probes_sent test (numbers_from 0 n) to agents) e

pub next_probe : (test : ℕ → Bool) (number count to : ℕ) (agents now final : List Agent) → number < count →
    final ≡ probes_sent test (numbers_from number (count - number)) to agents →
    now ≡ probe_sent (test number) number to agents →
    final ≡ probes_sent test (numbers_from (suc number) (count - suc number)) to now
next_probe test number count to agents now final below was is =
    let e : count - number ≡ suc (count - suc number) = omega (arith, below) in
    was ∙ ap (λ n. probes_sent test (numbers_from number n) to agents) e
    ∙ ap (probes_sent test (numbers_from (suc number) (count - suc number)) to) (sym is)

pub no_probe_left : (test : ℕ → Bool) (number count to : ℕ) (agents final : List Agent) → number ≡ count →
    final ≡ probes_sent test (numbers_from number (count - number)) to agents → final ≡ agents
no_probe_left test number count to agents final all was =
    let e : count - number ≡ 0 = omega (arith, all) in
    was ∙ ap (λ n. probes_sent test (numbers_from number n) to agents) e

-- a probe changes nothing that its receiver was told
pub told_after_probe : (taken : Bool) (origin to h : ℕ) (agents : List Agent) →
    (agent_at (probe_sent taken origin to agents) h).told ≡ (agent_at agents h).told
told_after_probe true origin to h agents = agent_kept (λ a. a.told) agents to h _ refl
told_after_probe false origin to h agents = refl

pub count_after_probe : (taken : Bool) (origin to : ℕ) (agents : List Agent) →
    length (probe_sent taken origin to agents) ≡ length agents
count_after_probe true origin to agents = count_with_agent agents to _
count_after_probe false origin to agents = refl

-- what a hart passes on
passed_same : (bus : BusState) (state : ModelState) (h to : ℕ) (own : Option Request) → Shows bus state →
    passed_on bus h to own ≡ map Probe (told_on state h to own)
passed_same bus state h to None shows = refl
passed_same bus state h to (Some own) shows =
    ap (λ told. map Probe (filter (passes told bus.order to own.line) (numbers_from 0 (length bus.agents))))
    (ap (λ a. a.told) (shows.agents h))
    ∙ ap
    (λ order. map Probe
    (filter (passes (hart_of state h).told order to own.line) (numbers_from 0 (length bus.agents)))) shows.order
    ∙ ap (λ numbers. map Probe (filter (passes (hart_of state h).told state.order to own.line) numbers))
    (ap (numbers_from 0) shows.agent_each ∙ all_numbers 0 state.harts)

pub marker_shows : (bus : BusState) (state : ModelState) (h sender : ℕ) → Shows bus state →
    Shows (record bus { agents = marker_taken bus h sender }) (after_marker state h sender)
marker_shows bus state h sender shows =
    subst (λ messages. Shows (record bus { agents = marker_taken bus h sender })
    (post_to behind sender (Probe h ∷ messages)))
    (passed_same bus state h sender (request_of bus.order h) shows
    ∙ ap (λ order. map Probe (told_on state h sender (request_of order h))) shows.order)
    (shows_posts (Probe h ∷ passed_on bus h sender (request_of bus.order h))
    (record bus { agents = with_agent bus.agents h (agent_behind sender (agent_at bus.agents h)) })
    behind sender
    (shows_agent bus state h (agent_behind sender (agent_at bus.agents h)) _ shows
    (ap (agent_behind sender) (shows.agents h)) refl refl refl))
  where
    behind : ModelState
    behind = with_hart state h (record (hart_of state h) { upstream = included (hart_of state h).upstream sender })

pub marker_ready : (bus : BusState) (h sender : ℕ) → IsReady bus →
    IsReady (record bus { agents = marker_taken bus h sender })
marker_ready bus h sender ready =
    ready_posts (Probe h ∷ passed_on bus h sender (request_of bus.order h))
    (record bus { agents = with_agent bus.agents h (agent_behind sender (agent_at bus.agents h)) }) sender
    (ready_agent bus h (agent_behind sender (agent_at bus.agents h)) ready (λ request is. is) (ready.few_armed h))

-- what the bus keeps as some origins were looked at
pub record PassesOn (old now : BusState) (h to line number : ℕ) : Type 0 where
  pub others : now ≡ record old { agents = now.agents }
  pub count : length now.agents ≡ length old.agents
  pub told : (agent_at now.agents h).told ≡ (agent_at old.agents h).told
  pub left :
      probes_sent (passes (agent_at old.agents h).told old.order to line)
      (numbers_from 0 (length old.agents)) to old.agents
      ≡ probes_sent (passes (agent_at old.agents h).told old.order to line)
      (numbers_from number (length old.agents - number)) to now.agents

pub none_passed : (old : BusState) (h to line : ℕ) → PassesOn old old h to line 0
none_passed old h to line =
    record { others = refl; count = refl; told = refl; left = all_probes _ (length old.agents) to old.agents }

pub one_passed : (old now next : BusState) (h to line number : ℕ) → PassesOn old now h to line number →
    number < length old.agents →
    next
    ≡ record now {
      agents = probe_sent (passes (agent_at now.agents h).told now.order to line number) number to
          now.agents;
    } → PassesOn old next h to line (suc number)
one_passed old now next h to line number passed below is =
    let sent = ap (λ (bus : BusState). bus.agents) is in
    let taken = passes (agent_at now.agents h).told now.order to line number in
    record {
      others = is ∙ ap (λ (bus : BusState). record bus { agents = probe_sent taken number to now.agents }) passed.others
          ∙ ap (λ agents. record old { agents = agents }) (sym sent);
      count = ap length sent ∙ count_after_probe taken number to now.agents ∙ passed.count;
      told = ap (λ agents. (agent_at agents h).told) sent ∙ told_after_probe taken number to h now.agents ∙ passed.told;
      left =
          next_probe (passes (agent_at old.agents h).told old.order to line) number (length old.agents) to now.agents
          next.agents _ below passed.left
          (sent ∙ ap (λ told. probe_sent (passes told now.order to line number) number to now.agents) passed.told
          ∙ ap (λ (bus : BusState). probe_sent (passes (agent_at old.agents h).told bus.order to line number) number to
          now.agents) passed.others);
    }

pub all_passed : (old now : BusState) (h to line number : ℕ) → PassesOn old now h to line number →
    number ≡ length old.agents →
    now
    ≡ record old {
      agents = probes_sent (passes (agent_at old.agents h).told old.order to line)
          (numbers_from 0 (length old.agents)) to old.agents;
    }
all_passed old now h to line number passed all =
    passed.others ∙ ap (λ agents. record old { agents = agents })
    (sym (no_probe_left (passes (agent_at old.agents h).told old.order to line) number (length old.agents) to now.agents
    _ all passed.left))

-- a hart that was sent a probe was told what it was told before
pub told_behind : (agents : List Agent) (h sender : ℕ) → let behind =
    with_agent agents h (agent_behind sender (agent_at agents h)) in
    (agent_at (with_agent behind sender (agent_posted (Probe h) (agent_at behind sender))) h).told
    ≡ (agent_at agents h).told
told_behind agents h sender =
    let behind = with_agent agents h (agent_behind sender (agent_at agents h)) in
    agent_kept (λ a. a.told) behind sender h _ refl ∙ agent_kept (λ a. a.told) agents h h _ refl

-- the agents after the sender is before the hart, and was sent a probe of it
abbrev pub first_answer : List Agent → ℕ → ℕ → List Agent
first_answer agents h sender =
    let behind = with_agent agents h (agent_behind sender (agent_at agents h)) in
    with_agent behind sender (agent_posted (Probe h) (agent_at behind sender))

pub marker_answered : (bus : BusState) (h sender : ℕ) (own : Request) → request_of bus.order h ≡ Some own →
    record bus {
      agents = probes_sent (passes (agent_at (first_answer bus.agents h sender) h).told bus.order sender own.line)
          (numbers_from 0 (length (first_answer bus.agents h sender))) sender (first_answer bus.agents h sender);
    }
    ≡ record bus { agents = marker_taken bus h sender }
marker_answered bus h sender own is =
    let behind = with_agent bus.agents h (agent_behind sender (agent_at bus.agents h)) in
    ap (λ agents. record bus { agents = agents })
    (ap (λ told. probes_sent (passes told bus.order sender own.line)
    (numbers_from 0 (length (first_answer bus.agents h sender))) sender
    (first_answer bus.agents h sender))
    (told_behind bus.agents h sender)
    ∙ ap (λ count. probes_sent (passes (agent_at bus.agents h).told bus.order sender own.line) (numbers_from 0 count)
    sender (first_answer bus.agents h sender))
    (count_with_agent behind sender _ ∙ count_with_agent bus.agents h _)
    ∙ probes_posted (passes (agent_at bus.agents h).told bus.order sender own.line)
    (numbers_from 0 (length bus.agents)) sender
    (first_answer bus.agents h sender)
    ∙ ap (λ found. posts_sent (passed_on bus h sender found) sender (first_answer bus.agents h sender)) (sym is))

-- the oldest message is taken out of a mailbox
pub taken_shows : (bus : BusState) (state : ModelState) (h : ℕ) → Shows bus state →
    Shows (record bus { agents = with_agent bus.agents h (agent_taken (agent_at bus.agents h)) })
    (taken state h (without_oldest (hart_of state h).mail))
taken_shows bus state h shows =
    shows_agent bus state h (agent_taken (agent_at bus.agents h))
    (record (hart_of state h) { mail = without_oldest (hart_of state h).mail }) shows
    (ap agent_taken (shows.agents h)) refl refl refl

pub taken_ready : (bus : BusState) (h : ℕ) → IsReady bus →
    IsReady (record bus { agents = with_agent bus.agents h (agent_taken (agent_at bus.agents h)) })
taken_ready bus h ready =
    ready_agent bus h (agent_taken (agent_at bus.agents h)) ready (λ request is. is) (ready.few_armed h)

-- an event with a message, and one without
pub delivers : (state : ModelState) (h : ℕ) (message : Message) → oldest (hart_of state h).mail ≡ Some message →
    let left = taken state h (without_oldest (hart_of state h).mail) in
    ((deliver_turn state h).state ≡ delivered left h message)
    × ((deliver_turn state h).outcome ≡ Delivered (losers_by left h message))
unfolding deliver_turn
delivers state h message is = by (hart_of state h).mail is
  where
    some_message : (a b : Message) → Some a ≡ Some b → a ≡ b
    some_message a b same = cc

    by : (mail : List Message) → oldest mail ≡ Some message →
        ((deliver_next state h mail).state ≡ delivered (taken state h (without_oldest mail)) h message)
        × ((deliver_next state h mail).outcome ≡ Delivered (losers_by (taken state h (without_oldest mail)) h message))
    by [] none = absurd (cc)
    by (first ∷ others) some = let same = some_message first message some in
        (ap (delivered (taken state h others) h) same, ap (λ m. Delivered (losers_by (taken state h others) h m)) same)

pub delivers_nothing : (state : ModelState) (h : ℕ) → oldest (hart_of state h).mail ≡ None →
    ((deliver_turn state h).state ≡ taken state h (without_oldest (hart_of state h).mail))
    × ((deliver_turn state h).outcome ≡ Idle)
unfolding deliver_turn
delivers_nothing state h none = by (hart_of state h).mail refl none
  where
    by : (mail : List Message) → (hart_of state h).mail ≡ mail → oldest mail ≡ None →
        ((deliver_next state h mail).state ≡ taken state h (without_oldest mail))
        × ((deliver_next state h mail).outcome ≡ Idle)
    by [] is nothing = (
      sym (ap (λ mail. with_hart state h (record (hart_of state h) { mail = mail })) (sym is)
          ∙ same_hart_there state h),
      refl,
    )
    by (first ∷ others) is nothing = absurd (cc)
