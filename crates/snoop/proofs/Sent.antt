-- the markers that are sent, as the agents have them and as the definition has them
use Rattle.std.proofs.Common.{◌≡◌, ◌≢◌, ◌∙◌, ℕ, suc, ◌+◌, ◌<◌, ◌≤◌, Bool, cond, List, [], ◌∷◌, length, map, is_some}
use Rattle.std.proofs.Common.{refl, ap, sym, subst, arith}
use Rattle.std.specs.List.{filter}
use Rattle.bus_agent.proofs.Laws.Agents.{agent_kept, agent_other, agent_same, count_with_agent}
use Rattle.bus_agent.specs.Agent.{Agent, agent_at, agent_of, agent_posted, with_agent}
use Rattle.el_base.specs.declared.config.Mode.{Mode}
use Rattle.el_base.specs.declared.config.Mode.TheVariants.{Plain, Sle, Tlr}
use Rattle.bus_order.specs.Order.{Request}
use Rattle.el_model.specs.Face.{Fate, LosesTo, Stays, Unmet, fate_at, markers_for, stays}
use Rattle.el_model.specs.State.{Hart, ModelState, count_up, post_all}
use Rattle.mail.specs.Mailbox.{Marker, Message, posted}
use Rattle.snoop.proofs.Ready.{ready_after}
use Rattle.snoop.specs.Fates.{fate_in, numbered_fate}
use Rattle.snoop.specs.Settled.{marker_sent, markers_sent, sent_in}
use Rattle.snoop.specs.Shows.{IsReady, BusState}
use Rattle.snoop.specs.declared.fates.Fate as fates

-- a marker changes the mailbox of one hart alone
one_kept : {A : Type 0} (f : Agent → A) (fate : Fate) (from to : ℕ) (agents : List Agent) (g : ℕ) →
    ((message : Message) (agent : Agent) → f (agent_posted message agent) ≡ f agent) →
    f (agent_at (marker_sent fate from to agents) g) ≡ f (agent_at agents g)
one_kept f Unmet from to agents g keeps = refl
one_kept f Stays from to agents g keeps = agent_kept f agents to g _ (keeps (Marker from) (agent_at agents to))
one_kept f (LosesTo winner) from to agents g keeps = refl

pub sent_kept : {A : Type 0} (f : Agent → A) (from : ℕ) (known : List fates.Fate) (to : ℕ) (agents : List Agent)
    (g : ℕ) → ((message : Message) (agent : Agent) → f (agent_posted message agent) ≡ f agent) →
    f (agent_at (markers_sent from known to agents) g) ≡ f (agent_at agents g)
sent_kept f from [] to agents g keeps = refl
sent_kept f from (fate ∷ others) to agents g keeps =
    sent_kept f (suc from) others to (marker_sent (numbered_fate fate) from to agents) g keeps
    ∙ one_kept f (numbered_fate fate) from to agents g keeps

one_other : (fate : Fate) (from to : ℕ) (agents : List Agent) (g : ℕ) → g ≢ to →
    agent_at (marker_sent fate from to agents) g ≡ agent_at agents g
one_other Unmet from to agents g other = refl
one_other Stays from to agents g other = agent_other agents to g _ other
one_other (LosesTo winner) from to agents g other = refl

other_sent : (from : ℕ) (known : List fates.Fate) (to : ℕ) (agents : List Agent) (g : ℕ) → g ≢ to →
    agent_at (markers_sent from known to agents) g ≡ agent_at agents g
other_sent from [] to agents g other = refl
other_sent from (fate ∷ others) to agents g other =
    other_sent (suc from) others to (marker_sent (numbered_fate fate) from to agents) g other
    ∙ one_other (numbered_fate fate) from to agents g other

one_count : (fate : Fate) (from to : ℕ) (agents : List Agent) → length (marker_sent fate from to agents) ≡ length agents
one_count Unmet from to agents = refl
one_count Stays from to agents = count_with_agent agents to _
one_count (LosesTo winner) from to agents = refl

count_sent : (from : ℕ) (known : List fates.Fate) (to : ℕ) (agents : List Agent) →
    length (markers_sent from known to agents) ≡ length agents
count_sent from [] to agents = refl
count_sent from (fate ∷ others) to agents =
    count_sent (suc from) others to (marker_sent (numbered_fate fate) from to agents)
    ∙ one_count (numbered_fate fate) from to agents

-- the markers of the harts that stay, by their fates
abbrev one_marker : Fate → ℕ → List Message → List Message
one_marker Unmet from later = later
one_marker Stays from later = Marker from ∷ later
one_marker (LosesTo winner) from later = later

abbrev markers_of : ℕ → List fates.Fate → List Message
markers_of from [] = []
markers_of from (fate ∷ others) = one_marker (numbered_fate fate) from (markers_of (suc from) others)

-- the receiver gets them in this order
one_received : (fate : Fate) (from to : ℕ) (agents : List Agent) (hart : Hart) (others : List fates.Fate)
    (later : List Message) → to < length agents → agent_at agents to ≡ agent_of hart →
    ((now : List Agent) (next : Hart) → to < length now → agent_at now to ≡ agent_of next →
    agent_at (markers_sent (suc from) others to now) to ≡ agent_of (post_all next later)) →
    agent_at (markers_sent (suc from) others to (marker_sent fate from to agents)) to
    ≡ agent_of (post_all hart (one_marker fate from later))
one_received Unmet from to agents hart others later inside is rest = rest agents hart inside is
one_received Stays from to agents hart others later inside is rest =
    let now = with_agent agents to (agent_posted (Marker from) (agent_at agents to)) in
    let count : length now ≡ length agents = count_with_agent agents to _ in
    rest now (record hart { mail = posted hart.mail (Marker from) }) (omega (arith, inside, count))
    (agent_same agents to _ inside ∙ ap (agent_posted (Marker from)) is)
one_received (LosesTo winner) from to agents hart others later inside is rest = rest agents hart inside is

received : (from : ℕ) (known : List fates.Fate) (to : ℕ) (agents : List Agent) (hart : Hart) → to < length agents →
    agent_at agents to ≡ agent_of hart →
    agent_at (markers_sent from known to agents) to ≡ agent_of (post_all hart (markers_of from known))
received from [] to agents hart inside is = is
received from (fate ∷ others) to agents hart inside is =
    one_received (numbered_fate fate) from to agents hart others (markers_of (suc from) others) inside is
    (received (suc from) others to)

-- they are the definition's
one_match : (test : ℕ → Bool) (fate : Fate) (from : ℕ) (numbers : List ℕ) (later : List Message) →
    is_some (stays fate) ≡ test from → map Marker (filter test numbers) ≡ later →
    map Marker (filter test (from ∷ numbers)) ≡ one_marker fate from later
one_match test Unmet from numbers later is rest =
    ap (λ b. map Marker (cond b (from ∷ filter test numbers) (filter test numbers))) (sym is) ∙ rest
one_match test Stays from numbers later is rest =
    ap (λ b. map Marker (cond b (from ∷ filter test numbers) (filter test numbers))) (sym is)
    ∙ ap (λ l. Marker from ∷ l) rest
one_match test (LosesTo winner) from numbers later is rest =
    ap (λ b. map Marker (cond b (from ∷ filter test numbers) (filter test numbers))) (sym is) ∙ rest

all_match : (test : ℕ → Bool) (from : ℕ) (known : List fates.Fate) (harts : List Hart) → length known ≡ length harts →
    ((k j : ℕ) → k < length known → j ≡ from + k → is_some (stays (fate_in known k)) ≡ test j) →
    map Marker (filter test (count_up from harts)) ≡ markers_of from known
all_match test from [] [] same is = refl
all_match test from [] (hart ∷ harts) same is = absurd (omega arith)
all_match test from (fate ∷ others) [] same is = absurd (omega arith)
all_match test from (fate ∷ others) (hart ∷ harts) same is =
    one_match test (numbered_fate fate) from (count_up (suc from) harts) (markers_of (suc from) others)
    (is 0 from (omega arith) (omega arith))
    (all_match test (suc from) others harts (omega arith)
    (λ k j inside next. is (suc k) j (omega arith) (omega (arith, next))))

-- the hart of the head gets the definition's messages, and no other one a message
pub head_posted : (mode : Mode) (state : ModelState) (head : Request) (known : List fates.Fate) (agents : List Agent)
    (hart : Hart) → length known ≡ length state.harts → ((h : ℕ) → fate_in known h ≡ fate_at state head h) →
    head.hart < length agents → agent_at agents head.hart ≡ agent_of hart →
    agent_at (sent_in mode known head.hart agents) head.hart ≡ agent_of (post_all hart (markers_for mode state head))
head_posted Tlr state head known agents hart count is inside at =
    received 0 known head.hart agents hart inside at
    ∙ ap (λ messages. agent_of (post_all hart messages))
    (sym
    (all_match (λ h. is_some (stays (fate_at state head h))) 0 known state.harts count
    (λ k j below same. ap (λ fate. is_some (stays fate)) (is k) ∙ ap (λ h. is_some (stays (fate_at state head h)))
    (omega (arith, same)))))
head_posted Sle state head known agents hart count is inside at = at
head_posted Plain state head known agents hart count is inside at = at

pub others_posted : (mode : Mode) (known : List fates.Fate) (to : ℕ) (agents : List Agent) (g : ℕ) → g ≢ to →
    agent_at (sent_in mode known to agents) g ≡ agent_at agents g
others_posted Tlr known to agents g other = other_sent 0 known to agents g other
others_posted Sle known to agents g other = refl
others_posted Plain known to agents g other = refl

pub posted_kept : {A : Type 0} (f : Agent → A) (mode : Mode) (known : List fates.Fate) (to : ℕ) (agents : List Agent)
    (g : ℕ) → ((message : Message) (agent : Agent) → f (agent_posted message agent) ≡ f agent) →
    f (agent_at (sent_in mode known to agents) g) ≡ f (agent_at agents g)
posted_kept f Tlr known to agents g keeps = sent_kept f 0 known to agents g keeps
posted_kept f Sle known to agents g keeps = refl
posted_kept f Plain known to agents g keeps = refl

pub posted_count : (mode : Mode) (known : List fates.Fate) (to : ℕ) (agents : List Agent) →
    length (sent_in mode known to agents) ≡ length agents
posted_count Tlr known to agents = count_sent 0 known to agents
posted_count Sle known to agents = refl
posted_count Plain known to agents = refl

-- messages ask nothing of the bus
pub sent_ready : (bus : BusState) (known : List fates.Fate) (to : ℕ) → IsReady bus
    → IsReady (record bus { agents = sent_in bus.mode known to bus.agents })
sent_ready bus known to ready = ready_after bus (record bus { agents = sent_in bus.mode known to bus.agents }) ready
    (record {
      mode = refl;
      agent_each = posted_count bus.mode known to bus.agents;
      cache_each = refl;
      well_formed = ready.well_formed;
      inside = λ line has. has;
      once = ready.once;
      raised = λ h request is. record {
        is = sym (posted_kept (λ agent. agent.raised) bus.mode known to bus.agents h (λ message agent. refl)) ∙ is;
        room = λ room. room;
      };
      ordered = λ h request is. record { is = is; room = λ room. room };
      few_armed = λ h.
          subst (λ n. n ≤ 15)
          (sym (posted_kept (λ agent. agent.armed) bus.mode known to bus.agents h (λ message agent. refl)))
          (ready.few_armed h);
      unmarked = λ h none. none;
    })
