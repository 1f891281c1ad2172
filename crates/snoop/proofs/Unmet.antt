-- a head that meets no section changes nothing
use Rattle.std.proofs.Common.{◌≡◌, ◌∙◌, ℕ, zero, suc, true, List, [], ◌∷◌, None, length, map, refl, ap, sym, subst}
use Rattle.std.proofs.Common.{if◌then◌else◌}
use Rattle.std.proofs.lemmas.List.{length-map}
use Rattle.bus_agent.specs.Agent.{Agent, agent_at}
use Rattle.bus_order.specs.Order.{Request}
use Rattle.el_base.specs.Losers.{losers_of}
use Rattle.el_base.specs.declared.config.Mode.{Mode}
use Rattle.el_base.specs.declared.config.Mode.TheVariants.{Plain, Sle, Tlr}
use Rattle.el_model.specs.Conflicts.{wins_over}
use Rattle.el_model.specs.Face.{LosesTo, Unmet, deferring_fate, fate_at, face_losers, faced, winner_in}
use Rattle.el_model.specs.State.{ModelState, hart_of}
use Rattle.snoop.proofs.Changes.{nobody_changed}
use Rattle.snoop.proofs.Faced.{faced_losers, faced_shows}
use Rattle.snoop.proofs.Facing.{plain_unmet}
use Rattle.snoop.specs.Fates.{fate_in, nobody_met}
use Rattle.snoop.specs.Settled.{AreSettledBelow, loses, markers_sent, sent_in, settled_agent}
use Rattle.snoop.specs.Shows.{BusState, IsReady, Shows}
use Rattle.snoop.specs.declared.fates.Fate as fates
use Rattle.snoop.specs.declared.fates.Fate.TheVariants as declared

each_unmet : (known : List fates.Fate) → nobody_met known ≡ true → (h : ℕ) → fate_in known h ≡ Unmet
each_unmet [] all h = refl
each_unmet (declared.Unmet ∷ known) all zero = refl
each_unmet (declared.Unmet ∷ known) all (suc h) = each_unmet known all h
each_unmet (declared.Stays ∷ known) all h = absurd (cc)
each_unmet (declared.LosesTo winner ∷ known) all h = absurd (cc)

no_marker : (from : ℕ) (known : List fates.Fate) (to : ℕ) (agents : List Agent) → nobody_met known ≡ true →
    markers_sent from known to agents ≡ agents
no_marker from [] to agents all = refl
no_marker from (declared.Unmet ∷ known) to agents all = no_marker (suc from) known to agents all
no_marker from (declared.Stays ∷ known) to agents all = absurd (cc)
no_marker from (declared.LosesTo winner ∷ known) to agents all = absurd (cc)

nothing_sent : (mode : Mode) (known : List fates.Fate) (to : ℕ) (agents : List Agent) → nobody_met known ≡ true →
    sent_in mode known to agents ≡ agents
nothing_sent Plain known to agents all = refl
nothing_sent Sle known to agents all = refl
nothing_sent Tlr known to agents all = no_marker 0 known to agents all

nobody_settled : (head : Request) (known : List fates.Fate) (bus : BusState) → nobody_met known ≡ true →
    AreSettledBelow head (fate_in known) (length known) bus bus
nobody_settled head known bus all =
    nobody_changed (λ h. settled_agent bus head (fate_in known h)) (λ h. loses (fate_in known h)) (length known) bus
    (λ h. ap (λ fate. settled_agent bus head fate (agent_at bus.agents h)) (each_unmet known all h))
    (λ h. ap loses (each_unmet known all h))

module _ (head : Request) (bus : BusState) (state : ModelState) (shows : Shows bus state) where
  module _ (known : List fates.Fate) (count : length known ≡ length bus.agents) (all : nobody_met known ≡ true)
      (is : (h : ℕ) → fate_in known h ≡ fate_at state head h) where
    pub unmet_shows : Shows bus (faced state head)
    unmet_shows =
        subst (λ agents. Shows (record bus { agents = agents }) (faced state head))
        (nothing_sent bus.mode known head.hart bus.agents all)
        (faced_shows head known bus bus state count (nobody_settled head known bus all) shows is)

    pub unmet_losers : losers_of (λ h. None) ≡ face_losers state head
    unmet_losers = (λ i. losers_of (λ h. winner_in (sym (each_unmet known all h) i))) ∙ faced_losers head known state is

  -- in the plain mode no head meets a section
  module _ (ready : IsReady bus) (plain : bus.mode ≡ Plain) where
    abbrev no_fates : List fates.Fate
    no_fates = map (λ agent. declared.Unmet) bus.agents

    all_unmet : (agents : List Agent) → nobody_met (map (λ agent. declared.Unmet) agents) ≡ true
    all_unmet [] = refl
    all_unmet (agent ∷ agents) = all_unmet agents

    plain_fate : (h : ℕ) → fate_in no_fates h ≡ fate_at state head h
    plain_fate h =
        each_unmet no_fates (all_unmet bus.agents) h
        ∙ sym
        (ap
        (λ met. if met
        then (if wins_over state.config.mode head.stamp (hart_of state h) then LosesTo head.hart
        else deferring_fate state.config.mode state head (hart_of state h))
        else Unmet)
        (plain_unmet bus state head h ready shows plain))

    pub plain_shows : Shows bus (faced state head)
    plain_shows =
        unmet_shows no_fates (length-map bus.agents (λ agent. declared.Unmet)) (all_unmet bus.agents) plain_fate

    pub plain_losers : losers_of (λ h. None) ≡ face_losers state head
    plain_losers =
        unmet_losers no_fates (length-map bus.agents (λ agent. declared.Unmet)) (all_unmet bus.agents) plain_fate
