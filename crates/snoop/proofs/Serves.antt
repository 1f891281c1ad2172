-- the bus shows what the definition makes of a served request, and is ready for what comes next
use Rattle.std.proofs.Common.{◌≡◌, ◌≢◌, ◌∙◌, ℕ, suc, ◌+◌, ◌<◌, ◌≤◌, ◌==◌, ◌&&◌, ◌||◌, not, Bool, true, false, List, []}
use Rattle.std.proofs.Common.{◌∷◌, length}
use Rattle.std.proofs.Common.{Option, Some, None, is_some, refl, ap, sym, subst, inl, inr, arith, if◌then◌else◌}
use Rattle.std.specs.List.{list_any}
use Rattle.std.proofs.lemmas.Bool.{cases_eq, cases_lt}
use Rattle.bus_agent.proofs.Laws.Agents.{agent_past}
use Rattle.bus_agent.specs.Agent.{Agent, agent_at, agent_claiming, agent_forgetting, agent_of, agent_served}
use Rattle.bus_order.specs.Order.{IsOneEach, Request, removed, request_of}
use Rattle.bus_order.proofs.Laws.LookUps.{request_of_removed_other, request_of_removed_own}
use Rattle.bus_order.proofs.Laws.Orders.{one_each_removed}
use Rattle.residency.specs.Cache.{has_bit, has_marks, is_resident, marked, room_of, touched}
use Rattle.cache_sets.specs.Cached.{Cached}
use Rattle.residency.specs.Residency.{Way}
use Rattle.residency.specs.WellFormed.{IsWellFormed}
use Rattle.residency.proofs.Laws.MarkLemmas.{has_marks-marked, no_marks}
use Rattle.residency.proofs.Laws.WellFormedLemmas.{well_formed-marked}
use Rattle.coherence.specs.Caches.{cache_at, others_from}
use Rattle.coherence.specs.Caches as copies
use Rattle.coherence.specs.Lent.{lent_all, slotted_at}
use Rattle.coherence.specs.Served.{Copies, StaysCoherent, lines_after}
use Rattle.coherence.proofs.Laws.Offered.{length-lent, lent_at}
use Rattle.el_base.specs.declared.outcomes.Need.{Need}
use Rattle.el_base.specs.declared.outcomes.Need.TheVariants.{Write}
use Rattle.el_base.proofs.Laws.Tests.{other_test, own_test}
use Rattle.el_base.proofs.Laws.Cases.{false_true}
use Rattle.el_base.proofs.Laws.Options.{none_nor_some}
use Rattle.el_model.specs.Conflicts.{meets_bit}
use Rattle.el_model.specs.Serve.{Free, bystander, obstacle_to, others_cache, others_have, own_copy, served}
use Rattle.el_model.specs.Serve.{served_hart, serving, with_claim}
use Rattle.el_model.specs.Plain.{armed_count}
use Rattle.el_model.specs.State.{Armed, Hart, ModelState, Section, armed_of, cache_of, count_up, each_hart, hart_of}
use Rattle.el_model.specs.State.{is_live, section_of}
use Rattle.el_model.proofs.Laws.HartParts.{claim_armed, claim_section}
use Rattle.snoop.specs.Serving.{CopiesClaim, CopiesServe, Serves, agent_after_serve}
use Rattle.line_pool.specs.Pooled.{Pooled}
use Rattle.snoop.specs.Shows.{CanBeServed, Holding, IsReady, IsUnmarked, BusState, Shows, TellsIn, has_room_in}
use Rattle.snoop.specs.Shows.{lent_copies, lives, lives_at}
use Rattle.section_laws.proofs.Laws.FreeLines.{unmet as section_unmet}
use Rattle.snoop.proofs.Lent.{beyond, count_by_pools, residency_at, ways_at}
use Rattle.snoop.proofs.Laws.Living.{TellsSection, lives_alike, lives_shown, lives_unarmed}
use Rattle.snoop.proofs.Ready.{ready_after}
use Rattle.section_laws.proofs.Laws.ServedCaches.{others_room, others_well_formed, own_after, own_after_well_formed}
use Rattle.el_model.proofs.Laws.Unmarked.{others_unmarked}
use Rattle.snoop.proofs.ServedMarks.{others_marks, own_after_marks}
use Rattle.snoop.proofs.Showing.{ShowsEach, lies_yet, shows_each}

-- a hart that the test takes for another, and one that it takes for itself
at_own : {A : Type 0} (g h : ℕ) (x y : A) → g ≡ h → (if g == h then x else y) ≡ x
at_own g h x y same = ap (λ test. if test then x else y) (ap (λ k. g == k) (sym same) ∙ own_test g)

at_other : {A : Type 0} (g h : ℕ) (x y : A) → g ≢ h → (if g == h then x else y) ≡ y
at_other g h x y other = ap (λ test. if test then x else y) (other_test g h other)

-- the copies after the line was claimed
abbrev claimed_cache : Bool → ℕ → Need → List (List Way) → List (List Way)
claimed_cache true line need cache = marked cache line need
claimed_cache false line need cache = cache

claim_ways : (live : Bool) (request : Request) (old new : Copies) → CopiesClaim live request old new → (g : ℕ) →
    (cache_at new.caches g).ways ≡ (cache_at old.caches g).ways
claim_ways true request old new claim g =
    elim (cases_eq g request.hart) [
      | inl same ↦ ap (λ k. (cache_at new.caches k).ways) same ∙ claim.own.ways
          ∙ ap (λ k. (cache_at old.caches k).ways) (sym same)
      | inr other ↦ ap (λ cache. cache.ways) (claim.others g other)
    ]
claim_ways false request old new claim g = ap (λ copies. (cache_at copies.caches g).ways) claim

claim_others : (live : Bool) (request : Request) (old new : Copies) → CopiesClaim live request old new → (g : ℕ) →
    g ≢ request.hart → cache_at new.caches g ≡ cache_at old.caches g
claim_others true request old new claim g other = claim.others g other
claim_others false request old new claim g other = ap (λ copies. cache_at copies.caches g) claim

claim_own : (live : Bool) (request : Request) (old new : Copies) → CopiesClaim live request old new →
    (cache_at new.caches request.hart).residency ≡ claimed_cache live request.line request.need
    (cache_at old.caches request.hart).residency
claim_own true request old new claim = claim.own.residency
claim_own false request old new claim = ap (λ copies. (cache_at copies.caches request.hart).residency) claim

claim_stays : (live : Bool) (request : Request) (old new : Copies) → CopiesClaim live request old new →
    StaysCoherent old new
claim_stays true request old new claim = claim.stays
claim_stays false request old new claim =
    subst (λ copies. StaysCoherent old copies) (sym claim)
    (record { first = refl; lines = refl; caches = refl; coherent = λ bytes was. was })

copies_stay : (live : Bool) (request : Request) (old new : Copies) → CopiesServe live request old new →
    StaysCoherent old new
copies_stay live request old new serve =
    let first = serve.served.stays in
    let second = claim_stays live request serve.filled new serve.claimed in
    record {
      first = second.first ∙ first.first;
      lines = second.lines ∙ first.lines;
      caches = second.caches ∙ first.caches;
      coherent = λ bytes tells. second.coherent bytes (first.coherent bytes tells);
    }

-- main memory after the request was served
claim_lines : (live : Bool) (request : Request) (old new : Copies) → CopiesClaim live request old new →
    new.lines ≡ old.lines
claim_lines true request old new claim = claim.lines
claim_lines false request old new claim = ap (λ copies. copies.lines) claim

-- what a served request makes of the lines of the caches, whatever pools lend these before and after
abbrev own_filled : Pooled → BusState → Request → List (List Way)
own_filled pool bus request =
    own_after (slotted_at bus.copies.caches request.hart).ways
    (copies.others_have (lent_all pool bus.copies.caches) request.hart request.line) request.need
    (slotted_at bus.copies.caches request.hart).residency request.line

-- main memory has not moved, and what the pool of before and the caches told, the one of after and they tell
pub record ServeStays (before after : Pooled) (old new : Holding) : Type 0 where
  pub first : new.first ≡ old.first
  pub lines : length new.lines ≡ length old.lines
  pub caches : length new.caches ≡ length old.caches
  pub told : (bytes : ℕ → List ℕ) → TellsIn before old bytes → TellsIn after new bytes

module _ (bus new : BusState) (request : Request) (before after : Pooled)
    (serves : Serves request before after bus new) where
  abbrev lived : Bool
  lived = lives_at bus request.hart

  abbrev old_copies : Copies
  old_copies = lent_copies before bus.copies

  abbrev new_copies : Copies
  new_copies = lent_copies after new.copies

  pub serve_stays : ServeStays before after bus.copies new.copies
  serve_stays = record {
    first = stays.first;
    lines = stays.lines;
    caches = count_by_pools before after bus.copies new.copies stays;
    told = λ bytes told. record { lent = serves.lent; told = stays.coherent bytes told.told };
  }
    where
      stays : StaysCoherent old_copies new_copies
      stays = copies_stay lived request old_copies new_copies serves.copies

  pub serve_lines : new.copies.lines ≡ lines_after request.hart request.line (lent_copies before bus.copies)
  serve_lines =
      claim_lines lived request serves.copies.filled new_copies serves.copies.claimed ∙ serves.copies.served.memory

  serve_ways : (g : ℕ) → (slotted_at new.copies.caches g).ways ≡ (slotted_at bus.copies.caches g).ways
  serve_ways g =
      sym (ways_at after new.copies.caches g)
      ∙ claim_ways lived request serves.copies.filled new_copies serves.copies.claimed g
      ∙ serves.copies.served.ways g
      ∙ ways_at before bus.copies.caches g

  serve_others : (g : ℕ) → g ≢ request.hart →
      (slotted_at new.copies.caches g).residency
      ≡ others_cache (is_resident (slotted_at bus.copies.caches request.hart).residency request.line) request.need
      (slotted_at bus.copies.caches g).residency request.line
  serve_others g other =
      sym (residency_at after new.copies.caches g)
      ∙ ap (λ (cache : Cached). cache.residency)
      (claim_others lived request serves.copies.filled new_copies serves.copies.claimed g other)
      ∙ serves.copies.served.others g other
      ∙ ap (λ cache. others_cache (is_resident cache request.line) request.need
      (cache_at old_copies.caches g).residency request.line)
      (residency_at before bus.copies.caches request.hart)
      ∙ ap (λ cache. others_cache (is_resident (slotted_at bus.copies.caches request.hart).residency request.line)
      request.need cache request.line)
      (residency_at before bus.copies.caches g)

  -- the cache of the served hart before it is claimed
  filled_is : (cache_at serves.copies.filled.caches request.hart).residency ≡ own_filled before bus request
  filled_is =
      serves.copies.served.own
      ∙ ap (λ (cache : Cached). own_after cache.ways
      (copies.others_have old_copies.caches request.hart request.line) request.need
      cache.residency request.line) (lent_at before bus.copies.caches request.hart)

  filled_here : is_resident (own_filled before bus request) request.line ≡ true
  filled_here = ap (λ cache. is_resident cache request.line) (sym filled_is) ∙ serves.copies.served.here

  serve_own : (slotted_at new.copies.caches request.hart).residency
      ≡ claimed_cache lived request.line request.need (own_filled before bus request)
  serve_own =
      sym (residency_at after new.copies.caches request.hart)
      ∙ claim_own lived request serves.copies.filled new_copies serves.copies.claimed
      ∙ ap (claimed_cache lived request.line request.need) filled_is

-- whether another hart has a copy, as the caches tell it and as the definition does
others_all : (test : ℕ → Bool) (h line from : ℕ) (caches : List Cached) (harts : List Hart) →
    length caches ≡ length harts →
    ((k number : ℕ) → number ≡ from + k → (not (number == h) && is_resident (cache_at caches k).residency line)
    ≡ test number) → others_from from caches h line ≡ list_any test (count_up from harts)
others_all test h line from [] [] same each = refl
others_all test h line from [] (hart ∷ harts) same each = absurd (omega (arith, same))
others_all test h line from (cache ∷ caches) [] same each = absurd (omega (arith, same))
others_all test h line from (cache ∷ caches) (hart ∷ harts) same each =
    ap (λ first. first || others_from (suc from) caches h line) (each 0 from (omega arith))
    ∙ ap (λ rest. test from || rest)
    (others_all test h line (suc from) caches harts (omega (arith, same))
    (λ k number is. each (suc k) number (omega (arith, is))))

others_same : (pool : Pooled) (bus : BusState) (state : ModelState) (h line : ℕ) → Shows bus state →
    copies.others_have (lent_all pool bus.copies.caches) h line ≡ others_have state h line
others_same pool bus state h line shows =
    others_all (λ other. not (other == h) && is_resident (cache_of state other) line) h line 0
    (lent_all pool bus.copies.caches) state.harts
    (length-lent pool bus.copies.caches ∙ shows.cache_each)
    (λ k number is. let same : k ≡ number = omega (arith, is) in
    ap (λ cache. not (number == h) && is_resident cache line)
    (residency_at pool bus.copies.caches k ∙ ap (λ n. (slotted_at bus.copies.caches n).residency) same
    ∙ shows.caches number))

-- the definition's hart after its request was served
claim_cache : (live : Bool) (request : Request) (hart : Hart) →
    (with_claim live request hart).cache ≡ claimed_cache live request.line request.need hart.cache
claim_cache true request hart = refl
claim_cache false request hart = refl

claim_agent : (live : Bool) (request : Request) (hart : Hart) →
    agent_of (with_claim live request hart) ≡ agent_claiming live request.line (agent_of hart)
claim_agent true request hart = refl
claim_agent false request hart = refl

-- where it is to write, no other hart that is not armed has a bit on its line
unmet : (bus : BusState) (state : ModelState) (request : Request) (g : ℕ) → IsReady bus → Shows bus state →
    request_of bus.order request.hart ≡ Some request →
    obstacle_to state request ≡ Free → armed_count (armed_of state g) ≡ 0 → g ≢ request.hart → request.need ≡ Write →
    has_bit (cache_of state g) request.line ≡ false
unmet bus state request g ready shows ordered free unarmed apart write = by (section_of state g) refl
  where
    by : (section : Option Section) → section_of state g ≡ section → has_bit (cache_of state g) request.line ≡ false
    by None none =
        no_marks (cache_of state g) request.line
        (sym (lives_unarmed (cache_of state g) _ unarmed) ∙ sym (shows.live g) ∙ ap is_some none)
    by (Some section) live =
        ap (meets_bit (hart_of state g) request.line) (sym write)
        ∙ section_unmet state request.hart g request section (subst IsOneEach shows.order ready.once)
        (ap (λ order. request_of order request.hart) (sym shows.order) ∙ ordered) free apart live

-- the part of the bus that a served request changes, hart by hart
served_agent : (state : ModelState) (request : Request) (g : ℕ) (hart : Hart) →
    (g ≡ request.hart → hart ≡ hart_of state g) →
    agent_after_serve (is_live state request.hart) request g (agent_of hart) ≡ agent_of (serving state request g hart)
served_agent state request g hart is =
    elim (cases_eq g request.hart) [
      | inl same ↦ let live : is_live state request.hart ≡ is_some hart.section = ap (is_live state) (sym same)
          ∙ ap (λ k. is_some k.section) (sym (is same)) in
          at_own g request.hart _ _ same
          ∙ ap (λ lives. agent_claiming lives request.line
          (agent_served (agent_forgetting request.hart (agent_of hart)))) live
          ∙ sym (claim_agent (is_some hart.section) request _)
          ∙ ap agent_of
          (sym (at_own g request.hart (served_hart state request hart) (bystander state request hart) same))
      | inr other ↦ at_other g request.hart _ _ other
          ∙ ap agent_of
          (sym (at_other g request.hart (served_hart state request hart) (bystander state request hart) other))
    ]

serving_section : (state : ModelState) (request : Request) (g : ℕ) (hart : Hart) →
    (serving state request g hart).section ≡ hart.section
serving_section state request g hart =
    elim (cases_eq g request.hart) [
      | inl same ↦ ap (λ k. k.section)
          (at_own g request.hart (served_hart state request hart) (bystander state request hart) same)
          ∙ claim_section (is_some hart.section) request _
      | inr other ↦ ap (λ k. k.section)
          (at_other g request.hart (served_hart state request hart) (bystander state request hart) other)
    ]

serving_armed : (state : ModelState) (request : Request) (g : ℕ) (hart : Hart) →
    (serving state request g hart).armed ≡ hart.armed
serving_armed state request g hart =
    elim (cases_eq g request.hart) [
      | inl same ↦
          ap (λ k. k.armed) (at_own g request.hart (served_hart state request hart) (bystander state request hart) same)
          ∙ claim_armed (is_some hart.section) request _
      | inr other ↦ ap (λ k. k.armed)
          (at_other g request.hart (served_hart state request hart) (bystander state request hart) other)
    ]

-- the residency of each cache is the definition's
served_cache : (bus new : BusState) (state : ModelState) (request : Request) (before after : Pooled) → IsReady bus →
    Shows bus state → request.hart < length bus.agents →
    Serves request before after bus new → (g : ℕ) → g < length bus.agents →
    (slotted_at new.copies.caches g).residency ≡ (serving state request g (hart_of state g)).cache
served_cache bus new state request before after ready shows exists serves g below =
    elim (cases_eq g request.hart) [
      | inl same ↦ ap (λ k. (slotted_at new.copies.caches k).residency) same
          ∙ serve_own bus new request before after serves
          ∙ ap (λ live. claimed_cache live request.line request.need (own_filled before bus request))
          (lives_shown bus state request.hart shows)
          ∙ ap (claimed_cache (is_live state request.hart) request.line request.need) filled
          ∙ sym (claim_cache (is_live state request.hart) request _)
          ∙ sym (ap (λ k. k.cache) (at_own request.hart request.hart
          (served_hart state request (hart_of state request.hart))
          (bystander state request (hart_of state request.hart)) refl))
          ∙ ap (λ k. (serving state request k (hart_of state k)).cache) (sym same)
      | inr other ↦ serve_others bus new request before after serves g other
          ∙ ap (λ cache. others_cache (is_resident (slotted_at bus.copies.caches request.hart).residency request.line)
          request.need cache request.line)
          (shows.caches g)
          ∙ ap (λ cache. others_cache (is_resident cache request.line) request.need (cache_of state g) request.line)
          (shows.caches request.hart)
          ∙ ap (λ k. k.cache)
          (sym (at_other g request.hart (served_hart state request (hart_of state g))
          (bystander state request (hart_of state g)) other))
    ]
  where
    filled : own_filled before bus request
        ≡ touched
        (own_copy state.config.ways (others_have state request.hart request.line) request.need
        (cache_of state request.hart) request.line) request.line
    filled =
        ap (λ ways. own_after ways (copies.others_have (lent_all before bus.copies.caches) request.hart request.line)
        request.need
        (slotted_at bus.copies.caches request.hart).residency request.line) (shows.ways request.hart
        (omega (arith, exists, shows.agent_each)))
        ∙ ap (λ others. own_after state.config.ways others request.need
        (slotted_at bus.copies.caches request.hart).residency request.line)
        (others_same before bus state request.hart request.line shows)
        ∙ ap (λ cache. own_after state.config.ways (others_have state request.hart request.line) request.need cache
        request.line) (shows.caches request.hart)

-- a cache of a hart that is not armed has a bit where it had one
served_marks : (bus new : BusState) (state : ModelState) (request : Request) (before after : Pooled) → IsReady bus →
    Shows bus state → request_of bus.order request.hart ≡ Some request →
    obstacle_to state request ≡ Free → Serves request before after bus new → (g : ℕ) → g < length bus.agents →
    armed_count (armed_of state g) ≡ 0 →
    has_marks (slotted_at new.copies.caches g).residency ≡ has_marks (slotted_at bus.copies.caches g).residency
served_marks bus new state request before after ready shows ordered free serves g below unarmed =
    elim (cases_eq g request.hart) [
      | inl same ↦ ap (λ k. has_marks (slotted_at new.copies.caches k).residency) same
          ∙ ap has_marks (serve_own bus new request before after serves)
          ∙ claimed (lives_at bus request.hart) (sym
          (lives_unarmed (slotted_at bus.copies.caches request.hart).residency (agent_at bus.agents request.hart).armed
          (noted request.hart ∙ ap (λ k. armed_count (armed_of state k)) (sym same) ∙ unarmed)))
          ∙ ap (λ k. has_marks (slotted_at bus.copies.caches k).residency) (sym same)
      | inr other ↦ ap has_marks (serve_others bus new request before after serves g other)
          ∙ others_marks (slotted_at bus.copies.caches g).ways _ request.need
          (slotted_at bus.copies.caches g).residency request.line
          (ready.well_formed g (omega (arith, below, ready.each)))
          (λ write. ap (λ cache. has_bit cache request.line) (shows.caches g)
          ∙ unmet bus state request g ready shows ordered free unarmed other write)
    ]
  where
    can : CanBeServed bus request.hart request
    can = ready.ordered request.hart request ordered

    well : IsWellFormed (slotted_at bus.copies.caches request.hart).ways
        (slotted_at bus.copies.caches request.hart).residency
    well = ready.well_formed request.hart (omega (arith, can.hart_exists, ready.each))

    noted : (h : ℕ) → (agent_at bus.agents h).armed ≡ armed_count (armed_of state h)
    noted h = ap (λ agent. agent.armed) (shows.agents h)

    claimed : (live : Bool) → has_marks (slotted_at bus.copies.caches request.hart).residency ≡ live →
        has_marks (claimed_cache live request.line request.need (own_filled before bus request))
        ≡ has_marks (slotted_at bus.copies.caches request.hart).residency
    claimed true is =
        has_marks-marked (slotted_at bus.copies.caches request.hart).ways (own_filled before bus request)
        request.line request.need
        (own_after_well_formed (slotted_at bus.copies.caches request.hart).ways _ request.need
        (slotted_at bus.copies.caches request.hart).residency request.line well can.room)
        (filled_here bus new request before after serves) ∙ sym is
    claimed false is =
        own_after_marks (slotted_at bus.copies.caches request.hart).ways _ request.need
        (slotted_at bus.copies.caches request.hart).residency request.line well can.room

-- and one without bits has none, which is of a hart without a live section
serve_unmarked : (bus new : BusState) (request : Request) (before after : Pooled) → IsReady bus →
    request_of bus.order request.hart ≡ Some request → Serves request before after bus new → (g : ℕ) →
    IsUnmarked bus.copies g → IsUnmarked new.copies g
serve_unmarked bus new request before after ready ordered serves g none =
    elim (cases_eq g request.hart) [
      | inl same ↦ subst (IsUnmarked new.copies) (sym same) (own (subst (IsUnmarked bus.copies) same none))
      | inr other ↦ ap has_marks (serve_others bus new request before after serves g other)
          ∙ others_unmarked _ request.need (slotted_at bus.copies.caches g).residency request.line none
    ]
  where
    can : CanBeServed bus request.hart request
    can = ready.ordered request.hart request ordered

    own : IsUnmarked bus.copies request.hart → IsUnmarked new.copies request.hart
    own bare =
        ap has_marks (serve_own bus new request before after serves)
        ∙ ap
        (λ marks. has_marks (claimed_cache (marks && ((agent_at bus.agents request.hart).armed == 0)) request.line
        request.need (own_filled before bus request)))
        bare
        ∙ own_after_marks (slotted_at bus.copies.caches request.hart).ways _ request.need
        (slotted_at bus.copies.caches request.hart).residency request.line
        (ready.well_formed request.hart (omega (arith, can.hart_exists, ready.each))) can.room
        ∙ bare

-- it tells of each hart whether it has a live section
served_tells : (bus new : BusState) (state : ModelState) (request : Request) (before after : Pooled) → IsReady bus →
    Shows bus state → request_of bus.order request.hart ≡ Some request →
    obstacle_to state request ≡ Free → Serves request before after bus new → (g : ℕ) → g < length bus.agents →
    TellsSection (serving state request g (hart_of state g))
served_tells bus new state request before after ready shows ordered free serves g below =
    let can = ready.ordered request.hart request ordered in
    let armed = serving_armed state request g (hart_of state g) in
    record {
      live =
          ap is_some (serving_section state request g (hart_of state g)) ∙ shows.live g
          ∙ lives_alike (cache_of state g) (serving state request g (hart_of state g)).cache
          (armed_count (armed_of state g))
          (λ unarmed. ap has_marks (sym (shows.caches g))
          ∙ sym (served_marks bus new state request before after ready shows ordered free serves g below unarmed)
          ∙ ap has_marks (served_cache bus new state request before after ready shows can.hart_exists serves g below))
          ∙ ap (λ (found : Option Armed). lives (serving state request g (hart_of state g)).cache (armed_count found))
          (sym armed);
      arms = rw armed (shows.arms g);
    }

-- the state that is shown
pub serve_shows : (bus new : BusState) (state : ModelState) (request : Request) (before after : Pooled) → IsReady bus →
    Shows bus state → request_of bus.order request.hart ≡ Some request → obstacle_to state request ≡ Free →
    Serves request before after bus new → Shows new (served state request)
unfolding served
serve_shows bus new state request before after ready shows ordered free serves =
    subst (λ order. Shows new (record (each_hart state (serving state request)) { order = order }))
    (serves.order ∙ ap (λ order. removed order request.hart) shows.order)
    (shows_each bus new state (serving state request) shows each)
  where
    can : CanBeServed bus request.hart request
    can = ready.ordered request.hart request ordered

    each : ShowsEach bus new state (serving state request)
    each = record {
      mode = serves.mode;
      agent_each = serves.agents.count;
      cache_each = (serve_stays bus new request before after serves).caches;
      ways = serve_ways bus new request before after serves;
      agents = λ g below.
          serves.agents.each g below
          ∙ ap (λ live. agent_after_serve live request g (agent_at bus.agents g))
          (lives_shown bus state request.hart shows)
          ∙ ap (agent_after_serve (is_live state request.hart) request g) (shows.agents g)
          ∙ served_agent state request g (hart_of state g) (λ same. refl);
      caches = served_cache bus new state request before after ready shows can.hart_exists serves;
      told = served_tells bus new state request before after ready shows ordered free serves;
      memory =
          let stays = serve_stays bus new request before after serves in
          lies_yet bus.copies new.copies state.committed stays.first stays.lines shows.memory;
    }

-- every cache is as it must be
served_well_formed : (bus new : BusState) (request : Request) (before after : Pooled) → IsReady bus →
    request_of bus.order request.hart ≡ Some request → Serves request before after bus new → (g : ℕ) →
    g < length bus.agents →
    IsWellFormed (slotted_at bus.copies.caches g).ways (slotted_at new.copies.caches g).residency
served_well_formed bus new request before after ready ordered serves g below =
    elim (cases_eq g request.hart) [
      | inl same ↦
          subst (λ k. IsWellFormed (slotted_at bus.copies.caches k).ways (slotted_at new.copies.caches k).residency)
          (sym same)
          (subst (λ cache. IsWellFormed ways cache) (sym (serve_own bus new request before after serves))
          (claimed (lives_at bus request.hart)))
      | inr other ↦ subst (λ cache. IsWellFormed (slotted_at bus.copies.caches g).ways cache)
          (sym (serve_others bus new request before after serves g other))
          (others_well_formed (slotted_at bus.copies.caches g).ways _ request.need
          (slotted_at bus.copies.caches g).residency request.line
          (ready.well_formed g (omega (arith, below, ready.each))))
    ]
  where
    can : CanBeServed bus request.hart request
    can = ready.ordered request.hart request ordered

    ways : ℕ
    ways = (slotted_at bus.copies.caches request.hart).ways

    filled : IsWellFormed (slotted_at bus.copies.caches request.hart).ways (own_filled before bus request)
    filled =
        own_after_well_formed (slotted_at bus.copies.caches request.hart).ways _ request.need
        (slotted_at bus.copies.caches request.hart).residency request.line
        (ready.well_formed request.hart (omega (arith, can.hart_exists, ready.each))) can.room

    claimed : (live : Bool) → IsWellFormed (slotted_at bus.copies.caches request.hart).ways
        (claimed_cache live request.line request.need (own_filled before bus request))
    claimed true = well_formed-marked _ (own_filled before bus request) request.line request.need filled
    claimed false = filled

-- an agent is noted as it was, and has raised what it had raised
armed_claimed : (live : Bool) (line : ℕ) (agent : Agent) → (agent_claiming live line agent).armed ≡ agent.armed
armed_claimed true line agent = refl
armed_claimed false line agent = refl

armed_after : (live : Bool) (request : Request) (g : ℕ) (agent : Agent) →
    (agent_after_serve live request g agent).armed ≡ agent.armed
armed_after live request g agent =
    elim (cases_eq g request.hart) [
      | inl same ↦ ap (λ (a : Agent). a.armed) (at_own g request.hart _ _ same) ∙ armed_claimed live request.line
          (agent_served (agent_forgetting request.hart agent))
      | inr other ↦ ap (λ (a : Agent). a.armed) (at_other g request.hart _ _ other)
    ]

raised_claimed : (live : Bool) (line : ℕ) (agent : Agent) → (agent_claiming live line agent).raised ≡ agent.raised
raised_claimed true line agent = refl
raised_claimed false line agent = refl

raised_after : (live : Bool) (request : Request) (g : ℕ) (agent : Agent) →
    (agent_after_serve live request g agent).raised ≡ agent.raised
raised_after live request g agent =
    elim (cases_eq g request.hart) [
      | inl same ↦ ap (λ (a : Agent). a.raised) (at_own g request.hart _ _ same) ∙ raised_claimed live request.line
          (agent_served (agent_forgetting request.hart agent))
      | inr other ↦ ap (λ (a : Agent). a.raised) (at_other g request.hart _ _ other)
    ]

pub serve_ready : (bus new : BusState) (request : Request) (before after : Pooled) → IsReady bus →
    request_of bus.order request.hart ≡ Some request → Serves request before after bus new → IsReady new
serve_ready bus new request before after ready ordered serves = ready_after bus new ready (record {
  mode = serves.mode;
  agent_each = serves.agents.count;
  cache_each = stays.caches;
  well_formed = λ g below.
      subst (λ ways. IsWellFormed ways (slotted_at new.copies.caches g).residency)
      (sym (serve_ways bus new request before after serves g))
      (served_well_formed bus new request before after ready ordered serves g
      (omega (arith, below, stays.caches, ready.each)));
  inside = λ line has. record {
    from = let e = stays.first in rw e has.from;
    below = let e = stays.first in let f = stays.lines in rw (e, f) has.below;
  };
  once = subst (λ order. IsOneEach order) (sym serves.order) (one_each_removed bus.order request.hart ready.once);
  raised = λ g other is. let was = raised_before g other is in record {
    is = was;
    room = room g other.line (λ same. none_nor_some (request_of bus.order g) request
        (ready.one_request g other was) (ap (request_of bus.order) same ∙ ordered));
  };
  ordered = λ g other is. let found = ap (λ order. request_of order g) (sym serves.order) ∙ is in
      elim (cases_eq g request.hart) [
        | inl same ↦ none_nor_some (request_of (removed bus.order request.hart) g) other
            (ap (request_of (removed bus.order request.hart)) same ∙ request_of_removed_own bus.order request.hart)
            found
        | inr apart ↦ record {
          is = sym (request_of_removed_other bus.order request.hart g (λ same. apart (sym same))) ∙ found;
          room = room g other.line apart;
        }
      ];
  few_armed = λ g. elim (cases_lt g (length bus.agents)) [
    | inl below ↦
        subst (λ n. n ≤ 15)
        (sym (ap (λ (a : Agent). a.armed) (serves.agents.each g below)
        ∙ armed_after _ request g (agent_at bus.agents g)))
        (ready.few_armed g)
    | inr past ↦
        subst (λ (a : Agent). a.armed ≤ 15)
        (agent_past bus.agents g past ∙ sym (agent_past new.agents g (omega (arith, past, serves.agents.count))))
        (ready.few_armed g)
  ];
  unmarked = serve_unmarked bus new request before after ready ordered serves;
})
  where
    stays : ServeStays before after bus.copies new.copies
    stays = serve_stays bus new request before after serves

    raised_before : (g : ℕ) (other : Request) → (agent_at new.agents g).raised ≡ Some other →
        (agent_at bus.agents g).raised ≡ Some other
    raised_before g other is =
        elim (cases_lt g (length bus.agents)) [
          | inl below ↦ sym (raised_after _ request g (agent_at bus.agents g))
              ∙ ap (λ a. a.raised) (sym (serves.agents.each g below)) ∙ is
          | inr past ↦ none_nor_some (agent_at new.agents g).raised other
              (ap (λ a. a.raised) (agent_past new.agents g (omega (arith, past, serves.agents.count)))) is
        ]

    room : (g line : ℕ) → g ≢ request.hart → has_room_in bus.copies g line ≡ true → has_room_in new.copies g line ≡ true
    room g line apart had =
        ap (λ ways. room_of ways (slotted_at new.copies.caches g).residency line)
        (serve_ways bus new request before after serves g)
        ∙ ap (λ cache. room_of (slotted_at bus.copies.caches g).ways cache line)
        (serve_others bus new request before after serves g apart)
        ∙ elim (cases_lt g (length bus.copies.caches)) [
          | inl below ↦ others_room (slotted_at bus.copies.caches g).ways _ request.need
              (slotted_at bus.copies.caches g).residency request.line line
              (ready.well_formed g below) had
          | inr past ↦
              absurd
              (false_true (ap (λ cache. room_of cache.ways cache.residency line)
              (sym (beyond bus.copies.caches g past)) ∙ had))
        ]
