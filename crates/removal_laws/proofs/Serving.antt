-- what holds still holds after a request is served, with the face of the next head
use Rattle.std.proofs.Common.{◌≡◌, ◌≢◌, ◌∙◌, ◌==◌, ℕ, Bool, true, false, List, [], ◌∷◌, length, Option, None, Some}
use Rattle.std.proofs.Common.{is_some, refl, ap, sym, inl, inr}
use Rattle.std.proofs.Common.{◌⊎◌, arith, subst, if◌then◌else◌}
use Rattle.std.proofs.lemmas.Bool.{cases_eq}
use Rattle.std.proofs.lemmas.Option.{same_Some}
use Rattle.bus_order.specs.Order.{IsOneEach, Request, first_of, queue_of, removed, request_of}
use Rattle.bus_order.proofs.Laws.LookUps.{request_of_removed_other, request_of_removed_own}
use Rattle.bus_order.proofs.Laws.Orders.{one_each_removed}
use Rattle.bus_order.proofs.Laws.Queues.{first_of_removed_other, hart_of_request_of, queue_of_removed}
use Rattle.bus_order.proofs.Laws.Queues.{queue_of_removed_other, queue_of_removed_own}
use Rattle.bus_order.proofs.Laws.Queues.{request_of_first_of}
use Rattle.residency.specs.Cache.{has_bit}
use Rattle.el_base.specs.declared.outcomes.Why.TheVariants.{Behind}
use Rattle.el_base.proofs.Laws.Cases.{clash, some_none}
use Rattle.el_base.proofs.Laws.Tests.{own_test}
use Rattle.el_model.specs.Conflicts.{conflicts_with, retains}
use Rattle.el_model.specs.Face.{met, met_if}
use Rattle.el_model.specs.Serve.{Blocks, Free, Obstacle, obstacle_to, serve_ordered, serve_past, served}
use Rattle.el_model.specs.State.{ModelState, cache_of, for_line, hart_of, head_of, is_live, ordered_of, ordered_on}
use Rattle.el_model.specs.State.{raised_of}
use Rattle.el_model.proofs.Laws.Keeps.{keeps_served}
use Rattle.el_model.proofs.Laws.Orders.{head_line}
use Rattle.removal_laws.specs.Facts.{AreLinked, Everywhere, IsChained, IsLinked, IsWaiting, MayRetain, Messages}
use Rattle.removal_laws.specs.Facts.{Retaining}
use Rattle.section_laws.proofs.Laws.Bits.{fewer_bit}
use Rattle.removal_laws.proofs.Faced.{Facing, FirstOn, Other, met_fewer, met_stands}
use Rattle.removal_laws.proofs.Grounds.{Grounds, Standing}
use Rattle.removal_laws.proofs.Kept.{may_kept, retained_before}
use Rattle.removal_laws.proofs.Leaving.{Left, served_left}
use Rattle.removal_laws.proofs.Queues.{IsHead, head_is}
use Rattle.section_laws.proofs.Laws.FreeLines.{has_head, head_is as first_is, not_blocked}

-- the request that is served, as the head of its line
pub record Serving (state : ModelState) (request : Request) : Type 0 where
  pub ordered : ordered_of state request.hart ≡ Some request
  pub first : head_of state request.line ≡ Some request

-- none of these requests is of a hart
abbrev NoneOf : ℕ → List Request → Type 0
NoneOf h [] = Unit {0}
NoneOf h (request ∷ others) = (request.hart ≢ h) × NoneOf h others

none_removed : (order : List Request) (h : ℕ) → NoneOf h (removed order h)
none_removed [] h = tt
none_removed (request ∷ order) h = by (none_removed order h) (request.hart == h) refl
  where
    by : NoneOf h (removed order h) → (own : Bool) → (request.hart == h) ≡ own →
        NoneOf h (if own then removed order h else request ∷ removed order h)
    by rest true is = rest
    by rest false is = ((λ same. clash is (ap (λ k. k == h) same ∙ own_test h)), rest)

linked_left : (old new : ModelState) (h : ℕ) →
    ((g before : ℕ) → g ≢ h → IsLinked (hart_of old g) before → IsLinked (hart_of new g) before) →
    (before : ℕ) (queue : List Request) → NoneOf h queue → AreLinked old before queue → AreLinked new before queue
linked_left old new h links before [] none now = tt
linked_left old new h links before (request ∷ others) (apart, rest_apart) (link, rest) =
    (links request.hart before apart link, linked_left old new h links request.hart others rest_apart rest)

chained_left : (old new : ModelState) (h : ℕ) →
    ((g before : ℕ) → g ≢ h → IsLinked (hart_of old g) before → IsLinked (hart_of new g) before) →
    (queue : List Request) → NoneOf h queue → IsChained old queue → IsChained new queue
chained_left old new h links [] none now = tt
chained_left old new h links (head ∷ others) (apart, rest_apart) now =
    linked_left old new h links head.hart others rest_apart now

chained_rest : (state : ModelState) (before : ℕ) (queue : List Request) → AreLinked state before queue →
    IsChained state queue
chained_rest state before [] now = tt
chained_rest state before (head ∷ others) (link, rest) = rest

module _ (state : ModelState) (request : Request) (grounds : Grounds state) (serving : Serving state request)
    (standing : Standing state) where
  abbrev after : ModelState
  after = served state request

  left : (g : ℕ) → Left request.hart request.line g (hart_of state g) (hart_of after g)
  left g = served_left state request g

  order_is : after.order ≡ removed state.order request.hart
  unfolding served
  order_is = refl

  -- who waits after it waited before, and is another hart
  record Waited (g : ℕ) (found : Request) : Type 0 where
    apart : g ≢ request.hart
    was : ordered_of state g ≡ Some found

  waited : (g : ℕ) (found : Request) → ordered_of after g ≡ Some found → Waited g found
  waited g found is = by (cases_eq g request.hart)
    where
      by : (g ≡ request.hart) ⊎ (g ≡ request.hart → ⊥) → Waited g found
      by (inl same) =
          some_none
          (sym is ∙ ap (λ o. request_of o g) order_is ∙ ap (request_of (removed state.order request.hart)) same
          ∙ request_of_removed_own state.order request.hart)
      by (inr apart) = record {
        apart = apart;
        was =
            sym (request_of_removed_other state.order request.hart g (λ same. apart (sym same)))
            ∙ ap (λ o. request_of o g) (sym order_is) ∙ is;
      }

  waits_still : (g : ℕ) → g ≢ request.hart → IsWaiting state g → IsWaiting after g
  waits_still g apart waits =
      ap is_some
      (ap (λ o. request_of o g) order_is ∙ request_of_removed_other state.order request.hart g
      (λ same. apart (sym same))) ∙ waits

  on_before : (g line : ℕ) (found : Request) → ordered_on after g line ≡ Some found →
      ordered_on state g line ≡ Some found
  on_before g line found is = by (ordered_of after g) refl is
    where
      by : (own : Option Request) → ordered_of after g ≡ own → for_line line own ≡ Some found →
          ordered_on state g line ≡ Some found
      by None none is = absurd (cc)
      by (Some own) some is = ap (for_line line) (waited g own some).was ∙ is

  count_is : length after.harts ≡ length state.harts
  count_is = (keeps_served state request).count

  -- chains
  queue_left : (line : ℕ) → IsChained state (removed (queue_of state.order line) request.hart)
  queue_left line = by (cases_eq line request.line)
    where
      own : (queue : List Request) → queue_of state.order request.line ≡ queue →
          IsChained state (removed (queue_of state.order request.line) request.hart)
      own [] none = subst (IsChained state) (sym (ap (λ queue. removed queue request.hart) none)) tt
      own (head ∷ others) is =
          let found =
          subst (λ queue. IsHead queue (first_of state.order request.line)) is (head_is state.order request.line) in
          let head_is_own : head ≡ request = same_head found in
          let taken : removed (queue_of state.order request.line) request.hart ≡ others =
          sym (queue_of_removed state.order request.hart request.line)
          ∙ queue_of_removed_own state.order request.line request others grounds.once.once
          (is ∙ ap (λ r. r ∷ others) head_is_own) in
          subst (IsChained state) (sym taken)
          (chained_rest state head.hart others (subst (IsChained state) is (standing.messages.chained request.line tt)))
        where
          same_head : first_of state.order request.line ≡ Some head → head ≡ request
          same_head found = same_Some _ _ (sym found ∙ serving.first)

      by : (line ≡ request.line) ⊎ (line ≡ request.line → ⊥) →
          IsChained state (removed (queue_of state.order line) request.hart)
      by (inl same) = rw same (own (queue_of state.order request.line) refl)
      by (inr apart) =
          subst (IsChained state)
          (sym (queue_of_removed_other state.order request.hart line request grounds.once.once serving.ordered
          (λ same. apart (sym same)))
          ∙ queue_of_removed state.order request.hart line)
          (standing.messages.chained line tt)

  served_messages : Messages Everywhere after
  served_messages = record {
    before = λ h before is.
        let was = (left h).linked before is in
        let may = standing.messages.before h before was.1 in
        record { waits = waits_still h was.0 may.waits; other = may.other; exists = rw count_is may.exists };
    known = λ h origin is.
        let was = (left h).known origin is in
        let may = standing.messages.known h origin was.1 in
        record { waits = waits_still origin was.0 may.waits; other = may.other };
    chained = λ line on.
        subst (λ o. IsChained after (queue_of o line)) (sym order_is)
        (subst (IsChained after) (sym (queue_of_removed state.order request.hart line))
        (chained_left state after request.hart (λ g before apart is. (left g).links before apart is)
        (removed (queue_of state.order line) request.hart)
        (none_removed (queue_of state.order line) request.hart) (queue_left line)));
    told_own = λ h before is.
        let was = (left h).upstream before is in
        (left before).knows h was.0 (standing.messages.told_own h before was.1);
    told_on = λ h before origin line own found is told other is_on waits.
        let was = (left h).upstream before is in
        let was_told = (left h).told origin told in
        (left before).knows origin was_told.0
        (standing.messages.told_on h before origin line own found was.1 was_told.1 other (on_before h line own is_on)
        (on_before origin line found waits));
  }

  other_heads : (line : ℕ) → line ≢ request.line → head_of after line ≡ head_of state line
  other_heads line apart =
      ap (λ o. first_of o line) order_is
      ∙ first_of_removed_other state.order request.hart line request grounds.once.once serving.ordered
      (λ same. apart (sym same))

  -- the head of another line is another hart's
  head_apart : (line : ℕ) (head : Request) → line ≢ request.line → head_of state line ≡ Some head →
      head.hart ≢ request.hart
  head_apart line head apart is same =
      let found = request_of_first_of state.order line head grounds.once.once is in
      let e : head ≡ request = same_Some _ _ (sym found ∙ ap (request_of state.order) same ∙ serving.ordered) in
      apart (sym (head_line state line head is) ∙ ap (λ r. r.line) e)

  live_before : (g : ℕ) (found : Request) → g ≢ request.hart → is_live after g ≡ true → is_live state g ≡ true
  live_before g found apart live = ((left g).fewer found.line (inl apart)).live live

  bit_before : (g : ℕ) (found : Request) → g ≢ request.hart → is_live after g ≡ true →
      has_bit (cache_of after g) found.line ≡ true → has_bit (cache_of state g) found.line ≡ true
  bit_before g found apart live bit =
      fewer_bit found.line (hart_of state g) (hart_of after g) ((left g).fewer found.line (inl apart)) live bit

  raised_apart : (g : ℕ) (found : Request) → raised_of state g ≡ Some found → g ≢ request.hart
  raised_apart g found is same = by (grounds.once.sound g).one_request
    where
      by : (raised_of state g ≡ None) ⊎ (ordered_of state g ≡ None) → ⊥
      by (inl none) = some_none (sym is ∙ none)
      by (inr none) = some_none (sym serving.ordered ∙ ap (ordered_of state) (sym same) ∙ none)

  served_retaining : Retaining (Other request.line) after
  served_retaining = record {
    may = λ g line apart is.
        may_kept state after g line (other_heads line apart) (λ origin found told is. on_before origin line found is)
        (λ head is_head link. (left head.hart).links g (head_apart line head apart is_head) link)
        (record {
          attempt = (left g).attempt;
          told = λ origin told. ((left g).told origin told).1;
          seen = let same = (left g).seen in omega (arith, same);
        })
        (standing.retaining.may g line tt
        (retained_before line g (head_of state line) (hart_of state g) (hart_of after g) (head_line state line)
        ((left g).fewer line (inr apart))
        (subst (λ found. conflicts_with found g (hart_of after g) ≡ true) (other_heads line apart) is)));
    raised = λ h found is live bit.
        let was = sym (left h).raised ∙ is in
        let apart = raised_apart h found was in
        standing.retaining.raised h found was (live_before h found apart live) (bit_before h found apart live bit);
    ordered = λ h found is live bit.
        let was = waited h found is in
        standing.retaining.ordered h found was.was (live_before h found was.apart live)
        (bit_before h found was.apart live bit);
    first = λ h found other is live bit.
        let was = waited h found is in
        other_heads found.line other
        ∙ standing.retaining.first h found tt was.was (live_before h found was.apart live)
        (bit_before h found was.apart live bit);
  }

  -- no other hart that waits for the line has a bit there
  no_bit_there : {X : Type 0} (g : ℕ) (found : Request) → found.line ≡ request.line → ordered_of after g ≡ Some found →
      is_live after g ≡ true → has_bit (cache_of after g) found.line ≡ true → X
  no_bit_there g found line is live bit =
      let was = waited g found is in
      let first =
      standing.retaining.first g found tt was.was (live_before g found was.apart live)
      (bit_before g found was.apart live bit) in
      let e : found ≡ request = same_Some _ _ (sym first ∙ ap (head_of state) line ∙ serving.first) in
      absurd (was.apart (sym (hart_of_request_of state.order g found was.was) ∙ ap (λ r. r.hart) e))

  once_after : IsOneEach after.order
  once_after = subst IsOneEach (sym order_is) (one_each_removed state.order request.hart grounds.once.once)

  pub next_facing : (next : Request) → head_of after request.line ≡ Some next → Facing after next
  next_facing next is =
      let line = head_line after request.line next is in
      record {
        mode = ap (λ c. c.mode) (keeps_served state request).config ∙ grounds.opened.mode;
        below = λ h found is. rw count_is (grounds.below h found (waited h found is).was);
        first = ap (head_of after) line ∙ is;
        ordered = request_of_first_of after.order request.line next once_after is;
        messages = served_messages;
        retaining = subst (λ l. Retaining (Other l) after) (sym line) served_retaining;
      }

  next_first : (next : Request) → head_of after request.line ≡ Some next → FirstOn after (met after next) next.line
  next_first next is g found line waits live bit =
      let fewer = met_fewer after next (next_facing next is) g found.line in
      no_bit_there g found (line ∙ head_line after request.line next is) waits (fewer.live live)
      (fewer_bit found.line (hart_of after g) (hart_of (met after next) g) fewer live bit)

  no_next : head_of after request.line ≡ None → Standing after
  no_next none = record {
    messages = served_messages;
    retaining = record {
      may = λ g line on is. may_by g line is (cases_eq line request.line);
      raised = served_retaining.raised;
      ordered = served_retaining.ordered;
      first = λ h found on is live bit. first_by h found is live bit (cases_eq found.line request.line);
    };
  }
    where
      may_by : (g line : ℕ) → retains after g line ≡ true → (line ≡ request.line) ⊎ (line ≡ request.line → ⊥) →
          MayRetain after g line
      may_by g line is (inl same) =
          let e : head_of after line ≡ None = ap (head_of after) same ∙ none in
          nobody (subst (λ found. conflicts_with found g (hart_of after g) ≡ true) e is)
        where
          nobody : {X : Type 0} → false ≡ true → X
          nobody wrong = absurd (cc)
      may_by g line is (inr apart) = served_retaining.may g line apart is

      first_by : (h : ℕ) (found : Request) → ordered_of after h ≡ Some found → is_live after h ≡ true →
          has_bit (cache_of after h) found.line ≡ true → (found.line ≡ request.line) ⊎ (found.line ≡ request.line → ⊥) →
          head_of after found.line ≡ Some found
      first_by h found is live bit (inl same) =
          absurd (has_head after.order h found is (ap (head_of after) same ∙ none))
      first_by h found is live bit (inr apart) = served_retaining.first h found apart is live bit

  pub served_stands : Standing (met_if after (head_of after request.line))
  served_stands = by (head_of after request.line) refl
    where
      by : (next : Option Request) → head_of after request.line ≡ next → Standing (met_if after next)
      by None none = no_next none
      by (Some next) is = met_stands after next (next_facing next is) (next_first next is)

past_stands : (state : ModelState) (request : Request) (obstacle : Obstacle) → obstacle_to state request ≡ obstacle →
    Grounds state → ordered_of state request.hart ≡ Some request → Standing state →
    Standing (serve_past state request obstacle).state
past_stands state request (Blocks why by) is grounds ordered standing = standing
past_stands state request Free is grounds ordered standing =
    served_stands state request grounds
    (record {
      ordered = ordered;
      first =
          first_is state request.hart request (head_of state request.line) grounds.once.once ordered refl
          (not_blocked Behind _ _ is);
    }) standing

-- a hart's ordered request, if it has one
pub taken_stands : (state : ModelState) (h : ℕ) (request : Option Request) → ordered_of state h ≡ request →
    Grounds state → Standing state → Standing (serve_ordered state request).state
taken_stands state h None is grounds standing = standing
taken_stands state h (Some request) is grounds standing =
    let own = hart_of_request_of state.order h request is in
    past_stands state request (obstacle_to state request) refl grounds (ap (ordered_of state) own ∙ is) standing
