-- a request with the least stamp is told of up the queue of its line, and to each section that would retain the line
use Rattle.std.proofs.Common.{◌≡◌, ◌≢◌, ◌∙◌, ◌==◌, ℕ, Bool, true, false, List, [], ◌∷◌, Option, None, Some, refl, ap}
use Rattle.std.proofs.Common.{sym, inl, inr, ◌⊎◌, subst, if◌then◌else◌}
use Rattle.std.proofs.lemmas.Bool.{cases_eq, or_right}
use Rattle.std.proofs.lemmas.Option.{same_Some}
use Rattle.bus_order.specs.Order.{IsOneEach, Request, queue_of, request_of}
use Rattle.bus_order.proofs.Laws.Orders.{alone_in_front, one_each_rest}
use Rattle.bus_order.proofs.Laws.Queues.{hart_of_request_of}
use Rattle.residency.specs.Cache.{has_bit, read_bit}
use Rattle.defer_list.specs.HartSet.{has}
use Rattle.el_base.specs.declared.outcomes.Need.{Need}
use Rattle.el_base.specs.declared.outcomes.Need.TheVariants.{Read, Write}
use Rattle.el_base.proofs.Laws.Cases.{clash, some_none}
use Rattle.el_base.proofs.Laws.Tests.{number_of_test, other_test, own_test}
use Rattle.el_model.specs.Conflicts.{conflicts_with, meets_bit, retains}
use Rattle.el_model.specs.Next.{after}
use Rattle.el_model.specs.State.{Hart, ModelState, cache_of, for_line, hart_of, head_of, ordered_of, ordered_on}
use Rattle.el_model.proofs.Laws.Orders.{head_line}
use Rattle.removal_laws.specs.Facts.{AreLinked, Everywhere, Facts, IsChained, IsLinked, Knows}
use Rattle.removal_laws.specs.Laws.{IsDelivered, LeastStampIsNotRetained, WaitsWithLeast}
use Rattle.section_laws.proofs.Laws.Bits.{Meets, meets}
use Rattle.removal_laws.proofs.Laws.Delivering.{own_line}
use Rattle.removal_laws.proofs.Queues.{IsHead, head_is}
use Rattle.removal_laws.proofs.Laws.Throughout.{always_holds, facts_hold_throughout}

-- each of these requests of a line is its hart's in the order
abbrev AreOrdered : List Request → ℕ → List Request → Type 0
AreOrdered order line [] = Unit {0}
AreOrdered order line (request ∷ others) =
    ((request_of order request.hart ≡ Some request) × (request.line ≡ line)) × AreOrdered order line others

ordered_behind : (first : Request) (order : List Request) (line : ℕ) (queue : List Request) →
    request_of order first.hart ≡ None → AreOrdered order line queue → AreOrdered (first ∷ order) line queue
ordered_behind first order line [] none now = tt
ordered_behind first order line (request ∷ others) none ((found, on), rest) = (
  (
    ap (λ b. if b then Some first else request_of order request.hart) (other_test first.hart request.hart apart)
        ∙ found,
    on,
  ),
  ordered_behind first order line others none rest,
)
  where
    apart : first.hart ≢ request.hart
    apart same = some_none (sym found ∙ ap (request_of order) (sym same) ∙ none)

queue_ordered : (order : List Request) (line : ℕ) → IsOneEach order → AreOrdered order line (queue_of order line)
queue_ordered [] line once = tt
queue_ordered (request ∷ order) line once =
    by
    (ordered_behind request order line (queue_of order line) (alone_in_front request order once)
    (queue_ordered order line (one_each_rest request order once)))
    (request.line == line) refl
  where
    by : AreOrdered (request ∷ order) line (queue_of order line) → (here : Bool) → (request.line == line) ≡ here →
        AreOrdered (request ∷ order) line (if here then request ∷ queue_of order line else queue_of order line)
    by rest true same = (
      (
        ap (λ b. if b then Some request else request_of order request.hart) (own_test request.hart),
        number_of_test request.line line same,
      ),
      rest,
    )
    by rest false apart = rest

queue_has : (order : List Request) (h line : ℕ) (found : Request) → request_of order h ≡ Some found →
    found.line ≡ line → request_of (queue_of order line) h ≡ Some found
queue_has [] h line found is on = absurd (cc)
queue_has (request ∷ order) h line found is on =
    by (λ rest. queue_has order h line found rest on) (request.hart == h) refl (request.line == line) refl is
  where
    by : (request_of order h ≡ Some found → request_of (queue_of order line) h ≡ Some found) → (own : Bool) →
        (request.hart == h) ≡ own → (here : Bool) → (request.line == line) ≡ here →
        (if own then Some request else request_of order h) ≡ Some found →
        request_of (if here then request ∷ queue_of order line else queue_of order line) h ≡ Some found
    by rest true same true here is = ap (λ b. if b then Some request else request_of (queue_of order line) h) same ∙ is
    by rest true same false apart is =
        clash apart (ap (λ r. r.line == line) (same_Some _ _ is) ∙ ap (λ l. l == line) on ∙ own_test line)
    by rest false other true here is =
        ap (λ b. if b then Some request else request_of (queue_of order line) h) other ∙ rest is
    by rest false other false apart is = rest is

module _ (state : ModelState) (h line : ℕ) (request : Request) (once : IsOneEach state.order)
    (facts : Facts Everywhere state)
    (waits : WaitsWithLeast state h line request) (delivered : IsDelivered state line) where
  -- what is known was told, and a link is upstream
  was_told : (g origin : ℕ) (found : Request) → ordered_on state origin line ≡ Some found →
      Knows (hart_of state g) origin → has (hart_of state g).told origin ≡ true
  was_told g origin found on (inl sent) = clash (delivered.no_probe g origin found on) sent
  was_told g origin found on (inr told) = told

  is_upstream : (g before : ℕ) (found : Request) → ordered_on state g line ≡ Some found →
      IsLinked (hart_of state g) before → has (hart_of state g).upstream before ≡ true
  is_upstream g before found on (inl sent) = clash (delivered.no_marker g before found on) sent
  is_upstream g before found on (inr up) = up

  on_line : (own : Request) → (request_of state.order own.hart ≡ Some own) × (own.line ≡ line) →
      ordered_on state own.hart line ≡ Some own
  on_line own (found, on) =
      ap (for_line line) found ∙ ap (λ b. if b then Some own else None)
      (subst (λ l. (own.line == l) ≡ true) on (own_test own.line))

  -- a hart before the request of h was told of h
  climbs : (before : ℕ) (queue : List Request) → before ≢ h → AreOrdered state.order line queue →
      AreLinked state before queue → request_of queue h ≡ Some request → has (hart_of state before).told h ≡ true
  climbs before [] apart ordered linked is = absurd (cc)
  climbs before (own ∷ others) apart ((found, on), rest_ordered) (link, rest) is =
      by (λ other later. climbs own.hart others other rest_ordered rest later) (own.hart == h) refl is
    where
      mine : ordered_on state own.hart line ≡ Some own
      mine = on_line own (found, on)

      up : has (hart_of state own.hart).upstream before ≡ true
      up = is_upstream own.hart before own mine link

      by : (own.hart ≢ h → request_of others h ≡ Some request → has (hart_of state own.hart).told h ≡ true) →
          (same : Bool) → (own.hart == h) ≡ same →
          (if same then Some own else request_of others h) ≡ Some request → has (hart_of state before).told h ≡ true
      by further true same is =
          let e = number_of_test own.hart h same in
          was_told before h request waits.waits
          (subst (Knows (hart_of state before)) e (facts.messages.told_own own.hart before up))
      by further false other is =
          was_told before h request waits.waits
          (facts.messages.told_on own.hart before h line own request up
          (further (λ same. clash other (ap (λ k. k == h) same ∙ own_test h)) is) apart mine waits.waits)

  -- a section that retained the line would have been told of h too, or be that of h
  met_bit : (hart : Hart) (need : Need) → meets_bit hart line need ≡ true → has_bit hart.cache line ≡ true
  met_bit hart Write bit = bit
  met_bit hart Read bit = or_right (read_bit hart.cache line) _ bit

  not_own : {X : Type 0} (head : Request) → head_of state line ≡ Some head → Meets head h (hart_of state h) → X
  not_own head is it =
      let mine = own_line line (ordered_of state h) request waits.waits in
      let bit =
      met_bit (hart_of state h) head.need
      (subst (λ l. meets_bit (hart_of state h) l head.need ≡ true) (head_line state line head is) it.bit) in
      let first =
      facts.retaining.first h request tt mine.0 it.live
      (subst (λ l. has_bit (cache_of state h) l ≡ true) (sym mine.1) bit) in
      let e : head ≡ request = same_Some _ _ (sym is ∙ ap (head_of state) (sym mine.1) ∙ first) in
      absurd (it.other (ap (λ r. r.hart) e ∙ hart_of_request_of state.order h request mine.0))

  told_retainer : (g : ℕ) (head : Request) → ordered_on state head.hart line ≡ Some head →
      IsLinked (hart_of state head.hart) g → g ≢ h → (head.hart ≡ h) ⊎ (has (hart_of state head.hart).told h ≡ true) →
      has (hart_of state g).told h ≡ true
  told_retainer g head on link apart (inl same) =
      was_told g h request waits.waits
      (subst (Knows (hart_of state g)) same
      (facts.messages.told_own head.hart g (is_upstream head.hart g head on link)))
  told_retainer g head on link apart (inr told) =
      was_told g h request waits.waits
      (facts.messages.told_on head.hart g h line head request (is_upstream head.hart g head on link) told
      apart on waits.waits)

  head_told : (queue : List Request) → queue_of state.order line ≡ queue → (head : Request) →
      head_of state line ≡ Some head →
      (ordered_on state head.hart line ≡ Some head) × ((head.hart ≡ h) ⊎ (has (hart_of state head.hart).told h ≡ true))
  head_told [] none head is =
      let mine = own_line line (ordered_of state h) request waits.waits in
      some_none (sym (queue_has state.order h line request mine.0 mine.1) ∙ ap (λ queue. request_of queue h) none)
  head_told (first ∷ others) queue head is =
      let mine = own_line line (ordered_of state h) request waits.waits in
      let e : first ≡ head =
      same_Some _ _ (sym (subst (λ q. IsHead q (head_of state line)) queue (head_is state.order line)) ∙ is) in
      let ordered = subst (AreOrdered state.order line) queue (queue_ordered state.order line once) in
      let linked = subst (IsChained state) queue (facts.messages.chained line tt) in
      let there =
      subst (λ q. request_of q h ≡ Some request) queue (queue_has state.order h line request mine.0 mine.1) in (
        subst (λ r. ordered_on state r.hart line ≡ Some r) e (on_line first ordered.0),
        subst (λ r. (r.hart ≡ h) ⊎ (has (hart_of state r.hart).told h ≡ true)) e
            (by ordered.1 linked there (cases_eq first.hart h)),
      )
    where
      by : AreOrdered state.order line others → AreLinked state first.hart others →
          request_of (first ∷ others) h ≡ Some request → (first.hart ≡ h) ⊎ (first.hart ≡ h → ⊥) →
          (first.hart ≡ h) ⊎ (has (hart_of state first.hart).told h ≡ true)
      by ordered linked there (inl same) = inl same
      by ordered linked there (inr apart) =
          inr (climbs first.hart others apart ordered linked
          (subst (λ b. (if b then Some first else request_of others h) ≡ Some request)
          (other_test first.hart h apart) there))

  refused : {X : Type 0} (g : ℕ) (head : Request) → head_of state line ≡ Some head → retains state g line ≡ true →
      Meets head g (hart_of state g) →
      (g ≡ h) ⊎ (g ≡ h → ⊥) → X
  refused g head is retained it (inl same) = not_own head is (subst (λ k. Meets head k (hart_of state k)) same it)
  refused g head is retained it (inr apart) =
      let may = facts.retaining.may g line tt retained in
      let of_head = head_told (queue_of state.order line) refl head is in
      let told = told_retainer g head of_head.0 (may.link head is) apart of_head.1 in
      clash (may.not_after_told h request told waits.waits) (waits.least g apart it.live)

  pub not_retained : (g : ℕ) → retains state g line ≡ false
  not_retained g = by (retains state g line) refl
    where
      with_head : {X : Type 0} (head : Option Request) → head_of state line ≡ head →
          conflicts_with head g (hart_of state g) ≡ true → X
      with_head None none is = absurd (cc)
      with_head (Some head) found is =
          refused g head found (ap (λ r. conflicts_with r g (hart_of state g)) found ∙ is)
          (meets head g (hart_of state g) is) (cases_eq g h)

      by : (retained : Bool) → retains state g line ≡ retained → retains state g line ≡ false
      by true is = with_head (head_of state line) refl is
      by false is = is

pub least_stamp_is_not_retained : LeastStampIsNotRetained
least_stamp_is_not_retained program config events h g line request mode waits delivered =
    let state = after program config events in
    not_retained state h line request (always_holds program config events mode).grounds.once.once
    (facts_hold_throughout program config events mode)
    waits delivered g
