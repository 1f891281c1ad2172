-- a raised request is ordered: behind others, in front of them, or alone
use Rattle.std.proofs.Common.{◌≡◌, ◌≢◌, ◌∙◌, ◌<◌, ℕ, true, length, None, Some, is_some, refl, ap, sym, inl, inr, ◌⊎◌}
use Rattle.std.proofs.Common.{arith, subst}
use Rattle.std.proofs.Math.ListN.{length-set}
use Rattle.std.proofs.lemmas.Bool.{cases_eq}
use Rattle.std.proofs.lemmas.Option.{same_Some}
use Rattle.bus_order.specs.Order.{Request, queue_of}
use Rattle.residency.specs.Cache.{has_bit}
use Rattle.defer_list.specs.HartSet.{has}
use Rattle.el_base.specs.declared.outcomes.Need.TheVariants.{Write}
use Rattle.el_base.proofs.Laws.Cases.{clash, some_none}
use Rattle.el_model.specs.BusEvent.{order_at}
use Rattle.el_model.specs.Conflicts.{conflicts_with}
use Rattle.el_model.specs.Order.{Place, unraised}
use Rattle.el_model.specs.State.{Hart, ModelState, cache_of, for_line, hart_of, head_of, is_live, ordered_of}
use Rattle.el_model.specs.State.{ordered_on, raised_of}
use Rattle.el_model.proofs.Laws.Harts.{hart_of-with_hart_other, hart_of-with_hart_same, with_hart_kept}
use Rattle.el_model.proofs.Laws.Orders.{head_line, placed_own}
use Rattle.removal_laws.specs.Facts.{IsChained, IsLinked, IsWaiting, Knows, Messages, Retaining}
use Rattle.section_laws.proofs.Laws.Bits.{Fewer, fewer_bit, fewer_same}
use Rattle.removal_laws.proofs.Grounds.{Grounds, Standing}
use Rattle.removal_laws.proofs.Kept.{chained_kept, may_kept, retained_before}
use Rattle.section_laws.proofs.Laws.OrderedHarts.{AreBelow}
use Rattle.section_laws.proofs.Laws.Waiting.{order_other}

-- the state with the request in its place, before anything else
abbrev pub base : ModelState → Request → Place → ModelState
base state request place = record (unraised state request.hart) { order = order_at state request place }

-- a hart but for what it has raised
abbrev pub masked : Hart → Hart
masked hart = record hart { raised = None }

pub mask : (state : ModelState) (request : Request) (place : Place) (g : ℕ) →
    masked (hart_of (base state request place) g) ≡ masked (hart_of state g)
mask state request place g = with_hart_kept masked state request.hart (masked (hart_of state request.hart)) refl g

-- what is known of the request that is ordered
pub record Ordering (state : ModelState) (request : Request) : Type 0 where
  pub raised : raised_of state request.hart ≡ Some request
  pub exists : request.hart < length state.harts
  pub free : ordered_of state request.hart ≡ None

module _ (state : ModelState) (request : Request) (place : Place) (grounds : Grounds state)
    (ordering : Ordering state request) (standing : Standing state)
  where
    pub own_ordered : ordered_of (base state request place) request.hart ≡ Some request
    own_ordered = placed_own state request place ordering.free

    pub other_ordered : (g : ℕ) → g ≢ request.hart → ordered_of (base state request place) g ≡ ordered_of state g
    other_ordered g apart = order_other state request place g apart

    pub free_hart : {X : Type 0} → IsWaiting state request.hart → X
    free_hart waits = clash (ap is_some ordering.free) waits

    pub waits_still : (g : ℕ) → IsWaiting state g → IsWaiting (base state request place) g
    waits_still g waits = by (cases_eq g request.hart)
      where
        by : (g ≡ request.hart) ⊎ (g ≡ request.hart → ⊥) → IsWaiting (base state request place) g
        by (inl same) = rw same (ap is_some own_ordered)
        by (inr apart) = rw (other_ordered g apart) waits

    pub linked_still : (g before : ℕ) → IsLinked (hart_of state g) before →
        IsLinked (hart_of (base state request place) g) before
    linked_still g before is = subst (λ hart. IsLinked hart before) (sym (mask state request place g)) is

    pub linked_before : (g before : ℕ) → IsLinked (hart_of (base state request place) g) before →
        IsLinked (hart_of state g) before
    linked_before g before is = subst (λ hart. IsLinked hart before) (mask state request place g) is

    pub knows_still : (g origin : ℕ) → Knows (hart_of state g) origin →
        Knows (hart_of (base state request place) g) origin
    knows_still g origin is = subst (λ hart. Knows hart origin) (sym (mask state request place g)) is

    knew_before : (g origin : ℕ) → Knows (hart_of (base state request place) g) origin → Knows (hart_of state g) origin
    knew_before g origin is = subst (λ hart. Knows hart origin) (mask state request place g) is

    up_before : (g before : ℕ) → has (hart_of (base state request place) g).upstream before ≡ true →
        has (hart_of state g).upstream before ≡ true
    up_before g before is = subst (λ hart. has hart.upstream before ≡ true) (mask state request place g) is

    told_before : (g origin : ℕ) → has (hart_of (base state request place) g).told origin ≡ true →
        has (hart_of state g).told origin ≡ true
    told_before g origin is = subst (λ hart. has hart.told origin ≡ true) (mask state request place g) is

    pub same_count : length (base state request place).harts ≡ length state.harts
    same_count = length-set state.harts request.hart (masked (hart_of state request.hart))

    pub base_below : AreBelow (length (base state request place).harts) (base state request place).order
    base_below h found is = by (cases_eq h request.hart)
      where
        by : (h ≡ request.hart) ⊎ (h ≡ request.hart → ⊥) → h < length (base state request place).harts
        by (inl same) = rw same_count (rw same ordering.exists)
        by (inr apart) = rw same_count (grounds.below h found (sym (other_ordered h apart) ∙ is))

    -- what is ordered on a line was so before, but for the request itself
    on_still : (g line : ℕ) (found : Request) → IsWaiting state g →
        ordered_on (base state request place) g line ≡ Some found → ordered_on state g line ≡ Some found
    on_still g line found waits is = by (cases_eq g request.hart)
      where
        by : (g ≡ request.hart) ⊎ (g ≡ request.hart → ⊥) → ordered_on state g line ≡ Some found
        by (inl same) = free_hart (subst (IsWaiting state) same waits)
        by (inr apart) = ap (for_line line) (sym (other_ordered g apart)) ∙ is

    pub base_messages : (on : ℕ → Type 0) → ((line : ℕ) → on line →
        queue_of (base state request place).order line ≡ queue_of state.order line) →
        Messages on (base state request place)
    base_messages on queues = record {
      before = λ h before is.
          let may = standing.messages.before h before (linked_before h before is) in
          record { waits = waits_still h may.waits; other = may.other; exists = rw same_count may.exists };
      known = λ h origin is.
          let may = standing.messages.known h origin (knew_before h origin is) in
          record { waits = waits_still origin may.waits; other = may.other };
      chained = λ line is_on.
          subst (IsChained (base state request place)) (sym (queues line is_on))
          (chained_kept state (base state request place) linked_still (queue_of state.order line)
          (standing.messages.chained line tt));
      told_own = λ h before is. knows_still before h (standing.messages.told_own h before (up_before h before is));
      told_on = λ h before origin line own found is told other is_on waits.
          let up = up_before h before is in
          let was_told = told_before h origin told in
          knows_still before origin
          (standing.messages.told_on h before origin line own found up was_told other
          (on_still h line own (standing.messages.before h before (inr up)).waits is_on)
          (on_still origin line found (standing.messages.known h origin (inr was_told)).waits waits));
    }

    pub same_bits : (line : ℕ) (g : ℕ) → Fewer line (hart_of state g) (hart_of (base state request place) g)
    same_bits line g =
        fewer_same line (hart_of state g) (hart_of (base state request place) g)
        (ap (λ hart. hart.section) (mask state request place g))
        (ap (λ hart. hart.cache) (mask state request place g))

    still_raised : (g : ℕ) (found : Request) → raised_of (base state request place) g ≡ Some found →
        raised_of state g ≡ Some found
    still_raised g found is = by (cases_eq g request.hart)
      where
        by : (g ≡ request.hart) ⊎ (g ≡ request.hart → ⊥) → raised_of state g ≡ Some found
        by (inl same) =
            some_none (sym is ∙ ap (raised_of (base state request place)) same
            ∙ ap (λ hart. hart.raised)
            (hart_of-with_hart_same state request.hart (masked (hart_of state request.hart)) ordering.exists))
        by (inr apart) =
            ap (λ hart. hart.raised)
            (sym (hart_of-with_hart_other state request.hart g (masked (hart_of state request.hart)) apart)) ∙ is

    -- a section with a bit on the line of its request
    pub live_before : (line g : ℕ) → is_live (base state request place) g ≡ true → is_live state g ≡ true
    live_before line g live = (same_bits line g).live live

    pub bit_before : (line g : ℕ) → is_live (base state request place) g ≡ true →
        has_bit (cache_of (base state request place) g) line ≡ true → has_bit (cache_of state g) line ≡ true
    bit_before line g live bit =
        fewer_bit line (hart_of state g) (hart_of (base state request place) g) (same_bits line g) live bit

    pub base_retaining : (on : ℕ → Type 0) →
        ((line : ℕ) → on line → head_of (base state request place) line ≡ head_of state line) →
        (on request.line → is_live state request.hart ≡ true →
        has_bit (cache_of state request.hart) request.line ≡ true →
        head_of (base state request place) request.line ≡ Some request) → Retaining on (base state request place)
    base_retaining on heads own_first = record {
      may = λ g line is_on is.
          may_kept state (base state request place) g line (heads line is_on)
          (λ origin found told is. on_still origin line found (standing.messages.known g origin (inr told)).waits is)
          (λ head is_head link. linked_still head.hart g link)
          (record {
            attempt = ap (λ hart. hart.attempt) (mask state request place g);
            told = λ origin told. told_before g origin told;
            seen = let same = ap (λ hart. hart.seen) (mask state request place g) in omega (arith, same);
          })
          (standing.retaining.may g line tt
          (retained_before line g (head_of state line) (hart_of state g) (hart_of (base state request place) g)
          (head_line state line) (same_bits line g)
          (subst (λ found. conflicts_with found g (hart_of (base state request place) g) ≡ true)
          (heads line is_on) is)));
      raised = λ h found is live bit.
          standing.retaining.raised h found (still_raised h found is) (live_before found.line h live)
          (bit_before found.line h live bit);
      ordered = λ h found is live bit. ordered_by h found is live bit (cases_eq h request.hart);
      first = λ h found is_on is live bit. first_by h found is_on is live bit (cases_eq h request.hart);
    }
      where
        ordered_by : (h : ℕ) (found : Request) → ordered_of (base state request place) h ≡ Some found →
            is_live (base state request place) h ≡ true →
            has_bit (cache_of (base state request place) h) found.line ≡ true → (h ≡ request.hart) ⊎
            (h ≡ request.hart → ⊥) → found.need ≡ Write
        ordered_by h found is live bit (inl same) =
            let e : request ≡ found =
            same_Some _ _ (sym own_ordered ∙ ap (ordered_of (base state request place)) (sym same) ∙ is) in
            standing.retaining.raised h found (ap (raised_of state) same ∙ ordering.raised ∙ ap Some e)
            (live_before found.line h live)
            (bit_before found.line h live bit)
        ordered_by h found is live bit (inr apart) =
            standing.retaining.ordered h found (sym (other_ordered h apart) ∙ is) (live_before found.line h live)
            (bit_before found.line h live bit)

        first_by : (h : ℕ) (found : Request) → on found.line → ordered_of (base state request place) h ≡ Some found →
            is_live (base state request place) h ≡ true →
            has_bit (cache_of (base state request place) h) found.line ≡ true →
            (h ≡ request.hart) ⊎ (h ≡ request.hart → ⊥) → head_of (base state request place) found.line ≡ Some found
        first_by h found is_on is live bit (inl same) =
            let e : request ≡ found =
            same_Some _ _ (sym own_ordered ∙ ap (ordered_of (base state request place)) (sym same) ∙ is) in
            subst (λ r. head_of (base state request place) r.line ≡ Some r) e
            (own_first (subst on (ap (λ r. r.line) (sym e)) is_on)
            (subst (λ k. is_live state k ≡ true) same (live_before found.line h live))
            (subst (λ k. has_bit (cache_of state k) request.line ≡ true) same
            (subst (λ l. has_bit (cache_of state h) l ≡ true) (ap (λ r. r.line) (sym e))
            (bit_before found.line h live bit))))
        first_by h found is_on is live bit (inr apart) =
            heads found.line is_on
            ∙ standing.retaining.first h found tt (sym (other_ordered h apart) ∙ is) (live_before found.line h live)
            (bit_before found.line h live bit)
