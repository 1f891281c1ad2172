-- which changes keep what is in mailboxes and sets, and what sections have to do with requests
use Rattle.std.proofs.Common.{◌≡◌, ◌≢◌, ◌∙◌, ◌≤◌, ℕ, true, false, List, [], ◌∷◌, length, Option, None, Some, is_some}
use Rattle.std.proofs.Common.{refl, ap, sym, inl, inr, ◌⊎◌}
use Rattle.std.proofs.Common.{arith, subst}
use Rattle.bus_order.specs.Order.{Request, first_of, queue_of, request_of}
use Rattle.residency.specs.Cache.{has_bit}
use Rattle.defer_list.specs.HartSet.{has}
use Rattle.el_model.specs.Conflicts.{conflicts_with}
use Rattle.el_model.specs.State.{Hart, ModelState, cache_of, for_line, hart_of, head_of, is_live, ordered_on}
use Rattle.removal_laws.specs.Facts.{AreLinked, IsChained, IsLinked, IsWaiting, Knows, MayBeKnown, MayPrecede}
use Rattle.removal_laws.specs.Facts.{MayRetain, Messages, Retaining}
use Rattle.section_laws.proofs.Laws.Bits.{Fewer, fewer_bit, fewer_conflicts}
use Rattle.removal_laws.proofs.Posting.{Posted}
use Rattle.el_model.proofs.Laws.EachHart.{Each}
use Rattle.el_model.proofs.Laws.Orders.{head_line}
use Rattle.stamp.specs.Stamps.{is_before}

-- chains
pub linked_kept : (old new : ModelState) →
    ((h before : ℕ) → IsLinked (hart_of old h) before → IsLinked (hart_of new h) before) →
    (before : ℕ) (queue : List Request) → AreLinked old before queue → AreLinked new before queue
linked_kept old new links before [] now = tt
linked_kept old new links before (request ∷ others) (link, rest) =
    (links request.hart before link, linked_kept old new links request.hart others rest)

pub chained_kept : (old new : ModelState) →
    ((h before : ℕ) → IsLinked (hart_of old h) before → IsLinked (hart_of new h) before) → (queue : List Request) →
    IsChained old queue → IsChained new queue
chained_kept old new links [] now = tt
chained_kept old new links (head ∷ others) now = linked_kept old new links head.hart others now

-- what a hart that is upstream has to know of one that it is before, and who has to know of an
-- origin that a hart was told of
pub record Owed (new : ModelState) (g before : ℕ) : Type 0 where
  pub own : Knows (hart_of new before) g
  pub others : (origin line : ℕ) (own request : Request) → has (hart_of new g).told origin ≡ true → before ≢ origin →
      ordered_on new g line ≡ Some own → ordered_on new origin line ≡ Some request → Knows (hart_of new before) origin

abbrev pub OwedOf : ModelState → ℕ → ℕ → Type 0
OwedOf new g origin =
    (before line : ℕ) (own request : Request) → has (hart_of new g).upstream before ≡ true → before ≢ origin →
    ordered_on new g line ≡ Some own → ordered_on new origin line ≡ Some request → Knows (hart_of new before) origin

-- messages are posted and taken: each link, origin and entry of a set is an old one, or one that may be
pub record Moved (old new : ModelState) : Type 0 where
  pub order : new.order ≡ old.order
  pub count : length new.harts ≡ length old.harts
  pub links : (g before : ℕ) → IsLinked (hart_of old g) before → IsLinked (hart_of new g) before
  pub fresh : (g before : ℕ) → IsLinked (hart_of new g) before →
      IsLinked (hart_of old g) before ⊎ MayPrecede old g before
  pub knows : (g origin : ℕ) → Knows (hart_of old g) origin → Knows (hart_of new g) origin
  pub known : (g origin : ℕ) → Knows (hart_of new g) origin → Knows (hart_of old g) origin ⊎ MayBeKnown old g origin
  pub upstream : (g before : ℕ) → has (hart_of new g).upstream before ≡ true →
      (has (hart_of old g).upstream before ≡ true) ⊎ Owed new g before
  pub told : (g origin : ℕ) → has (hart_of new g).told origin ≡ true →
      (has (hart_of old g).told origin ≡ true) ⊎ OwedOf new g origin

pub on_before : (old new : ModelState) → new.order ≡ old.order → (h line : ℕ) (found : Option Request) →
    ordered_on new h line ≡ found → ordered_on old h line ≡ found
on_before old new order h line found is = subst (λ o. for_line line (request_of o h) ≡ found) order is

waits_after : (old new : ModelState) → new.order ≡ old.order → (h : ℕ) → IsWaiting old h → IsWaiting new h
waits_after old new order h waits = subst (λ o. is_some (request_of o h) ≡ true) (sym order) waits

pub messages_moved : (on : ℕ → Type 0) (old new : ModelState) → Moved old new → Messages on old → Messages on new
messages_moved on old new moved now = record {
  before = λ h before is. precede h before (moved.fresh h before is);
  known = λ h origin is. be_known h origin (moved.known h origin is);
  chained = λ line is_on.
      subst (λ o. IsChained new (queue_of o line)) (sym moved.order)
      (chained_kept old new moved.links (queue_of old.order line) (now.chained line is_on));
  told_own = λ h before is. own h before (moved.upstream h before is);
  told_on = λ h before origin line mine request is told other is_on waits.
      others h before origin line mine request is told other is_on waits (moved.upstream h before is)
      (moved.told h origin told);
}
  where
    precede_after : (h before : ℕ) → MayPrecede old h before → MayPrecede new h before
    precede_after h before may =
        record {
          waits = waits_after old new moved.order h may.waits;
          other = may.other;
          exists = rw moved.count may.exists;
        }

    precede : (h before : ℕ) → IsLinked (hart_of old h) before ⊎ MayPrecede old h before → MayPrecede new h before
    precede h before (inl was) = precede_after h before (now.before h before was)
    precede h before (inr may) = precede_after h before may

    known_after : (h origin : ℕ) → MayBeKnown old h origin → MayBeKnown new h origin
    known_after h origin may = record { waits = waits_after old new moved.order origin may.waits; other = may.other }

    be_known : (h origin : ℕ) → Knows (hart_of old h) origin ⊎ MayBeKnown old h origin → MayBeKnown new h origin
    be_known h origin (inl was) = known_after h origin (now.known h origin was)
    be_known h origin (inr may) = known_after h origin may

    own : (h before : ℕ) → (has (hart_of old h).upstream before ≡ true) ⊎ Owed new h before →
        Knows (hart_of new before) h
    own h before (inl was) = moved.knows before h (now.told_own h before was)
    own h before (inr owed) = owed.own

    others : (h before origin line : ℕ) (mine request : Request) → has (hart_of new h).upstream before ≡ true →
        has (hart_of new h).told origin ≡ true →
        before ≢ origin → ordered_on new h line ≡ Some mine → ordered_on new origin line ≡ Some request →
        (has (hart_of old h).upstream before ≡ true) ⊎ Owed new h before →
        (has (hart_of old h).told origin ≡ true) ⊎ OwedOf new h origin → Knows (hart_of new before) origin
    others h before origin line mine request is told other is_on waits (inr owed) was =
        owed.others origin line mine request told other is_on waits
    others h before origin line mine request is told other is_on waits (inl was) (inr owed) =
        owed before line mine request is other is_on waits
    others h before origin line mine request is told other is_on waits (inl was) (inl was_told) =
        moved.knows before origin
        (now.told_on h before origin line mine request was was_told other
        (on_before old new moved.order h line (Some mine) is_on)
        (on_before old new moved.order origin line (Some request) waits))

-- where each hart was posted messages and nothing else, as a head is faced
pub record AllPosted (old new : ModelState) : Type 0 where
  pub order : new.order ≡ old.order
  pub count : length new.harts ≡ length old.harts
  pub each_posted : Each (λ g hart. Posted old g (hart_of old g) hart) new

pub moved_by_post : (old new : ModelState) → AllPosted old new → Moved old new
moved_by_post old new posts = record {
  order = posts.order;
  count = posts.count;
  links = λ g before is. (posts.each_posted g).links before is;
  fresh = λ g before is. (posts.each_posted g).fresh before is;
  knows = λ g origin is. (posts.each_posted g).knows origin is;
  known = λ g origin is. inl ((posts.each_posted g).known origin is);
  upstream = λ g before is. inl (subst (λ harts. has harts before ≡ true) (posts.each_posted g).upstream is);
  told = λ g origin is. inl (subst (λ harts. has harts origin ≡ true) (posts.each_posted g).told is);
}

-- what keeps a section's leave to retain a line: its attempt, no origin more that it was told of, and
-- no clock less that it has seen
pub record Kept (old new : Hart) : Type 0 where
  pub attempt : new.attempt ≡ old.attempt
  pub told : (origin : ℕ) → has new.told origin ≡ true → has old.told origin ≡ true
  pub seen : old.seen ≤ new.seen

pub may_kept : (old new : ModelState) (g line : ℕ) → head_of new line ≡ head_of old line →
    ((origin : ℕ) (request : Request) → has (hart_of old g).told origin ≡ true →
    ordered_on new origin line ≡ Some request → ordered_on old origin line ≡ Some request) →
    ((head : Request) → head_of old line ≡ Some head → IsLinked (hart_of old head.hart) g →
    IsLinked (hart_of new head.hart) g) → Kept (hart_of old g) (hart_of new g) → MayRetain old g line →
    MayRetain new g line
may_kept old new g line heads orders links kept may = record {
  link = λ head is. links head (sym heads ∙ is) (may.link head (sym heads ∙ is));
  seen = λ head stamp is stamp_is.
      let was = may.seen head stamp (sym heads ∙ is) stamp_is in
      let more = kept.seen in
      omega (arith, was, more);
  not_after_head = λ head is. rw kept.attempt (may.not_after_head head (sym heads ∙ is));
  not_after_told = λ origin request told is.
      rw kept.attempt
      (may.not_after_told origin request (kept.told origin told) (orders origin request (kept.told origin told) is));
}

-- a section that retains a line retained it before, by the same head
pub retained_before : (line : ℕ) (g : ℕ) (head : Option Request) (old new : Hart) →
    ((request : Request) → head ≡ Some request → request.line ≡ line) →
    Fewer line old new → conflicts_with head g new ≡ true → conflicts_with head g old ≡ true
retained_before line g None old new lines fewer is = absurd (cc)
retained_before line g (Some request) old new lines fewer is =
    fewer_conflicts request g old new (subst (λ l. Fewer l old new) (sym (lines request refl)) fewer) is

-- where each section has no bit more, and each origin more that its hart was told of has no less
-- stamp on a line that it retains
pub record Trimmed (state : ModelState) (g : ℕ) (old new : Hart) : Type 0 where
  pub raised : new.raised ≡ old.raised
  pub attempt : new.attempt ≡ old.attempt
  pub seen : old.seen ≤ new.seen
  pub links : (before : ℕ) → IsLinked old before → IsLinked new before
  pub told : (origin : ℕ) → has new.told origin ≡ true → (has old.told origin ≡ true)
      ⊎ ((line : ℕ) (request : Request) → ordered_on state origin line ≡ Some request →
      conflicts_with (head_of state line) g new ≡ true → is_before request.stamp old.attempt ≡ false)
  pub fewer : (line : ℕ) → Fewer line old new

pub retaining_trimmed : (on : ℕ → Type 0) (old new : ModelState) → new.order ≡ old.order →
    Each (λ g hart. Trimmed old g (hart_of old g) hart) new →
    Retaining on old → Retaining on new
retaining_trimmed on old new order trimmed now = record {
  may = λ g line is_on is.
      let here = subst (λ o. conflicts_with (first_of o line) g (hart_of new g) ≡ true) order is in
      may_by g line here
      (now.may g line is_on
      (retained_before line g (head_of old line) (hart_of old g) (hart_of new g) (head_line old line)
      ((trimmed g).fewer line) here));
  raised = λ h request is live bit.
      now.raised h request (sym (trimmed h).raised ∙ is) (((trimmed h).fewer request.line).live live)
      (bit_was h request live bit);
  ordered = λ h request is live bit.
      now.ordered h request (subst (λ o. request_of o h ≡ Some request) order is)
      (((trimmed h).fewer request.line).live live)
      (bit_was h request live bit);
  first = λ h request is_on is live bit.
      ap (λ o. first_of o request.line) order
      ∙ now.first h request is_on (subst (λ o. request_of o h ≡ Some request) order is)
      (((trimmed h).fewer request.line).live live)
      (bit_was h request live bit);
}
  where
    bit_was : (h : ℕ) (request : Request) → is_live new h ≡ true → has_bit (cache_of new h) request.line ≡ true →
        has_bit (cache_of old h) request.line ≡ true
    bit_was h request live bit =
        fewer_bit request.line (hart_of old h) (hart_of new h) ((trimmed h).fewer request.line) live bit

    not_after : (g line origin : ℕ) (request : Request) → conflicts_with (head_of old line) g (hart_of new g) ≡ true →
        MayRetain old g line → ordered_on old origin line ≡ Some request → (has (hart_of old g).told origin ≡ true)
        ⊎ ((line : ℕ) (request : Request) → ordered_on old origin line ≡ Some request →
        conflicts_with (head_of old line) g (hart_of new g) ≡ true →
        is_before request.stamp (hart_of old g).attempt ≡ false) →
        is_before request.stamp (hart_of old g).attempt ≡ false
    not_after g line origin request here may is (inl was) = may.not_after_told origin request was is
    not_after g line origin request here may is (inr safe) = safe line request is here

    may_by : (g line : ℕ) → conflicts_with (head_of old line) g (hart_of new g) ≡ true → MayRetain old g line →
        MayRetain new g line
    may_by g line here may =
        let heads = ap (λ o. first_of o line) order in
        record {
          link = λ head is. (trimmed head.hart).links g (may.link head (sym heads ∙ is));
          seen = λ head stamp is stamp_is.
              let was = may.seen head stamp (sym heads ∙ is) stamp_is in
              let more = (trimmed g).seen in
              omega (arith, was, more);
          not_after_head = λ head is. rw (trimmed g).attempt (may.not_after_head head (sym heads ∙ is));
          not_after_told = λ origin request told is.
              rw (trimmed g).attempt
              (not_after g line origin request here may (on_before old new order origin line (Some request) is)
              ((trimmed g).told origin told));
        }

posted_trims : (state : ModelState) (g : ℕ) (old new : Hart) → Posted state g old new → Trimmed state g old new
posted_trims state g old new post = record {
  raised = post.raised;
  attempt = post.attempt;
  seen = post.seen;
  links = post.links;
  told = λ origin told. inl (subst (λ harts. has harts origin ≡ true) post.told told);
  fewer = post.fewer;
}

pub retaining_posted : (on : ℕ → Type 0) (old new : ModelState) → AllPosted old new → Retaining on old →
    Retaining on new
retaining_posted on old new posts now =
    retaining_trimmed on old new posts.order
    (λ g. posted_trims old g (hart_of old g) (hart_of new g) (posts.each_posted g)) now
