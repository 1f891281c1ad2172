-- what a delivered message changes of each hart
use Rattle.std.proofs.Common.{◌≡◌, ◌≤◌, ◌==◌, ℕ, Bool, true, false, List, [], ◌∷◌, length, map, Some, refl, ap, inl}
use Rattle.std.proofs.Common.{inr, ◌⊎◌, subst, if◌then◌else◌}
use Rattle.std.proofs.Math.Nat.{le_refl}
use Rattle.bus_order.specs.Order.{Request}
use Rattle.defer_list.specs.HartSet.{has}
use Rattle.el_model.specs.Conflicts.{conflicts_with}
use Rattle.el_model.specs.State.{Hart, ModelState, hart_of, head_of, ordered_on, post_all}
use Rattle.mail.specs.Mailbox.{Marker, Message, Probe, has_message, posted, same_message}
use Rattle.mail.proofs.Laws.LookUps.{has_posted_own}
use Rattle.mail.proofs.Laws.OnceEach.{same_is_one}
use Rattle.removal_laws.specs.Facts.{Everywhere, IsLinked, Knows, MayBeKnown}
use Rattle.section_laws.proofs.Laws.Bits.{Fewer, fewer_same, fewer_twice}
use Rattle.removal_laws.proofs.Grounds.{Standing}
use Rattle.removal_laws.proofs.Kept.{Owed, OwedOf, messages_moved, retaining_trimmed}
use Rattle.removal_laws.proofs.Posting.{knows_still, links_still, there_or_new}
use Rattle.el_model.proofs.Laws.EachHart.{Each}
use Rattle.stamp.specs.Stamps.{is_before}
use Rattle.el_base.proofs.Laws.Tests.{number_of_test, own_test}

-- the links, origins and entries of a hart, after a message was taken and others were posted; `Up` and `Told`
-- tell of the entries that are new
pub record Took (Up Told : ℕ → ℕ → Type 0) (state : ModelState) (g : ℕ) (old new : Hart) : Type 0 where
  pub raised : new.raised ≡ old.raised
  pub attempt : new.attempt ≡ old.attempt
  pub seen : old.seen ≤ new.seen
  pub links : (before : ℕ) → IsLinked old before → IsLinked new before
  pub linked : (before : ℕ) → IsLinked new before → IsLinked old before
  pub knows : (origin : ℕ) → Knows old origin → Knows new origin
  pub known : (origin : ℕ) → Knows new origin → Knows old origin ⊎ MayBeKnown state g origin
  pub upstream : (before : ℕ) → has new.upstream before ≡ true → (has old.upstream before ≡ true) ⊎ Up g before
  pub told : (origin : ℕ) → has new.told origin ≡ true → (has old.told origin ≡ true) ⊎ Told g origin
  pub fewer : (line : ℕ) → Fewer line old new

pub took_nothing : (Up Told : ℕ → ℕ → Type 0) (state : ModelState) (g : ℕ) (hart : Hart) →
    Took Up Told state g hart hart
took_nothing Up Told state g hart = record {
  raised = refl;
  attempt = refl;
  seen = le_refl hart.seen;
  links = λ before is. is;
  linked = λ before is. is;
  knows = λ origin is. is;
  known = λ origin is. inl is;
  upstream = λ before is. inl is;
  told = λ origin is. inl is;
  fewer = λ line. fewer_same line hart hart refl refl;
}

-- one more probe, and a list of them
pub probed : (Up Told : ℕ → ℕ → Type 0) (state : ModelState) (g origin : ℕ) (old hart : Hart) →
    MayBeKnown state g origin → Took Up Told state g old hart →
    Took Up Told state g old (record hart { mail = posted hart.mail (Probe origin) })
probed Up Told state g origin old hart may now = record {
  raised = now.raised;
  attempt = now.attempt;
  seen = now.seen;
  links = λ before is. links_still hart (Probe origin) before (now.links before is);
  linked = λ before is. now.linked before (linked before is);
  knows = λ other is. knows_still hart (Probe origin) other (now.knows other is);
  known = λ other is. known other is;
  upstream = now.upstream;
  told = now.told;
  fewer = λ line.
      fewer_twice line old hart (record hart { mail = posted hart.mail (Probe origin) }) (now.fewer line)
      (fewer_same line hart (record hart { mail = posted hart.mail (Probe origin) }) refl refl);
}
  where
    new : Hart
    new = record hart { mail = posted hart.mail (Probe origin) }

    of_marker : (before : ℕ) → (has_message hart.mail (Marker before) ≡ true) ⊎ (Probe origin ≡ Marker before) →
        IsLinked hart before
    of_marker before (inl was) = inl was
    of_marker before (inr same) = absurd (cc)

    linked : (before : ℕ) → IsLinked new before → IsLinked hart before
    linked before (inl sent) = of_marker before (there_or_new hart.mail (Probe origin) (Marker before) sent)
    linked before (inr is) = inr is

    of_probe : (other : ℕ) → (has_message hart.mail (Probe other) ≡ true) ⊎ (Probe origin ≡ Probe other) →
        Knows old other ⊎ MayBeKnown state g other
    of_probe other (inl was) = now.known other (inl was)
    of_probe other (inr same) = let e : origin ≡ other = cc in inr (subst (MayBeKnown state g) e may)

    known : (other : ℕ) → Knows new other → Knows old other ⊎ MayBeKnown state g other
    known other (inl sent) = of_probe other (there_or_new hart.mail (Probe origin) (Probe other) sent)
    known other (inr is) = now.known other (inr is)

pub all_probed : (Up Told : ℕ → ℕ → Type 0) (state : ModelState) (g : ℕ) (origins : List ℕ) (old hart : Hart) →
    ((origin : ℕ) → has origins origin ≡ true → MayBeKnown state g origin) → Took Up Told state g old hart →
    Took Up Told state g old (post_all hart (map Probe origins))
all_probed Up Told state g [] old hart may now = now
all_probed Up Told state g (origin ∷ origins) old hart may now =
    all_probed Up Told state g origins old (record hart { mail = posted hart.mail (Probe origin) })
    (λ other is. may other (later other is))
    (probed Up Told state g origin old hart
    (may origin (ap (λ b. if b then true else has origins origin) (own_test origin))) now)
  where
    later : (other : ℕ) → has origins other ≡ true → has (origin ∷ origins) other ≡ true
    later other is = by (origin == other)
      where
        by : (same : Bool) → (if same then true else has origins other) ≡ true
        by true = refl
        by false = is

pub all_known : (origins : List ℕ) (hart : Hart) (origin : ℕ) → (has origins origin ≡ true) ⊎ Knows hart origin →
    Knows (post_all hart (map Probe origins)) origin
all_known [] hart origin (inl is) = absurd (cc)
all_known [] hart origin (inr known) = known
all_known (first ∷ origins) hart origin is =
    all_known origins (record hart { mail = posted hart.mail (Probe first) }) origin (next is)
  where
    new : Hart
    new = record hart { mail = posted hart.mail (Probe first) }

    here : (same : Bool) → (first == origin) ≡ same → (if same then true else has origins origin) ≡ true →
        (has origins origin ≡ true) ⊎ Knows new origin
    here true same is =
        inr
        (inl
        (subst (λ o. has_message (posted hart.mail (Probe first)) (Probe o) ≡ true) (number_of_test first origin same)
        (has_posted_own hart.mail (Probe first))))
    here false apart is = inl is

    next : (has (first ∷ origins) origin ≡ true) ⊎ Knows hart origin → (has origins origin ≡ true) ⊎ Knows new origin
    next (inl is) = here (first == origin) refl is
    next (inr known) = inr (knows_still hart (Probe first) origin known)

-- the first message of a mailbox, and the others
pub first_or_later : (first : Message) (others : List Message) (message : Message) →
    has_message (first ∷ others) message ≡ true → (first ≡ message) ⊎ (has_message others message ≡ true)
first_or_later first others message = by (same_message first message) refl
  where
    by : (same : Bool) → same_message first message ≡ same → (if same then true else has_message others message)
        ≡ true → (first ≡ message) ⊎ (has_message others message ≡ true)
    by true same is = inl (same_is_one first message same)
    by false apart is = inr is

-- what holds still holds, where what is owed for each new entry is there
pub record Debts (Up Told : ℕ → ℕ → Type 0) (state final : ModelState) : Type 0 where
  pub order : final.order ≡ state.order
  pub count : length final.harts ≡ length state.harts
  pub each_took : Each (λ g hart. Took Up Told state g (hart_of state g) hart) final
  pub owed : (g before : ℕ) → Up g before → Owed final g before
  pub owed_of : (g origin : ℕ) → Told g origin → OwedOf final g origin
  pub safe : (g origin : ℕ) → Told g origin → (line : ℕ) (request : Request) →
      ordered_on state origin line ≡ Some request → conflicts_with (head_of state line) g (hart_of final g) ≡ true →
      is_before request.stamp (hart_of state g).attempt ≡ false

pub debts_stand : (Up Told : ℕ → ℕ → Type 0) (state final : ModelState) → Debts Up Told state final →
    Standing state → Standing final
debts_stand Up Told state final debts standing = record {
  messages =
      messages_moved Everywhere state final
      (record {
        order = debts.order;
        count = debts.count;
        links = λ g before is. (debts.each_took g).links before is;
        fresh = λ g before is. inl ((debts.each_took g).linked before is);
        knows = λ g origin is. (debts.each_took g).knows origin is;
        known = λ g origin is. (debts.each_took g).known origin is;
        upstream = λ g before is. up g before ((debts.each_took g).upstream before is);
        told = λ g origin is. told g origin ((debts.each_took g).told origin is);
      }) standing.messages;
  retaining =
      retaining_trimmed Everywhere state final debts.order
      (λ g. record {
        raised = (debts.each_took g).raised;
        attempt = (debts.each_took g).attempt;
        seen = (debts.each_took g).seen;
        links = (debts.each_took g).links;
        told = λ origin is. told_safe g origin ((debts.each_took g).told origin is);
        fewer = (debts.each_took g).fewer;
      }) standing.retaining;
}
  where
    up : (g before : ℕ) → (has (hart_of state g).upstream before ≡ true) ⊎ Up g before →
        (has (hart_of state g).upstream before ≡ true) ⊎ Owed final g before
    up g before (inl was) = inl was
    up g before (inr new) = inr (debts.owed g before new)

    told : (g origin : ℕ) → (has (hart_of state g).told origin ≡ true) ⊎ Told g origin →
        (has (hart_of state g).told origin ≡ true) ⊎ OwedOf final g origin
    told g origin (inl was) = inl was
    told g origin (inr new) = inr (debts.owed_of g origin new)

    told_safe : (g origin : ℕ) → (has (hart_of state g).told origin ≡ true) ⊎ Told g origin →
        (has (hart_of state g).told origin ≡ true)
        ⊎ ((line : ℕ) (request : Request) → ordered_on state origin line ≡ Some request →
        conflicts_with (head_of state line) g (hart_of final g) ≡ true →
        is_before request.stamp (hart_of state g).attempt ≡ false)
    told_safe g origin (inl was) = inl was
    told_safe g origin (inr new) = inr (debts.safe g origin new)
