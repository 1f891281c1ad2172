-- one hart after another gives a line up, in the pool that lends the caches
use Rattle.std.proofs.Common.{◌≡◌, ◌≢◌, ◌∙◌, ◌<◌, ◌+◌, ◌&&◌, ◌||◌, ◌==◌, not, arith, Bool, true, false, ℕ, suc, List}
use Rattle.std.proofs.Common.{drop, length, refl, ap, sym, subst}
use Rattle.std.specs.Prelude.{slice_set}
use Rattle.residency.specs.Cache.{is_resident}
use Rattle.cache_sets.specs.Cached.{Cached}
use Rattle.cache_sets.specs.Slotted.{IsLent, Slotted, lent}
use Rattle.coherence.specs.Caches.{GivesUp, OthersGiveUp, others_from}
use Rattle.coherence.specs.Lent.{IsLentTo, LeavesHolds, lent_all, slotted_at}
use Rattle.coherence.proofs.Laws.GivenUp.{GivenUpBelow, all_given_up, none_yet, one_before, one_more, passed_over}
use Rattle.coherence.proofs.Laws.Offered.{caches_set, holds_set, leaves_holds-same, leaves_holds-then, length-lent}
use Rattle.coherence.proofs.Laws.Offered.{lent_at, lent_set}
use Rattle.el_base.specs.declared.outcomes.Need.{Need}
use Rattle.line_pool.specs.Others.{LeavesOthers}
use Rattle.line_pool.specs.Pooled.{Pooled}

-- the harts below a number have given the line up, but for one, and the pool lends the caches as before
pub record GivenUpSoFar (need : Need) (h line number : ℕ) (first now : Pooled) (old new : List Slotted) : Type 0 where
  pub below : GivenUpBelow need h line number (lent_all first old) (lent_all now new)
  pub owed : IsLentTo now new
  pub holds : LeavesHolds first now

pub none_so_far : (need : Need) (h line : ℕ) (pool : Pooled) (caches : List Slotted) → IsLentTo pool caches
    → GivenUpSoFar need h line 0 pool pool caches caches
none_so_far need h line pool caches owed = record {
  below = none_yet need h line (lent_all pool caches);
  owed = owed;
  holds = leaves_holds-same pool;
}

one_on : (number : ℕ) → suc number ≡ number + 1
one_on number = omega arith

module _ (need : Need) (h line number : ℕ) (first now : Pooled) (old new : List Slotted)
    (so_far : GivenUpSoFar need h line number first now old new) where
  -- the hart itself is passed over
  pub passed_by : number ≡ h → GivenUpSoFar need h line (number + 1) first now old new
  passed_by own = record {
    below =
        subst (λ n. GivenUpBelow need h line n (lent_all first old) (lent_all now new)) (one_on number)
        (passed_over need h line number (lent_all first old) (lent_all now new) own so_far.below);
    owed = so_far.owed;
    holds = so_far.holds;
  }

  -- another one gives it up
  pub gave_one : (after : Pooled) (before cache : Slotted) → number ≢ h → number < length new →
      before ≡ slotted_at new number
      → GivesUp need (lent now before) (lent after cache) line → IsLent after cache →
      LeavesOthers before.owner now after
      → cache.owner ≡ before.owner → GivenUpSoFar need h line (number + 1) first after old (slice_set new number cache)
  gave_one after before cache other inside was gives kept leaves same = record {
    below =
        subst (GivenUpBelow need h line (number + 1) (lent_all first old))
        (sym (caches_set now after new number before cache so_far.owed inside was leaves))
        (subst (λ n. GivenUpBelow need h line n (lent_all first old)
        (slice_set (lent_all now new) number (lent after cache))) (one_on number)
        (one_more need h line number (lent_all first old) (lent_all now new) (lent after cache) other
        (subst (λ n. number < n) (sym (length-lent now new)) inside)
        (subst (λ c. GivesUp need c (lent after cache) line) (ap (lent now) was ∙ sym (lent_at now new number)) gives)
        so_far.below));
    owed = lent_set now after new number before cache so_far.owed inside was leaves same kept;
    holds =
        leaves_holds-then first now after so_far.holds
        (holds_set now after new number before cache so_far.owed inside was leaves);
  }

  -- no hart has come or gone
  pub all_there : (count : ℕ) → count ≡ length old → number < count → number < length new
  all_there count is below =
      subst (λ n. number < n) (is ∙ sym (length-lent first old) ∙ sym so_far.below.count ∙ length-lent now new) below

  pub all_gave : number ≡ length old → OthersGiveUp need h line (lent_all first old) (lent_all now new)
  all_gave all =
      all_given_up need h line number (lent_all first old) (lent_all now new)
      (all ∙ sym (length-lent first old)) so_far.below

-- a hart is there still, and its cache is the one that it was
pub still_there : (need : Need) (h line : ℕ) (first now : Pooled) (old new : List Slotted)
    → OthersGiveUp need h line (lent_all first old) (lent_all now new) → h < length old → h < length new
still_there need h line first now old new gave inside =
    subst (λ n. h < n) (sym (length-lent first old) ∙ sym gave.count ∙ length-lent now new) inside

-- one hart before those that were asked
or_some : (here some : Bool) → here ≡ true → here ≡ (here || some)
or_some true some is = refl
or_some false some is = absurd cc

or_none : (here some : Bool) → here ≡ false → some ≡ (here || some)
or_none true some is = absurd cc
or_none false some is = refl

module _ (caches : List Slotted) (from number h line : ℕ) (cache : Slotted) (some here : Bool)
    (next : from ≡ suc number)
    (inside : number < length caches) (found : cache ≡ slotted_at caches number)
    (later : (pool : Pooled) → some ≡ others_from from (drop from (lent_all pool caches)) h line)
    (is : here ≡ (not (number == h) && is_resident cache.residency line)) where
  one_before-lent : (pool : Pooled) → (here || some) ≡ others_from number (drop number (lent_all pool caches)) h line
  one_before-lent pool =
      one_before (lent_all pool caches) from number h line some here next
      (subst (λ n. number < n) (sym (length-lent pool caches)) inside) (later pool)
      (is
      ∙ ap (λ (c : Slotted). not (number == h) && is_resident c.residency line) found
      ∙ ap (λ (c : Cached). not (number == h) && is_resident c.residency line) (sym (lent_at pool caches number)))

  pub before_there : here ≡ true → (pool : Pooled) →
      here ≡ others_from number (drop number (lent_all pool caches)) h line
  before_there have pool = or_some here some have ∙ one_before-lent pool

  pub before_absent : here ≡ false → (pool : Pooled) →
      some ≡ others_from number (drop number (lent_all pool caches)) h line
  before_absent lack pool = or_none here some lack ∙ one_before-lent pool
