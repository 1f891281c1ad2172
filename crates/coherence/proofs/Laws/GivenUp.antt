-- one hart after another gives a line up
use Rattle.std.proofs.Common.{◌≡◌, ◌≢◌, ◌∙◌, ◌<◌, ◌≤◌, ◌==◌, ◌&&◌, ◌||◌, not, Bool, ℕ, zero, suc, List, [], ◌∷◌, drop}
use Rattle.std.proofs.Common.{length, arith, refl, sym}
use Rattle.std.proofs.Common.{subst, inl, inr}
use Rattle.std.specs.Prelude.{slice_set}
use Rattle.std.proofs.Math.Seq.{drop-cons}
use Rattle.std.proofs.lemmas.Bool.{cases_eq}
use Rattle.residency.specs.Cache.{is_resident}
use Rattle.std.proofs.lemmas.List.{get_or-set_other, get_or-set_same, length-set}
use Rattle.cache_sets.specs.Cached.{Cached}
use Rattle.coherence.specs.Caches.{GivesUp, OthersGiveUp, cache_at, no_cache, others_from}
use Rattle.el_base.specs.declared.outcomes.Need.{Need}

-- the harts below a number have given the line up, but for one, and the others are as they were
pub record GivenUpBelow (need : Need) (h line number : ℕ) (old new : List Cached) : Type 0 where
  pub count : length new ≡ length old
  pub own : cache_at new h ≡ cache_at old h
  pub done : (g : ℕ) → g ≢ h → g < number → GivesUp need (cache_at old g) (cache_at new g) line
  pub rest : (g : ℕ) → number ≤ g → cache_at new g ≡ cache_at old g

pub none_yet : (need : Need) (h line : ℕ) (old : List Cached) → GivenUpBelow need h line 0 old old
none_yet need h line old =
    record { count = refl; own = refl; done = λ g other below. absurd (omega arith); rest = λ g from. refl }

-- the hart itself is passed over
pub passed_over : (need : Need) (h line number : ℕ) (old new : List Cached) → number ≡ h →
    GivenUpBelow need h line number old new → GivenUpBelow need h line (suc number) old new
passed_over need h line number old new own below = record {
  count = below.count;
  own = below.own;
  done = λ g other under. below.done g other (not_last g other under);
  rest = λ g from. below.rest g (omega arith);
}
  where
    not_last : (g : ℕ) → g ≢ h → g < suc number → g < number
    not_last g other under =
        elim (cases_eq g number) [ inl same ↦ absurd (other (same ∙ own)) | inr apart ↦ omega (arith, apart) ]

-- another one gives it up
pub one_more : (need : Need) (h line number : ℕ) (old new : List Cached) (cache : Cached) → number ≢ h →
    number < length new → GivesUp need (cache_at new number) cache line → GivenUpBelow need h line number old new →
    GivenUpBelow need h line (suc number) old (slice_set new number cache)
one_more need h line number old new cache other inside gives below = record {
  count = length-set new number cache ∙ below.count;
  own = get_or-set_other new number h cache no_cache (λ same. other (sym same)) ∙ below.own;
  done = λ g apart under. elim (cases_eq g number) [
    | inl same ↦ here g same
    | inr before ↦
        subst (λ c. GivesUp need (cache_at old g) c line) (sym (get_or-set_other new number g cache no_cache before))
        (below.done g apart (omega (arith, before, under)))
  ];
  rest = λ g from. get_or-set_other new number g cache no_cache (omega arith) ∙ below.rest g (omega arith);
}
  where
    here : (g : ℕ) → g ≡ number → GivesUp need (cache_at old g) (cache_at (slice_set new number cache) g) line
    here g same =
        rw (same, get_or-set_same new number cache no_cache inside)
        (subst (λ c. GivesUp need c cache line) (below.rest number (omega arith)) gives)

pub all_given_up : (need : Need) (h line number : ℕ) (old new : List Cached) → number ≡ length old →
    GivenUpBelow need h line number old new → OthersGiveUp need h line old new
all_given_up need h line number old new all below = record {
  count = below.count;
  own = below.own;
  others = λ g other inside. below.done g other (omega (arith, all, inside));
}

-- one hart before those that were asked
pub one_before : (caches : List Cached) (from number h line : ℕ) (some here : Bool) → from ≡ suc number →
    number < length caches → some ≡ others_from from (drop from caches) h line →
    here ≡ (not (number == h) && is_resident (cache_at caches number).residency line) →
    (here || some) ≡ others_from number (drop number caches) h line
one_before caches from number h line some here next inside later is =
    rw (later, is, next, drop-cons caches number no_cache inside) refl

-- past the last hart there is no cache
pub beyond : (caches : List Cached) (h : ℕ) → length caches ≤ h → cache_at caches h ≡ no_cache
beyond [] h past = refl
beyond (cache ∷ caches) zero past = absurd (omega arith)
beyond (cache ∷ caches) (suc h) past = beyond caches h (omega arith)
