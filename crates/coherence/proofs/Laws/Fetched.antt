-- after a fetch caches and main memory tell of each line what they told
use Rattle.std.proofs.Common.{◌≡◌, ◌≢◌, ◌∙◌, ◌⊎◌, ◌<◌, ◌≤◌, ◌-◌, arith, ℕ, Bool, true, false, List, [], length, Option}
use Rattle.std.proofs.Common.{None, Some, is_some}
use Rattle.std.proofs.Common.{option_map, ap, refl, sym, subst, inl, inr, if◌then◌else◌}
use Rattle.std.specs.Prelude.{slice_index_or, slice_set}
use Rattle.std.proofs.lemmas.Bool.{cases_eq}
use Rattle.std.proofs.lemmas.List.{get_or_read_under, get_or-set_other, get_or-set_same, length-set}
use Rattle.std.proofs.lemmas.Option.{same_Some}
use Rattle.residency.specs.Cache.{evicted_by, filled_with, is_resident, way_of}
use Rattle.cache_sets.specs.Cached.{Cached, Copy, bytes_of, copy_in}
use Rattle.cache_sets.specs.Calls.{IsFilledWith}
use Rattle.residency.specs.Residency.{Way}
use Rattle.cache_sets.specs.Slotted.{IsLent, Slotted, lent}
use Rattle.cache_sets.specs.declared.evicted.Evicted.{Evicted}
use Rattle.coherence.specs.Caches.{AreCoherent, GivesUp, IsInMemory, OthersGiveUp, behind_of, cache_at, copies_of}
use Rattle.coherence.specs.Caches.{others_have}
use Rattle.coherence.specs.Lent.{IsReplacedIn, no_slotted, slotted_at}
use Rattle.coherence.specs.Line.{Coherent, IsFound}
use Rattle.coherence.specs.Writing.{GoneIsInMemory}
use Rattle.coherence.specs.Served.{IsFetched, lines_after, victim_of, with_copy_back, with_line_back, written_back}
use Rattle.coherence.proofs.FetchLaws.{Fetch, fetched_aside, fetched_own, fetched_rest, given_up_at, left_other}
use Rattle.coherence.proofs.FetchLaws.{line_fetched, line_left, other_new, own_new}
use Rattle.coherence.proofs.Laws.LineLaws.{same_line}
use Rattle.coherence.proofs.Laws.Owners.{copy_is}
use Rattle.el_base.specs.declared.outcomes.Need.{Need}
use Rattle.el_base.specs.declared.outcomes.Need.TheVariants.{Read, Write}
use Rattle.el_base.proofs.Laws.Cases.{none_some}
use Rattle.el_model.specs.Serve.{given_up}
use Rattle.line_pool.specs.Pooled.{Pooled}
use Rattle.moesi.specs.declared.letter.Letter.{Letter}
use Rattle.moesi.specs.Letters.{filled_of, is_dirty}

pub length-written_back : (first : ℕ) (lines : List (List ℕ)) (evicted : Option Evicted) →
    length (written_back first lines evicted) ≡ length lines
length-written_back first lines None = refl
length-written_back first lines (Some gone) = by (is_dirty gone.letter)
  where
    by : (dirty : Bool) →
        length (if dirty then slice_set lines (gone.line.number - first) gone.bytes else lines) ≡ length lines
    by true = length-set lines (gone.line.number - first) gone.bytes
    by false = refl

behind_here : (first : ℕ) (lines : List (List ℕ)) (gone : Evicted) → IsInMemory first (length lines) gone.line.number →
    behind_of first (written_back first lines (Some gone)) gone.line.number
    ≡ (if is_dirty gone.letter then gone.bytes else behind_of first lines gone.line.number)
behind_here first lines gone there = by (is_dirty gone.letter)
  where
    by : (dirty : Bool) →
        behind_of first (if dirty then slice_set lines (gone.line.number - first) gone.bytes else lines)
        gone.line.number
        ≡ (if dirty then gone.bytes else behind_of first lines gone.line.number)
    by true = get_or-set_same lines (gone.line.number - first) gone.bytes [] (omega (arith, there.from, there.below))
    by false = refl

pub behind_rest : (first l : ℕ) (lines : List (List ℕ)) (evicted : Option Evicted) → first ≤ l →
    ((gone : Evicted) → evicted ≡ Some gone → (first ≤ gone.line.number) × (l ≢ gone.line.number)) →
    behind_of first (written_back first lines evicted) l ≡ behind_of first lines l
behind_rest first l lines None from other = refl
behind_rest first l lines (Some gone) from other = by (is_dirty gone.letter) (other gone refl)
  where
    by : (dirty : Bool) → (first ≤ gone.line.number) × (l ≢ gone.line.number) →
        behind_of first (if dirty then slice_set lines (gone.line.number - first) gone.bytes else lines) l
        ≡ behind_of first lines l
    by true apart =
        get_or-set_other lines (gone.line.number - first) (l - first) gone.bytes []
        (λ same. apart.1 (omega (arith, same, from, apart.0)))
    by false apart = refl

-- a line is there where a copy is
pub copy_resident : (cached : Cached) (line : ℕ) (copy : Copy) → copy_in cached line ≡ Some copy →
    is_resident cached.residency line ≡ true
copy_resident cached line copy there = by (way_of cached.residency line) there
  where
    by : (way : Option Way) → option_map {U = Copy} (λ w. record { letter = w.letter; bytes = bytes_of cached line })
        way ≡ Some copy → is_some way ≡ true
    by None is = none_some is
    by (Some way) is = refl

-- a line that left was in memory
pub gone_inside : (need : Need) (h line first : ℕ) (lines : List (List ℕ)) (old mid : List Cached) (cache : Cached)
    (bytes : List ℕ)
    (told : ℕ → List ℕ) (evicted : Option Evicted) (gone : Evicted) → Fetch need h line old mid cache bytes evicted →
    AreCoherent told first lines old → evicted ≡ Some gone → IsInMemory first (length lines) gone.line.number
gone_inside need h line first lines old mid cache bytes told evicted gone fetch coherent is =
    coherent.inside h gone.line.number
    (copy_resident (cache_at old h) gone.line.number _
    (sym (ap (λ c. copy_in c gone.line.number) fetch.gave.own) ∙ fetch.filled.left gone is))

-- each line tells what it told
each_fetched : (need : Need) (h line first : ℕ) (lines : List (List ℕ)) (old mid : List Cached) (cache : Cached)
    (bytes : List ℕ)
    (told : ℕ → List ℕ) (evicted : Option Evicted) → Fetch need h line old mid cache bytes evicted →
    IsFound (copies_of old line) (behind_of first lines line) bytes → AreCoherent told first lines old →
    (l : ℕ) → IsInMemory first (length lines) l →
    Coherent (told l) (copies_of (slice_set mid h cache) l) (behind_of first (written_back first lines evicted) l)
each_fetched need h line first lines old mid cache bytes told evicted fetch found coherent l there =
    elim (cases_eq l line) [
      | inl same ↦ here same
      | inr other ↦ apart evicted refl other
    ]
  where
    here : l ≡ line → Coherent (told l) (copies_of (slice_set mid h cache) l)
        (behind_of first (written_back first lines evicted) l)
    here same =
        let in_memory : IsInMemory first (length lines) line = subst (IsInMemory first (length lines)) same there in
        rw (
          same,
          behind_rest first line lines evicted in_memory.from
              (λ gone is. (
                (gone_inside need h line first lines old mid cache bytes told evicted gone fetch coherent is).from,
                λ is_it. left_other need h line old mid cache bytes evicted gone fetch is (sym is_it),
              )),
        )
        (line_fetched need h line old mid cache bytes (told line) (behind_of first lines line) evicted fetch found
        (coherent.each line in_memory))

    rest : l ≢ line → ((gone : Evicted) → evicted ≡ Some gone → l ≢ gone.line.number) →
        Coherent (told l) (copies_of (slice_set mid h cache) l) (behind_of first (written_back first lines evicted) l)
    rest other stays =
        same_line (told l) (copies_of old l) (copies_of (slice_set mid h cache) l) (behind_of first lines l) _
        (coherent.each l there)
        (λ g. fetched_rest need h line l g old mid cache bytes evicted fetch other stays)
        (behind_rest first l lines evicted there.from
        (λ gone is. (
          (gone_inside need h line first lines old mid cache bytes told evicted gone fetch coherent is).from,
          stays gone is,
        )))

    left : (gone : Evicted) → evicted ≡ Some gone → l ≡ gone.line.number →
        Coherent (told l) (copies_of (slice_set mid h cache) l) (behind_of first (written_back first lines evicted) l)
    left gone is same =
        let inside = gone_inside need h line first lines old mid cache bytes told evicted gone fetch coherent is in
        subst (λ k. Coherent (told k) (copies_of (slice_set mid h cache) k)
        (behind_of first (written_back first lines evicted) k)) (sym same)
        (line_left need h line old mid cache bytes (told gone.line.number) (behind_of first lines gone.line.number) _
        evicted gone fetch is
        (left_other need h line old mid cache bytes evicted gone fetch is)
        (ap (λ e. behind_of first (written_back first lines e) gone.line.number) is
        ∙ behind_here first lines gone inside)
        (coherent.each gone.line.number inside))

    apart : (found : Option Evicted) → evicted ≡ found → l ≢ line →
        Coherent (told l) (copies_of (slice_set mid h cache) l) (behind_of first (written_back first lines evicted) l)
    apart None is other = rest other (λ gone some. none_some (sym is ∙ some))
    apart (Some gone) is other =
        elim (cases_eq l gone.line.number) [
          | inl same ↦ left gone is same
          | inr differs ↦
              rest other (λ g some. subst (λ e. l ≢ e.line.number) (same_Some gone g (sym is ∙ some)) differs)
        ]

-- a line that a cache has is in memory
inside_fetched : (need : Need) (h line first : ℕ) (lines : List (List ℕ)) (old mid : List Cached) (cache : Cached)
    (bytes : List ℕ)
    (told : ℕ → List ℕ) (evicted : Option Evicted) → Fetch need h line old mid cache bytes evicted →
    AreCoherent told first lines old → IsInMemory first (length lines) line → (g l : ℕ) →
    is_resident (cache_at (slice_set mid h cache) g).residency l ≡ true → IsInMemory first (length lines) l
inside_fetched need h line first lines old mid cache bytes told evicted fetch coherent there g l resident =
    elim (cases_eq l line) [
      | inl same ↦ subst (IsInMemory first (length lines)) (sym same) there
      | inr other ↦ elim (cases_eq g h) [
        | inl own ↦ mine own (gone_or_not evicted refl) other
        | inr apart ↦ was (fetched_aside need h line l g old mid cache fetch.gave other apart)
      ]
    ]
  where
    was : copies_of (slice_set mid h cache) l g ≡ copies_of old l g → IsInMemory first (length lines) l
    was same =
        coherent.inside g l
        (copy_resident (cache_at old g) l _ (sym same ∙ copy_is (cache_at (slice_set mid h cache) g) l resident))

    gone_or_not : (found : Option Evicted) → evicted ≡ found →
        ((gone : Evicted) → evicted ≡ Some gone → l ≢ gone.line.number)
        ⊎ ((gone : Evicted) × (evicted ≡ Some gone) × (l ≡ gone.line.number))
    gone_or_not None is = inl (λ gone some. none_some (sym is ∙ some))
    gone_or_not (Some gone) is =
        elim (cases_eq l gone.line.number) [
          | inl same ↦ inr (gone, is, same)
          | inr differs ↦ inl (λ e some. subst (λ x. l ≢ x.line.number) (same_Some gone e (sym is ∙ some)) differs)
        ]

    mine : g ≡ h → ((gone : Evicted) → evicted ≡ Some gone → l ≢ gone.line.number)
        ⊎ ((gone : Evicted) × (evicted ≡ Some gone) × (l ≡ gone.line.number)) → l ≢ line →
        IsInMemory first (length lines) l
    mine own (inl stays) other = was (fetched_rest need h line l g old mid cache bytes evicted fetch other stays)
    mine own (inr (gone, is, same)) other =
        none_some
        (sym (fetch.filled.gone gone is)
        ∙ (sym (ap (λ c. copy_in c gone.line.number) (own_new need h line old mid cache bytes evicted fetch))
        ∙ (sym (ap (λ k. copy_in (cache_at (slice_set mid h cache) k) gone.line.number) own)
        ∙ (ap (λ k. copy_in (cache_at (slice_set mid h cache) g) k) (sym same)
        ∙ copy_is (cache_at (slice_set mid h cache) g) l resident))))

pub coherent_fetched : (need : Need) (h line first : ℕ) (lines : List (List ℕ)) (old mid : List Cached) (cache : Cached)
    (bytes : List ℕ)
    (told : ℕ → List ℕ) (evicted : Option Evicted) → Fetch need h line old mid cache bytes evicted →
    IsFound (copies_of old line) (behind_of first lines line) bytes → IsInMemory first (length lines) line →
    AreCoherent told first lines old → AreCoherent told first (written_back first lines evicted) (slice_set mid h cache)
coherent_fetched need h line first lines old mid cache bytes told evicted fetch found there coherent = record {
  each = λ l in_memory.
      each_fetched need h line first lines old mid cache bytes told evicted fetch found coherent l
      (subst (λ n. IsInMemory first n l) (length-written_back first lines evicted) in_memory);
  inside = λ g l resident.
      subst (λ n. IsInMemory first n l) (sym (length-written_back first lines evicted))
      (inside_fetched need h line first lines old mid cache bytes told evicted fetch coherent there g l resident);
}

gives_ways : (need : Need) (old new : Cached) (line : ℕ) → GivesUp need old new line → new.ways ≡ old.ways
gives_ways Write old new line gave = gave.ways
gives_ways Read old new line gave = gave.ways

gives_residency : (need : Need) (old new : Cached) (line : ℕ) → GivesUp need old new line →
    new.residency ≡ given_up need old.residency line
gives_residency Write old new line gave = gave.residency
gives_residency Read old new line gave = gave.residency

pub chosen_else : {A : Type 0} (test : Bool) (x y : A) → test ≡ false → (if test then x else y) ≡ y
chosen_else true x y is = absurd (cc)
chosen_else false x y is = refl

pub chosen_then : {A : Type 0} (test : Bool) (x y : A) → test ≡ true → (if test then x else y) ≡ x
chosen_then true x y is = refl
chosen_then false x y is = absurd (cc)

-- what left a cache is what the cache had of it
back_as_it_was : (cached : Cached) (first : ℕ) (lines : List (List ℕ)) (evicted : Option Evicted) →
    ((gone : Evicted) → evicted ≡ Some gone →
    copy_in cached gone.line.number ≡ Some (record { letter = gone.letter; bytes = gone.bytes })) →
    written_back first lines evicted ≡ with_line_back cached first lines (option_map (λ gone. gone.line.number) evicted)
back_as_it_was cached first lines None left = refl
back_as_it_was cached first lines (Some gone) left =
    ap (with_copy_back first lines gone.line.number) (sym (left gone refl))

-- main memory after a fetch is the old one, but for the line that left
left_behind : (need : Need) (h line first : ℕ) (lines : List (List ℕ)) (old mid : List Cached) (cache : Cached)
    (bytes : List ℕ)
    (evicted : Option Evicted) → Fetch need h line old mid cache bytes evicted →
    written_back first lines evicted ≡ lines_after h line (record { first = first; lines = lines; caches = old })
unfolding lines_after
left_behind need h line first lines old mid cache bytes evicted fetch =
    let cached = cache_at old h in
    let left_is : option_map (λ gone. gone.line.number) evicted ≡ victim_of cached line =
    fetch.filled.victim ∙ ap (λ c. option_map (λ way. way.line) (evicted_by c.ways c.residency line)) fetch.gave.own
    ∙ sym (chosen_else (is_resident cached.residency line) None _ fetch.absent) in
    back_as_it_was cached first lines evicted
    (λ gone is. sym (ap (λ c. copy_in c gone.line.number) fetch.gave.own) ∙ fetch.filled.left gone is)
    ∙ ap (with_line_back cached first lines) left_is

-- a fetch by its parts
pub fetched_by_parts : (need : Need) (h line first : ℕ) (lines after : List (List ℕ)) (old mid new : List Cached)
    (cache : Cached)
    (bytes : List ℕ) (evicted : Option Evicted) → Fetch need h line old mid cache bytes evicted →
    IsFound (copies_of old line) (behind_of first lines line) bytes → IsInMemory first (length lines) line →
    after ≡ written_back first lines evicted → new ≡ slice_set mid h cache →
    IsFetched need h line (record { first = first; lines = lines; caches = old })
    (record { first = first; lines = after; caches = new })
fetched_by_parts need h line first lines after old mid new cache bytes evicted fetch found there after_is new_is =
    rw (after_is, new_is)
    (record {
      stays = record {
        first = refl;
        lines = length-written_back first lines evicted;
        caches = length-set mid h cache ∙ fetch.gave.count;
        coherent = λ told coherent.
            coherent_fetched need h line first lines old mid cache bytes told evicted fetch found there coherent;
      };
      here =
          copy_resident (cache_at (slice_set mid h cache) h) line _
          (fetched_own need h line old mid cache bytes evicted fetch);
      ways = λ g. elim (cases_eq g h) [
        | inl own ↦ rw own (ap (λ c. c.ways) (own_new need h line old mid cache bytes evicted fetch)
            ∙ (fetch.filled.ways ∙ ap (λ c. c.ways) fetch.gave.own))
        | inr other ↦
            ap (λ c. c.ways) (other_new h g mid cache other)
            ∙ gives_ways need (cache_at old g) (cache_at mid g) line
            (given_up_at need h line old mid fetch.gave g other)
      ];
      own =
          ap (λ c. c.residency) (own_new need h line old mid cache bytes evicted fetch)
          ∙ (fetch.filled.residency
          ∙ ap (λ c. filled_with c.ways c.residency line (filled_of need (others_have old h line))) fetch.gave.own);
      others = λ g other.
          ap (λ c. c.residency) (other_new h g mid cache other)
          ∙ gives_residency need (cache_at old g) (cache_at mid g) line
          (given_up_at need h line old mid fetch.gave g other);
      memory = left_behind need h line first lines old mid cache bytes evicted fetch;
    })

-- what a place of the list of caches gives
pub indexed : (caches : List Slotted) (place h : ℕ) (cache : Slotted) → cache ≡ slice_index_or caches place cache →
    place ≡ h → h < length caches → cache ≡ slotted_at caches h
indexed caches place h cache is same inside =
    get_or_read_under caches place (length caches) cache no_slotted is
    (subst (λ n. n < length caches) (sym same) inside) refl
    ∙ ap (slotted_at caches) same

-- the cache that stands there was changed
pub replaced_in : (Becomes : Cached → Cached → Type 0) (place h : ℕ) (caches : List Slotted) (before after : Slotted) →
    before ≡ slice_index_or caches place before → place ≡ h → h < length caches →
    ((pool : Pooled) → Becomes (lent pool before) (lent pool after)) →
    ((pool : Pooled) → IsLent pool before → IsLent pool after) → after.owner ≡ before.owner →
    IsReplacedIn Becomes h caches (slice_set caches place after)
replaced_in Becomes place h caches before after is same inside becomes kept owner =
    let was = indexed caches place h before is same inside in
    record {
      cache = after;
      becomes = λ pool. subst (λ cache. Becomes (lent pool cache) (lent pool after)) was (becomes pool);
      kept = λ pool owed. kept pool (subst (IsLent pool) (sym was) owed);
      owner = owner ∙ ap (λ (cache : Slotted). cache.owner) was;
      new_is = ap (λ n. slice_set caches n after) same;
    }

-- a line that leaves for another is in memory
pub gone_in_memory : (need : Need) (h line first count : ℕ) (old mid : List Cached) (before cache : Cached)
    (letter : Letter) (bytes : List ℕ)
    (evicted : Option Evicted) → OthersGiveUp need h line old mid → before ≡ cache_at mid h →
    IsFilledWith before cache line letter bytes evicted →
    ((g l : ℕ) → is_resident (cache_at old g).residency l ≡ true → IsInMemory first count l) →
    GoneIsInMemory first count evicted
gone_in_memory need h line first count old mid before cache letter bytes None gave was filled inside = tt
gone_in_memory need h line first count old mid before cache letter bytes (Some gone) gave was filled inside =
    inside h gone.line.number
    (copy_resident (cache_at old h) gone.line.number _
    (sym (ap (λ c. copy_in c gone.line.number) (was ∙ gave.own)) ∙ filled.left gone refl))
