-- a line is fetched: the others give it up, it comes into the hart's cache, and the line that leaves is written back
use Rattle.std.proofs.Common.{◌≡◌, ◌≢◌, ◌∙◌, ◌<◌, ◌≤◌, ◌+◌, arith, ℕ, Bool, true, false, not, ◌==◌, ◌&&◌, ◌||◌, suc}
use Rattle.std.proofs.Common.{zero, List, [], ◌∷◌, length}
use Rattle.std.proofs.Common.{Option, None, Some, option_map, ap, refl, sym, subst, inl, inr, if◌then◌else◌}
use Rattle.std.specs.Prelude.{slice_set}
use Rattle.std.proofs.lemmas.Bool.{cases_eq, cases_lt}
use Rattle.std.proofs.lemmas.Bool.Decides.{nat_tests}
use Rattle.std.proofs.lemmas.List.{get_or-set_other, get_or-set_same}
use Rattle.residency.specs.Cache.{is_resident, letter_of}
use Rattle.cache_sets.specs.Cached.{Cached, Copy, copy_in, copy_with_letter}
use Rattle.cache_sets.specs.Calls.{IsFilledWith}
use Rattle.cache_sets.specs.declared.evicted.Evicted.{Evicted}
use Rattle.cache_sets.proofs.Laws.AbsentLines.{no_copy}
use Rattle.coherence.specs.Caches.{GivesUp, OthersGiveUp, cache_at, copies_of, no_cache, others_from, others_have}
use Rattle.coherence.specs.Line.{Coherent, IsFound}
use Rattle.coherence.proofs.Laws.GivenUp.{beyond}
use Rattle.coherence.proofs.Laws.LineLaws.{as_read, found_bytes, left_cache, read_served, write_served}
use Rattle.coherence.proofs.Laws.Owners.{letter_is}
use Rattle.coherence.proofs.Stays.{nothing_given_up}
use Rattle.el_base.proofs.Laws.Tests.{second_not}
use Rattle.el_base.specs.declared.outcomes.Need.{Need}
use Rattle.el_base.specs.declared.outcomes.Need.TheVariants.{Read, Write}
use Rattle.el_base.proofs.Laws.Cases.{none_some}
use Rattle.moesi.specs.Letters.{filled_of, is_dirty, on_read_of}

-- every other cache gives the line up, those past the last hart too
pub given_up_at : (need : Need) (h line : ℕ) (old new : List Cached) → OthersGiveUp need h line old new → (g : ℕ) →
    g ≢ h → GivesUp need (cache_at old g) (cache_at new g) line
given_up_at need h line old new gave g other =
    elim (cases_lt g (length old)) [
      | inl inside ↦ gave.others g other inside
      | inr outside ↦
          rw (beyond old g outside, beyond new g (subst (λ n. n ≤ g) (sym gave.count) outside))
          (nothing_given_up need no_cache line refl)
    ]

-- a copy of another line is as it was
other_line : (need : Need) (old new : Cached) (line l : ℕ) → l ≢ line → GivesUp need old new line →
    copy_in new l ≡ copy_in old l
other_line Write old new line l other gave = gave.others l other
other_line Read old new line l other gave = gave.others l other

-- a copy of the line itself went, or has another letter
abbrev given : Need → Option Copy → Option Copy
given Write copy = None
given Read copy = option_map as_read copy

lettered_copy : (cached : Cached) (line : ℕ) (copy : Option Copy) → copy_in cached line ≡ copy →
    option_map (copy_with_letter (on_read_of (letter_of cached.residency line))) copy ≡ option_map as_read copy
lettered_copy cached line None is = refl
lettered_copy cached line (Some copy) is =
    ap (λ letter. Some (copy_with_letter (on_read_of letter) copy)) (letter_is cached line copy is)

this_line : (need : Need) (old new : Cached) (line : ℕ) → GivesUp need old new line →
    copy_in new line ≡ given need (copy_in old line)
this_line Write old new line gave = gave.here
this_line Read old new line gave = gave.here ∙ lettered_copy old line (copy_in old line) refl

-- all that a fetch does, by its parts
pub record Fetch (need : Need) (h line : ℕ) (old mid : List Cached) (cache : Cached) (bytes : List ℕ)
    (evicted : Option Evicted) : Type 0 where
  pub inside : h < length old
  pub absent : is_resident (cache_at old h).residency line ≡ false
  pub gave : OthersGiveUp need h line old mid
  pub filled : IsFilledWith (cache_at mid h) cache line (filled_of need (others_have old h line)) bytes evicted

pub own_new : (need : Need) (h line : ℕ) (old mid : List Cached) (cache : Cached) (bytes : List ℕ)
    (evicted : Option Evicted) → Fetch need h line old mid cache bytes evicted →
    cache_at (slice_set mid h cache) h ≡ cache
own_new need h line old mid cache bytes evicted fetch =
    get_or-set_same mid h cache no_cache (subst (λ n. h < n) (sym fetch.gave.count) fetch.inside)

pub other_new : (h g : ℕ) (mid : List Cached) (cache : Cached) → g ≢ h →
    cache_at (slice_set mid h cache) g ≡ cache_at mid g
other_new h g mid cache other = get_or-set_other mid h g cache no_cache other

-- no copy where no other hart was found to have one
unshared_from : (from : ℕ) (caches : List Cached) (h line k : ℕ) → others_from from caches h line ≡ false →
    (from + k ≢ h) → is_resident (cache_at caches k).residency line ≡ false
unshared_from from [] h line k none other = refl
unshared_from from (cache ∷ caches) h line zero none other =
    not_first (from == h) (is_resident cache.residency line) _ none (λ same. other (same_number from h same))
  where
    not_first : (same here later : Bool) → ((not same && here) || later) ≡ false → (same ≡ true → ⊥) → here ≡ false
    not_first true here later none other = absurd (other refl)
    not_first false true later none other = absurd (cc)
    not_first false false later none other = refl

    same_number : (a b : ℕ) → (a == b) ≡ true → a + 0 ≡ b
    same_number a b same = grind (arith, nat_tests)
unshared_from from (cache ∷ caches) h line (suc k) none other =
    unshared_from (suc from) caches h line k (second_not (not (from == h) && is_resident cache.residency line) _ none)
    (λ same. other (omega (arith, same)))

pub unshared : (caches : List Cached) (h line : ℕ) → others_have caches h line ≡ false → (g : ℕ) → g ≢ h →
    copies_of caches line g ≡ None
unshared caches h line none g other =
    no_copy (cache_at caches g) line (unshared_from 0 caches h line g none (λ same. other (omega (arith, same))))

-- the copies of the line that was fetched
pub fetched_own : (need : Need) (h line : ℕ) (old mid : List Cached) (cache : Cached) (bytes : List ℕ)
    (evicted : Option Evicted) → Fetch need h line old mid cache bytes evicted →
    copies_of (slice_set mid h cache) line h
    ≡ Some (record { letter = filled_of need (others_have old h line); bytes = bytes })
fetched_own need h line old mid cache bytes evicted fetch =
    ap (λ c. copy_in c line) (own_new need h line old mid cache bytes evicted fetch) ∙ fetch.filled.here

fetched_other : (need : Need) (h line g : ℕ) (old mid : List Cached) (cache : Cached) →
    OthersGiveUp need h line old mid → g ≢ h →
    copies_of (slice_set mid h cache) line g ≡ given need (copies_of old line g)
fetched_other need h line g old mid cache gave other =
    ap (λ c. copy_in c line) (other_new h g mid cache other)
    ∙ this_line need (cache_at old g) (cache_at mid g) line (given_up_at need h line old mid gave g other)

-- the copies of another line in the other caches
pub fetched_aside : (need : Need) (h line l g : ℕ) (old mid : List Cached) (cache : Cached) →
    OthersGiveUp need h line old mid → l ≢ line → g ≢ h → copies_of (slice_set mid h cache) l g ≡ copies_of old l g
fetched_aside need h line l g old mid cache gave other apart =
    ap (λ c. copy_in c l) (other_new h g mid cache apart)
    ∙ other_line need (cache_at old g) (cache_at mid g) line l other (given_up_at need h line old mid gave g apart)

-- the copies of another line, which did not leave the cache
pub fetched_rest : (need : Need) (h line l g : ℕ) (old mid : List Cached) (cache : Cached) (bytes : List ℕ)
    (evicted : Option Evicted) → Fetch need h line old mid cache bytes evicted → l ≢ line →
    ((gone : Evicted) → evicted ≡ Some gone → l ≢ gone.line.number) →
    copies_of (slice_set mid h cache) l g ≡ copies_of old l g
fetched_rest need h line l g old mid cache bytes evicted fetch other stays =
    elim (cases_eq g h) [
      | inl own ↦
          ap (λ k. copies_of (slice_set mid h cache) l k) own
          ∙ (ap (λ c. copy_in c l) (own_new need h line old mid cache bytes evicted fetch)
          ∙ (fetch.filled.others l other stays
          ∙ (ap (λ c. copy_in c l) fetch.gave.own ∙ ap (copies_of old l) (sym own))))
      | inr apart ↦ fetched_aside need h line l g old mid cache fetch.gave other apart
    ]

-- the line that was fetched tells what it told
pub line_fetched : (need : Need) (h line : ℕ) (old mid : List Cached) (cache : Cached) (bytes told behind : List ℕ)
    (evicted : Option Evicted) → Fetch need h line old mid cache bytes evicted →
    IsFound (copies_of old line) behind bytes → Coherent told (copies_of old line) behind →
    Coherent told (copies_of (slice_set mid h cache) line) behind
line_fetched Write h line old mid cache bytes told behind evicted fetch found coherent =
    write_served told behind h (copies_of (slice_set mid h cache) line) _
    (fetched_own Write h line old mid cache bytes evicted fetch) refl
    (found_bytes told (copies_of old line) behind bytes coherent found)
    (λ g other. fetched_other Write h line g old mid cache fetch.gave other)
line_fetched Read h line old mid cache bytes told behind evicted fetch found coherent =
    read_served told behind h (others_have old h line) (copies_of old line)
    (copies_of (slice_set mid h cache) line) coherent
    (record {
      absent = no_copy (cache_at old h) line fetch.absent;
      here =
          fetched_own Read h line old mid cache bytes evicted fetch
          ∙ ap (λ b. Some (record { letter = filled_of Read (others_have old h line); bytes = b }))
          (found_bytes told (copies_of old line) behind bytes coherent found);
      others = λ g other. fetched_other Read h line g old mid cache fetch.gave other;
      unshared = λ none g. nobody none g;
    })
  where
    nobody : others_have old h line ≡ false → (g : ℕ) → copies_of old line g ≡ None
    nobody none g =
        elim (cases_eq g h) [
          | inl own ↦ ap (copies_of old line) own ∙ no_copy (cache_at old h) line fetch.absent
          | inr other ↦ unshared old h line none g other
        ]

-- the line that left tells what it told, once it is written back
pub line_left : (need : Need) (h line : ℕ) (old mid : List Cached) (cache : Cached) (bytes told behind after : List ℕ)
    (evicted : Option Evicted)
    (gone : Evicted) → Fetch need h line old mid cache bytes evicted → evicted ≡ Some gone → gone.line.number ≢ line →
    after ≡ (if is_dirty gone.letter then gone.bytes else behind) →
    Coherent told (copies_of old gone.line.number) behind →
    Coherent told (copies_of (slice_set mid h cache) gone.line.number) after
line_left need h line old mid cache bytes told behind after evicted gone fetch is other written coherent =
    left_cache told behind after h (record { letter = gone.letter; bytes = gone.bytes })
    (copies_of old gone.line.number)
    (copies_of (slice_set mid h cache) gone.line.number) coherent
    (record {
      there = sym (ap (λ c. copy_in c gone.line.number) fetch.gave.own) ∙ fetch.filled.left gone is;
      gone =
          ap (λ c. copy_in c gone.line.number) (own_new need h line old mid cache bytes evicted fetch)
          ∙ fetch.filled.gone gone is;
      others = λ g apart. fetched_aside need h line gone.line.number g old mid cache fetch.gave other apart;
      written = written;
    })

-- the line that left is another one than the line that came
pub left_other : (need : Need) (h line : ℕ) (old mid : List Cached) (cache : Cached) (bytes : List ℕ)
    (evicted : Option Evicted)
    (gone : Evicted) → Fetch need h line old mid cache bytes evicted → evicted ≡ Some gone → gone.line.number ≢ line
left_other need h line old mid cache bytes evicted gone fetch is same =
    none_some
    (sym (no_copy (cache_at old h) line fetch.absent)
    ∙ (ap (λ l. copy_in (cache_at old h) l) (sym same)
    ∙ (sym (ap (λ c. copy_in c gone.line.number) fetch.gave.own) ∙ fetch.filled.left gone is)))
