-- a request is served: by a fetch or by a kept copy, and then the line is touched
use Rattle.std.proofs.Common.{◌≡◌, ◌∙◌, ◌<◌, ℕ, Bool, true, false, List, length, None, ap, refl, sym, subst, inl, inr}
use Rattle.std.specs.Prelude.{slice_set}
use Rattle.std.proofs.lemmas.Bool.{cases_eq}
use Rattle.std.proofs.lemmas.List.{get_or-set_same, length-set}
use Rattle.residency.specs.Cache.{is_resident, touched}
use Rattle.cache_sets.specs.Cached.{Cached, copy_in}
use Rattle.cache_sets.specs.Calls.{IsTouched}
use Rattle.residency.specs.Residency.{Way}
use Rattle.coherence.specs.Caches.{cache_at, no_cache}
use Rattle.coherence.specs.Kept.{IsKept, LeavesTo}
use Rattle.coherence.specs.Served.{Copies, IsFetched, IsServed, Moves, lines_after, with_line_back}
use Rattle.coherence.proofs.FetchLaws.{other_new}
use Rattle.coherence.proofs.KeptLaws.{coherent_kept, coherent_same_copies, own_kept}
use Rattle.coherence.proofs.Laws.Fetched.{chosen_else, chosen_then, copy_resident}
use Rattle.coherence.proofs.Laws.Owners.{copy_is}
use Rattle.el_base.specs.declared.outcomes.Need.{Need}
use Rattle.el_base.specs.declared.outcomes.Need.TheVariants.{Read, Write}
use Rattle.el_model.specs.Serve.{given_up, others_cache}

abbrev pub HasMoved : Need → ℕ → ℕ → Copies → Copies → Type 0
HasMoved need h line old new = Moves (λ cache. cache) need h line old new

others_absent : (had : Bool) (need : Need) (cache : List (List Way)) (line : ℕ) → had ≡ false →
    others_cache had need cache line ≡ given_up need cache line
others_absent had Write cache line is = refl
others_absent had Read cache line is = chosen_else had cache (given_up Read cache line) is

pub moved_by_fetch : (need : Need) (h line : ℕ) (old new : Copies) → is_resident (cache_at old.caches h).residency line
    ≡ false → IsFetched need h line old new → HasMoved need h line old new
moved_by_fetch need h line old new absent fetched =
    let cached = cache_at old.caches h in
    let had = is_resident cached.residency line in
    record {
      stays = fetched.stays;
      here = fetched.here;
      ways = fetched.ways;
      own = fetched.own ∙ sym (chosen_else had _ _ absent);
      others =
          λ g other. fetched.others g other
          ∙ sym (others_absent had need (cache_at old.caches g).residency line absent);
      memory = fetched.memory;
    }

leaves_ways : (need : Need) (old new : Cached) (line : ℕ) → LeavesTo need old new line → new.ways ≡ old.ways
leaves_ways Read old new line same = ap (λ c. c.ways) same
leaves_ways Write old new line without = without.ways

leaves_residency : (need : Need) (had : Bool) (old new : Cached) (line : ℕ) → had ≡ true → LeavesTo need old new line →
    new.residency ≡ others_cache had need old.residency line
leaves_residency Read had old new line is same =
    ap (λ c. c.residency) same ∙ sym (chosen_then had old.residency (given_up Read old.residency line) is)
leaves_residency Write had old new line is without = without.residency

-- main memory is as it was, since no line leaves
none_left : (h line first : ℕ) (lines : List (List ℕ)) (old : List Cached) →
    is_resident (cache_at old h).residency line ≡ true →
    lines ≡ lines_after h line (record { first = first; lines = lines; caches = old })
unfolding lines_after
none_left h line first lines old resident =
    ap (with_line_back (cache_at old h) first lines)
    (sym (chosen_then (is_resident (cache_at old h).residency line) None _ resident))

pub moved_by_keeping : (need : Need) (h line first : ℕ) (lines : List (List ℕ)) (old new : List Cached) →
    is_resident (cache_at old h).residency line ≡ true → IsKept need h line old new →
    HasMoved need h line (record { first = first; lines = lines; caches = old })
    (record { first = first; lines = lines; caches = new })
moved_by_keeping need h line first lines old new resident kept =
    let had = is_resident (cache_at old h).residency line in
    record {
      stays = record {
        first = refl;
        lines = refl;
        caches = kept.count;
        coherent = λ told coherent. coherent_kept need h line first lines told old new kept resident coherent;
      };
      here = copy_resident (cache_at new h) line _ (own_kept need h line old new kept resident);
      ways = λ g. elim (cases_eq g h) [
        | inl own ↦ rw own kept.own.ways
        | inr other ↦ leaves_ways need (cache_at old g) (cache_at new g) line (kept.others g other)
      ];
      own = kept.own.residency ∙ sym (chosen_then had _ _ resident);
      others =
          λ g other. leaves_residency need had (cache_at old g) (cache_at new g) line resident (kept.others g other);
      memory = none_left h line first lines old resident;
    }

pub served_by_touch : (need : Need) (h line place : ℕ) (old mid : Copies) (before cache : Cached) → place ≡ h →
    h < length mid.caches → HasMoved need h line old mid → before ≡ cache_at mid.caches h →
    IsTouched before cache line →
    IsServed need h line old
    (record { first = mid.first; lines = mid.lines; caches = slice_set mid.caches place cache })
served_by_touch need h line place old mid before cache same inside moved was touch_before =
    let touch : IsTouched (cache_at mid.caches h) cache line = subst (λ c. IsTouched c cache line) was touch_before in
    rw same
    (record {
      stays = record {
        first = moved.stays.first;
        lines = moved.stays.lines;
        caches = length-set mid.caches h cache ∙ moved.stays.caches;
        coherent = λ told coherent.
            coherent_same_copies h mid.first mid.lines told mid.caches cache touch.copies
            (moved.stays.coherent told coherent);
      };
      here =
          copy_resident (cache_at (slice_set mid.caches h cache) h) line _
          (ap (λ c. copy_in c line) (get_or-set_same mid.caches h cache no_cache inside)
          ∙ (touch.copies line ∙ copy_is (cache_at mid.caches h) line moved.here));
      ways = λ g. elim (cases_eq g h) [
        | inl own ↦
            rw own
            (ap (λ c. c.ways) (get_or-set_same mid.caches h cache no_cache inside) ∙ (touch.ways ∙ moved.ways h))
        | inr other ↦ ap (λ c. c.ways) (other_new h g mid.caches cache other) ∙ moved.ways g
      ];
      own =
          ap (λ c. c.residency) (get_or-set_same mid.caches h cache no_cache inside)
          ∙ (touch.residency ∙ ap (λ residency. touched residency line) moved.own);
      others = λ g other. ap (λ c. c.residency) (other_new h g mid.caches cache other) ∙ moved.others g other;
      memory = moved.memory;
    })
