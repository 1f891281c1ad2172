-- no set of a cache has a line twice
use Rattle.std.proofs.Common.{◌≡◌, ◌∙◌, ◌==◌, ℕ, zero, suc, Bool, true, false, List, [], ◌∷◌, Option, None, Some}
use Rattle.std.proofs.Common.{is_some, map, refl, ap, if◌then◌else◌}
use Rattle.std.specs.Prelude.{slice_index_or, slice_set}
use Rattle.bus_order.specs.Order.{Request}
use Rattle.residency.specs.Cache.{committed_way, empty_cache, filled_with, is_resident, lettered, marked, set_number}
use Rattle.residency.specs.Cache.{set_of, touched, way_of}
use Rattle.residency.specs.Cache.{with_set, without_line}
use Rattle.residency.specs.Residency.{Way, changed_in, dropped, evicted_in, left_in, to_front, touched_in, way_in}
use Rattle.residency.specs.Residency.{with_bit, with_letter, without_bits}
use Rattle.residency.proofs.Laws.ResidencyLemmas.{way_in-dropped_same, way_in-line}
use Rattle.residency.proofs.Laws.CacheLemmas.{line-with_bit}
use Rattle.el_base.specs.declared.outcomes.Need.{Need}
use Rattle.el_base.specs.declared.outcomes.Need.TheVariants.{Read, Write}
use Rattle.el_base.proofs.Laws.Options.{none_from}
use Rattle.el_model.specs.Deed.{Arms, Begins, Buffers, Commits, Continues, Deed, Elides, LetsGo, Misses, Rests}
use Rattle.el_model.specs.Deed.{RollsBack, Runs, Waits, hart_after}
use Rattle.el_model.specs.InSection.{covered, is_covered}
use Rattle.el_model.specs.Plain.{after_access, after_candidate, after_touch, candidate_of}
use Rattle.el_model.specs.Serve.{others_cache, own_copy, with_claim}
use Rattle.el_model.specs.State.{Hart, ModelState, hart_of}
use Rattle.el_model.specs.Upcoming.{Swap, Touch}
use Rattle.el_model.proofs.Laws.Tests.{by_test}
use Rattle.moesi.specs.declared.letter.Letter.{Letter}
use Rattle.section_laws.specs.Once.{AreOnce, IsOnce}
use Rattle.section_laws.specs.Laws.{NoSetHasALineTwice}
use Rattle.section_laws.proofs.Laws.EachKept.{EachKept, always_each}
use Rattle.section_laws.proofs.Laws.Moves.{moves_by_ends}

-- what is not in a set is not in it after
absent_dropped : (set : List Way) (line l : ℕ) → way_in set l ≡ None → way_in (dropped set line) l ≡ None
absent_dropped [] line l none = refl
absent_dropped (way ∷ ways) line l none =
    by (way.line == l) (way.line == line) refl (λ rest. absent_dropped ways line l rest) none
  where
    by : (here gone : Bool) → (way.line == l) ≡ here → (way_in ways l ≡ None → way_in (dropped ways line) l ≡ None) →
        (if here then Some way else way_in ways l) ≡ None →
        way_in (if gone then dropped ways line else way ∷ dropped ways line) l ≡ None
    by true gone is rest none = absurd (cc)
    by false true is rest none = rest none
    by false false is rest none = rw is (rest none)

once_dropped : (set : List Way) (line : ℕ) → IsOnce set → IsOnce (dropped set line)
once_dropped [] line once = tt
once_dropped (way ∷ ways) line (absent, once) =
    by_test IsOnce (way.line == line) (dropped ways line) (way ∷ dropped ways line)
    (λ gone. once_dropped ways line once)
    (λ stays. (absent_dropped ways line way.line absent, once_dropped ways line once))

absent_changed : (change : Way → Way) → ((way : Way) → (change way).line ≡ way.line) → (set : List Way) (line l : ℕ) →
    way_in set l ≡ None → way_in (changed_in change set line) l ≡ None
absent_changed change keeps [] line l none = refl
absent_changed change keeps (way ∷ ways) line l none =
    by (way.line == l) (way.line == line) refl (λ rest. absent_changed change keeps ways line l rest) none
  where
    by : (here own : Bool) → (way.line == l) ≡ here →
        (way_in ways l ≡ None → way_in (changed_in change ways line) l ≡ None) →
        (if here then Some way else way_in ways l) ≡ None →
        way_in (if own then change way ∷ changed_in change ways line else way ∷ changed_in change ways line) l ≡ None
    by true own is rest none = absurd (cc)
    by false true is rest none = rw (ap (λ line. line == l) (keeps way) ∙ is) (rest none)
    by false false is rest none = rw is (rest none)

once_changed : (change : Way → Way) → ((way : Way) → (change way).line ≡ way.line) → (set : List Way) (line : ℕ) →
    IsOnce set → IsOnce (changed_in change set line)
once_changed change keeps [] line once = tt
once_changed change keeps (way ∷ ways) line (absent, once) =
    let others = once_changed change keeps ways line once in
    let rest = absent_changed change keeps ways line way.line absent in
    by_test IsOnce (way.line == line) (change way ∷ changed_in change ways line) (way ∷ changed_in change ways line)
    (λ own. (ap (way_in (changed_in change ways line)) (keeps way) ∙ rest, others)) (λ other. (rest, others))

absent_map : (change : Way → Way) → ((way : Way) → (change way).line ≡ way.line) → (set : List Way) (l : ℕ) →
    way_in set l ≡ None → way_in (map change set) l ≡ None
absent_map change keeps [] l none = refl
absent_map change keeps (way ∷ ways) l none = by (way.line == l) refl (λ rest. absent_map change keeps ways l rest) none
  where
    by : (here : Bool) → (way.line == l) ≡ here → (way_in ways l ≡ None → way_in (map change ways) l ≡ None) →
        (if here then Some way else way_in ways l) ≡ None → way_in (change way ∷ map change ways) l ≡ None
    by true is rest none = absurd (cc)
    by false is rest none = rw (ap (λ line. line == l) (keeps way) ∙ is) (rest none)

once_map : (change : Way → Way) → ((way : Way) → (change way).line ≡ way.line) → (set : List Way) → IsOnce set →
    IsOnce (map change set)
once_map change keeps [] once = tt
once_map change keeps (way ∷ ways) (absent, once) = (
  ap (way_in (map change ways)) (keeps way) ∙ absent_map change keeps ways way.line absent,
  once_map change keeps ways once,
)

once_front : (set : List Way) (line : ℕ) (found : Option Way) → way_in set line ≡ found → IsOnce set →
    IsOnce (to_front set line found)
once_front set line None is once = once
once_front set line (Some way) is once = (
  ap (way_in (dropped set line)) (way_in-line set line way is) ∙ way_in-dropped_same set line,
  once_dropped set line once,
)

absent_left : (set : List Way) (gone : Option Way) (line : ℕ) → way_in set line ≡ None →
    way_in (left_in set gone) line ≡ None
absent_left set None line none = none
absent_left set (Some gone) line none = absent_dropped set gone.line line none

once_left : (set : List Way) (gone : Option Way) → IsOnce set → IsOnce (left_in set gone)
once_left set None once = once
once_left set (Some gone) once = once_dropped set gone.line once

-- a cache
pub once_at : (cache : List (List Way)) (place : ℕ) → AreOnce cache → IsOnce (slice_index_or cache place [])
once_at [] place once = tt
once_at (set ∷ sets) zero (here, others) = here
once_at (set ∷ sets) (suc place) (here, others) = once_at sets place others

once_set : (cache : List (List Way)) (place : ℕ) (set : List Way) → IsOnce set → AreOnce cache →
    AreOnce (slice_set cache place set)
once_set [] place set new once = tt
once_set (first ∷ sets) zero set new (here, others) = (new, others)
once_set (first ∷ sets) (suc place) set new (here, others) = (here, once_set sets place set new others)

once_with : (cache : List (List Way)) (line : ℕ) (set : List Way) → (IsOnce (set_of cache line) → IsOnce set) →
    AreOnce cache → AreOnce (with_set cache line set)
once_with cache line set keeps once =
    once_set cache (set_number cache line) set (keeps (once_at cache (set_number cache line) once)) once

once_touched : (cache : List (List Way)) (line : ℕ) → AreOnce cache → AreOnce (touched cache line)
once_touched cache line = once_with cache line (touched_in (set_of cache line) line)
    (once_front (set_of cache line) line (way_in (set_of cache line) line) refl)

once_lettered : (cache : List (List Way)) (line : ℕ) (letter : Letter) → AreOnce cache →
    AreOnce (lettered cache line letter)
once_lettered cache line letter =
    once_with cache line _ (once_changed (with_letter letter) (λ way. refl) (set_of cache line) line)

once_marked : (cache : List (List Way)) (line : ℕ) (need : Need) → AreOnce cache → AreOnce (marked cache line need)
once_marked cache line need =
    once_with cache line _ (once_changed (with_bit need) (line-with_bit need) (set_of cache line) line)

once_without : (cache : List (List Way)) (line : ℕ) → AreOnce cache → AreOnce (without_line cache line)
once_without cache line = once_with cache line _ (once_dropped (set_of cache line) line)

once_filled : (ways : ℕ) (cache : List (List Way)) (line : ℕ) (letter : Letter) → is_resident cache line ≡ false →
    AreOnce cache → AreOnce (filled_with ways cache line letter)
once_filled ways cache line letter new =
    once_with cache line _
    (λ once. (
      absent_left (set_of cache line) (evicted_in ways (set_of cache line)) line
          (none_from (way_of cache line) new),
      once_left (set_of cache line) (evicted_in ways (set_of cache line)) once,
    ))

once_each : (change : Way → Way) → ((way : Way) → (change way).line ≡ way.line) → (cache : List (List Way)) →
    AreOnce cache → AreOnce (map (λ set. map change set) cache)
once_each change keeps [] once = tt
once_each change keeps (set ∷ sets) (here, others) =
    (once_map change keeps set here, once_each change keeps sets others)

once_empty : (sets : ℕ) → AreOnce (empty_cache sets)
once_empty zero = tt
once_empty (suc sets) = (tt, once_empty sets)

-- each event
abbrev Holds : Hart → Type 0
Holds hart = AreOnce hart.cache

once_own : (ways : ℕ) (others : Bool) (need : Need) (cache : List (List Way)) (line : ℕ) → AreOnce cache →
    AreOnce (own_copy ways others need cache line)
once_own ways others need cache line once =
    by_test AreOnce (is_resident cache line) _ _ (λ had. once_lettered cache line _ once)
    (λ new. once_filled ways cache line _ new once)

once_others : (had : Bool) (need : Need) (cache : List (List Way)) (line : ℕ) → AreOnce cache →
    AreOnce (others_cache had need cache line)
once_others had Write cache line once = once_without cache line once
once_others true Read cache line once = once
once_others false Read cache line once = once_lettered cache line _ once

claim_holds : (live : Bool) (request : Request) (hart : Hart) → Holds hart → Holds (with_claim live request hart)
claim_holds true request hart now = once_marked hart.cache request.line request.need now
claim_holds false request hart now = now

access_once : (cache : List (List Way)) (line : ℕ) (need : Need) → AreOnce cache →
    AreOnce (after_access cache line need)
access_once cache line Read once = once_touched cache line once
access_once cache line Write once = once_lettered (touched cache line) line _ (once_touched cache line once)

touch_once : (cache : List (List Way)) (touch : Option Touch) → AreOnce cache → AreOnce (after_touch cache touch)
touch_once cache None once = once
touch_once cache (Some touch) once = access_once cache touch.line touch.need once

covered_once : (cache : List (List Way)) (touch : Option Touch) → AreOnce cache → AreOnce (covered cache touch)
covered_once cache None once = once
covered_once cache (Some touch) once =
    once_touched _ touch.line
    (by_test AreOnce (is_covered cache touch.line touch.need) cache (marked cache touch.line touch.need) (λ has. once)
    (λ new. once_marked cache touch.line touch.need once))

candidate_holds : (pc : Option ℕ) (had_watch : Bool) (candidate : Option Swap) (hart : Hart) → Holds hart →
    Holds (after_candidate pc had_watch candidate hart)
candidate_holds pc had_watch None hart now = now
candidate_holds pc had_watch (Some swap) hart now = now

deed_holds : (state : ModelState) (h : ℕ) (deed : Deed) (hart : Hart) → Holds hart →
    Holds (hart_after state h deed hart)
deed_holds state h Rests hart now = now
deed_holds state h Waits hart now = now
deed_holds state h (Misses line need) hart now = now
deed_holds state h (Runs touch) hart now =
    candidate_holds _ _ (candidate_of state h) _ (touch_once hart.cache touch now)
deed_holds state h (Begins swap) hart now = once_touched _ _ (once_marked hart.cache _ Read now)
deed_holds state h (Buffers section touch) hart now = covered_once hart.cache touch now
deed_holds state h (Commits section) hart now = once_each committed_way (λ way. refl) hart.cache now
deed_holds state h (RollsBack section cause) hart now = once_each without_bits (λ way. refl) hart.cache now
deed_holds state h (Arms word) hart now = once_touched _ _ (once_marked hart.cache _ Read now)
deed_holds state h (Elides armed swap) hart now = once_touched _ _ (once_marked hart.cache _ Read now)
deed_holds state h (Continues armed) hart now = now
deed_holds state h (LetsGo armed) hart now = once_each without_bits (λ way. refl) hart.cache now

kept : EachKept Holds
kept = record {
  bus = record {
    moves = moves_by_ends (λ h hart other now. now)
        (λ h hart now. once_each without_bits (λ way. refl) hart.cache now)
        (λ h pc hart now. once_each without_bits (λ way. refl) hart.cache now);
    unraised = λ h hart now. now;
    served = λ h state request hart now.
        claim_holds (is_some hart.section) request _
        (once_touched _ request.line (once_own state.config.ways _ request.need hart.cache request.line now));
    bystander = λ h state request hart now. once_others _ request.need hart.cache request.line now;
  };
  deed = λ state h deed does now. deed_holds state h deed (hart_of state h) now;
  new = once_empty;
}

pub no_set_has_a_line_twice : NoSetHasALineTwice
no_set_has_a_line_twice = always_each kept
