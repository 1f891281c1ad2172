-- the counters of a predictor stay from 0 to 3
use Rattle.std.proofs.Common.{◌∙◌, ◌≤◌, ◌+◌, ℕ, zero, suc, Bool, true, false, List, [], ◌∷◌, Option, None, Some}
use Rattle.std.proofs.Common.{is_some, refl, arith, if◌then◌else◌}
use Rattle.std.specs.Prelude.{slice_index, slice_set}
use Rattle.std.proofs.Math.ListN.{length-set}
use Rattle.std.proofs.Math.Nat.{min-le_right}
use Rattle.bus_order.specs.Order.{Request}
use Rattle.el_base.specs.declared.outcomes.Cause.{Cause}
use Rattle.el_base.specs.declared.outcomes.Cause.TheVariants.{Room, Lines, Long, Call, Mixed}
use Rattle.el_model.specs.Deed.{Arms, Begins, Buffers, Commits, Continues, Deed, Elides, LetsGo, Misses, Rests}
use Rattle.el_model.specs.Deed.{RollsBack, Runs, Waits, hart_after}
use Rattle.el_model.specs.Plain.{after_candidate, candidate_of, seen_by, watched, watching_from}
use Rattle.el_model.specs.RollBack.{blamed}
use Rattle.el_model.specs.Serve.{with_claim}
use Rattle.el_model.specs.State.{Hart, ModelState, hart_of}
use Rattle.el_model.specs.Upcoming.{Swap}
use Rattle.pair_table.specs.Predictor.{Predictor, Watch, confidence_of, counted, counter_number, counting, judged}
use Rattle.pair_table.specs.Predictor.{saw_with, settled, verdict_on}
use Rattle.pair_table.specs.declared.seen.Seen.{Seen}
use Rattle.pair_table.specs.declared.verdict.Verdict.{Verdict}
use Rattle.pair_table.specs.declared.verdict.Verdict.TheVariants.{Up, Down}
use Rattle.pair_table.proofs.Laws.Counters.{fresh_counters_small}
use Rattle.section_laws.specs.EachHart.{AreCounters}
use Rattle.section_laws.specs.Laws.{CountersStayInRange}
use Rattle.section_laws.proofs.Laws.EachKept.{EachKept, always_each}
use Rattle.section_laws.proofs.Laws.Moves.{moves_by_ends}

abbrev Holds : Hart → Type 0
Holds hart = AreCounters hart.predictor.counters

set_small : (counters : List ℕ) (k counter : ℕ) → counter ≤ 3 → ((n : ℕ) → slice_index counters n ≤ 3) →
    (n : ℕ) → slice_index (slice_set counters k counter) n ≤ 3
set_small [] k counter new small n = small n
set_small (first ∷ counters) zero counter new small zero = new
set_small (first ∷ counters) zero counter new small (suc n) = small (suc n)
set_small (first ∷ counters) (suc k) counter new small zero = small 0
set_small (first ∷ counters) (suc k) counter new small (suc n) = set_small counters k counter new (λ m. small (suc m)) n

counted_small : (verdict : Verdict) (counter : ℕ) → counter ≤ 3 → counted verdict counter ≤ 3
counted_small Up counter small = min-le_right (counter + 1) 3
counted_small Down counter small = omega (arith, small)

settled_small : (predictor : Predictor) (pc : ℕ) (verdict : Verdict) → AreCounters predictor.counters →
    AreCounters (settled predictor pc verdict).counters
settled_small predictor pc verdict now = record {
  all = length-set predictor.counters (counter_number pc) _ ∙ now.all;
  small =
      set_small predictor.counters (counter_number pc) _
      (counted_small verdict (confidence_of predictor pc) (now.small (counter_number pc)))
      now.small;
}

judged_small : (predictor : Predictor) (watch : Watch) (verdict : Option Verdict) → AreCounters predictor.counters →
    AreCounters (judged predictor watch verdict).counters
judged_small predictor watch (Some verdict) now = settled_small predictor watch.pc verdict now
judged_small predictor watch None now = now

saw_small : (predictor : Predictor) (watch : Option Watch) (seen : Seen) (long : ℕ) → AreCounters predictor.counters →
    AreCounters (saw_with predictor watch seen long).counters
saw_small predictor None seen long now = now
saw_small predictor (Some watch) seen long now =
    judged_small predictor (counting watch) (verdict_on seen long (counting watch).count) now

watched_small : (state : ModelState) (h : ℕ) (predictor : Predictor) (watch : Option Watch) →
    AreCounters predictor.counters → AreCounters (watched state h predictor watch).counters
watched_small state h predictor None now = now
watched_small state h predictor (Some watch) now =
    saw_small predictor predictor.watch (seen_by state.committed h watch) state.config.long now

blamed_small : (cause : Cause) (pc : ℕ) (predictor : Predictor) → AreCounters predictor.counters →
    AreCounters (blamed cause pc predictor).counters
blamed_small Room pc predictor now = now
blamed_small Lines pc predictor now = now
blamed_small Long pc predictor now = settled_small predictor pc Down now
blamed_small Call pc predictor now = settled_small predictor pc Down now
blamed_small Mixed pc predictor now = settled_small predictor pc Down now

claim_holds : (live : Bool) (request : Request) (hart : Hart) → Holds hart → Holds (with_claim live request hart)
claim_holds true request hart now = now
claim_holds false request hart now = now

from_small : (predictor : Predictor) (pc : Option ℕ) (swap : Swap) → AreCounters predictor.counters →
    AreCounters (watching_from predictor pc swap).counters
from_small predictor None swap now = now
from_small predictor (Some pc) swap now = now

watching_small : (predictor : Predictor) (had_watch : Bool) (pc : Option ℕ) (swap : Swap) →
    AreCounters predictor.counters →
    AreCounters (if had_watch then predictor else watching_from predictor pc swap).counters
watching_small predictor true pc swap now = now
watching_small predictor false pc swap now = from_small predictor pc swap now

candidate_holds : (pc : Option ℕ) (had_watch : Bool) (candidate : Option Swap) (hart : Hart) → Holds hart →
    Holds (after_candidate pc had_watch candidate hart)
candidate_holds pc had_watch None hart now = now
candidate_holds pc had_watch (Some swap) hart now = watching_small hart.predictor had_watch pc swap now

deed_holds : (state : ModelState) (h : ℕ) (deed : Deed) (hart : Hart) → Holds hart →
    Holds (hart_after state h deed hart)
deed_holds state h Rests hart now = now
deed_holds state h Waits hart now = now
deed_holds state h (Misses line need) hart now = now
deed_holds state h (Runs touch) hart now =
    candidate_holds _ _ (candidate_of state h) _ (watched_small state h hart.predictor hart.predictor.watch now)
deed_holds state h (Begins swap) hart now = now
deed_holds state h (Buffers section touch) hart now = now
deed_holds state h (Commits section) hart now = settled_small hart.predictor _ Up now
deed_holds state h (RollsBack section cause) hart now = blamed_small cause _ hart.predictor now
deed_holds state h (Arms word) hart now = now
deed_holds state h (Elides armed swap) hart now = now
deed_holds state h (Continues armed) hart now = now
deed_holds state h (LetsGo armed) hart now = now

kept : EachKept Holds
kept = record {
  bus = record {
    moves = moves_by_ends (λ h hart other now. now)
        (λ h hart now. now)
        (λ h pc hart now. now);
    unraised = λ h hart now. now;
    served = λ h state request hart now. claim_holds (is_some hart.section) request _ now;
    bystander = λ h state request hart now. now;
  };
  deed = λ state h deed does now. deed_holds state h deed (hart_of state h) now;
  new = λ sets. record { all = refl; small = fresh_counters_small 64 };
}

pub counters_stay_in_range : CountersStayInRange
counters_stay_in_range = always_each kept
