-- fewer than four sections are counted as lost in a row
use Rattle.std.proofs.Common.{◌≡◌, ◌<◌, ◌+◌, ◌==◌, ℕ, Bool, true, false, Option, None, Some, is_some, arith}
use Rattle.std.proofs.lemmas.Bool.Decides.{nat_tests}
use Rattle.bus_order.specs.Order.{Request}
use Rattle.el_model.specs.Deed.{Arms, Begins, Buffers, Commits, Continues, Deed, Elides, LetsGo, Misses, Rests}
use Rattle.el_model.specs.Deed.{RollsBack, Runs, Waits, hart_after}
use Rattle.el_model.specs.Plain.{after_candidate, candidate_of}
use Rattle.el_model.specs.RollBack.{most_tries}
use Rattle.el_model.specs.Serve.{with_claim}
use Rattle.el_model.specs.State.{Hart, ModelState, hart_of}
use Rattle.el_model.specs.Upcoming.{Swap}
use Rattle.section_laws.specs.EachHart.{HasTriesLeft}
use Rattle.section_laws.specs.Laws.{TriesStayBelowFour}
use Rattle.section_laws.proofs.Laws.EachKept.{EachKept, always_each}

abbrev Holds : Hart → Type 0
Holds hart = HasTriesLeft hart.tries

none_tried : 0 < most_tries
none_tried = omega arith

one_more : (tries : ℕ) → (tries + 1 == most_tries) ≡ false → tries < most_tries → tries + 1 < most_tries
one_more tries more now = grind (arith, nat_tests)

claim_holds : (live : Bool) (request : Request) (hart : Hart) → Holds hart → Holds (with_claim live request hart)
claim_holds true request hart now = now
claim_holds false request hart now = now

candidate_holds : (pc : Option ℕ) (had_watch : Bool) (candidate : Option Swap) (hart : Hart) → Holds hart →
    Holds (after_candidate pc had_watch candidate hart)
candidate_holds pc had_watch None hart now = now
candidate_holds pc had_watch (Some swap) hart now = now

deed_holds : (state : ModelState) (h : ℕ) (deed : Deed) (hart : Hart) → Holds hart →
    Holds (hart_after state h deed hart)
deed_holds state h Rests hart now = now
deed_holds state h Waits hart now = now
deed_holds state h (Misses line need) hart now = now
deed_holds state h (Runs touch) hart now = candidate_holds _ _ (candidate_of state h) _ now
deed_holds state h (Begins swap) hart now = now
deed_holds state h (Buffers section touch) hart now = now
deed_holds state h (Commits section) hart now = none_tried
deed_holds state h (RollsBack section cause) hart now = none_tried
deed_holds state h (Arms word) hart now = now
deed_holds state h (Elides armed swap) hart now = now
deed_holds state h (Continues armed) hart now = now
deed_holds state h (LetsGo armed) hart now = now

kept : EachKept Holds
kept = record {
  bus = record {
    moves = record {
      posted_to = λ h hart mail now. now;
      told = λ h hart told now. now;
      preceded = λ h hart upstream now. now;
      saw = λ h hart seen later now. now;
      lost = λ h hart now. now;
      freed = λ h pc hart now. now;
      gave_up = λ h hart now. none_tried;
      tried = λ h hart more now. one_more hart.tries more now;
    };
    unraised = λ h hart now. now;
    served = λ h state request hart now. claim_holds (is_some hart.section) request _ now;
    bystander = λ h state request hart now. now;
  };
  deed = λ state h deed does now. deed_holds state h deed (hart_of state h) now;
  new = λ sets. none_tried;
}

pub tries_stay_below_four : TriesStayBelowFour
tries_stay_below_four = always_each kept
