-- only live and armed sections have bits
use Rattle.std.proofs.Common.{◌≡◌, ℕ, Bool, false, Option, None, Some, is_some, refl, sym, ◌∙◌}
use Rattle.bus_order.specs.Order.{Request}
use Rattle.residency.specs.Cache.{has_marks}
use Rattle.residency.proofs.Laws.Unmarked.{unmarked-cleared, unmarked-empty, unmarked-touched}
use Rattle.residency.proofs.Laws.MarkLemmas.{has_marks-committed}
use Rattle.el_base.proofs.Laws.Cases.{some_none}
use Rattle.el_model.specs.Deed.{Arms, Begins, Buffers, Commits, Continues, Deed, Elides, LetsGo, Misses, Rests}
use Rattle.el_model.specs.Deed.{RollsBack, Runs, Waits, hart_after}
use Rattle.el_model.specs.Plain.{after_candidate, candidate_of}
use Rattle.el_model.specs.Serve.{with_claim}
use Rattle.el_model.specs.State.{Hart, ModelState, Section, hart_of}
use Rattle.el_model.specs.Upcoming.{Swap}
use Rattle.el_model.proofs.Laws.Unmarked.{others_unmarked, own_unmarked, touch_unmarked}
use Rattle.section_laws.specs.EachHart.{HasBitsOnlyInside}
use Rattle.section_laws.specs.Laws.{OnlyLiveSectionsHaveBits}
use Rattle.section_laws.proofs.Laws.EachKept.{EachKept, always_each}
use Rattle.section_laws.proofs.Laws.Moves.{moves_by_ends}

abbrev pub Holds : Hart → Type 0
Holds hart = HasBitsOnlyInside hart.section hart.armed hart.cache

-- a request is served
claim_holds : (live : Option Section) (request : Request) (hart : Hart) → hart.section ≡ live →
    (live ≡ None → hart.armed ≡ None → has_marks hart.cache ≡ false) → Holds (with_claim (is_some live) request hart)
claim_holds None request hart is bare none unarmed = bare refl unarmed
claim_holds (Some section) request hart is bare none unarmed = some_none (sym is ∙ none)

-- a deed
candidate_holds : (pc : Option ℕ) (had_watch : Bool) (candidate : Option Swap) (hart : Hart) → Holds hart →
    Holds (after_candidate pc had_watch candidate hart)
candidate_holds pc had_watch None hart now = now
candidate_holds pc had_watch (Some swap) hart now = now

deed_holds : (state : ModelState) (h : ℕ) (deed : Deed) (hart : Hart) → Holds hart →
    Holds (hart_after state h deed hart)
deed_holds state h Rests hart now = now
deed_holds state h Waits hart now = now
deed_holds state h (Misses line need) hart now = now
deed_holds state h (Runs touch) hart now =
    candidate_holds _ _ (candidate_of state h) _ (λ none unarmed. touch_unmarked hart.cache touch (now none unarmed))
deed_holds state h (Begins swap) hart now = λ none unarmed. some_none none
deed_holds state h (Buffers section touch) hart now = λ none unarmed. some_none none
deed_holds state h (Commits section) hart now = λ none unarmed. has_marks-committed hart.cache
deed_holds state h (RollsBack section cause) hart now = λ none unarmed. unmarked-cleared hart.cache
deed_holds state h (Arms word) hart now = λ none unarmed. some_none unarmed
deed_holds state h (Elides armed swap) hart now = λ none unarmed. some_none none
deed_holds state h (Continues armed) hart now = λ none unarmed. some_none unarmed
deed_holds state h (LetsGo armed) hart now = λ none unarmed. unmarked-cleared hart.cache

pub kept : EachKept Holds
kept = record {
  bus = record {
    moves = moves_by_ends (λ h hart other now. now)
        (λ h hart now none unarmed. unmarked-cleared hart.cache)
        (λ h pc hart now none unarmed. unmarked-cleared hart.cache);
    unraised = λ h hart now. now;
    served = λ h state request hart now.
        claim_holds hart.section request _ refl
        (λ none unarmed.
        unmarked-touched _ request.line
        (own_unmarked state.config.ways _ request.need hart.cache request.line (now none unarmed)));
    bystander =
        λ h state request hart now none unarmed. others_unmarked _ request.need hart.cache request.line
        (now none unarmed);
  };
  deed = λ state h deed does now. deed_holds state h deed (hart_of state h) now;
  new = λ sets none unarmed. unmarked-empty sets;
}

pub only_live_sections_have_bits : OnlyLiveSectionsHaveBits
only_live_sections_have_bits = always_each kept
