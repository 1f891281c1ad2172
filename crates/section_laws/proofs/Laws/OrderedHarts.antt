-- an ordered request is of a hart of the machine
use Rattle.std.proofs.Common.{◌≡◌, ◌∙◌, ◌<◌, ℕ, List, Some, ap, sym, inl, inr}
use Rattle.std.proofs.lemmas.Bool.{cases_eq}
use Rattle.bus_order.specs.Order.{Request, removed, request_of}
use Rattle.bus_order.proofs.Laws.LookUps.{request_of_appended_other, request_of_in_front_of_other}
use Rattle.bus_order.proofs.Laws.LookUps.{request_of_removed_other, request_of_removed_own}
use Rattle.section_laws.proofs.Laws.Numbered.{KeptInOrder}
use Rattle.el_base.proofs.Laws.Cases.{none_some}

abbrev pub AreBelow : ℕ → List Request → Type 0
AreBelow count order = (h : ℕ) (request : Request) → request_of order h ≡ Some request → h < count

pub below_kept : (count : ℕ) → KeptInOrder (AreBelow count) count
below_kept count = record {
  placed_last = λ order request exists free now h found is.
      elim (cases_eq h request.hart) [
        | inl same ↦ rw same exists
        | inr apart ↦ now h found (sym (request_of_appended_other order request h (λ same. apart (sym same))) ∙ is)
      ];
  placed_before = λ order request exists free now h found is.
      elim (cases_eq h request.hart) [
        | inl same ↦ rw same exists
        | inr apart ↦ now h found (sym (request_of_in_front_of_other order request h (λ same. apart (sym same))) ∙ is)
      ];
  taken_out = λ order gone now h found is.
      elim (cases_eq h gone) [
        | inl same ↦
            none_some (sym (request_of_removed_own order gone) ∙ ap (request_of (removed order gone)) (sym same) ∙ is)
        | inr apart ↦ now h found (sym (request_of_removed_other order gone h (λ same. apart (sym same))) ∙ is)
      ];
}
