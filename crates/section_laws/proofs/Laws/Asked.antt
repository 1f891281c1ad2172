-- what nobody else asks of a line, its head does not ask
use Rattle.std.proofs.Common.{◌≡◌, ◌≢◌, ◌∙◌, ℕ, Bool, true, false, ◌&&◌, ◌||◌, ◌==◌, not, List, [], ◌∷◌, Some}
use Rattle.std.proofs.Common.{ap, sym, subst, if◌then◌else◌}
use Rattle.bus_order.specs.Order.{Request, first_of}
use Rattle.el_base.proofs.Laws.Tests.{first_not, other_test}
use Rattle.el_model.specs.Conflicts.{is_asked}

pub asked_first : (counts : Request → Bool) (order : List Request) (h line : ℕ) (head : Request) →
    is_asked counts order h line ≡ false → first_of order line ≡ Some head →
    (not (head.hart == h) && counts head) ≡ false
asked_first counts [] h line head unasked first = absurd (cc)
asked_first counts (request ∷ order) h line head unasked first =
    by (request.line == line) (asked_first counts order h line head) unasked first
  where
    by : (on_line : Bool) →
        (is_asked counts order h line ≡ false → first_of order line ≡ Some head →
        (not (head.hart == h) && counts head) ≡ false) →
        (((on_line && not (request.hart == h)) && counts request) || is_asked counts order h line) ≡ false →
        (if on_line then Some request else first_of order line) ≡ Some head →
        (not (head.hart == h) && counts head) ≡ false
    by true rest unasked first =
        let same : request ≡ head = cc in
        subst (λ r. (not (r.hart == h) && counts r) ≡ false) same
        (first_not (not (request.hart == h) && counts request) _ unasked)
    by false rest unasked first = rest unasked first

pub asked_not : (counts : Request → Bool) (order : List Request) (h line : ℕ) (head : Request) →
    is_asked counts order h line ≡ false → first_of order line ≡ Some head → head.hart ≢ h → counts head ≡ false
asked_not counts order h line head unasked first apart =
    sym (ap (λ own. not own && counts head) (other_test head.hart h apart))
    ∙ asked_first counts order h line head unasked first
