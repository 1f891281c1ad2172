-- The first hart of which a test holds, and what is known of a hart that loses to a request.
use Rattle.std.proofs.Common.{◌≡◌, ℕ, Bool, false, List, ◌∷◌, None, refl, ◌∙◌, true, Some, ap, sym, if◌then◌else◌, ◌==◌}
use Rattle.std.proofs.Common.{◌&&◌, not, Option, is_some, []}
use Rattle.el_model.specs.Conflicts.{conflicts_with, first_such, meets_bit}
use Rattle.el_model.specs.State.{Hart}
use Rattle.bus_order.specs.Order.{Request}

-- where a test holds of none there is no first
pub none_first : (test : ℕ → Bool) (numbers : List ℕ) → ((h : ℕ) → test h ≡ false) → first_such test numbers ≡ None
none_first test [] none = refl
none_first test (h ∷ others) none = rw (none h) (none_first test others none)

-- the test holds of the first
pub first_passes : (test : ℕ → Bool) (numbers : List ℕ) (h : ℕ) → first_such test numbers ≡ Some h → test h ≡ true
first_passes test [] h is = absurd (cc)
first_passes test (first ∷ others) h is = by (test first) refl (first_passes test others h) is
  where
    by : (passes : Bool) → test first ≡ passes → (first_such test others ≡ Some h → test h ≡ true) →
        (if passes then Some first else first_such test others) ≡ Some h → test h ≡ true
    by true passes rest is = let same : first ≡ h = cc in ap test (sym same) ∙ passes
    by false passes rest is = rest is

-- a hart that loses to a request had a live section
pub loser_lives : (head : Option Request) (h : ℕ) (hart : Hart) → conflicts_with head h hart ≡ true →
    is_some hart.section ≡ true
loser_lives None h hart is = absurd (cc)
loser_lives (Some head) h hart is =
    by (not (head.hart == h)) (is_some hart.section) (meets_bit hart head.line head.need) is
  where
    by : (apart live meets : Bool) → ((apart && live) && meets) ≡ true → live ≡ true
    by true true meets is = refl
    by true false meets is = absurd (cc)
    by false live meets is = absurd (cc)
