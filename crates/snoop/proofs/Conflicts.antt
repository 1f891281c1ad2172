-- where a request meets a section, as the bus tells it
use Rattle.std.proofs.Common.{◌≡◌, ◌∙◌, ℕ, ◌==◌, ◌&&◌, Bool, true, false, not, is_some, refl, ap}
use Rattle.bus_order.specs.Order.{Request}
use Rattle.coherence.specs.Lent.{slotted_at}
use Rattle.el_base.specs.declared.outcomes.Need.{Need}
use Rattle.el_base.specs.declared.outcomes.Need.TheVariants.{Read, Write}
use Rattle.el_model.specs.Conflicts.{conflicts, meets_bit}
use Rattle.el_model.specs.State.{Hart, ModelState, hart_of}
use Rattle.snoop.proofs.Laws.Living.{lives_shown}
use Rattle.snoop.specs.Meets.{meets_in}
use Rattle.snoop.specs.Shows.{BusState, Shows, lives_at}

pub meets_same : (hart : Hart) (line : ℕ) (need : Need) → meets_in hart.cache line need ≡ meets_bit hart line need
meets_same hart line Read = refl
meets_same hart line Write = refl

and_twice : (a b c : Bool) → (a && (b && c)) ≡ ((a && b) && c)
and_twice true b c = refl
and_twice false b c = refl

-- the test that the bus makes is the definition's
pub conflicts_shown : (bus : BusState) (state : ModelState) (request : Request) (h : ℕ) → Shows bus state →
    (not (request.hart == h)
    && (lives_at bus h && meets_in (slotted_at bus.copies.caches h).residency request.line request.need))
    ≡ conflicts request h (hart_of state h)
conflicts_shown bus state request h shows =
    ap (λ cache. not (request.hart == h) && (lives_at bus h && meets_in cache request.line request.need))
    (shows.caches h)
    ∙ ap (λ live. not (request.hart == h) && (live && meets_in (hart_of state h).cache request.line request.need))
    (lives_shown bus state h shows)
    ∙ ap (λ meets. not (request.hart == h) && (is_some (hart_of state h).section && meets))
    (meets_same (hart_of state h) request.line request.need)
    ∙ and_twice (not (request.hart == h)) (is_some (hart_of state h).section)
    (meets_bit (hart_of state h) request.line request.need)
