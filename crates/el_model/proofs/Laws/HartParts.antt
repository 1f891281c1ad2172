-- Parts of a hart that a change leaves as they are, or takes away.
use Rattle.std.proofs.Common.{◌≡◌, ℕ, Bool, Option, None, Some, refl, true, false, ◌+◌, if◌then◌else◌, ◌==◌}
use Rattle.el_model.specs.Plain.{after_candidate}
use Rattle.el_model.specs.State.{Hart}
use Rattle.el_model.specs.Upcoming.{Swap}
use Rattle.el_model.specs.Serve.{with_claim}
use Rattle.el_model.specs.RollBack.{beaten, most_tries, out_of_section}
use Rattle.bus_order.specs.Order.{Request}
use Rattle.el_base.specs.declared.config.Mode.{Mode}
use Rattle.el_base.specs.declared.config.Mode.TheVariants.{Plain, Sle, Tlr}
use Rattle.stamp.specs.Stamps.{Stamp}

-- a candidate for elision changes the predictor alone
pub candidate_section : (pc : Option ℕ) (had_watch : Bool) (candidate : Option Swap) (hart : Hart) →
    (after_candidate pc had_watch candidate hart).section ≡ hart.section
candidate_section pc had_watch None hart = refl
candidate_section pc had_watch (Some swap) hart = refl

pub candidate_cache : (pc : Option ℕ) (had_watch : Bool) (candidate : Option Swap) (hart : Hart) →
    (after_candidate pc had_watch candidate hart).cache ≡ hart.cache
candidate_cache pc had_watch None hart = refl
candidate_cache pc had_watch (Some swap) hart = refl

pub candidate_armed : (pc : Option ℕ) (had_watch : Bool) (candidate : Option Swap) (hart : Hart) →
    (after_candidate pc had_watch candidate hart).armed ≡ hart.armed
candidate_armed pc had_watch None hart = refl
candidate_armed pc had_watch (Some swap) hart = refl

-- a claim marks the line and changes no section
pub claim_section : (live : Bool) (request : Request) (hart : Hart) →
    (with_claim live request hart).section ≡ hart.section
claim_section true request hart = refl
claim_section false request hart = refl

pub claim_armed : (live : Bool) (request : Request) (hart : Hart) → (with_claim live request hart).armed ≡ hart.armed
claim_armed true request hart = refl
claim_armed false request hart = refl

-- a section that is lost leaves nothing armed
try_armed : (hart : Hart) (last : Bool) →
    (if last then record hart { tries = 0; fallback = true } else record hart { tries = hart.tries + 1 }).armed
    ≡ hart.armed
try_armed hart true = refl
try_armed hart false = refl

pub beaten_armed : (mode : Mode) (stamp : Option Stamp) (hart : Hart) → (beaten mode stamp hart).armed ≡ None
beaten_armed Tlr stamp hart = refl
beaten_armed Sle stamp hart = try_armed (out_of_section hart) (hart.tries + 1 == most_tries)
beaten_armed Plain stamp hart = try_armed (out_of_section hart) (hart.tries + 1 == most_tries)
