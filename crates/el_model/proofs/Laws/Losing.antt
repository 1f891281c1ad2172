-- what a loss leaves of a section, and whom a fate may name: a hart does not meet its own request, without a section it
-- meets none, and it loses to no hart that a machine does not have
use Rattle.std.proofs.Common.{◌≡◌, ◌∙◌, ℕ, suc, ◌+◌, ◌<◌, ◌≤◌, Bool, true, false, ◌&&◌, not, ◌==◌, List, [], ◌∷◌}
use Rattle.std.proofs.Common.{Option, Some, None, is_some, length, refl, ap, arith, if◌then◌else◌}
use Rattle.std.specs.Prelude.{IfSome}
use Rattle.bus_order.specs.Order.{Request}
use Rattle.defer_list.specs.HartSet.{has}
use Rattle.el_base.specs.declared.config.Mode.{Mode}
use Rattle.el_base.specs.declared.config.Mode.TheVariants.{Plain, Sle, Tlr}
use Rattle.el_base.proofs.Laws.Tests.{false_between}
use Rattle.el_model.specs.Conflicts.{conflicts, earlier, least_such, meets_bit, stamp_in, told_winner, wins_over}
use Rattle.el_model.specs.Face.{Fate, LosesTo, Unmet, deferring_fate, fate_of, told_fate, winner_in}
use Rattle.el_model.specs.Losses.{Standing, lost_in, standing_of}
use Rattle.el_model.specs.RollBack.{beaten, most_tries, out_of_section}
use Rattle.el_model.specs.State.{Hart, ModelState, count_up, ordered_on}
use Rattle.el_model.proofs.Laws.Tests.{by_test}
use Rattle.stamp.specs.Stamps.{Stamp, is_before}

try_stands : (hart : Hart) (last : Bool) →
    standing_of (if last then record hart { tries = 0; fallback = true } else record hart { tries = hart.tries + 1 })
    ≡ (if last then record { section = hart.section; tries = 0; fallback = true }
    else record { section = hart.section; tries = hart.tries + 1; fallback = hart.fallback })
try_stands hart true = refl
try_stands hart false = refl

pub beaten_stands : (mode : Mode) (winner : Option Stamp) (hart : Hart) →
    standing_of (beaten mode winner hart) ≡ lost_in mode (standing_of hart)
beaten_stands Tlr winner hart = refl
beaten_stands Sle winner hart = try_stands (out_of_section hart) (hart.tries + 1 == most_tries)
beaten_stands Plain winner hart = try_stands (out_of_section hart) (hart.tries + 1 == most_tries)

pub lost_section : (mode : Mode) (old : Standing) → (lost_in mode old).section ≡ None
lost_section Tlr old = refl
lost_section Sle old =
    by_test {A = Standing} (λ standing. standing.section ≡ None) (old.tries + 1 == most_tries) _ _
    (λ last. refl) (λ more. refl)
lost_section Plain old =
    by_test {A = Standing} (λ standing. standing.section ≡ None) (old.tries + 1 == most_tries) _ _
    (λ last. refl) (λ more. refl)

-- a hart does not meet its own request, and without a section it meets none
unmet_if : (state : ModelState) (head : Request) (h : ℕ) (hart : Hart) (meets : Bool) → meets ≡ false →
    (if meets then (if wins_over state.config.mode head.stamp hart then LosesTo head.hart
    else deferring_fate state.config.mode state head hart) else Unmet) ≡ Unmet
unmet_if state head h hart true is = absurd (cc)
unmet_if state head h hart false is = refl

pub own_is_unmet : (state : ModelState) (head : Request) (h : ℕ) (hart : Hart) → (h == head.hart) ≡ true →
    fate_of state head h hart ≡ Unmet
own_is_unmet state head h hart own =
    let same : (head.hart == h) ≡ true = grind arith in
    unmet_if state head h hart _ (rw same refl)

pub outside_is_unmet : (state : ModelState) (head : Request) (h : ℕ) (hart : Hart) → hart.section ≡ None →
    fate_of state head h hart ≡ Unmet
outside_is_unmet state head h hart none =
    unmet_if state head h hart _
    (ap (λ section. (not (head.hart == h) && is_some section) && meets_bit hart head.line head.need) none
    ∙ false_between (not (head.hart == h)) (meets_bit hart head.line head.need))

-- the hart that wins over a told section is one of the machine's
earlier_below : (stamp : ℕ → Option Stamp) (limit origin : ℕ) (other : Option ℕ) → origin < limit →
    IfSome other (λ o. o < limit) → IfSome (earlier stamp (Some origin) other) (λ o. o < limit)
earlier_below stamp limit origin None below others = below
earlier_below stamp limit origin (Some other) below others =
    by_test (λ found. IfSome found (λ o. o < limit)) (is_before (stamp other) (stamp origin)) (Some other) (Some origin)
    (λ first. others) (λ second. below)

least_below : (test : ℕ → Bool) (stamp : ℕ → Option Stamp) (limit from : ℕ) (harts : List Hart) →
    from + length harts ≤ limit → IfSome (least_such test stamp (count_up from harts)) (λ o. o < limit)
least_below test stamp limit from [] within = tt
least_below test stamp limit from (hart ∷ harts) within =
    let rest = least_below test stamp limit (suc from) harts (omega arith) in
    by_test (λ found. IfSome found (λ o. o < limit)) (test from)
    (earlier stamp (Some from) (least_such test stamp (count_up (suc from) harts)))
    (least_such test stamp (count_up (suc from) harts))
    (λ taken. earlier_below stamp limit from _ (omega arith) rest) (λ passed. rest)

told_below : (state : ModelState) (hart : Hart) (line : ℕ) → length state.harts ≤ 8 →
    IfSome (told_winner state hart line) (λ o. o < 8)
told_below state hart line few =
    least_below
    (λ origin. has hart.told origin && is_before (stamp_in (ordered_on state origin line)) hart.attempt)
    (λ origin. stamp_in (ordered_on state origin line))
    8 0 state.harts (omega arith)

-- a fate names no hart that a machine does not have
abbrev pub IsBelow : Fate → Type 0
IsBelow fate = IfSome (winner_in fate) (λ w. w < 8)

told_fate_below : (winner : Option ℕ) → IfSome winner (λ o. o < 8) → IsBelow (told_fate winner)
told_fate_below None below = tt
told_fate_below (Some winner) below = below

deferring_below : (mode : Mode) (state : ModelState) (head : Request) (hart : Hart) → length state.harts ≤ 8 →
    IsBelow (deferring_fate mode state head hart)
deferring_below Tlr state head hart few = told_fate_below _ (told_below state hart head.line few)
deferring_below Sle state head hart few = tt
deferring_below Plain state head hart few = tt

pub fate_below : (state : ModelState) (head : Request) (h : ℕ) (hart : Hart) → length state.harts ≤ 8 → head.hart < 8 →
    IsBelow (fate_of state head h hart)
fate_below state head h hart few winner =
    by_test IsBelow (conflicts head h hart) _ Unmet
    (λ meets.
    by_test IsBelow (wins_over state.config.mode head.stamp hart) (LosesTo head.hart)
    (deferring_fate state.config.mode state head hart) (λ wins. winner)
    (λ stays. deferring_below state.config.mode state head hart few))
    (λ apart. tt)
