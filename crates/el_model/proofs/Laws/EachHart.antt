-- what holds of each hart by its number, and still does after one hart or each has changed
use Rattle.std.proofs.Common.{◌≡◌, ◌≢◌, ℕ, zero, suc, ◌≤◌, ◌<◌, Bool, true, false, List, [], ◌∷◌, length, refl, sym}
use Rattle.std.proofs.Common.{subst, inl, inr, ◌⊎◌, arith}
use Rattle.std.specs.Prelude.{nat_lt, slice_index_or, slice_set}
use Rattle.std.proofs.lemmas.Bool.{cases_eq, ltb-true, ltb-false}
use Rattle.std.proofs.Math.ListN.{length-set}
use Rattle.el_model.specs.State.{Hart, ModelState, each_hart, hart_of, new_hart, with_hart}
use Rattle.el_model.proofs.Laws.Harts.{hart_of-each_hart, hart_of-each_hart_past, hart_of-past, hart_of-with_hart_other}
use Rattle.el_model.proofs.Laws.Harts.{hart_of-with_hart_same}

abbrev pub Each : (ℕ → Hart → Type 0) → ModelState → Type 0
Each P state = (h : ℕ) → P h (hart_of state h)

each_by : (P : ℕ → Hart → Type 0) (state : ModelState) (becomes : ℕ → Hart → Hart) →
    ((h : ℕ) → P h (hart_of state h) → P h (becomes h (hart_of state h))) → (h : ℕ) → P h (hart_of state h) →
    (below : Bool) → nat_lt h (length state.harts) ≡ below → P h (hart_of (each_hart state becomes) h)
each_by P state becomes keeps h now true below =
    subst (P h) (sym (hart_of-each_hart state becomes h (ltb-true h (length state.harts) below))) (keeps h now)
each_by P state becomes keeps h now false below =
    let past = ltb-false h (length state.harts) below in
    subst (P h) (sym (hart_of-each_hart_past state becomes h past)) (subst (P h) (hart_of-past state h past) now)

pub each_after : (P : ℕ → Hart → Type 0) (state : ModelState) (becomes : ℕ → Hart → Hart) →
    ((h : ℕ) → P h (hart_of state h) → P h (becomes h (hart_of state h))) → Each P state →
    Each P (each_hart state becomes)
each_after P state becomes keeps each h = each_by P state becomes keeps h (each h) (nat_lt h (length state.harts)) refl

-- what the change gives each hart, whatever was said of it before
become_by : (P : ℕ → Hart → Type 0) (state : ModelState) (becomes : ℕ → Hart → Hart) (h : ℕ) →
    P h (becomes h (hart_of state h)) → (length state.harts ≤ h → P h (hart_of state h)) → (below : Bool) →
    nat_lt h (length state.harts) ≡ below → P h (hart_of (each_hart state becomes) h)
become_by P state becomes h new absent true below =
    subst (P h) (sym (hart_of-each_hart state becomes h (ltb-true h (length state.harts) below))) new
become_by P state becomes h new absent false below =
    let past = ltb-false h (length state.harts) below in
    subst (P h) (sym (hart_of-each_hart_past state becomes h past))
    (subst (P h) (hart_of-past state h past) (absent past))

pub each_become : (P : ℕ → Hart → Type 0) (state : ModelState) (becomes : ℕ → Hart → Hart) →
    ((h : ℕ) → P h (becomes h (hart_of state h))) → ((h : ℕ) → length state.harts ≤ h → P h (hart_of state h)) →
    Each P (each_hart state becomes)
each_become P state becomes new absent h =
    become_by P state becomes h (new h) (absent h) (nat_lt h (length state.harts)) refl

set_each : (P : ℕ → Hart → Type 0) (harts : List Hart) (h : ℕ) (hart none : Hart) → P h hart →
    ((g : ℕ) → P g (slice_index_or harts g none)) → (g : ℕ) → P g (slice_index_or (slice_set harts h hart) g none)
set_each P [] h hart none new each g = each g
set_each P (first ∷ harts) zero hart none new each zero = new
set_each P (first ∷ harts) zero hart none new each (suc g) = each (suc g)
set_each P (first ∷ harts) (suc h) hart none new each zero = each 0
set_each P (first ∷ harts) (suc h) hart none new each (suc g) =
    set_each (λ k. P (suc k)) harts h hart none new (λ k. each (suc k)) g

pub each_with : (P : ℕ → Hart → Type 0) (state : ModelState) (h : ℕ) (hart : Hart) → P h hart → Each P state →
    Each P (with_hart state h hart)
each_with P state h hart new each g = set_each P state.harts h hart (new_hart 0) new each g

hart_of-with_hart_past : (state : ModelState) (h : ℕ) (hart : Hart) → length state.harts ≤ h →
    hart_of (with_hart state h hart) h ≡ new_hart 0
hart_of-with_hart_past state h hart past =
    hart_of-past (with_hart state h hart) h (omega (arith, past, length-set state.harts h hart))

-- the same where nothing is known of the hart before, or its change is known to do so for a hart of the machine alone
with_by : (P : ℕ → Hart → Type 0) (state : ModelState) (h : ℕ) (hart : Hart) → (h < length state.harts → P h hart) →
    ((g : ℕ) → g ≢ h → P g (hart_of state g)) → (length state.harts ≤ h → P h (new_hart 0)) → (g : ℕ) →
    (g ≡ h) ⊎ (g ≡ h → ⊥) → (below : Bool) → nat_lt h (length state.harts) ≡ below →
    P g (hart_of (with_hart state h hart) g)
with_by P state h hart new others absent g (inr apart) below is =
    subst (P g) (sym (hart_of-with_hart_other state h g hart apart)) (others g apart)
with_by P state h hart new others absent g (inl same) true is =
    let below = ltb-true h (length state.harts) is in
    rw same (subst (P h) (sym (hart_of-with_hart_same state h hart below)) (new below))
with_by P state h hart new others absent g (inl same) false is =
    let past = ltb-false h (length state.harts) is in
    rw same (subst (P h) (sym (hart_of-with_hart_past state h hart past)) (absent past))

pub each_but_below : (P : ℕ → Hart → Type 0) (state : ModelState) (h : ℕ) (hart : Hart) →
    (h < length state.harts → P h hart) →
    ((g : ℕ) → g ≢ h → P g (hart_of state g)) → (length state.harts ≤ h → P h (new_hart 0)) →
    Each P (with_hart state h hart)
each_but_below P state h hart new others absent g =
    with_by P state h hart new others absent g (cases_eq g h) (nat_lt h (length state.harts)) refl

pub each_but : (P : ℕ → Hart → Type 0) (state : ModelState) (h : ℕ) (hart : Hart) → P h hart →
    ((g : ℕ) → g ≢ h → P g (hart_of state g)) → (length state.harts ≤ h → P h (new_hart 0)) →
    Each P (with_hart state h hart)
each_but P state h hart new others absent = each_but_below P state h hart (λ below. new) others absent
