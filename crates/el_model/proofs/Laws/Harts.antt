-- how a hart is read after each hart, or one, has changed
use Rattle.std.proofs.Common.{◌≡◌, ◌≢◌, ℕ, zero, suc, ◌+◌, ◌<◌, ◌≤◌, List, [], ◌∷◌, length, refl, arith}
use Rattle.std.specs.Prelude.{slice_index_or, slice_set}
use Rattle.std.proofs.lemmas.List.{get_or-set_same, get_or-set_other}
use Rattle.el_model.proofs.Laws.Keeps.{length-each_from}
use Rattle.el_model.specs.State.{Hart, ModelState, each_from, each_hart, hart_of, new_hart, with_hart}

pub past_end : (harts : List Hart) (g : ℕ) (none : Hart) → length harts ≤ g → slice_index_or harts g none ≡ none
past_end [] g none past = refl
past_end (hart ∷ harts) zero none past = absurd (omega arith)
past_end (hart ∷ harts) (suc g) none past = past_end harts g none (omega arith)

at_each : (from number : ℕ) (becomes : ℕ → Hart → Hart) (harts : List Hart) (g : ℕ) (none : Hart) → g < length harts →
    number ≡ from + g → slice_index_or (each_from from becomes harts) g none
    ≡ becomes number (slice_index_or harts g none)
at_each from number becomes [] g none below is = absurd (omega arith)
at_each from number becomes (hart ∷ harts) zero none below is = let e : number ≡ from = omega arith in rw e refl
at_each from number becomes (hart ∷ harts) (suc g) none below is =
    at_each (suc from) number becomes harts g none (omega arith) (omega arith)

pub hart_of-each_hart : (state : ModelState) (becomes : ℕ → Hart → Hart) (g : ℕ) → g < length state.harts →
    hart_of (each_hart state becomes) g ≡ becomes g (hart_of state g)
hart_of-each_hart state becomes g below = at_each 0 g becomes state.harts g (new_hart 0) below (omega arith)

pub hart_of-each_hart_past : (state : ModelState) (becomes : ℕ → Hart → Hart) (g : ℕ) → length state.harts ≤ g →
    hart_of (each_hart state becomes) g ≡ new_hart 0
hart_of-each_hart_past state becomes g past =
    past_end (each_from 0 becomes state.harts) g (new_hart 0)
    (let e = length-each_from 0 becomes state.harts in omega (arith, e))

pub hart_of-past : (state : ModelState) (g : ℕ) → length state.harts ≤ g → hart_of state g ≡ new_hart 0
hart_of-past state g past = past_end state.harts g (new_hart 0) past

-- what each change of a hart keeps, every hart keeps; no number needs to be below the count
at_each_kept : {A : Type 0} (f : Hart → A) (from : ℕ) (becomes : ℕ → Hart → Hart) →
    ((h : ℕ) (hart : Hart) → f (becomes h hart) ≡ f hart) → (harts : List Hart) (g : ℕ) (none : Hart) →
    f (slice_index_or (each_from from becomes harts) g none) ≡ f (slice_index_or harts g none)
at_each_kept f from becomes keeps [] g none = refl
at_each_kept f from becomes keeps (hart ∷ harts) zero none = keeps from hart
at_each_kept f from becomes keeps (hart ∷ harts) (suc g) none = at_each_kept f (suc from) becomes keeps harts g none

pub each_hart_kept : {A : Type 0} (f : Hart → A) (state : ModelState) (becomes : ℕ → Hart → Hart) →
    ((h : ℕ) (hart : Hart) → f (becomes h hart) ≡ f hart) → (g : ℕ) →
    f (hart_of (each_hart state becomes) g) ≡ f (hart_of state g)
each_hart_kept f state becomes keeps g = at_each_kept f 0 becomes keeps state.harts g (new_hart 0)

at_set_kept : {A : Type 0} (f : Hart → A) (harts : List Hart) (h g : ℕ) (hart none : Hart) →
    f hart ≡ f (slice_index_or harts h none) →
    f (slice_index_or (slice_set harts h hart) g none) ≡ f (slice_index_or harts g none)
at_set_kept f [] h g hart none keeps = refl
at_set_kept f (first ∷ harts) zero zero hart none keeps = keeps
at_set_kept f (first ∷ harts) zero (suc g) hart none keeps = refl
at_set_kept f (first ∷ harts) (suc h) zero hart none keeps = refl
at_set_kept f (first ∷ harts) (suc h) (suc g) hart none keeps = at_set_kept f harts h g hart none keeps

pub with_hart_kept : {A : Type 0} (f : Hart → A) (state : ModelState) (h : ℕ) (hart : Hart) →
    f hart ≡ f (hart_of state h) → (g : ℕ) → f (hart_of (with_hart state h hart) g) ≡ f (hart_of state g)
with_hart_kept f state h hart keeps g = at_set_kept f state.harts h g hart (new_hart 0) keeps

pub hart_of-with_hart_same : (state : ModelState) (h : ℕ) (hart : Hart) → h < length state.harts →
    hart_of (with_hart state h hart) h ≡ hart
hart_of-with_hart_same state h hart below = get_or-set_same state.harts h hart (new_hart 0) below

pub hart_of-with_hart_other : (state : ModelState) (h g : ℕ) (hart : Hart) → g ≢ h →
    hart_of (with_hart state h hart) g ≡ hart_of state g
hart_of-with_hart_other state h g hart differs = get_or-set_other state.harts h g hart (new_hart 0) differs
