-- the harts that an event let go, one by one
use Rattle.std.proofs.Common.{◌≡◌, ◌≤◌, ◌<◌, ◌⊎◌, inl, inr, ℕ, ◌+◌, ◌-◌, List, [], ◌∷◌, ◌++◌, zero, suc, append-nil}
use Rattle.std.proofs.Common.{append_assoc, arith, length}
use Rattle.std.proofs.Common.{length-append, replicate, refl, ap, sym, ◌∙◌, subst}
use Rattle.std.specs.Prelude.{All}
use Rattle.std.proofs.lemmas.Bool.{cases_lt}
use Rattle.std.proofs.lemmas.List.{get_or-replicate, length-replicate}
use Rattle.std.proofs.lemmas.List.Elements.{All-append, All-cons, All-get_or, All-nil, All-replicate}
use Rattle.chronicle.specs.Serial.{serial, taking_effect}
use Rattle.el_base.proofs.Laws.FreedOrder.{order_below-more}
use Rattle.el_base.specs.Freed.{count_in, order_below, order_of}
use Rattle.el_base.specs.declared.entries.Entry.{Entry}
use Rattle.el_base.specs.declared.freed.Freed.{Freed}
use Rattle.el_base.specs.declared.hart_id.HartId.{HartId}
use Rattle.el_base.specs.declared.outcomes.Outcome.{Outcome}
use Rattle.el_base.specs.declared.outcomes.Outcome.TheVariants.{Ran, Committed, LetGo, Ordered, Served}
use Rattle.step_back.proofs.Serials.{all-left, all-right}

-- the first harts are the first part of the order
prefix : (freed : Freed) (n k m : ℕ) → m ≡ n + k → (rest : List ℕ) × (order_below m freed ≡ order_below n freed ++ rest)
prefix freed n zero m is =
    ([], ap (λ m. order_below m freed) (omega (arith, is)) ∙ sym (append-nil (order_below n freed)))
prefix freed n (suc k) m is =
    let before : (rest : List ℕ) × (order_below (n + k) freed ≡ order_below n freed ++ rest) =
    prefix freed n k (n + k) refl in
    let last : List ℕ = replicate (count_in freed (n + k)) (n + k) in
    let more : m ≡ n + k + 1 = omega (arith, is) in (
      before.0 ++ last,
      ap (λ m. order_below m freed) more ∙ order_below-more (n + k) freed ∙ ap (λ first. first ++ last) before.1
          ∙ append_assoc (order_below n freed) before.0 last,
    )

-- a hart that was let go exists, and its instructions stand in the order behind those of the harts before it
pub record LetsGo (freed : Freed) (hart bound : ℕ) : Type 0 where
  pub exists : 1 ≤ count_in freed hart → hart < bound
  pub short : length (order_below hart freed) + count_in freed hart ≤ length (order_of freed)

pub lets_go : (freed : Freed) (hart bound : ℕ) → hart < 8 → All (λ hart. hart < bound) (order_of freed) →
    LetsGo freed hart bound
unfolding order_of
lets_go freed hart bound within exist =
    let before : List ℕ = order_below hart freed in
    let own : List ℕ = replicate (count_in freed hart) hart in
    let rest : (rest : List ℕ) × (order_below 8 freed ≡ order_below (hart + 1) freed ++ rest) =
    prefix freed (hart + 1) (8 - (hart + 1)) 8 (omega arith) in
    let whole : order_of freed ≡ before ++ own ++ rest.0 =
    rest.1 ∙ ap (λ first. first ++ rest.0) (order_below-more hart freed) in
    let Exists : ℕ → Type 0 = λ hart. hart < bound in
    let Exist : List ℕ → Type 0 = All Exists in
    let owns : All Exists own =
    all-right Exists before own (all-left Exists (before ++ own) rest.0 (subst Exist whole exist)) in
    record {
      exists = λ some.
          subst Exists (get_or-replicate (count_in freed hart) 0 hart hart some)
          (All-get_or Exists own 0 hart (omega (arith, some, length-replicate (count_in freed hart) hart)) owns);
      short = omega (
        arith,
        ap length whole,
        length-append (before ++ own) rest.0,
        length-append before own,
        length-replicate (count_in freed hart) hart,
      );
    }

-- whoever was let go is below a number, where none of the first harts past it was
below_number : (freed : Freed) (n bound : ℕ) → ((h : ℕ) → h < n → bound ≤ h → count_in freed h ≡ 0) →
    All (λ hart. hart < bound) (order_below n freed)
below_number freed zero bound none = All-nil (λ hart. hart < bound)
below_number freed (suc n) bound none =
    let Below : ℕ → Type 0 = λ hart. hart < bound in
    let next : suc n ≡ n + 1 = omega arith in
    let more : order_below (suc n) freed ≡ order_below n freed ++ replicate (count_in freed n) n =
    ap (λ m. order_below m freed) next ∙ order_below-more n freed in
    let AllBelow : List ℕ → Type 0 = All Below in
    subst AllBelow (sym more)
    (All-append Below (order_below n freed) (replicate (count_in freed n) n)
    (below_number freed n bound (λ h low past. none h (omega (arith, low)) past)) (own (cases_lt n bound)))
  where
    own : (n < bound) ⊎ (bound ≤ n) → All (λ hart. hart < bound) (replicate (count_in freed n) n)
    own (inl low) = All-replicate (λ hart. hart < bound) (count_in freed n) n low
    own (inr past) =
        subst (λ count. All (λ hart. hart < bound) (replicate count n)) (sym (none n (omega arith) past))
        (All-nil (λ hart. hart < bound))

-- it exists, where none past the harts that there are was let go
pub order_exists : (freed : Freed) (bound : ℕ) → ((h : ℕ) → bound ≤ h → count_in freed h ≡ 0) →
    All (λ hart. hart < bound) (order_of freed)
unfolding order_of
order_exists freed bound none = below_number freed 8 bound (λ h low past. none h past)

-- and it is one of the first eight
small_order : (freed : Freed) → All (λ hart. hart < 8) (order_of freed)
unfolding order_of
small_order freed = below_number freed 8 8 (λ h low past. absurd (omega (arith, low, past)))

small_effect : (hart : HartId) (outcome : Outcome) → All (λ hart. hart < 8) (taking_effect hart.number outcome)
small_effect hart Ran = All-cons (λ hart. hart < 8) hart.number [] hart.small (All-nil (λ hart. hart < 8))
small_effect hart (Committed count) = All-replicate (λ hart. hart < 8) count hart.number hart.small
small_effect hart (LetGo count) = All-replicate (λ hart. hart < 8) count hart.number hart.small
small_effect hart (Ordered losers freed) = small_order freed
small_effect hart (Served losers freed) = small_order freed
small_effect hart _ = All-nil (λ hart. hart < 8)

-- so is each hart whose instructions take effect
pub serial-small : (entries : List Entry) → All (λ hart. hart < 8) (serial entries)
serial-small [] = All-nil (λ hart. hart < 8)
serial-small (entry ∷ entries) =
    All-append (λ hart. hart < 8) (taking_effect entry.event.hart.number entry.outcome) (serial entries)
    (small_effect entry.event.hart entry.outcome) (serial-small entries)
