-- where nothing gets on at once, each mailbox is empty and each hart that runs has an ordered request
use Rattle.std.proofs.Common.{◌≡◌, ◌≢◌, ◌∙◌, ℕ, zero, suc, ◌<◌, ◌≤◌, Bool, true, false, List, []}
use Rattle.std.proofs.Common.{◌∷◌, Option, None, Some, length, refl, ap, sym, inl, inr, ◌⊎◌, arith}
use Rattle.std.specs.Prelude.{nat_lt}
use Rattle.std.proofs.lemmas.Bool.{ltb-true, ltb-false}
use Rattle.bus_order.specs.Order.{Request}
use Rattle.el_model.specs.State.{ModelState, hart_of, ordered_of, raised_of}
use Rattle.el_model.proofs.Laws.Harts.{hart_of-past}
use Rattle.mail.specs.Mailbox.{Message}
use Rattle.progress_laws.proofs.Laws.GettingOn.{GetsOn, Orderly}
use Rattle.progress_laws.proofs.Laws.GettingOn.{free_gets_on, mail_gets_on, raised_gets_on}
use Rattle.progress_laws.proofs.LeastStamp.{at_limit}
use Rattle.rv_alu.specs.declared.view.HartStatus.{HartStatus}
use Rattle.rv_alu.specs.declared.view.HartStatus.TheVariants.{Exited, Running, Trapped}
use Rattle.rv_flat.specs.FlatState.{status_of}
use Rattle.section_laws.proofs.Laws.Lengths.{runs_exists}

-- of each number below a limit, or else there is something else
pub each_or : {G : Type 0} (P : ℕ → Type 0) (n : ℕ) → ((k : ℕ) → k < n → G ⊎ P k) → G ⊎ ((k : ℕ) → k < n → P k)
each_or P zero one = inr (λ k below. absurd (omega (arith, below)))
each_or {G} P (suc n) one = by (one n (omega arith)) (each_or P n (λ k below. one k (omega (arith, below))))
  where
    by : G ⊎ P n → G ⊎ ((k : ℕ) → k < n → P k) → G ⊎ ((k : ℕ) → k < suc n → P k)
    by (inl found) others = inl found
    by (inr last) (inl found) = inl found
    by (inr last) (inr others) = inr (at_limit P n last others)

-- a hart that only waits for its ordered request to be served, or has stopped
pub record OnlyWaits (state : ModelState) (h : ℕ) : Type 0 where
  pub mail : (hart_of state h).mail ≡ []
  pub waits : status_of state.committed h ≡ Running → (request : Request) × (ordered_of state h ≡ Some request)

waits_or : (state : ModelState) → Orderly state → (h : ℕ) → h < length state.harts → GetsOn state ⊎ OnlyWaits state h
waits_or state orderly h exists =
    by (hart_of state h).mail refl (raised_of state h) refl (ordered_of state h) refl (status_of state.committed h) refl
  where
    not_running : {X : Type 0} (status : HartStatus) → status_of state.committed h ≡ status → status ≢ Running →
        status_of state.committed h ≡ Running → X
    not_running status is stopped running = absurd (stopped (sym is ∙ running))

    by : (mail : List Message) → (hart_of state h).mail ≡ mail → (raised : Option Request) →
        raised_of state h ≡ raised → (ordered : Option Request) → ordered_of state h ≡ ordered → (status : HartStatus) →
        status_of state.committed h ≡ status → GetsOn state ⊎ OnlyWaits state h
    by (message ∷ others) is raised asked ordered placed status stands =
        inl (mail_gets_on state h message others exists is)
    by [] is (Some request) asked ordered placed status stands = inl (raised_gets_on state h request exists asked)
    by [] is None asked (Some request) placed status stands =
        inr (record { mail = is; waits = λ running. (request, placed) })
    by [] is None asked None placed Running stands =
        inl (free_gets_on state h orderly.as_many stands (rw (asked, placed) refl))
    by [] is None asked None placed (Exited code) stands =
        inr (record { mail = is; waits = not_running (Exited code) stands (λ wrong. absurd (cc)) })
    by [] is None asked None placed (Trapped cause pc) stands =
        inr (record { mail = is; waits = not_running (Trapped cause pc) stands (λ wrong. absurd (cc)) })

-- a number past the last hart
past_waits : (state : ModelState) → Orderly state → (h : ℕ) → length state.harts ≤ h → OnlyWaits state h
past_waits state orderly h past = record {
  mail = ap (λ hart. hart.mail) (hart_of-past state h past);
  waits = λ running. let exists = runs_exists state h orderly.as_many running in absurd (omega (arith, exists, past));
}

any_waits : (state : ModelState) → Orderly state → ((h : ℕ) → h < length state.harts → OnlyWaits state h) → (h : ℕ) →
    (below : Bool) → nat_lt h (length state.harts) ≡ below → OnlyWaits state h
any_waits state orderly each h true is = each h (ltb-true h (length state.harts) is)
any_waits state orderly each h false is = past_waits state orderly h (ltb-false h (length state.harts) is)

pub gets_on_or_waits : (state : ModelState) → Orderly state → GetsOn state ⊎ ((h : ℕ) → OnlyWaits state h)
gets_on_or_waits state orderly = by (each_or (OnlyWaits state) (length state.harts) (waits_or state orderly))
  where
    by : GetsOn state ⊎ ((h : ℕ) → h < length state.harts → OnlyWaits state h) →
        GetsOn state ⊎ ((h : ℕ) → OnlyWaits state h)
    by (inl on) = inl on
    by (inr each) = inr (λ h. any_waits state orderly each h (nat_lt h (length state.harts)) refl)
