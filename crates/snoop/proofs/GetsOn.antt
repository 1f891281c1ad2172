-- which events of a hart get something done
use Rattle.std.proofs.Common.{◌≡◌, ◌≢◌, ℕ, Bool, true, false, List, [], ◌∷◌, length, refl, ap, arith}
use Rattle.std.specs.Prelude.{◌↔◌, ◌==◌, not}
use Rattle.std.proofs.lemmas.Bool.{ne_eqb}
use Rattle.bus_order.specs.Order.{Request}
use Rattle.el_model.specs.Deliver.{deliver_next}
use Rattle.el_model.specs.Serve.{Blocks, Free, Obstacle, serve_past}
use Rattle.el_model.specs.State.{ModelState}
use Rattle.mail.specs.Mailbox.{Message}
use Rattle.snoop.specs.Readiness.{is_delivered, is_served}

-- a request is served exactly where nothing is in its way
pub served_past : (state : ModelState) (request : Request) (free : Bool) (obstacle : Obstacle) →
    (free ≡ true) ↔ (obstacle ≡ Free) → free ≡ is_served (serve_past state request obstacle).outcome
served_past state request true Free is = refl
served_past state request true (Blocks why by) is = absurd (blocked (is.0 refl))
  where
    blocked : Blocks why by ≡ Free → ⊥
    blocked same = cc
served_past state request false Free is = is.1 refl
served_past state request false (Blocks why by) is = refl

one_is_there : (message : Message) (others : List Message) → not (length (message ∷ others) == 0) ≡ true
one_is_there message others = ap not (ne_eqb (length (message ∷ others)) 0 (omega arith))

-- a test whether there is a message
pub mail_there : (mail : List Message) → (not (length mail == 0) ≡ true) ↔ (mail ≢ [])
mail_there [] = ((λ is. absurd (cc)), (λ some. absurd (some refl)))
mail_there (message ∷ others) = ((λ is same. cc), (λ some. one_is_there message others))

-- where there is one, the oldest is delivered
pub mail_delivered : (state : ModelState) (h : ℕ) (mail : List Message) →
    not (length mail == 0) ≡ is_delivered (deliver_next state h mail).outcome
mail_delivered state h [] = refl
mail_delivered state h (message ∷ others) = one_is_there message others
