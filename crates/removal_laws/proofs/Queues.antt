-- the queue of a line, its first and its last request
use Rattle.std.proofs.Common.{◌≡◌, ◌∙◌, ◌==◌, ◌++◌, ℕ, Bool, true, false, List, [], ◌∷◌, Option, None, Some, refl, ap}
use Rattle.std.proofs.Common.{sym, if◌then◌else◌}
use Rattle.std.specs.Option.{option_or}
use Rattle.bus_order.specs.Order.{Request, first_of, queue_of, tail_of}
use Rattle.bus_order.proofs.Laws.LookUps.{or_nothing}
use Rattle.el_model.specs.State.{ModelState, hart_of}
use Rattle.removal_laws.specs.Facts.{AreLinked, IsChained, IsLinked}
use Rattle.el_base.proofs.Laws.Cases.{some_none}

-- the hart of the last of these requests, or of the one before them
abbrev pub last_hart : ℕ → List Request → ℕ
last_hart before [] = before
last_hart before (request ∷ others) = last_hart request.hart others

pub record LastIs (head : Request) (others : List Request) (tail : Option Request) : Type 0 where
  pub last : Request
  pub is : tail ≡ Some last
  pub hart_is : last.hart ≡ last_hart head.hart others

abbrev pub IsTail : List Request → Option Request → Type 0
IsTail [] tail = tail ≡ None
IsTail (head ∷ others) tail = LastIs head others tail

abbrev pub IsHead : List Request → Option Request → Type 0
IsHead [] first = first ≡ None
IsHead (head ∷ others) first = first ≡ Some head

pub head_is : (order : List Request) (line : ℕ) → IsHead (queue_of order line) (first_of order line)
head_is [] line = refl
head_is (request ∷ order) line = by (request.line == line) (head_is order line)
  where
    by : (here : Bool) → IsHead (queue_of order line) (first_of order line) →
        IsHead (if here then request ∷ queue_of order line else queue_of order line)
        (if here then Some request else first_of order line)
    by true rest = refl
    by false rest = rest

tail_more : (request : Request) (queue : List Request) (tail : Option Request) → IsTail queue tail →
    IsTail (request ∷ queue) (option_or tail (Some request))
tail_more request [] tail none = rw none (record { last = request; is = refl; hart_is = refl })
tail_more request (head ∷ others) tail last =
    record { last = last.last; is = ap (λ t. option_or t (Some request)) last.is; hart_is = last.hart_is }

pub tail_is : (order : List Request) (line : ℕ) → IsTail (queue_of order line) (tail_of order line)
tail_is [] line = refl
tail_is (request ∷ order) line = by (request.line == line) (tail_is order line)
  where
    by : (here : Bool) → IsTail (queue_of order line) (tail_of order line) →
        IsTail (if here then request ∷ queue_of order line else queue_of order line)
        (option_or (tail_of order line) (if here then Some request else None))
    by true rest = tail_more request (queue_of order line) (tail_of order line) rest
    by false rest = rw (or_nothing (tail_of order line)) rest

-- one request more
pub linked_more : (state : ModelState) (before : ℕ) (queue : List Request) (new : Request) →
    AreLinked state before queue → IsLinked (hart_of state new.hart) (last_hart before queue) →
    AreLinked state before (queue ++ new ∷ [])
linked_more state before [] new now link = (link, tt)
linked_more state before (request ∷ others) new (own, rest) link =
    (own, linked_more state request.hart others new rest link)

pub chained_more : (state : ModelState) (queue : List Request) (new : Request) (tail : Option Request) →
    IsChained state queue → IsTail queue tail →
    ((last : Request) → tail ≡ Some last → IsLinked (hart_of state new.hart) last.hart) →
    IsChained state (queue ++ new ∷ [])
chained_more state [] new tail now ends link = tt
chained_more state (head ∷ others) new tail now ends link =
    linked_more state head.hart others new now (subst_hart (link ends.last ends.is))
  where
    subst_hart : IsLinked (hart_of state new.hart) ends.last.hart →
        IsLinked (hart_of state new.hart) (last_hart head.hart others)
    subst_hart linked = rw (sym ends.hart_is) linked

pub chained_before : (state : ModelState) (queue : List Request) (new : Request) (first : Option Request) →
    IsChained state queue → IsHead queue first →
    ((former : Request) → first ≡ Some former → IsLinked (hart_of state former.hart) new.hart) →
    IsChained state (new ∷ queue)
chained_before state [] new first now begins link = tt
chained_before state (head ∷ others) new first now begins link = (link head begins, now)

-- a line without a first request has none
pub no_queue : (order : List Request) (line : ℕ) → first_of order line ≡ None → queue_of order line ≡ []
no_queue order line none = by (queue_of order line) (head_is order line)
  where
    by : (queue : List Request) → IsHead queue (first_of order line) → queue ≡ []
    by [] is = refl
    by (head ∷ others) is = some_none (sym is ∙ none)
