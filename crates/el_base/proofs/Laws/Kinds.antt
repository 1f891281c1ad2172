-- Kinds of events and their numbers.
use Rattle.std.proofs.Common.{◌≡◌, refl, arith}
use Rattle.el_base.specs.declared.events.Kind.{Kind}
use Rattle.el_base.specs.declared.events.Kind.TheVariants.{Deliver, Order, Serve, Step}
use Rattle.el_base.specs.Kinds.{kind_number}

-- kinds of one number are one
pub one_kind : (a b : Kind) → kind_number a ≡ kind_number b → a ≡ b
one_kind Step Step h = refl
one_kind Order Order h = refl
one_kind Serve Serve h = refl
one_kind Deliver Deliver h = refl
one_kind Step Order h = absurd (omega arith)
one_kind Step Serve h = absurd (omega arith)
one_kind Step Deliver h = absurd (omega arith)
one_kind Order Step h = absurd (omega arith)
one_kind Order Serve h = absurd (omega arith)
one_kind Order Deliver h = absurd (omega arith)
one_kind Serve Step h = absurd (omega arith)
one_kind Serve Order h = absurd (omega arith)
one_kind Serve Deliver h = absurd (omega arith)
one_kind Deliver Step h = absurd (omega arith)
one_kind Deliver Order h = absurd (omega arith)
one_kind Deliver Serve h = absurd (omega arith)
