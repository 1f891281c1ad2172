-- the byte that the parts tell
use Rattle.std.proofs.Common.{◌≡◌, ℕ, false, subst}
use Rattle.std.specs.Prelude.{◌↔◌, IfSome, IsNone}
use Rattle.machine.proofs.GoesOn.{now_in, parts_stand, reached_committed, same_base, same_span}
use Rattle.machine.proofs.machine.Machine.byte.Goals as goal
use Rattle.machine.specs.Story.{state_of}
use Rattle.rv_alu.specs.Span.{holds}
use Rattle.rv_alu.specs.declared.span.Span.{Span}
use Rattle.rv_flat.specs.FlatState.{FlatState}
use Rattle.rv_flat.specs.Memory.{byte_in}

pub byte-requires : goal.byte-requires
byte-requires c = parts_stand _ _ _ c.self.invariant

pub returns-clause-none_exactly_outside : goal.returns-clause-none_exactly_outside
returns-clause-none_exactly_outside c =
    let Outside : Span → Type 0 = λ span. (IsNone c.byte.result ↔ (holds span c.args.address 1 ≡ false)) in
    subst Outside (same_span _ _ _ _ c.self.invariant c.self.view_is) c.byte.ensures.none_exactly_outside

pub returns-clause-exact : goal.returns-clause-exact
returns-clause-exact c =
    let state = state_of c.args.self.now in
    let Of : FlatState → Type 0 =
    λ flat. IfSome c.byte.result (λ byte. byte ≡ byte_in c.args.self.now.program.base flat.bytes c.args.address) in
    let From : ℕ → Type 0 =
    λ base. IfSome c.byte.result (λ byte. byte ≡ byte_in base state.committed.bytes c.args.address) in
    subst Of (reached_committed _ _ _ _ c.self.invariant c.self.view_is)
    (subst From (same_base _ _ _ _ c.self.invariant c.self.view_is)
    (c.byte.ensures.committed state (now_in _ _ _ _ c.self.invariant c.self.view_is)))
