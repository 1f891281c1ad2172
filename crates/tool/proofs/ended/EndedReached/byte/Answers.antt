-- main memory lies where the program's does
use Rattle.std.proofs.Common.{◌≡◌, ℕ, false, sym, subst}
use Rattle.std.specs.Prelude.{◌↔◌, IfSome, IsNone}
use Rattle.drive.specs.Story.{committed}
use Rattle.rv_alu.specs.Span.{holds}
use Rattle.rv_alu.specs.declared.span.Span.{Span}
use Rattle.rv_flat.specs.Memory.{byte_in}
use Rattle.tool.proofs.Certifying.{reached_base, reached_span}
use Rattle.tool.proofs.ended.EndedReached.byte.Goals as goal

pub returns-clause-none_exactly_outside : goal.returns-clause-none_exactly_outside
returns-clause-none_exactly_outside c =
    subst (λ (span : Span). IsNone c.byte.result ↔ (holds span c.args.address 1 ≡ false))
    (sym (reached_span c.args.self.now.machine.now)) c.byte.ensures.none_exactly_outside

pub returns-clause-exact : goal.returns-clause-exact
returns-clause-exact c =
    subst
    (λ (base : ℕ). IfSome c.byte.result
    (λ byte. byte ≡ byte_in base (committed c.args.self.now.machine.now).bytes c.args.address))
    (sym (reached_base c.args.self.now.machine.now)) c.byte.ensures.exact
