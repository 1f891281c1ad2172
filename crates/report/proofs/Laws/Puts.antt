-- What was put, told as other bytes that are the same.
use Rattle.std.proofs.Common.{◌≡◌, ℕ, List, Result, subst}
use Rattle.el_io.specs.declared.sink.Failed.{Failed}
use Rattle.report.specs.Puts.{Puts, SinkState}

pub same_puts : (result : Result (Unit {0}) Failed) (before now : SinkState) (bytes others : List ℕ) → bytes ≡ others →
    Puts result before now bytes → Puts result before now others
same_puts result before now bytes others same a = subst (λ text. Puts result before now text) same a
