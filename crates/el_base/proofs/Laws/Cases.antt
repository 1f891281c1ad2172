-- cases that cannot be
use Rattle.std.proofs.Common.{◌≡◌, ◌∙◌, Bool, true, false, None, Some, sym}

pub true_false : {X : Type 0} → true ≡ false → X
true_false wrong = absurd (cc)

pub false_true : {X : Type 0} → false ≡ true → X
false_true wrong = absurd (cc)

-- a test does not come out both ways
pub clash : {X : Type 0} {b : Bool} → b ≡ false → b ≡ true → X
clash without with_it = false_true (sym without ∙ with_it)

pub not_both : {X : Type 0} {b : Bool} → b ≡ true → b ≡ false → X
not_both is not = true_false (sym is ∙ not)

pub some_none : {A X : Type 0} {x : A} → Some x ≡ None → X
some_none wrong = absurd (cc)

pub none_some : {A X : Type 0} {x : A} → None ≡ Some x → X
none_some wrong = absurd (cc)
