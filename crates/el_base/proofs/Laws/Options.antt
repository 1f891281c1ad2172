-- Options that are none, each and of two.
use Rattle.std.proofs.Common.{◌≡◌, Bool, true, false, cond, ◌||◌, Option, None, Some, is_some, refl}
use Rattle.std.proofs.Common.{if◌then◌else◌}
use Rattle.std.specs.Option.{option_or}

-- what is not there is none
pub none_from : {A : Type 0} (found : Option A) → is_some found ≡ false → found ≡ None
none_from None none = refl
none_from (Some x) none = absurd (cc)

pub none_from_both : {A : Type 0} (one other : Option A) → (is_some one || is_some other) ≡ false →
    (one ≡ None) × (other ≡ None)
none_from_both None None is = (refl, refl)
none_from_both None (Some x) is = absurd (cc)
none_from_both (Some x) other is = absurd (cc)

-- none by a test
pub none_either : {A : Type 0} (b : Bool) (found : Option A) → found ≡ None → (if b then found else None) ≡ None
none_either true found none = none
none_either false found none = refl

pub cond_none : {A : Type 0} (test : Bool) (x : A) (found : Option A) → cond test (Some x) found ≡ None →
    (test ≡ false) × (found ≡ None)
cond_none true x found none = absurd cc
cond_none false x found none = (refl, none)

-- the first of two is none exactly where both are
pub or_none : {A : Type 0} (a b : Option A) → option_or a b ≡ None → (a ≡ None) × (b ≡ None)
or_none None b none = (refl, none)
or_none (Some x) b none = absurd cc

pub both_none : {A : Type 0} (a b : Option A) → a ≡ None → b ≡ None → option_or a b ≡ None
both_none None b first second = second
both_none (Some x) b first second = absurd cc

-- none is not some
pub none_nor_some : {A X : Type 0} (found : Option A) (value : A) → found ≡ None → found ≡ Some value → X
none_nor_some None value none some = absurd (cc)
none_nor_some (Some other) value none some = absurd (cc)
