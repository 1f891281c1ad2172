-- A cache without bits has none after what leaves a section out: a request that is served, and an access.
use Rattle.std.proofs.Common.{◌≡◌, ℕ, Bool, false, List, true, Option, None, Some}
use Rattle.residency.specs.Cache.{has_marks, is_resident, touched}
use Rattle.residency.specs.Residency.{Way}
use Rattle.residency.proofs.Laws.Unmarked.{unmarked-filled_with, unmarked-lettered, unmarked-without_line}
use Rattle.residency.proofs.Laws.Unmarked.{unmarked-touched}
use Rattle.el_base.specs.declared.outcomes.Need.{Need}
use Rattle.el_base.specs.declared.outcomes.Need.TheVariants.{Read, Write}
use Rattle.el_model.specs.Serve.{given_up, others_cache, own_copy}
use Rattle.el_model.proofs.Laws.Tests.{by_test}
use Rattle.el_model.specs.Plain.{after_access, after_touch}
use Rattle.el_model.specs.Upcoming.{Touch}

-- a request is served
pub own_unmarked : (ways : ℕ) (others : Bool) (need : Need) (cache : List (List Way)) (line : ℕ) →
    has_marks cache ≡ false →
    has_marks (own_copy ways others need cache line) ≡ false
own_unmarked ways others need cache line bare =
    by_test (λ copy. has_marks copy ≡ false) (is_resident cache line) _ _ (λ had. unmarked-lettered cache line _ bare)
    (λ new. unmarked-filled_with ways cache line _ bare)

pub given_unmarked : (need : Need) (cache : List (List Way)) (line : ℕ) → has_marks cache ≡ false →
    has_marks (given_up need cache line) ≡ false
given_unmarked Write cache line bare = unmarked-without_line cache line bare
given_unmarked Read cache line bare = unmarked-lettered cache line _ bare

pub others_unmarked : (had : Bool) (need : Need) (cache : List (List Way)) (line : ℕ) → has_marks cache ≡ false →
    has_marks (others_cache had need cache line) ≡ false
others_unmarked had Write cache line bare = given_unmarked Write cache line bare
others_unmarked true Read cache line bare = bare
others_unmarked false Read cache line bare = given_unmarked Read cache line bare

-- an instruction reads or writes a line
pub access_unmarked : (cache : List (List Way)) (line : ℕ) (need : Need) → has_marks cache ≡ false →
    has_marks (after_access cache line need) ≡ false
access_unmarked cache line Read bare = unmarked-touched cache line bare
access_unmarked cache line Write bare = unmarked-lettered (touched cache line) line _ (unmarked-touched cache line bare)

pub touch_unmarked : (cache : List (List Way)) (touch : Option Touch) → has_marks cache ≡ false →
    has_marks (after_touch cache touch) ≡ false
touch_unmarked cache None bare = bare
touch_unmarked cache (Some touch) bare = access_unmarked cache touch.line touch.need bare
