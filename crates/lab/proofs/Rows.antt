-- the row of an acquire, one section after another
use Rattle.std.proofs.Common.{◌≡◌, ◌∙◌, ℕ, ◌+◌, ◌<◌, List, [], ◌∷◌, ◌++◌, length, take, get_or, refl, ap, sym}
use Rattle.std.proofs.lemmas.List.{take_more}
use Rattle.std.proofs.lemmas.List.Sums.{sum_by_push}
use Rattle.chronicle.proofs.Laws.Tallies.{none_small, plus_small, sum_fits}
use Rattle.chronicle.specs.Tally.{nothing, plus}
use Rattle.lab.specs.Locks.{of_acquire, tally_at}
use Rattle.lab.specs.declared.tries.Acquire.{Acquire}
use Rattle.lab.specs.declared.tries.Try.{Try}

-- one section more adds what it counts for
tally_at-push : (acquire : Acquire) (tries : List Try) (try : Try) →
    tally_at acquire (tries ++ try ∷ []) ≡ plus (tally_at acquire tries) (of_acquire acquire try)
unfolding tally_at plus
tally_at-push acquire tries try = simp sum_by_push

pub row_more : (acquire : Acquire) (tries : List Try) (place : ℕ) (try : Try) → place < length tries →
    try ≡ get_or tries place try →
    plus (tally_at acquire (take place tries)) (of_acquire acquire try) ≡ tally_at acquire (take (place + 1) tries)
row_more acquire tries place try within here =
    sym (tally_at-push acquire (take place tries) try)
    ∙ ap (λ (t : Try). tally_at acquire (take place tries ++ t ∷ [])) here
    ∙ ap (λ (l : List Try). tally_at acquire l) (sym (take_more tries place try within))

pub no_row : (acquire : Acquire) → nothing ≡ tally_at acquire []
unfolding tally_at
no_row acquire = refl

pub ruleset row_laws = (no_row, row_more, none_small, plus_small, sum_fits)
