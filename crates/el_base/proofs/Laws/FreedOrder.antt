-- The order of the harts that an event let go, hart by hart.
use Rattle.std.specs.List.{flat_map, range_with_len}
use Rattle.std.proofs.Common.{◌≡◌, ℕ, ◌+◌, List, [], ◌∷◌, ◌++◌, length, replicate, append-nil, length-append, refl, ap}
use Rattle.std.proofs.Common.{◌∙◌, suc, arith}
use Rattle.std.proofs.lemmas.Grind.{flat_map-append}
use Rattle.std.proofs.lemmas.List.{length-replicate}
use Rattle.el_base.specs.Freed.{count_in, no_one_freed, order_below, order_of}
use Rattle.el_base.specs.declared.freed.Freed.{Freed}
use Rattle.el_base.proofs.Laws.ListLaws.{range_more}

-- one hart more
pub order_below-more : (n : ℕ) (freed : Freed) →
    order_below (n + 1) freed ≡ order_below n freed ++ replicate (count_in freed n) n
order_below-more n freed =
    let f : ℕ → List ℕ = λ h. replicate (count_in freed h) h in
    let next : n + 1 ≡ suc n = omega arith in
    ap (λ (m : ℕ). order_below m freed) next
    ∙ ap (flat_map f) (range_more 0 n n (omega arith))
    ∙ flat_map-append f (range_with_len 0 n) (n ∷ [])
    ∙ ap (λ (l : List ℕ). order_below n freed ++ l) (append-nil (f n))

pub length-order_below-more : (n : ℕ) (freed : Freed) →
    length (order_below (n + 1) freed) ≡ length (order_below n freed) + count_in freed n
length-order_below-more n freed =
    ap length (order_below-more n freed)
    ∙ length-append (order_below n freed) (replicate (count_in freed n) n)
    ∙ ap (λ (k : ℕ). length (order_below n freed) + k) (length-replicate (count_in freed n) n)

-- where nobody was freed, nothing took effect
pub no_one_in_order : order_of no_one_freed ≡ []
unfolding order_of
no_one_in_order = refl
