-- items that are put behind others, hart by hart or register by register
use Rattle.std.proofs.Common.{◌≡◌, ◌∙◌, ℕ, suc, ◌+◌, List, [], ◌∷◌, ◌++◌, ap, sym, arith, append-nil, append_assoc}
use Rattle.std.specs.List.{flat_map, range_with_len}
use Rattle.std.proofs.lemmas.Grind.{flat_map-append}
use Rattle.el_base.proofs.Laws.HartIds.{hart_id-of_hart}
use Rattle.el_base.specs.HartId.{hart_id}
use Rattle.el_base.specs.declared.hart_id.HartId.{HartId}
use Rattle.el_base.proofs.Laws.ListLaws.{range_more}

-- a hart is the hart of its number
pub hart_back : (hart : HartId) → hart_id hart.number ≡ hart
hart_back hart = hart_id-of_hart hart

-- what each number below the next one tells is what each below this one tells, and what this one does
pub each_more : {A : Type 0} (f : ℕ → List A) (n : ℕ) →
    flat_map f (range_with_len 0 (n + 1)) ≡ flat_map f (range_with_len 0 n) ++ f n
each_more f n =
    let next : n + 1 ≡ suc n = omega arith in
    ap (λ m. flat_map f (range_with_len 0 m)) next
    ∙ ap (flat_map f) (range_more 0 n n (omega arith))
    ∙ flat_map-append f (range_with_len 0 n) (n ∷ [])
    ∙ ap (λ (l : List _). flat_map f (range_with_len 0 n) ++ l) (append-nil (f n))

-- one number more
pub put_more : {A : Type 0} (f : ℕ → List A) (n : ℕ) (before now later : List A) →
    now ≡ before ++ flat_map f (range_with_len 0 n) → later ≡ now ++ f n →
    later ≡ before ++ flat_map f (range_with_len 0 (n + 1))
put_more f n before now later reached more =
    more
    ∙ ap (λ l. l ++ f n) reached
    ∙ append_assoc before (flat_map f (range_with_len 0 n)) (f n)
    ∙ ap (λ l. before ++ l) (sym (each_more f n))
