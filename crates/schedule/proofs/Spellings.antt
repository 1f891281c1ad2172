-- the parts of an event's spelling
use Rattle.std.proofs.Common.{◌≡◌, ℕ, ◌+◌, List, [], ◌∷◌, ◌++◌, refl, sym, ◌∙◌, ap, arith, length, length-append}
use Rattle.std.proofs.lemmas.List.{append_assoc}
use Rattle.el_base.specs.declared.events.Kind.{Kind}
use Rattle.schedule.specs.Lines.{kind_name, spelled}

pub fronts_agree : (xs ys : List ℕ) (x y : ℕ) → xs ++ x ∷ [] ≡ ys ++ y ∷ [] → xs ≡ ys
fronts_agree [] [] x y same = refl
fronts_agree [] (first ∷ ys) x y same =
    absurd (omega (arith, ap length same, length-append ys (y ∷ [])))
fronts_agree (first ∷ xs) [] x y same =
    absurd (omega (arith, ap length same, length-append xs (x ∷ [])))
fronts_agree (first ∷ xs) (other ∷ ys) x y same =
    let tails : xs ++ x ∷ [] ≡ ys ++ y ∷ [] = cc in
    let heads : first ≡ other = cc in
    let rest = fronts_agree xs ys x y tails in cc

-- what stands before the last two characters is the name of the kind
pub name_of_spelled : (front name : List ℕ) (digit space : ℕ) (kind : Kind) (hart : ℕ) →
    front ≡ name ++ space ∷ [] → front ++ digit ∷ [] ≡ spelled kind hart → name ≡ kind_name kind
name_of_spelled front name digit space kind hart parted same =
    let split : (kind_name kind ++ 0x20 ∷ []) ++ (0x30 + hart) ∷ [] ≡ spelled kind hart =
    append_assoc (kind_name kind) (0x20 ∷ []) ((0x30 + hart) ∷ []) in
    let fronts : front ≡ kind_name kind ++ 0x20 ∷ [] =
    fronts_agree front (kind_name kind ++ 0x20 ∷ []) digit (0x30 + hart) (same ∙ sym split) in
    fronts_agree name (kind_name kind) space 0x20 (sym parted ∙ fronts)
