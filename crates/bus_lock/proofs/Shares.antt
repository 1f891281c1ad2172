-- Shares that are of different halves.
use Rattle.std.proofs.Common.{◌≡◌, Bool, true, false, List, [], ◌∷◌, ◌++◌, refl}
use Rattle.bus_lock.specs.Rule.{apart}

pub apart_more : (left right more : List Bool) → apart left right ≡ true → apart (left ++ more) right ≡ true
apart_more [] right more a = absurd cc
apart_more (x ∷ left) [] more a = absurd cc
apart_more (true ∷ left) (true ∷ right) more a = apart_more left right more a
apart_more (false ∷ left) (false ∷ right) more a = apart_more left right more a
apart_more (true ∷ left) (false ∷ right) more a = refl
apart_more (false ∷ left) (true ∷ right) more a = refl

pub apart_swap : (left right : List Bool) → apart left right ≡ apart right left
apart_swap [] [] = refl
apart_swap [] (y ∷ right) = refl
apart_swap (x ∷ left) [] = refl
apart_swap (true ∷ left) (true ∷ right) = apart_swap left right
apart_swap (false ∷ left) (false ∷ right) = apart_swap left right
apart_swap (true ∷ left) (false ∷ right) = refl
apart_swap (false ∷ left) (true ∷ right) = refl

pub apart_halves : (share : List Bool) → apart (share ++ false ∷ []) (share ++ true ∷ []) ≡ true
apart_halves [] = refl
apart_halves (true ∷ share) = apart_halves share
apart_halves (false ∷ share) = apart_halves share

-- what is apart from both halves is apart from the whole
pub apart_whole : (share other : List Bool) → apart (share ++ false ∷ []) other ≡ true →
    apart (share ++ true ∷ []) other ≡ true →
    apart share other ≡ true
apart_whole [] [] l r = l
apart_whole [] (true ∷ other) l r = absurd cc
apart_whole [] (false ∷ other) l r = absurd cc
apart_whole (x ∷ share) [] l r = l
apart_whole (true ∷ share) (true ∷ other) l r = apart_whole share other l r
apart_whole (false ∷ share) (false ∷ other) l r = apart_whole share other l r
apart_whole (true ∷ share) (false ∷ other) l r = refl
apart_whole (false ∷ share) (true ∷ other) l r = refl
