-- How a set makes room for a line, and how a line comes to its front.
use Rattle.std.proofs.Common.{◌≡◌, ℕ, ◌≤◌, ◌<◌, List, [], ◌∷◌, ◌++◌, drop, length, get_or, take, None, Some, refl, ap}
use Rattle.std.proofs.Common.{sym, subst, ◌∙◌, arith}
use Rattle.std.specs.List.{remove}
use Rattle.std.proofs.lemmas.Bool.Decides.{nat_tests}
use Rattle.std.proofs.lemmas.List.{length-map}
use Rattle.std.proofs.lemmas.Option.{same_Some}
use Rattle.cache_sets.specs.declared.line.Line as code
use Rattle.cache_sets.specs.declared.set.Set.{Set}
use Rattle.residency.specs.Keyed.{count_of, found}
use Rattle.cache_sets.specs.Kept.{HasRoom, MakesRoom, number_of, shown_line, shown_set}
use Rattle.residency.specs.Residency.{evicted_in, victim_in}
use Rattle.residency.proofs.Laws.KeyedLemmas.{found_at, remove-without}
use Rattle.residency.proofs.Laws.ResidencyLemmas.{evicted_in-none}

-- nothing leaves a set with fewer lines than ways, nor one in which each line has a bit
nothing_leaves : (ways : ℕ) (set : Set) → None ≡ evicted_in ways (shown_set set) → MakesRoom ways set set None
nothing_leaves ways set none = record { evicted = none; left = refl; there = λ line is. absurd cc; room = refl }

pub room_fewer : (ways : ℕ) (set : Set) → length set.lines.items < ways → MakesRoom ways set set None
room_fewer ways set fewer =
    nothing_leaves ways set
    (sym (evicted_in-none ways (shown_set set) (omega (arith, fewer, length-map set.lines.items shown_line))))

full_set : (ways : ℕ) (set : Set) → ways ≤ length set.lines.items →
    evicted_in ways (shown_set set) ≡ victim_in (shown_set set)
full_set ways set full = let size = length-map set.lines.items shown_line in grind (arith, nat_tests, size, full)

pub room_none : (ways : ℕ) (set : Set) → ways ≤ length set.lines.items → victim_in (shown_set set) ≡ None →
    MakesRoom ways set set None
room_none ways set full none = nothing_leaves ways set (sym (full_set ways set full ∙ none))

-- the victim leaves a full set
pub room_made : (ways : ℕ) (old new : Set) (place : ℕ) (victim : code.Line) →
    ((l : ℕ) → count_of number_of old.lines.items l ≤ 1)
    → ways ≤ length old.lines.items → place < length old.lines.items → victim ≡ get_or old.lines.items place victim
    → victim_in (shown_set old) ≡ Some (shown_line (get_or old.lines.items place victim)) →
    new.lines.items ≡ remove old.lines.items place
    → HasRoom old new → MakesRoom ways old new (Some victim)
room_made ways old new place victim once full within read chosen gone room =
    let items = old.lines.items in
    let its : number_of (get_or items place victim) ≡ number_of victim = ap number_of (sym read) in
    record {
      evicted = ap (λ l. Some (shown_line l)) read ∙ sym (full_set ways old full ∙ chosen);
      left = gone ∙ remove-without number_of items (number_of victim) place victim (once (number_of victim)) within its;
      there = λ line is.
          subst (λ (l : code.Line). found number_of items (number_of l) ≡ Some l) (same_Some victim line is)
          (found_at number_of items (number_of victim) place victim (once (number_of victim)) within its
          ∙ ap Some (sym read));
      room = room;
    }

-- a list of which the last element came to the front
drop_all : {X : Type 0} (xs ys : List X) → drop (length xs) (xs ++ ys) ≡ ys
drop_all [] ys = refl
drop_all (x ∷ xs) ys = drop_all xs ys

take_all : {X : Type 0} (xs ys : List X) → take (length xs) (xs ++ ys) ≡ xs
take_all [] ys = refl
take_all (x ∷ xs) ys = ap (λ zs. x ∷ zs) (take_all xs ys)

pub turned : {X : Type 0} (xs : List X) (x : X) (n : ℕ) (old new : List X) → old ≡ xs ++ x ∷ [] → n ≡ length xs →
    new ≡ drop n old ++ take n old
    → new ≡ x ∷ xs
turned xs x n old new pushed size is =
    is ∙ ap (λ k. drop k old ++ take k old) size ∙ ap (λ ys. drop (length xs) ys ++ take (length xs) ys) pushed
    ∙ ap (λ front. front ++ take (length xs) (xs ++ x ∷ [])) (drop_all xs (x ∷ []))
    ∙ ap (λ rest. x ∷ rest) (take_all xs (x ∷ []))
