-- what a served request does to the copies of its line, and to the other lines
use Rattle.std.proofs.Common.{◌≡◌, ◌≢◌, ◌∙◌, ℕ, Bool, true, false, List, [], ◌∷◌, Option, None, Some, option_map, refl}
use Rattle.std.proofs.Common.{ap, sym, subst, inl, inr, ◌⊎◌, arith}
use Rattle.residency.specs.Cache.{filled_with, is_resident, letter_in, letter_of, lettered, way_of}
use Rattle.residency.specs.Residency.{Way, with_letter}
use Rattle.residency.proofs.Laws.CacheLemmas.{way_of-filled_with_same, way_of-lettered_other, way_of-lettered_same}
use Rattle.residency.proofs.Laws.CacheLemmas.{way_of-without_line_same}
use Rattle.el_base.specs.declared.outcomes.Need.{Need}
use Rattle.el_base.specs.declared.outcomes.Need.TheVariants.{Read, Write}
use Rattle.el_base.proofs.Laws.Cases.{clash}
use Rattle.el_base.proofs.Laws.Options.{none_from}
use Rattle.el_model.specs.Serve.{kept_letter, others_cache, own_copy}
use Rattle.el_model.proofs.Laws.Tests.{by_test}
use Rattle.moesi.specs.Letters.{filled_of, may_write, on_read_of}
use Rattle.moesi.specs.declared.letter.Letter.{Letter}
use Rattle.moesi.specs.declared.letter.Letter.TheVariants.{M, O, E, S, I}
use Rattle.section_laws.specs.Coherence.{IsOwned, MayBeTogether}
use Rattle.section_laws.proofs.Laws.FreeLines.{NotWritten}
use Rattle.section_laws.proofs.Steady.{IsSteady, Steady, SteadyWay, same_way, steady_filled, steady_lettered}
use Rattle.section_laws.proofs.Steady.{steady_without_line, together_kept}

on_read_shared : (letter : Letter) → may_write (on_read_of letter) ≡ false
on_read_shared M = refl
on_read_shared O = refl
on_read_shared E = refl
on_read_shared S = refl
on_read_shared I = refl

on_read_owner : (letter : Letter) → on_read_of letter ≡ O → (letter ≡ O) ⊎ (may_write letter ≡ true)
on_read_owner M is = inr refl
on_read_owner O is = inl refl
on_read_owner E is = absurd (cc)
on_read_owner S is = absurd (cc)
on_read_owner I is = absurd (cc)

read_steady : (way : Way) (letter : Letter) → letter ≡ way.letter → way.write ≡ false →
    Steady way (with_letter (on_read_of letter) way)
read_steady way letter is unwritten = record {
  write = λ may. clash (on_read_shared letter) may;
  owner = λ owns. on_read_owner way.letter (ap on_read_of (sym is) ∙ owns);
  owned = λ was wrote. clash unwritten wrote;
}

unwritten_some : (way : Option Way) (w : Way) → way ≡ Some w → NotWritten way → w.write ≡ false
unwritten_some None w is none = absurd (cc)
unwritten_some (Some way) w is none = let same : way ≡ w = cc in sym (ap (λ x. x.write) same) ∙ none

-- another hart's copies
pub steady_others : (had : Bool) (need : Need) (cache : List (List Way)) (line : ℕ) →
    (need ≡ Read → NotWritten (way_of cache line)) → IsSteady cache (others_cache had need cache line)
steady_others had Write cache line unwritten l = steady_without_line cache line l
steady_others true Read cache line unwritten l = same_way (way_of cache l)
steady_others false Read cache line unwritten l =
    steady_lettered cache line (on_read_of (letter_of cache line))
    (λ w is. read_steady w (letter_of cache line) (ap letter_in is)
    (unwritten_some (way_of cache line) w is (unwritten refl))) l

-- the served hart's other lines
pub steady_own : (ways : ℕ) (others : Bool) (need : Need) (cache : List (List Way)) (line l : ℕ) → l ≢ line →
    SteadyWay (way_of cache l) (way_of (own_copy ways others need cache line) l)
steady_own ways others need cache line l other =
    by_test (λ new. SteadyWay (way_of cache l) (way_of new l)) (is_resident cache line)
    (lettered cache line (kept_letter need (letter_of cache line)))
    (filled_with ways cache line (filled_of need others))
    (λ had. rw (way_of-lettered_other cache line l (kept_letter need (letter_of cache line)) other)
    (same_way (way_of cache l)))
    (λ new. steady_filled ways cache line l (filled_of need others) other)

-- its line: it came with this letter and no bit, or not at all, where it was not there
abbrev pub IsNew : Letter → Option Way → Type 0
IsNew letter None = Unit {0}
IsNew letter (Some way) = (way.letter ≡ letter) × (way.write ≡ false)

filled_is_new : (ways : ℕ) (cache : List (List Way)) (line : ℕ) (letter : Letter) →
    IsNew letter (way_of (filled_with ways cache line letter) line)
filled_is_new ways [] line letter = tt
filled_is_new ways (first ∷ sets) line letter =
    rw (way_of-filled_with_same ways (first ∷ sets) line letter (omega arith)) (refl, refl)

lettered_same : (way : Option Way) → SteadyWay way (option_map (with_letter (letter_in way)) way)
lettered_same None = tt
lettered_same (Some way) = record { write = λ may. may; owner = λ is. inl is; owned = λ was. was }

-- and otherwise it keeps its letter, for a read
read_copy : (ways : ℕ) (others : Bool) (cache : List (List Way)) (line : ℕ) → (had : Bool) →
    is_resident cache line ≡ had →
    (had ≡ true → SteadyWay (way_of cache line) (way_of (own_copy ways others Read cache line) line))
    × (had ≡ false → IsNew (filled_of Read others) (way_of (own_copy ways others Read cache line) line))
read_copy ways others cache line true is = (
  (λ had. rw is (rw (way_of-lettered_same cache line (letter_of cache line)) (lettered_same (way_of cache line)))),
  (λ new. absurd (cc)),
)
read_copy ways others cache line false is =
    ((λ had. absurd (cc)), (λ new. rw is (filled_is_new ways cache line (filled_of Read others))))

-- a written copy is M
abbrev pub IsModified : Option Way → Type 0
IsModified None = Unit {0}
IsModified (Some way) = way.letter ≡ M

modified_map : (way : Option Way) → IsModified (option_map (with_letter M) way)
modified_map None = tt
modified_map (Some way) = refl

modified_new : (way : Option Way) → IsNew M way → IsModified way
modified_new None new = tt
modified_new (Some way) (letter, write) = letter

pub write_copy : (ways : ℕ) (others : Bool) (cache : List (List Way)) (line : ℕ) →
    IsModified (way_of (own_copy ways others Write cache line) line)
write_copy ways others cache line =
    by_test (λ new. IsModified (way_of new line)) (is_resident cache line) (lettered cache line M)
    (filled_with ways cache line M)
    (λ had. rw (way_of-lettered_same cache line M) (modified_map (way_of cache line)))
    (λ new. modified_new _ (filled_is_new ways cache line M))

-- the copy of the served hart is owned, and may be together with each other hart's
modified_owned : (way : Option Way) → IsModified way → IsOwned way
modified_owned None is = tt
modified_owned (Some way) is = λ wrote. ap may_write is

new_owned : (letter : Letter) (way : Option Way) → IsNew letter way → IsOwned way
new_owned letter None new = tt
new_owned letter (Some way) (is, write) = λ wrote. clash write wrote

pub steady_owned : (old new : Option Way) → SteadyWay old new → IsOwned old → IsOwned new
steady_owned old None steady owned = tt
steady_owned None (Some new) steady owned = elim steady [ ]
steady_owned (Some old) (Some new) steady owned = steady.owned owned

pub own_owned : (ways : ℕ) (others : Bool) (need : Need) (cache : List (List Way)) (line : ℕ) →
    IsOwned (way_of cache line) → IsOwned (way_of (own_copy ways others need cache line) line)
own_owned ways others Write cache line owned = modified_owned _ (write_copy ways others cache line)
own_owned ways others Read cache line owned = by (is_resident cache line) refl
  where
    by : (had : Bool) → is_resident cache line ≡ had → IsOwned (way_of (own_copy ways others Read cache line) line)
    by true is = steady_owned (way_of cache line) _ ((read_copy ways others cache line true is).0 refl) owned
    by false is = new_owned _ _ ((read_copy ways others cache line false is).1 refl)

pub together_none : (way : Option Way) → MayBeTogether way None
together_none None = tt
together_none (Some way) = tt

shared_fill : (own other : Option Way) (letter : Letter) → IsNew S own →
    MayBeTogether own (option_map (with_letter (on_read_of letter)) other)
shared_fill None other letter new = tt
shared_fill (Some own) None letter new = tt
shared_fill (Some own) (Some other) letter (is, write) = record {
  one_shared = ap may_write is;
  other_shared = on_read_shared letter;
  one_owner = λ owns other_owns. never (sym is ∙ owns);
}
  where
    never : S ≡ O → ⊥
    never same = absurd (cc)

pub own_together : (ways : ℕ) (others : Bool) (need : Need) (cache other : List (List Way)) (line : ℕ) →
    (others ≡ false → is_resident other line ≡ false) → MayBeTogether (way_of cache line) (way_of other line) →
    MayBeTogether (way_of (own_copy ways others need cache line) line)
    (way_of (others_cache (is_resident cache line) need other line) line)
own_together ways others Write cache other line absent now =
    rw (way_of-without_line_same other line) (together_none (way_of (own_copy ways others Write cache line) line))
own_together ways others Read cache other line absent now = by (is_resident cache line) refl others refl
  where
    by : (had : Bool) → is_resident cache line ≡ had → (some_other : Bool) → others ≡ some_other →
        MayBeTogether (way_of (own_copy ways others Read cache line) line)
        (way_of (others_cache had Read other line) line)
    by true is some_other which =
        together_kept (way_of cache line) (way_of other line) (way_of (own_copy ways others Read cache line) line)
        (way_of other line)
        ((read_copy ways others cache line true is).0 refl) (same_way (way_of other line)) now
    by false is true which =
        let new = (read_copy ways others cache line false is).1 refl in
        rw (way_of-lettered_same other line (on_read_of (letter_of other line)))
        (shared_fill (way_of (own_copy ways others Read cache line) line) (way_of other line) (letter_of other line)
        (subst (λ letter. IsNew letter (way_of (own_copy ways others Read cache line) line))
        (ap (filled_of Read) which) new))
    by false is false which =
        let none = none_from (way_of other line) (absent which) in
        rw (way_of-lettered_same other line (on_read_of (letter_of other line)))
        (rw none (together_none (way_of (own_copy ways others Read cache line) line)))
