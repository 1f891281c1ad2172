-- what a change of a cache may do to its ways without harm to other caches
use Rattle.std.proofs.Common.{◌≡◌, ◌≢◌, ◌∙◌, ◌<◌, ℕ, Bool, true, false, List, [], ◌∷◌, length, Option, None, Some}
use Rattle.std.proofs.Common.{option_map, refl, ap, sym, inl}
use Rattle.std.proofs.Common.{inr, ◌⊎◌, arith}
use Rattle.std.proofs.lemmas.Bool.{cases_eq, false_from_ne_true}
use Rattle.std.proofs.lemmas.Option.{same_Some}
use Rattle.residency.specs.Cache.{cleared, committed, committed_way, evicted_by, filled_with, lettered, marked}
use Rattle.residency.specs.Cache.{set_number, set_of, touched, way_of}
use Rattle.residency.specs.Cache.{without_line}
use Rattle.residency.specs.Residency.{Way, filled_in, way_in, with_bit, with_letter, without_bits}
use Rattle.residency.proofs.Laws.CacheLemmas.{set_of-with_set_other, way_of-cleared, way_of-committed}
use Rattle.residency.proofs.Laws.CacheLemmas.{way_of-filled_with_evicted}
use Rattle.residency.proofs.Laws.CacheLemmas.{way_of-filled_with_other, way_of-lettered_other, way_of-lettered_same}
use Rattle.residency.proofs.Laws.CacheLemmas.{way_of-marked_other}
use Rattle.residency.proofs.Laws.CacheLemmas.{way_of-marked_same, way_of-touched, way_of-without_line_other}
use Rattle.residency.proofs.Laws.CacheLemmas.{way_of-without_line_same}
use Rattle.el_base.specs.declared.outcomes.Need.{Need}
use Rattle.el_base.proofs.Laws.Cases.{clash, none_some}
use Rattle.moesi.specs.Letters.{may_write}
use Rattle.moesi.specs.declared.letter.Letter.{Letter}
use Rattle.moesi.specs.declared.letter.Letter.TheVariants.{O}
use Rattle.section_laws.specs.Coherence.{AreOwned, IsOwned, MayBeTogether}

-- a copy gets no leave to write, is an owner only where it was one or might be written, and stays owned
pub record Steady (old new : Way) : Type 0 where
  pub write : may_write new.letter ≡ true → may_write old.letter ≡ true
  pub owner : new.letter ≡ O → (old.letter ≡ O) ⊎ (may_write old.letter ≡ true)
  pub owned : (old.write ≡ true → may_write old.letter ≡ true) → new.write ≡ true → may_write new.letter ≡ true

-- no copy comes
abbrev pub SteadyWay : Option Way → Option Way → Type 0
SteadyWay old None = Unit {0}
SteadyWay None (Some new) = ⊥
SteadyWay (Some old) (Some new) = Steady old new

abbrev pub IsSteady : List (List Way) → List (List Way) → Type 0
IsSteady old new = (line : ℕ) → SteadyWay (way_of old line) (way_of new line)

pub same_way : (way : Option Way) → SteadyWay way way
same_way None = tt
same_way (Some way) = record { write = λ may. may; owner = λ is. inl is; owned = λ was. was }

steady_twice : (one two three : Way) → Steady one two → Steady two three → Steady one three
steady_twice one two three first second = record {
  write = λ may. first.write (second.write may);
  owner = λ is. from (second.owner is);
  owned = λ was. second.owned (first.owned was);
}
  where
    from : (two.letter ≡ O) ⊎ (may_write two.letter ≡ true) → (one.letter ≡ O) ⊎ (may_write one.letter ≡ true)
    from (inl is) = first.owner is
    from (inr may) = inr (first.write may)

pub way_twice : (one two three : Option Way) → SteadyWay one two → SteadyWay two three → SteadyWay one three
way_twice one two None first second = tt
way_twice one None (Some three) first second = elim second [ ]
way_twice None (Some two) (Some three) first second = elim first [ ]
way_twice (Some one) (Some two) (Some three) first second = steady_twice one two three first second

pub changed_way : (change : Way → Way) (way : Option Way) → ((w : Way) → way ≡ Some w → Steady w (change w)) →
    SteadyWay way (option_map change way)
changed_way change None steady = tt
changed_way change (Some way) steady = steady way refl

-- what each word of a cache does
pub steady_touched : (cache : List (List Way)) (line : ℕ) → IsSteady cache (touched cache line)
steady_touched cache line l = rw (way_of-touched cache line l) (same_way (way_of cache l))

pub steady_lettered : (cache : List (List Way)) (line : ℕ) (letter : Letter) →
    ((w : Way) → way_of cache line ≡ Some w → Steady w (with_letter letter w)) →
    IsSteady cache (lettered cache line letter)
steady_lettered cache line letter steady l = at (cases_eq l line)
  where
    at : (l ≡ line) ⊎ (l ≡ line → ⊥) → SteadyWay (way_of cache l) (way_of (lettered cache line letter) l)
    at (inl same) =
        rw same
        (rw (way_of-lettered_same cache line letter) (changed_way (with_letter letter) (way_of cache line) steady))
    at (inr other) = rw (way_of-lettered_other cache line l letter other) (same_way (way_of cache l))

pub steady_marked : (cache : List (List Way)) (line : ℕ) (need : Need) →
    ((w : Way) → way_of cache line ≡ Some w → Steady w (with_bit need w)) → IsSteady cache (marked cache line need)
steady_marked cache line need steady l = at (cases_eq l line)
  where
    at : (l ≡ line) ⊎ (l ≡ line → ⊥) → SteadyWay (way_of cache l) (way_of (marked cache line need) l)
    at (inl same) =
        rw same (rw (way_of-marked_same cache line need) (changed_way (with_bit need) (way_of cache line) steady))
    at (inr other) = rw (way_of-marked_other cache line l need other) (same_way (way_of cache l))

pub steady_cleared : (cache : List (List Way)) → IsSteady cache (cleared cache)
steady_cleared cache l =
    rw (way_of-cleared cache l)
    (changed_way without_bits (way_of cache l)
    (λ w is. record { write = λ may. may; owner = λ is. inl is; owned = λ was wrote. absurd (cc) }))

committed_steady : (way : Way) (wrote : Bool) → way.write ≡ wrote → (way.write ≡ true → may_write way.letter ≡ true) →
    Steady way (committed_way way)
committed_steady way true is owned =
    rw is (record { write = λ may. owned is; owner = λ wrong. absurd (cc); owned = λ was wrote. refl })
committed_steady way false is owned =
    rw is (record { write = λ may. may; owner = λ is. inl is; owned = λ was wrote. absurd (cc) })

pub steady_committed : (cache : List (List Way)) → AreOwned cache → IsSteady cache (committed cache)
steady_committed cache owned l = rw (way_of-committed cache l) (by_way (way_of cache l) (owned l))
  where
    by_way : (way : Option Way) → IsOwned way → SteadyWay way (option_map committed_way way)
    by_way None owned = tt
    by_way (Some way) owned = committed_steady way way.write refl owned

pub steady_without_line : (cache : List (List Way)) (line : ℕ) → IsSteady cache (without_line cache line)
steady_without_line cache line l = at (cases_eq l line)
  where
    at : (l ≡ line) ⊎ (l ≡ line → ⊥) → SteadyWay (way_of cache l) (way_of (without_line cache line) l)
    at (inl same) = rw same (rw (way_of-without_line_same cache line) tt)
    at (inr other) = rw (way_of-without_line_other cache line l other) (same_way (way_of cache l))

-- what a fill does to the other lines: a way stays as it is, or leaves
abbrev pub StaysOrLeaves : Option Way → Option Way → Type 0
StaysOrLeaves old new = (new ≡ old) ⊎ (new ≡ None)

filled_by : (ways : ℕ) (cache : List (List Way)) (line l : ℕ) (letter : Letter) → 0 < length cache → l ≢ line →
    (gone : Option Way) → evicted_by ways cache line ≡ gone →
    StaysOrLeaves (way_of cache l) (way_of (filled_with ways cache line letter) l)
filled_by ways cache line l letter some other None none =
    inl (way_of-filled_with_other ways cache line l letter other (λ gone is. none_some (sym none ∙ is)))
filled_by ways cache line l letter some other (Some gone) is = by_line (cases_eq l gone.line)
  where
    by_set : l ≡ gone.line → (set_number cache l ≡ set_number cache line)
        ⊎ (set_number cache l ≡ set_number cache line → ⊥) →
        StaysOrLeaves (way_of cache l) (way_of (filled_with ways cache line letter) l)
    by_set same (inl home) =
        let left =
        way_of-filled_with_evicted ways cache line letter gone some is (λ own. other (same ∙ own))
        (ap (set_number cache) (sym same) ∙ home) in
        inr (ap (way_of (filled_with ways cache line letter)) same ∙ left)
    by_set same (inr away) =
        let way : Way = record { line = line; letter = letter; read = false; write = false } in
        inl (ap (λ set. way_in set l)
        (set_of-with_set_other cache line l (filled_in ways (set_of cache line) way) away))

    by_line : (l ≡ gone.line) ⊎ (l ≡ gone.line → ⊥) →
        StaysOrLeaves (way_of cache l) (way_of (filled_with ways cache line letter) l)
    by_line (inl same) = by_set same (cases_eq (set_number cache l) (set_number cache line))
    by_line (inr apart) =
        inl (way_of-filled_with_other ways cache line l letter other
        (λ found here same. apart (same ∙ ap (λ way. way.line) (same_Some found gone (sym here ∙ is)))))

pub other_filled : (ways : ℕ) (cache : List (List Way)) (line l : ℕ) (letter : Letter) → l ≢ line →
    StaysOrLeaves (way_of cache l) (way_of (filled_with ways cache line letter) l)
other_filled ways [] line l letter other = inl refl
other_filled ways (first ∷ sets) line l letter other =
    filled_by ways (first ∷ sets) line l letter (omega arith) other (evicted_by ways (first ∷ sets) line) refl

pub steady_filled : (ways : ℕ) (cache : List (List Way)) (line l : ℕ) (letter : Letter) → l ≢ line →
    SteadyWay (way_of cache l) (way_of (filled_with ways cache line letter) l)
steady_filled ways cache line l letter other = by (other_filled ways cache line l letter other)
  where
    by : StaysOrLeaves (way_of cache l) (way_of (filled_with ways cache line letter) l) →
        SteadyWay (way_of cache l) (way_of (filled_with ways cache line letter) l)
    by (inl same) = rw same (same_way (way_of cache l))
    by (inr left) = rw left tt

-- two copies that may be together still may
pub together_kept : (a b : Option Way) (c d : Option Way) → SteadyWay a c → SteadyWay b d → MayBeTogether a b →
    MayBeTogether c d
together_kept a b None d first second now = tt
together_kept a b (Some c) None first second now = tt
together_kept None b (Some c) (Some d) first second now = elim first [ ]
together_kept (Some a) None (Some c) (Some d) first second now = elim second [ ]
together_kept (Some a) (Some b) (Some c) (Some d) first second now = record {
  one_shared = false_from_ne_true (may_write c.letter) (λ may. clash now.one_shared (first.write may));
  other_shared = false_from_ne_true (may_write d.letter) (λ may. clash now.other_shared (second.write may));
  one_owner = λ c_owns d_owns. owners (first.owner c_owns) (second.owner d_owns);
}
  where
    owners : (a.letter ≡ O) ⊎ (may_write a.letter ≡ true) → (b.letter ≡ O) ⊎ (may_write b.letter ≡ true) → ⊥
    owners (inl a_owns) (inl b_owns) = now.one_owner a_owns b_owns
    owners (inr may) other = clash now.one_shared may
    owners (inl a_owns) (inr may) = clash now.other_shared may
