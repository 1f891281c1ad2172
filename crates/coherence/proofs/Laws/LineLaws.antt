-- what becomes of one line keeps its copies and main memory telling one thing
use Rattle.std.proofs.Common.{◌≡◌, ◌≢◌, ◌∙◌, ℕ, Bool, true, false, List, Option, None, Some, option_map, refl, ap, sym}
use Rattle.std.proofs.Common.{inl, inr, if◌then◌else◌}
use Rattle.std.proofs.lemmas.Bool.{cases_eq}
use Rattle.std.proofs.lemmas.Option.{same_Some}
use Rattle.cache_sets.specs.Cached.{Copy, copy_with_letter}
use Rattle.coherence.specs.Line.{Coherent, InCopy, InMemory, IsClean, IsFound}
use Rattle.moesi.specs.Letters.{filled_of, is_dirty, may_write, on_read_of}
use Rattle.moesi.specs.declared.letter.Letter.{Letter}
use Rattle.moesi.specs.declared.letter.Letter.TheVariants.{M, O, E, S, I}
use Rattle.el_base.specs.declared.outcomes.Need.TheVariants.{Read}
use Rattle.el_base.proofs.Laws.Cases.{none_some, not_both}

-- the bytes that are found are those of the line
pub found_bytes : (bytes : List ℕ) (copies : ℕ → Option Copy) (behind found : List ℕ) → Coherent bytes copies behind →
    IsFound copies behind found → found ≡ bytes
found_bytes bytes copies behind found coherent (InCopy h copy there is) = sym is ∙ coherent.same h copy there
found_bytes bytes copies behind found coherent (InMemory clean is) = sym is ∙ coherent.memory clean

-- a write was served: the hart has the only copy
pub write_served : (bytes : List ℕ) (behind : List ℕ) (h : ℕ) (new : ℕ → Option Copy) (own : Copy) →
    new h ≡ Some own → own.letter ≡ M → own.bytes ≡ bytes → ((g : ℕ) → g ≢ h → new g ≡ None) → Coherent bytes new behind
write_served bytes behind h new own here letter has others = record {
  same = λ g copy there. ap (λ c. c.bytes) (same_Some copy own (sym there ∙ (ap new (only g copy there) ∙ here))) ∙ has;
  alone = λ f g one other first second may. only f one first ∙ sym (only g other second);
  owner = λ f g one other first second dirty dirty'. only f one first ∙ sym (only g other second);
  memory = λ clean. not_both (ap is_dirty letter) (clean h own here);
}
  where
    only : (g : ℕ) (copy : Copy) → new g ≡ Some copy → g ≡ h
    only g copy there =
        elim (cases_eq g h) [ inl same ↦ same | inr other ↦ none_some (sym (others g other) ∙ there) ]

-- a read was served to a hart that had no copy
pub record IsRead (h : ℕ) (bytes : List ℕ) (shared : Bool) (old new : ℕ → Option Copy) : Type 0 where
  pub absent : old h ≡ None
  pub here : new h ≡ Some (record { letter = filled_of Read shared; bytes = bytes })
  pub others : (g : ℕ) → g ≢ h → new g ≡ option_map (λ copy. copy_with_letter (on_read_of copy.letter) copy) (old g)
  pub unshared : shared ≡ false → (g : ℕ) → old g ≡ None

abbrev pub as_read : Copy → Copy
as_read copy = copy_with_letter (on_read_of copy.letter) copy

-- a copy after a read was served: the hart's own, or one that was there
data AfterRead (h : ℕ) (bytes : List ℕ) (shared : Bool) (old : ℕ → Option Copy) (g : ℕ) (copy : Copy) : Type 0 where
  Own : g ≡ h → copy ≡ record { letter = filled_of Read shared; bytes = bytes } → AfterRead h bytes shared old g copy
  Other : g ≢ h → (before : Copy) → old g ≡ Some before → copy ≡ as_read before → AfterRead h bytes shared old g copy

after_read : (h : ℕ) (bytes : List ℕ) (shared : Bool) (old new : ℕ → Option Copy) → IsRead h bytes shared old new →
    (g : ℕ) (copy : Copy) → new g ≡ Some copy → AfterRead h bytes shared old g copy
after_read h bytes shared old new read g copy there =
    elim (cases_eq g h) [
      | inl same ↦ Own same (same_Some copy _ (sym there ∙ (ap new same ∙ read.here)))
      | inr other ↦ was (old g) refl other (sym (read.others g other) ∙ there)
    ]
  where
    was : (before : Option Copy) → old g ≡ before → g ≢ h → option_map as_read before ≡ Some copy →
        AfterRead h bytes shared old g copy
    was None is other same = none_some same
    was (Some before) is other same = Other other before is (same_Some copy (as_read before) (sym same))

-- a letter that a read has met may not be written, and main memory is behind it as before
read_only : (letter : Letter) → may_write (on_read_of letter) ≡ true → ⊥
read_only M may = absurd (cc)
read_only O may = absurd (cc)
read_only E may = absurd (cc)
read_only S may = absurd (cc)
read_only I may = absurd (cc)

still_dirty : (letter : Letter) → is_dirty (on_read_of letter) ≡ is_dirty letter
still_dirty M = refl
still_dirty O = refl
still_dirty E = refl
still_dirty S = refl
still_dirty I = refl

filled_clean : (shared : Bool) → is_dirty (filled_of Read shared) ≡ false
filled_clean true = refl
filled_clean false = refl

written_unshared : (shared : Bool) → may_write (filled_of Read shared) ≡ true → shared ≡ false
written_unshared true may = absurd (cc)
written_unshared false may = refl

read_same : (bytes : List ℕ) (behind : List ℕ) (h : ℕ) (shared : Bool) (old : ℕ → Option Copy) →
    Coherent bytes old behind → (g : ℕ) (copy : Copy) → AfterRead h bytes shared old g copy → copy.bytes ≡ bytes
read_same bytes behind h shared old coherent g copy (Own same is) = ap (λ c. c.bytes) is
read_same bytes behind h shared old coherent g copy (Other other before there is) =
    ap (λ c. c.bytes) is ∙ coherent.same g before there

read_alone : (bytes : List ℕ) (h : ℕ) (shared : Bool) (old new : ℕ → Option Copy) → IsRead h bytes shared old new →
    (f g : ℕ) (one other : Copy) → AfterRead h bytes shared old f one → AfterRead h bytes shared old g other →
    may_write one.letter ≡ true → f ≡ g
read_alone bytes h shared old new read f g one other (Own same is) (Own same' is') may = same ∙ sym same'
read_alone bytes h shared old new read f g one other (Own same is) (Other apart before there is') may =
    none_some (sym (read.unshared (written_unshared shared (sym (ap (λ c. may_write c.letter) is) ∙ may)) g) ∙ there)
read_alone bytes h shared old new read f g one other (Other apart before there is) second may =
    absurd (read_only before.letter (sym (ap (λ c. may_write c.letter) is) ∙ may))

read_owner : (bytes : List ℕ) (behind : List ℕ) (h : ℕ) (shared : Bool) (old : ℕ → Option Copy) →
    Coherent bytes old behind → (f g : ℕ) (one other : Copy) → AfterRead h bytes shared old f one →
    AfterRead h bytes shared old g other → is_dirty one.letter ≡ true → is_dirty other.letter ≡ true → f ≡ g
read_owner bytes behind h shared old coherent f g one other (Own same is) second dirty dirty' =
    not_both dirty (ap (λ c. is_dirty c.letter) is ∙ filled_clean shared)
read_owner bytes behind h shared old coherent f g one other (Other apart before there is) (Own same is') dirty dirty' =
    not_both dirty' (ap (λ c. is_dirty c.letter) is' ∙ filled_clean shared)
read_owner bytes behind h shared old coherent f g one other (Other apart before there is)
    (Other apart' before' there' is') dirty dirty' =
    coherent.owner f g before before' there there' (was_dirty one before is dirty) (was_dirty other before' is' dirty')
  where
    was_dirty : (copy before : Copy) → copy ≡ as_read before → is_dirty copy.letter ≡ true →
        is_dirty before.letter ≡ true
    was_dirty copy before same dirty =
        sym (still_dirty before.letter) ∙ (sym (ap (λ c. is_dirty c.letter) same) ∙ dirty)

clean_before_read : (h : ℕ) (bytes : List ℕ) (shared : Bool) (old new : ℕ → Option Copy) →
    IsRead h bytes shared old new → IsClean new → IsClean old
clean_before_read h bytes shared old new read clean g copy there =
    elim (cases_eq g h) [
      | inl same ↦ none_some (sym read.absent ∙ (sym (ap old same) ∙ there))
      | inr other ↦
          sym (still_dirty copy.letter) ∙ clean g (as_read copy)
          (read.others g other ∙ ap (λ before. option_map as_read before) there)
    ]

pub read_served : (bytes : List ℕ) (behind : List ℕ) (h : ℕ) (shared : Bool) (old new : ℕ → Option Copy) →
    Coherent bytes old behind → IsRead h bytes shared old new → Coherent bytes new behind
read_served bytes behind h shared old new coherent read = record {
  same =
      λ g copy there. read_same bytes behind h shared old coherent g copy
      (after_read h bytes shared old new read g copy there);
  alone = λ f g one other first second.
      read_alone bytes h shared old new read f g one other (after_read h bytes shared old new read f one first)
      (after_read h bytes shared old new read g other second);
  owner = λ f g one other first second.
      read_owner bytes behind h shared old coherent f g one other (after_read h bytes shared old new read f one first)
      (after_read h bytes shared old new read g other second);
  memory = λ clean. coherent.memory (clean_before_read h bytes shared old new read clean);
}

-- a copy left a cache: main memory has its bytes where it was behind
pub record HasLeft (h : ℕ) (left : Copy) (old new : ℕ → Option Copy) (behind after : List ℕ) : Type 0 where
  pub there : old h ≡ Some left
  pub gone : new h ≡ None
  pub others : (g : ℕ) → g ≢ h → new g ≡ old g
  pub written : after ≡ (if is_dirty left.letter then left.bytes else behind)

was_there : (h : ℕ) (left : Copy) (old new : ℕ → Option Copy) (behind after : List ℕ) →
    HasLeft h left old new behind after → (g : ℕ) (copy : Copy) → new g ≡ Some copy → (g ≢ h) × (old g ≡ Some copy)
was_there h left old new behind after has_left g copy there =
    elim (cases_eq g h) [
      | inl same ↦ none_some (sym has_left.gone ∙ (sym (ap new same) ∙ there))
      | inr other ↦ (other, sym (has_left.others g other) ∙ there)
    ]

written_back : (bytes behind after : List ℕ) (h : ℕ) (left : Copy) (old new : ℕ → Option Copy) →
    Coherent bytes old behind → HasLeft h left old new behind after → IsClean new → (dirty : Bool) →
    is_dirty left.letter ≡ dirty → (if dirty then left.bytes else behind) ≡ bytes
written_back bytes behind after h left old new coherent has_left clean true dirty = coherent.same h left has_left.there
written_back bytes behind after h left old new coherent has_left clean false dirty =
    coherent.memory
    (λ g copy there.
    elim (cases_eq g h) [
      | inl same ↦
          ap (λ c. is_dirty c.letter) (same_Some copy left (sym there ∙ (ap old same ∙ has_left.there))) ∙ dirty
      | inr other ↦ clean g copy (has_left.others g other ∙ there)
    ])

pub left_cache : (bytes behind after : List ℕ) (h : ℕ) (left : Copy) (old new : ℕ → Option Copy) →
    Coherent bytes old behind → HasLeft h left old new behind after → Coherent bytes new after
left_cache bytes behind after h left old new coherent has_left =
    let was = was_there h left old new behind after has_left in
    record {
      same = λ g copy there. coherent.same g copy (was g copy there).1;
      alone = λ f g one other first second. coherent.alone f g one other (was f one first).1 (was g other second).1;
      owner = λ f g one other first second. coherent.owner f g one other (was f one first).1 (was g other second).1;
      memory =
          λ clean. has_left.written ∙ written_back bytes behind after h left old new coherent has_left clean
          (is_dirty left.letter) refl;
    }

-- a hart put new bytes into a copy that it may write, which is modified then
pub record IsStored (h : ℕ) (bytes : List ℕ) (old new : ℕ → Option Copy) : Type 0 where
  pub before : Copy
  pub there : old h ≡ Some before
  pub may : may_write before.letter ≡ true
  pub here : new h ≡ Some (record { letter = M; bytes = bytes })
  pub others : (g : ℕ) → g ≢ h → new g ≡ old g

pub stored : (bytes behind put : List ℕ) (h : ℕ) (old new : ℕ → Option Copy) → Coherent bytes old behind →
    IsStored h put old new → Coherent put new behind
stored bytes behind put h old new coherent store =
    write_served put behind h new (record { letter = M; bytes = put }) store.here refl refl
    (λ g other. store.others g other ∙ nothing g other (old g) refl)
  where
    nothing : (g : ℕ) → g ≢ h → (copy : Option Copy) → old g ≡ copy → copy ≡ None
    nothing g other None is = refl
    nothing g other (Some copy) is =
        absurd (other (sym (coherent.alone h g store.before copy store.there is store.may)))

-- copies and main memory that are as they were tell what they told
pub same_line : (bytes : List ℕ) (old new : ℕ → Option Copy) (behind after : List ℕ) → Coherent bytes old behind →
    ((g : ℕ) → new g ≡ old g) → after ≡ behind → Coherent bytes new after
same_line bytes old new behind after coherent same still = record {
  same = λ g copy there. coherent.same g copy (sym (same g) ∙ there);
  alone = λ f g one other first second. coherent.alone f g one other (sym (same f) ∙ first) (sym (same g) ∙ second);
  owner = λ f g one other first second. coherent.owner f g one other (sym (same f) ∙ first) (sym (same g) ∙ second);
  memory = λ clean. still ∙ coherent.memory (λ g copy there. clean g copy (same g ∙ there));
}
