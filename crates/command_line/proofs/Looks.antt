-- how `clap` reads a word, by its look
use Rattle.std.proofs.Common.{◌≡◌, ℕ, Bool, true, false, List, [], ◌∷◌, None, Some, refl, sym, subst, arith, bytes_eq}
use Rattle.std.proofs.Common.{eqb}
use Rattle.std.specs.Char.{encode_utf8}
use Rattle.std.specs.Prelude.{slice_get}
use Rattle.std.specs.Str.{IsUtf8, chars}
use Rattle.std.proofs.lemmas.Bool.Decides.{Decides-eqb, nat_tests}
use Rattle.std.proofs.lemmas.Str.{IsUtf8-past_char, encodes-chars}
use Rattle.clap.specs.Lexer.{long_of, short_of}
use Rattle.command_line.specs.Pieces.{Look, End, Long, Short, Plain, look_of}

abbrev pub is_end : List ℕ → Bool
is_end word = bytes_eq word (45 ∷ 45 ∷ [])

-- what `clap` reads in a word of this look
pub record IsShort (word : List ℕ) : Type 0 where
  pub first : ℕ
  pub rest : List ℕ
  pub flags : short_of word ≡ Some (first ∷ rest)
  pub whole : word ≡ 45 ∷ first ∷ rest

abbrev pub LooksLike : List ℕ → Look → Type 0
LooksLike word End = is_end word ≡ true
LooksLike word (Long name value) = (is_end word ≡ false) × (long_of word ≡ Some (name, value))
LooksLike word Short = (is_end word ≡ false) × (long_of word ≡ None) × IsShort word
LooksLike word Plain = (is_end word ≡ false) × (long_of word ≡ None) × (short_of word ≡ None)

module _ (x : ℕ) (word : List ℕ) (differs : eqb x 45 ≡ false) where
  other_way : eqb 45 x ≡ false
  other_way = grind (arith, nat_tests)

  not_end : is_end (x ∷ word) ≡ false
  not_end = rw differs refl

  no_long : long_of (x ∷ word) ≡ None
  no_long = rw differs refl

  no_short : short_of (x ∷ word) ≡ None
  no_short = rw differs refl

  plain : look_of (x ∷ word) ≡ Plain
  plain = rw (differs, other_way) refl

  looks_plain : LooksLike (x ∷ word) (look_of (x ∷ word))
  looks_plain = subst (LooksLike (x ∷ word)) (sym plain) (not_end, no_long, no_short)

  second_not_end : is_end (45 ∷ x ∷ word) ≡ false
  second_not_end = rw differs refl

  second_no_long : long_of (45 ∷ x ∷ word) ≡ None
  second_no_long = rw differs refl

  second_short : short_of (45 ∷ x ∷ word) ≡ Some (x ∷ word)
  second_short = rw differs refl

  short : look_of (45 ∷ x ∷ word) ≡ Short
  short = rw (differs, other_way) refl

  looks_short : LooksLike (45 ∷ x ∷ word) (look_of (45 ∷ x ∷ word))
  looks_short =
      subst (LooksLike (45 ∷ x ∷ word)) (sym short)
      (second_not_end, second_no_long, record { first = x; rest = word; flags = second_short; whole = refl })

after_two : (word : List ℕ) → LooksLike (45 ∷ 45 ∷ word) (look_of (45 ∷ 45 ∷ word))
after_two [] = refl
after_two (x ∷ word) = (refl, refl)

after_one : (word : List ℕ) → LooksLike (45 ∷ word) (look_of (45 ∷ word))
after_one [] = (refl, refl, refl)
after_one (x ∷ word) = go (eqb x 45) refl
  where
    go : (b : Bool) → eqb x 45 ≡ b → LooksLike (45 ∷ x ∷ word) (look_of (45 ∷ x ∷ word))
    go true e =
        subst (λ (y : ℕ). LooksLike (45 ∷ y ∷ word) (look_of (45 ∷ y ∷ word))) (sym ((Decides-eqb x 45).0 e))
        (after_two word)
    go false e = looks_short x word e

pub looks : (word : List ℕ) → LooksLike word (look_of word)
looks [] = (refl, refl, refl)
looks (x ∷ word) = go (eqb x 45) refl
  where
    go : (b : Bool) → eqb x 45 ≡ b → LooksLike (x ∷ word) (look_of (x ∷ word))
    go true e =
        subst (λ (y : ℕ). LooksLike (y ∷ word) (look_of (y ∷ word))) (sym ((Decides-eqb x 45).0 e)) (after_one word)
    go false e = looks_plain x word e

-- a text that is not empty has a first character
pub has_char : (x : ℕ) (flags : List ℕ) → IsUtf8 (x ∷ flags) → (c : ℕ) × (slice_get (chars (x ∷ flags)) 0 ≡ Some c)
has_char x flags utf8 = go (chars (x ∷ flags)) refl
  where
    go : (cs : List ℕ) → chars (x ∷ flags) ≡ cs → (c : ℕ) × (slice_get (chars (x ∷ flags)) 0 ≡ Some c)
    go [] e = let same = encodes-chars (x ∷ flags) utf8 in let bad : [] ≡ x ∷ flags = rw e at same in cc
    go (c ∷ cs) e = (c, rw e refl)

pub after_dash : (flags : List ℕ) → IsUtf8 (45 ∷ flags) → IsUtf8 flags
unfolding encode_utf8
after_dash flags utf8 = IsUtf8-past_char (45 ∷ flags) flags 45 utf8 refl
