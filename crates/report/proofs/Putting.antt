-- Puts one after another.
use Rattle.std.proofs.Common.{◌≡◌, ℕ, ◌+◌, ◌<◌, List, [], ◌∷◌, ◌++◌, length, take, drop, get_or}
use Rattle.std.proofs.Common.{Result, Ok, Err, append-nil, append_assoc, map, ap, subst, sym, suc, ◌∙◌, arith}
use Rattle.std.proofs.Math.Seq.{split_at}
use Rattle.std.proofs.lemmas.Grind.{flat_map-append}
use Rattle.std.proofs.lemmas.List.Folds.{flat_map-map}
use Rattle.std.proofs.lemmas.List.{take_more}
use Rattle.std.specs.List.{flat_map}
use Rattle.std.specs.Result.{IsErr}
use Rattle.el_io.proofs.Laws.{part_of_more, took_then_all, took_then_part}
use Rattle.el_io.specs.Counts.{one_more}
use Rattle.el_io.specs.declared.sink.Failed.{Failed}
use Rattle.report.specs.Line.{bytes_of, line, spaced}
use Rattle.report.specs.declared.word.Word.{Word}
use Rattle.report.specs.Puts.{PutAll, PutPart, Puts, SinkState}

-- some bytes were put, and then more
pub put_then_all : (before between now : SinkState) (first more : List ℕ) → PutAll before between first →
    PutAll between now more → PutAll before now (first ++ more)
put_then_all before between now first more a b = record {
  taken = took_then_all before.taken between.taken now.taken first more a.taken b.taken;
  faults = b.faults ∙ a.faults;
}

pub put_then_part : (before between now : SinkState) (first more : List ℕ) → PutAll before between first →
    PutPart between now more → PutPart before now (first ++ more)
put_then_part before between now first more a b = record {
  taken = took_then_part before.taken between.taken now.taken first more a.taken b.taken;
  faults = b.faults ∙ ap one_more a.faults;
  never_falls = rw (sym a.faults) b.never_falls;
}

pub put_then : (result : Result (Unit {0}) Failed) (before between now : SinkState) (first more : List ℕ) →
    PutAll before between first → Puts result between now more → Puts result before now (first ++ more)
put_then (Ok _) before between now first more a b = put_then_all before between now first more a b
put_then (Err _) before between now first more a b = put_then_part before between now first more a b

-- the same bytes
pub same_part : (before now : SinkState) (bytes others : List ℕ) → bytes ≡ others → PutPart before now bytes →
    PutPart before now others
same_part before now bytes others same a = subst (λ text. PutPart before now text) same a

-- a call that failed where a part was put
pub failed_puts : (result : Result (Unit {0}) Failed) (before now : SinkState) (bytes : List ℕ) → IsErr result →
    PutPart before now bytes → Puts result before now bytes
failed_puts (Ok _) before now bytes failed part = absurd (cc failed)
failed_puts (Err _) before now bytes failed part = part

-- the put of the first bytes failed, and nothing was put after that
pub put_stopped : (before now : SinkState) (first more : List ℕ) → PutPart before now first →
    PutPart before now (first ++ more)
put_stopped before now first more a = record {
  taken = part_of_more before.taken now.taken first more a.taken;
  faults = a.faults;
  never_falls = a.never_falls;
}

-- what a call needs that puts twice
pub ruleset putting = (put_then, put_then_all, put_then_part, put_stopped)

-- the pieces of a list, one after another
module _ {X : Type 0} (piece : X → List ℕ) where
  pub pieces_more : (xs : List X) (i : ℕ) (d : X) → i < length xs →
      flat_map piece (take i xs) ++ piece (get_or xs i d) ≡ flat_map piece (take (i + 1) xs)
  pieces_more xs i d within =
      sym (ap (flat_map piece) (take_more xs i d within)
      ∙ flat_map-append piece (take i xs) (get_or xs i d ∷ [])
      ∙ ap (λ bytes. flat_map piece (take i xs) ++ bytes) (append-nil (piece (get_or xs i d))))

  pieces_split : (xs : List X) (i : ℕ) (d : X) → i < length xs →
      flat_map piece (take i xs) ++ (piece (get_or xs i d) ++ flat_map piece (drop (suc i) xs)) ≡ flat_map piece xs
  pieces_split xs i d within =
      sym (ap (flat_map piece) (split_at xs i d within)
      ∙ flat_map-append piece (take i xs) (get_or xs i d ∷ drop (suc i) xs))

  pub one_more_put : (before between now : SinkState) (xs : List X) (i : ℕ) (d : X) → i < length xs →
      PutAll before between (flat_map piece (take i xs)) → PutAll between now (piece (get_or xs i d)) →
      PutAll before now (flat_map piece (take (i + 1) xs))
  one_more_put before between now xs i d within a b =
      subst (λ bytes. PutAll before now bytes) (pieces_more xs i d within)
      (put_then_all before between now (flat_map piece (take i xs)) (piece (get_or xs i d)) a b)

  pub one_failed : (before between now : SinkState) (xs : List X) (i : ℕ) (d : X) → i < length xs →
      PutAll before between (flat_map piece (take i xs)) → PutPart between now (piece (get_or xs i d)) →
      PutPart before now (flat_map piece xs)
  one_failed before between now xs i d within a b =
      subst (λ bytes. PutPart before now bytes) (pieces_split xs i d within)
      (put_then_part before between now (flat_map piece (take i xs)) _ a
      (put_stopped between now (piece (get_or xs i d)) (flat_map piece (drop (suc i) xs)) b))

-- a line of words that stand in two lists
pub line_of_words : (first : List ℕ) (words more : List Word) →
    first
    ++ (flat_map (λ word. spaced (bytes_of word)) words
    ++ (flat_map (λ word. spaced (bytes_of word)) more ++ (10 ∷ [])))
    ≡ line first (map bytes_of words ++ map bytes_of more)
line_of_words first words more =
    ap (λ rest. first ++ rest)
    (sym (ap (λ bytes. bytes ++ (10 ∷ []))
    (flat_map-append spaced (map bytes_of words) (map bytes_of more)
    ∙ ap (λ bytes. bytes ++ flat_map spaced (map bytes_of more)) (flat_map-map spaced bytes_of words)
    ∙ ap (λ bytes. flat_map (λ word. spaced (bytes_of word)) words ++ bytes) (flat_map-map spaced bytes_of more))
    ∙ append_assoc (flat_map (λ word. spaced (bytes_of word)) words)
    (flat_map (λ word. spaced (bytes_of word)) more) (10 ∷ [])))
    ∙ sym (append_assoc first (flat_map spaced (map bytes_of words ++ map bytes_of more)) (10 ∷ []))
