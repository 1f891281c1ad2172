-- the name of a flag alone: each of its fields is that of a flag
use Rattle.std.proofs.Common.{◌≡◌, ◌∙◌, ◌||◌, Bool, cond, true, false, List, [], ◌∷◌, Option, None, Some, refl, ap, sym}
use Rattle.std.proofs.Common.{subst, bytes_eq, codes}
use Rattle.std.specs.Option.{option_and_then}
use Rattle.std.proofs.lemmas.Slice.Eq.{bytes_eq-Decides}
use Rattle.clap.specs.Walk.{Text}
use Rattle.command_line.specs.Fields.{Field, Form, field_of, fields_in, fields_of, flag_of, has_field, are_whole}
use Rattle.command_line.specs.Fields.{value_in, with_field}
use Rattle.command_line.specs.Pieces.{Piece, OptionWith, Flag, Positional, is_among, pieces_of}
use Rattle.command_line.specs.Simple.{NamesFlag}

module _ (form : Form) (name : Text) (names_flag : NamesFlag form name) where
  -- where one of the fields has the name, the flag is given
  abbrev TellsFlag : List Field → Type 0
  TellsFlag fields = value_in fields name ≡ cond (has_field fields name) (Some (codes "true")) None

  abbrev Tells : Option (List Field) → Type 0
  Tells None = Unit {0}
  Tells (Some fields) = TellsFlag fields

  another : (other value : Text) (fields : Option (List Field)) → bytes_eq other name ≡ false → Tells fields
      → Tells (with_field (field_of other value) fields)
  another other value None apart tells = tt
  another other value (Some fields) apart tells = rw apart tells

  a_flag : (other : Text) (fields : Option (List Field)) → Tells fields → Tells (with_field (flag_of other) fields)
  a_flag other None tells = tt
  a_flag other (Some fields) tells = go (bytes_eq other name) refl
    where
      go : (b : Bool) → bytes_eq other name ≡ b → TellsFlag (flag_of other ∷ fields)
      go true e = rw e refl
      go false e = rw e tells

  -- a name that is among some is not another one that is not
  apart : (other : Text) (others : List Text) → is_among other others ≡ true → is_among name others ≡ false
      → bytes_eq other name ≡ false
  apart other others among not_among = go (bytes_eq other name) refl
    where
      go : (b : Bool) → bytes_eq other name ≡ b → bytes_eq other name ≡ false
      go true e =
          let bad : true ≡ false =
          sym among ∙ ap (λ text. is_among text others) ((bytes_eq-Decides other name).0 e) ∙ not_among in cc
      go false e = e

  if_among : (b : Bool) (fields : Option (List Field)) → Tells fields → Tells (cond b fields None)
  if_among true fields tells = tells
  if_among false fields tells = tt

  an_option : (b : Bool) (other value : Text) (fields : Option (List Field)) → is_among other form.options ≡ b
      → Tells fields
      → Tells (cond b (with_field (field_of other value) fields) None)
  an_option true other value fields e tells =
      another other value fields (apart other form.options e names_flag.no_option) tells
  an_option false other value fields e tells = tt

  neither : (a b : Bool) → (a || b) ≡ false → (a ≡ false) × (b ≡ false)
  neither true b e = cc
  neither false b e = (refl, e)

  in_pieces : (names : List Text) (pieces : List Piece) → is_among name names ≡ false
      → Tells (fields_in form names pieces)
  in_pieces names [] no_word = refl
  in_pieces names (OptionWith other value ∷ pieces) no_word =
      an_option (is_among other form.options) other value (fields_in form names pieces) refl
      (in_pieces names pieces no_word)
  in_pieces names (Flag other ∷ pieces) no_word =
      if_among (is_among other form.flags) (with_field (flag_of other) (fields_in form names pieces))
      (a_flag other (fields_in form names pieces) (in_pieces names pieces no_word))
  in_pieces [] (Positional word ∷ pieces) no_word = tt
  in_pieces (other ∷ names) (Positional word ∷ pieces) no_word =
      let no_words = neither (bytes_eq other name) (is_among name names) no_word in
      another other word (fields_in form names pieces) no_words.0 (in_pieces names pieces no_words.1)

module _ (form : Form) (words : List Text) (name : Text) (names_flag : NamesFlag form name) where
  abbrev all_tell : Option (List Field) → Type 0
  all_tell = Tells form name names_flag

  whole_tell : (fields : Option (List Field)) → all_tell fields
      → all_tell (option_and_then (λ fields. cond (are_whole form fields) (Some fields) None) fields)
  whole_tell None tells = tt
  whole_tell (Some fields) tells = go (are_whole form fields)
    where
      go : (b : Bool) → all_tell (cond b (Some fields) None)
      go true = tells
      go false = tt

  form_tells : (pieces : Option (List Piece))
      → all_tell (option_and_then (λ some.
      option_and_then (λ fields. cond (are_whole form fields) (Some fields) None)
      (fields_in form form.positionals some)) pieces)
  form_tells None = tt
  form_tells (Some pieces) =
      whole_tell (fields_in form form.positionals pieces)
      (in_pieces form name names_flag form.positionals pieces names_flag.no_word)

  pub flag_value : (fields : List Field) → fields_of form words ≡ Some fields
      → value_in fields name ≡ cond (has_field fields name) (Some (codes "true")) None
  flag_value fields e = subst all_tell e (form_tells (pieces_of form.options words))
