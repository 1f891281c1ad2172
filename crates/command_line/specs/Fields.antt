-- what a command takes after its name
use Rattle.std.specs.Prelude.{ℕ, ◌++◌, ◌&&◌, Bool, true, not, List, [], ◌∷◌, find, bytes_eq, codes, if◌then◌else◌}
use Rattle.std.specs.Prelude.{Option, None, Some}
use Rattle.std.specs.List.{list_all, list_any}
use Rattle.std.specs.Option.{option_and_then, option_map}
use Rattle.command_line.specs.Pieces.{Piece, OptionWith, Flag, Positional, is_among, pieces_of}

-- the names of a command's positional words, in their order, of its options and of its flags
pub record Form : Type 0 where
  pub positionals : List (List ℕ)
  pub options : List (List ℕ)
  pub flags : List (List ℕ)

-- a positional word, an option or a flag, with what is given for it
pub record Field : Type 0 where
  pub name : List ℕ
  pub value : List ℕ

abbrev pub field_of : List ℕ → List ℕ → Field
field_of name value = record { name = name; value = value }

-- a flag has no value of its own: that it was given is its value
abbrev pub flag_of : List ℕ → Field
flag_of name = field_of name (codes "true")

-- what is given for a name
abbrev pub value_in : List Field → List ℕ → Option (List ℕ)
value_in fields name = option_map (λ field. field.value) (find (λ field. bytes_eq field.name name) fields)

abbrev pub has_field : List Field → List ℕ → Bool
has_field fields name = list_any (λ field. bytes_eq field.name name) fields

abbrev pub with_field : Field → Option (List Field) → Option (List Field)
with_field field fields = option_map (λ rest. field ∷ rest) fields

-- the fields that pieces give: each option and each flag is one of the form's, and each positional word gets the next
-- of these names
abbrev pub fields_in : Form → List (List ℕ) → List Piece → Option (List Field)
fields_in form names [] = Some []
fields_in form names (OptionWith name value ∷ pieces) =
    if is_among name form.options then with_field (field_of name value) (fields_in form names pieces) else None
fields_in form names (Flag name ∷ pieces) =
    if is_among name form.flags then with_field (flag_of name) (fields_in form names pieces) else None
fields_in form [] (Positional word ∷ pieces) = None
fields_in form (name ∷ names) (Positional word ∷ pieces) = with_field (field_of name word) (fields_in form names pieces)

-- no field has the name of one before it
abbrev pub are_new : List Field → List Field → Bool
are_new before [] = true
are_new before (field ∷ fields) = not (has_field before field.name) && are_new (before ++ field ∷ []) fields

-- nothing is given twice, and no positional word is missing
abbrev pub are_whole : Form → List Field → Bool
are_whole form fields = are_new [] fields && list_all (has_field fields) form.positionals

infixl 10 ◌>>=◌
abbrev pub ◌>>=◌ : {A B : Type 0} → Option A → (A → Option B) → Option B
value >>= next = option_and_then next value

-- the fields that words give to a form, or none where it does not take these words
abbrev pub fields_of : Form → List (List ℕ) → Option (List Field)
fields_of form words = do
  pieces ← pieces_of form.options words
  fields ← fields_in form form.positionals pieces
  if are_whole form fields then Some fields else None
