-- the walk of `clap` over the words, and the fields that a form takes of them
use Rattle.std.proofs.Common.{◌≡◌, ◌∙◌, ◌⊎◌, inl, inr, ℕ, ◌&&◌, Bool, cond, true, false, List, [], ◌∷◌, ◌++◌}
use Rattle.std.proofs.Common.{append_assoc, Option, None, Some, refl}
use Rattle.std.proofs.Common.{ap, sym, subst, fold, codes}
use Rattle.std.specs.List.{list_all}
use Rattle.std.specs.Option.{option_and_then, option_to_list}
use Rattle.clap.specs.Faults.{check_fault, defaults_fault, level_fault, settle_fault, turn_fault, walk_fault}
use Rattle.clap.specs.Kinds.{Kinds, or_else}
use Rattle.clap.specs.Simple.{Shape, new_shape}
use Rattle.clap.specs.Walk.{Held, Row, Text, Waiting, Walk, finished, idle, nothing_held, rows_after, settled, walked}
use Rattle.clap.specs.Walk.{with_default}
use Rattle.command_line.specs.Fields.{Field, Form, are_new, field_of, fields_in, flag_of, has_field, with_field}
use Rattle.command_line.specs.Pieces.{Piece, OptionWith, Flag, Positional, and_then, is_among}
use Rattle.command_line.proofs.Rules.{built_rules}
use Rattle.command_line.proofs.Rows.{rows_of_fields}
use Rattle.command_line.proofs.Uses.{Fails, IsKnownLast, Repeats, Settles, first_fails, or_else-assoc, settles}
use Rattle.command_line.proofs.Uses.{with_last}

-- the command of a form, once it is built
abbrev pub built_shape : Form → Shape
built_shape form = record (new_shape (codes "elide")) {
  rules = built_rules form;
  no_binary_name = true;
  disable_help_flag = true;
  disable_help_subcommand = true;
  is_built = true;
}

-- the walk between two words
abbrev pub at : Held → Waiting → ℕ → Bool → Walk
at held waiting place trailing =
    record { held = held; waiting = waiting; position = place; is_trailing = trailing; stopped = None }

-- the walk after one word more, and what fails at that word
abbrev pub after_word : Form → Walk → Text → Walk
after_word form walk word = walked (built_rules form) [] walk word

abbrev pub turn : Form → Walk → Text → Kinds
turn form walk word = turn_fault (built_shape form) [] walk word

-- ---- what is left of a parse from a walk on: its kinds of errors and its matches

abbrev pub last_kinds : Form → List Row → List Row → Kinds
last_kinds form rows all = or_else (defaults_fault rows (built_rules form)) (check_fault (built_shape form) all false)

abbrev pub end_kinds : Form → Held → Kinds
end_kinds form held =
    or_else (settle_fault (built_rules form) false held)
    (last_kinds form (settled (built_rules form) held).rows (finished (built_rules form) held))

abbrev pub end_of : Form → Walk → List Text → Held
end_of form walk words = (fold (walked (built_rules form) []) walk words).held

pub kinds_from : Form → Walk → List Text → Kinds
kinds_from form walk words =
    or_else (walk_fault (built_shape form) [] walk words) (or_else [] (end_kinds form (end_of form walk words)))

pub rows_from : Form → Walk → List Text → List Row
rows_from form walk words = finished (built_rules form) (end_of form walk words)

-- ---- the fields, where those before are done

-- the fields of pieces, of which the positional words have these names
abbrev pub named : Form → List Text → Option (List Piece) → Option (List Field)
named form names pieces = option_and_then (fields_in form names) pieces

abbrev pub judged : Form → List Field → List Field → Option (List Field)
judged form done fields =
    cond (are_new done fields && list_all (has_field (done ++ fields)) form.positionals) (Some (done ++ fields)) None

-- all fields, where those that are done come first, then perhaps a last one that is not, and then the others
abbrev pub fields_after : Form → List Field → Option Field → Option (List Field) → Option (List Field)
fields_after form done last fields = option_and_then (λ more. judged form done (option_to_list last ++ more)) fields

-- the matches of fields, with what stands for each flag that is not given
abbrev pub all_rows : Form → List Field → List Row
all_rows form fields = fold with_default (rows_of_fields fields) (built_rules form)

-- a parse gives these fields, or fails where there are none
abbrev pub Agrees : Form → Kinds → List Row → Option (List Field) → Type 0
Agrees form kinds rows None = Fails kinds
Agrees form kinds rows (Some fields) = (kinds ≡ []) × (rows ≡ all_rows form fields)

-- the parse from a walk on gives these fields
abbrev pub Gives : Form → Walk → List Text → Option (List Field) → Type 0
Gives form walk words fields = Agrees form (kinds_from form walk words) (rows_from form walk words) fields

-- the same, after what is done
abbrev pub Continues : Form → Walk → List Text → List Field → Option Field → Option (List Field) → Type 0
Continues form walk words done last fields = Gives form walk words (fields_after form done last fields)

pub agrees_along : (form : Form) (fields : Option (List Field)) (kinds other : Kinds) (rows others : List Row)
    → kinds ≡ other → rows ≡ others → Agrees form other others fields → Agrees form kinds rows fields
agrees_along form fields kinds other rows others k r agrees =
    subst (λ (x : Kinds). Agrees form x rows fields) (sym k)
    (subst (λ (x : List Row). Agrees form other x fields) (sym r) agrees)

-- ---- fields, step by step

module _ (form : Form) where
  pub repeated : (done : List Field) (last : Option Field) → Repeats (built_rules form) done last
      → (fields : Option (List Field)) → fields_after form done last fields ≡ None
  repeated done last repeats None = refl
  repeated done last repeats (Some more) = rw (repeats.again more) refl

  pub settled_fields : (done : List Field) (last : Option Field) → Settles (built_rules form) done last
      → (fields : Option (List Field)) →
      fields_after form done last fields ≡ fields_after form (with_last done last) None fields
  settled_fields done last settled None = refl
  settled_fields done last settled (Some more) =
      rw (settled.new more, append_assoc done (option_to_list last) more) refl

  -- a field becomes the last one
  next_field : (done : List Field) (field : Field) (fields : Option (List Field))
      → fields_after form done None (with_field field fields) ≡ fields_after form done (Some field) fields
  next_field done field None = refl
  next_field done field (Some more) = refl

  pub next_word : (done : List Field) (name word : Text) (names : List Text) (pieces : Option (List Piece))
      → fields_after form done None (named form (name ∷ names) (and_then (Positional word) pieces))
      ≡ fields_after form done (Some (field_of name word)) (named form names pieces)
  next_word done name word names None = refl
  next_word done name word names (Some pieces) = next_field done (field_of name word) (fields_in form names pieces)

  pub next_option : (done : List Field) (name value : Text) (names : List Text) (pieces : Option (List Piece))
      → is_among name form.options ≡ true
      → fields_after form done None (named form names (and_then (OptionWith name value) pieces))
      ≡ fields_after form done (Some (field_of name value)) (named form names pieces)
  next_option done name value names None among = refl
  next_option done name value names (Some pieces) among =
      rw among (next_field done (field_of name value) (fields_in form names pieces))

  pub next_flag : (done : List Field) (name : Text) (names : List Text) (pieces : Option (List Piece))
      → is_among name form.flags ≡ true
      → fields_after form done None (named form names (and_then (Flag name) pieces))
      ≡ fields_after form done (Some (flag_of name)) (named form names pieces)
  next_flag done name names None among = refl
  next_flag done name names (Some pieces) among =
      rw among (next_field done (flag_of name) (fields_in form names pieces))

  pub word_too_many : (done : List Field) (last : Option Field) (word : Text) (pieces : Option (List Piece))
      → fields_after form done last (named form [] (and_then (Positional word) pieces)) ≡ None
  word_too_many done last word None = refl
  word_too_many done last word (Some pieces) = refl

  pub unknown_option : (name value : Text) (names : List Text) (pieces : Option (List Piece))
      → is_among name form.options ≡ false → named form names (and_then (OptionWith name value) pieces) ≡ None
  unknown_option name value names None among = refl
  unknown_option name value names (Some pieces) among = rw among refl

  pub unknown_flag : (name : Text) (names : List Text) (pieces : Option (List Piece))
      → is_among name form.flags ≡ false → named form names (and_then (Flag name) pieces) ≡ None
  unknown_flag name names None among = refl
  unknown_flag name names (Some pieces) among = rw among refl

-- ---- one word

module _ (form : Form) where
  kinds_step : (walk : Walk) (word : Text) (words : List Text)
      → kinds_from form walk (word ∷ words) ≡ or_else (turn form walk word)
      (kinds_from form (after_word form walk word) words)
  unfolding kinds_from walk_fault
  kinds_step walk word words =
      or_else-assoc (turn form walk word) (walk_fault (built_shape form) [] (after_word form walk word) words)
      (or_else [] (end_kinds form (end_of form walk (word ∷ words))))

  rows_step : (walk : Walk) (word : Text) (words : List Text)
      → rows_from form walk (word ∷ words) ≡ rows_from form (after_word form walk word) words
  unfolding rows_from
  rows_step walk word words = refl

  -- before the first word
  pub kinds_at_start : (words : List Text)
      → level_fault (built_shape form) [] nothing_held words false [] ≡ kinds_from form
      (at nothing_held idle 1 false) words
  unfolding kinds_from
  kinds_at_start words = refl

  pub rows_at_start : (words : List Text)
      → rows_after (built_rules form) [] words ≡ rows_from form (at nothing_held idle 1 false) words
  unfolding rows_from
  rows_at_start words = refl

  -- no word is left
  pub kinds_at_end : (walk : Walk) → kinds_from form walk [] ≡ end_kinds form walk.held
  unfolding kinds_from walk_fault
  kinds_at_end walk = refl

  pub rows_at_end : (walk : Walk) → rows_from form walk [] ≡ finished (built_rules form) walk.held
  unfolding rows_from
  rows_at_end walk = refl

  -- a word fails
  pub stops : (walk : Walk) (word : Text) (words : List Text) → Fails (turn form walk word) →
      Gives form walk (word ∷ words) None
  stops walk word words fails = subst Fails (sym (kinds_step walk word words)) (first_fails _ _ fails)

  -- a word passes, and then the walk is `next`
  pub goes_on : (walk next : Walk) (word : Text) (words : List Text) (fields : Option (List Field)) →
      turn form walk word ≡ []
      → after_word form walk word ≡ next → Gives form next words fields → Gives form walk (word ∷ words) fields
  goes_on walk next word words fields passes is gives =
      agrees_along form fields _ _ _ _
      (kinds_step walk word words
      ∙ ap (λ first. or_else first (kinds_from form (after_word form walk word) words)) passes
      ∙ ap (λ w. kinds_from form w words) is)
      (rows_step walk word words ∙ ap (λ w. rows_from form w words) is) gives

  -- the same fields, said otherwise
  pub gives_as : (walk : Walk) (words : List Text) (fields other : Option (List Field)) → fields ≡ other
      → Gives form walk words other → Gives form walk words fields
  gives_as walk words fields other is gives =
      subst (λ (x : Option (List Field)). Gives form walk words x) (sym is) gives

-- what was read before is used, and fails there or is done
pub by_settling : (form : Form) (walk : Walk) (words : List Text) (done : List Field) (last : Option Field)
    (fields : Option (List Field))
    → IsKnownLast (built_rules form) last → (Repeats (built_rules form) done last → Gives form walk words None)
    → (Settles (built_rules form) done last → Continues form walk words (with_last done last) None fields) →
    Continues form walk words done last fields
by_settling form walk words done last fields known fails goes = go (settles (built_rules form) done last known)
  where
    go : Repeats (built_rules form) done last ⊎ Settles (built_rules form) done last →
        Continues form walk words done last fields
    go (inl repeats) = gives_as form walk words _ None (repeated form done last repeats fields) (fails repeats)
    go (inr settled) = gives_as form walk words _ _ (settled_fields form done last settled fields) (goes settled)
