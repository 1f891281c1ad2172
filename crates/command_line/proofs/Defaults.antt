-- what `clap` makes of the flags that are not given
use Rattle.std.proofs.Common.{◌≡◌, ◌∙◌, ℕ, ◌||◌, Bool, cond, true, false, List, [], ◌∷◌, ◌++◌, map, fold, Option, None}
use Rattle.std.proofs.Common.{Some, refl, ap, ap₂, sym, bytes_eq, codes, is_some, option_map}
use Rattle.std.specs.Prelude.{find, slice_get}
use Rattle.std.specs.Option.{option_and_then, option_map_or, option_or}
use Rattle.std.proofs.lemmas.List.Folds.{find-append}
use Rattle.std.proofs.lemmas.Slice.Eq.{bytes_eq-Decides}
use Rattle.clap.specs.Facts.{explicit_source}
use Rattle.clap.specs.Faults.{default_fault, defaults_fault}
use Rattle.clap.specs.Kinds.{or_else}
use Rattle.clap.specs.Takes.{is_given}
use Rattle.clap.specs.Values.{bool_text}
use Rattle.clap.specs.Walk.{Row, Rule, Text, first_of, has_row, more_values, one_of, row_text, with_default}
use Rattle.clap.specs.declared.builder.value_parser.Reading.TheVariants.{AsWritten}
use Rattle.clap.specs.declared.parser.matches.ValueSource.TheVariants.{DefaultValue}
use Rattle.command_line.specs.Fields.{Field, Form, has_field, value_in}
use Rattle.command_line.specs.Pieces.{is_among}
use Rattle.command_line.proofs.Rows.{at_row-new, first_of-fields, is_found, is_given-fields, named, row_at}
use Rattle.command_line.proofs.Rows.{row_at-fields, row_of_field, rows_of_fields}
use Rattle.command_line.proofs.Rules.{built_flag, built_rules, named_rules, next_place, numbered, single}
use Rattle.command_line.proofs.Walking.{all_rows}

-- ---- no default fails, and flags alone have one

record Defaults (rules : List Rule) (flags : List Text) : Type 0 where
  faults : (rows : List Row) → defaults_fault rows rules ≡ []
  rows : (rows : List Row) → fold with_default rows rules ≡ fold with_default rows (map built_flag flags)

module _ (id : Text) (long : Option Text) (index : Option ℕ) (required : Bool) (before : List Row) where
  abbrev rule : Rule
  rule = single id long index required

  same_rows : with_default before rule ≡ before
  same_rows = go (has_row id before)
    where
      go : (b : Bool) → cond b before before ≡ before
      go true = refl
      go false = refl

  no_fault : default_fault before rule ≡ []
  no_fault = rw (or_true (has_row id before)) refl
    where
      or_true : (b : Bool) → (b || true) ≡ true
      or_true true = refl
      or_true false = refl

defaults_with : (id : Text) (long : Option Text) (index : Option ℕ) (required : Bool) (rules : List Rule)
    (flags : List Text) → Defaults rules flags
    → Defaults (single id long index required ∷ rules) flags
unfolding defaults_fault
defaults_with id long index required rules flags defaults = record {
  faults = λ before.
      ap₂ or_else (no_fault id long index required before)
      (ap (λ (rows : List Row). defaults_fault rows rules) (same_rows id long index required before)
      ∙ defaults.faults before);
  rows = λ before. ap (λ (rows : List Row). fold with_default rows rules) (same_rows id long index required before)
      ∙ defaults.rows before;
}

flag_default : (name : Text) (before : List Row) → default_fault before (built_flag name) ≡ []
flag_default name before = go (has_row name before) refl
  where
    go : (b : Bool) → has_row name before ≡ b → default_fault before (built_flag name) ≡ []
    go true e = rw e refl
    go false e = rw e refl

flag_defaults : (flags : List Text) (before : List Row) → defaults_fault before (map built_flag flags) ≡ []
unfolding defaults_fault
flag_defaults [] before = refl
flag_defaults (name ∷ flags) before =
    ap₂ or_else (flag_default name before) (flag_defaults flags (with_default before (built_flag name)))

named_defaults : (options flags : List Text) → Defaults (named_rules options flags) flags
named_defaults [] flags = record { faults = flag_defaults flags; rows = λ before. refl }
named_defaults (name ∷ options) flags =
    defaults_with name (Some name) None false (named_rules options flags) flags (named_defaults options flags)

word_defaults : (place : ℕ) (names : List Text) (rules : List Rule) (flags : List Text) → Defaults rules flags
    → Defaults (numbered place names ++ rules) flags
word_defaults place [] rules flags defaults = defaults
word_defaults place (name ∷ names) rules flags defaults =
    defaults_with name None (Some place) true (numbered (next_place place) names ++ rules) flags
    (word_defaults (next_place place) names rules flags defaults)

form_defaults : (form : Form) → Defaults (built_rules form) form.flags
form_defaults form =
    word_defaults 1 form.positionals (named_rules form.options form.flags) form.flags
    (named_defaults form.options form.flags)

pub no_default_fails : (form : Form) (rows : List Row) → defaults_fault rows (built_rules form) ≡ []
no_default_fails form = (form_defaults form).faults

-- ---- the matches with the defaults

is_row_found : (id : Text) (rows : List Row) → is_some (row_at id rows) ≡ has_row id rows
is_row_found id [] = refl
is_row_found id (row ∷ rows) = go (bytes_eq row.id id) refl (is_row_found id rows)
  where
    go : (b : Bool) → bytes_eq row.id id ≡ b → is_some (row_at id rows) ≡ has_row id rows
        → is_some (row_at id (row ∷ rows)) ≡ has_row id (row ∷ rows)
    go true e later = rw e refl
    go false e later = rw e later

-- what stands for a flag that is not given
abbrev absent_row : Text → Row
absent_row name =
    record { id = name; values = codes "false" ∷ []; count = None; source = Some DefaultValue; reading = AsWritten }

abbrev absent : Text → Bool → Option Row
absent id is_flag = cond is_flag (Some (absent_row id)) None

module _ (id name : Text) where
  absent_at : row_at id (absent_row name ∷ []) ≡ absent id (bytes_eq name id)
  absent_at = go (bytes_eq name id) refl
    where
      go : (b : Bool) → bytes_eq name id ≡ b → row_at id (absent_row name ∷ []) ≡ absent id b
      go true e = rw (e, (bytes_eq-Decides name id).0 e) refl
      go false e = rw e refl

  module _ (rows : List Row) where
    -- a row of the flag is there: it is the one that is found
    stays_at : has_row name rows ≡ true → row_at id rows ≡ option_or (row_at id rows) (absent id (bytes_eq name id))
    stays_at has = go (row_at id rows) (bytes_eq name id) refl refl
      where
        go : (row : Option Row) (b : Bool) → row_at id rows ≡ row → bytes_eq name id ≡ b
            → row ≡ option_or row (absent id b)
        go (Some row) b found e = refl
        go None false found e = refl
        go None true found e =
            let same : name ≡ id = (bytes_eq-Decides name id).0 e in
            let none : false ≡ true =
            ap is_some (sym found) ∙ is_row_found id rows ∙ ap (λ text. has_row text rows) (sym same) ∙ has in cc

    default_at : row_at id (with_default rows (built_flag name))
        ≡ option_or (row_at id rows) (absent id (bytes_eq name id))
    default_at = go (has_row name rows) refl
      where
        go : (b : Bool) → has_row name rows ≡ b
            → row_at id (with_default rows (built_flag name))
            ≡ option_or (row_at id rows) (absent id (bytes_eq name id))
        go true e = rw e (stays_at e)
        go false e =
            rw (e, at_row-new name (more_values DefaultValue (codes "false" ∷ [])) (absent_row name ∷ []) rows e)
            (find-append (λ (row : Row). bytes_eq row.id id) rows (absent_row name ∷ [])
            ∙ ap (option_or (row_at id rows)) absent_at)

defaults_at : (id : Text) (flags : List Text) (rows : List Row)
    → row_at id (fold with_default rows (map built_flag flags))
    ≡ option_or (row_at id rows) (absent id (is_among id flags))
defaults_at id [] rows = or_none (row_at id rows)
  where
    or_none : (row : Option Row) → row ≡ option_or row None
    or_none None = refl
    or_none (Some row) = refl
defaults_at id (name ∷ flags) rows =
    defaults_at id flags (with_default rows (built_flag name))
    ∙ ap (λ row. option_or row (absent id (is_among id flags))) (default_at id name rows)
    ∙ either (row_at id rows) (bytes_eq name id) (is_among id flags)
  where
    either : (row : Option Row) (a b : Bool)
        → option_or (option_or row (absent id a)) (absent id b) ≡ option_or row (absent id (a || b))
    either (Some row) a b = refl
    either None true b = refl
    either None false b = refl

abbrev explicit : Option Row → Bool
explicit row = option_map_or (λ r. explicit_source r.source) row false

module _ (form : Form) (fields : List Field) (id : Text) where
  all_at : row_at id (all_rows form fields)
      ≡ option_or (row_at id (rows_of_fields fields)) (absent id (is_among id form.flags))
  all_at =
      ap (row_at id) ((form_defaults form).rows (rows_of_fields fields))
      ∙ defaults_at id form.flags (rows_of_fields fields)

  -- what is not given is not given by a default
  pub is_given-all : is_given id (all_rows form fields) ≡ has_field fields id
  is_given-all =
      ap explicit all_at ∙ same (row_at id (rows_of_fields fields)) (is_among id form.flags) ∙ is_given-fields fields id
    where
      same : (row : Option Row) (b : Bool) → explicit (option_or row (absent id b)) ≡ explicit row
      same (Some row) b = refl
      same None true = refl
      same None false = refl

  pub first_of-all : is_among id form.flags ≡ false → first_of id (all_rows form fields) ≡ value_in fields id
  first_of-all no_flag =
      ap (option_and_then (λ (row : Row). slice_get row.values 0))
      (all_at ∙ rw no_flag (or_none (row_at id (rows_of_fields fields))))
      ∙ first_of-fields fields id
    where
      or_none : (row : Option Row) → option_or row None ≡ row
      or_none None = refl
      or_none (Some row) = refl

  -- a flag says whether it has a field, where each field of its name is that of a flag
  pub flag_of-all : is_among id form.flags ≡ true
      → value_in fields id ≡ cond (has_field fields id) (Some (codes "true")) None
      → one_of id (all_rows form fields) ≡ Some (bool_text (has_field fields id))
  flag_of-all flag value =
      ap (option_and_then row_text)
      (all_at ∙ rw flag (ap (λ row. option_or row (Some (absent_row id))) (row_at-fields fields id)))
      ∙ go (find (named id) fields) (has_field fields id) (is_found id fields) value
    where
      go : (field : Option Field) (b : Bool) → is_some field ≡ b
          → option_map (λ (f : Field). f.value) field ≡ cond b (Some (codes "true")) None
          → option_and_then row_text (option_or (option_map row_of_field field) (Some (absent_row id)))
          ≡ Some (bool_text b)
      go None true found is = cc
      go None false found is = refl
      go (Some field) true found is = is
      go (Some field) false found is = cc
