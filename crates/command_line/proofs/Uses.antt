-- what one field does to the matches of `clap`, and what fails at it
use Rattle.std.proofs.Common.{◌≡◌, ◌∙◌, ℕ, ◌⊎◌, Bool, cond, true, false, List, [], ◌∷◌, ◌++◌, Option, None, Some, refl}
use Rattle.std.proofs.Common.{ap, sym, inl, inr, option_map}
use Rattle.std.specs.Option.{option_to_list}
use Rattle.std.proofs.lemmas.List.{append-nil, map-append}
use Rattle.clap.specs.Faults.{repeat_fault, settle_fault, use_fault}
use Rattle.clap.specs.Kinds.{Kinds, or_else}
use Rattle.clap.specs.Walk.{Held, Row, Rule, Text, has_row, more_values, settled, used, with_values, without}
use Rattle.clap.specs.declared.builder.value_parser.Reading.TheVariants.{AsWritten}
use Rattle.clap.specs.declared.error.kind.ErrorKind.TheVariants.{ArgumentConflict}
use Rattle.clap.specs.declared.parser.matches.ValueSource.TheVariants.{CommandLine}
use Rattle.command_line.specs.Fields.{Field, are_new, flag_of, has_field}
use Rattle.command_line.proofs.Rows.{at_row-new, has_row-fields, row_of_field, rows_of_fields}
use Rattle.command_line.proofs.Rules.{IsKnown, built_flag, single}

-- ---- kinds of errors

abbrev pub Fails : Kinds → Type 0
Fails kinds = kinds ≡ [] → ⊥

pub first_fails : (first next : Kinds) → Fails first → Fails (or_else first next)
first_fails [] next fails = absurd (fails refl)
first_fails (kind ∷ kinds) next fails = λ e. cc

pub or_else-assoc : (a b c : Kinds) → or_else (or_else a b) c ≡ or_else a (or_else b c)
or_else-assoc [] b c = refl
or_else-assoc (kind ∷ kinds) b c = refl

-- ---- a use of an argument that gives a field

-- an argument that may be used once, where it is used with these values, gives the field
pub record GivesField (rule : Rule) (values : List Text) (field : Field) : Type 0 where
  pub kinds : (rows : List Row) → use_fault false rule values rows ≡ or_else (repeat_fault false field.name rows) []
  pub rows : (rows : List Row) → used rule values rows
      ≡ with_values field.name AsWritten CommandLine (field.value ∷ []) (without field.name rows)

pub option_gives : (field : Field) (long : Option Text) (index : Option ℕ) (required : Bool)
    → GivesField (single field.name long index required) (field.value ∷ []) field
option_gives field long index required = record { kinds = λ rows. refl; rows = λ rows. refl }

pub flag_gives : (name : Text) → GivesField (built_flag name) [] (flag_of name)
flag_gives name = record { kinds = λ rows. refl; rows = λ rows. refl }

-- the use fails, and no fields that begin with the field are new
pub record Again (rule : Rule) (values : List Text) (done : List Field) (field : Field) : Type 0 where
  pub fails : Fails (use_fault false rule values (rows_of_fields done))
  pub again : (fields : List Field) → are_new done (field ∷ fields) ≡ false

-- the use gives the field
pub record Once (rule : Rule) (values : List Text) (done : List Field) (field : Field) : Type 0 where
  pub passes : use_fault false rule values (rows_of_fields done) ≡ []
  pub rows : used rule values (rows_of_fields done) ≡ rows_of_fields (done ++ field ∷ [])
  pub new : (fields : List Field) → are_new done (field ∷ fields) ≡ are_new (done ++ field ∷ []) fields

module _ (rule : Rule) (values : List Text) (field : Field) (gives : GivesField rule values field)
    (done : List Field) where
  kinds_of_use : (b : Bool) → has_field done field.name ≡ b
      → use_fault false rule values (rows_of_fields done) ≡ or_else (cond b (ArgumentConflict ∷ []) []) []
  kinds_of_use true e = gives.kinds (rows_of_fields done) ∙ rw (has_row-fields done field.name, e) refl
  kinds_of_use false e = gives.kinds (rows_of_fields done) ∙ rw (has_row-fields done field.name, e) refl

  used_new : has_field done field.name ≡ false
      → used rule values (rows_of_fields done) ≡ rows_of_fields (done ++ field ∷ [])
  used_new e =
      let new : has_row field.name (rows_of_fields done) ≡ false = has_row-fields done field.name ∙ e in
      gives.rows (rows_of_fields done)
      ∙ ap (with_values field.name AsWritten CommandLine (field.value ∷ []))
      (at_row-new field.name (λ _. []) [] (rows_of_fields done) new ∙ append-nil (rows_of_fields done))
      ∙ at_row-new field.name (more_values CommandLine (field.value ∷ [])) (row_of_field field ∷ [])
      (rows_of_fields done) new
      ∙ sym (map-append row_of_field done (field ∷ []))

  pub use_of : Again rule values done field ⊎ Once rule values done field
  use_of = go (has_field done field.name) refl
    where
      go : (b : Bool) → has_field done field.name ≡ b → Again rule values done field ⊎ Once rule values done field
      go true e = inl (record {
        fails = λ none. let conflict = sym none ∙ kinds_of_use true e in cc;
        again = λ fields. rw e refl;
      })
      go false e = inr (record { passes = kinds_of_use false e; rows = used_new e; new = λ fields. rw e refl })

-- ---- what is read and not yet used

-- the matches of these fields, where the last one may still wait to be used
abbrev pub holds : List Field → Option Field → Held
holds done last =
    record { rows = rows_of_fields done; pending = option_map (λ field. (field.name, field.value ∷ [])) last; skip = 0 }

abbrev pub IsKnownLast : List Rule → Option Field → Type 0
IsKnownLast rules None = Unit {0}
IsKnownLast rules (Some field) = IsKnown rules field.name

abbrev pub with_last : List Field → Option Field → List Field
with_last done last = done ++ option_to_list last

-- its use fails, and no fields that begin with it are new
pub record Repeats (rules : List Rule) (done : List Field) (last : Option Field) : Type 0 where
  pub fails : Fails (settle_fault rules false (holds done last))
  pub again : (fields : List Field) → are_new done (option_to_list last ++ fields) ≡ false

-- it is used
pub record Settles (rules : List Rule) (done : List Field) (last : Option Field) : Type 0 where
  pub passes : settle_fault rules false (holds done last) ≡ []
  pub held : settled rules (holds done last) ≡ holds (with_last done last) None
  pub new : (fields : List Field) → are_new done (option_to_list last ++ fields) ≡ are_new (with_last done last) fields

abbrev known_rule : (rules : List Rule) (id : Text) → IsKnown rules id → Rule
known_rule rules id known = single id known.long known.index known.required

pub settles : (rules : List Rule) (done : List Field) (last : Option Field) → IsKnownLast rules last →
    Repeats rules done last ⊎ Settles rules done last
settles rules done None known = inr (record {
  passes = refl;
  held = ap (λ fields. holds fields None) (sym (append-nil done));
  new = λ fields. ap (λ before. are_new before fields) (sym (append-nil done));
})
settles rules done (Some field) known =
    go (use_of (known_rule rules field.name known) (field.value ∷ []) field
    (option_gives field known.long known.index known.required) done)
  where
    go : Again (known_rule rules field.name known) (field.value ∷ []) done field
        ⊎ Once (known_rule rules field.name known) (field.value ∷ []) done field
        → Repeats rules done (Some field) ⊎ Settles rules done (Some field)
    go (inl again) = inl (record { fails = rw known.found again.fails; again = again.again })
    go (inr once) = inr (record {
      passes = rw known.found once.passes;
      held = rw known.found (ap (λ rows. record { rows = rows; pending = None; skip = 0 }) once.rows);
      new = once.new;
    })
