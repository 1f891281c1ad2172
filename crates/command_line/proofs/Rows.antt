-- the matches of `clap` that say what fields do
use Rattle.std.proofs.Common.{◌≡◌, ◌∙◌, Bool, true, false, List, [], ◌∷◌, ◌++◌, map, Option, None, Some, refl, ap, sym}
use Rattle.std.proofs.Common.{bytes_eq, option_map, is_some}
use Rattle.std.specs.Prelude.{find, slice_get}
use Rattle.std.specs.Option.{option_and_then, option_map_or}
use Rattle.clap.specs.Facts.{explicit_source}
use Rattle.clap.specs.Takes.{is_given}
use Rattle.clap.specs.Walk.{Row, Text, at_row, first_of, has_row}
use Rattle.clap.specs.declared.builder.value_parser.Reading.TheVariants.{AsWritten}
use Rattle.clap.specs.declared.parser.matches.ValueSource.TheVariants.{CommandLine}
use Rattle.clap.proofs.WalkLemmas.{find-map, list_any-map}
use Rattle.command_line.specs.Fields.{Field, has_field, value_in}

abbrev pub row_of_field : Field → Row
row_of_field field =
    record { id = field.name; values = field.value ∷ []; count = None; source = Some CommandLine; reading = AsWritten }

abbrev pub rows_of_fields : List Field → List Row
rows_of_fields = map row_of_field

-- the row of an id
abbrev pub row_at : Text → List Row → Option Row
row_at id rows = find (λ (row : Row). bytes_eq row.id id) rows

abbrev pub named : Text → Field → Bool
named id field = bytes_eq field.name id

pub is_found : (id : Text) (fields : List Field) → is_some (find (named id) fields) ≡ has_field fields id
is_found id [] = refl
is_found id (field ∷ fields) = go (named id field) refl (is_found id fields)
  where
    go : (b : Bool) → named id field ≡ b → is_some (find (named id) fields) ≡ has_field fields id
        → is_some (find (named id) (field ∷ fields)) ≡ has_field (field ∷ fields) id
    go true e later = rw e refl
    go false e later = rw e later

module _ (fields : List Field) (id : Text) where
  pub row_at-fields : row_at id (rows_of_fields fields) ≡ option_map row_of_field (find (named id) fields)
  row_at-fields = sym (find-map (λ (row : Row). bytes_eq row.id id) row_of_field fields)

  pub has_row-fields : has_row id (rows_of_fields fields) ≡ has_field fields id
  has_row-fields = sym (list_any-map (λ (row : Row). bytes_eq row.id id) row_of_field fields)

  pub is_given-fields : is_given id (rows_of_fields fields) ≡ has_field fields id
  is_given-fields =
      ap (λ (row : Option Row). option_map_or (λ r. explicit_source r.source) row false) row_at-fields
      ∙ explicit (find (named id) fields) ∙ is_found id fields
    where
      explicit : (field : Option Field) →
          option_map_or (λ r. explicit_source r.source) (option_map row_of_field field) false ≡ is_some field
      explicit None = refl
      explicit (Some field) = refl

  pub first_of-fields : first_of id (rows_of_fields fields) ≡ value_in fields id
  first_of-fields =
      ap (option_and_then (λ (row : Row). slice_get row.values 0)) row_at-fields ∙ first (find (named id) fields)
    where
      first : (field : Option Field) →
          option_and_then (λ (row : Row). slice_get row.values 0) (option_map row_of_field field)
          ≡ option_map (λ (f : Field). f.value) field
      first None = refl
      first (Some field) = refl

-- where no row has the id, nothing stands in the way of the end
pub at_row-new : (id : Text) (change : Row → List Row) (missing rows : List Row) → has_row id rows ≡ false
    → at_row id change missing rows ≡ rows ++ missing
at_row-new id change missing [] new = refl
at_row-new id change missing (row ∷ rows) new = go (bytes_eq row.id id) refl (at_row-new id change missing rows)
  where
    go : (b : Bool) → bytes_eq row.id id ≡ b
        → (has_row id rows ≡ false → at_row id change missing rows ≡ rows ++ missing)
        → at_row id change missing (row ∷ rows) ≡ row ∷ (rows ++ missing)
    go true e later = let bad : true ≡ false = rw e at new in cc
    go false e later = rw e (ap (λ all. row ∷ all) (later (rw e at new)))
