-- what a word with two dashes does to the walk of `clap`, and which words fail
use Rattle.std.proofs.Common.{◌≡◌, ◌∙◌, ℕ, ◌⊎◌, inl, inr, Bool, true, false, List, [], ◌∷◌, ◌++◌, append_assoc, Option}
use Rattle.std.proofs.Common.{None, Some, refl, ap, sym, subst}
use Rattle.std.specs.Str.{IsUtf8}
use Rattle.clap.specs.Faults.{flags_fault, react_fault, settle_fault, use_fault}
use Rattle.clap.specs.Kinds.{Kinds, or_else}
use Rattle.clap.specs.Walk.{Held, Rule, Text, Waiting, Walk, walked}
use Rattle.clap.specs.Walk as clap
use Rattle.command_line.specs.Fields.{Field, Form, field_of, flag_of}
use Rattle.command_line.specs.Pieces.{Piece, OptionWith, Flag, Long, Short, and_then, is_among}
use Rattle.command_line.proofs.Looks.{LooksLike, after_dash, has_char}
use Rattle.command_line.proofs.Rules.{built_flag, built_option, built_rules, long_of_form, short_of_form}
use Rattle.command_line.proofs.Rows.{rows_of_fields}
use Rattle.command_line.proofs.Uses.{Again, Fails, GivesField, IsKnownLast, Once, Repeats, Settles, first_fails}
use Rattle.command_line.proofs.Uses.{flag_gives, holds, option_gives, use_of, with_last}
use Rattle.command_line.proofs.Walking.{Continues, Gives, after_word, at, by_settling, fields_after, gives_as, goes_on}
use Rattle.command_line.proofs.Walking.{named, next_flag, next_option, stops, turn}

-- ---- no subcommand is looked for, and the word is no value for what waits

module _ (form : Form) (held : Held) (waiting : Waiting) (place : ℕ) (word : Text)
    (met : clap.subcommand_met [] waiting word ≡ None) where
  abbrev walk : Walk
  walk = at held waiting place false

  -- a name that the form does not have
  pub unknown_fails : (name : Text) (value : Option Text) → is_among name form.options ≡ false
      → is_among name form.flags ≡ false
      → LooksLike word (Long name value) → Fails (turn form walk word)
  unknown_fails name value no_option no_flag looks none =
      let kinds = rw (met, looks.0, looks.1, long_of_form form name, no_option, no_flag) at none in cc

  -- a flag takes no value
  pub valued_flag_fails : (name value : Text) → is_among name form.options ≡ false → is_among name form.flags ≡ true
      → LooksLike word (Long name (Some value)) → Fails (turn form walk word)
  valued_flag_fails name value no_option among looks none =
      let kinds = rw (met, looks.0, looks.1, long_of_form form name, no_option, among) at none in cc

  -- a flag and an option are used after what was read before
  pub flag_kinds : (name : Text) → is_among name form.options ≡ false → is_among name form.flags ≡ true
      → LooksLike word (Long name None)
      → turn form walk word ≡ or_else (react_fault (built_rules form) false (built_flag name) [] held) []
  flag_kinds name no_option among looks = rw (met, looks.0, looks.1, long_of_form form name, no_option, among) refl

  pub attached_kinds : (name value : Text) → is_among name form.options ≡ true → LooksLike word (Long name (Some value))
      → turn form walk word ≡ or_else (react_fault (built_rules form) false (built_option name) (value ∷ []) held) []
  attached_kinds name value among looks = rw (met, looks.0, looks.1, long_of_form form name, among) refl

  pub named_kinds : (name : Text) → is_among name form.options ≡ true → LooksLike word (Long name None)
      → turn form walk word ≡ or_else (settle_fault (built_rules form) false held) []
  named_kinds name among looks = rw (met, looks.0, looks.1, long_of_form form name, among) refl

  -- short options
  pub short_fails : held.skip ≡ 0 → IsUtf8 word → LooksLike word Short → Fails (turn form walk word)
  unfolding flags_fault
  short_fails no_skip utf8 looks none =
      let short = looks.2 in
      let flags : IsUtf8 (short.first ∷ short.rest) =
      after_dash (short.first ∷ short.rest) (subst IsUtf8 short.whole utf8) in
      let first = has_char short.first short.rest flags in
      let kinds = rw (met, looks.0, looks.1, short.flags, no_skip, first.1, short_of_form form first.0) at none in cc

-- ---- an option or a flag, where no option before it wants a value

-- the walk while an option wants its value
abbrev pub wants : List Field → Text → ℕ → Bool → Walk
wants done name place trailing =
    at (record { rows = rows_of_fields done; pending = Some (name, []); skip = 0 }) (clap.option name) place trailing

-- the walk after an option with its value
abbrev pub used : List Field → ℕ → Walk
used done place = at (holds done None) clap.idle place false

module _ (form : Form) (done : List Field) (last : Option Field) (place : ℕ) (word : Text) (words : List Text)
    (known : IsKnownLast (built_rules form) last) where
  abbrev start : Walk
  start = at (holds done last) clap.idle place false

  abbrev settle_kinds : Kinds
  settle_kinds = settle_fault (built_rules form) false (holds done last)

  -- an argument that is used at once, with these values
  module _ (rule : Rule) (values : List Text) (field : Field) (gives : GivesField rule values field)
      (kinds : turn form start word ≡ or_else (react_fault (built_rules form) false rule values (holds done last)) [])
      (moves : after_word form start word
      ≡ at (clap.reacted (built_rules form) rule values (holds done last)) clap.idle place false) where
    used_held : Held → Held
    used_held held = record { rows = clap.used rule values held.rows; pending = None; skip = 0 }

    module _ (settled : Settles (built_rules form) done last) where
      abbrev done_now : List Field
      done_now = with_last done last

      settled_kinds : turn form start word ≡ or_else (use_fault false rule values (rows_of_fields done_now)) []
      settled_kinds =
          kinds ∙ ap (λ kinds. or_else kinds [])
          (rw settled.passes (ap (λ (held : Held). use_fault false rule values held.rows) settled.held))

      settled_moves : Once rule values done_now field → after_word form start word ≡ used (done_now ++ field ∷ []) place
      unfolding used_held
      settled_moves once =
          moves ∙ ap (λ (held : Held). at (used_held held) clap.idle place false) settled.held
          ∙ ap (λ rows. at (record { rows = rows; pending = None; skip = 0 }) clap.idle place false) once.rows

    -- where the pieces from the word on give the field and then the others
    pub use_goes : (fields others : Option (List Field))
        → ((done : List Field) → fields_after form done None fields ≡ fields_after form done (Some field) others)
        → ((done : List Field) → Continues form (used done place) words done None others)
        → Continues form start (word ∷ words) done last fields
    use_goes fields others gives_first rest = by_settling form start (word ∷ words) done last fields known fails goes
      where
        fails : Repeats (built_rules form) done last → Gives form start (word ∷ words) None
        fails repeats =
            stops form start word words
            (subst Fails (sym kinds) (first_fails _ [] (first_fails settle_kinds _ repeats.fails)))

        goes : Settles (built_rules form) done last
            → Continues form start (word ∷ words) (with_last done last) None fields
        goes settled =
            gives_as form start (word ∷ words) _ _ (gives_first (with_last done last))
            (go (use_of rule values field gives (with_last done last)))
          where
            go : Again rule values (with_last done last) field ⊎ Once rule values (with_last done last) field
                → Continues form start (word ∷ words) (with_last done last) (Some field) others
            go (inl again) =
                gives_as form start (word ∷ words) _ None (no_fields others)
                (stops form start word words (subst Fails (sym (settled_kinds settled)) (first_fails _ [] again.fails)))
              where
                no_fields : (others : Option (List Field))
                    → fields_after form (with_last done last) (Some field) others ≡ None
                no_fields None = refl
                no_fields (Some more) = rw (again.again more) refl
            go (inr once) =
                gives_as form start (word ∷ words) _ _ (same_fields others)
                (goes_on form start (used (with_last done last ++ field ∷ []) place) word words _
                (settled_kinds settled ∙ ap (λ kinds. or_else kinds []) once.passes) (settled_moves settled once)
                (rest (with_last done last ++ field ∷ [])))
              where
                same_fields : (others : Option (List Field))
                    → fields_after form (with_last done last) (Some field) others
                    ≡ fields_after form (with_last done last ++ field ∷ []) None others
                same_fields None = refl
                same_fields (Some more) = rw (once.new more, append_assoc (with_last done last) (field ∷ []) more) refl

  module _ (name : Text) (among : is_among name form.options ≡ true) where
    module _ (value : Text) (looks : LooksLike word (Long name (Some value))) where
      attached_moves : after_word form start word
          ≡ at (clap.reacted (built_rules form) (built_option name) (value ∷ []) (holds done last)) clap.idle
          place false
      unfolding walked
      attached_moves = rw (looks.0, looks.1, long_of_form form name, among) refl

      pub attached_goes : (names : List Text) (pieces : Option (List Piece))
          → ((done : List Field) → Continues form (used done place) words done None (named form names pieces))
          → Continues form start (word ∷ words) done last (named form names (and_then (OptionWith name value) pieces))
      attached_goes names pieces rest =
          use_goes (built_option name) (value ∷ []) (field_of name value)
          (option_gives (field_of name value) (Some name) None false)
          (attached_kinds form (holds done last) clap.idle place word refl name value among looks) attached_moves
          (named form names (and_then (OptionWith name value) pieces)) (named form names pieces)
          (λ done. next_option form done name value names pieces among) rest

    module _ (looks : LooksLike word (Long name None)) where
      wanting_kinds : turn form start word ≡ or_else settle_kinds []
      wanting_kinds = named_kinds form (holds done last) clap.idle place word refl name among looks

      wanting_moves : Settles (built_rules form) done last
          → after_word form start word ≡ wants (with_last done last) name place false
      unfolding walked
      wanting_moves settled =
          rw (looks.0, looks.1, long_of_form form name, among)
          (ap (λ (held : Held). at (record held { pending = Some (name, []) }) (clap.option name) place false)
          settled.held)

      pub wanting_goes : (fields : Option (List Field))
          → ((done : List Field) → Continues form (wants done name place false) words done None fields)
          → Continues form start (word ∷ words) done last fields
      wanting_goes fields rest = by_settling form start (word ∷ words) done last fields known fails goes
        where
          fails : Repeats (built_rules form) done last → Gives form start (word ∷ words) None
          fails repeats =
              stops form start word words (subst Fails (sym wanting_kinds) (first_fails settle_kinds [] repeats.fails))

          goes : Settles (built_rules form) done last
              → Continues form start (word ∷ words) (with_last done last) None fields
          goes settled =
              goes_on form start (wants (with_last done last) name place false) word words _
              (wanting_kinds ∙ ap (λ kinds. or_else kinds []) settled.passes) (wanting_moves settled)
              (rest (with_last done last))

  module _ (name : Text) (no_option : is_among name form.options ≡ false) (among : is_among name form.flags ≡ true)
      (looks : LooksLike word (Long name None)) where
    flag_moves : after_word form start word
        ≡ at (clap.reacted (built_rules form) (built_flag name) [] (holds done last)) clap.idle place false
    unfolding walked
    flag_moves = rw (looks.0, looks.1, long_of_form form name, no_option, among) refl

    pub flag_goes : (names : List Text) (pieces : Option (List Piece))
        → ((done : List Field) → Continues form (used done place) words done None (named form names pieces))
        → Continues form start (word ∷ words) done last (named form names (and_then (Flag name) pieces))
    flag_goes names pieces rest =
        use_goes (built_flag name) [] (flag_of name) (flag_gives name)
        (flag_kinds form (holds done last) clap.idle place word refl name no_option among looks) flag_moves
        (named form names (and_then (Flag name) pieces)) (named form names pieces)
        (λ done. next_flag form done name names pieces among) rest
