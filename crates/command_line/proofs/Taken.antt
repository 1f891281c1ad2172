-- what a form takes of the words is what `clap` takes
use Rattle.std.proofs.Common.{◌≡◌, ◌∙◌, ℕ, ◌<◌, Bool, cond, true, false, List, [], ◌∷◌, map, length, Option, None, Some}
use Rattle.std.proofs.Common.{refl, ap, sym}
use Rattle.std.specs.Str.{IsUtf8}
use Rattle.std.specs.Option.{option_and_then}
use Rattle.clap.specs.Faults.{fault_of, level_fault}
use Rattle.clap.specs.Lexer.{usize_max}
use Rattle.clap.specs.Simple.{Shape, built, matches_of}
use Rattle.clap.specs.Walk.{Rule, Text, Walk}
use Rattle.clap.specs.Walk as clap
use Rattle.clap.proofs.FaultLemmas.{leaf_fault}
use Rattle.command_line.specs.Fields.{Field, Form, are_whole, field_of, fields_in, fields_of}
use Rattle.command_line.specs.Pieces.{Piece, Flag, Positional, Look, End, Long, Short, Plain, and_then, is_among}
use Rattle.command_line.specs.Pieces.{look_of, piece_then, pieces_after, pieces_of}
use Rattle.command_line.specs.Simple.{app_by}
use Rattle.command_line.proofs.Ending.{ends}
use Rattle.command_line.proofs.Looks.{LooksLike, looks}
use Rattle.command_line.proofs.Options.{attached_goes, flag_goes, short_fails, unknown_fails, valued_flag_fails}
use Rattle.command_line.proofs.Options.{wanting_goes, wants}
use Rattle.command_line.proofs.Positionals.{plain_word, trailing_word, word_goes}
use Rattle.command_line.proofs.Rules.{Reads, built_rules, filled_form, form_reads, option_known}
use Rattle.command_line.proofs.Uses.{Fails, IsKnownLast, holds}
use Rattle.command_line.proofs.Waiting.{end_kinds, end_moves, value_goes, wants_ends}
use Rattle.command_line.proofs.Walking.{Agrees, Continues, agrees_along, at, built_shape, fields_after, gives_as}
use Rattle.command_line.proofs.Walking.{goes_on, kinds_at_start, named, rows_at_start, stops, turn, unknown_flag}
use Rattle.command_line.proofs.Walking.{unknown_option}

-- each word is a text
abbrev pub AreTexts : List Text → Type 0
AreTexts [] = Unit {0}
AreTexts (word ∷ words) = IsUtf8 word × AreTexts words

-- the walk while no option wants a value
abbrev free_at : List Field → Option Field → ℕ → Bool → Walk
free_at done last place trailing = at (holds done last) clap.idle place trailing

module _ (form : Form) where
  -- after `--` each word is a positional one
  trails : (words : List Text) (done : List Field) (last : Option Field) (place : ℕ) (names : List Text) →
      IsKnownLast (built_rules form) last
      → Reads (built_rules form) place names
      → Continues form (free_at done last place true) words done last (fields_in form names (map Positional words))
  trails [] done last place names known reads = ends form done last place true known
  trails (word ∷ words) done last place names known reads =
      word_goes form done last place true word words names (Some (map Positional words)) known reads
      (trailing_word form (holds done last) place word)
      (λ done_now name others is next. trails words done_now (Some (field_of name word)) _ others is next)

  -- from any place of the walk on, where no option wants a value, and where one does
  record Walks (words : List Text) : Type 0 where
    free : (done : List Field) (last : Option Field) (place : ℕ) (names : List Text) →
        IsKnownLast (built_rules form) last
        → Reads (built_rules form) place names
        → Continues form (free_at done last place false) words done last
        (named form names (pieces_after form.options words None))
    wanting : (done : List Field) (place : ℕ) (name : Text) (names : List Text) → is_among name form.options ≡ true
        → Reads (built_rules form) place names
        → Continues form (wants done name place false) words done None
        (named form names (pieces_after form.options words (Some name)))

  no_words : Walks []
  no_words = record {
    free = λ done last place names known reads. ends form done last place false known;
    wanting = λ done place name names among reads. wants_ends form done place name (option_known form name among) false;
  }

  module _ (word : Text) (words : List Text) (walks : Walks words) (utf8 : IsUtf8 word) (done : List Field)
      (last : Option Field) (place : ℕ)
      (names : List Text) (known : IsKnownLast (built_rules form) last)
      (reads : Reads (built_rules form) place names) where
    abbrev start : Walk
    start = free_at done last place false

    -- what the word and those after it give, by its look
    abbrev given : Look → Option (List Field)
    given look = named form names (piece_then form.options word words (pieces_after form.options words) look)

    -- what comes after the word
    abbrev after : Option (List Piece)
    after = pieces_after form.options words None

    -- the word fails, and gives no fields
    fails_and_gives : (fields : Option (List Field)) → Fails (turn form start word) → fields ≡ None
        → Continues form start (word ∷ words) done last fields
    fails_and_gives fields fails none =
        gives_as form start (word ∷ words) _ None (ap (λ fields. fields_after form done last fields) none)
        (stops form start word words fails)

    -- the name is none of an option
    valued_fails : (b : Bool) (name value : Text) → is_among name form.options ≡ false → is_among name form.flags ≡ b
        → LooksLike word (Long name (Some value)) → Fails (turn form start word)
    valued_fails false name value no_option e looks =
        unknown_fails form (holds done last) clap.idle place word refl name (Some value) no_option e looks
    valued_fails true name value no_option e looks =
        valued_flag_fails form (holds done last) clap.idle place word refl name value no_option e looks

    flag_read : (b : Bool) (name : Text) → is_among name form.options ≡ false → is_among name form.flags ≡ b
        → LooksLike word (Long name None)
        → Continues form start (word ∷ words) done last (named form names (and_then (Flag name) after))
    flag_read false name no_option unknown looks =
        fails_and_gives (named form names (and_then (Flag name) after))
        (unknown_fails form (holds done last) clap.idle place word refl name None no_option unknown looks)
        (unknown_flag form name names after unknown)
    flag_read true name no_option among looks =
        flag_goes form done last place word words known name no_option among looks names after
        (λ done_now. walks.free done_now None place names tt reads)

    option_read : (b : Bool) (name : Text) (value : Option Text) → is_among name form.options ≡ b
        → LooksLike word (Long name value)
        → Continues form start (word ∷ words) done last (given (Long name value))
    option_read false name (Some value) no_option looks =
        fails_and_gives (given (Long name (Some value)))
        (valued_fails (is_among name form.flags) name value no_option refl looks)
        (unknown_option form name value names after no_option)
    option_read false name None no_option looks =
        rw no_option (flag_read (is_among name form.flags) name no_option refl looks)
    option_read true name (Some value) among looks =
        attached_goes form done last place word words known name among value looks names after
        (λ done_now. walks.free done_now None place names tt reads)
    option_read true name None among looks =
        rw among
        (wanting_goes form done last place word words known name among looks
        (named form names (pieces_after form.options words (Some name)))
        (λ done_now. walks.wanting done_now place name names among reads))

    word_read : (look : Look) → LooksLike word look → Continues form start (word ∷ words) done last (given look)
    word_read End looks =
        goes_on form start (free_at done last place true) word words _
        (end_kinds form (holds done last) clap.idle place word refl looks)
        (end_moves form (holds done last) clap.idle place word refl looks)
        (trails words done last place names known reads)
    word_read (Long name value) looks = option_read (is_among name form.options) name value refl looks
    word_read Short looks =
        stops form start word words (short_fails form (holds done last) clap.idle place word refl refl utf8 looks)
    word_read Plain looks =
        word_goes form done last place false word words names (pieces_after form.options words None) known reads
        (plain_word form (holds done last) place word looks)
        (λ done_now name others is next. walks.free done_now (Some (field_of name word)) _ others is next)

  walks : (words : List Text) → AreTexts words → Walks words
  walks [] texts = no_words
  walks (word ∷ words) texts = record {
    free = λ done last place names known reads.
        word_read word words (walks words texts.1) texts.0 done last place names known reads
        (look_of word) (looks word);
    wanting = λ done place name names among reads.
        let later =
        (walks words texts.1).free done (Some (field_of name word)) place names
        (option_known form name among) reads in
        value_goes form done place name (option_known form name among) names word words
        (pieces_after form.options words) among reads texts.0 later
        (look_of word) (looks word);
  }

  -- ---- the whole

  same_fields : (words : List Text)
      → fields_after form [] None (named form form.positionals (pieces_of form.options words)) ≡ fields_of form words
  same_fields words = go (pieces_of form.options words)
    where
      go : (pieces : Option (List Piece)) → fields_after form [] None (named form form.positionals pieces)
          ≡ option_and_then (λ some.
          option_and_then (λ fields. cond (are_whole form fields) (Some fields) None)
          (fields_in form form.positionals some)) pieces
      go None = refl
      go (Some pieces) = refl

  built_form : (built (app_by form)).top ≡ built_shape form
  built_form =
      ap (λ (rules : List Rule). let shape : Shape = record (built_shape form) { rules = rules } in shape)
      (filled_form form)

  -- the parse fails exactly where the form does not take the words, and its matches are the form's fields
  pub taken : (words : List Text) → length form.positionals < usize_max → AreTexts words
      → Agrees form (fault_of (app_by form) words) (matches_of (app_by form) words) (fields_of form words)
  taken words few texts =
      agrees_along form (fields_of form words) _ _ _ _
      (leaf_fault (built (app_by form)) clap.nothing_held words refl
      ∙ ap (λ (shape : Shape). level_fault shape [] clap.nothing_held words false []) built_form
      ∙ kinds_at_start form words)
      (ap (λ (rules : List Rule). clap.rows_after rules [] words) (filled_form form) ∙ rows_at_start form words)
      (gives_as form (free_at [] None 1 false) words _ _ (sym (same_fields words))
      ((walks words texts).free [] None 1 form.positionals tt (form_reads form few)))
