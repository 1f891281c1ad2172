-- what one word does to the walk of `clap` while an option wants its value
use Rattle.std.proofs.Common.{◌≡◌, ℕ, Bool, true, false, List, [], ◌∷◌, Option, None, Some, refl, sym, subst}
use Rattle.std.specs.Str.{IsUtf8}
use Rattle.std.proofs.lemmas.Slice.Eq.{bytes_eq-Decides}
use Rattle.std.proofs.Math.Bool.{and-false}
use Rattle.clap.specs.Faults.{settle_fault}
use Rattle.clap.specs.Kinds.{Kinds}
use Rattle.clap.specs.Walk.{Held, Text, Waiting, Walk, walked}
use Rattle.clap.specs.Walk as clap
use Rattle.command_line.specs.Fields.{Field, Form, field_of}
use Rattle.command_line.specs.Pieces.{Piece, Look, End, Long, Short, Plain, is_among, value_then}
use Rattle.command_line.proofs.Looks.{LooksLike}
use Rattle.command_line.proofs.Options.{attached_kinds, flag_kinds, named_kinds, short_fails, unknown_fails}
use Rattle.command_line.proofs.Options.{valued_flag_fails, wants}
use Rattle.command_line.proofs.Rules.{IsKnown, Reads, built_rules}
use Rattle.command_line.proofs.Rows.{rows_of_fields}
use Rattle.command_line.proofs.Uses.{Fails, first_fails, holds}
use Rattle.command_line.proofs.Walking.{Continues, Gives, after_word, at, gives_as, goes_on, kinds_at_end, named}
use Rattle.command_line.proofs.Walking.{next_option, stops, turn}

-- `--` ends the options
module _ (form : Form) (held : Held) (waiting : Waiting) (place : ℕ) (word : Text)
    (met : clap.subcommand_met [] waiting word ≡ None)
    (looks : LooksLike word End) where
  pub end_kinds : turn form (at held waiting place false) word ≡ []
  end_kinds = rw (met, looks) refl

  pub end_moves : after_word form (at held waiting place false) word ≡ at held waiting place true
  unfolding walked
  end_moves = rw (met, looks) refl

module _ (form : Form) (done : List Field) (place : ℕ) (name : Text) (known : IsKnown (built_rules form) name) where
  abbrev held : Held
  held = record { rows = rows_of_fields done; pending = Some (name, []); skip = 0 }

  abbrev waiting : Waiting
  waiting = clap.option name

  abbrev start : Walk
  start = wants done name place false

  abbrev settle_kinds : Kinds
  settle_kinds = settle_fault (built_rules form) false held

  -- an option without its value
  starved : Fails settle_kinds
  starved none = let kinds = rw known.found at none in cc

  pub wants_ends : (trailing : Bool) → Gives form (wants done name place trailing) [] None
  wants_ends trailing =
      subst Fails (sym (kinds_at_end form (wants done name place trailing))) (first_fails settle_kinds _ starved)

  -- after `--` no word is its value
  after_end_fails : (names : List Text) (word : Text) → Reads (built_rules form) place names →
      Fails (turn form (wants done name place true) word)
  after_end_fails [] word reads none = let kinds = rw reads at none in cc
  after_end_fails (other ∷ names) word reads none = let kinds = rw reads.0 at none in
      starved (rw (and-false _) at kinds)

  pub wants_after_end : (names words : List Text) → Reads (built_rules form) place names →
      Gives form (wants done name place true) words None
  wants_after_end names [] reads = wants_ends true
  wants_after_end names (word ∷ words) reads =
      stops form (wants done name place true) word words (after_end_fails names word reads)

  -- a word with two dashes is not its value
  other_fails : (b : Bool) (word other : Text) (value : Option Text) → is_among other form.options ≡ false
      → is_among other form.flags ≡ b
      → LooksLike word (Long other value) → Fails (turn form start word)
  other_fails false word other value no_option unknown looks =
      unknown_fails form held waiting place word refl other value no_option unknown looks
  other_fails true word other (Some value) no_option among looks =
      valued_flag_fails form held waiting place word refl other value no_option among looks
  other_fails true word other None no_option among looks =
      subst Fails (sym (flag_kinds form held waiting place word refl other no_option among looks))
      (first_fails _ [] (first_fails settle_kinds _ starved))

  option_fails : (b : Bool) (word other : Text) (value : Option Text) → is_among other form.options ≡ b →
      LooksLike word (Long other value)
      → Fails (turn form start word)
  option_fails false word other value no_option looks =
      other_fails (is_among other form.flags) word other value no_option refl looks
  option_fails true word other (Some value) among looks =
      subst Fails (sym (attached_kinds form held waiting place word refl other value among looks))
      (first_fails _ [] (first_fails settle_kinds _ starved))
  option_fails true word other None among looks =
      subst Fails (sym (named_kinds form held waiting place word refl other among looks))
      (first_fails settle_kinds [] starved)

  -- the walk after its value
  abbrev pub fed : Text → Walk
  fed word = at (holds done (Some (field_of name word))) clap.idle place false

  value_kinds : (word : Text) → LooksLike word Plain → turn form start word ≡ []
  value_kinds word looks = rw (looks.0, looks.1, looks.2) refl

  value_moves : (word : Text) → LooksLike word Plain → after_word form start word ≡ fed word
  unfolding walked
  value_moves word looks = rw (looks.0, looks.1, looks.2, known.found, (bytes_eq-Decides name name).1 refl) refl

  module _ (names : List Text) (word : Text) (words : List Text) (rest : Option Text → Option (List Piece))
      (among : is_among name form.options ≡ true)
      (reads : Reads (built_rules form) place names) (utf8 : IsUtf8 word)
      (later : Continues form (fed word) words done (Some (field_of name word)) (named form names (rest None))) where
    pub value_goes : (look : Look) → LooksLike word look
        → Continues form start (word ∷ words) done None (named form names (value_then name word rest look))
    value_goes End looks =
        goes_on form start (wants done name place true) word words None
        (end_kinds form held waiting place word refl looks) (end_moves form held waiting place word refl looks)
        (wants_after_end names words reads)
    value_goes (Long other value) looks =
        stops form start word words (option_fails (is_among other form.options) word other value refl looks)
    value_goes Short looks = stops form start word words (short_fails form held waiting place word refl refl utf8 looks)
    value_goes Plain looks =
        gives_as form start (word ∷ words) _ _ (next_option form done name word names (rest None) among)
        (goes_on form start (fed word) word words _ (value_kinds word looks) (value_moves word looks) later)
