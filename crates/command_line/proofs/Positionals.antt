-- what a positional word does to the walk of `clap`
use Rattle.std.proofs.Common.{◌≡◌, ◌∙◌, ℕ, Bool, true, false, List, [], ◌∷◌, Option, None, Some, refl, ap, sym, subst}
use Rattle.std.proofs.Math.Bool.{and-false, or-false}
use Rattle.clap.specs.Faults.{settle_fault, step_fault}
use Rattle.clap.specs.Kinds.{Kinds}
use Rattle.clap.specs.Walk.{Held, Text, Walk, arg_by_index, to_positional, walked}
use Rattle.clap.specs.Walk as clap
use Rattle.command_line.specs.Fields.{Field, Form, field_of}
use Rattle.command_line.specs.Pieces.{Piece, Positional, Plain, and_then}
use Rattle.command_line.proofs.Looks.{LooksLike}
use Rattle.command_line.proofs.Rules.{IsKnown, Reads, built_rules, next_place, single}
use Rattle.command_line.proofs.Uses.{Fails, IsKnownLast, Repeats, Settles, holds, with_last}
use Rattle.command_line.proofs.Walking.{Continues, Gives, after_word, at, built_shape, by_settling, gives_as, goes_on}
use Rattle.command_line.proofs.Walking.{named, next_word, stops, turn}
use Rattle.command_line.proofs.Walking.{word_too_many}

-- the word goes to a positional, whatever it looks like
pub record IsWord (form : Form) (held : Held) (place : ℕ) (trailing : Bool) (word : Text) : Type 0 where
  pub kinds : turn form (at held clap.idle place trailing) word ≡ step_fault (built_shape form) place held clap.value
  pub moves : after_word form (at held clap.idle place trailing) word
      ≡ to_positional (built_rules form) (arg_by_index (built_rules form) place) word
      (at held clap.idle place trailing) held

pub trailing_word : (form : Form) (held : Held) (place : ℕ) (word : Text) → IsWord form held place true word
unfolding walked
trailing_word form held place word = record { kinds = refl; moves = refl }

pub plain_word : (form : Form) (held : Held) (place : ℕ) (word : Text) → LooksLike word Plain →
    IsWord form held place false word
unfolding walked
plain_word form held place word looks = record {
  kinds = rw (looks.0, looks.1, looks.2) refl;
  moves = rw (looks.0, looks.1, looks.2) refl;
}

-- the walk in which a positional word of this name was read last
abbrev pub read_word : List Field → Text → Text → ℕ → Bool → Walk
read_word done name word place trailing =
    at (holds done (Some (field_of name word))) clap.idle (next_place place) trailing

module _ (form : Form) (done : List Field) (last : Option Field) (place : ℕ) (trailing : Bool) (word : Text)
    (words : List Text) where
  abbrev before : Walk
  before = at (holds done last) clap.idle place trailing

  abbrev step_kinds : Kinds
  step_kinds = step_fault (built_shape form) place (holds done last) clap.value

  no_place : arg_by_index (built_rules form) place ≡ None → Fails step_kinds
  no_place none fails = let kinds = rw none at fails in cc

  module _ (name : Text)
      (found : arg_by_index (built_rules form) place ≡ Some (single name None (Some place) true)) where
    at_place : step_kinds ≡ settle_fault (built_rules form) false (holds done last)
    at_place = rw found (rw (and-false _) refl)

    moved : Settles (built_rules form) done last
        → to_positional (built_rules form) (arg_by_index (built_rules form) place) word before (holds done last)
        ≡ read_word (with_last done last) name word place trailing
    moved settled =
        ap (λ a. to_positional (built_rules form) a word before (holds done last)) found
        ∙ rw (and-false _, or-false trailing)
        (ap (λ (held : Held). at (clap.pushed name word held) clap.idle (next_place place) trailing) settled.held)

  -- what comes after a positional word of this name
  abbrev pub WordContinues : List Field → Text → List Text → Option (List Piece) → Type 0
  WordContinues done_now name names pieces =
      Continues form (read_word done_now name word place trailing) words done_now (Some (field_of name word))
      (named form names pieces)

  pub word_goes : (names : List Text) (pieces : Option (List Piece)) → IsKnownLast (built_rules form) last →
      Reads (built_rules form) place names
      → IsWord form (holds done last) place trailing word
      → ((done : List Field) (name : Text) (names : List Text) → IsKnown (built_rules form) name →
      Reads (built_rules form) (next_place place) names
      → WordContinues done name names pieces)
      → Continues form before (word ∷ words) done last (named form names (and_then (Positional word) pieces))
  word_goes [] pieces known reads is rest =
      gives_as form before (word ∷ words) _ None (word_too_many form done last word pieces)
      (stops form before word words (subst Fails (sym is.kinds) (no_place reads)))
  word_goes (name ∷ names) pieces known reads is rest =
      by_settling form before (word ∷ words) done last (named form (name ∷ names) (and_then (Positional word) pieces))
      known fails goes
    where
      fails : Repeats (built_rules form) done last → Gives form before (word ∷ words) None
      fails repeats = stops form before word words (subst Fails (sym (is.kinds ∙ at_place name reads.0)) repeats.fails)

      goes : Settles (built_rules form) done last
          → Continues form before (word ∷ words) (with_last done last) None
          (named form (name ∷ names) (and_then (Positional word) pieces))
      goes settled =
          let done_now = with_last done last in
          goes_on form before (read_word done_now name word place trailing) word words _
          (is.kinds ∙ at_place name reads.0 ∙ settled.passes) (is.moves ∙ moved name reads.0 settled)
          (gives_as form (read_word done_now name word place trailing) words _ _
          (next_word form done_now name word names pieces)
          (rest done_now name names reads.1 reads.2))
