-- what `clap` answers at the words of a form, in the words of the form
use Rattle.std.proofs.Common.{◌≡◌, ◌∙◌, ◌<◌, true, List, [], ◌∷◌, length, Option, None, Some, String, Result, Ok, Err}
use Rattle.std.proofs.Common.{IsErrAnd, inl, inr, refl, ap, sym, subst}
use Rattle.std.specs.Global.{Global}
use Rattle.std.proofs.lemmas.Str.{IsUtf8-string_bytes}
use Rattle.clap.specs.Faults.{fault_of, is_simple_and_free}
use Rattle.clap.specs.Kinds.{HasKind, Kinds}
use Rattle.clap.specs.Lexer.{usize_max}
use Rattle.clap.specs.Matches.{found_of}
use Rattle.clap.specs.Simple.{App, HasMatchesOf, is_simple, matches_of}
use Rattle.clap.specs.Values.{kind_of}
use Rattle.clap.specs.Walk.{Text, first_of, one_of}
use Rattle.clap.specs.declared.error.Error.{Error}
use Rattle.clap.specs.declared.error.kind.ErrorKind.TheVariants.{OutOfMemory}
use Rattle.clap.specs.declared.parser.matches.ArgMatches.{ArgMatches}
use Rattle.clap.proofs.WalkLemmas.{both, first_value-rows, one_text-rows}
use Rattle.command_line.specs.Fields.{Field, Form, fields_of}
use Rattle.command_line.specs.Simple.{HasFields, app_by, fault_by}
use Rattle.command_line.specs.Words.{texts}
use Rattle.command_line.specs.declared.fault.WordsFault.{WordsFault}
use Rattle.command_line.specs.declared.fault.WordsFault.TheVariants.{Usage}
use Rattle.command_line.proofs.Defaults.{first_of-all, flag_of-all}
use Rattle.command_line.proofs.Flags.{flag_value}
use Rattle.command_line.proofs.Simple.{is_simple_form}
use Rattle.command_line.proofs.Taken.{AreTexts, taken}
use Rattle.command_line.proofs.Walking.{Agrees}

-- words are texts
pub are_texts : (words : List (String Global)) → AreTexts (texts words)
are_texts [] = tt
are_texts (word ∷ words) = (IsUtf8-string_bytes word, are_texts words)

-- an error that is a refusal of the words is no lack of memory
pub not_memory : {T : Type 0} (result : Result T WordsFault) (error : Error)
    → IsErrAnd result (λ fault. fault ≡ fault_by (kind_of error)) → result ≡ Err Usage → kind_of error ≡ OutOfMemory → ⊥
not_memory (Ok given) error from usage memory = absurd from
not_memory (Err fault) error from usage memory = let is : fault ≡ fault_by OutOfMemory = from ∙ ap fault_by memory in cc

module _ (form : Form) (words : List Text) (few : length form.positionals < usize_max) (are : AreTexts words)
    (app : App) (is : app ≡ app_by form) where
  simple : is_simple app ≡ true
  simple = subst (λ (a : App). is_simple a ≡ true) (sym is) (both (is_simple (app_by form)) _ (is_simple_form form)).0

  free : is_simple_and_free app ≡ true
  free = ap is_simple_and_free is ∙ is_simple_form form

  agree : Agrees form (fault_of app words) (matches_of app words) (fields_of form words)
  agree =
      subst (λ (a : App). Agrees form (fault_of a words) (matches_of a words) (fields_of form words)) (sym is)
      (taken form words few are)

  -- a parse that succeeds
  pub has_fields : (matches : ArgMatches) → HasMatchesOf app words matches →
      (is_simple_and_free app ≡ true → fault_of app words ≡ [])
      → HasFields form words (record { matches = matches })
  has_fields matches exact passes = go (fields_of form words) refl agree
    where
      go : (fields : Option (List Field)) → fields_of form words ≡ fields
          → Agrees form (fault_of app words) (matches_of app words) fields
          → HasFields form words (record { matches = matches })
      go None e fails = absurd (fails (passes free))
      go (Some fields) e same = record {
        fields = fields;
        taken = e;
        values = λ name no_flag.
            first_value-rows (found_of matches) name ∙ ap (first_of name) ((exact simple).0 ∙ same.1)
            ∙ first_of-all form fields name no_flag;
        flags = λ name names.
            one_text-rows (found_of matches) name ∙ ap (one_of name) ((exact simple).0 ∙ same.1)
            ∙ flag_of-all form fields name names.flag (flag_value form words name names fields e);
      }

  -- a parse that fails, and not for lack of memory
  pub no_fields : (error : Error) → (is_simple_and_free app ≡ true → HasKind (fault_of app words) error) →
      (kind_of error ≡ OutOfMemory → ⊥)
      → fields_of form words ≡ None
  no_fields error fails other = go (fields_of form words) refl agree
    where
      go : (fields : Option (List Field)) → fields_of form words ≡ fields
          → Agrees form (fault_of app words) (matches_of app words) fields
          → fields_of form words ≡ None
      go None e same = e
      go (Some fields) e same = elim (subst (λ (kinds : Kinds). HasKind kinds error) same.0 (fails free)) [
        | inl memory ↦ absurd (other memory)
        | inr among ↦ absurd among
      ]
