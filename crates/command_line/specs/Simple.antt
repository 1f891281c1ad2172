-- what the kit's `clap` is told of a form: a simple command
use Rattle.std.specs.Prelude.{ℕ, ◌≡◌, true, false, List, ◌++◌, map, codes, Option, Some}
use Rattle.std.specs.Borrow.{Bor}
use Rattle.clap.specs.Matches.{first_value, found_of, one_text}
use Rattle.clap.specs.Simple.{App, new_app, new_rule, on_top}
use Rattle.clap.specs.Values.{bool_text}
use Rattle.clap.specs.Walk.{Rule}
use Rattle.clap.specs.declared.builder.action.ArgAction.TheVariants.{Set, SetTrue}
use Rattle.clap.specs.declared.error.kind.ErrorKind.{ErrorKind}
use Rattle.clap.specs.declared.error.kind.ErrorKind.TheVariants.{OutOfMemory}
use Rattle.command_line.specs.declared.fault.WordsFault.{WordsFault}
use Rattle.command_line.specs.declared.fault.WordsFault.TheVariants.{NoMemory, Usage}
use Rattle.command_line.specs.declared.form.Form as code
use Rattle.command_line.specs.declared.matching.Given.{Given}
use Rattle.command_line.specs.Fields.{Field, Form, fields_of, has_field, value_in}
use Rattle.command_line.specs.Pieces.{is_among}

abbrev pub names_of : List (Bor (List ℕ)) → List (List ℕ)
names_of = map (λ name. name.now)

abbrev pub form_of : code.Form → Form
form_of form = record {
  positionals = names_of form.positionals.now;
  options = names_of form.options.now;
  flags = names_of form.flags.now;
}

-- a positional word, which is required, an option with one value, and a flag
abbrev pub positional_rule : List ℕ → Rule
positional_rule name = record (new_rule name) { required = true; action = Some Set }

abbrev pub option_rule : List ℕ → Rule
option_rule name = record (new_rule name) { long = Some name; action = Some Set }

abbrev pub flag_rule : List ℕ → Rule
flag_rule name = record (new_rule name) { long = Some name; action = Some SetTrue }

abbrev pub rules_of : Form → List Rule
rules_of form = map positional_rule form.positionals ++ (map option_rule form.options ++ map flag_rule form.flags)

-- the command with these arguments, and without help
abbrev pub app_with : List Rule → App
app_with rules =
    on_top (λ shape. record shape { rules = rules; no_binary_name = true; disable_help_flag = true })
    (new_app (codes "elide"))

abbrev pub app_by : Form → App
app_by form = app_with (rules_of form)

-- what is given for a name, and what a flag is read from
abbrev pub given_for : Given → List ℕ → Option (List ℕ)
given_for given = first_value (found_of given.matches)

abbrev pub flag_text : Given → List ℕ → Option (List ℕ)
flag_text given = one_text (found_of given.matches)

-- the name is that of a flag and of nothing else
pub record NamesFlag (form : Form) (name : List ℕ) : Type 0 where
  pub flag : is_among name form.flags ≡ true
  pub no_option : is_among name form.options ≡ false
  pub no_word : is_among name form.positionals ≡ false

-- the form takes the words, and they give the values of its fields: each flag says whether it has one
pub record HasFields (form : Form) (words : List (List ℕ)) (given : Given) : Type 0 where
  pub fields : List Field
  pub taken : fields_of form words ≡ Some fields
  pub values : (name : List ℕ) → is_among name form.flags ≡ false → given_for given name ≡ value_in fields name
  pub flags : (name : List ℕ) → NamesFlag form name → flag_text given name ≡ Some (bool_text (has_field fields name))

-- what an error of `clap` is: out of memory, or that it does not take the words
abbrev pub fault_by : ErrorKind → WordsFault
fault_by OutOfMemory = NoMemory
fault_by _ = Usage
