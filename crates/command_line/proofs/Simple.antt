-- the command of a form is simple, and none of its arguments has a rule on another
use Rattle.std.proofs.Common.{◌≡◌, ◌∙◌, ℕ, ◌+◌, ◌&&◌, min, Bool, true, false, is_some, List, [], ◌∷◌, ◌++◌, map, Option}
use Rattle.std.proofs.Common.{None, Some, refl, ap₂, count_by}
use Rattle.std.proofs.lemmas.List.Folds.{list_all-append}
use Rattle.std.specs.List.{list_all, list_any}
use Rattle.clap.specs.Faults.{is_simple_and_free}
use Rattle.clap.specs.Lexer.{usize_max}
use Rattle.clap.specs.Walk.{Rule, Text, is_early_multiple}
use Rattle.command_line.specs.Fields.{Form}
use Rattle.command_line.specs.Simple.{app_by, flag_rule, option_rule, positional_rule, rules_of}
use Rattle.command_line.proofs.Rules.{built_flag, built_option, built_rules, filled_form, named_rules, numbered, single}

all_of_names : (test : Rule → Bool) (rule : Text → Rule) → ((name : Text) → test (rule name) ≡ true)
    → (names : List Text)
    → list_all test (map rule names) ≡ true
all_of_names test rule passes [] = refl
all_of_names test rule passes (name ∷ names) = ap₂ (λ a b. a && b) (passes name) (all_of_names test rule passes names)

both_pass : (test : Rule → Bool) (some more : List Rule) → list_all test some ≡ true → list_all test more ≡ true
    → list_all test (some ++ more) ≡ true
both_pass test some more first second = list_all-append test some more ∙ ap₂ (λ a b. a && b) first second

-- the arguments of a form before and after they are built
module _ (form : Form) (test : Rule → Bool) where
  all_rules : ((name : Text) → test (positional_rule name) ≡ true) → ((name : Text) → test (option_rule name) ≡ true)
      → ((name : Text) → test (flag_rule name) ≡ true) → list_all test (rules_of form) ≡ true
  all_rules words options flags =
      both_pass test (map positional_rule form.positionals) (map option_rule form.options ++ map flag_rule form.flags)
      (all_of_names test positional_rule words form.positionals)
      (both_pass test (map option_rule form.options) (map flag_rule form.flags)
      (all_of_names test option_rule options form.options) (all_of_names test flag_rule flags form.flags))

  module _ (passes : (id : Text) (long : Option Text) (index : Option ℕ) (required : Bool)
      → test (single id long index required) ≡ true) where
    all_numbered : (place : ℕ) (names : List Text) → list_all test (numbered place names) ≡ true
    all_numbered place [] = refl
    all_numbered place (name ∷ names) =
        ap₂ (λ a b. a && b) (passes name None (Some place) true) (all_numbered (min (place + 1) usize_max) names)

    all_built : ((name : Text) → test (built_flag name) ≡ true) → list_all test (built_rules form) ≡ true
    all_built flags =
        both_pass test (numbered 1 form.positionals) (named_rules form.options form.flags)
        (all_numbered 1 form.positionals)
        (both_pass test (map built_option form.options) (map built_flag form.flags)
        (all_of_names test built_option (λ name. passes name (Some name) None false) form.options)
        (all_of_names test built_flag flags form.flags))

-- no argument takes several values
none_early : (count : ℕ) (place : ℕ) (names options flags : List Text)
    → list_any (is_early_multiple count) (numbered place names ++ named_rules options flags) ≡ false
none_early count place [] [] [] = refl
none_early count place [] [] (name ∷ flags) = none_early count place [] [] flags
none_early count place [] (name ∷ options) flags = none_early count place [] options flags
none_early count place (name ∷ names) options flags = none_early count (min (place + 1) usize_max) names options flags

pub is_simple_form : (form : Form) → is_simple_and_free (app_by form) ≡ true
is_simple_form form =
    let simple = all_rules form (λ rule. rule.is_simple) (λ name. refl) (λ name. refl) (λ name. refl) in
    let built_simple = all_built form (λ rule. rule.is_simple) (λ id long index required. refl) (λ name. refl) in
    let free = all_built form (λ rule. rule.is_free) (λ id long index required. refl) (λ name. refl) in
    let single_values =
    none_early (count_by (λ rule. is_some rule.index) (built_rules form)) 1 form.positionals form.options form.flags in
    rw (filled_form form, simple, built_simple, single_values, free) refl
