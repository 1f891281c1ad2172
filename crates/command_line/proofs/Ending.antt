-- what `clap` checks after the last word
use Rattle.std.proofs.Common.{◌≡◌, ◌∙◌, ℕ, ◌&&◌, ◌||◌, Bool, cond, true, false, not, List, [], ◌∷◌, ◌++◌, fold, Option}
use Rattle.std.proofs.Common.{None, Some, refl, ap, ap₂, sym, subst}
use Rattle.std.specs.List.{list_all, list_any}
use Rattle.std.proofs.lemmas.List.{append-nil}
use Rattle.clap.specs.Kinds.{or_else}
use Rattle.clap.specs.Takes.{is_given}
use Rattle.clap.specs.Walk.{Held, Row, Rule, Text, Walk, finished, with_default}
use Rattle.clap.specs.Walk as clap
use Rattle.clap.specs.declared.error.kind.ErrorKind.TheVariants.{MissingRequiredArgument}
use Rattle.command_line.specs.Fields.{Field, Form, has_field}
use Rattle.command_line.proofs.Rows.{rows_of_fields}
use Rattle.command_line.proofs.Defaults.{is_given-all, no_default_fails}
use Rattle.command_line.proofs.Rules.{built_rules, named_rules, next_place, numbered}
use Rattle.command_line.proofs.Uses.{Fails, IsKnownLast, Repeats, Settles, first_fails, holds, with_last}
use Rattle.command_line.proofs.Walking.{Agrees, Continues, Gives, agrees_along, all_rows, at, by_settling, end_kinds}
use Rattle.command_line.proofs.Walking.{fields_after, kinds_at_end, last_kinds, rows_at_end}

-- ---- what is missing

abbrev is_missing : List Row → Rule → Bool
is_missing rows rule = rule.required && not (is_given rule.id rows)

none_required : (rows : List Row) (options flags : List Text)
    → list_any (is_missing rows) (named_rules options flags) ≡ false
none_required rows [] [] = refl
none_required rows [] (name ∷ flags) = none_required rows [] flags
none_required rows (name ∷ options) flags = none_required rows options flags

word_missing : (form : Form) (fields : List Field) (place : ℕ) (names : List Text) (rules : List Rule)
    → list_any (is_missing (all_rows form fields)) rules ≡ false
    → list_any (is_missing (all_rows form fields)) (numbered place names ++ rules)
    ≡ not (list_all (has_field fields) names)
word_missing form fields place [] rules none = none
word_missing form fields place (name ∷ names) rules none =
    ap₂ (λ a b. not a || b) (is_given-all form fields name)
    (word_missing form fields (next_place place) names rules none)
    ∙ de_morgan (has_field fields name) (list_all (has_field fields) names)
  where
    de_morgan : (a b : Bool) → (not a || not b) ≡ not (a && b)
    de_morgan true b = refl
    de_morgan false b = refl

missing : (form : Form) (fields : List Field)
    → list_any (is_missing (all_rows form fields)) (built_rules form)
    ≡ not (list_all (has_field fields) form.positionals)
missing form fields =
    word_missing form fields 1 form.positionals (named_rules form.options form.flags)
    (none_required (all_rows form fields) form.options form.flags)

-- ---- the end

module _ (form : Form) (fields : List Field) where
  -- everything is used: what is missing decides
  settled_kinds : (b : Bool) → list_all (has_field fields) form.positionals ≡ b
      → last_kinds form (rows_of_fields fields) (all_rows form fields) ≡ cond b [] (MissingRequiredArgument ∷ [])
  settled_kinds true e = rw (no_default_fails form (rows_of_fields fields), missing form fields, e) refl
  settled_kinds false e = rw (no_default_fails form (rows_of_fields fields), missing form fields, e) refl

  settled_agrees : (b : Bool) → list_all (has_field fields) form.positionals ≡ b
      → Agrees form (last_kinds form (rows_of_fields fields) (all_rows form fields)) (all_rows form fields)
      (fields_after form fields None (Some []))
  settled_agrees true e = rw (append-nil fields, e) (settled_kinds true e, refl)
  settled_agrees false e = rw (append-nil fields, e) (λ none. let kinds = sym (settled_kinds false e) ∙ none in cc)

-- no word is left, and no option wants a value
pub ends : (form : Form) (done : List Field) (last : Option Field) (place : ℕ) (trailing : Bool) →
    IsKnownLast (built_rules form) last
    → Continues form (at (holds done last) clap.idle place trailing) [] done last (Some [])
ends form done last place trailing known = by_settling form walk [] done last (Some []) known fails goes
  where
    walk : Walk
    walk = at (holds done last) clap.idle place trailing

    fails : Repeats (built_rules form) done last → Gives form (at (holds done last) clap.idle place trailing) [] None
    fails repeats =
        subst Fails (sym (kinds_at_end form (at (holds done last) clap.idle place trailing)))
        (first_fails _ _ repeats.fails)

    goes : Settles (built_rules form) done last
        → Continues form (at (holds done last) clap.idle place trailing) [] (with_last done last) None (Some [])
    goes settled =
        let fields = with_last done last in
        let all : finished (built_rules form) (holds done last) ≡ all_rows form fields =
        ap (λ (held : Held). fold with_default held.rows (built_rules form)) settled.held in
        let kinds : end_kinds form (holds done last) ≡ last_kinds form (rows_of_fields fields) (all_rows form fields) =
        ap (λ first. or_else first (last_kinds form (clap.settled (built_rules form) (holds done last)).rows
        (finished (built_rules form) (holds done last)))) settled.passes
        ∙ ap (λ (held : Held). last_kinds form held.rows (fold with_default held.rows (built_rules form)))
        settled.held in
        agrees_along form (fields_after form fields None (Some [])) _ _ _ _
        (kinds_at_end form (at (holds done last) clap.idle place trailing) ∙ kinds)
        (rows_at_end form (at (holds done last) clap.idle place trailing) ∙ all)
        (settled_agrees form fields (list_all (has_field fields) form.positionals) refl)
