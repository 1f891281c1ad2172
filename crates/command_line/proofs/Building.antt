-- a simple command gets its arguments one after the other
use Rattle.std.proofs.Common.{◌≡◌, ◌∙◌, ℕ, ◌+◌, ◌<◌, false, List, [], ◌∷◌, ◌++◌, map, take, get_or, length}
use Rattle.std.proofs.Common.{append_assoc, ap, ap₂, sym}
use Rattle.std.specs.Borrow.{Bor}
use Rattle.std.proofs.lemmas.List.{map-append, take_more}
use Rattle.clap.specs.Words.{AddsArg, Rule, app_of, rule_of, with_rule}
use Rattle.clap.specs.declared.builder.arg.Arg.{Arg}
use Rattle.clap.specs.declared.builder.command.Command.{Command}
use Rattle.command_line.specs.Simple.{app_with, names_of}

module _ (rule : List ℕ → Rule) (start : List Rule) (names : List (Bor (List ℕ))) (i : ℕ) (name : Bor (List ℕ)) where
  rules_more : i < length names
      → (start ++ map rule (names_of (take i names))) ++ rule (get_or names i name).now ∷ []
      ≡ start ++ map rule (names_of (take (i + 1) names))
  rules_more below =
      append_assoc start _ _ ∙ ap (λ rules. start ++ rules)
      (sym (map-append rule (names_of (take i names)) _)
      ∙ ap (map rule) (sym (map-append (λ (s : Bor (List ℕ)). s.now) (take i names) _)
      ∙ ap names_of (sym (take_more names i name below))))

  -- one argument more
  pub app_more : (before after : Command) (arg : Arg) → i < length names → AddsArg before arg after → arg.global ≡ false
      → rule_of arg ≡ rule (get_or names i name).now →
      app_of before ≡ app_with (start ++ map rule (names_of (take i names)))
      → app_of after ≡ app_with (start ++ map rule (names_of (take (i + 1) names)))
  app_more before after arg below added local is so_far =
      added.shape local ∙ ap₂ with_rule so_far is ∙ ap app_with (rules_more below)
