-- the rule of an SC that succeeds in an armed section
use Rattle.std.proofs.Common.{◌≡◌, ◌∙◌, ℕ, Bool, true, false, ◌&&◌, ◌==◌, not, Some, refl, ap, sym, if◌then◌else◌}
use Rattle.el_base.specs.Line.{line_number}
use Rattle.el_base.proofs.Laws.Tests.{number_of_test}
use Rattle.el_model.specs.Armed.{ArmedRule, exchange_rule}
use Rattle.el_model.specs.Conflicts.{is_wanted_to_write}
use Rattle.el_model.specs.State.{ModelState}
use Rattle.el_model.specs.Upcoming.{changes_word}
use Rattle.rv_alu.specs.Loaded.{loaded}
use Rattle.rv_flat.specs.FlatState.{FlatState}
use Rattle.rv_flat.specs.Memory.{byte_in}
use Rattle.step_rules.proofs.Laws.Begins.{told}
use Rattle.step_rules.specs.Actions.{swap_over}
use Rattle.step_rules.specs.Rules.{HasOld, armed_of, completing_rule}
use Rattle.step_rules.specs.declared.in_section.Progress.{Progress}
use Rattle.step_rules.specs.declared.upcoming.Exchange as exchanges

-- what the section keeps of its word counts only where the SC is to that word
same_where_own : (exchange : exchanges.Exchange) (progress : Progress) (shown : FlatState) (wanted : Bool) →
    HasOld progress shown → completing_rule (told exchange progress.old) progress.word wanted
    ≡ completing_rule (swap_over (byte_in shown.base shown.bytes) exchange) progress.word wanted
same_where_own exchange progress shown wanted old = by (exchange.word == progress.word) refl
  where
    byte : ℕ → ℕ
    byte = byte_in shown.base shown.bytes

    by : (own : Bool) → (exchange.word == progress.word) ≡ own →
        (if own && changes_word (told exchange progress.old) && not wanted
        then ArmedRule.Elides (told exchange progress.old) else ArmedRule.LetsGo)
        ≡ (if own && changes_word (swap_over byte exchange) && not wanted
        then ArmedRule.Elides (swap_over byte exchange) else ArmedRule.LetsGo)
    by true is =
        let value : progress.old ≡ loaded byte exchange.word 4 =
        old ∙ ap (λ word. loaded byte word 4) (sym (number_of_test exchange.word progress.word is)) in
        ap (λ found. if changes_word (told exchange found) && not wanted then ArmedRule.Elides (told exchange found)
        else ArmedRule.LetsGo) value
    by false is = refl

pub completes_shown : (state : ModelState) (h : ℕ) (exchange : exchanges.Exchange) (progress : Progress)
    (shown : FlatState) (wanted : Bool) → HasOld progress shown →
    wanted ≡ is_wanted_to_write state h (line_number progress.word) →
    completing_rule (told exchange progress.old) progress.word wanted
    ≡ exchange_rule state h (armed_of progress) (Some (swap_over (byte_in shown.base shown.bytes) exchange))
completes_shown state h exchange progress shown wanted old asked =
    same_where_own exchange progress shown wanted old
    ∙ ap (completing_rule (swap_over (byte_in shown.base shown.bytes) exchange) progress.word) asked
