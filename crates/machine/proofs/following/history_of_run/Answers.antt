-- the history has as many places as events, and those are as many as were given
use Rattle.std.proofs.Common.{◌≡◌, List, length, rules, subst}
use Rattle.std.specs.Result.{IfOk}
use Rattle.el_base.specs.declared.entries.Entry.{Entry}
use Rattle.el_model.proofs.Laws.Folds.{length-entries_from}
use Rattle.el_model.specs.Next.{entries_from}
use Rattle.el_model.specs.State.{begin}
use Rattle.machine.proofs.following.history_of_run.Goals as goal

pub returns : goal.returns
returns c =
    let from = begin c.args.image c.args.config in
    let events = c.args.events.now in
    let all = entries_from from events in
    let made : c.history.result.now.entries ≡ all = search rules in
    subst (λ places. IfOk c.copy_of.result (λ history. history ≡ record { entries = all; places = places }))
    (length-entries_from from events)
    (subst (λ (list : List Entry). IfOk c.copy_of.result
    (λ history. history ≡ record { entries = list; places = length list })) made
    c.copy_of.ensures)
