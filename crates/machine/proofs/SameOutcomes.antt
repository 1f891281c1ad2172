-- outcomes that compare as equal are the same
use Rattle.std.proofs.Common.{◌≡◌, ◌∙◌, true, refl, ap, sym, arith}
use Rattle.std.specs.Cmp.Lexicographic.{same_text}
use Rattle.el_base.proofs.Laws.HartIds.{same_hart}
use Rattle.el_base.proofs.Laws.Lines.{same_line}
use Rattle.el_base.proofs.Laws.SameLosers.{same_freed, same_losers}
use Rattle.el_base.specs.Losers.{decoded_winner}
use Rattle.el_base.specs.NibblePairs.{nibble_in}
use Rattle.el_base.specs.contracts.freed.FreedPartialEq.TheImpl as of_freed
use Rattle.el_base.specs.contracts.losers.LosersPartialEq.TheImpl as of_losers
use Rattle.el_base.specs.contracts.outcomes.OutcomePartialEq.TheImpl as of_outcomes
use Rattle.el_base.specs.declared.freed.Freed.{Freed}
use Rattle.el_base.specs.declared.losers.Losers.{Losers}
use Rattle.el_base.specs.declared.outcomes.Outcome.{Outcome}
use Rattle.el_base.specs.declared.outcomes.Outcome.TheVariants.{Idle, Stalled, Missed, Ran, Began, Buffered, Committed}
use Rattle.el_base.specs.declared.outcomes.Outcome.TheVariants.{RolledBack, Ordered, Served, Blocked, Delivered, Armed}
use Rattle.el_base.specs.declared.outcomes.Outcome.TheVariants.{LetGo}
use Rattle.el_base.proofs.Laws.Cases.{false_true}

one_losing : (one other : Losers) → of_losers.ghosts.eq one other ≡ true → one ≡ other
one_losing one other is =
    let pairs = same_text one.winners.pairs other.winners.pairs (sym is) in
    same_losers one other (λ h. ap (λ list. decoded_winner (nibble_in list h)) pairs)

one_freeing : (one other : Freed) → of_freed.ghosts.eq one other ≡ true → one ≡ other
one_freeing one other is =
    let pairs = same_text one.counts.pairs other.counts.pairs (sym is) in
    same_freed one other (λ h. ap (λ list. nibble_in list h) pairs)

-- what is told of two, part by part
pair_of : {A B C : Type 0} (f : A → B → C) {a b : A} {x y : B} → a ≡ b → x ≡ y → f a x ≡ f b y
pair_of f {a} {b} {x} {y} first second = ap (λ k. f k x) first ∙ ap (f b) second

pub same_outcome : (one other : Outcome) → of_outcomes.ghosts.eq one other ≡ true → one ≡ other
same_outcome Idle Idle is = refl
same_outcome Idle _ is = false_true is
same_outcome Stalled Stalled is = refl
same_outcome Stalled _ is = false_true is
same_outcome (Missed line need) (Missed other wanted) is =
    pair_of Missed (same_line line other (grind arith)) (grind arith)
same_outcome (Missed line need) _ is = false_true is
same_outcome Ran Ran is = refl
same_outcome Ran _ is = false_true is
same_outcome Began Began is = refl
same_outcome Began _ is = false_true is
same_outcome Buffered Buffered is = refl
same_outcome Buffered _ is = false_true is
same_outcome (Committed count) (Committed other) is = ap Committed (grind arith)
same_outcome (Committed count) _ is = false_true is
same_outcome (RolledBack cause) (RolledBack other) is = ap RolledBack (grind arith)
same_outcome (RolledBack cause) _ is = false_true is
same_outcome (Ordered losers freed) (Ordered others freed_others) is =
    pair_of Ordered (one_losing losers others (grind arith)) (one_freeing freed freed_others (grind arith))
same_outcome (Ordered losers freed) _ is = false_true is
same_outcome (Served losers freed) (Served others freed_others) is =
    pair_of Served (one_losing losers others (grind arith)) (one_freeing freed freed_others (grind arith))
same_outcome (Served losers freed) _ is = false_true is
same_outcome (Blocked why by) (Blocked because other) is =
    pair_of Blocked (grind arith) (same_hart by other (grind arith))
same_outcome (Blocked why by) _ is = false_true is
same_outcome (Delivered losers) (Delivered others) is = ap Delivered (one_losing losers others is)
same_outcome (Delivered losers) _ is = false_true is
same_outcome Armed Armed is = refl
same_outcome Armed _ is = false_true is
same_outcome (LetGo count) (LetGo other) is = ap LetGo (grind arith)
same_outcome (LetGo count) _ is = false_true is
