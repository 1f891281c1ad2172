use Rattle.std.proofs.Common.{◌≡◌, ℕ, Bool, List, None, get_or, subst, sym, true}
use Rattle.el_base.proofs.Laws.Ranges.{in_range}
use Rattle.el_base.specs.Config.{allows}
use Rattle.el_base.specs.declared.config.ConfigFault.TheVariants.{Harts, Sets, Ways, Lines, Long, Steps}
use Rattle.file_numbers.specs.Numbers.{number_at}
use Rattle.trace_file.proofs.Heads.{byte_passed, number_passed}
use Rattle.trace_file.proofs.head.config_of.Goals as goal
use Rattle.trace_file.specs.Faults.{byte_fault, number_fault}

-- a field that was read passes its test
byte_in : (file : List ℕ) (place byte : ℕ) (test : ℕ → Bool) → byte ≡ get_or file place 0 →
    byte_fault file place test ≡ None → test byte ≡ true
byte_in file place byte test is none = subst (λ n. test n ≡ true) (sym is) (byte_passed file place test none)

number_in : (file : List ℕ) (place number : ℕ) (test : ℕ → Bool) → number ≡ number_at file place →
    number_fault file place test ≡ None → test number ≡ true
number_in file place number test is none = subst (λ n. test n ≡ true) (sym is) (number_passed file place test none).1

pub returns-clause-in_range : goal.returns-clause-in_range
returns-clause-in_range c =
    let file = c.args.file.now in
    in_range
    (record {
      harts = c.in_ok-harts.harts;
      mode = c.in_ok-mode.mode;
      sets = c.in_ok-sets.sets;
      ways = c.in_ok-ways.ways;
      lines = c.in_ok-lines.lines;
      long = c.in_ok-long.long;
      steps = c.in_ok-steps.steps;
    })
    (record {
      harts =
          byte_in file 5 c.in_ok-harts.harts (allows Harts) c.in_ok-harts.ensures.value c.in_ok-harts.ensures.accepted;
      sets = byte_in file 7 c.in_ok-sets.sets (allows Sets) c.in_ok-sets.ensures.value c.in_ok-sets.ensures.accepted;
      ways = byte_in file 8 c.in_ok-ways.ways (allows Ways) c.in_ok-ways.ensures.value c.in_ok-ways.ensures.accepted;
      lines =
          byte_in file 9 c.in_ok-lines.lines (allows Lines) c.in_ok-lines.ensures.value c.in_ok-lines.ensures.accepted;
      long = number_in file 10 c.in_ok-long.long (allows Long) c.in_ok-long.ensures.value c.in_ok-long.ensures.accepted;
      steps =
          number_in file 14 c.in_ok-steps.steps (allows Steps) c.in_ok-steps.ensures.value
          c.in_ok-steps.ensures.accepted;
    })
