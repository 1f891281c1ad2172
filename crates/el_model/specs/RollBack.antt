-- how a section ends without a commit
use Rattle.std.specs.Prelude.{ℕ, ◌+◌, true, Option, None, ◌==◌, if◌then◌else◌}
use Rattle.residency.specs.Cache.{cleared}
use Rattle.el_base.specs.declared.config.Mode.{Mode}
use Rattle.el_base.specs.declared.config.Mode.TheVariants.{Plain, Sle, Tlr}
use Rattle.el_base.specs.declared.outcomes.Cause.{Cause}
use Rattle.el_base.specs.declared.outcomes.Cause.TheVariants.{Room, Lines, Long, Call, Mixed}
use Rattle.el_model.specs.Attempts.{close_attempt, see}
use Rattle.el_model.specs.State.{Hart}
use Rattle.pair_table.specs.Predictor.{Predictor, settled}
use Rattle.pair_table.specs.declared.verdict.Verdict.TheVariants.{Down}
use Rattle.stamp.specs.Stamps.{Stamp}

-- how many sections in a row may be lost in lock elision before the lock is taken
abbrev pub most_tries : ℕ
most_tries = 4

-- a hart out of its section: no bits are left
abbrev pub out_of_section : Hart → Hart
out_of_section hart = record hart { section = None; armed = None; cache = cleared hart.cache }

-- one more section was lost: the last that may be lost sets the fallback flag
abbrev pub one_more_try : Hart → Hart
one_more_try hart =
    if hart.tries + 1 == most_tries then record hart { tries = 0; fallback = true }
    else record hart { tries = hart.tries + 1 }

-- what a loss leaves behind, by mode: in lock removal the attempt stays open and the winner's stamp was seen
abbrev pub after_loss : Mode → Option Stamp → Hart → Hart
after_loss Tlr winner hart = see winner hart
after_loss Sle winner hart = one_more_try hart
after_loss Plain winner hart = one_more_try hart

-- a hart whose section has lost by a conflict, to a winner with this stamp
abbrev pub beaten : Mode → Option Stamp → Hart → Hart
beaten mode winner hart = after_loss mode winner (out_of_section hart)

-- what a rollback by the hart itself says of the acquire at a pc
abbrev pub blamed : Cause → ℕ → Predictor → Predictor
blamed Room pc predictor = predictor
blamed Lines pc predictor = predictor
blamed Long pc predictor = settled predictor pc Down
blamed Call pc predictor = settled predictor pc Down
blamed Mixed pc predictor = settled predictor pc Down

-- a hart whose section was rolled back by the hart itself; its acquire is at a pc
abbrev pub rolled_back : Cause → ℕ → Hart → Hart
rolled_back cause pc hart =
    record (close_attempt (out_of_section hart)) {
      tries = 0;
      fallback = true;
      predictor = blamed cause pc hart.predictor;
    }
