use Rattle.std.proofs.Common.{ap, sym}
use Rattle.tool.specs.Messages.{line_of}
use Rattle.tool.proofs.refusal.Refusal.put.Goals as goal
use Rattle.report.proofs.Laws.Puts.{same_puts}

pub returns-in-Usage : goal.returns-in-Usage
unfolding line_of
returns-in-Usage g c = same_puts c.put_text.result _ _ _ _ (ap line_of (sym c.in-Usage.is)) c.put_text.ensures

pub returns-in-Config : goal.returns-in-Config
unfolding line_of
returns-in-Config g c = same_puts c.put_config.result _ _ _ _ (ap line_of (sym c.in-Config.is)) c.put_config.ensures

pub returns-in-Image : goal.returns-in-Image
unfolding line_of
returns-in-Image g c =
    same_puts c.put_fault.result _ _ _ _ (ap line_of (sym c.in-Image.is)) c.put_fault.ensures

pub returns-in-Trace : goal.returns-in-Trace
unfolding line_of
returns-in-Trace g c =
    same_puts c.put_fault-in-Trace.result _ _ _ _ (ap line_of (sym c.in-Trace.is)) c.put_fault-in-Trace.ensures

pub returns-in-Certificate : goal.returns-in-Certificate
unfolding line_of
returns-in-Certificate g c =
    same_puts c.put_fault-in-Certificate.result _ _ _ _ (ap line_of (sym c.in-Certificate.is))
    c.put_fault-in-Certificate.ensures

pub returns-in-TooBig : goal.returns-in-TooBig
unfolding line_of
returns-in-TooBig g c = same_puts c.put_number.result _ _ _ _ (ap line_of (sym c.in-TooBig.is)) c.put_number.ensures

pub returns-in-PlaceOverEnd : goal.returns-in-PlaceOverEnd
unfolding line_of
returns-in-PlaceOverEnd g c =
    same_puts c.put_number-in-PlaceOverEnd.result _ _ _ _ (ap line_of (sym c.in-PlaceOverEnd.is))
    c.put_number-in-PlaceOverEnd.ensures

pub returns-in-BackOverStart : goal.returns-in-BackOverStart
unfolding line_of
returns-in-BackOverStart g c =
    same_puts c.put_number-in-BackOverStart.result _ _ _ _ (ap line_of (sym c.in-BackOverStart.is))
    c.put_number-in-BackOverStart.ensures

pub returns-in-NoSuchHart : goal.returns-in-NoSuchHart
unfolding line_of
returns-in-NoSuchHart g c =
    same_puts c.put_text-in-NoSuchHart.result _ _ _ _ (ap line_of (sym c.in-NoSuchHart.is))
    c.put_text-in-NoSuchHart.ensures
