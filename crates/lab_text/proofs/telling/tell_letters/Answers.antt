-- one hart more
use Rattle.std.proofs.Common.{arith, slice_index_or}
use Rattle.lab_text.proofs.Putting.{put_more}
use Rattle.lab_text.proofs.telling.tell_letters.Goals as goal
use Rattle.lab_text.specs.Items.{letter_item}
use Rattle.moesi.specs.declared.letter.Letter.TheVariants.{I}

pub loop-number-preserved : goal.loop-number-preserved
loop-number-preserved c = (
  put_more (λ h. letter_item h (slice_index_or c.args.before.now h I) (slice_index_or c.args.after.now h I))
      c.loop-number.number
      c.args.list.now.items c.loop-number.list.items c.tell_letter.new.list.items c.loop-number.invariant.0
      c.tell_letter.ensures.items,
  omega (arith, c.loop-number.invariant.1, c.tell_letter.ensures.few),
)
