use Rattle.std.proofs.Common.{arith, refl}
use Rattle.workload.proofs.Images.{is_image}
use Rattle.workload.proofs.Numbered.{numbered}
use Rattle.workload.proofs.building.image_of.Goals as goal

pub returns-clause-exact : goal.returns-clause-exact
returns-clause-exact c =
    is_image _ _ _ _ c.in_ok-file.ensures.exact c.in_ok-file.ensures.loaded refl refl
    (omega (arith, c.len.ensures, c.requires.fits)) refl refl

pub returns-clause-numbered : goal.returns-clause-numbered
returns-clause-numbered c =
    rw (c.in_ok-file.ensures.loaded 1)
    (numbered _ 1 _ refl (omega (arith, c.requires.has_entry)) c.requires.few c.requires.some refl)
