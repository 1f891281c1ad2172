-- what is kept of an armed section
use Rattle.std.proofs.Common.{◌≡◌, ℕ, Option, Some, None, ap, refl}
use Rattle.std.specs.Prelude.{option_map}
use Rattle.std.proofs.lemmas.Option.{same_Some}
use Rattle.el_model.specs.State.{Armed, Section}
use Rattle.engine.specs.Parts.{StandsAs}
use Rattle.reg_mark.specs.declared.marked.Marked.{Marked}
use Rattle.section_ctl.specs.State.{Reserved}
use Rattle.write_hold.specs.Slotted.{Slotted}

-- an armed section is kept, with the value that its LR found
pub record IsKeptAs (kept : Option Reserved) (armed : Armed) : Type 0 where
  pub old : ℕ
  pub is : kept ≡ Some (record { armed = armed; old = old })

pub kept_as : (kept : Option Reserved) (armed : Armed) → option_map (λ reserved. reserved.armed) kept ≡ Some armed →
    IsKeptAs kept armed
kept_as None armed is = absurd (cc)
kept_as (Some reserved) armed is =
    record {
      old = reserved.old;
      is = ap (λ a. Some (record { armed = a; old = reserved.old })) (same_Some reserved.armed armed is);
    }

-- none is kept where the hart is not armed
pub none_reserved : (kept : Option Reserved) → option_map (λ reserved. reserved.armed) kept ≡ None → kept ≡ None
none_reserved None is = refl
none_reserved (Some reserved) is = absurd (cc)

-- no section is live beside it, and the other way around
pub unlive : (live : Option Section) (reserved : Reserved) (marks : Marked) (hold : Slotted) →
    StandsAs marks hold live (Some reserved) → live ≡ None
unlive None reserved marks hold stands = refl
unlive (Some section) reserved marks hold stands = absurd stands

pub unarmed : (section : Section) (kept : Option Reserved) (marks : Marked) (hold : Slotted) →
    StandsAs marks hold (Some section) kept → kept ≡ None
unarmed section None marks hold stands = refl
unarmed section (Some reserved) marks hold stands = absurd stands
