-- where the code puts a request
use Rattle.el_model.specs.Order.{Alone, Behind, InFront, Place}
use Rattle.snoop.specs.declared.ordering.Place as places
use Rattle.snoop.specs.declared.ordering.Place.TheVariants as declared

-- a place as the definition has it
abbrev pub definition_place : places.Place → Place
definition_place declared.InFront = InFront
definition_place declared.Behind = Behind
definition_place declared.Alone = Alone
