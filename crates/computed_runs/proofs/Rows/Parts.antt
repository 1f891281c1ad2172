-- Two rules of the parts, at lists made for them: which line leaves a full set, and where a request goes in the order.
-- Beside each stands a wrong rule, and what it would come to.
use Rattle.std.proofs.Common.{◌≡◌, List, [], ◌∷◌, Option, None, Some, refl, true, false}
use Rattle.bus_order.specs.Order.{Request, in_front_of}
use Rattle.residency.specs.Residency.{Way, victim_in}
use Rattle.el_base.specs.declared.outcomes.Need.TheVariants.{Read, Write}
use Rattle.computed_runs.proofs.Given.{request, way}
use Rattle.moesi.specs.declared.letter.Letter.TheVariants.{S}

-- a full set of which the least recent line was read by a section
abbrev full_set : List Way
full_set = way 1 S false false ∷ way 2 S true false ∷ []

-- the least recent line leaves, whatever its bits
abbrev last_in : List Way → Option Way
last_in [] = None
last_in (way ∷ []) = Some way
last_in (way ∷ next ∷ ways) = last_in (next ∷ ways)

line_with_a_bit_leaves : (last_in full_set ≡ Some (way 2 S true false))
    × (victim_in full_set ≡ Some (way 1 S false false))
line_with_a_bit_leaves = (refl, refl)

-- the requests of two harts for two lines, and a third hart's for the second line
abbrev ordered : List Request
ordered = request 0 1 Read None ∷ request 1 2 Write None ∷ []

abbrev third : Request
third = request 2 2 Write None

-- it goes before the requests of all lines
abbrev in_front_of_all : List Request → Request → List Request
in_front_of_all order request = request ∷ order

in_front_of_other_lines :
    (in_front_of_all ordered third ≡ request 2 2 Write None ∷ request 0 1 Read None ∷ request 1 2 Write None ∷ [])
    × (in_front_of ordered third ≡ request 0 1 Read None ∷ request 2 2 Write None ∷ request 1 2 Write None ∷ [])
in_front_of_other_lines = (refl, refl)
