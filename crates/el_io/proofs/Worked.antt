-- The definitions on worked values.
use Rattle.std.proofs.Common.{◌≡◌, ◌-◌, ◌^◌, true, false, [], ◌∷◌, None, Some, refl, inl, inr}
use Rattle.el_io.specs.Counts.{one_more}
use Rattle.el_io.specs.Sink.{Took}
use Rattle.el_io.specs.SureSink as sure
use Rattle.el_io.specs.MemSink.{MemSinkState, part, after_fault}

-- a count rises by one, and stands still at its last value
counts_up : one_more 7 ≡ 8
counts_up = refl

stands_still : one_more (2 ^ 64 - 1) ≡ 2 ^ 64 - 1
stands_still = refl

-- bytes stand behind those that were taken before
took_behind : Took (Some (1 ∷ [])) (Some (1 ∷ 2 ∷ 3 ∷ [])) (2 ∷ 3 ∷ [])
took_behind = record { grown = inr refl }

-- a sink that told nothing before tells nothing now
took_untold : Took None None (2 ∷ [])
took_untold = record { grown = inl refl }

-- a sink with room for three bytes keeps three of four, and tells none from then on
room_for_three : sure.SureSinkState
room_for_three = record { kept = 1 ∷ 2 ∷ []; room = 3; passed = false }

fits : sure.after_put room_for_three (3 ∷ []) ≡ record { kept = 1 ∷ 2 ∷ 3 ∷ []; room = 3; passed = false }
unfolding room_for_three
fits = refl

passes : sure.after_put room_for_three (3 ∷ 4 ∷ []) ≡ record { kept = 1 ∷ 2 ∷ 3 ∷ []; room = 3; passed = true }
unfolding room_for_three
passes = refl

tells_nothing : sure.told (sure.after_put room_for_three (3 ∷ 4 ∷ [])) ≡ None
unfolding room_for_three
tells_nothing = refl

-- a sink with room for four bytes and puts of at most two, after its first put
second_call_fails : MemSinkState
second_call_fails = record {
  taken = 1 ∷ 2 ∷ [];
  room = 4;
  piece = 2;
  plan = record { failing = 2 ∷ []; calls = 1 };
  faults = 0;
}

takes_two_of_three : part second_call_fails 3 ≡ 2
unfolding second_call_fails
takes_two_of_three = refl

counts_the_fault : (after_fault second_call_fails).faults ≡ 1
unfolding second_call_fails
counts_the_fault = refl
