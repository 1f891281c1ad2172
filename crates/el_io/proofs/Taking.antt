-- Taking nothing, and taking some bytes after others.
use Rattle.std.proofs.Common.{◌≡◌, ℕ, ◌+◌, ◌-◌, ◌≤◌, List, [], ◌∷◌, ◌++◌, length, take, drop, Option, None, Some, refl}
use Rattle.std.proofs.Common.{ap, subst, sym, ◌∙◌}
use Rattle.std.proofs.Common.{append_assoc, append-nil, inl, inr, arith, length-take}
use Rattle.std.proofs.Math.Seq.{take-add}
use Rattle.std.proofs.lemmas.List.{take_rest}
use Rattle.std.specs.Option.{option_map}
use Rattle.el_io.specs.Sink.{Took, TookAll}

-- a sink that is as it was took no bytes
pub took-nothing : (told : Option (List ℕ)) → Took told told []
took-nothing None = record { grown = inl refl }
took-nothing (Some held) = record { grown = inr (ap Some (sym (append-nil held))) }

-- bytes appended behind others are appended together
appended-twice : (before : Option (List ℕ)) (first more : List ℕ) →
    option_map (λ told. told ++ more) (option_map (λ told. told ++ first) before) ≡ option_map
    (λ told. told ++ (first ++ more)) before
appended-twice None first more = refl
appended-twice (Some held) first more = ap Some (append_assoc held first more)

-- bytes taken after others are taken behind them
pub took-more : {before between now : Option (List ℕ)} {first more : List ℕ} → Took before between first →
    Took between now more → Took before now (first ++ more)
took-more {before} {between} {now} {first} {more} a b =
    elim b.grown [
      | inl nothing ↦ record { grown = inl nothing }
      | inr behind ↦ elim a.grown [
        | inl nothing ↦ record { grown = inl (behind ∙ ap (option_map (λ (told : List ℕ). told ++ more)) nothing) }
        | inr first_behind ↦ record {
          grown = inr (behind
              ∙ ap (option_map (λ (told : List ℕ). told ++ more)) first_behind ∙ appended-twice before first more);
        }
      ]
    ]

-- all of some bytes were taken
pub took-of_all : (before now : Option (List ℕ)) (bytes : List ℕ) → TookAll before now bytes → Took before now bytes
took-of_all before now [] all =
    let P : Option (List ℕ) → Type 0 = λ told. Took before told [] in
    subst P (sym all) (took-nothing before)
took-of_all before now (byte ∷ bytes) all = all

all-of_took : (before now : Option (List ℕ)) (bytes : List ℕ) → 1 ≤ length bytes → Took before now bytes →
    TookAll before now bytes
all-of_took before now [] some took = absurd (omega (arith, some))
all-of_took before now (byte ∷ bytes) some took = took

-- the first bytes taken, and then some more of the rest
pub took-next : (before between now : Option (List ℕ)) (bytes : List ℕ) (first count : ℕ) → 1 ≤ length bytes →
    1 ≤ count → TookAll before between (take first bytes) →
    Took between now (take count (take (length bytes - first) (drop first bytes))) →
    TookAll before now (take (first + count) bytes)
took-next before between now bytes first count some more a b =
    let some_taken : 1 ≤ length (take (first + count) bytes) = simp length-take (omega (arith, some, more)) in
    all-of_took before now (take (first + count) bytes) some_taken
    (rw (take-add first count bytes) (took-more (took-of_all before between (take first bytes) a) (rw take_rest at b)))
