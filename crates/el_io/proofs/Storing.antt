-- What a map of files has after one more file.
use Rattle.std.proofs.Common.{◌≡◌, ℕ, Bool, true, false, List, Option, Some, cond, refl, ap, ◌∙◌}
use Rattle.std.specs.Global.{Vec}
use Rattle.std.specs.Option.{option_map}
use Rattle.std.specs.Str.{bytes_eq}
use Rattle.std.specs.Map.{update}
use Rattle.std.specs.BTreeMap.{get_by_text}
use Rattle.el_io.specs.Files.{Files, file_of, file_after}

items-cond : (b : Bool) (file : Vec ℕ) (bytes : List ℕ) (old : Option (Vec ℕ)) → file.items ≡ bytes →
    option_map {T = Vec ℕ} {U = List ℕ} (λ v. v.items) (cond b (Some file) old) ≡ cond b (Some bytes)
    (option_map (λ v. v.items) old)
items-cond true file bytes old e = ap Some e
items-cond false file bytes old e = refl

-- a map that was updated at a name with a file has the file's bytes there
pub stored : (old new : Files) (key written bytes : List ℕ) (file : Vec ℕ) → key ≡ written → file.items ≡ bytes →
    ((other : List ℕ) → get_by_text new other ≡ update bytes_eq (get_by_text old) key (Some file) other) →
    (other : List ℕ) → file_of new other ≡ file_after old written bytes other
stored old new key written bytes file same_key same_bytes updated other =
    ap (option_map (λ (v : Vec ℕ). v.items)) (rw same_key at (updated other))
    ∙ items-cond (bytes_eq written other) file bytes (get_by_text old other) same_bytes
