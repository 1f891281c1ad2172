use Rattle.std.proofs.Common.{◌≡◌, string_bytes}
use Rattle.std.proofs.lemmas.Map.Text.{btree_map_updates_text}
use Rattle.std.proofs.lemmas.Result.{IfOk-at_ok}
use Rattle.el_io.proofs.Storing.{stored}
use Rattle.el_io.proofs.files.store.Goals as goal

pub returns-clause-exact : goal.returns-clause-exact
returns-clause-exact c =
    stored c.args.files.now c.insert.new.self (string_bytes c.in_ok-name.name) c.args.name.now c.args.bytes.now
    c.in_ok-file.file
    (IfOk-at_ok (λ s. string_bytes s ≡ c.args.name.now) c.in_ok-name.was c.from_str.ensures.ok)
    c.in_ok-file.ensures.items
    (btree_map_updates_text (string_bytes c.in_ok-name.name) c.args.files.now c.insert.new.self _
    c.in_ok-insert.ensures.updates)
