use Rattle.std.proofs.Common.{◌∙◌, List, ap, cond, rules, ℕ}
use Rattle.std.specs.Prelude.{Some}
use Rattle.std.specs.FinMap.{get}
use Rattle.std.specs.Str.{bytes_eq}
use Rattle.std.specs.String.{string_bytes}
use Rattle.ext_text.specs.TextMap.{text_map}
use Rattle.ext_text.proofs.ForCallers.{updated-text_map}
use Rattle.ext_release.proofs.release.put.Goals as goal

pub returns-in-Some : goal.returns-in-Some
returns-in-Some c = λ q.
    updated-text_map string_bytes c.args.key.now c.args.values.now (c.get_mut.follows.lender c.args.value) (Some c.args.value) ((c.get_mut.follows.holds c.args.value).3 (search rules)) q

pub returns-in_ok-insert-in-None : goal.returns-in_ok-insert-in-None
returns-in_ok-insert-in-None c = λ q.
    updated-text_map string_bytes (string_bytes c.in_ok-key-in-None.key) c.get_mut.follows.lender-at-none c.insert.new.self (Some c.args.value) c.in_ok-insert-in-None.ensures.updates q
    ∙ ap (λ m. cond (bytes_eq (string_bytes c.in_ok-key-in-None.key) q) (Some (string_bytes c.args.value)) (get (text_map string_bytes m.entries) q)) c.get_mut.follows.holds-at-none
    ∙ ap (λ (k : List ℕ). cond (bytes_eq k q) (Some (string_bytes c.args.value)) (get (text_map string_bytes c.args.values.now.entries) q)) c.in_ok-key-in-None.ensures.ok
