use Rattle.std.proofs.Common.{◌≡◌, ◌≢◌, ◌∙◌, ◌++◌, [], ◌∷◌, ℕ, List, Bool, false, sym, ap, subst}
use Rattle.std.specs.Prelude.{IsTrue, ◌↔◌}
use Rattle.std.proofs.lemmas.Bool.{false≢true}
use Rattle.ext_update.specs.Drafts.{IsLinkText}
use Rattle.ext_update.proofs.TextLemmas.{below_bytes, path_text_of, root_bytes}
use Rattle.ext_update.proofs.link_texts.absolute_text.Goals as goal
use Rattle.ext_update.proofs.link_texts.absolute_text.Goals.{then-not-is_root+in_ok-push-2, else-not-is_root}

is_below : (b : Bool) (path : List (List ℕ)) → (IsTrue b ↔ (path ≡ [])) → b ≡ false → path ≢ []
is_below b path tells not_root root = false≢true (sym not_root ∙ tells.1 root)

pub returns-clause-text : goal.returns-clause-text
returns-clause-text c =
    let path = c.args.directory.now in
    let name = c.args.name.now in
    let text = c.text.result.now in
    let bytes = c.extend_from_slice.new.self.items in
    let first : c.push.new.self.items ≡ 47 ∷ [] = c.in_ok-push.ensures.items ∙ ap (λ (b : List ℕ). b ++ 47 ∷ []) c.new-bytes.ensures.items in
    let made : bytes ≡ (47 ∷ []) ++ text = c.in_ok-extend_from_slice.ensures.items ∙ ap (λ (b : List ℕ). b ++ text) first in
    c.from_vec.ensures ∙ c.in_ok-extend_from_slice-2.ensures.items ∙ (elim c.if-not-is_root.branch [
      | then-not-is_root+in_ok-push-2 w ↦
          ap (λ v. v.items ++ name) w.bytes-is
          ∙ below_bytes path name text bytes w.push-then-not-is_root.new.self.items (is_below c.is_root.result path c.is_root.ensures w.if-not-is_root.true)
          c.text.ensures.same made w.in_ok-push-2.ensures.items
      | else-not-is_root w ↦
          ap (λ v. v.items ++ name) w.bytes-is
          ∙ root_bytes path name text bytes (c.is_root.ensures.0 w.if-not-is_root.false) c.text.ensures.same made
    ])

pub returns-clause-shape : goal.returns-clause-shape
returns-clause-shape c =
    subst IsLinkText (sym (returns-clause-text c)) (path_text_of c.args.directory.now c.args.name.now c.text.ensures.names c.requires)
