-- Paths and names directly below the root.
use Rattle.std.proofs.Common.{◌≡◌, ℕ, true, false, ◌&&◌, ◌||◌, List, [], ◌∷◌, refl, sym, ◌∙◌}
use Rattle.std.proofs.lemmas.Bool.{false≢true}
use Rattle.std.specs.Ordering.{eq_by_cmp}
use Rattle.ext_lines.specs.ByteOrder.{bytes_cmp}
use Rattle.ext_text.specs.Path.{are_related, is_prefix}
use Rattle.ext_text.proofs.ForCallers.{same_name, tied_name}

-- a name is related to the paths at and below it, and to the root
pub related_name : (name first : List ℕ) (path : List (List ℕ)) → are_related (name ∷ []) (first ∷ path) ≡ eq_by_cmp bytes_cmp name first
related_name name first path =
    elim (eq_by_cmp bytes_cmp name first) as (λ b. eq_by_cmp bytes_cmp name first ≡ b → ((b && true) || (eq_by_cmp bytes_cmp first name && is_prefix path [])) ≡ b) [
      | true ↦ λ _. refl
      | false ↦ λ apart.
          elim (eq_by_cmp bytes_cmp first name) as (λ b. eq_by_cmp bytes_cmp first name ≡ b → (b && is_prefix path []) ≡ false) [
            | true ↦ λ tied. absurd (false≢true (sym apart ∙ tied_name name first (sym (same_name first name tied))))
            | false ↦ λ _. refl
          ] refl
    ] refl
