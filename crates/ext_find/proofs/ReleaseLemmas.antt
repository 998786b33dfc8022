-- The host's release file: where names lead to one, and that a shelf serves it.
use Rattle.std.proofs.Common.{ℕ, Bool, List, Option, Some, None, sym, ap, ◌∙◌}
use Rattle.std.specs.Prelude.{IsTrue}
use mathlib.Core.Logic.{inl, inr}
use Rattle.std.specs.Borrow.{Bor}
use Rattle.std.proofs.lemmas.Bool.{false≢true}
use Rattle.ext_tree.specs.Tree.{Entries, lookup}
use Rattle.ext_walk.specs.Walk.{Ends, Resolves}
use Rattle.ext_walk.proofs.ForCallers.{same_end}
use Rattle.ext_host.specs.Held.{HeldFile}
use Rattle.ext_host.specs.Planning.{ServesAll}
use Rattle.ext_find.specs.Content.{is_file_at}
use Rattle.ext_find.specs.HostRelease.{ContentAt, IsContent, IsReleaseFile}

pub content_none : {C : Type 0} (es : Entries C) (names : List (List ℕ)) → Resolves es names None → ContentAt es names None
content_none es names none = λ leads. none leads.0 leads.1

pub content_there : {C : Type 0} (es : Entries C) (names end : List (List ℕ)) (content : Option (Bor C)) → Ends es names end → IsContent (lookup es end) content → ContentAt es names content
content_there es names end None ends none = λ leads.
    false≢true (sym none ∙ ap (λ p. is_file_at (lookup es p)) (same_end es names end leads.0 ends leads.1) ∙ leads.2)
content_there es names end (Some content) ends is = (end, is.0, ends, is.1)

-- a shelf that serves each file of the tree serves the release file
pub served : (serves : HeldFile → Bool) (es : Entries HeldFile) (held : HeldFile) → ServesAll serves es → IsReleaseFile es held → IsTrue (serves held)
served serves es held all (inl own) = all own.0 own.1 held own.3
served serves es held all (inr vendor) = all vendor.1.0 vendor.1.1 held vendor.1.3
