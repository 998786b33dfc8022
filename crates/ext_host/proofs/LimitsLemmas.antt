-- The first limit that two trees pass.
use Rattle.std.proofs.Common.{◌≡◌, ℕ, ◌+◌, ◌<◌, ◌≤◌, Bool, false, cond, length, sym, ap, ◌∙◌}
use Rattle.std.specs.Prelude.{IsTrue, ◌↔◌, nat_lt, Some, None}
use mathlib.Core.Logic.{inl, inr}
use Rattle.std.proofs.lemmas.Bool.{cases_lt, false≢true, le-ltb, lt-ltb}
use Rattle.ext_text.specs.declared.which.Which.TheVariants as which
use Rattle.ext_tree.specs.Tree.{Entries, most_entries}
use Rattle.ext_host.specs.Held.{HeldFile}
use Rattle.ext_host.specs.Limits.{passed_limit}
use Rattle.ext_host.specs.Valid.{all_bytes, most_bytes}

-- where a test says that a number is past another, and fails, it is at most that one
pub at_most : (m n : ℕ) → (IsTrue false ↔ (m < n)) → n ≤ m
at_most m n tells = elim (cases_lt m n) [ inl past ↦ absurd (false≢true (tells.1 past)) | inr not_past ↦ not_past ]

pub too_many : (root lower : Entries HeldFile) → most_entries < length root + length lower → Some which.Entries ≡ passed_limit root lower
too_many root lower past =
    sym (ap (λ (t : Bool). cond t (Some which.Entries) (cond (nat_lt most_bytes (all_bytes root + all_bytes lower)) (Some which.Bytes) None)) (lt-ltb most_entries (length root + length lower) past))

pub too_large : (root lower : Entries HeldFile) → length root + length lower ≤ most_entries → most_bytes < all_bytes root + all_bytes lower → Some which.Bytes ≡ passed_limit root lower
too_large root lower few past =
    sym (ap (λ (t : Bool). cond t (Some which.Entries) (cond (nat_lt most_bytes (all_bytes root + all_bytes lower)) (Some which.Bytes) None)) (le-ltb most_entries (length root + length lower) few)
    ∙ ap (λ (t : Bool). cond t (Some which.Bytes) None) (lt-ltb most_bytes (all_bytes root + all_bytes lower) past))

pub within : (root lower : Entries HeldFile) → length root + length lower ≤ most_entries → all_bytes root + all_bytes lower ≤ most_bytes → None ≡ passed_limit root lower
within root lower few small =
    sym (ap (λ (t : Bool). cond t (Some which.Entries) (cond (nat_lt most_bytes (all_bytes root + all_bytes lower)) (Some which.Bytes) None)) (le-ltb most_entries (length root + length lower) few)
    ∙ ap (λ (t : Bool). cond t (Some which.Bytes) None) (le-ltb most_bytes (all_bytes root + all_bytes lower) small))
