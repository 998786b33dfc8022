-- What is attached of pieces, and which limit is passed.
use Rattle.std.proofs.Common.{◌≡◌, ℕ, ◌+◌, ◌<◌, Bool, true, false, cond, List, [], ◌∷◌, length, Option, Some, None, Ok, Err, inl, refl, sym, ap, subst, arith}
use Rattle.std.specs.Prelude.{Result, nat_lt}
use Rattle.std.specs.List.{AllByRecursion, list_any}
use Rattle.std.proofs.lemmas.Bool.{lt-ltb, true≢false}
use Rattle.ext_text.specs.declared.which.Which.{Which}
use Rattle.ext_text.specs.declared.which.Which.TheVariants as limits
use Rattle.ext_tree.specs.Tree.{Entries, most_entries}
use Rattle.ext_host.specs.Held.{HeldFile}
use Rattle.ext_host.specs.Limits.{passed_limit}
use Rattle.ext_host.specs.Valid.{all_bytes, most_bytes}
use Rattle.ext_host.specs.declared.host.Host.{Host}
use Rattle.ext_units.specs.Units.{names_of}
use Rattle.ext_updated.specs.Updated.{IsUpdated, PieceFits}
use Rattle.ext_updated.specs.declared.piece.Piece.{Piece}
use Rattle.ext_added.specs.declared.ask.Ask.{Ask}
use Rattle.ext_added.specs.declared.attaching.Attaching.{Attaching}
use Rattle.ext_port.specs.Limits.{first_limit, most_file, new_bytes, with_file}
use Rattle.ext_port.specs.NextHost.{attached_host, attachment_of}
use Rattle.ext_port.specs.Steps.{PutWants, RootWants}
use Rattle.ext_port.specs.Wants.{BarMemory}
use Rattle.ext_port.specs.declared.attaching.Attach.{Attach}
use Rattle.ext_port.specs.declared.errors.PortErr.{PortErr}
use Rattle.ext_port.specs.declared.errors.PortErr.TheVariants as errors
use Rattle.ext_port.proofs.WantsLemmas.{bar_more}

-- paths of which no test finds one are none
pub none_of : (paths : List (List (List ℕ))) → ((test : List (List ℕ) → Bool) → list_any test paths ≡ list_any test []) → paths ≡ []
none_of [] same = refl
none_of (p ∷ paths) same = absurd (true≢false (same (λ _. true)))

-- the first limit, by the one of entries and bytes that is passed
pub limit_is : (size : ℕ) (root lower : Entries HeldFile) → with_file size (passed_limit root lower) ≡ first_limit size root lower
limit_is size root lower =
    elim (nat_lt most_entries (length root + length lower)) as (λ b. with_file size (cond b (Some limits.Entries) (cond (nat_lt most_bytes (all_bytes root + all_bytes lower)) (Some limits.Bytes) None))
    ≡ cond b (Some limits.Entries) (cond (nat_lt most_file size) (Some limits.File) (cond (nat_lt most_bytes (all_bytes root + all_bytes lower)) (Some limits.Bytes) None))) [
      | true ↦ refl
      | false ↦ elim (nat_lt most_bytes (all_bytes root + all_bytes lower)) as (λ b. with_file size (cond b (Some limits.Bytes) None) ≡ cond (nat_lt most_file size) (Some limits.File) (cond b (Some limits.Bytes) None)) [
        | true ↦ refl
        | false ↦ refl
      ]
    ]

-- too many entries of one tree are too many of both
pub too_many : (size : ℕ) (root lower : Entries HeldFile) → most_entries < length root → first_limit size root lower ≡ Some limits.Entries
too_many size root lower many =
    let past : most_entries < length root + length lower = omega (arith, many) in
    ap (λ (t : Bool). cond t (Some limits.Entries) (cond (nat_lt most_file size) (Some limits.File) (cond (nat_lt most_bytes (all_bytes root + all_bytes lower)) (Some limits.Bytes) None)))
    (lt-ltb most_entries (length root + length lower) past)

module _ (start : Host) (ask : Ask) (made : Attaching) (pieces : List (Piece HeldFile)) (tops : List (List (List ℕ))) (fit : AllByRecursion PieceFits pieces) (root : Entries HeldFile) (updated : IsUpdated start.root [] pieces root) where
  -- with the tree that is to be seen
  pub put_given : (r : Result Attach PortErr) → BarMemory (RootWants start ask made tops root (first_limit (new_bytes made) root start.lower)) r → BarMemory (PutWants start ask made pieces tops) r
  put_given =
      bar_more (RootWants start ask made tops root (first_limit (new_bytes made) root start.lower)) (PutWants start ask made pieces tops) (λ r wants. inl (fit, (root, updated, wants)))

  -- where that has too many entries
  pub put_many : most_entries < length root → PutWants start ask made pieces tops (Err (errors.Limit limits.Entries))
  put_many many =
      inl (fit, (root, updated, subst (λ (o : Option Which). RootWants start ask made tops root o (Err (errors.Limit limits.Entries))) (sym (too_many (new_bytes made) root start.lower many)) refl))

module _ (start : Host) (ask : Ask) (made : Attaching) (tops : List (List (List ℕ))) (root : Entries HeldFile) where
  -- where a limit is passed
  pub root_limited : (o : Option Which) (which : Which) → o ≡ Some which → RootWants start ask made tops root o (Err (errors.Limit which))
  root_limited o which passed = subst (λ (x : Option Which). RootWants start ask made tops root x (Err (errors.Limit which))) (sym passed) refl

  -- where none is
  pub root_within : (o : Option Which) (next : Host) (units : List (List ℕ)) → o ≡ None → next ≡ attached_host start tops root (attachment_of ask made.place tops) → units ≡ names_of made.units
      → RootWants start ask made tops root o (Ok (record { plan = record { next = next }; units = units }))
  root_within o next units none next_is units_are =
      subst (λ (x : Option Which). RootWants start ask made tops root x (Ok (record { plan = record { next = next }; units = units }))) (sym none)
      (λ i. Ok (record { plan = record { next = next_is i }; units = units_are i }))
