-- One thing comes of detaching an image.
use Rattle.std.proofs.Common.{ℕ, List, Some, None, Ok, Err, refl, sym, ap, ◌∙◌}
use Rattle.std.proofs.lemmas.Bool.{true≢false}
use Rattle.std.proofs.lemmas.Option.{none-some, same_Some}
use Rattle.ext_host.specs.ReadOnly.{is_read_only}
use Rattle.ext_attached.specs.Going.{cut_paths}
use Rattle.ext_attached.specs.Laws.{OneDetach}
use Rattle.ext_attached.specs.declared.errors.DetachErr.TheVariants as errors
use Rattle.ext_attached.specs.declared.going.By.TheVariants.{Name}
use Rattle.ext_attached.proofs.LeastLemmas.{one_least}

pub one_detach : OneDetach
one_detach host name (Ok a) (Ok b) known also x y = let next = x.2 ∙ sym y.2 in λ i. Ok (record { next = next i })
one_detach host name (Ok a) (Err errors.OutOfMemory) known also x y = absurd also
one_detach host name (Ok a) (Err errors.NotAttached) known also x y = absurd (true≢false (sym x.0 ∙ y))
one_detach host name (Ok a) (Err (errors.ReadOnly path)) known also x y = absurd (none-some path (one_least (is_read_only host) (cut_paths Name name host) None (Some path) x.1 y.1))
one_detach host name (Err errors.OutOfMemory) b known also x y = absurd known
one_detach host name (Err errors.NotAttached) (Ok b) known also x y = absurd (true≢false (sym y.0 ∙ x))
one_detach host name (Err errors.NotAttached) (Err errors.OutOfMemory) known also x y = absurd also
one_detach host name (Err errors.NotAttached) (Err errors.NotAttached) known also x y = refl
one_detach host name (Err errors.NotAttached) (Err (errors.ReadOnly path)) known also x y = absurd (true≢false (sym y.0 ∙ x))
one_detach host name (Err (errors.ReadOnly path)) (Ok b) known also x y = absurd (none-some path (one_least (is_read_only host) (cut_paths Name name host) None (Some path) y.1 x.1))
one_detach host name (Err (errors.ReadOnly path)) (Err errors.OutOfMemory) known also x y = absurd also
one_detach host name (Err (errors.ReadOnly path)) (Err errors.NotAttached) known also x y = absurd (true≢false (sym x.0 ∙ y))
one_detach host name (Err (errors.ReadOnly path)) (Err (errors.ReadOnly other)) known also x y =
    ap (λ (p : List (List ℕ)). Err (errors.ReadOnly p)) (same_Some path other (one_least (is_read_only host) (cut_paths Name name host) (Some path) (Some other) x.1 y.1))
