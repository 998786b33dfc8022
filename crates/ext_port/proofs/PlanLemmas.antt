-- What is planned of a host, by the host from which an image is attached.
use Rattle.std.proofs.Common.{◌≡◌, ℕ, Bool, List, Some, None, Err, inl, inr, refl, sym, ap, ◌∙◌, subst}
use Rattle.std.specs.Prelude.{Result}
use Rattle.ext_text.specs.declared.arch.Arch.{Arch}
use Rattle.ext_tree.specs.Tree.{Entries}
use Rattle.ext_host.specs.Held.{HeldFile}
use Rattle.ext_host.specs.Planning.{IsBaseTree}
use Rattle.ext_host.specs.Shelf.{Told}
use Rattle.ext_host.specs.declared.host.Host.{Host}
use Rattle.ext_units.specs.Image.{ImagePlace, IsImageAt}
use Rattle.ext_units.specs.declared.body.Body.{Body}
use Rattle.ext_added.specs.declared.ask.Ask.{Ask}
use Rattle.ext_port.specs.Given.{IsStart}
use Rattle.ext_port.specs.Starting.{cut_of, start_host, unfit}
use Rattle.ext_port.specs.Wants.{Attaches, AttachesBody, BarMemory, BodyWants, FitWants, UnitsWant}
use Rattle.ext_port.specs.declared.attaching.Attach.{Attach}
use Rattle.ext_port.specs.declared.errors.PortErr.{PortErr}
use Rattle.ext_port.specs.declared.errors.PortErr.TheVariants as errors
use Rattle.ext_port.specs.declared.starting.Start.{Start}
use Rattle.ext_port.proofs.StartLemmas.{arch_start}
use Rattle.ext_port.proofs.WantsLemmas.{bar_from, bar_more}

module _ (again : Bool) (host : Host) (ask : Ask) (start : Start) (host_is : start.host.now ≡ start_host again ask.image host) (cut_is : start.cut ≡ cut_of again ask.image host) (is : IsStart start) where
  base_is : IsBaseTree (start_host again ask.image host) start.base
  base_is = subst (λ h. IsBaseTree h start.base) host_is is.base

  arch_is : start.host.now.arch ≡ host.arch
  arch_is = ap (λ (h : Host). h.arch) host_is ∙ arch_start again ask.image host

  module _ (told : HeldFile → Told) (old new : ℕ) where
    -- there is no image
    pub no_image : ImagePlace start.base start.host.now.arch ask.image None → Attaches told old new again host ask (Err errors.NoSuchImage)
    no_image none = (start.base, base_is, inr (subst (λ (a : Arch). (place : List (List ℕ)) → ¬ IsImageAt start.base a ask.image place) arch_is none, refl))

    -- there is one
    pub some_image : (place : List (List ℕ)) → IsImageAt start.base start.host.now.arch ask.image place → (r : Result Attach PortErr)
        → BarMemory (FitWants (unfit again host ask.image) (BodyWants told old new start.host.now start.cut start.base ask place)) r → BarMemory (Attaches told old new again host ask) r
    some_image place at =
        bar_more (FitWants (unfit again host ask.image) (BodyWants told old new start.host.now start.cut start.base ask place)) (Attaches told old new again host ask)
        (λ r wants. (
          start.base,
          base_is,
          inl (
            place,
            subst (λ (a : Arch). IsImageAt start.base a ask.image place) arch_is at,
            subst (λ h. FitWants (unfit again host ask.image) (BodyWants told old new h (cut_of again ask.image host) start.base ask place) r) host_is
                (subst (λ cut. FitWants (unfit again host ask.image) (BodyWants told old new start.host.now cut start.base ask place) r) cut_is wants),
          ),
        ))

  -- of an image that was read
  pub body_given : (body : Body) (tree : Entries HeldFile) (lines : List ℕ) → unfit again host ask.image ≡ None → (r : Result Attach PortErr)
      → BarMemory (UnitsWant start.host.now start.cut start.base ask body tree lines) r → BarMemory (AttachesBody again host ask body tree lines) r
  body_given body tree lines fit =
      bar_more (UnitsWant start.host.now start.cut start.base ask body tree lines) (AttachesBody again host ask body tree lines)
      (λ r wants. subst (λ o. FitWants o (λ r. (b : Entries HeldFile) × IsBaseTree (start_host again ask.image host) b × UnitsWant (start_host again ask.image host) (cut_of again ask.image host) b ask body tree lines r) r) (sym fit) (
        start.base,
        base_is,
        subst (λ h. UnitsWant h (cut_of again ask.image host) start.base ask body tree lines r) host_is
            (subst (λ cut. UnitsWant start.host.now cut start.base ask body tree lines r) cut_is wants),
      ))

-- what may not be attached
pub body_unfit : (again : Bool) (host : Host) (ask : Ask) (body : Body) (tree : Entries HeldFile) (lines : List ℕ) (refusal : PortErr) → unfit again host ask.image ≡ Some refusal → BarMemory (AttachesBody again host ask body tree lines) (Err refusal)
body_unfit again host ask body tree lines refusal is =
    bar_from (AttachesBody again host ask body tree lines) (Err refusal)
    (subst (λ o. FitWants o (λ r. (b : Entries HeldFile) × IsBaseTree (start_host again ask.image host) b × UnitsWant (start_host again ask.image host) (cut_of again ask.image host) b ask body tree lines r) (Err refusal)) (sym is) refl)
