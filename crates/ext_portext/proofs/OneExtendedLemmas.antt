-- One thing comes of attaching an image with extensions.
use Rattle.std.proofs.Common.{◌≡◌, ℕ, Bool, List, Ok, Err, inl, inr, sym, ap, ◌∙◌, subst, arith}
use Rattle.std.specs.Prelude.{◌⊎◌, Result}
use Rattle.ext_tree.specs.Tree.{Entries}
use Rattle.ext_host.specs.Held.{HeldFile}
use Rattle.ext_host.specs.Shelf.{Told}
use Rattle.ext_host.specs.declared.host.Host.{Host}
use Rattle.ext_units.specs.Body.{ReadsImage}
use Rattle.ext_units.specs.Laws.{GivesOneText, IsOfImage, OneChoice, OneImage}
use Rattle.ext_units.specs.declared.body.Body.{Body}
use Rattle.ext_units.specs.declared.errors.BodyErr.{BodyErr}
use Rattle.ext_units.specs.declared.errors.BodyErr.TheVariants as body_errors
use Rattle.ext_units.specs.declared.image.Image.{Image}
use Rattle.ext_added.specs.declared.ask.Ask.{Ask}
use Rattle.ext_port.specs.Errors.{port_err_of_body}
use Rattle.ext_port.specs.Laws.{IsOfAttach}
use Rattle.ext_port.specs.Starting.{start_host}
use Rattle.ext_port.specs.declared.attaching.Attach.{Attach}
use Rattle.ext_port.specs.declared.errors.PortErr.{PortErr}
use Rattle.ext_port.specs.declared.errors.PortErr.TheVariants as port_errors
use Rattle.ext_port.proofs.ForCallers.{one_attach_body, one_base}
use Rattle.ext_portext.specs.Errors.{portext_err_of_port}
use Rattle.ext_portext.specs.Extension.{system_hierarchies}
use Rattle.ext_portext.specs.Laws.{IsOfExtended, OneExtendedAttach}
use Rattle.ext_portext.specs.Lines.{extension_lines}
use Rattle.ext_portext.specs.Wants.{ExtensionsWant, FittingExtensionsWant, UnitTreeWants, as_extended}
use Rattle.ext_portext.specs.declared.errors.PortExtErr.{PortExtErr}
use Rattle.ext_portext.specs.declared.extending.Extending.{Extending}
use Rattle.ext_portext.proofs.OneExtensionLemmas.{Below, all_once, first_fits, first_once}
use Rattle.ext_portext.proofs.UnitTreeLemmas.{one_unit_tree}

-- results

abbrev ok_of : (A E : Type 0) → A → Result A E
ok_of A E x = Ok x

abbrev err_of : (A E : Type 0) → E → Result A E
err_of A E e = Err e

ok_same : {A E : Type 0} (x y : A) → ok_of A E x ≡ ok_of A E y → x ≡ y
ok_same {A} {E} x y same = ap (λ (r : Result A E). elim r as (λ _. A) [ Ok v ↦ v | Err e ↦ x ]) same

err_same : {A E : Type 0} (x y : E) → err_of A E x ≡ err_of A E y → x ≡ y
err_same {A} {E} x y same = ap (λ (r : Result A E). elim r as (λ _. E) [ Ok v ↦ x | Err e ↦ e ]) same

ok_err : {A E B : Type 0} {x : A} {e : E} → ok_of A E x ≡ err_of A E e → B
ok_err {A} {E} same = absurd (subst (λ (r : Result A E). elim r as (λ _. Type 0) [ Ok v ↦ Unit {0} | Err e ↦ ⊥ ]) same tt)

-- what is known of a refusal by the image, and of what attaching gives

body_known : (e : BodyErr) → IsOfExtended (Err (portext_err_of_port (port_err_of_body e))) → IsOfImage (Err e)
body_known body_errors.OutOfMemory known = known
body_known body_errors.NoSuchImage known = tt
body_known body_errors.NotPortable known = tt
body_known (body_errors.BadRelease line) known = tt
body_known (body_errors.Shelf e) known = known

given_known : (r : Result Attach PortErr) → IsOfExtended (as_extended r) → IsOfAttach r
given_known (Ok attach) known = tt
given_known (Err port_errors.OutOfMemory) known = known
given_known (Err port_errors.NoSuchImage) known = tt
given_known (Err port_errors.AlreadyAttached) known = tt
given_known (Err port_errors.NotAttached) known = tt
given_known (Err port_errors.NotPortable) known = tt
given_known (Err (port_errors.BadRelease line)) known = tt
given_known (Err (port_errors.PrefixForbidden prefix)) known = tt
given_known (Err port_errors.NoUnits) known = tt
given_known (Err port_errors.NoProfile) known = tt
given_known (Err (port_errors.ReadOnly path)) known = tt
given_known (Err (port_errors.UnitExists path)) known = tt
given_known (Err (port_errors.NotDirectory path)) known = tt
given_known (Err (port_errors.Limit which)) known = tt
given_known (Err (port_errors.Shelf e)) known = known

module _ (one_choice : OneChoice HeldFile) (a b : Result Attach PortExtErr) (known : IsOfExtended a) (also_known : IsOfExtended b) (again : Bool) (host : Host) (ask : Ask) where
  tree_once : (body : Body) (extensions : List Extending) (tree : Entries HeldFile) → UnitTreeWants again host ask body extensions tree a → UnitTreeWants again host ask body extensions tree b → a ≡ b
  tree_once body extensions tree (inl (few, (given, x, is))) (inl (also_few, (other, y, same))) =
      let one : given ≡ other = one_attach_body one_choice again host ask body tree (extension_lines extensions) given other (given_known given (subst IsOfExtended is known)) (given_known other (subst IsOfExtended same also_known)) x y in
      is ∙ ap as_extended one ∙ sym same
  tree_once body extensions tree (inl (few, x)) (inr (many, is)) = absurd (omega (arith, few, many))
  tree_once body extensions tree (inr (many, is)) (inl (few, y)) = absurd (omega (arith, few, many))
  tree_once body extensions tree (inr (many, is)) (inr (also_many, same)) = is ∙ sym same

  fitting_once : (body : Body) (extensions : List Extending) → FittingExtensionsWant again host ask body extensions a → FittingExtensionsWant again host ask body extensions b → a ≡ b
  fitting_once body extensions (tree, is, x) (other, also, y) =
      let one : tree ≡ other = one_unit_tree (system_hierarchies host) body.tree extensions tree other is also in
      tree_once body extensions other (subst (λ es. UnitTreeWants again host ask body extensions es a) one x) y

  module _ (below : Below) (told : HeldFile → Told) (gives : GivesOneText told) (old new other_old other_new : ℕ) (base : Entries HeldFile) (images : List Image) where
    extensions_once : (body : Body) → ExtensionsWant again host ask told old new base images body a → ExtensionsWant again host ask told other_old other_new base images body b → a ≡ b
    extensions_once body (inl (extensions, fit, x)) (inl (others, also, y)) =
        let one : extensions ≡ others = all_once below told gives (start_host again ask.image host) base body.release images extensions others fit also in
        fitting_once body others (subst (λ xs. FittingExtensionsWant again host ask body xs a) one x) y
    extensions_once body (inl (extensions, fit, x)) (inr (e, fails, is)) =
        first_fits below told gives (start_host again ask.image host) base body.release other_old other_new images extensions e (subst IsOfExtended is also_known) fails fit
    extensions_once body (inr (e, fails, is)) (inl (extensions, fit, y)) =
        first_fits below told gives (start_host again ask.image host) base body.release old new images extensions e (subst IsOfExtended is known) fails fit
    extensions_once body (inr (e, fails, is)) (inr (f, also, same)) =
        is
        ∙ ap (λ (x : PortExtErr). err_of Attach PortExtErr x)
        (first_once below told gives (start_host again ask.image host) base body.release old new other_old other_new images e f (subst IsOfExtended is known) (subst IsOfExtended same also_known) fails also)
        ∙ sym same

-- what comes of attaching with this base
abbrev InBase : (HeldFile → Told) → ℕ → ℕ → Bool → Host → Ask → List Image → Entries HeldFile → Result Attach PortExtErr → Type 0
InBase told old new again host ask images base result =
    ((body : Body) × ReadsImage told old new base host.arch ask.image (Ok body) × ExtensionsWant again host ask told old new base images body result)
    ⊎ ((e : BodyErr) × ReadsImage told old new base host.arch ask.image (Err e) × (result ≡ Err (portext_err_of_port (port_err_of_body e))))

module _ (below : Below) (one_image : OneImage) (one_choice : OneChoice HeldFile) (told : HeldFile → Told) (gives : GivesOneText told) (old new other_old other_new : ℕ) (again : Bool) (host : Host) (ask : Ask) (images : List Image)
    (a b : Result Attach PortExtErr) (known : IsOfExtended a) (also_known : IsOfExtended b) (base : Entries HeldFile) where
  base_once : InBase told old new again host ask images base a → InBase told other_old other_new again host ask images base b → a ≡ b
  base_once (inl (body, reads, x)) (inl (other, too, y)) =
      let one : body ≡ other = ok_same body other (one_image told old new other_old other_new base host.arch ask.image (Ok body) (Ok other) gives tt tt reads too) in
      extensions_once one_choice a b known also_known again host ask below told gives old new other_old other_new base images other
      (subst (λ (v : Body). ExtensionsWant again host ask told old new base images v a) one x) y
  base_once (inl (body, reads, x)) (inr (e, too, is)) =
      ok_err (one_image told old new other_old other_new base host.arch ask.image (Ok body) (Err e) gives tt (body_known e (subst IsOfExtended is also_known)) reads too)
  base_once (inr (e, reads, is)) (inl (body, too, y)) =
      ok_err (one_image told other_old other_new old new base host.arch ask.image (Ok body) (Err e) gives tt (body_known e (subst IsOfExtended is known)) too reads)
  base_once (inr (e, reads, is)) (inr (f, too, same)) =
      is
      ∙ ap (λ (x : BodyErr). err_of Attach PortExtErr (portext_err_of_port (port_err_of_body x)))
      (err_same e f (one_image told old new other_old other_new base host.arch ask.image (Err e) (Err f) gives (body_known e (subst IsOfExtended is known)) (body_known f (subst IsOfExtended same also_known)) reads too))
      ∙ sym same

pub one_extended_law : Below → OneImage → OneChoice HeldFile → OneExtendedAttach
one_extended_law below one_image one_choice told old new other_old other_new again host ask images a b gives known also_known (base, is_base, x) (other, also_base, y) =
    let same : base ≡ other = one_base (start_host again ask.image host) base other is_base also_base in
    base_once below one_image one_choice told gives old new other_old other_new again host ask images a b known also_known other (subst (λ es. InBase told old new again host ask images es a) same x) y
