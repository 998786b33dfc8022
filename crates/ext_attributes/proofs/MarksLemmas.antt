-- Fields of attributes: a value has its field alone, and which bytes fields lack.
use Rattle.std.proofs.Common.{◌≡◌, ℕ, ◌<◌, ◌≤◌, Bool, true, false, ◌&&◌, List, [], ◌∷◌, ◌++◌, Option, Some, None, drop, refl, sym, ap, ◌∙◌, subst, arith, eqb}
use Rattle.std.specs.Prelude.{◌⊎◌}
use mathlib.Core.Logic.{inl, inr}
use Rattle.std.specs.Fmt.{decimal}
use Rattle.std.specs.Str.Parse.{AllDigits}
use Rattle.std.proofs.lemmas.Bool.{cases_Bool, false≢true, eqb-true}
use Rattle.std.proofs.lemmas.Fmt.{decimal_injective, decimal_is_IsNumeral, digits_is_IsNumeral}
use Rattle.std.proofs.lemmas.List.{append-nil}
use Rattle.std.proofs.lemmas.Str.Parse.{digit_from_value}
use Rattle.ext_lines.specs.Numbers.{octal}
use Rattle.ext_lines.specs.Split.{IsSplit, Lacks}
use Rattle.ext_lines.proofs.ForCallers.{decimal_lacks, differs, lacks_append, lacks_cons, lacks_nil, octal_injective, octal_lacks, split_field, split_none, split_once}
use Rattle.ext_attributes.specs.declared.owner.Owner.{Owner}
use Rattle.ext_attributes.specs.declared.capability.Capability.{Capability}
use Rattle.ext_attributes.specs.declared.attributes.Attributes.{Attributes}
use Rattle.ext_attributes.specs.Attributes.{IsAttributes, IsCapability, IsOfFile, IsOptional, IsOwner, OfFile, ReadsMarks, attributes_text, capability_text, file_attributes_text, flag, is_root_owner, marks_text, owned_number, owner_text, root_owner}

digits_lack : (base : ℕ) (ds : List ℕ) → base ≤ 10 → AllDigits base ds → Lacks 58 ds
digits_lack base [] small d = lacks_nil 58
digits_lack base (c ∷ cs) small d =
    lacks_cons 58 c cs (differs 58 c (λ e. omega (arith, digit_from_value c (omega (arith, d.0))))) (digits_lack base cs small d.1)

-- digits hold no colon
pub decimal_plain : (n : ℕ) → n ≤ 18446744073709551615 → Lacks 58 (decimal n)
decimal_plain n small = digits_lack 10 (decimal n) (omega arith) (decimal_is_IsNumeral n (omega arith)).0.1

pub octal_plain : (n : ℕ) → n ≤ 4095 → Lacks 58 (octal n)
octal_plain n small = digits_lack 8 (octal n) (omega arith) (digits_is_IsNumeral 8 false (omega arith) (omega arith) n (omega arith)).0.1

-- a number before a colon is one
pub number_once : (m n : ℕ) (xs ys : List ℕ) → m ≤ 18446744073709551615 → n ≤ 18446744073709551615 → decimal m ++ 58 ∷ xs ≡ decimal n ++ 58 ∷ ys → (m ≡ n) × (xs ≡ ys)
number_once m n xs ys p q e =
    let split = split_once 58 (decimal m) (decimal n) xs ys (decimal_plain m p) (decimal_plain n q) e in
    (decimal_injective m n (omega arith) (omega arith) split.0, split.1)

pub flag_small : (b : Bool) → flag b ≤ 1
flag_small true = omega arith
flag_small false = omega arith

flag_once : (a b : Bool) → flag a ≡ flag b → a ≡ b
flag_once true true e = refl
flag_once true false e = absurd (omega arith)
flag_once false true e = absurd (omega arith)
flag_once false false e = refl

flag_wide : (b : Bool) → flag b ≤ 18446744073709551615
flag_wide b = omega (arith, flag_small b)

capability_once : (c d : Capability) → IsCapability c → IsCapability d → capability_text c ≡ capability_text d → c ≡ d
capability_once c d p q e =
    let effective = number_once (flag c.effective) (flag d.effective) _ _ (flag_wide c.effective) (flag_wide d.effective) e in
    let permitted = number_once c.permitted d.permitted _ _ p.permitted q.permitted effective.1 in
    let inheritable = number_once c.inheritable d.inheritable _ _ p.inheritable q.inheritable permitted.1 in
    let root : c.root ≡ d.root = decimal_injective c.root d.root (omega (arith, p.root)) (omega (arith, q.root)) inheritable.1 in
    let set : c.effective ≡ d.effective = flag_once c.effective d.effective effective.0 in
    λ i. record { effective = set i; permitted = permitted.0 i; inheritable = inheritable.0 i; root = root i }

and_true : (a b : Bool) → (a && b) ≡ true → (a ≡ true) × (b ≡ true)
and_true true true e = (refl, refl)
and_true true false e = absurd (false≢true e)
and_true false b e = absurd (false≢true e)

pub root_owner_is : (o : Owner) → is_root_owner o ≡ true → o ≡ root_owner
root_owner_is o is =
    let both = and_true (eqb o.user 0) (eqb o.group 0) is in
    let user : o.user ≡ 0 = eqb-true o.user 0 both.0 in
    let group : o.group ≡ 0 = eqb-true o.group 0 both.1 in
    λ i. record { user = user i; group = group i }

-- an owner alone is told or not
told : (o : Owner) → ((o ≡ root_owner) × (marks_text o None ≡ [])) ⊎ (marks_text o None ≡ 58 ∷ owner_text o)
told o = elim (cases_Bool (is_root_owner o)) [
  | inl is ↦ inl (root_owner_is o is, rw is refl)
  | inr other ↦ inr (rw other refl)
]

pub told_other : (o : Owner) (test : Bool) → test ≡ is_root_owner o → test ≡ false → marks_text o None ≡ 58 ∷ owner_text o
told_other o test is failed = let other : is_root_owner o ≡ false = sym is ∙ failed in rw other refl

owner_once : (o p : Owner) (xs ys : List ℕ) → IsOwner o → IsOwner p → decimal o.user ++ 58 ∷ xs ≡ decimal p.user ++ 58 ∷ ys → (o.user ≡ p.user) × (xs ≡ ys)
owner_once o p xs ys io ip e = number_once o.user p.user xs ys (omega (arith, io.user)) (omega (arith, ip.user)) e

same_owner : (o p : Owner) → IsOwner o → IsOwner p → owner_text o ≡ owner_text p → o ≡ p
same_owner o p io ip e =
    let user = owner_once o p _ _ io ip e in
    let group : o.group ≡ p.group = decimal_injective o.group p.group (omega (arith, io.group)) (omega (arith, ip.group)) user.1 in
    λ i. record { user = user.0 i; group = group i }

-- an owner alone is no owner with a capability
pub no_more : (o p : Owner) (c : Capability) → IsOwner o → IsOwner p → marks_text o None ≡ marks_text p (Some c) → ⊥
no_more o p c io ip e = elim (told o) [
  | inl is ↦ nothing (sym is.1 ∙ e)
  | inr is ↦
      let user = owner_once o p _ _ io ip (ap (drop 1) (sym is ∙ e)) in
      split_none 58 (decimal o.group) (decimal p.group) (capability_text c) (decimal_plain o.group (omega (arith, io.group))) user.1
]
  where
    nothing : {xs : List ℕ} → [] ≡ 58 ∷ xs → ⊥
    nothing e = cc

pub marks_once : (o p : Owner) (c d : Option Capability) → IsOwner o → IsOwner p → IsOptional c → IsOptional d → marks_text o c ≡ marks_text p d → (o ≡ p) × (c ≡ d)
marks_once o p None None io ip ic id e = elim (told o) [
  | inl is ↦ elim (told p) [
    | inl too ↦ (is.0 ∙ sym too.0, refl)
    | inr too ↦ absurd (nothing (sym is.1 ∙ e ∙ too))
  ]
  | inr is ↦ elim (told p) [
    | inl too ↦ absurd (nothing (sym too.1 ∙ sym e ∙ is))
    | inr too ↦ (same_owner o p io ip (ap (drop 1) (sym is ∙ e ∙ too)), refl)
  ]
]
  where
    nothing : {xs : List ℕ} → [] ≡ 58 ∷ xs → ⊥
    nothing e = cc
marks_once o p None (Some d) io ip ic id e = absurd (no_more o p d io ip e)
marks_once o p (Some c) None io ip ic id e = absurd (no_more p o c ip io (sym e))
marks_once o p (Some c) (Some d) io ip ic id e =
    let user = owner_once o p _ _ io ip (ap (drop 1) e) in
    let group = number_once o.group p.group _ _ (omega (arith, io.group)) (omega (arith, ip.group)) user.1 in
    let capability : c ≡ d = capability_once c d ic id group.1 in
    ((λ i. record { user = user.0 i; group = group.0 i }), (λ i. Some (capability i)))

-- nothing, or a colon and more
abbrev IsTail : List ℕ → Type 0
IsTail xs = (xs ≡ []) ⊎ ((more : List ℕ) × (xs ≡ 58 ∷ more))

marks_tail : (o : Owner) (c : Option Capability) → IsTail (marks_text o c)
marks_tail o None = elim (told o) [
  | inl is ↦ inl is.1
  | inr is ↦ inr (owner_text o, is)
]
marks_tail o (Some c) = inr (decimal o.user ++ 58 ∷ (decimal o.group ++ 58 ∷ capability_text c), refl)

-- what stands before the first colon, and the rest
head_once : (h k xs ys : List ℕ) → Lacks 58 h → Lacks 58 k → IsTail xs → IsTail ys → h ++ xs ≡ k ++ ys → (h ≡ k) × (xs ≡ ys)
head_once h k xs ys p q (inl empty) (inl none) e =
    (sym (append-nil h) ∙ ap (λ zs. h ++ zs) (sym empty) ∙ e ∙ ap (λ zs. k ++ zs) none ∙ append-nil k, empty ∙ sym none)
head_once h k xs ys p q (inl empty) (inr some) e =
    absurd (split_none 58 h k some.0 p (sym (append-nil h) ∙ ap (λ zs. h ++ zs) (sym empty) ∙ e ∙ ap (λ zs. k ++ zs) some.1))
head_once h k xs ys p q (inr some) (inl empty) e =
    absurd (split_none 58 k h some.0 q (sym (append-nil k) ∙ ap (λ zs. k ++ zs) (sym empty) ∙ sym e ∙ ap (λ zs. h ++ zs) some.1))
head_once h k xs ys p q (inr some) (inr more) e =
    let split = split_once 58 h k some.0 more.0 p q (ap (λ zs. h ++ zs) (sym some.1) ∙ e ∙ ap (λ zs. k ++ zs) more.1) in
    (split.0, some.1 ∙ ap (λ zs. 58 ∷ zs) split.1 ∙ sym more.1)

pub parted : (h k : List ℕ) (o p : Owner) (c d : Option Capability) → Lacks 58 h → Lacks 58 k → h ++ marks_text o c ≡ k ++ marks_text p d → (h ≡ k) × (marks_text o c ≡ marks_text p d)
parted h k o p c d lh lk e = head_once h k (marks_text o c) (marks_text p d) lh lk (marks_tail o c) (marks_tail p d) e

-- a text without a colon has no marks
pub unmarked : (text h : List ℕ) (o : Owner) (c : Option Capability) → Lacks 58 text → Lacks 58 h → text ≡ h ++ marks_text o c → text ≡ h
unmarked text h o c lt lh e = (head_once text h [] (marks_text o c) lt lh (inl refl) (marks_tail o c) (append-nil text ∙ e)).0

-- a text with a colon is parted there
pub parted_at : (text prefix rest h : List ℕ) (o : Owner) (c : Option Capability) → Lacks 58 prefix → Lacks 58 h → text ≡ prefix ++ 58 ∷ rest → text ≡ h ++ marks_text o c → (prefix ≡ h) × (58 ∷ rest ≡ marks_text o c)
parted_at text prefix rest h o c lp lh whole e = head_once prefix h (58 ∷ rest) (marks_text o c) lp lh (inr (rest, refl)) (marks_tail o c) (sym whole ∙ e)

-- a text has one first part
pub head_of : (field first h : List ℕ) (o p : Owner) (c d : Option Capability) → Lacks 58 first → Lacks 58 h → field ≡ first ++ marks_text o c → field ≡ h ++ marks_text p d → first ≡ h
head_of field first h o p c d lf lh whole e = (parted first h o p c d lf lh (sym whole ∙ e)).0

modes_once : (m n : ℕ) (o p : Owner) (c d : Option Capability) → m ≤ 4095 → n ≤ 4095 → IsOwner o → IsOwner p → IsOptional c → IsOptional d → octal m ++ marks_text o c ≡ octal n ++ marks_text p d → (m ≡ n) × (o ≡ p) × (c ≡ d)
modes_once m n o p c d sm sn io ip ic id e =
    let parts = parted (octal m) (octal n) o p c d (octal_plain m sm) (octal_plain n sn) e in
    let marks = marks_once o p c d io ip ic id parts.1 in
    (octal_injective m n (omega arith) (omega arith) parts.0, marks.0, marks.1)

pub attributes_once : (a b : Attributes) → IsAttributes a → IsAttributes b → attributes_text a ≡ attributes_text b → a ≡ b
attributes_once a b p q e =
    let same = modes_once a.mode b.mode a.owner b.owner None None p.mode q.mode p.owner q.owner tt tt e in
    λ i. record { mode = same.0 i; owner = same.1 i }

pub file_attributes_once : (a b : OfFile) → IsOfFile a → IsOfFile b → file_attributes_text a ≡ file_attributes_text b → a ≡ b
file_attributes_once a b p q e =
    let same = modes_once a.attributes.mode b.attributes.mode a.attributes.owner b.attributes.owner a.capability b.capability p.attributes.mode q.attributes.mode p.attributes.owner q.attributes.owner p.capability q.capability e in
    λ i. record { attributes = record { mode = same.0 i; owner = same.1 i }; capability = same.2 i }

pub owned_once : (m n : ℕ) (o p : Owner) → m ≤ 18446744073709551615 → n ≤ 18446744073709551615 → IsOwner o → IsOwner p → owned_number m o ≡ owned_number n p → (m ≡ n) × (o ≡ p)
owned_once m n o p sm sn io ip e =
    let parts = parted (decimal m) (decimal n) o p None None (decimal_plain m sm) (decimal_plain n sn) e in
    (decimal_injective m n (omega arith) (omega arith) parts.0, (marks_once o p None None io ip tt tt parts.1).0)

number_lacks : (byte n : ℕ) (rest : List ℕ) → byte < 48 → n ≤ 18446744073709551615 → Lacks byte rest → Lacks byte (decimal n ++ 58 ∷ rest)
number_lacks byte n rest low small lacks =
    lacks_append byte (decimal n) (58 ∷ rest) (decimal_lacks byte n low (omega arith)) (lacks_cons byte 58 rest (differs byte 58 (λ e. omega arith)) lacks)

colon_lacks : (byte : ℕ) (rest : List ℕ) → byte < 48 → Lacks byte rest → Lacks byte (58 ∷ rest)
colon_lacks byte rest low lacks = lacks_cons byte 58 rest (differs byte 58 (λ e. omega arith)) lacks

capability_lacks : (byte : ℕ) (c : Capability) → byte < 48 → IsCapability c → Lacks byte (capability_text c)
capability_lacks byte c low is =
    number_lacks byte (flag c.effective) _ low (flag_wide c.effective)
    (number_lacks byte c.permitted _ low is.permitted (number_lacks byte c.inheritable _ low is.inheritable (decimal_lacks byte c.root low (omega (arith, is.root)))))

marks_lack : (byte : ℕ) (o : Owner) (c : Option Capability) → byte < 48 → IsOwner o → IsOptional c → Lacks byte (marks_text o c)
marks_lack byte o None low io ic = elim (told o) [
  | inl is ↦ subst (Lacks byte) (sym is.1) (lacks_nil byte)
  | inr is ↦ subst (Lacks byte) (sym is) (colon_lacks byte (owner_text o) low (number_lacks byte o.user _ low (omega (arith, io.user)) (decimal_lacks byte o.group low (omega (arith, io.group)))))
]
marks_lack byte o (Some c) low io ic =
    colon_lacks byte _ low (number_lacks byte o.user _ low (omega (arith, io.user)) (number_lacks byte o.group _ low (omega (arith, io.group)) (capability_lacks byte c low ic)))

modes_lack : (byte m : ℕ) (o : Owner) (c : Option Capability) → byte < 48 → m ≤ 4095 → IsOwner o → IsOptional c → Lacks byte (octal m ++ marks_text o c)
modes_lack byte m o c low small io ic = lacks_append byte (octal m) (marks_text o c) (octal_lacks byte m low (omega arith)) (marks_lack byte o c low io ic)

pub attributes_lack : (byte : ℕ) (a : Attributes) → byte < 48 → IsAttributes a → Lacks byte (attributes_text a)
attributes_lack byte a low is = modes_lack byte a.mode a.owner None low is.mode is.owner tt

pub file_attributes_lack : (byte : ℕ) (a : OfFile) → byte < 48 → IsOfFile a → Lacks byte (file_attributes_text a)
file_attributes_lack byte a low is = modes_lack byte a.attributes.mode a.attributes.owner a.capability low is.attributes.mode is.attributes.owner is.capability

pub owned_lacks : (byte n : ℕ) (o : Owner) → byte < 48 → n ≤ 18446744073709551615 → IsOwner o → Lacks byte (owned_number n o)
owned_lacks byte n o low small is = lacks_append byte (decimal n) (marks_text o None) (decimal_lacks byte n low (omega arith)) (marks_lack byte o None low is tt)

-- what follows the first number of a capability
pub after_flag : (text : List ℕ) (n : ℕ) (rest : List ℕ) (c : Capability) → n ≤ 1 → text ≡ decimal n ++ 58 ∷ rest → text ≡ capability_text c → rest ≡ decimal c.permitted ++ 58 ∷ (decimal c.inheritable ++ 58 ∷ decimal c.root)
after_flag text n rest c small whole e = (number_once n (flag c.effective) rest _ (omega arith) (flag_wide c.effective) (sym whole ∙ e)).1

pub after_number : (text : List ℕ) (m n : ℕ) (rest more : List ℕ) → m ≤ 18446744073709551615 → n ≤ 18446744073709551615 → text ≡ decimal m ++ 58 ∷ rest → text ≡ decimal n ++ 58 ∷ more → rest ≡ more
after_number text m n rest more p q whole e = (number_once m n rest more p q (sym whole ∙ e)).1

-- the group, and the capability where there is one
abbrev pub group_text : Owner → Option Capability → List ℕ
group_text o None = decimal o.group
group_text o (Some c) = decimal o.group ++ 58 ∷ capability_text c

-- what follows the user
pub after_user : (text : List ℕ) (n : ℕ) (rest : List ℕ) (o : Owner) (c : Option Capability) → n ≤ 4294967294 → IsOwner o → text ≡ decimal n ++ 58 ∷ rest → 58 ∷ text ≡ marks_text o c → (n ≡ o.user) × (rest ≡ group_text o c)
after_user text n rest o None small io whole e = elim (told o) [
  | inl is ↦ absurd (nothing (sym is.1 ∙ sym e))
  | inr is ↦ number_once n o.user rest (decimal o.group) (omega arith) (omega (arith, io.user)) (sym whole ∙ ap (drop 1) (e ∙ is))
]
  where
    nothing : {xs : List ℕ} → [] ≡ 58 ∷ xs → ⊥
    nothing e = cc
after_user text n rest o (Some c) small io whole e = number_once n o.user rest _ (omega arith) (omega (arith, io.user)) (sym whole ∙ ap (drop 1) e)

-- a group without a colon stands alone
pub group_alone : (rest : List ℕ) (o : Owner) (c : Option Capability) → Lacks 58 rest → rest ≡ group_text o c → (c ≡ None) × (rest ≡ decimal o.group)
group_alone rest o None lacks e = (refl, e)
group_alone rest o (Some c) lacks e = absurd (split_none 58 rest (decimal o.group) (capability_text c) lacks e)

-- one with a colon has a capability after it
pub group_parted : (rest prefix more : List ℕ) (o : Owner) (c : Option Capability) → IsSplit 58 rest prefix more → IsOwner o → IsOptional c → rest ≡ group_text o c → (k : Capability) × IsCapability k × (prefix ≡ decimal o.group) × (more ≡ capability_text k)
group_parted rest prefix more o None split io ic e = absurd (split_none 58 rest prefix more (subst (Lacks 58) (sym e) (decimal_plain o.group (omega (arith, io.group)))) split.whole)
group_parted rest prefix more o (Some k) split io ic e =
    let parts = split_field 58 rest prefix more (decimal o.group) (capability_text k) split (decimal_plain o.group (omega (arith, io.group))) e in
    (k, ic, parts.0, parts.1)

-- root's own is not told
pub root_untold : (text : List ℕ) (n g : ℕ) (rest : List ℕ) (test : Bool) → n ≤ 4294967294 → g ≤ 4294967294 → text ≡ decimal n ++ 58 ∷ rest → Lacks 58 rest → rest ≡ decimal g → test ≡ is_root_owner (record { user = n; group = g }) → test ≡ true → ReadsMarks text None
root_untold text n g rest test sn sg whole lacks number is holds = λ o c io ic e.
    let user = after_user text n rest o c sn io whole e in
    let alone = group_alone rest o c lacks user.1 in
    let group : g ≡ o.group = decimal_injective g o.group (omega arith) (omega (arith, io.group)) (sym number ∙ alone.1) in
    let same : is_root_owner o ≡ true = (λ i. is_root_owner (record { user = sym user.0 i; group = sym group i })) ∙ sym is ∙ holds in
    nothing o same (e ∙ ap (marks_text o) alone.0)
  where
    nothing : (o : Owner) → is_root_owner o ≡ true → 58 ∷ text ≡ marks_text o None → ⊥
    nothing o root e = elim (told o) [
      | inl is ↦ empty (sym is.1 ∙ sym e)
      | inr is ↦ false≢true (unrooted o is root)
    ]
      where
        empty : {xs : List ℕ} → [] ≡ 58 ∷ xs → ⊥
        empty e = cc

        unrooted : (o : Owner) → marks_text o None ≡ 58 ∷ owner_text o → is_root_owner o ≡ true → false ≡ true
        unrooted o is root = let none : marks_text o None ≡ [] = rw root refl in absurd (empty (sym none ∙ is))
