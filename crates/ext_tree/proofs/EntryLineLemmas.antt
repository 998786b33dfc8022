-- The lines of entries, whatever they hold of a content: an entry has its line alone, no line is `end`, and none holds a
-- newline.
use Rattle.std.proofs.Common.{◌≡◌, ◌≢◌, ℕ, ◌<◌, List, [], ◌∷◌, ◌++◌, length, get_or, drop, None, sym, ap, ◌∙◌, arith, codes}
use Rattle.std.specs.List.{AllByRecursion}
use Rattle.ext_lines.specs.Split.{Lacks}
use Rattle.ext_text.specs.Path.{IsPath, path_text}
use Rattle.ext_lines.proofs.ForCallers.{differs, lacks_cons, lacks_nil, plain_lacks}
use Rattle.ext_tree.specs.Fields.{IsTarget, spaced}
use Rattle.ext_attributes.specs.declared.attributes.Attributes.{Attributes}
use Rattle.ext_attributes.specs.declared.owner.Owner.{Owner}
use Rattle.ext_attributes.specs.Attributes.{IsAttributes, IsOfFile, IsOwner, OfFile, attributes_text, file_attributes_text, owned_number}
use Rattle.ext_attributes.proofs.ForCallers.{attributes_lack, file_attributes_lack, owned_lacks}
use Rattle.ext_tree.specs.EntryLine.{FieldsLack, FieldsOnce, HasLine, IsWritable, LineForm, ReadsFields, ReadsLine, entry_fields, entry_line}
use Rattle.ext_tree.specs.declared.entry.Entry.{Entry}
use Rattle.ext_tree.specs.declared.entry.Entry.TheVariants.{Dir, Opaque, File, Link, Hide}
use Rattle.ext_tree.proofs.FieldsLemmas.{attributes_once, file_attributes_once, target_once, spaced_lacks}
use Rattle.ext_text.proofs.ForCallers.{path_injective, path_lacks}

-- lines that begin otherwise differ
pub other_kind : (a b : ℕ) (xs ys : List ℕ) → (a ≡ b → ⊥) → a ∷ xs ≡ b ∷ ys → ⊥
other_kind a b xs ys ne e = ne (ap (λ (l : List ℕ). get_or l 0 0) e)

-- what follows the kind and its space
after_kind : (a b : ℕ) (xs ys : List ℕ) → a ∷ 32 ∷ xs ≡ b ∷ 32 ∷ ys → xs ≡ ys
after_kind a b xs ys e = ap (drop 2) e

kind_lacks : (kind : ℕ) → 10 < kind → Lacks 10 (kind ∷ [])
kind_lacks kind high = lacks_cons 10 kind [] (differs 10 kind (λ e. omega arith)) (lacks_nil 10)

module _ {C : Type 0} (form : LineForm C) where
  -- no entry's line begins with an `e`, as `end`, or with an `h`, as a header
  pub line_not_e : (x : List (List ℕ) × Entry C) (rest : List ℕ) → entry_line form x ≢ 101 ∷ rest
  line_not_e (p, Dir m) rest e = other_kind 100 101 _ _ (λ z. omega arith) e
  line_not_e (p, Opaque m) rest e = other_kind 111 101 _ _ (λ z. omega arith) e
  line_not_e (p, File m c) rest e = other_kind 102 101 _ _ (λ z. omega arith) e
  line_not_e (p, Link o t) rest e = other_kind 108 101 _ _ (λ z. omega arith) e
  line_not_e (p, Hide) rest e = other_kind 119 101 _ _ (λ z. omega arith) e

  pub line_not_h : (x : List (List ℕ) × Entry C) (rest : List ℕ) → entry_line form x ≢ 104 ∷ rest
  line_not_h (p, Dir m) rest e = other_kind 100 104 _ _ (λ z. omega arith) e
  line_not_h (p, Opaque m) rest e = other_kind 111 104 _ _ (λ z. omega arith) e
  line_not_h (p, File m c) rest e = other_kind 102 104 _ _ (λ z. omega arith) e
  line_not_h (p, Link o t) rest e = other_kind 108 104 _ _ (λ z. omega arith) e
  line_not_h (p, Hide) rest e = other_kind 119 104 _ _ (λ z. omega arith) e

  -- no entry's line is `end`
  pub line_not_end : (x : List (List ℕ) × Entry C) → entry_line form x ≢ codes "end"
  line_not_end x e = line_not_e x (110 ∷ 100 ∷ []) e

  -- without attributes they are no directory's
  pub no_dir : (fields : List ℕ) → ((a : Attributes) (rest : List ℕ) → IsAttributes a → fields ≢ attributes_text a ++ 32 ∷ rest) → ReadsFields form (100 ∷ 32 ∷ fields) None
  no_dir fields none (Dir m) rest is e = none m rest is (after_kind 100 100 _ _ e)
  no_dir fields none (Opaque m) rest is e = other_kind 100 111 _ _ (λ z. omega arith) e
  no_dir fields none (File m c) rest is e = other_kind 100 102 _ _ (λ z. omega arith) e
  no_dir fields none (Link o t) rest is e = other_kind 100 108 _ _ (λ z. omega arith) e
  no_dir fields none Hide rest is e = other_kind 100 119 _ _ (λ z. omega arith) e

  -- nor an opaque directory's
  pub no_opaque : (fields : List ℕ) → ((a : Attributes) (rest : List ℕ) → IsAttributes a → fields ≢ attributes_text a ++ 32 ∷ rest) → ReadsFields form (111 ∷ 32 ∷ fields) None
  no_opaque fields none (Dir m) rest is e = other_kind 111 100 _ _ (λ z. omega arith) e
  no_opaque fields none (Opaque m) rest is e = none m rest is (after_kind 111 111 _ _ e)
  no_opaque fields none (File m c) rest is e = other_kind 111 102 _ _ (λ z. omega arith) e
  no_opaque fields none (Link o t) rest is e = other_kind 111 108 _ _ (λ z. omega arith) e
  no_opaque fields none Hide rest is e = other_kind 111 119 _ _ (λ z. omega arith) e

  -- nor a file's
  pub no_file : (fields : List ℕ) → ((a : OfFile) (rest : List ℕ) → IsOfFile a → fields ≢ file_attributes_text a ++ 32 ∷ rest) → ReadsFields form (102 ∷ 32 ∷ fields) None
  no_file fields none (Dir m) rest is e = other_kind 102 100 _ _ (λ z. omega arith) e
  no_file fields none (Opaque m) rest is e = other_kind 102 111 _ _ (λ z. omega arith) e
  no_file fields none (File m c) rest is e = none m (spaced (form.fields c) rest) is.0 (after_kind 102 102 _ _ e)
  no_file fields none (Link o t) rest is e = other_kind 102 108 _ _ (λ z. omega arith) e
  no_file fields none Hide rest is e = other_kind 102 119 _ _ (λ z. omega arith) e

  -- where no content follows the attributes, they are no file's
  pub no_content : (fields after : List ℕ) (m : OfFile) → IsOfFile m → fields ≡ file_attributes_text m ++ 32 ∷ after
      → ((c : C) (rest : List ℕ) → form.writable c → after ≢ spaced (form.fields c) rest) → ReadsFields form (102 ∷ 32 ∷ fields) None
  no_content fields after m small is none (Dir n) rest writable e = other_kind 102 100 _ _ (λ z. omega arith) e
  no_content fields after m small is none (Opaque n) rest writable e = other_kind 102 111 _ _ (λ z. omega arith) e
  no_content fields after m small is none (File n c) rest writable e =
      none c rest writable.1 (file_attributes_once m n after (spaced (form.fields c) rest) small writable.0 (sym is ∙ after_kind 102 102 _ _ e)).1
  no_content fields after m small is none (Link o t) rest writable e = other_kind 102 108 _ _ (λ z. omega arith) e
  no_content fields after m small is none Hide rest writable e = other_kind 102 119 _ _ (λ z. omega arith) e

  -- without a target they are no link's
  pub no_link : (fields : List ℕ) → ((o : Owner) (t : List ℕ) (rest : List ℕ) → IsOwner o → IsTarget t → fields ≢ owned_number (length t) o ++ 32 ∷ (t ++ 32 ∷ rest)) → ReadsFields form (108 ∷ 32 ∷ fields) None
  no_link fields none (Dir m) rest is e = other_kind 108 100 _ _ (λ z. omega arith) e
  no_link fields none (Opaque m) rest is e = other_kind 108 111 _ _ (λ z. omega arith) e
  no_link fields none (File m c) rest is e = other_kind 108 102 _ _ (λ z. omega arith) e
  no_link fields none (Link o t) rest is e = none o t rest is.0 is.1 (after_kind 108 108 _ _ e)
  no_link fields none Hide rest is e = other_kind 108 119 _ _ (λ z. omega arith) e

  module _ (lack : FieldsLack form) where
    -- no field of an entry holds a newline
    pub fields_lack : (e : Entry C) → IsWritable form e → AllByRecursion (Lacks 10) (entry_fields form e)
    fields_lack (Dir m) is = (kind_lacks 100 (omega arith), (attributes_lack 10 m (omega arith) is, tt))
    fields_lack (Opaque m) is = (kind_lacks 111 (omega arith), (attributes_lack 10 m (omega arith) is, tt))
    fields_lack (File m c) is = (kind_lacks 102 (omega arith), (file_attributes_lack 10 m (omega arith) is.0, lack c is.1))
    fields_lack (Link o t) is =
        let most = is.1.at_most_4096 in
        (kind_lacks 108 (omega arith), (owned_lacks 10 (length t) o (omega arith) (omega arith) is.0, (plain_lacks 10 t (omega arith) is.1.plain, tt)))
    fields_lack Hide is = (kind_lacks 119 (omega arith), tt)

    -- an entry's line has no newline in it
    pub line_lacks : (x : List (List ℕ) × Entry C) → HasLine form x → Lacks 10 (entry_line form x)
    line_lacks x h = spaced_lacks 10 (entry_fields form x.1) (path_text x.0) (omega arith) (fields_lack x.1 h.writable) (path_lacks 10 x.0 (omega arith) h.path.each)

  module _ (once : FieldsOnce form) where
    -- fields tell their entry, and where they end
    pub fields_once : (d e : Entry C) (xs ys : List ℕ) → IsWritable form d → IsWritable form e → spaced (entry_fields form d) xs ≡ spaced (entry_fields form e) ys → (d ≡ e) × (xs ≡ ys)
    fields_once (Dir m) (Dir n) xs ys hd he e =
        let mode = attributes_once m n xs ys hd he (after_kind 100 100 _ _ e) in
        ((λ i. Dir (mode.0 i)), mode.1)
    fields_once (Dir m) (Opaque n) xs ys hd he e = absurd (other_kind 100 111 _ _ (λ z. omega arith) e)
    fields_once (Dir m) (File n d) xs ys hd he e = absurd (other_kind 100 102 _ _ (λ z. omega arith) e)
    fields_once (Dir m) (Link p u) xs ys hd he e = absurd (other_kind 100 108 _ _ (λ z. omega arith) e)
    fields_once (Dir m) Hide xs ys hd he e = absurd (other_kind 100 119 _ _ (λ z. omega arith) e)
    fields_once (Opaque m) (Dir n) xs ys hd he e = absurd (other_kind 111 100 _ _ (λ z. omega arith) e)
    fields_once (Opaque m) (Opaque n) xs ys hd he e =
        let mode = attributes_once m n xs ys hd he (after_kind 111 111 _ _ e) in
        ((λ i. Opaque (mode.0 i)), mode.1)
    fields_once (Opaque m) (File n d) xs ys hd he e = absurd (other_kind 111 102 _ _ (λ z. omega arith) e)
    fields_once (Opaque m) (Link p u) xs ys hd he e = absurd (other_kind 111 108 _ _ (λ z. omega arith) e)
    fields_once (Opaque m) Hide xs ys hd he e = absurd (other_kind 111 119 _ _ (λ z. omega arith) e)
    fields_once (File m c) (Dir n) xs ys hd he e = absurd (other_kind 102 100 _ _ (λ z. omega arith) e)
    fields_once (File m c) (Opaque n) xs ys hd he e = absurd (other_kind 102 111 _ _ (λ z. omega arith) e)
    fields_once (File m c) (File n d) xs ys hd he e =
        let mode = file_attributes_once m n (spaced (form.fields c) xs) (spaced (form.fields d) ys) hd.0 he.0 (after_kind 102 102 _ _ e) in
        let content = once c d xs ys hd.1 he.1 mode.1 in
        ((λ i. File (mode.0 i) (content.0 i)), content.1)
    fields_once (File m c) (Link p u) xs ys hd he e = absurd (other_kind 102 108 _ _ (λ z. omega arith) e)
    fields_once (File m c) Hide xs ys hd he e = absurd (other_kind 102 119 _ _ (λ z. omega arith) e)
    fields_once (Link o t) (Dir n) xs ys hd he e = absurd (other_kind 108 100 _ _ (λ z. omega arith) e)
    fields_once (Link o t) (Opaque n) xs ys hd he e = absurd (other_kind 108 111 _ _ (λ z. omega arith) e)
    fields_once (Link o t) (File n d) xs ys hd he e = absurd (other_kind 108 102 _ _ (λ z. omega arith) e)
    fields_once (Link o t) (Link p u) xs ys hd he e =
        let target = target_once o p t u xs ys hd.0 he.0 hd.1 he.1 (after_kind 108 108 _ _ e) in
        ((λ i. Link (target.0 i) (target.1.0 i)), target.1.1)
    fields_once (Link o t) Hide xs ys hd he e = absurd (other_kind 108 119 _ _ (λ z. omega arith) e)
    fields_once Hide (Dir n) xs ys hd he e = absurd (other_kind 119 100 _ _ (λ z. omega arith) e)
    fields_once Hide (Opaque n) xs ys hd he e = absurd (other_kind 119 111 _ _ (λ z. omega arith) e)
    fields_once Hide (File n d) xs ys hd he e = absurd (other_kind 119 102 _ _ (λ z. omega arith) e)
    fields_once Hide (Link p u) xs ys hd he e = absurd (other_kind 119 108 _ _ (λ z. omega arith) e)
    fields_once Hide Hide xs ys hd he e = ((λ i. Hide), after_kind 119 119 _ _ e)

    -- an entry has its line alone
    pub line_injective : (x y : List (List ℕ) × Entry C) → HasLine form x → HasLine form y → entry_line form x ≡ entry_line form y → x ≡ y
    line_injective x y hx hy e =
        let entry = fields_once x.1 y.1 (path_text x.0) (path_text y.0) hx.writable hy.writable e in
        let path = path_injective x.0 y.0 hx.path hy.path entry.1 in
        λ i. (path i, entry.0 i)

    -- where no path follows the fields, no entry has the line
    pub no_path_after : (line rest : List ℕ) (e : Entry C) → IsWritable form e → line ≡ spaced (entry_fields form e) rest
        → ((p : List (List ℕ)) → IsPath p → 0 < length p → rest ≢ path_text p) → ReadsLine form line None
    no_path_after line rest e writable is none x has same =
        none x.0 has.path has.non_empty (fields_once e x.1 rest (path_text x.0) writable has.writable (sym is ∙ same)).1
