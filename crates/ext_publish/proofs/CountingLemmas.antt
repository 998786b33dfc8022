-- How much is published: the files of a tree, one after the other.
use Rattle.std.proofs.Common.{◌≡◌, ℕ, ◌+◌, ◌<◌, List, [], ◌∷◌, ◌++◌, length, take, get_or, refl, sym, ap, ◌∙◌, subst, arith, length-append}
use Rattle.std.specs.List.{sum_by}
use Rattle.std.proofs.lemmas.List.{append-nil}
use Rattle.std.proofs.lemmas.List.Sums.{sum_by-append}
use Rattle.ext_tree.specs.Tree.{Entries}
use Rattle.ext_tree.specs.declared.entry.Entry.{Entry}
use Rattle.ext_tree.specs.declared.entry.Entry.TheVariants as entries
use Rattle.ext_host.specs.Held.{HeldFile}
use Rattle.ext_gen.proofs.ForCallers.{files_next}
use Rattle.ext_published.specs.Payload.{files_of_entry, files_of_tree}
use Rattle.ext_published.specs.declared.payload.Payload.TheVariants.{Directory}
use Rattle.ext_publish.specs.Attempting.{IsMadeOf, IsWithEntry}
use Rattle.ext_publish.specs.declared.counting.Made.{Made}

pub counts_nothing : (es : Entries HeldFile) (made : Made) → made.files ≡ 0 → made.bytes ≡ 0 → IsMadeOf made (Directory (take 0 es))
counts_nothing es made files bytes = record { files = files; bytes = bytes }

-- an entry that is no file
counts_same : (es : Entries HeldFile) (i : ℕ) (x : List (List ℕ) × Entry HeldFile) (made more : Made) → i < length es → x ≡ get_or es i x → files_of_entry x.1 ≡ [] → more ≡ made → IsMadeOf made (Directory (take i es)) → IsMadeOf more (Directory (take (i + 1) es))
counts_same es i x made more inside is none is_made counted =
    let same : files_of_tree (take (i + 1) es) ≡ files_of_tree (take i es) =
    files_next (λ (e : List (List ℕ) × Entry HeldFile). files_of_entry e.1) es i x inside is ∙ ap (λ l. files_of_tree (take i es) ++ l) none ∙ append-nil (files_of_tree (take i es)) in
    subst (λ m. IsMadeOf m (Directory (take (i + 1) es))) (sym is_made)
    (record { files = counted.files ∙ ap length (sym same); bytes = counted.bytes ∙ ap (sum_by (λ (held : HeldFile). held.stamp.size)) (sym same) })

-- a file
counts_file : (es : Entries HeldFile) (i : ℕ) (x : List (List ℕ) × Entry HeldFile) (held : HeldFile) (made more : Made) → i < length es → x ≡ get_or es i x → files_of_entry x.1 ≡ held ∷ []
    → (more.files ≡ made.files + 1) × (more.bytes ≡ made.bytes + held.stamp.size) → IsMadeOf made (Directory (take i es)) → IsMadeOf more (Directory (take (i + 1) es))
counts_file es i x held made more inside is file one counted =
    let same : files_of_tree (take (i + 1) es) ≡ files_of_tree (take i es) ++ held ∷ [] =
    files_next (λ (e : List (List ℕ) × Entry HeldFile). files_of_entry e.1) es i x inside is ∙ ap (λ l. files_of_tree (take i es) ++ l) file in
    record {
      files = omega (arith, one.0, counted.files, ap length same, length-append (files_of_tree (take i es)) (held ∷ []));
      bytes = omega (arith, one.1, counted.bytes, ap (sum_by (λ (held : HeldFile). held.stamp.size)) same, sum_by-append (λ (held : HeldFile). held.stamp.size) (files_of_tree (take i es)) (held ∷ []));
    }

-- an entry more
pub counts_more : (es : Entries HeldFile) (i : ℕ) (x : List (List ℕ) × Entry HeldFile) (made more : Made) → i < length es → x ≡ get_or es i x → IsMadeOf made (Directory (take i es)) → IsWithEntry made x.1 more → IsMadeOf more (Directory (take (i + 1) es))
counts_more es i x made more inside is counted with_it = each x.1 refl with_it
  where
    each : (e : Entry HeldFile) → x.1 ≡ e → IsWithEntry made e more → IsMadeOf more (Directory (take (i + 1) es))
    each (entries.File attributes held) same one = counts_file es i x held made more inside is (ap files_of_entry same) one counted
    each (entries.Dir attributes) same one = counts_same es i x made more inside is (ap files_of_entry same) one counted
    each (entries.Opaque attributes) same one = counts_same es i x made more inside is (ap files_of_entry same) one counted
    each (entries.Link owner target) same one = counts_same es i x made more inside is (ap files_of_entry same) one counted
    each entries.Hide same one = counts_same es i x made more inside is (ap files_of_entry same) one counted

-- all of them
pub counts_all : (es : Entries HeldFile) (i : ℕ) (made : Made) → take i es ≡ es → IsMadeOf made (Directory (take i es)) → IsMadeOf made (Directory es)
counts_all es i made all counted = subst (λ l. IsMadeOf made (Directory l)) all counted
