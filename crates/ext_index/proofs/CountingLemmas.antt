-- Counts that stop at the last number of 64 bits.
use Rattle.std.proofs.Common.{◌≡◌, ℕ, ◌+◌, List, ◌∷◌, ◌++◌, length, sym, ap, ◌∙◌, length-append, codes, arith}
use Rattle.std.specs.List.{flat_map}
use Rattle.ext_host.specs.Host.{HostTree}
use Rattle.ext_host.specs.declared.manifest.Manifest.{Manifest}
use Rattle.ext_index_lines.specs.Out.{at_most_64_bits}
use Rattle.ext_index_lines.specs.Lines.{number_line}
use Rattle.ext_index.specs.Faulty.{lines_to_kept}
use Rattle.ext_index.specs.Index.{attachment_lines, manifest_lines, merged_lines}

-- three counts and two more
three_counts : (a b c : ℕ) → at_most_64_bits (at_most_64_bits (at_most_64_bits (at_most_64_bits a + at_most_64_bits b) + at_most_64_bits c) + 2) ≡ at_most_64_bits (a + b + c + 2)
three_counts a b c = grind (arith)

-- how many lines stand before a manifest
kept_length : (tree : HostTree) (before : List Manifest)
    → length (lines_to_kept tree before)
    ≡ length (merged_lines (codes "sysext") tree.sysext ++ merged_lines (codes "confext") tree.confext) + length (flat_map attachment_lines tree.attached) + length (flat_map manifest_lines before) + 2
kept_length tree before =
    let one = merged_lines (codes "sysext") tree.sysext in
    let two = merged_lines (codes "confext") tree.confext in
    let attached = flat_map attachment_lines tree.attached in
    let manifests = flat_map manifest_lines before in
    let head = number_line (codes "attached") (length tree.attached) in
    let mid = number_line (codes "kept") (length tree.kept) in
    let a = length-append one (two ++ (head ∷ (attached ++ (mid ∷ manifests)))) in
    let b = length-append two (head ∷ (attached ++ (mid ∷ manifests))) in
    let c = length-append attached (mid ∷ manifests) in
    let d = length-append one two in
    grind (arith)

pub count_kept : (tree : HostTree) (before : List Manifest) (a b c first second third : ℕ)
    → ((word other : List ℕ) → a ≡ at_most_64_bits (length (merged_lines word tree.sysext ++ merged_lines other tree.confext)))
    → b ≡ at_most_64_bits (length (flat_map attachment_lines tree.attached)) → c ≡ at_most_64_bits (length (flat_map manifest_lines before))
    → first ≡ at_most_64_bits (a + b) → second ≡ at_most_64_bits (first + c) → third ≡ at_most_64_bits (second + 2)
    → third ≡ at_most_64_bits (length (lines_to_kept tree before))
count_kept tree before a b c first second third classes attached manifests one two three =
    let merged = length (merged_lines (codes "sysext") tree.sysext ++ merged_lines (codes "confext") tree.confext) in
    three ∙ ap (λ n. at_most_64_bits (n + 2)) (two ∙ ap (λ n. at_most_64_bits (n + c)) (one ∙ (λ i. at_most_64_bits (classes (codes "sysext") (codes "confext") i + attached i))))
    ∙ ap (λ n. at_most_64_bits (at_most_64_bits (at_most_64_bits (at_most_64_bits merged + at_most_64_bits (length (flat_map attachment_lines tree.attached))) + n) + 2)) manifests
    ∙ three_counts merged (length (flat_map attachment_lines tree.attached)) (length (flat_map manifest_lines before))
    ∙ ap at_most_64_bits (sym (kept_length tree before))
