-- The line of a manifest that says other than the base has: it is one of the index's lines, and there is one such line.
use Rattle.std.proofs.Common.{◌≡◌, ℕ, ◌+◌, ◌≤◌, Bool, inl, inr, List, [], ◌∷◌, ◌++◌, length, refl, sym, ap, ◌∙◌, subst, arith, codes, length-append}
use Rattle.std.specs.Prelude.{Some}
use Rattle.std.specs.List.{AllByRecursion, flat_map}
use Rattle.std.proofs.lemmas.List.Concat.{flat_map-append}
use Rattle.ext_host.specs.Host.{Hierarchies, HostTree, base_at, hierarchies_in, past_tree, present}
use Rattle.ext_host.specs.Valid.{HasItems}
use Rattle.ext_host.specs.declared.manifest.Manifest.{Manifest}
use Rattle.ext_host.specs.declared.past.Past.{Past}
use Rattle.ext_host.specs.declared.host.Host.{Host}
use Rattle.ext_index_lines.specs.Lines.{number_line}
use Rattle.ext_index_lines.specs.Out.{at_most_64_bits}
use Rattle.ext_index_lines.specs.declared.text_number.TextNumber.{TextNumber}
use Rattle.ext_index_lines.specs.declared.text_number.TextNumber.TheVariants.{One, Later}
use Rattle.ext_index_reader.specs.Listed.{IsOfText1}
use Rattle.ext_index_reader.specs.Reading.{IsSaid}
use Rattle.ext_index_reader.specs.declared.said.Said.{Said}
use Rattle.ext_index_reader.proofs.ForCallers.{lines_below_bytes, said_is_listed}
use Rattle.ext_index.specs.Faulty.{AreRight, FindsWrong, HasWrongManifest, IsFirstWrong, IsRight, IsWrongAt, IsWrongPast, head_lines, lines_to_kept, lines_to_past}
use Rattle.ext_index.specs.Index.{attachment_lines, index_lines, index_text, machine_lines, manifest_lines, merged_lines, past_lines, record_lines, section_lines, listed_tree_lines}
use Rattle.ext_index.specs.ValidIndex.{most_index_bytes}

-- more of a list makes more lines
flat_longer : {X : Type 0} (lines : X → List (List ℕ)) (before : List X) (x : X) (after : List X) → length (flat_map lines before) + length (lines x) ≤ length (flat_map lines (before ++ x ∷ after))
flat_longer lines before x after =
    let whole : length (flat_map lines (before ++ x ∷ after)) ≡ length (flat_map lines before ++ (lines x ++ flat_map lines after)) = ap length (flat_map-append lines before (x ∷ after)) in
    let one = length-append (flat_map lines before) (lines x ++ flat_map lines after) in
    let two = length-append (lines x) (flat_map lines after) in
    omega arith

-- before a manifest stand fewer lines than its tree has
kept_within : (g : ℕ) (hierarchies : Hierarchies) (tree : HostTree) (before : List Manifest) → IsFirstWrong hierarchies tree before → length (lines_to_kept tree before) + 1 ≤ length (section_lines g tree)
kept_within g hierarchies tree before wrong =
    let one = merged_lines (codes "sysext") tree.sysext in
    let two = merged_lines (codes "confext") tree.confext in
    let attached = flat_map attachment_lines tree.attached in
    let some = flat_map manifest_lines before in
    let all = flat_map manifest_lines tree.kept in
    let head = number_line (codes "attached") (length tree.attached) in
    let mid = number_line (codes "kept") (length tree.kept) in
    let entries = listed_tree_lines (codes "root") g tree.root ++ listed_tree_lines (codes "lower") g tree.lower in
    let a = length-append one (two ++ (head ∷ (attached ++ (mid ∷ some)))) in
    let b = length-append two (head ∷ (attached ++ (mid ∷ some))) in
    let c = length-append attached (mid ∷ some) in
    let d = length-append one (two ++ (record_lines tree.attached tree.kept ++ entries)) in
    let e = length-append two (record_lines tree.attached tree.kept ++ entries) in
    let f = length-append (record_lines tree.attached tree.kept) entries in
    let h = length-append attached (mid ∷ all) in
    let same : length (flat_map manifest_lines tree.kept) ≡ length (flat_map manifest_lines (before ++ wrong.wrong ∷ wrong.after)) = ap (λ (ms : List Manifest). length (flat_map manifest_lines ms)) wrong.parted in
    let longer = flat_longer manifest_lines before wrong.wrong wrong.after in
    omega arith

-- the head and the host's own sections are lines of the index
now_within : (number : TextNumber) (g : ℕ) (host : Host) → length (head_lines number host) + length (section_lines g (present host)) ≤ length (index_lines number g host)
now_within (Later owners) g host =
    let sections = section_lines g (present host) in
    let more = number_line (codes "past") (length host.past) ∷ (flat_map (past_lines g) host.past ++ codes "end" ∷ []) in
    let one = length-append (machine_lines owners host) (sections ++ more) in
    let two = length-append sections more in
    omega arith
now_within One g host = let one = length-append (section_lines g (present host)) (codes "end" ∷ []) in omega arith

-- and so are those to a past tree, and its sections
past_within : (owners : Bool) (g : ℕ) (host : Host) (trees : List Past) (tree : Past) (after : List Past) → host.past ≡ trees ++ tree ∷ after → length (lines_to_past (Later owners) g host trees tree) + length (section_lines g (past_tree tree)) ≤ length (index_lines (Later owners) g host)
past_within owners g host trees tree after parted =
    let head = machine_lines owners host in
    let sections = section_lines g (present host) in
    let count = number_line (codes "past") (length host.past) in
    let some = flat_map (past_lines g) trees in
    let all = flat_map (past_lines g) host.past in
    let line = number_line (codes "g") tree.generation in
    let a = length-append head (sections ++ (count ∷ (some ++ line ∷ []))) in
    let b = length-append sections (count ∷ (some ++ line ∷ [])) in
    let c = length-append some (line ∷ []) in
    let d = length-append head (sections ++ (count ∷ (all ++ codes "end" ∷ []))) in
    let e = length-append sections (count ∷ (all ++ codes "end" ∷ [])) in
    let f = length-append all (codes "end" ∷ []) in
    let same : length all ≡ length (flat_map (past_lines g) (trees ++ tree ∷ after)) = ap (λ (ps : List Past). length (flat_map (past_lines g) ps)) parted in
    let longer = flat_longer (past_lines g) trees tree after in
    omega arith

no_more : {X : Type 0} (xs : List X) (x : X) (ys : List X) → [] ≡ xs ++ x ∷ ys → ⊥
no_more xs x ys none =
    let empty : 0 ≡ length (xs ++ x ∷ ys) = ap length none in
    let both = length-append xs (x ∷ ys) in
    omega arith

line_within : (number : TextNumber) (g : ℕ) (host : Host) (line : ℕ) → (number ≡ One → IsOfText1 host) → IsWrongAt number g host line → line ≤ length (index_lines number g host)
line_within number g host line of_1 (inl wrong) =
    let counted = wrong.counted in
    let both = length-append (head_lines number host) (lines_to_kept (present host) wrong.before) in
    let kept = kept_within g (hierarchies_in host) (present host) wrong.before wrong.wrong in
    let whole = now_within number g host in
    omega arith
line_within (Later owners) g host line of_1 (inr wrong) =
    let counted = wrong.counted in
    let both = length-append (lines_to_past (Later owners) g host wrong.trees wrong.tree) (lines_to_kept (past_tree wrong.tree) wrong.before) in
    let kept = kept_within g (hierarchies_in host) (past_tree wrong.tree) wrong.before wrong.wrong in
    let whole = past_within owners g host wrong.trees wrong.tree wrong.more wrong.parted in
    omega arith
line_within One g host line of_1 (inr wrong) = absurd (no_more wrong.trees wrong.tree wrong.more (sym (of_1 refl).past ∙ wrong.parted))

-- a count of 64 bits tells it
exactly : (n : ℕ) → n ≤ most_index_bytes → at_most_64_bits n ≡ n
exactly n low = grind (arith)

pub wrong_exactly : (g : ℕ) (bytes : List ℕ) (said : Said) (found : ℕ) → g ≤ 4294967295 → length bytes ≤ most_index_bytes → IsSaid g bytes said → FindsWrong said.text g said.host (Some found) → HasWrongManifest g bytes found
wrong_exactly g bytes said found last fits is (line, at, same) =
    let listing = said_is_listed g bytes said last is in
    let within = line_within said.text g said.host line listing.text_1 at in
    let long : length bytes ≡ length (index_text said.text g said.host) = ap length listing.text in
    let fewer = lines_below_bytes (index_lines said.text g said.host) in
    record { said = said; is_said = is; wrong = subst (IsWrongAt said.text g said.host) (sym (same ∙ exactly line (omega arith))) at }

-- the first that lacks a property has one prefix before it
module _ {X : Type 0} (P : X → Type 0) where
  pub one_first : (xs ys : List X) (x y : X) (more other : List X) → xs ++ x ∷ more ≡ ys ++ y ∷ other → AllByRecursion P xs → AllByRecursion P ys → ¬ P x → ¬ P y → (xs ≡ ys) × (x ≡ y)
  one_first [] [] x y more other same all each not_x not_y = (refl, let first : x ≡ y = cc in first)
  one_first [] (z ∷ ys) x y more other same all each not_x not_y = absurd (let first : x ≡ z = cc in not_x (subst P (sym first) each.0))
  one_first (z ∷ xs) [] x y more other same all each not_x not_y = absurd (let first : z ≡ y = cc in not_y (subst P first all.0))
  one_first (z ∷ xs) (w ∷ ys) x y more other same all each not_x not_y =
      let first : z ≡ w = cc in
      let rest : xs ++ x ∷ more ≡ ys ++ y ∷ other = cc in
      let both = one_first xs ys x y more other rest all.1 each.1 not_x not_y in
      ((λ i. first i ∷ both.0 i), both.1)

  -- all of them can't have it
  pub all_but_first : (xs : List X) (x : X) (more : List X) → AllByRecursion P (xs ++ x ∷ more) → P x
  all_but_first [] x more all = all.0
  all_but_first (y ∷ xs) x more all = all_but_first xs x more all.1

one_before : (hierarchies : Hierarchies) (tree : HostTree) (a b : List Manifest) → IsFirstWrong hierarchies tree a → IsFirstWrong hierarchies tree b → a ≡ b
one_before hierarchies tree a b one two = (one_first (HasItems (base_at hierarchies tree)) a b one.wrong two.wrong one.after two.after (sym one.parted ∙ two.parted) one.right two.right one.differs two.differs).0

not_right : (hierarchies : Hierarchies) (tree : HostTree) (before : List Manifest) → IsFirstWrong hierarchies tree before → ¬ AreRight hierarchies tree
not_right hierarchies tree before wrong right = wrong.differs (all_but_first (HasItems (base_at hierarchies tree)) before wrong.wrong wrong.after (subst (AllByRecursion (HasItems (base_at hierarchies tree))) wrong.parted right))

abbrev PastIsRight : Host → Past → Type 0
PastIsRight host past = AreRight (hierarchies_in host) (past_tree past)

same_past : (number : TextNumber) (g : ℕ) (host : Host) (k l : ℕ) (one : IsWrongPast number g host k) (other : IsWrongPast number g host l) → (one.trees ≡ other.trees) × (one.tree ≡ other.tree)
same_past number g host k l one other =
    one_first (PastIsRight host) one.trees other.trees one.tree other.tree one.more other.more (sym one.parted ∙ other.parted) one.right other.right
    (not_right (hierarchies_in host) (past_tree one.tree) one.before one.wrong) (not_right (hierarchies_in host) (past_tree other.tree) other.before other.wrong)

pub one_wrong_line : (number : TextNumber) (g : ℕ) (host : Host) (k l : ℕ) → IsWrongAt number g host k → IsWrongAt number g host l → k ≡ l
one_wrong_line number g host k l (inl one) (inl other) =
    one.counted ∙ ap (λ before. length (head_lines number host ++ lines_to_kept (present host) before) + 1) (one_before (hierarchies_in host) (present host) one.before other.before one.wrong other.wrong) ∙ sym other.counted
one_wrong_line number g host k l (inl one) (inr other) = absurd (not_right (hierarchies_in host) (present host) one.before one.wrong other.now)
one_wrong_line number g host k l (inr one) (inl other) = absurd (not_right (hierarchies_in host) (present host) other.before other.wrong one.now)
one_wrong_line number g host k l (inr one) (inr other) =
    let same = same_past number g host k l one other in
    let before = one_before (hierarchies_in host) (past_tree other.tree) one.before other.before (subst (λ (p : Past). IsFirstWrong (hierarchies_in host) (past_tree p) one.before) same.1 one.wrong) other.wrong in
    one.counted ∙ (λ i. length (lines_to_past number g host (same.0 i) (same.1 i) ++ lines_to_kept (past_tree (same.1 i)) (before i)) + 1) ∙ sym other.counted

-- where each manifest says what its base has there is none
pub right_has_none : (number : TextNumber) (g : ℕ) (host : Host) (line : ℕ) → IsRight host → ¬ IsWrongAt number g host line
right_has_none number g host line right (inl wrong) = not_right (hierarchies_in host) (present host) wrong.before wrong.wrong right.now
right_has_none number g host line right (inr wrong) =
    not_right (hierarchies_in host) (past_tree wrong.tree) wrong.before wrong.wrong
    (all_but_first (PastIsRight host) wrong.trees wrong.tree wrong.more (subst (AllByRecursion (PastIsRight host)) wrong.parted right.past))
