-- What a store points to: one generation, or none, or nothing where it is broken.
use Rattle.std.proofs.Common.{◌≡◌, ℕ, ◌<◌, ◌≤◌, List, [], ◌∷◌, Option, Some, None, refl, sym, ap, ◌∙◌, subst, inl, inr, arith}
use Rattle.std.proofs.lemmas.List.{append_cancel_right}
use Rattle.std.specs.Prelude.{unwrap_or}
use Rattle.ext_disk.specs.Disk.{Node, Tree, Places, folder, file, now}
use Rattle.ext_host.specs.declared.host.Host.{Host}
use Rattle.ext_index.specs.Faulty.{IsFaulty}
use Rattle.ext_index.specs.ValidIndex.{GivesIndex}
use Rattle.ext_index.proofs.ForCallers.{faulty_is_none, one_faulty_line, one_host}
use Rattle.ext_store_files.specs.Names.{IsGeneration, current_path, current_text, generation_name, generation_of, index_path}
use Rattle.ext_store_files.proofs.ForCallers.{named_generation}
use Rattle.ext_gen.specs.Opened.{Generation}
use Rattle.ext_gen.specs.Store.{State, generation_in, IsCurrent, Points, Stands}
use Rattle.ext_gen.specs.Sound.{IsSound}
use Rattle.ext_gen.specs.Broken.{NamesNone, IsFaultyIndex, IsBroken}
use Rattle.ext_gen.proofs.StatesLemmas.{sound_now, stands_points}

last_number : (n : ℕ) → IsGeneration n → n ≤ 4294967295
last_number n is = let below : n < 4294967296 = is.1 in omega arith

abbrev bytes_in : Option Node → List ℕ
bytes_in None = []
bytes_in (Some folder) = []
bytes_in (Some (file bytes)) = bytes

no_file : (bytes : List ℕ) → None ≡ Some (file bytes) → ⊥
no_file bytes same = cc same

-- a text of `current` names one generation
one_text : (m n : ℕ) → IsGeneration m → IsGeneration n → current_text m ≡ current_text n → m ≡ n
one_text m n first second same =
    let names : generation_name m ≡ generation_name n = append_cancel_right (generation_name m) (generation_name n) (10 ∷ []) same in
    ap (λ (o : Option ℕ). unwrap_or o 0) (sym (named_generation m first) ∙ ap generation_of names ∙ named_generation n second)

abbrev given_of : Generation → Host × ℕ
given_of g = (g.host, g.text)

same_given : (a b : Generation) → a.number ≡ b.number → given_of a ≡ given_of b → a ≡ b
same_given a b number given = λ i. record { number = number i; text = (given i).1; host = (given i).0 }

-- two that a tree names have one number
one_number : (t : Tree) (m n : ℕ) → IsGeneration m → IsGeneration n → t current_path ≡ Some (file (current_text m)) → t current_path ≡ Some (file (current_text n)) → m ≡ n
one_number t m n first second one two = one_text m n first second (ap bytes_in (sym one ∙ two))

-- and one index
one_index : (t : Tree) (m n : ℕ) (xs ys : List ℕ) → m ≡ n → t (index_path m) ≡ Some (file xs) → t (index_path n) ≡ Some (file ys) → xs ≡ ys
one_index t m n xs ys same one two = ap bytes_in (sym one ∙ ap (λ k. t (index_path k)) same ∙ two)

same_current : (t : Tree) (g h : Generation) → IsCurrent t g → IsCurrent t h → g ≡ h
same_current t g h one two =
    let number : g.number ≡ h.number = one_number t g.number h.number one.number two.number one.current two.current in
    let bytes : one.bytes ≡ two.bytes = one_index t g.number h.number one.bytes two.bytes number one.index two.index in
    same_given g h number
    (one_host g.number one.bytes (g.host, g.text) (h.host, h.text) (last_number g.number one.number) one.reads
    (subst (λ n. GivesIndex n one.bytes (h.host, h.text)) (sym number) (subst (λ b. GivesIndex h.number b (h.host, h.text)) (sym bytes) two.reads)))

-- a store points to one generation, or to none
pub one_generation : (t : Tree) (a b : Option Generation) → Points t a → Points t b → a ≡ b
one_generation t None None one two = refl
one_generation t None (Some h) one two = absurd (no_file _ (sym one ∙ two.current))
one_generation t (Some g) None one two = absurd (no_file _ (sym two ∙ one.current))
one_generation t (Some g) (Some h) one two = ap Some (same_current t g h one two)

-- two states for which a tree stands have one generation
pub one_state : (t : Tree) (s u : State) → Stands t s → Stands t u → generation_in s ≡ generation_in u
one_state t s u one two = one_generation t (generation_in s) (generation_in u) (stands_points t s one) (stands_points t u two)

none_named : (o : Option Node) (n : ℕ) → IsGeneration n → o ≡ Some (file (current_text n)) → NamesNone o → ⊥
none_named o n is same names_none = (subst NamesNone same names_none) n is refl

absent_named : (o : Option Node) → o ≡ None → NamesNone o → ⊥
absent_named o same names_none = subst NamesNone same names_none

-- a broken store points to nothing
pub broken_points_to_nothing : (t : Tree) (line : ℕ) (a : Option Generation) → IsBroken t line → Points t a → ⊥
broken_points_to_nothing t line None (inl broken) points = absent_named (t current_path) points broken.0
broken_points_to_nothing t line (Some g) (inl broken) points = none_named (t current_path) g.number points.number points.current broken.0
broken_points_to_nothing t line None (inr broken) points = no_file _ (sym points ∙ broken.current)
broken_points_to_nothing t line (Some g) (inr broken) points =
    let number : broken.number ≡ g.number = one_number t broken.number g.number broken.is points.number broken.current points.current in
    let found : t (index_path broken.number) ≡ Some (file points.bytes) = ap (λ n. t (index_path n)) number ∙ points.index in
    faulty_is_none g.number points.bytes line (g.host, g.text) (last_number g.number points.number)
    (subst (λ n. IsFaulty n points.bytes line) number (subst (λ o. IsFaultyIndex broken.number o line) found broken.index)) points.reads

one_line_of : (n : ℕ) (o : Option Node) (k l : ℕ) → IsGeneration n → IsFaultyIndex n o k → IsFaultyIndex n o l → k ≡ l
one_line_of n None k l is one two = one ∙ sym two
one_line_of n (Some folder) k l is one two = one ∙ sym two
one_line_of n (Some (file bytes)) k l is one two = one_faulty_line n bytes k l (last_number n is) one two

-- and is broken in one line
pub one_broken_line : (t : Tree) (k l : ℕ) → IsBroken t k → IsBroken t l → k ≡ l
one_broken_line t k l (inl one) (inl two) = one.1 ∙ sym two.1
one_broken_line t k l (inl one) (inr two) = absurd (none_named (t current_path) two.number two.is two.current one.0)
one_broken_line t k l (inr one) (inl two) = absurd (none_named (t current_path) one.number one.is one.current two.0)
one_broken_line t k l (inr one) (inr two) =
    let number : two.number ≡ one.number = one_number t two.number one.number two.is one.is two.current one.current in
    one_line_of one.number (t (index_path one.number)) k l one.is one.index (subst (λ n. IsFaultyIndex n (t (index_path n)) l) number two.index)

-- a sound store is not broken
pub sound_is_not_broken : (d : Places) (line : ℕ) → IsSound d → IsBroken (now d) line → ⊥
sound_is_not_broken d line sound broken =
    let one = sound_now d sound in
    broken_points_to_nothing (now d) line (generation_in one.0) broken (stands_points (now d) one.0 one.1)
