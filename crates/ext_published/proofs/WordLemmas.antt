-- Words that ask nothing: where they go wrong, and that this is in one place.
use Rattle.std.proofs.Common.{◌≡◌, ◌≢◌, ℕ, ◌+◌, ◌<◌, ◌≤◌, Bool, true, ◌&&◌, List, [], ◌∷◌, ◌++◌, length, Option, Some, refl, sym, ap, ◌∙◌, subst, arith, append_assoc, append-nil, codes}
use Rattle.std.specs.Prelude.{Err, nat_lt, slice_get}
use Rattle.std.specs.List.{list_all}
use Rattle.std.proofs.lemmas.Bool.{and_parts, ltb-true}
use Rattle.std.proofs.lemmas.List.Elements.{All-weaker}
use Rattle.std.proofs.lemmas.List.Sums.{AllPass-from_list_all}
use Rattle.std.proofs.lemmas.Str.{IsUtf8-from_ascii}
use Rattle.std.proofs.lemmas.Str.Ascii.{IsAscii-from_all}
use Rattle.ext_text.specs.Absolute.{absolute}
use Rattle.ext_text.specs.Name.{IsName, is_name_byte}
use Rattle.ext_text.specs.Path.{IsPath, ReadsPath, path_parts, path_text}
use Rattle.ext_text.specs.declared.path.PathErr.{PathErr}
use Rattle.ext_text.specs.declared.path.PathErr.TheVariants as paths
use Rattle.ext_text.proofs.ForCallers.{no_path, parts_text, path_injective, text_of_parts}
use Rattle.ext_published.specs.Asked.{AskedOf, AskSomething, BeginsAsking, GoesWrong, IsDepotFolder, IsPublishAsk, IsResourceName, IsAskWrongAt, asked_words}
use Rattle.ext_published.specs.Reading.{ReadsAsked, RefusesAt, usage_of_path}
use Rattle.ext_published.specs.declared.words.AskErr.{AskErr}
use Rattle.ext_published.specs.declared.words.AskErr.TheVariants.{OutOfMemory, Usage}

-- a byte of a name, of ASCII
abbrev is_plain : ℕ → Bool
is_plain b = is_name_byte b && nat_lt b 128

-- ASCII bytes of names are a name
ascii_name : (bytes : List ℕ) → 0 < length bytes → length bytes ≤ 255 → bytes ≢ 46 ∷ [] → bytes ≢ 46 ∷ 46 ∷ [] → list_all is_plain bytes ≡ true → IsName bytes
ascii_name bytes some few dot dots plain =
    let all = AllPass-from_list_all is_plain bytes plain in
    let low = All-weaker (λ b. is_plain b ≡ true) (λ b. b < 128) (λ b is. ltb-true b 128 (and_parts (is_name_byte b) (nat_lt b 128) is).1) bytes all in
    record {
      non_empty = some;
      at_most_255 = few;
      not_dot = dot;
      not_dot_dot = dots;
      plain = All-weaker (λ b. is_plain b ≡ true) (λ b. is_name_byte b ≡ true) (λ b is. (and_parts (is_name_byte b) (nat_lt b 128) is).0) bytes all;
      utf8 = IsUtf8-from_ascii bytes (IsAscii-from_all bytes low);
    }

-- the names of manifests are names
pub manifest_is_name : IsName (codes "SHA256SUMS")
manifest_is_name = ascii_name (codes "SHA256SUMS") (omega arith) (omega arith) (λ e. cc) (λ e. cc) refl

pub coming_manifest_is_name : IsName (codes "SHA256SUMS.next")
coming_manifest_is_name = ascii_name (codes "SHA256SUMS.next") (omega arith) (omega arith) (λ e. cc) (λ e. cc) refl

a_name : IsName (codes "a")
a_name = ascii_name (codes "a") (omega arith) (omega arith) (λ e. cc) (λ e. cc) refl

a_text_name : IsName (codes "a.tree")
a_text_name = ascii_name (codes "a.tree") (omega arith) (omega arith) (λ e. cc) (λ e. cc) refl

root : IsPath []
root = record { each = tt; depth = omega arith; size = omega arith }

a_path : IsPath (codes "a" ∷ [])
a_path = record { each = (a_name, tt); depth = omega arith; size = omega arith }

a_text_path : IsPath (codes "a.tree" ∷ [])
a_text_path = record { each = (a_text_name, tt); depth = omega arith; size = omega arith }

a_folder : IsDepotFolder (codes "a" ∷ [])
a_folder = record { within = a_path; below_root = λ e. cc; text = a_text_path }

a_resource : IsResourceName (codes "a")
a_resource = record { within = a_name; text = a_text_name; no_tree_text = refl; no_manifest = λ e. cc; no_coming_manifest = λ e. cc }

-- something that may be asked
abbrev some_asked : List (List ℕ) → List (List ℕ) → AskedOf
some_asked path folder = record { path = path; folder = folder; name = codes "a" }

-- the first word is missing, or no path of the host
pub wrong_path : (words : List (List ℕ)) → ((path : List (List ℕ)) → IsPath path → slice_get words 0 ≢ Some (absolute path)) → IsAskWrongAt words 1
wrong_path [] none = record {
  prefix = [];
  rest = [];
  split = refl;
  after = refl;
  begins = record { more = _; whole = record { asked = some_asked [] (codes "a" ∷ []); is = record { path = root; folder = a_folder; name = a_resource }; same = refl } };
  wrong = λ asks. cc (asks.same);
}
wrong_path (word ∷ words) none = record {
  prefix = [];
  rest = word ∷ words;
  split = refl;
  after = refl;
  begins = record { more = _; whole = record { asked = some_asked [] (codes "a" ∷ []); is = record { path = root; folder = a_folder; name = a_resource }; same = refl } };
  wrong = λ begins. none begins.whole.asked.path begins.whole.is.path (ap (λ (ws : List (List ℕ)). slice_get ws 0) begins.whole.same);
}

-- the second word is missing, or no folder of a depot
pub wrong_folder : (words path : List (List ℕ)) → IsPath path → slice_get words 0 ≡ Some (absolute path)
    → ((folder : List (List ℕ)) → IsDepotFolder folder → slice_get words 1 ≢ Some (path_text folder)) → IsAskWrongAt words 2
wrong_folder [] path is first none = absurd (cc first)
wrong_folder (word ∷ []) path is first none =
    let same : word ≡ absolute path = cc in record {
      prefix = word ∷ [];
      rest = [];
      split = refl;
      after = refl;
      begins = record {
        more = path_text (codes "a" ∷ []) ∷ codes "a" ∷ [];
        whole = record { asked = some_asked path (codes "a" ∷ []); is = record { path = is; folder = a_folder; name = a_resource }; same = ap (λ (w : List ℕ). w ∷ path_text (codes "a" ∷ []) ∷ codes "a" ∷ []) same };
      };
      wrong = λ asks. cc (asks.same);
    }
wrong_folder (word ∷ next ∷ words) path is first none =
    let same : word ≡ absolute path = cc in record {
      prefix = word ∷ [];
      rest = next ∷ words;
      split = refl;
      after = refl;
      begins = record {
        more = path_text (codes "a" ∷ []) ∷ codes "a" ∷ [];
        whole = record { asked = some_asked path (codes "a" ∷ []); is = record { path = is; folder = a_folder; name = a_resource }; same = ap (λ (w : List ℕ). w ∷ path_text (codes "a" ∷ []) ∷ codes "a" ∷ []) same };
      };
      wrong = λ begins. none begins.whole.asked.folder begins.whole.is.folder (ap (λ (ws : List (List ℕ)). slice_get ws 1) begins.whole.same);
    }

-- the words of a path and a folder
abbrev two_words : List (List ℕ) → List (List ℕ) → List (List ℕ) → List (List ℕ)
two_words path folder more = absolute path ∷ path_text folder ∷ more

-- the third word is missing, or no name of a resource
pub wrong_name : (words path folder : List (List ℕ)) → IsPath path → IsDepotFolder folder → slice_get words 0 ≡ Some (absolute path) → slice_get words 1 ≡ Some (path_text folder)
    → ((name : List ℕ) → IsResourceName name → slice_get words 2 ≢ Some name) → IsAskWrongAt words 3
wrong_name [] path folder is at first second none = absurd (cc first)
wrong_name (a ∷ []) path folder is at first second none = absurd (cc second)
wrong_name (a ∷ b ∷ []) path folder is at first second none =
    let same : a ≡ absolute path = cc in
    let other : b ≡ path_text folder = cc in record {
      prefix = a ∷ b ∷ [];
      rest = [];
      split = refl;
      after = refl;
      begins = record {
        more = codes "a" ∷ [];
        whole = record {
          asked = some_asked path folder;
          is = record { path = is; folder = at; name = a_resource };
          same = ap (λ (w : List ℕ). w ∷ b ∷ codes "a" ∷ []) same ∙ ap (λ (w : List ℕ). absolute path ∷ w ∷ codes "a" ∷ []) other;
        };
      };
      wrong = λ asks. cc (asks.same);
    }
wrong_name (a ∷ b ∷ c ∷ words) path folder is at first second none =
    let same : a ≡ absolute path = cc in
    let other : b ≡ path_text folder = cc in record {
      prefix = a ∷ b ∷ [];
      rest = c ∷ words;
      split = refl;
      after = refl;
      begins = record {
        more = codes "a" ∷ [];
        whole = record {
          asked = some_asked path folder;
          is = record { path = is; folder = at; name = a_resource };
          same = ap (λ (w : List ℕ). w ∷ b ∷ codes "a" ∷ []) same ∙ ap (λ (w : List ℕ). absolute path ∷ w ∷ codes "a" ∷ []) other;
        };
      };
      wrong = λ begins. none begins.whole.asked.name begins.whole.is.name (ap (λ (ws : List (List ℕ)). slice_get ws 2) begins.whole.same);
    }

module _ (path folder : List (List ℕ)) (name : List ℕ) where
  same_words : (a b c : List ℕ) (more : List (List ℕ)) → Some a ≡ Some (absolute path) → Some b ≡ Some (path_text folder) → Some c ≡ Some name → a ∷ b ∷ c ∷ more ≡ absolute path ∷ path_text folder ∷ name ∷ more
  same_words a b c more one two three =
      let first : a ≡ absolute path = cc in
      let second : b ≡ path_text folder = cc in
      let third : c ≡ name = cc in
      ap (λ (w : List ℕ). w ∷ b ∷ c ∷ more) first ∙ ap (λ (w : List ℕ). absolute path ∷ w ∷ c ∷ more) second ∙ ap (λ (w : List ℕ). absolute path ∷ path_text folder ∷ w ∷ more) third

  -- three words are what is asked
  pub whole_words : (words : List (List ℕ)) → slice_get words 0 ≡ Some (absolute path) → slice_get words 1 ≡ Some (path_text folder) → slice_get words 2 ≡ Some name → length words ≤ 3
      → words ≡ asked_words (record { path = path; folder = folder; name = name })
  whole_words [] one two three few = absurd (cc one)
  whole_words (a ∷ []) one two three few = absurd (cc two)
  whole_words (a ∷ b ∷ []) one two three few = absurd (cc three)
  whole_words (a ∷ b ∷ c ∷ []) one two three few = same_words a b c [] one two three
  whole_words (a ∷ b ∷ c ∷ d ∷ words) one two three few = absurd (omega arith)

  -- a word follows them
  pub wrong_end : (words : List (List ℕ)) → IsPath path → IsDepotFolder folder → IsResourceName name
      → slice_get words 0 ≡ Some (absolute path) → slice_get words 1 ≡ Some (path_text folder) → slice_get words 2 ≡ Some name → 3 < length words → IsAskWrongAt words 4
  wrong_end [] is at named one two three many = absurd (cc one)
  wrong_end (a ∷ []) is at named one two three many = absurd (cc two)
  wrong_end (a ∷ b ∷ []) is at named one two three many = absurd (cc three)
  wrong_end (a ∷ b ∷ c ∷ []) is at named one two three many = absurd (omega arith)
  wrong_end (a ∷ b ∷ c ∷ d ∷ words) is at named one two three many = record {
    prefix = a ∷ b ∷ c ∷ [];
    rest = d ∷ words;
    split = refl;
    after = refl;
    begins = record {
      more = [];
      whole = record { asked = record { path = path; folder = folder; name = name }; is = record { path = is; folder = at; name = named }; same = same_words a b c [] one two three };
    };
    wrong = λ begins. cc (begins.whole.same);
  }

wrong_prefix : (p r q s : List (List ℕ)) → (front : List (List ℕ)) → p ++ r ≡ q ++ s → length p < length q → GoesWrong (front ++ p) r → BeginsAsking (front ++ q) → ⊥
wrong_prefix [] [] [] s front same longer wrong begins = omega arith
wrong_prefix [] [] (y ∷ q) s front same longer wrong begins = cc
wrong_prefix [] (x ∷ r) [] s front same longer wrong begins = omega arith
wrong_prefix [] (x ∷ r) (y ∷ q) s front same longer wrong begins =
    let first : y ≡ x = cc in
    wrong (record {
      more = q ++ begins.more;
      whole = subst AskSomething
          (append_assoc front (y ∷ q) begins.more ∙ ap (λ (w : List ℕ). front ++ w ∷ (q ++ begins.more)) first ∙ sym (append_assoc front (x ∷ []) (q ++ begins.more)) ∙ ap (λ (l : List (List ℕ)). (l ++ x ∷ []) ++ (q ++ begins.more)) (sym (append-nil front)))
          begins.whole;
    })
wrong_prefix (x ∷ p) r [] s front same longer wrong begins = omega arith
wrong_prefix (x ∷ p) r (y ∷ q) s front same longer wrong begins =
    let first : y ≡ x = cc in
    let rest : p ++ r ≡ q ++ s = cc in
    wrong_prefix p r q s (front ++ x ∷ []) rest (omega arith)
    (subst (λ (l : List (List ℕ)). GoesWrong l r) (sym (append_assoc front (x ∷ []) p)) wrong)
    (subst BeginsAsking (ap (λ (w : List ℕ). front ++ w ∷ q) first ∙ sym (append_assoc front (x ∷ []) q)) begins)

-- words have one first fault
pub one_wrong_place : (words : List (List ℕ)) (a b : ℕ) → IsAskWrongAt words a → IsAskWrongAt words b → a ≡ b
one_wrong_place words a b f g =
    let not_before : length f.prefix < length g.prefix → ⊥ = λ longer. wrong_prefix f.prefix f.rest g.prefix g.rest [] (sym f.split ∙ g.split) longer f.wrong g.begins in
    let not_after : length g.prefix < length f.prefix → ⊥ = λ longer. wrong_prefix g.prefix g.rest f.prefix f.rest [] (sym g.split ∙ f.split) longer g.wrong f.begins in
    let same : length f.prefix ≡ length g.prefix = omega arith in
    f.after ∙ ap (λ (n : ℕ). n + 1) same ∙ sym g.after

-- a text that is refused is no path's
pub path_refused : (text : List ℕ) (place : ℕ) (e : PathErr) → ReadsPath text (Err e) → RefusesAt path_text IsPath (Some text) place (usage_of_path e place)
path_refused text place paths.OutOfMemory why = tt
path_refused text place paths.TooLong why = (refl, λ path is same. no_path text paths.TooLong why (λ e. cc) path is (cc same))
path_refused text place paths.TooDeep why = (refl, λ path is same. no_path text paths.TooDeep why (λ e. cc) path is (cc same))
path_refused text place paths.BadName why = (refl, λ path is same. no_path text paths.BadName why (λ e. cc) path is (cc same))

-- the root is no folder of a depot
pub root_is_none : (text : List ℕ) (path : List (List ℕ)) → path ≡ [] → Some text ≡ Some (path_text path) → (folder : List (List ℕ)) → IsDepotFolder folder → Some text ≢ Some (path_text folder)
root_is_none text path none same folder is other =
    is.below_root (path_injective folder [] is.within root (let one : text ≡ path_text path = cc in let two : text ≡ path_text folder = cc in sym two ∙ one ∙ ap path_text none))

-- a folder is one whose longer text is a path's
pub is_folder : (text longer : List ℕ) (path wide : List (List ℕ)) → path ≢ [] → IsPath path → Some text ≡ Some (path_text path) → longer ≡ text ++ codes ".tree" → IsPath wide → Some longer ≡ Some (path_text wide) → IsDepotFolder path
is_folder text longer path wide below is same with_tree fits wider = record {
  within = is;
  below_root = below;
  text =
      let one : text ≡ path_text path = cc in
      let two : longer ≡ path_text wide = cc in
      subst IsPath (sym (parts_text wide fits.each) ∙ ap path_parts (sym two ∙ with_tree ∙ ap (λ (t : List ℕ). t ++ codes ".tree") one)) fits;
}

-- a text whose longer one is no path's is no folder's
pub not_folder : (text longer : List ℕ) (place at : ℕ) → longer ≡ text ++ codes ".tree" → (at ≡ place) × ((path : List (List ℕ)) → IsPath path → Some longer ≢ Some (path_text path))
    → (at ≡ place) × ((folder : List (List ℕ)) → IsDepotFolder folder → Some text ≢ Some (path_text folder))
not_folder text longer place at with_tree refused = (
  refused.0,
  λ folder is same.
      let one : text ≡ path_text folder = cc in
      refused.1 _ is.text (ap Some (with_tree ∙ ap (λ (t : List ℕ). t ++ codes ".tree") one ∙ sym (text_of_parts (path_text folder ++ codes ".tree")))),
)

pub not_folder_err : (text longer : List ℕ) (place : ℕ) (e : AskErr) → longer ≡ text ++ codes ".tree" → RefusesAt path_text IsPath (Some longer) place e → RefusesAt path_text IsDepotFolder (Some text) place e
not_folder_err text longer place OutOfMemory with_tree refused = tt
not_folder_err text longer place (Usage at) with_tree refused = not_folder text longer place at with_tree refused

-- the words ask nothing where the first is refused, the second, or the third
pub path_err : (words : List (List ℕ)) (e : AskErr) (o : Option (List ℕ)) → o ≡ slice_get words 0 → RefusesAt absolute IsPath o 1 e → ReadsAsked words (Err e)
path_err words OutOfMemory o is refused = tt
path_err words (Usage at) o is refused = subst (IsAskWrongAt words) (sym refused.0) (wrong_path words (λ path fits same. refused.1 path fits (is ∙ same)))

pub folder_err : (words path : List (List ℕ)) (e : AskErr) (o p : Option (List ℕ)) → o ≡ slice_get words 0 → p ≡ slice_get words 1 → IsPath path → o ≡ Some (absolute path)
    → RefusesAt path_text IsDepotFolder p 2 e → ReadsAsked words (Err e)
folder_err words path OutOfMemory o p first second fits one refused = tt
folder_err words path (Usage at) o p first second fits one refused =
    subst (IsAskWrongAt words) (sym refused.0) (wrong_folder words path fits (sym first ∙ one) (λ folder is same. refused.1 folder is (second ∙ same)))

pub name_err : (words path folder : List (List ℕ)) (e : AskErr) (o p q : Option (List ℕ)) → o ≡ slice_get words 0 → p ≡ slice_get words 1 → q ≡ slice_get words 2 → IsPath path → o ≡ Some (absolute path)
    → IsDepotFolder folder → p ≡ Some (path_text folder) → RefusesAt (λ name. name) IsResourceName q 3 e → ReadsAsked words (Err e)
name_err words path folder OutOfMemory o p q first second third fits one at two refused = tt
name_err words path folder (Usage place) o p q first second third fits one at two refused =
    subst (IsAskWrongAt words) (sym refused.0) (wrong_name words path folder fits at (sym first ∙ one) (sym second ∙ two) (λ name is same. refused.1 name is (third ∙ same)))

-- words ask one thing
pub one_asked : (a b : AskedOf) → IsPublishAsk a → IsPublishAsk b → asked_words a ≡ asked_words b → a ≡ b
one_asked a b first second same =
    let paths_same : path_text a.path ≡ path_text b.path = cc in
    let folders_same : path_text a.folder ≡ path_text b.folder = cc in
    let name : a.name ≡ b.name = cc in
    let path : a.path ≡ b.path = path_injective a.path b.path first.path second.path paths_same in
    let folder : a.folder ≡ b.folder = path_injective a.folder b.folder first.folder.within second.folder.within folders_same in
    λ i. record { path = path i; folder = folder i; name = name i }
