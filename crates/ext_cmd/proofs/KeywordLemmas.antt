-- Words that are looked for in a table: the word at the place of a text has that text, and a text without a place is no word's.
use Rattle.std.proofs.Common.{◌≡◌, ◌≢◌, ℕ, ◌<◌, true, false, cond, ltb, List, [], map, length, get_or, sym, ap, ◌∙◌, refl, arith}
use Rattle.std.specs.Prelude.{Option, Some, None, bytes_eq, position}
use Rattle.std.proofs.Math.ListN.{get_or-map}
use Rattle.std.proofs.lemmas.List.{get_or_default, length-map}
use Rattle.std.proofs.lemmas.Bool.Decides.{nat_tests}
use Rattle.std.proofs.lemmas.List.Quantifiers.{position-Some}
use Rattle.std.proofs.lemmas.List.Sums.{fails_before_first}
use Rattle.std.proofs.lemmas.Slice.Eq.{bytes_eq-Decides}
use Rattle.ext_cmd.specs.Keyword.{keyword_text, port_word_text, update_word_text, verb_text}
use Rattle.ext_cmd.specs.declared.keyword.Keyword.{Keyword}
use Rattle.ext_cmd.specs.declared.keyword.Keyword.TheVariants as keywords
use Rattle.ext_cmd.specs.declared.keyword.Verb.{Verb}
use Rattle.ext_cmd.specs.declared.keyword.Verb.TheVariants as verbs
use Rattle.ext_cmd.specs.declared.keyword.UpdateWord.{UpdateWord}
use Rattle.ext_cmd.specs.declared.keyword.UpdateWord.TheVariants as asks
use Rattle.ext_cmd.specs.declared.keyword.PortWord.{PortWord}
use Rattle.ext_cmd.specs.declared.keyword.PortWord.TheVariants as ports
use Rattle.ext_cmd.specs.declared.keyword.TheConstants.{KEYWORDS, KEYWORD_TEXTS, VERBS, VERB_TEXTS, UPDATE_WORDS, UPDATE_WORD_TEXTS, PORT_WORDS, PORT_WORD_TEXTS}

module _ {K W : Type 0} (now : W → List ℕ) (text_of : K → List ℕ) (keys : List K) (words : List W) (text : List ℕ) (place : Option ℕ) where
  -- where keys stand in the order of their texts, the one at the place of a text has that text
  pub there : (i : ℕ) (k : K) (w : W) → place ≡ position (λ word. bytes_eq (now word) text) words → map text_of keys ≡ map now words → place ≡ Some i → text ≡ text_of (get_or keys i k)
  there i k w at same is =
      let found = position-Some (λ word. bytes_eq (now word) text) words i w (sym at ∙ is) in
      let has : now (get_or words i w) ≡ text = (bytes_eq-Decides (now (get_or words i w)) text).0 found.1 in
      let keyed : get_or (map text_of keys) i (text_of k) ≡ text_of (get_or keys i k) = get_or-map text_of keys i k in
      let worded : get_or (map now words) i (now w) ≡ now (get_or words i w) = get_or-map now words i w in
      let below : i < length (map now words) = rw (length-map words now) found.0 in
      sym has ∙ (sym worded ∙ (get_or_default (map now words) i (now w) (text_of k) below ∙ (ap (λ l. get_or l i (text_of k)) (sym same) ∙ keyed)))

  past : (a n i : ℕ) → cond (ltb a n) (Some a) None ≡ None → i < n → i < a
  past a n i e l = grind (arith, nat_tests)

  -- and a text without a place is that of none of the keys
  pub nowhere : (w : W) → place ≡ position (λ word. bytes_eq (now word) text) words → map text_of keys ≡ map now words → place ≡ None → (i : ℕ) → i < length words → text ≢ get_or (map text_of keys) i []
  nowhere w at same none i l is =
      let fails : bytes_eq (now (get_or words i w)) text ≡ false = fails_before_first (λ word. bytes_eq (now word) text) words i w (past _ (length words) i (sym at ∙ none) l) in
      let below : i < length (map now words) = rw (length-map words now) l in
      let worded : get_or (map now words) i (now w) ≡ now (get_or words i w) = get_or-map now words i w in
      let same_there : text ≡ now (get_or words i w) = is ∙ (ap (λ l. get_or l i []) same ∙ (get_or_default (map now words) i [] (now w) below ∙ worded)) in
      let passes : bytes_eq (now (get_or words i w)) text ≡ true = (bytes_eq-Decides (now (get_or words i w)) text).1 (sym same_there) in
      cc

-- the keywords
pub keywords_in_order : map keyword_text KEYWORDS ≡ map (λ w. w.now) KEYWORD_TEXTS
keywords_in_order = refl

pub no_keyword : (text : List ℕ) → ((i : ℕ) → i < length KEYWORD_TEXTS → text ≢ get_or (map keyword_text KEYWORDS) i []) → (k : Keyword) → text ≢ keyword_text k
no_keyword text none keywords.Init = none 0 (omega arith)
no_keyword text none keywords.ImportFs = none 1 (omega arith)
no_keyword text none keywords.Remove = none 2 (omega arith)
no_keyword text none keywords.Sysext = none 3 (omega arith)
no_keyword text none keywords.Confext = none 4 (omega arith)
no_keyword text none keywords.Tree = none 5 (omega arith)
no_keyword text none keywords.Cat = none 6 (omega arith)
no_keyword text none keywords.Compare = none 7 (omega arith)
no_keyword text none keywords.Check = none 8 (omega arith)
no_keyword text none keywords.Layer = none 9 (omega arith)
no_keyword text none keywords.Migrate = none 10 (omega arith)
no_keyword text none keywords.Batch = none 11 (omega arith)
no_keyword text none keywords.Sample = none 12 (omega arith)
no_keyword text none keywords.Sysupdate = none 13 (omega arith)
no_keyword text none keywords.Portable = none 14 (omega arith)
no_keyword text none keywords.Mark = none 15 (omega arith)
no_keyword text none keywords.History = none 16 (omega arith)
no_keyword text none keywords.Rollback = none 17 (omega arith)
no_keyword text none keywords.Forget = none 18 (omega arith)

-- the verbs
pub verbs_in_order : map verb_text VERBS ≡ map (λ w. w.now) VERB_TEXTS
verbs_in_order = refl

pub no_verb : (text : List ℕ) → ((i : ℕ) → i < length VERB_TEXTS → text ≢ get_or (map verb_text VERBS) i []) → (k : Verb) → text ≢ verb_text k
no_verb text none verbs.List = none 0 (omega arith)
no_verb text none verbs.Status = none 1 (omega arith)
no_verb text none verbs.Merge = none 2 (omega arith)
no_verb text none verbs.Unmerge = none 3 (omega arith)
no_verb text none verbs.Refresh = none 4 (omega arith)
no_verb text none verbs.Changes = none 5 (omega arith)
no_verb text none verbs.Explain = none 6 (omega arith)

-- what is asked of updates
pub update_words_in_order : map update_word_text UPDATE_WORDS ≡ map (λ w. w.now) UPDATE_WORD_TEXTS
update_words_in_order = refl

pub no_update_word : (text : List ℕ) → ((i : ℕ) → i < length UPDATE_WORD_TEXTS → text ≢ get_or (map update_word_text UPDATE_WORDS) i []) → (k : UpdateWord) → text ≢ update_word_text k
no_update_word text none asks.List = none 0 (omega arith)
no_update_word text none asks.CheckNew = none 1 (omega arith)
no_update_word text none asks.Update = none 2 (omega arith)
no_update_word text none asks.Vacuum = none 3 (omega arith)
no_update_word text none asks.Features = none 4 (omega arith)

-- the words after `portable`
pub port_words_in_order : map port_word_text PORT_WORDS ≡ map (λ w. w.now) PORT_WORD_TEXTS
port_words_in_order = refl

pub no_port_word : (text : List ℕ) → ((i : ℕ) → i < length PORT_WORD_TEXTS → text ≢ get_or (map port_word_text PORT_WORDS) i []) → (k : PortWord) → text ≢ port_word_text k
no_port_word text none ports.List = none 0 (omega arith)
no_port_word text none ports.Inspect = none 1 (omega arith)
no_port_word text none ports.IsAttached = none 2 (omega arith)
no_port_word text none ports.Attach = none 3 (omega arith)
no_port_word text none ports.Detach = none 4 (omega arith)
no_port_word text none ports.Reattach = none 5 (omega arith)
