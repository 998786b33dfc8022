-- Names by which resources are listed, and what a line of a manifest offers.
use Rattle.std.proofs.Common.{◌≡◌, ◌↔◌, ◌<◌, ◌≤◌, ℕ, ◌+◌, ◌-◌, Bool, true, false, ◌&&◌, List, ◌++◌, length, take, drop, length-append, Option, Some, None, Result, Ok, Err, refl, sym, ap, subst, ◌∙◌, arith, codes, Bor}
use Rattle.std.specs.Prelude.{IfOk, MatchOption, nat_lt}
use Rattle.std.specs.List.{AllPass, list_all}
use Rattle.std.specs.Option.{option_map}
use Rattle.std.specs.Str.{bytes_eq}
use Rattle.std.proofs.Math.Seq.{drop-append_seam}
use Rattle.std.proofs.lemmas.Bool.{and_parts, false≢true, ltb-true}
use Rattle.std.proofs.lemmas.List.{append_cancel_right, take-append-drop}
use Rattle.std.proofs.lemmas.List.Elements.{All-append, All-weaker}
use Rattle.std.proofs.lemmas.List.Sums.{AllPass-from_list_all}
use Rattle.std.proofs.lemmas.Str.{IsUtf8-append, IsUtf8-from_ascii}
use Rattle.std.proofs.lemmas.Str.Ascii.{IsAscii-from_all}
use Rattle.ext_text.specs.Name.{IsName, is_name_byte}
use Rattle.ext_sums.specs.declared.sums.Listed.{Listed}
use Rattle.ext_transfer.specs.declared.transfer.ResourceType.{ResourceType}
use Rattle.ext_transfer.specs.declared.transfer.ResourceType.TheVariants.{File, Directory}
use Rattle.ext_transfer.specs.declared.transfer.Transfer.{Transfer}
use Rattle.ext_available.specs.declared.offer.Offer.{Offer}
use Rattle.ext_available.specs.Candidates.{IsListedBy, IsNamedOffer, IsOfferOf, OffersJust}
use Rattle.ext_available.specs.Resource.{IsReadAs, listed_name}
use Rattle.ext_available.proofs.CandidateLemmas.{same_offer}
use Rattle.ext_available.proofs.VersionLemmas.{equal_bytes, same_bytes}

-- a byte of a name, of ASCII
abbrev pub is_low_byte : ℕ → Bool
is_low_byte b = is_name_byte b && nat_lt b 128

-- a name with more after it, of such bytes, is one where it is short enough
longer_name : (name more : List ℕ) → IsName name → 1 < length more → list_all is_low_byte more ≡ true → length (name ++ more) ≤ 255 → IsName (name ++ more)
longer_name name more is some low few =
    let all = AllPass-from_list_all is_low_byte more low in
    record {
      non_empty = omega (arith, length-append name more);
      at_most_255 = few;
      not_dot = λ e. omega (arith, length-append name more, ap length e);
      not_dot_dot = λ e. omega (arith, length-append name more, ap length e, is.non_empty);
      plain = All-append (λ b. is_name_byte b ≡ true) name more is.plain (All-weaker (λ b. is_low_byte b ≡ true) (λ b. is_name_byte b ≡ true) (λ b both. (and_parts (is_name_byte b) (nat_lt b 128) both).0) more all);
      utf8 = IsUtf8-append name more is.utf8 (IsUtf8-from_ascii more (IsAscii-from_all more (All-weaker (λ b. is_low_byte b ≡ true) (λ b. b < 128) (λ b both. ltb-true b 128 (and_parts (is_name_byte b) (nat_lt b 128) both).1) more all)));
    }

-- what lists a name is one, where it is short enough
pub listed_is_name : (r : ResourceType) (name : List ℕ) → IsName name → length (listed_name r name) ≤ 255 → IsName (listed_name r name)
listed_is_name File name is few = is
listed_is_name Directory name is few = longer_name name (codes ".tree") is (omega arith) refl few

-- the last bytes of the name that lists a directory
tree_end : (name : List ℕ) → drop (length (name ++ codes ".tree") - 5) (name ++ codes ".tree") ≡ codes ".tree"
tree_end name =
    let rest : length (name ++ codes ".tree") - 5 ≡ length name = omega (arith, length-append name (codes ".tree")) in
    ap (λ (k : ℕ). drop k (name ++ codes ".tree")) rest ∙ drop-append_seam name (codes ".tree")

tree_before : (listed x : List ℕ) → bytes_eq (drop (length listed - 5) listed) (codes ".tree") ≡ true → x ≡ take (length listed - 5) listed → listed ≡ x ++ codes ".tree"
tree_before listed x ends is =
    sym (take-append-drop (length listed - 5) listed)
    ∙ ap (λ (r : List ℕ). take (length listed - 5) listed ++ r) (equal_bytes (drop (length listed - 5) listed) (codes ".tree") ends)
    ∙ ap (λ (r : List ℕ). r ++ codes ".tree") (sym is)

-- which directory is listed, by what stands before `.tree`
pub directory_listed : (listed : List ℕ) (found : Option (Bor (List ℕ))) → length listed ≤ 255
    → MatchOption found (bytes_eq (drop (length listed - 5) listed) (codes ".tree") ≡ false) (λ x. (bytes_eq (drop (length listed - 5) listed) (codes ".tree") ≡ true) × (x.now ≡ take (length listed - 5) listed) × (length x.now + 5 ≡ length listed))
    → (name : List ℕ) → IsListedBy Directory listed name ↔ (option_map (λ r. r.now) found ≡ Some name)
directory_listed listed None few ends name = (
  (λ by. absurd (false≢true (sym ends ∙ ap (λ (l : List ℕ). bytes_eq (drop (length l - 5) l) (codes ".tree")) by.listed_is ∙ ap (λ (e : List ℕ). bytes_eq e (codes ".tree")) (tree_end name) ∙ same_bytes (codes ".tree")))),
  (λ is. absurd (cc is)),
)
directory_listed listed (Some x) few ends name =
    let whole = tree_before listed x.now ends.0 ends.1 in (
      (λ by. ap Some (append_cancel_right x.now name (codes ".tree") (sym whole ∙ by.listed_is))),
      (λ is. let same : x.now ≡ name = cc is in record { listed_is = whole ∙ ap (λ (n : List ℕ). n ++ codes ".tree") same; at_most_255 = few }),
    )

-- the same, where the resources are told to be directories
pub directory_by : (r : ResourceType) (listed : List ℕ) (found : Option (Bor (List ℕ))) → r ≡ Directory → length listed ≤ 255
    → MatchOption found (bytes_eq (drop (length listed - 5) listed) (codes ".tree") ≡ false) (λ x. (bytes_eq (drop (length listed - 5) listed) (codes ".tree") ≡ true) × (x.now ≡ take (length listed - 5) listed) × (length x.now + 5 ≡ length listed))
    → (name : List ℕ) → IsListedBy r listed name ↔ (option_map (λ r. r.now) found ≡ Some name)
directory_by r listed found is few ends name =
    subst (λ (x : ResourceType). IsListedBy x listed name ↔ (option_map (λ r. r.now) found ≡ Some name)) (sym is) (directory_listed listed found few ends name)

module _ (t : Transfer) (line : Listed) (name version : List ℕ)
    (listed : (n : List ℕ) → IsListedBy t.resources line.name n ↔ (Some name ≡ Some n))
    (read : (v : List ℕ) → IsReadAs t v name line.digest.0 ↔ (Some version ≡ Some v)) where
  offer_named : (o : Offer) → IsOfferOf t line o → IsNamedOffer name version line.digest o
  offer_named o is =
      let named : line.name ≡ listed_name t.resources o.name = ap (λ (e : List ℕ × List ℕ). e.0) is.line_is in
      let digest : o.digest.0 ≡ line.digest.0 = sym (ap (λ (e : List ℕ × List ℕ). e.1) is.line_is) in
      let by : Some name ≡ Some o.name = (listed o.name).0 (record { listed_is = named; at_most_255 = omega (arith, ap length named, is.listed.at_most_255) }) in
      let same : o.name ≡ name = cc by in
      let reads : IsReadAs t o.version name line.digest.0 = subst (λ (n : List ℕ). IsReadAs t o.version n line.digest.0) same (subst (IsReadAs t o.version o.name) digest is.read) in
      let found : Some version ≡ Some o.version = (read o.version).0 reads in
      record {
        is_name = subst IsName same is.resource;
        offer_is = same_offer o (record { version = version; name = name; digest = line.digest }) (let v : o.version ≡ version = cc found in v) same digest;
      }

  named_offered : (o : Offer) → IsNamedOffer name version line.digest o → IsOfferOf t line o
  named_offered o is =
      let by : IsListedBy t.resources line.name name = (listed name).1 refl in
      let reads : IsReadAs t version name line.digest.0 = (read version).1 refl in
      subst (IsOfferOf t line) (sym is.offer_is) (record {
        resource = is.is_name;
        listed = listed_is_name t.resources name is.is_name (omega (arith, ap length by.listed_is, by.at_most_255));
        line_is = ap (λ (n : List ℕ). (n, line.digest.0)) by.listed_is;
        read = reads;
      })

  -- what a line offers is the offer of its name and its version
  pub just_named : {E : Type 0} (result : Result (Option Offer) E) → IfOk result (λ found. (o : Offer) → IsNamedOffer name version line.digest o ↔ (found ≡ Some o)) → IfOk result (OffersJust t line)
  just_named (Ok found) named = λ o. ((λ is. (named o).0 (offer_named o is)), (λ is. named_offered o ((named o).1 is)))
  just_named (Err e) named = tt

-- the same, by what the calls before it gave
pub named_just : (t : Transfer) (line : Listed) (bytes name version : List ℕ) (resource read : Option (Bor (List ℕ))) → bytes ≡ line.name
    → option_map (λ r. r.now) resource ≡ Some name → option_map (λ r. r.now) read ≡ Some version
    → ((n : List ℕ) → IsListedBy t.resources bytes n ↔ (option_map (λ r. r.now) resource ≡ Some n))
    → ((v : List ℕ) → IsReadAs t v name line.digest.0 ↔ (option_map (λ r. r.now) read ≡ Some v))
    → {E : Type 0} (result : Result (Option Offer) E) → IfOk result (λ found. (o : Offer) → IsNamedOffer name version line.digest o ↔ (found ≡ Some o)) → IfOk result (OffersJust t line)
named_just t line bytes name version resource read same resource_is read_is lists reads result named =
    let listed : (n : List ℕ) → IsListedBy t.resources line.name n ↔ (Some name ≡ Some n) =
    λ n. (
      (λ by. sym resource_is ∙ (lists n).0 (subst (λ (b : List ℕ). IsListedBy t.resources b n) (sym same) by)),
      (λ is. subst (λ (b : List ℕ). IsListedBy t.resources b n) same ((lists n).1 (resource_is ∙ is))),
    ) in
    let read_so : (v : List ℕ) → IsReadAs t v name line.digest.0 ↔ (Some version ≡ Some v) = λ v. ((λ by. sym read_is ∙ (reads v).0 by), (λ is. (reads v).1 (read_is ∙ is))) in
    just_named t line name version listed read_so result named
