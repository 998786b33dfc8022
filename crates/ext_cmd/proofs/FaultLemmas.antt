-- Places of faults, for any grammar.
use Rattle.std.proofs.Common.{◌≡◌, ℕ, ◌+◌, List, [], ◌∷◌, ◌++◌, refl, sym, ap, ◌∙◌, subst, arith}
use Rattle.ext_cmd.specs.Fault.{BeginsWords, IsStuck, IsFault}
use Rattle.ext_cmd.specs.Grammar.{Chooses, Then, Maybe}
use Rattle.ext_cmd.specs.Reading.{RefusesWords, RefusesWord}
use Rattle.ext_cmd.specs.declared.words.CmdErr.{CmdErr}
use Rattle.ext_cmd.specs.declared.words.CmdErr.TheVariants.{OutOfMemory, Usage}

-- a grammar of lists of words
abbrev Grammar : Type 1
Grammar = List (List ℕ) → Type 0

-- the first word is missing
missing : (Is : Grammar) (first : ℕ) → BeginsWords Is [] → ¬ Is [] → IsFault Is [] first first
missing Is first begins none = record { prefix = []; rest = []; split = refl; after = omega arith; begins = begins; stuck = none }

-- no words of the grammar begin with the first word
wrong : (Is : Grammar) (word : List ℕ) (words : List (List ℕ)) (first : ℕ) → BeginsWords Is [] → ((more : List (List ℕ)) → ¬ Is (word ∷ more)) → IsFault Is (word ∷ words) first first
wrong Is word words first begins none =
    record { prefix = []; rest = word ∷ words; split = refl; after = omega arith; begins = begins; stuck = λ b. none b.more b.whole }

-- where the words of a grammar after a word are those of another, a fault of those is a fault of the whole
stuck_after : (Is More : Grammar) (word : List ℕ) → ((more : List (List ℕ)) → Is (word ∷ more) → More more) → (prefix rest : List (List ℕ)) → IsStuck More prefix rest → IsStuck Is (word ∷ prefix) rest
stuck_after Is More word after prefix [] stuck = λ is. stuck (after prefix is)
stuck_after Is More word after prefix (next ∷ rest) stuck = λ begins. stuck (record { more = begins.more; whole = after _ begins.whole })

pub fault_after : (Is More : Grammar) (word : List ℕ) (words : List (List ℕ)) (first next place : ℕ) → next ≡ first + 1
    → ((more : List (List ℕ)) → Is (word ∷ more) → More more) → ((more : List (List ℕ)) → More more → Is (word ∷ more))
    → IsFault More words next place → IsFault Is (word ∷ words) first place
fault_after Is More word words first next place step after before fault = record {
  prefix = word ∷ fault.prefix;
  rest = fault.rest;
  split = ap (λ (ws : List (List ℕ)). word ∷ ws) fault.split;
  after = omega (arith, fault.after);
  begins = record { more = fault.begins.more; whole = before _ fault.begins.whole };
  stuck = stuck_after Is More word after fault.prefix fault.rest fault.stuck;
}

pub refuse_missing : (Is : Grammar) (words : List (List ℕ)) (first : ℕ) → BeginsWords Is [] → ¬ Is [] → words ≡ [] → RefusesWords Is words first (Usage first)
refuse_missing Is words first begins none are = rw are (missing Is first begins none)

-- a word is wrong, whatever follows
pub refuse_wrong : (Is : Grammar) (Word : List ℕ → Type 0) (word : List ℕ) (more words : List (List ℕ)) (first : ℕ) (e : CmdErr)
    → BeginsWords Is [] → ((rest : List (List ℕ)) → Is (word ∷ rest) → Word word) → words ≡ word ∷ more → RefusesWord Word word first e → RefusesWords Is words first e
refuse_wrong Is Word word more words first OutOfMemory begins is are refused = tt
refuse_wrong Is Word word more words first (Usage at) begins is are refused =
    rw (are, refused.0) (wrong Is word more first begins (λ rest whole. refused.1 (is rest whole)))

-- the words after a word are refused
pub refuse_after : (Is More : Grammar) (word : List ℕ) (more words : List (List ℕ)) (first next : ℕ) (e : CmdErr) → next ≡ first + 1
    → ((rest : List (List ℕ)) → Is (word ∷ rest) → More rest) → ((rest : List (List ℕ)) → More rest → Is (word ∷ rest))
    → words ≡ word ∷ more → RefusesWords More more next e → RefusesWords Is words first e
refuse_after Is More word more words first next OutOfMemory step after before are refused = tt
refuse_after Is More word more words first next (Usage place) step after before are refused =
    rw are (fault_after Is More word more first next place step after before refused)

module _ (Is : List ℕ → Type 0) (More : Grammar) where
  pub then_missing : (words : List (List ℕ)) (first : ℕ) → BeginsWords (Then Is More) [] → words ≡ [] → RefusesWords (Then Is More) words first (Usage first)
  then_missing words first begins are = refuse_missing (Then Is More) words first begins (λ none. none) are

  pub then_wrong : (word : List ℕ) (more words : List (List ℕ)) (first : ℕ) (e : CmdErr) → BeginsWords (Then Is More) [] → words ≡ word ∷ more → RefusesWord Is word first e → RefusesWords (Then Is More) words first e
  then_wrong word more words first e begins are refused = refuse_wrong (Then Is More) Is word more words first e begins (λ rest whole. whole.0) are refused

  pub then_after : (word : List ℕ) (more words : List (List ℕ)) (first next : ℕ) (e : CmdErr) → next ≡ first + 1 → Is word → words ≡ word ∷ more → RefusesWords More more next e → RefusesWords (Then Is More) words first e
  then_after word more words first next e step is are refused = refuse_after (Then Is More) More word more words first next e step (λ rest whole. whole.1) (λ rest it. (is, it)) are refused

  pub maybe_wrong : (word : List ℕ) (more words : List (List ℕ)) (first : ℕ) (e : CmdErr) → words ≡ word ∷ more → RefusesWord Is word first e → RefusesWords (Maybe Is More) words first e
  maybe_wrong word more words first e are refused = refuse_wrong (Maybe Is More) Is word more words first e (record { more = []; whole = tt }) (λ rest whole. whole.0) are refused

  pub maybe_after : (word : List ℕ) (more words : List (List ℕ)) (first next : ℕ) (e : CmdErr) → next ≡ first + 1 → Is word → words ≡ word ∷ more → RefusesWords More more next e → RefusesWords (Maybe Is More) words first e
  maybe_after word more words first next e step is are refused = refuse_after (Maybe Is More) More word more words first next e step (λ rest whole. whole.1) (λ rest it. (is, it)) are refused

module _ {A : Type 0} (text : A → List ℕ) (More : A → Grammar) where
  pub chooses_wrong : (word : List ℕ) (more words : List (List ℕ)) (first : ℕ) → BeginsWords (Chooses text More) [] → words ≡ word ∷ more → ((choice : A) → word ≡ text choice → ⊥) → RefusesWords (Chooses text More) words first (Usage first)
  chooses_wrong word more words first begins are none =
      refuse_wrong (Chooses text More) (λ w. (choice : A) × (w ≡ text choice)) word more words first (Usage first) begins (λ rest whole. (whole.0, whole.1)) are (refl, λ is. none is.0 is.1)

  pub chooses_after : ((a b : A) → text a ≡ text b → a ≡ b) → (choice : A) (word : List ℕ) (more words : List (List ℕ)) (first next : ℕ) (e : CmdErr) → next ≡ first + 1 → word ≡ text choice → words ≡ word ∷ more → RefusesWords (More choice) more next e → RefusesWords (Chooses text More) words first e
  chooses_after one choice word more words first next e step is are refused =
      refuse_after (Chooses text More) (More choice) word more words first next e step
      (λ rest whole. subst (λ (a : A). More a rest) (one whole.0 choice (sym whole.1 ∙ is)) whole.2)
      (λ rest it. (choice, is, it)) are refused

-- a fault of words of a grammar is one of a wider grammar that has no others with their first word
begun : (Is Other : Grammar) (word first : List ℕ) (rest : List (List ℕ)) → word ≡ first → ((rest : List (List ℕ)) → Other (word ∷ rest) → Is (word ∷ rest)) → Other (first ∷ rest) → Is (first ∷ rest)
begun Is Other word first rest same back is =
    subst (λ (w : List ℕ). Is (w ∷ rest)) same (back rest (subst (λ (w : List ℕ). Other (w ∷ rest)) (sym same) is))

stuck_wider : (Is Other : Grammar) (word : List ℕ) (more : List (List ℕ)) → ((rest : List (List ℕ)) → Other (word ∷ rest) → Is (word ∷ rest)) → (prefix rest : List (List ℕ)) → word ∷ more ≡ prefix ++ rest → IsStuck Is prefix rest → IsStuck Other prefix rest
stuck_wider Is Other word more back [] [] split stuck = absurd (cc)
stuck_wider Is Other word more back [] (next ∷ rest) split stuck =
    λ begins. stuck (record { more = begins.more; whole = begun Is Other word next begins.more (cc) back begins.whole })
stuck_wider Is Other word more back (first ∷ prefix) [] split stuck = λ is. stuck (begun Is Other word first prefix (cc) back is)
stuck_wider Is Other word more back (first ∷ prefix) (next ∷ rest) split stuck =
    λ begins. stuck (record { more = begins.more; whole = begun Is Other word first _ (cc) back begins.whole })

pub refuse_wider : (Is Other : Grammar) (word : List ℕ) (more : List (List ℕ)) (first : ℕ) (e : CmdErr) → ((words : List (List ℕ)) → Is words → Other words) → ((rest : List (List ℕ)) → Other (word ∷ rest) → Is (word ∷ rest))
    → RefusesWords Is (word ∷ more) first e → RefusesWords Other (word ∷ more) first e
refuse_wider Is Other word more first OutOfMemory to back refused = tt
refuse_wider Is Other word more first (Usage place) to back fault = record {
  prefix = fault.prefix;
  rest = fault.rest;
  split = fault.split;
  after = fault.after;
  begins = record { more = fault.begins.more; whole = to _ fault.begins.whole };
  stuck = stuck_wider Is Other word more back fault.prefix fault.rest fault.split fault.stuck;
}

pub same_fault : (Is Other : Grammar) (words : List (List ℕ)) (first place : ℕ) → ((ws : List (List ℕ)) → Is ws → Other ws) → ((ws : List (List ℕ)) → Other ws → Is ws) → IsFault Is words first place → IsFault Other words first place
same_fault Is Other words first place to from fault = record {
  prefix = fault.prefix;
  rest = fault.rest;
  split = fault.split;
  after = fault.after;
  begins = record { more = fault.begins.more; whole = to _ fault.begins.whole };
  stuck = stuck_alike fault.prefix fault.rest fault.stuck;
}
  where
    stuck_alike : (prefix rest : List (List ℕ)) → IsStuck Is prefix rest → IsStuck Other prefix rest
    stuck_alike prefix [] stuck = λ is. stuck (from _ is)
    stuck_alike prefix (next ∷ rest) stuck = λ begins. stuck (record { more = begins.more; whole = from _ begins.whole })
