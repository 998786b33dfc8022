-- The line of an entry: fields, a space after each, and the path, which is the rest of the line.
--
--     d MODE[:USER:GROUP] PATH
--     o MODE[:USER:GROUP] PATH
--     f ATTRIBUTES CONTENT.. PATH
--     l LENGTH[:USER:GROUP] TARGET PATH
--     w PATH
--
-- ATTRIBUTES are one field, a mode with what else a file may have. The owner is not told where it is root. LENGTH is
-- decimal, without leading zeros, and the number of bytes of TARGET, which may hold spaces. What a file's line holds of its
-- content is a matter of the format that the line stands in: the fields of a content are a parameter here.
use Rattle.std.specs.Prelude.{◌≡◌, ◌≢◌, ℕ, ◌<◌, List, [], ◌∷◌, length, codes, Option, Some, None}
use Rattle.std.specs.Borrow.{Bor}
use Rattle.std.specs.List.{AllByRecursion}
use Rattle.ext_lines.specs.Split.{Lacks}
use Rattle.ext_text.specs.Path.{IsPath, path_text}
use Rattle.ext_tree.specs.Fields.{IsTarget, spaced}
use Rattle.ext_attributes.specs.Attributes.{IsAttributes, IsOfFile, IsOwner, attributes_text, file_attributes_text, owned_number}
use Rattle.ext_tree.specs.declared.entry.Entry.{Entry}
use Rattle.ext_tree.specs.declared.entry.Entry.TheVariants.{Dir, Opaque, File, Link, Hide}

-- which contents a line holds, and as which fields
pub record LineForm (C : Type 0) : Type 1 where
  pub fields : C → List (List ℕ)
  pub writable : C → Type 0

-- an entry's fields
abbrev pub entry_fields : {C : Type 0} → LineForm C → Entry C → List (List ℕ)
entry_fields form (Dir attributes) = codes "d" ∷ attributes_text attributes ∷ []
entry_fields form (Opaque attributes) = codes "o" ∷ attributes_text attributes ∷ []
entry_fields form (File attributes content) = codes "f" ∷ file_attributes_text attributes ∷ form.fields content
entry_fields form (Link owner target) = codes "l" ∷ owned_number (length target) owner ∷ target ∷ []
entry_fields form Hide = codes "w" ∷ []

-- an entry's line, without its newline
abbrev pub entry_line : {C : Type 0} → LineForm C → List (List ℕ) × Entry C → List ℕ
entry_line form x = spaced (entry_fields form x.1) (path_text x.0)

-- the entry is in the ranges of a line
abbrev pub IsWritable : {C : Type 0} → LineForm C → Entry C → Type 0
IsWritable form (Dir attributes) = IsAttributes attributes
IsWritable form (Opaque attributes) = IsAttributes attributes
IsWritable form (File attributes content) = IsOfFile attributes × form.writable content
IsWritable form (Link owner target) = IsOwner owner × IsTarget target
IsWritable form Hide = Unit {0}

-- an entry that has a line
pub record HasLine {C : Type 0} (form : LineForm C) (x : List (List ℕ) × Entry C) : Type 0 where
  pub path : IsPath x.0
  pub non_empty : 0 < length x.0
  pub writable : IsWritable form x.1

-- what a reader of lines finds: the entry of this line, or that no entry has it
abbrev pub ReadsLine : {C : Type 0} → LineForm C → List ℕ → Option (List (List ℕ) × Entry C) → Type 0
ReadsLine {C} form line (Some x) = HasLine form x × (line ≡ entry_line form x)
ReadsLine {C} form line None = (x : List (List ℕ) × Entry C) → HasLine form x → line ≢ entry_line form x

-- what a reader of fields finds at the start of a text: the entry that has these fields and what follows them, or that
-- the text begins with the fields of no entry that has a line
abbrev pub ReadsFields : {C : Type 0} → LineForm C → List ℕ → Option (Entry C × Bor (List ℕ)) → Type 0
ReadsFields {C} form text (Some r) = IsWritable form r.0 × (text ≡ spaced (entry_fields form r.0) r.1.now)
ReadsFields {C} form text None = (e : Entry C) (rest : List ℕ) → IsWritable form e → text ≢ spaced (entry_fields form e) rest

-- the fields of a content tell the content, and where they end
abbrev pub FieldsOnce : {C : Type 0} → LineForm C → Type 0
FieldsOnce {C} form = (c d : C) (xs ys : List ℕ) → form.writable c → form.writable d → spaced (form.fields c) xs ≡ spaced (form.fields d) ys → (c ≡ d) × (xs ≡ ys)

-- and hold no newline
abbrev pub FieldsLack : {C : Type 0} → LineForm C → Type 0
FieldsLack {C} form = (c : C) → form.writable c → AllByRecursion (Lacks 10) (form.fields c)
