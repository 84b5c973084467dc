-- The records of a text that was written line by line.
use Rattle.std.proofs.Common.{◌≡◌, ℕ, suc, ◌==◌, false, List, map, [], ◌∷◌, ◌++◌, get_or, All, Some, refl, sym, ◌∙◌, ap, append_assoc, arith}
use Rattle.std.specs.List.{flat_map, list_any}
use Rattle.csv.specs.Machine.{next_record}
use Rattle.csv.specs.Reading.{default_config, records, records_from}
use Rattle.csv.specs.Writing.{default_writer, field_text, fields_text, is_blank, needs_byte, row_text}
use Rattle.csv.specs.declared.parser.State.TheVariants as st
use Rattle.csv.proofs.RoundTrip.{read-write-many}
use Rattle.pl_records.specs.Reading.{Record}
use Rattle.pl_records.specs.Records.{csv_records}
use Rattle.pl_records.proofs.PlainLines.{unmarked_records}
use Rattle.pl_records.proofs.TakenRecords.{took-go, Took}

-- no byte calls for quotes
abbrev pub Plain : List ℕ → Type 0
Plain field = list_any (needs_byte default_writer) field ≡ false

pub plain-field : (field : List ℕ) → Plain field → field_text default_writer field ≡ field
plain-field field plain = rw plain refl

-- what follows the first field of a line
abbrev pub behind : List (List ℕ) → List ℕ
behind [] = 10 ∷ []
behind (x ∷ xs) = 44 ∷ (field_text default_writer x ++ behind xs)

fields-behind : (xs : List (List ℕ)) → fields_text default_writer xs ++ 10 ∷ [] ≡ behind xs
unfolding fields_text
fields-behind [] = refl
fields-behind (x ∷ xs) =
    ap (λ l. 44 ∷ l) (append_assoc (field_text default_writer x) (fields_text default_writer xs) (10 ∷ [])
    ∙ ap (λ l. field_text default_writer x ++ l) (fields-behind xs))

-- a line of two fields or more
pub line-many : (x y : List ℕ) (ys : List (List ℕ)) → row_text default_writer (x ∷ y ∷ ys) ≡ field_text default_writer x ++ behind (y ∷ ys)
unfolding is_blank
line-many x y ys =
    append_assoc (field_text default_writer x) (fields_text default_writer (y ∷ ys)) (10 ∷ [])
    ∙ ap (λ l. field_text default_writer x ++ l) (fields-behind (y ∷ ys))

-- a line that is read as the record
abbrev pub IsLine : List ℕ → Record → Type 0
IsLine line r = (tail : List ℕ) → next_record default_config st.StartRecord [] [] (line ++ tail) ≡ Some (r, st.StartRecord, tail)

pub many-line : (x y : List ℕ) (ys : List (List ℕ)) (line : List ℕ) → line ≡ field_text default_writer x ++ behind (y ∷ ys) → IsLine line (x ∷ y ∷ ys)
many-line x y ys line e tail =
    ap (λ l. next_record default_config st.StartRecord [] [] (l ++ tail)) (e ∙ sym (line-many x y ys)) ∙ read-write-many x y ys tail

first-record : (text left : List ℕ) (fields : Record) → next_record default_config st.StartRecord [] [] text ≡ Some (fields, st.StartRecord, left)
    → records default_config text ≡ fields ∷ records default_config left
first-record text left fields e =
    let it : Took st.StartRecord st.StartRecord text (Some left) fields = took-go st.StartRecord st.StartRecord text left fields _ e refl (refl, refl, refl, refl) in it.left

no-records : records default_config [] ≡ []
unfolding records_from next_record
no-records = refl

module _ {A : Type 0} (line : A → List ℕ) (fields : A → Record) where
  lines-read : (xs : List A) → All (λ x. IsLine (line x) (fields x)) xs → records default_config (flat_map line xs) ≡ map fields xs
  lines-read [] h = no-records
  lines-read (x ∷ xs) h =
      first-record (line x ++ flat_map line xs) (flat_map line xs) (fields x) (h 0 x (omega arith) (flat_map line xs))
      ∙ ap (λ l. fields x ∷ l) (lines-read xs (λ k d l. h (suc k) d (omega arith)))

  -- lines, of which the first starts with no byte order mark
  pub lines-are : (xs : List A) → All (λ x. IsLine (line x) (fields x)) xs → (get_or (flat_map line xs) 0 0 == 0xEF) ≡ false → csv_records (flat_map line xs) ≡ map fields xs
  lines-are xs h start = unmarked_records (flat_map line xs) start ∙ lines-read xs h

  -- lines under a header
  pub lines-under : (head : List ℕ) (names : Record) (xs : List A) → IsLine head names → (get_or (head ++ flat_map line xs) 0 0 == 0xEF) ≡ false
      → All (λ x. IsLine (line x) (fields x)) xs → csv_records (head ++ flat_map line xs) ≡ names ∷ map fields xs
  lines-under head names xs at start h =
      unmarked_records (head ++ flat_map line xs) start
      ∙ first-record (head ++ flat_map line xs) (flat_map line xs) names (at (flat_map line xs))
      ∙ ap (λ l. names ∷ l) (lines-read xs h)
