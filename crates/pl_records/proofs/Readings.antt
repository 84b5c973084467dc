-- Rows that are read are those of the records, and the fault is the first.
use Rattle.std.proofs.Common.{◌≡◌, ◌≢◌, Bool, true, false, bytes_eq, ℕ, zero, suc, ◌+◌, ◌<◌, ◌≤◌, ◌↔◌, nat_le, List, [], ◌∷◌, ◌++◌, length, take, drop, Option, Some, IfSome, Result, Ok, Err, IsErrAnd, refl, sym, ◌∙◌, ap, arith, append_assoc, length-append, inl, inr, add-one}
use Rattle.std.specs.List.{slice_get}
use Rattle.std.specs.Bool.{Decides, if◌then◌else◌}
use Rattle.std.proofs.lemmas.Slice.Eq.{bytes_eq-Decides}
use lib.Pointwise.{pointwise, pointwise_decides}
use Rattle.std.proofs.lemmas.Bool.{cases_lt}
use Rattle.std.proofs.lemmas.Bool.Decides.{nat_tests}
use Rattle.std.proofs.lemmas.List.{take-append-le, append-nil, take_all}
use Rattle.std.proofs.lemmas.Option.{IfSome_then, slice_get_within}
use Rattle.std.proofs.lemmas.Result.{err_from_is_err_and}
use Rattle.std.proofs.Math.Seq.{take-append_seam}
use Rattle.pl_records.proofs.RuleTables.{not_true}
use Rattle.pl_records.specs.Records.{GivesNext}
use Rattle.pl_records.specs.View.{RecordsView}
use Rattle.pl_records.specs.Reading.{rows_under, has_header, Record, field, Fault, ◌>>=◌, at_line, rows_behind, rows_of, Answers, AreRows, IsFirstFault, Judges, AreRowsUnder, IsMadeUnder, IsFaultUnder}

pub rows-stop : {Row R : Type 0} (first : ℕ) (says : List Row → Record → Result Row R) (before : List Row) (r : Record) (rs : List Record) (rule : R)
    → says before r ≡ Err rule → rows_behind first says before (r ∷ rs) ≡ Err (record { rule = rule; line = first + length before })
unfolding rows_behind
rows-stop first says before r rs rule e = rw e refl

-- rows that are read begin with that of the first record
pub went_on : {Row R : Type 0} (first : ℕ) (says : List Row → Record → Result Row R) (before : List Row) (r : Record) (rs : List Record) (rows : List Row) → rows_behind first says before (r ∷ rs) ≡ Ok rows
    → (row : Row) × (says before r ≡ Ok row) × (rows_behind first says (before ++ row ∷ []) rs ≡ Ok rows)
unfolding rows_behind
went_on {Row} {R} first says before r rs rows e = here (says before r) refl e
  where
    here : (x : Result Row R) → says before r ≡ x → (at_line (first + length before) x >>= λ row. rows_behind first says (before ++ row ∷ []) rs) ≡ Ok rows
        → (row : Row) × (says before r ≡ Ok row) × (rows_behind first says (before ++ row ∷ []) rs ≡ Ok rows)
    here (Ok row) was f = (row, was, f)
    here (Err rule) was f = absurd (cc)

-- what holds of no rows, and of each row after rows of which it holds, holds of the rows that are read
pub rows-keep : {Row R : Type 0} (P : List Row → Type 0) (first : ℕ) (says : List Row → Record → Result Row R)
    → ((before : List Row) (r : Record) (row : Row) → P before → says before r ≡ Ok row → P (before ++ row ∷ []))
    → (rs : List Record) (before rows : List Row) → P before → rows_behind first says before rs ≡ Ok rows → P rows
unfolding rows_behind
rows-keep P first says step [] before rows p e =
    let same : before ≡ rows = cc in rw (← same) p
rows-keep P first says step (r ∷ rs) before rows p e =
    let it = went_on first says before r rs rows e in
    rows-keep P first says step rs (before ++ it.0 ∷ []) rows (step before r it.0 p it.1) it.2

-- ---- places in lists

at_front : {A : Type 0} (xs ys : List A) (k : ℕ) → k < length xs → slice_get (xs ++ ys) k ≡ slice_get xs k
at_front [] ys k h = absurd (omega arith)
at_front (x ∷ xs) ys zero h = refl
at_front (x ∷ xs) ys (suc k) h = at_front xs ys k (omega arith)

at_seam : {A : Type 0} (xs : List A) (y : A) (ys : List A) → slice_get (xs ++ y ∷ ys) (length xs) ≡ Some y
at_seam [] y ys = refl
at_seam (x ∷ xs) y ys = at_seam xs y ys

take_one_more : {A : Type 0} (xs : List A) (k : ℕ) (x : A) → slice_get xs k ≡ Some x → take (suc k) xs ≡ take k xs ++ x ∷ []
take_one_more [] k x e = absurd (cc)
take_one_more (y ∷ ys) zero x e = let same : y ≡ x = cc in ap (λ z. z ∷ []) same
take_one_more (y ∷ ys) (suc k) x e = ap (λ zs. y ∷ zs) (take_one_more ys k x e)

-- ---- rows and their records

-- the row that a judgement says, and the rule that it names
abbrev pub Says : {Row R : Type 0} → (List Row → Record → Result Row R) → List Row → Record → Row → Type 0
Says says before r row = says before r ≡ Ok row

abbrev pub Names : {Row R : Type 0} → (List Row → Record → Result Row R) → List Row → Record → R → Type 0
Names says before r rule = says before r ≡ Err rule

AreRows-none : {Row R : Type 0} (says : List Row → Record → Result Row R) → AreRows (Says says) [] []
AreRows-none says = record { as_many = refl; each = λ k r e. absurd (cc) }

AreRows-more : {Row R : Type 0} (says : List Row → Record → Result Row R) (records : List Record) (rows : List Row) (r : Record) (row : Row)
    → AreRows (Says says) records rows → says rows r ≡ Ok row → AreRows (Says says) (records ++ r ∷ []) (rows ++ row ∷ [])
AreRows-more {Row} {R} says records rows r row h e =
    record {
      as_many = omega (arith, h.as_many, length-append rows (row ∷ []), length-append records (r ∷ []));
      each = each;
    }
  where
    each : (k : ℕ) (q : Record) → slice_get (records ++ r ∷ []) k ≡ Some q
        → (z : Row) × (slice_get (rows ++ row ∷ []) k ≡ Some z) × (says (take k (rows ++ row ∷ [])) q ≡ Ok z)
    each k q at = elim (cases_lt k (length records)) [
      | inl lt ↦
          let within : k < length rows = omega (arith, h.as_many) in
          let old = h.each k q (sym (at_front records (r ∷ []) k lt) ∙ at) in
          (old.0, at_front rows (row ∷ []) k within ∙ old.1, rw (take-append-le k rows (row ∷ []) (omega arith)) old.2)
      | inr ge ↦
          let all : k < length (records ++ r ∷ []) = slice_get_within (records ++ r ∷ []) k q at in
          let last : k ≡ length records = omega (arith, length-append records (r ∷ [])) in
          let last' : k ≡ length rows = omega (arith, h.as_many) in
          let same : Some q ≡ Some r = sym at ∙ ap (slice_get (records ++ r ∷ [])) last ∙ at_seam records r [] in
          let q_is : q ≡ r = cc in
          (row, ap (slice_get (rows ++ row ∷ [])) last' ∙ at_seam rows row [], ap (λ n. says (take n (rows ++ row ∷ [])) q) last' ∙ ap (λ before. says before q) (take-append_seam rows (row ∷ [])) ∙ ap (says rows) q_is ∙ e)
    ]

-- what is read after rows of the records that are done
reads : {Row R : Type 0} (first : ℕ) (says : List Row → Record → Result Row R) (rest done : List Record) (before rows : List Row)
    → AreRows (Says says) done before → rows_behind first says before rest ≡ Ok rows → AreRows (Says says) (done ++ rest) rows
unfolding rows_behind
reads first says [] done before rows h e =
    let same : before ≡ rows = cc in rw (append-nil done, ← same) h
reads first says (r ∷ rs) done before rows h e =
    let it = went_on first says before r rs rows e in
    rw append_assoc at (reads first says rs (done ++ r ∷ []) (before ++ it.0 ∷ []) rows (AreRows-more says done before r it.0 h it.1) it.2)

fails : {Row R : Type 0} (first : ℕ) (says : List Row → Record → Result Row R) (rest done : List Record) (before : List Row) (fault : Fault R)
    → AreRows (Says says) done before → rows_behind first says before rest ≡ Err fault → IsFirstFault first (Says says) (Names says) (done ++ rest) fault
unfolding rows_behind
fails first says [] done before fault h e = absurd (cc)
fails {Row} {R} first says (r ∷ rs) done before fault h e =
    here (says before r) refl (λ row. fails first says rs (done ++ r ∷ []) (before ++ row ∷ []) fault) e
  where
    here : (x : Result Row R) → says before r ≡ x
        → ((row : Row) → AreRows (Says says) (done ++ r ∷ []) (before ++ row ∷ []) → rows_behind first says (before ++ row ∷ []) rs ≡ Err fault → IsFirstFault first (Says says) (Names says) ((done ++ r ∷ []) ++ rs) fault)
        → (at_line (first + length before) x >>= λ row. rows_behind first says (before ++ row ∷ []) rs) ≡ Err fault → IsFirstFault first (Says says) (Names says) (done ++ r ∷ rs) fault
    here (Ok row) was more e = rw append_assoc at (more row (AreRows-more says done before r row h was) e)
    here (Err rule) was more e =
        let same : record { rule = rule; line = first + length before } ≡ fault = cc in
        record {
          front = done;
          faulty = r;
          back = rs;
          rows = before;
          parts = refl;
          right = h;
          breaks = was ∙ ap (λ (f : Fault R). Err f.rule) same;
          numbered = sym (ap (λ (f : Fault R). f.line) same) ∙ ap (λ n. first + n) h.as_many;
        }

-- and back
read_back : {Row R : Type 0} (first : ℕ) (says : List Row → Record → Result Row R) (rest done : List Record) (before rows : List Row)
    → AreRows (Says says) (done ++ rest) rows → take (length done) rows ≡ before → rows_behind first says before rest ≡ Ok rows
unfolding rows_behind
read_back first says [] done before rows h e =
    let n : length rows ≤ length done = omega (arith, h.as_many, ap length (append-nil done)) in
    ap Ok (sym e ∙ take_all (length done) rows n)
read_back {Row} {R} first says (r ∷ rs) done before rows h e =
    let it = h.each (length done) r (at_seam done r rs) in
    let was : says before r ≡ Ok it.0 = rw e at it.2 in
    let next : take (length (done ++ r ∷ [])) rows ≡ before ++ it.0 ∷ [] = rw (length-append done (r ∷ []), add-one (length done)) (take_one_more rows (length done) it.0 it.1 ∙ ap (λ xs. xs ++ it.0 ∷ []) e) in
    rw was (read_back first says rs (done ++ r ∷ []) (before ++ it.0 ∷ []) rows (rw append_assoc h) next)

pub rows-append : {Row R : Type 0} (first : ℕ) (says : List Row → Record → Result Row R) (xs ys : List Record) (before rows : List Row)
    → rows_behind first says before xs ≡ Ok rows → rows_behind first says before (xs ++ ys) ≡ rows_behind first says rows ys
unfolding rows_behind
rows-append first says [] ys before rows e = let same : before ≡ rows = cc in ap (λ b. rows_behind first says b ys) same
rows-append first says (r ∷ rs) ys before rows e =
    let it = went_on first says before r rs rows e in
    rw it.1 (rows-append first says rs ys (before ++ it.0 ∷ []) rows it.2)

-- and the first fault is that of the records before more of them
pub rows-fail : {Row R : Type 0} (first : ℕ) (says : List Row → Record → Result Row R) (xs ys : List Record) (before : List Row) (fault : Fault R)
    → rows_behind first says before xs ≡ Err fault → rows_behind first says before (xs ++ ys) ≡ Err fault
unfolding rows_behind
rows-fail first says [] ys before fault e = absurd (cc)
rows-fail {Row} {R} first says (r ∷ rs) ys before fault e = here (says before r) (λ row. rows-fail first says rs ys (before ++ row ∷ []) fault) e
  where
    here : (x : Result Row R) → ((row : Row) → rows_behind first says (before ++ row ∷ []) rs ≡ Err fault → rows_behind first says (before ++ row ∷ []) (rs ++ ys) ≡ Err fault)
        → (at_line (first + length before) x >>= λ row. rows_behind first says (before ++ row ∷ []) rs) ≡ Err fault
        → (at_line (first + length before) x >>= λ row. rows_behind first says (before ++ row ∷ []) (rs ++ ys)) ≡ Err fault
    here (Ok row) more e = more row e
    here (Err rule) more e = e

said_rows : {Row R : Type 0} (first : ℕ) (says : List Row → Record → Result Row R) (records : List Record) (rows : List Row)
    → (rows_of first says records ≡ Ok rows) ↔ AreRows (Says says) records rows
said_rows first says records rows =
    (reads first says records [] [] rows (AreRows-none says), λ h. read_back first says records [] [] rows h refl)

said_fault : {Row R : Type 0} (first : ℕ) (says : List Row → Record → Result Row R) (records : List Record) (fault : Fault R)
    → (rows_of first says records ≡ Err fault) ↔ IsFirstFault first (Says says) (Names says) records fault
said_fault {Row} {R} first says records fault = (fails first says records [] [] fault (AreRows-none says), back)
  where
    back : IsFirstFault first (Says says) (Names says) records fault → rows_of first says records ≡ Err fault
    back h =
        let read : rows_of first says h.front ≡ Ok h.rows = read_back first says h.front [] [] h.rows h.right refl in
        let line : first + length h.rows ≡ fault.line = ap (λ n. first + n) h.right.as_many ∙ sym h.numbered in
        rw h.parts (rows-append first says h.front (h.faulty ∷ h.back) [] h.rows read
        ∙ rows-stop first says h.rows h.faulty h.back fault.rule h.breaks
        ∙ ap (λ n. Err (record { rule = fault.rule; line = n })) line)

-- ---- by what a row and a broken rule are

AreRows-other : {Row : Type 0} (P Q : List Row → Record → Row → Type 0) → ((before : List Row) (r : Record) (row : Row) → P before r row → Q before r row)
    → (records : List Record) (rows : List Row) → AreRows P records rows → AreRows Q records rows
AreRows-other P Q f records rows h =
    record {
      as_many = h.as_many;
      each = λ k r e. (let it = h.each k r e in (it.0, it.1, f (take k rows) r it.0 it.2));
    }

IsFirstFault-other : {Row R : Type 0} (first : ℕ) (P P' : List Row → Record → Row → Type 0) (Q Q' : List Row → Record → R → Type 0)
    → ((before : List Row) (r : Record) (row : Row) → P before r row → P' before r row)
    → ((before : List Row) (r : Record) (rule : R) → Q before r rule → Q' before r rule)
    → (records : List Record) (fault : Fault R) → IsFirstFault first P Q records fault → IsFirstFault first P' Q' records fault
IsFirstFault-other first P P' Q Q' f g records fault h =
    record {
      front = h.front;
      faulty = h.faulty;
      back = h.back;
      rows = h.rows;
      parts = h.parts;
      right = AreRows-other P P' f h.front h.rows h.right;
      breaks = g h.rows h.faulty fault.rule h.breaks;
      numbered = h.numbered;
    }

-- the rows are read exactly where they are those of the records
pub rows-are : {Row R : Type 0} (first : ℕ) (IsRow : List Row → Record → Row → Type 0) (Breaks : List Row → Record → R → Type 0) (says : List Row → Record → Result Row R)
    → Judges IsRow Breaks says → (records : List Record) (rows : List Row) → (rows_of first says records ≡ Ok rows) ↔ AreRows IsRow records rows
rows-are first IsRow Breaks says j records rows = (
  λ e. AreRows-other (Says says) IsRow (λ before r row. (j.row before r row).0) records rows ((said_rows first says records rows).0 e),
  λ h. (said_rows first says records rows).1 (AreRows-other IsRow (Says says) (λ before r row. (j.row before r row).1) records rows h),
)

-- and the fault is told exactly where it is the first
pub fault-is : {Row R : Type 0} (first : ℕ) (IsRow : List Row → Record → Row → Type 0) (Breaks : List Row → Record → R → Type 0) (says : List Row → Record → Result Row R)
    → Judges IsRow Breaks says → (records : List Record) (fault : Fault R) → (rows_of first says records ≡ Err fault) ↔ IsFirstFault first IsRow Breaks records fault
fault-is first IsRow Breaks says j records fault = (
  λ e. IsFirstFault-other first (Says says) IsRow (Names says) Breaks (λ before r row. (j.row before r row).0) (λ before r rule. (j.rule before r rule).0) records fault
      ((said_fault first says records fault).0 e),
  λ h. (said_fault first says records fault).1 (IsFirstFault-other first IsRow (Says says) Breaks (Names says) (λ before r row. (j.row before r row).1) (λ before r rule. (j.rule before r rule).1) records fault h),
)

-- no more rows than records
pub rows-as_many : {Row R : Type 0} (first : ℕ) (says : List Row → Record → Result Row R) (records : List Record) (rows : List Row) → rows_of first says records ≡ Ok rows → length rows ≡ length records
rows-as_many first says records rows e = let it = (said_rows first says records rows).0 e in it.as_many

-- ---- records as lists of fields

pub same_record : (r names : Record) → Decides (pointwise bytes_eq r names) (r ≡ names)
same_record r names = pointwise_decides bytes_eq-Decides r names

pub record_from_fields : (r names : Record) → length r ≡ length names → ((k : ℕ) → k < length names → field r k ≡ field names k) → r ≡ names
record_from_fields [] [] n h = refl
record_from_fields [] (x ∷ xs) n h = absurd (omega arith)
record_from_fields (x ∷ xs) [] n h = absurd (omega arith)
record_from_fields (x ∷ xs) (y ∷ ys) n h =
    let first : x ≡ y = h 0 (omega arith) in
    let rest : xs ≡ ys = record_from_fields xs ys (omega arith) (λ k l. h (suc k) (omega arith)) in cc

pub same_record-true : (r names : Record) → length r ≡ length names → ((k : ℕ) → k < length names → field r k ≡ field names k) → true ≡ pointwise bytes_eq r names
same_record-true r names n h = sym ((same_record r names).1 (record_from_fields r names n h))

pub same_record-false : (r names : Record) → (r ≡ names → ⊥) → false ≡ pointwise bytes_eq r names
same_record-false r names h = sym (not_true _ (λ e. h ((same_record r names).0 e)))

-- ---- for a loop that reads a record at a time

-- these rows, which are few, are of the records so far: with them what is left gives what all records give
pub record AreReadFrom {Row R : Type 0} (first most : ℕ) (says : List Row → Record → Result Row R)
    (start : List Row) (all : List Record) (records : RecordsView) (rows : List Row) : Type 0 where
  pub same : rows_behind first says rows records.left ≡ rows_behind first says start all
  pub few : length rows ≤ most

abbrev pub AreReadSoFar : {Row R : Type 0} → ℕ → ℕ → (List Row → Record → Result Row R) → List Record → RecordsView → List Row → Type 0
AreReadSoFar first most says all records rows = AreReadFrom first most says [] all records rows

module _ {Row R : Type 0} {first most : ℕ} {says : List Row → Record → Result Row R} where
  pub none_read : {records : RecordsView} {rows : List Row} → rows ≡ []
      → AreReadSoFar first most says records.left records rows
  none_read e = rw e (record { same = refl; few = omega arith })

  pub goes_on : {start : List Row} {all : List Record} {old new : RecordsView} {found : Bool} {before rows : List Row}
      {row : Row} → AreReadFrom first most says start all old before → GivesNext old new found → found ≡ true
      → length before < most → at_line (first + length before) (says before new.fields) ≡ Ok row
      → rows ≡ before ++ row ∷ [] → AreReadFrom first most says start all new rows
  unfolding rows_behind
  goes_on {start} {all} {old} {new} {found} {before} {rows} {row} so_far next there room was more =
      let left : old.left ≡ new.fields ∷ new.left = rw there at next in
      let one : rows_behind first says before (new.fields ∷ new.left)
      ≡ rows_behind first says (before ++ row ∷ []) new.left = rw was refl in
      rw more (record {
        same = sym one ∙ ap (rows_behind first says before) (sym left) ∙ so_far.same;
        few = omega (arith, length-append before (row ∷ []));
      })

  module _ {start : List Row} {all : List Record} {old : RecordsView} {found : Bool} {before : List Row} (new : RecordsView)
      (so_far : AreReadFrom first most says start all old before) (next : GivesNext old new found) where
    pub stops : found ≡ true → {X E : Type 0} (view : X → List Row) (fault_of : E → Option (Fault R))
        (result : Result X E) (error : E) → IsErrAnd result (λ e. e ≡ error)
        → IfSome (fault_of error) (λ f. at_line (first + length before) (says before new.fields) ≡ Err f)
        → Answers view fault_of result (rows_behind first says start all)
    unfolding rows_behind
    stops there view fault_of result error is was =
        let left : old.left ≡ new.fields ∷ new.left = rw there at next in
        let err = err_from_is_err_and result is in
        rw (err.1, err.2) (IfSome_then (fault_of error) was (λ f told.
        sym so_far.same ∙ ap (rows_behind first says before) left ∙ rw told refl))

    pub is_done : found ≡ false → rows_behind first says start all ≡ Ok before
    unfolding rows_behind
    is_done none =
        let left = rw none at next in
        sym so_far.same ∙ ap (rows_behind first says before) left.0

-- ---- what is known of rows that are read under a header

pub under_ok : {Row R : Type 0} (names : Record) (bad : R) (says : List Row → Record → Result Row R) (records : List Record) (rows : List Row)
    → rows_under names bad says records ≡ Ok rows → (has_header names records ≡ true) × (rows_of 2 says (drop 1 records) ≡ Ok rows)
under_ok {Row} {R} names bad says records rows e = here (has_header names records) refl e
  where
    here : (b : Bool) → has_header names records ≡ b → (if b then rows_of 2 says (drop 1 records) else Err (record { rule = bad; line = 1 })) ≡ Ok rows
        → (has_header names records ≡ true) × (rows_of 2 says (drop 1 records) ≡ Ok rows)
    here true t e = (t, e)
    here false t e = absurd (cc)

-- one row more, where there is room
pub few-more : {Row : Type 0} (most : ℕ) (before : List Row) (row : Row) → nat_le most (length before) ≡ false → length (before ++ row ∷ []) ≤ most
few-more most before row t = let small : length before < most = grind (arith, nat_tests) in omega (arith, length-append before (row ∷ []))

-- ---- what is made of rows that are read

pub made-of : {A B E : Type 0} (f : A → B) (reading : Result A E) (y : B) → (reading >>= λ x. Ok (f x)) ≡ Ok y → (x : A) × (reading ≡ Ok x) × (f x ≡ y)
made-of f (Ok x) y e = (x, refl, (let same : Ok (f x) ≡ Ok y = e in cc))
made-of f (Err g) y e = absurd (let bad : Err g ≡ Ok y = e in cc)

same-fault : {A B E : Type 0} (f : A → B) (reading : Result A E) (g : E) → ((reading >>= λ x. Ok (f x)) ≡ Err g) ↔ (reading ≡ Err g)
same-fault f (Ok x) g = (λ e. absurd (let bad : Ok (f x) ≡ Err g = e in cc), λ e. absurd (let bad : Ok x ≡ Err g = e in cc))
same-fault f (Err h) g = (λ e. (let same : Err h ≡ Err g = e in let it : h ≡ g = cc in ap Err it), λ e. (let same : Err h ≡ Err g = e in let it : h ≡ g = cc in ap Err it))

-- ---- the exits of a judgement

pub told : {A R : Type 0} (x : Result A R) (rule : R) (n m : ℕ) → x ≡ Err rule → n ≡ m → at_line n x ≡ Err (record { rule = rule; line = m })
told x rule n m e f = rw (e, f) refl

-- ---- rows under a header

header-there : (names : Record) (records : List Record) → has_header names records ≡ true → records ≡ names ∷ drop 1 records
header-there names [] e = absurd (let no : false ≡ true = e in cc)
header-there names (r ∷ rs) e = ap (λ x. x ∷ rs) ((same_record r names).0 e)

header-found : (names : Record) (records behind : List Record) → records ≡ names ∷ behind → has_header names records ≡ true
header-found names records behind e = rw e ((same_record names names).1 refl)

behind-header : (names : Record) (records behind : List Record) → records ≡ names ∷ behind → drop 1 records ≡ behind
behind-header names records behind e = ap (drop 1) e

module _ {Row R : Type 0} (names : Record) (bad : R) (IsRow : List Row → Record → Row → Type 0) (Breaks : List Row → Record → R → Type 0) (says : List Row → Record → Result Row R) (j : Judges IsRow Breaks says) where
  pub under-are : (records : List Record) (rows : List Row) → (rows_under names bad says records ≡ Ok rows) ↔ AreRowsUnder names IsRow records rows
  under-are records rows = (there, back)
    where
      there : rows_under names bad says records ≡ Ok rows → AreRowsUnder names IsRow records rows
      there e =
          let it = under_ok names bad says records rows e in
          record { behind = drop 1 records; parts = header-there names records it.0; right = (rows-are 2 IsRow Breaks says j (drop 1 records) rows).0 it.1 }

      back : AreRowsUnder names IsRow records rows → rows_under names bad says records ≡ Ok rows
      back h =
          rw (header-found names records h.behind h.parts)
          (ap (rows_of 2 says) (behind-header names records h.behind h.parts) ∙ (rows-are 2 IsRow Breaks says j h.behind rows).1 h.right)

  pub under-fault : (records : List Record) (fault : Fault R) → (rows_under names bad says records ≡ Err fault) ↔ IsFaultUnder names bad IsRow Breaks records fault
  under-fault records fault = (there (has_header names records) refl, back)
    where
      there : (b : Bool) → has_header names records ≡ b → (if b then rows_of 2 says (drop 1 records) else Err (record { rule = bad; line = 1 })) ≡ Err fault
          → IsFaultUnder names bad IsRow Breaks records fault
      there true t e = inr (drop 1 records, header-there names records t, (fault-is 2 IsRow Breaks says j (drop 1 records) fault).0 e)
      there false t e =
          inl (
            λ behind h. absurd (let yes : has_header names records ≡ true = header-found names records behind h in let bad : true ≡ false = sym yes ∙ t in cc),
            (let told : Err (record { rule = bad; line = 1 }) ≡ Err fault = e in cc),
          )

      no_header : (b : Bool) → has_header names records ≡ b → ((behind : List Record) → records ≢ names ∷ behind) → has_header names records ≡ false
      no_header true t none = absurd (none (drop 1 records) (header-there names records t))
      no_header false t none = t

      back : IsFaultUnder names bad IsRow Breaks records fault → rows_under names bad says records ≡ Err fault
      back (inl h) = rw (no_header _ refl h.0, h.1) refl
      back (inr h) =
          rw (header-found names records h.0 h.1)
          (ap (rows_of 2 says) (behind-header names records h.0 h.1) ∙ (fault-is 2 IsRow Breaks says j h.0 fault).1 h.2)

  -- and what is made of them
  module _ {Y : Type 0} (make : List Row → Y) (records : List Record) where
    pub made-is : (made : Y) → ((rows_under names bad says records >>= λ rows. Ok (make rows)) ≡ Ok made) ↔ IsMadeUnder names IsRow make records made
    made-is made = (
      λ e. (let it = made-of make (rows_under names bad says records) made e in record { rows = it.0; read = (under-are records it.0).0 it.1; same = it.2 }),
      λ h. ap (λ x. x >>= λ rows. Ok (make rows)) ((under-are records h.rows).1 h.read) ∙ ap Ok h.same,
    )

    pub made-fault : (fault : Fault R) → ((rows_under names bad says records >>= λ rows. Ok (make rows)) ≡ Err fault) ↔ IsFaultUnder names bad IsRow Breaks records fault
    made-fault fault = (
      λ e. (under-fault records fault).0 ((same-fault make (rows_under names bad says records) fault).0 e),
      λ h. (same-fault make (rows_under names bad says records) fault).1 ((under-fault records fault).1 h),
    )
