-- What is kept of the numbers of two files.
use Rattle.std.proofs.Common.{◌≡◌, ◌∙◌, ℕ, suc, ◌+◌, ◌<◌, ◌≤◌, nat_lt, Bool, true, false, IsTrue, cond, not, ◌||◌, List, [], ◌∷◌, ◌++◌, length, length-append, drop, filter, map, get_or, All, AllPairs, IsPermutation, Result, Ok, Err, refl, sym, ap, arith}
use Rattle.std.specs.List.{list_any}
use Rattle.std.specs.Str.{bytes_eq}
use Rattle.std.proofs.lemmas.Bool.{true≢false}
use Rattle.std.proofs.lemmas.Bool.Decides.{nat_tests}
use Rattle.std.proofs.lemmas.List.{get_or-map, length-map}
use Rattle.std.proofs.lemmas.List.Elements.{All-append}
use Rattle.std.proofs.lemmas.List.Folds.{list_any_at}
use Rattle.std.proofs.lemmas.List.Sorted.{All-permutation}
use Rattle.pl_spec.specs.Dates.{IsDay}
use Rattle.pl_spec.specs.Limits.{most_numbers}
use Rattle.pl_spec.specs.Parts.{ColumnNumber}
use Rattle.pl_spec.specs.Rounding.{IsCell}
use Rattle.pl_spec.specs.declared.AssetRow.{AssetRow}
use Rattle.pl_records.specs.Reading.{Record, Fault, ◌>>=◌}
use Rattle.pl_records.proofs.Readings.{made-of, rows-as_many, under_ok}
use Rattle.pl_records.proofs.RuleTables.{not_true}
use Rattle.pl_records.proofs.Sorts.{length-sorted_by, sorted-permutes}
use Rattle.pl_records.specs.Sorted.{sorted_by}
use Rattle.pl_assets.specs.Labels.{first_seen}
use Rattle.pl_assets.proofs.Dated.{flips}
use Rattle.pl_assets.proofs.FirstSeen.{equal_text, same_text}
use Rattle.pl_numbers.specs.Numbers.{BadHeader, NumberTable, DataFault, header, is_from, key_in, names_of, number_or_rule, number_rows_in, numbers_of, table_of}
use Rattle.pl_numbers.specs.Beside.{both, is_among, joined, numbers_beside}
use Rattle.pl_numbers.proofs.NumberKeys.{from_parts, numbers}
use Rattle.pl_numbers.proofs.NumbersJoined.{pairs-append}
use Rattle.pl_numbers.proofs.NumbersRead.{AreRead, AreRead-read}
use Rattle.pl_numbers.proofs.Pairs.{pairs-permuted}

abbrev Apart : ColumnNumber → ColumnNumber → Type 0
Apart r q = is_from r.name r.col r.known q ≡ false

-- ---- the names of rows

any-but : (x y : List ℕ) (xs : List (List ℕ)) → bytes_eq y x ≡ false → list_any (bytes_eq y) (filter (λ z. not (bytes_eq x z)) xs) ≡ list_any (bytes_eq y) xs
any-but x y [] e = refl
any-but x y (z ∷ zs) e = here (bytes_eq x z) refl (any-but x y zs e)
  where
    here : (b : Bool) → bytes_eq x z ≡ b → list_any (bytes_eq y) (filter (λ z. not (bytes_eq x z)) zs) ≡ list_any (bytes_eq y) zs
        → list_any (bytes_eq y) (cond (not (bytes_eq x z)) (z ∷ filter (λ z. not (bytes_eq x z)) zs) (filter (λ z. not (bytes_eq x z)) zs)) ≡ (bytes_eq y z || list_any (bytes_eq y) zs)
    here true t more = let same : x ≡ z = same_text x z t in rw (t, ap (bytes_eq y) (sym same) ∙ e) more
    here false t more = rw t (ap (λ b. bytes_eq y z || b) more)

-- a name of a row is among the names of the rows
seen-has : (y : List ℕ) (xs : List (List ℕ)) → list_any (bytes_eq y) xs ≡ true → list_any (bytes_eq y) (first_seen xs) ≡ true
unfolding first_seen
seen-has y [] e = e
seen-has y (x ∷ xs) e = here (bytes_eq y x) refl (seen-has y xs) e
  where
    here : (b : Bool) → bytes_eq y x ≡ b → (list_any (bytes_eq y) xs ≡ true → list_any (bytes_eq y) (first_seen xs) ≡ true)
        → (b || list_any (bytes_eq y) xs) ≡ true → (bytes_eq y x || list_any (bytes_eq y) (filter (λ z. not (bytes_eq x z)) (first_seen xs))) ≡ true
    here true t more f = rw t refl
    here false t more f = rw (t, any-but x y (first_seen xs) t) (more f)

-- ---- what is kept of a table

pub record AreKept (assets : List AssetRow) (t : NumberTable) : Type 0 where
  pub read : AreRead assets t.rows
  pub named : All (λ r. is_among t.names r.name ≡ true) t.rows

rows-kept : (assets : List AssetRow) (rows : List ColumnNumber) → AreRead assets rows → AreKept assets (table_of rows)
rows-kept assets rows read =
    let names = names_of rows in
    let sorted = sorted_by (key_in names) rows in
    let moved : IsPermutation rows sorted = sorted-permutes (key_in names) rows in
    record {
      read = record {
        once = pairs-permuted Apart (λ r q h. sym (flips numbers r q) ∙ h) rows sorted moved read.once;
        few = (let few = read.few in omega (arith, length-sorted_by (key_in names) rows));
        cells = All-permutation (λ (r : ColumnNumber). IsCell r.value) rows sorted moved read.cells;
        days = All-permutation (λ (r : ColumnNumber). IsDay r.known) rows sorted moved read.days;
        cols = All-permutation (λ (r : ColumnNumber). r.col < length assets) rows sorted moved read.cols;
      };
      named = All-permutation (λ (r : ColumnNumber). is_among names r.name ≡ true) rows sorted moved (λ k d l.
          let r : ColumnNumber = get_or rows k d in
          let texts = map (λ (x : ColumnNumber). x.name) rows in
          let at : get_or texts k d.name ≡ r.name = get_or-map (λ (x : ColumnNumber). x.name) rows k d d.name l in
          let there : list_any (bytes_eq r.name) texts ≡ true = list_any_at (bytes_eq r.name) texts k d.name (omega (arith, l, length-map rows (λ (x : ColumnNumber). x.name))) (rw at (equal_text r.name)) in
          seen-has r.name texts there);
    }

pub table-kept : (assets : List AssetRow) (records : List Record) (table : NumberTable) → numbers_of assets records ≡ Ok table → AreKept assets table
unfolding numbers_of
table-kept assets records table e =
    let it = made-of table_of (number_rows_in assets records) table e in
    rw (← it.2) (rows-kept assets it.0 (AreRead-read assets records it.0 it.1))

-- there are no more records than numbers
pub records-few : (assets : List AssetRow) (records : List Record) (table : NumberTable) → numbers_of assets records ≡ Ok table → length (drop 1 records) ≤ most_numbers
unfolding numbers_of number_rows_in
records-few assets records table e =
    let it = made-of table_of (number_rows_in assets records) table e in
    let few : length it.0 ≤ most_numbers = (AreRead-read assets records it.0 it.1).few in
    let rows = (under_ok header BadHeader (number_or_rule assets) records it.0 it.1).1 in
    omega (arith, rows-as_many 2 (number_or_rule assets) (drop 1 records) it.0 rows)

-- no names and no rows
pub none-kept : (assets : List AssetRow) → AreKept assets (record { names = []; rows = [] })
none-kept assets = record {
  read = record { once = λ i j d h l. absurd (omega arith); few = omega arith; cells = λ k d h. absurd (omega arith); days = λ k d h. absurd (omega arith); cols = λ k d h. absurd (omega arith) };
  named = λ k d h. absurd (omega arith);
}

-- ---- of two

module _ (assets : List AssetRow) (first other : NumberTable) (f : AreKept assets first) (o : AreKept assets other)
    (room : length first.rows + length other.rows ≤ most_numbers) (parted : list_any (is_among first.names) other.names ≡ false) where
  across : All (λ r. All (Apart r) other.rows) first.rows
  across i d l j e m = not_true _ (λ t.
      let r : ColumnNumber = get_or first.rows i d in
      let q : ColumnNumber = get_or other.rows j e in
      let same : q.name ≡ r.name = (from_parts r.name r.col r.known q t).0 in
      let mine : is_among first.names r.name ≡ true = f.named i d l in
      let theirs : is_among other.names q.name ≡ true = o.named j e m in
      true≢false (sym (shared q.name other.names theirs (rw same mine)) ∙ parted))
    where
      shared : (x : List ℕ) (xs : List (List ℕ)) → is_among xs x ≡ true → is_among first.names x ≡ true → list_any (is_among first.names) xs ≡ true
      shared x [] h g = h
      shared x (y ∷ ys) h g = here (bytes_eq x y) refl (λ k. shared x ys k g) h
        where
          here : (b : Bool) → bytes_eq x y ≡ b → (list_any (bytes_eq x) ys ≡ true → list_any (is_among first.names) ys ≡ true)
              → (b || list_any (bytes_eq x) ys) ≡ true → (is_among first.names y || list_any (is_among first.names) ys) ≡ true
          here true t more k = let is : x ≡ y = same_text x y t in let there : is_among first.names y ≡ true = rw is at g in rw there refl
          here false t more k = either (is_among first.names y) (more k)
            where
              either : (c : Bool) → list_any (is_among first.names) ys ≡ true → (c || list_any (is_among first.names) ys) ≡ true
              either true k = refl
              either false k = k

  both-kept : AreRead assets (first.rows ++ other.rows)
  both-kept = record {
    once = pairs-append Apart first.rows other.rows f.read.once o.read.once across;
    few = omega (arith, length-append first.rows other.rows);
    cells = All-append (λ (r : ColumnNumber). IsCell r.value) first.rows other.rows f.read.cells o.read.cells;
    days = All-append (λ (r : ColumnNumber). IsDay r.known) first.rows other.rows f.read.days o.read.days;
    cols = All-append (λ (r : ColumnNumber). r.col < length assets) first.rows other.rows f.read.cols o.read.cols;
  }

-- where the numbers of a second file stand beside a first's, they are those of both
pub record AreBeside (assets : List AssetRow) (first : NumberTable) (records : List Record) (table : NumberTable) : Type 0 where
  pub other : NumberTable
  pub own : numbers_of assets records ≡ Ok other
  pub is : both first other ≡ table
  pub read : AreRead assets table.rows

pub beside-kept : (assets : List AssetRow) (first : NumberTable) (records : List Record) (table : NumberTable) → AreKept assets first
    → numbers_beside first assets records ≡ Ok table → AreBeside assets first records table
unfolding numbers_beside joined
beside-kept assets first records table f e = here (numbers_of assets records) refl e
  where
    joins : (other : NumberTable) → numbers_of assets records ≡ Ok other → (full shares : Bool) → nat_lt most_numbers (length first.rows + length other.rows) ≡ full
        → list_any (is_among first.names) other.names ≡ shares → joined first records other ≡ Ok table → AreBeside assets first records table
    joins other own true shares a b h = absurd (let g = rw a at h in cc)
    joins other own false true a b h = absurd (let g = rw (a, b) at h in cc)
    joins other own false false a b h =
        let same : both first other ≡ table = (let g = rw (a, b) at h in cc) in
        let room : length first.rows + length other.rows ≤ most_numbers = grind (arith, nat_tests) in
        record { other = other; own = own; is = same; read = rw (← same) (both-kept assets first other f (table-kept assets records other own) room b) }

    here : (x : Result NumberTable (Fault DataFault)) → numbers_of assets records ≡ x → (x >>= joined first records) ≡ Ok table → AreBeside assets first records table
    here (Ok other) own h = joins other own _ _ refl refl h
    here (Err fault) own h = absurd (cc)
