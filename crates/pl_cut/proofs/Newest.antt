-- The newest of rows, where those are left out that are older than the newest by a day.
use Rattle.std.proofs.Common.{◌≡◌, Bool, true, false, ◌&&◌, ◌||◌, ◌==◌, ℕ, ℤ, ◌≤ℤ◌, ◌<ℤ◌, List, bytes_eq, filter, find, refl, sym, ◌∙◌, ap, arith, inl, inr}
use Rattle.std.specs.Prelude.{Contains}
use Rattle.std.specs.List.{list_all}
use Rattle.std.specs.Int.RustNames.{int_le, int_lt}
use Rattle.std.proofs.lemmas.Int.{ints}
use Rattle.std.proofs.lemmas.Bool.{and_parts, or_cases, or_left, or_right, eqb-true, eq-eqb, true≢false}
use Rattle.std.proofs.lemmas.Slice.Eq.{bytes_eq-Decides}
use Rattle.pl_spec.proofs.Signed.{int_le-true, le-int_le, lt-int_lt}
use Rattle.pl_spec.proofs.Lists.{filter-swap}
use Rattle.pl_spec.proofs.Finds.{contains-filter, filter-contains, all-contains, contains-all}
use Rattle.pl_cut.proofs.Rows.{find-kept, find-same, equal_tests}

-- none of the rows begins later
abbrev pub is_last : {X : Type 0} → (X → ℤ) → List X → X → Bool
is_last since xs r = list_all (λ q. int_le (since q) (since r)) xs

-- Rows of one name and asset, each from its day on: those that count by the day, and of them those that are
-- kept. A row is kept if it begins later than the first day, or if none that began by then began later.
module _ {X : Type 0} (since : X → ℤ) (rows : List X) (keep : X → Bool) (first : ℤ)
    (recent : (r : X) → Contains rows r → first <ℤ since r → keep r ≡ true)
    (newest : (r : X) → Contains rows r → ((q : X) → Contains rows q → since q ≤ℤ first → since q ≤ℤ since r) → keep r ≡ true)
    (older : (r : X) → Contains rows r → keep r ≡ true → since r ≤ℤ first → (q : X) → Contains rows q → since q ≤ℤ first → since q ≤ℤ since r) where
  -- the last of all is kept
  last_kept : (r : X) → Contains rows r → is_last since rows r ≡ true → keep r ≡ true
  last_kept r here last = newest r here (λ q there early. int_le-true (since q) (since r) (all-contains (λ x. int_le (since x) (since r)) rows last q there))

  -- the last of all is the last of the kept ones
  still_last : (r : X) → is_last since rows r ≡ true → is_last since (filter keep rows) r ≡ true
  still_last r last = contains-all (λ q. int_le (since q) (since r)) (filter keep rows) (λ q there. all-contains (λ x. int_le (since x) (since r)) rows last q (filter-contains keep rows q there).0)

  -- and the other way around: what is left out began no later than a kept one
  last_of_all : (r : X) → Contains rows r → keep r ≡ true → is_last since (filter keep rows) r ≡ true → is_last since rows r ≡ true
  last_of_all r here kept last =
      contains-all (λ q. int_le (since q) (since r)) rows (λ q there. le-int_le (since q) (since r) (early_or_late q there (int_le (since q) first) refl (int_le (since r) first) refl))
    where
      early_or_late : (q : X) → Contains rows q → (b : Bool) → int_le (since q) first ≡ b → (c : Bool) → int_le (since r) first ≡ c → since q ≤ℤ since r
      early_or_late q there true e true f = older r here kept (int_le-true (since r) first f) q there (int_le-true (since q) first e)
      early_or_late q there true e false f = grind (arith, ints)
      early_or_late q there false e c f =
          let late : first <ℤ since q = grind (arith, ints) in
          int_le-true (since q) (since r) (all-contains (λ x. int_le (since x) (since r)) (filter keep rows) last q (contains-filter keep rows q there (recent q there late)))

  pub last_same : find (is_last since (filter keep rows)) (filter keep rows) ≡ find (is_last since rows) rows
  last_same =
      find-same (is_last since (filter keep rows)) (is_last since rows) (filter keep rows)
      (λ r in_kept. let place = filter-contains keep rows r in_kept in equal_tests _ _ (last_of_all r place.0 place.1) (still_last r))
      ∙ find-kept (is_last since rows) keep rows last_kept

-- ---- rows of names and assets

-- Rows that have a name and a sid and begin on a day. Those of the kept sids are kept that begin by the last
-- day, and later than the first unless none of their name and asset that began by then began later.
module _ {X : Type 0} (name_of : X → List ℕ) (sid_of : X → ℕ) (since : X → ℤ) (rows : List X) (is_of : ℕ → Bool) (first last : ℤ) where
  abbrev pub is_row_of : List ℕ → ℕ → ℤ → X → Bool
  is_row_of name a day r = bytes_eq (name_of r) name && sid_of r == a && int_le (since r) day

  abbrev pub is_newest : X → Bool
  is_newest r = list_all (λ q. int_le (since q) (since r)) (filter (is_row_of (name_of r) (sid_of r) first) rows)

  abbrev pub is_kept : X → Bool
  is_kept r = is_of (sid_of r) && (int_le (since r) last && (int_lt first (since r) || is_newest r))

  record IsRowOf (name : List ℕ) (a : ℕ) (day : ℤ) (r : X) : Type 0 where
    same_name : name_of r ≡ name
    same_sid : sid_of r ≡ a
    begun : since r ≤ℤ day

  row-parts : (name : List ℕ) (a : ℕ) (day : ℤ) (r : X) → is_row_of name a day r ≡ true → IsRowOf name a day r
  row-parts name a day r e =
      let parts = and_parts _ _ e in
      let front = and_parts _ _ parts.0 in
      record { same_name = (bytes_eq-Decides (name_of r) name).0 front.0; same_sid = eqb-true (sid_of r) a front.1; begun = int_le-true (since r) day parts.1 }

  row-whole : (name : List ℕ) (a : ℕ) (day : ℤ) (r : X) → name_of r ≡ name → sid_of r ≡ a → since r ≤ℤ day → is_row_of name a day r ≡ true
  row-whole name a day r e f h = rw ((bytes_eq-Decides (name_of r) name).1 e, eq-eqb (sid_of r) a f, le-int_le (since r) day h) refl

  module _ (name : List ℕ) (a : ℕ) (day : ℤ) (kept : is_of a ≡ true) (from : first ≤ℤ day) (by : day ≤ℤ last) where
    mine : List X
    mine = filter (is_row_of name a day) rows

    row : (r : X) → Contains mine r → Contains rows r × IsRowOf name a day r
    unfolding mine
    row r here = let place = filter-contains (is_row_of name a day) rows r here in (place.0, row-parts name a day r place.1)

    kept_by : (r : X) → IsRowOf name a day r → (int_lt first (since r) || is_newest r) ≡ true → is_kept r ≡ true
    kept_by r own e =
        let of : is_of (sid_of r) ≡ true = ap is_of own.same_sid ∙ kept in
        rw (of, le-int_le (since r) last (omega (arith, ints, own.begun, by)), e) refl

    recent : (r : X) → Contains mine r → first <ℤ since r → is_kept r ≡ true
    recent r here late = kept_by r (row r here).1 (or_left (int_lt first (since r)) (is_newest r) (lt-int_lt first (since r) late))

    newest : (r : X) → Contains mine r → ((q : X) → Contains mine q → since q ≤ℤ first → since q ≤ℤ since r) → is_kept r ≡ true
    unfolding mine
    newest r here most =
        let own : IsRowOf name a day r = (row r here).1 in
        kept_by r own
        (or_right (int_lt first (since r)) (is_newest r)
        (contains-all (λ q. int_le (since q) (since r)) (filter (is_row_of (name_of r) (sid_of r) first) rows)
        (λ q there.
        let place = filter-contains (is_row_of (name_of r) (sid_of r) first) rows q there in
        let its : IsRowOf (name_of r) (sid_of r) first q = row-parts (name_of r) (sid_of r) first q place.1 in
        let early : since q ≤ℤ first = its.begun in
        let test : is_row_of name a day q ≡ true = row-whole name a day q (its.same_name ∙ own.same_name) (its.same_sid ∙ own.same_sid) (omega (arith, ints)) in
        le-int_le (since q) (since r) (most q (contains-filter (is_row_of name a day) rows q place.0 test) early))))

    older : (r : X) → Contains mine r → is_kept r ≡ true → since r ≤ℤ first → (q : X) → Contains mine q → since q ≤ℤ first → since q ≤ℤ since r
    older r here e early q there before =
        let own : IsRowOf name a day r = (row r here).1 in
        let its : IsRowOf name a day q = (row q there).1 in
        let test : is_row_of (name_of r) (sid_of r) first q ≡ true = row-whole (name_of r) (sid_of r) first q (its.same_name ∙ sym own.same_name) (its.same_sid ∙ sym own.same_sid) before in
        let not_late : int_lt first (since r) ≡ false = grind (arith, ints) in
        elim (or_cases (int_lt first (since r)) (is_newest r) (and_parts _ _ (and_parts (is_of (sid_of r)) _ e).1).1) [
          | inl late ↦ absurd (true≢false (sym late ∙ not_late))
          | inr most ↦ int_le-true (since q) (since r) (all-contains (λ x. int_le (since x) (since r)) (filter (is_row_of (name_of r) (sid_of r) first) rows) most q (contains-filter (is_row_of (name_of r) (sid_of r) first) rows q (row q there).0 test))
        ]

    -- the newest of the kept rows by the day is the newest of all
    pub newest_same : find (is_last since (filter (is_row_of name a day) (filter is_kept rows))) (filter (is_row_of name a day) (filter is_kept rows))
        ≡ find (is_last since (filter (is_row_of name a day) rows)) (filter (is_row_of name a day) rows)
    unfolding mine
    newest_same =
        ap (λ l. find (is_last since l) l) (filter-swap (is_row_of name a day) is_kept rows)
        ∙ last_same since (filter (is_row_of name a day) rows) is_kept first recent newest older
