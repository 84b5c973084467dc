-- Bars of a text that is read in pieces.
use Rattle.std.proofs.Common.{◌≡◌, ℕ, ◌+◌, ◌-◌, Bool, true, false, ℤ, List, [], ◌∷◌, ◌++◌, length, take, drop, get_or, Some, IfSome, Result, Ok, Err, IfOk, IfErr, IsErrAnd, refl, sym, ap, ◌∙◌, arith, append_assoc, length-drop, suc, ◌&&◌, drop-cons, take-append-drop}
use lib.Seq.{take-append-add}
use Rattle.std.specs.List.{list_all}
use Rattle.std.proofs.lemmas.List.{append-nil, take_all}
use Rattle.std.proofs.lemmas.Option.{IfSome_then}
use Rattle.std.proofs.lemmas.List.Folds.{list_all-append}
use Rattle.std.proofs.lemmas.Result.{err_from_is_err_and}
use Rattle.pl_records.specs.Reading.{Record, Answers, rows_behind, has_header}
use Rattle.pl_records.specs.Records.{csv_records, GivesNext}
use Rattle.pl_records.specs.View.{RecordsView}
use Rattle.pl_records.specs.WholeRecords.{is_unquoted, IsLastLineEnd}
use Rattle.pl_records.specs.Sorted.{sorted_by}
use Rattle.pl_records.proofs.Readings.{rows-append, rows-fail, under_ok}
use Rattle.pl_records.proofs.WholeRecords.{unquoted-ends}
use Rattle.pl_spec.specs.declared.AssetRow.{AssetRow}
use Rattle.pl_spec.specs.declared.BarRow.{BarRow}
use Rattle.pl_bars.specs.Bars.{header, bar_or_rule, rows_in, bars_of, key_of}
use Rattle.pl_bars.specs.Bars as rules
use Rattle.pl_bars.specs.Faults.{fault_of}
use Rattle.pl_bars.specs.InPieces.{AreRowsOf, IsFaultOf, IsFaulty, AreKept, IsReadTo, TextSoFar}
use Rattle.pl_bars.specs.ReaderInside.{view_of, IsReading}
use Rattle.pl_bars.specs.declared.pieces.BarsReader.TheInside.{Inside}
use Rattle.pl_bars.specs.declared.error.BarsError.{BarsError}
use Rattle.pl_bars.specs.declared.error.BarsError.TheVariants.{BadHeader}
use Rattle.pl_bars.specs.declared.judged.Judged.{Judged}

pub next-left : (old new : RecordsView) (found : Bool) → GivesNext old new found → found ≡ true → old.left ≡ new.fields ∷ new.left
next-left old new true h e = h
next-left old new false h e = absurd (cc)

module _ (days : List ℤ) (assets : List AssetRow) where
  -- ---- records behind those that have their rows

  behind-front : (front : List Record) (rows : List BarRow) (more : List Record) → rows_in days assets front ≡ Ok rows
      → rows_in days assets (front ++ more) ≡ rows_behind 2 (bar_or_rule days assets) rows more
  unfolding rows_in
  behind-front [] rows more e = absurd (cc)
  behind-front (r ∷ rs) rows more e =
      let it = under_ok header rules.BadHeader (bar_or_rule days assets) (r ∷ rs) rows e in
      rw it.0 (rows-append 2 (bar_or_rule days assets) rs more [] rows it.1)

  header-first : (r : Record) (rs : List Record) → has_header header (r ∷ rs) ≡ true → rows_in days assets (r ∷ rs) ≡ rows_behind 2 (bar_or_rule days assets) [] rs
  unfolding rows_in
  header-first r rs e = rw e refl

  no-header : (r : Record) (rs : List Record) → has_header header (r ∷ rs) ≡ false → rows_in days assets (r ∷ rs) ≡ Err (record { rule = rules.BadHeader; line = 1 })
  unfolding rows_in
  no-header r rs e = rw e refl

  module _ {A : Type 0} (result : Result A BarsError) where
    pub more-rows : (headed later : Bool) (rows all : List BarRow) (front more : List Record) → headed ≡ true → later ≡ headed
        → AreRowsOf days assets headed rows front
        → Answers (λ _. all) fault_of result (rows_behind 2 (bar_or_rule days assets) rows more)
        → IfOk result (λ _. AreRowsOf days assets later all (front ++ more))
    more-rows headed later rows all front more h l were said = of-result result said
      where
        of-result : (r : Result A BarsError) → Answers (λ _. all) fault_of r (rows_behind 2 (bar_or_rule days assets) rows more)
            → IfOk r (λ _. AreRowsOf days assets later all (front ++ more))
        of-result (Ok x) said = rw (l, h) (behind-front front rows more (rw h at were) ∙ said)
        of-result (Err e) said = tt

    pub more-fault : (headed : Bool) (rows all : List BarRow) (front more : List Record) → headed ≡ true
        → AreRowsOf days assets headed rows front
        → Answers (λ _. all) fault_of result (rows_behind 2 (bar_or_rule days assets) rows more)
        → IfErr result (IsFaultOf days assets (front ++ more))
    more-fault headed rows all front more h were said = of-result result said
      where
        of-result : (r : Result A BarsError) → Answers (λ _. all) fault_of r (rows_behind 2 (bar_or_rule days assets) rows more)
            → IfErr r (IsFaultOf days assets (front ++ more))
        of-result (Ok x) said = tt
        of-result (Err e) said =
            IfSome_then (fault_of e) said (λ f told rest.
            rw (append_assoc front more rest) (behind-front front rows (more ++ rest) (rw h at were)
            ∙ rows-fail 2 (bar_or_rule days assets) more rest rows f told))

    pub first-rows : (later : Bool) (all : List BarRow) (r : Record) (rs left : List Record) → later ≡ true → left ≡ r ∷ rs
        → has_header header (r ∷ rs) ≡ true
        → Answers (λ _. all) fault_of result (rows_behind 2 (bar_or_rule days assets) [] rs)
        → IfOk result (λ _. AreRowsOf days assets later all left)
    first-rows later all r rs left l e h said = of-result result said
      where
        of-result : (x : Result A BarsError) → Answers (λ _. all) fault_of x (rows_behind 2 (bar_or_rule days assets) [] rs)
            → IfOk x (λ _. AreRowsOf days assets later all left)
        of-result (Ok x) said = rw (l, e) (header-first r rs h ∙ said)
        of-result (Err e) said = tt

    pub first-fault : (all : List BarRow) (r : Record) (rs left : List Record) → left ≡ r ∷ rs
        → has_header header (r ∷ rs) ≡ true
        → Answers (λ _. all) fault_of result (rows_behind 2 (bar_or_rule days assets) [] rs)
        → IfErr result (IsFaultOf days assets left)
    first-fault all r rs left same h said = of-result result said
      where
        of-result : (x : Result A BarsError) → Answers (λ _. all) fault_of x (rows_behind 2 (bar_or_rule days assets) [] rs)
            → IfErr x (IsFaultOf days assets left)
        of-result (Ok x) said = tt
        of-result (Err e) said =
            IfSome_then (fault_of e) said (λ f told rest.
            rw same (header-first r (rs ++ rest) h ∙ rows-fail 2 (bar_or_rule days assets) rs rest [] f told))

  pub bad-header : (r : Record) (rs left : List Record) → left ≡ r ∷ rs → has_header header (r ∷ rs) ≡ false → IsFaultOf days assets left BadHeader
  bad-header r rs left e h rest = rw e (no-header r (rs ++ rest) h)

  -- ---- a text that goes on

  -- the piece is kept behind what was left
  pub kept-piece : (text piece rest : List ℕ) (j : Judged) → IsReadTo days assets text j rest → IsReadTo days assets (text ++ piece) j (rest ++ piece)
  kept-piece text piece rest j h = record {
    front = h.front;
    parts = λ more. rw (append_assoc text piece more, append_assoc rest piece more) (h.parts (piece ++ more));
    rows = h.rows;
    kept = h.kept;
  }

  -- a text up to a line end of the piece is judged, and the rest of the piece is left
  module _ (text piece rest : List ℕ) (at n : ℕ) (old : Judged) (h : IsReadTo days assets text old rest) (same : n ≡ length rest + at)
      (plain : list_all is_unquoted rest ≡ true) (plain_piece : list_all is_unquoted piece ≡ true) (last : IsLastLineEnd piece (Some at)) where
    whole-is : take n (rest ++ piece) ≡ rest ++ take at piece
    whole-is = ap (λ k. take k (rest ++ piece)) same ∙ take-append-add rest piece at

    plain-whole : list_all is_unquoted (rest ++ take at piece) ≡ true
    plain-whole = list_all-append is_unquoted rest (take at piece) ∙ both plain (front-of (list_all is_unquoted (take at piece)) (list_all is_unquoted (drop at piece)) pieces)
      where
        pieces : (list_all is_unquoted (take at piece) && list_all is_unquoted (drop at piece)) ≡ true
        pieces = sym (list_all-append is_unquoted (take at piece) (drop at piece)) ∙ ap (list_all is_unquoted) (take-append-drop at piece) ∙ plain_piece

        both : {x y : Bool} → x ≡ true → y ≡ true → (x && y) ≡ true
        both e f = rw (e, f) refl

        front-of : (x y : Bool) → (x && y) ≡ true → x ≡ true
        front-of true y e = refl
        front-of false y e = absurd (cc)

    abbrev end : ℕ
    end = get_or piece at 0

    left-is : drop at piece ≡ end ∷ drop (suc at) piece
    left-is = drop-cons piece at 0 last.0

    text-parts : (more : List ℕ) → csv_records ((text ++ piece) ++ more) ≡ (h.front ++ csv_records (take n (rest ++ piece))) ++ csv_records (drop at piece ++ more)
    text-parts more =
        ap csv_records (append_assoc text piece more)
        ∙ h.parts (piece ++ more)
        ∙ ap (λ l. h.front ++ csv_records l) split
        ∙ ap (λ rs. h.front ++ rs) (unquoted-ends (rest ++ take at piece) plain-whole end (drop (suc at) piece ++ more) last.1)
        ∙ sym (append_assoc h.front (csv_records (rest ++ take at piece)) (csv_records (end ∷ drop (suc at) piece ++ more)))
        ∙ ap (λ l. (h.front ++ csv_records l) ++ csv_records (end ∷ drop (suc at) piece ++ more)) (sym whole-is)
        ∙ ap (λ l. (h.front ++ csv_records (take n (rest ++ piece))) ++ csv_records (l ++ more)) (sym left-is)
      where
        split : rest ++ (piece ++ more) ≡ (rest ++ take at piece) ++ end ∷ (drop (suc at) piece ++ more)
        split =
            ap (λ l. rest ++ (l ++ more)) (sym (take-append-drop at piece) ∙ ap (λ l. take at piece ++ l) left-is)
            ∙ ap (λ l. rest ++ l) (append_assoc (take at piece) (end ∷ drop (suc at) piece) more)
            ∙ sym (append_assoc rest (take at piece) (end ∷ (drop (suc at) piece ++ more)))

    pub judged-piece : (new : Judged) → AreRowsOf days assets new.headed new.rows.items (h.front ++ csv_records (take n (rest ++ piece))) → AreKept days assets new
        → IsReadTo days assets (text ++ piece) new (drop at piece)
    judged-piece new rows kept = record {
      front = h.front ++ csv_records (take n (rest ++ piece));
      parts = text-parts;
      rows = rows;
      kept = kept;
    }

    pub faulty-piece : (error : BarsError) → IsFaultOf days assets (h.front ++ csv_records (take n (rest ++ piece))) error → IsFaulty days assets (text ++ piece) error
    faulty-piece error it = IfSome_then (fault_of error) it (λ f said more. ap (rows_in days assets) (text-parts more) ∙ said (csv_records (drop at piece ++ more)))

  pub left-plain : (at : ℕ) (piece : List ℕ) → list_all is_unquoted piece ≡ true → list_all is_unquoted (drop at piece) ≡ true
  left-plain at piece plain = back-of (list_all is_unquoted (take at piece)) (list_all is_unquoted (drop at piece))
      (sym (list_all-append is_unquoted (take at piece) (drop at piece)) ∙ ap (list_all is_unquoted) (take-append-drop at piece) ∙ plain)
    where
      back-of : (x y : Bool) → (x && y) ≡ true → y ≡ true
      back-of true y e = e
      back-of false y e = absurd (cc)

  pub both-plain : (rest piece : List ℕ) → list_all is_unquoted rest ≡ true → list_all is_unquoted piece ≡ true → list_all is_unquoted (rest ++ piece) ≡ true
  both-plain rest piece e f = rw (list_all-append is_unquoted rest piece, e, f) refl

  -- a fault is that of the text with more behind it
  pub faulty-more : (text piece : List ℕ) (error : BarsError) → IsFaulty days assets text error → IsFaulty days assets (text ++ piece) error
  faulty-more text piece error h = IfSome_then (fault_of error) h (λ f said more. rw (append_assoc text piece more) (said (piece ++ more)))

  -- ---- the end of a text

  pub faulty-end : (text : List ℕ) (error : BarsError) → IsFaulty days assets text error → IfSome (fault_of error) (λ f. bars_of days assets (csv_records text) ≡ Err f)
  unfolding bars_of
  faulty-end text error h = IfSome_then (fault_of error) h (λ f said. (let it : rows_in days assets (csv_records text) ≡ Err f = rw (append-nil text) at (said []) in rw it refl))

  pub fault-end : (front : List Record) (error : BarsError) → IsFaultOf days assets front error → IfSome (fault_of error) (λ f. bars_of days assets front ≡ Err f)
  unfolding bars_of
  fault-end front error h = IfSome_then (fault_of error) h (λ f said. (let it : rows_in days assets front ≡ Err f = rw (append-nil front) at (said []) in rw it refl))

  pub none-end : (headed : Bool) (rows : List BarRow) (front : List Record) → headed ≡ false → AreRowsOf days assets headed rows front
      → bars_of days assets front ≡ Err (record { rule = rules.BadHeader; line = 1 })
  unfolding bars_of rows_in
  none-end headed rows front e were = let it : (front ≡ []) × (rows ≡ []) = rw e at were in rw it.0 refl

  pub rows-end : (headed : Bool) (rows : List BarRow) (front : List Record) → headed ≡ true → AreRowsOf days assets headed rows front → rows_in days assets front ≡ Ok rows
  rows-end headed rows front e were = rw e at were

  pub bars-end : (rows : List BarRow) (front : List Record) → rows_in days assets front ≡ Ok rows → bars_of days assets front ≡ Ok (sorted_by key_of rows)
  unfolding bars_of
  bars-end rows front e = rw e refl

  pub text-end : (text rest : List ℕ) (j : Judged) (h : IsReadTo days assets text j rest) → csv_records text ≡ h.front ++ csv_records rest
  text-end text rest j h = rw (append-nil text, append-nil rest) at (h.parts [])

  -- ---- errors as they are handed on

  pub fault-told : {X : Type 0} (view : X → List BarRow) (result : Result X BarsError) (error : BarsError) (front : List Record)
      → IsErrAnd result (λ e. e ≡ error) → IsFaultOf days assets front error → Answers view fault_of result (bars_of days assets front)
  fault-told view result error front is h =
      let err = err_from_is_err_and result is in
      rw (err.1, err.2) (fault-end front error h)

  pub faulty-told : {X : Type 0} (result : Result X BarsError) (error : BarsError) (text : List ℕ)
      → IsErrAnd result (λ e. e ≡ error) → IsFaulty days assets text error → IfErr result (IsFaulty days assets text)
  faulty-told result error text is h =
      let err = err_from_is_err_and result is in
      rw (err.1, err.2) h

  -- the same, as the calls give it

  pub judged-at : (text piece rest all left : List ℕ) (at n : ℕ) (old new : Judged) → IsReadTo days assets text old rest → n ≡ length rest + at → all ≡ rest ++ piece
      → list_all is_unquoted rest ≡ true → list_all is_unquoted piece ≡ true → IsLastLineEnd piece (Some at)
      → ((front : List Record) → AreRowsOf days assets old.headed old.rows.items front → AreRowsOf days assets new.headed new.rows.items (front ++ csv_records (take n all)))
      → AreKept days assets new → left ≡ drop at piece → IsReadTo days assets (text ++ piece) new left
  judged-at text piece rest all left at n old new h same whole plain plain_piece last rows kept e =
      rw e (judged-piece text piece rest at n old h same plain plain_piece last new (rw whole at (rows h.front h.rows)) kept)

  pub faulty-at : (text piece rest all : List ℕ) (at n : ℕ) (old : Judged) (error : BarsError) → IsReadTo days assets text old rest → n ≡ length rest + at → all ≡ rest ++ piece
      → list_all is_unquoted rest ≡ true → list_all is_unquoted piece ≡ true → IsLastLineEnd piece (Some at)
      → ((front : List Record) → AreRowsOf days assets old.headed old.rows.items front → IsFaultOf days assets (front ++ csv_records (take n all)) error)
      → IsFaulty days assets (text ++ piece) error
  faulty-at text piece rest all at n old error h same whole plain plain_piece last fault =
      faulty-piece text piece rest at n old h same plain plain_piece last error (rw whole at (fault h.front h.rows))

pub rest-of : (piece : List ℕ) (at : ℕ) → take (length piece - at) (drop at piece) ≡ drop at piece
rest-of piece at = take_all (length piece - at) (drop at piece) (omega (arith, length-drop at piece))

-- ---- a reader at its end

pub ended-faulty : {X : Type 0} (view : X → List BarRow) (result : Result X BarsError) (r : Inside) (t : TextSoFar) (error : BarsError) → IsErrAnd result (λ e. e ≡ error)
    → r.judged ≡ Err error → view_of r ≡ t → IsReading r → Answers view fault_of result (bars_of t.days t.assets (csv_records t.text))
ended-faulty view result r t error is e v h =
    let err = err_from_is_err_and result is in
    let it : IsFaulty r.sessions.now r.assets.now r.text.bytes error = rw e at h.reads in
    rw (← v, err.1, err.2) (faulty-end r.sessions.now r.assets.now r.text.bytes error it)

pub ended-whole : {X : Type 0} (view : X → List BarRow) (result : Result X BarsError) (r : Inside) (t : TextSoFar) (j : Judged) → r.judged ≡ Ok j → view_of r ≡ t → IsReading r
    → ((front : List Record) → AreRowsOf r.sessions.now r.assets.now j.headed j.rows.items front
    → Answers view fault_of result (bars_of r.sessions.now r.assets.now (front ++ csv_records r.left.text.items)))
    → Answers view fault_of result (bars_of t.days t.assets (csv_records t.text))
ended-whole view result r t j e v h said =
    let it : IsReadTo r.sessions.now r.assets.now r.text.bytes j r.left.text.items = rw e at h.reads in
    rw (← v, text-end r.sessions.now r.assets.now r.text.bytes r.left.text.items j it) (said it.front it.rows)
