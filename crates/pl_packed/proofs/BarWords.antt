-- Bars as words, and back.
use Rattle.std.proofs.Common.{◌≡◌, ℕ, ◌+◌, ◌*◌, ◌^◌, ◌/◌, ◌%◌, ◌<◌, ℤ, IsTrue, List, [], ◌∷◌, ◌++◌, length, get_or, take, drop, map, All, flat_map, FitsSigned, refl, sym, ap, ◌∙◌, arith, append_assoc, length-append, inl, inr}
use Rattle.std.specs.Int.{w64, cast_unsigned, cast_signed}
use Rattle.std.proofs.lemmas.Grind.{flat_map-append}
use Rattle.std.proofs.lemmas.Int.{to_z-of_z, of_z-to_z, fits_signed_from_abs}
use Rattle.std.proofs.Math.Facts.{Fits-of_z, sfits_to_z}
use Rattle.std.proofs.lemmas.List.Elements.{All-head, All-tail, All-cons, All-nil, All-map, All-weaker}
use Rattle.pl_spec.specs.declared.BarRow.{BarRow}
use Rattle.pl_spec.specs.Rounding.{IsCell}
use Rattle.pl_bars.specs.Bars.{is_bar_cell, key_of}
use Rattle.pl_bars.proofs.BarSearch.{IsCell-bar_cell}
use Rattle.pl_packed.specs.Packed.{eight_bytes, words_of, words_bytes}
use Rattle.pl_packed.specs.Fit.{IsSmall}
use Rattle.pl_packed.proofs.Bytes.{front-same, back-same}
use Rattle.pl_packed.proofs.WordBytes.{length-eight, words-same, six-there}

pub cell-fits : (x : ℤ) → IsTrue (is_bar_cell x) → FitsSigned w64 x
cell-fits x t = here (IsCell-bar_cell x t)
  where
    here : IsCell x → FitsSigned w64 x
    here (inl e) = rw e (record { sfits = omega arith })
    here (inr h) = fits_signed_from_abs w64 x (omega arith)

-- ---- cells

cells-back : (cells : List ℤ) → All (λ v. FitsSigned w64 v) cells → map (λ n. cast_signed w64 n) (map (λ v. cast_unsigned w64 v) cells) ≡ cells
cells-back [] h = refl
cells-back (x ∷ xs) h =
    let fits = λ (v : ℤ). FitsSigned w64 v in
    ap (λ y. y ∷ map (λ n. cast_signed w64 n) (map (λ v. cast_unsigned w64 v) xs)) (to_z-of_z w64 x (All-head fits x xs h))
    ∙ ap (λ ys. x ∷ ys) (cells-back xs (All-tail fits x xs h))

cells-same : (a b : List ℤ) → All (λ v. FitsSigned w64 v) a → All (λ v. FitsSigned w64 v) b → map (λ v. cast_unsigned w64 v) a ≡ map (λ v. cast_unsigned w64 v) b → a ≡ b
cells-same a b p q e = sym (cells-back a p) ∙ ap (λ s. map (λ n. cast_signed w64 n) s) e ∙ cells-back b q

-- ---- a bar

key-fits : (col session : ℕ) → col < 2 ^ 32 → session < 2 ^ 32 → col * 2 ^ 32 + session < 2 ^ 64
key-fits col session p q = omega arith

pub words-fit : (bar : BarRow) → IsSmall bar → All (λ w. w < 2 ^ 64) (words_of bar)
words-fit bar h =
    let small = λ (w : ℕ). w < 2 ^ 64 in
    All-cons small (key_of bar) (map (λ v. cast_unsigned w64 v) bar.cells) (key-fits bar.col bar.session h.col h.session)
    (All-map small (λ v. cast_unsigned w64 v) bar.cells (All-weaker (λ v. FitsSigned w64 v) (λ v. cast_unsigned w64 v < 2 ^ 64) (λ v f. omega (arith, Fits-of_z f)) bar.cells h.cells))

length-map : (cells : List ℤ) → length (map (λ v. cast_unsigned w64 v) cells) ≡ length cells
length-map [] = refl
length-map (x ∷ xs) = omega (arith, length-map xs)

pub six : (bar : BarRow) → length bar.cells ≡ 5 → length (words_of bar) ≡ 6
six bar h = omega (arith, length-map bar.cells, h)

same-bar : (a b : BarRow) → a.col ≡ b.col → a.session ≡ b.session → a.cells ≡ b.cells → a ≡ b
same-bar a b p q r =
    let first : a ≡ record a { col = b.col } = ap (λ c. record a { col = c }) p in
    let second : record a { col = b.col } ≡ record a { col = b.col; session = b.session } = ap (λ s. record a { col = b.col; session = s }) q in
    let third : record a { col = b.col; session = b.session } ≡ b = ap (λ v. record b { cells = v }) r in
    first ∙ second ∙ third

pub bar-same : (a b : BarRow) → IsSmall a → IsSmall b → words_of a ≡ words_of b → a ≡ b
bar-same a b p q e =
    let key : key_of a ≡ key_of b = ap (λ s. get_or s 0 0) e in
    let cells : map (λ v. cast_unsigned w64 v) a.cells ≡ map (λ v. cast_unsigned w64 v) b.cells = ap (λ s. drop 1 s) e in
    same-bar a b (omega (arith, key, p.session, q.session)) (omega (arith, key, p.session, q.session)) (cells-same a.cells b.cells p.cells q.cells cells)

-- ---- the bytes of bars

pub length-words : (words : List ℕ) → length (words_bytes words) ≡ 8 * length words
length-words [] = refl
length-words (w ∷ ws) = omega (arith, length-append (eight_bytes w) (words_bytes ws), length-eight w, length-words ws)

pub length-bar : (bar : BarRow) → length bar.cells ≡ 5 → length (words_bytes (words_of bar)) ≡ 48
length-bar bar h = omega (arith, length-words (words_of bar), six bar h)

pub bars-cons : (b : BarRow) (bs : List BarRow) → words_bytes (flat_map words_of (b ∷ bs)) ≡ words_bytes (words_of b) ++ words_bytes (flat_map words_of bs)
bars-cons b bs = flat_map-append eight_bytes (words_of b) (flat_map words_of bs)

pub length-bars : (bars : List BarRow) → All (λ b. length b.cells ≡ 5) bars → length (words_bytes (flat_map words_of bars)) ≡ 48 * length bars
length-bars [] h = refl
length-bars (b ∷ bs) h =
    let five = λ (b : BarRow). length b.cells ≡ 5 in
    ap (λ (s : List ℕ). length s) (bars-cons b bs) ∙
    omega (arith, length-append (words_bytes (words_of b)) (words_bytes (flat_map words_of bs)), length-bar b (All-head five b bs h), length-bars bs (All-tail five b bs h))

same-front : (x y : BarRow) (p q : List ℕ) → IsSmall x → IsSmall y → words_bytes (words_of x) ++ p ≡ words_bytes (words_of y) ++ q → x ≡ y
same-front x y p q hx hy e =
    let long : length (words_bytes (words_of x)) ≡ length (words_bytes (words_of y)) = length-bar x hx.five ∙ sym (length-bar y hy.five) in
    bar-same x y hx hy (words-same (words_of x) (words_of y) (six x hx.five ∙ sym (six y hy.five)) (words-fit x hx) (words-fit y hy)
    (front-same (words_bytes (words_of x)) (words_bytes (words_of y)) p q long e))

same-back : (x y : BarRow) (p q : List ℕ) → IsSmall x → IsSmall y → words_bytes (words_of x) ++ p ≡ words_bytes (words_of y) ++ q → p ≡ q
same-back x y p q hx hy e =
    let long : length (words_bytes (words_of x)) ≡ length (words_bytes (words_of y)) = length-bar x hx.five ∙ sym (length-bar y hy.five) in
    back-same (words_bytes (words_of x)) (words_bytes (words_of y)) p q long e

-- the bytes of bars and more, from their first bar on
split : (b : BarRow) (bs : List BarRow) (more : List ℕ) → words_bytes (flat_map words_of (b ∷ bs)) ++ more ≡ words_bytes (words_of b) ++ (words_bytes (flat_map words_of bs) ++ more)
split b bs more = ap (λ s. s ++ more) (bars-cons b bs) ∙ append_assoc (words_bytes (words_of b)) (words_bytes (flat_map words_of bs)) more

-- bytes that begin with some bars and with more bars say that the former are the first of the latter, and go on with the next
pub record HasNext (bars all : List BarRow) (more rest : List ℕ) : Type 0 where
  pub bar : BarRow
  pub others : List BarRow
  pub whole : all ≡ (bars ++ bar ∷ []) ++ others
  pub next : more ≡ words_bytes (words_of bar) ++ (words_bytes (flat_map words_of others) ++ rest)

pub next-bar : (bars all : List BarRow) (more rest : List ℕ) → All IsSmall bars → All IsSmall all → length bars < length all
    → words_bytes (flat_map words_of bars) ++ more ≡ words_bytes (flat_map words_of all) ++ rest → HasNext bars all more rest
next-bar [] [] more rest p q l e = absurd (omega (arith, l))
next-bar [] (y ∷ ys) more rest p q l e = record { bar = y; others = ys; whole = refl; next = e ∙ split y ys rest }
next-bar (x ∷ xs) [] more rest p q l e = absurd (omega (arith, l))
next-bar (x ∷ xs) (y ∷ ys) more rest p q l e =
    let hx = All-head IsSmall x xs p in
    let hy = All-head IsSmall y ys q in
    let both = sym (split x xs more) ∙ e ∙ split y ys rest in
    let one = same-front x y (words_bytes (flat_map words_of xs) ++ more) (words_bytes (flat_map words_of ys) ++ rest) hx hy both in
    let tail = same-back x y (words_bytes (flat_map words_of xs) ++ more) (words_bytes (flat_map words_of ys) ++ rest) hx hy both in
    let it = next-bar xs ys more rest (All-tail IsSmall x xs p) (All-tail IsSmall y ys q) (omega (arith, l)) tail in
    record { bar = it.bar; others = it.others; whole = ap (λ (s : List BarRow). y ∷ s) it.whole ∙ ap (λ b. b ∷ ((xs ++ it.bar ∷ []) ++ it.others)) (sym one); next = it.next }

pub bars-same : (bars all : List BarRow) (more rest : List ℕ) → All IsSmall bars → All IsSmall all → length bars ≡ length all
    → words_bytes (flat_map words_of bars) ++ more ≡ words_bytes (flat_map words_of all) ++ rest → (bars ≡ all) × (more ≡ rest)
bars-same [] [] more rest p q l e = (refl, e)
bars-same [] (y ∷ ys) more rest p q l e = absurd (omega (arith, l))
bars-same (x ∷ xs) [] more rest p q l e = absurd (omega (arith, l))
bars-same (x ∷ xs) (y ∷ ys) more rest p q l e =
    let hx = All-head IsSmall x xs p in
    let hy = All-head IsSmall y ys q in
    let both = sym (split x xs more) ∙ e ∙ split y ys rest in
    let one = same-front x y (words_bytes (flat_map words_of xs) ++ more) (words_bytes (flat_map words_of ys) ++ rest) hx hy both in
    let tail = same-back x y (words_bytes (flat_map words_of xs) ++ more) (words_bytes (flat_map words_of ys) ++ rest) hx hy both in
    let it = bars-same xs ys more rest (All-tail IsSmall x xs p) (All-tail IsSmall y ys q) (omega (arith, l)) tail in
    (ap (λ b. b ∷ xs) one ∙ ap (λ bs. y ∷ bs) it.0, it.1)

-- ---- the bar of six words

pub cell-word : (word : ℕ) (v : ℤ) → word < 2 ^ 64 → v ≡ cast_signed w64 word → cast_unsigned w64 (cast_signed w64 (cast_unsigned w64 v)) ≡ word
cell-word word v fits e =
    ap (λ x. cast_unsigned w64 (cast_signed w64 (cast_unsigned w64 x))) e ∙ ap (λ n. cast_unsigned w64 (cast_signed w64 n)) (of_z-to_z w64 word fits) ∙ of_z-to_z w64 word fits

pub key-word : (word : ℕ) → (word / 4294967296) * 2 ^ 32 + word % 4294967296 ≡ word
key-word word = omega arith

-- the cell is one that 64 bits hold
pub cell-in : (word : ℕ) (v : ℤ) → word < 2 ^ 64 → v ≡ cast_signed w64 word → FitsSigned w64 (cast_signed w64 (cast_unsigned w64 v))
cell-in word v fits e =
    let same : cast_unsigned w64 v ≡ word = ap (λ x. cast_unsigned w64 x) e ∙ of_z-to_z w64 word fits in
    rw same (sfits_to_z (record { fits = fits }))

-- the bar of the words that stand at a place
abbrev made : ℕ → ℤ → ℤ → ℤ → ℤ → ℤ → BarRow
made key a b c d e = record {
  col = key / 4294967296;
  session = key % 4294967296;
  cells = cast_signed w64 (cast_unsigned w64 a) ∷ cast_signed w64 (cast_unsigned w64 b) ∷ cast_signed w64 (cast_unsigned w64 c)
      ∷ cast_signed w64 (cast_unsigned w64 d) ∷ cast_signed w64 (cast_unsigned w64 e) ∷ [];
}

pub bar-there : (bytes : List ℕ) (at key a b c d e : ℕ) (va vb vc vd ve : ℤ)
    → a < 2 ^ 64 → b < 2 ^ 64 → c < 2 ^ 64 → d < 2 ^ 64 → e < 2 ^ 64
    → va ≡ cast_signed w64 a → vb ≡ cast_signed w64 b → vc ≡ cast_signed w64 c → vd ≡ cast_signed w64 d → ve ≡ cast_signed w64 e
    → eight_bytes key ≡ take 8 (drop at bytes) → eight_bytes a ≡ take 8 (drop (at + 8) bytes) → eight_bytes b ≡ take 8 (drop (at + 16) bytes)
    → eight_bytes c ≡ take 8 (drop (at + 24) bytes) → eight_bytes d ≡ take 8 (drop (at + 32) bytes) → eight_bytes e ≡ take 8 (drop (at + 40) bytes)
    → words_bytes (words_of (made key va vb vc vd ve)) ≡ take 48 (drop at bytes)
bar-there bytes at key a b c d e va vb vc vd ve fa fb fc fd fe sa sb sc sd se hk ha hb hc hd he =
    six-there bytes at _ _ _ _ _ _ (ap eight_bytes (key-word key) ∙ hk) (ap eight_bytes (cell-word a va fa sa) ∙ ha) (ap eight_bytes (cell-word b vb fb sb) ∙ hb)
    (ap eight_bytes (cell-word c vc fc sc) ∙ hc) (ap eight_bytes (cell-word d vd fd sd) ∙ hd) (ap eight_bytes (cell-word e ve fe se) ∙ he)

all-five : (a b c d e : ℤ) → FitsSigned w64 a → FitsSigned w64 b → FitsSigned w64 c → FitsSigned w64 d → FitsSigned w64 e
    → All (λ v. FitsSigned w64 v) (a ∷ b ∷ c ∷ d ∷ e ∷ [])
all-five a b c d e ha hb hc hd he =
    let fits = λ (v : ℤ). FitsSigned w64 v in
    All-cons fits a (b ∷ c ∷ d ∷ e ∷ []) ha (All-cons fits b (c ∷ d ∷ e ∷ []) hb (All-cons fits c (d ∷ e ∷ []) hc (All-cons fits d (e ∷ []) hd (All-cons fits e [] he (All-nil fits)))))

pub bar-small : (key a b c d e : ℕ) (va vb vc vd ve : ℤ) → key < 2 ^ 64
    → a < 2 ^ 64 → b < 2 ^ 64 → c < 2 ^ 64 → d < 2 ^ 64 → e < 2 ^ 64
    → va ≡ cast_signed w64 a → vb ≡ cast_signed w64 b → vc ≡ cast_signed w64 c → vd ≡ cast_signed w64 d → ve ≡ cast_signed w64 e
    → IsSmall (made key va vb vc vd ve)
bar-small key a b c d e va vb vc vd ve fk fa fb fc fd fe sa sb sc sd se = record {
  col = omega arith;
  session = omega arith;
  cells = all-five _ _ _ _ _ (cell-in a va fa sa) (cell-in b vb fb sb) (cell-in c vc fc sc) (cell-in d vd fd sd) (cell-in e ve fe se);
  five = refl;
}

-- ---- the words of five cells

pub five-words : (cells : List ℤ) (key a b c d e : ℕ) (x : ℤ) → length cells ≡ 5 → All (λ v. FitsSigned w64 v) cells
    → a ≡ cast_unsigned w64 (cast_signed w64 (cast_unsigned w64 (get_or cells 0 x))) → b ≡ cast_unsigned w64 (cast_signed w64 (cast_unsigned w64 (get_or cells 1 x)))
    → c ≡ cast_unsigned w64 (cast_signed w64 (cast_unsigned w64 (get_or cells 2 x))) → d ≡ cast_unsigned w64 (cast_signed w64 (cast_unsigned w64 (get_or cells 3 x)))
    → e ≡ cast_unsigned w64 (cast_signed w64 (cast_unsigned w64 (get_or cells 4 x)))
    → key ∷ a ∷ b ∷ c ∷ d ∷ e ∷ [] ≡ key ∷ map (λ v. cast_unsigned w64 v) cells
five-words (p ∷ q ∷ r ∷ s ∷ t ∷ []) key a b c d e x l h ha hb hc hd he =
    ap (λ n. key ∷ n ∷ b ∷ c ∷ d ∷ e ∷ []) (ha ∙ own p (h 0 x (omega arith))) ∙ ap (λ n. key ∷ cast_unsigned w64 p ∷ n ∷ c ∷ d ∷ e ∷ []) (hb ∙ own q (h 1 x (omega arith)))
    ∙ ap (λ n. key ∷ cast_unsigned w64 p ∷ cast_unsigned w64 q ∷ n ∷ d ∷ e ∷ []) (hc ∙ own r (h 2 x (omega arith)))
    ∙ ap (λ n. key ∷ cast_unsigned w64 p ∷ cast_unsigned w64 q ∷ cast_unsigned w64 r ∷ n ∷ e ∷ []) (hd ∙ own s (h 3 x (omega arith)))
    ∙ ap (λ n. key ∷ cast_unsigned w64 p ∷ cast_unsigned w64 q ∷ cast_unsigned w64 r ∷ cast_unsigned w64 s ∷ n ∷ []) (he ∙ own t (h 4 x (omega arith)))
  where
    own : (v : ℤ) → FitsSigned w64 v → cast_unsigned w64 (cast_signed w64 (cast_unsigned w64 v)) ≡ cast_unsigned w64 v
    own v f = ap (λ z. cast_unsigned w64 z) (to_z-of_z w64 v f)
five-words [] key a b c d e x l h ha hb hc hd he = absurd (omega (arith, l))
five-words (p ∷ []) key a b c d e x l h ha hb hc hd he = absurd (omega (arith, l))
five-words (p ∷ q ∷ []) key a b c d e x l h ha hb hc hd he = absurd (omega (arith, l))
five-words (p ∷ q ∷ r ∷ []) key a b c d e x l h ha hb hc hd he = absurd (omega (arith, l))
five-words (p ∷ q ∷ r ∷ s ∷ []) key a b c d e x l h ha hb hc hd he = absurd (omega (arith, l))
five-words (p ∷ q ∷ r ∷ s ∷ t ∷ u ∷ more) key a b c d e x l h ha hb hc hd he = absurd (omega (arith, l))
