-- Facts with one key are one.
use Rattle.std.proofs.Common.{◌≡◌, ℕ, ◌+◌, ◌*◌, ◌<◌, Bool, true, false, ◌&&◌, if◌then◌else◌, pos, negsuc, Some, None, refl, sym, ◌∙◌, arith}
use Rattle.std.proofs.lemmas.Bool.{and_parts}
use Rattle.std.proofs.lemmas.Bool.Decides.{nat_tests}
use Rattle.pl_spec.specs.declared.Column.{Column}
use Rattle.pl_spec.specs.declared.Column.TheVariants.{OpenPrice}
use Rattle.pl_spec.specs.World.{column_number}
use Rattle.pl_spec.proofs.Columns.{column_number-one}
use Rattle.pl_derivation.specs.Facts.{Fact}
use Rattle.pl_derivation.specs.Facts.Fact.{Seen, TermValue, SeenValue}
use Rattle.pl_derivation.proofs.Truths.{and3}
use Rattle.pl_explain.specs.Keys.{is_small, packed, fact_key}

pub small-is : (n : ℕ) → is_small n ≡ true → n < 4294967296
small-is n h = grind (arith, nat_tests)

pub digits : (k a m b : ℕ) → a < 4294967296 → b < 4294967296 → k * 4294967296 + a ≡ m * 4294967296 + b → (k ≡ m) × (a ≡ b)
digits k a m b h i e = (omega (arith, h, i, e), omega (arith, h, i, e))

packed-same : (k a s d m b r e : ℕ) → a < 4294967296 → s < 4294967296 → d < 4294967296 → b < 4294967296 → r < 4294967296 → e < 4294967296
    → packed k a s d ≡ packed m b r e → (k ≡ m) × (a ≡ b) × (s ≡ r) × (d ≡ e)
unfolding packed
packed-same k a s d m b r e ha hs hd hb hr he h =
    let last = digits ((k * 4294967296 + a) * 4294967296 + s) d ((m * 4294967296 + b) * 4294967296 + r) e hd he h in
    let bar = digits (k * 4294967296 + a) s (m * 4294967296 + b) r hs hr last.0 in
    let sid = digits k a m b ha hb bar.0 in
    (sid.0, sid.1, bar.1, last.1)

pub some-if : {X : Type 0} (b : Bool) (x y : X) → (if b then Some x else None) ≡ Some y → (b ≡ true) × (x ≡ y)
some-if true x y e = (refl, let same : Some x ≡ Some y = e in cc)
some-if false x y e = absurd (let bad : None ≡ Some y = e in cc)

column-few : (c : Column) → column_number c < 5
column-few OpenPrice = omega arith
column-few c = omega arith

seen-parts : (c : Column) (a s d k : ℕ) → fact_key (Seen c a (pos s) (pos d)) ≡ Some k → (a < 4294967296) × (s < 4294967296) × (d < 4294967296) × (packed (column_number c) a s d ≡ k)
seen-parts c a s d k e =
    let both = some-if (is_small a && is_small s && is_small d) (packed (column_number c) a s d) k e in
    let parts = and3 (is_small a) (is_small s) (is_small d) both.0 in
    (small-is a parts.0, small-is s parts.1, small-is d parts.2, both.1)

worth-parts : (t a d k : ℕ) → fact_key (TermValue t a (pos d)) ≡ Some k → (a < 4294967296) × (d < 4294967296) × (packed (5 + 2 * t) a 0 d ≡ k)
worth-parts t a d k e =
    let both = some-if (is_small a && is_small d) (packed (5 + 2 * t) a 0 d) k e in
    let parts = and_parts (is_small a) (is_small d) both.0 in
    (small-is a parts.0, small-is d parts.1, both.1)

told-parts : (t a s d k : ℕ) → fact_key (SeenValue t a (pos s) (pos d)) ≡ Some k → (a < 4294967296) × (s < 4294967296) × (d < 4294967296) × (packed (6 + 2 * t) a s d ≡ k)
told-parts t a s d k e =
    let both = some-if (is_small a && is_small s && is_small d) (packed (6 + 2 * t) a s d) k e in
    let parts = and3 (is_small a) (is_small s) (is_small d) both.0 in
    (small-is a parts.0, small-is s parts.1, small-is d parts.2, both.1)

pub key-same : (f g : Fact) (k : ℕ) → fact_key f ≡ Some k → fact_key g ≡ Some k → f ≡ g
key-same (Seen c a (pos s) (pos d)) (Seen h b (pos r) (pos e)) k x y =
    let p = seen-parts c a s d k x in
    let q = seen-parts h b r e k y in
    let same = packed-same (column_number c) a s d (column_number h) b r e p.0 p.1 p.2 q.0 q.1 q.2 (p.3 ∙ sym q.3) in
    rw (column_number-one c h same.0, same.1, same.2, same.3) refl
key-same (TermValue t a (pos d)) (TermValue u b (pos e)) k x y =
    let p = worth-parts t a d k x in
    let q = worth-parts u b e k y in
    let same = packed-same (5 + 2 * t) a 0 d (5 + 2 * u) b 0 e p.0 (omega arith) p.1 q.0 (omega arith) q.1 (p.2 ∙ sym q.2) in
    let term : t ≡ u = omega (arith, same.0) in
    rw (term, same.1, same.3) refl
key-same (Seen c a (pos s) (pos d)) (TermValue u b (pos e)) k x y =
    let p = seen-parts c a s d k x in
    let q = worth-parts u b e k y in
    let same = packed-same (column_number c) a s d (5 + 2 * u) b 0 e p.0 p.1 p.2 q.0 (omega arith) q.1 (p.3 ∙ sym q.2) in
    absurd (omega (arith, same.0, column-few c))
key-same (TermValue t a (pos d)) (Seen h b (pos r) (pos e)) k x y =
    let p = worth-parts t a d k x in
    let q = seen-parts h b r e k y in
    let same = packed-same (5 + 2 * t) a 0 d (column_number h) b r e p.0 (omega arith) p.1 q.0 q.1 q.2 (p.2 ∙ sym q.3) in
    absurd (omega (arith, same.0, column-few h))
key-same (SeenValue t a (pos s) (pos d)) (SeenValue u b (pos r) (pos e)) k x y =
    let p = told-parts t a s d k x in
    let q = told-parts u b r e k y in
    let same = packed-same (6 + 2 * t) a s d (6 + 2 * u) b r e p.0 p.1 p.2 q.0 q.1 q.2 (p.3 ∙ sym q.3) in
    let term : t ≡ u = omega (arith, same.0) in
    rw (term, same.1, same.2, same.3) refl
key-same (Seen c a (pos s) (pos d)) (SeenValue u b (pos r) (pos e)) k x y =
    let p = seen-parts c a s d k x in
    let q = told-parts u b r e k y in
    let same = packed-same (column_number c) a s d (6 + 2 * u) b r e p.0 p.1 p.2 q.0 q.1 q.2 (p.3 ∙ sym q.3) in
    absurd (omega (arith, same.0, column-few c))
key-same (SeenValue t a (pos s) (pos d)) (Seen h b (pos r) (pos e)) k x y =
    let p = told-parts t a s d k x in
    let q = seen-parts h b r e k y in
    let same = packed-same (6 + 2 * t) a s d (column_number h) b r e p.0 p.1 p.2 q.0 q.1 q.2 (p.3 ∙ sym q.3) in
    absurd (omega (arith, same.0, column-few h))
key-same (TermValue t a (pos d)) (SeenValue u b (pos r) (pos e)) k x y =
    let p = worth-parts t a d k x in
    let q = told-parts u b r e k y in
    let same = packed-same (5 + 2 * t) a 0 d (6 + 2 * u) b r e p.0 (omega arith) p.1 q.0 q.1 q.2 (p.2 ∙ sym q.3) in
    absurd (omega (arith, same.0))
key-same (SeenValue t a (pos s) (pos d)) (TermValue u b (pos e)) k x y =
    let p = told-parts t a s d k x in
    let q = worth-parts u b e k y in
    let same = packed-same (6 + 2 * t) a s d (5 + 2 * u) b 0 e p.0 p.1 p.2 q.0 (omega arith) q.1 (p.3 ∙ sym q.2) in
    absurd (omega (arith, same.0))
key-same (Seen c a (negsuc s) d) g k x y = absurd (let bad : None ≡ Some k = x in cc)
key-same (Seen c a (pos s) (negsuc d)) g k x y = absurd (let bad : None ≡ Some k = x in cc)
key-same (TermValue t a (negsuc d)) g k x y = absurd (let bad : None ≡ Some k = x in cc)
key-same (SeenValue t a (negsuc s) d) g k x y = absurd (let bad : None ≡ Some k = x in cc)
key-same (SeenValue t a (pos s) (negsuc d)) g k x y = absurd (let bad : None ≡ Some k = x in cc)
key-same f g k x y = absurd (let bad : None ≡ Some k = y in cc)
