-- What is read of packed bars.
use Rattle.std.proofs.Common.{◌≡◌, ◌≢◌, ◌⊎◌, inl, inr, ℕ, ◌+◌, ◌%◌, ◌^◌, ◌≤◌, ℤ, List, [], ◌∷◌, ◌++◌, length, flat_map, sum, Result, Ok, Err, refl, sym, ap, ◌∙◌, arith, append_assoc, length-append}
use Rattle.std.proofs.lemmas.List.{append_cancel_left}
use Rattle.pl_spec.specs.declared.AssetRow.{AssetRow}
use Rattle.pl_spec.specs.declared.BarRow.{BarRow}
use Rattle.pl_spec.specs.Limits.{most_bars, most_assets, most_sessions}
use Rattle.pl_packed.specs.Fit.{AreKept}
use Rattle.pl_packed.specs.Packed.{mark, days_bytes, sids_bytes, known, head, four_bytes, eight_bytes, words_of, words_bytes, sums_bytes, weighed, seal, sealed, packed}
use Rattle.pl_packed.specs.Says.{Begins, HasRoomFor, Says}
use Rattle.pl_packed.specs.declared.error.UnpackError.{UnpackError}
use Rattle.pl_packed.specs.declared.error.UnpackError.TheVariants.{NotPacked, OtherSessions, OtherAssets, BadLength, BadBar, Damaged, Memory}
use Rattle.sha2.specs.Sha256.{sha256}
use Rattle.sha2.proofs.Facts256.{length-sha256}
use Rattle.pl_packed.proofs.Bytes.{front-same, back-same}
use Rattle.pl_packed.proofs.WordBytes.{length-four, length-eight, four-same}
use Rattle.pl_packed.proofs.BarWords.{next-bar, bars-same, length-bars}
use Rattle.pl_packed.proofs.Kept.{kept-front, kept-small}

pub sealed-is : (front : List ℕ) (bars : List BarRow)
    → sealed front bars ≡ front ++ (words_bytes (flat_map words_of bars) ++ seal front (sums_bytes (flat_map words_of bars)))
unfolding sealed
sealed-is front bars = refl

pub begins-front : (a b bytes : List ℕ) → Begins (a ++ b) bytes → Begins a bytes
begins-front a b bytes h = (b ++ h.0, h.1 ∙ append_assoc a b h.0)

-- one count stands in a head
pub head-same : (days : List ℤ) (assets : List AssetRow) (n m : ℕ) (x y : List ℕ) → n ≤ most_bars → m ≤ most_bars
    → head days assets n ++ x ≡ head days assets m ++ y → (n ≡ m) × (x ≡ y)
head-same days assets n m x y few less e =
    let front = known days assets in
    let both = append_cancel_left front (four_bytes n ++ x) (four_bytes m ++ y) (sym (append_assoc front (four_bytes n) x) ∙ e ∙ append_assoc front (four_bytes m) y) in
    let long : length (four_bytes n) ≡ length (four_bytes m) = length-four n ∙ sym (length-four m) in
    (four-same n m (omega arith) (omega arith) (front-same (four_bytes n) (four_bytes m) x y long both), back-same (four_bytes n) (four_bytes m) x y long both)

pub length-seal : (front words : List ℕ) → length (seal front (sums_bytes words)) ≡ 48
length-seal front words =
    let sums = sums_bytes words in
    let plain = sum words % 2 ^ 64 in
    let weight = weighed words % 2 ^ 64 in
    let two : length sums ≡ 16 = omega (arith, length-append (eight_bytes plain) (eight_bytes weight), length-eight plain, length-eight weight) in
    omega (arith, length-append sums (sha256 (front ++ sums)), length-sha256 (front ++ sums), two)

module _ (days : List ℤ) (assets : List AssetRow) (bars : List BarRow) (bytes : List ℕ)
    (few : length days ≤ most_sessions) (less : length assets ≤ most_assets)
    (kept : AreKept (length assets) (length days) bars) (is : bytes ≡ packed days assets bars) where
  abbrev body : List BarRow → List ℕ
  body bs = words_bytes (flat_map words_of bs)

  abbrev end : List BarRow → List ℕ
  end bs = seal (head days assets (length bs)) (sums_bytes (flat_map words_of bs))

  whole : bytes ≡ head days assets (length bars) ++ (body bars ++ end bars)
  whole = is ∙ sealed-is (head days assets (length bars)) bars

  small : length bars ≤ most_bars
  small = kept.stand.few

  begins : Begins (known days assets) bytes
  begins = begins-front (known days assets) (four_bytes (length bars)) bytes (body bars ++ end bars, whole)

  room : HasRoomFor days assets bytes (length bars) (body bars ++ end bars)
  room = (whole, omega (arith, length-append (body bars) (end bars), length-bars bars kept.five, length-seal (head days assets (length bars)) (flat_map words_of bars)))

  of : (others : List BarRow) → AreKept (length assets) (length days) others → length others ≤ most_bars
  of others h = h.stand.few

  -- other bars of the same bytes
  same : (others : List BarRow) → AreKept (length assets) (length days) others → bytes ≡ head days assets (length others) ++ (body others ++ end others) → others ≡ bars
  same others h e =
      let both = head-same days assets (length others) (length bars) (body others ++ end others) (body bars ++ end bars) (of others h) small (sym e ∙ whole) in
      (bars-same others bars (end others) (end bars) (kept-small _ _ others less few h) (kept-small _ _ bars less few kept) both.0 both.1).0

  pub read-back : (result : Result (List BarRow) UnpackError) → Says days assets bytes result → (result ≡ Ok bars) ⊎ (result ≡ Err Memory)
  read-back (Ok others) h = inl (ap Ok (same others h.0 (h.1 ∙ sealed-is (head days assets (length others)) others)))
  read-back (Err NotPacked) h = absurd (h (begins-front mark (days_bytes days) bytes (begins-front (mark ++ days_bytes days) (sids_bytes assets) bytes begins)))
  read-back (Err OtherSessions) h = absurd (h.1 (begins-front (mark ++ days_bytes days) (sids_bytes assets) bytes begins))
  read-back (Err OtherAssets) h = absurd (h.1 begins)
  read-back (Err BadLength) h = absurd (h.1 (length bars) (body bars ++ end bars) small room)
  read-back (Err (BadBar place)) h = absurd (bad place h.0 h.1 h.2.0 h.3 h.4.0 h.4.1 h.4.2.0 h.4.2.1 h.4.3 h.4.4 h.4.5)
    where
      bad : (place count : ℕ) (after : List ℕ) → bytes ≡ head days assets count ++ after → count ≤ most_bars → (others : List BarRow) (more : List ℕ)
          → AreKept (length assets) (length days) others → after ≡ body others ++ more → place ≡ length others + 1 → place ≤ count
          → ((bar : BarRow) → AreKept (length assets) (length days) (others ++ bar ∷ []) → Begins (words_bytes (words_of bar)) more → ⊥)
          → ⊥
      bad place count after e most others more h goes number within none =
          let both = head-same days assets count (length bars) after (body bars ++ end bars) most small (sym e ∙ whole) in
          let it = next-bar others bars more (end bars) (kept-small _ _ others less few h) (kept-small _ _ bars less few kept) (omega (arith, both.0)) (sym goes ∙ both.1) in
          let all : AreKept (length assets) (length days) ((others ++ it.bar ∷ []) ++ it.others) = rw (← it.whole) kept in
          none it.bar (kept-front _ _ (others ++ it.bar ∷ []) it.others all) (body it.others ++ end bars, it.next)
  read-back (Err Damaged) h = absurd (bad h.0 h.1 h.2 h.3.0 h.4.0 h.4.1 h.5)
    where
      bad : (others : List BarRow) (after more : List ℕ) → bytes ≡ head days assets (length others) ++ after → AreKept (length assets) (length days) others
          → after ≡ body others ++ more → more ≢ end others → ⊥
      bad others after more e h goes other =
          let both = head-same days assets (length others) (length bars) after (body bars ++ end bars) (of others h) small (sym e ∙ whole) in
          let it = bars-same others bars more (end bars) (kept-small _ _ others less few h) (kept-small _ _ bars less few kept) both.0 (sym goes ∙ both.1) in
          other (it.1 ∙ ap end (sym it.0))
  read-back (Err Memory) h = inr refl
