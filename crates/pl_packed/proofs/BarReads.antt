-- Bars that are read one by one, and where they stop.
use Rattle.std.proofs.Common.{◌≡◌, ℕ, ◌+◌, ◌-◌, ◌*◌, ◌<◌, ◌≤◌, ℤ, List, [], ◌∷◌, ◌++◌, length, take, drop, flat_map, sum, All, ◌%◌, ◌^◌, get_or, Ok, refl, sym, ap, ◌∙◌, take-add, arith, append_assoc, length-append, subst}
use Rattle.std.proofs.Math.Seq.{take-append_seam, drop-append_seam, get_or-append_seam}
use Rattle.std.proofs.lemmas.List.{append-nil, take-append-drop, length-drop, take_all, at_drop_more}
use Rattle.std.proofs.lemmas.Grind.{flat_map-append}
use Rattle.pl_spec.specs.declared.AssetRow.{AssetRow}
use Rattle.pl_spec.specs.declared.BarRow.{BarRow}
use Rattle.pl_spec.specs.Limits.{most_bars, most_assets, most_sessions}
use Rattle.pl_packed.specs.Fit.{IsNext, IsSmall}
use Rattle.pl_packed.specs.Packed.{known, head, four_bytes, eight_bytes, words_of, words_bytes, sums_bytes, seal}
use Rattle.pl_packed.specs.Summed.{AreSums, bytes_of}
use Rattle.pl_packed.specs.Says.{Begins, HasRoomFor, GoesOn, IsNoBar, IsBadBar, IsFault, Says}
use Rattle.pl_packed.specs.Reading.{AreRead, IsStop}
use Rattle.pl_packed.specs.declared.sums.Sums.{Sums}
use Rattle.pl_packed.specs.declared.error.UnpackError.{UnpackError}
use Rattle.pl_packed.specs.declared.error.UnpackError.TheVariants.{NotPacked, OtherSessions, OtherAssets, BadLength, BadBar, Damaged, Memory}
use Rattle.pl_packed.proofs.WordBytes.{words-same, length-four}
use Rattle.pl_packed.proofs.BarWords.{bar-same, words-fit, six, length-bar, bars-cons}
use Rattle.pl_packed.proofs.Kept.{kept-none, kept-more, kept-last, kept-small}
use Rattle.pl_packed.proofs.Rounds.{sealed-is}

pub read-none : (cols sessions : ℕ) (sums : Sums) (after : List ℕ) → AreSums sums [] → AreRead cols sessions [] sums after
read-none cols sessions sums after h = record { kept = kept-none cols sessions; bytes = refl; summed = h }

-- the bytes of bars and one more
bars-push : (bars : List BarRow) (bar : BarRow) → words_bytes (flat_map words_of (bars ++ bar ∷ [])) ≡ words_bytes (flat_map words_of bars) ++ words_bytes (words_of bar)
bars-push bars bar =
    ap words_bytes (flat_map-append words_of bars (bar ∷ []) ∙ ap (λ s. flat_map words_of bars ++ s) (append-nil (words_of bar)))
    ∙ flat_map-append eight_bytes (flat_map words_of bars) (words_of bar)

pub read-more : (cols sessions : ℕ) (bars : List BarRow) (sums more : Sums) (after : List ℕ) (bar : BarRow) (i count : ℕ)
    → sessions ≤ most_sessions → count ≤ most_bars → i < count → length bars ≡ i → AreRead cols sessions bars sums after → IsNext cols sessions bars bar
    → words_bytes (words_of bar) ≡ take 48 (drop (48 * i) after) → ((words : List ℕ) → AreSums sums words → AreSums more (words ++ words_of bar))
    → AreRead cols sessions (bars ++ bar ∷ []) more after
read-more cols sessions bars sums more after bar i count few most within long h next bytes add = record {
  kept = kept-more cols sessions bars bar few (omega arith) h.kept next;
  bytes = bars-push bars bar ∙ ap (λ s. s ++ words_bytes (words_of bar)) h.bytes
      ∙ ap (λ s. take (48 * length bars) after ++ s) (bytes ∙ ap (λ n. take 48 (drop (48 * n) after)) (sym long))
      ∙ sym (take-add (48 * length bars) 48 after)
      ∙ ap (λ n. take n after) (omega (arith, length-append bars (bar ∷ [])));
  summed = subst (AreSums more) (sym (flat_map-append words_of bars (bar ∷ []) ∙ ap (λ s. flat_map words_of bars ++ s) (append-nil (words_of bar)))) (add (flat_map words_of bars) h.summed);
}

-- what was read, and the rest
pub goes-on : (cols sessions : ℕ) (bars : List BarRow) (sums : Sums) (after : List ℕ) (i : ℕ) → length bars ≡ i → AreRead cols sessions bars sums after
    → GoesOn cols sessions bars after (drop (48 * i) after)
goes-on cols sessions bars sums after i long h =
    (h.kept, sym (take-append-drop (48 * i) after) ∙ ap (λ s. s ++ drop (48 * i) after) (ap (λ n. take (48 * n) after) (sym long) ∙ sym h.bytes))

no-bar : (cols sessions : ℕ) (bars : List BarRow) (bar : BarRow) (more : List ℕ) → cols ≤ most_assets → sessions ≤ most_sessions → IsSmall bar
    → words_bytes (words_of bar) ≡ take 48 more → ¬ IsNext cols sessions bars bar → IsNoBar cols sessions bars more
no-bar cols sessions bars bar more less few small bytes none other kept begins =
    let next = kept-last cols sessions bars other few kept in
    let five = next.1.five in
    let all = kept-small cols sessions (bars ++ other ∷ []) less few kept in
    let fits : IsSmall other = last-small bars other all in
    let front : take 48 more ≡ words_bytes (words_of other) =
    ap (λ s. take 48 s) begins.1 ∙ ap (λ n. take n (words_bytes (words_of other) ++ begins.0)) (sym (length-bar other five)) ∙ take-append_seam (words_bytes (words_of other)) begins.0 in
    let words = words-same (words_of bar) (words_of other) (six bar small.five ∙ sym (six other five)) (words-fit bar small) (words-fit other fits) (bytes ∙ front) in
    none (rw (bar-same bar other small fits words) next)
  where
    last-small : (xs : List BarRow) (x : BarRow) → All IsSmall (xs ++ x ∷ []) → IsSmall x
    last-small xs x h = rw (get_or-append_seam xs x [] x) at (h (length xs) x (omega (arith, length-append xs (x ∷ []))))

-- the bar after those that were read is none
pub stops-at : (cols sessions count : ℕ) (bars : List BarRow) (sums : Sums) (after : List ℕ) (bar : BarRow) (i place : ℕ) → cols ≤ most_assets → sessions ≤ most_sessions
    → length bars ≡ i → i < count → place ≡ i + 1 → AreRead cols sessions bars sums after → IsSmall bar → words_bytes (words_of bar) ≡ take 48 (drop (48 * i) after)
    → ¬ IsNext cols sessions bars bar → IsBadBar cols sessions count after place
stops-at cols sessions count bars sums after bar i place less few long within number h small bytes none =
    (bars, drop (48 * i) after, goes-on cols sessions bars sums after i long h, omega arith, omega arith, no-bar cols sessions bars bar (drop (48 * i) after) less few small bytes none)

-- ---- behind the head

-- a front that is followed by these four bytes
pub front-there : (front bytes : List ℕ) (count : ℕ) → Begins front bytes → four_bytes count ≡ take 4 (drop (length front) bytes)
    → bytes ≡ (front ++ four_bytes count) ++ drop (length (front ++ four_bytes count)) bytes
front-there front bytes count h there =
    let rest = h.0 in
    let behind : drop (length front) bytes ≡ rest = ap (λ s. drop (length front) s) h.1 ∙ drop-append_seam front rest in
    let four : four_bytes count ≡ take 4 rest = there ∙ ap (λ s. take 4 s) behind in
    let split : rest ≡ four_bytes count ++ drop 4 rest = sym (take-append-drop 4 rest) ∙ ap (λ s. s ++ drop 4 rest) (sym four) in
    let whole : bytes ≡ (front ++ four_bytes count) ++ drop 4 rest = h.1 ∙ ap (λ s. front ++ s) split ∙ sym (append_assoc front (four_bytes count) (drop 4 rest)) in
    let last : drop (length (front ++ four_bytes count)) bytes ≡ drop 4 rest = ap (λ s. drop (length (front ++ four_bytes count)) s) whole ∙ drop-append_seam (front ++ four_bytes count) (drop 4 rest) in
    whole ∙ ap (λ s. (front ++ four_bytes count) ++ s) (sym last)

pub room-there : (days : List ℤ) (assets : List AssetRow) (bytes : List ℕ) (count : ℕ) → Begins (known days assets) bytes
    → four_bytes count ≡ take 4 (drop (length (known days assets)) bytes) → length bytes ≡ length (known days assets) + (4 + (48 * count + 48))
    → HasRoomFor days assets bytes count (drop (length (head days assets count)) bytes)
room-there days assets bytes count begins there long =
    let front = known days assets in
    (front-there front bytes count begins there, omega (arith, length-drop (length (head days assets count)) bytes, length-append front (four_bytes count), length-four count))

-- no count has room
pub no-room : (days : List ℤ) (assets : List AssetRow) (bytes : List ℕ) → Begins (known days assets) bytes
    → ((count : ℕ) → count ≤ most_bars → four_bytes count ≡ take 4 (drop (length (known days assets)) bytes) → ¬ (length bytes ≡ length (known days assets) + (4 + (48 * count + 48))))
    → IsFault days assets bytes BadLength
no-room days assets bytes begins none = (
  begins,
  λ count after few room.
      let front = known days assets in
      let whole : bytes ≡ front ++ (four_bytes count ++ after) = room.0 ∙ append_assoc front (four_bytes count) after in
      let behind : drop (length front) bytes ≡ four_bytes count ++ after = ap (λ s. drop (length front) s) whole ∙ drop-append_seam front (four_bytes count ++ after) in
      let four : take 4 (drop (length front) bytes) ≡ four_bytes count =
      ap (λ s. take 4 s) behind ∙ ap (λ n. take n (four_bytes count ++ after)) (sym (length-four count)) ∙ take-append_seam (four_bytes count) after in
      none count few (sym four) (ap (λ (s : List ℕ). length s) whole ∙ omega (arith, length-append front (four_bytes count ++ after), length-append (four_bytes count) after, length-four count, room.1)),
)

pub stop-fault : (days : List ℤ) (assets : List AssetRow) (bytes after : List ℕ) (count : ℕ) → HasRoomFor days assets bytes count after → count ≤ most_bars
    → (e : UnpackError) → IsStop (length assets) (length days) count after e → IsFault days assets bytes e
stop-fault days assets bytes after count room few NotPacked h = absurd h
stop-fault days assets bytes after count room few OtherSessions h = absurd h
stop-fault days assets bytes after count room few OtherAssets h = absurd h
stop-fault days assets bytes after count room few BadLength h = absurd h
stop-fault days assets bytes after count room few (BadBar place) h = (count, after, room, few, h)
stop-fault days assets bytes after count room few Damaged h = absurd h
stop-fault days assets bytes after count room few Memory h = tt

-- the sums that were kept are those of the words
pub sums-bytes : (sums : Sums) (words : List ℕ) → AreSums sums words → bytes_of sums ≡ sums_bytes words
sums-bytes sums words h = ap (λ n. eight_bytes n ++ eight_bytes sums.weighed) h.plain ∙ ap (λ n. eight_bytes (sum words % 2 ^ 64) ++ eight_bytes n) h.weighed

module _ (days : List ℤ) (assets : List AssetRow) (bytes after : List ℕ) (count : ℕ) (bars : List BarRow) (sums : Sums)
    (room : HasRoomFor days assets bytes count after) (long : length bars ≡ count) (h : AreRead (length assets) (length days) bars sums after) where
  own-room : HasRoomFor days assets bytes (length bars) after
  own-room = subst (λ n. HasRoomFor days assets bytes n after) (sym long) room

  same-seal : seal (head days assets count) (bytes_of sums) ≡ seal (head days assets (length bars)) (sums_bytes (flat_map words_of bars))
  same-seal = ap (λ n. seal (head days assets n) (bytes_of sums)) (sym long) ∙ ap (λ s. seal (head days assets (length bars)) s) (sums-bytes sums (flat_map words_of bars) h.summed)

  pub is-damaged : (drop (48 * count) after ≡ seal (head days assets count) (bytes_of sums) → ⊥) → IsFault days assets bytes Damaged
  is-damaged other = (bars, after, drop (48 * count) after, own-room, goes-on _ _ bars sums after count long h, λ e. other (e ∙ sym same-seal))

  pub is-whole : drop (48 * count) after ≡ seal (head days assets count) (bytes_of sums) → Says days assets bytes (Ok bars)
  is-whole e =
      let on = goes-on _ _ bars sums after count long h in (
        h.kept,
        own-room.0 ∙ ap (λ s. head days assets (length bars) ++ s) (on.1 ∙ ap (λ s. words_bytes (flat_map words_of bars) ++ s) (e ∙ same-seal))
            ∙ sym (sealed-is (head days assets (length bars)) bars),
      )

-- the words of the first bars, and of one more
pub words-more : (bars : List BarRow) (i : ℕ) (bar : BarRow) → i < length bars → get_or bars i bar ≡ bar
    → flat_map words_of (take i bars) ++ words_of bar ≡ flat_map words_of (take (i + 1) bars)
words-more bars i bar within is =
    let one : take 1 (drop i bars) ≡ bar ∷ [] = at_drop_more (λ (s : List BarRow). take 1 s) bars i bar within ∙ ap (λ b. b ∷ []) is in
    sym (ap (λ s. flat_map words_of s) (take-add i 1 bars ∙ ap (λ s. take i bars ++ s) one)
    ∙ flat_map-append words_of (take i bars) (bar ∷ []) ∙ ap (λ s. flat_map words_of (take i bars) ++ s) (append-nil (words_of bar)))

-- the bytes of the bars that are left, from the next one on
pub left-is : (bars : List BarRow) (i : ℕ) (bar : BarRow) → i < length bars → get_or bars i bar ≡ bar
    → words_bytes (flat_map words_of (drop i bars)) ≡ words_bytes (words_of bar) ++ words_bytes (flat_map words_of (drop (i + 1) bars))
left-is bars i bar within is =
    at_drop_more (λ (s : List BarRow). words_bytes (flat_map words_of s)) bars i bar within
    ∙ ap (λ b. words_bytes (flat_map words_of (b ∷ drop (i + 1) bars))) is ∙ bars-cons bar (drop (i + 1) bars)

pub begins-length : (front bytes : List ℕ) → Begins front bytes → length front ≤ length bytes
begins-length front bytes h = let long = ap (λ (s : List ℕ). length s) h.1 in omega (arith, long, length-append front h.0)

-- all that is behind a place
pub rest-whole : (n : ℕ) (bytes : List ℕ) → take (length bytes - n) (drop n bytes) ≡ drop n bytes
rest-whole n bytes = take_all (length bytes - n) (drop n bytes) (omega (arith, length-drop n bytes))
