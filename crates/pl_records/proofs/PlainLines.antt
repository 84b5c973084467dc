-- A line without quotes is a record, whose fields stand between its commas.
use Rattle.std.proofs.Common.{◌≡◌, inl, inr, ℕ, zero, suc, ◌+◌, ◌-◌, ◌<◌, ◌≤◌, ◌==◌, List, [], ◌∷◌, ◌++◌, length, take, drop, get_or, get_or-drop, length-drop, drop-cons, add-one, true, false, refl, sym, ap, subst, ◌∙◌, arith, Option, Some}
use Rattle.std.proofs.lemmas.Grind.{common_steps}
use Rattle.std.proofs.lemmas.List.{drop_all, take_more}
use Rattle.std.proofs.lemmas.Bool.Decides.{nat_tests}
use Rattle.csv.specs.Machine.{step, next_record, Read, ends_at_end}
use Rattle.csv.specs.Reading.{default_config, records, records_from, records_next, strip_bom}
use Rattle.csv.specs.declared.parser.State.{State}
use Rattle.csv.specs.declared.parser.State.TheVariants as st
use Rattle.csv.specs.declared.parser.Action.TheVariants as act
use Rattle.pl_records.specs.Records.{csv_records}
use Rattle.pl_records.specs.Plain.{is_line_end, StartsRecord}
use Rattle.pl_records.specs.PlainCuts.{IsInside, IsReadTo, IsCutTo}
use Rattle.pl_records.specs.QuotedInside.{records_left}
use Rattle.pl_records.proofs.Facts.{fuel-same}
use Rattle.pl_records.proofs.TakenRecords.{took-go, Took}

-- ---- where a record may begin, the state does not matter

pub same-records : (s t : State) (xs ys : List ℕ) → ends_at_end s ≡ false → ends_at_end t ≡ false
    → next_record default_config s [] [] xs ≡ next_record default_config t [] [] ys → records_left s (Some xs) ≡ records_left t (Some ys)
unfolding records_from
same-records s t xs ys e f same =
    let n = length xs + length ys in
    let here : records_from default_config (length xs + 1) s xs ≡ records_from default_config (n + 1) s xs = fuel-same _ _ s xs e (omega arith) (omega arith) in
    let there : records_from default_config (n + 1) t ys ≡ records_from default_config (length ys + 1) t ys = fuel-same _ _ t ys f (omega arith) (omega arith) in
    let next : records_from default_config (n + 1) s xs ≡ records_from default_config (n + 1) t ys =
    rw (add-one n) (ap (records_next (records_from default_config n)) same) in
    here ∙ next ∙ there

skip-end : (c : ℕ) (rest : List ℕ) → is_line_end c ≡ true → next_record default_config st.StartRecord [] [] (c ∷ rest) ≡ next_record default_config st.StartRecord [] [] rest
unfolding next_record
skip-end c rest e = rw e refl

pub behind-end : (c : ℕ) (rest : List ℕ) → is_line_end c ≡ true → records default_config (c ∷ rest) ≡ records default_config rest
behind-end c rest e = same-records st.StartRecord st.StartRecord (c ∷ rest) rest refl refl (skip-end c rest e)

pub step-cr : (c : ℕ) → step default_config st.AfterCr c ≡ step default_config st.StartRecord c
step-cr c = grind (arith, common_steps, nat_tests)

pub after-cr : (rest : List ℕ) → next_record default_config st.AfterCr [] [] rest ≡ next_record default_config st.StartRecord [] [] rest
unfolding next_record
after-cr [] = refl
after-cr (c ∷ rest) = rw (step-cr c) refl

-- ---- no byte order mark

pub unmarked : (c : ℕ) (rest : List ℕ) → (c == 0xEF) ≡ false → strip_bom (c ∷ rest) ≡ c ∷ rest
unfolding strip_bom
unmarked c [] e = refl
unmarked c (a ∷ []) e = refl
unmarked c (a ∷ b ∷ rest) e = rw e refl

pub unmarked_records : (text : List ℕ) → (get_or text 0 0 == 0xEF) ≡ false → csv_records text ≡ records default_config text
unfolding strip_bom
unmarked_records [] e = refl
unmarked_records (c ∷ rest) e = ap (records default_config) (unmarked c rest e)

pub no_records : (text : List ℕ) → text ≡ [] → csv_records text ≡ []
unfolding strip_bom records_from next_record
no_records text e = rw e refl

-- ---- the text from its first record on

none_left : (line : List ℕ) → (length line == 0) ≡ true → line ≡ []
none_left [] e = refl
none_left (c ∷ cs) e = absurd (let no : 0 ≡ suc (length cs) = grind (arith, nat_tests) in omega (arith, no))

pub from_line : (text line : List ℕ) → (get_or text 0 0 == 0xEF) ≡ false → records default_config line ≡ records default_config text
    → csv_records text ≡ records default_config line
from_line text line e same = unmarked_records text e ∙ sym same

pub no_line : (text line : List ℕ) → (get_or text 0 0 == 0xEF) ≡ false → records default_config line ≡ records default_config text
    → (length line == 0) ≡ true → (csv_records text ≡ []) × (csv_records line ≡ [])
unfolding strip_bom
no_line text line e same n =
    let none = none_left line n in
    (from_line text line e same ∙ ap (records default_config) none ∙ no_records [] refl, no_records line none)

-- ---- a record up to some place

pub step-comma : (s : State) → IsInside s → step default_config s 44 ≡ (st.StartField, act.EndField)
step-comma s (inl e) = rw e refl
step-comma s (inr e) = rw e refl

pub step-byte : (s : State) (c : ℕ) → IsInside s → (c == 44) ≡ false → (c == 34) ≡ false → is_line_end c ≡ false → step default_config s c ≡ (st.InField, act.Copy)
step-byte s c (inl e) comma quote end = rw (e, quote, comma, end) refl
step-byte s c (inr e) comma quote end = rw (e, comma, end) refl

pub step-lf : (s : State) → IsInside s → step default_config s 10 ≡ (st.StartRecord, act.EndRecord)
step-lf s (inl e) = rw e refl
step-lf s (inr e) = rw e refl

pub step-return : (s : State) → IsInside s → step default_config s 13 ≡ (st.AfterCr, act.EndRecord)
step-return s (inl e) = rw e refl
step-return s (inr e) = rw e refl

read-none : (c : ℕ) (rest : List ℕ) → is_line_end c ≡ false
    → IsReadTo (next_record default_config st.StartRecord [] [] (c ∷ rest)) [] [] (c ∷ rest)
unfolding next_record
read-none c rest e = record { state = st.StartField; inside = inl refl; same = rw e refl }

read-comma : (whole : Option Read) (fields : List (List ℕ)) (field left : List ℕ) → IsReadTo whole fields field (44 ∷ left)
    → IsReadTo whole (fields ++ field ∷ []) [] left
unfolding next_record
read-comma whole fields field left h =
    let go = step-comma h.state h.inside in
    record { state = st.StartField; inside = inl refl; same = h.same ∙ rw go refl }

read-byte : (whole : Option Read) (fields : List (List ℕ)) (field : List ℕ) (c : ℕ) (left : List ℕ) → (c == 44) ≡ false → (c == 34) ≡ false → is_line_end c ≡ false
    → IsReadTo whole fields field (c ∷ left) → IsReadTo whole fields (field ++ c ∷ []) left
unfolding next_record
read-byte whole fields field c left comma quote end h =
    let go = step-byte h.state c h.inside comma quote end in
    record { state = st.InField; inside = inr refl; same = h.same ∙ rw go refl }

read-lf : (whole : Option Read) (fields : List (List ℕ)) (field left : List ℕ) → IsReadTo whole fields field (10 ∷ left)
    → whole ≡ Some (fields ++ field ∷ [], st.StartRecord, left)
unfolding next_record
read-lf whole fields field left h = let go = step-lf h.state h.inside in h.same ∙ rw go refl

read-return : (whole : Option Read) (fields : List (List ℕ)) (field left : List ℕ) → IsReadTo whole fields field (13 ∷ left)
    → whole ≡ Some (fields ++ field ∷ [], st.AfterCr, left)
unfolding next_record
read-return whole fields field left h = let go = step-return h.state h.inside in h.same ∙ rw go refl

read-all : (whole : Option Read) (fields : List (List ℕ)) (field : List ℕ) → IsReadTo whole fields field []
    → whole ≡ Some (fields ++ field ∷ [], st.StartRecord, [])
unfolding next_record
read-all whole fields field h = elim h.inside [ inl e ↦ h.same ∙ rw e refl | inr e ↦ h.same ∙ rw e refl ]

-- ---- the records of the text, by its first

first_record : (text left : List ℕ) (fields : List (List ℕ)) (s : State) → next_record default_config st.StartRecord [] [] text ≡ Some (fields, s, left)
    → records default_config text ≡ fields ∷ records_left s (Some left)
first_record text left fields s e =
    let it : Took st.StartRecord s text (Some left) fields = took-go st.StartRecord s text left fields _ e refl (refl, refl, refl, refl) in it.left

pub lf-first : (left : List ℕ) → records_left st.StartRecord (Some left) ≡ csv_records (10 ∷ left)
lf-first left = sym (behind-end 10 left refl) ∙ sym (unmarked_records (10 ∷ left) refl)

pub return-first : (left : List ℕ) → records_left st.AfterCr (Some left) ≡ csv_records (13 ∷ left)
return-first left =
    same-records st.AfterCr st.StartRecord left left refl refl (after-cr left) ∙ sym (behind-end 13 left refl) ∙ sym (unmarked_records (13 ∷ left) refl)

-- ---- the same, by places in the text

pub cut-none : (text : List ℕ) → 0 < length text → StartsRecord text → IsCutTo text [] 0 0
cut-none [] p h = absurd (omega arith)
cut-none (c ∷ rest) p h = record { low = omega arith; read = read-none c rest h }

part-more : (l : List ℕ) (s i : ℕ) → s ≤ i → i < length l → take (i + 1 - s) (drop s l) ≡ take (i - s) (drop s l) ++ get_or l i 0 ∷ []
part-more l s i low high =
    let one : i + 1 - s ≡ (i - s) + 1 = omega arith in
    let at : s + (i - s) ≡ i = omega arith in
    let lt : i - s < length (drop s l) = omega (arith, length-drop s l) in
    ap (λ n. take n (drop s l)) one ∙ take_more (drop s l) (i - s) 0 lt
    ∙ ap (λ v. take (i - s) (drop s l) ++ v ∷ []) (get_or-drop s l (i - s) 0 ∙ ap (λ k. get_or l k 0) at)

here : (text : List ℕ) (i c : ℕ) → i < length text → get_or text i 0 ≡ c → drop i text ≡ c ∷ drop (i + 1) text
here text i c l e = drop-cons text i 0 l ∙ ap (λ k. get_or text i 0 ∷ drop k text) (sym (add-one i)) ∙ ap (λ x. x ∷ drop (i + 1) text) e

-- a line end before a record does not matter
pub skipped : (text : List ℕ) (i : ℕ) → i < length text → is_line_end (get_or text i 0) ≡ true
    → records default_config (drop (i + 1) text) ≡ records default_config (drop i text)
skipped text i l e = sym (ap (records default_config) (here text i _ l refl) ∙ behind-end (get_or text i 0) (drop (i + 1) text) e)

empty_part : (text : List ℕ) (i : ℕ) → take (i + 1 - (i + 1)) (drop (i + 1) text) ≡ []
empty_part text i = let e : i + 1 - (i + 1) ≡ 0 = omega arith in rw e refl

pub cut-comma : (text : List ℕ) (fields : List (List ℕ)) (start i : ℕ) → i < length text → get_or text i 0 ≡ 44 → IsCutTo text fields start i
    → IsCutTo text (fields ++ take (i - start) (drop start text) ∷ []) (i + 1) (i + 1)
cut-comma text fields start i l e h =
    record {
      low = omega arith;
      read = rw (empty_part text i) (read-comma _ fields _ (drop (i + 1) text) (rw (here text i 44 l e) at h.read));
    }

pub cut-byte : (text : List ℕ) (fields : List (List ℕ)) (start i : ℕ) → i < length text → (get_or text i 0 == 44) ≡ false → (get_or text i 0 == 34) ≡ false
    → is_line_end (get_or text i 0) ≡ false → IsCutTo text fields start i → IsCutTo text fields start (i + 1)
cut-byte text fields start i l comma quote end h =
    record {
      low = omega (arith, h.low);
      read = rw (part-more text start i h.low l) (read-byte _ fields _ (get_or text i 0) (drop (i + 1) text) comma quote end (rw (here text i _ l refl) at h.read));
    }

above : (c k : ℕ) → k < c → (c == k) ≡ false
above c k h = grind (arith, nat_tests)

pub cut-high : (text : List ℕ) (fields : List (List ℕ)) (start i : ℕ) → i < length text → 44 < get_or text i 0 → IsCutTo text fields start i → IsCutTo text fields start (i + 1)
cut-high text fields start i l high h =
    let byte = get_or text i 0 in
    let return = above byte 13 (omega arith) in
    let feed = above byte 10 (omega arith) in
    cut-byte text fields start i l (above byte 44 high) (above byte 34 (omega arith)) (rw (return, feed) refl) h

pub cut-lf : (text : List ℕ) (fields : List (List ℕ)) (start i : ℕ) → i < length text → get_or text i 0 ≡ 10 → IsCutTo text fields start i
    → records default_config text ≡ (fields ++ take (i - start) (drop start text) ∷ []) ∷ csv_records (drop i text)
cut-lf text fields start i l e h =
    first_record text (drop (i + 1) text) _ st.StartRecord (read-lf _ fields _ _ (rw (here text i 10 l e) at h.read))
    ∙ ap (λ rs. (fields ++ take (i - start) (drop start text) ∷ []) ∷ rs) (lf-first (drop (i + 1) text) ∙ ap csv_records (sym (here text i 10 l e)))

pub cut-return : (text : List ℕ) (fields : List (List ℕ)) (start i : ℕ) → i < length text → get_or text i 0 ≡ 13 → IsCutTo text fields start i
    → records default_config text ≡ (fields ++ take (i - start) (drop start text) ∷ []) ∷ csv_records (drop i text)
cut-return text fields start i l e h =
    first_record text (drop (i + 1) text) _ st.AfterCr (read-return _ fields _ _ (rw (here text i 13 l e) at h.read))
    ∙ ap (λ rs. (fields ++ take (i - start) (drop start text) ∷ []) ∷ rs) (return-first (drop (i + 1) text) ∙ ap csv_records (sym (here text i 13 l e)))

pub cut-all : (text : List ℕ) (fields : List (List ℕ)) (start : ℕ) → IsCutTo text fields start (length text)
    → records default_config text ≡ (fields ++ take (length text - start) (drop start text) ∷ []) ∷ csv_records (drop (length text) text)
cut-all text fields start h =
    let none = drop_all (length text) text (omega arith) in
    first_record text [] _ st.StartRecord (read-all _ fields _ (rw none at h.read))
    ∙ ap (λ rs. (fields ++ take (length text - start) (drop start text) ∷ []) ∷ rs) (sym (unmarked_records [] refl) ∙ ap csv_records (sym none))

-- bytes above the comma are passed over
pub cut-over : (text : List ℕ) (fields : List (List ℕ)) (start i n : ℕ) → i + n ≤ length text → ((k : ℕ) → k < n → 44 < get_or text (i + k) 0) → IsCutTo text fields start i
    → IsCutTo text fields start (i + n)
cut-over text fields start i zero inside high h = subst (IsCutTo text fields start) (let e : i ≡ i + 0 = omega arith in e) h
cut-over text fields start i (suc n) inside high h =
    let before = cut-over text fields start i n (omega arith) (λ k l. high k (omega arith)) h in
    subst (IsCutTo text fields start) (let e : i + n + 1 ≡ i + suc n = omega arith in e) (cut-high text fields start (i + n) (omega arith) (high n (omega arith)) before)
