-- Without a quote the records of a text up to a line end are whole.
use Rattle.std.proofs.Common.{◌≡◌, ◌⊎◌, inl, inr, ℕ, ◌+◌, ◌==◌, ◌&&◌, List, [], ◌∷◌, ◌++◌, length, Bool, true, false, if◌then◌else◌, refl, sym, ap, ◌∙◌, arith, add-one, Option, Some, None}
use Rattle.std.specs.Prelude.{⊤}
use Rattle.std.proofs.lemmas.Grind.{common_steps}
use Rattle.std.proofs.lemmas.Bool.Decides.{nat_tests}
use Rattle.csv.specs.Machine.{step, next_record, Read, is_end, ends_at_end, fields_after, field_after}
use Rattle.csv.specs.Reading.{default_config, records, records_from, records_next, strip_bom, is_bom}
use Rattle.csv.specs.declared.parser.State.{State}
use Rattle.csv.specs.declared.parser.State.TheVariants as st
use Rattle.pl_records.specs.Records.{csv_records}
use Rattle.pl_records.specs.Plain.{is_line_end}
use Rattle.pl_records.specs.PlainCuts.{IsInside}
use Rattle.pl_records.specs.QuotedInside.{records_left}
use Rattle.std.specs.List.{list_all}
use Rattle.pl_records.specs.WholeRecords.{EndsRecord, is_unquoted}
use Rattle.pl_records.proofs.Facts.{fuel-same, next-leaves, Leaves}
use Rattle.pl_records.proofs.PlainLines.{after-cr, step-cr, step-comma, step-byte, step-lf, step-return, lf-first, return-first, unmarked_records, unmarked}

-- the record at hand, and those behind it
abbrev records_on : Option Read → List (List (List ℕ))
records_on o = records_next (λ s text. records_left s (Some text)) o

-- no byte was taken of a record, or some were
abbrev IsOn : State → List (List ℕ) → List ℕ → Type 0
IsOn s f p = ((s ≡ st.StartRecord) × (f ≡ []) × (p ≡ [])) ⊎ ((s ≡ st.AfterCr) × (f ≡ []) × (p ≡ [])) ⊎ IsInside s

-- no byte is a quote
unfoldable Unquoted : List ℕ → Type 0
Unquoted [] = ⊤
Unquoted (c ∷ cs) = ((c == 34) ≡ false) × Unquoted cs

unquoted-of : (text : List ℕ) → list_all is_unquoted text ≡ true → Unquoted text
unfolding Unquoted
unquoted-of [] e = tt
unquoted-of (c ∷ cs) e = here (c == 34) refl (λ f. unquoted-of cs f)
  where
    here : (b : Bool) → (c == 34) ≡ b → (list_all is_unquoted cs ≡ true → Unquoted cs) → ((c == 34) ≡ false) × Unquoted cs
    here true q more = absurd (let no : list_all is_unquoted (c ∷ cs) ≡ false = rw q refl in cc)
    here false q more = (q, more (rw q at e))

abbrev IsStart : State → Type 0
IsStart s = (s ≡ st.StartRecord) ⊎ (s ≡ st.AfterCr)

-- what a byte that is no quote does: it ends a record, or goes on in one
abbrev Steps : State → List (List ℕ) → List ℕ → ℕ → Type 0
Steps s f p c =
    ((is_end (step default_config s c).1 ≡ true) × IsStart (step default_config s c).0)
    ⊎ ((is_end (step default_config s c).1 ≡ false) × IsOn (step default_config s c).0 (fields_after (step default_config s c).1 f p) (field_after (step default_config s c).1 c p))

-- ---- one byte

inside-steps : (s : State) (f : List (List ℕ)) (p : List ℕ) (c : ℕ) → IsInside s → (c == 34) ≡ false → Steps s f p c
inside-steps s f p c on quote = here (c == 44) (c == 10) (c == 13) refl refl refl
  where
    here : (comma lf cr : Bool) → (c == 44) ≡ comma → (c == 10) ≡ lf → (c == 13) ≡ cr → Steps s f p c
    here true lf cr e l r =
        let is : c ≡ 44 = grind (arith, nat_tests) in
        rw (is, step-comma s on) (inr (refl, inr (inr (inl refl))))
    here false true cr e l r =
        let is : c ≡ 10 = grind (arith, nat_tests) in
        rw (is, step-lf s on) (inl (refl, inl refl))
    here false false true e l r =
        let is : c ≡ 13 = grind (arith, nat_tests) in
        rw (is, step-return s on) (inl (refl, inr refl))
    here false false false e l r =
        let end : is_line_end c ≡ false = rw (l, r) refl in
        rw (step-byte s c on e quote end) (inr (refl, inr (inr (inr refl))))

start-steps : (c : ℕ) → (c == 34) ≡ false → Steps st.StartRecord [] [] c
start-steps c quote = here (c == 44) (c == 10) (c == 13) refl refl refl
  where
    here : (comma lf cr : Bool) → (c == 44) ≡ comma → (c == 10) ≡ lf → (c == 13) ≡ cr → Steps st.StartRecord [] [] c
    here comma lf true e l r = rw (l, r) (inr (refl, inl (refl, refl, refl)))
    here comma true false e l r = rw (l, r) (inr (refl, inl (refl, refl, refl)))
    here true false false e l r = rw (l, r, quote, e) (inr (refl, inr (inr (inl refl))))
    here false false false e l r = rw (l, r, quote, e) (inr (refl, inr (inr (inr refl))))

steps : (s : State) (f : List (List ℕ)) (p : List ℕ) (c : ℕ) → IsOn s f p → (c == 34) ≡ false → Steps s f p c
steps s f p c (inl (e, n, m)) quote = rw (e, n, m) (start-steps c quote)
steps s f p c (inr (inl (e, n, m))) quote = rw (e, n, m, step-cr c) (start-steps c quote)
steps s f p c (inr (inr on)) quote = inside-steps s f p c on quote

-- ---- the records from a state on

start-on : (s : State) → IsStart s → IsOn s [] []
start-on s (inl e) = inl (e, refl, refl)
start-on s (inr e) = inr (inl (e, refl, refl))

start-open : (s : State) → IsStart s → ends_at_end s ≡ false
start-open s (inl e) = rw e refl
start-open s (inr e) = rw e refl

left-on-of : (s : State) (xs : List ℕ) (o : Option Read) → next_record default_config s [] [] xs ≡ o → ends_at_end s ≡ false
    → records_next (records_from default_config (length xs)) o ≡ records_on o
left-on-of s xs None e k = refl
left-on-of s xs (Some p) e k =
    let it : Leaves s xs p = next-leaves s [] [] xs p e in
    ap (λ rest. p.0 ∷ rest) (fuel-same (length xs) (length p.2 + 1) p.1 p.2 it.between (it.shorter k) (omega arith))

left-on : (s : State) (xs : List ℕ) → IsStart s → records_left s (Some xs) ≡ records_on (next_record default_config s [] [] xs)
unfolding records_from
left-on s xs h = rw (add-one (length xs)) (left-on-of s xs (next_record default_config s [] [] xs) refl (start-open s h))

ending : (s : State) (c : ℕ) (f : List (List ℕ)) (p : List ℕ) (xs : List ℕ) → is_end (step default_config s c).1 ≡ true
    → records_on (next_record default_config s f p (c ∷ xs)) ≡ fields_after (step default_config s c).1 f p ∷ records_left (step default_config s c).0 (Some xs)
unfolding next_record
ending s c f p xs e = rw e refl

going : (s : State) (c : ℕ) (f : List (List ℕ)) (p : List ℕ) (xs : List ℕ) → is_end (step default_config s c).1 ≡ false
    → records_on (next_record default_config s f p (c ∷ xs))
    ≡ records_on (next_record default_config (step default_config s c).0 (fields_after (step default_config s c).1 f p) (field_after (step default_config s c).1 c p) xs)
unfolding next_record
going s c f p xs e = rw e refl

end-unmarked : (c : ℕ) → is_line_end c ≡ true → (c == 0xEF) ≡ false
end-unmarked c e = grind (arith, common_steps, nat_tests)

end-second : (c : ℕ) → is_line_end c ≡ true → (c == 0xBB) ≡ false
end-second c e = grind (arith, common_steps, nat_tests)

end-third : (c : ℕ) → is_line_end c ≡ true → (c == 0xBF) ≡ false
end-third c e = grind (arith, common_steps, nat_tests)

and-false : (x : Bool) → (x && false) ≡ false
and-false true = refl
and-false false = refl

strip-if : (x : Bool) (a b d : ℕ) (text more : List ℕ) → (if x then text ++ more else a ∷ b ∷ d ∷ text ++ more) ≡ (if x then text else a ∷ b ∷ d ∷ text) ++ more
strip-if true a b d text more = refl
strip-if false a b d text more = refl

-- behind no record, and in one
at-start : (s : State) (c : ℕ) (more : List ℕ) → IsStart s → is_line_end c ≡ true
    → records_on (next_record default_config s [] [] (c ∷ more)) ≡ records_on (next_record default_config s [] [] []) ++ csv_records (c ∷ more)
unfolding next_record
at-start s c more (inl e) end =
    rw e (sym (left-on st.StartRecord (c ∷ more) (inl refl)) ∙ sym (unmarked_records (c ∷ more) (end-unmarked c end)))
at-start s c more (inr e) end =
    rw e (ap records_on (after-cr (c ∷ more)) ∙ sym (left-on st.StartRecord (c ∷ more) (inl refl)) ∙ sym (unmarked_records (c ∷ more) (end-unmarked c end)))

end-is : (c : ℕ) → is_line_end c ≡ true → (c ≡ 10) ⊎ (c ≡ 13)
end-is c e = here (c == 10) (c == 13) refl refl
  where
    here : (lf cr : Bool) → (c == 10) ≡ lf → (c == 13) ≡ cr → (c ≡ 10) ⊎ (c ≡ 13)
    here true cr l r = inl (grind (arith, nat_tests))
    here false true l r = inr (grind (arith, nat_tests))
    here false false l r = absurd (let no : is_line_end c ≡ false = rw (l, r) refl in cc)

last-record : (s : State) (f : List (List ℕ)) (p : List ℕ) → IsInside s → records_on (next_record default_config s f p []) ≡ (f ++ p ∷ []) ∷ []
unfolding next_record records_from
last-record s f p (inl e) = rw e refl
last-record s f p (inr e) = rw e refl

in-record : (s : State) (f : List (List ℕ)) (p : List ℕ) (c : ℕ) (more : List ℕ) → IsInside s → is_line_end c ≡ true
    → records_on (next_record default_config s f p (c ∷ more)) ≡ records_on (next_record default_config s f p []) ++ csv_records (c ∷ more)
unfolding next_record
in-record s f p c more on end = elim (end-is c end) [
  | inl e ↦ rw (e, step-lf s on, last-record s f p on) (ap (λ rs. (f ++ p ∷ []) ∷ rs) (lf-first more))
  | inr e ↦ rw (e, step-return s on, last-record s f p on) (ap (λ rs. (f ++ p ∷ []) ∷ rs) (return-first more))
]

-- a line end on the way or behind it
at-end : (s : State) (f : List (List ℕ)) (p : List ℕ) (c : ℕ) (more : List ℕ) → IsOn s f p → is_line_end c ≡ true
    → records_on (next_record default_config s f p (c ∷ more)) ≡ records_on (next_record default_config s f p []) ++ csv_records (c ∷ more)
at-end s f p c more (inl (e, n, m)) end = rw (e, n, m) (at-start st.StartRecord c more (inl refl) end)
at-end s f p c more (inr (inl (e, n, m))) end = rw (e, n, m) (at-start st.AfterCr c more (inr refl) end)
at-end s f p c more (inr (inr on)) end = in-record s f p c more on end

-- ---- a text up to a line end

parted : (s : State) (f : List (List ℕ)) (p text : List ℕ) (c : ℕ) (more : List ℕ) → IsOn s f p → Unquoted text → is_line_end c ≡ true
    → records_on (next_record default_config s f p (text ++ c ∷ more)) ≡ records_on (next_record default_config s f p text) ++ csv_records (c ∷ more)
unfolding Unquoted
parted s f p [] c more on plain end = at-end s f p c more on end
parted s f p (b ∷ text) c more on plain end =
    here (steps s f p b on plain.0)
    (λ t g q h. parted t g q text c more h plain.1 end)
  where
    here : Steps s f p b
        → ((t : State) (g : List (List ℕ)) (q : List ℕ) → IsOn t g q
        → records_on (next_record default_config t g q (text ++ c ∷ more)) ≡ records_on (next_record default_config t g q text) ++ csv_records (c ∷ more))
        → records_on (next_record default_config s f p (b ∷ text ++ c ∷ more)) ≡ records_on (next_record default_config s f p (b ∷ text)) ++ csv_records (c ∷ more)
    here (inl (e, start)) behind =
        ending s b f p (text ++ c ∷ more) e
        ∙ ap (λ rs. fields_after (step default_config s b).1 f p ∷ rs)
        (left-on (step default_config s b).0 (text ++ c ∷ more) start
        ∙ behind (step default_config s b).0 [] [] (start-on (step default_config s b).0 start)
        ∙ ap (λ rs. rs ++ csv_records (c ∷ more)) (sym (left-on (step default_config s b).0 text start)))
        ∙ ap (λ rs. rs ++ csv_records (c ∷ more)) (sym (ending s b f p text e))
    here (inr (e, more_on)) behind =
        going s b f p (text ++ c ∷ more) e
        ∙ behind (step default_config s b).0 (fields_after (step default_config s b).1 f p) (field_after (step default_config s b).1 b p) more_on
        ∙ ap (λ rs. rs ++ csv_records (c ∷ more)) (sym (going s b f p text e))

parted-records : (text : List ℕ) (c : ℕ) (more : List ℕ) → Unquoted text → is_line_end c ≡ true
    → records default_config (text ++ c ∷ more) ≡ records default_config text ++ csv_records (c ∷ more)
parted-records text c more plain end =
    left-on st.StartRecord (text ++ c ∷ more) (inl refl)
    ∙ parted st.StartRecord [] [] text c more (inl (refl, refl, refl)) plain end
    ∙ ap (λ rs. rs ++ csv_records (c ∷ more)) (sym (left-on st.StartRecord text (inl refl)))

-- ---- no byte order mark is made by a line end

strip-parted : (text : List ℕ) (c : ℕ) (more : List ℕ) → is_line_end c ≡ true → strip_bom (text ++ c ∷ more) ≡ strip_bom text ++ c ∷ more
unfolding strip_bom
strip-parted [] c more end = unmarked c more (end-unmarked c end)
strip-parted (a ∷ []) c [] end = refl
strip-parted (a ∷ []) c (d ∷ more) end = rw (end-second c end, and-false (a == 0xEF)) refl
strip-parted (a ∷ b ∷ []) c more end = rw (end-third c end, and-false (a == 0xEF && b == 0xBB)) refl
strip-parted (a ∷ b ∷ d ∷ text) c more end = strip-if (is_bom a b d) a b d text (c ∷ more)

strip-unquoted : (text : List ℕ) → Unquoted text → Unquoted (strip_bom text)
unfolding strip_bom Unquoted
strip-unquoted [] h = h
strip-unquoted (a ∷ []) h = h
strip-unquoted (a ∷ b ∷ []) h = h
strip-unquoted (a ∷ b ∷ d ∷ text) h = here (is_bom a b d)
  where
    here : (x : Bool) → Unquoted (if x then text else a ∷ b ∷ d ∷ text)
    here true = h.1.1.1
    here false = h

pub unquoted-ends : (text : List ℕ) → list_all is_unquoted text ≡ true → EndsRecord text
unquoted-ends text plain end more e =
    ap (records default_config) (strip-parted text end more e) ∙ parted-records (strip_bom text) end more (strip-unquoted text (unquoted-of text plain)) e
