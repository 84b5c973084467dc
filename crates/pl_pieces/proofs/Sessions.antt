-- The sessions of a world read back.
use Rattle.std.proofs.Common.{◌≡◌, ℕ, ◌-◌, ◌<◌, ◌==◌, true, false, ℤ, ◌<ℤ◌, List, [], ◌∷◌, ◌++◌, map, length, get_or, All, Ok, refl, sym, ◌∙◌, ap, append_assoc, append-nil, arith}
use Rattle.std.specs.List.{flat_map}
use Rattle.std.proofs.lemmas.Option.{slice_get-get_or}
use Rattle.csv.specs.Machine.{next_record}
use Rattle.csv.specs.Reading.{default_config}
use Rattle.csv.specs.Writing.{default_writer, fields_text, is_blank, row_text}
use Rattle.csv.specs.declared.parser.State.TheVariants as st
use Rattle.csv.proofs.RoundTrip.{read-write-one}
use Rattle.pl_records.specs.Reading.{Record}
use Rattle.pl_records.specs.Records.{csv_records}
use Rattle.pl_spec.specs.Dates.{IsDay, date_text}
use Rattle.pl_spec.specs.Limits.{most_sessions}
use Rattle.pl_spec.specs.World.{World}
use Rattle.pl_spec.proofs.Signed.{lt-int_lt}
use Rattle.pl_calendar.specs.Days.{AreDays, day_or_rule, is_later, sessions_of}
use Rattle.pl_calendar.proofs.DaysRead.{sessions_of-ok}
use Rattle.pl_parts.specs.Texts.{session_line, sessions_text}
use Rattle.pl_pieces.proofs.Csv.{IsLine, Plain, lines-are}
use Rattle.pl_pieces.proofs.Days.{text-of-day}
use Rattle.pl_pieces.proofs.Fields.{date-plain, date-read, date-some, date-starts}
use Rattle.pl_pieces.proofs.Rows.{before-one, few-before, of-one, rows-read}

abbrev fields : ℤ → Record
fields day = date_text day ∷ []

one-row : (x : List ℕ) → Plain x → (length x == 0) ≡ false → row_text default_writer (x ∷ []) ≡ x ++ 10 ∷ []
unfolding is_blank fields_text
one-row x plain some = rw (plain, some) (ap (λ l. l ++ 10 ∷ []) (append-nil x))

one-line : (x line : List ℕ) → Plain x → (length x == 0) ≡ false → line ≡ x ++ 10 ∷ [] → IsLine line (x ∷ [])
one-line x line plain some e tail =
    ap (λ l. next_record default_config st.StartRecord [] [] (l ++ tail)) (e ∙ sym (one-row x plain some)) ∙ read-write-one x tail

lines : (days : List ℤ) → All IsDay days → All (λ d. IsLine (session_line d) (fields d)) days
lines days h k d l =
    let is = h k d l in
    one-line (date_text (get_or days k d)) (session_line (get_or days k d)) (date-plain _ is) (date-some _ is) (ap (λ t. t ++ 10 ∷ []) (text-of-day (get_or days k d) is))

starts : (days : List ℤ) → 0 < length days → All IsDay days → (get_or (flat_map session_line days) 0 0 == 0xEF) ≡ false
starts [] some h = absurd (omega arith)
starts (d ∷ ds) some h =
    let is = h 0 d (omega arith) in
    rw (text-of-day d is) (ap (λ l. get_or l 0 0 == 0xEF) (append_assoc (date_text d) (10 ∷ []) (flat_map session_line ds)) ∙ date-starts d is (10 ∷ flat_map session_line ds))

later : (before : List ℤ) (day : ℤ) → All (λ x. x <ℤ day) before → is_later before day ≡ true
later [] day h = refl
later (b ∷ bs) day h =
    let at : get_or (b ∷ bs) (length (b ∷ bs) - 1) day <ℤ day = h (length (b ∷ bs) - 1) day (omega arith) in
    rw (slice_get-get_or (b ∷ bs) (length (b ∷ bs) - 1) day (omega arith)) (lt-int_lt _ _ at)

says : (days : List ℤ) → AreDays days → (before : List ℤ) (x : ℤ) (after : List ℤ) → before ++ x ∷ after ≡ days → day_or_rule before (fields x) ≡ Ok x
unfolding day_or_rule
says days are before x after e =
    rw (
      few-before most_sessions before x after days e are.few,
      date-read x (of-one IsDay before x after days e are.dates),
      later before x (before-one (λ a b. a <ℤ b) before x after days e are.ascend),
    ) refl

pub sessions-back : (w : World) → AreDays w.days → sessions_of (csv_records (sessions_text w)) ≡ Ok w.days
unfolding sessions_text
sessions-back w are =
    ap sessions_of (lines-are session_line fields w.days (lines w.days are.dates) (starts w.days are.some are.dates))
    ∙ sessions_of-ok (map fields w.days) w.days (rows-read day_or_rule fields 1 w.days (says w.days are)) are.some
