-- The fields of a record of a label.
use Rattle.std.proofs.Common.{◌≡◌, ◌↔◌, ℕ, zero, suc, ◌≤◌, ◌==◌, ◌&&◌, nat_le, true, List, [], ◌∷◌, length, All, Some, refl, arith, eq-eqb, eqb-true}
use Rattle.std.proofs.lemmas.Bool.{and_parts}
use Rattle.std.proofs.lemmas.Bool.Decides.{nat_tests}
use Rattle.pl_records.specs.Reading.{Record, field}
use Rattle.pl_records.proofs.RuleTables.{when_some, and_then_some, map_some}
use Rattle.pl_spec.specs.Dates.{date_in}
use Rattle.pl_spec.specs.Decimals.{sid_in}
use Rattle.pl_spec.specs.Names.{is_name}
use Rattle.pl_spec.specs.World.{LabelRow}
use Rattle.pl_spec.proofs.DatesRead.{date_in-IsDate, IsDate-date_in}
use Rattle.pl_spec.proofs.SidsRead.{sid_in-decimal, decimal-sid_in}
use Rattle.pl_assets.specs.Labels.{is_printable, label_in}
use Rattle.pl_assets.specs.LabelRules.{IsLabelRecord}

-- ---- printable bytes

printed_byte : (b : ℕ) → (nat_le 32 b && nat_le b 126) ≡ true → (32 ≤ b) × (b ≤ 126)
printed_byte b t = let p = and_parts (nat_le 32 b) (nat_le b 126) t in (low b p.0, high b p.1)
  where
    low : (b : ℕ) → nat_le 32 b ≡ true → 32 ≤ b
    low b t = grind (arith, nat_tests)

    high : (b : ℕ) → nat_le b 126 ≡ true → b ≤ 126
    high b t = grind (arith, nat_tests)

byte_printed : (b : ℕ) → 32 ≤ b → b ≤ 126 → (nat_le 32 b && nat_le b 126) ≡ true
byte_printed b h l = let t : nat_le 32 b ≡ true = grind (arith, nat_tests) in let u : nat_le b 126 ≡ true = grind (arith, nat_tests) in rw (t, u) refl

bytes-printable : (text : List ℕ) → is_printable text ≡ true → All (λ b. (32 ≤ b) × (b ≤ 126)) text
bytes-printable [] t k d h = absurd (omega arith)
bytes-printable (b ∷ bs) t zero d h = printed_byte b (and_parts (nat_le 32 b && nat_le b 126) (is_printable bs) t).0
bytes-printable (b ∷ bs) t (suc k) d h = bytes-printable bs (and_parts (nat_le 32 b && nat_le b 126) (is_printable bs) t).1 k d (omega arith)

pub printable-bytes : (text : List ℕ) → All (λ b. (32 ≤ b) × (b ≤ 126)) text → is_printable text ≡ true
printable-bytes [] all = refl
printable-bytes (b ∷ bs) all =
    let first : (32 ≤ b) × (b ≤ 126) = all 0 b (omega arith) in
    rw (byte_printed b first.0 first.1, printable-bytes bs (λ k d h. all (suc k) d (omega arith))) refl

-- ---- the record

pub label_form : (r : Record) (l : LabelRow) → (label_in r ≡ Some l) ↔ IsLabelRecord r l
unfolding label_in
label_form r l = (there, back)
  where
    there : label_in r ≡ Some l → IsLabelRecord r l
    there e =
        let it = when_some (length r == 4 && (is_name (field r 0) && is_printable (field r 3))) _ l e in
        let p = and_parts (length r == 4) (is_name (field r 0) && is_printable (field r 3)) it.0 in
        let q = and_parts (is_name (field r 0)) (is_printable (field r 3)) p.1 in
        let s = and_then_some (sid_in (field r 1)) _ l it.1 in
        let d = map_some (date_in (field r 2)) (λ start. record { name = field r 0; sid = s.0; start = start; text = field r 3 }) l s.2 in
        let n = decimal-sid_in (field r 1) s.0 s.1 in
        rw (← d.2) record {
          four = eqb-true (length r) 4 p.0;
          name = refl;
          right_name = q.0;
          small = n.0;
          sid = n.1;
          start = IsDate-date_in (field r 2) d.0 d.1;
          text = refl;
          printable = bytes-printable (field r 3) q.1;
        }

    back : IsLabelRecord r l → label_in r ≡ Some l
    back h =
        let n : is_name l.name ≡ true = h.right_name in
        rw (
          eq-eqb (length r) 4 h.four,
          h.name,
          h.text,
          n,
          printable-bytes l.text h.printable,
          sid_in-decimal (field r 1) l.sid h.small h.sid,
          date_in-IsDate (field r 2) l.start h.start,
        ) refl
