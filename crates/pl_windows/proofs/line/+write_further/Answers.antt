use Rattle.std.proofs.Common.{rules, ◌++◌, ◌∷◌, ◌∙◌, [], ℕ, List, ap, sym, drop, get_or, pos, append_assoc, FitsSigned, w64, ℤ, ◌-◌, length, length-drop, arith}
use Rattle.std.proofs.lemmas.Int.{to_z-of_z}
use Rattle.std.proofs.lemmas.List.{take_all}
use Rattle.pl_outside.proofs.Pieces.{writes-over}
use Rattle.pl_windows.specs.Windows.{further_text}
use Rattle.pl_windows.proofs.LineTexts.{further-first}
use Rattle.pl_windows.proofs.Pieces.{writes-two}
use Rattle.pl_windows.proofs.line.+write_further.Goals as goal

pub returns-in_ok-write_bytes-in-len1-up : goal.returns-in_ok-write_bytes-in-len1-up
returns-in_ok-write_bytes-in-len1-up g t c =
    let cells = c.args.cells.now in
    let fits : FitsSigned w64 (get_or cells 0 (pos 0)) = search rules in
    let text = simp to_z-of_z at c.put_further.ensures.text in
    writes-over (ap (λ (l : List ℕ). c.args.line.now ++ l) (further-first cells c.in-len1-up.len_at_least c.put_further.new.line text)
    ∙ sym (append_assoc c.args.line.now (further_text cells) (10 ∷ [])))
    (writes-two c.args.line.now (c.put_further.new.line ++ further_text (drop 1 cells) ++ 10 ∷ []) c.write_further.result
    (writes-over c.as_slice-in-len1-up.ensures c.in_ok-write_bytes-in-len1-up.ensures.writes)
    (writes-over (ap (λ (xs : List ℤ). c.put_further.new.line ++ further_text xs ++ 10 ∷ []) (take_all (length cells - 1) (drop 1 cells) (omega (arith, length-drop 1 cells)))) c.write_further.ensures))
