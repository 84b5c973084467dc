use Rattle.std.proofs.Common.{◌-◌, ◌∙◌, length, take, drop, ap, sym, refl}
use Rattle.pl_syntax.proofs.Fronts.{front_word, front_number, front_text, front_sign}
use Rattle.pl_syntax.specs.Front.{word_front}
use Rattle.pl_syntax.proofs.front.front_of.Goals as goal

pub returns-then-starts_a_word : goal.returns-then-starts_a_word
returns-then-starts_a_word c =
    c.word_of.ensures ∙ (ap word_front c.word_length.ensures ∙ sym (front_word c.args.bytes.now c.in-len1-up.len_at_least (sym c.starts_a_word.ensures ∙ c.if-starts_a_word.true)))

pub returns-then-is_digit_byte : goal.returns-then-is_digit_byte
returns-then-is_digit_byte c =
    c.number_of.ensures
    ∙ sym (front_number c.args.bytes.now c.digits_length-digits.result c.in-len1-up.len_at_least (sym c.starts_a_word.ensures ∙ c.if-starts_a_word.false) (sym c.is_digit_byte.ensures ∙ c.if-is_digit_byte.true) c.digits_length-digits.ensures)

pub returns-then-b-eq34 : goal.returns-then-b-eq34
returns-then-b-eq34 c =
    let bs = c.args.bytes.now in
    c.text_of.ensures
    ∙ sym (front_text bs (take (length bs - 1) (drop 1 bs)) c.text_length-inside.result c.in-len1-up.len_at_least refl (sym c.starts_a_word.ensures ∙ c.if-starts_a_word.false) (sym c.is_digit_byte.ensures ∙ c.if-is_digit_byte.false) c.if-b-eq34.true c.text_length-inside.ensures)

pub returns-else-b-eq34 : goal.returns-else-b-eq34
returns-else-b-eq34 c =
    c.sign_of.ensures
    ∙ sym (front_sign c.args.bytes.now c.in-len1-up.len_at_least (sym c.starts_a_word.ensures ∙ c.if-starts_a_word.false) (sym c.is_digit_byte.ensures ∙ c.if-is_digit_byte.false) c.if-b-eq34.false)
