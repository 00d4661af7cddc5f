use Rattle.image_ref.proofs.DigestTexts.{not-lower, digits-dropped}
use Rattle.image_ref.proofs.digest.digits_of.Goals as goal

pub returns-then-not-are_lower_digits : goal.returns-then-not-are_lower_digits
returns-then-not-are_lower_digits c = λ h.
    let rest = c.in_ok-digits.ensures.cases.1 in
    not-lower _ _ c.are_lower_digits.result (digits-dropped _ _ _ _ rest c.as_bytes-2.ensures.value c.as_bytes.ensures.value) c.are_lower_digits.ensures.each.1 c.if-not-are_lower_digits.true h
