-- The lines of sources that were asked in vain, one after the other.
use Rattle.std.proofs.Common.{◌≡◌, ◌∙◌, ◌+◌, ◌<◌, ◌≤◌, ◌++◌, [], List, ℕ, length, drop, get_or, sym, ap, refl, add-one, append_assoc, append-nil}
use Rattle.std.proofs.lemmas.List.{at_drop_more, at_drop_all}
use Rattle.transports.specs.declared.attempt.Attempt.{Attempt}
use Rattle.skopeo_app.specs.Lines.{attempt_line, attempt_lines}

-- the lines of the attempts before a place
pub record AreTold (text : List ℕ) (place : ℕ) (attempts : List Attempt) : Type 0 where
  pub is : text ++ attempt_lines (place + 1) (drop place attempts) ≡ attempt_lines 1 attempts

pub none_told : (attempts : List Attempt) (text : List ℕ) → text ≡ [] → AreTold text 0 attempts
none_told attempts text empty = record { is = ap (λ t. t ++ attempt_lines 1 attempts) empty }

rest_is : (attempts : List Attempt) (place : ℕ) (a : Attempt) → place < length attempts → a ≡ get_or attempts place a
    → attempt_lines (place + 1) (drop place attempts) ≡ attempt_line (place + 1) a ++ attempt_lines (place + 1 + 1) (drop (place + 1) attempts)
rest_is attempts place a lt is = at_drop_more (λ rest. attempt_lines (place + 1) rest) attempts place a lt ∙ rw (← is, add-one) refl

pub one_told : (attempts : List Attempt) (place : ℕ) (a : Attempt) (text line more : List ℕ) → AreTold text place attempts → place < length attempts → a ≡ get_or attempts place a → line ≡ attempt_line (place + 1) a
    → more ≡ text ++ line → AreTold more (place + 1) attempts
one_told attempts place a text line more told lt is one pushed = record {
  is = ap (λ t. t ++ attempt_lines (place + 1 + 1) (drop (place + 1) attempts)) (pushed ∙ ap (λ l. text ++ l) one)
      ∙ append_assoc text (attempt_line (place + 1) a) (attempt_lines (place + 1 + 1) (drop (place + 1) attempts))
      ∙ ap (λ t. text ++ t) (sym (rest_is attempts place a lt is)) ∙ told.is;
}

pub all_told : (attempts : List Attempt) (place : ℕ) (text : List ℕ) → AreTold text place attempts → length attempts ≤ place → text ≡ attempt_lines 1 attempts
all_told attempts place text told le = sym (append-nil text) ∙ ap (λ t. text ++ t) (sym (at_drop_all (λ rest. attempt_lines (place + 1) rest) attempts place le)) ∙ told.is
